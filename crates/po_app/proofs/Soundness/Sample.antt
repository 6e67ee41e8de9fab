-- That the premises can be met: the project of `int d(int a,int b){return a/b;}` and `int f(int x){return d(7,x-1);}` and its
-- report. The division is delegated to the call, where the divisor is open.
use Rattle.std.proofs.Common.{◌≡◌, ℕ, zero, suc, ◌<◌, List, [], ◌∷◌, length, get_or, Bool, true, false, refl, sym, ap, subst, ◌∙◌, inl, inr, arith}
use Rattle.std.specs.Prelude.{pos, Some, None, codes, AllPairs}
use Rattle.std.specs.declared.cmp.Ordering.TheVariants.{Less}
use Rattle.po_base.specs.declared.numbers.FunNo.{FunNo}
use Rattle.po_base.specs.declared.numbers.NodeNo.{NodeNo}
use Rattle.po_base.specs.declared.operand.Opnd.TheVariants.{Num}
use Rattle.po_base.specs.declared.operators.Op.TheVariants as op
use Rattle.po_ir.specs.declared.instr.Callee.TheVariants.{Fun}
use Rattle.po_ir.specs.declared.instr.Instr.TheVariants.{Bin, Call, Return}
use Rattle.po_ir.specs.declared.graph.Node.{Node}
use Rattle.po_ir.specs.declared.project.Function.{Function}
use Rattle.po_ir.specs.declared.project.Project.{Project}
use Rattle.po_straight.specs.declared.expression.Expression.TheVariants as e
use Rattle.po_straight.specs.declared.definition.Definition.{Definition}
use Rattle.po_core.specs.Book.{IsPrimary, IsSupport}
use Rattle.po_core.specs.Decided.{IsDecided, both_decided, functions_decided, obligations_decided}
use Rattle.po_core.specs.Least.{AreClosed, IsReported, IsNeeded}
use Rattle.po_lists.proofs.Members.{Has, has, contains}
use Rattle.po_core.specs.Order.{obl_cmp, assumption_cmp}
use Rattle.po_core.specs.declared.obl.Cause.TheVariants.{Primary, Support}
use Rattle.po_core.specs.declared.obl.Obl.{Obl}
use Rattle.po_core.specs.declared.obl.Verdict.{Verdict}
use Rattle.po_core.specs.declared.obl.Verdict.TheVariants.{Closed, Delegated, Open}
use Rattle.po_core.specs.declared.report.Report.{Report}
use Rattle.po_pred.specs.Order.{pred_cmp}
use Rattle.po_pred.specs.declared.pred.Atom.TheVariants.{Param}
use Rattle.po_pred.specs.declared.pred.Over.TheVariants.{Sub, Div}
use Rattle.po_pred.specs.declared.pred.Place.{Place}
use Rattle.po_pred.specs.declared.pred.Pred.{Pred}
use Rattle.po_pred.specs.declared.pred.Pred.TheVariants.{Nonzero, NoOver}
use Rattle.po_app.specs.declared.rule.Rule.{Rule}
use Rattle.po_app.specs.declared.rule.Rule.TheVariants.{Range}
use Rattle.po_arith.specs.declared.target.Target.TheVariants.{L64}
use Rattle.po_app.specs.Lowering.{int, register, node_at, parameter_register, temporary_register, parameter, constant, binary, call, none, more, IsProject}
use Rattle.po_app.specs.Obligations.{primary}
use Rattle.po_app.specs.Verdicts.{verdict_of}
use Rattle.po_app.specs.Book.{book, places, call_sites}
use Rattle.po_app.specs.Closed.{IsReport, IsClosedReport}
use Rattle.po_app.proofs.Soundness.Least.{least_closed}
use Rattle.po_app.proofs.Soundness.Same.{predicates_decided, has_decided}

-- a/b
abbrev pub quotient : Node
quotient = node_at (codes "a.c") 1 (Bin (record { 0 = 2 }) op.Div int (register 0) (register 1))

abbrev pub quotient_returned : Node
quotient_returned = node_at (codes "a.c") 1 (Return (Some (register 2)))

-- x-1
abbrev pub difference : Node
difference = node_at (codes "a.c") 2 (Bin (record { 0 = 1 }) op.Sub int (register 0) (Num (pos 1)))

-- d(7,x-1)
abbrev pub called : Node
called = node_at (codes "a.c") 2 (Call (Some (record { 0 = 2 })) (Fun (record { 0 = 0 })) (Num (pos 7) ∷ (register 1 ∷ [])) [])

abbrev pub called_returned : Node
called_returned = node_at (codes "a.c") 2 (Return (Some (register 2)))

abbrev pub d_definition : Definition
d_definition = record { name = codes "d"; parameters = codes "a" ∷ (codes "b" ∷ []); line = 1; value = e.Binary op.Div 1 (e.Parameter 0) (e.Parameter 1) }

abbrev pub f_definition : Definition
f_definition = record { name = codes "f"; parameters = codes "x" ∷ []; line = 2; value = e.Call 0 2 (e.Constant 7 ∷ (e.Binary op.Sub 2 (e.Parameter 0) (e.Constant 1) ∷ [])) }

abbrev pub definitions : List Definition
definitions = d_definition ∷ (f_definition ∷ [])

abbrev pub d_function : Function
d_function = record {
  file = record { 0 = 0 };
  name = codes "d";
  local = false;
  result = record { text = codes "i32" };
  graph = record { nodes = quotient ∷ (quotient_returned ∷ []); regs = parameter_register (codes "a") ∷ (parameter_register (codes "b") ∷ (temporary_register ∷ [])); slots = []; params = 2 };
}

abbrev pub f_function : Function
f_function = record {
  file = record { 0 = 0 };
  name = codes "f";
  local = false;
  result = record { text = codes "i32" };
  graph = record { nodes = difference ∷ (called ∷ (called_returned ∷ [])); regs = parameter_register (codes "x") ∷ (temporary_register ∷ (temporary_register ∷ [])); slots = []; params = 1 };
}

abbrev pub project : Project
project = record {
  files = codes "a.c" ∷ [];
  opaque = [];
  functions = d_function ∷ (f_function ∷ []);
  globals = [];
  texts = [];
  effects = [];
  target = L64;
}

pub sample_project : IsProject (codes "a.c") definitions project
sample_project = record {
  files = refl;
  opaque = refl;
  globals = refl;
  texts = refl;
  effects = refl;
  target = refl;
  functions = (
    record {
      first_file = refl;
      name = refl;
      external = refl;
      result = refl;
      graph = record {
        nodes = quotient ∷ [];
        value = register 2;
        lowered = binary op.Div 1 0 (e.Parameter 0) (e.Parameter 1) [] [] (register 0) (register 1) (parameter 0 0) (parameter 1 0);
        all_nodes = refl;
        all_regs = refl;
        no_slots = refl;
        params = refl;
      };
    },
    (
      record {
        first_file = refl;
        name = refl;
        external = refl;
        result = refl;
        graph = record {
          nodes = difference ∷ (called ∷ []);
          value = register 2;
          lowered = call 0 2 0 (e.Constant 7 ∷ (e.Binary op.Sub 2 (e.Parameter 0) (e.Constant 1) ∷ [])) (difference ∷ []) (Num (pos 7) ∷ (register 1 ∷ []))
              (more 0 (e.Constant 7) (e.Binary op.Sub 2 (e.Parameter 0) (e.Constant 1) ∷ []) [] (difference ∷ []) (Num (pos 7)) (register 1 ∷ []) (constant 7 0)
              (more 0 (e.Binary op.Sub 2 (e.Parameter 0) (e.Constant 1)) [] (difference ∷ []) [] (register 1) [] (binary op.Sub 2 0 (e.Parameter 0) (e.Constant 1) [] [] (register 0) (Num (pos 1)) (parameter 0 0) (constant 1 0)) (none 1)));
          all_nodes = refl;
          all_regs = refl;
          no_slots = refl;
          params = refl;
        };
      },
      tt,
    ),
  );
}

abbrev pub argument : ℕ → Place
argument i = record { atom = Some (Param i); lo = pos 0; hi = pos 0 }

-- the divisor of `d` isn't 0
abbrev pub divisor : Pred
divisor = Nonzero (argument 1)

-- the quotient of `d` is an int
abbrev pub fitting : Pred
fitting = NoOver Div 32 (argument 0) (Some (argument 1))

-- the difference of `f` is an int
abbrev pub lessened : Pred
lessened = NoOver Sub 32 (argument 0) (Some (record { atom = None; lo = pos 1; hi = pos 1 }))

-- what the call in `f` supports
abbrev pub support : Pred → Obl Pred
support q = record { fun = record { 0 = 1 }; node = record { 0 = 1 }; cause = Support q }

abbrev pub report : Report Pred Rule
report = record {
  lines =
      (primary 0 0 0, Delegated divisor) ∷ ((primary 0 0 1, Delegated fitting) ∷ ((primary 1 0 0, Delegated lessened) ∷ ((support divisor, Open) ∷ ((support fitting, Closed Range) ∷ []))));
  assumptions = (record { 0 = 0 }, divisor) ∷ ((record { 0 = 0 }, fitting) ∷ ((record { 0 = 1 }, lessened) ∷ []));
}

-- the obligations of the report
abbrev listed : List (Obl Pred)
listed = primary 0 0 0 ∷ (primary 0 0 1 ∷ (primary 1 0 0 ∷ (support divisor ∷ (support fitting ∷ []))))

-- the assumptions of the report
abbrev assumed : List (FunNo × Pred)
assumed = (record { 0 = 0 }, divisor) ∷ ((record { 0 = 0 }, fitting) ∷ ((record { 0 = 1 }, lessened) ∷ []))

-- what is listed is in every closed pair of tests
module _ (R : Obl Pred → Bool) (A : FunNo → Pred → Bool) (closed : AreClosed (book project) R A) where
  divisor_asked : R (primary 0 0 0) ≡ true
  divisor_asked = closed.asks (primary 0 0 0) (0, omega arith, refl, (0, omega arith, refl))

  fitting_asked : R (primary 0 0 1) ≡ true
  fitting_asked = closed.asks (primary 0 0 1) (1, omega arith, refl, (1, omega arith, refl))

  lessened_asked : R (primary 1 0 0) ≡ true
  lessened_asked = closed.asks (primary 1 0 0) (0, omega arith, refl, (0, omega arith, refl))

  divisor_assumed : A (record { 0 = 0 }) divisor ≡ true
  divisor_assumed = closed.assumes (primary 0 0 0) divisor divisor_asked refl

  fitting_assumed : A (record { 0 = 0 }) fitting ≡ true
  fitting_assumed = closed.assumes (primary 0 0 1) fitting fitting_asked refl

  lessened_assumed : A (record { 0 = 1 }) lessened ≡ true
  lessened_assumed = closed.assumes (primary 1 0 0) lessened lessened_asked refl

  divisor_supported : R (support divisor) ≡ true
  divisor_supported = closed.supports (record { 0 = 0 }) divisor (support divisor) divisor_assumed (refl, (0, omega arith, refl))

  fitting_supported : R (support fitting) ≡ true
  fitting_supported = closed.supports (record { 0 = 0 }) fitting (support fitting) fitting_assumed (refl, (0, omega arith, refl))

  listed_in : (o : Obl Pred) → Has listed o → R o ≡ true
  listed_in o (inl same) = subst (λ (x : Obl Pred). R x ≡ true) same divisor_asked
  listed_in o (inr (inl same)) = subst (λ (x : Obl Pred). R x ≡ true) same fitting_asked
  listed_in o (inr (inr (inl same))) = subst (λ (x : Obl Pred). R x ≡ true) same lessened_asked
  listed_in o (inr (inr (inr (inl same)))) = subst (λ (x : Obl Pred). R x ≡ true) same divisor_supported
  listed_in o (inr (inr (inr (inr (inl same))))) = subst (λ (x : Obl Pred). R x ≡ true) same fitting_supported
  listed_in o (inr (inr (inr (inr (inr h))))) = absurd h

  assumed_in : (f : FunNo) (q : Pred) → Has assumed (f, q) → A f q ≡ true
  assumed_in f q (inl same) = subst (λ (x : FunNo × Pred). A x.0 x.1 ≡ true) same divisor_assumed
  assumed_in f q (inr (inl same)) = subst (λ (x : FunNo × Pred). A x.0 x.1 ≡ true) same fitting_assumed
  assumed_in f q (inr (inr (inl same))) = subst (λ (x : FunNo × Pred). A x.0 x.1 ≡ true) same lessened_assumed
  assumed_in f q (inr (inr (inr h))) = absurd h

-- what is listed is a closed pair
primary_listed : (f : ℕ) (node : NodeNo) (i : ℕ) → f < 2 → Has (places project (record { 0 = f })) (node, i) → Has listed (record { fun = record { 0 = f }; node = node; cause = Primary i })
primary_listed zero node i below (inl same) = inl (ap (λ (x : NodeNo × ℕ). let o : Obl Pred = record { fun = record { 0 = 0 }; node = x.0; cause = Primary x.1 } in o) same)
primary_listed zero node i below (inr (inl same)) = inr (inl (ap (λ (x : NodeNo × ℕ). let o : Obl Pred = record { fun = record { 0 = 0 }; node = x.0; cause = Primary x.1 } in o) same))
primary_listed zero node i below (inr (inr h)) = absurd h
primary_listed (suc zero) node i below (inl same) = inr (inr (inl (ap (λ (x : NodeNo × ℕ). let o : Obl Pred = record { fun = record { 0 = 1 }; node = x.0; cause = Primary x.1 } in o) same)))
primary_listed (suc zero) node i below (inr h) = absurd h
primary_listed (suc (suc f)) node i below h = absurd (omega arith)

asked_listed : (o : Obl Pred) → IsPrimary (book project) o → Has listed o
asked_listed o h =
    subst (λ c. Has listed (record { fun = o.fun; node = o.node; cause = c })) (sym h.2) (primary_listed o.fun.0 o.node h.0 h.1 (has (places project o.fun) (o.node, h.0) h.3))

same_pred : (p q : Pred) → ◌≡◌ {A = Verdict Pred Rule} (Delegated p) (Delegated q) → p ≡ q
same_pred p q h = cc

-- an obligation of the list with the predicate to which it is delegated
delegation : (x o : Obl Pred) (p q : Pred) → x ≡ o → verdict_of project x ≡ Delegated p → verdict_of project o ≡ Delegated q → ◌≡◌ {A = FunNo × Pred} (x.fun, p) (o.fun, q)
delegation x o p q same before after =
    let one = same_pred p q (sym before ∙ (ap (verdict_of project) same ∙ after)) in
    ap (λ (y : Obl Pred). let a : FunNo × Pred = (y.fun, p) in a) same ∙ ap (λ (r : Pred). let a : FunNo × Pred = (o.fun, r) in a) one

delegated_assumed : (o : Obl Pred) (q : Pred) → Has listed o → verdict_of project o ≡ Delegated q → Has assumed (o.fun, q)
delegated_assumed o q (inl same) is = inl (delegation (primary 0 0 0) o divisor q same refl is)
delegated_assumed o q (inr (inl same)) is = inr (inl (delegation (primary 0 0 1) o fitting q same refl is))
delegated_assumed o q (inr (inr (inl same))) is = inr (inr (inl (delegation (primary 1 0 0) o lessened q same refl is)))
delegated_assumed o q (inr (inr (inr (inl same)))) is = absurd (let never : ◌≡◌ {A = Verdict Pred Rule} Open (Delegated q) = ap (verdict_of project) same ∙ is in cc)
delegated_assumed o q (inr (inr (inr (inr (inl same))))) is = absurd (let never : ◌≡◌ {A = Verdict Pred Rule} (Closed Range) (Delegated q) = ap (verdict_of project) same ∙ is in cc)
delegated_assumed o q (inr (inr (inr (inr (inr h))))) is = absurd h

-- the one call is in `f`
call_support : (f : FunNo) (q : Pred) (o : Obl Pred) → ◌≡◌ {A = FunNo} (record { 0 = 0 }) f → IsSupport (book project) f q o → support q ≡ o
call_support f q o same h =
    let site : Has (call_sites project (record { 0 = 0 })) (o.fun, o.node) = subst (λ (g : FunNo). Has (call_sites project g) (o.fun, o.node)) (sym same) (has (call_sites project f) (o.fun, o.node) h.1) in
    elim site [
      | inl here ↦
          let place : support q ≡ record { fun = o.fun; node = o.node; cause = Support q } = ap (λ (x : FunNo × NodeNo). let y : Obl Pred = record { fun = x.0; node = x.1; cause = Support q } in y) here in
          place ∙ ap (λ c. let y : Obl Pred = record { fun = o.fun; node = o.node; cause = c } in y) (sym h.0)
      | inr other ↦ absurd other
    ]

supported_listed : (f : FunNo) (q : Pred) (o : Obl Pred) → Has assumed (f, q) → IsSupport (book project) f q o → Has listed o
supported_listed f q o (inl same) h = inr (inr (inr (inl (ap support (ap (λ (x : FunNo × Pred). x.1) same) ∙ call_support f q o (ap (λ (x : FunNo × Pred). x.0) same) h))))
supported_listed f q o (inr (inl same)) h = inr (inr (inr (inr (inl (ap support (ap (λ (x : FunNo × Pred). x.1) same) ∙ call_support f q o (ap (λ (x : FunNo × Pred). x.0) same) h)))))
supported_listed f q o (inr (inr (inl same))) h =
    let never : Has (call_sites project (record { 0 = 1 })) (o.fun, o.node) = subst (λ (x : FunNo × Pred). Has (call_sites project x.0) (o.fun, o.node)) (sym same) (has (call_sites project f) (o.fun, o.node) h.1) in
    absurd never
supported_listed f q o (inr (inr (inr other))) h = absurd other

assumptions_decided : (x y : FunNo × Pred) → IsDecided (x ≡ y)
assumptions_decided x y =
    elim (both_decided (functions_decided x.0 y.0) (predicates_decided x.1 y.1)) [
      | inl h ↦ inl (ap (λ (f : FunNo). let a : FunNo × Pred = (f, x.1) in a) h.0 ∙ ap (λ (q : Pred). let a : FunNo × Pred = (y.0, q) in a) h.1)
      | inr other ↦ inr (λ h. other (ap (λ (a : FunNo × Pred). a.0) h, ap (λ (a : FunNo × Pred). a.1) h))
    ]

abbrev told : {P : Type 0} → IsDecided P → Bool
told (inl h) = true
told (inr h) = false

told_so : {P : Type 0} (d : IsDecided P) → told d ≡ true → P
told_so (inl h) is = h
told_so (inr h) is = absurd (cc)

so_told : {P : Type 0} (d : IsDecided P) → P → told d ≡ true
so_told (inl h) p = refl
so_told (inr h) p = absurd (h p)

listed_decided : (o : Obl Pred) → IsDecided (Has listed o)
listed_decided o = has_decided (obligations_decided predicates_decided) listed o

assumed_decided : (f : FunNo) (q : Pred) → IsDecided (Has assumed (f, q))
assumed_decided f q = has_decided assumptions_decided assumed (f, q)

lists_closed : AreClosed (book project) (λ o. told (listed_decided o)) (λ f q. told (assumed_decided f q))
lists_closed = record {
  asks = λ o primary. so_told (listed_decided o) (asked_listed o primary);
  assumes = λ o q there verdict. so_told (assumed_decided o.fun q) (delegated_assumed o q (told_so (listed_decided o) there) verdict);
  supports = λ f q o there support. so_told (listed_decided o) (supported_listed f q o (told_so (assumed_decided f q) there) support);
}

reported_listed : (o : Obl Pred) → IsReported (book project) o → Has listed o
reported_listed o h = told_so (listed_decided o) (h (λ o. told (listed_decided o)) (λ f q. told (assumed_decided f q)) lists_closed)

needed_assumed : (f : FunNo) (q : Pred) → IsNeeded (book project) f q → Has assumed (f, q)
needed_assumed f q h = told_so (assumed_decided f q) (h (λ o. told (listed_decided o)) (λ f q. told (assumed_decided f q)) lists_closed)

-- each line has its obligation's verdict
abbrev Line : Type 0
Line = Obl Pred × Verdict Pred Rule

line_out : (x o : Obl Pred) (w v : Verdict Pred Rule) → ◌≡◌ {A = Line} (x, w) (o, v) → verdict_of project x ≡ w → (x ≡ o) × (v ≡ verdict_of project o)
line_out x o w v same is =
    let one = ap (λ (l : Line). l.0) same in
    (one, sym (ap (λ (l : Line). l.1) same) ∙ (sym is ∙ ap (verdict_of project) one))

line_in : (x o : Obl Pred) (w v : Verdict Pred Rule) → x ≡ o → v ≡ verdict_of project o → verdict_of project x ≡ w → ◌≡◌ {A = Line} (x, w) (o, v)
line_in x o w v one is verdict =
    ap (λ (y : Obl Pred). let l : Line = (y, w) in l) one ∙ ap (λ (u : Verdict Pred Rule). let l : Line = (o, u) in l) (sym verdict ∙ (ap (verdict_of project) one ∙ sym is))

out_of_lines : (o : Obl Pred) (v : Verdict Pred Rule) → Has report.lines (o, v) → Has listed o × (v ≡ verdict_of project o)
out_of_lines o v (inl same) = let l = line_out (primary 0 0 0) o (Delegated divisor) v same refl in (inl l.0, l.1)
out_of_lines o v (inr (inl same)) = let l = line_out (primary 0 0 1) o (Delegated fitting) v same refl in (inr (inl l.0), l.1)
out_of_lines o v (inr (inr (inl same))) = let l = line_out (primary 1 0 0) o (Delegated lessened) v same refl in (inr (inr (inl l.0)), l.1)
out_of_lines o v (inr (inr (inr (inl same)))) = let l = line_out (support divisor) o Open v same refl in (inr (inr (inr (inl l.0))), l.1)
out_of_lines o v (inr (inr (inr (inr (inl same))))) = let l = line_out (support fitting) o (Closed Range) v same refl in (inr (inr (inr (inr (inl l.0)))), l.1)
out_of_lines o v (inr (inr (inr (inr (inr h))))) = absurd h

into_lines : (o : Obl Pred) (v : Verdict Pred Rule) → Has listed o → v ≡ verdict_of project o → Has report.lines (o, v)
into_lines o v (inl same) is = inl (line_in (primary 0 0 0) o (Delegated divisor) v same is refl)
into_lines o v (inr (inl same)) is = inr (inl (line_in (primary 0 0 1) o (Delegated fitting) v same is refl))
into_lines o v (inr (inr (inl same))) is = inr (inr (inl (line_in (primary 1 0 0) o (Delegated lessened) v same is refl)))
into_lines o v (inr (inr (inr (inl same)))) is = inr (inr (inr (inl (line_in (support divisor) o Open v same is refl))))
into_lines o v (inr (inr (inr (inr (inl same))))) is = inr (inr (inr (inr (inl (line_in (support fitting) o (Closed Range) v same is refl)))))
into_lines o v (inr (inr (inr (inr (inr h))))) is = absurd h

-- of each item and each later one, by recursion
abbrev Before : {X : Type 0} → (X → X → Type 0) → X → List X → Type 0
Before R x [] = Unit {0}
Before R x (y ∷ ys) = R x y × Before R x ys

abbrev Ascends : {X : Type 0} → (X → X → Type 0) → List X → Type 0
Ascends R [] = Unit {0}
Ascends R (x ∷ xs) = Before R x xs × Ascends R xs

before_at : {X : Type 0} (R : X → X → Type 0) (x : X) (ys : List X) (j : ℕ) (d : X) → Before R x ys → j < length ys → R x (get_or ys j d)
before_at R x [] j d h below = absurd (omega arith)
before_at R x (y ∷ ys) zero d h below = h.0
before_at R x (y ∷ ys) (suc j) d h below = before_at R x ys j d h.1 (omega arith)

ascend : {X : Type 0} (R : X → X → Type 0) (xs : List X) → Ascends R xs → AllPairs R xs
ascend R [] h i j d later below = absurd (omega arith)
ascend R (x ∷ xs) h zero zero d later below = absurd (omega arith)
ascend R (x ∷ xs) h zero (suc j) d later below = before_at R x xs j d h.0 (omega arith)
ascend R (x ∷ xs) h (suc i) zero d later below = absurd (omega arith)
ascend R (x ∷ xs) h (suc i) (suc j) d later below = ascend R xs h.1 i j d (omega arith) (omega arith)

pub sample_report : IsReport project report
sample_report = record {
  lines = λ o v. (
    λ there. let l = out_of_lines o v (has report.lines (o, v) there) in (λ R A closed. listed_in R A closed o l.0, l.1),
    λ h. contains report.lines (o, v) (into_lines o v (reported_listed o h.0) h.1),
  );
  assumptions = λ f q. (
    λ there. (λ R A closed. assumed_in R A closed f q (has assumed (f, q) there)),
    λ h. contains assumed (f, q) (needed_assumed f q h),
  );
  lines_ascend = ascend (λ (x y : Line). obl_cmp pred_cmp x.0 y.0 ≡ Less) report.lines ((refl, (refl, (refl, (refl, tt)))), ((refl, (refl, (refl, tt))), ((refl, (refl, tt)), ((refl, tt), (tt, tt)))));
  assumptions_ascend = ascend (λ (x y : FunNo × Pred). assumption_cmp pred_cmp x y ≡ Less) assumed ((refl, (refl, tt)), ((refl, tt), (tt, tt)));
}

pub sample_closed : IsClosedReport project report
sample_closed = least_closed project report sample_report
