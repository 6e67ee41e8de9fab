-- A typing of a call consists of typings of its arguments and of what their types make: rule by rule, in both directions.
use Rattle.std.proofs.Common.{◌≡◌, ℕ, List, [], ◌∷◌, ◌++◌, Some, refl, subst, inl, inr, codes}
use Rattle.po_tree.specs.declared.expression.Exp.{Exp, out-Exp}
use Rattle.po_tree.specs.declared.expression.Exp.TheOpen.{Exp-F}
use Rattle.po_types.specs.declared.ctype.CType.{CType}
use Rattle.po_types.specs.declared.ctype.CType.TheVariants as c
use Rattle.po_types.specs.declared.format.Spec.{Spec}
use Rattle.po_types.specs.declared.format.Spec.TheVariants as f
use Rattle.po_types.specs.Integers.{promoted}
use Rattle.po_typed.specs.Forms.{Layer}
use Rattle.po_typed.specs.Scopes.{Context, function, meaning}
use Rattle.po_typed.specs.Expressions.{Pair, pair, int, char, printf_type, Types, call, print, Operand, Passes, no_more_arguments, argument, Prints, no_more_printed, printed_int, printed_long, printed_size, printed_text}
use Rattle.po_type_parts.specs.Converting.{prints_int, prints_long, prints_size, prints_text}
use Rattle.po_type_parts.specs.Laws.{TypingsAreOfParts}
use Rattle.po_type_calls.specs.Calling.{PassesAs, passes_none, passes_one, PrintsAll, prints_none, prints_one, Formats, CallsFunction, CallsPrintf}
use Rattle.po_type_calls.specs.Laws.{Operands, no_more_operands, one_more_operand, OfPassed, OfPrints, OfCall, TypingsOfCalls}

one_name : {l : Layer} {m n : List ℕ} → l ≡ Exp-F.Var m → l ≡ Exp-F.Var n → m ≡ n
one_name q r = cc

module _ (parts : TypingsAreOfParts) (ctx : Context) where
  of_passed : {xs : List Exp} {ts : List CType} {ps : List Pair} → Passes ctx xs ts ps → OfPassed ctx xs ts ps
  of_passed no_more_arguments = record { values = []; operands = no_more_operands; passes = passes_none }
  of_passed (argument {x = x} {t = t} {ps = ps} A P) =
      let a = (parts.assigned ctx x t ps).0 A in
      let r = of_passed P in
      record { values = a.value ∷ r.values; operands = one_more_operand a.operand r.operands; passes = passes_one a.assigns r.passes }

  passed_by : {xs : List Exp} {vs ts : List CType} {ps : List Pair} → PassesAs ctx xs vs ts → Operands ctx xs vs ts ps → Passes ctx xs ts ps
  passed_by passes_none no_more_operands = no_more_arguments
  passed_by (passes_one {x = x} {v = v} {t = t} h r) (one_more_operand {ps = ps} A B) =
      argument ((parts.assigned ctx x t ps).1 (record { value = v; operand = A; assigns = h })) (passed_by r B)

  of_prints : {xs : List Exp} {fs : List Spec} {ps : List Pair} → Prints ctx xs fs ps → OfPrints ctx xs fs ps
  of_prints no_more_printed = record { values = []; conversions = []; operands = no_more_operands; prints = prints_none }
  of_prints (printed_int s h A P) = let r = of_prints P in
      record { values = c.Int s ∷ r.values; conversions = c.Int (promoted s) ∷ r.conversions; operands = one_more_operand A r.operands; prints = prints_one (prints_int s h) r.prints }
  of_prints (printed_long s h A P) = let r = of_prints P in
      record { values = c.Int s ∷ r.values; conversions = c.Int (promoted s) ∷ r.conversions; operands = one_more_operand A r.operands; prints = prints_one (prints_long s h) r.prints }
  of_prints (printed_size s h A P) = let r = of_prints P in
      record { values = c.Int s ∷ r.values; conversions = c.Int (promoted s) ∷ r.conversions; operands = one_more_operand A r.operands; prints = prints_one (prints_size s h) r.prints }
  of_prints (printed_text A P) = let r = of_prints P in
      record { values = c.Ptr char ∷ r.values; conversions = c.Ptr char ∷ r.conversions; operands = one_more_operand A r.operands; prints = prints_one prints_text r.prints }

  prints_by : {xs : List Exp} {fs : List Spec} {vs bs : List CType} {ps : List Pair} → PrintsAll ctx.target fs vs bs → Operands ctx xs vs bs ps → Prints ctx xs fs ps
  prints_by prints_none no_more_operands = no_more_printed
  prints_by (prints_one {g = g} {fs = fs} {v = v} {a = a} h r) (one_more_operand {x = x} {xs = xs} {ps = ps} {qs = qs} A B) =
      (parts.printed ctx x xs g fs (ps ++ qs)).1
      (record { value = v; conversion = a; before = ps; behind = qs; operand = A; prints_as = h; others = prints_by r B; pairs = refl })

  -- the format and what is behind it
  record BehindFormat (x : Exp) (xs : List Exp) (fs : List Spec) (ps : List Pair) : Type 0 where
    before : List Pair
    behind : List Pair
    operand : Operand ctx x (c.Ptr char) (c.Ptr char) before
    others : Prints ctx xs fs behind
    pairs : ps ≡ before ++ behind

  behind_format : {x : Exp} {xs : List Exp} {fs : List Spec} {ps : List Pair} → Prints ctx (x ∷ xs) (f.Text ∷ fs) ps → BehindFormat x xs fs ps
  behind_format (printed_text {ps = ps} {qs = qs} A P) = record { before = ps; behind = qs; operand = A; others = P; pairs = refl }

  of_call : {x : Exp} {xs : List Exp} {t to : CType} {ps : List Pair} → Types ctx (Exp-F.Call x xs) t to ps → OfCall ctx x xs t to ps
  of_call (call {name = name} {t = t} {f = of} {params = params} {qs = qs} n e m P) = let r = of_passed P in record {
    values = r.values;
    called = record { function = of; result = t; conversions = params };
    behind = qs;
    operands = r.operands;
    calls = (of, (name, (n, m)), inl (record { taken = e; passes = r.passes; same = refl }));
    type = refl;
    pairs = refl;
  }
  of_call (print {y = y} {texts = texts} {xs = xs} {values = values} {specs = specs} {qs = qs} {rs = rs} n m l s g A P) = let r = of_prints P in record {
    values = c.Ptr char ∷ r.values;
    called = record { function = printf_type; result = int; conversions = c.Ptr char ∷ r.conversions };
    behind = qs ++ rs;
    operands = one_more_operand A r.operands;
    calls = (
      printf_type,
      (codes "printf", (n, m)),
      inr (record {
        named = n;
        taken = refl;
        printed = record {
          reads = f.Text ∷ specs;
          formats = record { first = y; others = xs; reads = specs; arguments = refl; format = record { texts = texts; values = values; literal = l; are_strings = s; reads = g }; all = refl };
          prints = prints_one prints_text r.prints;
        };
        same = refl;
        gives = refl;
      }),
    );
    type = refl;
    pairs = refl;
  }

  function_by : {x : Exp} {xs : List Exp} {t to : CType} {ps : List Pair} → (o : OfCall ctx x xs t to ps) → CallsFunction ctx o.calls.0 xs o.values o.called → Types ctx (Exp-F.Call x xs) t to ps
  function_by o h =
      let name = o.calls.1 in
      rw (o.pairs, h.same, o.type) (call name.1.0 h.taken name.1.1 (passed_by h.passes o.operands))

  made : {x : Exp} {xs : List Exp} {vs bs : List CType} {reads : List Spec} {to : CType} {qs : List Pair} → out-Exp x ≡ Exp-F.Var (codes "printf") →
      meaning ctx (codes "printf") ≡ Some (function printf_type) → Formats ctx.target xs reads → PrintsAll ctx.target reads vs bs → Operands ctx xs vs bs qs →
      Types ctx (Exp-F.Call x xs) int to (pair printf_type printf_type ∷ (pair int to ∷ qs))
  made {xs = xs} {qs = qs} n m k p A =
      let as_text = subst (λ z. Prints ctx xs z qs) k.all (prints_by p A) in
      let split = behind_format (subst (λ z. Prints ctx z (f.Text ∷ k.reads) qs) k.arguments as_text) in
      rw (k.arguments, split.pairs) (print n m k.format.literal k.format.are_strings k.format.reads split.operand split.others)

  printf_by : {x : Exp} {xs : List Exp} {t to : CType} {ps : List Pair} → (o : OfCall ctx x xs t to ps) → CallsPrintf ctx x o.calls.0 xs o.values o.called → Types ctx (Exp-F.Call x xs) t to ps
  printf_by o h =
      let name = o.calls.1 in
      let named = subst (λ z. meaning ctx z ≡ Some (function o.calls.0)) (one_name name.1.0 h.named) name.1.1 in
      let means = subst (λ z. meaning ctx (codes "printf") ≡ Some (function z)) h.taken named in
      rw (o.pairs, h.same, h.taken, o.type, h.gives) (made h.named means h.printed.formats h.printed.prints o.operands)

  call_by : {x : Exp} {xs : List Exp} {t to : CType} {ps : List Pair} → OfCall ctx x xs t to ps → Types ctx (Exp-F.Call x xs) t to ps
  call_by o = elim o.calls.2 [ inl h ↦ function_by o h | inr h ↦ printf_by o h ]

pub typings_of_calls : TypingsAreOfParts → TypingsOfCalls
typings_of_calls parts = record {
  passed = λ ctx xs ts ps. (of_passed parts ctx, λ o. passed_by parts ctx o.passes o.operands);
  printed = λ ctx xs fs ps. (of_prints parts ctx, λ o. prints_by parts ctx o.prints o.operands);
  call = λ ctx x xs t to ps. (of_call parts ctx, call_by parts ctx);
}
