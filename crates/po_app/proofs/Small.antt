-- The numbers of what is asked, assumed and supported in a small project are small.
use Rattle.std.proofs.Common.{◌≡◌, List, [], ◌∷◌, Bool, true, false, cond, arith, subst, refl, ◌==◌}
use Rattle.std.specs.Prelude.{ℕ, pos, neg_ℤ, ◌≤ℤ◌, ◌-ℤ◌, nat_lt, ◌^◌, ◌||◌, All, Option, Some, None, length, slice_get}
use Rattle.std.proofs.lemmas.Int.{ints}
use Rattle.std.proofs.lemmas.Bool.Decides.{Decides-or, Decides-eqb, Decides-ltb}
use Rattle.std.proofs.lemmas.List.Elements.{All-nil, All-cons, All-weaker}
use Rattle.std.proofs.lemmas.Option.{slice_get_within, get_or_from_slice_get}
use Rattle.po_base.specs.declared.operand.Opnd.{Opnd}
use Rattle.po_base.specs.declared.operand.Opnd.TheVariants as operand
use Rattle.po_base.specs.declared.operators.Op.{Op}
use Rattle.po_base.specs.declared.operators.Op.TheVariants as op
use Rattle.po_core.specs.declared.obl.Cause.{Cause}
use Rattle.po_core.specs.declared.obl.Cause.TheVariants.{Primary, Support}
use Rattle.po_arith.specs.declared.int_type.IntType.{IntType}
use Rattle.po_ir.specs.declared.instr.Ty.TheVariants.{Int}
use Rattle.po_ir.specs.declared.instr.Instr.{Instr}
use Rattle.po_ir.specs.declared.instr.Instr.TheVariants.{Bin, Call}
use Rattle.po_ir.specs.declared.graph.Node.{Node}
use Rattle.po_ir.specs.declared.project.Function.{Function}
use Rattle.po_pred.specs.declared.pred.Atom.{Atom}
use Rattle.po_pred.specs.declared.pred.Atom.TheVariants.{Reg, Param}
use Rattle.po_pred.specs.declared.pred.Place.{Place}
use Rattle.po_pred.specs.declared.pred.Over.{Over}
use Rattle.po_pred.specs.declared.pred.Over.TheVariants.{Div, Rem, Add, Sub, Mul}
use Rattle.po_pred.specs.declared.pred.Pred.{Pred}
use Rattle.po_pred.specs.declared.pred.Pred.TheVariants.{Nonzero, NoOver}
use Rattle.po_pred.specs.View.{places_of}
use Rattle.po_pred.specs.Subst.{moved_to, moved_to_found, put_at, put_in, IsCountedOperand, IsParameterBelow, IsOpenTo}
use Rattle.po_app.specs.Obligations.{place, operator_predicates, predicates}
use Rattle.po_app.specs.Delegation.{from_to, allowed_from, is_allowed, fits_parameters, is_assumable}
use Rattle.po_app.specs.Verdicts.{supported, caused}
use Rattle.po_app.specs.Ranges.{IsWidth, IsSmallOperand, IsSmallPlace, IsSmallPredicate, IsSmallInstr, IsSmallFunction}
use Rattle.po_app.specs.Tests.{Decides-from_to, first_of_two, second_of_two}

-- what stands at a place of a list has what all of it have
pub at_place : {X : Type 0} (P : X → Type 0) (xs : List X) (i : ℕ) (x : X) → All P xs → slice_get xs i ≡ Some x → P x
at_place P xs i x all here = subst P (get_or_from_slice_get xs i x x here) (all i x (slice_get_within xs i x here))

operand_small : (o : Opnd) → IsSmallOperand o → IsSmallPlace (place o)
operand_small (operand.Reg r) h = record { low = (omega (arith, ints), omega (arith, ints)); high = (omega (arith, ints), omega (arith, ints)) }
operand_small (operand.Num n) h = record { low = (omega (arith, ints), omega (arith, ints)); high = (omega (arith, ints), omega (arith, ints)) }

overflow_small : (o : Over) (t : IntType) (signed : Bool) (a b : Place) → IsWidth t.bits → IsSmallPlace a → IsSmallPlace b →
    All IsSmallPredicate (cond signed (NoOver o t.bits a (Some b) ∷ []) [])
overflow_small o t true a b w sa sb = All-cons IsSmallPredicate _ [] (w, sa, sb) (All-nil _)
overflow_small o t false a b w sa sb = All-nil _

module _ (t : IntType) (a b : Place) (w : IsWidth t.bits) (sa : IsSmallPlace a) (sb : IsSmallPlace b) where
  operator_small : (o : Op) → All IsSmallPredicate (operator_predicates o t a b)
  operator_small op.Add = overflow_small Add t t.signed a b w sa sb
  operator_small op.Sub = overflow_small Sub t t.signed a b w sa sb
  operator_small op.Mul = overflow_small Mul t t.signed a b w sa sb
  operator_small op.Div = All-cons IsSmallPredicate _ _ sb (overflow_small Div t t.signed a b w sa sb)
  operator_small op.Rem = All-cons IsSmallPredicate _ _ sb (overflow_small Rem t t.signed a b w sa sb)
  operator_small _ = All-nil _

-- what a small operation asks for is small
pub asked_small : (i : Instr) → IsSmallInstr i → All IsSmallPredicate (predicates i)
asked_small (Bin to o (Int t) a b) h = operator_small t (place a) (place b) h.0 (operand_small a h.1) (operand_small b h.2) o
asked_small _ h = All-nil _

-- the numbers of a place of an assumption
pub record IsAssumed (p : Place) : Type 0 where
  pub low : neg_ℤ (pos (2 ^ 63)) ≤ℤ p.lo
  pub ordered : p.lo ≤ℤ p.hi
  pub high : p.hi ≤ℤ pos (2 ^ 64)

allowed_assumed : (params : ℕ) (atom : Option Atom) (p : Place) → allowed_from params atom p ≡ true → IsAssumed p
allowed_assumed params None p h =
    let is = (Decides-from_to (neg_ℤ (pos (2 ^ 63))) (pos (2 ^ 64) -ℤ pos 1) p).0 h in
    record { low = is.0.0; ordered = is.0.1; high = omega (arith, ints) }
allowed_assumed params (Some (Reg r)) p h = absurd (cc)
allowed_assumed params (Some (Param i)) p h =
    let offsets = second_of_two (nat_lt i params) (from_to (neg_ℤ (pos 1024)) (pos 1024) p) h in
    let is = (Decides-from_to (neg_ℤ (pos 1024)) (pos 1024) p).0 offsets in
    record { low = omega (arith, ints); ordered = is.0.1; high = omega (arith, ints) }

assumed_small : (p : Place) → IsAssumed p → IsSmallPlace p
assumed_small p h = record { low = (omega (arith, ints), omega (arith, ints)); high = (omega (arith, ints), omega (arith, ints)) }

width : (bits : ℕ) → ((bits == 32) || (bits == 64)) ≡ true → IsWidth bits
width bits h = (Decides-or _ _ (Decides-eqb bits 32) (Decides-eqb bits 64)).0 h

-- the places of an assumption, and its width
abbrev pub AreAssumed : Pred → Type 0
AreAssumed (Nonzero x) = IsAssumed x
AreAssumed (NoOver o bits a None) = ⊥
AreAssumed (NoOver o bits a (Some b)) = IsWidth bits × IsAssumed a × IsAssumed b
AreAssumed _ = ⊥

fits_assumed : (params : ℕ) (q : Pred) → fits_parameters params q ≡ true → AreAssumed q
fits_assumed params (Nonzero x) h = allowed_assumed params x.atom x (first_of_two _ _ h)
fits_assumed params (NoOver o bits a None) h = absurd (cc)
fits_assumed params (NoOver o bits a (Some b)) h =
    let three = first_of_two _ _ h in
    let two = first_of_two _ _ three in
    (width bits (second_of_two _ _ h), allowed_assumed params a.atom a (first_of_two _ _ two), allowed_assumed params b.atom b (second_of_two _ _ two))
fits_assumed params _ h = absurd (cc)

pub assumable_assumed : (params : ℕ) (q : Pred) → is_assumable params q ≡ true → AreAssumed q
assumable_assumed params q h = fits_assumed params q (first_of_two _ _ h)

are_small : (q : Pred) → AreAssumed q → IsSmallPredicate q
are_small (Nonzero x) h = assumed_small x h
are_small (NoOver o bits a None) h = absurd h
are_small (NoOver o bits a (Some b)) h = (h.0, assumed_small a h.1, assumed_small b h.2)
are_small _ h = absurd h

-- what may be assumed is small
pub assumable_small : (params : ℕ) (q : Pred) → is_assumable params q ≡ true → IsSmallPredicate q
assumable_small params q h = are_small q (assumable_assumed params q h)

open_from : (count : ℕ) (atom : Option Atom) (p : Place) → allowed_from count atom p ≡ true → IsParameterBelow count atom
open_from count None p h = tt
open_from count (Some (Reg r)) p h = tt
open_from count (Some (Param i)) p h = (Decides-ltb i count).0 (first_of_two (nat_lt i count) (from_to (neg_ℤ (pos 1024)) (pos 1024) p) h)

place_is_open : (count : ℕ) (p : Place) → is_allowed count p ≡ true → IsOpenTo count p
place_is_open count p h =
    let assumed = allowed_assumed count p.atom p h in
    record { parameter = open_from count p.atom p h; low = (omega (arith, ints), omega (arith, ints)); high = (omega (arith, ints), omega (arith, ints)) }

fits_open : (count : ℕ) (q : Pred) → fits_parameters count q ≡ true → All (IsOpenTo count) (places_of q)
fits_open count (Nonzero x) h = All-cons (IsOpenTo count) x [] (place_is_open count x (first_of_two _ _ h)) (All-nil _)
fits_open count (NoOver o bits a None) h = absurd (cc)
fits_open count (NoOver o bits a (Some b)) h =
    let two = first_of_two _ _ (first_of_two _ _ h) in
    All-cons (IsOpenTo count) a (b ∷ []) (place_is_open count a (first_of_two _ _ two)) (All-cons (IsOpenTo count) b [] (place_is_open count b (second_of_two _ _ two)) (All-nil _))
fits_open count _ h = absurd (cc)

-- arguments can be put into what may be assumed
pub assumable_open : (count : ℕ) (q : Pred) → is_assumable count q ≡ true → All (IsOpenTo count) (places_of q)
assumable_open count q h = fits_open count q (first_of_two _ _ h)

operand_counted : (o : Opnd) → IsSmallOperand o → IsCountedOperand o
operand_counted (operand.Reg r) h = tt
operand_counted (operand.Num n) h = (omega (arith, ints), omega (arith, ints))

pub operands_counted : (args : List Opnd) → All IsSmallOperand args → All IsCountedOperand args
operands_counted args small = All-weaker IsSmallOperand IsCountedOperand operand_counted args small

moved_small : (o : Opnd) (p : Place) → IsSmallOperand o → IsAssumed p → IsSmallPlace (moved_to o p)
moved_small (operand.Reg r) p small h = record { low = (omega (arith, ints), omega (arith, ints)); high = (omega (arith, ints), omega (arith, ints)) }
moved_small (operand.Num n) p small h = record { low = (omega (arith, ints), omega (arith, ints)); high = (omega (arith, ints), omega (arith, ints)) }

found_small : (x : Option Opnd) (p : Place) → ((o : Opnd) → x ≡ Some o → IsSmallOperand o) → IsAssumed p → IsSmallPlace (moved_to_found x p)
found_small None p small h = assumed_small p h
found_small (Some o) p small h = moved_small o p (small o refl) h

put_at_small : (args : List Opnd) (atom : Option Atom) (p : Place) → All IsSmallOperand args → IsAssumed p → IsSmallPlace (put_at args atom p)
put_at_small args None p small h = assumed_small p h
put_at_small args (Some (Reg r)) p small h = assumed_small p h
put_at_small args (Some (Param i)) p small h = found_small (slice_get args i) p (λ o here. at_place IsSmallOperand args i o small here) h

-- an assumption with small arguments put in is small
put_in_small : (args : List Opnd) (q : Pred) → All IsSmallOperand args → AreAssumed q → IsSmallPredicate (put_in q args)
put_in_small args (Nonzero x) small h = put_at_small args x.atom x small h
put_in_small args (NoOver o bits a None) small h = absurd h
put_in_small args (NoOver o bits a (Some b)) small h = (h.0, put_at_small args a.atom a small h.1, put_at_small args b.atom b small h.2)
put_in_small args _ small h = absurd h

supported_call : (args : List Opnd) (q r : Pred) (t : Bool) → All IsSmallOperand args → (t ≡ true → AreAssumed q) → cond t (Some (put_in q args)) None ≡ Some r → IsSmallPredicate r
supported_call args q r true small h is = subst IsSmallPredicate (some_same _ _ is) (put_in_small args q small (h refl))
  where
    some_same : (x y : Pred) → Some x ≡ Some y → x ≡ y
    some_same x y e = cc
supported_call args q r false small h is = absurd (cc)

supported_small : (i : Instr) (q r : Pred) → IsSmallInstr i → supported i q ≡ Some r → IsSmallPredicate r
supported_small (Call to callee args strings) q r small is = supported_call args q r (is_assumable (length args) q) small.1 (assumable_assumed (length args) q) is
supported_small _ q r small is = absurd (cc)

caused_small : (node : Node) (cause : Cause Pred) (q : Pred) → IsSmallInstr node.instr → caused (Some node) cause ≡ Some q → IsSmallPredicate q
caused_small node (Primary i) q small is = at_place IsSmallPredicate (predicates node.instr) i q (asked_small node.instr small) is
caused_small node (Support r) q small is = supported_small node.instr r q small is

-- the predicates of a small function's obligations are small
pub predicate_small : (f : Function) (n : ℕ) (node : Option Node) (cause : Cause Pred) (q : Pred) → IsSmallFunction f → slice_get f.graph.nodes n ≡ node → caused node cause ≡ Some q → IsSmallPredicate q
predicate_small f n None cause q small here is = absurd (cc)
predicate_small f n (Some node) cause q small here is = caused_small node cause q (at_place (λ m. IsSmallInstr m.instr) f.graph.nodes n node small.small here) is
