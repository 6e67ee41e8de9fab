-- A predicate that a called function may assume, in its frame and in that of its caller.
use Rattle.std.proofs.Common.{◌≡◌, ℕ, zero, suc, List, [], ◌∷◌, length, true, ◌&&◌, refl, sym, ◌∙◌, ap, subst, arith}
use Rattle.std.specs.Prelude.{Option, Some, None, ℤ, pos, All, slice_get, nat_lt}
use Rattle.std.specs.List.{AllZip}
use Rattle.std.proofs.lemmas.Bool.{ltb-true}
use Rattle.std.proofs.lemmas.Int.{ints}
use Rattle.std.proofs.lemmas.List.Elements.{All-nil, All-cons}
use Rattle.po_base.specs.declared.operand.Opnd.{Opnd}
use Rattle.po_base.specs.declared.operand.Opnd.TheVariants as operand
use Rattle.po_pred.specs.declared.pred.Atom.{Atom}
use Rattle.po_pred.specs.declared.pred.Atom.TheVariants.{Reg, Param}
use Rattle.po_pred.specs.declared.pred.Place.{Place}
use Rattle.po_pred.specs.declared.pred.Pred.{Pred}
use Rattle.po_pred.specs.declared.pred.Pred.TheVariants.{Nonzero, NoOver}
use Rattle.po_pred.specs.Subst.{moved_to_found, put_at, put_place, put_in}
use Rattle.po_app.specs.Predicates.{IsMoved}
use Rattle.po_app.specs.Delegation.{allowed_from, is_allowed, names_parameter, fits_parameters, is_assumable}
use Rattle.po_app.specs.Meaning.{Value, number, Frame, atom_value, operand_value, Chooses, HasNumber, Holds}
use Rattle.po_app.specs.Sound.{IsInt}
use Rattle.po_app.proofs.Soundness.Members.{item_at, second_at}
use Rattle.po_app.proofs.Soundness.Registers.{Filled}
use Rattle.po_app.proofs.Soundness.Served.{both}
use Rattle.po_app.proofs.Soundness.Places.{IsBefore, AreBefore, Known, IsReady, AreReady, same_number, operand_known, operand_int, place_ready}

-- the operands have these values in the frame
abbrev pub ArePassed : Frame → List Opnd → List Value → Type 0
ArePassed frame args values = AllZip (λ a v. operand_value frame a ≡ Some v) args values

pub passed_ints : (limit : ℕ) (frame : Frame) (args : List Opnd) (values : List Value) → AreBefore limit args → Filled limit frame.regs → ArePassed frame args values → All IsInt values
passed_ints limit frame [] [] before filled passed = All-nil IsInt
passed_ints limit frame [] (v ∷ vs) before filled passed = absurd passed
passed_ints limit frame (a ∷ rest) [] before filled passed = absurd passed
passed_ints limit frame (a ∷ rest) (number v ∷ vs) before filled passed =
    All-cons IsInt (number v) vs (operand_int limit a frame v before.0 filled passed.0) (passed_ints limit frame rest vs before.1 filled passed.1)

pub passed_length : (frame : Frame) (args : List Opnd) (values : List Value) → ArePassed frame args values → length args ≡ length values
passed_length frame [] [] passed = refl
passed_length frame [] (v ∷ vs) passed = absurd passed
passed_length frame (a ∷ rest) [] passed = absurd passed
passed_length frame (a ∷ rest) (v ∷ vs) passed = let same = passed_length frame rest vs passed.1 in omega (arith, same)

-- operands that are there have values
pub pass : (limit : ℕ) (frame : Frame) (args : List Opnd) → AreBefore limit args → Filled limit frame.regs → (values : List Value) × ArePassed frame args values
pass limit frame [] before filled = ([], tt)
pass limit frame (a ∷ rest) before filled =
    let k = operand_known limit a frame before.0 filled in
    let r = pass limit frame rest before.1 filled in
    (number k.0 ∷ r.0, (k.1, r.1))

before_at : (limit : ℕ) (args : List Opnd) (i : ℕ) (a : Opnd) → AreBefore limit args → slice_get args i ≡ Some a → IsBefore limit a
before_at limit [] i a before e = absurd (cc)
before_at limit (b ∷ rest) zero a before e = let same : b ≡ a = cc in subst (IsBefore limit) same before.0
before_at limit (b ∷ rest) (suc i) a before e = before_at limit rest i a before.1 e

argument_ready : (limit : ℕ) (frame : Frame) (a : Opnd) (p : Place) → IsBefore limit a → Filled limit frame.regs → IsReady frame (moved_to_found (Some a) p)
argument_ready limit frame (operand.Reg r) p before filled = place_ready limit (operand.Reg r) frame before filled
argument_ready limit frame (operand.Num n) p before filled = place_ready limit (operand.Num n) frame before filled

put_in_place_ready : (limit : ℕ) (frame : Frame) (args : List Opnd) (atom : Option Atom) (p : Place) → p.atom ≡ atom → allowed_from (length args) atom p ≡ true → AreBefore limit args → Filled limit frame.regs →
    IsReady frame (put_at args atom p)
put_in_place_ready limit frame args None p is allowed before filled = subst (λ atom. Known (atom_value frame atom)) (sym is) (place_ready limit (operand.Num (pos 0)) frame (omega (arith, ints), omega (arith, ints)) filled)
put_in_place_ready limit frame args (Some (Reg r)) p is allowed before filled = absurd (cc)
put_in_place_ready limit frame args (Some (Param i)) p is allowed before filled =
    let below = ltb-true i (length args) (both (nat_lt i (length args)) _ allowed).0 in
    let a = item_at args i below in
    subst (λ o. IsReady frame (moved_to_found o p)) (sym a.1) (argument_ready limit frame a.0 p (before_at limit args i a.0 before a.1) filled)

place_put_in_ready : (limit : ℕ) (frame : Frame) (args : List Opnd) (p : Place) → is_allowed (length args) p ≡ true → AreBefore limit args → Filled limit frame.regs → IsReady frame (put_place args p)
place_put_in_ready limit frame args p allowed before filled = put_in_place_ready limit frame args p.atom p refl allowed before filled

-- what the places stand on with the arguments put in is there
pub put_in_ready : (limit : ℕ) (frame : Frame) (args : List Opnd) (q : Pred) → is_assumable (length args) q ≡ true → AreBefore limit args → Filled limit frame.regs → AreReady frame (put_in q args)
put_in_ready limit frame args (Nonzero x) h before filled =
    let fits = both (is_allowed (length args) x && names_parameter x.atom) _ h in
    place_put_in_ready limit frame args x (both (is_allowed (length args) x) _ fits.0).0 before filled
put_in_ready limit frame args (NoOver op bits a None) h before filled = absurd (cc)
put_in_ready limit frame args (NoOver op bits a (Some b)) h before filled =
    let fits = both (fits_parameters (length args) (NoOver op bits a (Some b))) _ h in
    let places = both (is_allowed (length args) a && is_allowed (length args) b) _ (both _ _ fits.0).0 in
    let each = both (is_allowed (length args) a) (is_allowed (length args) b) places.0 in
    (place_put_in_ready limit frame args a each.0 before filled, place_put_in_ready limit frame args b each.1 before filled)
put_in_ready limit frame args _ h before filled = absurd (cc)

-- a number of a called function's place is one of the place with the arguments put in
argument_chooses : (frame : Frame) (a : Opnd) (p : Place) (v u : ℤ) → operand_value frame a ≡ Some (number u) → IsMoved p u v → Chooses frame (moved_to_found (Some a) p) v
argument_chooses frame (operand.Reg r) p v u at moved = (u, at, moved)
argument_chooses frame (operand.Num n) p v u at moved =
    let same = same_number n u at in
    let low = moved.0 in
    let high = moved.1 in
    (pos 0, refl, (omega (arith, ints, same, low), omega (arith, ints, same, high)))

atom_chooses : (args : List Opnd) (caller callee : Frame) (atom : Option Atom) (p : Place) (v u : ℤ) → p.atom ≡ atom → allowed_from (length args) atom p ≡ true → ArePassed caller args callee.args →
    atom_value callee atom ≡ Some (number u) → IsMoved p u v → Chooses caller (put_at args atom p) v
atom_chooses args caller callee None p v u is allowed passed at moved =
    (pos 0, ap (atom_value caller) is, subst (λ w. IsMoved p w v) (sym (same_number (pos 0) u at)) moved)
atom_chooses args caller callee (Some (Reg r)) p v u is allowed passed at moved = absurd (cc)
atom_chooses args caller callee (Some (Param i)) p v u is allowed passed at moved =
    let below = ltb-true i (length args) (both (nat_lt i (length args)) _ allowed).0 in
    let a = item_at args i below in
    let x = second_at (λ a v. operand_value caller a ≡ Some v) args callee.args i a.0 passed a.1 in
    let value : operand_value caller a.0 ≡ Some (number u) = x.2 ∙ (sym x.1 ∙ at) in
    subst (λ o. Chooses caller (moved_to_found o p) v) (sym a.1) (argument_chooses caller a.0 p v u value moved)

place_chooses : (args : List Opnd) (caller callee : Frame) (p : Place) (v : ℤ) → is_allowed (length args) p ≡ true → ArePassed caller args callee.args → Chooses callee p v → Chooses caller (put_place args p) v
place_chooses args caller callee p v allowed passed c = atom_chooses args caller callee p.atom p v c.0 refl allowed passed c.1 c.2

number_of : (v : Value) → (u : ℤ) × (v ≡ number u)
number_of (number u) = (u, refl)

atom_number : (args : List Opnd) (caller callee : Frame) (atom : Option Atom) (p : Place) → allowed_from (length args) atom p ≡ true → ArePassed caller args callee.args → (u : ℤ) × (atom_value callee atom ≡ Some (number u))
atom_number args caller callee None p allowed passed = (pos 0, refl)
atom_number args caller callee (Some (Reg r)) p allowed passed = absurd (cc)
atom_number args caller callee (Some (Param i)) p allowed passed =
    let below = ltb-true i (length args) (both (nat_lt i (length args)) _ allowed).0 in
    let a = item_at args i below in
    let x = second_at (λ a v. operand_value caller a ≡ Some v) args callee.args i a.0 passed a.1 in
    let u = number_of x.0 in
    (u.0, x.1 ∙ ap Some u.1)

-- what holds at a call with the arguments put in holds in the frame of the called function
pub put_in_holds : (args : List Opnd) (caller callee : Frame) (q : Pred) → is_assumable (length args) q ≡ true → ArePassed caller args callee.args → Holds caller (put_in q args) → Holds callee q
put_in_holds args caller callee (Nonzero x) h passed holds =
    let fits = both (is_allowed (length args) x && names_parameter x.atom) _ h in
    let allowed = (both (is_allowed (length args) x) _ fits.0).0 in
    (atom_number args caller callee x.atom x allowed passed, λ v c. holds.1 v (place_chooses args caller callee x v allowed passed c))
put_in_holds args caller callee (NoOver op bits a None) h passed holds = absurd (cc)
put_in_holds args caller callee (NoOver op bits a (Some b)) h passed holds =
    let fits = both (fits_parameters (length args) (NoOver op bits a (Some b))) _ h in
    let places = both (is_allowed (length args) a && is_allowed (length args) b) _ (both _ _ fits.0).0 in
    let each = both (is_allowed (length args) a) (is_allowed (length args) b) places.0 in (
      atom_number args caller callee a.atom a each.0 passed,
      atom_number args caller callee b.atom b each.1 passed,
      λ v w c d. holds.2 v w (place_chooses args caller callee a v each.0 passed c) (place_chooses args caller callee b w each.1 passed d),
    )
put_in_holds args caller callee _ h passed holds = absurd (cc)

-- a predicate on parameters holds in every frame with the same arguments
atom_alike : (params : ℕ) (atom : Option Atom) (p : Place) (frame other : Frame) → allowed_from params atom p ≡ true → frame.args ≡ other.args → atom_value frame atom ≡ atom_value other atom
atom_alike params None p frame other allowed same = refl
atom_alike params (Some (Reg r)) p frame other allowed same = absurd (cc)
atom_alike params (Some (Param i)) p frame other allowed same = ap (λ args. slice_get args i) same

place_alike : (params : ℕ) (p : Place) (frame other : Frame) (v : ℤ) → is_allowed params p ≡ true → frame.args ≡ other.args → Chooses other p v → Chooses frame p v
place_alike params p frame other v allowed same c = (c.0, atom_alike params p.atom p frame other allowed same ∙ c.1, c.2)

number_alike : (params : ℕ) (p : Place) (frame other : Frame) → is_allowed params p ≡ true → frame.args ≡ other.args → HasNumber frame p → HasNumber other p
number_alike params p frame other allowed same c = (c.0, sym (atom_alike params p.atom p frame other allowed same) ∙ c.1)

pub holds_alike : (params : ℕ) (q : Pred) (frame other : Frame) → is_assumable params q ≡ true → frame.args ≡ other.args → Holds frame q → Holds other q
holds_alike params (Nonzero x) frame other h same holds =
    let fits = both (is_allowed params x && names_parameter x.atom) _ h in
    let allowed = (both (is_allowed params x) _ fits.0).0 in
    (number_alike params x frame other allowed same holds.0, λ v c. holds.1 v (place_alike params x frame other v allowed same c))
holds_alike params (NoOver op bits a None) frame other h same holds = absurd (cc)
holds_alike params (NoOver op bits a (Some b)) frame other h same holds =
    let fits = both (fits_parameters params (NoOver op bits a (Some b))) _ h in
    let places = both (is_allowed params a && is_allowed params b) _ (both _ _ fits.0).0 in
    let each = both (is_allowed params a) (is_allowed params b) places.0 in (
      number_alike params a frame other each.0 same holds.0,
      number_alike params b frame other each.1 same holds.1,
      λ v w c d. holds.2 v w (place_alike params a frame other v each.0 same c) (place_alike params b frame other w each.1 same d),
    )
holds_alike params _ frame other h same holds = absurd (cc)
