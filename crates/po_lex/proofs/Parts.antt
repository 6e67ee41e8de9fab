-- At most one part stands at a place.
use Rattle.std.proofs.Common.{◌≡◌, ℕ, ◌<◌, ◌≤◌, Bool, List, ◌++◌, length, take, drop, sym, ap, ◌∙◌, subst}
use Rattle.std.specs.Prelude.{Some}
use Rattle.std.proofs.lemmas.List.{append_cancel_left, append_cancel_right, take-append-drop}
use Rattle.po_lex.specs.Rows.{skip}
use Rattle.po_lex.specs.PartKinds.{part_kind_of, opening, row_of, closing}
use Rattle.po_lex.specs.Division.{Part, HasEffect, Stands, NoneStands}
use Rattle.po_lex.specs.declared.part_kind.PartKind.{PartKind}
use Rattle.po_lex.specs.declared.part_kind.PartKind.TheVariants as l
use Rattle.po_lex.specs.declared.effect.Effect.{Effect}

-- what comes after a part is told by what it is
same_rest : (fresh : Bool) (bytes left : List ℕ) (part_kind : PartKind) (part : Part) (rest : List ℕ) → part_kind ≡ part_kind_of bytes →
    skip (row_of part_kind) 0 (drop (opening part_kind bytes) bytes) ≡ closing part_kind ++ left → Stands fresh bytes part rest → rest ≡ left
same_rest fresh bytes left part_kind part rest q ended h =
    let same : part.part_kind ≡ part_kind = h.begun ∙ sym q in
    let there : skip (row_of part_kind) 0 (drop (opening part_kind bytes) bytes) ≡ closing part_kind ++ rest =
    subst (λ v. skip (row_of v) 0 (drop (opening v bytes) bytes) ≡ closing v ++ rest) same h.ended in
    append_cancel_left (closing part_kind) rest left (sym there ∙ ended)

-- where the part that begins there doesn't end, no part stands
pub none_ends : (fresh : Bool) (bytes : List ℕ) (part_kind : PartKind) → part_kind ≡ part_kind_of bytes →
    ((rest : List ℕ) → 0 < opening part_kind bytes → opening part_kind bytes ≤ length bytes → skip (row_of part_kind) 0 (drop (opening part_kind bytes) bytes) ≡ closing part_kind ++ rest → ⊥) →
    NoneStands fresh bytes
none_ends fresh bytes part_kind q none part rest h =
    let same : part.part_kind ≡ part_kind = h.begun ∙ sym q in
    none rest (subst (λ v. 0 < opening v bytes) same h.some) (subst (λ v. opening v bytes ≤ length bytes) same h.within)
    (subst (λ v. skip (row_of v) 0 (drop (opening v bytes) bytes) ≡ closing v ++ rest) same h.ended)

pub none_in_effect : (fresh : Bool) (bytes : List ℕ) (part_kind : PartKind) (end : ℕ) → part_kind ≡ part_kind_of bytes →
    skip (row_of part_kind) 0 (drop (opening part_kind bytes) bytes) ≡ closing part_kind ++ drop end bytes →
    ((effect : Effect) → HasEffect part_kind fresh (take end bytes) effect → ⊥) → NoneStands fresh bytes
none_in_effect fresh bytes part_kind end q ended none part rest h =
    let same : part.part_kind ≡ part_kind = h.begun ∙ sym q in
    let left : rest ≡ drop end bytes = same_rest fresh bytes (drop end bytes) part_kind part rest q ended h in
    let text : part.text ≡ take end bytes =
    append_cancel_right part.text (take end bytes) (drop end bytes) (ap (λ v. part.text ++ v) (sym left) ∙ sym h.whole ∙ sym (take-append-drop end bytes)) in
    none part.effect (subst (λ v. HasEffect part_kind fresh v part.effect) text (subst (λ v. HasEffect v fresh part.text part.effect) same h.part_effect))

same_effect : (part_kind : PartKind) (fresh : Bool) (text : List ℕ) (x y : Effect) → HasEffect part_kind fresh text x → HasEffect part_kind fresh text y → x ≡ y
same_effect l.Directive fresh text x y h k =
    let q : Some x ≡ Some y = sym h.1 ∙ k.1 in cc
same_effect l.Blank fresh text x y h k = h ∙ sym k
same_effect l.Splice fresh text x y h k = h ∙ sym k
same_effect l.Comment fresh text x y h k = h ∙ sym k
same_effect l.LineComment fresh text x y h k = h ∙ sym k
same_effect l.Word fresh text x y h k = h ∙ sym k
same_effect l.Number fresh text x y h k = h ∙ sym k
same_effect l.Char fresh text x y h k = h ∙ sym k
same_effect l.Str fresh text x y h k = h ∙ sym k
same_effect l.Punctuator fresh text x y h k = h ∙ sym k

abbrev made : PartKind → List ℕ → Effect → Part
made part_kind text effect = record { part_kind = part_kind; text = text; effect = effect }

pub one_part : (fresh : Bool) (bytes : List ℕ) (x y : Part) (r s : List ℕ) → Stands fresh bytes x r → Stands fresh bytes y s → (x ≡ y) × (r ≡ s)
one_part fresh bytes x y r s h k =
    let left : r ≡ s = same_rest fresh bytes s y.part_kind x r k.begun k.ended h in
    let part_kind : x.part_kind ≡ y.part_kind = h.begun ∙ sym k.begun in
    let text : x.text ≡ y.text = append_cancel_right x.text y.text s (ap (λ v. x.text ++ v) (sym left) ∙ sym h.whole ∙ k.whole) in
    let part_effect : HasEffect y.part_kind fresh y.text x.effect =
    subst (λ v. HasEffect y.part_kind fresh v x.effect) text (subst (λ v. HasEffect v fresh x.text x.effect) part_kind h.part_effect) in
    let effect : x.effect ≡ y.effect = same_effect y.part_kind fresh y.text x.effect y.effect part_effect k.part_effect in
    (ap (λ v. made v x.text x.effect) part_kind ∙ ap (λ v. made y.part_kind v x.effect) text ∙ ap (λ v. made y.part_kind y.text v) effect, left)
