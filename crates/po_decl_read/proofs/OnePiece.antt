-- What tokens are that are one declaration, or a lone semicolon.
use Rattle.std.proofs.Common.{◌≡◌, ◌≤◌, ◌∙◌, ◌∷◌, ◌++◌, ℕ, List, [], sym, ap, subst, arith, append-nil}
use Rattle.po_tree.specs.declared.declaration.Decl.{Decl}
use Rattle.po_tree.specs.Signs.{Sign, semicolon}
use Rattle.po_tree.specs.Printing.{flat_decl}
use Rattle.po_tree.specs.Heights.{decl_height}
use Rattle.po_tree.specs.Declarations.{Declared, IsPiece, lone, declaration}
use Rattle.po_decl_steps.specs.Standing.{DeclarationStands}
use Rattle.po_decl_read.specs.Whole.{PieceIs}

-- a lone semicolon is one
pub lone_is : (types : List (List ℕ)) (signs : List Sign) (d : Decl) → signs ≡ semicolon ∷ [] → d ≡ record { specs = []; parts = [] } → PieceIs types signs d
lone_is types signs d q r = subst (λ z. PieceIs types signs z) (sym r) (record {
  behind = types;
  formed = record { formed = lone types; nested = omega arith };
  printed = q;
})

-- what is one and no lone semicolon stands before nothing
whole_stands : {types behind : List (List ℕ)} {signs : List Sign} {d : Decl} → (signs ≡ semicolon ∷ [] → ⊥) → IsPiece types d behind → decl_height d ≤ 256 → signs ≡ flat_decl d →
    DeclarationStands types signs d []
whole_stands other (lone types) low q = absurd (other q)
whole_stands other (declaration types behind d w) low q = record { behind = behind; formed = w; nested = low; printed = q ∙ sym (append-nil (flat_decl d)) }

pub stands_whole : (types : List (List ℕ)) (signs : List Sign) (d : Decl) → (signs ≡ semicolon ∷ [] → ⊥) → PieceIs types signs d → DeclarationStands types signs d []
stands_whole types signs d other p = whole_stands other p.formed.formed p.formed.nested p.printed

-- what stands before nothing is one
pub whole_is : (types : List (List ℕ)) (signs left : List Sign) (d : Decl) → DeclarationStands types signs d left → left ≡ [] → PieceIs types signs d
whole_is types signs left d s q = record {
  behind = s.behind;
  formed = record { formed = declaration types s.behind d s.formed; nested = s.nested };
  printed = s.printed ∙ ap (λ z. flat_decl d ++ z) q ∙ append-nil (flat_decl d);
}

-- where a declaration stands before something, there is none
pub none_longer : (types : List (List ℕ)) (signs left : List Sign) (d e : Decl) →
    ((types behind after : List (List ℕ)) (d e : Decl) (left rest : List Sign) → Declared types d behind → Declared types e after → decl_height d ≤ 256 → decl_height e ≤ 256 →
    flat_decl d ++ left ≡ flat_decl e ++ rest → (d ≡ e) × (behind ≡ after) × (left ≡ rest)) →
    (signs ≡ semicolon ∷ [] → ⊥) → DeclarationStands types signs d left → (left ≡ [] → ⊥) → PieceIs types signs e → ⊥
none_longer types signs left d e one other s some p =
    let w = stands_whole types signs e other p in
    some (one types s.behind w.behind d e left [] s.formed w.formed s.nested w.nested (sym s.printed ∙ w.printed)).2
