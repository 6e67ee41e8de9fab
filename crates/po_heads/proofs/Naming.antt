-- Where the Word of a declarator stands.
use Rattle.std.proofs.Common.{◌≡◌, ℕ, List, [], ◌∷◌, ◌++◌, length, Some, sym, ap, ◌∙◌}
use Rattle.std.specs.Prelude.{flat_map, slice_get}
use Rattle.po_lists.proofs.Places.{behind_at}
use Rattle.po_tree.specs.declared.expression.Declarator.{Declarator, fold-roll-Declarator}
use Rattle.po_tree.specs.Printing.{prints_star}
use Rattle.po_heads.specs.Marks.{Printed, declared, optional, marked_declarator, marked_suffix, marks_star, marks_exp, marks_specifier, marks_suffix, marks_declarator, marks_member, marks_param, marks_type}
use Rattle.po_heads.proofs.Agree.{stars}
use Rattle.po_heads.proofs.Standing.{length_map}

pub marked_declarator-layer : (d : Declarator) → marked_declarator d ≡ flat_map marks_star d.stars ++ (optional (λ name. declared name ∷ []) d.name ++ marked_suffix d.suffix)
unfolding marked_declarator marked_suffix
marked_declarator-layer d = fold-roll-Declarator _ _ _ _ _ _ _ marks_exp marks_specifier marks_suffix marks_declarator marks_member marks_param marks_type (record { stars = d.stars; name = d.name; suffix = d.suffix })

pub word_stands : (d : Declarator) (name : List ℕ) → d.name ≡ Some name → slice_get (marked_declarator d) (length (flat_map prints_star d.stars)) ≡ Some (declared name)
word_stands d name q =
    let front : List Printed = flat_map marks_star d.stars in
    let size : length (flat_map prints_star d.stars) ≡ length front = ap length (sym (stars d.stars).printed) ∙ length_map (λ (t : Printed). t.sign) front in
    ap (λ l. slice_get l (length (flat_map prints_star d.stars))) (marked_declarator-layer d ∙ ap (λ v. front ++ (optional (λ name. declared name ∷ []) v ++ marked_suffix d.suffix)) q) ∙
    (ap (slice_get (front ++ declared name ∷ marked_suffix d.suffix)) size ∙ behind_at front (marked_suffix d.suffix) (declared name))
