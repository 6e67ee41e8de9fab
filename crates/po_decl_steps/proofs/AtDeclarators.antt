-- The steps at a declarator.
use Rattle.std.proofs.Common.{◌≡◌, ℕ, List, [], ◌∷◌, true, false, sym, subst}
use Rattle.std.specs.Prelude.{Option, Some, None}
use Rattle.po_tree.specs.declared.expression.Exp.{Exp}
use Rattle.po_tree.specs.declared.expression.Specifier.{Specifier}
use Rattle.po_tree.specs.declared.declaration.Decl.{Decl}
use Rattle.po_tree.specs.Signs.{Sign, word, opening, closing}
use Rattle.po_tree.specs.Expressions.{Typed}
use Rattle.po_tree.specs.Declarations.{IsDeclared}
use Rattle.po_exp_parts.specs.Places.{BeginsName, Begins}
use Rattle.po_exp_parts.specs.Finding.{suffix_of}
use Rattle.po_exp_parts.specs.declared.seen.Seen.TheVariants as none
use Rattle.po_decl_parts.specs.Sizes.{SizesRead}
use Rattle.po_exp_parts.specs.Seen.{typed}
use Rattle.po_exp_parts.specs.Stars.{StarsRead}
use Rattle.po_decl_steps.specs.declared.levels.Owner.{Owner}
use Rattle.po_decl_steps.specs.declared.levels.Owner.TheVariants as owner
use Rattle.po_decl_steps.specs.declared.levels.Level.{Level}
use Rattle.po_decl_steps.specs.declared.levels.Focus.TheVariants as focus
use Rattle.po_decl_steps.specs.Completing.{Completes, Inner, BehindDeclarator, Outside, is_parameter}
use Rattle.po_decl_steps.specs.Steps.{Alike, WordWanted, SuffixWanted}
use Rattle.po_decl_steps.proofs.Fitting.{behind_ends}
use Rattle.po_decl_steps.proofs.Declarators.{EndsBehind, stars_forth, stars_back, word_forth, word_back, missing_forth, missing_back, sizes_forth, sizes_back, no_sizes}
use Rattle.po_decl_steps.proofs.Parameters.{with_list, empty_forth, empty_back, list_forth, list_back, param_forth, param_back}

ends_behind : (Out : Inner → List Sign → Type 0) (y : Decl) (left : List Sign) (specs : List Specifier) (seen : Typed) (types : List (List ℕ)) (w : Owner) → EndsBehind (BehindDeclarator Out y left w specs seen types)
ends_behind Out y left specs seen types w item us g = behind_ends Out y left specs seen types item us w g

pub stars_alike : (below : List Level) (l : Level) (outers : List (List (List ℕ))) {types : List (List ℕ)} {stars : List (List (List ℕ))} {ts us : List Sign} → StarsRead ts stars us →
    Alike (λ y left. Completes y left below outers types l focus.Declarator ts) (WordWanted below l stars outers types us)
stars_alike below l outers {types = types} read = record { forth = λ y left d. stars_forth (ends_behind (Outside y left below outers) y left l.specs (typed l.seen) types l.owner) read d; back = λ y left w. stars_back read w }

pub word_alike : (below : List Level) (l : Level) (outers : List (List (List ℕ))) {types : List (List ℕ)} {stars : List (List (List ℕ))} {text : List ℕ} {ts us : List Sign} → ts ≡ word text ∷ us →
    IsDeclared types (typed l.seen) text → Alike (WordWanted below l stars outers types ts) (SuffixWanted below l stars (Some text) outers types us)
word_alike below l outers {types = types} q is = record { forth = λ y left w. (word_forth (ends_behind (Outside y left below outers) y left l.specs (typed l.seen) types l.owner) q w).1; back = λ y left s. word_back q is s }

pub word_wrong : (below : List Level) (l : Level) (outers : List (List (List ℕ))) {types : List (List ℕ)} {stars : List (List (List ℕ))} {text : List ℕ} {ts us : List Sign} (left : List Sign) (y : Decl) → ts ≡ word text ∷ us →
    (IsDeclared types (typed l.seen) text → ⊥) → WordWanted below l stars outers types ts y left → ⊥
word_wrong below l outers {types = types} left y q none w = none (word_forth (ends_behind (Outside y left below outers) y left l.specs (typed l.seen) types l.owner) q w).0

pub missing_alike : (below : List Level) (l : Level) (outers : List (List (List ℕ))) {types : List (List ℕ)} {stars : List (List (List ℕ))} {ts : List Sign} → ((text : List ℕ) → BeginsName text ts → ⊥) →
    is_parameter l.owner ≡ true → Alike (WordWanted below l stars outers types ts) (SuffixWanted below l stars None outers types ts)
missing_alike below l outers none h = record { forth = λ y left w. (missing_forth none w).1; back = λ y left s. missing_back h s }

pub missing_wrong : (below : List Level) (l : Level) (outers : List (List (List ℕ))) {types : List (List ℕ)} {stars : List (List (List ℕ))} {ts : List Sign} (left : List Sign) (y : Decl) → ((text : List ℕ) → BeginsName text ts → ⊥) →
    (is_parameter l.owner ≡ true → ⊥) → WordWanted below l stars outers types ts y left → ⊥
missing_wrong below l outers left y none h w = h (missing_forth none w).0

pub sizes_alike : (below : List Level) (l : Level) (outers : List (List (List ℕ))) {types : List (List ℕ)} {stars : List (List (List ℕ))} {name : Option (List ℕ)} {ts us : List Sign} (sizes : List (Option Exp)) →
    (Begins opening ts → ⊥) → SizesRead types ts sizes us →
    Alike (SuffixWanted below l stars name outers types ts) (λ y left. Completes y left below outers types l (focus.Behind (record { stars = stars; name = name; suffix = suffix_of sizes })) us)
sizes_alike below l outers {types = types} sizes none read = record { forth = λ y left s. sizes_forth (ends_behind (Outside y left below outers) y left l.specs (typed l.seen) types l.owner) none read s; back = λ y left g. sizes_back sizes read g }

pub sizes_wrong : (below : List Level) (l : Level) (outers : List (List (List ℕ))) {types : List (List ℕ)} {stars : List (List (List ℕ))} {name : Option (List ℕ)} {ts : List Sign} (left : List Sign) (y : Decl) →
    (Begins opening ts → ⊥) → ((sizes : List (Option Exp)) (us : List Sign) → SizesRead types ts sizes us → ⊥) → SuffixWanted below l stars name outers types ts y left → ⊥
sizes_wrong below l outers {types = types} left y none wrong s = no_sizes (ends_behind (Outside y left below outers) y left l.specs (typed l.seen) types l.owner) none wrong s

pub opened_alike : (below : List Level) (l : Level) (outers : List (List (List ℕ))) {types : List (List ℕ)} {stars : List (List (List ℕ))} {name : Option (List ℕ)} {ts us : List Sign} → ts ≡ opening ∷ us →
    Alike (SuffixWanted below l stars name outers types ts) (SuffixWanted below l stars name outers types (opening ∷ us))
opened_alike below l outers {types = types} {stars = stars} {name = name} q = record {
  forth = λ y left s. subst (λ v. SuffixWanted below l stars name outers types v y left) q s;
  back = λ y left s. subst (λ v. SuffixWanted below l stars name outers types v y left) (sym q) s;
}

pub empty_alike : (below : List Level) (l : Level) (outers : List (List (List ℕ))) {types : List (List ℕ)} {stars : List (List (List ℕ))} {name : Option (List ℕ)} {ts us : List Sign} → ts ≡ closing ∷ us →
    Alike (SuffixWanted below l stars name outers types (opening ∷ ts)) (λ y left. Completes y left below outers types l (focus.Behind (with_list stars name [] false)) us)
empty_alike below l outers {types = types} q = record { forth = λ y left s. empty_forth (ends_behind (Outside y left below outers) y left l.specs (typed l.seen) types l.owner) q s; back = λ y left g. empty_back q g }

pub list_alike : (below : List Level) (l : Level) (outers : List (List (List ℕ))) {types : List (List ℕ)} {stars : List (List (List ℕ))} {name : Option (List ℕ)} {ts : List Sign} → (Begins closing ts → ⊥) →
    Alike (SuffixWanted below l stars name outers types (opening ∷ ts))
    (λ y left. Completes y left (l ∷ below) (types ∷ outers) types (record { specs = []; free = true; seen = none.Nothing; owner = owner.Param stars name [] }) focus.Specifiers ts)
list_alike below l outers {types = types} shut = record {
  forth = λ y left s. param_forth (Outside y left (l ∷ below) (types ∷ outers)) y left (list_forth (ends_behind (Outside y left below outers) y left l.specs (typed l.seen) types l.owner) shut s);
  back = λ y left s. list_back (param_back (Outside y left (l ∷ below) (types ∷ outers)) y left s);
}
