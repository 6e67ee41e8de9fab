-- The steps among specifiers.
use Rattle.std.proofs.Common.{◌≡◌, ◌≢◌, ℕ, List, [], ◌∷◌, ◌++◌, Bool, true, false, refl, sym, subst, IsTrue, ◌↔◌, inl}
use Rattle.std.specs.Prelude.{Option}
use Rattle.po_tree.specs.declared.expression.Specifier.{Specifier}
use Rattle.po_tree.specs.declared.expression.Declarator.{Declarator}
use Rattle.po_tree.specs.declared.expression.Member.{Member}
use Rattle.po_tree.specs.declared.expression.Param.{Param}
use Rattle.po_tree.specs.declared.declaration.Init.{Init}
use Rattle.po_tree.specs.declared.declaration.Decl.{Decl}
use Rattle.po_tree.specs.Signs.{Sign, semicolon}
use Rattle.po_tree.specs.Expressions.{Typed, untyped}
use Rattle.po_tree.specs.Declarations.{IsTypedef}
use Rattle.po_exp_parts.specs.Places.{Begins}
use Rattle.po_exp_parts.specs.declared.seen.Seen.{Seen}
use Rattle.po_exp_parts.specs.declared.seen.Seen.TheVariants as none
use Rattle.po_exp_parts.specs.Seen.{typed}
use Rattle.po_decl_parts.specs.Specifiers.{Opens, SpecifierStands, NoSpecifier}
use Rattle.po_decl_laws.specs.Fronts.{EndsSpecifiers}
use Rattle.po_decl_steps.specs.declared.levels.Owner.{Owner}
use Rattle.po_decl_steps.specs.declared.levels.Owner.TheVariants as owner
use Rattle.po_decl_steps.specs.declared.levels.Level.{Level}
use Rattle.po_decl_steps.specs.declared.levels.Focus.TheVariants as focus
use Rattle.po_decl_steps.specs.Standing.{DeclarationStands}
use Rattle.po_decl_steps.specs.Completing.{Completes, Inner, BehindSpecifiers, Outside, is_outer}
use Rattle.po_decl_steps.specs.Steps.{Alike, NoBody}
use Rattle.po_decl_steps.proofs.Fitting.{goes_on_ends}
use Rattle.po_decl_steps.proofs.Specifiers.{Ends, specifier_forth, specifier_back, end_forth, end_back, no_specifier}
use Rattle.po_decl_steps.proofs.Members.{member_forth, member_back, member_word, word_no_brace, open_forth, open_back}
use Rattle.po_decl_steps.proofs.Declarations.{want_forth, want_back, whole_one, begin_forth, begin_back}

ends_of : (Out : Inner → List Sign → Type 0) (y : Decl) (left : List Sign) (w : Owner) → Ends (BehindSpecifiers Out y left w)
ends_of Out y left w specs seen types us g = goes_on_ends Out y left specs w g

-- one more specifier is read
pub specifier_alike : (below : List Level) (outers : List (List (List ℕ))) {types types' : List (List ℕ)} (l : Level) {free' : Bool} (seen' : Seen) {spec : Specifier} {ts us : List Sign} →
    SpecifierStands (is_outer l.owner) l.free types (typed l.seen) ts spec free' types' (typed seen') us →
    Alike (λ y left. Completes y left below outers types l focus.Specifiers ts)
    (λ y left. Completes y left below outers types' (record { specs = l.specs ++ spec ∷ []; free = free'; seen = seen'; owner = l.owner }) focus.Specifiers us)
specifier_alike below outers l seen' w = record {
  forth = λ y left s. specifier_forth l.specs (ends_of (Outside y left below outers) y left l.owner) w s;
  back = λ y left s. specifier_back l.specs w s;
}

pub none_reads : (below : List Level) (outers : List (List (List ℕ))) {types : List (List ℕ)} (l : Level) {ts : List Sign} (left : List Sign) (y : Decl) → (EndsSpecifiers types (typed l.seen) ts → ⊥) →
    NoSpecifier (is_outer l.owner) l.free types (typed l.seen) ts → NoBody (typed l.seen) ts → Completes y left below outers types l focus.Specifiers ts → ⊥
none_reads below outers l left y here wrong shut s = no_specifier l.specs (ends_of (Outside y left below outers) y left l.owner) here wrong shut s

-- a body opens
pub body_alike : (below : List Level) (outers : List (List (List ℕ))) {types : List (List ℕ)} (l : Level) {tag : Option (List ℕ)} {ts us : List Sign} → typed l.seen ≡ untyped → Opens ts tag us →
    Alike (λ y left. Completes y left below outers types l focus.Specifiers ts)
    (λ y left. Completes y left (l ∷ below) outers types (record { specs = []; free = false; seen = none.Nothing; owner = owner.Member tag [] [] }) focus.Specifiers us)
body_alike below outers l {tag = tag} {us = us} r opens = record {
  forth = λ y left s. let m = open_forth (ends_of (Outside y left below outers) y left l.owner) r opens s in member_forth (Outside y left (l ∷ below) outers) y left (word_no_brace us m.1) m.0;
  back = λ y left s. open_back r opens (word_no_brace us (member_word (Outside y left (l ∷ below) outers) y left {tag = tag} [] s)) (member_back (Outside y left (l ∷ below) outers) y left s);
}

-- the specifiers of a member or a parameter end
pub member_wants : (below : List Level) (outers : List (List (List ℕ))) {types : List (List ℕ)} {specs : List Specifier} {free : Bool} (seen : Seen) {ts : List Sign} (tag : Option (List ℕ)) (members : List Member) (declarators : List Declarator) →
    EndsSpecifiers types (typed seen) ts → (specs ≡ [] → ⊥) →
    Alike (λ y left. Completes y left below outers types (record { specs = specs; free = free; seen = seen; owner = owner.Member tag members declarators }) focus.Specifiers ts)
    (λ y left. Completes y left below outers types (record { specs = specs; free = free; seen = seen; owner = owner.Member tag members declarators }) focus.Declarator ts)
member_wants below outers {specs = specs} seen tag members declarators ends some = record {
  forth = λ y left s. (end_forth specs (ends_of (Outside y left below outers) y left (owner.Member tag members declarators)) ends s).1;
  back = λ y left d. end_back specs (some, d);
}

pub param_wants : (below : List Level) (outers : List (List (List ℕ))) {types : List (List ℕ)} {specs : List Specifier} {free : Bool} (seen : Seen) {ts : List Sign} (stars : List (List (List ℕ))) (word : Option (List ℕ)) (params : List Param) →
    EndsSpecifiers types (typed seen) ts → (specs ≡ [] → ⊥) →
    Alike (λ y left. Completes y left below outers types (record { specs = specs; free = free; seen = seen; owner = owner.Param stars word params }) focus.Specifiers ts)
    (λ y left. Completes y left below outers types (record { specs = specs; free = free; seen = seen; owner = owner.Param stars word params }) focus.Declarator ts)
param_wants below outers {specs = specs} seen stars word params ends some = record {
  forth = λ y left s. (end_forth specs (ends_of (Outside y left below outers) y left (owner.Param stars word params)) ends s).1;
  back = λ y left d. end_back specs (some, d);
}

goes_on_some : (Out : Inner → List Sign → Type 0) (y : Decl) (left : List Sign) {specs : List Specifier} (seen : Typed) (types : List (List ℕ)) (ts : List Sign) (w : Owner) → BehindSpecifiers Out y left w specs seen types ts → specs ≢ []
goes_on_some Out y left seen types ts (owner.Declaration typedef parts) g = g.0
goes_on_some Out y left seen types ts (owner.Member tag members declarators) g = g.0
goes_on_some Out y left seen types ts (owner.Param stars word params) g = g.0

-- there has to be one
pub some_specifiers : (below : List Level) (outers : List (List (List ℕ))) {types : List (List ℕ)} (l : Level) {ts : List Sign} (left : List Sign) (y : Decl) → EndsSpecifiers types (typed l.seen) ts → l.specs ≡ [] →
    Completes y left below outers types l focus.Specifiers ts → ⊥
some_specifiers below outers {types = types} l {ts = ts} left y ends none s = goes_on_some (Outside y left below outers) y left (typed l.seen) types ts l.owner (end_forth l.specs (ends_of (Outside y left below outers) y left l.owner) ends s) none

-- those of a declaration
pub part_wants : (below : List Level) (outers : List (List (List ℕ))) {types : List (List ℕ)} {specs : List Specifier} {free : Bool} (seen : Seen) (typedef : Bool) {flag : Bool} {parts : List (Declarator × Option Init)} {ts : List Sign} →
    EndsSpecifiers types (typed seen) ts → (specs ≡ [] → ⊥) → (Begins semicolon ts → ⊥) → IsTrue flag ↔ IsTypedef specs →
    Alike (λ y left. Completes y left below outers types (record { specs = specs; free = free; seen = seen; owner = owner.Declaration typedef parts }) focus.Specifiers ts)
    (λ y left. Completes y left below outers types (record { specs = specs; free = free; seen = seen; owner = owner.Declaration flag parts }) focus.Declarator ts)
part_wants below outers {specs = specs} seen typedef {flag = flag} {parts = parts} ends some none h = record {
  forth = λ y left s. want_forth (Outside y left below outers) typedef none h (end_forth specs (ends_of (Outside y left below outers) y left (owner.Declaration typedef parts)) ends s);
  back = λ y left d. end_back specs (want_back (Outside y left below outers) typedef {flag = flag} some d);
}

pub bare_whole : (below : List Level) (outers : List (List (List ℕ))) {types : List (List ℕ)} {specs : List Specifier} {free : Bool} (seen : Seen) (typedef : Bool) {parts : List (Declarator × Option Init)} {ts us : List Sign} →
    EndsSpecifiers types (typed seen) ts → (specs ≡ [] → ⊥) → ts ≡ semicolon ∷ us →
    Completes (record { specs = specs; parts = parts }) us below outers types (record { specs = specs; free = free; seen = seen; owner = owner.Declaration typedef parts }) focus.Specifiers ts ×
    ((y : Decl) (left : List Sign) → Completes y left below outers types (record { specs = specs; free = free; seen = seen; owner = owner.Declaration typedef parts }) focus.Specifiers ts →
    (y ≡ record { specs = specs; parts = parts }) × (left ≡ us))
bare_whole below outers {specs = specs} seen typedef {parts = parts} ends some q = (
  end_back specs (some, inl (q, refl)),
  λ y left s. whole_one (Outside y left below outers) typedef q (end_forth specs (ends_of (Outside y left below outers) y left (owner.Declaration typedef parts)) ends s),
)

pub ended_whole : (below : List Level) (outers : List (List (List ℕ))) {types : List (List ℕ)} (l : Level) (typedef : Bool) (parts : List (Declarator × Option Init)) {ts us : List Sign} → l.owner ≡ owner.Declaration typedef parts →
    EndsSpecifiers types (typed l.seen) ts → (l.specs ≡ [] → ⊥) → ts ≡ semicolon ∷ us →
    Completes (record { specs = l.specs; parts = parts }) us below outers types l focus.Specifiers ts ×
    ((y : Decl) (left : List Sign) → Completes y left below outers types l focus.Specifiers ts → (y ≡ record { specs = l.specs; parts = parts }) × (left ≡ us))
ended_whole below outers {types = types} l typedef parts {ts = ts} {us = us} r ends some q =
    subst (λ w. Completes (record { specs = l.specs; parts = parts }) us below outers types (record { specs = l.specs; free = l.free; seen = l.seen; owner = w }) focus.Specifiers ts ×
    ((y : Decl) (left : List Sign) → Completes y left below outers types (record { specs = l.specs; free = l.free; seen = l.seen; owner = w }) focus.Specifiers ts → (y ≡ record { specs = l.specs; parts = parts }) × (left ≡ us)))
    (sym r) (bare_whole below outers l.seen typedef ends some q)

-- what stands at the front is what completes nothing read
pub begin_alike : (types : List (List ℕ)) (signs : List Sign) →
    Alike (DeclarationStands types signs) (λ y left. Completes y left [] [] types (record { specs = []; free = true; seen = none.Nothing; owner = owner.Declaration false [] }) focus.Specifiers signs)
begin_alike types signs = record { forth = λ y left d. begin_forth (Outside y left [] []) d; back = λ y left s. begin_back (Outside y left [] []) s }
