-- The steps behind a declarator.
use Rattle.std.proofs.Common.{◌≡◌, ◌∙◌, ℕ, List, [], ◌∷◌, ◌++◌, Bool, true, false, refl, sym, ap, subst}
use Rattle.std.specs.Prelude.{Option, Some, None}
use Rattle.po_lists.proofs.Options.{one_value, none_or_some}
use Rattle.po_tree.specs.declared.expression.Member.{Member, roll-Member}
use Rattle.po_tree.specs.declared.expression.Param.{Param}
use Rattle.po_tree.specs.declared.expression.Specifier.{Specifier}
use Rattle.po_tree.specs.declared.expression.Declarator.{Declarator}
use Rattle.po_tree.specs.declared.declaration.Init.{Init}
use Rattle.po_tree.specs.declared.declaration.Decl.{Decl}
use Rattle.po_tree.specs.Signs.{Sign, comma, semicolon, equals, dots, closing, brace_end}
use Rattle.po_tree.specs.Expressions.{Typed}
use Rattle.po_exp_parts.specs.Places.{Begins}
use Rattle.po_init_read.specs.Initialisers.{StandsEnded}
use Rattle.po_exp_parts.specs.declared.seen.Seen.{Seen}
use Rattle.po_exp_parts.specs.declared.seen.Seen.TheVariants as none
use Rattle.po_exp_parts.specs.Seen.{typed}
use Rattle.po_decl_steps.specs.declared.levels.Owner.TheVariants as owner
use Rattle.po_decl_steps.specs.declared.levels.Level.{Level}
use Rattle.po_decl_steps.specs.declared.levels.Focus.TheVariants as focus
use Rattle.po_decl_steps.specs.Completing.{Completes, Outside, body, list, declares, ValueThen}
use Rattle.po_decl_steps.specs.Steps.{Alike, ValueWanted, PartsWanted, MembersWanted, DeclaratorsWanted, ParamsWanted}
use Rattle.po_decl_steps.proofs.Members.{comma_forth, comma_back, semicolon_forth, semicolon_back, member_forth, member_back, close_forth, close_back}
use Rattle.po_decl_steps.proofs.Parameters.{next_forth, next_back, closing_forth, closing_back, dots_forth, dots_back, param_forth, param_back}
use Rattle.po_decl_steps.proofs.Declarations.{OneInit, further_forth, further_back, by_flag, bare_forth, bare_back, value_forth, value_back, no_value}

-- a part of a declaration

pub declared_alike : (below : List Level) (outers : List (List (List ℕ))) {types : List (List ℕ)} {specs : List Specifier} (free : Bool) {typedef : Bool} (seen : Seen) {parts : List (Declarator × Option Init)} {item : Declarator} {name : List ℕ} {ts : List Sign} →
    item.name ≡ Some name →
    Alike (λ y left. Completes y left below outers types (record { specs = specs; free = free; seen = seen; owner = owner.Declaration typedef parts }) (focus.Behind item) ts)
    (ValueWanted specs (typed seen) typedef parts item (declares typedef name types) ts)
declared_alike below outers {types = types} {specs = specs} free {typedef = typedef} seen {parts = parts} {item = item} {name = name} {ts = ts} q = record {
  forth = λ y left p. (p.kind, subst (λ v. ValueThen specs (typed seen) (declares typedef v types) parts item ts y left) (one_value item.name p.name name p.named q) p.goes_on);
  back = λ y left p. record { kind = p.0; name = name; named = q; goes_on = p.1 };
}

pub undeclared : (below : List Level) (outers : List (List (List ℕ))) {types : List (List ℕ)} {specs : List Specifier} (free : Bool) {typedef : Bool} (seen : Seen) {parts : List (Declarator × Option Init)} {item : Declarator} {ts left : List Sign} {y : Decl} →
    item.name ≡ None → Completes y left below outers types (record { specs = specs; free = free; seen = seen; owner = owner.Declaration typedef parts }) (focus.Behind item) ts → ⊥
undeclared below outers free seen {item = item} q p = none_or_some item.name p.name q p.named

pub bare_alike : {specs : List Specifier} {seen : Typed} {typedef : Bool} {parts : List (Declarator × Option Init)} {item : Declarator} {types : List (List ℕ)} {ts : List Sign} → (Begins equals ts → ⊥) →
    Alike (ValueWanted specs seen typedef parts item types ts) (PartsWanted specs seen typedef (parts ++ (item, None) ∷ []) types ts)
bare_alike none = record { forth = λ y left v. (v.0, bare_forth none v.1); back = λ y left p. (p.0, bare_back p.1) }

pub value_alike : OneInit → {specs : List Specifier} {seen : Typed} {typedef : Bool} {parts : List (Declarator × Option Init)} {item : Declarator} {types : List (List ℕ)} {x : Init} {ts us vs : List Sign} → ts ≡ equals ∷ us → StandsEnded types us x vs →
    Alike (ValueWanted specs seen typedef parts item types ts) (PartsWanted specs seen typedef (parts ++ (item, Some x) ∷ []) types vs)
value_alike law q stands = record { forth = λ y left v. (v.0, value_forth law q stands v.1); back = λ y left p. (p.0, value_back q stands p.1) }

pub value_wrong : {specs : List Specifier} {seen : Typed} {typedef : Bool} {parts : List (Declarator × Option Init)} {item : Declarator} {types : List (List ℕ)} {ts us left : List Sign} {y : Decl} → ts ≡ equals ∷ us →
    ((x : Init) (vs : List Sign) → StandsEnded types us x vs → ⊥) → ValueWanted specs seen typedef parts item types ts y left → ⊥
value_wrong q wrong v = no_value q wrong v.1

pub further_alike : (below : List Level) (outers : List (List (List ℕ))) {types : List (List ℕ)} {specs : List Specifier} (free : Bool) {typedef : Bool} (seen : Seen) {parts : List (Declarator × Option Init)} {ts us : List Sign} → ts ≡ comma ∷ us →
    Alike (PartsWanted specs (typed seen) typedef parts types ts)
    (λ y left. Completes y left below outers types (record { specs = specs; free = free; seen = seen; owner = owner.Declaration typedef parts }) focus.Declarator us)
further_alike below outers free {typedef = typedef} seen q = record {
  forth = λ y left p. let f = further_forth q p.1 in by_flag p.0 f.sort f.part_stands;
  back = λ y left d. (d.goes_on.kind, further_back typedef q d);
}

-- a member

pub comma_alike : (below : List Level) (outers : List (List (List ℕ))) {types : List (List ℕ)} (specs : List Specifier) (free : Bool) (seen : Seen) (tag : Option (List ℕ)) (members : List Member) {declarators : List Declarator} {ts us : List Sign} → ts ≡ comma ∷ us →
    Alike (DeclaratorsWanted below outers specs (typed seen) tag members declarators types ts)
    (λ y left. Completes y left below outers types (record { specs = specs; free = free; seen = seen; owner = owner.Member tag members declarators }) focus.Declarator us)
comma_alike below outers specs free seen tag members q = record { forth = λ y left s. comma_forth q s; back = λ y left d. comma_back q d }

pub semicolon_alike : (below : List Level) (outers : List (List (List ℕ))) {types : List (List ℕ)} (specs : List Specifier) {seen : Typed} (tag : Option (List ℕ)) (members : List Member) {declarators : List Declarator} {ts us : List Sign} → ts ≡ semicolon ∷ us →
    Alike (DeclaratorsWanted below outers specs seen tag members declarators types ts)
    (MembersWanted below outers tag (members ++ roll-Member (record { specs = specs; declarators = declarators }) ∷ []) types us)
semicolon_alike below outers {types = types} specs tag members q = record {
  forth = λ y left s. semicolon_forth {Then = λ all us. MembersWanted below outers tag (members ++ roll-Member (record { specs = specs; declarators = all }) ∷ []) types us y left} q s;
  back = λ y left s. semicolon_back {Then = λ all us. MembersWanted below outers tag (members ++ roll-Member (record { specs = specs; declarators = all }) ∷ []) types us y left} q s;
}

pub closed_alike : (below : List Level) (outers : List (List (List ℕ))) {types : List (List ℕ)} (tag : Option (List ℕ)) {members : List Member} {ts us : List Sign} → ts ≡ brace_end ∷ us →
    Alike (MembersWanted below outers tag members types ts) (λ y left. Outside y left below outers (body tag members types) us)
closed_alike below outers tag q = record {
  forth = λ y left s. close_forth {Then = λ inside behind vs. Outside y left below outers (body tag inside behind) vs} q s;
  back = λ y left s. close_back {Then = λ inside behind vs. Outside y left below outers (body tag inside behind) vs} q s;
}

pub member_alike : (below : List Level) (outers : List (List (List ℕ))) {types : List (List ℕ)} (tag : Option (List ℕ)) {members : List Member} {ts : List Sign} → (Begins brace_end ts → ⊥) →
    Alike (MembersWanted below outers tag members types ts)
    (λ y left. Completes y left below outers types (record { specs = []; free = false; seen = none.Nothing; owner = owner.Member tag members [] }) focus.Specifiers ts)
member_alike below outers tag shut = record {
  forth = λ y left s. member_forth (Outside y left below outers) y left shut s;
  back = λ y left s. member_back (Outside y left below outers) y left s;
}

-- a parameter

pub next_alike : (below : List Level) (outers : List (List (List ℕ))) {types : List (List ℕ)} (stars : List (List (List ℕ))) (name : Option (List ℕ)) {params : List Param} {ts us : List Sign} → ts ≡ comma ∷ us → (Begins dots us → ⊥) →
    Alike (ParamsWanted below outers stars name params types ts)
    (λ y left. Completes y left below outers types (record { specs = []; free = true; seen = none.Nothing; owner = owner.Param stars name params }) focus.Specifiers us)
next_alike below outers stars name q shut = record {
  forth = λ y left s. param_forth (Outside y left below outers) y left (next_forth q shut s);
  back = λ y left s. next_back q (param_back (Outside y left below outers) y left s);
}

pub closing_alike : (below : List Level) (outers : List (List (List ℕ))) {types : List (List ℕ)} (stars : List (List (List ℕ))) (name : Option (List ℕ)) {params : List Param} {ts us : List Sign} → ts ≡ closing ∷ us →
    Alike (ParamsWanted below outers stars name params types ts) (λ y left. Outside y left below outers (list stars name params false) us)
closing_alike below outers stars name q = record {
  forth = λ y left s. closing_forth {Then = λ all more us. Outside y left below outers (list stars name all more) us} q s;
  back = λ y left s. closing_back {Then = λ all more us. Outside y left below outers (list stars name all more) us} q s;
}

same_rest : {us vs ws : List Sign} → us ≡ closing ∷ ws → us ≡ closing ∷ vs → vs ≡ ws
same_rest p q = cc

pub dots_alike : (below : List Level) (outers : List (List (List ℕ))) {types : List (List ℕ)} (stars : List (List (List ℕ))) (name : Option (List ℕ)) {params : List Param} {ts us vs : List Sign} → ts ≡ comma ∷ (dots ∷ us) → us ≡ closing ∷ vs →
    Alike (ParamsWanted below outers stars name params types ts) (λ y left. Outside y left below outers (list stars name params true) vs)
dots_alike below outers stars name {params = params} q r = record {
  forth = λ y left s.
      let d = dots_forth {Then = λ all more us. Outside y left below outers (list stars name all more) us} q s in
      subst (λ v. Outside y left below outers (list stars name params true) v) (sym (same_rest d.1 r)) d.2;
  back = λ y left s. dots_back {Then = λ all more us. Outside y left below outers (list stars name all more) us} (q ∙ ap (λ v. comma ∷ (dots ∷ v)) r) s;
}

pub dots_wrong : (below : List Level) (outers : List (List (List ℕ))) {types : List (List ℕ)} (stars : List (List (List ℕ))) (name : Option (List ℕ)) {params : List Param} {ts us : List Sign} (left : List Sign) (y : Decl) → ts ≡ comma ∷ (dots ∷ us) → (Begins closing us → ⊥) →
    ParamsWanted below outers stars name params types ts y left → ⊥
dots_wrong below outers stars name left y q wrong s =
    let d = dots_forth {Then = λ all more us. Outside y left below outers (list stars name all more) us} q s in wrong (subst (Begins closing) (sym d.1) refl)
