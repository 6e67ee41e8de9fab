-- Each list of an environment is its part of what is in force.
use Rattle.std.proofs.Common.{◌≡◌, ℕ, List, [], ◌∷◌, ◌++◌, map, Option, Some, None, Bool, refl, sym, ap, ◌∙◌, subst, ℤ, inl, inr, append-nil}
use Rattle.std.specs.Prelude.{◌↔◌, flat_map, Contains}
use Rattle.std.proofs.lemmas.Grind.{flat_map-append}
use Rattle.std.proofs.lemmas.List.Elements.{Contains-append_right, Contains-append_cases}
use Rattle.po_lists.proofs.Members.{has, contains, contains_map, has_from_map}
use Rattle.po_base.specs.declared.numbers.GlobalNo.{GlobalNo}
use Rattle.po_types.specs.declared.ctype.CType.{CType}
use Rattle.po_types.specs.declared.env.Env.{Env}
use Rattle.po_typed.specs.Scopes.{Meaning, type_name, constant, Tag, struct_tag, enum_tag}
use Rattle.po_typed.specs.Environments.{as_global, as_typedef, as_constant, as_struct_tag, Shows}
use Rattle.po_scopes.specs.Standing.{global_meaning, file_block}
use Rattle.po_scopes.specs.Laws.{file_of}

abbrev of_globals : List (List ℕ × (CType × Option GlobalNo)) → List (List ℕ × Meaning)
of_globals = map (λ w. (w.0, global_meaning w.1))

abbrev of_typedefs : List (List ℕ × (CType × Bool)) → List (List ℕ × Meaning)
of_typedefs = map (λ w. (w.0, type_name w.1.0 w.1.1))

abbrev of_constants : List (List ℕ × ℤ) → List (List ℕ × Meaning)
of_constants = map (λ w. (w.0, constant w.1))

abbrev of_structs : List (List ℕ × ℕ) → List (List ℕ × Tag)
of_structs = map (λ w. (w.0, struct_tag w.1))

abbrev of_enums : List (List ℕ) → List (List ℕ × Tag)
of_enums = map (λ tag. (tag, enum_tag))

abbrev enum_entry : List ℕ → List ℕ × Tag
enum_entry tag = (tag, enum_tag)

abbrev struct_entry : (List ℕ × ℕ) → List ℕ × Tag
struct_entry w = (w.0, struct_tag w.1)

one_global : (name : List ℕ) (t : CType) (n : Option GlobalNo) → as_global (name, global_meaning (t, n)) ≡ (name, (t, n)) ∷ []
one_global name t None = refl
one_global name t (Some n) = refl

no_typedef : (name : List ℕ) (t : CType) (n : Option GlobalNo) → as_typedef (name, global_meaning (t, n)) ≡ []
no_typedef name t None = refl
no_typedef name t (Some n) = refl

no_constant : (name : List ℕ) (t : CType) (n : Option GlobalNo) → as_constant (name, global_meaning (t, n)) ≡ []
no_constant name t None = refl
no_constant name t (Some n) = refl

globals_kept : (gs : List (List ℕ × (CType × Option GlobalNo))) → flat_map as_global (of_globals gs) ≡ gs
globals_kept [] = refl
globals_kept (g ∷ gs) = ap (λ z. z ++ flat_map as_global (of_globals gs)) (one_global g.0 g.1.0 g.1.1) ∙ ap (λ z. g ∷ z) (globals_kept gs)

globals_no_typedefs : (gs : List (List ℕ × (CType × Option GlobalNo))) → flat_map as_typedef (of_globals gs) ≡ []
globals_no_typedefs [] = refl
globals_no_typedefs (g ∷ gs) = ap (λ z. z ++ flat_map as_typedef (of_globals gs)) (no_typedef g.0 g.1.0 g.1.1) ∙ globals_no_typedefs gs

globals_no_constants : (gs : List (List ℕ × (CType × Option GlobalNo))) → flat_map as_constant (of_globals gs) ≡ []
globals_no_constants [] = refl
globals_no_constants (g ∷ gs) = ap (λ z. z ++ flat_map as_constant (of_globals gs)) (no_constant g.0 g.1.0 g.1.1) ∙ globals_no_constants gs

typedefs_kept : (ts : List (List ℕ × (CType × Bool))) → flat_map as_typedef (of_typedefs ts) ≡ ts
typedefs_kept [] = refl
typedefs_kept (t ∷ ts) = ap (λ z. t ∷ z) (typedefs_kept ts)

typedefs_no_globals : (ts : List (List ℕ × (CType × Bool))) → flat_map as_global (of_typedefs ts) ≡ []
typedefs_no_globals [] = refl
typedefs_no_globals (t ∷ ts) = typedefs_no_globals ts

typedefs_no_constants : (ts : List (List ℕ × (CType × Bool))) → flat_map as_constant (of_typedefs ts) ≡ []
typedefs_no_constants [] = refl
typedefs_no_constants (t ∷ ts) = typedefs_no_constants ts

constants_kept : (vs : List (List ℕ × ℤ)) → flat_map as_constant (of_constants vs) ≡ vs
constants_kept [] = refl
constants_kept (v ∷ vs) = ap (λ z. v ∷ z) (constants_kept vs)

constants_no_globals : (vs : List (List ℕ × ℤ)) → flat_map as_global (of_constants vs) ≡ []
constants_no_globals [] = refl
constants_no_globals (v ∷ vs) = constants_no_globals vs

constants_no_typedefs : (vs : List (List ℕ × ℤ)) → flat_map as_typedef (of_constants vs) ≡ []
constants_no_typedefs [] = refl
constants_no_typedefs (v ∷ vs) = constants_no_typedefs vs

structs_kept : (ts : List (List ℕ × ℕ)) → flat_map as_struct_tag (map (λ w. (w.0, struct_tag w.1)) ts) ≡ ts
structs_kept [] = refl
structs_kept (t ∷ ts) = ap (λ z. t ∷ z) (structs_kept ts)

enums_no_structs : (tags : List (List ℕ)) → flat_map as_struct_tag (map (λ tag. (tag, enum_tag)) tags) ≡ []
enums_no_structs [] = refl
enums_no_structs (tag ∷ tags) = enums_no_structs tags

three : {A B : Type 0} (f : A → List B) (xs ys zs : List A) {us vs ws : List B} → flat_map f xs ≡ us → flat_map f ys ≡ vs → flat_map f zs ≡ ws → flat_map f (xs ++ (ys ++ zs)) ≡ us ++ (vs ++ ws)
three f xs ys zs {us = us} {vs = vs} p q r =
    flat_map-append f xs (ys ++ zs) ∙ ap (λ z. z ++ flat_map f (ys ++ zs)) p
    ∙ ap (λ z. us ++ z) (flat_map-append f ys zs ∙ ap (λ z. z ++ flat_map f zs) q ∙ ap (λ z. vs ++ z) r)

module _ (env : Env) where
  no_struct_enum : (tag : List ℕ) → Contains (of_structs env.tags) (enum_entry tag) → ⊥
  no_struct_enum tag h =
      let r = has_from_map struct_entry env.tags (enum_entry tag) (has (of_structs env.tags) (enum_entry tag) h) in
      let e : struct_tag r.0.1 ≡ enum_tag = ap (λ z. z.1) r.2 in cc

  enum_back : (tag : List ℕ) → Contains (of_enums env.enums) (enum_entry tag) → Contains env.enums tag
  enum_back tag h =
      let r = has_from_map enum_entry env.enums (enum_entry tag) (has (of_enums env.enums) (enum_entry tag) h) in
      let e : r.0 ≡ tag = ap (λ z. z.0) r.2 in subst (Contains env.enums) e (contains env.enums r.0 r.1)

  enums_shown : (tag : List ℕ) → Contains env.enums tag ↔ Contains (file_block env).tags (enum_entry tag)
  enums_shown tag = (
    (λ h. Contains-append_right (of_structs env.tags) (of_enums env.enums) (enum_entry tag) (contains_map enum_entry env.enums tag h)),
    (λ h. elim (Contains-append_cases (of_structs env.tags) (of_enums env.enums) (enum_entry tag) h) [
      | inl k ↦ absurd (no_struct_enum tag k)
      | inr k ↦ enum_back tag k
    ]),
  )

  pub shows : Shows env (file_of env)
  shows = record {
    block = file_block env;
    one_scope = refl;
    target = refl;
    structs = refl;
    members = refl;
    names = refl;
    globals = sym (three as_global (of_globals env.globals) (of_typedefs env.typedefs) (of_constants env.constants) (globals_kept env.globals) (typedefs_no_globals env.typedefs) (constants_no_globals env.constants) ∙ append-nil env.globals);
    typedefs = sym (three as_typedef (of_globals env.globals) (of_typedefs env.typedefs) (of_constants env.constants) (globals_no_typedefs env.globals) (typedefs_kept env.typedefs) (constants_no_typedefs env.constants) ∙ append-nil env.typedefs);
    constants = sym (three as_constant (of_globals env.globals) (of_typedefs env.typedefs) (of_constants env.constants) (globals_no_constants env.globals) (typedefs_no_constants env.typedefs) (constants_kept env.constants));
    tags = sym (flat_map-append as_struct_tag (of_structs env.tags) (of_enums env.enums) ∙ ap (λ z. z ++ flat_map as_struct_tag (of_enums env.enums)) (structs_kept env.tags) ∙ ap (λ z. env.tags ++ z) (enums_no_structs env.enums) ∙ append-nil env.tags);
    enums = enums_shown;
    objects = refl;
    initialised = λ name. ((λ h. h), (λ h. h));
  }
