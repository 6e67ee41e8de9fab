-- A head with a semicolon behind it is a declaration of one declarator without an initialiser, and the reverse.
use Rattle.std.proofs.Common.{◌≡◌, ◌∙◌, ℕ, ◌≤◌, ◌<◌, ◌+◌, Bool, true, false, List, [], ◌∷◌, ◌++◌, map, flat_map, length, drop, take, cond, zero, suc, sym, subst, ap, get_or, refl, ◌⊎◌, inl, inr, Some, None, arith, codes, append_assoc, append-nil}
use Rattle.std.specs.Prelude.{Contains, Option}
use Rattle.std.proofs.lemmas.List.{append_cancel_right, take_all, length-take, length_push, map-append}
use Rattle.po_base.specs.declared.token.Token.{Token}
use Rattle.po_tree.specs.declared.expression.Specifier.{Specifier}
use Rattle.po_tree.specs.declared.expression.Specifier.TheVariants as sp
use Rattle.po_tree.specs.declared.expression.Suffix.TheVariants as su
use Rattle.po_tree.specs.declared.expression.Declarator.{Declarator}
use Rattle.po_tree.specs.declared.expression.Param.{Param}
use Rattle.po_tree.specs.declared.declaration.Init.{Init}
use Rattle.po_tree.specs.declared.declaration.Decl.{Decl}
use Rattle.po_tree.specs.Signs.{Sign, sign_of, word, brace, closing, comma, dots, semicolon}
use Rattle.po_tree.specs.Printing.{flat_specifier, flat_suffix, flat_declarator, flat_decl, prints_star, with_commas}
use Rattle.po_tree.specs.Heights.{decl_height}
use Rattle.po_tree.specs.Expressions.{Typed}
use Rattle.po_tree.specs.Declarations as de
use Rattle.po_tree.specs.Declarations.{without, Specs, IsDeclarator, IsTypedef, Declares, new_type, other as other_word, Parts, no_more_parts, part, Declared, declared}
use Rattle.po_tree.proofs.Sets.{none_contained, first_or_later, is_first, is_later, same_or}
use Rattle.po_exp_parts.specs.Places.{signs_between}
use Rattle.po_decl_laws.proofs.Layers.{flat_declarator-all, flat_suffix-Params}
use Rattle.po_decl_laws.specs.Parts.{flat_param}
use Rattle.po_decl_laws.proofs.One.{declarator_named, some_same}
use Rattle.po_decl_laws.proofs.OneDeclaration.{one_declared}
use Rattle.po_decl_steps.specs.Standing.{DeclarationStands}
use Rattle.po_fun_heads.specs.Braces.{is_word, BracesFollow, ends_in_word, OpensBody}
use Rattle.po_fun_heads.specs.Heads.{function_declarator, as_declaration, IsHead, head, HeadStands}
use Rattle.po_fun_heads.proofs.Following.{follow-append, one_opening}
use Rattle.po_fun_heads.proofs.FollowingInTrees.{specifier_follows, declarator_follows}

-- whether `typedef` is among the specifiers

at_word : (text : List ℕ) (rest : List Specifier) → IsTypedef rest ⊎ (IsTypedef rest → ⊥) → IsTypedef (sp.Word text ∷ rest) ⊎ (IsTypedef (sp.Word text ∷ rest) → ⊥)
at_word text rest (inl c) = inl (is_later (sp.Word text) rest (sp.Word (codes "typedef")) c)
at_word text rest (inr n) = elim (same_or text (codes "typedef")) [
  | inl e ↦ inl (subst (λ t. Contains (sp.Word text ∷ rest) (sp.Word t)) e (is_first (sp.Word text) rest))
  | inr m ↦ inr (λ c. elim (first_or_later (sp.Word text) rest (sp.Word (codes "typedef")) c) [ inl e ↦ m cc | inr r ↦ n r ])
]

at_other : (s : Specifier) (rest : List Specifier) → (s ≡ sp.Word (codes "typedef") → ⊥) → IsTypedef rest ⊎ (IsTypedef rest → ⊥) → IsTypedef (s ∷ rest) ⊎ (IsTypedef (s ∷ rest) → ⊥)
at_other s rest other (inl c) = inl (is_later s rest (sp.Word (codes "typedef")) c)
at_other s rest other (inr n) = inr (λ c. elim (first_or_later s rest (sp.Word (codes "typedef")) c) [ inl e ↦ other e | inr r ↦ n r ])

decide_typedef : {outer free : Bool} {types behind : List (List ℕ)} {seen sort : Typed} {specs : List Specifier} → Specs outer free types seen specs behind sort → IsTypedef specs ⊎ (IsTypedef specs → ⊥)
decide_typedef (de.no_more_specs outer free types seen) = inr (λ c. none_contained (sp.Word (codes "typedef")) c)
decide_typedef (de.storage_class outer types types' seen seen' text rest c w) = at_word text rest (decide_typedef w)
decide_typedef (de.inline_word outer free types types' seen seen' rest is w) = at_word (codes "inline") rest (decide_typedef w)
decide_typedef (de.qualifier outer free types types' seen seen' text rest c w) = at_word text rest (decide_typedef w)
decide_typedef (de.type_word outer free types types' seen seen' text rest c t w) = at_word text rest (decide_typedef w)
decide_typedef (de.typedef_name outer free types types' seen' name rest is c w) = at_other (sp.Named name) rest (λ q. cc) (decide_typedef w)
decide_typedef (de.struct_tag outer free types types' seen' tag rest is w) = at_other (sp.Struct (Some tag) None) rest (λ q. cc) (decide_typedef w)
decide_typedef (de.struct_body outer free types inner types' seen' tag m ms rest is inside w) = at_other (sp.Struct tag (Some (m ∷ ms))) rest (λ q. cc) (decide_typedef w)
decide_typedef (de.enum_tag outer free types types' seen' tag rest is w) = at_other (sp.Enum (Some tag) None false) rest (λ q. cc) (decide_typedef w)
decide_typedef (de.enum_body outer free more types inner types' seen' tag one items rest is inside w) = at_other (sp.Enum tag (Some (one ∷ items)) more) rest (λ q. cc) (decide_typedef w)

-- the names behind the word of a head
record Behind (specs : List Specifier) (name : List ℕ) (types : List (List ℕ)) : Type 0 where
  pub names : List (List ℕ)
  pub declares : Declares specs name types names

behind_word : {outer free : Bool} {types own : List (List ℕ)} {seen sort : Typed} {specs : List Specifier} (name : List ℕ) → Specs outer free types seen specs own sort → Behind specs name own
behind_word {own = own} name w = elim (decide_typedef w) [
  | inl is ↦ record { names = name ∷ own; declares = new_type is }
  | inr n ↦ record { names = without name own; declares = other_word n }
]

-- the declaration that a head is

abbrev pub head_signs : List Specifier → Declarator → List Sign
head_signs specs d = flat_map flat_specifier specs ++ flat_declarator d

printed_as : (specs : List Specifier) (d : Declarator) → flat_decl (as_declaration specs d) ≡ head_signs specs d ++ semicolon ∷ []
printed_as specs d =
    let all : List Sign = flat_map flat_specifier specs in
    ap (λ v. all ++ (v ++ semicolon ∷ [])) (append-nil (flat_declarator d ++ []) ∙ append-nil (flat_declarator d)) ∙ sym (append_assoc all (flat_declarator d) (semicolon ∷ []))

stands_as : {types : List (List ℕ)} {signs us : List Sign} {specs : List Specifier} {d : Declarator} {inside : List (List ℕ)} → IsHead types specs d inside →
    decl_height (as_declaration specs d) ≤ 256 → signs ≡ flat_decl (as_declaration specs d) ++ us → DeclarationStands types signs (as_declaration specs d) us
stands_as {types} (head own inner seen spec specs name stars params more w is) low printed =
    let b = behind_word name w in
    record {
      behind = b.names;
      formed = declared types own b.names seen spec specs _ w (part own inner b.names b.names name _ [] is b.declares (no_more_parts b.names));
      nested = low;
      printed = printed;
    }

pub head_declared : {types : List (List ℕ)} {signs left : List Sign} {specs : List Specifier} {d : Declarator} {inside : List (List ℕ)} → HeadStands types signs specs d inside left →
    DeclarationStands types (head_signs specs d ++ semicolon ∷ []) (as_declaration specs d) []
head_declared {specs = specs} {d = d} h = stands_as h.formed (omega (arith, h.nested)) (sym (printed_as specs d) ∙ sym (append-nil (flat_decl (as_declaration specs d))))

-- behind a head the body opens

ends_behind : (xs ys : List Sign) → ((b : Bool) → ends_in_word b ys ≡ false) → (b : Bool) → ends_in_word b (xs ++ ys) ≡ false
ends_behind [] ys h b = h b
ends_behind (x ∷ xs) ys h b = ends_behind xs ys h (is_word x)

suffix_ends : (params : List Param) (more b : Bool) → ends_in_word b (flat_suffix (su.Params params more)) ≡ false
suffix_ends params more b = rw (flat_suffix-Params params more) (ends_behind (with_commas (map flat_param params) ++ cond more (comma ∷ dots ∷ []) []) (closing ∷ []) (λ b. refl) false)

head_ends : {types : List (List ℕ)} {specs : List Specifier} {d : Declarator} {inside : List (List ℕ)} → IsHead types specs d inside → ends_in_word false (head_signs specs d) ≡ false
head_ends (head own inner seen spec specs name stars params more w is) =
    ends_behind (flat_map flat_specifier (spec ∷ specs)) (flat_declarator (record { stars = stars; name = Some name; suffix = su.Params params more }))
    (λ b. rw (flat_declarator-all stars (Some name) (su.Params params more)) (ends_behind (flat_map prints_star stars) (word name ∷ flat_suffix (su.Params params more)) (λ b. suffix_ends params more true) b)) false

specs_follow : (specs : List Specifier) → BracesFollow false (flat_map flat_specifier specs)
specs_follow [] = tt
specs_follow (s ∷ specs) = follow-append false (flat_specifier s) (flat_map flat_specifier specs) (specifier_follows s) (specs_follow specs)

pub head_opens : {types : List (List ℕ)} {signs left : List Sign} {specs : List Specifier} {d : Declarator} {inside : List (List ℕ)} → HeadStands types signs specs d inside left →
    OpensBody signs (head_signs specs d) left
head_opens {left = left} {specs = specs} {d = d} h = record {
  parted = h.printed ∙ sym (append_assoc (flat_map flat_specifier specs) (flat_declarator d) (brace ∷ left));
  follow = follow-append false (flat_map flat_specifier specs) (flat_declarator d) (specs_follow specs) (declarator_follows d);
  ends = head_ends h.formed;
}

-- a declaration of one declarator with parameters is a head

of_declared : {types behind : List (List ℕ)} {specs : List Specifier} {d : Declarator} (stars : List (List (List ℕ))) (name : List ℕ) (params : List Param) (more : Bool) →
    Declared types (as_declaration specs d) behind → d ≡ function_declarator stars name params more → (inside : List (List ℕ)) × IsHead types specs d inside
of_declared {types} {d = d} stars name params more (declared types' own final seen spec specs parts w (part own' inner mid final' name' d' rest is declares v)) q =
    let same : name' ≡ name = some_same q (declarator_named is) refl in
    subst (λ v. (inside : List (List ℕ)) × IsHead types (spec ∷ specs) v inside) (sym q)
    (without name inner, head own inner seen spec specs name stars params more w (subst (λ v. IsDeclarator own seen v (function_declarator stars name params more) inner) same (subst (λ v. IsDeclarator own seen name' v inner) q is)))

pub head_of_declaration : {types : List (List ℕ)} {signs hs left : List Sign} {specs : List Specifier} {d : Declarator} (stars : List (List (List ℕ))) (name : List ℕ) (params : List Param) (more : Bool) →
    OpensBody signs hs left → DeclarationStands types (hs ++ semicolon ∷ []) (as_declaration specs d) [] → d ≡ function_declarator stars name params more →
    (inside : List (List ℕ)) × HeadStands types signs specs d inside left
head_of_declaration {hs = hs} {left = left} {specs = specs} {d = d} stars name params more o w q =
    let h = of_declared stars name params more w.formed q in
    let same : hs ≡ head_signs specs d = append_cancel_right hs (head_signs specs d) (semicolon ∷ []) (w.printed ∙ append-nil (flat_decl (as_declaration specs d)) ∙ printed_as specs d) in (
      h.0,
      record {
        formed = h.1;
        nested = omega (arith, w.nested);
        printed = o.parted ∙ ap (λ v. v ++ (brace ∷ left)) same ∙ append_assoc (flat_map flat_specifier specs) (flat_declarator d) (brace ∷ left);
      },
    )

-- the declarator of a head has parameters
pub record IsFunctionDeclarator (d : Declarator) : Type 0 where
  pub stars : List (List (List ℕ))
  pub name : List ℕ
  pub params : List Param
  pub more : Bool
  pub is : d ≡ function_declarator stars name params more

pub head_declarator : {types : List (List ℕ)} {specs : List Specifier} {d : Declarator} {inside : List (List ℕ)} → IsHead types specs d inside → IsFunctionDeclarator d
head_declarator (head own inner seen spec specs name stars params more w is) = record { stars = stars; name = name; params = params; more = more; is = refl }

-- no declaration of one declarator with parameters, and nothing else
abbrev pub NoneRead : List (List ℕ) → List Sign → Type 0
NoneRead types signs = (specs : List Specifier) (stars : List (List (List ℕ))) (name : List ℕ) (params : List Param) (more : Bool) →
    DeclarationStands types signs (as_declaration specs (function_declarator stars name params more)) [] → ⊥

-- so no head stands where none was read
pub none_read : {types : List (List ℕ)} {signs hs left : List Sign} → OpensBody signs hs left → NoneRead types (hs ++ semicolon ∷ []) →
    (specs : List Specifier) (d : Declarator) (inside : List (List ℕ)) (rest : List Sign) → HeadStands types signs specs d inside rest → ⊥
none_read {types} {signs} {hs} {left} o none specs d inside rest h =
    let same = one_opening signs hs left (head_signs specs d) rest o (head_opens h) in
    let f = head_declarator h.formed in
    let w = subst (λ v. DeclarationStands types (v ++ semicolon ∷ []) (as_declaration specs d) []) (sym same.0) (head_declared h) in
    none specs f.stars f.name f.params f.more (subst (λ v. DeclarationStands types (hs ++ semicolon ∷ []) (as_declaration specs v) []) f.is w)

-- no head stands where no body opens
pub none_opens : {types : List (List ℕ)} {signs : List Sign} → ((hs left : List Sign) → OpensBody signs hs left → ⊥) →
    (specs : List Specifier) (d : Declarator) (inside : List (List ℕ)) (rest : List Sign) → HeadStands types signs specs d inside rest → ⊥
none_opens none specs d inside rest h = none (head_signs specs d) rest (head_opens h)

-- one declaration, nothing left behind it, is the one that was read
pub one_whole : {types : List (List ℕ)} {signs : List Sign} {d e : Decl} → DeclarationStands types signs d [] → DeclarationStands types signs e [] → d ≡ e
one_whole w v = (one_declared w.formed v.formed w.nested v.nested [] [] (sym w.printed ∙ v.printed)).trees_same

same_part : {d e : Declarator} → ◌≡◌ {A = List (Declarator × Option Init)} ((d, None) ∷ []) ((e, None) ∷ []) → d ≡ e
same_part {d} q = ap (λ (v : List (Declarator × Option Init)). (get_or v 0 (d, None)).0) q

-- what was read has more or other parts
pub other_parts : {types : List (List ℕ)} {signs : List Sign} {e : Decl} → DeclarationStands types signs e [] → ((d : Declarator) → e.parts ≡ (d, None) ∷ [] → ⊥) → NoneRead types signs
other_parts w none specs stars name params more v = none (function_declarator stars name params more) (ap (λ (z : Decl). z.parts) (one_whole w v))

-- or a declarator without parameters
pub no_function : {types : List (List ℕ)} {signs : List Sign} {e : Decl} {d : Declarator} → DeclarationStands types signs e [] → e.parts ≡ (d, None) ∷ [] →
    ((stars : List (List (List ℕ))) (name : List ℕ) (params : List Param) (more : Bool) → d ≡ function_declarator stars name params more → ⊥) → NoneRead types signs
no_function w parts none specs stars name params more v = none stars name params more (same_part (sym parts ∙ ap (λ (z : Decl). z.parts) (one_whole w v)))

-- or just that
pub function_read : {types : List (List ℕ)} {signs : List Sign} {specs : List Specifier} {parts : List (Declarator × Option Init)} {d : Declarator} (stars : List (List (List ℕ))) (name : List ℕ) (params : List Param) (more : Bool) →
    DeclarationStands types signs (record { specs = specs; parts = parts }) [] → parts ≡ (d, None) ∷ [] → d ≡ function_declarator stars name params more →
    DeclarationStands types signs (as_declaration specs (function_declarator stars name params more)) []
function_read {types} {signs} {specs} stars name params more w parts q =
    subst (λ v. DeclarationStands types signs (as_declaration specs v) []) q (subst (λ v. DeclarationStands types signs (record { specs = specs; parts = v }) []) parts w)

-- all tokens of a list, with a semicolon behind them

pub all_signs : (tokens : List Token) (count : ℕ) → length tokens ≤ count → signs_between tokens 0 count ≡ map sign_of tokens
all_signs tokens count few = ap (map sign_of) (take_all count tokens few)

some_left : (xs : List Token) (at : ℕ) → at < length xs → map sign_of (drop at xs) ≡ [] → ⊥
some_left [] at less q = absurd (omega (arith, less))
some_left (x ∷ xs) zero less q = cc
some_left (x ∷ xs) (suc at) less q = some_left xs at (omega (arith, less)) q

pub signs_left : (tokens : List Token) (at count : ℕ) → at < count → count ≤ length tokens → signs_between tokens at count ≡ [] → ⊥
signs_left tokens at count less few q = some_left (take count tokens) at (let size = length-take count tokens in omega (arith, size)) q

pub whole_signs : (tokens list : List Token) (token : Token) (count : ℕ) → list ≡ tokens ++ token ∷ [] → sign_of token ≡ semicolon → count ≡ length tokens + 1 →
    signs_between list 0 count ≡ map sign_of tokens ++ semicolon ∷ []
whole_signs tokens list token count q is counted =
    let size = ap length q ∙ length_push tokens token in
    all_signs list count (omega (arith, size, counted)) ∙ ap (map sign_of) q ∙ map-append sign_of tokens (token ∷ []) ∙ ap (λ v. map sign_of tokens ++ v ∷ []) is

-- where a declaration stands with more behind it, none stands with nothing behind it
pub none_whole : {types : List (List ℕ)} {signs us : List Sign} {d : Decl} → DeclarationStands types signs d us → (us ≡ [] → ⊥) → (e : Decl) → DeclarationStands types signs e [] → ⊥
none_whole {us = us} w more e v = more (one_declared w.formed v.formed w.nested v.nested us [] (sym w.printed ∙ v.printed)).left_same
