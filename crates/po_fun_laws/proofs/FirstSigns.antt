-- The first sign of a statement tells its rule; behind a name, so does the second. Expressions and declarations begin otherwise.
use Rattle.std.proofs.Common.{◌≡◌, ◌∙◌, ℕ, List, [], ◌∷◌, ◌++◌, map, flat_map, Bool, true, false, cond, refl, sym, ap, subst, arith, codes, bytes_eq, true≢false, ◌⊎◌, inl, inr, not}
use Rattle.std.specs.Prelude.{Contains, Option, Some}
use Rattle.std.proofs.lemmas.Bool.{or_parts, not-true}
use Rattle.std.proofs.lemmas.Slice.Eq.{bytes_eq-Decides}
use Rattle.po_lists.proofs.Booleans.{false_unless_true}
use Rattle.po_base.specs.declared.token.TokenKind.{TokenKind}
use Rattle.po_base.specs.declared.token.TokenKind.TheVariants as k
use Rattle.po_tree.specs.declared.operator.Prefix.{Prefix}
use Rattle.po_tree.specs.declared.operator.Prefix.TheVariants as p
use Rattle.po_tree.specs.declared.declaration.Init.{Init}
use Rattle.po_tree.specs.declared.declaration.Decl.{Decl}
use Rattle.po_tree.specs.declared.expression.Exp.{Exp}
use Rattle.po_tree.specs.declared.expression.Specifier.{Specifier}
use Rattle.po_tree.specs.declared.expression.Declarator.{Declarator}
use Rattle.po_tree.specs.Signs.{Sign, word, punct, colon}
use Rattle.po_tree.specs.Words.{IsName, keywords, storage_classes, type_words, qualifiers}
use Rattle.po_tree.specs.Operators.{prefix_sign}
use Rattle.po_tree.specs.Printing.{flat_specifier, flat_declarator, flat_decl, prints_star}
use Rattle.po_tree.specs.Layers.{flat_specifier-Word, flat_specifier-Named, flat_specifier-struct, flat_specifier-enum}
use Rattle.po_tree.specs.Expressions.{Typed, IsLeaf, variable, integer, one_character}
use Rattle.po_tree.specs.Declarations as de
use Rattle.po_tree.specs.Declarations.{Specs, IsDeclarator, Parts, Declared}
use Rattle.po_exp_parts.specs.Places.{Begins, BeginsWord}
use Rattle.po_exp_parts.specs.Continuing.{GoesOn, by_continuation}
use Rattle.po_exp_parts.specs.Reading.{Reads, begun, Operand, leaf, strings, paren, unary, size_of_type, cast, Climbs, stop, more}
use Rattle.po_exp_parts.proofs.Keywords.{is_among, each_tested, found_among, among_found, among_none, within, sizeof_name}
use Rattle.po_exp_read.proofs.Comparing.{goes_on-colon}
use Rattle.po_decl_parts.proofs.PrintedSpecifiers.{flat_specifier-body}
use Rattle.po_decl_laws.proofs.Layers.{flat_specifier-members}
use Rattle.po_decl_laws.proofs.Fronts.{flat_declarator-before}
use Rattle.po_decl_laws.proofs.Behind.{first_byte, some_specs_word, parts_front, part_first, initialised_first, flat_decl-before}

-- the rules of statements, what ends a list of statements or stands behind one, and what all else begins
pub data Kind : Type 0 where
  by_brace : Kind
  by_semicolon : Kind
  by_if : Kind
  by_while : Kind
  by_do : Kind
  by_for : Kind
  by_switch : Kind
  by_case : Kind
  by_default : Kind
  by_label : Kind
  by_goto : Kind
  by_break : Kind
  by_continue : Kind
  by_return : Kind
  by_end : Kind
  otherwise : Kind

abbrev kinds_of_words : List (List ℕ × Kind)
kinds_of_words =
    (codes "if", by_if) ∷ (codes "while", by_while) ∷ (codes "do", by_do) ∷ (codes "for", by_for) ∷ (codes "switch", by_switch) ∷ (codes "case", by_case) ∷
    (codes "default", by_default) ∷ (codes "goto", by_goto) ∷ (codes "break", by_break) ∷ (codes "continue", by_continue) ∷ (codes "return", by_return) ∷
    (codes "else", by_end) ∷ []

abbrev statement_words : List (List ℕ)
statement_words = map (λ row. row.0) kinds_of_words

-- the kind of a word, or this other one where it isn't listed
abbrev kind_in : List (List ℕ × Kind) → List ℕ → Kind → Kind
kind_in [] text other = other
kind_in (row ∷ rows) text other = cond (bytes_eq text row.0) row.1 (kind_in rows text other)

abbrev is_colon : TokenKind → List ℕ → Bool
is_colon k.Punct text = bytes_eq text (codes ":")
is_colon _ text = false

abbrev colon_first : List Sign → Bool
colon_first [] = false
colon_first (sign ∷ ts) = is_colon sign.kind sign.text

-- a name begins a label before a colon
abbrev kind_of_name : List ℕ → List Sign → Kind
kind_of_name text ts = cond (is_among keywords text) otherwise (cond (colon_first ts) by_label otherwise)

abbrev kind_of_sign : TokenKind → List ℕ → List Sign → Kind
kind_of_sign k.Word text ts = kind_in kinds_of_words text (kind_of_name text ts)
kind_of_sign k.Punct text ts = cond (bytes_eq text (codes "{")) by_brace (cond (bytes_eq text (codes ";")) by_semicolon (cond (bytes_eq text (codes "}")) by_end otherwise))
kind_of_sign _ text ts = otherwise

-- what the first of these signs begins
abbrev pub kind_first : List Sign → Kind
kind_first [] = otherwise
kind_first (sign ∷ ts) = kind_of_sign sign.kind sign.text ts

-- words

kind_row : (here there : Bool) (kind other rest : Kind) → (here ≡ false) × (there ≡ false) → (there ≡ false → rest ≡ other) → cond here kind rest ≡ other
kind_row true there kind other rest h f = absurd (true≢false h.0)
kind_row false there kind other rest h f = f h.1

kind_none : (rows : List (List ℕ × Kind)) (text : List ℕ) (other : Kind) → is_among (map (λ row. row.0) rows) text ≡ false → kind_in rows text other ≡ other
kind_none [] text other h = refl
kind_none (row ∷ rows) text other h =
    kind_row (bytes_eq text row.0) (is_among (map (λ row. row.0) rows) text) row.1 other (kind_in rows text other) (or_parts (bytes_eq text row.0) (is_among (map (λ row. row.0) rows) text) h)
    (kind_none rows text other)

name_listed : {name : List ℕ} → IsName name → is_among statement_words name ≡ false
name_listed {name = name} is = among_none statement_words name (λ h. is (within statement_words keywords name refl h))

name_kind : {name : List ℕ} (ts : List Sign) → IsName name → kind_first (word name ∷ ts) ≡ cond (colon_first ts) by_label otherwise
name_kind {name = name} ts is =
    kind_none kinds_of_words name (kind_of_name name ts) (name_listed is) ∙ ap (λ b. cond b otherwise (cond (colon_first ts) by_label otherwise)) (among_none keywords name is)

pub label_kind : {name : List ℕ} (ts : List Sign) → IsName name → kind_first (word name ∷ (colon ∷ ts)) ≡ by_label
label_kind ts is = name_kind (colon ∷ ts) is

no_colon_sign : (kind : TokenKind) (text : List ℕ) → (record { kind = kind; text = text } ≡ colon → ⊥) → is_colon kind text ≡ false
no_colon_sign k.Punct text none = false_unless_true (bytes_eq text (codes ":")) (λ h. none (ap punct ((bytes_eq-Decides text (codes ":")).0 h)))
no_colon_sign k.Word text none = refl
no_colon_sign k.Number text none = refl
no_colon_sign k.Char text none = refl
no_colon_sign k.Str text none = refl

no_colon_first : (ts : List Sign) → (Begins colon ts → ⊥) → colon_first ts ≡ false
no_colon_first [] none = refl
no_colon_first (sign ∷ ts) none = no_colon_sign sign.kind sign.text none

plain_name_kind : {name : List ℕ} (ts : List Sign) → IsName name → (Begins colon ts → ⊥) → kind_first (word name ∷ ts) ≡ otherwise
plain_name_kind ts is none = name_kind ts is ∙ ap (λ b. cond b by_label otherwise) (no_colon_first ts none)

-- the keywords with which a declaration begins (6.7)
abbrev declaring_words : List (List ℕ)
declaring_words = codes "struct" ∷ codes "enum" ∷ codes "inline" ∷ storage_classes ++ qualifiers ++ type_words

declaring_kind : {text : List ℕ} (ts : List Sign) → Contains declaring_words text → kind_first (word text ∷ ts) ≡ otherwise
declaring_kind {text = text} ts h =
    kind_none kinds_of_words text (kind_of_name text ts) (not-true (is_among statement_words text) (each_tested (λ x. not (is_among statement_words x)) declaring_words text h.0 refl h.1 h.2)) ∙
    ap (λ b. cond b otherwise (cond (colon_first ts) by_label otherwise)) (among_found keywords text (within declaring_words keywords text refl h))

-- expressions

climbs_no_colon : {types : List (List ℕ)} {l m : ℕ} {x y : Exp} {us vs : List Sign} → Climbs types l m x us y vs → (Begins colon vs → ⊥) → Begins colon us → ⊥
climbs_no_colon (stop l m x ts) none b = none b
climbs_no_colon (more l m c t x y ts us vs used low high w v) none b = goes_on-colon l ts (subst (λ s. GoesOn l (s ∷ ts)) b (by_continuation c ts used low))

leaf_kind : {types : List (List ℕ)} {x : Exp} {sign : Sign} (ts : List Sign) → IsLeaf types x sign → (Begins colon ts → ⊥) → kind_first (sign ∷ ts) ≡ otherwise
leaf_kind ts (variable name h g) none = plain_name_kind ts h none
leaf_kind ts (integer text h) none = refl
leaf_kind ts (one_character text h) none = refl

prefix_kind : (p : Prefix) (ts : List Sign) → kind_first (prefix_sign p ∷ ts) ≡ otherwise
prefix_kind p.Increment ts = refl
prefix_kind p.Decrement ts = refl
prefix_kind p.Address ts = refl
prefix_kind p.Indirection ts = refl
prefix_kind p.Plus ts = refl
prefix_kind p.Minus ts = refl
prefix_kind p.Complement ts = refl
prefix_kind p.Not ts = refl
prefix_kind p.Size ts = refl

operand_kind : {types : List (List ℕ)} {m : ℕ} {ts us : List Sign} {x : Exp} → Operand types ts m x us → (Begins colon us → ⊥) → kind_first ts ≡ otherwise
operand_kind (leaf x sign ts w) none = leaf_kind ts w none
operand_kind (strings text texts ts us all w) none = refl
operand_kind (paren x ts us w) none = refl
operand_kind (unary p x ts us w) none = prefix_kind p ts
operand_kind (size_of_type t ts us w) none = refl
operand_kind (cast t x ts us vs w v) none = refl

-- an expression with no colon behind it begins no statement of another kind
pub expression_kind : {types : List (List ℕ)} {l : ℕ} {ts us : List Sign} {x : Exp} → Reads types l ts x us → (Begins colon us → ⊥) → kind_first ts ≡ otherwise
expression_kind (begun l m x y ts us vs h w c) none = operand_kind w (climbs_no_colon c none)

-- the word at the front of an expression is a name that is no typedef name, or `sizeof`
abbrev ExpressionWord : List (List ℕ) → List ℕ → Type 0
ExpressionWord types text = (IsName text × (Contains types text → ⊥)) ⊎ (text ≡ codes "sizeof")

prefix_word : (p : Prefix) (types : List (List ℕ)) (text : List ℕ) → prefix_sign p ≡ word text → ExpressionWord types text
prefix_word p.Increment types text q = let kinds : k.Punct ≡ k.Word = ap (λ v. v.kind) q in absurd cc
prefix_word p.Decrement types text q = let kinds : k.Punct ≡ k.Word = ap (λ v. v.kind) q in absurd cc
prefix_word p.Address types text q = let kinds : k.Punct ≡ k.Word = ap (λ v. v.kind) q in absurd cc
prefix_word p.Indirection types text q = let kinds : k.Punct ≡ k.Word = ap (λ v. v.kind) q in absurd cc
prefix_word p.Plus types text q = let kinds : k.Punct ≡ k.Word = ap (λ v. v.kind) q in absurd cc
prefix_word p.Minus types text q = let kinds : k.Punct ≡ k.Word = ap (λ v. v.kind) q in absurd cc
prefix_word p.Complement types text q = let kinds : k.Punct ≡ k.Word = ap (λ v. v.kind) q in absurd cc
prefix_word p.Not types text q = let kinds : k.Punct ≡ k.Word = ap (λ v. v.kind) q in absurd cc
prefix_word p.Size types text q = inr (sym (ap (λ v. v.text) q))

leaf_word : {types : List (List ℕ)} {x : Exp} {sign : Sign} (text : List ℕ) → IsLeaf types x sign → sign ≡ word text → ExpressionWord types text
leaf_word {types = types} text (variable name h g) q = let same : name ≡ text = ap (λ v. v.text) q in subst (ExpressionWord types) same (inl (h, g))
leaf_word text (integer digits h) q = let kinds : k.Number ≡ k.Word = ap (λ v. v.kind) q in absurd cc
leaf_word text (one_character other h) q = let kinds : k.Char ≡ k.Word = ap (λ v. v.kind) q in absurd cc

operand_word : {types : List (List ℕ)} {m : ℕ} {ts us : List Sign} {x : Exp} (text : List ℕ) → Operand types ts m x us → Begins (word text) ts → ExpressionWord types text
operand_word text (leaf x sign ts w) q = leaf_word text w q
operand_word text (strings other texts ts us all w) q = let kinds : k.Str ≡ k.Word = ap (λ v. v.kind) q in absurd cc
operand_word text (paren x ts us w) q = let kinds : k.Punct ≡ k.Word = ap (λ v. v.kind) q in absurd cc
operand_word {types = types} text (unary p x ts us w) q = prefix_word p types text q
operand_word text (size_of_type t ts us w) q = inr (sym (ap (λ v. v.text) q))
operand_word text (cast t x ts us vs w v) q = let kinds : k.Punct ≡ k.Word = ap (λ v. v.kind) q in absurd cc

expression_word : {types : List (List ℕ)} {l : ℕ} {ts us : List Sign} {x : Exp} (text : List ℕ) → Reads types l ts x us → Begins (word text) ts → ExpressionWord types text
expression_word text (begun l m x y ts us vs h w c) q = operand_word text w q

-- declarations

-- a word with this behind it begins a declaration: a keyword of one, or a typedef name that is no label
pub data IsDeclaring (types : List (List ℕ)) (text : List ℕ) (behind : List Sign) : Type 0 where
  keyword : Contains declaring_words text → IsDeclaring types text behind
  typedef_name : IsName text → Contains types text → (Begins colon behind → ⊥) → IsDeclaring types text behind

pub record BeginsDeclaration (types : List (List ℕ)) (signs : List Sign) : Type 0 where
  pub text : List ℕ
  pub behind : List Sign
  pub first : signs ≡ word text ∷ behind
  pub declares : IsDeclaring types text behind

declares_kind : {types : List (List ℕ)} {text : List ℕ} {behind : List Sign} → IsDeclaring types text behind → kind_first (word text ∷ behind) ≡ otherwise
declares_kind {behind = behind} (keyword h) = declaring_kind behind h
declares_kind {behind = behind} (typedef_name is h none) = plain_name_kind behind is none

pub begins_kind : {types : List (List ℕ)} {signs : List Sign} → BeginsDeclaration types signs → kind_first signs ≡ otherwise
begins_kind b = ap kind_first b.first ∙ declares_kind b.declares

words_apart : {types : List (List ℕ)} {text : List ℕ} {behind : List Sign} → ExpressionWord types text → IsDeclaring types text behind → ⊥
words_apart {text = text} (inl h) (keyword g) = h.0 (within declaring_words keywords text refl g)
words_apart (inl h) (typedef_name is g none) = h.1 g
words_apart (inr q) (keyword g) = true≢false (sym (among_found declaring_words (codes "sizeof") (subst (Contains declaring_words) q g)))
words_apart (inr q) (typedef_name is g none) = sizeof_name (subst IsName q is)

-- no expression begins as a declaration does
pub expression_apart : {types : List (List ℕ)} {l : ℕ} {ts us : List Sign} {x : Exp} → Reads types l ts x us → BeginsDeclaration types ts → ⊥
expression_apart {ts = ts} w b = words_apart (expression_word b.text w (subst (Begins (word b.text)) (sym b.first) refl)) b.declares

word_no_colon : (ts : List Sign) → BeginsWord ts → Begins colon ts → ⊥
word_no_colon [] b q = b
word_no_colon (sign ∷ ts) b q = let kinds : k.Punct ≡ k.Word = sym (ap (λ v. v.kind) q) ∙ b in cc

specs_no_colon : {outer free : Bool} {types final : List (List ℕ)} {seen sort : Typed} (specs : List Specifier) (us : List Sign) → Specs outer free types seen specs final sort →
    (Begins colon us → ⊥) → Begins colon (flat_map flat_specifier specs ++ us) → ⊥
specs_no_colon [] us w none b = none b
specs_no_colon (spec ∷ rest) us w none b = word_no_colon _ (some_specs_word us (λ q. cc) w) b

by_keyword : {types : List (List ℕ)} {signs behind : List Sign} (text : List ℕ) → signs ≡ word text ∷ behind → Contains declaring_words text → BeginsDeclaration types signs
by_keyword text q h = record { text = text; behind = _; first = q; declares = keyword h }

specs_begin : {outer free : Bool} {types final : List (List ℕ)} {seen sort : Typed} {specs : List Specifier} (us : List Sign) → Specs outer free types seen specs final sort →
    (specs ≡ [] → ⊥) → (Begins colon us → ⊥) → BeginsDeclaration types (flat_map flat_specifier specs ++ us)
specs_begin us (de.no_more_specs outer free types seen) some none = absurd (some refl)
specs_begin us (de.storage_class outer types types' seen seen' text rest h w) some none =
    by_keyword text (ap (λ v. (v ++ flat_map flat_specifier rest) ++ us) (flat_specifier-Word text)) (within storage_classes declaring_words text refl h)
specs_begin us (de.inline_word outer free types types' seen seen' rest is w) some none =
    by_keyword (codes "inline") (ap (λ v. (v ++ flat_map flat_specifier rest) ++ us) (flat_specifier-Word (codes "inline"))) (found_among declaring_words (codes "inline") refl)
specs_begin us (de.qualifier outer free types types' seen seen' text rest h w) some none =
    by_keyword text (ap (λ v. (v ++ flat_map flat_specifier rest) ++ us) (flat_specifier-Word text)) (within qualifiers declaring_words text refl h)
specs_begin us (de.type_word outer free types types' seen seen' text rest h t w) some none =
    by_keyword text (ap (λ v. (v ++ flat_map flat_specifier rest) ++ us) (flat_specifier-Word text)) (within type_words declaring_words text refl h)
specs_begin us (de.typedef_name outer free types types' seen' name rest is c w) some none = record {
  text = name;
  behind = flat_map flat_specifier rest ++ us;
  first = ap (λ v. (v ++ flat_map flat_specifier rest) ++ us) (flat_specifier-Named name);
  declares = typedef_name is c (specs_no_colon rest us w none);
}
specs_begin us (de.struct_tag outer free types types' seen' tag rest is w) some none =
    by_keyword (codes "struct") (ap (λ v. (v ++ flat_map flat_specifier rest) ++ us) (flat_specifier-struct tag)) (found_among declaring_words (codes "struct") refl)
specs_begin us (de.struct_body outer free types inner types' seen' tag m ms rest is v w) some none =
    by_keyword (codes "struct") (ap (λ v. (v ++ flat_map flat_specifier rest) ++ us) (flat_specifier-members tag (m ∷ ms))) (found_among declaring_words (codes "struct") refl)
specs_begin us (de.enum_tag outer free types types' seen' tag rest is w) some none =
    by_keyword (codes "enum") (ap (λ v. (v ++ flat_map flat_specifier rest) ++ us) (flat_specifier-enum tag)) (found_among declaring_words (codes "enum") refl)
specs_begin us (de.enum_body outer free last types inner types' seen' tag item items rest is v w) some none =
    by_keyword (codes "enum") (ap (λ v. (v ++ flat_map flat_specifier rest) ++ us) (flat_specifier-body tag (item ∷ items) last)) (found_among declaring_words (codes "enum") refl)

stars_no_colon : (stars : List (List (List ℕ))) (name : List ℕ) (ts : List Sign) → Begins colon (flat_map prints_star stars ++ (word name ∷ ts)) → ⊥
stars_no_colon [] name ts q = let kinds : k.Word ≡ k.Punct = ap (λ v. v.kind) q in cc
stars_no_colon (words ∷ stars) name ts q = omega (arith, ap (λ v. first_byte (v ∷ [])) q)

declarator_no_colon : {types inner : List (List ℕ)} {seen : Typed} {name : List ℕ} {d : Declarator} (us : List Sign) → IsDeclarator types seen name d inner → Begins colon (flat_declarator d ++ us) → ⊥
declarator_no_colon us (de.declarator types seen name stars suffix inner is are w) b =
    stars_no_colon stars name _ (subst (Begins colon) (flat_declarator-before (record { stars = stars; name = Some name; suffix = suffix }) us) b)

parts_no_colon : {specs : List Specifier} {seen : Typed} {types final : List (List ℕ)} {ps : List (Declarator × Option Init)} (us : List Sign) → Parts specs seen types ps final →
    Begins colon (parts_front ps us) → ⊥
parts_no_colon us (de.no_more_parts types) b = omega (arith, ap (λ v. first_byte (v ∷ [])) b)
parts_no_colon us (de.part types params inner types' name d rest w c v) b = declarator_no_colon _ w (subst (Begins colon) (part_first d rest us) b)
parts_no_colon us (de.initialised types params inner types' name d x rest w c i v) b = declarator_no_colon _ w (subst (Begins colon) (initialised_first d x rest us) b)

pub declared_begins : {types behind : List (List ℕ)} {d : Decl} (us : List Sign) → Declared types d behind → BeginsDeclaration types (flat_decl d ++ us)
declared_begins us (de.declared types inner types' seen spec specs parts w v) =
    subst (BeginsDeclaration types) (sym (flat_decl-before (spec ∷ specs) parts us)) (specs_begin (parts_front parts us) w (λ q. cc) (parts_no_colon us v))
