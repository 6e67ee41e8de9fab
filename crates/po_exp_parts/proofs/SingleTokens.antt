-- The operands of one token, strings side by side, and the names of members.
use Rattle.std.proofs.Common.{◌≡◌, ℕ, ◌≤◌, List, [], ◌∷◌, ◌++◌, map, length, length-append, ap, sym, ◌∙◌, refl, subst, arith}
use Rattle.std.specs.Prelude.{All, Contains, ◌≢◌}
use Rattle.std.proofs.lemmas.List.Elements.{All-nil, All-cons, All-head, All-tail}
use Rattle.po_exp_parts.proofs.SameSigns.{same_string}
use Rattle.po_base.specs.declared.token.TokenKind.{TokenKind}
use Rattle.po_base.specs.declared.token.TokenKind.TheVariants as k
use Rattle.po_tree.specs.declared.operator.Prefix.TheVariants as p
use Rattle.po_tree.specs.declared.operator.Selector.{Selector}
use Rattle.po_tree.specs.declared.expression.Exp.{Exp}
use Rattle.po_tree.specs.declared.expression.Exp.TheVariants as e
use Rattle.po_exp_parts.specs.declared.continuation.Continuation.TheVariants as c
use Rattle.po_exp_parts.specs.declared.found.Tail.{Tail}
use Rattle.po_exp_parts.specs.declared.found.Tail.TheVariants as t
use Rattle.po_tree.specs.Signs.{Sign, word, string}
use Rattle.po_tree.specs.Literals.{IsString}
use Rattle.po_tree.specs.Words.{IsName}
use Rattle.po_tree.specs.Expressions.{IsLeaf, variable, integer, one_character}
use Rattle.po_tree.specs.Layers.{height-leaf, height-Str}
use Rattle.po_exp_parts.specs.Continuing.{tail_height}
use Rattle.po_exp_parts.specs.Places.{Begins, BeginsName, BeginsString, BeginsLiteral, BeginsOtherwise}
use Rattle.po_exp_parts.specs.Reading.{Operand, leaf, strings, paren, unary, size_of_type, cast, Follows, selected}
use Rattle.po_exp_parts.specs.Finding.{IsBest, IsNone, operand_height, StandsAsOperand, leveled}
use Rattle.po_exp_parts.proofs.Fronts.{class_first, leaf_told, leaf_most, operand_told}

-- a word is a leaf where it is a name and no type
pub word_leaf : {types : List (List ℕ)} {x : Exp} {sign : Sign} → IsLeaf types x sign → sign.kind ≡ k.Word → IsName sign.text × (Contains types sign.text → ⊥)
word_leaf (variable name h g) q = (h, g)
word_leaf (integer text h) q = cc
word_leaf (one_character text h) q = cc

pub leaf_along : {types : List (List ℕ)} {x : Exp} (sign : Sign) (kind : TokenKind) → sign.kind ≡ kind → IsLeaf types x (record { kind = kind; text = sign.text }) → IsLeaf types x sign
leaf_along {types = types} {x = x} sign kind q w = subst (λ b. IsLeaf types x (record { kind = b; text = sign.text })) (sym q) w

-- behind a sign that begins nothing else stands what is left of its operand
leaf_back : {types : List (List ℕ)} {m : ℕ} {y : Exp} {signs us : List Sign} (sign : Sign) (rest : List Sign) → signs ≡ sign ∷ rest → BeginsOtherwise (sign ∷ rest) →
    Operand types signs m y us → IsLeaf types y sign × (us ≡ rest)
leaf_back {types = types} sign rest q other (leaf x own ts w) = let heads : own ≡ sign = cc in (subst (IsLeaf types x) heads w, cc)
leaf_back sign rest q other (strings text texts ts us all w) = let heads : string text ≡ sign = cc in absurd (other.0 (ap (λ v. v.kind) (sym heads)))
leaf_back sign rest q other (paren x ts us w) = absurd (other.1 cc)
leaf_back sign rest q other (cast name x ts us vs w v) = absurd (other.1 cc)
leaf_back sign rest q other (unary a x ts us w) = absurd (other.2 a cc)
leaf_back sign rest q other (size_of_type name ts us w) = absurd (other.2 p.Size cc)

pub leaf_best : {types : List (List ℕ)} {least depth : ℕ} {signs : List Sign} (x : Exp) (sign : Sign) (rest : List Sign) → least ≤ 15 → 1 ≤ depth → signs ≡ sign ∷ rest →
    BeginsOtherwise (sign ∷ rest) → IsLeaf types x sign → IsBest operand_height (StandsAsOperand types least signs) depth (leveled 15 x) rest
leaf_best {types = types} x sign rest high deep q other w = record {
  stands = (high, subst (λ v. Operand types v 15 x rest) (sym q) (leaf x sign rest w));
  shallow = omega (arith, height-leaf w);
  best = λ o us v h. omega (arith, ap length (leaf_back sign rest q other v.1).1);
}

pub leaf_none : {types : List (List ℕ)} (least depth : ℕ) {signs : List Sign} (sign : Sign) (rest : List Sign) → signs ≡ sign ∷ rest →
    BeginsOtherwise (sign ∷ rest) → ((x : Exp) → IsLeaf types x sign → ⊥) → IsNone operand_height (StandsAsOperand types least signs) depth
leaf_none least depth sign rest q other none o us v h = none o.value (leaf_back sign rest q other v.1).0

-- strings at the front are no fewer than further ones of the same signs
strings_bound : (texts others : List (List ℕ)) (us vs : List Sign) → map string texts ++ us ≡ map string others ++ vs →
    ((text : List ℕ) (ws : List Sign) → IsString text → us ≡ string text ∷ ws → ⊥) → All IsString others → length us ≤ length vs
strings_bound [] [] us vs q none all = omega (arith, ap length q)
strings_bound [] (other ∷ others) us vs q none all = absurd (none other (map string others ++ vs) (All-head IsString other others all) q)
strings_bound (text ∷ texts) [] us vs q none all = omega (arith, ap length q, length-append (map string texts) us)
strings_bound (text ∷ texts) (other ∷ others) us vs q none all = strings_bound texts others us vs (same_string q).1 none (All-tail IsString other others all)

string_told : (signs : List Sign) → BeginsString signs → class_first signs ≡ 3
string_told [] h = absurd h
string_told (sign ∷ ts) h = rw h refl

strings_back : {types : List (List ℕ)} {m : ℕ} {y : Exp} {signs us : List Sign} → BeginsString signs → Operand types signs m y us →
    (text : List ℕ) × (texts : List (List ℕ)) × All IsString (text ∷ texts) × (signs ≡ map string (text ∷ texts) ++ us)
strings_back h (strings text texts ts us all w) = (text, texts, all, ap (λ v. string text ∷ v) w)
strings_back {signs = signs} h (leaf x sign ts w) = absurd (omega (arith, leaf_told w, leaf_most w, string_told signs h))
strings_back {signs = signs} h w = absurd (omega (arith, operand_told w, string_told signs h))

-- one more string of a row
pub strings_push : {signs us : List Sign} (texts : List (List ℕ)) (text : List ℕ) (rest : List Sign) → signs ≡ map string texts ++ us → us ≡ string text ∷ rest →
    signs ≡ map string (texts ++ text ∷ []) ++ rest
strings_push texts text rest q r = q ∙ ap (λ v. map string texts ++ v) r ∙ pushed texts text rest
  where
    pushed : (texts : List (List ℕ)) (text : List ℕ) (rest : List Sign) → map string texts ++ (string text ∷ rest) ≡ map string (texts ++ text ∷ []) ++ rest
    pushed [] text rest = refl
    pushed (first ∷ texts) text rest = ap (λ v. string first ∷ v) (pushed texts text rest)

pub all_push : (texts : List (List ℕ)) (text : List ℕ) → All IsString texts → IsString text → All IsString (texts ++ text ∷ [])
all_push [] text all is = All-cons IsString text [] is (All-nil IsString)
all_push (first ∷ texts) text all is = All-cons IsString first (texts ++ text ∷ []) (All-head IsString first texts all) (all_push texts text (All-tail IsString first texts all) is)

-- no further string stands here
abbrev pub NoString : List Sign → Type 0
NoString signs = (text : List ℕ) → BeginsLiteral text signs → ⊥

pub strings_best : {types : List (List ℕ)} {least depth : ℕ} {signs us : List Sign} (texts : List (List ℕ)) → texts ≢ [] → least ≤ 15 → 1 ≤ depth → BeginsString signs →
    signs ≡ map string texts ++ us → All IsString texts → NoString us →
    IsBest operand_height (StandsAsOperand types least signs) depth (leveled 15 (e.Str texts)) us
strings_best [] some high deep h q all none = absurd (some refl)
strings_best {types = types} {us = us} (text ∷ texts) some high deep h q all none = record {
  stands = (high, subst (λ v. Operand types v 15 (e.Str (text ∷ texts)) us) (sym q) (strings text texts (map string texts ++ us) us all refl));
  shallow = omega (arith, height-Str (text ∷ texts));
  best = λ o vs w k. let b = strings_back h w.1 in strings_bound (text ∷ texts) (b.0 ∷ b.1) us vs (sym q ∙ b.3) (λ next ws is r. none next (is, subst (Begins (string next)) (sym r) refl)) b.2;
}

pub strings_none : {types : List (List ℕ)} (least depth : ℕ) {signs : List Sign} → BeginsString signs → NoString signs →
    IsNone operand_height (StandsAsOperand types least signs) depth
strings_none least depth h none o vs w k = let b = strings_back h w.1 in none b.0 (All-head IsString b.0 b.1 b.2, subst (Begins (string b.0)) (sym b.3) refl)

-- the name of a member
selected_back : {types : List (List ℕ)} {s : Selector} {signs us : List Sign} {o : Tail} → Follows types (c.Select s) signs o us →
    (name : List ℕ) × BeginsName name signs × (signs ≡ word name ∷ us)
selected_back (selected s name ts h) = (name, (h, refl), refl)

pub selected_best : {types : List (List ℕ)} {depth : ℕ} {signs : List Sign} (s : Selector) (name : List ℕ) (rest : List Sign) → BeginsName name signs → signs ≡ word name ∷ rest →
    IsBest tail_height (Follows types (c.Select s) signs) depth (t.Selected s name) rest
selected_best {types = types} s name rest h q = record {
  stands = subst (λ v. Follows types (c.Select s) v (t.Selected s name) rest) (sym q) (selected s name rest h.0);
  shallow = omega arith;
  best = λ o us w k. omega (arith, ap length q, ap length (selected_back w).2);
}

pub selected_none : {types : List (List ℕ)} (depth : ℕ) {signs : List Sign} (s : Selector) → ((name : List ℕ) → BeginsName name signs → ⊥) →
    IsNone tail_height (Follows types (c.Select s) signs) depth
selected_none depth s none o us w h = let b = selected_back w in none b.0 b.1

-- where no string was read, none stands first
pub strings_begin : {signs us : List Sign} → signs ≡ us → NoString us → NoString signs
strings_begin q none text h = none text (h.0, subst (Begins (string text)) q h.1)
