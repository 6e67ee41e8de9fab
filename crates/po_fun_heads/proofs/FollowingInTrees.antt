-- In the tokens of a specifier and of a declarator each brace stands directly behind a word.
use Rattle.std.proofs.Common.{◌≡◌, ◌∙◌, ℕ, Bool, true, false, cond, List, [], ◌∷◌, ◌++◌, map, Option, Some, None, refl, sym, ap, subst, codes, get_or, append-nil, arith}
use Rattle.std.specs.Prelude.{flat_map}
use Rattle.po_base.specs.declared.token.TokenKind.TheVariants as k
use Rattle.po_base.specs.declared.operators.Op.{Op}
use Rattle.po_base.specs.declared.operators.Op.TheVariants as op
use Rattle.po_tree.specs.declared.operator.Infix.TheVariants as i
use Rattle.po_tree.specs.declared.expression.Exp.{Exp, fold-Exp, fold-roll-Exp, ind-Exp, roll-Exp, out-Exp, out-roll-Exp}
use Rattle.po_tree.specs.declared.expression.Exp.TheOpen.{Exp-F, Specifier-F, Suffix-F, TypeName-F}
use Rattle.po_tree.specs.declared.expression.Specifier.{Specifier, fold-Specifier, fold-roll-Specifier}
use Rattle.po_tree.specs.declared.expression.Suffix.{Suffix, fold-Suffix, fold-roll-Suffix}
use Rattle.po_tree.specs.declared.expression.Suffix.TheVariants as su
use Rattle.po_tree.specs.declared.expression.Declarator.{Declarator, fold-Declarator, fold-roll-Declarator}
use Rattle.po_tree.specs.declared.expression.Member.{Member, fold-Member, fold-roll-Member}
use Rattle.po_tree.specs.declared.expression.Param.{Param, fold-Param, fold-roll-Param}
use Rattle.po_tree.specs.declared.expression.TypeName.{TypeName, fold-TypeName, fold-roll-TypeName}
use Rattle.po_tree.specs.Signs.{Sign, word, string, brace, brace_end, comma, dots}
use Rattle.po_tree.specs.Operators.{op_text, infix_sign}
use Rattle.po_tree.specs.Printing.{flat_specifier, flat_declarator, in_a_row, after_commas, with_commas, optional, in_braces, in_brackets, prints_enumerator, prints_star, prints_exp, prints_specifier, prints_suffix, prints_declarator, prints_member, prints_param, prints_type}
use Rattle.po_fun_heads.specs.Braces.{is_word, BracesFollow}
use Rattle.po_fun_heads.proofs.Following.{behind_any, follow-append}

-- the signs of a part
record Follow (signs : List Sign) : Type 0 where
  pub each : BracesFollow false signs

nothing : Follow []
nothing = record { each = tt }

joins : {xs ys : List Sign} → Follow xs → Follow ys → Follow (xs ++ ys)
joins {xs} {ys} h g = record { each = follow-append false xs ys h.each g.each }

-- behind a sign that is no brace
plainly : {x : Sign} {xs : List Sign} → (x ≡ brace → ⊥) → Follow xs → Follow (x ∷ xs)
plainly {x} {xs} other h = record { each = (λ q. absurd (other q), behind_any (is_word x) xs h.each) }

abbrev byte : Sign → ℕ
byte sign = get_or sign.text 0 0

-- behind a punctuator of other bytes
mark : {x : Sign} {xs : List Sign} → (byte x ≡ 123 → ⊥) → Follow xs → Follow (x ∷ xs)
mark other h = plainly (λ q. other (ap byte q)) h

closes : {xs : List Sign} (x : Sign) → (byte x ≡ 123 → ⊥) → Follow xs → Follow (xs ++ x ∷ [])
closes x other h = joins h (mark other nothing)

no_punctuator : {x : Sign} → (x.kind ≡ k.Punct → ⊥) → x ≡ brace → ⊥
no_punctuator other q = other (ap (λ (v : Sign). v.kind) q)

no_word : {text : List ℕ} → word text ≡ brace → ⊥
no_word q = no_punctuator (λ p. cc) q

worded : {text : List ℕ} {xs : List Sign} → Follow xs → Follow (word text ∷ xs)
worded h = plainly no_word h

-- what stands in braces, behind a word
braced : (xs : List Sign) → Follow xs → BracesFollow true (in_braces xs)
braced xs h = (λ q. refl, behind_any false (xs ++ brace_end ∷ []) (closes brace_end (λ q. omega (arith, q)) h).each)

-- behind `struct` or `enum`, with a tag or without
tagged : (text : List ℕ) (tag : Option (List ℕ)) (xs : List Sign) → BracesFollow true xs → Follow (word text ∷ (optional (λ name. word name ∷ []) tag ++ xs))
tagged text None xs h = record { each = (λ q. absurd (no_word q), h) }
tagged text (Some name) xs h = record { each = (λ q. absurd (no_word q), (λ q. absurd (no_word q), h)) }

op_byte : (o : Op) (more : List ℕ) → get_or (op_text o ++ more) 0 0 ≡ 123 → ⊥
op_byte op.Add more q = omega (arith, q)
op_byte op.Sub more q = omega (arith, q)
op_byte op.Mul more q = omega (arith, q)
op_byte op.Div more q = omega (arith, q)
op_byte op.Rem more q = omega (arith, q)
op_byte op.And more q = omega (arith, q)
op_byte op.Or more q = omega (arith, q)
op_byte op.Xor more q = omega (arith, q)
op_byte op.Shl more q = omega (arith, q)
op_byte op.Shr more q = omega (arith, q)
op_byte op.Eq more q = omega (arith, q)
op_byte op.Ne more q = omega (arith, q)
op_byte op.Lt more q = omega (arith, q)
op_byte op.Le more q = omega (arith, q)
op_byte op.Gt more q = omega (arith, q)
op_byte op.Ge more q = omega (arith, q)

binary_other : (o : Op) → infix_sign (i.Plain o) ≡ brace → ⊥
binary_other o q = op_byte o [] (subst (λ v. get_or v 0 0 ≡ 123) (sym (append-nil (op_text o))) (ap byte q))

set_other : (o : Option Op) → infix_sign (i.Set o) ≡ brace → ⊥
set_other None q = omega (arith, ap byte q)
set_other (Some o) q = op_byte o (codes "=") (ap byte q)

texts : (ws : List (List ℕ)) → Follow (map string ws)
texts [] = nothing
texts (w ∷ ws) = plainly (no_punctuator (λ q. cc)) (texts ws)

words : (ws : List (List ℕ)) → Follow (map word ws)
words [] = nothing
words (w ∷ ws) = worded (words ws)

named : (name : Option (List ℕ)) → Follow (optional (λ text. word text ∷ []) name)
named None = nothing
named (Some name) = worded nothing

stars : (ws : List (List (List ℕ))) → Follow (flat_map prints_star ws)
stars [] = nothing
stars (w ∷ ws) = mark (λ q. omega (arith, q)) (joins (words w) (stars ws))

comma_behind : {xs : List Sign} → Follow xs → Follow (comma ∷ xs)
comma_behind h = mark (λ q. omega (arith, q)) h

more_comma : (more : Bool) → Follow (cond more (comma ∷ []) [])
more_comma true = comma_behind nothing
more_comma false = nothing

more_dots : (more : Bool) → Follow (cond more (comma ∷ dots ∷ []) [])
more_dots true = comma_behind (mark (λ q. omega (arith, q)) nothing)
more_dots false = nothing

-- parts in a row, of each of which this is known
module _ {T : Type 0} (P : T → Type 0) (f : T → List Sign) (a : (t : T) → P t → Follow (f t)) where
  row : (ts : List ((t : T) × P t)) → Follow (in_a_row (map f (map (λ t. t.0) ts)))
  row [] = nothing
  row (t ∷ ts) = joins (a t.0 t.1) (row ts)

  further : (ts : List ((t : T) × P t)) → Follow (after_commas (map f (map (λ t. t.0) ts)))
  further [] = nothing
  further (t ∷ ts) = comma_behind (joins (a t.0 t.1) (further ts))

  commas : (ts : List ((t : T) × P t)) → Follow (with_commas (map f (map (λ t. t.0) ts)))
  commas [] = nothing
  commas (t ∷ ts) = joins (a t.0 t.1) (further ts)

  -- sizes and enumerators, through whatever functions pass over what may be missing
  module _ (g : Option ((t : T) × P t) → Option T) (gf : Option T → Option (List Sign)) (g-None : g None ≡ None) (f-None : gf None ≡ None)
      (g-Some : (t : (t : T) × P t) → g (Some t) ≡ Some t.0) (f-Some : (t : T) → gf (Some t) ≡ Some (f t)) where
    sizes : (ts : List (Option ((t : T) × P t))) → Follow (flat_map (λ size. in_brackets (optional (λ x. x) size)) (map gf (map g ts)))
    sizes [] = nothing
    sizes (None ∷ ts) = rw (g-None, f-None) (mark (λ q. omega (arith, q)) (mark (λ q. omega (arith, q)) (sizes ts)))
    sizes (Some t ∷ ts) = rw (g-Some t, f-Some t.0) (joins (mark (λ q. omega (arith, q)) (closes _ (λ q. omega (arith, q)) (a t.0 t.1))) (sizes ts))

  module _ (g : (List ℕ × Option ((t : T) × P t)) → (List ℕ × Option T)) (gf : (List ℕ × Option T) → (List ℕ × Option (List Sign)))
      (f-None : (n : List ℕ) → gf (g (n, None)) ≡ (n, None)) (f-Some : (n : List ℕ) (t : (t : T) × P t) → gf (g (n, Some t)) ≡ (n, Some (f t.0))) where
    item : (x : List ℕ × Option ((t : T) × P t)) → Follow (prints_enumerator (gf (g x)))
    item (n, None) = rw (f-None n) (worded nothing)
    item (n, Some t) = rw (f-Some n t) (worded (mark (λ q. omega (arith, q)) (a t.0 t.1)))

    further_items : (ts : List (List ℕ × Option ((t : T) × P t))) → Follow (after_commas (map prints_enumerator (map gf (map g ts))))
    further_items [] = nothing
    further_items (t ∷ ts) = comma_behind (joins (item t) (further_items ts))

    items : (ts : List (List ℕ × Option ((t : T) × P t))) → Follow (with_commas (map prints_enumerator (map gf (map g ts))))
    items [] = nothing
    items (t ∷ ts) = joins (item t) (further_items ts)

by_layer : {Z : Type 0} {f f' : Z → List Sign} → ((z : Z) → f z ≡ f' z) → (y z : Z) → z ≡ y → Follow (f' z) → Follow (f y)
by_layer {f = f} e y z is h = subst (λ v. Follow (f v)) is (subst Follow (sym (e z)) h)

-- the signs of each kind of tree

abbrev signsExp : Exp → List Sign
signsExp = fold-Exp _ _ _ _ _ _ _ prints_exp prints_specifier prints_suffix prints_declarator prints_member prints_param prints_type

abbrev FollowsExp : Exp → Type 0
FollowsExp x = Follow (signsExp x)

abbrev signsSpecifier : Specifier → List Sign
signsSpecifier = fold-Specifier _ _ _ _ _ _ _ prints_exp prints_specifier prints_suffix prints_declarator prints_member prints_param prints_type

abbrev FollowsSpecifier : Specifier → Type 0
FollowsSpecifier x = Follow (signsSpecifier x)

abbrev signsSuffix : Suffix → List Sign
signsSuffix = fold-Suffix _ _ _ _ _ _ _ prints_exp prints_specifier prints_suffix prints_declarator prints_member prints_param prints_type

abbrev FollowsSuffix : Suffix → Type 0
FollowsSuffix x = Follow (signsSuffix x)

abbrev signsDeclarator : Declarator → List Sign
signsDeclarator = fold-Declarator _ _ _ _ _ _ _ prints_exp prints_specifier prints_suffix prints_declarator prints_member prints_param prints_type

abbrev FollowsDeclarator : Declarator → Type 0
FollowsDeclarator x = Follow (signsDeclarator x)

abbrev signsMember : Member → List Sign
signsMember = fold-Member _ _ _ _ _ _ _ prints_exp prints_specifier prints_suffix prints_declarator prints_member prints_param prints_type

abbrev FollowsMember : Member → Type 0
FollowsMember x = Follow (signsMember x)

abbrev signsParam : Param → List Sign
signsParam = fold-Param _ _ _ _ _ _ _ prints_exp prints_specifier prints_suffix prints_declarator prints_member prints_param prints_type

abbrev FollowsParam : Param → Type 0
FollowsParam x = Follow (signsParam x)

abbrev signsTypeName : TypeName → List Sign
signsTypeName = fold-TypeName _ _ _ _ _ _ _ prints_exp prints_specifier prints_suffix prints_declarator prints_member prints_param prints_type

abbrev FollowsTypeName : TypeName → Type 0
FollowsTypeName x = Follow (signsTypeName x)

abbrev AllFollow : List Specifier → Type 0
AllFollow [] = Unit {0}
AllFollow (x ∷ xs) = FollowsSpecifier x × AllFollow xs

all_follow : (xs : List ((x : Specifier) × FollowsSpecifier x)) → AllFollow (map (λ x. x.0) xs)
all_follow [] = tt
all_follow (x ∷ xs) = (x.1, all_follow xs)

abbrev Layer : Type 0
Layer = Exp-F Exp Specifier Suffix Declarator Member Param TypeName

-- of `sizeof(type)` this is known of the parts of the type too
abbrev PartsFollow : Layer → Type 0
PartsFollow (Exp-F.SizeType t) = AllFollow t.specs × FollowsDeclarator t.declarator
PartsFollow _ = Unit {0}

abbrev IsKnown : Exp → Type 0
IsKnown x = FollowsExp x × PartsFollow (out-Exp x)

abbrev IsKnownType : TypeName → Type 0
IsKnownType t = FollowsTypeName t × (AllFollow t.specs × FollowsDeclarator t.declarator)

by_known_layer : {f f' : Layer → List Sign} → ((z : Layer) → f z ≡ f' z) → (y z : Layer) → z ≡ y → Follow (f' z) → PartsFollow z → Follow (f y) × PartsFollow (out-Exp (roll-Exp y))
by_known_layer e y z is a parts = (by_layer e y z is a, subst PartsFollow (is ∙ sym (out-roll-Exp y)) parts)

known : (x : Exp) → IsKnown x
known = ind-Exp IsKnown FollowsSpecifier FollowsSuffix FollowsDeclarator FollowsMember FollowsParam IsKnownType
    (λ x. let turn = by_known_layer (fold-roll-Exp _ _ _ _ _ _ _ prints_exp prints_specifier prints_suffix prints_declarator prints_member prints_param prints_type) in
    elim [
      | Exp-F.Var name ↦ λ is. turn x _ is (worded nothing) tt
      | Exp-F.Num text ↦ λ is. turn x _ is (plainly (no_punctuator (λ q. cc)) nothing) tt
      | Exp-F.Chr text ↦ λ is. turn x _ is (plainly (no_punctuator (λ q. cc)) nothing) tt
      | Exp-F.Str ws ↦ λ is. turn x _ is (texts ws) tt
      | Exp-F.Paren a ↦ λ is. turn x _ is (mark (λ q. omega (arith, q)) (closes _ (λ q. omega (arith, q)) a.1.0)) tt
      | Exp-F.Index a b ↦ λ is. turn x _ is (joins a.1.0 (mark (λ q. omega (arith, q)) (closes _ (λ q. omega (arith, q)) b.1.0))) tt
      | Exp-F.Call a xs ↦ λ is. turn x _ is (joins a.1.0 (mark (λ q. omega (arith, q)) (closes _ (λ q. omega (arith, q)) (commas IsKnown signsExp (λ t p. p.0) xs)))) tt
      | Exp-F.Dot a name ↦ λ is. turn x _ is (joins a.1.0 (mark (λ q. omega (arith, q)) (worded nothing))) tt
      | Exp-F.Arrow a name ↦ λ is. turn x _ is (joins a.1.0 (mark (λ q. omega (arith, q)) (worded nothing))) tt
      | Exp-F.PostInc a ↦ λ is. turn x _ is (joins a.1.0 (mark (λ q. omega (arith, q)) nothing)) tt
      | Exp-F.PostDec a ↦ λ is. turn x _ is (joins a.1.0 (mark (λ q. omega (arith, q)) nothing)) tt
      | Exp-F.PreInc a ↦ λ is. turn x _ is (mark (λ q. omega (arith, q)) a.1.0) tt
      | Exp-F.PreDec a ↦ λ is. turn x _ is (mark (λ q. omega (arith, q)) a.1.0) tt
      | Exp-F.Addr a ↦ λ is. turn x _ is (mark (λ q. omega (arith, q)) a.1.0) tt
      | Exp-F.Deref a ↦ λ is. turn x _ is (mark (λ q. omega (arith, q)) a.1.0) tt
      | Exp-F.Plus a ↦ λ is. turn x _ is (mark (λ q. omega (arith, q)) a.1.0) tt
      | Exp-F.Minus a ↦ λ is. turn x _ is (mark (λ q. omega (arith, q)) a.1.0) tt
      | Exp-F.Compl a ↦ λ is. turn x _ is (mark (λ q. omega (arith, q)) a.1.0) tt
      | Exp-F.Not a ↦ λ is. turn x _ is (mark (λ q. omega (arith, q)) a.1.0) tt
      | Exp-F.SizeExp a ↦ λ is. turn x _ is (worded a.1.0) tt
      | Exp-F.SizeType t ↦ λ is. turn x _ is (worded (mark (λ q. omega (arith, q)) (closes _ (λ q. omega (arith, q)) t.1.0))) t.1.1
      | Exp-F.Cast t a ↦ λ is. turn x _ is (joins (mark (λ q. omega (arith, q)) (closes _ (λ q. omega (arith, q)) t.1.0)) a.1.0) tt
      | Exp-F.Binary o a b ↦ λ is. turn x _ is (joins a.1.0 (plainly (binary_other o) b.1.0)) tt
      | Exp-F.LogAnd a b ↦ λ is. turn x _ is (joins a.1.0 (mark (λ q. omega (arith, q)) b.1.0)) tt
      | Exp-F.LogOr a b ↦ λ is. turn x _ is (joins a.1.0 (mark (λ q. omega (arith, q)) b.1.0)) tt
      | Exp-F.Cond a b c ↦ λ is. turn x _ is (joins a.1.0 (mark (λ q. omega (arith, q)) (joins b.1.0 (mark (λ q. omega (arith, q)) c.1.0)))) tt
      | Exp-F.Assign o a b ↦ λ is. turn x _ is (joins a.1.0 (plainly (set_other o) b.1.0)) tt
      | Exp-F.Comma a b ↦ λ is. turn x _ is (joins a.1.0 (mark (λ q. omega (arith, q)) b.1.0)) tt
    ])
    (λ x. let turn = by_layer (fold-roll-Specifier _ _ _ _ _ _ _ prints_exp prints_specifier prints_suffix prints_declarator prints_member prints_param prints_type) in
    elim [
      | Specifier-F.Word text ↦ λ is. turn x _ is (worded nothing)
      | Specifier-F.Named name ↦ λ is. turn x _ is (worded nothing)
      | Specifier-F.Struct tag None ↦ λ is. turn x _ is (tagged (codes "struct") tag [] tt)
      | Specifier-F.Struct tag (Some ms) ↦ λ is. turn x _ is (tagged (codes "struct") tag _ (braced _ (row FollowsMember signsMember (λ t p. p) ms)))
      | Specifier-F.Enum tag None more ↦ λ is. turn x _ is (tagged (codes "enum") tag [] tt)
      | Specifier-F.Enum tag (Some xs) more ↦ λ is. turn x _ is (tagged (codes "enum") tag _ (braced _ (joins (items IsKnown signsExp (λ t p. p.0) _ _ (λ n. refl) (λ n t. refl) xs) (more_comma more))))
    ])
    (λ x. let turn = by_layer (fold-roll-Suffix _ _ _ _ _ _ _ prints_exp prints_specifier prints_suffix prints_declarator prints_member prints_param prints_type) in
    elim [
      | Suffix-F.Plain ↦ λ is. turn x _ is nothing
      | Suffix-F.Arrays ts ↦ λ is. turn x _ is (sizes IsKnown signsExp (λ t p. p.0) _ _ refl refl (λ t. refl) (λ t. refl) ts)
      | Suffix-F.Params ps more ↦ λ is. turn x _ is (mark (λ q. omega (arith, q)) (closes _ (λ q. omega (arith, q)) (joins (commas FollowsParam signsParam (λ t p. p) ps) (more_dots more))))
    ])
    (λ x y is. let turn = by_layer (fold-roll-Declarator _ _ _ _ _ _ _ prints_exp prints_specifier prints_suffix prints_declarator prints_member prints_param prints_type) in
    turn x _ is (joins (stars y.stars) (joins (named y.name) y.suffix.1)))
    (λ x y is. let turn = by_layer (fold-roll-Member _ _ _ _ _ _ _ prints_exp prints_specifier prints_suffix prints_declarator prints_member prints_param prints_type) in
    turn x _ is (joins (row FollowsSpecifier signsSpecifier (λ t p. p) y.specs) (closes _ (λ q. omega (arith, q)) (commas FollowsDeclarator signsDeclarator (λ t p. p) y.declarators))))
    (λ x y is. let turn = by_layer (fold-roll-Param _ _ _ _ _ _ _ prints_exp prints_specifier prints_suffix prints_declarator prints_member prints_param prints_type) in
    turn x _ is (joins (row FollowsSpecifier signsSpecifier (λ t p. p) y.specs) y.declarator.1))
    (λ x y is. let turn = by_layer (fold-roll-TypeName _ _ _ _ _ _ _ prints_exp prints_specifier prints_suffix prints_declarator prints_member prints_param prints_type) in
    (turn x _ is (joins (row FollowsSpecifier signsSpecifier (λ t p. p) y.specs) y.declarator.1), subst (λ (v : TypeName-F Exp Specifier Suffix Declarator Member Param TypeName). AllFollow v.specs × FollowsDeclarator v.declarator) is (all_follow y.specs, y.declarator.1)))

-- the parts of a type name, as they stand in `sizeof`
parts_follow : (t : TypeName) → PartsFollow (Exp-F.SizeType t)
parts_follow t = subst PartsFollow (out-roll-Exp (Exp-F.SizeType t)) (known (roll-Exp (Exp-F.SizeType t))).1

pub declarator_follows : (d : Declarator) → BracesFollow false (flat_declarator d)
unfolding flat_declarator
declarator_follows d = (parts_follow (record { specs = []; declarator = d })).1.each

pub specifier_follows : (x : Specifier) → BracesFollow false (flat_specifier x)
unfolding flat_specifier
specifier_follows x = (parts_follow (record { specs = x ∷ []; declarator = record { stars = []; name = None; suffix = su.Plain } })).0.0.each
