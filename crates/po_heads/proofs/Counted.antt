-- The expressions that are counted in a tree are just those inside it.
use Rattle.std.proofs.Common.{◌≡◌, List, [], ◌∷◌, map, Some, None, refl, sym, ap, subst, ◌∙◌}
use Rattle.po_tree.specs.declared.expression.Exp.{Exp, fold-roll-Exp, ind-Exp, roll-Exp, out-Exp, out-roll-Exp}
use Rattle.po_tree.specs.declared.expression.Exp.TheVariants as e
use Rattle.po_tree.specs.declared.expression.Exp.TheOpen.{Exp-F, Specifier-F, Suffix-F, TypeName-F}
use Rattle.po_tree.specs.declared.expression.Specifier.{Specifier, fold-roll-Specifier, roll-Specifier, out-roll-Specifier}
use Rattle.po_tree.specs.declared.expression.Specifier.TheVariants as sp
use Rattle.po_tree.specs.declared.expression.Suffix.{Suffix, fold-roll-Suffix, roll-Suffix, out-roll-Suffix}
use Rattle.po_tree.specs.declared.expression.Suffix.TheVariants as su
use Rattle.po_tree.specs.declared.expression.Declarator.{Declarator, fold-roll-Declarator, roll-Declarator}
use Rattle.po_tree.specs.declared.expression.Member.{Member, fold-roll-Member, roll-Member, out-roll-Member}
use Rattle.po_tree.specs.declared.expression.Param.{Param, fold-roll-Param, roll-Param, out-roll-Param}
use Rattle.po_tree.specs.declared.expression.TypeName.{TypeName, fold-roll-TypeName, roll-TypeName}
use Rattle.po_tree.specs.Order.{Ordered, orders_exp, orders_specifier, orders_suffix, orders_declarator, orders_member, orders_param, orders_type, expressions, specifier_expressions, declarator_expressions}
use Rattle.po_heads.specs.Heads.{Layer}
use Rattle.po_heads.specs.Inside.{Tree, expression, type_name, specifier, declarator, suffix, member, parameter, parts, parts_exp, parts_specifier, parts_suffix, parts_member, parts_param}
use Rattle.po_heads.proofs.Counting.{Counts, as_expression, Made, nothing, part, joins, headed, whole_expression, whole, row, same_row, sizes, same_sizes, items, same_items}
use Rattle.po_heads.proofs.Expressions.{orderExp, orderSpecifier, orderSuffix, orderDeclarator, orderMember, orderParam, orderTypeName}

-- a tree's expressions in their order come with the tree itself, and are just those inside it
abbrev Counted : {A : Type 0} → (A → Tree) → Ordered A → A → Type 0
Counted f o x = (o.0 ≡ x) × Counts o.1 (f x)

abbrev KnownSpecifier : Specifier → Type 0
KnownSpecifier x = Counted specifier (orderSpecifier x) x

abbrev KnownSuffix : Suffix → Type 0
KnownSuffix x = Counted suffix (orderSuffix x) x

abbrev KnownDeclarator : Declarator → Type 0
KnownDeclarator x = Counted declarator (orderDeclarator x) x

abbrev KnownMember : Member → Type 0
KnownMember x = Counted member (orderMember x) x

abbrev KnownParam : Param → Type 0
KnownParam x = Counted parameter (orderParam x) x

abbrev AllKnown : List Specifier → Type 0
AllKnown [] = Unit {0}
AllKnown (x ∷ xs) = KnownSpecifier x × AllKnown xs

all_known : (xs : List ((x : Specifier) × KnownSpecifier x)) → AllKnown (map (λ x. x.0) xs)
all_known [] = tt
all_known (x ∷ xs) = (x.1, all_known xs)

-- of `sizeof(type)` the parts of the type are known too
abbrev PartsKnown : Layer → Type 0
PartsKnown (Exp-F.SizeType t) = AllKnown t.specs × KnownDeclarator t.declarator
PartsKnown _ = Unit {0}

abbrev IsKnown : Exp → Type 0
IsKnown x = Counted expression (orderExp x) x × PartsKnown (out-Exp x)

abbrev IsKnownType : TypeName → Type 0
IsKnownType t = Counted type_name (orderTypeName t) t × (AllKnown t.specs × KnownDeclarator t.declarator)

by_expression : {o o' : Layer → Ordered Exp} → ((z : Layer) → o z ≡ o' z) → (y z : Layer) → z ≡ y → (o' z).0 ≡ roll-Exp z → Made (o' z).1 ((o' z).0 ∷ []) (parts_exp z) → PartsKnown z →
    Counted expression (o y) (roll-Exp y) × PartsKnown (out-Exp (roll-Exp y))
by_expression {o} {o'} same y z is q m known = subst (λ v. Counted expression (o v) (roll-Exp v) × PartsKnown (out-Exp (roll-Exp v))) is (
  subst (λ w. Counted expression w (roll-Exp z)) (sym (same z)) (
    q,
    whole_expression (roll-Exp z)
        (subst (λ ps. Made (o' z).1 (roll-Exp z ∷ []) ps) (ap parts_exp (sym (out-roll-Exp z))) (subst (λ v. Made (o' z).1 (v ∷ []) (parts_exp z)) q m)),
  ),
  subst PartsKnown (sym (out-roll-Exp z)) known,
)

-- a tree of another kind, whose layers are rolled by r
by_tree : {A Z : Type 0} {o o' : Z → Ordered A} (f : A → Tree) (r : Z → A) → ((z : Z) → o z ≡ o' z) → (y z : Z) → z ≡ y → (o' z).0 ≡ r z → as_expression (f (r z)) ≡ None → Made (o' z).1 [] (parts (f (r z))) →
    Counted f (o y) (r y)
by_tree {o = o} f r same y z is q other m = subst (λ v. Counted f (o v) (r v)) is (subst (λ w. Counted f w (r z)) (sym (same z)) (q, whole (f (r z)) other m))

opens : {xs : List Exp} {Z : Type 0} (f : Z → List Tree) {y z : Z} → y ≡ z → Made xs [] (f z) → Made xs [] (f y)
opens {xs} f q m = subst (λ v. Made xs [] (f v)) (sym q) m

known : (x : Exp) → IsKnown x
known = ind-Exp IsKnown KnownSpecifier KnownSuffix KnownDeclarator KnownMember KnownParam IsKnownType
    (λ x. let turn = by_expression (fold-roll-Exp _ _ _ _ _ _ _ orders_exp orders_specifier orders_suffix orders_declarator orders_member orders_param orders_type) in
    elim [
      | Exp-F.Var name ↦ λ is. turn x _ is (sym (e.rolls-Var name)) (headed nothing) tt
      | Exp-F.Num text ↦ λ is. turn x _ is (sym (e.rolls-Num text)) (headed nothing) tt
      | Exp-F.Chr text ↦ λ is. turn x _ is (sym (e.rolls-Chr text)) (headed nothing) tt
      | Exp-F.Str texts ↦ λ is. turn x _ is (sym (e.rolls-Str texts)) (headed nothing) tt
      | Exp-F.Paren a ↦ λ is. turn x _ is (ap e.Paren a.1.0.0 ∙ sym (e.rolls-Paren a.0)) (headed (part a.1.0.1)) tt
      | Exp-F.Index a b ↦ λ is. turn x _ is ((λ i. e.Index (a.1.0.0 i) (b.1.0.0 i)) ∙ sym (e.rolls-Index a.0 b.0)) (joins (part a.1.0.1) (headed (part b.1.0.1))) tt
      | Exp-F.Call a xs ↦ λ is. turn x _ is ((λ i. e.Call (a.1.0.0 i) (same_row IsKnown orderExp (λ t p. p.0.0) xs i)) ∙ sym (e.rolls-Call a.0 (map (λ t. t.0) xs))) (joins (part a.1.0.1) (headed (row IsKnown orderExp (λ o. o.1) expression (λ t p. p.0.1) xs))) tt
      | Exp-F.Dot a name ↦ λ is. turn x _ is (ap (λ v. e.Dot v name) a.1.0.0 ∙ sym (e.rolls-Dot a.0 name)) (joins (part a.1.0.1) (headed nothing)) tt
      | Exp-F.Arrow a name ↦ λ is. turn x _ is (ap (λ v. e.Arrow v name) a.1.0.0 ∙ sym (e.rolls-Arrow a.0 name)) (joins (part a.1.0.1) (headed nothing)) tt
      | Exp-F.PostInc a ↦ λ is. turn x _ is (ap e.PostInc a.1.0.0 ∙ sym (e.rolls-PostInc a.0)) (joins (part a.1.0.1) (headed nothing)) tt
      | Exp-F.PostDec a ↦ λ is. turn x _ is (ap e.PostDec a.1.0.0 ∙ sym (e.rolls-PostDec a.0)) (joins (part a.1.0.1) (headed nothing)) tt
      | Exp-F.PreInc a ↦ λ is. turn x _ is (ap e.PreInc a.1.0.0 ∙ sym (e.rolls-PreInc a.0)) (headed (part a.1.0.1)) tt
      | Exp-F.PreDec a ↦ λ is. turn x _ is (ap e.PreDec a.1.0.0 ∙ sym (e.rolls-PreDec a.0)) (headed (part a.1.0.1)) tt
      | Exp-F.Addr a ↦ λ is. turn x _ is (ap e.Addr a.1.0.0 ∙ sym (e.rolls-Addr a.0)) (headed (part a.1.0.1)) tt
      | Exp-F.Deref a ↦ λ is. turn x _ is (ap e.Deref a.1.0.0 ∙ sym (e.rolls-Deref a.0)) (headed (part a.1.0.1)) tt
      | Exp-F.Plus a ↦ λ is. turn x _ is (ap e.Plus a.1.0.0 ∙ sym (e.rolls-Plus a.0)) (headed (part a.1.0.1)) tt
      | Exp-F.Minus a ↦ λ is. turn x _ is (ap e.Minus a.1.0.0 ∙ sym (e.rolls-Minus a.0)) (headed (part a.1.0.1)) tt
      | Exp-F.Compl a ↦ λ is. turn x _ is (ap e.Compl a.1.0.0 ∙ sym (e.rolls-Compl a.0)) (headed (part a.1.0.1)) tt
      | Exp-F.Not a ↦ λ is. turn x _ is (ap e.Not a.1.0.0 ∙ sym (e.rolls-Not a.0)) (headed (part a.1.0.1)) tt
      | Exp-F.SizeExp a ↦ λ is. turn x _ is (ap e.SizeExp a.1.0.0 ∙ sym (e.rolls-SizeExp a.0)) (headed (part a.1.0.1)) tt
      | Exp-F.SizeType t ↦ λ is. turn x _ is (ap e.SizeType t.1.0.0 ∙ sym (e.rolls-SizeType t.0)) (headed (part t.1.0.1)) t.1.1
      | Exp-F.Cast t a ↦ λ is. turn x _ is ((λ i. e.Cast (t.1.0.0 i) (a.1.0.0 i)) ∙ sym (e.rolls-Cast t.0 a.0)) (headed (joins (part t.1.0.1) (part a.1.0.1))) tt
      | Exp-F.Binary o a b ↦ λ is. turn x _ is ((λ i. e.Binary o (a.1.0.0 i) (b.1.0.0 i)) ∙ sym (e.rolls-Binary o a.0 b.0)) (joins (part a.1.0.1) (headed (part b.1.0.1))) tt
      | Exp-F.LogAnd a b ↦ λ is. turn x _ is ((λ i. e.LogAnd (a.1.0.0 i) (b.1.0.0 i)) ∙ sym (e.rolls-LogAnd a.0 b.0)) (joins (part a.1.0.1) (headed (part b.1.0.1))) tt
      | Exp-F.LogOr a b ↦ λ is. turn x _ is ((λ i. e.LogOr (a.1.0.0 i) (b.1.0.0 i)) ∙ sym (e.rolls-LogOr a.0 b.0)) (joins (part a.1.0.1) (headed (part b.1.0.1))) tt
      | Exp-F.Cond a b c ↦ λ is. turn x _ is ((λ i. e.Cond (a.1.0.0 i) (b.1.0.0 i) (c.1.0.0 i)) ∙ sym (e.rolls-Cond a.0 b.0 c.0)) (joins (part a.1.0.1) (headed (joins (part b.1.0.1) (part c.1.0.1)))) tt
      | Exp-F.Assign o a b ↦ λ is. turn x _ is ((λ i. e.Assign o (a.1.0.0 i) (b.1.0.0 i)) ∙ sym (e.rolls-Assign o a.0 b.0)) (joins (part a.1.0.1) (headed (part b.1.0.1))) tt
      | Exp-F.Comma a b ↦ λ is. turn x _ is ((λ i. e.Comma (a.1.0.0 i) (b.1.0.0 i)) ∙ sym (e.rolls-Comma a.0 b.0)) (joins (part a.1.0.1) (headed (part b.1.0.1))) tt
    ])
    (λ x. let turn = by_tree specifier roll-Specifier (fold-roll-Specifier _ _ _ _ _ _ _ orders_exp orders_specifier orders_suffix orders_declarator orders_member orders_param orders_type) in
    elim [
      | Specifier-F.Word text ↦ λ is. turn x _ is (sym (sp.rolls-Word text)) refl (opens parts_specifier (out-roll-Specifier _) nothing)
      | Specifier-F.Named name ↦ λ is. turn x _ is (sym (sp.rolls-Named name)) refl (opens parts_specifier (out-roll-Specifier _) nothing)
      | Specifier-F.Struct tag None ↦ λ is. turn x _ is (sym (sp.rolls-Struct tag None)) refl (opens parts_specifier (out-roll-Specifier _) nothing)
      | Specifier-F.Struct tag (Some ms) ↦ λ is. turn x _ is (ap (λ l. sp.Struct tag (Some l)) (same_row KnownMember orderMember (λ t p. p.0) ms) ∙ sym (sp.rolls-Struct tag (Some (map (λ t. t.0) ms)))) refl
          (opens parts_specifier (out-roll-Specifier _) (row KnownMember orderMember (λ o. o.1) member (λ t p. p.1) ms))
      | Specifier-F.Enum tag None more ↦ λ is. turn x _ is (sym (sp.rolls-Enum tag None more)) refl (opens parts_specifier (out-roll-Specifier _) nothing)
      | Specifier-F.Enum tag (Some xs) more ↦ λ is. turn x _ is
          (ap (λ l. sp.Enum tag (Some l) more) (same_items IsKnown orderExp expression (λ t p. p.0.1) (λ t p. p.0.0) _ _ (λ n. refl) (λ n. refl) (λ n t. refl) (λ n t. refl) xs) ∙ sym (sp.rolls-Enum tag (Some _) more)) refl
          (opens parts_specifier (out-roll-Specifier _) (items IsKnown orderExp expression (λ t p. p.0.1) (λ t p. p.0.0) _ _ (λ n. refl) (λ n. refl) (λ n t. refl) (λ n t. refl) xs))
    ])
    (λ x. let turn = by_tree suffix roll-Suffix (fold-roll-Suffix _ _ _ _ _ _ _ orders_exp orders_specifier orders_suffix orders_declarator orders_member orders_param orders_type) in
    elim [
      | Suffix-F.Plain ↦ λ is. turn x _ is (sym su.rolls-Plain) refl (opens parts_suffix (out-roll-Suffix _) nothing)
      | Suffix-F.Arrays ts ↦ λ is. turn x _ is (ap su.Arrays (same_sizes IsKnown orderExp expression (λ t p. p.0.1) (λ t p. p.0.0) _ _ refl refl (λ t. refl) (λ t. refl) ts) ∙ sym (su.rolls-Arrays _)) refl
          (opens parts_suffix (out-roll-Suffix _) (sizes IsKnown orderExp expression (λ t p. p.0.1) (λ t p. p.0.0) _ _ refl refl (λ t. refl) (λ t. refl) ts))
      | Suffix-F.Params ps more ↦ λ is. turn x _ is (ap (λ l. su.Params l more) (same_row KnownParam orderParam (λ t p. p.0) ps) ∙ sym (su.rolls-Params (map (λ t. t.0) ps) more)) refl
          (opens parts_suffix (out-roll-Suffix _) (row KnownParam orderParam (λ o. o.1) parameter (λ t p. p.1) ps))
    ])
    (λ x y is. by_tree declarator roll-Declarator (fold-roll-Declarator _ _ _ _ _ _ _ orders_exp orders_specifier orders_suffix orders_declarator orders_member orders_param orders_type) x _ is
    (λ i. record { stars = y.stars; name = y.name; suffix = y.suffix.1.0 i }) refl (part y.suffix.1.1))
    (λ x y is. by_tree member roll-Member (fold-roll-Member _ _ _ _ _ _ _ orders_exp orders_specifier orders_suffix orders_declarator orders_member orders_param orders_type) x _ is
    (λ i. roll-Member (record { specs = same_row KnownSpecifier orderSpecifier (λ t p. p.0) y.specs i; declarators = same_row KnownDeclarator orderDeclarator (λ t p. p.0) y.declarators i })) refl
    (opens parts_member (out-roll-Member _) (joins (row KnownSpecifier orderSpecifier (λ o. o.1) specifier (λ t p. p.1) y.specs) (row KnownDeclarator orderDeclarator (λ o. o.1) declarator (λ t p. p.1) y.declarators))))
    (λ x y is. by_tree parameter roll-Param (fold-roll-Param _ _ _ _ _ _ _ orders_exp orders_specifier orders_suffix orders_declarator orders_member orders_param orders_type) x _ is
    (λ i. roll-Param (record { specs = same_row KnownSpecifier orderSpecifier (λ t p. p.0) y.specs i; declarator = y.declarator.1.0 i })) refl
    (opens parts_param (out-roll-Param _) (joins (row KnownSpecifier orderSpecifier (λ o. o.1) specifier (λ t p. p.1) y.specs) (part y.declarator.1.1))))
    (λ x y is. (
      by_tree type_name roll-TypeName (fold-roll-TypeName _ _ _ _ _ _ _ orders_exp orders_specifier orders_suffix orders_declarator orders_member orders_param orders_type) x _ is
          (λ i. record { specs = same_row KnownSpecifier orderSpecifier (λ t p. p.0) y.specs i; declarator = y.declarator.1.0 i }) refl
          (joins (row KnownSpecifier orderSpecifier (λ o. o.1) specifier (λ t p. p.1) y.specs) (part y.declarator.1.1)),
      subst (λ (v : TypeName-F Exp Specifier Suffix Declarator Member Param TypeName). AllKnown v.specs × KnownDeclarator v.declarator) is (all_known y.specs, y.declarator.1),
    ))

pub expression_counted : (x : Exp) → Counts (expressions x) (expression x)
unfolding expressions
expression_counted x = (known x).0.1

parts_known : (t : TypeName) → PartsKnown (Exp-F.SizeType t)
parts_known t = subst PartsKnown (out-roll-Exp (Exp-F.SizeType t)) (known (roll-Exp (Exp-F.SizeType t))).1

pub declarator_counted : (d : Declarator) → Counts (declarator_expressions d) (declarator d)
unfolding declarator_expressions
declarator_counted d = (parts_known (record { specs = []; declarator = d })).1.1

pub specifier_counted : (x : Specifier) → Counts (specifier_expressions x) (specifier x)
unfolding specifier_expressions
specifier_counted x = (parts_known (record { specs = x ∷ []; declarator = record { stars = []; name = None; suffix = su.Plain } })).0.0.1
