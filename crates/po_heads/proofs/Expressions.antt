-- The tokens of expressions, specifiers and declarators are those that they print, and the heads among them are those of their expressions.
use Rattle.std.proofs.Common.{◌≡◌, List, [], ◌∷◌, map, Some, None, refl, sym, subst, ◌∙◌}
use Rattle.po_tree.specs.declared.expression.Exp.{Exp, fold-Exp, fold-roll-Exp, ind-Exp, roll-Exp, out-Exp, out-roll-Exp}
use Rattle.po_tree.specs.declared.expression.Exp.TheVariants as e
use Rattle.po_tree.specs.declared.expression.Exp.TheOpen.{Exp-F, Specifier-F, Suffix-F, TypeName-F}
use Rattle.po_tree.specs.declared.expression.Specifier.{Specifier, fold-Specifier, fold-roll-Specifier}
use Rattle.po_tree.specs.declared.expression.Suffix.{Suffix, fold-Suffix, fold-roll-Suffix}
use Rattle.po_tree.specs.declared.expression.Declarator.{Declarator, fold-Declarator, fold-roll-Declarator}
use Rattle.po_tree.specs.declared.expression.Member.{Member, fold-Member, fold-roll-Member}
use Rattle.po_tree.specs.declared.expression.Param.{Param, fold-Param, fold-roll-Param}
use Rattle.po_tree.specs.declared.expression.TypeName.{TypeName, fold-TypeName, fold-roll-TypeName}
use Rattle.po_tree.specs.declared.expression.Suffix.TheVariants as su
use Rattle.po_tree.specs.Signs.{Sign, closing, bracket_end, brace_end, semicolon}
use Rattle.po_tree.specs.Printing.{flat, flat_specifier, flat_declarator, prints_exp, prints_specifier, prints_suffix, prints_declarator, prints_member, prints_param, prints_type}
use Rattle.po_tree.specs.Order.{Ordered, item_within, expressions, specifier_expressions, declarator_expressions, orders_exp, orders_specifier, orders_suffix, orders_declarator, orders_member, orders_param, orders_type}
use Rattle.po_heads.specs.Marks.{Printed, marked, marked_specifier, marked_declarator, marks_exp, marks_specifier, marks_suffix, marks_declarator, marks_member, marks_param, marks_type}
use Rattle.po_heads.specs.Heads.{Layer}
use Rattle.po_heads.proofs.Agree.{Agree, nothing, joins, plainly, before, closes, headed, strings, tag, name_of, stars, more_comma, more_dots, row, commas, sizes, items, by_ordered_layer}

-- the tokens, the signs and the expressions of each kind of tree, and that they agree

abbrev tokensExp : Exp → List Printed
tokensExp = fold-Exp _ _ _ _ _ _ _ marks_exp marks_specifier marks_suffix marks_declarator marks_member marks_param marks_type

abbrev signsExp : Exp → List Sign
signsExp = fold-Exp _ _ _ _ _ _ _ prints_exp prints_specifier prints_suffix prints_declarator prints_member prints_param prints_type

abbrev pub orderExp : Exp → Ordered Exp
orderExp = fold-Exp _ _ _ _ _ _ _ orders_exp orders_specifier orders_suffix orders_declarator orders_member orders_param orders_type

abbrev AgreesExp : Exp → Type 0
AgreesExp x = Agree (tokensExp x) (signsExp x) (orderExp x).1 []

abbrev tokensSpecifier : Specifier → List Printed
tokensSpecifier = fold-Specifier _ _ _ _ _ _ _ marks_exp marks_specifier marks_suffix marks_declarator marks_member marks_param marks_type

abbrev signsSpecifier : Specifier → List Sign
signsSpecifier = fold-Specifier _ _ _ _ _ _ _ prints_exp prints_specifier prints_suffix prints_declarator prints_member prints_param prints_type

abbrev pub orderSpecifier : Specifier → Ordered Specifier
orderSpecifier = fold-Specifier _ _ _ _ _ _ _ orders_exp orders_specifier orders_suffix orders_declarator orders_member orders_param orders_type

abbrev AgreesSpecifier : Specifier → Type 0
AgreesSpecifier x = Agree (tokensSpecifier x) (signsSpecifier x) (orderSpecifier x).1 []

abbrev tokensSuffix : Suffix → List Printed
tokensSuffix = fold-Suffix _ _ _ _ _ _ _ marks_exp marks_specifier marks_suffix marks_declarator marks_member marks_param marks_type

abbrev signsSuffix : Suffix → List Sign
signsSuffix = fold-Suffix _ _ _ _ _ _ _ prints_exp prints_specifier prints_suffix prints_declarator prints_member prints_param prints_type

abbrev pub orderSuffix : Suffix → Ordered Suffix
orderSuffix = fold-Suffix _ _ _ _ _ _ _ orders_exp orders_specifier orders_suffix orders_declarator orders_member orders_param orders_type

abbrev AgreesSuffix : Suffix → Type 0
AgreesSuffix x = Agree (tokensSuffix x) (signsSuffix x) (orderSuffix x).1 []

abbrev tokensDeclarator : Declarator → List Printed
tokensDeclarator = fold-Declarator _ _ _ _ _ _ _ marks_exp marks_specifier marks_suffix marks_declarator marks_member marks_param marks_type

abbrev signsDeclarator : Declarator → List Sign
signsDeclarator = fold-Declarator _ _ _ _ _ _ _ prints_exp prints_specifier prints_suffix prints_declarator prints_member prints_param prints_type

abbrev pub orderDeclarator : Declarator → Ordered Declarator
orderDeclarator = fold-Declarator _ _ _ _ _ _ _ orders_exp orders_specifier orders_suffix orders_declarator orders_member orders_param orders_type

abbrev AgreesDeclarator : Declarator → Type 0
AgreesDeclarator x = Agree (tokensDeclarator x) (signsDeclarator x) (orderDeclarator x).1 []

abbrev tokensMember : Member → List Printed
tokensMember = fold-Member _ _ _ _ _ _ _ marks_exp marks_specifier marks_suffix marks_declarator marks_member marks_param marks_type

abbrev signsMember : Member → List Sign
signsMember = fold-Member _ _ _ _ _ _ _ prints_exp prints_specifier prints_suffix prints_declarator prints_member prints_param prints_type

abbrev pub orderMember : Member → Ordered Member
orderMember = fold-Member _ _ _ _ _ _ _ orders_exp orders_specifier orders_suffix orders_declarator orders_member orders_param orders_type

abbrev AgreesMember : Member → Type 0
AgreesMember x = Agree (tokensMember x) (signsMember x) (orderMember x).1 []

abbrev tokensParam : Param → List Printed
tokensParam = fold-Param _ _ _ _ _ _ _ marks_exp marks_specifier marks_suffix marks_declarator marks_member marks_param marks_type

abbrev signsParam : Param → List Sign
signsParam = fold-Param _ _ _ _ _ _ _ prints_exp prints_specifier prints_suffix prints_declarator prints_member prints_param prints_type

abbrev pub orderParam : Param → Ordered Param
orderParam = fold-Param _ _ _ _ _ _ _ orders_exp orders_specifier orders_suffix orders_declarator orders_member orders_param orders_type

abbrev AgreesParam : Param → Type 0
AgreesParam x = Agree (tokensParam x) (signsParam x) (orderParam x).1 []

abbrev tokensTypeName : TypeName → List Printed
tokensTypeName = fold-TypeName _ _ _ _ _ _ _ marks_exp marks_specifier marks_suffix marks_declarator marks_member marks_param marks_type

abbrev signsTypeName : TypeName → List Sign
signsTypeName = fold-TypeName _ _ _ _ _ _ _ prints_exp prints_specifier prints_suffix prints_declarator prints_member prints_param prints_type

abbrev pub orderTypeName : TypeName → Ordered TypeName
orderTypeName = fold-TypeName _ _ _ _ _ _ _ orders_exp orders_specifier orders_suffix orders_declarator orders_member orders_param orders_type

abbrev AgreesTypeName : TypeName → Type 0
AgreesTypeName x = Agree (tokensTypeName x) (signsTypeName x) (orderTypeName x).1 []

abbrev AllAgree : List Specifier → Type 0
AllAgree [] = Unit {0}
AllAgree (x ∷ xs) = AgreesSpecifier x × AllAgree xs

all_agree : (xs : List ((x : Specifier) × AgreesSpecifier x)) → AllAgree (map (λ x. x.0) xs)
all_agree [] = tt
all_agree (x ∷ xs) = (x.1, all_agree xs)

-- of `sizeof(type)` the parts of the type agree too
abbrev PartsAgree : Layer → Type 0
PartsAgree (Exp-F.SizeType t) = AllAgree t.specs × AgreesDeclarator t.declarator
PartsAgree _ = Unit {0}

abbrev IsKnown : Exp → Type 0
IsKnown x = AgreesExp x × PartsAgree (out-Exp x)

abbrev IsKnownType : TypeName → Type 0
IsKnownType t = AgreesTypeName t × (AllAgree t.specs × AgreesDeclarator t.declarator)

by_known_layer : {m m' : Layer → List Printed} {f f' : Layer → List Sign} {o o' : Layer → Ordered Exp} →
    ((z : Layer) → m z ≡ m' z) → ((z : Layer) → f z ≡ f' z) → ((z : Layer) → o z ≡ o' z) → (y z : Layer) → z ≡ y →
    Agree (m' z) (f' z) (o' z).1 [] → PartsAgree z → Agree (m y) (f y) (o y).1 [] × PartsAgree (out-Exp (roll-Exp y))
by_known_layer em ef eo y z is a parts = (by_ordered_layer em ef eo y z is a, subst PartsAgree (is ∙ sym (out-roll-Exp y)) parts)

known : (x : Exp) → IsKnown x
known = ind-Exp IsKnown AgreesSpecifier AgreesSuffix AgreesDeclarator AgreesMember AgreesParam IsKnownType
    (λ x. let turn = by_known_layer (fold-roll-Exp _ _ _ _ _ _ _ marks_exp marks_specifier marks_suffix marks_declarator marks_member marks_param marks_type) (fold-roll-Exp _ _ _ _ _ _ _ prints_exp prints_specifier prints_suffix prints_declarator prints_member prints_param prints_type) (fold-roll-Exp _ _ _ _ _ _ _ orders_exp orders_specifier orders_suffix orders_declarator orders_member orders_param orders_type) in
    elim [
      | Exp-F.Var name ↦ λ is. turn x _ is (headed (Exp-F.Var name) (e.rolls-Var name) refl nothing) tt
      | Exp-F.Num text ↦ λ is. turn x _ is (headed (Exp-F.Num text) (e.rolls-Num text) refl nothing) tt
      | Exp-F.Chr text ↦ λ is. turn x _ is (headed (Exp-F.Chr text) (e.rolls-Chr text) refl nothing) tt
      | Exp-F.Str texts ↦ λ is. turn x _ is (strings texts) tt
      | Exp-F.Paren a ↦ λ is. turn x _ is (headed (Exp-F.Paren _) (e.rolls-Paren _) refl (closes closing a.1.0)) tt
      | Exp-F.Index a b ↦ λ is. turn x _ is (joins a.1.0 (headed (Exp-F.Index _ _) (e.rolls-Index _ _) refl (closes bracket_end b.1.0))) tt
      | Exp-F.Call a xs ↦ λ is. turn x _ is (joins a.1.0 (headed (Exp-F.Call _ _) (e.rolls-Call _ _) refl (closes closing (commas IsKnown tokensExp signsExp orderExp (λ o. o.1) (λ t p. p.0) xs)))) tt
      | Exp-F.Dot a name ↦ λ is. turn x _ is (joins a.1.0 (headed (Exp-F.Dot _ name) (e.rolls-Dot _ name) refl (plainly nothing))) tt
      | Exp-F.Arrow a name ↦ λ is. turn x _ is (joins a.1.0 (headed (Exp-F.Arrow _ name) (e.rolls-Arrow _ name) refl (plainly nothing))) tt
      | Exp-F.PostInc a ↦ λ is. turn x _ is (joins a.1.0 (headed (Exp-F.PostInc _) (e.rolls-PostInc _) refl nothing)) tt
      | Exp-F.PostDec a ↦ λ is. turn x _ is (joins a.1.0 (headed (Exp-F.PostDec _) (e.rolls-PostDec _) refl nothing)) tt
      | Exp-F.PreInc a ↦ λ is. turn x _ is (headed (Exp-F.PreInc _) (e.rolls-PreInc _) refl a.1.0) tt
      | Exp-F.PreDec a ↦ λ is. turn x _ is (headed (Exp-F.PreDec _) (e.rolls-PreDec _) refl a.1.0) tt
      | Exp-F.Addr a ↦ λ is. turn x _ is (headed (Exp-F.Addr _) (e.rolls-Addr _) refl a.1.0) tt
      | Exp-F.Deref a ↦ λ is. turn x _ is (headed (Exp-F.Deref _) (e.rolls-Deref _) refl a.1.0) tt
      | Exp-F.Plus a ↦ λ is. turn x _ is (headed (Exp-F.Plus _) (e.rolls-Plus _) refl a.1.0) tt
      | Exp-F.Minus a ↦ λ is. turn x _ is (headed (Exp-F.Minus _) (e.rolls-Minus _) refl a.1.0) tt
      | Exp-F.Compl a ↦ λ is. turn x _ is (headed (Exp-F.Compl _) (e.rolls-Compl _) refl a.1.0) tt
      | Exp-F.Not a ↦ λ is. turn x _ is (headed (Exp-F.Not _) (e.rolls-Not _) refl a.1.0) tt
      | Exp-F.SizeExp a ↦ λ is. turn x _ is (headed (Exp-F.SizeExp _) (e.rolls-SizeExp _) refl a.1.0) tt
      | Exp-F.SizeType t ↦ λ is. turn x _ is (headed (Exp-F.SizeType _) (e.rolls-SizeType _) refl (plainly (closes closing t.1.0))) t.1.1
      | Exp-F.Cast t a ↦ λ is. turn x _ is (joins (headed (Exp-F.Cast _ _) (e.rolls-Cast _ _) refl (closes closing t.1.0)) a.1.0) tt
      | Exp-F.Binary o a b ↦ λ is. turn x _ is (joins a.1.0 (headed (Exp-F.Binary o _ _) (e.rolls-Binary o _ _) refl b.1.0)) tt
      | Exp-F.LogAnd a b ↦ λ is. turn x _ is (joins a.1.0 (headed (Exp-F.LogAnd _ _) (e.rolls-LogAnd _ _) refl b.1.0)) tt
      | Exp-F.LogOr a b ↦ λ is. turn x _ is (joins a.1.0 (headed (Exp-F.LogOr _ _) (e.rolls-LogOr _ _) refl b.1.0)) tt
      | Exp-F.Cond a b c ↦ λ is. turn x _ is (joins a.1.0 (headed (Exp-F.Cond _ _ _) (e.rolls-Cond _ _ _) refl (joins b.1.0 (plainly c.1.0)))) tt
      | Exp-F.Assign o a b ↦ λ is. turn x _ is (joins a.1.0 (headed (Exp-F.Assign o _ _) (e.rolls-Assign o _ _) refl b.1.0)) tt
      | Exp-F.Comma a b ↦ λ is. turn x _ is (joins a.1.0 (headed (Exp-F.Comma _ _) (e.rolls-Comma _ _) refl b.1.0)) tt
    ])
    (λ x. let turn = by_ordered_layer (fold-roll-Specifier _ _ _ _ _ _ _ marks_exp marks_specifier marks_suffix marks_declarator marks_member marks_param marks_type) (fold-roll-Specifier _ _ _ _ _ _ _ prints_exp prints_specifier prints_suffix prints_declarator prints_member prints_param prints_type) (fold-roll-Specifier _ _ _ _ _ _ _ orders_exp orders_specifier orders_suffix orders_declarator orders_member orders_param orders_type) in
    elim [
      | Specifier-F.Word text ↦ λ is. turn x _ is (plainly nothing)
      | Specifier-F.Named name ↦ λ is. turn x _ is (plainly nothing)
      | Specifier-F.Struct name None ↦ λ is. turn x _ is (plainly (joins (tag name) nothing))
      | Specifier-F.Struct name (Some ms) ↦ λ is. turn x _ is (plainly (joins (tag name) (plainly (closes brace_end (row AgreesMember tokensMember signsMember orderMember (λ o. o.1) (λ t p. p) ms)))))
      | Specifier-F.Enum name None more ↦ λ is. turn x _ is (plainly (joins (tag name) nothing))
      | Specifier-F.Enum name (Some xs) more ↦ λ is. turn x _ is (plainly (joins (tag name) (plainly (closes brace_end (before
          (items IsKnown tokensExp signsExp orderExp (λ t p. p.0) _ _ _ _ item_within (λ n. refl) (λ n. refl) (λ n. refl) (λ n t. refl) (λ n t. refl) (λ n t. refl) xs) (more_comma more))))))
    ])
    (λ x. let turn = by_ordered_layer (fold-roll-Suffix _ _ _ _ _ _ _ marks_exp marks_specifier marks_suffix marks_declarator marks_member marks_param marks_type) (fold-roll-Suffix _ _ _ _ _ _ _ prints_exp prints_specifier prints_suffix prints_declarator prints_member prints_param prints_type) (fold-roll-Suffix _ _ _ _ _ _ _ orders_exp orders_specifier orders_suffix orders_declarator orders_member orders_param orders_type) in
    elim [
      | Suffix-F.Plain ↦ λ is. turn x _ is nothing
      | Suffix-F.Arrays ts ↦ λ is. turn x _ is (sizes IsKnown tokensExp signsExp orderExp (λ t p. p.0) _ _ _ _ refl refl refl refl (λ t. refl) (λ t. refl) (λ t. refl) (λ t. refl) ts)
      | Suffix-F.Params ps more ↦ λ is. turn x _ is (plainly (closes closing (before (commas AgreesParam tokensParam signsParam orderParam (λ o. o.1) (λ t p. p) ps) (more_dots more))))
    ])
    (λ x y is. let turn = by_ordered_layer (fold-roll-Declarator _ _ _ _ _ _ _ marks_exp marks_specifier marks_suffix marks_declarator marks_member marks_param marks_type) (fold-roll-Declarator _ _ _ _ _ _ _ prints_exp prints_specifier prints_suffix prints_declarator prints_member prints_param prints_type) (fold-roll-Declarator _ _ _ _ _ _ _ orders_exp orders_specifier orders_suffix orders_declarator orders_member orders_param orders_type) in
    turn x _ is (joins (stars y.stars) (joins (name_of y.name) y.suffix.1)))
    (λ x y is. let turn = by_ordered_layer (fold-roll-Member _ _ _ _ _ _ _ marks_exp marks_specifier marks_suffix marks_declarator marks_member marks_param marks_type) (fold-roll-Member _ _ _ _ _ _ _ prints_exp prints_specifier prints_suffix prints_declarator prints_member prints_param prints_type) (fold-roll-Member _ _ _ _ _ _ _ orders_exp orders_specifier orders_suffix orders_declarator orders_member orders_param orders_type) in
    turn x _ is (joins (row AgreesSpecifier tokensSpecifier signsSpecifier orderSpecifier (λ o. o.1) (λ t p. p) y.specs) (closes semicolon (commas AgreesDeclarator tokensDeclarator signsDeclarator orderDeclarator (λ o. o.1) (λ t p. p) y.declarators))))
    (λ x y is. let turn = by_ordered_layer (fold-roll-Param _ _ _ _ _ _ _ marks_exp marks_specifier marks_suffix marks_declarator marks_member marks_param marks_type) (fold-roll-Param _ _ _ _ _ _ _ prints_exp prints_specifier prints_suffix prints_declarator prints_member prints_param prints_type) (fold-roll-Param _ _ _ _ _ _ _ orders_exp orders_specifier orders_suffix orders_declarator orders_member orders_param orders_type) in
    turn x _ is (joins (row AgreesSpecifier tokensSpecifier signsSpecifier orderSpecifier (λ o. o.1) (λ t p. p) y.specs) y.declarator.1))
    (λ x y is. let turn = by_ordered_layer (fold-roll-TypeName _ _ _ _ _ _ _ marks_exp marks_specifier marks_suffix marks_declarator marks_member marks_param marks_type) (fold-roll-TypeName _ _ _ _ _ _ _ prints_exp prints_specifier prints_suffix prints_declarator prints_member prints_param prints_type) (fold-roll-TypeName _ _ _ _ _ _ _ orders_exp orders_specifier orders_suffix orders_declarator orders_member orders_param orders_type) in
    (turn x _ is (joins (row AgreesSpecifier tokensSpecifier signsSpecifier orderSpecifier (λ o. o.1) (λ t p. p) y.specs) y.declarator.1), subst (λ (v : TypeName-F Exp Specifier Suffix Declarator Member Param TypeName). AllAgree v.specs × AgreesDeclarator v.declarator) is (all_agree y.specs, y.declarator.1)))

pub expression_agrees : (x : Exp) → Agree (marked x) (flat x) (expressions x) []
unfolding marked flat expressions
expression_agrees x = (known x).0

-- the parts of a type name, as they stand in `sizeof`
parts_agree : (t : TypeName) → PartsAgree (Exp-F.SizeType t)
parts_agree t = subst PartsAgree (out-roll-Exp (Exp-F.SizeType t)) (known (roll-Exp (Exp-F.SizeType t))).1

pub declarator_agrees : (d : Declarator) → Agree (marked_declarator d) (flat_declarator d) (declarator_expressions d) []
unfolding marked_declarator flat_declarator declarator_expressions
declarator_agrees d = (parts_agree (record { specs = []; declarator = d })).1

pub specifier_agrees : (x : Specifier) → Agree (marked_specifier x) (flat_specifier x) (specifier_expressions x) []
unfolding marked_specifier flat_specifier specifier_expressions
specifier_agrees x = (parts_agree (record { specs = x ∷ []; declarator = record { stars = []; name = None; suffix = su.Plain } })).0.0
