-- The weights of nested parts, by what they hold.
use Rattle.std.proofs.Common.{◌≡◌, ℕ, suc, ◌+◌, ◌≤◌, List, [], ◌∷◌, ◌++◌, map, ap, sym, ◌∙◌, subst, arith}
use Rattle.std.specs.Prelude.{Option, Some, None, Bool}
use Rattle.po_tree.specs.declared.expression.Exp.{Exp}
use Rattle.po_tree.specs.declared.expression.Exp.TheOpen.{Specifier-F, Suffix-F}
use Rattle.po_tree.specs.declared.expression.Specifier.{Specifier, fold-roll-Specifier, fold_out-Specifier}
use Rattle.po_tree.specs.declared.expression.Specifier.TheVariants as sp
use Rattle.po_tree.specs.declared.expression.Suffix.{fold-roll-Suffix}
use Rattle.po_tree.specs.declared.expression.Suffix.TheVariants as su
use Rattle.po_tree.specs.declared.expression.Declarator.{Declarator, fold-roll-Declarator}
use Rattle.po_tree.specs.declared.expression.Member.{Member, out-Member, fold_out-Member}
use Rattle.po_tree.specs.declared.expression.Param.{Param, out-Param, fold_out-Param}
use Rattle.po_tree.specs.Gathering.{total}
use Rattle.po_tree.specs.Dropping.{weighs_specifier, weighs_suffix, weighs_declarator, weighs_member, weighs_param, weight, suffix_weight, declarator_weight, member_weight, param_weight, list_weight, kept_suffix}

pub total_push : {A : Type 0} (f : A → ℕ) (xs : List A) (x : A) → total (map f (xs ++ x ∷ [])) ≡ total (map f xs) + f x
total_push f [] x = omega arith
total_push f (y ∷ xs) x = let more = total_push f xs x in omega (arith, more)

pub weight-body : (tag : Option (List ℕ)) (ms : Option (List Member)) → weight (sp.Struct tag ms) ≡ suc (list_weight member_weight ms)
unfolding weight member_weight
weight-body tag None = ap weight (sym (sp.rolls-Struct tag None))
    ∙ fold-roll-Specifier _ _ _ _ _ _ _ (λ _. 0) weighs_specifier weighs_suffix weighs_declarator weighs_member weighs_param (λ _. 0) (Specifier-F.Struct tag None)
weight-body tag (Some ms) = ap weight (sym (sp.rolls-Struct tag (Some ms)))
    ∙ fold-roll-Specifier _ _ _ _ _ _ _ (λ _. 0) weighs_specifier weighs_suffix weighs_declarator weighs_member weighs_param (λ _. 0) (Specifier-F.Struct tag (Some ms))

some_weight : (l : Specifier-F ℕ ℕ ℕ ℕ ℕ ℕ ℕ) → 1 ≤ weighs_specifier l
some_weight (Specifier-F.Word text) = omega arith
some_weight (Specifier-F.Named name) = omega arith
some_weight (Specifier-F.Struct tag None) = omega arith
some_weight (Specifier-F.Struct tag (Some ms)) = omega arith
some_weight (Specifier-F.Enum tag items more) = omega arith

pub weight-some : (s : Specifier) → 1 ≤ weight s
unfolding weight
weight-some s = subst (λ n. 1 ≤ n) (sym (fold_out-Specifier _ _ _ _ _ _ _ (λ _. 0) weighs_specifier weighs_suffix weighs_declarator weighs_member weighs_param (λ _. 0) s)) (some_weight _)

pub suffix_weight-plain : suffix_weight su.Plain ≡ 1
unfolding suffix_weight
suffix_weight-plain = ap suffix_weight (sym su.rolls-Plain)
    ∙ fold-roll-Suffix _ _ _ _ _ _ _ (λ _. 0) weighs_specifier weighs_suffix weighs_declarator weighs_member weighs_param (λ _. 0) Suffix-F.Plain

pub suffix_weight-arrays : (sizes : List (Option Exp)) → suffix_weight (su.Arrays sizes) ≡ 2
unfolding suffix_weight
suffix_weight-arrays sizes = ap suffix_weight (sym (su.rolls-Arrays sizes))
    ∙ fold-roll-Suffix _ _ _ _ _ _ _ (λ _. 0) weighs_specifier weighs_suffix weighs_declarator weighs_member weighs_param (λ _. 0) (Suffix-F.Arrays sizes)

pub suffix_weight-params : (ps : List Param) (more : Bool) → suffix_weight (su.Params ps more) ≡ suc (suc (total (map param_weight ps)))
unfolding suffix_weight param_weight
suffix_weight-params ps more = ap suffix_weight (sym (su.rolls-Params ps more))
    ∙ fold-roll-Suffix _ _ _ _ _ _ _ (λ _. 0) weighs_specifier weighs_suffix weighs_declarator weighs_member weighs_param (λ _. 0) (Suffix-F.Params ps more)

pub kept_weight : (ps : Option (List Param)) → suffix_weight (kept_suffix ps) ≡ suc (list_weight param_weight ps)
kept_weight None = suffix_weight-plain
kept_weight (Some ps) = suffix_weight-params ps _

pub declarator_weight-parts : (d : Declarator) → declarator_weight d ≡ suffix_weight d.suffix
unfolding declarator_weight suffix_weight
declarator_weight-parts d = fold-roll-Declarator _ _ _ _ _ _ _ (λ _. 0) weighs_specifier weighs_suffix weighs_declarator weighs_member weighs_param (λ _. 0) (record { stars = d.stars; name = d.name; suffix = d.suffix })

pub member_weight-parts : (m : Member) → member_weight m ≡ suc (total (map weight (out-Member m).specs) + total (map declarator_weight (out-Member m).declarators))
unfolding weight declarator_weight member_weight
member_weight-parts m = fold_out-Member _ _ _ _ _ _ _ (λ _. 0) weighs_specifier weighs_suffix weighs_declarator weighs_member weighs_param (λ _. 0) m

param_weight-layer : (p : Param) → param_weight p ≡ suc (total (map weight (out-Param p).specs) + declarator_weight (out-Param p).declarator)
unfolding weight declarator_weight param_weight
param_weight-layer p = fold_out-Param _ _ _ _ _ _ _ (λ _. 0) weighs_specifier weighs_suffix weighs_declarator weighs_member weighs_param (λ _. 0) p

pub param_weight-parts : (p : Param) → param_weight p ≡ suc (total (map weight (out-Param p).specs) + suffix_weight (out-Param p).declarator.suffix)
param_weight-parts p = let a = param_weight-layer p in let b = declarator_weight-parts (out-Param p).declarator in omega (arith, a, b)

-- by the last item, and what it holds
pub heavy_member : (ms rest : List Member) (m : Member) (specs : List Specifier) (s : Specifier) → ms ≡ rest ++ m ∷ [] → (out-Member m).specs ≡ specs ++ s ∷ [] →
    total (map member_weight ms) ≡
    total (map member_weight rest) + suc (total (map weight specs) + weight s + total (map declarator_weight (out-Member m).declarators))
heavy_member ms rest m specs s q p =
    let a = ap (λ v. total (map member_weight v)) q ∙ total_push member_weight rest m in
    let b = member_weight-parts m in
    let c = ap (λ v. total (map weight v)) p ∙ total_push weight specs s in
    omega (arith, a, b, c)

pub light_member : (ms rest : List Member) (m : Member) (specs : List Specifier) → ms ≡ rest ++ m ∷ [] → (out-Member m).specs ≡ specs →
    total (map member_weight ms) ≡ total (map member_weight rest) + suc (total (map weight specs) + total (map declarator_weight (out-Member m).declarators))
light_member ms rest m specs q p =
    let a = ap (λ v. total (map member_weight v)) q ∙ total_push member_weight rest m in
    let b = member_weight-parts m in
    let c = ap (λ v. total (map weight v)) p in
    omega (arith, a, b, c)

pub weight_of_params : (ps rest : List Param) (p : Param) (specs : List Specifier) (d : Declarator) → ps ≡ rest ++ p ∷ [] → (out-Param p).specs ≡ specs → (out-Param p).declarator ≡ d →
    total (map param_weight ps) ≡ total (map param_weight rest) + suc (total (map weight specs) + suffix_weight d.suffix)
weight_of_params ps rest p specs d q a b =
    let w = ap (λ v. total (map param_weight v)) q ∙ total_push param_weight rest p in
    let x = param_weight-parts p in
    let y = ap (λ v. total (map weight v)) a in
    let z = ap (λ (v : Declarator). suffix_weight v.suffix) b in
    omega (arith, w, x, y, z)
