-- How many specifiers there are in one, by its parts.
use Rattle.std.proofs.Common.{◌≡◌, ℕ, suc, ◌+◌, List, [], ◌∷◌, ◌++◌, map, ap, sym, ◌∙◌, refl, arith, Bool}
use Rattle.std.specs.Prelude.{Option, Some, None}
use Rattle.po_tree.specs.declared.expression.Exp.{Exp}
use Rattle.po_tree.specs.declared.expression.Exp.TheOpen.{Specifier-F}
use Rattle.po_tree.specs.declared.expression.Specifier.{Specifier, fold-roll-Specifier}
use Rattle.po_tree.specs.declared.expression.Specifier.TheVariants as sp
use Rattle.po_tree.specs.declared.expression.Member.{Member, out-Member, fold-Member, fold_out-Member}
use Rattle.po_tree.specs.Gathering.{total, counts_specifier, counts_member, count_in, count_all, in_members}

pub count_all-append : (xs ys : List Specifier) → count_all (xs ++ ys) ≡ count_all xs + count_all ys
count_all-append [] ys = omega arith
count_all-append (x ∷ xs) ys = let more = count_all-append xs ys in omega (arith, more)

count_members : (ms : List Member) → total (map (fold-Member _ _ _ _ _ _ _ (λ _. 0) counts_specifier (λ _. 0) (λ _. 0) counts_member (λ _. 0) (λ _. 0)) ms) ≡
    count_all (in_members ms)
unfolding count_in
count_members [] = refl
count_members (m ∷ ms) =
    ap (λ n. n + total (map (fold-Member _ _ _ _ _ _ _ (λ _. 0) counts_specifier (λ _. 0) (λ _. 0) counts_member (λ _. 0) (λ _. 0)) ms))
    (fold_out-Member _ _ _ _ _ _ _ (λ _. 0) counts_specifier (λ _. 0) (λ _. 0) counts_member (λ _. 0) (λ _. 0) m)
    ∙ ap (λ n. count_all (out-Member m).specs + n) (count_members ms) ∙ sym (count_all-append (out-Member m).specs (in_members ms))

pub count_in-body : (tag : Option (List ℕ)) (ms : List Member) → count_in (sp.Struct tag (Some ms)) ≡ suc (count_all (in_members ms))
unfolding count_in
count_in-body tag ms = ap count_in (sym (sp.rolls-Struct tag (Some ms)))
    ∙ fold-roll-Specifier _ _ _ _ _ _ _ (λ _. 0) counts_specifier (λ _. 0) (λ _. 0) counts_member (λ _. 0) (λ _. 0) (Specifier-F.Struct tag (Some ms)) ∙ ap suc (count_members ms)

pub count_in-tag : (tag : Option (List ℕ)) → count_in (sp.Struct tag None) ≡ 1
unfolding count_in
count_in-tag tag = ap count_in (sym (sp.rolls-Struct tag None))
    ∙ fold-roll-Specifier _ _ _ _ _ _ _ (λ _. 0) counts_specifier (λ _. 0) (λ _. 0) counts_member (λ _. 0) (λ _. 0) (Specifier-F.Struct tag None)

pub count_in-enum : (tag : Option (List ℕ)) (items : Option (List (List ℕ × Option Exp))) (more : Bool) → count_in (sp.Enum tag items more) ≡ 1
unfolding count_in
count_in-enum tag items more = ap count_in (sym (sp.rolls-Enum tag items more))
    ∙ fold-roll-Specifier _ _ _ _ _ _ _ (λ _. 0) counts_specifier (λ _. 0) (λ _. 0) counts_member (λ _. 0) (λ _. 0) (Specifier-F.Enum tag items more)

pub count_in-word : (text : List ℕ) → count_in (sp.Word text) ≡ 1
unfolding count_in
count_in-word text = ap count_in (sym (sp.rolls-Word text))
    ∙ fold-roll-Specifier _ _ _ _ _ _ _ (λ _. 0) counts_specifier (λ _. 0) (λ _. 0) counts_member (λ _. 0) (λ _. 0) (Specifier-F.Word text)

pub count_in-named : (name : List ℕ) → count_in (sp.Named name) ≡ 1
unfolding count_in
count_in-named name = ap count_in (sym (sp.rolls-Named name))
    ∙ fold-roll-Specifier _ _ _ _ _ _ _ (λ _. 0) counts_specifier (λ _. 0) (λ _. 0) counts_member (λ _. 0) (λ _. 0) (Specifier-F.Named name)
