-- What stands in braces behind the first initialiser.
use Rattle.std.proofs.Common.{◌≡◌, ℕ, ◌≤◌, List, [], ◌∷◌, ◌++◌, map, cond, get_or, ap, sym, ◌∙◌, refl, arith, append_assoc}
use Rattle.std.specs.Prelude.{Bool, true, false}
use Rattle.po_tree.specs.declared.declaration.Init.{Init}
use Rattle.po_tree.specs.declared.declaration.Init.TheVariants as init
use Rattle.po_tree.specs.Signs.{Sign, comma, brace, brace_end}
use Rattle.po_tree.specs.Printing.{flat_init, after_commas}
use Rattle.po_tree.specs.Heights.{init_height}
use Rattle.po_tree.specs.Declarations.{IsInit, one, many, AllInits, one_more_init}
use Rattle.po_exp_parts.specs.Places.{at_comma, at_brace, BeginsEnd}
use Rattle.po_init_read.proofs.Layers.{flat_init-Many}
use Rattle.po_init_read.proofs.Fronts.{no_expression}
use Rattle.po_init_read.proofs.Ended.{stands_at}

-- the other initialisers, each behind a comma, a comma where one stands behind the last, the closing brace, and what is left
abbrev pub behind_first : List Init → Bool → List Sign → List Sign
behind_first xs more us = after_commas (map flat_init xs) ++ (cond more (comma ∷ []) [] ++ (brace_end ∷ us))

pub comma_brace_end : {us vs : List Sign} → comma ∷ us ≡ brace_end ∷ vs → ⊥
comma_brace_end q = let texts = ap (λ signs. get_or (get_or signs 0 comma).text 0 0) q in omega arith

pub brace_brace_end : {us vs : List Sign} → brace ∷ us ≡ brace_end ∷ vs → ⊥
brace_brace_end q = let texts = ap (λ signs. get_or (get_or signs 0 comma).text 0 0) q in omega arith

regrouped : (xs ys zs : List Sign) (sign : Sign) (us : List Sign) → (((xs ++ ys) ++ zs) ++ sign ∷ []) ++ us ≡ xs ++ (ys ++ (zs ++ (sign ∷ us)))
regrouped xs ys zs sign us =
    append_assoc ((xs ++ ys) ++ zs) (sign ∷ []) us ∙ append_assoc (xs ++ ys) zs (sign ∷ us) ∙ append_assoc xs ys (zs ++ (sign ∷ us))

-- braces print the first initialiser and what stands behind it
pub flat_braces : (x : Init) (xs : List Init) (more : Bool) (us : List Sign) →
    flat_init (init.Many (x ∷ xs) more) ++ us ≡ brace ∷ (flat_init x ++ behind_first xs more us)
flat_braces x xs more us =
    ap (λ v. v ++ us) (flat_init-Many (x ∷ xs) more) ∙
    ap (λ v. brace ∷ v) (regrouped (flat_init x) (after_commas (map flat_init xs)) (cond more (comma ∷ []) []) brace_end us)

pub behind_next : (x : Init) (xs : List Init) (more : Bool) (us : List Sign) →
    behind_first (x ∷ xs) more us ≡ comma ∷ (flat_init x ++ behind_first xs more us)
behind_next x xs more us = ap (λ v. comma ∷ v) (append_assoc (flat_init x) (after_commas (map flat_init xs)) (cond more (comma ∷ []) [] ++ (brace_end ∷ us)))

-- it begins with a comma or the closing brace
pub behind_ends : (xs : List Init) (more : Bool) (us : List Sign) → BeginsEnd (behind_first xs more us)
behind_ends [] true us = at_comma
behind_ends [] false us = at_brace
behind_ends (x ∷ xs) more us = at_comma

pub first_formed : {types : List (List ℕ)} {x : Init} {xs : List Init} → AllInits types (x ∷ xs) → IsInit types x
first_formed (one_more_init x xs first others) = first

pub others_formed : {types : List (List ℕ)} {x : Init} {xs : List Init} → AllInits types (x ∷ xs) → AllInits types xs
others_formed (one_more_init x xs first others) = others

-- no initialiser begins with a closing brace
pub no_brace_end : {types : List (List ℕ)} {x : Init} (us vs : List Sign) → IsInit types x → init_height x ≤ 256 → flat_init x ++ us ≡ brace_end ∷ vs → ⊥
no_brace_end us vs (one m x high formed) low q = no_expression refl (stands_at us m x high formed low (sym q))
no_brace_end us vs (many x xs more all) low q = brace_brace_end (sym (flat_braces x xs more us) ∙ q)
