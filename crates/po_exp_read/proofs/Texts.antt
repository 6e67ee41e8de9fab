-- String literals side by side, compared.
use Rattle.std.proofs.Common.{◌≡◌, ℕ, List, [], ◌∷◌, ◌++◌, length, length-append, map, ap, sym, refl, subst, arith}
use Rattle.po_tree.specs.Signs.{Sign, string}
use Rattle.po_exp_parts.proofs.SameSigns.{same_string}
use Rattle.po_exp_read.proofs.Comparing.{Halts, Compared, same, longer, shorter, compared_map, halts_string}

-- more string literals or fewer of the same signs
pub texts_compared : (m : ℕ) (texts others : List (List ℕ)) (us vs : List Sign) → map string texts ++ us ≡ map string others ++ vs →
    Compared (λ _ ws. Halts m ws) texts us others vs
texts_compared m [] [] us vs q = same refl q
texts_compared m [] (text ∷ others) us vs q =
    shorter (omega (arith, ap length q, length-append (map string others) vs)) (halts_string m text (map string others ++ vs) us q)
texts_compared m (text ∷ texts) [] us vs q =
    longer (omega (arith, ap length q, length-append (map string texts) us)) (halts_string m text (map string texts ++ us) vs (sym q))
texts_compared m (text ∷ texts) (other ∷ others) us vs q =
    let p = same_string q in
    subst (λ v. Compared (λ _ ws. Halts m ws) (text ∷ texts) us (v ∷ others) vs) p.0
    (compared_map (λ v. text ∷ v) (λ a ws h. h) (texts_compared m texts others us vs p.1))
