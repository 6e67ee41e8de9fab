-- Initialisers that are one expression.
use Rattle.std.proofs.Common.{◌≡◌, ◌<◌, List, [], ◌∷◌, length, drop, get_or, Option, Some, None, refl, sym, ap, ◌∙◌, subst, Bool, Bor, arith}
use Rattle.std.specs.Prelude.{MatchOption}
use Rattle.std.proofs.lemmas.List.{drop_more, drop_all}
use Rattle.po_tree.specs.declared.expression.Exp.{Exp}
use Rattle.po_tree.specs.declared.declaration.Init.{Init, out-Init, out-roll-Init}
use Rattle.po_tree.specs.declared.declaration.Init.TheVariants as init
use Rattle.po_tree.specs.declared.declaration.Init.TheOpen.{Init-F}
use Rattle.po_type_inits.specs.Initialising.{IsSingle, single_alone, single_in_braces}

out_One : (x : Exp) → out-Init (init.One x) ≡ Init-F.One x
out_One x = ap out-Init (sym (init.rolls-One x)) ∙ out-roll-Init (Init-F.One x)

out_Many : (xs : List Init) (comma : Bool) → out-Init (init.Many xs comma) ≡ Init-F.Many xs comma
out_Many xs comma = ap out-Init (sym (init.rolls-Many xs comma)) ∙ out-roll-Init (Init-F.Many xs comma)

counted : {xs : List Init} {comma : Bool} {x : Exp} → IsSingle (Init-F.Many xs comma) x → length xs ≡ 1
counted (single_in_braces q) = refl

inside : {y : Init} {comma : Bool} {x : Exp} → IsSingle (Init-F.Many (y ∷ []) comma) x → out-Init y ≡ Init-F.One x
inside (single_in_braces q) = q

only : (xs : List Init) (y : Init) → length xs ≡ 1 → y ≡ get_or xs 0 y → xs ≡ y ∷ []
only xs y n q =
    let some : 0 < length xs = omega (arith, n) in
    let rest : drop 1 xs ≡ [] = drop_all 1 xs (omega (arith, n)) in
    drop_more xs 0 y some ∙ (ap (λ z. z ∷ drop 1 xs) (sym q) ∙ ap (λ z. y ∷ z) rest)

module _ (i : Init) where
  pub is_value : (x : Exp) → i ≡ init.One x → out-Init i ≡ Init-F.One x
  is_value x q = ap out-Init q ∙ out_One x

  pub no_value : (xs : List Init) (comma : Bool) → i ≡ init.Many xs comma → (x : Exp) → out-Init i ≡ Init-F.One x → ⊥
  no_value xs comma q x h = let f : Init-F.Many xs comma ≡ Init-F.One x = sym (ap out-Init q ∙ out_Many xs comma) ∙ h in absurd cc

  pub value_is_single : (x : Exp) → i ≡ init.One x → IsSingle (out-Init i) x
  value_is_single x q = subst (λ z. IsSingle z x) (sym (is_value x q)) single_alone

  module _ (xs : List Init) (comma : Bool) (q : i ≡ init.Many xs comma) where
    at : {x : Exp} → IsSingle (out-Init i) x → IsSingle (Init-F.Many xs comma) x
    at {x = x} h = subst (λ z. IsSingle z x) (ap out-Init q ∙ out_Many xs comma) h

    pub no_single : (length xs ≡ 1 → ⊥) → (x : Exp) → IsSingle (out-Init i) x → ⊥
    no_single n x h = n (counted (at h))

    module _ (lent : List Init) (e : lent ≡ xs) (y : Init) (n : length lent ≡ 1) (r : y ≡ get_or lent 0 y) where
      own : xs ≡ y ∷ []
      own = sym e ∙ only lent y n r

      pub single_told : (o : Option (Bor Exp)) → MatchOption o ((x : Exp) → out-Init y ≡ Init-F.One x → ⊥) (λ x. out-Init y ≡ Init-F.One x.now) →
          MatchOption o ((x : Exp) → IsSingle (out-Init i) x → ⊥) (λ x. IsSingle (out-Init i) x.now)
      single_told None h = λ x k. h x (inside (subst (λ z. IsSingle (Init-F.Many z comma) x) own (at k)))
      single_told (Some b) h =
          subst (λ z. IsSingle z b.now) (sym (ap out-Init q ∙ out_Many xs comma)) (subst (λ z. IsSingle (Init-F.Many z comma) b.now) (sym own) (single_in_braces h))
