-- Sizes of arrays, one after the other.
use Rattle.std.proofs.Common.{◌≡◌, ◌∙◌, ℕ, List, [], ◌∷◌, ◌++◌, refl, sym, ap, subst}
use Rattle.std.specs.Prelude.{Option, Some, None}
use Rattle.po_tree.specs.declared.expression.Exp.{Exp}
use Rattle.po_tree.specs.Signs.{Sign, bracket, bracket_end}
use Rattle.po_exp_read.specs.Longest.{StandsAt}
use Rattle.po_exp_parts.specs.Places.{Begins}
use Rattle.po_decl_parts.specs.Constants.{ConstantStands}
use Rattle.po_decl_parts.specs.Sizes.{SizesRead, sizes_end, no_size, one_size}
use Rattle.po_decl_parts.proofs.Endings.{constant_same, no_bracket_end, bracketed}
use Rattle.po_exp_parts.proofs.Leading.{Leads}

module _ {types : List (List ℕ)} where
  closed_same : {signs us vs : List Sign} {x y : Exp} → StandsAt 2 types signs x (bracket_end ∷ us) → StandsAt 2 types signs y (bracket_end ∷ vs) → (x ≡ y) × (us ≡ vs)
  closed_same {us = us} {vs = vs} w v = let p = constant_same (bracketed us w) (bracketed vs v) in let q = p.1 in (p.0, cc)

  along : {signs other us : List Sign} {x : Exp} → signs ≡ other → StandsAt 2 types signs x us → StandsAt 2 types other x us
  along {us = us} {x = x} q w = subst (λ v. StandsAt 2 types v x us) q w

  sizes_along : {ts ts' us vs : List Sign} {sizes others : List (Option Exp)} → ts ≡ ts' → SizesRead types ts sizes us → SizesRead types ts' others vs → (sizes ≡ others) × (us ≡ vs)
  sizes_along q (sizes_end ts none) (sizes_end ts' none') = (refl, q)
  sizes_along q (sizes_end ts none) (no_size sizes ts' us' w) = absurd (none (subst (Begins bracket) (sym q) refl))
  sizes_along q (sizes_end ts none) (one_size x sizes ts' us' vs' w v) = absurd (none (subst (Begins bracket) (sym q) refl))
  sizes_along q (no_size sizes ts us w) (sizes_end ts' none) = absurd (none (subst (Begins bracket) q refl))
  sizes_along q (no_size sizes ts us w) (no_size sizes' ts' us' w') =
      let rests : ts ≡ ts' = cc in
      let r = sizes_along rests w w' in
      (ap (λ z. None ∷ z) r.0, r.1)
  sizes_along q (no_size sizes ts us w) (one_size x sizes' ts' us' vs' w' v') = let rests : ts' ≡ bracket_end ∷ ts = cc in absurd (no_bracket_end ts rests w')
  sizes_along q (one_size x sizes ts us vs w v) (sizes_end ts' none) = absurd (none (subst (Begins bracket) q refl))
  sizes_along q (one_size x sizes ts us vs w v) (no_size sizes' ts' us' w') = let rests : ts ≡ bracket_end ∷ ts' = cc in absurd (no_bracket_end ts' rests w)
  sizes_along q (one_size x sizes ts us vs w v) (one_size x' sizes' ts' us' vs' w' v') =
      let rests : ts ≡ ts' = cc in
      let p = closed_same (along rests w) w' in
      let r = sizes_along p.1 v v' in
      (ap (λ z. Some z ∷ sizes) p.0 ∙ ap (λ z. Some x' ∷ z) r.0, r.1)

  -- from the same signs the same sizes are read
  pub sizes_same : {ts us vs : List Sign} {sizes others : List (Option Exp)} → SizesRead types ts sizes us → SizesRead types ts others vs → (sizes ≡ others) × (us ≡ vs)
  sizes_same w v = sizes_along refl w v

  empty_behind : {signs us : List Sign} {sizes : List (Option Exp)} (rest : List Sign) → signs ≡ bracket ∷ (bracket_end ∷ rest) → SizesRead types signs sizes us →
      (ys : List (Option Exp)) × (sizes ≡ (None ∷ []) ++ ys) × SizesRead types rest ys us
  empty_behind rest q (sizes_end ts none) = absurd (none (subst (Begins bracket) (sym q) refl))
  empty_behind rest q (no_size sizes ts us w) = let rests : ts ≡ rest = cc in (sizes, refl, subst (λ v. SizesRead types v sizes us) rests w)
  empty_behind rest q (one_size x sizes ts us vs w v) = let rests : ts ≡ bracket_end ∷ rest = cc in absurd (no_bracket_end rest rests w)

  -- brackets with nothing between them
  pub empty_leads : {signs : List Sign} (rest : List Sign) → signs ≡ bracket ∷ (bracket_end ∷ rest) → Leads (SizesRead types signs) (None ∷ []) (SizesRead types rest)
  empty_leads rest q = record {
    forth = λ ys us w. subst (λ v. SizesRead types v (None ∷ ys) us) (sym q) (no_size ys rest us w);
    back = λ zs us w. empty_behind rest q w;
  }

  -- the size in brackets, which are not empty
  pub size_inside : {signs inside us : List Sign} {sizes : List (Option Exp)} → signs ≡ bracket ∷ inside → (Begins bracket_end inside → ⊥) → SizesRead types signs sizes us →
      (x : Exp) × (ys : List (Option Exp)) × (mid : List Sign) × (sizes ≡ (Some x ∷ []) ++ ys) × StandsAt 2 types inside x (bracket_end ∷ mid) × SizesRead types mid ys us
  size_inside q full (sizes_end ts none) = absurd (none (subst (Begins bracket) (sym q) refl))
  size_inside {inside = inside} q full (no_size sizes ts us w) = let rests : bracket_end ∷ ts ≡ inside = cc in absurd (full (subst (Begins bracket_end) rests refl))
  size_inside {inside = inside} q full (one_size x sizes ts us vs w v) = let rests : ts ≡ inside = cc in (x, sizes, us, refl, along rests w, v)

  pub size_leads : {signs inside : List Sign} {x : Exp} (rest : List Sign) → signs ≡ bracket ∷ inside → (Begins bracket_end inside → ⊥) → StandsAt 2 types inside x (bracket_end ∷ rest) →
      Leads (SizesRead types signs) (Some x ∷ []) (SizesRead types rest)
  size_leads {inside = inside} {x = x} rest q full at = record {
    forth = λ ys us w. subst (λ v. SizesRead types v (Some x ∷ ys) us) (sym q) (one_size x ys inside rest us at w);
    back = λ zs us w.
        let p = size_inside q full w in
        let s = closed_same p.4 at in
        (p.1, p.3 ∙ ap (λ v. Some v ∷ p.1) s.0, subst (λ v. SizesRead types v p.1 us) s.1 p.5);
  }

  -- no sizes where no constant stands in the brackets
  pub no_sizes : {signs inside : List Sign} → signs ≡ bracket ∷ inside → (Begins bracket_end inside → ⊥) → ((x : Exp) (left : List Sign) → ConstantStands types inside x left → ⊥) →
      (sizes : List (Option Exp)) (us : List Sign) → SizesRead types signs sizes us → ⊥
  no_sizes q full none sizes us w = let p = size_inside q full w in none p.0 (bracket_end ∷ p.2) (bracketed p.2 p.4)

  -- or no bracket behind it
  pub open_sizes : {signs inside left : List Sign} {x : Exp} → signs ≡ bracket ∷ inside → (Begins bracket_end inside → ⊥) → ConstantStands types inside x left → (Begins bracket_end left → ⊥) →
      (sizes : List (Option Exp)) (us : List Sign) → SizesRead types signs sizes us → ⊥
  open_sizes q full at none sizes us w =
      let p = size_inside q full w in
      let s = constant_same at (bracketed p.2 p.4) in
      none (subst (Begins bracket_end) (sym s.1) refl)

  pub closed_by : {signs left : List Sign} {x : Exp} (rest : List Sign) → left ≡ bracket_end ∷ rest → ConstantStands types signs x left → StandsAt 2 types signs x (bracket_end ∷ rest)
  closed_by {signs = signs} {x = x} rest q w = subst (λ v. StandsAt 2 types signs x v) q w.stands
