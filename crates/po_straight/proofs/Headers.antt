-- A heading is read in one way.
use Rattle.std.proofs.Common.{◌≡◌, ℕ, ◌+◌, List, [], ◌∷◌, ◌++◌, drop, ap, sym, ◌∙◌, refl, arith, append_assoc}
use Rattle.po_straight.specs.declared.lexeme.Sign.{Sign}
use Rattle.po_straight.specs.declared.lexeme.Sign.TheVariants as s
use Rattle.po_straight.specs.declared.lexeme.Lexeme.{Lexeme}
use Rattle.po_straight.specs.Definitions.{signs, parameter_signs, heading_signs}
use Rattle.po_straight.specs.Outline.{Begins, Leads}
use Rattle.po_straight.proofs.Listings.{begins, begins_not, commas}

abbrev pub NoComma : List Sign → Type 0
NoComma ts = (left : List Sign) → ts ≡ s.Comma ∷ left → ⊥

commas_same : (ps qs : List (List ℕ)) (l m : List Sign) → NoComma l → NoComma m → commas ps ++ l ≡ commas qs ++ m → (ps ≡ qs) × (l ≡ m)
commas_same [] [] l m hl hm e = (refl, e)
commas_same [] (q ∷ qs) l m hl hm e = absurd (hl _ e)
commas_same (p ∷ ps) [] l m hl hm e = absurd (hm _ (sym e))
commas_same (p ∷ ps) (q ∷ qs) l m hl hm e =
    let same : p ≡ q = cc in
    let tail : commas ps ++ l ≡ commas qs ++ m = cc in
    let r = commas_same ps qs l m hl hm tail in
    let rest : ps ≡ qs = r.0 in (cc, r.1)

pub parameters_same : (ps qs : List (List ℕ)) (l m : List Sign) → NoComma l → NoComma m → parameter_signs ps ++ l ≡ parameter_signs qs ++ m → (ps ≡ qs) × (l ≡ m)
parameters_same [] [] l m hl hm e = let tail : l ≡ m = cc in (refl, tail)
parameters_same [] (q ∷ qs) l m hl hm e = absurd (cc)
parameters_same (p ∷ ps) [] l m hl hm e = absurd (cc)
parameters_same (p ∷ ps) (q ∷ qs) l m hl hm e =
    let same : p ≡ q = cc in
    let tail : commas ps ++ l ≡ commas qs ++ m = cc in
    let r = commas_same ps qs l m hl hm tail in
    let rest : ps ≡ qs = r.0 in (cc, r.1)

close_no_comma : (left : List Sign) → NoComma (s.Close ∷ left)
close_no_comma left l e = cc

-- the parts of a heading, one after the other
pub heading_parts : (name : List ℕ) (ps : List (List ℕ)) (left : List Sign) →
    heading_signs name ps ++ left ≡ s.Int ∷ (s.Name name ∷ (s.Open ∷ (parameter_signs ps ++ (s.Close ∷ (s.OpenBrace ∷ left)))))
heading_parts name ps left = ap (λ v. s.Int ∷ (s.Name name ∷ (s.Open ∷ v))) (append_assoc (parameter_signs ps) (s.Close ∷ (s.OpenBrace ∷ [])) left)

pub heading_same : (name other : List ℕ) (ps qs : List (List ℕ)) (l m : List Sign) → heading_signs name ps ++ l ≡ heading_signs other qs ++ m →
    (name ≡ other) × (ps ≡ qs) × (l ≡ m)
heading_same name other ps qs l m e =
    let q = sym (heading_parts name ps l) ∙ e ∙ heading_parts other qs m in
    let same : name ≡ other = cc in
    let tail : parameter_signs ps ++ (s.Close ∷ (s.OpenBrace ∷ l)) ≡ parameter_signs qs ++ (s.Close ∷ (s.OpenBrace ∷ m)) = cc in
    let r = parameters_same ps qs _ _ (close_no_comma (s.OpenBrace ∷ l)) (close_no_comma (s.OpenBrace ∷ m)) tail in
    let rest = r.1 in
    let left : l ≡ m = cc in
    (same, r.0, left)

module _ (xs : List Lexeme) (at : ℕ) (own : List ℕ) (front : Leads (s.Int ∷ (s.Name own ∷ [])) (drop at xs) (drop (at + 2) xs)) where
  three : drop (at + 2 + 1) xs ≡ drop (at + 3) xs
  three = let e : at + 2 + 1 ≡ at + 3 = omega arith in ap (λ n. drop n xs) e

  -- what is behind `int NAME` of a heading
  pub behind_name : (name : List ℕ) (ps : List (List ℕ)) (left : List Sign) → signs (drop at xs) ≡ heading_signs name ps ++ left →
      signs (drop (at + 2) xs) ≡ s.Open ∷ (parameter_signs ps ++ (s.Close ∷ (s.OpenBrace ∷ left)))
  behind_name name ps left e =
      let q = sym front ∙ e ∙ heading_parts name ps left in
      let r : signs (drop (at + 2) xs) ≡ s.Open ∷ (parameter_signs ps ++ (s.Close ∷ (s.OpenBrace ∷ left))) = cc in r

  pub no_open : (name : List ℕ) (ps : List (List ℕ)) (left : List Sign) → (Begins s.Open (drop (at + 2) xs) → ⊥) → signs (drop at xs) ≡ heading_signs name ps ++ left → ⊥
  no_open name ps left none e = begins_not s.Open (drop (at + 2) xs) _ none (behind_name name ps left e)

  pub behind_open : (name : List ℕ) (ps : List (List ℕ)) (left : List Sign) → Begins s.Open (drop (at + 2) xs) → signs (drop at xs) ≡ heading_signs name ps ++ left →
      signs (drop (at + 3) xs) ≡ parameter_signs ps ++ (s.Close ∷ (s.OpenBrace ∷ left))
  behind_open name ps left open_here e =
      let a = (begins s.Open xs (at + 2) open_here).0 ∙ ap (λ v. s.Open ∷ signs v) three in
      let q = sym a ∙ behind_name name ps left e in
      let r : signs (drop (at + 3) xs) ≡ parameter_signs ps ++ (s.Close ∷ (s.OpenBrace ∷ left)) = cc in r

  -- what is behind the parameters of a heading
  pub behind_parameters : (name : List ℕ) (ps qs : List (List ℕ)) (end : ℕ) (left : List Sign) → Begins s.Open (drop (at + 2) xs) →
      Leads (parameter_signs qs) (drop (at + 3) xs) (drop end xs) → (Begins s.Comma (drop end xs) → ⊥) → signs (drop at xs) ≡ heading_signs name ps ++ left →
      signs (drop end xs) ≡ s.Close ∷ (s.OpenBrace ∷ left)
  behind_parameters name ps qs end left open_here h last e =
      (parameters_same qs ps (signs (drop end xs)) (s.Close ∷ (s.OpenBrace ∷ left)) (λ l q. begins_not s.Comma (drop end xs) l last q)
      (close_no_comma (s.OpenBrace ∷ left)) (sym h ∙ behind_open name ps left open_here e)).1

  -- the whole heading
  pub heading_whole : (ps : List (List ℕ)) (end : ℕ) → Begins s.Open (drop (at + 2) xs) → Leads (parameter_signs ps) (drop (at + 3) xs) (drop end xs) →
      Leads (s.Close ∷ (s.OpenBrace ∷ [])) (drop end xs) (drop (end + 2) xs) → Leads (heading_signs own ps) (drop at xs) (drop (end + 2) xs)
  heading_whole ps end open_here h g =
      let a = (begins s.Open xs (at + 2) open_here).0 ∙ ap (λ v. s.Open ∷ signs v) three in
      front ∙ ap (λ v. s.Int ∷ (s.Name own ∷ v)) (a ∙ ap (λ v. s.Open ∷ v) (h ∙ ap (λ v. parameter_signs ps ++ v) g)) ∙ sym (heading_parts own ps (signs (drop (end + 2) xs)))
