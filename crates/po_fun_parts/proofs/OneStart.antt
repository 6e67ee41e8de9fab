-- Of two starts at the front of the same signs one is the other.
use Rattle.std.proofs.Common.{◌≡◌, ◌∙◌, ℕ, List, [], ◌∷◌, ◌++◌, refl, sym, ap, subst, inl, inr}
use Rattle.std.specs.Prelude.{Option}
use Rattle.po_tree.specs.declared.expression.Exp.{Exp}
use Rattle.po_tree.specs.declared.statement.Stmt.TheVariants as st
use Rattle.po_tree.specs.Signs.{Sign, word, brace, opening, semicolon, colon}
use Rattle.po_tree.specs.Words.{IsName}
use Rattle.po_exp_parts.proofs.SameSigns.{same_word}
use Rattle.po_exp_read.specs.Longest.{StandsBefore}
use Rattle.po_decl_laws.proofs.Behind.{tails}
use Rattle.po_fun_laws.proofs.FirstSigns.{Kind, by_brace, by_semicolon, by_label, otherwise, kind_first, label_kind}
use Rattle.po_fun_laws.proofs.OneExpression.{before_semicolon}
use Rattle.po_fun_parts.specs.declared.keywords.Keyword.{Keyword}
use Rattle.po_fun_parts.specs.declared.keywords.Keyword.TheVariants as keyword
use Rattle.po_fun_parts.specs.declared.starts.Start.{Start}
use Rattle.po_fun_parts.specs.declared.starts.Start.TheVariants as start
use Rattle.po_fun_parts.specs.Stops.{OptionalStands}
use Rattle.po_fun_parts.specs.Keywords.{spelling}
use Rattle.po_fun_parts.specs.Heads.{ForStands, ForOpens}
use Rattle.po_fun_parts.specs.Starting.{StartsBehind, StatementStarts, block, empty, expression, label, by_keyword}
use Rattle.po_fun_parts.proofs.Ending.{one_value, one_optional_value, one_constant}
use Rattle.po_fun_parts.proofs.Parentheses.{one_parenthesised, for_steps, one_steps}
use Rattle.po_fun_parts.proofs.Starting.{value_kind, other_kind, has_keyword, no_word, keyword_behind}

-- one start, and the same signs left
abbrev Same : Start → Start → List Sign → List Sign → Type 0
Same a b us vs = (a ≡ b) × (us ≡ vs)

module _ {types : List (List ℕ)} where
  -- behind a keyword

  one_for : {ts us vs : List Sign} {x y z x' y' z' : Option Exp} → ForStands types ts x y z us → ForStands types ts x' y' z' vs → Same (start.For x y z) (start.For x' y' z') us vs
  one_for {x = x} {y = y} {z = z} {x' = x'} {y' = y'} h g =
      let p = for_steps h.opens h.begins g in
      let c = one_steps h.steps p.1 in
      (ap (λ v. start.For v y z) p.0 ∙ (ap (λ v. start.For x' v z) c.0 ∙ ap (λ v. start.For x' y' v) c.1), c.2)

  no_opening : {ts us vs : List Sign} {x y z : Option Exp} → ForStands types ts x y z us → ForOpens types ts vs → ⊥
  no_opening {x = x} h g = g.others x h.behind (subst (λ v. OptionalStands types semicolon v x h.behind) (tails (sym h.opens ∙ g.opens)) h.begins)

one_behind : (types : List (List ℕ)) (ts us vs : List Sign) (w : Keyword) (a b : Start) → StartsBehind w types ts a us → StartsBehind w types ts b vs → Same a b us vs
one_behind types ts us vs keyword.If a b (x, q, h) (y, r, g) = let c = one_parenthesised h g in (q ∙ (ap start.If c.0 ∙ sym r), c.1)
one_behind types ts us vs keyword.While a b (x, q, h) (y, r, g) = let c = one_parenthesised h g in (q ∙ (ap start.While c.0 ∙ sym r), c.1)
one_behind types ts us vs keyword.Do a b (q, h) (r, g) = (q ∙ sym r, sym h ∙ g)
one_behind types ts us vs keyword.For a b (inl (x, y, z, q, h)) (inl (x', y', z', r, g)) = let c = one_for h g in (q ∙ (c.0 ∙ sym r), c.1)
one_behind types ts us vs keyword.For a b (inl (x, y, z, q, h)) (inr (r, g)) = absurd (no_opening h g)
one_behind types ts us vs keyword.For a b (inr (q, h)) (inl (x', y', z', r, g)) = absurd (no_opening g h)
one_behind types ts us vs keyword.For a b (inr (q, h)) (inr (r, g)) = (q ∙ sym r, tails (sym h.opens ∙ g.opens))
one_behind types ts us vs keyword.Switch a b (x, q, h) (y, r, g) = let c = one_parenthesised h g in (q ∙ (ap start.Switch c.0 ∙ sym r), c.1)
one_behind types ts us vs keyword.Case a b (x, q, h) (y, r, g) = let c = one_constant h g in (q ∙ (ap start.Case c.0 ∙ sym r), c.1)
one_behind types ts us vs keyword.Default a b (q, h) (r, g) = (q ∙ sym r, tails (sym h ∙ g))
one_behind types ts us vs keyword.Goto a b (x, q, is, h) (y, r, is', g) = let c = same_word (sym h ∙ g) in (q ∙ (ap (λ v. start.Whole (st.Goto v)) c.0 ∙ sym r), tails c.1)
one_behind types ts us vs keyword.Break a b (q, h) (r, g) = (q ∙ sym r, tails (sym h ∙ g))
one_behind types ts us vs keyword.Continue a b (q, h) (r, g) = (q ∙ sym r, tails (sym h ∙ g))
one_behind types ts us vs keyword.Return a b (x, q, h) (y, r, g) = let c = one_optional_value before_semicolon h g in (q ∙ (ap (λ v. start.Whole (st.Return v)) c.0 ∙ sym r), c.1)

module _ {types : List (List ℕ)} where
  -- where no keyword stands

  at_brace : {signs ts left : List Sign} {begun : Start} → signs ≡ brace ∷ ts → StatementStarts types signs begun left → Same start.Block begun ts left
  at_brace q (block left) = (refl, tails (sym q))
  at_brace q (empty left) = let kinds : by_semicolon ≡ by_brace = ap kind_first q in absurd cc
  at_brace q (expression x signs left at) = let kinds : otherwise ≡ by_brace = sym (value_kind at) ∙ ap kind_first q in absurd cc
  at_brace q (label name left is) = absurd (no_word refl (sym q))
  at_brace q (by_keyword w us begun left h) = absurd (no_word refl (sym q))

  at_semicolon : {signs ts left : List Sign} {begun : Start} → signs ≡ semicolon ∷ ts → StatementStarts types signs begun left → Same (start.Whole st.Empty) begun ts left
  at_semicolon q (block left) = let kinds : by_brace ≡ by_semicolon = ap kind_first q in absurd cc
  at_semicolon q (empty left) = (refl, tails (sym q))
  at_semicolon q (expression x signs left at) = let kinds : otherwise ≡ by_semicolon = sym (value_kind at) ∙ ap kind_first q in absurd cc
  at_semicolon q (label name left is) = absurd (no_word refl (sym q))
  at_semicolon q (by_keyword w us begun left h) = absurd (no_word refl (sym q))

  at_label : {signs ts left : List Sign} {begun : Start} {name : List ℕ} → IsName name → signs ≡ word name ∷ (colon ∷ ts) → StatementStarts types signs begun left → Same (start.Label name) begun ts left
  at_label is q (block left) = absurd (no_word refl q)
  at_label is q (empty left) = absurd (no_word refl q)
  at_label {ts = ts} is q (expression x signs left at) = let kinds : otherwise ≡ by_label = sym (value_kind at) ∙ (ap kind_first q ∙ label_kind ts is) in absurd cc
  at_label is q (label name' left is') = let c = same_word (sym q) in (ap start.Label c.0, tails c.1)
  at_label {ts = ts} is q (by_keyword w us begun left h) = absurd (other_kind {us = us} w refl (ap has_keyword (ap kind_first q ∙ label_kind ts is)))

  at_value : {signs us left : List Sign} {begun : Start} {x : Exp} → StandsBefore types signs x (semicolon ∷ us) → StatementStarts types signs begun left → Same (start.Whole (st.ExpS x)) begun us left
  at_value at (block left) = let kinds : by_brace ≡ otherwise = value_kind at in absurd cc
  at_value at (empty left) = let kinds : by_semicolon ≡ otherwise = value_kind at in absurd cc
  at_value at (expression y signs left at') = let c = one_value before_semicolon before_semicolon at at' in (ap (λ v. start.Whole (st.ExpS v)) c.0, tails c.1)
  at_value at (label name left is) = let kinds : by_label ≡ otherwise = sym (label_kind left is) ∙ value_kind at in absurd cc
  at_value at (by_keyword w us begun left h) = absurd (other_kind {us = us} w refl (ap has_keyword (value_kind at)))

  pub one_start : {signs us vs : List Sign} {a b : Start} → StatementStarts types signs a us → StatementStarts types signs b vs → Same a b us vs
  one_start (block left) v = at_brace refl v
  one_start (empty left) v = at_semicolon refl v
  one_start (expression x signs left at) v = at_value at v
  one_start (label name left is) v = at_label is refl v
  one_start {vs = vs} {b = b} (by_keyword w ts begun left h) v = one_behind types ts left vs w begun b h (keyword_behind w refl v)
