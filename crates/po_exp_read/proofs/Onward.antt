-- The longest expression, from the longest first operand on and with the longest of what goes on with it each time.
use Rattle.std.proofs.Common.{◌≡◌, ℕ, suc, ◌-◌, ◌≤◌, List, ◌∷◌, length, ap, sym, ◌∙◌, refl, subst, arith, ◌⊎◌, inl, inr}
use Rattle.std.specs.Prelude.{max}
use Rattle.po_tree.specs.declared.expression.Exp.{Exp}
use Rattle.po_exp_parts.specs.declared.continuation.Continuation.{Continuation}
use Rattle.po_exp_parts.specs.declared.found.Tail.{Tail}
use Rattle.po_exp_parts.specs.declared.found.Leveled.{Leveled}
use Rattle.po_tree.specs.Signs.{Sign}
use Rattle.po_tree.specs.Heights.{height}
use Rattle.po_exp_parts.specs.Continuing.{opens, IsUsed, level_of, grow, tail_height}
use Rattle.po_exp_parts.specs.Reading.{Reads, begun, Climbs, stop, more, Follows}
use Rattle.po_exp_parts.specs.Finding.{IsBest, IsNone, operand_height, StandsAsOperand, Continues, leveled}
use Rattle.po_exp_read.proofs.Heights.{height-grow, climbs_rise}
use Rattle.po_exp_parts.proofs.Signing.{opens_same}
use Rattle.po_exp_read.proofs.Shortening.{follows_shorten}
use Rattle.po_exp_read.proofs.Comparing.{Halts, Compared, same, longer, shorter, halts_stop}
use Rattle.po_exp_read.proofs.Compared.{operands_compared, follows_compared}

-- In reading from these signs x of level own was read so far, and us are left: what goes on with x is read, and what is read of at
-- most this height goes on with x or is no longer than x.
pub record Onward (types : List (List ℕ)) (least depth : ℕ) (signs : List Sign) (own : ℕ) (x : Exp) (us : List Sign) : Type 0 where
  pub forth : (z : Exp) (vs : List Sign) → Climbs types least own x us z vs → Reads types least signs z vs
  pub back : (z : Exp) (vs : List Sign) → Reads types least signs z vs → height z ≤ depth → (length us ≤ length vs) ⊎ Climbs types least own x us z vs

-- two operands of the same signs, of which the first is the best, and what goes on with the second
back_compared : {types : List (List ℕ)} {least m n : ℕ} {x y z : Exp} {us vs ws : List Sign} →
    Compared {A = ℕ × Exp} (λ p ts. Halts p.0 ts) (m, x) us (n, y) vs → length us ≤ length vs → Climbs types least n y vs z ws → (length us ≤ length ws) ⊎ Climbs types least m x us z ws
back_compared {types = types} {least = least} {m = m} {x = x} {z = z} {us = us} {vs = vs} {ws = ws} (same q r) h c =
    inr (subst (λ ts. Climbs types least m x ts z ws) (sym r) (subst (λ (p : ℕ × Exp). Climbs types least p.0 p.1 vs z ws) (sym q) c))
back_compared (longer g halts) h c = let s = halts_stop halts c in inl (omega (arith, ap length s.1))
back_compared (shorter g halts) h c = absurd (omega arith)

back_begun : {types : List (List ℕ)} {least depth : ℕ} {signs us vs : List Sign} {z : Exp} (o : Leveled) →
    IsBest operand_height (StandsAsOperand types least signs) depth o us → Reads types least signs z vs → height z ≤ depth → (length us ≤ length vs) ⊎ Climbs types least o.level o.value us z vs
back_begun o b (begun l m x y ts us vs h w c) high =
    back_compared (operands_compared b.stands.1 w) (b.best (leveled m x) us (h, w) (omega (arith, climbs_rise c))) c

-- the first operand is read
pub onward_start : {types : List (List ℕ)} {least depth : ℕ} {signs us : List Sign} (o : Leveled) →
    IsBest operand_height (StandsAsOperand types least signs) depth o us → Onward types least depth signs o.level o.value us
onward_start {least = least} {signs = signs} {us = us} o b = record {
  forth = λ z vs c. begun least o.level o.value z signs us vs b.stands.0 b.stands.1 c;
  back = λ z vs w h. back_begun o b w h;
}

-- no first operand, no expression
no_operand : {types : List (List ℕ)} {least depth : ℕ} {signs vs : List Sign} {z : Exp} → IsNone operand_height (StandsAsOperand types least signs) depth → Reads types least signs z vs → height z ≤ depth → ⊥
no_operand none (begun l m x y ts us vs h w c) high = none (leveled m x) us (h, w) (omega (arith, climbs_rise c))

pub onward_none : {types : List (List ℕ)} {least depth : ℕ} {signs : List Sign} → IsNone operand_height (StandsAsOperand types least signs) depth → IsNone height (Reads types least signs) depth
onward_none none z vs w h = no_operand none w h

-- nothing of at most this height goes on with x
abbrev pub NoMore : List (List ℕ) → ℕ → ℕ → ℕ → Exp → List Sign → Type 0
NoMore types least depth own x us =
    (c : Continuation) (t : Tail) (ts vs : List Sign) → us ≡ opens c ∷ ts → Continues least own c → Follows types c ts t vs → suc (max (height x) (tail_height t)) ≤ depth → ⊥

ended : {types : List (List ℕ)} {least depth own : ℕ} {x z : Exp} {us vs : List Sign} → NoMore types least depth own x us → Climbs types least own x us z vs → height z ≤ depth → length us ≤ length vs
ended none (stop l m x ts) h = omega arith
ended none (more l m c t x y ts us vs used low high w k) h = absurd (none c t ts us refl (used, low, high) w (omega (arith, climbs_rise k, height-grow x t)))

-- where nothing goes on with it, x is the longest
pub onward_end : {types : List (List ℕ)} {least depth own : ℕ} {signs us : List Sign} {x : Exp} → Onward types least depth signs own x us → height x ≤ depth →
    NoMore types least depth own x us → IsBest height (Reads types least signs) depth x us
onward_end {least = least} {own = own} {us = us} {x = x} onward high none = record {
  stands = onward.forth x us (stop least own x us);
  shallow = high;
  best = λ y vs w h. elim (onward.back y vs w h) [ inl a ↦ a | inr climb ↦ ended none climb h ];
}

-- no token goes on with it
pub more_nowhere : {types : List (List ℕ)} {least depth own : ℕ} (x : Exp) {us : List Sign} →
    ((c : Continuation) (ts : List Sign) → Continues least own c → us ≡ opens c ∷ ts → ⊥) → NoMore types least depth own x us
more_nowhere x none c t ts vs q k w h = none c ts k q

-- it has the greatest height
pub more_too_high : {types : List (List ℕ)} {least depth own : ℕ} (x : Exp) {us : List Sign} → depth ≤ height x → NoMore types least depth own x us
more_too_high x high c t ts vs q k w h = omega arith

-- nothing stands behind the token that goes on
pub more_none : {types : List (List ℕ)} {least depth own : ℕ} (x : Exp) {us : List Sign} (a : Continuation) (rest : List Sign) → IsUsed a → us ≡ opens a ∷ rest →
    IsNone tail_height (Follows types a rest) (depth - 1) → NoMore types least depth own x us
more_none {types = types} x a rest used at none c t ts vs q k w h =
    let both : opens c ∷ ts ≡ opens a ∷ rest = sym q ∙ at in
    let heads : opens c ≡ opens a = cc in
    let rests : ts ≡ rest = cc in
    let d : c ≡ a = opens_same k.0 used heads in
    none t vs (subst (λ v. Follows types v rest t vs) d (subst (λ v. Follows types c v t vs) rests w)) (omega arith)

-- what was read goes on, and so does another reading at the same token
back_followed : {types : List (List ℕ)} {least : ℕ} (a : Continuation) (x : Exp) {z : Exp} {t o : Tail} {ws us vs : List Sign} →
    Compared (λ _ ts. Halts (level_of a) ts) t ws o us → length ws ≤ length us → Climbs types least (level_of a) (grow x o) us z vs → (length ws ≤ length vs) ⊎ Climbs types least (level_of a) (grow x t) ws z vs
back_followed {types = types} {least = least} a x {z = z} {t = t} {us = us} {vs = vs} (same q r) h c =
    inr (subst (λ ts. Climbs types least (level_of a) (grow x t) ts z vs) (sym r) (subst (λ p. Climbs types least (level_of a) (grow x p) us z vs) (sym q) c))
back_followed a x (longer g halts) h c = let s = halts_stop halts c in inl (omega (arith, ap length s.1))
back_followed a x (shorter g halts) h c = absurd (omega arith)

module _ {types : List (List ℕ)} {least depth own : ℕ} {x : Exp} (a : Continuation) (rest : List Sign) (goes : Continues least own a) (t : Tail) (ws : List Sign)
    (b : IsBest tail_height (Follows types a rest) (depth - 1) t ws) where
  back_more : {z : Exp} {us vs : List Sign} → us ≡ opens a ∷ rest → Climbs types least own x us z vs → height z ≤ depth → (length ws ≤ length vs) ⊎ Climbs types least (level_of a) (grow x t) ws z vs
  back_more at (stop l m x us) h = inl (omega (arith, ap length at, follows_shorten b.stands))
  back_more at (more l m c o x z ts us vs used low high w k) h =
      let heads : opens c ≡ opens a = cc in
      let rests : ts ≡ rest = cc in
      let d : c ≡ a = opens_same used goes.0 heads in
      let w' : Follows types a rest o us = subst (λ v. Follows types v rest o us) d (subst (λ v. Follows types c v o us) rests w) in
      let k' : Climbs types least (level_of a) (grow x o) us z vs = subst (λ v. Climbs types least (level_of v) (grow x o) us z vs) d k in
      back_followed a x (follows_compared b.stands w') (b.best o us w' (omega (arith, climbs_rise k, height-grow x o))) k'

  -- a token and the best of what stands behind it are read
  pub onward_step : {signs us : List Sign} → us ≡ opens a ∷ rest → Onward types least depth signs own x us → Onward types least depth signs (level_of a) (grow x t) ws
  onward_step at onward = record {
    forth = λ z vs c. onward.forth z vs (subst (λ v. Climbs types least own x v z vs) (sym at) (more least own a t x z rest ws vs goes.0 goes.1 goes.2 b.stands c));
    back = λ z vs w h. elim (onward.back z vs w h) [
      | inl near ↦ inl (omega (arith, ap length at, follows_shorten b.stands))
      | inr climb ↦ back_more at climb h
    ];
  }
