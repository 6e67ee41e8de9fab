-- What is found of wholes, by what is found of their parts.
use Rattle.std.proofs.Common.{◌≡◌, ◌≤◌, ◌+◌, ℕ, List, ap, arith}
use Rattle.po_base.specs.declared.token.Token.{Token}
use Rattle.po_exp_parts.specs.declared.found.Found.{Found}
use Rattle.po_tree.specs.Signs.{Sign}
use Rattle.std.specs.Prelude.{Option, Some, None}
use Rattle.po_exp_parts.specs.Finding.{IsBest, IsNone, IsFound, Finds, through}

-- each whole is made of one part, with the same signs left behind it, and is this much higher
pub record IsMade {A B : Type 0} (make : A → B) (rise : ℕ) (high : A → ℕ) (Stands : A → List Sign → Type 0) (high_whole : B → ℕ) (Whole : B → List Sign → Type 0) : Type 0 where
  pub forth : (x : A) (us : List Sign) → Stands x us → Whole (make x) us
  pub back : (y : B) (us : List Sign) → Whole y us → (x : A) × (y ≡ make x) × Stands x us
  pub rises : (x : A) → high_whole (make x) ≡ high x + rise

module _ {A B : Type 0} {make : A → B} {rise : ℕ} {high : A → ℕ} {Stands : A → List Sign → Type 0} {high_whole : B → ℕ} {Whole : B → List Sign → Type 0}
    (made : IsMade make rise high Stands high_whole Whole) (depth least : ℕ) (depths : depth ≡ least + rise) where
  -- no part, no whole
  pub made_none : IsNone high Stands least → IsNone high_whole Whole depth
  made_none none y us w h =
      let p = made.back y us w in
      none p.0 us p.2 (omega (arith, depths, made.rises p.0, ap high_whole p.1))

  -- the best part makes the best whole
  pub made_best : (x : A) (us : List Sign) → IsBest high Stands least x us → IsBest high_whole Whole depth (make x) us
  made_best x us b = record {
    stands = made.forth x us b.stands;
    shallow = omega (arith, depths, made.rises x, b.shallow);
    best = λ y vs w h.
        let p = made.back y vs w in
        b.best p.0 vs p.2 (omega (arith, depths, made.rises p.0, ap high_whole p.1));
  }

  pub made_found : (start at : ℕ) (tokens : List Token) (found : Found A) → start ≤ at → IsFound high Stands least at tokens found → IsFound high_whole Whole depth start tokens (through make rise found)
  made_found start at tokens found h f = record {
    best = made_best found.value _ f.best;
    counted = omega (arith, f.counted, made.rises found.value);
    after = omega (arith, f.after);
    within = f.within;
  }

-- what is found of parts that are wholes
pub made_finds : {A : Type 0} {high : A → ℕ} {Stands Whole : A → List Sign → Type 0} → IsMade (λ x. x) 0 high Stands high Whole → (depth at : ℕ) (tokens : List Token) (r : Option (Found A)) →
    Finds high Stands depth at tokens r → Finds high Whole depth at tokens r
made_finds made depth at tokens None h = made_none made depth depth (omega arith) h
made_finds {high = high} made depth at tokens (Some found) h = record {
  best = made_best made depth depth (omega arith) found.value _ h.best;
  counted = h.counted;
  after = h.after;
  within = h.within;
}
