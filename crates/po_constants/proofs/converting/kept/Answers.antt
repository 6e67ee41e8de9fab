use Rattle.std.proofs.Common.{rules, FitsSigned}
use Rattle.std.specs.Int.{w128}
use Rattle.std.proofs.lemmas.Int.{to_z-of_z}
use Rattle.po_typed.specs.Constants.{kept_unsigned, kept_signed}
use Rattle.po_constants.proofs.Results.{is_unsigned, is_signed, not_kept}
use Rattle.po_constants.proofs.converting.kept.Goals as goal

pub returns-then-not-t-clause-exact : goal.returns-then-not-t-clause-exact
returns-then-not-t-clause-exact c =
    let v = c.ranges.v in
    let w : FitsSigned w128 c.wrap.result = search rules in
    let s = is_unsigned c.args.t.signed c.if-not-t.true in
    let m = simp to_z-of_z at c.wrap.ensures in
    simp to_z-of_z (kept_unsigned c.args.v c.wrap.result s m)

pub returns-then-fits-clause-exact : goal.returns-then-fits-clause-exact
returns-then-fits-clause-exact c =
    let v = c.ranges.v in
    let s = is_signed c.args.t.signed c.if-not-t.false in
    let m = simp to_z-of_z at (c.fits.ensures.0 c.if-fits.true) in
    simp to_z-of_z (kept_signed c.args.v s m)

pub returns-else-fits-clause-exact : goal.returns-else-fits-clause-exact
returns-else-fits-clause-exact c =
    let v = c.ranges.v in
    let s = is_signed c.args.t.signed c.if-not-t.false in
    let test = simp to_z-of_z at c.fits.ensures in
    λ w h. not_kept c.args.t c.args.v w s (λ m. let yes = test.1 m in absurd (cc (yes, c.if-fits.false))) h
