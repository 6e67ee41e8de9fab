use Rattle.std.proofs.Common.{◌∙◌, [], ap, arith, get_or, length}
use Rattle.po_fun_heads.specs.Marks.{spots_between}
use Rattle.po_fun_heads.proofs.Marking.{marks_begun, marks_on, place_few}
use Rattle.po_fun_heads.proofs.marks.marks_of.Goals as goal

pub loop-token-init : goal.loop-token-init
loop-token-init c = record {
  made = rw (c.new-marks.ensures, c.new-names.ensures) (marks_begun (spots_between c.args.tokens.now c.args.from c.args.to));
  few = let none = ap length c.new-names.ensures in omega (arith, none);
}

pub loop-token-preserved : goal.loop-token-preserved
loop-token-preserved c =
    let first = c.in-Some.ensures in
    let name = c.in_ok-name.ensures ∙ ap (λ v. get_or v c.in-Some.token.now.file []) c.as_slice.ensures in
    record {
      made = marks_on c.args.tokens.now.names _ c.loop-token.invariant.made first.1 name c.in_ok-place.ensures c.in_ok-push.ensures.ok;
      few = let was = c.loop-token.invariant.few in let more = place_few c.in_ok-place.ensures in omega (arith, was, more);
    }
