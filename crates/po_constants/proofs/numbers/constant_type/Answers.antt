use Rattle.std.proofs.Common.{sym, ap, ◌∙◌}
use Rattle.std.specs.Prelude.{flat_map}
use Rattle.po_types.specs.Integers.{first_to_hold, of_width}
use Rattle.po_constants.proofs.ConstantTypes.{held, passed, none_left, widths_are}
use Rattle.po_constants.proofs.numbers.constant_type.Goals as goal

pub loop-bits-init : goal.loop-bits-init
loop-bits-init c =
    ap (λ ws. first_to_hold c.args.value (flat_map (of_width c.args.unsigned c.args.decimal) ws))
    (widths_are c.args.target c.args.longs c.min.result c.word_bytes.result c.min.ensures c.word_bytes.ensures)

pub returns-in-Some : goal.returns-in-Some
returns-in-Some c =
    sym (held c.args.value (of_width c.args.unsigned c.args.decimal) _ c.loop-bits.bits-index 0 c.in-Some.t c.loop-bits-test.true (sym c.of_width.ensures ∙ c.in-Some.is))
    ∙ c.loop-bits.invariant

pub loop-bits-preserved : goal.loop-bits-preserved
loop-bits-preserved c =
    passed c.args.value (of_width c.args.unsigned c.args.decimal) _ c.loop-bits.bits-index 0 c.loop-bits-test.true (sym c.of_width.ensures ∙ c.in_default.is)
    ∙ c.loop-bits.invariant

pub returns : goal.returns
returns c = sym (none_left c.args.value (of_width c.args.unsigned c.args.decimal) _ c.loop-bits.bits-index 0 c.loop-bits-test.false) ∙ c.loop-bits.invariant
