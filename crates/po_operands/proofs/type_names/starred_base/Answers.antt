use Rattle.po_operands.proofs.Told.{none_left}
use Rattle.po_operands.proofs.StarredBases.{restricted_alone, pointable_alone, is_starred}
use Rattle.po_operands.proofs.type_names.starred_base.Goals as goal

pub returns-then-not-restrict_fits : goal.returns-then-not-restrict_fits
returns-then-not-restrict_fits c = restricted_alone c.args.context.now c.args.name.now c.as_slice-specs.result.now c.as_slice-stars.result.now c.as_slice-specs.ensures c.as_slice-stars.ensures c.in-Some.base c.in_ok-base_of.field-0 c.in-Some.is c.in_ok-base_of.ensures c.if-not-restrict_fits.ensures

pub returns-then-not-can_be_starred : goal.returns-then-not-can_be_starred
returns-then-not-can_be_starred c = pointable_alone c.args.context.now c.args.name.now c.as_slice-specs.result.now c.as_slice-stars.result.now c.as_slice-specs.ensures c.as_slice-stars.ensures c.in-Some.base c.in_ok-base_of.field-0 c.in-Some.is c.in_ok-base_of.ensures c.if-not-can_be_starred.ensures

pub returns-in_ok-starred-in-Some : goal.returns-in_ok-starred-in-Some
returns-in_ok-starred-in-Some c = is_starred c.args.context.now c.args.name.now c.as_slice-specs.result.now c.as_slice-stars.result.now c.as_slice-specs.ensures c.as_slice-stars.ensures c.in-Some.base c.in_ok-base_of.field-0 c.in-Some.is c.in_ok-base_of.ensures c.if-not-only_words.ensures c.if-not-restrict_fits.ensures c.if-not-can_be_starred.ensures (none_left c.args.name.now.declarator.name c.if-is_some.ensures) c.in_ok-starred-in-Some.field-0 c.in_ok-starred-in-Some.ensures
