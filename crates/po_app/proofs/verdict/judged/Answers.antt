use Rattle.std.proofs.Common.{◌∙◌, sym, refl}
use Rattle.po_app.proofs.Small.{predicate_small}
use Rattle.po_app.proofs.verdict.judged.Goals as goal

pub verdict_on-requires : goal.verdict_on-requires
verdict_on-requires c =
    predicate_small c.args.function.now c.args.o.now.node.0 _ c.args.o.now.cause _ c.requires refl (sym c.in_ok-predicate_in.ensures ∙ c.in-Some.is)
