use Rattle.std.specs.Option.{option_copied}
use Rattle.std.proofs.Common.{ap, refl, sym, ◌∙◌}
use Rattle.po_step.proofs.Stepping.{node_is_there}
use Rattle.po_step.proofs.step.move_on.Goals as goal

pub unreachable-requires-in-None-get : goal.unreachable-requires-in-None-get
unreachable-requires-in-None-get g c =
    node_is_there c.ways_stay_within.ensures (g.L.Outcomes.signatures c.args.library.now) c.args.p.now c.in-Some.f.now c.args.top.now c.args.waiting.now c.args.m.now.blocks c.requires.whole c.requires.belongs (sym c.in-Some.ensures.value)
    (sym c.get-in-Some.ensures.value ∙ ap option_copied c.in-None-get.is)

pub carry-requires : goal.carry-requires
carry-requires g c = record {
  report = c.args.support.now;
  whole = c.requires.whole;
  stands = record { of = sym c.in-Some.ensures.value; node = (c.in-Some-get.node.now, sym c.in-Some-get.ensures.value, refl) };
  held = c.requires.held;
  belongs = c.requires.belongs;
}
