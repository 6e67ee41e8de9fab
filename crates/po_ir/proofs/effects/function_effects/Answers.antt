use Rattle.std.proofs.Common.{ap, map, ◌∙◌}
use Rattle.po_lists.proofs.Results.{if_ok-map}
use Rattle.po_ir.specs.Reaching.{effects_in, frees_here, writes_here, does}
use Rattle.po_ir.proofs.Paired.{paired}
use Rattle.po_ir.proofs.effects.function_effects.Goals as goal

pub returns : goal.returns
returns c =
    let library = effects_in c.args.library.now in
    let frees = c.in_ok-frees.ensures (frees_here library) (c.in_ok-freeing.ensures ∙ ap (map (does (frees_here library))) c.as_slice-functions.ensures) in
    let writes = c.in_ok-writes.ensures (writes_here library) (c.in_ok-writing.ensures ∙ ap (map (does (writes_here library))) c.as_slice-functions.ensures) in
    if_ok-map c.paired.result (λ effects is. paired library c.args.project.now c.in_ok-frees.frees c.in_ok-writes.writes effects frees writes is) c.paired.ensures
