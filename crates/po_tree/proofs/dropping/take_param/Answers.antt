use Rattle.std.proofs.Common.{sym, rules}
use Rattle.po_tree.proofs.dropping.take_param.Goals as goal

pub returns-in-Some : goal.returns-in-Some
returns-in-Some c =
    let a = c.into_parts-specs.ensures in (search rules, (c.in-Some.param, search rules, sym a.0, sym a.1))
