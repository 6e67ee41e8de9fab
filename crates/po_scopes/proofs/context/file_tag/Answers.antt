use Rattle.std.proofs.Common.{ap, ◌∙◌, Some, None}
use Rattle.po_typed.specs.Scopes.{enum_tag}
use Rattle.po_scopes.proofs.Files.{struct_first, enum_behind}
use Rattle.po_scopes.proofs.Enumerations.{found_enum, no_enum}
use Rattle.po_scopes.proofs.context.file_tag.Goals as goal

pub returns-in-Some : goal.returns-in-Some
returns-in-Some c = ap Some c.of_struct.ensures ∙ struct_first c.args.env.now c.args.name.now c.in-Some.n.now c.in-Some.ensures

pub returns-then-has : goal.returns-then-has
returns-then-has c = enum_behind c.args.env.now c.args.name.now (Some enum_tag) c.in-None.ensures (found_enum c.args.env.now.enums c.args.name.now c.has.result c.has.ensures c.if-has.true)

pub returns : goal.returns
returns c = enum_behind c.args.env.now c.args.name.now None c.in-None.ensures (no_enum c.args.env.now.enums c.args.name.now c.has.result c.has.ensures c.if-has.false)
