use Rattle.std.proofs.Common.{refl}
use Rattle.po_types.specs.declared.ctype.CType.TheVariants as t
use Rattle.po_lists.proofs.Results.{if_ok-map}
use Rattle.po_typed.specs.Expressions.{int}
use Rattle.po_operands.proofs.Told.{finds_as}
use Rattle.po_operands.proofs.TypeNames.{named, by_name, struct_named, enum_named}
use Rattle.po_operands.proofs.type_names.in_force.Goals as goal

pub returns-in-Named : goal.returns-in-Named
returns-in-Named c = if_ok-map c.named.result (λ o. finds_as o (λ t. named c.args.context.now c.args.specifier.now t c.in-Named.name c.in-Named.is) (λ t. by_name c.args.context.now c.args.specifier.now t c.in-Named.name c.in-Named.is)) c.named.ensures

pub returns-in-Some-tagged_struct : goal.returns-in-Some-tagged_struct
returns-in-Some-tagged_struct c = struct_named c.args.context.now c.args.specifier.now (t.Struct c.in-Some-tagged_struct.n) c.in-Struct.tag c.in-Struct.members c.in-Struct.is c.in-Some-tag.tag c.in-Some-tagged_struct.n c.in-Some-tag.is c.in-None.is c.in-Some-tagged_struct.ensures refl

pub returns-else-not-is_enumeration : goal.returns-else-not-is_enumeration
returns-else-not-is_enumeration c = enum_named c.args.context.now c.args.specifier.now int c.in-Enum.tag c.in-Enum.enumerators c.in-Enum.comma c.in-Enum.is c.in-Some-tag-2.tag c.in-Some-tag-2.is c.in-None-enumerators.is c.if-comma.false c.if-not-is_enumeration.ensures refl
