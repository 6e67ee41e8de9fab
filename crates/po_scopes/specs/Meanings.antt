-- What the code's words for meanings say.
use Rattle.po_typed.specs.Scopes.{Storage, automatic, in_register, in_static, Meaning, global, function, local, type_name, constant, Tag, struct_tag, enum_tag}
use Rattle.po_scopes.specs.declared.meaning.Storage.{Storage as StorageOf}
use Rattle.po_scopes.specs.declared.meaning.Storage.TheVariants as s
use Rattle.po_scopes.specs.declared.meaning.Meaning.{Meaning as MeaningOf}
use Rattle.po_scopes.specs.declared.meaning.Meaning.TheVariants as m
use Rattle.po_scopes.specs.declared.meaning.Local.{Local as LocalOf}
use Rattle.po_scopes.specs.declared.meaning.Local.TheVariants as l
use Rattle.po_scopes.specs.declared.meaning.Tag.{Tag as TagOf}
use Rattle.po_scopes.specs.declared.meaning.Tag.TheVariants as t

abbrev pub as_storage : StorageOf → Storage
as_storage s.Automatic = automatic
as_storage s.Register = in_register
as_storage s.Static = in_static

abbrev pub as_meaning : MeaningOf → Meaning
as_meaning (m.Global type n) = global type.now n.0
as_meaning (m.Function type) = function type.now
as_meaning (m.Local storage type) = local (as_storage storage) type.now
as_meaning (m.TypeName type const) = type_name type.now const
as_meaning (m.Constant v) = constant v

abbrev pub as_local : LocalOf → Meaning
as_local (l.Object storage type) = local (as_storage storage) type
as_local (l.Constant v) = constant v

abbrev pub as_tag : TagOf → Tag
as_tag (t.Struct n) = struct_tag n
as_tag t.Enum = enum_tag
