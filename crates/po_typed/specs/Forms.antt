-- The outermost form of a tree, with the parts inside. A rule speaks of a form, so that a derivation shows by which rule it was made.
use Rattle.po_tree.specs.declared.expression.Exp.{Exp}
use Rattle.po_tree.specs.declared.expression.Exp.TheOpen.{Exp-F, Specifier-F}
use Rattle.po_tree.specs.declared.expression.Specifier.{Specifier}
use Rattle.po_tree.specs.declared.expression.Suffix.{Suffix}
use Rattle.po_tree.specs.declared.expression.Declarator.{Declarator}
use Rattle.po_tree.specs.declared.expression.Member.{Member}
use Rattle.po_tree.specs.declared.expression.Param.{Param}
use Rattle.po_tree.specs.declared.expression.TypeName.{TypeName}

abbrev pub Layer : Type 0
Layer = Exp-F Exp Specifier Suffix Declarator Member Param TypeName

abbrev pub SpecifierLayer : Type 0
SpecifierLayer = Specifier-F Exp Specifier Suffix Declarator Member Param TypeName
