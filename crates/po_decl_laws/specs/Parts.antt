-- What members and parameters print, and how many expressions are on a path of them (C99 6.7.2.1, 6.7.5.3).
use Rattle.std.specs.Prelude.{ℕ, max, List, [], ◌∷◌, ◌++◌, map, flat_map}
use Rattle.po_tree.specs.declared.expression.Member.{Member, out-Member}
use Rattle.po_tree.specs.declared.expression.Param.{Param, out-Param}
use Rattle.po_tree.specs.declared.expression.Specifier.{Specifier}
use Rattle.po_tree.specs.Signs.{Sign, semicolon}
use Rattle.po_tree.specs.Printing.{flat_specifier, flat_declarator, with_commas}
use Rattle.po_tree.specs.Heights.{specifier_height, declarator_height, greatest}

abbrev pub specs_height : List Specifier → ℕ
specs_height specs = greatest (map specifier_height specs)

-- its specifiers, its declarators with commas between them, and a semicolon
abbrev pub flat_member : Member → List Sign
flat_member m = flat_map flat_specifier (out-Member m).specs ++ (with_commas (map flat_declarator (out-Member m).declarators) ++ semicolon ∷ [])

abbrev pub member_height : Member → ℕ
member_height m = max (specs_height (out-Member m).specs) (greatest (map declarator_height (out-Member m).declarators))

-- its specifiers and its declarator
abbrev pub flat_param : Param → List Sign
flat_param x = flat_map flat_specifier (out-Param x).specs ++ flat_declarator (out-Param x).declarator

abbrev pub param_height : Param → ℕ
param_height x = max (specs_height (out-Param x).specs) (declarator_height (out-Param x).declarator)
