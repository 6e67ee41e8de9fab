-- The keywords with which statements begin (C99 6.8.1, 6.8.4 to 6.8.6).
use Rattle.std.specs.Prelude.{ℕ, List, codes}
use Rattle.po_fun_parts.specs.declared.keywords.Keyword.{Keyword}
use Rattle.po_fun_parts.specs.declared.keywords.Keyword.TheVariants as keyword

abbrev pub spelling : Keyword → List ℕ
spelling keyword.If = codes "if"
spelling keyword.While = codes "while"
spelling keyword.Do = codes "do"
spelling keyword.For = codes "for"
spelling keyword.Switch = codes "switch"
spelling keyword.Case = codes "case"
spelling keyword.Default = codes "default"
spelling keyword.Goto = codes "goto"
spelling keyword.Break = codes "break"
spelling keyword.Continue = codes "continue"
spelling keyword.Return = codes "return"

-- those of labels and of jumps (6.8.1, 6.8.6)
abbrev pub IsLabelOrJump : Keyword → Type 0
IsLabelOrJump keyword.If = ⊥
IsLabelOrJump keyword.While = ⊥
IsLabelOrJump keyword.Do = ⊥
IsLabelOrJump keyword.For = ⊥
IsLabelOrJump keyword.Switch = ⊥
IsLabelOrJump _ = Unit {0}
