-- Specifiers that are words.
use Rattle.std.specs.Prelude.{ℕ, ◌≡◌, Bool, false, nat_eq, List, ◌∷◌, ◌++◌, Contains, All}
use Rattle.std.specs.Cmp.Lexicographic.{pointwise}
use Rattle.po_tree.specs.declared.expression.Specifier.{Specifier, out-Specifier}
use Rattle.po_tree.specs.declared.expression.Specifier.TheVariants as sp
use Rattle.po_tree.specs.declared.expression.Exp.{Exp}
use Rattle.po_tree.specs.declared.expression.Exp.TheOpen.{Specifier-F}
use Rattle.po_tree.specs.declared.expression.Suffix.{Suffix}
use Rattle.po_tree.specs.declared.expression.Declarator.{Declarator}
use Rattle.po_tree.specs.declared.expression.Member.{Member}
use Rattle.po_tree.specs.declared.expression.Param.{Param}
use Rattle.po_tree.specs.declared.expression.TypeName.{TypeName}
use Rattle.po_typed.specs.BaseTypes.{HasWord, IsPlainWord}

abbrev pub IsSomeWord : Specifier → Type 0
IsSomeWord s = (text : List ℕ) × (s ≡ sp.Word text)

-- whether a specifier is this word
abbrev pub says_layer : List ℕ → Specifier-F Exp Specifier Suffix Declarator Member Param TypeName → Bool
says_layer word (Specifier-F.Word text) = pointwise nat_eq text word
says_layer word _ = false

abbrev pub says : List ℕ → Specifier → Bool
says word s = says_layer word (out-Specifier s)

-- a word that stands among the specifiers is one of those that are allowed
abbrev pub Allows : List (List ℕ) → List Specifier → List ℕ → Type 0
Allows allowed specs word = HasWord word specs → Contains allowed word

-- among storage classes, qualifiers and `inline` this one specifier is none of them
pub record IsTheOther (specs : List Specifier) (s : Specifier) : Type 0 where
  pub before : List Specifier
  pub after : List Specifier
  pub split : specs ≡ before ++ (s ∷ after)
  pub plain_before : All IsPlainWord before
  pub plain_after : All IsPlainWord after
  pub other : IsPlainWord s → ⊥
