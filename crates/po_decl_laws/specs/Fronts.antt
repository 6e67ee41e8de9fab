-- What may stand behind the parts of a declaration.
use Rattle.std.specs.Prelude.{ℕ, ◌≡◌, List, [], ◌∷◌, codes}
use Rattle.po_tree.specs.Signs.{Sign, word, punct, comma, semicolon, closing, equals, colon, brace}
use Rattle.po_tree.specs.Expressions.{Typed}
use Rattle.po_tree.specs.Declarations.{IsDeclared}

-- EndsSpecifiers types seen signs: these begin with what may stand behind such specifiers, where `types` are the typedef names in force: a
-- punctuator other than an opening brace, or a word that may be declared there, which is a typedef name only behind a type specifier (6.7.5)
pub data EndsSpecifiers (types : List (List ℕ)) (seen : Typed) : List Sign → Type 0 where
  at_sign : (text : List ℕ) (signs : List Sign) → (text ≡ codes "{" → ⊥) → EndsSpecifiers types seen (punct text ∷ signs)
  at_word : (name : List ℕ) (signs : List Sign) → IsDeclared types seen name → EndsSpecifiers types seen (word name ∷ signs)

-- what may stand behind a declarator: what separates declarators or parameters or ends them, what begins an initialiser or the body of a function
pub data IsDeclaratorEnd : Sign → Type 0 where
  at_comma : IsDeclaratorEnd comma
  at_semicolon : IsDeclaratorEnd semicolon
  at_closing : IsDeclaratorEnd closing
  at_equals : IsDeclaratorEnd equals
  at_colon : IsDeclaratorEnd colon
  at_brace : IsDeclaratorEnd brace

abbrev pub EndsDeclarator : List Sign → Type 0
EndsDeclarator [] = ⊥
EndsDeclarator (sign ∷ signs) = IsDeclaratorEnd sign

-- what may stand behind a parameter (6.7.5.3)
pub data IsParameterEnd : Sign → Type 0 where
  before_another : IsParameterEnd comma
  behind_last : IsParameterEnd closing

abbrev pub EndsParameter : List Sign → Type 0
EndsParameter [] = ⊥
EndsParameter (sign ∷ signs) = IsParameterEnd sign
