-- Which statements and definitions are well formed (C99 6.8, 6.9.1).
use Rattle.std.specs.Prelude.{ℕ, suc, ◌≤◌, ◌<◌, ◌≡◌, Bool, true, false, List, [], ◌∷◌, length, map, get_or, Contains, Option, Some, None}
use Rattle.po_tree.specs.declared.expression.Exp.{Exp}
use Rattle.po_tree.specs.declared.expression.Specifier.{Specifier}
use Rattle.po_tree.specs.declared.expression.Suffix.TheVariants as su
use Rattle.po_tree.specs.declared.expression.Param.{Param}
use Rattle.po_tree.specs.declared.declaration.Decl.{Decl}
use Rattle.po_tree.specs.declared.statement.First.{First}
use Rattle.po_tree.specs.declared.statement.First.TheVariants as f
use Rattle.po_tree.specs.declared.statement.Stmt.{Stmt, fold-Stmt}
use Rattle.po_tree.specs.declared.statement.Stmt.TheVariants as st
use Rattle.po_tree.specs.declared.statement.Stmt.TheOpen.{Stmt-F}
use Rattle.po_tree.specs.declared.function.FunTree.{FunTree}
use Rattle.po_tree.specs.Words.{IsName}
use Rattle.po_tree.specs.Expressions.{Typed, untyped, Formed}
use Rattle.po_tree.specs.Declarations.{Specs, IsDeclarator, Declared, without}
use Rattle.po_tree.specs.Heights.{fun_height, fun_depth}
use Rattle.po_tree.specs.Printing.{flat_fun}

-- Whether a statement ends with an `if` that has no `else`, so that an `else` behind it would belong to that `if` (6.8.4.1p3).
abbrev pub ends_so : Stmt-F Bool → Bool
ends_so (Stmt-F.If x then_ None) = true
ends_so (Stmt-F.If x then_ (Some else_)) = else_
ends_so (Stmt-F.While x body) = body
ends_so (Stmt-F.For first test step body) = body
ends_so (Stmt-F.Switch x body) = body
ends_so (Stmt-F.Case x body) = body
ends_so (Stmt-F.Default body) = body
ends_so (Stmt-F.Label name body) = body
ends_so _ = false

unfoldable pub takes_else : Stmt → Bool
takes_else = fold-Stmt _ ends_so

-- an expression that may be missing
pub data IsOptional (types : List (List ℕ)) : Option Exp → Type 0 where
  missing : IsOptional types None
  there : (m : ℕ) (x : Exp) → Formed types m x → IsOptional types (Some x)

-- what stands first in a `for`, and the typedef names in force behind it (6.8.5.3)
pub data IsFirst (types : List (List ℕ)) : First → List (List ℕ) → Type 0 where
  nothing : IsFirst types f.Nothing types
  value : (m : ℕ) (x : Exp) → Formed types m x → IsFirst types (f.Value x) types
  variables : (d : Decl) (types' : List (List ℕ)) → Declared types d types' → IsFirst types (f.Variables d) types'

mutual
  -- IsStatement types s: s is a statement, and no declaration; the names that it declares are in force in it alone
  pub data IsStatement : List (List ℕ) → Stmt → Type 0 where
    block : (types : List (List ℕ)) (xs : List Stmt) → AreItems types xs → IsStatement types (st.Block xs)
    expression : (types : List (List ℕ)) (m : ℕ) (x : Exp) → Formed types m x → IsStatement types (st.ExpS x)
    empty : (types : List (List ℕ)) → IsStatement types st.Empty
    if_alone : (types : List (List ℕ)) (m : ℕ) (x : Exp) (s : Stmt) → Formed types m x → IsStatement types s → IsStatement types (st.If x s None)
    -- an `else` belongs to the nearest `if`
    if_else : (types : List (List ℕ)) (m : ℕ) (x : Exp) (s t : Stmt) → Formed types m x → IsStatement types s → takes_else s ≡ false → IsStatement types t →
        IsStatement types (st.If x s (Some t))
    while : (types : List (List ℕ)) (m : ℕ) (x : Exp) (s : Stmt) → Formed types m x → IsStatement types s → IsStatement types (st.While x s)
    do_while : (types : List (List ℕ)) (m : ℕ) (x : Exp) (s : Stmt) → IsStatement types s → Formed types m x → IsStatement types (st.Do s x)
    for_each : (types : List (List ℕ)) (inner : List (List ℕ)) (first : First) (test step : Option Exp) (s : Stmt) → IsFirst types first inner →
        IsOptional inner test → IsOptional inner step → IsStatement inner s → IsStatement types (st.For first test step s)
    switch : (types : List (List ℕ)) (m : ℕ) (x : Exp) (s : Stmt) → Formed types m x → IsStatement types s → IsStatement types (st.Switch x s)
    -- a constant is a conditional expression (6.6)
    case : (types : List (List ℕ)) (m : ℕ) (x : Exp) (s : Stmt) → 2 ≤ m → Formed types m x → IsStatement types s → IsStatement types (st.Case x s)
    default : (types : List (List ℕ)) (s : Stmt) → IsStatement types s → IsStatement types (st.Default s)
    label : (types : List (List ℕ)) (name : List ℕ) (s : Stmt) → IsName name → IsStatement types s → IsStatement types (st.Label name s)
    goto : (types : List (List ℕ)) (name : List ℕ) → IsName name → IsStatement types (st.Goto name)
    break : (types : List (List ℕ)) → IsStatement types st.Break
    continue : (types : List (List ℕ)) → IsStatement types st.Continue
    return : (types : List (List ℕ)) (x : Option Exp) → IsOptional types x → IsStatement types (st.Return x)

  -- statements and declarations of a block, each declaration in force from there on (6.8.2)
  pub data AreItems : List (List ℕ) → List Stmt → Type 0 where
    no_more_items : (types : List (List ℕ)) → AreItems types []
    statement : (types : List (List ℕ)) (s : Stmt) (rest : List Stmt) → IsStatement types s → AreItems types rest → AreItems types (s ∷ rest)
    declaration : (types types' : List (List ℕ)) (d : Decl) (rest : List Stmt) → Declared types d types' → AreItems types' rest →
        AreItems types (st.Declare d ∷ rest)

-- The places in `marks` number the names in the order of first appearance: each is below n, or the next number.
pub data AreNumbered : ℕ → List (ℕ × ℕ) → ℕ → Type 0 where
  numbered : (n : ℕ) → AreNumbered n [] n
  old : (n m place line : ℕ) (rest : List (ℕ × ℕ)) → place < n → AreNumbered n rest m → AreNumbered n ((place, line) ∷ rest) m
  new : (n m line : ℕ) (rest : List (ℕ × ℕ)) → AreNumbered (suc n) rest m → AreNumbered n ((n, line) ∷ rest) m

-- no name stands twice
abbrev pub AllDiffer : List (List ℕ) → Type 0
AllDiffer [] = Unit {0}
AllDiffer (x ∷ xs) = (Contains xs x → ⊥) × AllDiffer xs

-- one mark for each token, and the names that the marks cite in the order of first appearance
pub record AreMarks (g : FunTree) : Type 0 where
  pub each : length g.marks ≡ length (flat_fun g)
  pub order : AreNumbered 0 g.marks (length g.names)
  pub differ : AllDiffer g.names

-- the file's name and the line of each token, as a definition's marks give them
abbrev pub places_of : FunTree → List (List ℕ × ℕ)
places_of g = map (λ m. (get_or g.names m.0 [], m.1)) g.marks

-- A function definition: specifiers, a declarator with parameters, and a body. In the body the function's own name, the parameters and
-- the enumerators of their list hide typedef names.
pub data IsFunction (types : List (List ℕ)) : FunTree → Type 0 where
  function : (own inner : List (List ℕ)) (seen : Typed) (spec : Specifier) (specs : List Specifier) (name : List ℕ) (stars : List (List (List ℕ)))
      (params : List Param) (more : Bool) (body : List Stmt) (marks : List (ℕ × ℕ)) (names : List (List ℕ)) →
      Specs true true types untyped (spec ∷ specs) own seen →
      IsDeclarator own seen name (record { stars = stars; name = Some name; suffix = su.Params params more }) inner →
      AreItems (without name inner) body →
      IsFunction types (record {
        specs = spec ∷ specs;
        declarator = record { stars = stars; name = Some name; suffix = su.Params params more };
        body = body;
        marks = marks;
        names = names;
      })

-- a well-formed definition, none of whose paths has more than 256 expressions or 256 statements
pub record IsDefinition (types : List (List ℕ)) (g : FunTree) : Type 0 where
  pub formed : IsFunction types g
  pub nested : fun_height g ≤ 256
  pub deep : fun_depth g ≤ 256
  pub marked : AreMarks g
