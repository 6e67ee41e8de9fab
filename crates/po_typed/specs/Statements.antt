-- Which statements and definitions have a typing, and which (C99 6.8, 6.9.1).
use Rattle.std.specs.Prelude.{ℕ, ◌≡◌, ◌≢◌, Bool, true, false, List, [], ◌∷◌, ◌++◌, flat_map, filter, not, codes, Contains, All, Option, Some, None, IsSome, ℤ}
use Rattle.std.specs.List.{list_any}
use Rattle.std.specs.Str.{bytes_eq}
use Rattle.po_arith.specs.declared.int_type.IntType.{IntType}
use Rattle.po_tree.specs.declared.expression.Exp.{Exp, out-Exp}
use Rattle.po_tree.specs.declared.expression.Specifier.{Specifier}
use Rattle.po_tree.specs.declared.expression.Suffix.{out-Suffix}
use Rattle.po_tree.specs.declared.expression.Exp.TheOpen.{Suffix-F}
use Rattle.po_tree.specs.declared.expression.Declarator.{Declarator}
use Rattle.po_tree.specs.declared.expression.Param.{Param, out-Param}
use Rattle.po_tree.specs.declared.declaration.Init.{Init, out-Init}
use Rattle.po_tree.specs.declared.declaration.Decl.{Decl}
use Rattle.po_tree.specs.declared.statement.First.TheVariants as f
use Rattle.po_tree.specs.declared.statement.Stmt.{Stmt, fold-Stmt, out-Stmt}
use Rattle.po_tree.specs.declared.statement.Stmt.TheOpen.{Stmt-F}
use Rattle.po_tree.specs.declared.function.FunTree.{FunTree}
use Rattle.po_tree.specs.Statements.{AllDiffer}
use Rattle.po_types.specs.declared.ctype.CType.{CType}
use Rattle.po_types.specs.declared.ctype.CType.TheVariants as c
use Rattle.po_types.specs.Integers.{promoted}
use Rattle.po_typed.specs.Scopes.{Context, Block, Storage, automatic, in_register, in_static, function, local, with_word, with_blocks, IsNew, in_new_block, back_in, word_here}
use Rattle.po_typed.specs.Operands.{IsComplete, Tested}
use Rattle.po_typed.specs.Constants.{Becomes}
use Rattle.po_typed.specs.BaseTypes.{OnlyWords, RestrictFits, CanBeStarred, starred}
use Rattle.po_typed.specs.Expressions.{Pair, Types, Operand, Assigned, IsBase, IsArray, Constant}
use Rattle.po_typed.specs.Initialisers.{Place, static_place, automatic_place, Initialises}
use Rattle.po_typed.specs.Declarations.{HasStorage, Specified, IsResult, IsVoidAlone, Listed, File, with_context}

-- the labels of a statement that stand in no inner block (6.8.1)
abbrev pub has_own_labels : Stmt-F (List (List ℕ)) → List (List ℕ)
has_own_labels (Stmt-F.If x then_ None) = then_
has_own_labels (Stmt-F.If x then_ (Some else_)) = then_ ++ else_
has_own_labels (Stmt-F.While x body) = body
has_own_labels (Stmt-F.Do body x) = body
has_own_labels (Stmt-F.For (f.Variables d) test step body) = []
has_own_labels (Stmt-F.For first test step body) = body
has_own_labels (Stmt-F.Switch x body) = body
has_own_labels (Stmt-F.Case x body) = body
has_own_labels (Stmt-F.Default body) = body
has_own_labels (Stmt-F.Label name body) = name ∷ body
has_own_labels _ = []

unfoldable pub own_labels : Stmt → List (List ℕ)
own_labels = fold-Stmt _ has_own_labels

-- all its labels
abbrev pub has_labels : Stmt-F (List (List ℕ)) → List (List ℕ)
has_labels (Stmt-F.Block xs) = flat_map (λ x. x) xs
has_labels (Stmt-F.For first test step body) = body
has_labels s = has_own_labels s

unfoldable pub labels : Stmt → List (List ℕ)
labels = fold-Stmt _ has_labels

-- What stands around a statement: the type that its function gives, whether `break` and `continue` have a statement to leave or to go on
-- with, and, directly in the block of a switch, the type of that switch.
pub record Around : Type 0 where
  pub result : CType
  pub breaks : Bool
  pub continues : Bool
  pub cases : Option IntType

abbrev pub in_loop : Around → Around
in_loop w = record { result = w.result; breaks = true; continues = true; cases = None }

abbrev pub in_switch : Option IntType → Around → Around
in_switch t w = record { result = w.result; breaks = true; continues = w.continues; cases = t }

-- not directly in a switch's block any more
abbrev pub aside : Around → Around
aside w = record { result = w.result; breaks = w.breaks; continues = w.continues; cases = None }

-- the labels without those that stand in another list
abbrev pub apart_from : List (List ℕ) → List (List ℕ) → List (List ℕ)
apart_from others names = filter (λ name. not (list_any (bytes_eq name) others)) names

-- how an object of a block is stored (6.2.4p3, p4)
pub data StoredAs : Option (List ℕ) → Storage → Place → Type 0 where
  stored_in_block : StoredAs None automatic automatic_place
  stored_auto : StoredAs (Some (codes "auto")) automatic automatic_place
  stored_register : StoredAs (Some (codes "register")) in_register automatic_place
  stored_static : StoredAs (Some (codes "static")) in_static static_place

-- stars and arrays of a declarator in a block, where no tag is declared
pub data ShapesHere (ctx : Context) (base : CType) : Declarator → CType → List Pair → Type 0 where
  plain_here : {d : Declarator} → out-Suffix d.suffix ≡ Suffix-F.Plain → CanBeStarred d.stars base → ShapesHere ctx base d (starred base d.stars) []
  array_here : {d : Declarator} {sizes : List (Option Exp)} {t : CType} {ps : List Pair} → out-Suffix d.suffix ≡ Suffix-F.Arrays sizes → CanBeStarred d.stars base →
      IsArray ctx (starred base d.stars) sizes t ps → ShapesHere ctx base d t ps

-- Locals ctx storage place base parts ctx' ps: objects of a block (6.7); the word is in force in its own initialiser
pub data Locals : Context → Storage → Place → CType → List (Declarator × Option Init) → Context → List Pair → Type 0 where
  no_more_locals : {ctx : Context} {storage : Storage} {place : Place} {base : CType} → Locals ctx storage place base [] ctx []
  plain_local : {ctx ctx' : Context} {storage : Storage} {place : Place} {base t : CType} {part : Declarator × Option Init} {name : List ℕ} {parts : List (Declarator × Option Init)} {ps qs : List Pair} →
      part.1 ≡ None → part.0.name ≡ Some name → ShapesHere ctx base part.0 t ps → IsNew ctx name → IsComplete ctx t →
      Locals (with_word name (local storage t) ctx) storage place base parts ctx' qs → Locals ctx storage place base (part ∷ parts) ctx' (ps ++ qs)
  initialised_local : {ctx ctx' : Context} {storage : Storage} {place : Place} {base t u : CType} {part : Declarator × Option Init} {name : List ℕ} {x : Init} {parts : List (Declarator × Option Init)} {ps qs rs : List Pair} →
      part.1 ≡ Some x → part.0.name ≡ Some name → ShapesHere ctx base part.0 t ps → IsNew ctx name → Initialises (with_word name (local storage t) ctx) place t (out-Init x) u qs →
      IsComplete ctx u → Locals (with_word name (local storage u) ctx) storage place base parts ctx' rs → Locals ctx storage place base (part ∷ parts) ctx' (ps ++ (qs ++ rs))

-- a declaration in a block: objects alone, without a typedef, a tag, a function or `extern`
pub data DeclaredHere (allowed : List (List ℕ)) : Context → Decl → Context → List Pair → Type 0 where
  declared_here : {ctx ctx' : Context} {d : Decl} {class : Option (List ℕ)} {storage : Storage} {place : Place} {base : CType} {ps : List Pair} → d.parts ≢ [] →
      OnlyWords allowed d.specs → HasStorage d.specs class → StoredAs class storage place → IsBase ctx d.specs base → RestrictFits d.specs base →
      Locals ctx storage place base d.parts ctx' ps → DeclaredHere allowed ctx d ctx' ps

abbrev pub block_classes : List (List ℕ)
block_classes = codes "auto" ∷ codes "register" ∷ codes "static" ∷ []

abbrev pub loop_classes : List (List ℕ)
loop_classes = codes "auto" ∷ codes "register" ∷ []

-- every declarator has an initialiser
abbrev pub AllInitialised : Decl → Type 0
AllInitialised d = All (λ part. IsSome part.1) d.parts

-- an expression whose value isn't used (6.8.3p2, 6.8.5.3p1)
abbrev pub IsUnused : Context → Exp → List Pair → Type 0
IsUnused ctx x ps = (t : CType) × Operand ctx x t c.Void ps

-- a controlling expression (6.8.4.1p1, 6.8.5p2)
abbrev pub Controls : Context → Exp → List Pair → Type 0
Controls ctx x ps = (t : CType) × (a : CType) × Tested t a × Operand ctx x t a ps

pub data MaybeUnused (ctx : Context) : Option Exp → List Pair → Type 0 where
  nothing_unused : MaybeUnused ctx None []
  something_unused : {x : Exp} {ps : List Pair} → IsUnused ctx x ps → MaybeUnused ctx (Some x) ps

pub data MaybeControls (ctx : Context) : Option Exp → List Pair → Type 0 where
  nothing_controls : MaybeControls ctx None []
  something_controls : {x : Exp} {ps : List Pair} → Controls ctx x ps → MaybeControls ctx (Some x) ps

-- no case and no default stands twice (6.8.4.2p3)
abbrev pub NoneTwice : List (Option ℤ) → Type 0
NoneTwice [] = Unit {0}
NoneTwice (m ∷ ms) = (Contains ms m → ⊥) × NoneTwice ms

abbrev pub no_block_layer : Stmt-F Stmt → Type 0
no_block_layer (Stmt-F.Block xs) = ⊥
no_block_layer _ = Unit {0}

abbrev pub IsNoBlock : Stmt → Type 0
IsNoBlock s = no_block_layer (out-Stmt s)

mutual
  -- Runs ctx w targets (out-Stmt s) marks ps: the statement s has these pairs; a goto in it may name these targets; `marks` are the cases, with their values,
  -- and the defaults that stand directly in the block of the switch around it
  pub data Runs : Context → Around → List (List ℕ) → Stmt-F Stmt → List (Option ℤ) → List Pair → Type 0 where
    -- 6.8.2, 6.8.3
    block : {ctx : Context} {w : Around} {targets : List (List ℕ)} {xs : List Stmt} {ps : List Pair} →
        Items (in_new_block ctx) (aside w) (flat_map own_labels xs ++ targets) [] xs [] ps → Runs ctx w targets (Stmt-F.Block xs) [] ps
    expression : {ctx : Context} {w : Around} {targets : List (List ℕ)} {x : Exp} {ps : List Pair} → IsUnused ctx x ps → Runs ctx w targets (Stmt-F.ExpS x) [] ps
    empty : {ctx : Context} {w : Around} {targets : List (List ℕ)} → Runs ctx w targets Stmt-F.Empty [] []
    -- 6.8.4.1
    if_alone : {ctx : Context} {w : Around} {targets : List (List ℕ)} {x : Exp} {s : Stmt} {ps qs : List Pair} → Controls ctx x ps → Runs ctx (aside w) targets (out-Stmt s) [] qs →
        Runs ctx w targets (Stmt-F.If x s None) [] (ps ++ qs)
    if_else : {ctx : Context} {w : Around} {targets : List (List ℕ)} {x : Exp} {s t : Stmt} {ps qs rs : List Pair} → Controls ctx x ps → Runs ctx (aside w) targets (out-Stmt s) [] qs →
        Runs ctx (aside w) targets (out-Stmt t) [] rs → Runs ctx w targets (Stmt-F.If x s (Some t)) [] (ps ++ (qs ++ rs))
    -- 6.8.4.2: a switch whose cases stand directly in its block, or one without cases
    switch_block : {ctx : Context} {w : Around} {targets : List (List ℕ)} {x : Exp} (t : IntType) {s : Stmt} {xs : List Stmt} {marks : List (Option ℤ)} {ps qs : List Pair} → out-Stmt s ≡ Stmt-F.Block xs →
        Operand ctx x (c.Int t) (c.Int (promoted t)) ps → Items (in_new_block ctx) (in_switch (Some (promoted t)) w) (flat_map own_labels xs ++ targets) [] xs marks qs →
        NoneTwice marks → Runs ctx w targets (Stmt-F.Switch x s) [] (ps ++ qs)
    switch_other : {ctx : Context} {w : Around} {targets : List (List ℕ)} {x : Exp} (t : IntType) {s : Stmt} {ps qs : List Pair} → IsNoBlock s →
        Operand ctx x (c.Int t) (c.Int (promoted t)) ps → Runs ctx (in_switch None w) targets (out-Stmt s) [] qs → Runs ctx w targets (Stmt-F.Switch x s) [] (ps ++ qs)
    -- 6.8.1, 6.8.4.2p3, p5
    case : {ctx : Context} {w : Around} {targets : List (List ℕ)} {x : Exp} {t k : IntType} {v n : ℤ} {s : Stmt} {marks : List (Option ℤ)} {ps qs : List Pair} →
        w.cases ≡ Some t → Types ctx (out-Exp x) (c.Int k) (c.Int t) ps → Constant ctx (out-Exp x) k v → Becomes t v n → Runs ctx w targets (out-Stmt s) marks qs →
        Runs ctx w targets (Stmt-F.Case x s) (Some n ∷ marks) (ps ++ qs)
    default : {ctx : Context} {w : Around} {targets : List (List ℕ)} {s : Stmt} {marks : List (Option ℤ)} {ps : List Pair} → IsSome w.cases → Runs ctx w targets (out-Stmt s) marks ps →
        Runs ctx w targets (Stmt-F.Default s) (None ∷ marks) ps
    label : {ctx : Context} {w : Around} {targets : List (List ℕ)} {name : List ℕ} {s : Stmt} {marks : List (Option ℤ)} {ps : List Pair} → Runs ctx w targets (out-Stmt s) marks ps →
        Runs ctx w targets (Stmt-F.Label name s) marks ps
    -- 6.8.5
    while : {ctx : Context} {w : Around} {targets : List (List ℕ)} {x : Exp} {s : Stmt} {ps qs : List Pair} → Controls ctx x ps → Runs ctx (in_loop w) targets (out-Stmt s) [] qs →
        Runs ctx w targets (Stmt-F.While x s) [] (ps ++ qs)
    do_while : {ctx : Context} {w : Around} {targets : List (List ℕ)} {x : Exp} {s : Stmt} {ps qs : List Pair} → Runs ctx (in_loop w) targets (out-Stmt s) [] ps → Controls ctx x qs →
        Runs ctx w targets (Stmt-F.Do s x) [] (ps ++ qs)
    for_nothing : {ctx : Context} {w : Around} {targets : List (List ℕ)} {test step : Option Exp} {s : Stmt} {ps qs rs : List Pair} → MaybeControls ctx test ps → MaybeUnused ctx step qs →
        Runs ctx (in_loop w) targets (out-Stmt s) [] rs → Runs ctx w targets (Stmt-F.For f.Nothing test step s) [] (ps ++ (qs ++ rs))
    for_value : {ctx : Context} {w : Around} {targets : List (List ℕ)} {x : Exp} {test step : Option Exp} {s : Stmt} {os ps qs rs : List Pair} → IsUnused ctx x os →
        MaybeControls ctx test ps → MaybeUnused ctx step qs → Runs ctx (in_loop w) targets (out-Stmt s) [] rs →
        Runs ctx w targets (Stmt-F.For (f.Value x) test step s) [] (os ++ (ps ++ (qs ++ rs)))
    for_variables : {ctx inner : Context} {w : Around} {targets : List (List ℕ)} {d : Decl} {test step : Option Exp} {s : Stmt} {os ps qs rs : List Pair} →
        DeclaredHere loop_classes (in_new_block ctx) d inner os → MaybeControls inner test ps → MaybeUnused inner step qs →
        Runs inner (in_loop w) (own_labels s ++ targets) (out-Stmt s) [] rs → Runs ctx w targets (Stmt-F.For (f.Variables d) test step s) [] (os ++ (ps ++ (qs ++ rs)))
    -- 6.8.6
    goto : {ctx : Context} {w : Around} {targets : List (List ℕ)} {name : List ℕ} → Contains targets name → Runs ctx w targets (Stmt-F.Goto name) [] []
    continue : {ctx : Context} {w : Around} {targets : List (List ℕ)} → w.continues ≡ true → Runs ctx w targets Stmt-F.Continue [] []
    break : {ctx : Context} {w : Around} {targets : List (List ℕ)} → w.breaks ≡ true → Runs ctx w targets Stmt-F.Break [] []
    return_nothing : {ctx : Context} {w : Around} {targets : List (List ℕ)} → w.result ≡ c.Void → Runs ctx w targets (Stmt-F.Return None) [] []
    return_value : {ctx : Context} {w : Around} {targets : List (List ℕ)} {x : Exp} {ps : List Pair} → w.result ≢ c.Void → Assigned ctx x w.result ps →
        Runs ctx w targets (Stmt-F.Return (Some x)) [] ps

  -- Items ctx w targets behind xs marks ps: the items of a block, of which those that went before have the labels `behind`. A goto behind a
  -- declaration that has no initialiser doesn't name a label before it.
  pub data Items : Context → Around → List (List ℕ) → List (List ℕ) → List Stmt → List (Option ℤ) → List Pair → Type 0 where
    no_more_items : {ctx : Context} {w : Around} {targets behind : List (List ℕ)} → Items ctx w targets behind [] [] []
    statement : {ctx : Context} {w : Around} {targets behind : List (List ℕ)} {s : Stmt} {xs : List Stmt} {marks others : List (Option ℤ)} {ps qs : List Pair} →
        Runs ctx w targets (out-Stmt s) marks ps → Items ctx w targets (own_labels s ++ behind) xs others qs → Items ctx w targets behind (s ∷ xs) (marks ++ others) (ps ++ qs)
    declaration : {ctx ctx' : Context} {w : Around} {targets behind : List (List ℕ)} {s : Stmt} {d : Decl} {xs : List Stmt} {marks : List (Option ℤ)} {ps qs : List Pair} →
        out-Stmt s ≡ Stmt-F.Declare d → DeclaredHere block_classes ctx d ctx' ps → AllInitialised d → Items ctx' w targets behind xs marks qs → Items ctx w targets behind (s ∷ xs) marks (ps ++ qs)
    declaration_without : {ctx ctx' : Context} {w : Around} {targets behind : List (List ℕ)} {s : Stmt} {d : Decl} {xs : List Stmt} {marks : List (Option ℤ)} {ps qs : List Pair} →
        out-Stmt s ≡ Stmt-F.Declare d → DeclaredHere block_classes ctx d ctx' ps → (AllInitialised d → ⊥) → Items ctx' w (apart_from behind targets) behind xs marks qs →
        Items ctx w targets behind (s ∷ xs) marks (ps ++ qs)

-- the parameters of a definition have names
abbrev pub AllNamed : List Param → Type 0
AllNamed params = All (λ x. IsSome (out-Param x).declarator.name) params

-- what a definition takes: parameters with names, `(void)`, or `()` (6.9.1p5, p6)
pub data Receives (ctx : Context) : List Param → List CType → Context → List Pair → Type 0 where
  receives_nothing : Receives ctx [] [] (in_new_block ctx) []
  receives_void : {params : List Param} → IsVoidAlone ctx params → Receives ctx params [] (in_new_block ctx) []
  receives_params : {params : List Param} {ts : List CType} {inner : Context} {ps : List Pair} → params ≢ [] → AllNamed params → Listed (in_new_block ctx) params ts inner ps →
      Receives ctx params ts inner ps

-- the function's name, for the first time or again with the same type (6.7p4, 6.9.1)
pub data NamesFunction (ctx : Context) (name : List ℕ) (t : CType) : Context → Type 0 where
  function_new : IsNew ctx name → NamesFunction ctx name t (with_word name (function t) ctx)
  function_again : word_here ctx.blocks name ≡ Some (function t) → NamesFunction ctx name t ctx

-- the scope of the parameters, over what is in force outside
abbrev pub innermost : List Block → List Block
innermost [] = []
innermost (b ∷ bs) = b ∷ []

abbrev pub atop : Context → Context → Context
atop inside outside = with_blocks outside (innermost inside.blocks ++ outside.blocks)

abbrev pub around_body : CType → Around
around_body result = record { result = result; breaks = false; continues = false; cases = None }

-- Defines file g file' ps: the definition has these pairs, in the order of its expressions, and its head leaves the file so
pub data Defines (file : File) : FunTree → File → List Pair → Type 0 where
  defines : {mid inner outer : Context} {g : FunTree} {class : Option (List ℕ)} {name : List ℕ} {params : List Param} {base : CType} {const : Bool} {ts : List CType} {ps qs rs : List Pair} →
      g.declarator.name ≡ Some name → out-Suffix g.declarator.suffix ≡ Suffix-F.Params params false → OnlyWords (codes "extern" ∷ codes "static" ∷ codes "inline" ∷ []) g.specs →
      HasStorage g.specs class → Specified file.context g.specs base const mid ps → CanBeStarred g.declarator.stars base → IsResult (starred base g.declarator.stars) →
      Receives mid params ts inner qs → NamesFunction (back_in mid inner) name (c.Fun (starred base g.declarator.stars) ts false) outer → AllDiffer (flat_map labels g.body) →
      Items (atop inner outer) (around_body (starred base g.declarator.stars)) (flat_map own_labels g.body) [] g.body [] rs →
      Defines file g (with_context file outer) (ps ++ (qs ++ rs))
