-- What follows from the definitions: what has a typing has one.
use Rattle.std.specs.Prelude.{ℕ, ◌≡◌, Bool, List, Option, ℤ}
use Rattle.po_arith.specs.declared.int_type.IntType.{IntType}
use Rattle.po_tree.specs.declared.expression.Exp.{Exp, out-Exp}
use Rattle.po_tree.specs.declared.expression.Specifier.{Specifier}
use Rattle.po_tree.specs.declared.expression.TypeName.{TypeName}
use Rattle.po_tree.specs.declared.declaration.Init.{Init, out-Init}
use Rattle.po_tree.specs.declared.declaration.Decl.{Decl}
use Rattle.po_tree.specs.declared.statement.Stmt.{Stmt, out-Stmt}
use Rattle.po_types.specs.declared.ctype.CType.{CType}
use Rattle.po_typed.specs.Scopes.{Context}
use Rattle.po_typed.specs.Expressions.{Pair, Types, Operand, Assigned, Passes, Named, Constant}
use Rattle.po_typed.specs.Initialisers.{Place, Initialises}
use Rattle.po_typed.specs.Declarations.{File, Specified, DeclaredIn}
use Rattle.po_typed.specs.Statements.{Around, Runs}
use Rattle.po_typed.specs.Environments.{IsTyping}
use Rattle.po_typed.specs.declared.typed.TypedFun.{TypedFun}

-- an expression has one type, whatever it is converted to; and one list of pairs for each conversion
abbrev pub OneTyping : Type 0
OneTyping = (ctx : Context) (x : Exp) (t u to to' : CType) (ps qs : List Pair) → Types ctx (out-Exp x) t to ps → Types ctx (out-Exp x) u to' qs →
    (t ≡ u) × (to ≡ to' → ps ≡ qs)

-- so has its value
abbrev pub OneOperand : Type 0
OneOperand = (ctx : Context) (x : Exp) (t u to to' : CType) (ps qs : List Pair) → Operand ctx x t to ps → Operand ctx x u to' qs → (t ≡ u) × (to ≡ to' → ps ≡ qs)

-- what is assigned to an object has one list of pairs
abbrev pub OneAssignment : Type 0
OneAssignment = (ctx : Context) (x : Exp) (t : CType) (ps qs : List Pair) → Assigned ctx x t ps → Assigned ctx x t qs → ps ≡ qs

-- so have the arguments of a call
abbrev pub OnePassing : Type 0
OnePassing = (ctx : Context) (xs : List Exp) (ts : List CType) (ps qs : List Pair) → Passes ctx xs ts ps → Passes ctx xs ts qs → ps ≡ qs

-- a type name names one type
abbrev pub OneNamedType : Type 0
OneNamedType = (ctx : Context) (name : TypeName) (t u : CType) (ps qs : List Pair) → Named ctx name t ps → Named ctx name u qs → (t ≡ u) × (ps ≡ qs)

-- an integer constant expression has one type and one value
abbrev pub OneValue : Type 0
OneValue = (ctx : Context) (x : Exp) (t u : IntType) (v w : ℤ) → Constant ctx (out-Exp x) t v → Constant ctx (out-Exp x) u w → (t ≡ u) × (v ≡ w)

-- an initialiser gives an object one type, which has its size, and has one list of pairs
abbrev pub OneInitialising : Type 0
OneInitialising = (ctx : Context) (place : Place) (t u v : CType) (x : Init) (ps qs : List Pair) → Initialises ctx place t (out-Init x) u ps → Initialises ctx place t (out-Init x) v qs →
    (u ≡ v) × (ps ≡ qs)

-- specifiers say one type, are const or not, and leave one thing in force behind them
abbrev pub OneSpecified : Type 0
OneSpecified = (ctx a b : Context) (specs : List Specifier) (t u : CType) (k m : Bool) (ps qs : List Pair) → Specified ctx specs t k a ps → Specified ctx specs u m b qs →
    (t ≡ u) × (k ≡ m) × (a ≡ b) × (ps ≡ qs)

-- a declaration leaves one file behind it
abbrev pub OneFile : Type 0
OneFile = (file f g : File) (d : Decl) → DeclaredIn file d f → DeclaredIn file d g → f ≡ g

-- a statement has one list of pairs, and one list of cases
abbrev pub OneRun : Type 0
OneRun = (ctx : Context) (w : Around) (targets : List (List ℕ)) (s : Stmt) (marks others : List (Option ℤ)) (ps qs : List Pair) → Runs ctx w targets (out-Stmt s) marks ps →
    Runs ctx w targets (out-Stmt s) others qs → (marks ≡ others) × (ps ≡ qs)

-- a definition has one typing, and leaves one file behind it
abbrev pub OneDefinition : Type 0
OneDefinition = (file : File) (f g : TypedFun) (d : IsTyping file f) (e : IsTyping file g) → f.tree ≡ g.tree → (f ≡ g) × (d.behind ≡ e.behind)
