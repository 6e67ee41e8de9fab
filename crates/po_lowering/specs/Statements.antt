-- The nodes of statements and declarations in blocks (C99 6.8).
use Rattle.std.specs.Prelude.{ℕ, ◌+◌, ◌≡◌, ℤ, List, [], ◌∷◌, ◌++◌, length, map, flat_map, slice_get, Option, Some, None}
use Rattle.po_base.specs.declared.operand.Opnd.{Opnd}
use Rattle.po_ir.specs.declared.instr.Instr.TheVariants as ins
use Rattle.po_ir.specs.declared.graph.Node.{Node}
use Rattle.po_arith.specs.declared.int_type.IntType.{IntType}
use Rattle.po_arith.specs.Types.{IsIntType, IsWrapped}
use Rattle.po_tree.specs.declared.expression.Exp.{Exp, out-Exp}
use Rattle.po_tree.specs.declared.expression.Declarator.{Declarator}
use Rattle.po_tree.specs.declared.declaration.Init.{Init}
use Rattle.po_tree.specs.declared.declaration.Decl.{Decl}
use Rattle.po_tree.specs.declared.statement.First.{First}
use Rattle.po_tree.specs.declared.statement.First.TheVariants as fi
use Rattle.po_tree.specs.declared.statement.Stmt.{Stmt, out-Stmt}
use Rattle.po_tree.specs.declared.statement.Stmt.TheOpen.{Stmt-F}
use Rattle.po_lowering.specs.declared.var.Var.{Var}
use Rattle.po_lowering.specs.Places.{Place, skip, behind, behind_specs, behind_declarator, behind_part, behind_stmt, behind_all, behind_optional, behind_first, word_of, head_of}
use Rattle.po_lowering.specs.Typed.{Typed, Declared, type_of, conversion_of, spot_at}
use Rattle.po_types.specs.Types.{integer}
use Rattle.po_lowering.specs.Temporaries.{State, At, Row, fresh, to}
use Rattle.po_lowering.specs.Conversions.{tested}
use Rattle.po_lowering.specs.Naming.{Scope}
use Rattle.po_lowering.specs.Storage.{kept_as, text_of_name}
use Rattle.po_lowering.specs.Expressions.{Value, Operand, Unused, Condition}
use Rattle.po_lowering.specs.Initialisers.{Initialises}
use Rattle.po_lowering.specs.Completion.{completes, all_complete, labelled, first_of_name, cases_in, sum_of}
use Rattle.po_lowering.specs.Blocks.{decl_at, items_at, enters, slots_of, leaves, leaves_where, slots_left, case_tests, default_or, jump_where}

-- What stands around a statement: where `break` and `continue` go, and how many blocks of the body they don't leave; the slots of the
-- blocks of the body that were entered, the innermost first; and the node of each label.
pub record Around : Type 0 where
  pub exit : ℕ
  pub exit_blocks : ℕ
  pub next : ℕ
  pub next_blocks : ℕ
  pub blocks : List (List ℕ)
  pub labels : List (List ℕ × ℕ)

-- inside a block with these slots
abbrev pub inside : List ℕ → Around → Around
inside slots l = record l { blocks = slots ∷ l.blocks }

-- inside a loop whose `break` goes to one node and `continue` to another
abbrev pub looping : ℕ → ℕ → ℕ → Around → Around
looping exit blocks next l = record l { exit = exit; exit_blocks = blocks; next = next; next_blocks = length l.blocks }

-- inside a switch whose `break` goes to a node
abbrev pub switching : ℕ → Around → Around
switching exit l = record l { exit = exit; exit_blocks = length l.blocks }

-- how many blocks of the body a label stands in
abbrev pub label_blocks : Typed → List ℕ → Option ℕ
label_blocks f name = first_of_name name (flat_map (λ x. labelled x 0) f.tree.body)

abbrev pub no_cases : State → State
no_cases s = record s { cases = []; default_case = None }

abbrev pub cases_of : State → State → State
cases_of s t = record t { cases = s.cases; default_case = s.default_case }

abbrev pub one_more_declared : State → State
one_more_declared s = record s { declared = s.declared + 1 }

abbrev pub with_label : List ℕ → ℕ → State → State
with_label name a s = record s { labels = s.labels ++ (name, a) ∷ [] }

abbrev pub with_case : ℤ → ℕ → State → State
with_case n a s = record s { cases = s.cases ++ (n, a) ∷ [] }

abbrev pub with_default : ℕ → State → State
with_default a s = record s { default_case = Some a }

-- Declares f ns sc s a parts p sc' b t: the nodes of the declarators from the place p on; a name is in scope behind its declarator, and each
-- initialised declarator is a full expression
pub data Declares (f : Typed) (ns : List Node) : Scope → State → ℕ → List (Declarator × Option Init) → Place → Scope → ℕ → State → Type 0 where
  no_more_parts : {sc : Scope} {s : State} {a : ℕ} {p : Place} → Declares f ns sc s a [] p sc a s
  one_more_part : {sc sc' : Scope} {s s1 t : State} {a i b : ℕ} {d : Declarator} {init : Option Init} {rest : List (Declarator × Option Init)} {p : Place}
      {v : Var} {declared : Declared} → kept_as f s.declared ≡ Some v → slice_get f.variables s.declared ≡ Some declared →
      Initialises f (sc ++ (text_of_name d.name, v) ∷ []) ns (fresh s) a (spot_at f (word_of d p)) v declared.type init (skip 1 (behind_declarator d p)) i s1 →
      Declares f ns (sc ++ (text_of_name d.name, v) ∷ []) (one_more_declared s1) i rest (skip 1 (behind_part (d, init) p)) sc' b t →
      Declares f ns sc s a ((d, init) ∷ rest) p sc' b t

-- an expression of a `for`'s head whose value isn't used, where there is one; it is a full expression
pub data Maybe (f : Typed) (sc : Scope) (ns : List Node) : State → ℕ → Option Exp → Place → ℕ → State → Type 0 where
  missing : {s : State} {a : ℕ} {p : Place} → Maybe f sc ns s a None p a s
  there : {s t : State} {a b : ℕ} {x : Exp} {p : Place} → Unused f sc ns (fresh s) a (out-Exp x) p b t → Maybe f sc ns s a (Some x) p b t

-- a `for`'s condition: a missing one is met (6.8.5.3p2)
pub data Test (f : Typed) (sc : Scope) (ns : List Node) : State → ℕ → Option Exp → Place → ℕ → ℕ → ℕ → State → Type 0 where
  always : {s : State} {a hit miss : ℕ} {p : Place} → Test f sc ns s a None p hit miss a s
  tests : {s t : State} {a hit miss b : ℕ} {x : Exp} {p : Place} → Condition f sc ns (fresh s) a (out-Exp x) p hit miss b t → Test f sc ns s a (Some x) p hit miss b t

-- what stands first in a `for` that declares nothing
pub data Begins (f : Typed) (sc : Scope) (ns : List Node) : State → ℕ → First → Place → ℕ → State → Type 0 where
  begins_at_once : {s : State} {a : ℕ} {p : Place} → Begins f sc ns s a fi.Nothing p a s
  begins_with : {s t : State} {a b : ℕ} {x : Exp} {p : Place} → Unused f sc ns (fresh s) a (out-Exp x) p b t → Begins f sc ns s a (fi.Value x) p b t

-- the places of a `for`'s step and body
abbrev pub for_step : First → Option Exp → Place → Place
for_step first test p = skip 1 (behind_optional test (behind_first first (skip 2 p)))

abbrev pub for_body : First → Option Exp → Option Exp → Place → Place
for_body first test step p = skip 1 (behind_optional step (for_step first test p))

abbrev pub IsNoBlock : Stmt-F Stmt → Type 0
IsNoBlock (Stmt-F.Block xs) = ⊥
IsNoBlock _ = Unit {0}

mutual
  -- Runs f ns l sc s a x p b t: the nodes of a statement whose outermost form is x, and which begins at the place p, are those from a to b
  pub data Runs (f : Typed) (ns : List Node) : Around → Scope → State → ℕ → Stmt-F Stmt → Place → ℕ → State → Type 0 where
    block : {l : Around} {sc : Scope} {s t : State} {a i j b : ℕ} {xs : List Stmt} {p : Place} → Row ns a (enters f (items_at s.declared (skip 1 p) xs)) i →
        Items f ns (inside (slots_of f (items_at s.declared (skip 1 p) xs)) l) sc s i xs (skip 1 p) j t →
        Row ns j (leaves_where (all_complete xs) (spot_at f (behind_all xs (skip 1 p))) (slots_of f (items_at s.declared (skip 1 p) xs))) b →
        Runs f ns l sc s a (Stmt-F.Block xs) p b t
    expression : {l : Around} {sc : Scope} {s t : State} {a b : ℕ} {x : Exp} {p : Place} → Unused f sc ns (fresh s) a (out-Exp x) p b t → Runs f ns l sc s a (Stmt-F.ExpS x) p b t
    empty : {l : Around} {sc : Scope} {s : State} {a : ℕ} {p : Place} → Runs f ns l sc s a Stmt-F.Empty p a s
    -- if: condition, first side, Jump where there is an else and the side completes, second side
    if_alone : {l : Around} {sc : Scope} {s s1 t : State} {a i b : ℕ} {x : Exp} {y : Stmt} {p : Place} → Condition f sc ns (fresh s) a (out-Exp x) (skip 2 p) i b i s1 →
        Runs f ns l sc s1 i (out-Stmt y) (skip 1 (behind x (skip 2 p))) b t → Runs f ns l sc s a (Stmt-F.If x y None) p b t
    if_else : {l : Around} {sc : Scope} {s s1 s2 t : State} {a i j k b : ℕ} {x : Exp} {y z : Stmt} {p : Place} → Condition f sc ns (fresh s) a (out-Exp x) (skip 2 p) i k i s1 →
        Runs f ns l sc s1 i (out-Stmt y) (skip 1 (behind x (skip 2 p))) j s2 → Row ns j (jump_where (completes y) b (spot_at f p)) k →
        Runs f ns l sc s2 k (out-Stmt z) (skip 1 (behind_stmt y (skip 1 (behind x (skip 2 p))))) b t → Runs f ns l sc s a (Stmt-F.If x y (Some z)) p b t
    -- while: condition, body, Jump back
    while : {l : Around} {sc : Scope} {s s1 t : State} {a i j : ℕ} {x : Exp} {y : Stmt} {p : Place} → Condition f sc ns (fresh s) a (out-Exp x) (skip 2 p) i (j + 1) i s1 →
        Runs f ns (looping (j + 1) (length l.blocks) a l) sc s1 i (out-Stmt y) (skip 1 (behind x (skip 2 p))) j t → At ns j (ins.Jump (to a)) (spot_at f p) →
        Runs f ns l sc s a (Stmt-F.While x y) p (j + 1) t
    -- do: body, condition, to which `continue` goes
    do_while : {l : Around} {sc : Scope} {s s1 t : State} {a i b : ℕ} {x : Exp} {y : Stmt} {p : Place} → Runs f ns (looping b (length l.blocks) i l) sc s a (out-Stmt y) (skip 1 p) i s1 →
        Condition f sc ns (fresh s1) i (out-Exp x) (skip 2 (behind_stmt y (skip 1 p))) a b b t → Runs f ns l sc s a (Stmt-F.Do y x) p b t
    -- for: first, condition, body, step, to which `continue` goes, Jump to the condition
    for_plain : {l : Around} {sc : Scope} {s s1 s2 s3 t : State} {a i j k m : ℕ} {first : First} {test step : Option Exp} {y : Stmt} {p : Place} →
        Begins f sc ns s a first (skip 2 p) i s1 → Test f sc ns s1 i test (behind_first first (skip 2 p)) j (m + 1) j s2 →
        Runs f ns (looping (m + 1) (length l.blocks) k l) sc s2 j (out-Stmt y) (for_body first test step p) k s3 →
        Maybe f sc ns s3 k step (for_step first test p) m t → At ns m (ins.Jump (to i)) (spot_at f p) →
        Runs f ns l sc s a (Stmt-F.For first test step y) p (m + 1) t
    -- a `for` that declares is a block of its own, which `continue` doesn't leave; its Leaves always stand
    for_declaring : {l : Around} {sc sc' : Scope} {s s1 s2 s3 t : State} {a h i j k m b : ℕ} {d : Decl} {test step : Option Exp} {y : Stmt} {p : Place} →
        Row ns a (enters f (decl_at s.declared (skip 2 p) d)) h → Declares f ns sc s h d.parts (behind_specs d.specs (skip 2 p)) sc' i s1 →
        Test f sc' ns s1 i test (behind_first (fi.Variables d) (skip 2 p)) j (m + 1) j s2 →
        Runs f ns (looping b (length l.blocks) k (inside (slots_of f (decl_at s.declared (skip 2 p) d)) l)) sc' s2 j (out-Stmt y) (for_body (fi.Variables d) test step p) k s3 →
        Maybe f sc' ns s3 k step (for_step (fi.Variables d) test p) m t → At ns m (ins.Jump (to i)) (spot_at f p) →
        Row ns (m + 1) (leaves (spot_at f p) (slots_of f (decl_at s.declared (skip 2 p) d))) b → Runs f ns l sc s a (Stmt-F.For (fi.Variables d) test step y) p b t
    -- switch: value, Enters of its block, one `If Eq` for each of its cases in order, Jump to default or to the end of the block before its Leaves, block
    switch_block : {l : Around} {sc : Scope} {s s1 t : State} {a i j k e b : ℕ} {x : Exp} {y : Stmt} {xs : List Stmt} {v : Opnd} {p q : Place} → out-Stmt y ≡ Stmt-F.Block xs →
        q ≡ skip 2 (behind x (skip 2 p)) → length t.cases ≡ sum_of (map cases_in xs) → Value f sc ns (fresh s) a (out-Exp x) (skip 2 p) v i s1 → Row ns i (enters f (items_at s.declared q xs)) j →
        Row ns j (case_tests j (tested (type_of f x (skip 2 p))) v (spot_at f p) t.cases) k → At ns k (ins.Jump (to (default_or t.default_case e))) (spot_at f p) →
        Items f ns (inside (slots_of f (items_at s.declared q xs)) (switching b l)) sc (no_cases s1) (k + 1) xs q e t →
        Row ns e (leaves (spot_at f (behind_all xs q)) (slots_of f (items_at s.declared q xs))) b → Runs f ns l sc s a (Stmt-F.Switch x y) p b (cases_of s t)
    -- a switch over another statement: value, Jump to its end, statement
    switch_other : {l : Around} {sc : Scope} {s s1 t : State} {a i b : ℕ} {x : Exp} {y : Stmt} {v : Opnd} {p : Place} → IsNoBlock (out-Stmt y) →
        Value f sc ns (fresh s) a (out-Exp x) (skip 2 p) v i s1 → At ns i (ins.Jump (to b)) (spot_at f p) →
        Runs f ns (switching b l) sc (no_cases s1) (i + 1) (out-Stmt y) (skip 1 (behind x (skip 2 p))) b t → Runs f ns l sc s a (Stmt-F.Switch x y) p b (cases_of s t)
    -- a case's constant is converted to the promoted type of the switch's expression (6.8.4.2p5), which is an integer type
    case : {l : Around} {sc : Scope} {s t : State} {a b : ℕ} {x : Exp} {y : Stmt} {m : ℤ} (n : ℤ) {ty : IntType} {p : Place} →
        f.constants (head_of x (skip 1 p)).number ≡ Some m → integer (conversion_of f x (skip 1 p)) ≡ Some ty → IsIntType ty → IsWrapped ty m n →
        Runs f ns l sc (with_case n a s) a (out-Stmt y) (skip 1 (behind x (skip 1 p))) b t → Runs f ns l sc s a (Stmt-F.Case x y) p b t
    default : {l : Around} {sc : Scope} {s t : State} {a b : ℕ} {y : Stmt} {p : Place} → Runs f ns l sc (with_default a s) a (out-Stmt y) (skip 2 p) b t →
        Runs f ns l sc s a (Stmt-F.Default y) p b t
    label : {l : Around} {sc : Scope} {s t : State} {a b : ℕ} {name : List ℕ} {y : Stmt} {p : Place} → Runs f ns l sc (with_label name a s) a (out-Stmt y) (skip 2 p) b t →
        Runs f ns l sc s a (Stmt-F.Label name y) p b t
    -- leaving a block by break, continue or goto gives one Leave per slot, innermost block first, last declared first
    goto : {l : Around} {sc : Scope} {s : State} {a i n target : ℕ} {name : List ℕ} {p : Place} → label_blocks f name ≡ Some n → first_of_name name l.labels ≡ Some target →
        Row ns a (leaves (spot_at f p) (slots_left n l.blocks)) i → At ns i (ins.Jump (to target)) (spot_at f p) → Runs f ns l sc s a (Stmt-F.Goto name) p (i + 1) s
    break : {l : Around} {sc : Scope} {s : State} {a i : ℕ} {p : Place} → Row ns a (leaves (spot_at f p) (slots_left l.exit_blocks l.blocks)) i →
        At ns i (ins.Jump (to l.exit)) (spot_at f p) → Runs f ns l sc s a Stmt-F.Break p (i + 1) s
    continue : {l : Around} {sc : Scope} {s : State} {a i : ℕ} {p : Place} → Row ns a (leaves (spot_at f p) (slots_left l.next_blocks l.blocks)) i →
        At ns i (ins.Jump (to l.next)) (spot_at f p) → Runs f ns l sc s a Stmt-F.Continue p (i + 1) s
    return_nothing : {l : Around} {sc : Scope} {s : State} {a : ℕ} {p : Place} → At ns a (ins.Return None) (spot_at f p) → Runs f ns l sc s a (Stmt-F.Return None) p (a + 1) s
    return_value : {l : Around} {sc : Scope} {s t : State} {a i : ℕ} {x : Exp} {v : Opnd} {p : Place} → Operand f sc ns (fresh s) a x (skip 1 p) v i t →
        At ns i (ins.Return (Some v)) (spot_at f p) → Runs f ns l sc s a (Stmt-F.Return (Some x)) p (i + 1) t

  -- the items of a block, each declaration in scope for those behind it
  pub data Items (f : Typed) (ns : List Node) : Around → Scope → State → ℕ → List Stmt → Place → ℕ → State → Type 0 where
    no_more_items : {l : Around} {sc : Scope} {s : State} {a : ℕ} {p : Place} → Items f ns l sc s a [] p a s
    statement : {l : Around} {sc : Scope} {s s1 t : State} {a i b : ℕ} {x : Stmt} {xs : List Stmt} {p : Place} → Runs f ns l sc s a (out-Stmt x) p i s1 →
        Items f ns l sc s1 i xs (behind_stmt x p) b t → Items f ns l sc s a (x ∷ xs) p b t
    declaration : {l : Around} {sc sc' : Scope} {s s1 t : State} {a i b : ℕ} {x : Stmt} {d : Decl} {xs : List Stmt} {p : Place} → out-Stmt x ≡ Stmt-F.Declare d →
        Declares f ns sc s a d.parts (behind_specs d.specs p) sc' i s1 → Items f ns l sc' s1 i xs (behind_stmt x p) b t → Items f ns l sc s a (x ∷ xs) p b t
