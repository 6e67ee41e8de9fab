-- The rulebook of a project: what it asks, where its functions are called, and its verdicts.
use Rattle.std.specs.Prelude.{ℕ, zero, suc, ◌+◌, ◌^◌, ℤ, pos, neg_ℤ, ◌+ℤ◌, ◌==◌, nat_lt, ◌++◌, List, [], ◌∷◌, map, length, Bool, false, cond, Option, Some, None, slice_get, max}
use Rattle.std.specs.List.{flat_map}
use Rattle.po_base.specs.declared.numbers.FileNo.{FileNo}
use Rattle.po_base.specs.declared.numbers.FunNo.{FunNo}
use Rattle.po_base.specs.declared.numbers.NodeNo.{NodeNo}
use Rattle.po_ir.specs.declared.instr.Callee.TheVariants.{Fun}
use Rattle.po_ir.specs.declared.instr.Instr.{Instr}
use Rattle.po_ir.specs.declared.instr.Instr.TheVariants.{Call}
use Rattle.po_ir.specs.declared.graph.Node.{Node}
use Rattle.po_ir.specs.declared.project.Function.{Function}
use Rattle.po_ir.specs.declared.project.Project.{Project}
use Rattle.po_core.specs.Book.{Book}
use Rattle.po_pred.specs.declared.pred.Atom.{Atom}
use Rattle.po_pred.specs.declared.pred.Atom.TheVariants.{Param}
use Rattle.po_pred.specs.declared.pred.Place.{Place}
use Rattle.po_pred.specs.declared.pred.Over.{Over}
use Rattle.po_pred.specs.declared.pred.Over.TheVariants.{Add, Sub, Mul, Div, Rem, Shl, Neg}
use Rattle.po_pred.specs.declared.pred.Pred.{Pred}
use Rattle.po_pred.specs.declared.pred.Pred.TheVariants.{Nonzero, NoOver}
use Rattle.po_app.specs.declared.rule.Rule.{Rule}
use Rattle.po_app.specs.Obligations.{predicates, each_from}
use Rattle.po_app.specs.Verdicts.{verdict_of}

abbrev pub nodes_of : Option Function → List Node
nodes_of None = []
nodes_of (Some f) = f.graph.nodes

-- a place for each predicate that a node asks for
abbrev pub node_places : ℕ → Node → List (NodeNo × ℕ)
node_places n node = each_from (λ i (q : Pred). (record { 0 = n }, i) ∷ []) 0 (predicates node.instr)

-- what a function asks by itself, by node and place
abbrev pub places : Project → FunNo → List (NodeNo × ℕ)
places p f = each_from node_places 0 (nodes_of (slice_get p.functions f.0))

abbrev pub is_call_of : FunNo → Instr → Bool
is_call_of f (Call to (Fun g) args strings) = g.0 == f.0
is_call_of f _ = false

abbrev pub node_call : FunNo → ℕ → ℕ → Node → List (FunNo × NodeNo)
node_call f g n node = cond (is_call_of f node.instr) ((record { 0 = g }, record { 0 = n }) ∷ []) []

abbrev pub function_calls : FunNo → ℕ → Function → List (FunNo × NodeNo)
function_calls f g function = each_from (node_call f g) 0 function.graph.nodes

-- the nodes at which a function is called, by function and node
abbrev pub call_sites : Project → FunNo → List (FunNo × NodeNo)
call_sites p f = each_from (function_calls f) 0 p.functions

-- so many whole numbers, from the least on
unfoldable pub numbers_from : ℤ → ℕ → List ℤ
numbers_from least zero = []
numbers_from least (suc n) = least ∷ numbers_from (least +ℤ pos 1) n

-- the places over an atom whose ends are among so many numbers
unfoldable pub places_over : Option Atom → ℤ → ℕ → List Place
places_over atom least n = flat_map (λ lo. map (λ hi. record { atom = atom; lo = lo; hi = hi }) (numbers_from least n)) (numbers_from least n)

unfoldable pub parameter_places : ℕ → List Place
parameter_places zero = []
parameter_places (suc i) = places_over (Some (Param i)) (neg_ℤ (pos 1024)) 2049 ++ parameter_places i

-- all places of assumptions of a function of at most so many parameters
unfoldable pub all_places : ℕ → List Place
all_places params = places_over None (neg_ℤ (pos (2 ^ 63))) (2 ^ 63 + 2 ^ 64) ++ parameter_places params

abbrev pub operators : List Over
operators = Add ∷ Sub ∷ Mul ∷ Div ∷ Rem ∷ Shl ∷ Neg ∷ []

unfoldable pub overflows : List Place → ℕ → List Pred
overflows over bits = flat_map (λ op. flat_map (λ a. map (λ b. NoOver op bits a (Some b)) over) over) operators

unfoldable pub predicates_over : List Place → List Pred
predicates_over over = map (λ x. Nonzero x) over ++ overflows over 32 ++ overflows over 64

abbrev pub most_params : List Function → ℕ
most_params [] = 0
most_params (f ∷ fs) = max f.graph.params (most_params fs)

-- every predicate that a function of the project may assume
unfoldable pub assumable : Project → List Pred
assumable p = predicates_over (all_places (most_params p.functions))

abbrev pub file_in : Option Function → FileNo
file_in None = record { 0 = 0 }
file_in (Some f) = f.file

abbrev pub file_of : Project → FunNo → FileNo
file_of p f = file_in (slice_get p.functions f.0)

abbrev pub most_files : List Function → ℕ
most_files [] = 0
most_files (f ∷ fs) = max (f.file.0 + 1) (most_files fs)

-- as many files as the project has, and at least those that its functions name
abbrev pub files_of : Project → ℕ
files_of p = max (length p.files) (most_files p.functions)

-- no table is needed: each verdict is read from its predicate
abbrev pub book : Project → Book Pred Rule (Unit {0})
book p = record {
  files = files_of p;
  functions = length p.functions;
  file_of = file_of p;
  primaries = places p;
  call_sites = call_sites p;
  table_of = λ f. cond (nat_lt f.0 (length p.functions)) (Some tt) None;
  verdict_of = verdict_of p;
  assumable = assumable p;
}
