-- A start that is a whole statement holds no other statement and takes no `else`.
use Rattle.std.proofs.Common.{◌≡◌, ℕ, List, sym, subst, false, inl, inr}
use Rattle.po_tree.specs.declared.statement.Stmt.{Stmt}
use Rattle.po_tree.specs.Signs.{Sign}
use Rattle.po_tree.specs.Heights.{stmt_depth}
use Rattle.po_tree.specs.Statements.{takes_else}
use Rattle.po_fun_parts.specs.declared.keywords.Keyword.{Keyword}
use Rattle.po_fun_parts.specs.declared.keywords.Keyword.TheVariants as keyword
use Rattle.po_fun_parts.specs.declared.starts.Start.{Start}
use Rattle.po_fun_parts.specs.declared.starts.Start.TheVariants as start
use Rattle.po_fun_parts.specs.Starting.{StartsBehind, StatementStarts, block, empty, expression, label, by_keyword}
use Rattle.po_stmt_laws.proofs.Layers.{stmt_depth-ExpS, stmt_depth-Empty, stmt_depth-Goto, stmt_depth-Break, stmt_depth-Continue, stmt_depth-Return, takes_else-ExpS, takes_else-Empty, takes_else-Goto, takes_else-Break, takes_else-Continue, takes_else-Return}

pub record IsFlat (s : Stmt) : Type 0 where
  pub deep : stmt_depth s ≡ 1
  pub ends : takes_else s ≡ false

-- a start that is a whole statement is flat
abbrev pub IsFlatWhole : Start → Type 0
IsFlatWhole (start.Whole s) = IsFlat s
IsFlatWhole (start.If x) = Unit {0}
IsFlatWhole (start.While x) = Unit {0}
IsFlatWhole start.Do = Unit {0}
IsFlatWhole (start.For first test step) = Unit {0}
IsFlatWhole start.ForVariables = Unit {0}
IsFlatWhole (start.Switch x) = Unit {0}
IsFlatWhole (start.Case x) = Unit {0}
IsFlatWhole start.Default = Unit {0}
IsFlatWhole (start.Label name) = Unit {0}
IsFlatWhole start.Block = Unit {0}

flat_behind : (types : List (List ℕ)) (ts left : List Sign) (w : Keyword) (begun : Start) → StartsBehind w types ts begun left → IsFlatWhole begun
flat_behind types ts left keyword.If begun h = subst IsFlatWhole (sym h.1) tt
flat_behind types ts left keyword.While begun h = subst IsFlatWhole (sym h.1) tt
flat_behind types ts left keyword.Do begun h = subst IsFlatWhole (sym h.0) tt
flat_behind types ts left keyword.For begun (inl (first, test, step, q, h)) = subst IsFlatWhole (sym q) tt
flat_behind types ts left keyword.For begun (inr (q, h)) = subst IsFlatWhole (sym q) tt
flat_behind types ts left keyword.Switch begun h = subst IsFlatWhole (sym h.1) tt
flat_behind types ts left keyword.Case begun h = subst IsFlatWhole (sym h.1) tt
flat_behind types ts left keyword.Default begun h = subst IsFlatWhole (sym h.0) tt
flat_behind types ts left keyword.Goto begun h = subst IsFlatWhole (sym h.1) (record { deep = stmt_depth-Goto h.0; ends = takes_else-Goto h.0 })
flat_behind types ts left keyword.Break begun h = subst IsFlatWhole (sym h.0) (record { deep = stmt_depth-Break; ends = takes_else-Break })
flat_behind types ts left keyword.Continue begun h = subst IsFlatWhole (sym h.0) (record { deep = stmt_depth-Continue; ends = takes_else-Continue })
flat_behind types ts left keyword.Return begun h = subst IsFlatWhole (sym h.1) (record { deep = stmt_depth-Return h.0; ends = takes_else-Return h.0 })

pub flat_whole : {types : List (List ℕ)} {signs left : List Sign} {begun : Start} → StatementStarts types signs begun left → IsFlatWhole begun
flat_whole (block left) = tt
flat_whole (empty left) = record { deep = stmt_depth-Empty; ends = takes_else-Empty }
flat_whole (expression x signs left h) = record { deep = stmt_depth-ExpS x; ends = takes_else-ExpS x }
flat_whole (label name left is) = tt
flat_whole {types = types} (by_keyword w ts begun left h) = flat_behind types ts left w begun h
