-- The places of lines among those of their nodes, one line after the other.
use Rattle.std.specs.Prelude.{ℕ, ◌-◌, ◌<◌, ◌≡◌, List, take, AllPairs, slice_index_or}
use Rattle.std.specs.declared.cmp.Ordering.TheVariants.{Less}
use Rattle.po_ir.specs.declared.project.Project.{Project}
use Rattle.po_core.specs.Order.{obl_cmp}
use Rattle.po_pred.specs.Order.{pred_cmp}
use Rattle.po_app.specs.Obligations.{each_from}
use Rattle.po_app.specs.ReportText.{Line, index_after, numbered_line}

-- each obligation is before each later one
abbrev pub StandInOrder : List Line → Type 0
StandInOrder lines = AllPairs (λ (x y : Line). obl_cmp pred_cmp x.0 y.0 ≡ Less) lines

-- how many lines of the same node stand before the line at this place
abbrev pub IsIndexAt : List Line → ℕ → ℕ → Type 0
IsIndexAt lines at n = (d : Line) → n ≡ index_after (take at lines) (slice_index_or lines at d).0

-- the same of the line before this place, where there is one
abbrev pub IsIndexBefore : List Line → ℕ → ℕ → Type 0
IsIndexBefore lines at n = 0 < at → IsIndexAt lines (at - 1) n

-- the text of the lines before this place
abbrev pub lines_before : Project → List Line → ℕ → List ℕ
lines_before p lines at = each_from (λ k line. numbered_line p (index_after (take k lines) line.0) line) 0 (take at lines)
