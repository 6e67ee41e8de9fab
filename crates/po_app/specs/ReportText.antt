-- The text of a report.
use Rattle.std.specs.Prelude.{ℕ, ◌++◌, ◌==◌, ◌&&◌, List, [], codes, map, take, count_by, length, Option, Some, None, Bool, true, false, slice_get}
use Rattle.std.specs.List.{flat_map}
use Rattle.std.specs.Fmt.{decimal}
use Rattle.po_base.specs.declared.numbers.FunNo.{FunNo}
use Rattle.po_ir.specs.declared.graph.Node.{Node}
use Rattle.po_ir.specs.declared.project.Function.{Function}
use Rattle.po_ir.specs.declared.project.Project.{Project}
use Rattle.po_core.specs.declared.obl.Obl.{Obl}
use Rattle.po_core.specs.declared.obl.Verdict.{Verdict}
use Rattle.po_core.specs.declared.obl.Verdict.TheVariants.{Closed, Delegated, Open}
use Rattle.po_core.specs.declared.report.Report.{Report}
use Rattle.po_pred.specs.declared.pred.Pred.{Pred}
use Rattle.po_pred.specs.Spelling.{predicate_text}
use Rattle.po_app.specs.declared.rule.Rule.{Rule}
use Rattle.po_app.specs.declared.rule.Rule.TheVariants.{Range}
use Rattle.po_app.specs.Obligations.{each_from}
use Rattle.po_app.specs.Verdicts.{function_of, node_of, predicate_of}

-- a line of a report: an obligation with its verdict
abbrev pub Line : Type 0
Line = Obl Pred × Verdict Pred Rule

-- the names of a function's registers, some without
abbrev pub names_in : Function → List (Option (List ℕ))
names_in f = map (λ r. r.name) f.graph.regs

abbrev pub rule_text : Rule → List ℕ
rule_text Range = codes "range"

abbrev pub verdict_text : List (Option (List ℕ)) → Verdict Pred Rule → List ℕ
verdict_text names (Closed rule) = codes "closed " ++ rule_text rule
verdict_text names (Delegated q) = codes "delegated " ++ predicate_text names q
verdict_text names Open = codes "open"

abbrev pub at_node_of : Obl Pred → Line → Bool
at_node_of o line = line.0.fun.0 == o.fun.0 && line.0.node.0 == o.node.0

-- how many lines of the same node stand among these
abbrev pub index_after : List Line → Obl Pred → ℕ
index_after before o = count_by (at_node_of o) before

-- FILE:LINE FUNCTION NODE.INDEX
abbrev pub obligation_text : Function → Node → Obl Pred → ℕ → List ℕ
obligation_text f n o index = n.spot.file ++ codes ":" ++ decimal n.spot.line ++ codes " " ++ f.name ++ codes " " ++ decimal o.node.0 ++ codes "." ++ decimal index

-- FILE:LINE FUNCTION NODE.INDEX PREDICATE STATUS
abbrev pub line_text : Function → Node → Pred → ℕ → Line → List ℕ
line_text f n q index line = obligation_text f n line.0 index ++ codes " " ++ predicate_text (names_in f) q ++ codes " " ++ verdict_text (names_in f) line.1 ++ codes "\n"

abbrev pub found_line : Option Function → Option Node → Option Pred → ℕ → Line → List ℕ
found_line (Some f) (Some n) (Some q) index line = line_text f n q index line
found_line _ _ _ index line = []

abbrev pub numbered_line : Project → ℕ → Line → List ℕ
numbered_line p index line = found_line (function_of p line.0) (node_of p line.0) (predicate_of p line.0) index line

-- the lines of obligations, each with its place among those of its node
abbrev pub lines_text : Project → List Line → List ℕ
lines_text p lines = each_from (λ k line. numbered_line p (index_after (take k lines) line.0) line) 0 lines

-- FILE as it was given
abbrev pub assuming_text : Option (List ℕ) → Function → Pred → List ℕ
assuming_text None f q = []
assuming_text (Some file) f q = codes "assume " ++ file ++ codes " " ++ f.name ++ codes " " ++ predicate_text (names_in f) q ++ codes "\n"

abbrev pub found_assumption : Project → Option Function → Pred → List ℕ
found_assumption p None q = []
found_assumption p (Some f) q = assuming_text (slice_get p.files f.file.0) f q

-- assume FILE FUNCTION PREDICATE
abbrev pub assumption_text : Project → (FunNo × Pred) → List ℕ
assumption_text p a = found_assumption p (slice_get p.functions a.0.0) a.1

abbrev pub says_closed : Verdict Pred Rule → Bool
says_closed (Closed rule) = true
says_closed _ = false

abbrev pub says_delegated : Verdict Pred Rule → Bool
says_delegated (Delegated q) = true
says_delegated _ = false

abbrev pub says_open : Verdict Pred Rule → Bool
says_open Open = true
says_open _ = false

-- how many lines have such a verdict
abbrev pub count_of : (Verdict Pred Rule → Bool) → List Line → ℕ
count_of says lines = count_by (λ (x : Line). says x.1) lines

abbrev pub counted_text : List ℕ → ℕ → List ℕ
counted_text label count = label ++ decimal count

-- total N closed C delegated D open O
abbrev pub total_text : List Line → List ℕ
total_text lines =
    counted_text (codes "total ") (length lines) ++ counted_text (codes " closed ") (count_of says_closed lines) ++
    counted_text (codes " delegated ") (count_of says_delegated lines) ++ counted_text (codes " open ") (count_of says_open lines) ++ codes "\n"

abbrev pub report_text : Project → Report Pred Rule → List ℕ
report_text p r = lines_text p r.lines ++ flat_map (assumption_text p) r.assumptions ++ total_text r.lines
