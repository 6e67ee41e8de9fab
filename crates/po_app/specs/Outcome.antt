-- What the top call decides, and what it has written when it answers.
use Rattle.std.specs.Prelude.{ℕ, ◌^◌, ◌<◌, ◌≤◌, ◌≡◌, ◌==◌, ◌⊎◌, List, [], ◌++◌, Option, IfSome, codes, length, cond}
use Rattle.po_io.specs.Writing.{Adds, AddsPrefix}
use Rattle.po_ir.specs.declared.project.Project.{Project}
use Rattle.po_straight.specs.declared.definition.Definition.{Definition}
use Rattle.po_straight.specs.Definitions.{IsFile}
use Rattle.po_app.specs.declared.status.Status.{Status}
use Rattle.po_app.specs.declared.status.Status.TheVariants.{Clean, Open, Usage, Refused, ReadFault, WriteFault, NoMemory}
use Rattle.po_core.specs.declared.report.Report.{Report}
use Rattle.po_pred.specs.declared.pred.Pred.{Pred}
use Rattle.po_app.specs.declared.rule.Rule.{Rule}
use Rattle.po_app.specs.Lowering.{IsProject}
use Rattle.po_app.specs.Closed.{IsReport}
use Rattle.po_app.specs.ReportText.{report_text, count_of, says_open}
use Rattle.po_app.specs.Command.{IsCheck, usage_text}

abbrev pub named_text : List ℕ → List ℕ → List ℕ
named_text what name = what ++ name ++ codes "\n"

-- open where so many obligations are left open, and clean where none is
abbrev pub status_by : ℕ → Status
status_by count = cond (count == 0) Clean Open

abbrev pub status_of : Report Pred Rule → Status
status_of r = status_by (count_of says_open r.lines)

-- the text is that of the report on these definitions, and the status says whether it leaves an obligation open
pub record IsReported (name : List ℕ) (ds : List Definition) (status : Status) (text : List ℕ) : Type 0 where
  pub project : Project
  pub report : Report Pred Rule
  pub lowered : IsProject name ds project
  pub ruled : IsReport project report
  pub answered : status ≡ status_of report
  pub written : text ≡ report_text project report

-- Decides name bytes status text: what is decided of a file of this name that has these bytes
pub data Decides (name bytes : List ℕ) : Status → List ℕ → Type 0 where
  too_long : 2 ^ 24 < length bytes → Decides name bytes Refused (named_text (codes "refused too-long ") name)
  not_served : length bytes ≤ 2 ^ 24 → ((ds : List Definition) → IsFile ds bytes → ⊥) → Decides name bytes Refused (named_text (codes "refused not-yet ") name)
  reported : (ds : List Definition) (status : Status) (text : List ℕ) → length bytes ≤ 2 ^ 24 → IsFile ds bytes → IsReported name ds status text → Decides name bytes status text

-- the bytes are the file's, where it tells them
abbrev pub AreTold : Option (List ℕ) → List ℕ → Type 0
AreTold held bytes = IfSome held (λ all. all ≡ bytes)

-- Answers words held status text: what is decided on these words, where `held` tells the bytes of the files
pub data Answers (words : List (List ℕ)) (held : List ℕ → Option (List ℕ)) : Status → List ℕ → Type 0 where
  usage : ((name : List ℕ) → IsCheck words name → ⊥) → Answers words held Usage usage_text
  read_fault : (name : List ℕ) → IsCheck words name → Answers words held ReadFault (named_text (codes "read-fault ") name)
  decided : (name bytes text : List ℕ) (status : Status) → IsCheck words name → AreTold (held name) bytes → Decides name bytes status text → Answers words held status text

-- Ends words held status before after: with this status, the sink holds the decided text behind what it held before;
-- where a write failed a prefix of it, and for want of memory nothing
abbrev pub Ends : List (List ℕ) → (List ℕ → Option (List ℕ)) → Status → Option (List ℕ) → Option (List ℕ) → Type 0
Ends words held WriteFault before after = (status : Status) × (text : List ℕ) × Answers words held status text × AddsPrefix before after text
Ends words held NoMemory before after = Adds before after []
Ends words held status before after = (text : List ℕ) × Answers words held status text × Adds before after text

-- the text was written whole, or a write failed
abbrev pub Told : Status → List ℕ → Status → Option (List ℕ) → Option (List ℕ) → Type 0
Told status text answer before after = ((answer ≡ status) × Adds before after text) ⊎ ((answer ≡ WriteFault) × AddsPrefix before after text)

-- a report was decided, or memory was wanting
abbrev pub IsReportOrNoMemory : Status → Type 0
IsReportOrNoMemory Clean = Unit {0}
IsReportOrNoMemory Open = Unit {0}
IsReportOrNoMemory NoMemory = Unit {0}
IsReportOrNoMemory _ = ⊥
