-- Where the words are a command and the file is served, a report is decided.
use Rattle.std.proofs.Common.{◌≡◌, ℕ, ◌^◌, ◌≤◌, inl, inr, List, [], ◌∷◌, Option, Some, Bool, true, false, cond, length, arith, refl, sym, subst, ◌∙◌}
use Rattle.std.specs.Prelude.{codes}
use Rattle.po_straight.specs.declared.definition.Definition.{Definition}
use Rattle.po_straight.specs.Definitions.{IsFile}
use Rattle.po_app.specs.declared.status.Status.{Status}
use Rattle.po_app.specs.declared.status.Status.TheVariants.{Clean, Open, Usage, Refused, ReadFault, WriteFault, NoMemory}
use Rattle.po_app.specs.Command.{IsCheck}
use Rattle.po_app.specs.Outcome.{Decides, too_long, not_served, reported, AreTold, Answers, usage, read_fault, decided, Ends, Told, IsReportOrNoMemory}

-- neither the words nor the file are refused
record IsTaken (status : Status) : Type 0 where
  pub usage : status ≡ Usage → ⊥
  pub refused : status ≡ Refused → ⊥

taken_report : (b : Bool) (status : Status) → status ≡ cond b Clean Open → IsTaken status
taken_report true status is = record { usage = λ h. absurd (cc); refused = λ h. absurd (cc) }
taken_report false status is = record { usage = λ h. absurd (cc); refused = λ h. absurd (cc) }

taken_file : (name bytes text : List ℕ) (status : Status) (ds : List Definition) → length bytes ≤ 2 ^ 24 → IsFile ds bytes → Decides name bytes status text → IsTaken status
taken_file name bytes text status ds short file (too_long long) = absurd (omega arith)
taken_file name bytes text status ds short file (not_served h never) = absurd (never ds file)
taken_file name bytes text status ds short file (reported es s t h k is) = taken_report _ _ is.answered

taken_answer : (words : List (List ℕ)) (held : List ℕ → Option (List ℕ)) (status : Status) (text name bytes : List ℕ) (ds : List Definition) →
    IsCheck words name → held name ≡ Some bytes → length bytes ≤ 2 ^ 24 → IsFile ds bytes → Answers words held status text → IsTaken status
taken_answer words held status text name bytes ds check holds short file (usage never) = absurd (never name check)
taken_answer words held status text name bytes ds check holds short file (read_fault other there) = record { usage = λ h. absurd (cc); refused = λ h. absurd (cc) }
taken_answer words held status text name bytes ds check holds short file (decided other read t s there told decides) =
    let same_words : codes "check" ∷ (other ∷ []) ≡ codes "check" ∷ (name ∷ []) = sym there.0 ∙ check.0 in
    let same : other ≡ name = cc in
    let told_here : AreTold (Some bytes) read = subst (λ o. AreTold o read) holds (subst (λ x. AreTold (held x) read) same told) in
    taken_file other bytes t s ds short file (subst (λ b. Decides other b s t) (sym told_here) decides)

pub completes : (words : List (List ℕ)) (held : List ℕ → Option (List ℕ)) (status : Status) (before after : Option (List ℕ)) (name bytes : List ℕ) (ds : List Definition) →
    Ends words held status before after → IsCheck words name → held name ≡ Some bytes → length bytes ≤ 2 ^ 24 → IsFile ds bytes →
    (status ≡ ReadFault → ⊥) → (status ≡ WriteFault → ⊥) → IsReportOrNoMemory status
completes words held Clean before after name bytes ds ends check holds short file no_read no_write = tt
completes words held Open before after name bytes ds ends check holds short file no_read no_write = tt
completes words held NoMemory before after name bytes ds ends check holds short file no_read no_write = tt
completes words held Usage before after name bytes ds ends check holds short file no_read no_write =
    (taken_answer words held Usage ends.0 name bytes ds check holds short file ends.1).usage refl
completes words held Refused before after name bytes ds ends check holds short file no_read no_write =
    (taken_answer words held Refused ends.0 name bytes ds check holds short file ends.1).refused refl
completes words held ReadFault before after name bytes ds ends check holds short file no_read no_write = no_read refl
completes words held WriteFault before after name bytes ds ends check holds short file no_read no_write = no_write refl

-- a fault of reading that is answered was decided
pub read_fault_decided : (status answer : Status) (text : List ℕ) (before after : Option (List ℕ)) → Told status text answer before after → answer ≡ ReadFault → status ≡ ReadFault
read_fault_decided status answer text before after (inl told) is = sym told.0 ∙ is
read_fault_decided status answer text before after (inr told) is = absurd (let other : WriteFault ≡ ReadFault = sym told.0 ∙ is in cc)
