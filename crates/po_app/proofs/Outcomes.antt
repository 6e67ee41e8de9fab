-- What is decided, from what was found.
use Rattle.std.proofs.Common.{◌≡◌, ℕ, ◌+◌, ◌*◌, ◌^◌, ◌<◌, ◌≤◌, ◌⊎◌, inl, inr, List, Option, Some, None, Ok, Err, Bool, true, false, cond, length, replicate, arith, refl, sym, subst, ◌∙◌}
use Rattle.std.specs.Prelude.{All, codes, IfSome}
use Rattle.std.proofs.lemmas.List.{length-replicate}
use Rattle.std.proofs.lemmas.List.Elements.{All-nil, All-cons}
use Rattle.po_io.specs.declared.reading.ReadFail.TheVariants.{TooLong}
use Rattle.po_io.specs.Reading.{IsReadOf}
use Rattle.po_io.specs.Writing.{Adds}
use Rattle.po_straight.specs.declared.lexeme.Lexeme.{Lexeme}
use Rattle.po_straight.specs.declared.definition.Definition.{Definition}
use Rattle.po_straight.specs.Definitions.{IsFile, AreDefinitions, none, more, operations, known_with}
use Rattle.po_straight.specs.Scopes.{Signature}
use Rattle.po_app.specs.declared.status.Status.{Status}
use Rattle.po_app.specs.declared.status.Status.TheVariants.{Clean, Open, Usage, Refused, ReadFault, WriteFault, NoMemory}
use Rattle.po_app.specs.Lowered.{IsCounted}
use Rattle.po_app.specs.Command.{IsCheck, usage_text}
use Rattle.po_app.specs.Outcome.{named_text, Decides, too_long, not_served, reported, AreTold, Answers, usage, read_fault, decided, Ends, Told}

counted : (ops params : ℕ) → (ops + 1) * (params + ops) ≤ 2 ^ 22 → params + ops + 1 < 2 ^ 32
counted ops params h = omega arith

-- the nodes and registers of a served file are counted in 32 bits
pub all_counted : (earlier : List Signature) (ds : List Definition) (xs : List Lexeme) → AreDefinitions earlier ds xs → All IsCounted ds
all_counted earlier ds xs (none sigs) = All-nil _
all_counted earlier ds xs (more sigs e es ys zs h k) = All-cons IsCounted e es (counted (operations e.value) (length e.parameters) h.small) (all_counted (known_with sigs e) es zs k)

pub decides_not_served : (name bytes text : List ℕ) → length bytes ≤ 2 ^ 24 → ((ds : List Definition) → IsFile ds bytes → ⊥) → text ≡ named_text (codes "refused not-yet ") name → Decides name bytes Refused text
decides_not_served name bytes text short never is = subst (λ t. Decides name bytes Refused t) (sym is) (not_served short never)

pub answers_usage : (words : List (List ℕ)) (held : List ℕ → Option (List ℕ)) (text : List ℕ) → ((name : List ℕ) → IsCheck words name → ⊥) → text ≡ usage_text → Answers words held Usage text
answers_usage words held text never is = subst (λ t. Answers words held Usage t) (sym is) (usage never)

pub answers_read_fault : (words : List (List ℕ)) (held : List ℕ → Option (List ℕ)) (name text : List ℕ) → IsCheck words name → text ≡ named_text (codes "read-fault ") name → Answers words held ReadFault text
answers_read_fault words held name text check is = subst (λ t. Answers words held ReadFault t) (sym is) (read_fault name check)

-- what was read whole is what the file tells
told_whole : (held : Option (List ℕ)) (limit : ℕ) (read : List ℕ) → IfSome held (λ bytes. IsReadOf bytes limit (Ok read)) → AreTold held read
told_whole None limit read is = tt
told_whole (Some bytes) limit read is = sym is.0

pub answers_decided : (words : List (List ℕ)) (held : List ℕ → Option (List ℕ)) (name read seen text : List ℕ) (status : Status) (limit : ℕ) → IsCheck words name →
    IfSome (held name) (λ bytes. IsReadOf bytes limit (Ok read)) → seen ≡ read → Decides name seen status text → Answers words held status text
answers_decided words held name read seen text status limit check is same decides =
    decided name read text status check (told_whole (held name) limit read is) (subst (λ bytes. Decides name bytes status text) same decides)

-- there are bytes past every limit
longer : (limit : ℕ) → (bytes : List ℕ) × (limit < length bytes)
longer limit = (replicate (limit + 1) 0, omega (arith, length-replicate {A = ℕ} (limit + 1) 0))

too_long_told : (held : Option (List ℕ)) (limit : ℕ) → IfSome held (λ bytes. IsReadOf bytes limit (Err TooLong)) → (bytes : List ℕ) × AreTold held bytes × (limit < length bytes)
too_long_told None limit is = let some = longer limit in (some.0, tt, some.1)
too_long_told (Some bytes) limit is = (bytes, refl, is)

pub answers_too_long : (words : List (List ℕ)) (held : List ℕ → Option (List ℕ)) (name text : List ℕ) → IsCheck words name →
    IfSome (held name) (λ bytes. IsReadOf bytes (2 ^ 24) (Err TooLong)) → text ≡ named_text (codes "refused too-long ") name → Answers words held Refused text
answers_too_long words held name text check is written =
    let some = too_long_told (held name) (2 ^ 24) is in
    decided name some.0 text Refused check some.1 (subst (λ t. Decides name some.0 Refused t) (sym written) (too_long some.2))

-- a report never has the status of a fault
status_of_report : (b : Bool) (status : Status) → status ≡ cond b Clean Open → (status ≡ WriteFault → ⊥) × (status ≡ NoMemory → ⊥)
status_of_report true status is = ((λ h. absurd (cc)), (λ h. absurd (cc)))
status_of_report false status is = ((λ h. absurd (cc)), (λ h. absurd (cc)))

decides_no_fault : (name bytes text : List ℕ) (status : Status) → Decides name bytes status text → (status ≡ WriteFault → ⊥) × (status ≡ NoMemory → ⊥)
decides_no_fault name bytes text status (too_long h) = ((λ h. absurd (cc)), (λ h. absurd (cc)))
decides_no_fault name bytes text status (not_served h k) = ((λ h. absurd (cc)), (λ h. absurd (cc)))
decides_no_fault name bytes text status (reported ds s t short file is) = status_of_report _ _ is.answered

answers_no_fault : (words : List (List ℕ)) (held : List ℕ → Option (List ℕ)) (status : Status) (text : List ℕ) → Answers words held status text → (status ≡ WriteFault → ⊥) × (status ≡ NoMemory → ⊥)
answers_no_fault words held status text (usage never) = ((λ h. absurd (cc)), (λ h. absurd (cc)))
answers_no_fault words held status text (read_fault name check) = ((λ h. absurd (cc)), (λ h. absurd (cc)))
answers_no_fault words held status text (decided name bytes t s check told decides) = decides_no_fault name bytes t s decides

-- the whole text was written
ends_whole : (words : List (List ℕ)) (held : List ℕ → Option (List ℕ)) (status : Status) (text : List ℕ) (before after : Option (List ℕ)) →
    Answers words held status text → (status ≡ WriteFault → ⊥) × (status ≡ NoMemory → ⊥) → Adds before after text → Ends words held status before after
ends_whole words held Clean text before after answers never adds = (text, answers, adds)
ends_whole words held Open text before after answers never adds = (text, answers, adds)
ends_whole words held Usage text before after answers never adds = (text, answers, adds)
ends_whole words held Refused text before after answers never adds = (text, answers, adds)
ends_whole words held ReadFault text before after answers never adds = (text, answers, adds)
ends_whole words held WriteFault text before after answers never adds = absurd (never.0 refl)
ends_whole words held NoMemory text before after answers never adds = absurd (never.1 refl)

pub ends_told : (words : List (List ℕ)) (held : List ℕ → Option (List ℕ)) (status answer : Status) (text : List ℕ) (before after : Option (List ℕ)) →
    Answers words held status text → Told status text answer before after → Ends words held answer before after
ends_told words held status answer text before after answers (inl told) =
    subst (λ s. Ends words held s before after) (sym told.0) (ends_whole words held status text before after answers (answers_no_fault words held status text answers) told.1)
ends_told words held status answer text before after answers (inr told) =
    subst (λ s. Ends words held s before after) (sym told.0) (status, text, answers, told.1)

pub write_fault_rose : {R : Type 0} (words : List (List ℕ)) (held : List ℕ → Option (List ℕ)) (status answer : Status) (text : List ℕ) →
    Answers words held status text → (answer ≡ status) ⊎ R → answer ≡ WriteFault → R
write_fault_rose words held status answer text answers (inl same) is = absurd ((answers_no_fault words held status text answers).0 (sym same ∙ is))
write_fault_rose words held status answer text answers (inr rose) is = rose
