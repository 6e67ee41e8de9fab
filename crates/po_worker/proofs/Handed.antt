-- Tickets that are handed out, judged and given back.
use Rattle.std.proofs.Common.{◌≡◌, ℕ, ◌+◌, List, [], ◌∷◌, ◌++◌, suc, length, map, take, refl, sym, ◌∙◌, ap, subst, arith}
use Rattle.std.specs.Prelude.{Bool, true, slice_get, Some}
use Rattle.std.proofs.lemmas.Option.{slice_get_read}
use Rattle.po_core.specs.Book.{Book}
use Rattle.po_core.specs.Core.{CoreState, IsQuiet, Keeps, Replays}
use Rattle.po_lists.proofs.Members.{contains, has_item}
use Rattle.po_core.specs.declared.event.Event.{Event}
use Rattle.po_core.specs.declared.event.Event.TheVariants.{Ask}
use Rattle.po_core.specs.declared.event.Mark.TheVariants.{Untaken}
use Rattle.po_core.specs.declared.obl.Obl.{Obl}
use Rattle.po_core.specs.declared.obl.Verdict.{Verdict}
use Rattle.po_ledger.specs.Answers.{Answers}
use Rattle.po_ledger.specs.Calls.{Does, HandsOut, CanGive, KeepsTicket, Judges}
use Rattle.po_ledger.specs.Hands.{IsSettledUpTo}
use Rattle.po_ledger.specs.View.{LedgerView, TicketView, Fits, IsLedger, items_of}
use Rattle.po_ledger.specs.declared.next.Next.{Next}
use Rattle.po_ledger.specs.declared.next.Next.TheVariants.{Ticket, Wait, Done}
use Rattle.po_worker.specs.Asked.{Tells}
use Rattle.po_worker.specs.Work.{IsToldDone}
use Rattle.po_worker.proofs.General.{map_push}
use Rattle.po_lists.proofs.Places.{mapped_at}

module _ {P N T : Type 0} (b : Book P N T) where
  -- nothing is settled of a ticket that is handed out
  pub handed_open : (w : ℕ) (old new : LedgerView P N T) (t : TicketView P T) → HandsOut b w old new t → IsSettledUpTo t.hand 0
  handed_open w old new t h k o settled at = (λ l. absurd (omega (arith, l)), λ l. h.all_open o settled (contains t.hand (o, settled) (has_item t.hand k (o, settled) at)))

  -- the verdicts up to one more item
  pub judged_more : (t0 t u : TicketView P T) (k : ℕ) (v : Verdict P N) (vs new : List (Verdict P N)) → KeepsTicket t0 t → KeepsTicket t u → Judges b t k v → vs ≡ map b.verdict_of (take k (items_of t0.hand)) → new ≡ vs ++ v ∷ [] → KeepsTicket t0 u × (new ≡ map b.verdict_of (take (k + 1) (items_of t0.hand)))
  judged_more t0 t u k v vs new first second judges before pushed =
      let item : slice_get t0.hand k ≡ Some (judges.0, judges.1.0) = ap (λ (z : List (Obl P × Bool)). slice_get z k) (sym first.hand) ∙ judges.1.1 in
      let there : slice_get (items_of t0.hand) k ≡ Some judges.0 = mapped_at (λ (z : Obl P × Bool). z.0) t0.hand k (judges.0, judges.1.0) item in
      let more : map b.verdict_of (take (suc k) (items_of t0.hand)) ≡ map b.verdict_of (take k (items_of t0.hand)) ++ b.verdict_of judges.0 ∷ [] = map_push b.verdict_of (items_of t0.hand) k judges.0 there in
      let next : suc k ≡ k + 1 = omega arith in (
        record { worker = second.worker ∙ first.worker; file = second.file ∙ first.file; hand = second.hand ∙ first.hand },
        pushed ∙ (ap (λ (z : List (Verdict P N)). z ++ v ∷ []) before ∙ (ap (λ (z : Verdict P N). map b.verdict_of (take k (items_of t0.hand)) ++ z ∷ []) judges.2 ∙ (sym more ∙ ap (λ (n : ℕ). map b.verdict_of (take n (items_of t0.hand))) next))),
      )

  -- one who is told that all is done
  pub asked_done : (w : ℕ) (old new : LedgerView P N T) → Does b (Ask w true) old new → IsQuiet new.state
  asked_done w old new d =
      let keeps : Keeps old.state new.state = d.steps.effect in
      record {
        none_held = λ f h. d.steps.legal.none_held f (h.0, (keeps.hands f h.0).0 h.1);
        none_untaken = λ o h. d.steps.legal.none_untaken o ((keeps.marks o Untaken).0 h);
      }

  pub told_done : (w : ℕ) (old new : LedgerView P N T) → Does b (Ask w true) old new → IsLedger b new → IsToldDone b w
  told_done w old new d is = record {
    before = old.journal;
    end = new.state;
    replays = subst (λ (z : List (Event P N)). Replays b z new.state) d.appends is.replays;
    quiet = asked_done w old new d;
  }

  -- what the answer to a worker that asks for work tells it
  pub told : {R J : Type 0} (w : ℕ) (old new : LedgerView P N T) (next : Next R J P N T) → Answers b w old new next → IsLedger b new → Tells b w next
  told w old new (Ticket t) h is = handed_open w old new t h
  told w old new Wait h is = tt
  told w old new Done h is = told_done w old new h is

pub can_give : {P N T : Type 0} (s : CoreState P N) (t : TicketView P T) → Fits s t → IsSettledUpTo t.hand (length t.hand) → CanGive s t
can_give s t fits all = record { fits = fits; all_settled = λ o x c. (all c.0 o x (slice_get_read t.hand (length t.hand) c.0 (o, x) refl c.1 (sym c.2))).0 c.1 }
