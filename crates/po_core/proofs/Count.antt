-- No legal list settles more obligations than there can be.
use Rattle.std.proofs.Common.{◌≡◌, ◌≤◌, List, [], ◌∷◌, length, refl, sym, ◌∙◌, subst, inl, inr, arith}
use Rattle.std.specs.List.{flat_map}
use Rattle.std.specs.Prelude.{Bool}
use Rattle.po_core.specs.Book.{Book, IsBook}
use Rattle.po_core.specs.Core.{AreApart, CoreState, HasMark, IsSettled, Steps, Runs, Replays}
use Rattle.po_core.specs.Theorem.{settle_count, most_obligations, possible_of, functions_below}
use Rattle.po_core.specs.declared.event.Event.{Event}
use Rattle.po_core.specs.declared.event.Event.TheVariants.{Take, Post, Settle, Give, PutBack, Ask}
use Rattle.po_core.specs.declared.event.Mark.TheVariants.{Taken, Settled}
use Rattle.po_core.specs.declared.obl.Obl.{Obl}
use Rattle.po_core.specs.declared.obl.Verdict.{Verdict}
use Rattle.po_core.specs.Marks.{settled_taken}
use Rattle.po_core.proofs.Once.{stays_settled, runs_settled}
use Rattle.po_core.proofs.Orderly.{Agrees, agrees_step, agrees_at_start}
use Rattle.po_core.proofs.Lists.{apart_within}
use Rattle.po_core.proofs.Possible.{all_possible}
use Rattle.po_lists.proofs.Members.{Has, has}

module _ {P N T : Type 0} (b : Book P N T) (eq : P → P → Bool) (law : IsBook eq b) where
  -- the obligations that a list of events settles
  pub record SettledBy (s : CoreState P N) (es : List (Event P N)) (t : CoreState P N) : Type 0 where
    pub all : List (Obl P)
    pub count : length all ≡ settle_count es
    pub apart : AreApart all
    pub not_before : (o : Obl P) (v : Verdict P N) → Has all o → ¬ IsSettled s o v
    pub after : (o : Obl P) → Has all o → (v : Verdict P N) × IsSettled t o v

  -- a step that settles nothing
  other_step : (s u t : CoreState P N) (e : Event P N) (es : List (Event P N)) → settle_count (e ∷ es) ≡ settle_count es → Steps b e s u → SettledBy u es t → SettledBy s (e ∷ es) t
  other_step s u t e es same st r = record {
    all = r.all;
    count = r.count ∙ sym same;
    apart = r.apart;
    not_before = λ o v h k. r.not_before o v h (stays_settled b eq law s u e st o v k);
    after = r.after;
  }

  settled_by : (s : CoreState P N) (es : List (Event P N)) (t : CoreState P N) → Runs b s es t → Agrees b eq law s → SettledBy s es t
  settled_by s [] t r a = record { all = []; count = refl; apart = tt; not_before = λ o v h. absurd h; after = λ o h. absurd h }
  settled_by s (Take w F ∷ es) t r a = other_step s r.0 t (Take w F) es refl r.1 (settled_by r.0 es t r.2 (agrees_step b eq law s r.0 (Take w F) r.1 a))
  settled_by s (Post F p q ∷ es) t r a = other_step s r.0 t (Post F p q) es refl r.1 (settled_by r.0 es t r.2 (agrees_step b eq law s r.0 (Post F p q) r.1 a))
  settled_by s (Settle F p v ∷ es) t r a =
      let rest : SettledBy r.0 es t = settled_by r.0 es t r.2 (agrees_step b eq law s r.0 (Settle F p v) r.1 a) in
      let now : IsSettled r.0 p v = (r.1.effect.marks p (Settled v)).1 (inl (refl, r.1.legal.0.1, refl)) in
      let count : length rest.all ≡ settle_count es = rest.count in
      record {
        all = p ∷ rest.all;
        count = omega arith;
        apart = (λ h. rest.not_before p v (has rest.all p h) now, rest.apart);
        not_before = λ o w h k. elim h [
          | inl q ↦ settled_taken w (a.one_mark o (Settled w) Taken k (subst (λ (z : Obl P). HasMark s z Taken) q r.1.legal.0.1))
          | inr x ↦ rest.not_before o w x (stays_settled b eq law s r.0 (Settle F p v) r.1 o w k)
        ];
        after = λ o h. elim h [ inl q ↦ (v, subst (λ (z : Obl P). IsSettled t z v) q (runs_settled b eq law r.0 es t r.2 p v now)) | inr x ↦ rest.after o x ];
      }
  settled_by s (Give w F ∷ es) t r a = other_step s r.0 t (Give w F) es refl r.1 (settled_by r.0 es t r.2 (agrees_step b eq law s r.0 (Give w F) r.1 a))
  settled_by s (PutBack F ∷ es) t r a = other_step s r.0 t (PutBack F) es refl r.1 (settled_by r.0 es t r.2 (agrees_step b eq law s r.0 (PutBack F) r.1 a))
  settled_by s (Ask w d ∷ es) t r a = other_step s r.0 t (Ask w d) es refl r.1 (settled_by r.0 es t r.2 (agrees_step b eq law s r.0 (Ask w d) r.1 a))

  pub settles_bounded : (es : List (Event P N)) (t : CoreState P N) → Replays b es t → settle_count es ≤ most_obligations b
  settles_bounded es t r =
      let all : SettledBy r.0 es t = settled_by r.0 es t r.2 (agrees_at_start b eq law r.0 r.1) in
      let few : length all.all ≤ length (flat_map (possible_of b) (functions_below b.functions)) = apart_within all.all _ all.apart (λ o h. has _ o ((all_possible b eq law es t r).known o (Settled (all.after o h).0, (all.after o h).1)).1) in
      let count : length all.all ≡ settle_count es = all.count in
      omega arith
