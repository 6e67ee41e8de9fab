-- What is known and assumed lies in every closed pair of sets.
use Rattle.std.proofs.Common.{List, [], ◌∷◌, subst, inl, inr}
use Rattle.std.specs.Prelude.{IsTrue}
use Rattle.po_base.specs.declared.numbers.FunNo.{FunNo}
use Rattle.po_core.specs.Book.{Book}
use Rattle.po_core.specs.Least.{IsClosed, IsReported, IsNeeded}
use Rattle.po_core.specs.Core.{CoreState, IsKnown, IsAssumed, Steps, Runs, Replays, IsStart}
use Rattle.po_core.proofs.Remarks.{remarked_known}
use Rattle.po_core.specs.declared.event.Event.{Event}
use Rattle.po_core.specs.declared.event.Event.TheVariants.{Take, Post, Settle, Give, PutBack, Ask}
use Rattle.po_core.specs.declared.event.Mark.TheVariants.{Taken}
use Rattle.po_core.specs.declared.obl.Obl.{Obl}

module _ {P N T : Type 0} (b : Book P N T) (R : Obl P → Type 0) (A : FunNo → P → Type 0) (closed : IsClosed b R A) where
  pub record IsInside (s : CoreState P N) : Type 0 where
    pub known : (o : Obl P) → IsKnown s o → R o
    pub assumed : (f : FunNo) (q : P) → IsAssumed s f q → A f q

  inside_start : (s : CoreState P N) → IsStart b s → IsInside s
  inside_start s st = record { known = λ o k. closed.asks o (((st.primaries o k.0).0 k.1).1); assumed = λ f q h. absurd (st.none_assumed f q h) }

  inside_step : (s t : CoreState P N) (e : Event P N) → Steps b e s t → IsInside s → IsInside t
  inside_step s t (Take w F) st i = record {
    known = λ o k. i.known o (remarked_known s t _ _ _ st.effect.marks o k.0 k.1);
    assumed = λ f q h. i.assumed f q ((st.effect.assumed f q).0 h);
  }
  inside_step s t (Post F o q) st i =
      let ro : R o = i.known o (Taken, st.legal.0.1) in
      let aq : A o.fun q = closed.assumes o q ro st.legal.1 in
      record {
        known = λ p k. elim ((st.effect.marks p k.0).0 k.1) [ inl x ↦ i.known p (k.0, x) | inr x ↦ closed.supports o.fun q p aq x.1 ];
        assumed = λ f r h. elim ((st.effect.assumes f r).0 h) [ inl x ↦ i.assumed f r x | inr x ↦ rw (x.0, x.1) aq ];
      }
  inside_step s t (Settle F o v) st i = record {
    known = λ p k. i.known p (remarked_known s t _ _ _ st.effect.marks p k.0 k.1);
    assumed = λ f q h. i.assumed f q ((st.effect.assumed f q).0 h);
  }
  inside_step s t (Give w F) st i = record {
    known = λ o k. i.known o (k.0, (st.effect.1 o k.0).0 k.1);
    assumed = λ f q h. i.assumed f q ((st.effect.0.assumed f q).0 h);
  }
  inside_step s t (PutBack F) st i = record {
    known = λ o k. i.known o (remarked_known s t _ _ _ st.effect.1 o k.0 k.1);
    assumed = λ f q h. i.assumed f q ((st.effect.0.assumed f q).0 h);
  }
  inside_step s t (Ask w d) st i = record {
    known = λ o k. i.known o (k.0, (st.effect.marks o k.0).0 k.1);
    assumed = λ f q h. i.assumed f q ((st.effect.assumed f q).0 h);
  }

  inside_runs : (s : CoreState P N) (es : List (Event P N)) (t : CoreState P N) → Runs b s es t → IsInside s → IsInside t
  inside_runs s [] t r i = subst IsInside r i
  inside_runs s (e ∷ es) t r i = inside_runs r.0 es t r.2 (inside_step s r.0 e r.1 i)

  pub inside : (es : List (Event P N)) (t : CoreState P N) → Replays b es t → IsInside t
  inside es t r = inside_runs r.0 es t r.2 (inside_start r.0 r.1)

module _ {P N T : Type 0} (b : Book P N T) (es : List (Event P N)) (t : CoreState P N) (r : Replays b es t) where
  pub known_reported : (o : Obl P) → IsKnown t o → IsReported b o
  known_reported o k R A closed = (inside b (λ x. IsTrue (R x)) (λ f q. IsTrue (A f q)) closed es t r).known o k

  pub assumed_needed : (f : FunNo) (q : P) → IsAssumed t f q → IsNeeded b f q
  assumed_needed f q h R A closed = (inside b (λ x. IsTrue (R x)) (λ f q. IsTrue (A f q)) closed es t r).assumed f q h
