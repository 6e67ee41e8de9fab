-- The lines of a report.
use Rattle.std.proofs.Common.{◌≡◌, ℕ, ◌+◌, ◌<◌, List, [], ◌∷◌, ◌++◌, length, map, take, get_or, refl, sym, ◌∙◌, ap, subst, inl, inr}
use Rattle.std.specs.List.{Contains}
use Rattle.std.proofs.lemmas.List.{map-append}
use Rattle.std.proofs.lemmas.List.Elements.{Contains-append_left, Contains-push, Contains-push_cases}
use Rattle.po_core.specs.Core.{AreApart}
use Rattle.po_lists.proofs.Members.{Has, has, contains, has_from_map}
use Rattle.po_core.specs.Marks.{settled_taken, settled_untaken, same_verdict}
use Rattle.po_core.specs.declared.event.Mark.{Mark}
use Rattle.po_core.specs.declared.event.Mark.TheVariants.{Untaken, Taken, Settled}
use Rattle.po_core.specs.declared.obl.Obl.{Obl}
use Rattle.po_core.specs.declared.obl.Verdict.{Verdict}
use Rattle.po_ledger.specs.Parts.{AddsLine, AreLines}
use Rattle.po_ledger.proofs.Lists.{front_cases, front_last, front_more, key_once}
use Rattle.po_marks.proofs.Marked.{apart_push}

module _ {P N : Type 0} (marks : List (Obl P × Mark P N)) where
  pub lines_none : AreLines (take 0 marks) []
  lines_none = record { each = λ o v. (λ h. absurd (has [] (o, v) h), λ h. absurd (has (take 0 marks) (o, Settled v) h)); apart = tt }

  module _ (i : ℕ) (e : Obl P × Mark P N) (l : i < length marks) (q : e ≡ get_or marks i e) (lines new : List (Obl P × Verdict P N)) (a : AreLines (take i marks) lines) where
    -- no line for a mark that is no verdict
    no_line : ((v : Verdict P N) → ¬ (Settled v ≡ e.1)) → new ≡ lines → AreLines (take (i + 1) marks) new
    no_line other is = subst (λ (z : List (Obl P × Verdict P N)). AreLines (take (i + 1) marks) z) (sym is) (record {
      each = λ o v. (
        λ h. front_more marks i e (o, Settled v) l q ((a.each o v).0 h),
        λ h. elim (front_cases marks i e (o, Settled v) l q h) [ inl x ↦ (a.each o v).1 x | inr x ↦ absurd (other v (sym (ap (λ (z : Obl P × Mark P N). z.1) x))) ],
      );
      apart = a.apart;
    })

    a_line : AreApart (map (λ x. x.0) marks) → (v : Verdict P N) → e.1 ≡ Settled v → new ≡ lines ++ (e.0, v) ∷ [] → AreLines (take (i + 1) marks) new
    a_line apart v is grows =
        let line : Obl P × Verdict P N = (e.0, v) in
        let entry : ◌≡◌ {A = Obl P × Mark P N} e (e.0, Settled v) = ap (λ (z : Mark P N). let y : Obl P × Mark P N = (e.0, z) in y) is in
        let key : (Obl P × Verdict P N) → Obl P = λ x. x.0 in
        subst (λ (z : List (Obl P × Verdict P N)). AreLines (take (i + 1) marks) z) (sym grows) (record {
          each = λ o w. (
            λ h. elim (Contains-push_cases lines line (o, w) h) [
              | inl x ↦ front_more marks i e (o, Settled w) l q ((a.each o w).0 x)
              | inr x ↦ subst (λ (z : Obl P × Verdict P N). Contains (take (i + 1) marks) (z.0, Settled z.1)) x (subst (λ (z : Obl P × Mark P N). Contains (take (i + 1) marks) z) entry (front_last marks i e l q))
            ],
            λ h. elim (front_cases marks i e (o, Settled w) l q h) [
              | inl x ↦ Contains-append_left lines (line ∷ []) (o, w) ((a.each o w).1 x)
              | inr x ↦ (
                  let one : e.0 ≡ o = ap (λ (z : Obl P × Mark P N). z.0) x in
                  let same : v ≡ w = same_verdict v w (sym is ∙ ap (λ (z : Obl P × Mark P N). z.1) x) in
                  subst (λ (z : Verdict P N). Contains (lines ++ line ∷ []) (o, z)) same (subst (λ (z : Obl P). Contains (lines ++ line ∷ []) (z, v)) one (Contains-push lines line))
                  )
            ],
          );
          apart = subst (λ (z : List (Obl P)). AreApart z) (sym (map-append key lines (line ∷ []))) (apart_push (map key lines) e.0 a.apart (λ h.
              let x = has_from_map key lines e.0 (has _ e.0 h) in
              let there : Contains lines (e.0, x.0.1) = contains lines (e.0, x.0.1) (subst (λ (z : Obl P). Has lines (z, x.0.1)) x.2 x.1) in
              key_once marks i e apart l q (Settled x.0.1) (has _ _ ((a.each e.0 x.0.1).0 there))));
        })

  pub lines_more : AreApart (map (λ x. x.0) marks) → (i : ℕ) (e : Obl P × Mark P N) → i < length marks → e ≡ get_or marks i e → (lines new : List (Obl P × Verdict P N)) → AreLines (take i marks) lines → AddsLine e lines new → AreLines (take (i + 1) marks) new
  lines_more apart i (o, Untaken) l q lines new a adds = no_line i (o, Untaken) l q lines new a settled_untaken adds
  lines_more apart i (o, Taken) l q lines new a adds = no_line i (o, Taken) l q lines new a settled_taken adds
  lines_more apart i (o, Settled v) l q lines new a adds = a_line i (o, Settled v) l q lines new a apart v refl adds
