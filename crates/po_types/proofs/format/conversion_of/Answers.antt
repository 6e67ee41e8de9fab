use Rattle.std.proofs.Common.{◌≡◌, ◌+◌, Some, None, take, drop, length, length-drop, sym, ap, ◌∙◌, subst, arith}
use Rattle.std.proofs.lemmas.List.{take-append-drop, take_rest, drop-drop}
use Rattle.po_types.specs.Formats.{conversions, IsConversion, IsDigit}
use Rattle.po_types.specs.FormatReading.{first_row, IsRun}
use Rattle.po_types.proofs.FormatPieces.{no_letters, no_fit, conversion_stands}
use Rattle.po_types.proofs.format.conversion_of.Goals as goal

pub returns-in-None : goal.returns-in-None
returns-in-None c =
    let text = c.args.text.now in
    let i = c.flags_length-given.result in
    let j = c.digits_length-width.result in
    let digits : IsRun IsDigit (take j (drop i text)) (drop j (drop i text)) = simp take_rest at c.digits_length-width.ensures.run in
    let row : None ≡ first_row conversions (drop j (drop i text)) = simp take_rest at c.in-None.ensures.value in
    no_letters text _ _ _ _ c.flags_length-given.ensures.run (sym (take-append-drop i text)) digits (sym (take-append-drop j (drop i text))) (sym row)

pub returns-then-not-flags_fit : goal.returns-then-not-flags_fit
returns-then-not-flags_fit c =
    let text = c.args.text.now in
    let i = c.flags_length-given.result in
    let j = c.digits_length-width.result in
    let digits : IsRun IsDigit (take j (drop i text)) (drop j (drop i text)) = simp take_rest at c.digits_length-width.ensures.run in
    let row : Some (c.in-Some.letters.now, c.in-Some.spec) ≡ first_row conversions (drop j (drop i text)) = simp take_rest at c.in-Some.ensures.value in
    no_fit text _ _ _ _ _ c.flags_length-given.ensures.run (sym (take-append-drop i text)) digits (sym (take-append-drop j (drop i text))) (sym row)
    (λ h. absurd (cc (c.flags_fit.ensures.1 h, c.if-not-flags_fit.true)))

pub returns-else-not-flags_fit : goal.returns-else-not-flags_fit
returns-else-not-flags_fit c =
    let text = c.args.text.now in
    let i = c.flags_length-given.result in
    let j = c.digits_length-width.result in
    let l = length c.in-Some.letters.now in
    let digits : IsRun IsDigit (take j (drop i text)) (drop j (drop i text)) = simp take_rest at c.digits_length-width.ensures.run in
    let row : Some (c.in-Some.letters.now, c.in-Some.spec) ≡ first_row conversions (drop j (drop i text)) = simp take_rest at c.in-Some.ensures.value in
    let end : drop l (drop j (drop i text)) ≡ drop (i + j + l) text = ap (drop l) (drop-drop j i text) ∙ drop-drop l (i + j) text in
    let near = simp length-drop at (simp take_rest at c.in-Some.ensures.within) in
    let before = simp length-drop at (simp take_rest at c.digits_length-width.ensures.within) in (
      omega (arith, near, before, c.flags_length-given.ensures.within),
      subst (λ r. IsConversion text c.in-Some.spec r) end
          (conversion_stands text _ _ _ _ _ c.flags_length-given.ensures.run (sym (take-append-drop i text)) digits (sym (take-append-drop j (drop i text))) (sym row)
          (c.flags_fit.ensures.0 (cc c.if-not-flags_fit.false))),
    )
