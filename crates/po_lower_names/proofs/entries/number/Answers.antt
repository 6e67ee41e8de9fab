use Rattle.std.proofs.Common.{◌≡◌, ◌∙◌, ◌+◌, ◌++◌, ◌∷◌, [], arith, length, length-append, subst, sym, ap, inl, inr}
use Rattle.po_types.specs.Tables.{found as number_of}
use Rattle.po_lower_names.specs.Indexed.{IsIndexed}
use Rattle.po_lower_names.proofs.Index.{indexed_more, numbered_there, numbered_cases}
use Rattle.po_lower_names.proofs.entries.number.Goals as goal

pub returns-clause-keeps : goal.returns-clause-keeps
returns-clause-keeps c = λ entries h.
    let more = c.in_ok-add.ensures.ok ∙ ap (λ name. c.args.numbers.now ++ (name, c.len-k.result) ∷ []) c.in_ok-share.ensures in
    let size : c.len-k.result ≡ length c.args.kept.now.items = omega (arith, c.len-k.ensures, c.args.kept.now.ok) in
    subst (λ z. IsIndexed entries c.add.new.self z) (sym c.in_ok-add_number.ensures.ok) (indexed_more entries c.args.numbers.now _ _ c.args.name.now c.len-k.result h (sym c.in_default.ensures) size more)

pub returns-clause-there : goal.returns-clause-there
returns-clause-there c =
    let more = c.in_ok-add.ensures.ok ∙ ap (λ name. c.args.numbers.now ++ (name, c.len-k.result) ∷ []) c.in_ok-share.ensures in
    ap (λ z. number_of z c.args.name.now) more ∙ numbered_there c.args.numbers.now c.args.name.now c.len-k.result (sym c.in_default.ensures)

pub returns-clause-within : goal.returns-clause-within
returns-clause-within c = λ h name k q.
    let more = c.in_ok-add.ensures.ok ∙ ap (λ name. c.args.numbers.now ++ (name, c.len-k.result) ∷ []) c.in_ok-share.ensures in
    let size : length c.add_number.new.kept.items ≡ length c.args.kept.now.items + 1 = omega (arith, ap length c.in_ok-add_number.ensures.ok, length-append c.args.kept.now.items ([] ∷ [])) in
    elim (numbered_cases c.args.numbers.now c.args.name.now c.len-k.result name k (ap (λ z. number_of z name) (sym more) ∙ q)) [
      | inl old ↦ omega (arith, size, h name k old)
      | inr own ↦ omega (arith, size, own.1, c.len-k.ensures, c.args.kept.now.ok)
    ]
