use Rattle.std.proofs.Common.{◌≡◌, ℕ, ◌+◌, ◌-◌, ◌<◌, ◌≤◌, List, [], ◌∷◌, ◌++◌, length, take, drop, arith, sym, ap, ◌∙◌, subst, append-nil}
use Rattle.std.specs.List.{All}
use Rattle.std.proofs.lemmas.List.{drop_more, drop_all, length-take}
use Rattle.po_base.specs.declared.token.Token.{Token}
use Rattle.po_lex.specs.Keeping.{Keeps, nothing, advance, size, kept_as, kept_of, extension_of, at_start}
use Rattle.po_lex.specs.declared.keeping.Context.{Context}
use Rattle.po_lex.proofs.Remains.{keeps_on, held_of}
use Rattle.po_lex.proofs.Widths.{judged_within}
use Rattle.po_lex.proofs.Selected.{selected, fewer, still_placed}
use Rattle.po_lex.proofs.keeping.kept.Goals as goal

pub slice_bounds-put_kept-end : goal.slice_bounds-put_kept-end
slice_bounds-put_kept-end c =
    let judged = judged_within c.as_slice-read.result.now c.as_slice-widths.result.now c.loop-at.at c.size.result c.loop-at.context c.extension_of-word.result c.index-read-at.result c.loop-at-test.true
    (c.as_slice-widths.ensures ∙ c.in_ok-widths.ensures.directive_effect_at) c.extension_of-word.ensures c.size.ensures.value in
    omega (arith, judged.1)

pub loop-at-preserved : goal.loop-at-preserved
loop-at-preserved c =
    let read : List Token = c.as_slice-read.result.now in
    let at : ℕ = c.loop-at.at in
    let n : ℕ = c.size.result in
    let t : Token = c.index-read-at.result in
    let us : List Token = drop (at + 1) read in
    let m : Context = c.loop-at.context in
    let some : 0 < n = c.size.ensures.some in
    let judged = judged_within read c.as_slice-widths.result.now at n m c.extension_of-word.result t c.loop-at-test.true (c.as_slice-widths.ensures ∙ c.in_ok-widths.ensures.directive_effect_at) c.extension_of-word.ensures c.size.ensures.value in
    let sized : n ≡ size m t us = judged.0 in
    let room : at + n ≤ length read = judged.1 in
    let held : List Token = take (at + n - (at + 1)) us in
    let put : c.put_kept.new.list ≡ c.loop-at.list ++ kept_as c.extension_of-word.result t held = c.in_ok-put_kept.ensures in
    let grew : c.put_kept.new.list ≡ c.loop-at.list ++ kept_of n t us =
    put ∙ ap (λ v. c.loop-at.list ++ kept_as v t held) c.extension_of-word.ensures ∙ ap (λ v. c.loop-at.list ++ kept_as (extension_of t) t v) (held_of at n us) in
    let short : at + n - at ≡ n = omega arith in
    let moved : c.advance-context.result ≡ advance m (take n (drop at read)) = c.advance-context.ensures.value ∙ ap (λ v. advance m (take v (drop at read))) short in
    let few = c.advance-context.ensures.few in
    let taken : length (take (at + n - at) (drop at read)) ≤ n = rw (length-take (at + n - at) (drop at read)) (omega arith) in
    let parts : drop at read ≡ t ∷ us = drop_more read at t c.loop-at-test.true ∙ ap (λ v. v ∷ us) (sym c.index-read-at.is) in
    record {
      within = room;
      depth = omega (arith, few, taken, c.loop-at.invariant.depth);
      keeps = keeps_on read c.loop-at.list c.put_kept.new.list m c.advance-context.result at n t us parts sized moved grew c.loop-at.invariant.keeps;
    }

pub returns-clause-kept : goal.returns-clause-kept
returns-clause-kept c =
    let read : List Token = c.as_slice-read.result.now in
    let over : drop c.loop-at.at read ≡ [] = drop_all c.loop-at.at read c.loop-at-test.false in
    let done : Keeps at_start read (c.loop-at.list ++ []) = c.loop-at.invariant.keeps [] (subst (λ v. Keeps c.loop-at.context v []) (sym over) (nothing c.loop-at.context)) in
    subst (λ v. Keeps at_start v c.loop-at.list) c.as_slice-read.ensures (subst (Keeps at_start read) (append-nil c.loop-at.list) done)

pub returns-clause-selected : goal.returns-clause-selected
returns-clause-selected c = selected at_start c.args.tokens.now.list c.loop-at.list (returns-clause-kept c)

pub returns-clause-few : goal.returns-clause-few
returns-clause-few c = fewer c.args.tokens.now.list c.loop-at.list (returns-clause-selected c)

pub returns-clause-placed : goal.returns-clause-placed
returns-clause-placed c h =
    let n : ℕ = length c.args.tokens.now.names in
    subst (λ v. All (λ t. t.file < length v) c.loop-at.list) (sym c.in_ok-names.ensures)
    (still_placed n c.args.tokens.now.list c.loop-at.list (returns-clause-selected c) h)
