use Rattle.std.proofs.Common.{◌≡◌, ◌<◌, length, get_or, arith, ap, subst, sym}
use Rattle.std.specs.Prelude.{slice_get, Some}
use Rattle.std.proofs.lemmas.Option.{slice_get_within, slice_get-get_or}
use Rattle.po_draft.specs.declared.registers.Kind.{Kind}
use Rattle.po_draft.specs.Kinds.{AreKept}
use Rattle.po_draft.proofs.Kept.{is_read, kept_used, used_set}
use Rattle.po_draft.proofs.registers.use_at.Goals as goal

pub returns-in_err-push-clause-kept : goal.returns-in_err-push-clause-kept
returns-in_err-push-clause-kept c = λ regs h. subst (λ z. AreKept regs z c.args.kinds.now.items) (sym c.in_err-push.ensures.err) h

pub index_mut-requires : goal.index_mut-requires
index_mut-requires c = let within = slice_get_within c.args.kinds.now.items c.args.k c.requires.0 c.requires.1 in omega (arith, within, c.args.kinds.now.ok)

pub overflow_add-used : goal.overflow_add-used
overflow_add-used c =
    let a = is_read c.args.kinds.now.items c.args.k c.index.result.now c.requires.0 c.requires.1 c.index.ensures in
    let b = is_read c.args.kinds.now.items c.args.k c.index-2.result.now c.requires.0 c.requires.1 c.index-2.ensures in
    omega (arith, ap (λ (z : Kind). z.used) a, ap (λ (z : Kind). length z.numbers) b, c.requires.2, ap length c.as_slice.ensures, c.as_slice.type_inv.0)

pub returns-clause-used : goal.returns-clause-used
returns-clause-used c =
    let a = is_read c.args.kinds.now.items c.args.k c.index.result.now c.requires.0 c.requires.1 c.index.ensures in
    let b = is_read c.args.kinds.now.items c.args.k c.index-2.result.now c.requires.0 c.requires.1 c.index-2.ensures in
    let within : c.index.result.now.used < length c.as_slice.result.now = omega (arith, ap (λ (z : Kind). z.used) a, ap (λ (z : Kind). length z.numbers) b, c.requires.2, ap length c.as_slice.ensures) in
    let number = get_or c.as_slice.result.now c.index.result.now.used 0 in
    used_set c.args.kinds.now.items c.args.k c.requires.0 c.index.result.now c.index-2.result.now c.index_mut.result.now _ _ number c.requires.1 c.index.ensures c.index-2.ensures c.index_mut.ensures.value
    (subst (λ ns. slice_get ns c.index.result.now.used ≡ Some number) c.as_slice.ensures (slice_get-get_or c.as_slice.result.now c.index.result.now.used 0 within)) c.in_ok-push.ensures.ok

pub returns-clause-kept : goal.returns-clause-kept
returns-clause-kept c = λ regs h. kept_used regs _ _ _ _ c.args.k _ (returns-clause-used c) h
