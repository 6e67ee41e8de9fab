use Rattle.std.proofs.Common.{arith, rules}
use Rattle.po_tree.proofs.Thin.{thin_members, thin_params, body_size}
use Rattle.po_tree.proofs.Steps.{fits_along}
use Rattle.po_tree.proofs.+dropping.Goals as goal

pub dropping::drop_members-loop-next-init : goal.dropping::drop_members-loop-next-init
dropping::drop_members-loop-next-init t c = thin_members c.args.members

pub dropping::drop_members-drop-requires : goal.dropping::drop_members-drop-requires
dropping::drop_members-drop-requires t c κs =
    let fits = fits_along _ _ _ c.in-Specifier.is (c.in-Next.ensures.thin _ c.loop-next.invariant).1 in
    let d = c.decreases in
    let e = fits in (((omega (arith, d, e), tt), tt), search rules)

pub dropping::drop_members-drop-requires-in-Suffix : goal.dropping::drop_members-drop-requires-in-Suffix
dropping::drop_members-drop-requires-in-Suffix t c κs =
    let fits = fits_along _ _ _ c.in-Suffix.is (c.in-Next.ensures.thin _ c.loop-next.invariant).1 in
    let d = c.decreases in
    let e = fits in (((omega (arith, d, e), tt), tt), search rules)

pub dropping::drop_members-drop-requires-in-Member : goal.dropping::drop_members-drop-requires-in-Member
dropping::drop_members-drop-requires-in-Member t c κs =
    let fits = fits_along _ _ _ c.in-Member.is (c.in-Next.ensures.thin _ c.loop-next.invariant).1 in
    let d = c.decreases in
    (((rw fits.0 (omega (arith, d)), tt), tt), search rules)

pub dropping::drop_members-drop-requires-in-Member-2 : goal.dropping::drop_members-drop-requires-in-Member-2
dropping::drop_members-drop-requires-in-Member-2 t c κs =
    let fits = fits_along _ _ _ c.in-Member.is (c.in-Next.ensures.thin _ c.loop-next.invariant).1 in
    let d = c.decreases in
    (((rw fits.1 (omega (arith, d)), tt), tt), search rules)

pub dropping::drop_members-drop-requires-in-Param : goal.dropping::drop_members-drop-requires-in-Param
dropping::drop_members-drop-requires-in-Param t c κs =
    let fits = fits_along _ _ _ c.in-Param.is (c.in-Next.ensures.thin _ c.loop-next.invariant).1 in
    let d = c.decreases in
    (((rw fits.0 (omega (arith, d)), tt), tt), search rules)

pub dropping::drop_members-drop-requires-in-Param-2 : goal.dropping::drop_members-drop-requires-in-Param-2
dropping::drop_members-drop-requires-in-Param-2 t c κs =
    let fits = fits_along _ _ _ c.in-Param.is (c.in-Next.ensures.thin _ c.loop-next.invariant).1 in
    let d = c.decreases in
    let e = fits.1 in (((omega (arith, d, e), tt), tt), search rules)

pub dropping::drop_members-drop-requires-in-Members : goal.dropping::drop_members-drop-requires-in-Members
dropping::drop_members-drop-requires-in-Members t c κs =
    let fits = fits_along _ _ _ c.in-Members.is (c.in-Next.ensures.thin _ c.loop-next.invariant).1 in
    let d = c.decreases in
    (((rw fits (omega (arith, d)), tt), tt), search rules)

pub dropping::drop_members-drop-requires-in-Params : goal.dropping::drop_members-drop-requires-in-Params
dropping::drop_members-drop-requires-in-Params t c κs =
    let fits = fits_along _ _ _ c.in-Params.is (c.in-Next.ensures.thin _ c.loop-next.invariant).1 in
    let d = c.decreases in
    (((rw fits (omega (arith, d)), tt), tt), search rules)

pub dropping::drop_members-loop-next-preserved-in-Nothing : goal.dropping::drop_members-loop-next-preserved-in-Nothing
dropping::drop_members-loop-next-preserved-in-Nothing t c = (c.in-Next.ensures.thin _ c.loop-next.invariant).0

pub dropping::drop_members-loop-next-preserved-in-Specifier : goal.dropping::drop_members-loop-next-preserved-in-Specifier
dropping::drop_members-loop-next-preserved-in-Specifier t c = (c.in-Next.ensures.thin _ c.loop-next.invariant).0

pub dropping::drop_members-loop-next-preserved-in-Suffix : goal.dropping::drop_members-loop-next-preserved-in-Suffix
dropping::drop_members-loop-next-preserved-in-Suffix t c = (c.in-Next.ensures.thin _ c.loop-next.invariant).0

pub dropping::drop_members-loop-next-preserved-in-Member : goal.dropping::drop_members-loop-next-preserved-in-Member
dropping::drop_members-loop-next-preserved-in-Member t c = (c.in-Next.ensures.thin _ c.loop-next.invariant).0

pub dropping::drop_members-loop-next-preserved-in-Param : goal.dropping::drop_members-loop-next-preserved-in-Param
dropping::drop_members-loop-next-preserved-in-Param t c = (c.in-Next.ensures.thin _ c.loop-next.invariant).0

pub dropping::drop_members-loop-next-preserved-in-Members : goal.dropping::drop_members-loop-next-preserved-in-Members
dropping::drop_members-loop-next-preserved-in-Members t c = (c.in-Next.ensures.thin _ c.loop-next.invariant).0

pub dropping::drop_members-loop-next-preserved : goal.dropping::drop_members-loop-next-preserved
dropping::drop_members-loop-next-preserved t c = (c.in-Next.ensures.thin _ c.loop-next.invariant).0

pub dropping::drop_params-loop-next-init : goal.dropping::drop_params-loop-next-init
dropping::drop_params-loop-next-init t c = thin_params c.args.params

pub dropping::drop_params-drop-requires : goal.dropping::drop_params-drop-requires
dropping::drop_params-drop-requires t c κs =
    let fits = fits_along _ _ _ c.in-Specifier.is (c.in-Next.ensures.thin _ c.loop-next.invariant).1 in
    let d = c.decreases in
    let e = fits in (((omega (arith, d, e), tt), tt), search rules)

pub dropping::drop_params-drop-requires-in-Suffix : goal.dropping::drop_params-drop-requires-in-Suffix
dropping::drop_params-drop-requires-in-Suffix t c κs =
    let fits = fits_along _ _ _ c.in-Suffix.is (c.in-Next.ensures.thin _ c.loop-next.invariant).1 in
    let d = c.decreases in
    let e = fits in (((omega (arith, d, e), tt), tt), search rules)

pub dropping::drop_params-drop-requires-in-Member : goal.dropping::drop_params-drop-requires-in-Member
dropping::drop_params-drop-requires-in-Member t c κs =
    let fits = fits_along _ _ _ c.in-Member.is (c.in-Next.ensures.thin _ c.loop-next.invariant).1 in
    let d = c.decreases in
    (((rw fits.0 (omega (arith, d)), tt), tt), search rules)

pub dropping::drop_params-drop-requires-in-Member-2 : goal.dropping::drop_params-drop-requires-in-Member-2
dropping::drop_params-drop-requires-in-Member-2 t c κs =
    let fits = fits_along _ _ _ c.in-Member.is (c.in-Next.ensures.thin _ c.loop-next.invariant).1 in
    let d = c.decreases in
    (((rw fits.1 (omega (arith, d)), tt), tt), search rules)

pub dropping::drop_params-drop-requires-in-Param : goal.dropping::drop_params-drop-requires-in-Param
dropping::drop_params-drop-requires-in-Param t c κs =
    let fits = fits_along _ _ _ c.in-Param.is (c.in-Next.ensures.thin _ c.loop-next.invariant).1 in
    let d = c.decreases in
    (((rw fits.0 (omega (arith, d)), tt), tt), search rules)

pub dropping::drop_params-drop-requires-in-Param-2 : goal.dropping::drop_params-drop-requires-in-Param-2
dropping::drop_params-drop-requires-in-Param-2 t c κs =
    let fits = fits_along _ _ _ c.in-Param.is (c.in-Next.ensures.thin _ c.loop-next.invariant).1 in
    let d = c.decreases in
    let e = fits.1 in (((omega (arith, d, e), tt), tt), search rules)

pub dropping::drop_params-drop-requires-in-Members : goal.dropping::drop_params-drop-requires-in-Members
dropping::drop_params-drop-requires-in-Members t c κs =
    let fits = fits_along _ _ _ c.in-Members.is (c.in-Next.ensures.thin _ c.loop-next.invariant).1 in
    let d = c.decreases in
    (((rw fits (omega (arith, d)), tt), tt), search rules)

pub dropping::drop_params-drop-requires-in-Params : goal.dropping::drop_params-drop-requires-in-Params
dropping::drop_params-drop-requires-in-Params t c κs =
    let fits = fits_along _ _ _ c.in-Params.is (c.in-Next.ensures.thin _ c.loop-next.invariant).1 in
    let d = c.decreases in
    (((rw fits (omega (arith, d)), tt), tt), search rules)

pub dropping::drop_params-loop-next-preserved-in-Nothing : goal.dropping::drop_params-loop-next-preserved-in-Nothing
dropping::drop_params-loop-next-preserved-in-Nothing t c = (c.in-Next.ensures.thin _ c.loop-next.invariant).0

pub dropping::drop_params-loop-next-preserved-in-Specifier : goal.dropping::drop_params-loop-next-preserved-in-Specifier
dropping::drop_params-loop-next-preserved-in-Specifier t c = (c.in-Next.ensures.thin _ c.loop-next.invariant).0

pub dropping::drop_params-loop-next-preserved-in-Suffix : goal.dropping::drop_params-loop-next-preserved-in-Suffix
dropping::drop_params-loop-next-preserved-in-Suffix t c = (c.in-Next.ensures.thin _ c.loop-next.invariant).0

pub dropping::drop_params-loop-next-preserved-in-Member : goal.dropping::drop_params-loop-next-preserved-in-Member
dropping::drop_params-loop-next-preserved-in-Member t c = (c.in-Next.ensures.thin _ c.loop-next.invariant).0

pub dropping::drop_params-loop-next-preserved-in-Param : goal.dropping::drop_params-loop-next-preserved-in-Param
dropping::drop_params-loop-next-preserved-in-Param t c = (c.in-Next.ensures.thin _ c.loop-next.invariant).0

pub dropping::drop_params-loop-next-preserved-in-Members : goal.dropping::drop_params-loop-next-preserved-in-Members
dropping::drop_params-loop-next-preserved-in-Members t c = (c.in-Next.ensures.thin _ c.loop-next.invariant).0

pub dropping::drop_params-loop-next-preserved : goal.dropping::drop_params-loop-next-preserved
dropping::drop_params-loop-next-preserved t c = (c.in-Next.ensures.thin _ c.loop-next.invariant).0

pub dropping::drop_specifiers-drop_members-requires : goal.dropping::drop_specifiers-drop_members-requires
dropping::drop_specifiers-drop_members-requires t c =
    let d = c.decreases in
    let i = c.loop-rest.invariant in
    let size = body_size _ _ _ c.in-Body._tag c.in-Body.members (rw c.in-Some.is at c.take_last-rest.ensures) c.in-Body.ensures in
    (omega (arith, d, i, size), tt)
