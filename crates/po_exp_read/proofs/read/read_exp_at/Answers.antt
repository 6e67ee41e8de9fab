use Rattle.std.proofs.Common.{◌≡◌, ◌∙◌, subst, take, drop, map, length, refl}
use Rattle.std.specs.Prelude.{min}
use Rattle.po_tree.specs.Signs.{sign_of}
use Rattle.po_exp_read.specs.Longest.{IsLongestAt, NothingStandsAt}
use Rattle.std.proofs.lemmas.List.{take_min}
use Rattle.po_exp_read.proofs.Longest.{is_longest_at, nothing_stands_at}
use Rattle.po_exp_read.proofs.read.read_exp_at.Goals as goal

pub returns-in-Some-clause-found : goal.returns-in-Some-clause-found
returns-in-Some-clause-found c =
    let f = rw c.in-Some.is at c.in_ok-found.ensures in
    let ends : take c.min-end.result c.as_slice-all.result.now ≡ take (min c.args.to (length c.args.tokens.now.list)) c.args.tokens.now.list = rw (c.min-end.ensures, c.as_slice-all.ensures) refl in
    let same = ends ∙ take_min c.args.to c.args.tokens.now.list in
    subst (λ l. IsLongestAt l c.args.names.now.typedefs (map sign_of (drop c.args.from (take c.args.to c.args.tokens.now.list))) c.in-Some.found.value (map sign_of (drop c.in-Some.found.end (take c.args.to c.args.tokens.now.list)))) c.least_of-least.ensures.value
    (subst (λ ts. IsLongestAt c.least_of-least.result c.args.names.now.typedefs (map sign_of (drop c.args.from ts)) c.in-Some.found.value (map sign_of (drop c.in-Some.found.end ts))) same (is_longest_at f.best))

pub returns-in-None-clause-none : goal.returns-in-None-clause-none
returns-in-None-clause-none c =
    let ends : take c.min-end.result c.as_slice-all.result.now ≡ take (min c.args.to (length c.args.tokens.now.list)) c.args.tokens.now.list = rw (c.min-end.ensures, c.as_slice-all.ensures) refl in
    let same = ends ∙ take_min c.args.to c.args.tokens.now.list in
    subst (λ l. NothingStandsAt l c.args.names.now.typedefs (map sign_of (drop c.args.from (take c.args.to c.args.tokens.now.list)))) c.least_of-least.ensures.value
    (subst (λ ts. NothingStandsAt c.least_of-least.result c.args.names.now.typedefs (map sign_of (drop c.args.from ts))) same (nothing_stands_at (rw c.in-None.is at c.in_ok-found.ensures)))
