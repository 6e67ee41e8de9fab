use Rattle.std.proofs.Common.{◌≡◌, ◌∙◌, subst, take, drop, map, length, refl}
use Rattle.std.specs.Prelude.{min}
use Rattle.std.proofs.lemmas.List.{take_min}
use Rattle.po_tree.specs.Signs.{sign_of}
use Rattle.po_exp_parts.specs.Stars.{StarsRead}
use Rattle.po_decl_parts.proofs.stars.stars_at.Goals as goal

pub returns-clause-found : goal.returns-clause-found
returns-clause-found c =
    let ends : take c.min-last.result c.as_slice-all.result.now ≡ take (min c.args.to (length c.args.tokens.now.list)) c.args.tokens.now.list = rw (c.min-last.ensures, c.as_slice-all.ensures) refl in
    let same = ends ∙ take_min c.args.to c.args.tokens.now.list in
    subst (λ ts. StarsRead (map sign_of (drop c.args.at ts)) c.in_ok-stars.stars (map sign_of (drop c.in_ok-stars.end ts))) same c.in_ok-stars.ensures.found
