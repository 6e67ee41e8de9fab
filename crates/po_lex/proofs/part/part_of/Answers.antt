use Rattle.std.proofs.Common.{◌≡◌, ◌∙◌, sym, ap, subst, drop, take, List, ℕ}
use Rattle.po_lex.specs.Bytes.{newlines}
use Rattle.po_lex.specs.Division.{NoneStands}
use Rattle.po_lex.proofs.Lines.{lines_so}
use Rattle.po_lex.proofs.Parts.{none_in_effect, none_ends}
use Rattle.po_lex.proofs.part.part_of.Goals as goal

pub returns-in-None-clause-none : goal.returns-in-None-clause-none
returns-in-None-clause-none c =
    subst (NoneStands c.args.fresh) c.rest_of-bytes.ensures
    (none_ends c.args.fresh c.rest_of-bytes.result.now c.part_kind_of-part_kind.result c.part_kind_of-part_kind.ensures c.in-None.ensures.none)

pub returns-in-None-2-clause-none : goal.returns-in-None-2-clause-none
returns-in-None-2-clause-none c =
    let bytes : List ℕ = c.rest_of-bytes.result.now in
    let file : List ℕ = drop c.args.at c.args.file.now in
    let whole : bytes ≡ file = c.rest_of-bytes.ensures in
    none_in_effect c.args.fresh file c.part_kind_of-part_kind.result c.in-Some.end (rw (sym whole) c.part_kind_of-part_kind.ensures) (rw (sym whole) c.in-Some.ensures.ended) (rw c.in-None-2.is at c.in_ok-effect.ensures.none)

pub returns-in-Some-2-clause-lines : goal.returns-in-Some-2-clause-lines
returns-in-Some-2-clause-lines c =
    c.lines.ensures ∙ lines_so c.part_kind_of-part_kind.result c.rest_of-bytes.result.now c.in-Some.end c.part_kind_of-part_kind.ensures c.in-Some.ensures.begun.1 c.in-Some.ensures.ended ∙
    ap (λ v. newlines (take c.in-Some.end v)) c.rest_of-bytes.ensures
