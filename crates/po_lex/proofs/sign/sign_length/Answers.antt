use Rattle.std.proofs.Common.{◌≡◌, ◌<◌, ◌∷◌, ◌∙◌, length, get_or, sym, ap, drop, arith}
use Rattle.std.proofs.lemmas.List.{drop_more}
use Rattle.po_lex.specs.PartKinds.{longest, signs}
use Rattle.po_lex.proofs.sign.sign_length.Goals as goal

pub returns-then-is_lone-clause-value : goal.returns-then-is_lone-clause-value
returns-then-is_lone-clause-value c =
    let some : 0 < length c.args.bytes.now = omega arith in
    sym (ap (longest signs) (drop_more c.args.bytes.now 0 0 some) ∙ c.is_lone.ensures c.if-is_lone.true (drop 1 c.args.bytes.now))

pub returns-clause-value : goal.returns-clause-value
returns-clause-value c =
    let some : 0 < length c.args.bytes.now = omega arith in
    let parts : c.args.bytes.now ≡ get_or c.args.bytes.now 0 0 ∷ drop 1 c.args.bytes.now = drop_more c.args.bytes.now 0 0 some in
    c.longest-2.ensures.value ∙ ap (longest _) parts ∙ c.signs_with.ensures (drop 1 c.args.bytes.now) ∙ ap (longest signs) (sym parts)
