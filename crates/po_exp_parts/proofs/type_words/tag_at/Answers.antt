use Rattle.std.proofs.Common.{◌∙◌, sym}
use Rattle.std.proofs.lemmas.Slice.Eq.{bytes_eq-Decides}
use Rattle.po_tree.specs.Signs.{word}
use Rattle.po_exp_parts.specs.OneSpecifier.{struct_tag, enum_tag}
use Rattle.po_exp_parts.proofs.Standing.{stands_first}
use Rattle.po_exp_parts.proofs.TypeWordsRead.{no_tag_behind}
use Rattle.po_exp_parts.proofs.type_words.tag_at.Goals as goal

pub returns-in_default-clause-none : goal.returns-in_default-clause-none
returns-in_default-clause-none c = λ spec left w. no_tag_behind c.in_default.ensures w

pub returns-then-eq-clause-found : goal.returns-then-eq-clause-found
returns-then-eq-clause-found c =
    let here = stands_first c.args.at c.args.tokens.now (word c.in-Some.tag.now) c.in-Some.ensures.1 in
    let same = (bytes_eq-Decides c.bytes.result.now c.as_slice.result.now).0 (sym c.eq.ensures ∙ c.if-eq.true) in
    rw c.in_ok-share.ensures (struct_tag c.in-Some.tag.now _ (sym c.bytes.ensures ∙ same ∙ c.as_slice.ensures) c.in-Some.ensures.0 here)

pub returns-then-eq-2-clause-found : goal.returns-then-eq-2-clause-found
returns-then-eq-2-clause-found c =
    let here = stands_first c.args.at c.args.tokens.now (word c.in-Some.tag.now) c.in-Some.ensures.1 in
    let same = (bytes_eq-Decides c.bytes-2.result.now c.as_slice-2.result.now).0 (sym c.eq-2.ensures ∙ c.if-eq-2.true) in
    rw c.in_ok-share-2.ensures (enum_tag c.in-Some.tag.now _ (sym c.bytes-2.ensures ∙ same ∙ c.as_slice-2.ensures) c.in-Some.ensures.0 here)
