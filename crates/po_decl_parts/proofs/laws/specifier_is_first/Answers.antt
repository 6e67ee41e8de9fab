use Rattle.po_decl_parts.proofs.PrintedSpecifiers.{specifier_printed, specifier_complete}
use Rattle.po_decl_parts.proofs.FirstWords.{stands_one}
use Rattle.po_decl_parts.proofs.laws.specifier_is_first.Goals as goal

pub returns-clause-printed : goal.returns-clause-printed
returns-clause-printed c = specifier_printed

pub returns-clause-reads : goal.returns-clause-reads
returns-clause-reads c = λ outer free types last seen sort signs left spec rest w low q none no. specifier_complete left w low q none no

pub returns-clause-one : goal.returns-clause-one
returns-clause-one c = λ outer free types seen signs spec other still yet behind after now sort left rest w v.
    let p = stands_one w v in (p.spec_same, p.free_same, p.types_same, p.seen_same, p.left_same)
