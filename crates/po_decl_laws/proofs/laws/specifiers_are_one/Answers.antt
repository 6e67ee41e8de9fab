use Rattle.po_decl_laws.proofs.One.{one_specs}
use Rattle.po_decl_laws.proofs.laws.specifiers_are_one.Goals as goal

pub returns : goal.returns
returns c = λ outer free types behind after seen now sort specs others left rest w v low high q e f.
    let s = one_specs w v low high left rest q e f in (s.specs_same, s.types_same, s.seen_same, s.left_same)
