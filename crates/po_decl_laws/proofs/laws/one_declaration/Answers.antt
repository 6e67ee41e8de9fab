use Rattle.po_decl_laws.proofs.OneDeclaration.{one_declared, one_declaration}
use Rattle.po_decl_laws.proofs.laws.one_declaration.Goals as goal

pub returns-clause-at_the_front : goal.returns-clause-at_the_front
returns-clause-at_the_front c = λ types behind after d e left rest w v low high q.
    let s = one_declared w v low high left rest q in (s.trees_same, s.types_same, s.left_same)

pub returns-clause-whole : goal.returns-clause-whole
returns-clause-whole c = one_declaration
