use Rattle.po_decl_laws.proofs.One.{one_declarator, one_parameter}
use Rattle.po_decl_laws.proofs.laws.declarators_are_one.Goals as goal

pub returns-clause-declarators : goal.returns-clause-declarators
returns-clause-declarators c = λ types behind after seen name other d e left rest w v low high q f g.
    let s = one_declarator w v low high left rest q f g in (s.trees_same, s.types_same, s.left_same)

pub returns-clause-parameters : goal.returns-clause-parameters
returns-clause-parameters c = λ types behind after seen d e left rest w v low high q f g.
    let s = one_parameter w v low high left rest q f g in (s.trees_same, s.types_same, s.left_same)
