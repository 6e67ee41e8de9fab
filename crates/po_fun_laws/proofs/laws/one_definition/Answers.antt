use Rattle.po_fun_laws.proofs.OneDefinition as definition
use Rattle.po_fun_laws.proofs.laws.one_definition.Goals as goal

pub returns-clause-at_the_front : goal.returns-clause-at_the_front
returns-clause-at_the_front c = λ types g h left rest w v low high q.
    let r = definition.one_function w v low high left rest q in (r.specs_same, r.declarator_same, r.body_same, r.left_same)

pub returns-clause-whole : goal.returns-clause-whole
returns-clause-whole c = definition.one_definition
