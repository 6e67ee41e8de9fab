use Rattle.po_decl_steps.proofs.AtDeclarators.{word_wrong, missing_wrong, sizes_wrong}
use Rattle.po_decl_steps.proofs.laws.nothing_else_is_a_declarator.Goals as goal

pub returns-clause-words : goal.returns-clause-words
returns-clause-words c = λ below l outers types stars text signs left rest y q none p. word_wrong below l outers rest y q none p

pub returns-clause-missing : goal.returns-clause-missing
returns-clause-missing c = λ below l outers types stars signs rest y none h p. missing_wrong below l outers rest y none h p

pub returns-clause-sizes : goal.returns-clause-sizes
returns-clause-sizes c = λ below l outers types stars name signs rest y none wrong p. sizes_wrong below l outers rest y none wrong p
