use Rattle.po_decl_steps.proofs.BehindDeclarators.{declared_alike}
use Rattle.po_decl_steps.proofs.laws.a_word_is_in_force_behind_its_declarator.Goals as goal

pub returns : goal.returns
returns c = λ below outers types specs free typedef now parts item name signs q. declared_alike below outers free now q
