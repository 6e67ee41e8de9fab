use Rattle.po_heads.proofs.HavingDeclarations.{piece_has, function_has}
use Rattle.po_heads.proofs.laws.expressions_have_heads.Goals as goal

pub returns-clause-declarations : goal.returns-clause-declarations
returns-clause-declarations c = λ types behind d h. (piece_has h).all

pub returns-clause-definitions : goal.returns-clause-definitions
returns-clause-definitions c = λ types g h. (function_has h).all
