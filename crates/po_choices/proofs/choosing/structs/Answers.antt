use Rattle.std.proofs.Common.{refl}
use Rattle.po_choices.proofs.ChoicesOfTypes.{same_structs}
use Rattle.po_choices.proofs.choosing.structs.Goals as goal

pub returns : goal.returns
returns c = λ scope y z. same_structs scope y z c.args.m c.args.n _ c.if-m-n.false refl
