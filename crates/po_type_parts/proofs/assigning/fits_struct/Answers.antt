use Rattle.std.proofs.lemmas.Bool.Decides.{Decides-eqb}
use Rattle.std.specs.Prelude.{◌==◌}
use Rattle.po_choices.proofs.Whether.{whether_true}
use Rattle.po_type_parts.proofs.AssignedTypes.{same_struct, struct_from_same}
use Rattle.po_type_parts.proofs.assigning.fits_struct.Goals as goal

pub returns-in-Struct : goal.returns-in-Struct
returns-in-Struct c = λ scope x. whether_true (c.in-Struct.m == c.args.n) (Decides-eqb c.in-Struct.m c.args.n) (same_struct scope x c.args.v.now c.args.n c.in-Struct.m c.in-Struct.is) (struct_from_same scope x c.args.v.now c.args.n c.in-Struct.m c.in-Struct.is)
