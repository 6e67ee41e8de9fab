-- The environment of a file before its first piece.
use Rattle.std.specs.Prelude.{[]}
use Rattle.po_arith.specs.declared.target.Target.{Target}
use Rattle.po_types.specs.declared.env.Env.{Env}

-- nothing is declared
abbrev pub no_declarations : Target → Env
no_declarations target = record {
  target = target;
  globals = [];
  objects = 0;
  texts = 0;
  structs = [];
  members = [];
  tags = [];
  typedefs = [];
  constants = [];
  names = [];
  enums = [];
  initialised = [];
}
