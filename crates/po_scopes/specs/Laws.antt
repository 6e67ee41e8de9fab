-- What an environment shows is what is in force in its file.
use Rattle.std.specs.Prelude.{[]}
use Rattle.po_types.specs.declared.env.Env.{Env}
use Rattle.po_typed.specs.Declarations.{File}
use Rattle.po_typed.specs.Environments.{Shows}
use Rattle.po_scopes.specs.Standing.{in_force}

-- the file that an environment is of
abbrev pub file_of : Env → File
file_of env = record { context = in_force env []; objects = env.objects; initialised = env.initialised }

abbrev pub EnvironmentShowsWhatIsInForce : Type 0
EnvironmentShowsWhatIsInForce = (env : Env) → Shows env (file_of env)
