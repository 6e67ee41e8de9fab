-- Facts of an Ok.
use Rattle.std.specs.Prelude.{Result, Ok, Err, IfOk}

pub if_ok-map : {T E : Type 0} {P Q : T → Type 0} (r : Result T E) → ((x : T) → P x → Q x) → IfOk r P → IfOk r Q
if_ok-map (Ok x) f h = f x h
if_ok-map (Err e) f h = tt
