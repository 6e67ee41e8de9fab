-- What follows from what is known of an answer.
use Rattle.std.specs.Prelude.{Result, Ok, Err, IfOk, OnOk, OnErr}

pub if_ok-map : {T E : Type 0} {P Q : T → Type 0} (r : Result T E) → ((x : T) → P x → Q x) → IfOk r P → IfOk r Q
if_ok-map (Ok x) f h = f x h
if_ok-map (Err e) f h = tt

pub on_ok-map : {T E : Type 0} {P Q : Type 0} (r : Result T E) → (P → Q) → OnOk r P → OnOk r Q
on_ok-map (Ok x) f h = f h
on_ok-map (Err e) f h = tt

-- what holds anyway holds after an error
pub on_err-always : {T E : Type 0} (r : Result T E) {Q : Type 0} → Q → OnErr r Q
on_err-always (Ok x) h = tt
on_err-always (Err e) h = h
