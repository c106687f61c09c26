-- What holds after a call that may have failed.
use Rattle.std.specs.Prelude.{Err, Ok, OnErr, Result}

-- what holds anyway holds after an error
pub on_err : {T E P : Type 0} (r : Result T E) → P → OnErr r P
on_err (Ok x) p = tt
on_err (Err e) p = p

-- what follows from what holds after an error
pub after_err : {T E P Q : Type 0} (r : Result T E) → (P → Q) → OnErr r P → OnErr r Q
after_err (Ok x) f p = tt
after_err (Err e) f p = f p
