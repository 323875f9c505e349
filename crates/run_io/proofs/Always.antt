-- What holds anyway holds after each answer.
use Rattle.std.proofs.Common.{Result, Ok, Err, IfOk, OnErr, OnOk}

pub after_ok : {T E : Type 0} (result : Result T E) (P : T → Type 0) → ((value : T) → P value) → IfOk result P
after_ok (Ok value) P always = always value
after_ok (Err fault) P always = tt

pub after_err : {T E : Type 0} (result : Result T E) (P : Type 0) → P → OnErr result P
after_err (Ok value) P always = tt
after_err (Err fault) P always = always

pub on_ok : {T E : Type 0} (result : Result T E) (P : Type 0) → P → OnOk result P
on_ok (Ok value) P always = always
on_ok (Err fault) P always = tt
