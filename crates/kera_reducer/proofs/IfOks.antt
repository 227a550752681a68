-- What is said of an answer, if it has a value.
use Rattle.std.proofs.Common.{Result, Ok, Err, IfOk, OnOk}

pub ok_by : {X E : Type 0} (P Q : X → Type 0) (r : Result X E) → IfOk r P → ((x : X) → P x → Q x) → IfOk r Q
ok_by P Q (Ok x) h f = f x h
ok_by P Q (Err e) h f = tt

pub on_ok_by : {X E : Type 0} (P Q : Type 0) (r : Result X E) → OnOk r P → (P → Q) → OnOk r Q
on_ok_by P Q (Ok x) h f = f h
on_ok_by P Q (Err e) h f = tt
