-- What is so of a result, from what else is so of it.
-- It serves the clauses of `run_plan`.
use Rattle.std.proofs.Common.{Result, Ok, Err, IfOk}

pub ok_then : {T E : Type 0} (r : Result T E) (P Q : T → Type 0) → ((x : T) → P x → Q x) → IfOk r P → IfOk r Q
ok_then (Ok x) P Q step p = step x p
ok_then (Err e) P Q step p = tt
