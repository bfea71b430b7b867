-- What the thread of a job gives.
use Rattle.std.specs.Prelude.{◌≡◌, Result, Ok, Err}

-- What may be left of the job; or the job, where it wasn't begun.
abbrev pub Keeps : {J D : Type 0} → (J → D → Type 0) → J → Result D J → Type 0
Keeps works job (Ok done) = works job done
Keeps works job (Err back) = back ≡ job
