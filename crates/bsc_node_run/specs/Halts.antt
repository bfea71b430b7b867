-- What is said of the counts of faults where something halts.
use Rattle.std.specs.Prelude.{◌≡◌, ◌≢◌, ◌≤◌, ℕ, Result, Err}
use Rattle.bsc_outside.specs.Faults.{HasRisen}
use Rattle.bsc_node_run.specs.declared.halt.Halt.{Halt}
use Rattle.bsc_node_run.specs.declared.halt.Halt.TheVariants.{WriteFault, AcceptFault}

-- That a write failed is answered only where the sink's count of faults rose.
abbrev pub RisesOnWriteFault : {A : Type 0} → Result A Halt → ℕ → ℕ → Type 0
RisesOnWriteFault result before after = result ≡ Err WriteFault → HasRisen before after

-- That the acceptor failed is answered only where its count of faults rose.
abbrev pub RisesOnAcceptFault : {A : Type 0} → Result A Halt → ℕ → ℕ → Type 0
RisesOnAcceptFault result before after = result ≡ Err AcceptFault → HasRisen before after

-- That it halted by this fault is answered only where this count of faults rose, and the count doesn't fall.
abbrev pub Counts : {A : Type 0} → Halt → Result A Halt → ℕ → ℕ → Type 0
Counts fault result before after = (result ≡ Err fault → HasRisen before after) × (before ≤ after)

-- So it is with writes, and that the acceptor failed isn't answered.
abbrev pub CountsWrites : {A : Type 0} → Result A Halt → ℕ → ℕ → Type 0
CountsWrites result before after = Counts WriteFault result before after × (result ≢ Err AcceptFault)
