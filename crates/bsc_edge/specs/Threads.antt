-- Jobs in threads of their own.
use Rattle.std.specs.Prelude.{◌≡◌, Result, Ok, Err}
use Rattle.bsc_edge.specs.declared.promised.Promised.{Promised}
use Rattle.bsc_edge.specs.declared.running.Running.{Running}
use Rattle.bsc_edge.specs.declared.unstarted.Unstarted.{Unstarted}
use Rattle.bsc_edge.specs.Told.{ComesBack}

-- the job that a thread was started for
abbrev pub job_of : {J T : Type 0} → Running T (Promised J) → J
job_of r = r.thread.promise.job.value

-- A thread was started for this job, or the job comes back as it was.
abbrev pub Begins : {J T : Type 0} → (T → J) → Result T (Unstarted J) → J → Type 0
Begins job (Ok thread) given = job thread ≡ given
Begins job (Err unstarted) given = ComesBack unstarted given
