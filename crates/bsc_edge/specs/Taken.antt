-- The jobs that a spawner in memory took.
use Rattle.std.specs.Prelude.{List, map, Option, Some, None}
use Rattle.std.specs.declared.snapshot.Snapshot.{Snapshot}

-- the jobs of which these are the snapshots, where they are told
abbrev pub taken_jobs : {J : Type 0} → Option (List (Snapshot J)) → Option (List J)
taken_jobs None = None
taken_jobs (Some was) = Some (map (λ s. s.value) was)
