-- To which port an acceptor is bound.
-- It serves the clauses of `live_made` and `run_made`.
use Rattle.std.proofs.Common.{ℕ, Option, Some, None, ◌∙◌}
use Rattle.bsc_edge.specs.Told.{Stays, ToldIs}
use Rattle.bsc_edge.proofs.Common.{stays_then}
use Rattle.bsc_node_command.specs.Comes.{IsBoundBy}

told_still : (p p' : Option (Option ℕ)) (port : Option ℕ) → ToldIs p port → Stays p p' → ToldIs p' port
told_still p None port t s = tt
told_still None (Some x) port t s = absurd s
told_still (Some y) (Some x) port t s = s ∙ t

pub bound_still : (port : Option ℕ) (p q r : Option (Option ℕ)) → IsBoundBy port p q → Stays q r → IsBoundBy port p r
bound_still None p q r bound stays = stays_then p q r bound stays
bound_still (Some port) p q r bound stays = told_still q r (Some port) bound stays
