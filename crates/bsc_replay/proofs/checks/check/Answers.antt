use Rattle.std.proofs.Common.{refl}
use Rattle.bsc_player.proofs.NeverAtEnd.{accepts_all}
use Rattle.bsc_replay.specs.Checks.{checking}
use Rattle.bsc_replay.proofs.checks.check.Goals as goal

pub returns-clause-accepts : goal.returns-clause-accepts
returns-clause-accepts g c o accepts = accepts_all checking tt (λ s. refl) o accepts

pub returns-clause-took : goal.returns-clause-took
returns-clause-took g c t held = c.play_lines.ensures.took tt t tt held
