use Rattle.std.proofs.Common.{rules, None}
use Rattle.bsc_replay.proofs.script.replay.Goals as goal

pub returns-clause-took : goal.returns-clause-took
returns-clause-took g c t held = c.play_lines.ensures.took None t (search rules) held
