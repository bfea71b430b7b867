use Rattle.std.proofs.Common.{rules}
use Rattle.bsc_network_script.specs.Scripts.{nothing_yet, simulation}
use Rattle.bsc_player.proofs.Reading.{reading_none}
use Rattle.bsc_simulate.proofs.simulating.play_network.Goals as goal

pub returns-in-Err-clause-took : goal.returns-in-Err-clause-took
returns-in-Err-clause-took g c t held = reading_none simulation (g.S.Source.reads c.args.source.now) (g.K.Sink.held c.args.sink.now) nothing_yet t held

pub returns-in-Ok-clause-took : goal.returns-in-Ok-clause-took
returns-in-Ok-clause-took g c t held = c.play_lines.ensures.took nothing_yet t (search rules) held
