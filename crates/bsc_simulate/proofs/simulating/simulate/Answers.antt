use Rattle.std.proofs.Common.{List, ℕ, ◌++◌, Some}
use Rattle.std.specs.List.{concat}
use Rattle.bsc_network_script_laws.proofs.Telling.{writes_what_was_sent}
use Rattle.bsc_simulate.proofs.simulating.simulate.Goals as goal

pub returns-clause-delivers : goal.returns-clause-delivers
returns-clause-delivers g c o t left held =
    writes_what_was_sent o t (g.S.Source.left c.play_network.new.source) (g.K.Sink.held c.play_network.new.sink) c.play_network.result
    (c.play_network.ensures.simulated o t left held)

pub returns-clause-took_delivers : goal.returns-clause-took_delivers
returns-clause-took_delivers g c t held =
    let took = c.play_network.ensures.took t held in (
      took.0,
      took.1,
      λ rest may. writes_what_was_sent (concat took.0 ++ rest) t (Some rest) (g.K.Sink.held c.play_network.new.sink) c.play_network.result (took.2 rest may),
    )
