use Rattle.bsc_serve.proofs.turning_away.drop_link.Goals as goal

pub returns : goal.returns
returns g c = record { left = c.turn_away.new.link; closed = c.turn_away.ensures }
