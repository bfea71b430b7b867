use Rattle.std.proofs.Common.{List, ℕ, inl, subst, ◌∙◌}
use Rattle.bsc_player.specs.LastLines.{EndsWith}
use Rattle.bsc_hub_command.proofs.command.refuse.Goals as goal

pub returns-in-Ok-clause-says : goal.returns-in-Ok-clause-says
returns-in-Ok-clause-says g c =
    inl (subst (λ (t : List ℕ). EndsWith c.end_with.result 5 (g.K.Sink.held c.args.sink.now) (g.K.Sink.held c.end_with.new.sink) t)
    (c.as_slice.ensures.value ∙ c.in-Ok.ensures) c.end_with.ensures.ends)
