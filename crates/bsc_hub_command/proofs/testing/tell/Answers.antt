use Rattle.std.proofs.Common.{List, ℕ, ap, inl, subst, ◌∙◌}
use Rattle.bsc_player.specs.LastLines.{EndsWith}
use Rattle.bsc_settings.specs.Documents.{IsDocument}
use Rattle.bsc_settings_told.specs.Told.{hub_told}
use Rattle.bsc_hub_command.proofs.testing.tell.Goals as goal

pub returns-in-Ok-clause-says : goal.returns-in-Ok-clause-says
returns-in-Ok-clause-says g c s =
    let document = subst (λ (o : List ℕ). IsDocument o s.doc) s.held s.document in
    let told = c.as_slice.ensures.value ∙ c.in-Ok.ensures s.doc s.settings document s.said ∙ ap (hub_told c.args.settled.now.hub) s.guarded in
    inl (subst (λ (t : List ℕ). EndsWith c.end_with.result 0 (g.K.Sink.held c.args.sink.now) (g.K.Sink.held c.end_with.new.sink) t) told c.end_with.ensures.ends)
