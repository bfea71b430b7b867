use Rattle.std.proofs.Common.{None, subst, ◌∙◌}
use Rattle.std.proofs.lemmas.Option.{none-some, same_Some}
use Rattle.bsc_node_run.specs.Worlds.{Same, ends, with_link, world_of}
use Rattle.bsc_node_run.proofs.Worlds.{ends_so, same_then}
use Rattle.bsc_node_run.proofs.link_set.LinkSet.take_out.Goals as goal
use Rattle.std.proofs.lemmas.Result.{on_err_weaker as on_err, on_ok_weaker as on_ok}

pub returns-in-Some-clause-over : goal.returns-in-Some-clause-over
returns-in-Some-clause-over g c = on_ok c.end.result
    (λ k l e d h. subst (λ m. Same (world_of c.end.new.self d h) (ends c.args.name m (world_of c.args.self.now d h))) (same_Some c.in-Some.link l (c.in-Some.ensures.old ∙ e))
    (ends_so (world_of c.args.self.now d h) (world_of c.replace.new.self d h) (world_of c.end.new.self d h) c.args.name c.in-Some.link (c.in-Some.ensures.new d h) (k d h)))
    c.end.ensures.over

pub returns-in-Some-clause-dropped : goal.returns-in-Some-clause-dropped
returns-in-Some-clause-dropped g c = on_err c.end.result
    (λ k d h. same_then (world_of c.end.new.self d h) (world_of c.replace.new.self d h) (with_link c.args.name None (world_of c.args.self.now d h)) (k d h) (c.in-Some.ensures.new d h))
    c.end.ensures.dropped

pub returns-in-None-clause-over : goal.returns-in-None-clause-over
returns-in-None-clause-over g c l e d h = absurd (none-some l (c.in-None.ensures.old ∙ e))
