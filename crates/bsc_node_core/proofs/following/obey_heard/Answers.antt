use Rattle.std.proofs.Common.{◌++◌}
use Rattle.std.proofs.lemmas.Result.{on_ok_weaker}
use Rattle.bsc_node.specs.Events.{obeys}
use Rattle.bsc_node_core.specs.Resolving.{asked_by}
use Rattle.bsc_node_core.proofs.Asking.{both-still}
use Rattle.bsc_node_core.proofs.Ticking.{heard-up, heard-nothing, told-with}
use Rattle.bsc_node_core.proofs.following.obey_heard.Goals as goal

pub returns-in-Some-clause-goes : goal.returns-in-Some-clause-goes
returns-in-Some-clause-goes c = on_ok_weaker c.handle_message.result
    (λ g b L M rest n unicast r told.
    heard-up b c.args.out.now _ c.args.state.now _ c.args.resolve.now _ L M c.args.name c.origin_in-origin.result c.message_in-passed.result c.args.step c.in-Some.message c.in-Up.is
    c.in-Some.is rest.2 r
    (told-with (asked_by L b) c.args.out.now c.args.state.now M c.args.name _ _ _ _ _ c.origin_in-origin.ensures c.message_in-passed.ensures told) (λ both. g b M rest.0 n both))
    c.handle_message.ensures.goes

pub returns-in-None-clause-goes : goal.returns-in-None-clause-goes
returns-in-None-clause-goes c = λ b L M rest n unicast r told.
    heard-nothing b c.args.out.now c.args.state.now c.args.resolve.now L M c.args.name c.origin_in-origin.result c.message_in-passed.result c.args.step c.in-Up.is c.in-None.is rest.2 r
    (told-with (asked_by L b) c.args.out.now c.args.state.now M c.args.name _ _ _ _ _ c.origin_in-origin.ensures c.message_in-passed.ensures told)

pub returns-in_default-clause-goes : goal.returns-in_default-clause-goes
returns-in_default-clause-goes c = on_ok_weaker c.apply_step.result
    (λ g b L M rest n unicast r told.
    both-still b _ _ c.args.resolve.now L (M ++ obeys b.made c.args.name M) r
    (g (asked_by L b) M c.message_in-passed.result rest n unicast (λ e. absurd (c.in_default.not-Up e))
    (told-with (asked_by L b) c.args.out.now c.args.state.now M c.args.name _ _ _ _ _ c.origin_in-origin.ensures c.message_in-passed.ensures told)))
    c.apply_step.ensures
