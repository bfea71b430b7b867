use Rattle.std.proofs.lemmas.Result.{on_ok_weaker}
use Rattle.bsc_node.specs.declared.note.Note.TheVariants.{NoPath}
use Rattle.bsc_node.specs.Requesting.{resolves}
use Rattle.bsc_node_core.specs.Resolving.{asked_by}
use Rattle.bsc_node_core.proofs.Wants.{none-path, some-path}
use Rattle.bsc_node_core.proofs.Asking.{both-word, resolves-nowhere}
use Rattle.bsc_node_core.proofs.requesting.resolve_vmac.Goals as goal

pub returns-in-None-clause-goes : goal.returns-in-None-clause-goes
returns-in-None-clause-goes c = on_ok_weaker c.tell.result
    (λ t b L n h.
    both-word b c.args.out.now _ c.args.state.now c.args.resolve.now c.args.resolve.now L (resolves b.made c.args.v L) (NoPath c.args.v) t
    (resolves-nowhere b.made c.args.v L (none-path c.way.result _ (c.way.ensures (asked_by L b) c.args.out.now L h.state) c.in-None.is)) (λ wait calls stands. stands) h)
    c.tell.ensures

pub returns-in-Some-clause-goes : goal.returns-in-Some-clause-goes
returns-in-Some-clause-goes c = on_ok_weaker c.ask.result
    (λ g b L n h. g b L n (some-path c.way.result _ c.in-Some.way (c.way.ensures (asked_by L b) c.args.out.now L h.state) c.in-Some.is) h)
    c.ask.ensures.goes
