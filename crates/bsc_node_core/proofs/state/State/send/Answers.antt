use Rattle.std.proofs.lemmas.Result.{on_ok_weaker}
use Rattle.bsc_node.specs.declared.note.Note.TheVariants.{NoPath}
use Rattle.bsc_node_core.proofs.Wants.{told-stands, none-path, some-path, sends-nowhere}
use Rattle.bsc_node_core.proofs.state.State.send.Goals as goal

pub returns-in-None : goal.returns-in-None
returns-in-None c = on_ok_weaker c.tell.result
    (λ t b L h. told-stands b c.args.out.now _ c.args.self.now L _ (NoPath c.args.v) t
    (sends-nowhere c.args.v c.args.npdu.now L (none-path c.way.result _ (c.way.ensures b c.args.out.now L h) c.in-None.is)) h)
    c.tell.ensures

pub returns-in-Some : goal.returns-in-Some
returns-in-Some c = on_ok_weaker c.send_by.result
    (λ g b L h. g b L h (some-path c.way.result _ c.in-Some.way (c.way.ensures b c.args.out.now L h) c.in-Some.is))
    c.send_by.ensures
