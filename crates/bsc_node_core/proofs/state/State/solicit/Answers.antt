use Rattle.std.proofs.lemmas.Result.{on_ok_weaker}
use Rattle.bsc_node.specs.declared.note.Note.TheVariants.{NoPath}
use Rattle.bsc_node_core.specs.Rules.{way_of}
use Rattle.bsc_node_core.proofs.Wants.{told-stands, same-lines, none-path, some-path, solicits-nowhere, solicits-by}
use Rattle.bsc_node_core.proofs.state.State.solicit.Goals as goal

pub returns-in-None : goal.returns-in-None
returns-in-None c = on_ok_weaker c.tell.result
    (λ t b L h. told-stands b c.args.out.now _ c.args.self.now L _ (NoPath c.args.v) t (solicits-nowhere c.args.v L (none-path c.way.result _ (c.way.ensures b c.args.out.now L h) c.in-None.is)) h)
    c.tell.ensures

pub returns-in-Some : goal.returns-in-Some
returns-in-Some c = on_ok_weaker c.solicit_by.result
    (λ g b L h. same-lines b _ _ L _ _ (solicits-by c.args.v L (way_of c.in-Some.way) (some-path c.way.result _ c.in-Some.way (c.way.ensures b c.args.out.now L h) c.in-Some.is)) (g b L h))
    c.solicit_by.ensures
