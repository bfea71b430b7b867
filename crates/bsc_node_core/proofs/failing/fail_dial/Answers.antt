use Rattle.std.proofs.Common.{sym, subst, ◌++◌}
use Rattle.std.proofs.lemmas.Result.{on_ok_weaker}
use Rattle.bsc_node_core.specs.Resolving.{asked_by}
use Rattle.bsc_node_core.specs.Standing.{Stands}
use Rattle.bsc_node_core.proofs.Asking.{both-still}
use Rattle.bsc_node_core.proofs.NextUris.{hub-fails}
use Rattle.bsc_node_core.proofs.failing.fail_dial.Goals as goal

pub returns-in-Hub : goal.returns-in-Hub
returns-in-Hub c = on_ok_weaker c.end.result
    (λ g b L r name h.
    both-still b c.end.new.out c.end.new.self c.args.resolve.now L _ h.resolution
    (subst (λ ms. Stands (asked_by L b) c.end.new.out c.end.new.self (L ++ ms)) (sym (hub-fails b.made c.args.name c.in-Hub.field-0 L c.in-Hub.is)) (g (asked_by L b) L r h.state)))
    c.end.ensures
