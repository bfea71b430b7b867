use Rattle.std.proofs.Common.{[], ◌∷◌, ◌++◌, sym, ◌∙◌}
use Rattle.std.proofs.lemmas.Result.{on_ok_weaker}
use Rattle.bsc_node.specs.Hubs.{waits, hub_events, told}
use Rattle.bsc_node.specs.Ending.{dials_primary, dials_failover, tells_use, drops_failover}
use Rattle.bsc_node_core.proofs.Together.{first-then, none-left}
use Rattle.bsc_node_core.proofs.Redialling.{silent-primary, silent-failover, silent-use, step-kept, use_before-kept, use_before-told}
use Rattle.bsc_node_core.proofs.state.State.tell_connector.Goals as goal

pub returns : goal.returns
returns c = on_ok_weaker c.drop_failover.result
    (λ g b L r h.
    let a = b.made in
    let t = c.told-step.ensures b c.args.out.now L r.1 h in
    let M = L ++ told c.args.event L in
    let N = M ++ dials_primary a M in
    let O = N ++ dials_failover a N in
    let Q = O ++ tells_use O in
    let step = step-kept a (dials_primary a) M (silent-primary a) ∙ t.1 in
    let later = step-kept a (dials_failover a) N (silent-failover a) ∙ step in
    let latest = step-kept a tells_use O silent-use ∙ later in
    let before = use_before-kept (dials_failover a) N (silent-failover a) ∙ use_before-kept (dials_primary a) M (silent-primary a) ∙ use_before-told L c.args.event
    ∙ sym (c.hub_use-before.ensures (waits a) (hub_events L) h.connector) in
    let primary = c.in_ok-try_primary.ensures b M r.0 r.1 t.1 t.0 in
    let failover = c.in_ok-try_failover.ensures b N r.0 r.1 step primary in
    let used = c.in_ok-tell_use.ensures b O before failover in
    first-then b _ _ L (told c.args.event) (dials_primary a ∷ dials_failover a ∷ tells_use ∷ drops_failover a ∷ [])
    (first-then b _ _ M (dials_primary a) (dials_failover a ∷ tells_use ∷ drops_failover a ∷ [])
    (first-then b _ _ N (dials_failover a) (tells_use ∷ drops_failover a ∷ [])
    (first-then b _ _ O tells_use (drops_failover a ∷ [])
    (first-then b _ _ Q (drops_failover a) [] (none-left b _ _ (Q ++ drops_failover a Q) (g b Q r.1 r.2 latest used)))))))
    c.drop_failover.ensures
