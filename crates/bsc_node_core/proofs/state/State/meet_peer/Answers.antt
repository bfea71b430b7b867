use Rattle.std.proofs.Common.{ap, sym, ◌∙◌}
use Rattle.std.proofs.lemmas.Result.{on_ok_weaker}
use Rattle.bsc_node.specs.declared.link_name.LinkName.TheVariants.{Hub, Direct}
use Rattle.bsc_node_core.specs.Tables.{is_name}
use Rattle.bsc_node_core.proofs.Meets.{met-as}
use Rattle.bsc_node_core.proofs.state.State.meet_peer.Goals as goal

pub returns-in-Hub : goal.returns-in-Hub
returns-in-Hub c = on_ok_weaker c.meet_hub.result
    (λ g b L r nm u told. met-as b c.args.out.now _ c.args.self.now _ L c.args.name (Hub c.in-Hub.side) c.args.who c.in-Hub.is (λ t. g b L c.args.who r t) told)
    c.meet_hub.ensures

pub returns-in-Direct : goal.returns-in-Direct
returns-in-Direct c = on_ok_weaker c.meet_direct.result
    (λ g b L r nm u told.
    met-as b c.args.out.now _ c.args.self.now _ L c.args.name (Direct c.in-Direct.k) c.args.who c.in-Direct.is (λ t. g b L r (sym (ap is_name c.in-Direct.is) ∙ nm) u t) told)
    c.meet_direct.ensures
