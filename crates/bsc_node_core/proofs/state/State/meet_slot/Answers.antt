use Rattle.std.proofs.Common.{ap, sym, ◌∙◌}
use Rattle.std.proofs.lemmas.Result.{on_ok_weaker}
use Rattle.std.proofs.lemmas.Bool.{lt-ltb}
use Rattle.bsc_direct.specs.declared.bounds.TheConstants.{SLOTS}
use Rattle.bsc_node.specs.declared.link_name.LinkName.TheVariants.{Direct}
use Rattle.bsc_node_core.specs.Tables.{Kept}
use Rattle.bsc_node_core.proofs.Meets.{asked-taken, not-asked, told-dialled, met-taken, met-dialled}
use Rattle.bsc_node_core.proofs.state.State.meet_slot.Goals as goal

pub returns-in-Asked : goal.returns-in-Asked
returns-in-Asked c = on_ok_weaker c.meet_taken.result
    (λ g b L r u told.
    let is = sym (ap (λ (k : Kept). k.machine) c.get.ensures) ∙ c.in-Asked.is in
    met-taken b _ _ L c.args.k c.args.who (asked-taken b c.args.out.now c.args.self.now L (Direct c.args.k) _ (lt-ltb c.args.k SLOTS c.requires.within) is told.stands)
    (g b L r is told.stands))
    c.meet_taken.ensures

pub returns-in-Gone : goal.returns-in-Gone
returns-in-Gone c = on_ok_weaker c.meet_dialled.result
    (λ g b L r u told.
    let d = told-dialled b c.args.out.now c.args.self.now L (Direct c.args.k) c.args.who _ r.2 (ap (λ (k : Kept). k.machine) c.get.ensures) (not-asked _ c.in-Gone.is) told in
    met-dialled b _ _ L c.args.k c.args.who d.0 (g b L r d.1))
    c.meet_dialled.ensures
