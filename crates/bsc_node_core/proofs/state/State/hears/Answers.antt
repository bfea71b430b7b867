use Rattle.std.proofs.Common.{ap, sym, ◌∙◌}
use Rattle.bsc_node_core.specs.Machines.{is_fit}
use Rattle.bsc_node_core.specs.Tables.{Kept}
use Rattle.bsc_node_core.proofs.Settling.{is_busy}
use Rattle.bsc_node_core.proofs.Hearing.{dialled-before, hears-dialled, hears-taken, may-hear, told-lines}
use Rattle.bsc_node_core.proofs.state.State.hears.Goals as goal

pub returns-in-Dialled : goal.returns-in-Dialled
returns-in-Dialled c = λ b out L o w none n t v h.
    let is = sym (ap (λ (k : Kept). k.machine) c.get.ensures) ∙ c.in-Dialled.is in
    let before = dialled-before b out c.args.self.now L c.args.name c.args.now n w h c.in-Dialled.machine is in
    let fit = sym (ap is_fit c.in-Dialled.is) ∙ c.get.result.fit in
    told-lines b out _ L c.args.name _ _ _ (hears-dialled b out c.args.self.now L c.args.name c.args.now n w h c.in-Dialled.machine o c.args.verdict.now v is)
    (c.hear_dialled.ensures b out L is n (may-hear b.made L c.args.name c.in-Dialled.machine c.args.now c.args.verdict.now fit before t) (is_busy b out c.args.self.now L c.args.name none h))

pub returns-in-Taken : goal.returns-in-Taken
returns-in-Taken c = λ b out L o w none n t v h.
    let is = sym (ap (λ (k : Kept). k.machine) c.get.ensures) ∙ c.in-Taken.is in
    told-lines b out _ L c.args.name _ _ _ (hears-taken b out c.args.self.now L c.args.name c.args.now n w h c.in-Taken.machine o c.args.verdict.now v is)
    (c.hear_taken.ensures b out L is n (is_busy b out c.args.self.now L c.args.name none h))
