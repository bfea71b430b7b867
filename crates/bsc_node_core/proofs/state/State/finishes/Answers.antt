use Rattle.std.proofs.Common.{ap, sym, ◌∙◌}
use Rattle.bsc_node_core.specs.Tables.{Kept}
use Rattle.bsc_node_core.proofs.Settling.{is_busy}
use Rattle.bsc_node_core.proofs.Hearing.{finishes-dialled, finishes-taken, told-lines}
use Rattle.bsc_node_core.proofs.state.State.finishes.Goals as goal

pub returns-in-Dialled : goal.returns-in-Dialled
returns-in-Dialled c = λ b out L w none n t h.
    let is = sym (ap (λ (k : Kept). k.machine) c.get.ensures) ∙ c.in-Dialled.is in
    told-lines b out _ L c.args.name _ _ _ (finishes-dialled b out c.args.self.now L c.args.name c.args.now n w h c.in-Dialled.machine is)
    (c.finish_dialled.ensures b out L is n (is_busy b out c.args.self.now L c.args.name none h))

pub returns-in-Taken : goal.returns-in-Taken
returns-in-Taken c = λ b out L w none n t h.
    let is = sym (ap (λ (k : Kept). k.machine) c.get.ensures) ∙ c.in-Taken.is in
    told-lines b out _ L c.args.name _ _ _ (finishes-taken b out c.args.self.now L c.args.name c.args.now n w h c.in-Taken.machine is)
    (c.finish_taken.ensures b out L is n (is_busy b out c.args.self.now L c.args.name none h))
