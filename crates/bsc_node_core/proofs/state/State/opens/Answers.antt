use Rattle.std.proofs.Common.{ap, sym, ◌∙◌}
use Rattle.std.specs.Prelude.{is_some}
use Rattle.std.proofs.lemmas.Bool.{false≢true}
use Rattle.bsc_node.specs.Links.{initiating_events, start}
use Rattle.bsc_node_core.specs.Machines.{is_fit}
use Rattle.bsc_node_core.specs.Tables.{Kept}
use Rattle.bsc_node_core.proofs.Settling.{is_busy}
use Rattle.bsc_node_core.proofs.Hearing.{dialled-before, opens-dialled, unopened, not-over, told-lines}
use Rattle.bsc_node_core.proofs.state.State.opens.Goals as goal

pub returns-then-is_some : goal.returns-then-is_some
returns-then-is_some c = λ b out L w none n t h.
    let is = sym (ap (λ (k : Kept). k.machine) c.get.ensures) ∙ c.in-Dialled.is in
    let d = dialled-before b out c.args.self.now L c.args.name c.args.now n w h c.in-Dialled.machine is in
    let o = sym (ap is_fit c.in-Dialled.is) ∙ c.get.result.fit in
    let p = c.phase.ensures.told (start b.made L c.args.name) (initiating_events L c.args.name) d.machine (not-over c.in-Dialled.machine o) ∙ unopened b.made L c.args.name c.in-Dialled.machine d t in
    absurd (false≢true (sym (ap is_some p) ∙ sym c.is_some.ensures ∙ c.if-is_some.true))

pub returns-else-is_some : goal.returns-else-is_some
returns-else-is_some c = λ b out L w none n t h.
    let is = sym (ap (λ (k : Kept). k.machine) c.get.ensures) ∙ c.in-Dialled.is in
    told-lines b out _ L c.args.name _ _ _ (opens-dialled b out c.args.self.now L c.args.name c.args.now n w h)
    (c.open_dialled.ensures b out L is n (is_busy b out c.args.self.now L c.args.name none h))
