use Rattle.std.proofs.Common.{ap, sym, ◌∙◌}
use Rattle.std.proofs.lemmas.Result.{IfOk-weaker}
use Rattle.bsc_checks.specs.declared.place.Place.{Place}
use Rattle.bsc_checks.specs.Outcomes.{outcome_of}
use Rattle.bsc_node_core.specs.Machines.{is_fit}
use Rattle.bsc_node_core.specs.Tables.{Kept, place_kept}
use Rattle.bsc_node_core.proofs.Placing.{place-is, verdict-is}
use Rattle.bsc_node_core.proofs.state.State.verdict.Goals as goal

pub returns : goal.returns
returns c = IfOk-weaker c.judge.result _ _
    (λ v e b out L none n o h.
    let s = c.args.self.now in
    let fit = ap (λ (k : Kept). is_fit k.machine) (sym c.get.ensures) ∙ c.get.result.fit in
    let p = place-is b out s L c.args.name none n o fit h in
    sym (e ∙ ap (λ (x : Place). outcome_of c.args.octets.now x s.own.max_bvlc) (c.place_of-place.ensures ∙ ap (place_kept s.own.vmac c.args.name) c.get.ensures)
    ∙ verdict-is b out s L c.args.name c.args.octets.now p h))
    c.judge.ensures.outcome
