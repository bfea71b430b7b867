use Rattle.std.proofs.Common.{ap, sym, ◌∙◌, refl, ◌++◌, None}
use Rattle.std.proofs.lemmas.Result.{on_ok_weaker}
use Rattle.bsc_accept.specs.declared.event.Event.TheVariants.{Refused}
use Rattle.bsc_history.specs.declared.reply.Refusal.TheVariants.{Duplicate}
use Rattle.bsc_node.proofs.Calm.{is_calm}
use Rattle.bsc_node.specs.declared.link_name.LinkName.TheVariants.{Direct}
use Rattle.bsc_node.specs.Links.{accepting_events}
use Rattle.bsc_node.specs.Meeting.{refuses}
use Rattle.bsc_accept.specs.Past.{standing}
use Rattle.bsc_node_core.specs.Machines.{taken_in, may_tell_taken}
use Rattle.bsc_node_core.proofs.Carrying.{carried}
use Rattle.bsc_node_core.proofs.Meets.{asked-taken, calm-refuses}
use Rattle.bsc_node_core.proofs.Told.{taken-told}
use Rattle.bsc_node_core.proofs.state.State.refuse.Goals as goal

pub returns : goal.returns
returns c = on_ok_weaker c.carry_out.result
    (λ g b L none n is h.
    let name = Direct c.args.k in
    let told = taken-told b c.args.out.now c.args.self.now L name (Refused (Duplicate None)) c.args.machine _ _ _ _
    (c.as_dialled.ensures None (standing (accepting_events L name)) (Refused (Duplicate None)) refl) c.go_on_taken.ensures.sets c.go_on_taken.ensures.touches (ap taken_in is) n
    c.refused-step.ensures.step (ap (λ x. may_tell_taken x (Refused (Duplicate None))) c.requires.asked) h in
    carried b c.args.out.now _ _ _ (L ++ refuses name L) name _ none n (ap is_calm (sym told.newest)
    ∙ calm-refuses b.made name L (asked-taken b c.args.out.now c.args.self.now L name c.args.machine n is h)) told
    (λ base st. g None None base (L ++ refuses name L) st))
    c.carry_out.ensures.goes
