-- The machine is told that who asked was refused, and its step, which closes, is carried out.
use Rattle.std.proofs.Common.{true≢false, sym, ap, ◌∙◌, refl, subst, OnOk}
use Rattle.bsc_accept.specs.declared.event.Event.TheVariants.{Refused}
use Rattle.bsc_accept.specs.Steps.{closes, step, asked_id}
use Rattle.bsc_script.specs.States.{told, with_peer}
use Rattle.bsc_script.specs.Carrying.{does}
use Rattle.bsc_script.specs.Holding.{CarriesOut}
use Rattle.bsc_script.proofs.Changes.{told_at, told_some, within_still, keeps_at}
use Rattle.bsc_script.proofs.script_hub.ScriptHub.tell_refused.Goals as goal
use Rattle.bsc_accept.proofs.Common.{refusing as refused_closes}

pub refused-step-requires : goal.refused-step-requires
refused-step-requires c = keeps_at c.args.self.now c.args.at (c.pair_mut-peer.result.0.now, c.pair_mut-peer.result.1.now) _ c.pair_mut-peer.ensures.value c.requires.asked

pub carry_out-requires-clause-within : goal.carry_out-requires-clause-within
carry_out-requires-clause-within c = within_still c.args.self.now c.args.at _ c.requires.within

pub carry_out-requires-clause-some : goal.carry_out-requires-clause-some
carry_out-requires-clause-some c = told_some c.args.self.now _ c.args.at (c.pair_mut-peer.result.0.now, c.pair_mut-peer.result.1.now)
    (Refused c.args.refusal.now) c.refused-step.new.self c.refused-step.result c.requires.some c.pair_mut-peer.ensures.value c.refused-step.ensures.step refl refl refl refl refl

pub returns : goal.returns
returns c = λ s k cs h. (
    let a = told_at c.args.self.now _ s c.args.at cs k (c.pair_mut-peer.result.0.now, c.pair_mut-peer.result.1.now)
    (Refused c.args.refusal.now) c.refused-step.new.self c.refused-step.result h c.pair_mut-peer.ensures.value c.refused-step.ensures.step refl refl refl refl refl in
    subst (λ st. OnOk c.carry_out.result (CarriesOut c.carry_out.new.self c.args.text.now.items c.carry_out.new.text.items cs
    (does (with_peer (told (Refused c.args.refusal.now) k) s) (told (Refused c.args.refusal.now) k) st))) a.1
    (c.carry_out.ensures (with_peer (told (Refused c.args.refusal.now) k) s) (told (Refused c.args.refusal.now) k) cs a.0
    (λ still. absurd (true≢false (sym (refused_closes (asked_id k.events) c.args.refusal.now) ∙ sym (ap closes a.1) ∙ still)))))
