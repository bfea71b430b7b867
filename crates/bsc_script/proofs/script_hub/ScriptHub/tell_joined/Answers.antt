-- The machine is told that who asked has joined, and its step is carried out.
use Rattle.std.proofs.Common.{◌≡◌, Vec, Global, ℕ, true, false, true≢false, sym, ap, ◌∙◌, refl, subst, OnOk}
use Rattle.bsc_accept.specs.declared.event.Event.TheVariants.{Joined}
use Rattle.bsc_accept.specs.Steps.{closes, step}
use Rattle.bsc_accept.specs.Standing.{is_open}
use Rattle.bsc_script.specs.declared.peer.Peer.{Peer as KeptPeer}
use Rattle.bsc_script.specs.States.{told, with_peer}
use Rattle.bsc_script.specs.Carrying.{does, tells}
use Rattle.bsc_script.specs.Holding.{CarriesOut}
use Rattle.bsc_script.proofs.Changes.{told_at, told_some, within_still, keeps_at, kept_at}
use Rattle.bsc_script.proofs.Settling.{open_after, asks, settled_joined}
use Rattle.bsc_script.proofs.script_hub.ScriptHub.tell_joined.Goals as goal

pub joined-step-requires : goal.joined-step-requires
joined-step-requires c = keeps_at c.args.self.now c.args.at (c.pair_mut-peer.result.0.now, c.pair_mut-peer.result.1.now) _ c.pair_mut-peer.ensures.value c.requires.asked

pub carry_out-requires-clause-within : goal.carry_out-requires-clause-within
carry_out-requires-clause-within c = within_still c.args.self.now c.args.at _ c.requires.within

pub carry_out-requires-clause-some : goal.carry_out-requires-clause-some
carry_out-requires-clause-some c = told_some c.args.self.now _ c.args.at (
  c.pair_mut-peer.result.0.now,
  c.pair_mut-peer.result.1.now,
) Joined c.joined-step.new.self c.joined-step.result c.requires.some c.pair_mut-peer.ensures.value c.joined-step.ensures.step refl refl refl refl refl

pub returns : goal.returns
returns c = λ s k cs b h conn due. (
    let a = told_at c.args.self.now _ s c.args.at cs k (c.pair_mut-peer.result.0.now, c.pair_mut-peer.result.1.now)
    (Joined) c.joined-step.new.self c.joined-step.result h c.pair_mut-peer.ensures.value c.joined-step.ensures.step refl refl refl refl refl in
    subst (λ st. OnOk c.carry_out.result (CarriesOut c.carry_out.new.self c.args.text.now.items c.carry_out.new.text.items cs (does (with_peer (told (Joined) k) s) (told (Joined) k) st))) a.1
    (c.carry_out.ensures (with_peer (told (Joined) k) s) (told (Joined) k) cs a.0
    (λ still. settled_joined cs s.about s.history k b conn due (sym (ap is_open a.2.stage)
    ∙ open_after c.joined-step.result c.joined-step.new.self c.joined-step.ensures.left still (ap asks a.1)))))
