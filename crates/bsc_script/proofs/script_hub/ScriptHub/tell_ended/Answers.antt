-- The machine is told how its connection ended, and its step is carried out.
use Rattle.std.proofs.Common.{◌≡◌, Vec, Global, ℕ, true, false, true≢false, sym, ap, ◌∙◌, refl, subst, OnOk}
use Rattle.bsc_accept.specs.declared.event.Event.TheVariants.{Ended}
use Rattle.bsc_accept.specs.Steps.{closes, step, ended_step}
use Rattle.bsc_accept.specs.Standing.{is_open}
use Rattle.bsc_script.specs.declared.peer.Peer.{Peer as KeptPeer}
use Rattle.bsc_script.specs.States.{told, with_peer}
use Rattle.bsc_script.specs.Carrying.{does, tells}
use Rattle.bsc_script.specs.Holding.{CarriesOut}
use Rattle.bsc_script.proofs.Changes.{told_at, told_some, within_still, keeps_at, kept_at}
use Rattle.bsc_script.proofs.Settling.{open_after, asks, ended_asks, connected_standing, settled_ended}
use Rattle.bsc_script.proofs.script_hub.ScriptHub.tell_ended.Goals as goal

pub ended-step-requires-clause-connected : goal.ended-step-requires-clause-connected
ended-step-requires-clause-connected c = keeps_at c.args.self.now c.args.at (c.pair_mut-peer.result.0.now, c.pair_mut-peer.result.1.now) _ c.pair_mut-peer.ensures.value c.requires.connected

pub carry_out-requires-clause-within : goal.carry_out-requires-clause-within
carry_out-requires-clause-within c = within_still c.args.self.now c.args.at _ c.requires.within

pub carry_out-requires-clause-some : goal.carry_out-requires-clause-some
carry_out-requires-clause-some c = told_some c.args.self.now _ c.args.at (c.pair_mut-peer.result.0.now, c.pair_mut-peer.result.1.now)
    (Ended c.args.self.now.clock c.args.ending) c.ended-step.new.self c.ended-step.result c.requires.some c.pair_mut-peer.ensures.value c.ended-step.ensures.step refl refl refl refl refl

pub returns : goal.returns
returns c = λ s k cs b h conn. (
    let a = told_at c.args.self.now _ s c.args.at cs k (c.pair_mut-peer.result.0.now, c.pair_mut-peer.result.1.now)
    (Ended c.args.self.now.clock c.args.ending) c.ended-step.new.self c.ended-step.result h c.pair_mut-peer.ensures.value c.ended-step.ensures.step refl refl refl refl refl in
    let p = kept_at c.args.self.now s c.args.at k (c.pair_mut-peer.result.0.now, c.pair_mut-peer.result.1.now) h.stands h.here c.pair_mut-peer.ensures.value in
    let at = connected_standing c.pair_mut-peer.result.1.now.machine _ k.events p.machine
    (keeps_at c.args.self.now c.args.at (c.pair_mut-peer.result.0.now, c.pair_mut-peer.result.1.now) _ c.pair_mut-peer.ensures.value c.requires.connected) in
    subst (λ n. OnOk c.carry_out.result (CarriesOut c.carry_out.new.self c.args.text.now.items c.carry_out.new.text.items cs (tells s k (Ended n c.args.ending)))) h.stands.clock (
    subst (λ st. OnOk c.carry_out.result (CarriesOut c.carry_out.new.self c.args.text.now.items c.carry_out.new.text.items cs
    (does (with_peer (told (Ended c.args.self.now.clock c.args.ending) k) s) (told (Ended c.args.self.now.clock c.args.ending) k) st))) a.1
    (c.carry_out.ensures (with_peer (told (Ended c.args.self.now.clock c.args.ending) k) s) (told (Ended c.args.self.now.clock c.args.ending) k) cs a.0
    (λ still. settled_ended cs s.about s.history k b c.args.self.now.clock c.args.ending conn at c.requires.ending (sym (ap closes a.1) ∙ still)
    (sym (ap is_open a.2.stage) ∙ open_after c.ended-step.result c.ended-step.new.self c.ended-step.ensures.left still (ap asks a.1 ∙ ended_asks c.args.ending))))))
