-- The machine of one peer is told the time, and its step is carried out.
use Rattle.std.proofs.Common.{◌≡◌, ◌+◌, [], drop, cond, Vec, Global, ℕ, true, false, sym, ap, ◌∙◌, refl, subst}
use Rattle.bsc_accept.specs.declared.event.Event.TheVariants.{Tick}
use Rattle.bsc_accept.specs.Past.{standing, last_message}
use Rattle.bsc_accept.specs.Steps.{closes, step}
use Rattle.bsc_accept.specs.Standing.{is_open}
use Rattle.bsc_script.specs.States.{told, with_peer, start_of}
use Rattle.bsc_script.specs.Carrying.{does, tells}
use Rattle.bsc_script.specs.Holding.{CarriesOut}
use Rattle.bsc_script.proofs.Changes.{told_at, told_some, within_still, at_settled, settled_one, peers_changed}
use Rattle.bsc_script.proofs.Settling.{open_after, asks, tick_asks, settled_told}
use Rattle.bsc_script.proofs.Ready.{open_some}
use Rattle.bsc_script.proofs.Ticked.{rest_told}
use Rattle.bsc_script.proofs.script_hub.ScriptHub.tick_one.Goals as goal

pub tick-step-requires : goal.tick-step-requires
tick-step-requires c = open_some c.args.self.now c.args.at (c.pair_mut-peer.result.0.now, c.pair_mut-peer.result.1.now) c.requires.some c.pair_mut-peer.ensures.value

pub carry_out-requires-clause-within : goal.carry_out-requires-clause-within
carry_out-requires-clause-within c = within_still c.args.self.now c.args.at _ c.requires.within

pub carry_out-requires-clause-some : goal.carry_out-requires-clause-some
carry_out-requires-clause-some c = told_some c.args.self.now _ c.args.at (c.pair_mut-peer.result.0.now, c.pair_mut-peer.result.1.now)
    (Tick c.args.self.now.clock) c.tick-step.new.self c.tick-step.result (c.requires.some.0, c.requires.some.1.0) c.pair_mut-peer.ensures.value c.tick-step.ensures.step refl refl refl refl refl

pub returns : goal.returns
returns c = λ s k h here. (
    let t = c.args.self.now in
    let e = Tick t.clock in
    let own = settled_one c.args.at [] s k h.1 here in
    let a = told_at t _ s c.args.at [] k (c.pair_mut-peer.result.0.now, c.pair_mut-peer.result.1.now) e c.tick-step.new.self c.tick-step.result
    (at_settled t c.args.at [] s k h.0 h.1 here) c.pair_mut-peer.ensures.value c.tick-step.ensures.step refl refl refl refl refl in
    let carried : CarriesOut c.carry_out.new.self c.args.text.now.items c.carry_out.new.text.items [] (tells s k e) =
    subst (λ st. CarriesOut c.carry_out.new.self c.args.text.now.items c.carry_out.new.text.items [] (does (with_peer (told e k) s) (told e k) st)) a.1
    (c.in_ok-carry_out.ensures (with_peer (told e k) s) (told e k) [] a.0 (λ still. settled_told [] s.about s.history k e own refl refl
    (sym (ap is_open a.2.stage) ∙ open_after c.tick-step.result c.tick-step.new.self c.tick-step.ensures.left still
    (ap asks a.1 ∙ tick_asks (start_of s k) (last_message (start_of s k) k.events) t.clock (standing k.events))))) in
    let rest : drop c.next_place-next.result (tells s k e).state.peers ≡ drop (c.args.at + 1) s.peers =
    ap (λ n. drop n (tells s k e).state.peers) c.next_place-next.ensures
    ∙ subst (λ st. drop (cond (closes c.tick-step.result) c.args.at (c.args.at + 1)) (does (with_peer (told e k) s) (told e k) st).state.peers ≡ drop (c.args.at + 1) s.peers) a.1
    (rest_told _ s c.args.at [] k e c.tick-step.result h.0.apart (peers_changed t s c.args.at k (told e k) h.0 here refl) a.0) in
    subst (λ n. CarriesOut c.carry_out.new.self c.args.text.now.items c.carry_out.new.text.items [] (tells s k (Tick n))
    × (drop c.next_place-next.result (tells s k (Tick n)).state.peers ≡ drop (c.args.at + 1) s.peers)) h.0.clock (carried, rest))
