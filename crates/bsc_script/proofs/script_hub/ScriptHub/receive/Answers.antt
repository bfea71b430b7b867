-- A message is judged, its machine is told, and the step is carried out.
use Rattle.std.proofs.Common.{◌≡◌, ◌++◌, IfOk, ap, ◌∙◌, refl, subst}
use Rattle.bsc_checks.specs.declared.place.Place.TheVariants.{HubPort}
use Rattle.bsc_accept.specs.declared.event.Event.TheVariants.{Message as Came}
use Rattle.bsc_script.specs.Written.{text_of}
use Rattle.bsc_script.specs.States.{told, with_peer}
use Rattle.bsc_script.specs.Receiving.{silence, acts, gets_verdict, verdict_on}
use Rattle.bsc_script.specs.Touching.{dues}
use Rattle.bsc_script.specs.Holding.{CarriesOut}
use Rattle.bsc_script.proofs.Pairs.{get-map}
use Rattle.bsc_script.proofs.Changes.{kept, within_still, some_at, indexed}
use Rattle.bsc_script.proofs.Carried.{lines_carried}
use Rattle.bsc_script.proofs.Ready.{open_some}
use Rattle.bsc_script.proofs.Received.{awaits, judged_phase}
use Rattle.bsc_checks.specs.Outcomes.{outcome_of}
use Rattle.bsc_accept.specs.Past.{phase}
use Rattle.bsc_script.specs.Carrying.{and_then, step_of}
use Rattle.bsc_script.proofs.script_hub.ScriptHub.receive.Goals as goal
use Rattle.bsc_lemmas.proofs.Numbers.{if_ok_maps as if_ok}

pub message-step-requires : goal.message-step-requires
message-step-requires c = open_some c.args.self.now c.args.at (c.pair_mut-peer.result.0.now, c.pair_mut-peer.result.1.now) c.requires.some c.pair_mut-peer.ensures.value

pub act-requires-clause-within : goal.act-requires-clause-within
act-requires-clause-within c = within_still c.args.self.now c.args.at _ c.requires.within

pub act-requires-clause-some : goal.act-requires-clause-some
act-requires-clause-some c =
    let t = c.args.self.now in
    let s = c.requires.some.0 in
    let h = c.requires.some.1 in
    let place = HubPort c.phase.result in
    let judged = c.in_ok-verdict.ensures.found in
    let k = some_at t s c.args.at (c.pair_mut-peer.result.0.now, c.pair_mut-peer.result.1.now) h.0 c.pair_mut-peer.ensures.value in (
      _,
      _,
      (awaits t _ s c.args.at c.args.message.now k.0 (
        c.pair_mut-peer.result.0.now,
        c.pair_mut-peer.result.1.now,
      ) c.in_ok-verdict.verdict c.message-step.new.self c.message-step.result c.phase.result t.about.hub.max_bvlc h k.1 c.pair_mut-peer.ensures.value
          c.message-step.ensures.step c.message-step.ensures.left judged refl refl refl refl refl).0,
    )

pub returns : goal.returns
returns c = λ s k h here. (
    let t = c.args.self.now in
    let v = c.in_ok-verdict.verdict in
    let e = Came t.clock v in
    let place = HubPort c.phase.result in
    let judged = c.in_ok-verdict.ensures.found in
    let w = awaits t _ s c.args.at c.args.message.now k (
      c.pair_mut-peer.result.0.now,
      c.pair_mut-peer.result.1.now,
    ) v c.message-step.new.self c.message-step.result c.phase.result t.about.hub.max_bvlc h here c.pair_mut-peer.ensures.value
    c.message-step.ensures.step c.message-step.ensures.left judged refl refl refl refl refl in
    let same_phase = judged_phase t s c.args.at k (c.pair_mut-peer.result.0.now, c.pair_mut-peer.result.1.now) c.peer_at.result.now c.phase.result h here c.pair_mut-peer.ensures.value
    (c.peer_at.ensures (kept (c.pair_mut-peer.result.0.now, c.pair_mut-peer.result.1.now))
    (get-map kept t.peers.entries c.args.at (c.pair_mut-peer.result.0.now, c.pair_mut-peer.result.1.now) c.pair_mut-peer.ensures.value)) c.phase.ensures.told in
    let verdict : v ≡ verdict_on s k c.args.message.now =
    c.in_ok-verdict.ensures.outcome
    ∙ ap (λ p. outcome_of c.args.message.now (HubPort p) t.about.hub.max_bvlc) same_phase
    ∙ ap (λ a. outcome_of c.args.message.now (HubPort (phase k.events)) a.hub.max_bvlc) h.0.same_hub in
    let name = c.name_at.ensures s.peers k (indexed t s h.0) here in
    let put = c.in_ok-put_silence.ensures ∙ ap (λ m. c.args.text.now.items ++ text_of (silence m v)) name in
    subst (λ u. IfOk c.act.result (λ due. CarriesOut c.act.new.self c.args.text.now.items c.act.new.text.items (dues due) (gets_verdict s k c.args.message.now u))) verdict
    (subst (λ n. IfOk c.act.result (λ due. CarriesOut c.act.new.self c.args.text.now.items c.act.new.text.items (dues due)
    (and_then (record { state = with_peer (told (Came n v) k) s; said = silence k.name v }) (λ r. acts r (told (Came n v) k) c.args.message.now (step_of s k (Came n v)))))) h.0.clock
    (subst (λ st. IfOk c.act.result (λ due. CarriesOut c.act.new.self c.args.text.now.items c.act.new.text.items (dues due)
    (and_then (record { state = with_peer (told e k) s; said = silence k.name v }) (λ r. acts r (told e k) c.args.message.now st)))) w.1
    (if_ok c.act.result (λ due done. lines_carried c.act.new.self c.args.text.now.items _ c.act.new.text.items (dues due) (silence k.name v)
    (acts (with_peer (told e k) s) (told e k) c.args.message.now c.message-step.result) put done)
    (c.act.ensures (with_peer (told e k) s) (told e k) w.0)))))
