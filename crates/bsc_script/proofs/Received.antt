-- What the step of a machine at a message asks of its peer.
-- It serves the clauses of `act` and `receive`.
use Rattle.std.proofs.Common.{◌≡◌, ℕ, true, false, List, [], ◌∷◌, ◌++◌, set, slice_get, Some, Vec, Global, true≢false, refl, ap, sym, ◌∙◌, subst}
use Rattle.bsc_octets.specs.declared.identity.Identity.{Identity}
use Rattle.bsc_octets.specs.Addresses.{zero_vmac, broadcast}
use Rattle.bsc_checks.specs.declared.phase.Phase.{Phase}
use Rattle.bsc_checks.specs.declared.place.Place.TheVariants.{HubPort}
use Rattle.bsc_checks.specs.declared.verdict.Verdict.{Verdict}
use Rattle.bsc_checks.specs.Verdicts.{Judged}
use Rattle.bsc_accept.specs.declared.accepting.Accepting.{Accepting}
use Rattle.bsc_accept.specs.declared.event.Event.TheVariants.{Message as Came}
use Rattle.bsc_accept.specs.declared.step.Step.{Step}
use Rattle.bsc_accept.specs.declared.step.Step.TheVariants.{Ask, Put, PutClose, Up, Close, Nothing}
use Rattle.bsc_accept.specs.Past.{standing, phase, phase_named}
use Rattle.bsc_accept.specs.Steps.{closes, message_step}
use Rattle.bsc_accept.specs.declared.event.Event.{Event}
use Rattle.bsc_accept.specs.declared.start.Start.{Start}
use Rattle.bsc_accept.specs.Standing.{AcceptingAnswers, LeavesAccepting, IsOver, AwaitsAnswer, AcceptingStands, is_open}
use Rattle.bsc_script.specs.declared.peer.Peer.{Peer as KeptPeer}
use Rattle.bsc_script.specs.declared.script_hub.ScriptHub.{ScriptHub}
use Rattle.bsc_script.specs.States.{State, Peer, start_at, told, with_peer}
use Rattle.bsc_script.specs.Settled.{IsSettledBut}
use Rattle.bsc_script.specs.Carrying.{step_of, does}
use Rattle.bsc_script.specs.Receiving.{acts}
use Rattle.bsc_script.specs.Holding.{AsksOf, AwaitsStep, IsAt, ScriptHolds, kept_in}
use Rattle.indexmap.specs.IndexMap.{with_value_at}
use Rattle.bsc_script.proofs.Changes.{kept, kept_with, told_at, at_settled, settled_one}
use Rattle.bsc_script.proofs.Ready.{machine_at, open_at}
use Rattle.bsc_script.proofs.Pairs.{get-map}
use Rattle.bsc_script.proofs.Judging.{routed, asking_node, other_vmac}
use Rattle.bsc_script.proofs.Settling.{settled_told}
use Rattle.bsc_accept.proofs.Common.{asks_by, carries_by}
use Rattle.bsc_lemmas.proofs.Lists.{get-set}
use Rattle.std.proofs.lemmas.Option.{same_Some as one_some}

-- ---- which messages lead to which steps

-- ---- what is asked

-- The peer was told of the message, and the step is its machine's.
pub asked_of : (n : ScriptHub) (at : ℕ) (m : List ℕ) (phase : Phase) (max now : ℕ) (s : State) (k : Peer) (v : Verdict) (es : List (List ℕ × KeptPeer)) (x y : List ℕ × KeptPeer) (step : Step)
    → Judged m (HubPort phase) max v → IsSettledBut [] s.about s.history k → step ≡ message_step (standing k.events) v
    → AcceptingStands y.1.machine (start_at s.about k) (k.events ++ Came now v ∷ []) → LeavesAccepting step y.1.machine → slice_get es at ≡ Some x → kept_in n ≡ set es at y
    → AsksOf n at m (with_peer (told (Came now v) k) s) (told (Came now v) k) step
asked_of n at m phase max now s k v es x y (Ask who) judged own is stands left was kept_so =
    let a = asks_by (standing k.events) v who is in
    let node = asking_node m phase max a.0 who (subst (Judged m (HubPort phase) max) a.1 judged) a.3 in (
      other_vmac who.vmac zero_vmac node.reserved,
      other_vmac who.vmac broadcast node.broadcast,
      (λ e here. subst (λ z. AwaitsAnswer z.1.machine) (one_some y e (sym (ap (λ l. slice_get l at) kept_so ∙ get-set es at x y was) ∙ here)) left),
      own.fits.1 (ap phase_named a.2),
    )
asked_of n at m phase max now s k v es x y Up judged own is stands left was kept_so =
    let a = carries_by (standing k.events) v is in
    (routed m phase max a.0 (subst (Judged m (HubPort phase) max) a.1 judged), settled_told [] s.about s.history k (Came now v) own refl refl (sym (ap is_open stands.stage) ∙ left))
asked_of n at m phase max now s k v es x y (Put octets) judged own is stands left was kept_so =
    λ still. settled_told [] s.about s.history k (Came now v) own refl refl (sym (ap is_open stands.stage) ∙ left)
asked_of n at m phase max now s k v es x y (PutClose octets c) judged own is stands left was kept_so = λ still. absurd (true≢false still)
asked_of n at m phase max now s k v es x y (Close c) judged own is stands left was kept_so = λ still. absurd (true≢false still)
asked_of n at m phase max now s k v es x y Nothing judged own is stands left was kept_so =
    λ still. settled_told [] s.about s.history k (Came now v) own refl refl (sym (ap is_open stands.stage) ∙ left)

-- The machine of the peer at a place is told a message: its step is to be carried out.
pub awaits : (t n : ScriptHub) (s : State) (at : ℕ) (m : List ℕ) (k : Peer) (x : Vec ℕ Global × KeptPeer) (v : Verdict) (machine : Accepting) (step : Step) (phase : Phase) (max : ℕ)
    → ScriptHolds t s → IsAt at k s → slice_get t.peers.entries at ≡ Some x → AcceptingAnswers x.1.machine machine (Came t.clock v) step → LeavesAccepting step machine → Judged m (HubPort phase) max v
    → n.core ≡ t.core → n.about ≡ t.about → n.clock ≡ t.clock → n.names ≡ t.names → n.peers ≡ with_value_at t.peers at (record x.1 { machine = machine })
    → AwaitsStep n at m (with_peer (told (Came t.clock v) k) s) (told (Came t.clock v) k) step × (step ≡ step_of s k (Came t.clock v))
awaits t n s at m k x v machine step phase max h here was answers left judged core about clock names new =
    let a = told_at t n s at [] k x (Came t.clock v) machine step (at_settled t at [] s k h.0 h.1 here) was answers core about clock names new in (
      (
        a.0,
        asked_of n at m phase max t.clock s k v (kept_in t) (kept x) (x.0.items, record x.1 { machine = machine }) step judged (settled_one at [] s k h.1 here) a.1 a.2 left
            (get-map kept t.peers.entries at x was) (kept_with t n at x (record x.1 { machine = machine }) was new),
      ),
      a.1,
    )

-- The phase in which a message is judged is the one of all that the peer was told.
pub judged_phase : (t : ScriptHub) (s : State) (at : ℕ) (k : Peer) (x : Vec ℕ Global × KeptPeer) (p : KeptPeer) (phase_result : Phase) → ScriptHolds t s → IsAt at k s
    → slice_get t.peers.entries at ≡ Some x → p ≡ x.1
    → ((i : Start) (E : List Event) → AcceptingStands p.machine i E → ¬ IsOver p.machine → phase_result ≡ phase E) → phase_result ≡ phase k.events
judged_phase t s at k x p phase_result h here was is told_so =
    let m : AcceptingStands p.machine (start_at s.about k) k.events = subst (λ (q : KeptPeer). AcceptingStands q.machine (start_at s.about k) k.events) (sym is) (machine_at t s at k x h.0 here was) in
    let opened : is_open p.machine.stage ≡ true = ap (λ (q : KeptPeer). is_open q.machine.stage) is ∙ open_at t s at [] k x h.0 here was (settled_one at [] s k h.1 here) in
    told_so (start_at s.about k) k.events m (λ over. true≢false (sym opened ∙ ap is_open over))

-- ---- the other steps

-- A step that neither asks nor carries is carried out as it is.
pub acts_other : (s : State) (k : Peer) (m : List ℕ) (step : Step) → ((who : Identity) → step ≡ Ask who → ⊥) → (step ≡ Up → ⊥) → acts s k m step ≡ does s k step
acts_other s k m (Ask who) asks carries = absurd (asks who refl)
acts_other s k m Up asks carries = absurd (carries refl)
acts_other s k m (Put octets) asks carries = refl
acts_other s k m (PutClose octets c) asks carries = refl
acts_other s k m (Close c) asks carries = refl
acts_other s k m Nothing asks carries = refl

pub own_other : (t : ScriptHub) (at : ℕ) (m : List ℕ) (s : State) (k : Peer) (step : Step) → ((who : Identity) → step ≡ Ask who → ⊥) → (step ≡ Up → ⊥) → AsksOf t at m s k step
    → closes step ≡ false → IsSettledBut [] s.about s.history k
own_other t at m s k (Ask who) asks carries h = absurd (asks who refl)
own_other t at m s k Up asks carries h = absurd (carries refl)
own_other t at m s k (Put octets) asks carries h = h
own_other t at m s k (PutClose octets c) asks carries h = h
own_other t at m s k (Close c) asks carries h = h
own_other t at m s k Nothing asks carries h = h
