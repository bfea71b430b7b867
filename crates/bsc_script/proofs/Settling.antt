-- What the machine of a peer is told leaves the peer settled, unless it closes.
-- It serves clauses of functions of `script_hub`.
use Rattle.std.proofs.Common.{◌≡◌, ◌≢◌, ℕ, Bool, true, false, not, cond, ◌&&◌, List, [], ◌∷◌, ◌++◌, Some, None, true≢false, refl, ap, sym, ◌∙◌, subst}
use Rattle.std.proofs.lemmas.Bool.{and_parts}
use Rattle.bsc_history.specs.declared.limits.About.{About}
use Rattle.bsc_history.specs.declared.entry.Entry.{Entry}
use Rattle.bsc_history.specs.declared.ending.End.{End}
use Rattle.bsc_history.specs.declared.ending.End.TheVariants.{Left, Replaced, Full, Stopped}
use Rattle.bsc_history.specs.Laws.{is_among}
use Rattle.bsc_checks.specs.declared.phase.Phase.TheVariants.{AwaitingRequest}
use Rattle.bsc_accept.specs.declared.accepting.Accepting.{Accepting}
use Rattle.bsc_accept.specs.declared.start.Start.{Start}
use Rattle.bsc_accept.specs.declared.event.Event.{Event}
use Rattle.bsc_accept.specs.declared.event.Event.TheVariants.{Joined, Ended}
use Rattle.bsc_accept.specs.declared.step.Step.{Step}
use Rattle.bsc_accept.specs.declared.step.Step.TheVariants.{Ask, Put, PutClose, Up, Close, Nothing}
use Rattle.bsc_accept.specs.Past.{Standing, awaiting_request, connected, disconnecting, standing, phase, phase_named, until_farewell, farewell_at, is_joined}
use Rattle.bsc_accept.specs.Steps.{closes, tick_step, ended_step}
use Rattle.bsc_accept.specs.Waits.{connect_wait_is_over, is_idle, disconnect_wait_is_over}
use Rattle.bsc_accept.specs.Standing.{AcceptingStands, LeavesAccepting, IsConnected, is_open, stage}
use Rattle.bsc_accept.specs.Kept.{moved, standing_at}
use Rattle.bsc_accept.proofs.Looking.{standing-more}
use Rattle.bsc_accept.proofs.Following.{standing_of_open, connected_stage}
use Rattle.bsc_script.specs.States.{Peer, start_at, told}
use Rattle.bsc_script.specs.Emptying.{is_connected, due_after}
use Rattle.bsc_script.specs.Settled.{IsSettledBut}

-- ---- steps

-- whether a step asks about a peer
abbrev pub asks : Step → Bool
asks (Ask who) = true
asks other = false

-- A machine that made a step which neither closes nor asks is open.
pub open_after : (answer : Step) (m : Accepting) → LeavesAccepting answer m → closes answer ≡ false → asks answer ≡ false → is_open m.stage ≡ true
open_after (Ask who) m h c a = absurd (true≢false a)
open_after (Put octets) m h c a = h
open_after (PutClose octets x) m h c a = absurd (true≢false c)
open_after Up m h c a = h
open_after (Close x) m h c a = absurd (true≢false c)
open_after Nothing m h c a = h

close_or_nothing : (b : Bool) (x : Step) → asks x ≡ false → asks (cond b x Nothing) ≡ false
close_or_nothing true x h = h
close_or_nothing false x h = refl

pub tick_asks : (s : Start) (last now : ℕ) (g : Standing) → asks (tick_step s last now g) ≡ false
tick_asks s last now awaiting_request = close_or_nothing (connect_wait_is_over s now) _ refl
tick_asks s last now connected = close_or_nothing (is_idle s last now) _ refl
tick_asks s last now (disconnecting f) = close_or_nothing (disconnect_wait_is_over s f now) _ refl

pub ended_asks : (ending : End) → asks (ended_step ending) ≡ false
ended_asks Left = refl
ended_asks Replaced = refl
ended_asks Full = refl
ended_asks Stopped = refl

-- ---- phases

still : (g : Standing) (e : Event) → is_joined e ≡ false → farewell_at e ≡ None → moved g e ≡ g
still awaiting_request e j f = ap (λ (b : Bool). cond b connected awaiting_request) j
still connected e j f = ap until_farewell f
still (disconnecting x) e j f = refl

-- An event by which nobody joins, and no Disconnect-Request goes out, leaves the phase.
pub same_phase : (E : List Event) (e : Event) → is_joined e ≡ false → farewell_at e ≡ None → phase (E ++ e ∷ []) ≡ phase E
same_phase E e j f = ap phase_named (standing-more E e ∙ still (standing E) e j f)

awaits_not : (g : Standing) → phase_named (moved g Joined) ≢ AwaitingRequest
awaits_not awaiting_request e = cc
awaits_not connected e = cc
awaits_not (disconnecting f) e = cc

parted : (now : ℕ) (ending : End) → closes (ended_step ending) ≡ false → ending ≢ Left → (phase_named (moved connected (Ended now ending)) ≢ AwaitingRequest)
    × (is_connected (phase_named (moved connected (Ended now ending))) ≡ false)
parted now Left c l = absurd (l refl)
parted now Replaced c l = ((λ e. cc), refl)
parted now Full c l = absurd (true≢false c)
parted now Stopped c l = ((λ e. cc), refl)

-- A machine that is connected has had no Disconnect-Request go out.
pub connected_standing : (m : Accepting) (s : Start) (E : List Event) → AcceptingStands m s E → IsConnected m → standing E ≡ connected
connected_standing m s E h c =
    let at = connected_stage m.stage c in
    standing_of_open m s E h (ap is_open at) ∙ ap standing_at at

-- ---- settled still

-- By such an event, where the machine is open after it.
pub settled_told : (cs : List ℕ) (a : About) (H : List Entry) (k : Peer) (e : Event) → IsSettledBut cs a H k → is_joined e ≡ false → farewell_at e ≡ None
    → is_open (stage (start_at a k) (k.events ++ e ∷ [])) ≡ true → IsSettledBut cs a H (told e k)
settled_told cs a H k e h j f opened =
    let same : phase (k.events ++ e ∷ []) ≡ phase k.events = same_phase k.events e j f in
    record {
      ready = opened;
      fits = ((λ n. same ∙ h.fits.0 n), (λ p. h.fits.1 (sym same ∙ p)));
      emptied = λ c n w. h.emptied c n (sym (ap (λ p. is_connected p && not k.held && due_after a H k c) same) ∙ w);
    }

-- Who joined is settled, unless something is due for it that isn't among these.
pub settled_joined : (cs : List ℕ) (a : About) (H : List Entry) (k : Peer) (c : ℕ) → k.conn ≡ Some c
    → (k.held ≡ false → due_after a H k c ≡ true → is_among c cs ≡ true)
    → is_open (stage (start_at a k) (k.events ++ Joined ∷ [])) ≡ true → IsSettledBut cs a H (told Joined k)
settled_joined cs a H k c conn due opened = record {
  ready = opened;
  fits = ((λ n. absurd (has c (sym conn ∙ n))), (λ p. absurd (awaits_not (standing k.events) (sym (ap phase_named (standing-more k.events Joined)) ∙ p))));
  emptied = λ b n w. (
      let same : c ≡ b = one c b (sym conn ∙ n) in
      let parts = and_parts (is_connected (phase (k.events ++ Joined ∷ [])) && not k.held) (due_after a H k b) w in
      let more = and_parts (is_connected (phase (k.events ++ Joined ∷ []))) (not k.held) parts.0 in
      subst (λ d. is_among d cs ≡ true) same (due (free k.held more.1) (subst (λ d. due_after a H k d ≡ true) (sym same) parts.1)));
}
  where
    has : (c : ℕ) → Some c ≡ None → ⊥
    has c e = cc

    one : (a b : ℕ) → Some a ≡ Some b → a ≡ b
    one a b e = cc

    free : (b : Bool) → not b ≡ true → b ≡ false
    free true e = sym e
    free false e = refl

-- Whose connection ended, and who isn't closed, is settled: its phase isn't Connected any more.
pub settled_ended : (cs : List ℕ) (a : About) (H : List Entry) (k : Peer) (c now : ℕ) (ending : End) → k.conn ≡ Some c → standing k.events ≡ connected
    → ending ≢ Left → closes (ended_step ending) ≡ false
    → is_open (stage (start_at a k) (k.events ++ Ended now ending ∷ [])) ≡ true → IsSettledBut cs a H (told (Ended now ending) k)
settled_ended cs a H k c now ending conn at left open_step opened =
    let next : phase (k.events ++ Ended now ending ∷ []) ≡ phase_named (moved connected (Ended now ending)) =
    ap phase_named (standing-more k.events (Ended now ending) ∙ ap (λ g. moved g (Ended now ending)) at) in
    let p = parted now ending open_step left in
    record {
      ready = opened;
      fits = ((λ n. absurd (has c (sym conn ∙ n))), (λ q. absurd (p.0 (sym next ∙ q))));
      emptied = λ b n w. absurd (true≢false (sym w ∙ ap (λ t. t && not k.held && due_after a H k b) (ap is_connected next ∙ p.1)));
    }
  where
    has : (c : ℕ) → Some c ≡ None → ⊥
    has c e = cc
