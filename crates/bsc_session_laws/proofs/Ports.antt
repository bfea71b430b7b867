-- A session does what its port does.
-- It serves the clauses of `sessions_follow_ports`.
use Rattle.std.proofs.Common.{◌≡◌, ℕ, true, is_none, ◌&&◌, List, [], Option, Some, None, Ok, refl}
use Rattle.bsc_octets.specs.declared.identity.Identity.{Identity}
use Rattle.bsc_lines.specs.declared.denial.Denial.{Denial}
use Rattle.bsc_checks.specs.declared.verdict.Verdict.{Verdict}
use Rattle.bsc_checks.specs.declared.verdict.Verdict.TheVariants.{Pass, Carry, Silent, Nak}
use Rattle.bsc_accept.specs.declared.event.Event.TheVariants.{Message as Came}
use Rattle.bsc_accept.specs.declared.step.Step.{Step}
use Rattle.bsc_accept.specs.declared.step.Step.TheVariants.{Ask, Put, PutClose, Up, Close, Nothing}
use Rattle.bsc_port.specs.declared.action.PortAction.TheVariants.{Connect}
use Rattle.bsc_port.specs.declared.event.PortEvent.{PortEvent}
use Rattle.bsc_port.specs.Actions.{action_by, connect_by, forward_by, machine_event, output_of}
use Rattle.bsc_port.specs.Guarding.{denied_connect, denied_message}
use Rattle.bsc_edge.specs.declared.incoming.Incoming.TheVariants.{Message}
use Rattle.bsc_session.specs.Answering.{calls_hub, denied_in, last_wanted}
use Rattle.bsc_session.specs.Judging.{verdict_on}
use Rattle.bsc_session.specs.Puts.{octets_in}
use Rattle.bsc_session.specs.Standings.{Standing, Terms, wanted}
use Rattle.bsc_session.specs.Stops.{closing_in}
use Rattle.bsc_session_laws.specs.Ports.{FollowsEvent, FollowsPort, closing_by, closing_of, denial_by, is_call, octets_by, octets_of}

-- ---- what follows a step

connect_calls : (d : Option Denial) (who : Identity) → is_none d && true ≡ is_call (connect_by d who)
connect_calls None who = refl
connect_calls (Some d) who = refl

forward_calls : (d : Option Denial) → is_none d && true ≡ is_call (forward_by d)
forward_calls None = refl
forward_calls (Some d) = refl

pub step_calls : (v : Terms) (s : Standing) (m : List ℕ) (x : Verdict) (st : Step) → calls_hub v s st (Ok (Message m)) ≡ is_call (action_by v.policy s.address m x st)
step_calls v s m x (Ask who) = connect_calls (denied_connect v.policy who) who
step_calls v s m x Up = forward_calls (denied_message v.policy s.address m)
step_calls v s m x (Put octets) = refl
step_calls v s m x (PutClose octets c) = refl
step_calls v s m x (Close c) = refl
step_calls v s m (Pass msg) Nothing = refl
step_calls v s m (Carry e) Nothing = refl
step_calls v s m (Silent check) Nothing = refl
step_calls v s m (Nak check octets) Nothing = refl

connect_denies : (d : Option Denial) (who : Identity) → d ≡ denial_by (connect_by d who)
connect_denies None who = refl
connect_denies (Some d) who = refl

forward_denies : (d : Option Denial) → d ≡ denial_by (forward_by d)
forward_denies None = refl
forward_denies (Some d) = refl

pub step_denies : (v : Terms) (s : Standing) (m : List ℕ) (x : Verdict) (st : Step) → denied_in v s st (Ok (Message m)) ≡ denial_by (action_by v.policy s.address m x st)
step_denies v s m x (Ask who) = connect_denies (denied_connect v.policy who) who
step_denies v s m x Up = forward_denies (denied_message v.policy s.address m)
step_denies v s m x (Put octets) = refl
step_denies v s m x (PutClose octets c) = refl
step_denies v s m x (Close c) = refl
step_denies v s m (Pass msg) Nothing = refl
step_denies v s m (Carry e) Nothing = refl
step_denies v s m (Silent check) Nothing = refl
step_denies v s m (Nak check octets) Nothing = refl

connect_asks : (d : Option Denial) (w who : Identity) → connect_by d w ≡ Connect who → Ask w ≡ Ask who
connect_asks None w who h = cc
connect_asks (Some d) w who h = cc

no_asks : (d : Option Denial) (who : Identity) → forward_by d ≡ Connect who → ⊥
no_asks None who h = cc
no_asks (Some d) who h = cc

pub step_asks : (v : Terms) (s : Standing) (m : List ℕ) (x : Verdict) (st : Step) (who : Identity) → action_by v.policy s.address m x st ≡ Connect who → st ≡ Ask who
step_asks v s m x (Ask w) who h = connect_asks (denied_connect v.policy w) w who h
step_asks v s m x Up who h = absurd (no_asks (denied_message v.policy s.address m) who h)
step_asks v s m x (Put octets) who h = cc
step_asks v s m x (PutClose octets c) who h = cc
step_asks v s m x (Close c) who h = cc
step_asks v s m (Pass msg) Nothing who h = cc
step_asks v s m (Carry e) Nothing who h = cc
step_asks v s m (Silent check) Nothing who h = cc
step_asks v s m (Nak check octets) Nothing who h = cc

connect_puts : (d : Option Denial) (who : Identity) → ([] ≡ octets_by (connect_by d who)) × (None ≡ closing_by (connect_by d who))
connect_puts None who = (refl, refl)
connect_puts (Some d) who = (refl, refl)

forward_puts : (d : Option Denial) → ([] ≡ octets_by (forward_by d)) × (None ≡ closing_by (forward_by d))
forward_puts None = (refl, refl)
forward_puts (Some d) = (refl, refl)

pub step_puts : (v : Terms) (s : Standing) (m : List ℕ) (x : Verdict) (st : Step)
    → (octets_in (last_wanted v s st None) ≡ octets_by (action_by v.policy s.address m x st)) × (closing_in (last_wanted v s st None) ≡ closing_by (action_by v.policy s.address m x st))
step_puts v s m x (Ask who) = connect_puts (denied_connect v.policy who) who
step_puts v s m x Up = forward_puts (denied_message v.policy s.address m)
step_puts v s m x (Put octets) = (refl, refl)
step_puts v s m x (PutClose octets c) = (refl, refl)
step_puts v s m x (Close c) = (refl, refl)
step_puts v s m (Pass msg) Nothing = (refl, refl)
step_puts v s m (Carry e) Nothing = (refl, refl)
step_puts v s m (Silent check) Nothing = (refl, refl)
step_puts v s m (Nak check octets) Nothing = (refl, refl)

-- ---- what follows an event

step_does : (st : Step) → (octets_in st ≡ octets_of (output_of st)) × (closing_in st ≡ closing_of (output_of st))
step_does (Ask who) = (refl, refl)
step_does (Put octets) = (refl, refl)
step_does (PutClose octets c) = (refl, refl)
step_does Up = (refl, refl)
step_does (Close c) = (refl, refl)
step_does Nothing = (refl, refl)

-- ---- the session

pub follows : (v : Terms) (s : Standing) (now : ℕ) (m : List ℕ) → FollowsPort v s now m
follows v s now m =
    let x = verdict_on v s m in
    let st = wanted v s (Came now x) in
    record {
      told = refl;
      calls = step_calls v s m x st;
      denies = step_denies v s m x st;
      asks = λ who h. step_asks v s m x st who h;
      puts = (step_puts v s m x st).0;
      closes = (step_puts v s m x st).1;
    }

pub follows_event : (v : Terms) (s : Standing) (e : PortEvent) → FollowsEvent v s e
follows_event v s e =
    let does = step_does (wanted v s (machine_event e)) in
    record { puts = does.0; closes = does.1 }
