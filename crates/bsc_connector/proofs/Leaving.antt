-- How what is told leaves the sides of a connector.
-- It serves the clauses of `event`.
use Rattle.std.proofs.Common.{◌≡◌, ℕ, Bool, true, false, not, ◌||◌, ◌&&◌, cond, refl, sym}
use Rattle.std.proofs.lemmas.Bool.{false≢true}
use Rattle.bsc_connector.specs.declared.side.Side.{Side}
use Rattle.bsc_connector.specs.declared.side.Side.TheVariants.{Primary, Failover}
use Rattle.bsc_connector.specs.declared.event.ConnectorEvent.{ConnectorEvent}
use Rattle.bsc_connector.specs.declared.event.ConnectorEvent.TheVariants.{Start, Connected, Failed, Lost, Tick}
use Rattle.bsc_connector.specs.declared.side_state.Attempt.{Attempt}
use Rattle.bsc_connector.specs.declared.side_state.Attempt.TheVariants.{Idle, UnderWay, Up, Waiting}
use Rattle.bsc_connector.specs.declared.side_state.SideState.{SideState}
use Rattle.bsc_connector.specs.declared.waits.Waits.{Waits}
use Rattle.bsc_connector.specs.declared.connector.Connector.{Connector}
use Rattle.bsc_connector.specs.Left.{is_live, LeavesConnector}
use Rattle.bsc_connector.specs.Sides.{is_start, connects, fails, clears}
use Rattle.bsc_connector.specs.Steps.{has_come}
use Rattle.bsc_connector.specs.Standing.{attempt_at}
use Rattle.bsc_connector.specs.Kept.{says_up, says_due, says_under_way, says_idle, begun, attempt_begun, attempt_started, attempt_after_tick, primary_after, failover_after, step_kept}
use Rattle.bsc_lemmas.proofs.Booleans.{and_left as right_true}

-- what is kept, once this is told
abbrev pub told_kept : Connector → ℕ → ConnectorEvent → Connector
told_kept c now e = record { waits = c.waits; primary = primary_after c.waits now c.primary e; failover = failover_after c.waits now c.failover e }

come_under_way : (now : ℕ) (a : Attempt) → has_come now (says_due a) ≡ true → attempt_after_tick now a ≡ UnderWay
come_under_way now Idle h = absurd (false≢true h)
come_under_way now UnderWay h = absurd (false≢true h)
come_under_way now Up h = absurd (false≢true h)
come_under_way now (Waiting at) h = rw h refl

primary_dials : (w : Waits) (now : ℕ) (p f : SideState) (e : ConnectorEvent) → (is_start e ≡ true → p.attempt ≡ Idle) → (step_kept w now p.attempt f.attempt e).dial_primary ≡ true
    → (primary_after w now p e).attempt ≡ UnderWay
primary_dials w now p f Start idle h = rw (idle refl) refl
primary_dials w now p f (Connected s) idle h = absurd (false≢true h)
primary_dials w now p f (Failed s) idle h = absurd (false≢true h)
primary_dials w now p f (Lost s) idle h = absurd (false≢true h)
primary_dials w now p f Tick idle h = come_under_way now p.attempt h

left_true : (a b : Bool) → (a || (false && b)) ≡ true → a ≡ true
left_true true b h = refl
left_true false b h = h

begins_idle : (w : Waits) (b : Bool) (f : SideState) (a : Attempt) → f.attempt ≡ a → says_idle (record w { failover = b }) a ≡ true → (cond b (begun f) f).attempt ≡ UnderWay
begins_idle w true f Idle is h = rw is refl
begins_idle w true f UnderWay is h = absurd (false≢true h)
begins_idle w true f Up is h = absurd (false≢true h)
begins_idle w true f (Waiting at) is h = absurd (false≢true h)
begins_idle w false f a is h = absurd (false≢true h)

failover_dials : (w : Waits) (now : ℕ) (p f : SideState) (e : ConnectorEvent) → (step_kept w now p.attempt f.attempt e).dial_failover ≡ true → (failover_after w now f e).attempt ≡ UnderWay
failover_dials w now p f Start h = absurd (false≢true h)
failover_dials w now p f (Connected Primary) h = absurd (false≢true h)
failover_dials w now p f (Connected Failover) h = absurd (false≢true h)
failover_dials w now p f (Failed Primary) h = begins_idle w w.failover f f.attempt refl (left_true (says_idle w f.attempt) (not (says_up p.attempt)) h)
failover_dials w now p f (Failed Failover) h = absurd (false≢true h)
failover_dials w now p f (Lost Primary) h = begins_idle w w.failover f f.attempt refl (left_true (says_idle w f.attempt) (not (says_up p.attempt)) h)
failover_dials w now p f (Lost Failover) h = absurd (false≢true h)
failover_dials w now p f Tick h = come_under_way now f.attempt (right_true (has_come now (says_due f.attempt)) (not (says_up p.attempt)) h)

live_ticked : (now : ℕ) (a : Attempt) → is_live a ≡ true → attempt_after_tick now a ≡ a
live_ticked now Idle h = absurd (false≢true h)
live_ticked now UnderWay h = refl
live_ticked now Up h = refl
live_ticked now (Waiting at) h = absurd (false≢true h)

live_started : (a : Attempt) → is_live a ≡ true → attempt_started a ≡ a
live_started Idle h = absurd (false≢true h)
live_started UnderWay h = refl
live_started Up h = refl
live_started (Waiting at) h = absurd (false≢true h)

live_begun : (b : Bool) (f : SideState) → is_live f.attempt ≡ true → (cond b (begun f) f).attempt ≡ f.attempt
live_begun false f h = refl
live_begun true f h = by f.attempt h
  where
    by : (a : Attempt) → is_live a ≡ true → attempt_begun a ≡ a
    by Idle h = absurd (false≢true h)
    by UnderWay h = refl
    by Up h = refl
    by (Waiting at) h = absurd (false≢true h)

primary_keeps : (w : Waits) (now : ℕ) (p : SideState) (e : ConnectorEvent) → is_live p.attempt ≡ true → (clears Primary e || fails Primary e) ≡ false → (primary_after w now p e).attempt ≡ p.attempt
primary_keeps w now p Start live h = live_started p.attempt live
primary_keeps w now p (Connected Primary) live h = absurd (false≢true (sym h))
primary_keeps w now p (Connected Failover) live h = refl
primary_keeps w now p (Failed Primary) live h = absurd (false≢true (sym h))
primary_keeps w now p (Failed Failover) live h = refl
primary_keeps w now p (Lost Primary) live h = absurd (false≢true (sym h))
primary_keeps w now p (Lost Failover) live h = refl
primary_keeps w now p Tick live h = live_ticked now p.attempt live

failover_keeps : (w : Waits) (now : ℕ) (f : SideState) (e : ConnectorEvent) → is_live f.attempt ≡ true → (clears Failover e || fails Failover e) ≡ false
    → (failover_after w now f e).attempt ≡ f.attempt
failover_keeps w now f Start live h = refl
failover_keeps w now f (Connected Primary) live h = absurd (false≢true (sym h))
failover_keeps w now f (Connected Failover) live h = absurd (false≢true (sym h))
failover_keeps w now f (Failed Primary) live h = live_begun w.failover f live
failover_keeps w now f (Failed Failover) live h = absurd (false≢true (sym h))
failover_keeps w now f (Lost Primary) live h = live_begun w.failover f live
failover_keeps w now f (Lost Failover) live h = absurd (false≢true (sym h))
failover_keeps w now f Tick live h = live_ticked now f.attempt live

side_keeps : (w : Waits) (p f : SideState) (now : ℕ) (e : ConnectorEvent) (s : Side) → is_live (attempt_at (record { waits = w; primary = p; failover = f }) s) ≡ true
    → (clears s e || fails s e) ≡ false
    → attempt_at (told_kept (record { waits = w; primary = p; failover = f }) now e) s ≡ attempt_at (record { waits = w; primary = p; failover = f }) s
side_keeps w p f now e Primary live h = primary_keeps w now p e live h
side_keeps w p f now e Failover live h = failover_keeps w now f e live h

side_accepted : (w : Waits) (p f : SideState) (now : ℕ) (e : ConnectorEvent) (s : Side) → connects s e ≡ true → attempt_at (told_kept (record { waits = w; primary = p; failover = f }) now e) s ≡ Up
side_accepted w p f now (Connected Primary) Primary h = refl
side_accepted w p f now (Connected Failover) Failover h = refl
side_accepted w p f now (Connected Primary) Failover h = absurd (false≢true h)
side_accepted w p f now (Connected Failover) Primary h = absurd (false≢true h)
side_accepted w p f now Start s h = absurd (false≢true h)
side_accepted w p f now (Failed t) s h = absurd (false≢true h)
side_accepted w p f now (Lost t) s h = absurd (false≢true h)
side_accepted w p f now Tick s h = absurd (false≢true h)

live_dropped : (w : Waits) (now : ℕ) (p f : SideState) (e : ConnectorEvent) → connects Primary e ≡ true → is_live f.attempt ≡ true → (step_kept w now p.attempt f.attempt e).drop_failover ≡ true
live_dropped w now p f e c live = rw c (by f.attempt live)
  where
    by : (a : Attempt) → is_live a ≡ true → (says_up a || says_under_way a) ≡ true
    by Idle h = absurd (false≢true h)
    by UnderWay h = refl
    by Up h = refl
    by (Waiting at) h = absurd (false≢true h)

idle_stays : (w : Waits) (now : ℕ) (p : SideState) (e : ConnectorEvent) → p.attempt ≡ Idle → is_start e ≡ false → (clears Primary e || fails Primary e) ≡ false
    → (primary_after w now p e).attempt ≡ Idle
idle_stays w now p Start idle s h = absurd (false≢true (sym s))
idle_stays w now p (Connected Primary) idle s h = absurd (false≢true (sym h))
idle_stays w now p (Connected Failover) idle s h = idle
idle_stays w now p (Failed Primary) idle s h = absurd (false≢true (sym h))
idle_stays w now p (Failed Failover) idle s h = idle
idle_stays w now p (Lost Primary) idle s h = absurd (false≢true (sym h))
idle_stays w now p (Lost Failover) idle s h = idle
idle_stays w now p Tick idle s h = rw idle refl

pub left_by : (w : Waits) (p f : SideState) (now : ℕ) (e : ConnectorEvent)
    → LeavesConnector (record { waits = w; primary = p; failover = f }) e (step_kept w now p.attempt f.attempt e) (told_kept (record { waits = w; primary = p; failover = f }) now e)
left_by w p f now e = record {
  primary_dialled = primary_dials w now p f e;
  failover_dialled = failover_dials w now p f e;
  accepted = side_accepted w p f now e;
  kept = side_keeps w p f now e;
  drops = live_dropped w now p f e;
  untried = idle_stays w now p e;
}
