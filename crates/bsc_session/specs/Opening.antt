-- How a turn is opened: the machine is told the time, and in Connected the frames are taken and the End is met. No public
-- clause cites it.
use Rattle.std.specs.Prelude.{◌≡◌, ◌≢◌, ◌≤◌, ◌+◌, ℕ, nat_lt, if◌then◌else◌, ◌&&◌, is_none, map, List, ◌++◌, length, Option, Some, None, Result, ⊤}
use Rattle.bsc_history.specs.declared.ending.End.{End}
use Rattle.bsc_edge.specs.declared.fault.LinkFault.{LinkFault}
use Rattle.bsc_edge.specs.Told.{Grows}
use Rattle.bsc_accept.specs.declared.event.Event.TheVariants.{Tick}
use Rattle.bsc_history.specs.declared.ending.End.TheVariants.{Left}
use Rattle.bsc_ring.specs.Ends.{outlet_mark}
use Rattle.bsc_session.specs.declared.bounds.TheConstants.{TAKES}
use Rattle.bsc_session.specs.declared.session_state.SessionState.{SessionState}
use Rattle.bsc_session.specs.declared.backlog.Backlog.{Backlog}
use Rattle.bsc_session.specs.declared.membership.Membership.{Membership}
use Rattle.bsc_session.specs.declared.stop.Stop.{Stop}
use Rattle.bsc_session.specs.declared.taken.Taken.{Taken}
use Rattle.bsc_policy.specs.declared.policy.Policy.{Policy}
use Rattle.bsc_session.specs.Notes.Notes.{HasLine, Records, denied}
use Rattle.bsc_session.specs.Guarding.{denials, let_through}
use Rattle.bsc_session.specs.Puts.{HasPut, octets_in, puts}
use Rattle.bsc_session.specs.Standings.{Standing, Terms, is_connected, told, wanted}
use Rattle.bsc_session.specs.Reading.{ticked}
use Rattle.bsc_session.specs.Taking.{IsOpening, Opening, count_of, end_step, end_told, ended_by, last_alone, last_of, may_be_more, noted_last, noted_of}
use Rattle.bsc_session.specs.Taking.{notes_opening, opened, passing, put_first, stop_before, waiting_for}
use Rattle.bsc_session.specs.Stops.{closes, closing_in, first_of, stop_if, stop_lost}
use Rattle.bsc_session.specs.CarryingOut.{TellsMore, stop_of}
use Rattle.bsc_session.specs.Following.{Follows, HasFound, SessionRuns, address_by, empties_by, given_by}
use Rattle.bsc_session.specs.TakingFrames.{FitsCount, cut_in, met_in, nothing_found, unput_in}
use Rattle.bsc_session.specs.Moments.{Traces}

-- The same connection, from whose outbox more was taken.
abbrev pub SameMember : Option Membership → Option Membership → Type 0
SameMember None None = ⊤
SameMember (Some m) (Some n) = (n.conn ≡ m.conn) × (n.address ≡ m.address) × (outlet_mark n.outlet ≡ outlet_mark m.outlet)
SameMember m n = ⊥

-- Frames were taken from a connection's outlet.
pub record TakesFrom (policy : Option Policy) (m n : Option Membership) (before after : Traces) (taken : Taken) : Type 0 where
  pub frames : List (List ℕ)
  pub same : SameMember m n
  pub keeps : (e : Option End) → HasFound e m → HasFound e n
  pub found : (e : End) → met_in taken ≡ Some e → HasFound (Some e) n
  pub left : (e : End) → met_in taken ≡ Some e → e ≢ Left
  pub gave : given_by n ≡ given_by m ++ frames
  pub empties : empties_by n ≡ empties_by m + nothing_found frames (met_in taken) (is_none (cut_in taken) && is_none (unput_in taken))
  pub few : length frames + count_of (met_in taken) ≤ TAKES
  pub fits : FitsCount taken frames
  pub said : Grows before.talk after.talk (puts (let_through policy (address_by m) frames) (cut_in taken))
  pub cause : HasPut (let_through policy (address_by m) (last_alone frames)) (cut_in taken)
  pub records : Records before.held after.held (map denied (denials policy (address_by m) frames)) (unput_in taken)
  pub line : HasLine (map denied (denials policy (address_by m) (last_alone frames))) (unput_in taken)

-- The machine was told an End.
pub record MeetsEnd (v : Terms) (s : Standing) (now : ℕ) (e : End) (a b : SessionState) (stop : Option Stop) : Type 0 where
  pub member : b.member ≡ a.member
  pub ended : b.ended ≡ Some e
  pub receives : b.receives ≡ a.receives
  pub runs : stop ≡ None → SessionRuns v b (end_told s now (Some e))

-- The machine was told the time.
pub record Ticks (v : Terms) (s : Standing) (now : ℕ) (a b : SessionState) (stop : Option Stop) : Type 0 where
  pub member : b.member ≡ a.member
  pub stops : stop ≡ closes (waiting_for s.conn) (closing_in (wanted v s (Tick now)))
  pub follows : Follows b (told s (Tick now))
  pub runs : stop ≡ None → SessionRuns v b (told s (Tick now))

-- In Connected the frames were taken and the End was met, after the reading.
pub record Attends (v : Terms) (s : Standing) (now : ℕ) (a b : SessionState) (before after : Traces) (result : Result Backlog Stop) : Type 0 where
  pub frames : List (List ℕ)
  pub met : Option End
  pub lost : Option LinkFault
  pub fault : Option LinkFault
  pub same : SameMember a.member b.member
  pub gave : given_by b.member ≡ given_by a.member ++ frames
  pub empties : empties_by b.member ≡ empties_by a.member + nothing_found frames met (is_none (stop_of result))
  pub few : length frames + count_of met ≤ TAKES
  pub left : met ≢ Some Left
  pub said : Grows before.talk after.talk (puts (passing v s frames ++ octets_in (end_step v s now met)) fault)
  pub cause : HasPut (last_of (passing v s (last_alone frames)) (octets_in (end_step v s now met)) met) fault
  pub records : Records before.held after.held (noted_of v s frames) lost
  pub line : HasLine (noted_last met (noted_of v s (last_alone frames))) lost
  pub stops : stop_of result ≡ first_of (stop_lost lost) (first_of (stop_if fault) (closes (ended_by met) (closing_in (end_step v s now met))))
  pub more : TellsMore result (may_be_more frames met)
  pub follows : Follows b (end_told s now met)
  pub runs : stop_of result ≡ None → SessionRuns v b (end_told s now met)

-- one for an opening in Connected that goes on and found the outbox empty
abbrev pub empties_opening : Terms → Standing → Opening → ℕ
empties_opening v s o = if is_none o.met && (is_none (stop_before v s o) && (is_connected (ticked s o.reading) && nat_lt (length o.frames) TAKES)) then 1 else 0

-- A turn was opened.
pub record Opens (v : Terms) (s : Standing) (now : ℕ) (a b : SessionState) (before after : Traces) (result : Result Backlog Stop) : Type 0 where
  pub opening : Opening
  pub read : opening.reading ≡ now
  pub is : IsOpening v s opening
  pub same : SameMember a.member b.member
  pub gave : given_by b.member ≡ given_by a.member ++ opening.frames
  pub empties : empties_by b.member ≡ empties_by a.member + empties_opening v s opening
  pub said : Grows before.talk after.talk (puts (put_first v s opening) opening.fault)
  pub records : Records before.held after.held (notes_opening v s opening) opening.lost
  pub stops : stop_of result ≡ stop_before v s opening
  pub more : TellsMore result (may_be_more opening.frames opening.met)
  pub follows : Follows b (opened s opening)
  pub runs : stop_of result ≡ None → SessionRuns v b (opened s opening)
