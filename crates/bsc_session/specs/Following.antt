-- The code stands where the session stands. No public clause cites it.
use Rattle.std.specs.Prelude.{◌≡◌, ℕ, Bool, true, false, is_some, List, [], Option, Some, None, ⊤}
use Rattle.bsc_octets.specs.declared.vmac.Vmac.{Vmac}
use Rattle.bsc_history.specs.declared.ending.End.{End}
use Rattle.bsc_history.specs.Marks.{mark_of}
use Rattle.bsc_accept.specs.Past.{Standing as MachineStanding, awaiting_request, connected, disconnecting, standing}
use Rattle.bsc_accept.specs.Standing.{AcceptingStands, IsOpen}
use Rattle.bsc_ring.specs.declared.ends.Outlet.{Outlet}
use Rattle.bsc_ring.specs.Ends.{FoundEnd, empties_of, given, known_pushed, knows_all, outlet_mark}
use Rattle.bsc_turn.specs.declared.pass.Pass.{Pass}
use Rattle.bsc_turn.specs.Passes.{number_of, seen}
use Rattle.bsc_hub.specs.declared.hub.Hub.{Hub}
use Rattle.bsc_hub.specs.Passing.{IsCaller, IsOwnAs}
use Rattle.bsc_session.specs.declared.session_state.SessionState.{SessionState}
use Rattle.bsc_session.specs.declared.membership.Membership.{Membership}
use Rattle.bsc_session.specs.Standings.{Standing, Terms, start_of}

-- the number of a connection, what its outlet gave, and how often that found nothing
abbrev pub conn_of : Option Membership → Option ℕ
conn_of None = None
conn_of (Some m) = Some m.conn

abbrev pub address_by : Option Membership → Option Vmac
address_by None = None
address_by (Some m) = Some m.address

abbrev pub given_by : Option Membership → List (List ℕ)
given_by None = []
given_by (Some m) = given m.outlet

abbrev pub empties_by : Option Membership → ℕ
empties_by None = 0
empties_by (Some m) = empties_of m.outlet

-- The pass's caller joined the connection under its address, and the history keeps the mark of its outlet.
abbrev pub IsMember : Pass → Option Membership → Type 0
IsMember p None = ⊤
IsMember p (Some m) = IsOwnAs p m.conn m.address × (mark_of (seen p) m.conn ≡ Some (outlet_mark m.outlet))

-- The outlet's loads found this End, and it gave all that was pushed.
abbrev pub OutletHasEnded : Outlet → End → Type 0
OutletHasEnded o e = FoundEnd o e × (knows_all o ≡ true) × (known_pushed o ≡ given o)

-- An End that was met was found by the outlet, which had then given all.
abbrev pub HasFound : Option End → Option Membership → Type 0
HasFound None m = ⊤
HasFound (Some e) None = ⊥
HasFound (Some e) (Some m) = OutletHasEnded m.outlet e

-- The code stands where the session stands, but for its machine and its pass.
pub record Follows (a : SessionState) (s : Standing) : Type 0 where
  pub conn : conn_of a.member ≡ s.conn
  pub address : address_by a.member ≡ s.address
  pub ended : a.ended ≡ s.ended
  pub receives : a.receives ≡ s.receives
  pub found : HasFound a.ended a.member

-- The same, and the pass is the session's, with its connection.
pub record Held (h : Hub) (v : Terms) (p : Pass) (a : SessionState) (s : Standing) : Type 0 where
  pub caller : IsCaller h p
  pub number : number_of p ≡ v.caller
  pub member : IsMember p a.member
  pub follows : Follows a s

-- a connection has been made, and its end may be under way
abbrev pub has_joined : MachineStanding → Bool
has_joined awaiting_request = false
has_joined connected = true
has_joined (disconnecting f) = true

-- The machine has joined exactly where the session has a connection.
abbrev pub Tied : Standing → Type 0
Tied s = has_joined (standing s.events) ≡ is_some s.conn

-- The machine stands where the session stands, and is open.
pub record SessionRuns (v : Terms) (a : SessionState) (s : Standing) : Type 0 where
  pub machine : AcceptingStands a.machine (start_of v s) s.events
  pub waits : IsOpen a.machine
  pub tied : Tied s

-- Some session stands where the code stands.
abbrev pub HasStanding : Hub → Pass → SessionState → Type 0
HasStanding h p a = (v : Terms) × (s : Standing) × Held h v p a s × SessionRuns v a s

abbrev pub IsFollowed : SessionState → Type 0
IsFollowed a = (v : Terms) × (s : Standing) × Follows a s × SessionRuns v a s
