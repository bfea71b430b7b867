-- What a session does that is guarded by a policy: the frames that it puts, the calls that it makes, the denials that it notes.
use Rattle.std.specs.Prelude.{List, Option, Some, false, true, ℕ, ⊤, ◌++◌, ◌∷◌, ◌≡◌, ◌⊎◌}
use Rattle.std.specs.List.{AllByRecursion}
use Rattle.bsc_octets.specs.declared.identity.Identity.{Identity}
use Rattle.bsc_octets.specs.declared.vmac.Vmac.{Vmac}
use Rattle.bsc_octets.specs.Forwarding.{destination, is_broadcast}
use Rattle.bsc_policy.specs.declared.decision.Decision.TheVariants.{Allowed, Denied}
use Rattle.bsc_policy.specs.declared.policy.Policy.{Policy}
use Rattle.bsc_policy.specs.Decisions.{decided_of, is_admitted}
use Rattle.bsc_history.specs.declared.call.Call.{Call}
use Rattle.bsc_history.specs.declared.call.Call.TheVariants.{Connect, Forward}
use Rattle.bsc_history.specs.declared.entry.Entry.{Entry}
use Rattle.bsc_lines.specs.declared.denial.Denial.{Denial}
use Rattle.bsc_lines.specs.declared.denial.Denial.TheVariants.{OfConnect, OfPair}
use Rattle.bsc_session.specs.Notes.Notes.{Note, denied, made}
use Rattle.bsc_edge.specs.declared.said.Said.{Said}
use Rattle.bsc_session.specs.Course.{SessionCourse, all_turns, end_of, said_closing, shares}
use Rattle.bsc_session.specs.Guarding.{let_through, origin}
use Rattle.bsc_session.specs.Puts.{octets_in, puts}
use Rattle.bsc_session.specs.Reading.{ticked}
use Rattle.bsc_session.specs.Standings.{Standing, Terms, begun}
use Rattle.bsc_session.specs.Taking.{end_step, opened, passing, wait_in}
use Rattle.bsc_session.specs.Turns.{Turn, said_after}
use Rattle.bsc_session_laws.specs.Messages.{asked, connected, messages_of}

-- ---- what a policy allows, and what it denies

-- The policy allows what goes from one address to another, by one of its rules.
abbrev pub Allows : Policy → Vmac → Vmac → Type 0
Allows p from to = (rule : ℕ) × (decided_of p.members.items p.rules.items from to ≡ Allowed rule)

-- The connection has an address, and the policy allows what goes there from the address that sent the frame.
abbrev pub AllowsFrame : Policy → Option Vmac → List ℕ → Type 0
AllowsFrame p address f = (to : Vmac) × (address ≡ Some to) × Allows p (origin f) to

-- The policy admits who connects. It allows a unicast that the connection forwards, from the address of the connection to the
-- Destination; a broadcast it allows, or not, to each that gets it.
abbrev pub AllowsCall : Policy → Option Vmac → Call → Type 0
AllowsCall p address (Connect who) = is_admitted p.members.items who ≡ true
AllowsCall p address (Forward sender m) = is_broadcast m ≡ false → (from : Vmac) × (address ≡ Some from) × Allows p from (destination m)
AllowsCall p address call = ⊤

-- who is among these
abbrev pub IsAmong : Identity → List Identity → Type 0
IsAmong who asks = (before : List Identity) × (later : List Identity) × (asks ≡ before ++ who ∷ later)

-- The policy denies so: one of these who asked isn't admitted under the address; or what goes from one address to another is
-- denied by the rule, and the connection has one of the two addresses.
abbrev pub Denies : Policy → Option Vmac → List Identity → Denial → Type 0
Denies p address asks (OfConnect vmac) = (who : Identity) × IsAmong who asks × (who.vmac ≡ vmac) × (is_admitted p.members.items who ≡ false)
Denies p address asks (OfPair rule from to) =
    ((address ≡ Some from) ⊎ (address ≡ Some to)) × (decided_of p.members.items p.rules.items from to ≡ Denied rule)

abbrev pub DeniesIfNoted : Policy → Option Vmac → List Identity → Note → Type 0
DeniesIfNoted p address asks (made at e) = ⊤
DeniesIfNoted p address asks (denied d) = Denies p address asks d

-- ---- the law

-- The frames from the outlet that a turn puts.
abbrev pub put_in : Terms → Standing → Turn → List (List ℕ)
put_in v s t = passing v s t.opening.frames

-- The frames from the outlet that all turns put, in order.
abbrev pub put_of : {v : Terms} → SessionCourse v → List (List ℕ)
put_of {v} c = shares put_in v begun (all_turns c)

-- What a turn says: these frames are put first, and then what answers an End; the receive comes behind, with what follows it.
abbrev pub says_in : Terms → Standing → Turn → List Said
says_in v s t =
    puts (put_in v s t ++ octets_in (end_step v (ticked s t.opening.reading) t.opening.reading t.opening.met)) t.opening.fault
    ++ said_after v (opened s t.opening) t.opening.reading (wait_in t.opening) t.hearing

-- The address is that of a device for which there is a Connect among the entries.
abbrev pub IsConnectedAs : List Entry → Vmac → Type 0
IsConnectedAs E vmac = (who : Identity) × IsAmong who (connected E) × (who.vmac ≡ vmac)

-- What a session does is as the policy says: each frame that is put may go to its connection's address from who sent it, each
-- of its calls is allowed, and each denial that it notes is one of the policy.
pub record FollowsPolicy (p : Policy) (address : Option Vmac) (asks : List Identity) (put : List (List ℕ)) (E : List Entry) (notes : List Note) : Type 0 where
  pub frames : AllByRecursion (AllowsFrame p address) put
  pub calls : AllByRecursion (λ e. AllowsCall p address e.call) E
  pub denials : AllByRecursion (DeniesIfNoted p address asks) notes

-- The frames from the outlet that are put are those received that are let through to the address of the connection, in order:
-- all of them, where there is no policy. The address is that under which it connected. And a session that is guarded by a
-- policy does as that says.
pub record PolicyIsFollowed (v : Terms) (T : List Said) (E : List Entry) (frames : List (List ℕ)) (notes : List Note) (c : SessionCourse v) : Type 0 where
  pub talk : T ≡ shares says_in v begun (all_turns c) ++ said_closing c.stop.closing
  pub address : (vmac : Vmac) → (end_of c).address ≡ Some vmac → IsConnectedAs E vmac
  pub put : put_of c ≡ let_through v.policy (end_of c).address frames
  pub guarded : (p : Policy) → v.policy ≡ Some p → FollowsPolicy p (end_of c).address (asked (messages_of c)) (put_of c) E notes
