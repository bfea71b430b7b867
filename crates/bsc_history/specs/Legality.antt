-- Which histories a hub can have.
use Rattle.std.specs.Prelude.{◌≡◌, ℕ, ◌==◌, nat_le, nat_lt, Bool, not, ◌&&◌, ◌||◌, if◌then◌else◌, List, [], length, map, filter, is_none, IsTrue}
use Rattle.std.specs.List.{list_any, list_all, AllByRecursion}
use Rattle.bsc_octets.specs.Addresses.{same_vmac, broadcast, zero_vmac}
use Rattle.bsc_octets.specs.Forwarding.{has_route}
use Rattle.bsc_history.specs.declared.limits.About.{About}
use Rattle.bsc_history.specs.declared.entry.Entry.{Entry}
use Rattle.bsc_history.specs.declared.call.Call.{Call}
use Rattle.bsc_history.specs.declared.call.Call.TheVariants.{Connect, Forward, Leave, Stop, Count}
use Rattle.bsc_history.specs.Entries.{Moment, moments}
use Rattle.bsc_history.specs.Ends.{ended, unleft}
use Rattle.bsc_history.specs.Outboxes.{looked, sent, meant, out_of, is_too_long}
use Rattle.bsc_history.specs.Replies.{reply, is_stopped, numbers}

-- The connections that a call looks at: those that its frame means and isn't too long for, or none where the hub
-- has stopped or the sender has ended.
abbrev pub looks_at : List Entry → Call → List ℕ
looks_at G (Forward sender m) =
    if is_stopped G || not (is_none (ended G sender)) then []
    else numbers (filter (λ c. not (is_too_long (out_of G sender m) c)) (meant G sender m))
looks_at G call = []

-- whether a look at c can find so many taken: no fewer than the newest look found, and no more than entered
abbrev pub can_find : About → List Entry → ℕ → ℕ → Bool
can_find a G c taken = nat_le (looked G c) taken && nat_le taken (length (sent a G c))

-- whether c hasn't left, and this caller joined it
abbrev pub is_of : List Entry → ℕ → ℕ → Bool
is_of G caller c = list_any (λ x. (x.number == c) && (x.caller == caller)) (unleft G)

-- Whether a caller may make a call: for no connection but its own, a Stop once, and all but Stop and Leave within
-- the limit of calls.
abbrev pub may_call : About → List Entry → ℕ → Call → Bool
may_call a G caller (Connect who) =
    not (same_vmac who.vmac zero_vmac) && not (same_vmac who.vmac broadcast) && nat_lt (length G) a.limits.calls
may_call a G caller (Forward sender m) = is_of G caller sender && has_route m && nat_lt (length G) a.limits.calls
may_call a G caller (Leave conn taken empties) = is_of G caller conn && can_find a G conn taken
may_call a G caller Stop = not (is_stopped G)
may_call a G caller Count = nat_lt (length G) a.limits.calls

-- An entry is lawful after those before it: its reply is the one reply, it looked at exactly the connections to
-- look at, each look can be, and its caller might call.
pub record Lawful (a : About) (m : Moment) : Type 0 where
  pub replied : m.entry.reply ≡ reply a m.before m.entry.call m.entry.looks
  pub named : map (λ k. k.conn) m.entry.looks ≡ looks_at m.before m.entry.call
  pub found : IsTrue (list_all (λ k. can_find a m.before k.conn k.taken) m.entry.looks)
  pub called : IsTrue (may_call a m.before m.entry.caller m.entry.call)

-- A history is legal where each of its entries is lawful after those before it.
pub record Legal (a : About) (H : List Entry) : Type 0 where
  pub lawful : AllByRecursion (Lawful a) (moments H)
