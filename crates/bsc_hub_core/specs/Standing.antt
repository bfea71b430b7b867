-- What it is for a hub's core to stand for a history.
use Rattle.std.specs.Prelude.{◌≡◌, ◌==◌, ℕ, ◌+◌, true, List, length, is_some, Option, Some}
use Rattle.std.specs.List.{list_any}
use Rattle.std.specs.Ordering.{nat_cmp}
use Rattle.std.specs.BTreeMap.{get}
use Rattle.bsc_history.specs.declared.entry.Entry.{Entry}
use Rattle.bsc_history.specs.declared.mark.Stamped.{Stamped}
use Rattle.bsc_history.specs.Ends.{unleft}
use Rattle.bsc_history.specs.Marks.{entries, mark_of}
use Rattle.bsc_history.specs.Outboxes.{sent, vmac_of}
use Rattle.bsc_ring.specs.Ends.{given, outlet_mark}
use Rattle.bsc_desk.specs.declared.desk.Desk.{Desk}
use Rattle.bsc_desk.specs.Meetings.{IsOutletOf}
use Rattle.bsc_desk.specs.Rows.{known_of}
use Rattle.bsc_desk.specs.Standing.{DeskStands}
use Rattle.bsc_hub_core.specs.declared.outbox.Outbox.{Outbox}
use Rattle.bsc_hub_core.specs.declared.hub_core.HubCore.{HubCore}

-- Connection c hasn't left.
abbrev pub IsUnleft : List Entry → ℕ → Type 0
IsUnleft H c = list_any (λ x. x.number == c) (unleft H) ≡ true

-- The outbox of connection c.
abbrev pub outbox_at : HubCore → ℕ → Option Outbox
outbox_at t c = get nat_cmp t.outboxes c

-- It has one.
abbrev pub HasOutbox : HubCore → ℕ → Type 0
HasOutbox t c = is_some (outbox_at t c) ≡ true

-- The outbox of connection c after the history S: the connection hasn't left, its outlet came from one `make` with its inlet,
-- what was taken is the first part of what entered, the desk knows how much that is, and what wasn't taken has tags.
pub record IsOutbox (d : Desk) (S : List Stamped) (c : ℕ) (p : Outbox) : Type 0 where
  pub unleft : IsUnleft (entries S) c
  pub address : vmac_of (entries S) c ≡ p.vmac
  pub marked : mark_of S c ≡ Some (outlet_mark p.outlet)
  pub outlet : IsOutletOf d.about (entries S) c p.outlet
  pub known : known_of d c ≡ length (given p.outlet)
  pub waits : length p.tags.items + length (given p.outlet) ≡ length (sent d.about (entries S) c)

-- A hub's core stands for a history: its desk does, and it has the outboxes of the connections that haven't left.
pub record CoreStands (t : HubCore) (H : List Entry) : Type 0 where
  pub marks : List Stamped
  pub calls : entries marks ≡ H
  pub own : t.desk.about ≡ t.about
  pub desk : DeskStands t.desk marks
  pub outboxes : (c : ℕ) (p : Outbox) → outbox_at t c ≡ Some p → IsOutbox t.desk marks c p
  pub all : (c : ℕ) → IsUnleft H c → HasOutbox t c
