-- What a desk keeps beside its rows, by which they are found.
use Rattle.std.specs.Prelude.{◌≡◌, ◌&&◌, ◌||◌, ◌==◌, ℕ, nat_le, Bool, false, not, if◌then◌else◌, IsTrue, List, map, find, position, Option, Some, None}
use Rattle.std.specs.List.{list_all}
use Rattle.bsc_octets.specs.declared.identity.Identity.{Identity}
use Rattle.bsc_octets.specs.Addresses.{same_vmac, same_device}
use Rattle.bsc_history.specs.declared.connection.Connection.{Connection}
use Rattle.bsc_desk.specs.declared.row.Row.{Row}
use Rattle.bsc_desk.specs.declared.directory.Directory.{Directory}
use Rattle.bsc_desk.specs.Live.{is_open, is_row}
use Rattle.bsc_desk.specs.Orders.{in_order, address_of, device_of, same_key, sorted_by}
use Rattle.bsc_desk.specs.Rising.{rises}

-- whether a row isn't live, or another has other octets
abbrev pub gives_way : (Connection → List ℕ) → Row → Row → Bool
gives_way key r s = not (is_open r && same_key (key r.connection) (key s.connection))

-- Rows stand in the order of their numbers, a row is live only where no later one has its address or its device, and the directory has
-- the connections of the rows.
pub record AreFiled (rows : List Row) (joined : ℕ) (x : Directory) : Type 0 where
  pub rising : IsTrue (in_order rises rows)
  pub counted : IsTrue (list_all (λ r. nat_le r.connection.number joined) rows)
  pub one_at : IsTrue (in_order (gives_way address_of) rows)
  pub one_of : IsTrue (in_order (gives_way device_of) rows)
  pub by_address : x.by_address.items ≡ sorted_by address_of (map (λ r. r.connection) rows)
  pub by_device : x.by_device.items ≡ sorted_by device_of (map (λ r. r.connection) rows)

-- whether a row is that of the connection that is replaced, or else isn't live or has another address and another device than who connects
abbrev pub gives_place : Identity → Option ℕ → Row → Bool
gives_place who replaced r = is_row replaced r || not (is_open r
    && (same_vmac r.connection.who.vmac who.vmac || same_device r.connection.who.device who.device))

-- whether a row that may be missing is live
abbrev pub open_in : Option Row → Bool
open_in None = false
open_in (Some r) = is_open r

-- the place of the row of connection c, if it is live
abbrev pub open_place : List Row → ℕ → Option ℕ
open_place rows c = if open_in (find (λ r. r.connection.number == c) rows) then position (λ r. r.connection.number == c) rows else None

-- the same of the connection given, if there is one
abbrev pub live_place : List Row → Option Connection → Option ℕ
live_place rows None = None
live_place rows (Some c) = open_place rows c.number
