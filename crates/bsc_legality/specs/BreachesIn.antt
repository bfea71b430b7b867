-- Which condition an entry breaks, told by the state that stands for the history. The words are those of inner functions, and
-- proofs hold them to `Breaches`.
use Rattle.std.specs.Prelude.{ℕ, nat_le, nat_lt, ◌&&◌, ◌||◌, if◌then◌else◌, List, [], ◌∷◌, Option, Some, None, IsTrue, ⊤}
use Rattle.std.specs.Option.{option_or}
use Rattle.bsc_octets.specs.Addresses.{broadcast, same_vmac, zero_vmac}
use Rattle.bsc_octets.specs.Forwarding.{has_route}
use Rattle.bsc_history.specs.declared.call.Call.{Call}
use Rattle.bsc_history.specs.declared.call.Call.TheVariants.{Connect, Forward, Leave, Stop, Count}
use Rattle.bsc_history.specs.declared.entry.Entry.{Entry}
use Rattle.bsc_history.specs.declared.looks.Look.{Look}
use Rattle.bsc_legality.specs.declared.breach.Breach.{Breach}
use Rattle.bsc_legality.specs.declared.breach.Breach.TheVariants.{Address, NotOwn, NoRoute, Calls, AfterStop, Outboxes, Taken, Due}
use Rattle.bsc_legality.specs.declared.legality.Legality.{Legality}
use Rattle.bsc_legality.specs.declared.row.Row.{Row}
use Rattle.bsc_legality.specs.Deciding.{conns, due, is_of_in, looks_due}
use Rattle.bsc_legality.specs.Rows.{row_of}
use Rattle.bsc_legality.specs.Sameness.{same_numbers, same_reply}

-- the calls that a hub answers are used up
abbrev pub calls_breach_in : Legality → Option Breach
calls_breach_in l = if nat_lt l.entries l.about.limits.calls then None else Some (Calls l.about.limits.calls)

-- so many frames can't be found taken from the outbox of c, by its row
abbrev pub taken_breach_in : Option Row → ℕ → ℕ → Option Breach
taken_breach_in None c taken = Some (Taken c taken 0 0)
taken_breach_in (Some r) c taken =
    if nat_le r.looked taken && nat_le taken r.entered then None else Some (Taken c taken r.looked r.entered)

-- the caller may not make the call
abbrev pub call_breach_in : Legality → ℕ → Call → Option Breach
call_breach_in l caller (Connect who) =
    if same_vmac who.vmac zero_vmac || same_vmac who.vmac broadcast then Some Address else calls_breach_in l
call_breach_in l caller (Forward sender m) =
    if is_of_in l.rows.items caller sender then (if has_route m then calls_breach_in l else Some NoRoute) else Some (NotOwn sender)
call_breach_in l caller (Leave conn taken empties) =
    if is_of_in l.rows.items caller conn then taken_breach_in (row_of l.rows.items conn) conn taken else Some (NotOwn conn)
call_breach_in l caller Stop = if l.stopped then Some AfterStop else None
call_breach_in l caller Count = calls_breach_in l

-- the call looks at others than the outboxes to look at
abbrev pub outbox_breach_in : Legality → Call → List Look → Option Breach
outbox_breach_in l call looks =
    if same_numbers (conns looks) (looks_due l call) then None else Some (Outboxes (looks_due l call))

-- a look can't be
abbrev pub look_breach_in : List Row → List Look → Option Breach
look_breach_in rows [] = None
look_breach_in rows (k ∷ looks) = option_or (taken_breach_in (row_of rows k.conn) k.conn k.taken) (look_breach_in rows looks)

-- the reply isn't the one reply
abbrev pub reply_breach_in : Legality → Entry → Option Breach
reply_breach_in l e = if same_reply e.reply (due l e.call e.looks) then None else Some (Due (due l e.call e.looks))

-- the first of these
abbrev pub breach_in : Legality → Entry → Option Breach
breach_in l e =
    option_or (call_breach_in l e.caller e.call)
    (option_or (outbox_breach_in l e.call e.looks)
    (option_or (look_breach_in l.rows.items e.looks) (reply_breach_in l e)))

-- A frame that is forwarded has a Destination alone.
abbrev pub IsRouted : Call → Type 0
IsRouted (Forward sender m) = IsTrue (has_route m)
IsRouted call = ⊤
