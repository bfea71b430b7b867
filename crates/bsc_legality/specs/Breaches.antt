-- Which condition an entry breaks behind a history: the first, in the order of `breach`. It asks whether the caller may call,
-- then which outboxes the call looks at, then what each look found, and last for the reply, which depends on these.
use Rattle.std.specs.Prelude.{ℕ, nat_lt, ◌||◌, if◌then◌else◌, List, [], ◌∷◌, length, map, Option, Some, None}
use Rattle.std.specs.Option.{option_or}
use Rattle.bsc_octets.specs.Addresses.{broadcast, same_vmac, zero_vmac}
use Rattle.bsc_octets.specs.Forwarding.{has_route}
use Rattle.bsc_history.specs.declared.limits.About.{About}
use Rattle.bsc_history.specs.declared.call.Call.{Call}
use Rattle.bsc_history.specs.declared.call.Call.TheVariants.{Connect, Forward, Leave, Stop, Count}
use Rattle.bsc_history.specs.declared.entry.Entry.{Entry}
use Rattle.bsc_history.specs.declared.looks.Look.{Look}
use Rattle.bsc_history.specs.Legality.{can_find, is_of, looks_at}
use Rattle.bsc_history.specs.Outboxes.{looked, sent}
use Rattle.bsc_history.specs.Replies.{is_stopped, reply}
use Rattle.bsc_legality.specs.declared.breach.Breach.{Breach}
use Rattle.bsc_legality.specs.declared.breach.Breach.TheVariants.{Address, NotOwn, NoRoute, Calls, AfterStop, Outboxes, Taken, Due}
use Rattle.bsc_legality.specs.Sameness.{same_numbers, same_reply}

-- the calls that a hub answers are used up
abbrev pub calls_breach : About → List Entry → Option Breach
calls_breach a H = if nat_lt (length H) a.limits.calls then None else Some (Calls a.limits.calls)

-- So many frames can't be found taken from the outbox of c: no fewer can than the newest look found, and no more than entered.
abbrev pub taken_breach : About → List Entry → ℕ → ℕ → Option Breach
taken_breach a H c taken = if can_find a H c taken then None else Some (Taken c taken (looked H c) (length (sent a H c)))

-- The caller may not make the call.
abbrev pub call_breach : About → List Entry → ℕ → Call → Option Breach
call_breach a H caller (Connect who) =
    if same_vmac who.vmac zero_vmac || same_vmac who.vmac broadcast then Some Address else calls_breach a H
call_breach a H caller (Forward sender m) =
    if is_of H caller sender then (if has_route m then calls_breach a H else Some NoRoute) else Some (NotOwn sender)
call_breach a H caller (Leave conn taken empties) =
    if is_of H caller conn then taken_breach a H conn taken else Some (NotOwn conn)
call_breach a H caller Stop = if is_stopped H then Some AfterStop else None
call_breach a H caller Count = calls_breach a H

-- The call looks at others than the outboxes to look at.
abbrev pub outbox_breach : List Entry → Call → List Look → Option Breach
outbox_breach H call looks =
    if same_numbers (map (λ k. k.conn) looks) (looks_at H call) then None else Some (Outboxes (looks_at H call))

-- A look can't be: the first of these that can't.
abbrev pub look_breach : About → List Entry → List Look → Option Breach
look_breach a H [] = None
look_breach a H (k ∷ looks) = option_or (taken_breach a H k.conn k.taken) (look_breach a H looks)

-- The reply isn't the one reply.
abbrev pub reply_breach : About → List Entry → Entry → Option Breach
reply_breach a H e =
    if same_reply e.reply (reply a H e.call e.looks) then None else Some (Due (reply a H e.call e.looks))

-- The first condition that an entry breaks behind a history, if it breaks one.
abbrev pub breach : About → List Entry → Entry → Option Breach
breach a H e =
    option_or (call_breach a H e.caller e.call)
    (option_or (outbox_breach H e.call e.looks)
    (option_or (look_breach a H e.looks) (reply_breach a H e)))
