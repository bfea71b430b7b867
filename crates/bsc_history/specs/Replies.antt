-- The one reply of a call after a history, where its looks found what they found.
use Rattle.std.specs.Prelude.{ℕ, ◌+◌, nat_le, Bool, not, ◌&&◌, if◌then◌else◌, List, length, map, filter, Option, Some, None, unwrap_or}
use Rattle.std.specs.List.{list_any}
use Rattle.std.specs.Option.{option_map}
use Rattle.bsc_octets.specs.declared.identity.Identity.{Identity}
use Rattle.bsc_octets.specs.Addresses.{same_vmac, same_device}
use Rattle.bsc_octets.specs.Forwarding.{destination, is_broadcast}
use Rattle.bsc_history.specs.declared.limits.About.{About}
use Rattle.bsc_history.specs.declared.ending.End.{End}
use Rattle.bsc_history.specs.declared.ending.End.TheVariants.{Left}
use Rattle.bsc_history.specs.declared.looks.Look.{Look}
use Rattle.bsc_history.specs.declared.entry.Entry.{Entry}
use Rattle.bsc_history.specs.declared.call.Call.{Call}
use Rattle.bsc_history.specs.declared.call.Call.TheVariants.{Connect, Forward, Leave, Stop, Count}
use Rattle.bsc_history.specs.declared.reply.Refusal.TheVariants.{Stopped as RefusedStopped, Duplicate, TableFull}
use Rattle.bsc_history.specs.declared.reply.Reply.{Reply}
use Rattle.bsc_history.specs.declared.reply.Reply.TheVariants.{Joined, Refused, Appended, Closed, Skipped, NoHolder, SentAll, NotCurrent}
use Rattle.bsc_history.specs.declared.reply.Reply.TheVariants.{Stopped, Gone, Counted}
use Rattle.bsc_history.specs.declared.connection.Connection.{Connection}
use Rattle.bsc_history.specs.Entries.{stops}
use Rattle.bsc_history.specs.Ends.{ended, joined, unleft}
use Rattle.bsc_history.specs.Holders.{holder, of_device}
use Rattle.bsc_history.specs.Outboxes.{meant, out_of, is_too_long, is_found_full, sent}
use Rattle.bsc_history.specs.Counting.{counts}

-- Whether the hub has stopped.
abbrev pub is_stopped : List Entry → Bool
is_stopped H = list_any stops H

-- the numbers of some connections
abbrev pub numbers : List Connection → List ℕ
numbers xs = map (λ c. c.number) xs

-- the number of an address's holder, where it is another device than that of who connects
abbrev pub rival : Identity → Option Connection → Option ℕ
rival who None = None
rival who (Some c) = if same_device c.who.device who.device then None else Some c.number

-- the number of a connection that may be missing
abbrev pub number_of : Option Connection → Option ℕ
number_of o = option_map (λ c. c.number) o

-- refused as Duplicate where there is a rival
abbrev pub refused_as_held : Option ℕ → Reply → Reply
refused_as_held (Some number) otherwise = Refused (Duplicate (Some number))
refused_as_held None otherwise = otherwise

-- A Connect is refused where the hub has stopped, where the address is the hub's own or another device holds it, or
-- where all rows are taken; else it joins under the next number, and takes over from its device's live connection
-- where there is one.
unfoldable pub connect_reply : About → List Entry → Identity → Reply
connect_reply a H who =
    if is_stopped H then Refused RefusedStopped
    else if same_vmac who.vmac a.hub.vmac then Refused (Duplicate None)
    else refused_as_held (rival who (holder H who.vmac))
    (if nat_le a.limits.rows (length (unleft H)) then Refused (TableFull a.limits.rows)
    else Joined (1 + length (joined H)) (number_of (of_device H who.device)))

-- A unicast has no holder, is too long for its holder and skipped, finds the holder's outbox full and closes it, or
-- is appended to it.
abbrev pub unicast_reply : About → List Entry → List ℕ → List ℕ → List Look → Option Connection → Reply
unicast_reply a H m o looks None = NoHolder
unicast_reply a H m o looks (Some c) =
    if is_too_long o c then Skipped c.number
    else if is_found_full a (sent a H c.number) looks c.number then Closed c.number
    else Appended c.number

-- A broadcast sorts the connections that it means into three lists, each in the order of joining: it is appended to
-- those of `to`, those of `missed` are found full, and for those of `skipped` it is too long, which is asked first.
abbrev pub broadcast_reply : About → List Entry → List ℕ → List Look → List Connection → Reply
broadcast_reply a H o looks meant =
    let full = λ (c : Connection). is_found_full a (sent a H c.number) looks c.number in
    SentAll
    (numbers (filter (λ c. not (is_too_long o c) && not (full c)) meant))
    (numbers (filter (λ c. not (is_too_long o c) && full c) meant))
    (numbers (filter (λ c. is_too_long o c) meant))

-- a sender that has ended is told how
abbrev pub unless_ended : Option End → Reply → Reply
unless_ended (Some ending) otherwise = NotCurrent ending
unless_ended None otherwise = otherwise

-- A Forward does nothing where the hub has stopped or the sender has ended; else it is a broadcast to those that it
-- means, or a unicast to the holder of its destination.
unfoldable pub forward_reply : About → List Entry → ℕ → List ℕ → List Look → Reply
forward_reply a H sender m looks =
    let o = out_of H sender m in
    if is_stopped H then Stopped
    else unless_ended (ended H sender)
    (if is_broadcast m then broadcast_reply a H o looks (meant H sender m)
    else unicast_reply a H m o looks (holder H (destination m)))

-- The reply of a call after the history H. A Leave is told how its connection ended, as Left where it was live.
abbrev pub reply : About → List Entry → Call → List Look → Reply
reply a H (Connect who) looks = connect_reply a H who
reply a H (Forward sender m) looks = forward_reply a H sender m looks
reply a H (Leave conn taken empties) looks = Gone (unwrap_or (ended H conn) Left) taken
reply a H Stop looks = Counted (counts H)
reply a H Count looks = Counted (counts H)
