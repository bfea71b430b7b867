-- Whether the history that a state stands for is still legal with one entry more, told by the state alone.
use Rattle.std.specs.Prelude.{ℕ, ◌+◌, ◌-◌, ◌==◌, nat_le, nat_lt, Bool, true, false, not, ◌&&◌, ◌||◌, if◌then◌else◌, List, [], ◌∷◌}
use Rattle.std.specs.Prelude.{length, map, filter, Option, Some, None, is_none, unwrap_or}
use Rattle.std.specs.List.{list_any, list_all}
use Rattle.std.specs.Option.{option_map}
use Rattle.bsc_octets.specs.declared.identity.Identity.{Identity}
use Rattle.bsc_octets.specs.Addresses.{broadcast, same_vmac, zero_vmac}
use Rattle.bsc_octets.specs.Forwarding.{destination, has_route, is_broadcast, out}
use Rattle.bsc_history.specs.declared.call.Call.{Call}
use Rattle.bsc_history.specs.declared.call.Call.TheVariants.{Connect, Forward, Leave, Stop, Count}
use Rattle.bsc_history.specs.declared.ending.End.TheVariants.{Left}
use Rattle.bsc_history.specs.declared.entry.Entry.{Entry}
use Rattle.bsc_history.specs.declared.looks.Look.{Look}
use Rattle.bsc_history.specs.declared.reply.Refusal.TheVariants.{Stopped as RefusedStopped, Duplicate, TableFull}
use Rattle.bsc_history.specs.declared.reply.Reply.{Reply}
use Rattle.bsc_history.specs.declared.reply.Reply.TheVariants.{Joined, Refused, Appended, Closed, Skipped, NoHolder, SentAll, Stopped, Gone, Counted}
use Rattle.bsc_history.specs.Outboxes.{vmac_in}
use Rattle.bsc_history.specs.Replies.{number_of, refused_as_held, rival, unless_ended}
use Rattle.bsc_legality.specs.declared.row.Row.{Row}
use Rattle.bsc_legality.specs.declared.legality.Legality.{Legality}
use Rattle.bsc_legality.specs.Rows.{can_find_at, connection, device_in, end_in, finds_full_at, holder_in, is_open, number, row_of}
use Rattle.bsc_legality.specs.Sameness.{same_numbers, same_reply}

-- the connections that are looked at
abbrev pub conns : List Look → List ℕ
conns looks = map (λ k. k.conn) looks

-- whether each look can find what it found
abbrev pub can_all : List Row → List Look → Bool
can_all rows looks = list_all (λ k. can_find_at (row_of rows k.conn) k.taken) looks

-- whether so many octets are more than the connection of a row takes
abbrev pub is_long_at : ℕ → Row → Bool
is_long_at size r = nat_lt r.connection.who.max_bvlc size

-- ---- connects

-- the first case that holds
abbrev pub first_reply : Bool → Bool → Option ℕ → Bool → ℕ → Reply → Reply
first_reply stopped is_hub held is_full rows otherwise =
    if stopped then Refused RefusedStopped
    else if is_hub then Refused (Duplicate None)
    else refused_as_held held (if is_full then Refused (TableFull rows) else otherwise)

abbrev pub connect_due : Legality → Identity → Reply
connect_due l who =
    first_reply l.stopped (same_vmac who.vmac l.about.hub.vmac)
    (rival who (option_map connection (holder_in l.rows.items who.vmac)))
    (nat_le l.about.limits.rows (length l.rows.items)) l.about.limits.rows
    (Joined (1 + l.counts.joined) (number_of (option_map connection (device_in l.rows.items who.device))))

-- ---- unicasts, of which so many octets are passed on, by the row of the holder of the destination

-- the connection that is looked at
abbrev pub one_looked : ℕ → Option Row → List ℕ
one_looked size None = []
one_looked size (Some r) = if is_long_at size r then [] else r.connection.number ∷ []

-- whether some of the looks find the outbox of a row full
abbrev pub is_full_at : ℕ → List Look → Row → Bool
is_full_at outbox looks r = list_any (λ k. (k.conn == r.connection.number) && ((r.entered - k.taken) == outbox)) looks

-- the reply
abbrev pub one_due : ℕ → ℕ → List Look → Option Row → Reply
one_due outbox size looks None = NoHolder
one_due outbox size looks (Some r) =
    if is_long_at size r then Skipped r.connection.number
    else if is_full_at outbox looks r then Closed r.connection.number
    else Appended r.connection.number

-- ---- broadcasts, of which so many octets are passed on

-- whether a row is that of a live connection other than the sender, for which the test passes
abbrev pub is_meant_with : ℕ → (Row → Bool) → Row → Bool
is_meant_with sender test r = is_open r && (not (r.connection.number == sender) && test r)

-- the connections that are looked at, and those for which the frame is too long
abbrev pub all_looked : ℕ → ℕ → List Row → List ℕ
all_looked sender size rows = map number (filter (is_meant_with sender (λ r. not (is_long_at size r))) rows)

abbrev pub all_skipped : ℕ → ℕ → List Row → List ℕ
all_skipped sender size rows = map number (filter (is_meant_with sender (is_long_at size)) rows)

-- whether a look finds an outbox full
abbrev pub is_full_by : ℕ → List Row → Look → Bool
is_full_by outbox rows k = finds_full_at outbox (row_of rows k.conn) k.taken

-- whether a look finds an outbox full, or doesn't, as is asked
abbrev pub fares_so : Bool → ℕ → List Row → Look → Bool
fares_so full outbox rows k = if full then is_full_by outbox rows k else not (is_full_by outbox rows k)

-- The connections whose outboxes the looks don't find full, and those whose outboxes they do.
abbrev pub all_entered : ℕ → List Row → List Look → List ℕ
all_entered outbox rows looks = conns (filter (fares_so false outbox rows) looks)

abbrev pub all_missed : ℕ → List Row → List Look → List ℕ
all_missed outbox rows looks = conns (filter (fares_so true outbox rows) looks)

-- the reply, by what the looks found
abbrev pub all_due : ℕ → ℕ → ℕ → List Look → List Row → Reply
all_due outbox sender size looks rows =
    SentAll (all_entered outbox rows looks) (all_missed outbox rows looks) (all_skipped sender size rows)

-- ---- forwards

-- how many octets of the frame m of the sender are passed on
abbrev pub size_in : List Row → ℕ → List ℕ → ℕ
size_in rows sender m = length (out m (vmac_in (option_map connection (row_of rows sender))))

-- The connections that a frame looks at, and its reply, where its sender goes on.
abbrev pub sent_looked : List Row → ℕ → List ℕ → ℕ → List ℕ
sent_looked rows sender m size =
    if is_broadcast m then all_looked sender size rows else one_looked size (holder_in rows (destination m))

abbrev pub sent_due : ℕ → List Row → ℕ → List ℕ → ℕ → List Look → Reply
sent_due outbox rows sender m size looks =
    if is_broadcast m then all_due outbox sender size looks rows
    else one_due outbox size looks (holder_in rows (destination m))

-- whether these are the looks and the reply of a frame whose sender goes on
abbrev pub serves : ℕ → List Row → ℕ → List ℕ → ℕ → List Look → Reply → Bool
serves outbox rows sender m size looks reply =
    same_numbers (conns looks) (sent_looked rows sender m size)
    && (can_all rows looks && same_reply reply (sent_due outbox rows sender m size looks))

-- ---- the decision

-- The reply that a call is due.
abbrev pub due : Legality → Call → List Look → Reply
due l (Connect who) looks = connect_due l who
due l (Forward sender m) looks =
    if l.stopped then Stopped
    else unless_ended (end_in (row_of l.rows.items sender))
    (sent_due l.about.limits.outbox l.rows.items sender m (size_in l.rows.items sender m) looks)
due l (Leave conn taken empties) looks = Gone (unwrap_or (end_in (row_of l.rows.items conn)) Left) taken
due l Stop looks = Counted l.counts
due l Count looks = Counted l.counts

-- The connections that a call is to look at.
abbrev pub looks_due : Legality → Call → List ℕ
looks_due l (Forward sender m) =
    if l.stopped || not (is_none (end_in (row_of l.rows.items sender))) then []
    else sent_looked l.rows.items sender m (size_in l.rows.items sender m)
looks_due l call = []

-- whether caller's connection c has a row
abbrev pub is_of_in : List Row → ℕ → ℕ → Bool
is_of_in rows caller c = list_any (λ r. (r.connection.number == c) && (r.connection.caller == caller)) rows

-- Whether a caller may make a call.
abbrev pub may_call_in : Legality → ℕ → Call → Bool
may_call_in l caller (Connect who) =
    not (same_vmac who.vmac zero_vmac) && not (same_vmac who.vmac broadcast) && nat_lt l.entries l.about.limits.calls
may_call_in l caller (Forward sender m) =
    is_of_in l.rows.items caller sender && has_route m && nat_lt l.entries l.about.limits.calls
may_call_in l caller (Leave conn taken empties) =
    is_of_in l.rows.items caller conn && can_find_at (row_of l.rows.items conn) taken
may_call_in l caller Stop = not l.stopped
may_call_in l caller Count = nat_lt l.entries l.about.limits.calls

-- Whether these are the looks, and this the reply, that a call is due.
abbrev pub says_due : Legality → Call → List Look → Reply → Bool
says_due l call looks reply =
    same_numbers (conns looks) (looks_due l call)
    && (can_all l.rows.items looks && same_reply reply (due l call looks))

-- Whether the entry is lawful after the history that the state stands for.
abbrev pub accepts : Legality → Entry → Bool
accepts l e = may_call_in l e.caller e.call && says_due l e.call e.looks e.reply

-- ---- lists that are walked

-- whether numbers begin with n
abbrev pub begins : ℕ → List ℕ → Bool
begins n [] = false
begins n (k ∷ ks) = k == n
