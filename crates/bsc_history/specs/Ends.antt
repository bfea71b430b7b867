-- How connections end, and which connections are live.
--
-- `live` and `unleft` look for an end after the very entry by which a connection joined, `ended` after the first
-- entry by which its number joined. In a legal history a number joins once, and the two agree: `LiveUntilEnded`
-- in Laws says so.
use Rattle.std.specs.Prelude.{ℕ, ◌==◌, Bool, true, false, not, if◌then◌else◌, List, [], ◌∷◌, ◌++◌, filter, find, Option, Some, None, is_none, is_some}
use Rattle.std.specs.List.{list_any}
use Rattle.std.specs.Option.{option_or, option_to_list}
use Rattle.bsc_history.specs.declared.ending.End.{End}
use Rattle.bsc_history.specs.declared.ending.End.TheVariants.{Left, Replaced, Full, Stopped}
use Rattle.bsc_history.specs.declared.entry.Entry.{Entry}
use Rattle.bsc_history.specs.declared.call.Call.{Call}
use Rattle.bsc_history.specs.declared.call.Call.TheVariants.{Leave, Stop}
use Rattle.bsc_history.specs.declared.reply.Reply.{Reply}
use Rattle.bsc_history.specs.declared.reply.Reply.TheVariants.{Joined, Closed}
use Rattle.bsc_history.specs.declared.connection.Connection.{Connection}
use Rattle.bsc_history.specs.Entries.{connection_of, joins}

-- whether the option has the number c
abbrev pub is_one : ℕ → Option ℕ → Bool
is_one c None = false
is_one c (Some k) = k == c

-- how a call ends c: a Leave of c as Left, and a Stop, which ends all, as Stopped
abbrev pub end_by_call : ℕ → Call → Option End
end_by_call c (Leave conn taken empties) = if conn == c then Some Left else None
end_by_call c Stop = Some Stopped
end_by_call c call = None

-- how a reply ends c: as Replaced where the one that joined took over from it, as Full where a unicast found its
-- outbox full
abbrev pub end_by_reply : ℕ → Reply → Option End
end_by_reply c (Joined conn replaced) = if is_one c replaced then Some Replaced else None
end_by_reply c (Closed conn) = if conn == c then Some Full else None
end_by_reply c reply = None

-- How an entry ends c, if it does.
abbrev pub end_by : ℕ → Entry → Option End
end_by c e = option_or (end_by_call c e.call) (end_by_reply c e.reply)

-- the first end of c among some entries
abbrev pub first_end : ℕ → List Entry → Option End
first_end c [] = None
first_end c (e ∷ after) = option_or (end_by c e) (first_end c after)

-- How c ended: its first end among the entries after the one by which it joined.
unfoldable pub ended : List Entry → ℕ → Option End
ended [] c = None
ended (e ∷ after) c = if joins c e then first_end c after else ended after c

-- whether the call is a Leave of c
abbrev pub is_leave : ℕ → Call → Bool
is_leave c (Leave conn taken empties) = conn == c
is_leave c call = false

-- whether c left by this entry
abbrev pub leaves : ℕ → Entry → Bool
leaves c e = is_leave c e.call

-- the connections that joined, in order, where the entries after the joining pass the test
unfoldable pub joined_where : (ℕ → List Entry → Bool) → List Entry → List Connection
joined_where test [] = []
joined_where test (e ∷ after) =
    filter (λ c. test c.number after) (option_to_list (connection_of e)) ++ joined_where test after

-- All connections that joined.
abbrev pub joined : List Entry → List Connection
joined H = joined_where (λ c after. true) H

-- The live connections: those with no end after their joining.
abbrev pub live : List Entry → List Connection
live H = joined_where (λ c after. is_none (first_end c after)) H

-- The unleft connections: those with no Leave after their joining.
abbrev pub unleft : List Entry → List Connection
unleft H = joined_where (λ c after. not (list_any (leaves c) after)) H

-- the connection of a number, among some
abbrev pub numbered : ℕ → List Connection → Option Connection
numbered c xs = find (λ x. x.number == c) xs

-- Whether c is live.
abbrev pub is_live : List Entry → ℕ → Bool
is_live H c = is_some (numbered c (live H))
