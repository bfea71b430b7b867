-- The entries of a history, oldest first, and what each says by itself.
use Rattle.std.specs.Prelude.{ℕ, ◌==◌, Bool, true, false, List, [], ◌∷◌, ◌++◌, filter, Option, Some, None}
use Rattle.bsc_history.specs.declared.connection.Connection.{Connection}
use Rattle.bsc_history.specs.declared.entry.Entry.{Entry}
use Rattle.bsc_history.specs.declared.call.Call.{Call}
use Rattle.bsc_history.specs.declared.call.Call.TheVariants.{Connect, Stop}
use Rattle.bsc_history.specs.declared.reply.Reply.{Reply}
use Rattle.bsc_history.specs.declared.reply.Reply.TheVariants.{Joined}

-- the connection that a call made, by its reply: that of a Connect which joined
abbrev pub made_by : ℕ → Call → Reply → Option Connection
made_by caller (Connect who) (Joined conn replaced) = Some (record { number = conn; caller = caller; who = who })
made_by caller call reply = None

-- The connection that joined by an entry, if one did.
abbrev pub connection_of : Entry → Option Connection
connection_of e = made_by e.caller e.call e.reply

-- whether c is the number of the connection, where there is one
abbrev pub is_number : ℕ → Option Connection → Bool
is_number c None = false
is_number c (Some x) = x.number == c

-- whether c joined by this entry
abbrev pub joins : ℕ → Entry → Bool
joins c e = is_number c (connection_of e)

-- whether the call is a Stop
abbrev pub is_stop : Call → Bool
is_stop Stop = true
is_stop call = false

-- whether the hub stopped by this entry
abbrev pub stops : Entry → Bool
stops e = is_stop e.call

-- The entries of caller p, in order.
abbrev pub own : List Entry → ℕ → List Entry
own H p = filter (λ e. e.caller == p) H

-- A moment of a history: one of its entries, with all entries before it.
pub record Moment : Type 0 where
  pub before : List Entry
  pub entry : Entry

-- the moment of the entry e, where the entries G came before
abbrev pub moment : List Entry → Entry → Moment
moment G e = record { before = G; entry = e }

-- the moments of the entries es, where the entries G came before
abbrev pub moments_after : List Entry → List Entry → List Moment
moments_after G [] = []
moments_after G (e ∷ es) = moment G e ∷ moments_after (G ++ e ∷ []) es

-- The moments of a history, in order; what is to hold of each entry and of those before it is said of these.
abbrev pub moments : List Entry → List Moment
moments H = moments_after [] H
