-- What a link is told of the hub's calls that its session makes: whose it is, and whom it wakes, in which turn.
use Rattle.std.specs.Prelude.{◌≡◌, List, [], ◌∷◌, ◌++◌, map, ℕ, Option, Some, None}
use Rattle.bsc_history.specs.declared.entry.Entry.{Entry}
use Rattle.bsc_history.specs.declared.reply.Reply.{Reply}
use Rattle.bsc_history.specs.declared.reply.Reply.TheVariants.{Appended, Closed, Joined, SentAll}
use Rattle.bsc_edge.specs.declared.notice.Notice.{Notice}
use Rattle.bsc_edge.specs.declared.notice.Notice.TheVariants.{Asked, Known, Woke}
use Rattle.bsc_edge.specs.Told.{Grows}
use Rattle.bsc_turn.specs.declared.pass.Pass.{Pass}
use Rattle.bsc_turn.specs.Passes.{own_list}
use Rattle.bsc_session.specs.Answering.{entries_hearing}
use Rattle.bsc_session.specs.Course.{SessionCourse, all_turns, shares}
use Rattle.bsc_session.specs.Receiving.{Hearing}
use Rattle.bsc_session.specs.Standings.{Standing, Terms, begun}
use Rattle.bsc_session.specs.Taking.{opened}
use Rattle.bsc_session.specs.Turns.{Turn}

-- the connection that was replaced is woken, where one was
abbrev pub woken_by : Option ℕ → List Notice
woken_by None = []
woken_by (Some replaced) = Woke replaced ∷ []

-- What follows from a reply: who joined is known from then on, and wakes the connection that it replaced; the receiver of a
-- unicast is woken, and the connection that it ended; and each receiver of a broadcast, in order. No other reply wakes.
abbrev pub notices_by : Reply → List Notice
notices_by (Joined conn replaced) = Known conn ∷ woken_by replaced
notices_by (Appended conn) = Woke conn ∷ []
notices_by (Closed conn) = Woke conn ∷ []
notices_by (SentAll to missed skipped) = map Woke to
notices_by reply = []

-- What follows from entries, one after the other.
abbrev pub notices_of : List Entry → List Notice
notices_of [] = []
notices_of (e ∷ E) = notices_by e.reply ++ notices_of E

abbrev pub notices_after : Terms → Standing → ℕ → Option Hearing → List Notice
notices_after v s now None = []
notices_after v s now (Some h) = Asked ∷ notices_of (entries_hearing v s now h)

-- What a link is told in a turn: it is asked for the next thing, and behind that it is told what follows from the entry to which
-- this leads, if it leads to one. A turn that stops before its receive tells nothing.
abbrev pub notices_in : Terms → Standing → Turn → List Notice
notices_in v s t = notices_after v (opened s t.opening) t.opening.reading t.hearing

-- What a link is told while a session is served: turn by turn. A Leave wakes nobody.
abbrev pub told_of : {v : Terms} → SessionCourse v → List Notice
told_of {v} c = shares notices_in v begun (all_turns c)

-- The own list grew by these entries, and the link was told what follows from each of them, in order and once, and nothing
-- else. No public clause cites this, nor what is below it.
pub record Notifies (p q : Pass) (old new : Option (List Notice)) : Type 0 where
  pub E : List Entry
  pub own : own_list q ≡ own_list p ++ E
  pub told : Grows old new (notices_of E)

-- The same behind one receive.
pub record AsksOnce (p q : Pass) (old new : Option (List Notice)) : Type 0 where
  pub E : List Entry
  pub own : own_list q ≡ own_list p ++ E
  pub told : Grows old new (Asked ∷ notices_of E)
