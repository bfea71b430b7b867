-- What an entry makes of a state, by the entry alone.
use Rattle.std.specs.Prelude.{◌≡◌, ℕ, ◌+◌, Bool, true, not, ◌&&◌, ◌||◌, List, [], ◌∷◌, ◌++◌, map, filter, fold, Option, None, option_to_list, IsTrue, ⊤}
use Rattle.std.specs.Option.{option_or}
use Rattle.bsc_history.specs.declared.connection.Connection.{Connection}
use Rattle.bsc_history.specs.declared.ending.End.{End}
use Rattle.bsc_history.specs.declared.entry.Entry.{Entry}
use Rattle.bsc_history.specs.declared.looks.Look.{Look}
use Rattle.bsc_history.specs.declared.reply.Reply.{Reply}
use Rattle.bsc_history.specs.declared.reply.Reply.TheVariants.{SentAll}
use Rattle.bsc_history.specs.Entries.{connection_of, stops}
use Rattle.bsc_history.specs.Ends.{end_by, leaves}
use Rattle.bsc_history.specs.Outboxes.{newer}
use Rattle.bsc_history.specs.Counting.{counts_of, one_if, plus}
use Rattle.bsc_history.specs.Laws.{is_among, names}
use Rattle.bsc_legality.specs.declared.row.Row.{Row}
use Rattle.bsc_legality.specs.declared.legality.Legality.{Legality}

-- whether no number stands twice
abbrev pub once : List ℕ → Bool
once [] = true
once (k ∷ ks) = not (is_among k ks) && once ks

-- no connection is named twice as appended to
abbrev pub NamesOnce : Reply → Type 0
NamesOnce (SentAll to missed skipped) = IsTrue (once to)
NamesOnce reply = ⊤

-- a row after some looks: the last of those at its connection is the newest
abbrev pub seen : List Look → Row → Row
seen looks r = record {
  connection = r.connection;
  ending = r.ending;
  entered = r.entered;
  looked = fold (newer r.connection.number) r.looked looks;
}

-- a row after a frame that entered the outboxes of some connections
abbrev pub added_to : List ℕ → Row → Row
added_to to r = record {
  connection = r.connection;
  ending = r.ending;
  entered = r.entered + one_if (is_among r.connection.number to);
  looked = r.looked;
}

-- a row after a reply: where it names the connection as appended to, one frame more has entered
abbrev pub given : Reply → Row → Row
given reply r = record {
  connection = r.connection;
  ending = r.ending;
  entered = r.entered + one_if (names r.connection.number reply);
  looked = r.looked;
}

-- a row after its connection ended so, if it did: the first End is kept
abbrev pub closed_as : Option End → Row → Row
closed_as ending r = record {
  connection = r.connection;
  ending = option_or r.ending ending;
  entered = r.entered;
  looked = r.looked;
}

-- The row of a connection after an entry.
abbrev pub row_after : Entry → Row → Row
row_after e r = closed_as (end_by r.connection.number e) (given e.reply (seen e.looks r))

-- the row of a connection that joins
abbrev pub new_row : Connection → Row
new_row x = record { connection = x; ending = None; entered = 0; looked = 0 }

-- The rows after an entry: who leaves by it is out, and who joins by it is last.
abbrev pub rows_after : Entry → List Row → List Row
rows_after e rows =
    filter (λ r. not (leaves r.connection.number e)) (map (row_after e) rows)
    ++ map new_row (option_to_list (connection_of e))

-- The state l becomes n by the entry e.
pub record Becomes (e : Entry) (l n : Legality) : Type 0 where
  pub about : n.about ≡ l.about
  pub stop : n.stopped ≡ (l.stopped || stops e)
  pub entry : n.entries ≡ l.entries + 1
  pub count : n.counts ≡ plus l.counts (counts_of e)
  pub rows : n.rows.items ≡ rows_after e l.rows.items
