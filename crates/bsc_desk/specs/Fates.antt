-- What becomes of a frame at the rows of a desk.
use Rattle.std.specs.Prelude.{◌≡◌, ◌≤◌, ◌<◌, ◌+◌, ◌^◌, ◌==◌, ◌&&◌, ℕ, nat_lt, Bool, true, false, not, ⊤, List, [], ◌∷◌, length, filter}
use Rattle.std.specs.Prelude.{get_or, Option, Some, None, vec_len, vec_capacity}
use Rattle.std.specs.List.{flat_map, AllByRecursion}
use Rattle.bsc_history.specs.declared.ending.End.{End}
use Rattle.bsc_history.specs.declared.ending.End.TheVariants.{Full}
use Rattle.bsc_history.specs.declared.looks.Look.{Look}
use Rattle.bsc_ring.specs.Ends.{pushed}
use Rattle.bsc_desk.specs.declared.fate.Fate.{Fate}
use Rattle.bsc_desk.specs.declared.fate.Fate.TheVariants.{Unmeant, TooLong, Entered, FoundFull}
use Rattle.bsc_desk.specs.declared.forwarding.OneReply.{OneReply}
use Rattle.bsc_desk.specs.declared.forwarding.OneReply.TheVariants.{Appended, Closed, Skipped, NoHolder}
use Rattle.bsc_desk.specs.declared.notes.Notes.{Notes}
use Rattle.bsc_desk.specs.declared.row.Row.{Row}
use Rattle.bsc_desk.specs.Changes.{ChangesAt}
use Rattle.bsc_desk.specs.Live.{connection, is_open, number}
use Rattle.bsc_desk.specs.Pushes.{FoundTaken, HadRoom, WasFull}

-- whether octets are more than the connection of a row takes in one message
abbrev pub is_long_for : List ℕ → Row → Bool
is_long_for o r = nat_lt r.connection.who.max_bvlc (length o)

-- whether a broadcast of conn means the row: that of a live connection other than conn
abbrev pub is_meant : ℕ → Row → Bool
is_meant conn r = is_open r && not (r.connection.number == conn)

-- whether the octets o of a broadcast of conn are offered to the row's outbox
abbrev pub is_offered : ℕ → List ℕ → Row → Bool
is_offered conn o r = is_meant conn r && not (is_long_for o r)

-- to how many rows the octets o of a broadcast of conn are offered
abbrev pub count_offered : ℕ → List ℕ → List Row → ℕ
count_offered conn o rows = length (filter (is_offered conn o) rows)

-- the octets o were pushed at the row r, which became s: that push is the look k
pub record Pushed (o : List ℕ) (r : Row) (k : Look) (s : Row) : Type 0 where
  pub fits : is_long_for o r ≡ false
  pub conn : k.conn ≡ number r
  pub same : s.connection ≡ r.connection
  pub look : FoundTaken r.inlet k.taken s.inlet

-- How the octets o fared at the row r of a live connection, which became s. Where the outbox was full, the connection has
-- the End given, or goes on where none is.
abbrev pub Fares : Option End → List ℕ → Row → Fate → Row → Type 0
Fares full o r Unmeant s = ⊥
Fares full o r (TooLong c) s = (is_long_for o r ≡ true) × (c ≡ number r) × (s ≡ r)
Fares full o r (Entered k) s = Pushed o r k s × HadRoom r.inlet o k.taken s.inlet × (s.ending ≡ None)
Fares full o r (FoundFull k) s = Pushed o r k s × WasFull r.inlet k.taken s.inlet × (s.ending ≡ full)

-- The same at a row that may not be meant, which then stays as it is.
abbrev pub Befalls : (Row → Bool) → Option End → List ℕ → Row → Fate → Row → Type 0
Befalls meant full o r Unmeant s = (meant r ≡ false) × (s ≡ r)
Befalls meant full o r x s = (meant r ≡ true) × Fares full o r x s

-- Row by row: the rows before, what became of the octets there, the rows after.
abbrev pub AllBefall : (Row → Bool) → Option End → List ℕ → List Row → List Fate → List Row → Type 0
AllBefall meant full o [] [] [] = ⊤
AllBefall meant full o (r ∷ rows) (x ∷ fates) (s ∷ after) = Befalls meant full o r x s × AllBefall meant full o rows fates after
AllBefall meant full o rows fates after = ⊥

-- A unicast at the row of its holder, if there is one: how it fared there. Where its outbox was full, the holder ends.
abbrev pub FaresAt : Option ℕ → List ℕ → List Row → Fate → List Row → Type 0
FaresAt None o rows x after = (x ≡ Unmeant) × (after ≡ rows)
FaresAt (Some i) o rows x after = ChangesAt (λ r s. Fares (Some Full) o r x s) i rows after

-- the row at a place, if one is given, is that of a live connection
abbrev pub IsOpenAt : Option ℕ → List Row → Type 0
IsOpenAt None rows = ⊤
IsOpenAt (Some i) rows = (i < length rows) × ((r : Row) → r ≡ get_or rows i r → r.ending ≡ None)

-- the answer to a unicast, by what became of it
abbrev pub one_said : Fate → OneReply
one_said Unmeant = NoHolder
one_said (TooLong c) = Skipped c
one_said (Entered k) = Appended k
one_said (FoundFull k) = Closed k

-- what a fate adds to each list of a broadcast's reply
abbrev pub looks_in : Fate → List Look
looks_in (Entered k) = k ∷ []
looks_in (FoundFull k) = k ∷ []
looks_in x = []

abbrev pub to_in : Fate → List ℕ
to_in (Entered k) = k.conn ∷ []
to_in x = []

abbrev pub missed_in : Fate → List ℕ
missed_in (FoundFull k) = k.conn ∷ []
missed_in x = []

abbrev pub skipped_in : Fate → List ℕ
skipped_in (TooLong c) = c ∷ []
skipped_in x = []

abbrev pub looks_of : List Fate → List Look
looks_of fates = flat_map looks_in fates

abbrev pub to_of : List Fate → List ℕ
to_of fates = flat_map to_in fates

abbrev pub missed_of : List Fate → List ℕ
missed_of fates = flat_map missed_in fates

abbrev pub skipped_of : List Fate → List ℕ
skipped_of fates = flat_map skipped_in fates

-- the lists of a broadcast have room for so many rows more
pub record HasRoom (n : Notes) (more : ℕ) : Type 0 where
  pub to : vec_len n.to + more ≤ vec_capacity n.to
  pub missed : vec_len n.missed + more ≤ vec_capacity n.missed
  pub skipped : vec_len n.skipped + more ≤ vec_capacity n.skipped
  pub looks : vec_len n.looks + more ≤ vec_capacity n.looks

-- the lists of a broadcast tell of these fates
pub record Tell (n : Notes) (fates : List Fate) : Type 0 where
  pub to : n.to.items ≡ to_of fates
  pub missed : n.missed.items ≡ missed_of fates
  pub skipped : n.skipped.items ≡ skipped_of fates
  pub looks : n.looks.items ≡ looks_of fates

-- each ring can take one push more
abbrev pub FewPushed : List Row → Type 0
FewPushed rows = AllByRecursion (λ r. length (pushed r.inlet) < 2 ^ 63) rows
