-- Which events may come between two others: no word is awaited then, and the time of the log has passed.
-- It serves bsc_network_laws.
use Rattle.std.proofs.Common.{◌≡◌, ◌≤◌, ◌<◌, true, false, not, ◌++◌, ℕ, sym, ◌∙◌, subst, arith}
use Rattle.std.specs.Prelude.{◌^◌, IsTrue, nat_le, nat_lt, if◌then◌else◌}
use Rattle.std.specs.List.{list_any}
use Rattle.std.proofs.lemmas.Bool.{le-leb, lt-ltb}
use Rattle.bsc_node.specs.declared.node_event.NodeEvent.{NodeEvent}
use Rattle.bsc_node.specs.declared.timed_event.TimedEvent.{TimedEvent}
use Rattle.bsc_node.specs.Logs.{Made, Log, now}
use Rattle.bsc_node.specs.Node.{goes_on, actions_at}
use Rattle.bsc_node.specs.Conditions.{fits, may_come, awaits_word, brings_word}
use Rattle.bsc_node.specs.Laws.{draws}
use Rattle.bsc_node.proofs.Moments.{now_then}
use Rattle.bsc_node_laws.proofs.Drawn.{draws_at, word_settles}
use Rattle.bsc_lemmas.proofs.Booleans.{all_four, if_no as no_word}

-- The log of a node between two events, at this time or before it.
pub record Timely (T : ℕ) (L : Log) : Type 0 where
  pub time : now L ≤ T
  pub word : awaits_word L ≡ false

-- An event that fits and brings no word may come then.
pub may_then : (T : ℕ) (L : Log) (e : NodeEvent) → T < 2 ^ 62 → Timely T L → brings_word e ≡ false → fits L e ≡ true → IsTrue (may_come L (record { now = T; event = e }))
may_then T L e below timely brings fit =
    all_four (nat_le (now L) T) (nat_lt T (2 ^ 62)) (if brings_word e then awaits_word L else not (awaits_word L)) (fits L e) (le-leb (now L) T timely.time) (lt-ltb T (2 ^ 62) below)
    (no_word (brings_word e) (awaits_word L) brings timely.word) fit

-- An event that draws no word leaves the log so, at its time.
pub timely-undrawn : (a : Made) (L : Log) (e : TimedEvent) → IsTrue (may_come L e) → list_any draws (actions_at a L e) ≡ false → Timely e.now (L ++ goes_on a e L)
timely-undrawn a L e may drawn = record { time = subst (λ t. t ≤ e.now) (sym (now_then a L e may)) (omega arith); word = draws_at a L e may ∙ drawn }

-- So does a word, and that there is none.
pub timely-settled : (a : Made) (L : Log) (e : TimedEvent) → IsTrue (may_come L e) → brings_word e.event ≡ true → Timely e.now (L ++ goes_on a e L)
timely-settled a L e may word = record { time = subst (λ t. t ≤ e.now) (sym (now_then a L e may)) (omega arith); word = word_settles a L e may word }

-- A later time does as well.
pub timely-later : (T U : ℕ) (L : Log) → T ≤ U → Timely T L → Timely U L
timely-later T U L le t = let before : now L ≤ T = t.time in record { time = omega (arith, le, before); word = t.word }
