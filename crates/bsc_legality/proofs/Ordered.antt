-- The rows of a state that stands for a history are in order, and no two live ones have one address.
-- It serves the clauses of `breach` and `entry`.
use Rattle.std.proofs.Common.{◌≡◌, ◌<◌, true, List, [], ◌∷◌, map, refl, sym, subst}
use Rattle.std.specs.List.{list_all, AllByRecursion}
use Rattle.std.proofs.lemmas.Bool.{and_from, lt-ltb}
use Rattle.bsc_history.specs.declared.limits.About.{About}
use Rattle.bsc_history.specs.declared.connection.Connection.{Connection}
use Rattle.bsc_history.specs.declared.entry.Entry.{Entry}
use Rattle.bsc_history.specs.Laws.{Apart}
use Rattle.bsc_history.proofs.Uniqueness.{settled}
use Rattle.bsc_legality.specs.declared.row.Row.{Row}
use Rattle.bsc_legality.specs.declared.legality.Legality.{Legality}
use Rattle.bsc_legality.specs.Rows.{AreAlone, connection, rising}
use Rattle.bsc_legality.specs.Standing.{LegalityStands}
use Rattle.bsc_legality.proofs.Live.{live_rows}
use Rattle.bsc_legality.proofs.Numbers.{below}
use Rattle.bsc_legality.proofs.Orders.{Rise, unleft_rise}

all_below : (r : Row) (rows : List Row) → AllByRecursion (λ (y : Connection). r.connection.number < y.number) (map connection rows) → list_all (below r) rows ≡ true
all_below r [] h = refl
all_below r (s ∷ rows) h = and_from (below r s) (list_all (below r) rows) (lt-ltb r.connection.number s.connection.number h.0) (all_below r rows h.1)

rows_rise : (rows : List Row) → Rise (map connection rows) → rising rows ≡ true
rows_rise [] h = refl
rows_rise (r ∷ rows) h = and_from (list_all (below r) rows) (rising rows) (all_below r rows h.0) (rows_rise rows h.1)

pub ordered : (l : Legality) (a : About) (H : List Entry) → LegalityStands l a H → rising l.rows.items ≡ true
ordered l a H s = rows_rise l.rows.items (subst Rise (sym s.unleft_rows) (unleft_rise a H s.legal))

pub alone : (l : Legality) (a : About) (H : List Entry) → LegalityStands l a H → AreAlone l.rows.items
alone l a H s = subst (λ (xs : List Connection). Apart (λ (c : Connection). c.who.vmac) xs) (live_rows l a H s) (settled a H s.legal).holders
