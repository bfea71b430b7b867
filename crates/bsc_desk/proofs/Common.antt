-- Lemmas that crates above cite too.
-- It serves bsc_hub_core.
use Rattle.bsc_desk.specs.Live.{connection}
use Rattle.bsc_desk.specs.Meetings.{IsOutletOf, KnowsOutbox}
use Rattle.bsc_desk.specs.declared.desk.Desk.{Desk}
use Rattle.bsc_desk.specs.declared.row.Row.{Row}
use Rattle.bsc_history.specs.Marks.{entries}
use Rattle.bsc_history.specs.Outboxes.{sent}
use Rattle.bsc_history.specs.declared.connection.Connection.{Connection}
use Rattle.bsc_history.specs.declared.ending.End.{End}
use Rattle.bsc_history.specs.declared.mark.Stamped.{Stamped}
use Rattle.bsc_ring.proofs.Common.{same_fronts}
use Rattle.bsc_ring.specs.Ends.{GaveAll, given}
use Rattle.bsc_ring.specs.Lists.{StartsWith}
use Rattle.bsc_ring.specs.declared.ends.Outlet.{Outlet}
use Rattle.std.proofs.Common.{Option, subst, ◌≡◌, ◌∙◌, List, ℕ, true, ◌∷◌, Bool, false, inl, filter, cond, inr, [], ◌||◌, refl, map, ap}
use Rattle.std.proofs.lemmas.Bool.{or_left, or_right, or_cases}
use Rattle.std.specs.List.{list_any}

pub gave_all : (d : Desk) (S : List Stamped) (c : ℕ) (o p : Outlet) (e : Option End) → IsOutletOf d.about (entries S) c o → KnowsOutbox d.about (entries S) c o → GaveAll o e p
    → given p ≡ sent d.about (entries S) c
gave_all d S c o p e h k g =
    g.0 ∙ same_fronts (given o) (sent d.about (entries S) c) (subst (StartsWith (given o)) k.items g.2) h.begins

pub any_kept : (q p : Row → Bool) (rows : List Row) → list_any q (filter p rows) ≡ true → list_any q rows ≡ true
any_kept q p [] h = h
any_kept q p (r ∷ rows) h = by (p r) h (any_kept q p rows)
  where
    by : (b : Bool) → list_any q (cond b (r ∷ filter p rows) (filter p rows)) ≡ true → (list_any q (filter p rows) ≡ true → list_any q rows ≡ true) → list_any q (r ∷ rows) ≡ true
    by true g rec = elim (or_cases (q r) (list_any q (filter p rows)) g) [ inl here ↦ or_left (q r) (list_any q rows) here | inr later ↦ or_right (q r) (list_any q rows) (rec later) ]
    by false g rec = or_right (q r) (list_any q rows) (rec g)

pub any_mapped : (p : Connection → Bool) (rows : List Row) → list_any p (map connection rows) ≡ list_any (λ r. p (connection r)) rows
any_mapped p [] = refl
any_mapped p (r ∷ rows) = ap (λ (b : Bool). p (connection r) || b) (any_mapped p rows)
