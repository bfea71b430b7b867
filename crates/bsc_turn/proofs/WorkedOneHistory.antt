-- What one history rules out, computed: two passes with one entry each, which both take for the first of the history.
-- No clause needs it: worked examples.
use Rattle.std.specs.Prelude.{◌⊎◌}
use Rattle.std.proofs.Common.{◌≡◌, inl, inr, ℕ, List, [], ◌∷◌, refl, ap, sym, ◌∙◌, arith, Option}
use mathlib.Core.Option as maybe
use Rattle.atomic_table.specs.Table.{State}
use Rattle.bsc_history.specs.declared.limits.About.{About}
use Rattle.bsc_history.specs.declared.mark.Stamped.{Stamped}
use Rattle.bsc_turn.specs.declared.view.View.{View}
use Rattle.bsc_turn.specs.Counting.{counted}
use Rattle.bsc_turn.specs.Histories.{StartsWith, own_of}
use Rattle.bsc_turn.specs.OneHistory.{AreCompared, HasOneHistory}
use Rattle.bsc_turn.specs.Rule.{TurnKept, first_view}
use Rattle.bsc_turn.proofs.OneHistory.{one_history}

-- the caller of the first entry, and 2 where there is none
abbrev first_caller : List Stamped → ℕ
first_caller [] = 2
first_caller (x ∷ xs) = x.entry.caller

zero_is_one : ◌≡◌ {A = ℕ} 0 1 → ⊥
zero_is_one h = omega arith

-- The entries of both callers, in the one order and in the other. Each pass alone may be of one history.
abbrev first_then_second : List Stamped
first_then_second = counted 0 ∷ counted 1 ∷ []

abbrev second_then_first : List Stamped
second_then_first = counted 1 ∷ counted 0 ∷ []

module _ (a : About) where
  abbrev first : View
  first = record (first_view a 2) { seen = counted 0 ∷ []; own = (counted 0).entry ∷ []; loaded = 1; loads = 1; drawn = 1 ∷ [] }

  abbrev second : View
  second = record (first_view a 2) { number = 1; seen = counted 1 ∷ []; own = (counted 1).entry ∷ [] }

  -- each has its own entries in what it has seen, and a history that begins so
  first_alone : (own_of first.seen first.number ≡ first.own) × StartsWith first_then_second first.seen
  first_alone = (refl, (counted 1 ∷ [], refl))

  second_alone : (own_of second.seen second.number ≡ second.own) × StartsWith second_then_first second.seen
  second_alone = (refl, (counted 0 ∷ [], refl))

  -- neither begins with the other
  not_compared : AreCompared (first ∷ second ∷ []) → ⊥
  not_compared all = by (all 0 1 first second (refl, refl) (refl, refl))
    where
      by : (StartsWith first.seen second.seen ⊎ StartsWith second.seen first.seen) → ⊥
      by (inl one) = zero_is_one (ap first_caller one.1)
      by (inr one) = zero_is_one (sym (ap first_caller one.1))

  module _ {S : Type 0} (words : List ℕ) (homes : List (maybe.Option (Option S))) where
    -- the table with the seats of both, whatever its words say and wherever the state is
    abbrev both : State (Option S) View
    both = record { words = words; homes = homes; views = first ∷ second ∷ [] }

    -- no history begins with what the first has seen and with what the second has
    no_history : HasOneHistory both → ⊥
    no_history h =
        let one : StartsWith h.history first.seen = h.seen 0 first (refl, refl) in
        let two : StartsWith h.history second.seen = h.seen 1 second (refl, refl) in
        zero_is_one (ap first_caller (sym one.1 ∙ two.1))

    -- so no step of the lock leads there: the rule holds between any two
    keeps_no_rule : (stands : S → List Stamped → Type 0) (about : S → About) (b : About) (limit : ℕ) → TurnKept stands about b limit both → ⊥
    keeps_no_rule stands about b limit kept = no_history (one_history stands about b limit both kept)
