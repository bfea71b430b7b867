-- The two ends of an outbox, and the desk that pushes into it, written out: what is seen of them at first and after a call, and what isn't.
-- No clause needs it: worked examples.
use Rattle.std.specs.Prelude.{◌-◌, ◌^◌, min}
use Rattle.std.proofs.Common.{◌≡◌, ℕ, ◌+◌, List, [], ◌∷◌, ◌++◌, length, map, Option, Some, None, refl, sym, ap, subst, ◌∙◌}
use Rattle.std.specs.List.{AllByRecursion}
use Rattle.bsc_history.specs.declared.connection.Connection.{Connection}
use Rattle.bsc_history.specs.declared.counts.Counts.{Counts}
use Rattle.bsc_history.specs.declared.ending.End.{End}
use Rattle.bsc_history.specs.declared.ending.End.TheVariants.{Full, Left}
use Rattle.bsc_history.specs.declared.mark.Mark.{Mark}
use Rattle.bsc_history.proofs.OnLiterals.{history_on_literals}
use Rattle.bsc_ring.specs.declared.ends.Inlet.{Inlet}
use Rattle.bsc_ring.specs.declared.ends.Outlet.{Outlet}
use Rattle.bsc_ring.specs.declared.take.Take.TheVariants.{Frame, Empty, Closed}
use Rattle.bsc_ring.specs.Ends.{Fit, IsNewInlet, IsNewOutlet, SameInlet, Took, capacity_of, empties_of, ending_of, given, inlet_mark, outlet_mark, pushed}
use Rattle.bsc_ring.specs.Lists.{Item}
use Rattle.bsc_desk.specs.declared.desk.Desk.{Desk}
use Rattle.bsc_desk.specs.declared.row.Row.{Row}
use Rattle.bsc_desk.specs.Entries.{plain}
use Rattle.bsc_desk.specs.Live.{connection}
use Rattle.bsc_desk.specs.Standing.{DeskStands, IsInletOf}
use Rattle.bsc_witnesses.proofs.Pieces.{unlike, peer_a, join}

-- ---- an outlet

-- Of a new outlet one item was taken: that one was given, and nothing else.
gives_one : (o p : Outlet) (x : Item) → IsNewOutlet o → Took o (Frame x) p → given p ≡ x ∷ []
gives_one o p x new took = took.0 ∙ ap (λ (l : List Item). l ++ x ∷ []) new.0

gives_none : (o p : Outlet) (x : Item) → IsNewOutlet o → Took o (Frame x) p → given p ≡ [] → ⊥
gives_none o p x new took none = (let bad : x ∷ [] ≡ [] = sym (gives_one o p x new took) ∙ none in cc)

-- One that gave an item isn't new.
not_new : (o : Outlet) (x : Item) → given o ≡ x ∷ [] → IsNewOutlet o → ⊥
not_new o x gave new = (let bad : x ∷ [] ≡ [] = sym gave ∙ new.0 in cc)

-- A take that finds nothing is counted, and one that gives an item isn't.
counts_empty : (o p : Outlet) → IsNewOutlet o → Took o Empty p → empties_of p ≡ 1
counts_empty o p new took = took.2 ∙ ap (λ (n : ℕ). min (n + 1) (2 ^ 64 - 1)) new.1

counts_no_frame : (o p : Outlet) (x : Item) → IsNewOutlet o → Took o (Frame x) p → empties_of p ≡ 1 → ⊥
counts_no_frame o p x new took one = unlike 0 1 refl (sym new.1 ∙ (sym took.2 ∙ one))

-- No outlet gives the End of one that left.
gives_no_left : (o p : Outlet) → Took o (Closed Left) p → ⊥
gives_no_left o p took = took.1 refl

-- ---- both ends

-- Nothing was pushed, and nothing was given.
new_at_first : (i : Inlet) (o : Outlet) → IsNewInlet i → IsNewOutlet o → (pushed i ≡ given o) × (ending_of i ≡ None)
new_at_first i o new_in new_out = (new_in.0 ∙ sym new_out.0, new_in.2)

-- An inlet keeps its capacity and its mark, by which it is known as the other end of its outlet.
keeps_its_mark : (i j : Inlet) (o : Outlet) → SameInlet i j → capacity_of i ≡ 64 → inlet_mark i ≡ outlet_mark o → (capacity_of j ≡ 64) × (inlet_mark j ≡ outlet_mark o)
keeps_its_mark i j o same room marks = (same.1 ∙ room, same.0 ∙ marks)

-- What was given was pushed.
gives_what_none_pushed : (i : Inlet) (o : Outlet) (x : Item) → pushed i ≡ [] → given o ≡ x ∷ [] → Fit i o → ⊥
gives_what_none_pushed i o x none gave fit =
    (let bad : ◌≡◌ {A = List Item} [] (x ∷ fit.0.0) = sym none ∙ (fit.0.1 ∙ ap (λ (l : List Item). l ++ fit.0.0) gave) in cc)

-- An end that was set stays.
end_changes : (i j : Inlet) → ending_of i ≡ Some Full → ending_of j ≡ None → SameInlet i j → ⊥
end_changes i j full none same = (let bad : ◌≡◌ {A = Option End} None (Some Full) = sym none ∙ (same.4 ∙ full) in cc)

mark_changes : (i j : Inlet) (m : Mark) → inlet_mark i ≡ record m { words = 3 } → inlet_mark j ≡ record m { words = 4 } → SameInlet i j → ⊥
mark_changes i j m is was same = unlike 4 3 refl (ap (λ (x : Mark). x.words) (sym was ∙ (same.0 ∙ is)))

-- ---- a desk

abbrev none : Counts
none = record { joined = 0; replaced = 0; refused = 0; unicasts = 0; broadcasts = 0; appended = 0; dropped = 0; full = 0; missed = 0 }

-- A desk stands for the empty history where nobody called it.
desk_at_first : (d : Desk) → d.stopped_at ≡ None → d.tally.made ≡ 0 → d.tally.counts ≡ none → d.rows.items ≡ [] → DeskStands d []
unfolding history_on_literals
desk_at_first d stopped made counted rows = record {
  legal = record { lawful = tt };
  stop_place = stopped;
  entered = made;
  counted = counted;
  unleft_rows = ap (map connection) rows;
  inlets = subst (AllByRecursion (λ (r : Row). IsInletOf d.about [] r.connection.number r.inlet)) (sym rows) tt;
}

-- It has made an entry that isn't told.
desk_is_ahead : (d : Desk) → d.tally.made ≡ 1 → DeskStands d [] → ⊥
desk_is_ahead d made x = unlike 1 0 refl (sym made ∙ x.entered)

-- Who joined has a row.
desk_lacks_a_row : (d : Desk) → d.rows.items ≡ [] → DeskStands d (plain (join peer_a 1) ∷ []) → ⊥
unfolding history_on_literals
desk_lacks_a_row d rows x = unlike 0 1 refl (ap (λ (l : List Connection). length l) (sym (ap (map connection) rows) ∙ x.unleft_rows))

-- An inlet has just what entered the outbox, so it has one frame only where one entered.
inlet_is_ahead : (d : Desk) (i : Inlet) (x : Item) → pushed i ≡ x ∷ [] → IsInletOf d.about (plain (join peer_a 1) ∷ []) 1 i → ⊥
unfolding history_on_literals
inlet_is_ahead d i x one is = (let bad : ◌≡◌ {A = List Item} (x ∷ []) [] = sym one ∙ is.items in cc)
