-- The rule of the ring: what holds of its words, its slots and what its seats know, between any two steps.
-- The words stand in the order of their places: head, tail, end. An item's place is the number of items pushed
-- before it, and the item of the place p lies in the slot p % cap.
use Rattle.std.specs.Prelude.{◌≡◌, ◌≢◌, ℕ, suc, ◌+◌, ◌%◌, ◌<◌, ◌≤◌, ◌==◌, if◌then◌else◌, Bool, true, false, List, [], ◌∷◌, length, is_some, Option, Some, None}
use mathlib.Core.Option.{some}
use mathlib.Core.Option as maybe
use lib.ListN.{get_elem?}
use Rattle.atomic_table.specs.Table.{State}
use Rattle.bsc_history.specs.declared.ending.End.{End}
use Rattle.bsc_history.specs.declared.ending.End.TheVariants.{Left, Replaced, Full, Stopped}
use Rattle.bsc_ring.specs.declared.found.Found.TheVariants.{Ending}
use Rattle.bsc_ring.specs.declared.view.View.{View}
use Rattle.bsc_ring.specs.Lists.{Item, StartsWith}

-- The slots: each is at home, empty or with an item, or in a seat's hand.
abbrev pub Homes : Type 0
Homes = List (maybe.Option (Option Item))

-- The number that the end word holds for an End or for none.
abbrev pub end_number : Option End → ℕ
end_number None = 0
end_number (Some Left) = 1
end_number (Some Replaced) = 2
end_number (Some Full) = 3
end_number (Some Stopped) = 4

-- The End, or none, that a number in the end word says.
abbrev pub end_in : ℕ → Option End
end_in n =
    if n == 0 then None else
    if n == 1 then Some Left else
    if n == 2 then Some Replaced else
    if n == 3 then Some Full else
    Some Stopped

-- How many items the outlet has, where the one in its hand counts.
abbrev pub count_given : Bool → ℕ → ℕ
count_given true head = suc head
count_given false head = head

-- The slots from the head to the tail hold the pushed items of these places, and the others are empty, but
-- for the slot at the tail while the inlet writes and the slot at the head while the outlet reads. The tail
-- is no more than the capacity in front of the head, and less while the inlet writes.
pub record Stored (cap head : ℕ) (pushed : List Item) (writing reading : Bool) (homes : Homes) : Type 0 where
  pub size : length homes ≡ cap
  pub some_slot : 0 < cap
  pub behind : head ≤ length pushed
  pub within : length pushed ≤ head + cap
  pub writes : writing ≡ true → length pushed < head + cap
  pub full : (p : ℕ) (x : Item)
      → head ≤ p → (reading ≡ true → p ≢ head)
      → get_elem? pushed p ≡ some x → get_elem? homes (p % cap) ≡ some (some (Some x))
  pub free : (p : ℕ)
      → length pushed ≤ p → p < head + cap → (writing ≡ true → p ≢ length pushed)
      → get_elem? homes (p % cap) ≡ some (some None)

-- Each End that the seat's loads found is the one that it knows to be set.
abbrev pub Recalls : View → Type 0
Recalls v = (i : ℕ) (e : End) → get_elem? v.found i ≡ some (Ending (Some e)) → v.heard ≡ Some e

-- What a seat knows is true of the head, of what was pushed and of the End: the known items were pushed, the
-- given ones are the first of them, as many as `least` are taken, the End that was heard is set, and where
-- the view is whole nothing more is pushed. An inlet's view has the very list and the very End, and an
-- outlet's as many given items as the head says.
pub record SeatFits
    (head : ℕ) (pushed : List Item) (ending : Option End) (writing reading : Bool) (v : View) : Type 0 where
  pub begins : StartsWith pushed v.known
  pub gave : StartsWith v.known v.given
  pub low : v.least ≤ head
  pub heard : (e : End) → v.heard ≡ Some e → ending ≡ Some e
  pub recalls : Recalls v
  pub whole : v.whole ≡ true → (v.known ≡ pushed) × (is_some ending ≡ true)
  pub inlet : v.inlet ≡ true → (v.pushed ≡ pushed) × (v.ended ≡ ending) × (v.writing ≡ writing)
  pub outlet : v.outlet ≡ true → (length v.given ≡ count_given reading head) × (v.reading ≡ reading)

-- At most one view has the part.
abbrev pub AtMostOne : (View → Bool) → List View → Type 0
AtMostOne part views = (i j : ℕ) (v w : View)
    → get_elem? views i ≡ some v → get_elem? views j ≡ some w
    → part v ≡ true → part w ≡ true → i ≡ j

-- The view is of a seat that pushes.
abbrev pub is_inlet : View → Bool
is_inlet v = v.inlet

-- The view is of a seat that takes.
abbrev pub is_outlet : View → Bool
is_outlet v = v.outlet

-- The rule: the words say the head, the number of pushed items and the End, which is never Left; the slots
-- hold the items in between; each view fits; and one seat pushes and one takes.
pub record RingKept (s : State (Option Item) View) : Type 0 where
  pub cap : ℕ
  pub head : ℕ
  pub pushed : List Item
  pub ending : Option End
  pub writing : Bool
  pub reading : Bool
  pub words : s.words ≡ head ∷ length pushed ∷ end_number ending ∷ []
  pub named : ending ≢ Some Left
  pub stored : Stored cap head pushed writing reading s.homes
  pub fits : (id : ℕ) (v : View)
      → get_elem? s.views id ≡ some v → SeatFits head pushed ending writing reading v
  pub one_inlet : AtMostOne is_inlet s.views
  pub one_outlet : AtMostOne is_outlet s.views

-- The view of a table's first seat, which is both ends.
abbrev pub first_view : View
first_view =
    record {
      inlet = true;
      outlet = true;
      pushed = [];
      loads = [];
      ended = None;
      writing = false;
      given = [];
      found = [];
      reading = false;
      least = 0;
      known = [];
      whole = false;
      heard = None;
    }

-- The inlet's part of a view.
abbrev pub inlet_part : View → View
inlet_part v = record v { outlet = false }

-- The outlet's part of a view.
abbrev pub outlet_part : View → View
outlet_part v = record v { inlet = false }
