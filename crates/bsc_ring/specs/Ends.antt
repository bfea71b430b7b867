-- What callers see of the two ends of a ring, and what its calls say of them.
use Rattle.std.specs.Prelude.{◌≡◌, ◌≢◌, ℕ, ◌+◌, ◌-◌, ◌^◌, ◌<◌, ◌≤◌, min, Bool, true, false, is_some, List, [], ◌∷◌, ◌++◌, length, Option, Some, None}
use mathlib.Core.Option.{some}
use lib.ListN.{get_elem?}
use Rattle.atomic_table.specs.Seated.{TableId}
use Rattle.bsc_history.specs.declared.ending.End.{End}
use Rattle.bsc_history.specs.declared.ending.End.TheVariants.{Left}
use Rattle.bsc_history.specs.declared.mark.Mark.{Mark}
use Rattle.bsc_ring.specs.declared.ends.Inlet.{Inlet}
use Rattle.bsc_ring.specs.declared.ends.Outlet.{Outlet}
use Rattle.bsc_ring.specs.declared.found.Found.{Found}
use Rattle.bsc_ring.specs.declared.found.Found.TheVariants.{Ending, Tail}
use Rattle.bsc_ring.specs.declared.take.Take.{Take}
use Rattle.bsc_ring.specs.declared.take.Take.TheVariants.{Frame, Empty, Closed}
use Rattle.bsc_ring.specs.Lists.{Item, StartsWith, newest}

-- The mark of a table: what it is named by, as plain data that a history can keep.
abbrev pub table_mark : TableId → Mark
table_mark t =
    record {
      words = t.words;
      slots = t.slots;
      views_name = t.views_name;
      atom = t.atom;
      block = t.block;
      offset = t.offset;
      slot_names = t.slot_names;
    }

-- The mark of an inlet. Two ends come from one `make` exactly where their marks are equal.
abbrev pub inlet_mark : Inlet → Mark
inlet_mark i = table_mark i.seat.table_id

-- The mark of an outlet.
abbrev pub outlet_mark : Outlet → Mark
outlet_mark o = table_mark o.seat.table_id

-- How many items the ring holds at most.
abbrev pub capacity_of : Inlet → ℕ
capacity_of i = i.capacity

-- The items that were pushed, oldest first.
abbrev pub pushed : Inlet → List Item
pushed i = i.seat.me.0.pushed

-- What each push found in the head word, in order: how many items were taken by then.
abbrev pub loads : Inlet → List ℕ
loads i = i.seat.me.0.loads

-- The End, once the inlet is finished.
abbrev pub ending_of : Inlet → Option End
ending_of i = i.seat.me.0.ended

-- The inlet knows that so many items were taken, and maybe more.
abbrev pub known_taken : Inlet → ℕ
known_taken i = i.seat.me.0.least

-- The items that were given, oldest first.
abbrev pub given : Outlet → List Item
given o = o.seat.me.0.given

-- How many takes answered Empty.
abbrev pub empties_of : Outlet → ℕ
empties_of o = o.empties

-- What each take found in the end word and then in the tail word, in order.
abbrev pub found : Outlet → List Found
found o = o.seat.me.0.found

-- The outlet knows that these items were pushed, and maybe more.
abbrev pub known_pushed : Outlet → List Item
known_pushed o = o.seat.me.0.known

-- The outlet knows that no more than these will be pushed.
abbrev pub knows_all : Outlet → Bool
knows_all o = o.seat.me.0.whole

-- The End of which the outlet knows that it was set.
abbrev pub known_end : Outlet → Option End
known_end o = o.seat.me.0.heard

-- Nothing was pushed yet.
abbrev pub IsNewInlet : Inlet → Type 0
IsNewInlet i = (pushed i ≡ []) × (loads i ≡ []) × (ending_of i ≡ None) × (known_taken i ≡ 0)

-- Nothing was taken yet.
abbrev pub IsNewOutlet : Outlet → Type 0
IsNewOutlet o =
    (given o ≡ []) × (empties_of o ≡ 0) × (found o ≡ [])
    × (known_pushed o ≡ []) × (knows_all o ≡ false) × (known_end o ≡ None)

-- A push loaded the head and found n, which is its newest load then: no less than any load before it found,
-- and no more than were pushed.
abbrev pub Loaded : Inlet → ℕ → Inlet → Type 0
Loaded i n j =
    (loads j ≡ loads i ++ n ∷ []) × (newest (loads j) ≡ n) × (newest (loads i) ≤ n)
    × (known_taken i ≤ n) × (n ≤ length (pushed i)) × (known_taken j ≡ n)

-- A take loaded the end word, where it found e, and then the tail word, where it found n.
abbrev pub Looked : Outlet → Option End → ℕ → Outlet → Type 0
Looked o e n p =
    (found p ≡ found o ++ Ending e ∷ Tail n ∷ []) × (known_end p ≡ e)
    × (length (known_pushed p) ≡ n) × (knows_all p ≡ is_some e)

-- What the outlet knew is still so: e is the End that it knew, and it knows the items that it knew, and no
-- other where these were all.
abbrev pub Remembers : Outlet → Option End → Outlet → Type 0
Remembers o e p =
    ((d : End) → known_end o ≡ Some d → e ≡ Some d) × StartsWith (known_pushed p) (known_pushed o)
    × (knows_all o ≡ true → (known_pushed p ≡ known_pushed o) × (knows_all p ≡ true))

-- x was given: of the items that were pushed it is the one behind those given before.
abbrev pub GaveNext : Outlet → Item → Outlet → Type 0
GaveNext o x p =
    (given p ≡ given o ++ x ∷ []) × StartsWith (known_pushed p) (given p) × (empties_of p ≡ empties_of o)
    × ((e : Option End) × (n : ℕ) × (length (given o) < n) × Looked o e n p × Remembers o e p)

-- Each item that was pushed was given already, by a load of the tail that came after one of the end word.
abbrev pub GaveAll : Outlet → Option End → Outlet → Type 0
GaveAll o e p =
    (given p ≡ given o) × (known_pushed p ≡ given o) × StartsWith (given o) (known_pushed o)
    × Looked o e (length (given o)) p × Remembers o e p

-- What a take did, by its answer.
abbrev pub Took : Outlet → Take → Outlet → Type 0
Took o (Frame x) p = GaveNext o x p
Took o Empty p =
    GaveAll o None p × (known_end o ≡ None)
    × (empties_of p ≡ min (empties_of o + 1) (2 ^ 64 - 1))
Took o (Closed e) p = GaveAll o (Some e) p × (e ≢ Left) × (empties_of p ≡ empties_of o)

-- A load of the end word that the outlet keeps found this End.
abbrev pub FoundEnd : Outlet → End → Type 0
FoundEnd o e = (i : ℕ) × (get_elem? (found o) i ≡ some (Ending (Some e)))

-- The two ends tell one story: what was given is the first part of what was pushed, and is no shorter than
-- the newest load; an End that was found or is known is the one that was set; where the outlet knows all, it
-- knows what was pushed.
abbrev pub Fit : Inlet → Outlet → Type 0
Fit i o =
    StartsWith (pushed i) (given o) × (newest (loads i) ≤ length (given o))
    × ((e : End) → FoundEnd o e → ending_of i ≡ Some e)
    × ((e : End) → known_end o ≡ Some e → ending_of i ≡ Some e)
    × (knows_all o ≡ true → known_pushed o ≡ pushed i)

-- Each end knows what the other did: each later push loads at least `known_taken`, and each later take gives
-- the items of `known_pushed` and finds the End.
abbrev pub Met : Inlet → Outlet → Type 0
Met i o =
    (known_taken i ≡ length (given o)) × (known_pushed o ≡ pushed i)
    × (known_end o ≡ ending_of i) × (knows_all o ≡ is_some (ending_of i))

-- The inlet is the same, but for what it knows of the outlet.
abbrev pub SameInlet : Inlet → Inlet → Type 0
SameInlet i j =
    (inlet_mark j ≡ inlet_mark i) × (capacity_of j ≡ capacity_of i) × (pushed j ≡ pushed i)
    × (loads j ≡ loads i) × (ending_of j ≡ ending_of i)

-- The outlet is the same, but for what it knows of the inlet.
abbrev pub SameOutlet : Outlet → Outlet → Type 0
SameOutlet o p =
    (outlet_mark p ≡ outlet_mark o) × (given p ≡ given o) × (empties_of p ≡ empties_of o)
    × (found p ≡ found o)
