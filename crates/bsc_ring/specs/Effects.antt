-- What each kind of step does: a relation of the step, the seat before it, the number found or stored, and the
-- seat after it. And what the two ends know after each call.
use Rattle.std.specs.Prelude.{◌≡◌, ◌≢◌, ℕ, ◌+◌, ◌%◌, ◌<◌, ◌≤◌, Bool, true, false, max, List, [], ◌∷◌, ◌++◌, length, drop, is_some, Option, Some, None}
use Rattle.atomic_table.specs.Table.{Me, Step}
use Rattle.bsc_history.specs.declared.ending.End.{End}
use Rattle.bsc_history.specs.declared.ending.End.TheVariants.{Left}
use Rattle.bsc_ring.specs.declared.found.Found.TheVariants.{Ending, Tail}
use Rattle.bsc_ring.specs.declared.view.View.{View}
use Rattle.bsc_ring.specs.Lists.{Item, StartsWith}
use Rattle.bsc_ring.specs.Rule.{Recalls, end_in}

-- A seat's view, and the slots in its hand.
abbrev pub Seated : Type 0
Seated = Me (Option Item) View

-- The view of a seat.
abbrev pub view_in : Seated → View
view_in m = m.0

-- Between two calls an inlet's seat has no slot in hand.
abbrev pub InletRests : Seated → Type 0
InletRests m = (m.1 ≡ []) × (m.0.inlet ≡ true) × (m.0.outlet ≡ false) × (m.0.writing ≡ false)

-- Between two calls an outlet's seat has no slot in hand.
abbrev pub OutletRests : Seated → Type 0
OutletRests m = (m.1 ≡ []) × (m.0.outlet ≡ true) × (m.0.reading ≡ false)

-- What lies in a slot, as a list.
abbrev pub items_of : Option Item → List Item
items_of None = []
items_of (Some x) = x ∷ []

-- What lies in the slot that a seat has taken last.
abbrev pub in_hand : List (ℕ × Option Item) → List Item
in_hand [] = []
in_hand (s ∷ ss) = items_of s.1

-- An inlet's view after a load of the head that found n.
abbrev pub after_load : ℕ → View → View
after_load n v = record v { loads = v.loads ++ n ∷ []; least = n }

-- The load of the head takes the slot at the tail, which is empty, unless the ring is full.
abbrev pub LoadsHead : Step (Option Item) → Seated → ℕ → Seated → Type 0
LoadsHead s v n w =
    (v.0.least ≤ n) × (n ≤ length v.0.pushed) × (length v.0.pushed ≤ n + s.slots)
    × (length v.0.pushed ≡ n + s.slots → w ≡ (after_load n v.0, []))
    × (length v.0.pushed ≢ n + s.slots
    → w ≡ (record (after_load n v.0) { writing = true }, (length v.0.pushed % s.slots, None) ∷ []))

-- The store of the tail gives that slot back, and what lies in it is pushed.
abbrev pub StoresTail : Step (Option Item) → Seated → ℕ → Seated → Type 0
StoresTail s v n w = w ≡ (record v.0 { pushed = v.0.pushed ++ in_hand v.1; writing = false }, [])

-- An inlet's view after a push whose load found n.
abbrev pub after_push : ℕ → Item → View → View
after_push n x v = record (after_load n v) { pushed = v.pushed ++ x ∷ [] }

-- The store of the end word sets the End that the number says.
abbrev pub StoresEnd : Step (Option Item) → Seated → ℕ → Seated → Type 0
StoresEnd s v n w = w ≡ (record v.0 { ended = end_in n }, v.1)

-- An inlet's view after it finished.
abbrev pub after_finish : End → View → View
after_finish e v = record v { ended = Some e }

-- An outlet's view after a load of the end word.
abbrev pub after_end : Option End → View → View
after_end e v = record v { heard = e; found = v.found ++ Ending e ∷ [] }

-- The load of the end word finds no Left, an End where the view is whole, and the End that was heard.
abbrev pub LoadsEnd : Step (Option Item) → Seated → ℕ → Seated → Type 0
LoadsEnd s v n w =
    (end_in n ≢ Some Left) × (v.0.whole ≡ true → is_some (end_in n) ≡ true)
    × ((d : End) → v.0.heard ≡ Some d → end_in n ≡ Some d) × (w ≡ (after_end (end_in n) v.0, v.1))

-- An outlet's view after a load of the tail that finds each item taken.
abbrev pub after_none : View → View
after_none v =
    record v { known = v.given; whole = is_some v.heard; found = v.found ++ Tail (length v.given) ∷ [] }

-- An outlet's view after x was taken, where n items were pushed and k is the list of these.
abbrev pub after_take : List Item → ℕ → Item → View → View
after_take k n x v =
    record v {
      known = k;
      whole = is_some v.heard;
      found = v.found ++ Tail n ∷ [];
      given = v.given ++ x ∷ [];
    }

-- k, of n items, is what was pushed by now: it begins with what was known, it is no longer where the view
-- was whole, and x follows in it on what was given.
abbrev pub TakesNext : List Item → ℕ → Item → View → Type 0
TakesNext k n x v =
    StartsWith k v.known × (v.whole ≡ true → k ≡ v.known) × (length k ≡ n)
    × StartsWith k (v.given ++ x ∷ []) × (length v.given < n)

-- The load of the tail takes the slot at the head, with the next item in it, unless each item is taken.
abbrev pub LoadsTail : Step (Option Item) → Seated → ℕ → Seated → Type 0
LoadsTail s v n w =
    (n ≡ length v.0.given
    → StartsWith v.0.given v.0.known
    × (v.0.whole ≡ true → v.0.given ≡ v.0.known) × (w ≡ (after_none v.0, [])))
    × (n ≢ length v.0.given → (k : List Item) × (x : Item) × TakesNext k n x v.0
    × (w ≡ (record (after_take k n x v.0) { reading = true }, (length v.0.given % s.slots, Some x) ∷ [])))

-- The store of the head gives that slot back.
abbrev pub StoresHead : Step (Option Item) → Seated → ℕ → Seated → Type 0
StoresHead s v n w = w ≡ (record v.0 { reading = false }, [])

-- A view with no part, which carries what one end knows to the other.
abbrev pub note : ℕ → List Item → Bool → Option End → View
note least known whole heard =
    record {
      inlet = false;
      outlet = false;
      pushed = [];
      loads = [];
      ended = None;
      writing = false;
      given = [];
      found = [];
      reading = false;
      least = least;
      known = known;
      whole = whole;
      heard = heard;
    }

-- What is left of a note once it was heard.
abbrev pub spent_view : View
spent_view = note 0 [] false None

-- A note of what an inlet knows: what it pushed, and its End.
abbrev pub inlet_note : View → View
inlet_note v = note v.least v.pushed (is_some v.ended) v.ended

-- A note of what an outlet knows: how many it took, and what its loads found.
abbrev pub outlet_note : View → View
outlet_note v = note (length v.given) v.known v.whole v.heard

-- An inlet keeps an outlet's note in place of what it heard before.
abbrev pub inlet_hears : View → View → View
inlet_hears v w =
    record v {
      least = max v.least w.least;
      known = w.known;
      whole = w.whole;
      heard = w.heard;
      given = [];
      found = [];
    }

-- Of two lists of which one begins with the other, the longer.
abbrev pub longer : List Item → List Item → List Item
longer a b = a ++ drop (length a) b

-- The first End, or the second where there is no first.
abbrev pub either_end : Option End → Option End → Option End
either_end None e = e
either_end (Some d) e = Some d

-- An outlet adds an inlet's note to what it knows.
abbrev pub outlet_hears : View → View → View
outlet_hears v w =
    record v {
      least = max v.least w.least;
      known = longer v.known w.known;
      whole = w.whole;
      heard = either_end v.heard w.heard;
    }

-- What the rule says of one view alone.
abbrev pub IsConsistent : View → Type 0
IsConsistent v =
    StartsWith v.known v.given × Recalls v
    × (v.inlet ≡ true
    → StartsWith v.pushed v.known × (v.whole ≡ true → v.known ≡ v.pushed)
    × ((e : End) → v.heard ≡ Some e → v.ended ≡ Some e))
    × (v.outlet ≡ true → v.reading ≡ false → v.least ≤ length v.given)

-- A load that leaves the view as it is. What the rule says of the view alone is known after it.
abbrev pub Confirms : Step (Option Item) → Seated → ℕ → Seated → Type 0
Confirms s v n w = (w ≡ v) × IsConsistent v.0

-- The inlet's view after `meet`, of the views before it.
abbrev pub inlet_met : View → View → View
inlet_met v w = inlet_hears v (outlet_note w)

-- The outlet's view after `meet`, of the views before it.
abbrev pub outlet_met : View → View → View
outlet_met v w = outlet_hears w (inlet_note (inlet_met v w))

-- What the two views v' and w' after `meet` say of v and w before it.
pub record Agree (v w v' w' : View) : Type 0 where
  pub begins : StartsWith v.pushed w.given
  pub least : v'.least ≡ length w.given
  pub known : w'.known ≡ v.pushed
  pub heard : w'.heard ≡ v.ended
  pub set : (e : End) → w.heard ≡ Some e → v.ended ≡ Some e
  pub recalls : Recalls w'
  pub whole : w.whole ≡ true → w.known ≡ v.pushed
