-- What is seen of the outbox of a connection, and what a meeting of its two ends and a take leave: c is the number of a
-- connection, d and n are the desk before and after, i and j the outbox before and after.
use Rattle.std.specs.Prelude.{◌≡◌, ◌≢◌, ◌==◌, ℕ, min, ◌+◌, ◌-◌, ◌^◌, true, List, [], ◌∷◌, ◌++◌, drop, length, slice_get, Option, Some, None}
use Rattle.std.specs.List.{list_any}
use Rattle.bsc_history.specs.declared.mark.Stamped.{Stamped}
use Rattle.bsc_history.specs.declared.ending.End.{End}
use Rattle.bsc_history.specs.declared.ending.End.TheVariants.{Left}
use Rattle.bsc_history.specs.Ends.{ended, unleft}
use Rattle.bsc_history.specs.Marks.{entries, mark_of}
use Rattle.bsc_history.specs.Outboxes.{sent}
use Rattle.bsc_ring.specs.Ends.{SameOutlet, empties_of, given, outlet_mark}
use Rattle.bsc_desk.specs.declared.desk.Desk.{Desk}
use Rattle.bsc_desk.specs.Meetings.{IsOutletOf, KnowsOutbox}
use Rattle.bsc_desk.specs.Rows.{known_of, row_of}
use Rattle.bsc_desk.specs.Standing.{DeskStands}
use Rattle.bsc_hub_core.specs.declared.outbox.Outbox.{Outbox}
use Rattle.bsc_hub_core.specs.declared.took.Took.{Took}
use Rattle.bsc_hub_core.specs.declared.took.Took.TheVariants.{Frame, Empty, Closed}

-- ---- what callers see

-- The frames that were taken from it, oldest first.
abbrev pub taken_by : Outbox → List (List ℕ)
taken_by p = given p.outlet

-- How often it was found empty.
abbrev pub empties_by : Outbox → ℕ
empties_by p = empties_of p.outlet

-- The tags of the frames that weren't taken yet, oldest first.
abbrev pub tags_by : Outbox → List ℕ
tags_by p = p.tags.items

-- ---- inner words

-- The outlet of a connection is that of its inlet, and the connection hasn't left.
pub record OwnsOutlet (d : Desk) (S : List Stamped) (c : ℕ) (i : Outbox) : Type 0 where
  pub stands : DeskStands d S
  pub unleft : list_any (λ x. x.number == c) (unleft (entries S)) ≡ true
  pub marked : mark_of S c ≡ Some (outlet_mark i.outlet)

-- The two ends met: both are as before, but that each knows of the other.
pub record OutboxMeets (d n : Desk) (c : ℕ) (i j : Outbox) : Type 0 where
  pub about : n.about ≡ d.about
  pub stands : (S : List Stamped) → DeskStands d S → DeskStands n S
  pub outlet : (S : List Stamped) → DeskStands d S → IsOutletOf d.about (entries S) c j.outlet
  pub same : SameOutlet i.outlet j.outlet
  pub known : known_of n c ≡ length (given j.outlet)
  pub knows : (S : List Stamped) → DeskStands d S → KnowsOutbox d.about (entries S) c j.outlet
  pub others : (b : ℕ) → b ≢ c → row_of n b ≡ row_of d b
  pub becomes : j ≡ record i { outlet = j.outlet }

-- What stays of a desk and of an outbox from which was taken once: the outlet fits the history, and the desk knows how many
-- frames were taken.
pub record StaysMet (S : List Stamped) (c : ℕ) (d n : Desk) (i j : Outbox) : Type 0 where
  pub stands : DeskStands n S
  pub about : n.about ≡ d.about
  pub others : (b : ℕ) → b ≢ c → row_of n b ≡ row_of d b
  pub vmac : j.vmac ≡ i.vmac
  pub mark : outlet_mark j.outlet ≡ outlet_mark i.outlet
  pub outlet : IsOutletOf d.about (entries S) c j.outlet
  pub known : known_of n c ≡ length (given j.outlet)

-- How often an outbox was found empty, once its frames are taken: once more where its connection is live.
abbrev pub empties_then : Option End → ℕ → ℕ
empties_then None n = min (n + 1) (2 ^ 64 - 1)
empties_then (Some ending) n = n

-- Nothing was left to take, and the connection has ended so.
pub record TookNone (S : List Stamped) (c : ℕ) (ending : Option End) (d n : Desk) (i j : Outbox) : Type 0 where
  pub stays : StaysMet S c d n i j
  pub same : given j.outlet ≡ given i.outlet
  pub whole : given i.outlet ≡ sent d.about (entries S) c
  pub ends : ending ≡ ended (entries S) c
  pub not_left : ending ≢ Some Left
  pub empties : empties_of j.outlet ≡ empties_then ending (empties_of i.outlet)
  pub tags : j.tags.items ≡ i.tags.items

-- The next frame was taken, with the tag at the front.
pub record TookNext (S : List Stamped) (c : ℕ) (frame : List ℕ) (tag : ℕ) (d n : Desk) (i j : Outbox) : Type 0 where
  pub stays : StaysMet S c d n i j
  pub more : given j.outlet ≡ given i.outlet ++ frame ∷ []
  pub empties : empties_of j.outlet ≡ empties_of i.outlet
  pub front : (x : ℕ) → slice_get i.tags.items 0 ≡ Some x → tag ≡ x
  pub tags : j.tags.items ≡ drop 1 i.tags.items

-- What a take did, by its answer.
abbrev pub TookOne : List Stamped → ℕ → Took → Desk → Desk → Outbox → Outbox → Type 0
TookOne S c (Frame frame tag) d n i j = TookNext S c frame tag d n i j
TookOne S c Empty d n i j = TookNone S c None d n i j
TookOne S c (Closed ending) d n i j = TookNone S c (Some ending) d n i j
