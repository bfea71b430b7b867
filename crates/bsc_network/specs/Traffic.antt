-- What stands on a way of a link.
use Rattle.std.specs.Prelude.{ℕ, ◌+◌, List, [], ◌∷◌, ◌++◌, slice_get, Option}
use Rattle.bsc_network.specs.declared.parcel.Parcel.{Parcel}

-- A way of a link: all that was put on it, oldest first, and how much of that has arrived.
pub record Traffic : Type 0 where
  pub put : List Parcel
  pub arrived : ℕ

-- a way on which this stands from its beginning
abbrev pub beginning_with : List Parcel → Traffic
beginning_with put = record { put = put; arrived = 0 }

-- The front of a way: the oldest that hasn't arrived.
abbrev pub front : Traffic → Option Parcel
front t = slice_get t.put t.arrived

-- the way once its front has arrived
abbrev pub without_front : Traffic → Traffic
without_front t = record t { arrived = t.arrived + 1 }

-- the way with one more at its end
abbrev pub and_then : Parcel → Traffic → Traffic
and_then parcel t = record t { put = t.put ++ parcel ∷ [] }
