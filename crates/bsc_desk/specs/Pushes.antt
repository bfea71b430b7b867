-- What becomes of the inlet of a row by one act of the desk. A push is told by the number that its load of the head
-- found: so many frames were taken then.
use Rattle.std.specs.Prelude.{◌≡◌, ◌≤◌, ◌<◌, ◌+◌, ℕ, List, [], ◌∷◌, ◌++◌, length}
use Rattle.bsc_ring.specs.declared.ends.Inlet.{Inlet}
use Rattle.bsc_ring.specs.Ends.{capacity_of, inlet_mark, known_taken, loads, pushed}
use Rattle.bsc_ring.specs.Lists.{newest}

-- the inlet is as it was, but for its End and what it knows of its outlet
pub record SamePushes (i j : Inlet) : Type 0 where
  pub mark : inlet_mark j ≡ inlet_mark i
  pub holds : capacity_of j ≡ capacity_of i
  pub items : pushed j ≡ pushed i
  pub loads : loads j ≡ loads i

-- a push found n taken: so says its own load, the one load that it made; that is no less than the newest load before it
-- or than was known, and no more than was pushed
pub record FoundTaken (i : Inlet) (n : ℕ) (j : Inlet) : Type 0 where
  pub mark : inlet_mark j ≡ inlet_mark i
  pub holds : capacity_of j ≡ capacity_of i
  pub loaded : loads j ≡ loads i ++ n ∷ []
  pub later : newest (loads i) ≤ n
  pub at_least : known_taken i ≤ n
  pub within : n ≤ length (pushed i)
  pub known : known_taken j ≡ n

-- the frame is in: by this push there was room
pub record HadRoom (i : Inlet) (frame : List ℕ) (n : ℕ) (j : Inlet) : Type 0 where
  pub room : length (pushed i) < n + capacity_of i
  pub items : pushed j ≡ pushed i ++ frame ∷ []

-- by this push the outbox was full, and nothing entered
pub record WasFull (i : Inlet) (n : ℕ) (j : Inlet) : Type 0 where
  pub full : length (pushed i) ≡ n + capacity_of i
  pub items : pushed j ≡ pushed i
