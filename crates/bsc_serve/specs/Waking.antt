-- Who is woken once a hub is stopped.
use Rattle.std.specs.Prelude.{◌≡◌, ℕ, List, [], ◌∷◌, ◌++◌, position, Option, Some, None, Result, Ok, Err, ⊤}
use Rattle.bsc_history.specs.declared.counts.Counts.{Counts}
use Rattle.bsc_history.specs.declared.told.AlreadyStopped.{AlreadyStopped}
use Rattle.bsc_history.specs.declared.told.Told.{Told}
use Rattle.bsc_history.specs.Entries.{stops}
use Rattle.bsc_history.specs.Marks.{entries}
use Rattle.bsc_turn.specs.declared.pass.Pass.{Pass}
use Rattle.bsc_turn.specs.Passes.{seen}

-- where the Stop stands, by what the stop of a hub answered
abbrev pub stop_place : Result (Told Counts) AlreadyStopped → ℕ
stop_place (Ok t) = t.at
stop_place (Err already) = already.at

-- The last that is told is this.
abbrev pub LastIs : {A : Type 0} → Option (List A) → A → Type 0
LastIs {A} None x = ⊤
LastIs {A} (Some xs) x = (front : List A) × (xs ≡ front ++ x ∷ [])

-- All links were woken last, with the place at which the Stop stands in what the pass has seen. Nobody has that place before
-- the hub is stopped, so they were woken behind the Stop.
abbrev pub WakesAll : Pass → Option (List ℕ) → Type 0
WakesAll q told = (at : ℕ) × (position stops (entries (seen q)) ≡ Some at) × LastIs told at
