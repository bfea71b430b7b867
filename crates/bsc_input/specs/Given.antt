-- What is taken of a ring's outlet, as of an inbox.
use Rattle.std.specs.Prelude.{◌≡◌, ℕ, Bool, true, false, not, List, [], ◌∷◌}
use Rattle.bsc_history.specs.declared.ending.End.{End as EndType}
use Rattle.bsc_history.specs.declared.ending.End.TheVariants.{Stopped}
use Rattle.bsc_input.specs.declared.inbox.taken.Taken.{Taken}
use Rattle.bsc_input.specs.declared.inbox.taken.Taken.TheVariants.{Line, Nothing, End}
use Rattle.bsc_ring.specs.declared.take.Take.{Take}
use Rattle.bsc_ring.specs.declared.take.Take.TheVariants.{Frame, Empty, Closed}

-- the lines among what was taken
abbrev pub lines_taken : List Taken → List (List ℕ)
lines_taken [] = []
lines_taken (Line o ∷ taken) = o ∷ lines_taken taken
lines_taken (other ∷ taken) = lines_taken taken

-- whether an input ended since all of it was read
abbrev pub is_whole : EndType → Bool
is_whole Stopped = true
is_whole end = false

-- What a ring gave, as what is taken of the inbox: a frame is a line, an End the end of the input; and whether that came since the input
-- couldn't be read any further.
abbrev pub EndsRightly : Take → Taken → Bool → Type 0
EndsRightly (Frame x) taken failed = (taken ≡ Line x) × (failed ≡ false)
EndsRightly Empty taken failed = (taken ≡ Nothing) × (failed ≡ false)
EndsRightly (Closed e) taken failed = (taken ≡ End) × (failed ≡ not (is_whole e))
