-- How a hub is doing, and journals in files, written out.
-- No clause needs it: worked examples.
use Rattle.std.proofs.Common.{◌≡◌, ℕ, List, [], ◌∷◌, codes, Option, Some, None, refl, arith}
use Rattle.bsc_history.specs.Counting.{counts}
use Rattle.bsc_history.specs.Ends.{joined_where}
use Rattle.bsc_desk.specs.Looking.{IsStatusOf}
use Rattle.bsc_serve.specs.Showing.{Shown}
use Rattle.bsc_audit.specs.Pieces.{GivesAt, file_at}

-- Of a hub that nobody has joined yet anything may be said to wait.
at_first : IsStatusOf [] (record { counts = counts []; connections = 0; rows = 0; waiting = 5 })
unfolding joined_where
at_first = record { counted = refl; connections = refl; rows = refl }

nobody_is_there : IsStatusOf [] (record { counts = counts []; connections = 1; rows = 0; waiting = 0 }) → ⊥
unfolding joined_where
nobody_is_there s = (let k : 1 ≡ 0 = s.connections in omega (arith, k))

shown_untold : Shown [] None None
shown_untold = record { statuses = []; told = tt; were = tt }

-- ---- journals in files

second_file : file_at ((1 ∷ []) ∷ (2 ∷ 3 ∷ []) ∷ []) 1 ≡ 2 ∷ 3 ∷ []
second_file = refl

at_its_end : GivesAt (1 ∷ []) 1 []
at_its_end = record { rest = []; parts = refl; end = λ none. refl }
