-- The entries that the tests' counter makes.
use Rattle.std.specs.Prelude.{◌≡◌, ℕ, [], ◌∷◌, ◌++◌, List, length, None}
use Rattle.bsc_history.specs.declared.call.Call.TheVariants.{Count}
use Rattle.bsc_history.specs.declared.mark.Stamped.{Stamped}
use Rattle.bsc_history.specs.declared.reply.Reply.TheVariants.{Stopped}
use Rattle.bsc_turn.specs.declared.pass.Pass.{Pass}
use Rattle.bsc_turn.specs.Histories.{StartsWith}
use Rattle.bsc_turn.specs.Passes.{number_of, own_list, seen}

-- An entry of a caller, with no mark.
abbrev pub counted : ℕ → Stamped
counted caller = record { entry = record { caller = caller; call = Count; looks = []; reply = Stopped }; mark = None }

-- The pass made one entry, at this place: behind all that it had seen, and last of all that it has seen now.
abbrev pub MadeOne : Pass → ℕ → Pass → Type 0
MadeOne p place q =
    (before : List Stamped) × StartsWith before (seen p) × (place ≡ length before)
    × (seen q ≡ before ++ counted (number_of p) ∷ [])
    × (own_list q ≡ own_list p ++ (counted (number_of p)).entry ∷ [])
