-- What waits in an inbox, and what is taken of one.
use Rattle.std.specs.Prelude.{◌≡◌, Bool, true, false, List, [], ◌∷◌, ◌++◌, Option, Some, None}
use Rattle.bsc_input.specs.declared.inbox.taken.Taken.{Taken}
use Rattle.bsc_input.specs.declared.inbox.taken.Taken.TheVariants.{Line, Nothing, End}

-- What was taken stood first, and the rest still waits; or nothing waited.
abbrev pub Gives : List Taken → List Taken → Taken → Type 0
Gives [] after taken = (after ≡ []) × (taken ≡ Nothing)
Gives (first ∷ waiting) after taken = (after ≡ waiting) × (taken ≡ first)

-- What was taken of an inbox that may not be there: what the inbox gave; and nothing, where there is none.
abbrev pub TakenOf : {I : Type 0} → (I → List Taken) → Option I → Option I → Taken → Type 0
TakenOf all (Some old) (Some new) taken = all new ≡ all old ++ taken ∷ []
TakenOf all None None taken = taken ≡ Nothing
TakenOf all old new taken = ⊥

-- Whether it has failed: not where there is none.
abbrev pub failed_in : {I : Type 0} → (I → Bool) → Option I → Bool
failed_in failed (Some inbox) = failed inbox
failed_in failed None = false

-- whether it is the end of an input
abbrev pub is_end : Taken → Bool
is_end (Line o) = false
is_end Nothing = false
is_end End = true
