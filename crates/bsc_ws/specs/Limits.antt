-- Limits of what a link receives.
use Rattle.std.specs.Prelude.{◌≡◌, ℕ, Option, Some, Bool, false}

-- A message and a frame have at most 131,072 octets, and no frame may lack the mask that its sender's role asks for.
abbrev pub HasOurLimits : Option ℕ → Option ℕ → Bool → Type 0
HasOurLimits message frame unmasked = (message ≡ Some 131072) × (frame ≡ Some 131072) × (unmasked ≡ false)
