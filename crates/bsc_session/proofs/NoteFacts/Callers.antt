-- Whose entry is noted.
-- It serves the clauses of `put_entry`.
use Rattle.std.proofs.Common.{◌≡◌, ℕ, refl}
use Rattle.bsc_session.specs.declared.notes.noted.Made.{Made}
use Rattle.bsc_session.specs.declared.notes.noted.Made.TheVariants.{Joined, Refused, One, All, Left, Stopped}
use Rattle.bsc_session.specs.Notes.Noting.{entry_of}

pub caller_is : (n : ℕ) (m : Made) → n ≡ (entry_of n m).caller
caller_is n (Joined who conn replaced) = refl
caller_is n (Refused who refusal) = refl
caller_is n (One conn message said) = refl
caller_is n (All conn message said) = refl
caller_is n (Left conn empties gone) = refl
caller_is n (Stopped counts) = refl
