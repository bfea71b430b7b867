-- The words of the functions that make the checks one by one. No public clause has them.
use Rattle.std.specs.Prelude.{◌≡◌, ℕ, ◌<◌, ◌≤◌, ◌^◌, Bool, if◌then◌else◌, not, ◌&&◌, ◌==◌, List, [], ◌∷◌, ◌++◌, length, Option, Some, None, Result, Ok, Err}
use Rattle.std.specs.List.{AllByRecursion}
use Rattle.byteorder.specs.Endian.{big_number}
use Rattle.bsc_octets.specs.declared.envelope.Envelope.{Envelope}
use Rattle.bsc_octets.specs.Envelopes.{flags_in, SpellsEnvelope, HasWholeAddresses}
use Rattle.bsc_octets.specs.Forwarding.{function_in, id_in}
use Rattle.bsc_options.specs.declared.item.OptionItem.{OptionItem}
use Rattle.bsc_options.specs.Spelling.{has_items, marker_of}
use Rattle.bsc_octets.specs.declared.no_memory.NoMemory.{NoMemory}
use Rattle.bsc_frame.specs.declared.message.Message.{Message}
use Rattle.bsc_frame.specs.declared.check.Check.{Check}
use Rattle.bsc_frame.specs.declared.check.Check.TheVariants.{C1, C2, C3, C4, C5, C7, C7b, C8, C9, C13}
use Rattle.bsc_frame.specs.Layout.{announces_dest_options, announces_data_options, options_at, IsList}
use Rattle.bsc_frame.specs.Checks.{IsFirstOf}
use Rattle.bsc_frame.specs.declared.lists.Ends.{Ends}
use Rattle.bsc_checks.specs.declared.place.Place.{Place}
use Rattle.bsc_checks.specs.declared.failed_check.FailedCheck.{FailedCheck}
use Rattle.bsc_checks.specs.declared.verdict.Verdict.{Verdict}
use Rattle.bsc_checks.specs.declared.verdict.Verdict.TheVariants.{Pass}
use Rattle.bsc_checks.specs.Places.{origin_in, dest_in, HasWrongAddresses}
use Rattle.bsc_checks.specs.Table.{Fails, code_of, later_checks}
use Rattle.bsc_checks.specs.Naks.{IsMarker}
use Rattle.bsc_checks.specs.Verdicts.{Judged}

-- None of these checks fails.
abbrev pub NoneOf : List Check → List ℕ → Place → ℕ → Type 0
NoneOf checks m place max = AllByRecursion (λ check. ¬ Fails m place max check) checks

-- ---- the envelope

-- The octets begin with the envelope, and its parts stand where the table looks for them.
pub record IsHead (m : List ℕ) (e : Envelope) : Type 0 where
  pub spells : SpellsEnvelope e m
  pub whole : HasWholeAddresses e
  pub id_fits : e.id < 2 ^ 16
  pub id : e.id ≡ big_number 2 (id_in m)
  pub function : function_in m ≡ e.function
  pub flags : flags_in m ≡ e.flags
  pub origin : e.origin ≡ origin_in m
  pub dest : e.dest ≡ dest_in m
  pub rest : options_at m ≡ e.rest_at
  pub within : e.rest_at ≤ length m

-- The checks that are always silent, which come before the others.
abbrev pub silent_checks : List Check
silent_checks = C1 ∷ C2 ∷ C3 ∷ C4 ∷ []

-- What looking at the addresses of an envelope may answer.
abbrev pub PlacedAnswers : List ℕ → Place → Result Envelope Check → Type 0
PlacedAnswers m place (Ok e) = IsHead m e × (¬ HasWrongAddresses place (function_in m) (origin_in m) (dest_in m))
PlacedAnswers m place (Err check) = (check ≡ C4) × HasWrongAddresses place (function_in m) (origin_in m) (dest_in m)

-- What looking at the envelope may answer.
abbrev pub HeadAnswers : List ℕ → Place → ℕ → Result Envelope Check → Type 0
HeadAnswers m place max (Ok e) = IsHead m e × NoneOf silent_checks m place max
HeadAnswers m place max (Err check) = IsFirstOf silent_checks (Fails m place max) check × (code_of check ≡ None)

-- ---- the checks behind it

-- What making some checks in their order may answer: none fails, or which is the first, with its marker.
abbrev pub ChecksAnswer : List Check → List ℕ → Place → ℕ → Option FailedCheck → Type 0
ChecksAnswer checks m place max None = NoneOf checks m place max
ChecksAnswer checks m place max (Some refusal) = IsFirstOf checks (Fails m place max) refusal.check × IsMarker m refusal.check refusal.marker

-- The checks between that of the reserved flags and that of the place, of a message that is to be carried on or not.
abbrev pub between : Bool → List Check
between to_carry = if to_carry then [] else later_checks

-- The checks from that of the reserved flags on.
abbrev pub from_flags : Bool → List Check
from_flags to_carry = C5 ∷ between to_carry ++ C13 ∷ []

-- ---- the header options

-- The checks of the lists of header options, in their order.
abbrev pub option_checks : List Check
option_checks = C7 ∷ C7b ∷ C8 ∷ C9 ∷ []

-- The lists of header options end at these places, and the second begins where the first ends.
pub record HasEnds (m : List ℕ) (ends : Ends) (xs : List OptionItem) (ys : List OptionItem) : Type 0 where
  pub first : IsList (announces_dest_options (flags_in m)) m (options_at m) xs ends.dest
  pub second : IsList (announces_data_options (flags_in m)) m ends.dest ys ends.data
  pub middle : ends.dest ≤ length m
  pub within : ends.data ≤ length m

-- The marker of the first of these items that is not understood.
abbrev pub marker_refused : List OptionItem → Option ℕ
marker_refused [] = None
marker_refused (item ∷ rest) = if item.must && not (item.kind == 1) then Some (marker_of (has_items rest) item) else marker_refused rest

-- What looking at the lists may answer.
abbrev pub OptionsAnswer : List ℕ → Place → ℕ → Result Ends FailedCheck → Type 0
OptionsAnswer m place max (Ok ends) = ((xs : List OptionItem) × (ys : List OptionItem) × HasEnds m ends xs ys) × ChecksAnswer option_checks m place max None
OptionsAnswer m place max (Err refusal) = ChecksAnswer option_checks m place max (Some refusal)

-- ---- the whole

-- What judging may answer.
abbrev pub VerdictAnswers : List ℕ → Place → ℕ → Result Verdict NoMemory → Type 0
VerdictAnswers m place max (Ok verdict) = Judged m place max verdict
VerdictAnswers m place max (Err e) = (msg : Message) × Judged m place max (Pass msg)
