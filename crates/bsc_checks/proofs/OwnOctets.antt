-- The octets of a NAK are no Encapsulated-NPDU.
-- It serves bsc_accept and bsc_initiate.
use Rattle.std.proofs.Common.{◌≡◌, ℕ, Bool, true, false, not, ◌&&◌, List, Option, Some, None, refl}
use Rattle.std.specs.Prelude.{⊤}
use Rattle.bsc_octets.specs.Forwarding.{function_in}
use Rattle.bsc_octets.specs.Functions.{is_npdu, is_response}
use Rattle.bsc_frame.specs.declared.check.Check.{Check}
use Rattle.bsc_checks.specs.declared.place.Place.{Place}
use Rattle.bsc_checks.specs.declared.verdict.Verdict.{Verdict}
use Rattle.bsc_checks.specs.declared.verdict.Verdict.TheVariants.{Nak}
use Rattle.bsc_checks.specs.Places.{dest_in, is_to_carry}
use Rattle.bsc_checks.specs.PlaceTests.{is_unicast}
use Rattle.bsc_checks.specs.Failing.{fails}
use Rattle.bsc_checks.specs.Outcomes.{answered, refused, accepted, decided, first_failing, outcome_of}
use Rattle.bsc_checks.specs.Table.{code_of, checks_of}

-- the octets of a NAK verdict are no Encapsulated-NPDU
abbrev pub IsNoNpdu : Verdict → Type 0
IsNoNpdu (Nak check octets) = is_npdu octets.items ≡ false
IsNoNpdu v = ⊤

no_npdu_answered : (b : Bool) (m : List ℕ) (place : Place) (check : Check) (code : ℕ) → IsNoNpdu (answered b m place check code)
no_npdu_answered true m place check code = refl
no_npdu_answered false m place check code = tt

no_npdu_refused : (m : List ℕ) (place : Place) (check : Check) (code : Option ℕ) → IsNoNpdu (refused m place check code)
no_npdu_refused m place check None = tt
no_npdu_refused m place check (Some code) = no_npdu_answered (is_unicast (dest_in m) && not (is_response (function_in m))) m place check code

no_npdu_accepted : (b : Bool) (m : List ℕ) → IsNoNpdu (accepted b m)
no_npdu_accepted true m = tt
no_npdu_accepted false m = tt

no_npdu_decided : (m : List ℕ) (place : Place) (o : Option Check) → IsNoNpdu (decided m place o)
no_npdu_decided m place None = no_npdu_accepted (is_to_carry place m) m
no_npdu_decided m place (Some check) = no_npdu_refused m place check (code_of check)

pub no_npdu-judged : (m : List ℕ) (place : Place) (max : ℕ) → IsNoNpdu (outcome_of m place max)
unfolding outcome_of
no_npdu-judged m place max = no_npdu_decided m place (first_failing (fails m place max) (checks_of place m))
