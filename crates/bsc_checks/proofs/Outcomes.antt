-- The verdict that a message has is the one that is computed.
-- It serves the clauses of `judge` and `one_outcome`.
use Rattle.std.proofs.Common.{◌≡◌, ℕ, Bool, true, false, not, ◌&&◌, List, Option, Some, None, refl, sym, ap, ◌∙◌}
use Rattle.arrayvec.specs.ArrayVec.{ArrayVec}
use Rattle.bsc_octets.specs.Forwarding.{function_in}
use Rattle.bsc_octets.specs.Functions.{is_response}
use Rattle.bsc_frame.specs.declared.check.Check.{Check}
use Rattle.bsc_frame.specs.declared.check.Check.TheVariants.{C9}
use Rattle.bsc_frame.specs.declared.message.Message.{Message}
use Rattle.bsc_frame.specs.Spelling.{spelling}
use Rattle.bsc_checks.specs.declared.place.Place.{Place}
use Rattle.bsc_checks.specs.declared.verdict.Verdict.{Verdict}
use Rattle.bsc_checks.specs.declared.verdict.Verdict.TheVariants.{Pass, Carry, Silent, Nak}
use Rattle.bsc_checks.specs.Places.{dest_in, IsUnicast}
use Rattle.bsc_checks.specs.Table.{Fails, code_of, checks_of}
use Rattle.bsc_checks.specs.Naks.{IsAnswered, IsNak, IsMarker, IsResponse, nak_to}
use Rattle.bsc_checks.specs.Verdicts.{Judged}
use Rattle.bsc_checks.specs.Options.{AreOctets, dest_options_in}
use Rattle.bsc_checks.specs.PlaceTests.{is_unicast}
use Rattle.bsc_checks.specs.Failing.{fails}
use Rattle.bsc_checks.specs.Outcomes.{marker_for, number_or_0, answered, refused, accepted, decided, outcome_of}
use Rattle.bsc_checks.proofs.Reflecting.{Reflects, also, never}
use Rattle.bsc_checks.proofs.TwoLists.{dest_says}
use Rattle.bsc_checks.proofs.OptionTests.{first_marker}
use Rattle.bsc_checks.proofs.PlaceTests.{unicast, response}
use Rattle.bsc_checks.proofs.Failing.{fails_says, first_is, none_is}
use Rattle.bsc_checks.proofs.Envelopes.{envelope_is}
use Rattle.bsc_checks.proofs.Messages.{message_is}

-- ---- the NAK

marker_is : (m : List ℕ) (k : Check) (marker : ℕ) → AreOctets m → IsMarker m k marker → marker ≡ marker_for m k
marker_is m C9 marker octets first = ap number_or_0 (sym (first_marker m (dest_options_in m) marker (dest_says m octets) first))
marker_is m k marker octets plain = plain

pub answers : (m : List ℕ) → Reflects (IsUnicast (dest_in m) × (IsResponse (function_in m) → ⊥)) (is_unicast (dest_in m) && not (is_response (function_in m)))
answers m =
    also (IsUnicast (dest_in m)) (IsResponse (function_in m) → ⊥) (is_unicast (dest_in m)) (not (is_response (function_in m))) (unicast (dest_in m))
    (never (IsResponse (function_in m)) (is_response (function_in m)) (response (function_in m)))

silent_by : (m : List ℕ) (place : Place) (k : Check) (code : ℕ) (b : Bool) → (is_unicast (dest_in m) && not (is_response (function_in m))) ≡ b → code_of k ≡ Some code
    → (IsAnswered m k code → ⊥) → Silent k ≡ answered b m place k code
silent_by m place k code true is coded none =
    let both = (answers m).holds is in
    absurd (none (record { code_is = coded; unicast = both.0; request = both.1 }))
silent_by m place k code false is coded none = refl

silent_is : (m : List ℕ) (place : Place) (k : Check) (c : Option ℕ) → code_of k ≡ c → ((code : ℕ) → IsAnswered m k code → ⊥) → Silent k ≡ refused m place k c
silent_is m place k None coded none = refl
silent_is m place k (Some code) coded none = silent_by m place k code (is_unicast (dest_in m) && not (is_response (function_in m))) refl coded (none code)

vector_is : (v : ArrayVec ℕ) (o : List ℕ) → v.items ≡ o → v ≡ record { items = o }
vector_is v o same = ap (λ (l : List ℕ). let w : ArrayVec ℕ = record { items = l } in w) same

nak_is : (m : List ℕ) (place : Place) (k : Check) (v : ArrayVec ℕ) → AreOctets m → IsNak m place k v.items → Nak k v ≡ refused m place k (code_of k)
nak_is m place k v octets nak =
    let set : (is_unicast (dest_in m) && not (is_response (function_in m))) ≡ true = (answers m).back (nak.answered.unicast, nak.answered.request) in
    let spelled : v.items ≡ spelling (nak_to m place (marker_for m k) nak.code) = nak.octets.octets
    ∙ ap (λ (n : ℕ). spelling (nak_to m place n nak.code)) (marker_is m k nak.marker octets nak.marker_is) in
    ap (λ (w : ArrayVec ℕ). Nak k w) (vector_is v (spelling (nak_to m place (marker_for m k) nak.code)) spelled)
    ∙ ap (λ (b : Bool). answered b m place k nak.code) (sym set)
    ∙ ap (refused m place k) (sym nak.answered.code_is)

-- ---- the verdict

pub outcome_is : (m : List ℕ) (place : Place) (max : ℕ) (v : Verdict) → AreOctets m → Judged m place max v → v ≡ outcome_of m place max
unfolding outcome_of
outcome_is m place max (Pass msg) octets judged =
    ap Pass (message_is m msg octets judged.2)
    ∙ ap (λ (b : Bool). accepted b m) (sym judged.1)
    ∙ ap (decided m place) (sym (none_is (Fails m place max) (fails m place max) (fails_says m place max octets) (checks_of place m) judged.0))
outcome_is m place max (Carry e) octets judged =
    ap Carry (envelope_is m e judged.2 judged.3 judged.4)
    ∙ ap (λ (b : Bool). accepted b m) (sym judged.1)
    ∙ ap (decided m place) (sym (none_is (Fails m place max) (fails m place max) (fails_says m place max octets) (checks_of place m) judged.0))
outcome_is m place max (Silent k) octets judged =
    silent_is m place k (code_of k) refl judged.1
    ∙ ap (decided m place) (sym (first_is (Fails m place max) (fails m place max) (fails_says m place max octets) (checks_of place m) k judged.0))
outcome_is m place max (Nak k v) octets judged =
    nak_is m place k v octets judged.1
    ∙ ap (decided m place) (sym (first_is (Fails m place max) (fails m place max) (fails_says m place max octets) (checks_of place m) k judged.0))
