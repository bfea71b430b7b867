-- The verdict that is computed is one that the message has.
-- It serves the clauses of `one_outcome`.
use Rattle.std.proofs.Common.{◌≡◌, ℕ, ◌<◌, ◌≤◌, ◌*◌, Bool, true, false, not, ◌&&◌, List, [], ◌∷◌, ◌++◌, length, Option, Some, None, is_some, IfSome, refl, sym, ap, subst, ◌∙◌, arith}
use Rattle.byteorder.specs.Endian.{big_number}
use Rattle.bsc_octets.specs.declared.vmac.Vmac.{Vmac}
use Rattle.bsc_octets.specs.Forwarding.{function_in, id_in}
use Rattle.bsc_octets.specs.Functions.{is_response}
use Rattle.bsc_options.specs.Spelling.{bit}
use Rattle.bsc_frame.specs.declared.check.Check.{Check}
use Rattle.bsc_frame.specs.declared.check.Check.TheVariants.{C1, C2, C3, C5, C6, C7, C7b, C8, C9, C10, C10b, C10c, C11, C12}
use Rattle.bsc_frame.specs.Layout.{options_at}
use Rattle.bsc_frame.specs.Checks.{IsFirstOf}
use Rattle.bsc_frame.specs.Spelling.{spelling}
use Rattle.bsc_frame.proofs.First.{Pass as PassAll, first_here, first_after}
use Rattle.bsc_checks.specs.declared.place.Place.{Place}
use Rattle.bsc_checks.specs.declared.place.Place.TheVariants.{HubPort, NodeHub, NodeDirect}
use Rattle.bsc_checks.specs.Places.{origin_in, dest_in, is_to_carry}
use Rattle.bsc_checks.specs.Table.{Fails, code_of, checks_of, IsFirst, NoneFails, IsFirstNotUnderstood}
use Rattle.bsc_checks.specs.Naks.{IsAnswered, IsNak, IsMarker, return_address, nak_to}
use Rattle.bsc_checks.specs.Verdicts.{Judged}
use Rattle.bsc_checks.proofs.NakOctets.{nak_spelled}
use Rattle.bsc_checks.proofs.Verdicts.{frame_passes}
use Rattle.bsc_checks.specs.Options.{AreOctets, dest_options_in}
use Rattle.bsc_checks.specs.PlaceTests.{is_unicast}
use Rattle.bsc_checks.specs.Failing.{fails}
use Rattle.bsc_checks.specs.Outcomes.{marker_for, number_or_0, answered, refused, accepted, decided, first_failing, outcome_of}
use Rattle.bsc_checks.proofs.Reflecting.{Reflects, fails_of}
use Rattle.bsc_checks.proofs.TwoLists.{dest_says}
use Rattle.bsc_checks.proofs.OptionTests.{first_marker}
use Rattle.bsc_checks.proofs.Failing.{fails_says}
use Rattle.bsc_checks.proofs.Envelopes.{id_small, envelope_spelled, envelope_whole}
use Rattle.bsc_checks.proofs.Messages.{room, message_spelled}
use Rattle.bsc_checks.proofs.Outcomes.{answers}

-- ---- the first that fails

step_true : (t : Check → Bool) (x : Check) (order : List Check) → t x ≡ true → first_failing t (x ∷ order) ≡ Some x
step_true t x order is = rw (is, first_failing) refl

step_false : (t : Check → Bool) (x : Check) (order : List Check) → t x ≡ false → first_failing t (x ∷ order) ≡ first_failing t order
step_false t x order is = rw (is, first_failing) refl

found_by : (P : Check → Type 0) (t : Check → Bool) (x : Check) (order : List Check) (k : Check) (b : Bool) → Reflects (P x) (t x) → t x ≡ b
    → (first_failing t order ≡ Some k → IsFirstOf order P k) → first_failing t (x ∷ order) ≡ Some k
    → IsFirstOf (x ∷ order) P k
found_by P t x order k true r is later e =
    let both : ◌≡◌ {A = Option Check} (Some x) (Some k) = sym (step_true t x order is) ∙ e in
    let same : x ≡ k = cc in
    subst (IsFirstOf (x ∷ order) P) same (first_here P x order (r.holds is))
found_by P t x order k false r is later e = first_after P x order k (fails_of (P x) (t x) r is) (later (sym (step_false t x order is) ∙ e))

first_found : (P : Check → Type 0) (t : Check → Bool) → ((k : Check) → Reflects (P k) (t k)) → (order : List Check) (k : Check) → first_failing t order ≡ Some k → IsFirstOf order P k
first_found P t r [] k e = absurd cc
first_found P t r (x ∷ order) k e = found_by P t x order k (t x) (r x) refl (λ later. first_found P t r order k later) e

none_by : (P : Check → Type 0) (t : Check → Bool) (x : Check) (order : List Check) (b : Bool) → Reflects (P x) (t x) → t x ≡ b → (first_failing t order ≡ None → PassAll P order)
    → first_failing t (x ∷ order) ≡ None → PassAll P (x ∷ order)
none_by P t x order true r is later e = let both : ◌≡◌ {A = Option Check} (Some x) None = sym (step_true t x order is) ∙ e in absurd cc
none_by P t x order false r is later e = (fails_of (P x) (t x) r is, later (sym (step_false t x order is) ∙ e))

none_found : (P : Check → Type 0) (t : Check → Bool) → ((k : Check) → Reflects (P k) (t k)) → (order : List Check) → first_failing t order ≡ None → PassAll P order
none_found P t r [] e = tt
none_found P t r (x ∷ order) e = none_by P t x order (t x) (r x) refl (λ later. none_found P t r order later) e

-- ---- where no check fails

accepted_judged : (m : List ℕ) (place : Place) (max : ℕ) (b : Bool) → AreOctets m → is_to_carry place m ≡ b → NoneFails m place max → Judged m place max (accepted b m)
accepted_judged m place max true octets is none =
    let here = room m none.0 none.1.1.0 in
    (none, is, envelope_spelled m octets here.0 here.1, envelope_whole m here.1, id_small m octets)
accepted_judged m place max false octets is none = (none, is, message_spelled m octets (frame_passes m place max false (sym is) refl none))

-- ---- where one does

-- a code fits two octets
code_small : (k : Check) (code : ℕ) → code_of k ≡ Some code → code < 65536
code_small C5 code e = let is : 145 ≡ code = cc in omega arith
code_small C6 code e = let is : 143 ≡ code = cc in omega arith
code_small C7 code e = let is : 147 ≡ code = cc in omega arith
code_small C7b code e = let is : 145 ≡ code = cc in omega arith
code_small C8 code e = let is : 145 ≡ code = cc in omega arith
code_small C9 code e = let is : 146 ≡ code = cc in omega arith
code_small C10 code e = let is : 149 ≡ code = cc in omega arith
code_small C10b code e = let is : 147 ≡ code = cc in omega arith
code_small C10c code e = let is : 150 ≡ code = cc in omega arith
code_small C11 code e = let is : 80 ≡ code = cc in omega arith
code_small C12 code e = let is : 144 ≡ code = cc in omega arith
code_small k code e = absurd cc

-- a check with a code comes behind those of the length
silent_first : (fails : Check → Type 0) (j : Check) (order : List Check) (k : Check) (code : ℕ) → code_of j ≡ None → code_of k ≡ Some code → IsFirstOf (j ∷ order) fails k → (fails j → ⊥)
    × IsFirstOf order fails k
silent_first fails j order k code silent coded first = by first.before first.place first.earlier
  where
    by : (before : List Check) → j ∷ order ≡ before ++ k ∷ first.after → PassAll fails before → (fails j → ⊥) × IsFirstOf order fails k
    by [] place earlier =
        let same : j ≡ k = cc in
        let both : ◌≡◌ {A = Option ℕ} None (Some code) = sym silent ∙ ap code_of same ∙ coded in
        absurd cc
    by (x ∷ before) place earlier =
        let same : x ≡ j = cc in
        let rest : order ≡ before ++ k ∷ first.after = cc in
        (subst (λ (c : Check). fails c → ⊥) same earlier.0, record { before = before; after = first.after; place = rest; earlier = earlier.1; fault = first.fault })

-- there is room for the addresses where a check with a code is the first that fails
coded_room : (m : List ℕ) (place : Place) (max : ℕ) (k : Check) (code : ℕ) → code_of k ≡ Some code → IsFirst k m place max → (4 ≤ length m) × (options_at m ≤ length m)
coded_room m place max k code coded first =
    let failing = Fails m place max in
    let one = silent_first failing C1 _ k code refl coded first in
    let two = silent_first failing C2 _ k code refl coded one.1 in
    let three = silent_first failing C3 _ k code refl coded two.1 in
    room m one.0 three.0

-- the addresses of a NAK are whole
back_whole : (place : Place) (origin : Option Vmac) → IfSome origin (λ v. length v.0 ≡ 6) → IfSome (return_address place origin) (λ v. length v.0 ≡ 6)
back_whole (HubPort phase) origin six = tt
back_whole (NodeHub own phase) origin six = six
back_whole (NodeDirect own peer phase) origin six = tt

marker_found : (m : List ℕ) (k : Check) (place : Place) (max : ℕ) → AreOctets m → Fails m place max k → IsMarker m k (marker_for m k)
marker_found m C9 place max octets fault =
    let is = first_marker m (dest_options_in m) fault.0 (dest_says m octets) fault.1 in
    subst (IsFirstNotUnderstood m) (ap number_or_0 (sym is)) fault.1
marker_found m k place max octets fault = refl

nak_found : (m : List ℕ) (place : Place) (max : ℕ) (k : Check) (code : ℕ) → AreOctets m → code_of k ≡ Some code → IsAnswered m k code → IsFirst k m place max
    → IsNak m place k (spelling (nak_to m place (marker_for m k) code))
nak_found m place max k code octets coded answered first =
    let here = coded_room m place max k code coded first in
    let back = return_address place (origin_in m) in
    let id = big_number 2 (id_in m) in
    let marker = marker_for m k in
    let spells = nak_spelled id back (function_in m) marker code (4 * bit (is_some back)) _ (id_small m octets) (back_whole place (origin_in m) (envelope_whole m here.1).origin)
    (code_small k code coded) refl refl in
    record { code = code; marker = marker; answered = answered; marker_is = marker_found m k place max octets first.fault; octets = record { legal = spells.legal; octets = refl } }

answered_judged : (m : List ℕ) (place : Place) (max : ℕ) (k : Check) (code : ℕ) (b : Bool) → AreOctets m → (is_unicast (dest_in m) && not (is_response (function_in m))) ≡ b
    → code_of k ≡ Some code → IsFirst k m place max
    → Judged m place max (answered b m place k code)
answered_judged m place max k code true octets is coded first =
    let both = (answers m).holds is in
    (first, nak_found m place max k code octets coded (record { code_is = coded; unicast = both.0; request = both.1 }) first)
answered_judged m place max k code false octets is coded first =
    (first, (λ other answered. fails_of _ (is_unicast (dest_in m) && not (is_response (function_in m))) (answers m) is (answered.unicast, answered.request)))

refused_judged : (m : List ℕ) (place : Place) (max : ℕ) (k : Check) (c : Option ℕ) → AreOctets m → code_of k ≡ c → IsFirst k m place max → Judged m place max (refused m place k c)
refused_judged m place max k None octets coded first = (first, (λ code answered. let both : ◌≡◌ {A = Option ℕ} None (Some code) = sym coded ∙ answered.code_is in absurd cc))
refused_judged m place max k (Some code) octets coded first = answered_judged m place max k code (is_unicast (dest_in m) && not (is_response (function_in m))) octets refl coded first

-- ---- the verdict

decided_judged : (m : List ℕ) (place : Place) (max : ℕ) (r : Option Check) → AreOctets m → first_failing (fails m place max) (checks_of place m) ≡ r → Judged m place max (decided m place r)
decided_judged m place max None octets is = accepted_judged m place max (is_to_carry place m) octets refl
    (none_found (Fails m place max) (fails m place max) (fails_says m place max octets) (checks_of place m) is)
decided_judged m place max (Some k) octets is = refused_judged m place max k (code_of k) octets refl
    (first_found (Fails m place max) (fails m place max) (fails_says m place max octets) (checks_of place m) k is)

pub outcome_judged : (m : List ℕ) (place : Place) (max : ℕ) → AreOctets m → Judged m place max (outcome_of m place max)
unfolding outcome_of
outcome_judged m place max octets = decided_judged m place max (first_failing (fails m place max) (checks_of place m)) octets refl
