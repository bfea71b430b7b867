-- Each check fails exactly where its test says so, and the first that fails is found.
-- It serves the clauses of `judge` and `one_outcome`.
use Rattle.std.proofs.Common.{◌≡◌, ℕ, ◌<◌, ◌≤◌, ◌⊎◌, Bool, true, false, ◌&&◌, ◌||◌, eqb, ltb, leb, List, [], ◌∷◌, ◌++◌, length, Some, None, refl, ap, ◌∙◌}
use Rattle.std.specs.List.{AllByRecursion}
use Rattle.bsc_octets.specs.Envelopes.{flags_in}
use Rattle.bsc_octets.specs.Forwarding.{function_in}
use Rattle.bsc_frame.specs.declared.check.Check.{Check}
use Rattle.bsc_frame.specs.declared.check.Check.TheVariants.{C1, C2, C3, C4, C5, C6, C7, C7b, C8, C9, C10, C10b, C10c, C11, C12, C13}
use Rattle.bsc_frame.specs.Layout.{announces_data_options, options_at}
use Rattle.bsc_frame.specs.Checks.{IsFirstOf, HasMisplacedDataOptions}
use Rattle.bsc_frame.specs.PayloadChecks.{IsMissing, IsBelowFixedPart, IsBeyondFixedPart, IsOutOfRange}
use Rattle.bsc_checks.specs.declared.place.Place.{Place}
use Rattle.bsc_checks.specs.Places.{origin_in, dest_in, is_to_carry, IsInPlace}
use Rattle.bsc_checks.specs.Table.{Fails}
use Rattle.bsc_checks.specs.Options.{AreOctets, dest_options_in, data_options_in}
use Rattle.bsc_checks.specs.Payloads.{is_missing, is_below_fixed_part, is_beyond_fixed_part, is_out_of_range}
use Rattle.bsc_checks.specs.PlaceTests.{is_in_place}
use Rattle.bsc_checks.specs.Failing.{has_misplaced_data_options, fails}
use Rattle.bsc_checks.specs.Outcomes.{first_failing}
use Rattle.bsc_checks.proofs.Reflecting.{Reflects, clear_of, also, either, never, equal, less, at_most, set}
use Rattle.bsc_checks.proofs.TwoLists.{dest_says, both_say, lacks, payload_says}
use Rattle.bsc_checks.proofs.OptionTests.{bad, not_understood}
use Rattle.bsc_checks.proofs.Payloads.{missing, below, beyond, out_of_range}
use Rattle.bsc_checks.proofs.PlaceTests.{wrong_addresses, in_place}

misplaced : (m : List ℕ) → Reflects (HasMisplacedDataOptions m) (has_misplaced_data_options m)
misplaced m =
    let b = announces_data_options (flags_in m) in
    let f = function_in m in
    also (b ≡ true) ((f ≡ 0) ⊎ ((2 ≤ f) × (f ≤ 11))) b (eqb f 0 || (leb 2 f && leb f 11)) (set b)
    (either (f ≡ 0) ((2 ≤ f) × (f ≤ 11)) (eqb f 0) (leb 2 f && leb f 11) (equal f 0) (also (2 ≤ f) (f ≤ 11) (leb 2 f) (leb f 11) (at_most 2 f) (at_most f 11)))

pub fails_says : (m : List ℕ) (place : Place) (max : ℕ) → AreOctets m → (k : Check) → Reflects (Fails m place max k) (fails m place max k)
fails_says m place max octets C1 = less (length m) 4
fails_says m place max octets C2 = less max (length m)
fails_says m place max octets C3 = also (4 ≤ length m) (length m < options_at m) (leb 4 (length m)) (ltb (length m) (options_at m)) (at_most 4 (length m)) (less (length m) (options_at m))
fails_says m place max octets C4 = wrong_addresses place (function_in m) (origin_in m) (dest_in m)
fails_says m place max octets C5 = less 15 (flags_in m)
fails_says m place max octets C6 = less 12 (function_in m)
fails_says m place max octets C7 = lacks m (dest_options_in m) (data_options_in m) (both_say m octets)
fails_says m place max octets C7b = bad m (dest_options_in m) (data_options_in m) (both_say m octets)
fails_says m place max octets C8 = misplaced m
fails_says m place max octets C9 = not_understood m (dest_options_in m) (dest_says m octets)
fails_says m place max octets C10 = payload_says IsMissing is_missing missing m (dest_options_in m) (data_options_in m) (both_say m octets)
fails_says m place max octets C10b = payload_says IsBelowFixedPart is_below_fixed_part below m (dest_options_in m) (data_options_in m) (both_say m octets)
fails_says m place max octets C10c = payload_says IsBeyondFixedPart is_beyond_fixed_part beyond m (dest_options_in m) (data_options_in m) (both_say m octets)
fails_says m place max octets C11 = payload_says IsOutOfRange is_out_of_range out_of_range m (dest_options_in m) (data_options_in m) (both_say m octets)
fails_says m place max octets C12 = equal (function_in m) 12
fails_says m place max octets C13 =
    let carried = is_to_carry place m in
    never (IsInPlace carried place (function_in m) (origin_in m)) (is_in_place carried place (function_in m) (origin_in m)) (in_place carried place (function_in m) (origin_in m))

-- ---- the first that fails

found_at : (P : Check → Type 0) (t : Check → Bool) → ((k : Check) → Reflects (P k) (t k)) → (before : List Check) (k : Check) (after : List Check)
    → AllByRecursion (λ check. ¬ P check) before → P k → first_failing t (before ++ k ∷ after) ≡ Some k
found_at P t r [] k after earlier fault = let set : t k ≡ true = (r k).back fault in rw (set, first_failing) refl
found_at P t r (x ∷ before) k after earlier fault = let clear : t x ≡ false = clear_of (P x) (t x) (r x) earlier.0 in rw (clear, first_failing) (found_at P t r before k after earlier.1 fault)

pub first_is : (P : Check → Type 0) (t : Check → Bool) → ((k : Check) → Reflects (P k) (t k)) → (order : List Check) (k : Check) → IsFirstOf order P k → first_failing t order ≡ Some k
first_is P t r order k first = ap (first_failing t) first.place ∙ found_at P t r first.before k first.after first.earlier first.fault

pub none_is : (P : Check → Type 0) (t : Check → Bool) → ((k : Check) → Reflects (P k) (t k)) → (order : List Check) → AllByRecursion (λ check. ¬ P check) order → first_failing t order ≡ None
none_is P t r [] pass = refl
none_is P t r (x ∷ order) pass = let clear : t x ≡ false = clear_of (P x) (t x) (r x) pass.0 in rw (clear, first_failing) (none_is P t r order pass.1)
