-- The checks of a payload as tests.
-- It serves the clauses of `judge` and `one_outcome`.
use Rattle.std.proofs.Common.{◌≡◌, ℕ, ◌<◌, ◌⊎◌, true, false, eqb, ltb, not, ◌||◌, List, [], ◌∷◌, length, drop, slice_index, refl}
use Rattle.std.specs.Str.{IsUtf8, is_utf8}
use Rattle.bsc_octets.specs.Addresses.{broadcast, zero_vmac, same_vmac}
use Rattle.bsc_octets.specs.Envelopes.{vmac_at}
use Rattle.bsc_frame.specs.PayloadChecks.{result_code, expects_payload, fixed_part, takes_rest, IsMissing, IsBelowFixedPart, IsBeyondFixedPart, IsOutOfRange, HasUnknownResult}
use Rattle.bsc_frame.specs.PayloadChecks.{HasBadDetails, HasBadUris, HasUnknownStatus, HasUnknownAccepts, HasNoNodesVmac}
use Rattle.bsc_checks.specs.Payloads.{is_nothing, is_missing, is_below_fixed_part, is_beyond_fixed_part, is_out_of_range, has_unknown_result, has_bad_details, has_bad_uris}
use Rattle.bsc_checks.specs.Payloads.{has_unknown_status, has_unknown_accepts, has_no_nodes_vmac}
use Rattle.bsc_checks.proofs.Reflecting.{Reflects, also, three, either, never, equal, less, set, clear, one_address, text}

nothing : (p : List ℕ) → Reflects (p ≡ []) (is_nothing p)
nothing [] = record { holds = (λ e. refl); back = (λ h. refl) }
nothing (x ∷ xs) = record { holds = (λ e. absurd cc); back = (λ h. absurd cc) }

pub missing : (f : ℕ) (p : List ℕ) → Reflects (IsMissing f p) (is_missing f p)
missing f p = also (expects_payload f ≡ true) (p ≡ []) (expects_payload f) (is_nothing p) (set (expects_payload f)) (nothing p)

pub below : (f : ℕ) (p : List ℕ) → Reflects (IsBelowFixedPart f p) (is_below_fixed_part f p)
below f p = less (length p) (fixed_part f p)

pub beyond : (f : ℕ) (p : List ℕ) → Reflects (IsBeyondFixedPart f p) (is_beyond_fixed_part f p)
beyond f p = also (takes_rest f p ≡ false) (fixed_part f p < length p) (not (takes_rest f p)) (ltb (fixed_part f p) (length p)) (clear (takes_rest f p)) (less (fixed_part f p) (length p))

bad_text : (o : List ℕ) → Reflects (IsUtf8 o → ⊥) (not (is_utf8 o))
bad_text o = never (IsUtf8 o) (is_utf8 o) (text o)

unknown_result : (f : ℕ) (p : List ℕ) → Reflects (HasUnknownResult f p) (has_unknown_result f p)
unknown_result f p = also (f ≡ 0) (1 < result_code p) (eqb f 0) (ltb 1 (result_code p)) (equal f 0) (less 1 (result_code p))

bad_details : (f : ℕ) (p : List ℕ) → Reflects (HasBadDetails f p) (has_bad_details f p)
bad_details f p = three (f ≡ 0) (result_code p ≡ 1) (IsUtf8 (drop 7 p) → ⊥) (eqb f 0) (eqb (result_code p) 1) (not (is_utf8 (drop 7 p))) (equal f 0) (equal (result_code p) 1) (bad_text (drop 7 p))

bad_uris : (f : ℕ) (p : List ℕ) → Reflects (HasBadUris f p) (has_bad_uris f p)
bad_uris f p = also (f ≡ 3) (IsUtf8 p → ⊥) (eqb f 3) (not (is_utf8 p)) (equal f 3) (bad_text p)

unknown_status : (f : ℕ) (p : List ℕ) → Reflects (HasUnknownStatus f p) (has_unknown_status f p)
unknown_status f p = also (f ≡ 4) (2 < slice_index p 0) (eqb f 4) (ltb 2 (slice_index p 0)) (equal f 4) (less 2 (slice_index p 0))

unknown_accepts : (f : ℕ) (p : List ℕ) → Reflects (HasUnknownAccepts f p) (has_unknown_accepts f p)
unknown_accepts f p = also (f ≡ 4) (1 < slice_index p 1) (eqb f 4) (ltb 1 (slice_index p 1)) (equal f 4) (less 1 (slice_index p 1))

no_node : (f : ℕ) (p : List ℕ) → Reflects (HasNoNodesVmac f p) (has_no_nodes_vmac f p)
no_node f p =
    let v = vmac_at p 0 in
    also ((f ≡ 6) ⊎ (f ≡ 7)) ((v ≡ zero_vmac) ⊎ (v ≡ broadcast)) (eqb f 6 || eqb f 7) (same_vmac v zero_vmac || same_vmac v broadcast)
    (either (f ≡ 6) (f ≡ 7) (eqb f 6) (eqb f 7) (equal f 6) (equal f 7))
    (either (v ≡ zero_vmac) (v ≡ broadcast) (same_vmac v zero_vmac) (same_vmac v broadcast) (one_address v zero_vmac) (one_address v broadcast))

pub out_of_range : (f : ℕ) (p : List ℕ) → Reflects (IsOutOfRange f p) (is_out_of_range f p)
out_of_range f p =
    either (HasUnknownResult f p) _ (has_unknown_result f p) _ (unknown_result f p)
    (either (HasBadDetails f p) _ (has_bad_details f p) _ (bad_details f p)
    (either (HasBadUris f p) _ (has_bad_uris f p) _ (bad_uris f p)
    (either (HasUnknownStatus f p) _ (has_unknown_status f p) _ (unknown_status f p)
    (either (HasUnknownAccepts f p) (HasNoNodesVmac f p) (has_unknown_accepts f p) (has_no_nodes_vmac f p) (unknown_accepts f p) (no_node f p)))))
