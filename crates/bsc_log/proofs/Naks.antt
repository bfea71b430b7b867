-- The NAK of a Connect-Request, as octets.
-- It serves the clauses of `nak_at`, `nak_by` and `nak_in`.
use Rattle.std.proofs.Common.{◌≡◌, ℕ, ◌<◌, true, Option, Some, None, IfSome, List, [], ◌∷◌, ◌++◌, length, length-drop, get_or, drop, refl, sym, ap, ◌∙◌, arith}
use Rattle.byteorder.specs.Endian.{big_bytes, big_number}
use Rattle.bsc_octets.proofs.TwoOctets.{two_octets}
use Rattle.bsc_frame.proofs.Payloads.{nak_spelled}
use Rattle.bsc_log.specs.declared.nak.Nak.{Nak}
use Rattle.bsc_log.specs.declared.stage.Stage.{Stage}
use Rattle.bsc_log.specs.Courses.{may_join}
use Rattle.bsc_log.specs.Naks.{IsNak, IsTold, nak_octets}

-- the form of its payload
pub payload_long : (p : List ℕ) (nak : Nak) → p ≡ nak_octets nak → length p ≡ 7
payload_long p nak is = ap length is

pub payload_function : (p : List ℕ) (nak : Nak) → p ≡ nak_octets nak → get_or p 0 0 ≡ 6
payload_function p nak is = ap (λ (l : List ℕ). get_or l 0 0) is

pub payload_result : (p : List ℕ) (nak : Nak) → p ≡ nak_octets nak → get_or p 1 0 ≡ 1
payload_result p nak is = ap (λ (l : List ℕ). get_or l 1 0) is

-- the form of the whole
pub nak_long : (m : List ℕ) (nak : Nak) → IsNak m nak → length m ≡ 11
nak_long m nak is = ap length is.1

pub nak_function : (m : List ℕ) (nak : Nak) → IsNak m nak → get_or m 0 0 ≡ 0
nak_function m nak is = ap (λ (l : List ℕ). get_or l 0 0) is.1

pub nak_flags : (m : List ℕ) (nak : Nak) → IsNak m nak → get_or m 1 0 ≡ 0
nak_flags m nak is = ap (λ (l : List ℕ). get_or l 1 0) is.1

pub nak_payload : (m : List ℕ) (nak : Nak) → IsNak m nak → drop 4 m ≡ nak_octets nak
nak_payload m nak is = ap (λ (l : List ℕ). drop 4 l) is.1

-- function, flags, an ID and such a payload are one
pub is_nak : (m : List ℕ) (nak : Nak) → ((i : ℕ) → get_or m i 0 < 256) → length m ≡ 11 → get_or m 0 0 ≡ 0 → get_or m 1 0 ≡ 0 → nak_octets nak ≡ drop 4 m → IsNak m nak
is_nak [] nak octets long function flags payload = let e : 0 ≡ 11 = long in absurd (omega (arith, e))
is_nak (a ∷ []) nak octets long function flags payload = let e : 1 ≡ 11 = long in absurd (omega (arith, e))
is_nak (a ∷ b ∷ []) nak octets long function flags payload = let e : 2 ≡ 11 = long in absurd (omega (arith, e))
is_nak (a ∷ b ∷ c ∷ []) nak octets long function flags payload = let e : 3 ≡ 11 = long in absurd (omega (arith, e))
is_nak (a ∷ b ∷ c ∷ d ∷ p) nak octets long function flags payload =
    let ids : big_bytes 2 (big_number 2 (c ∷ d ∷ [])) ≡ c ∷ d ∷ [] = two_octets c d [] (octets 2) (octets 3) in (
      big_number 2 (c ∷ d ∷ []),
      ap (λ (n : ℕ). n ∷ b ∷ c ∷ d ∷ p) function
          ∙ ap (λ (n : ℕ). 0 ∷ n ∷ c ∷ d ∷ p) flags
          ∙ ap (λ (l : List ℕ). 0 ∷ 0 ∷ c ∷ d ∷ l) (sym payload)
          ∙ ap (λ (l : List ℕ). (0 ∷ 0 ∷ l) ++ nak_octets nak) (sym ids),
    )

-- the same of what is found in its payload
pub some_nak : (m p : List ℕ) (r : Option Nak) → ((i : ℕ) → get_or m i 0 < 256) → length m ≡ 11 → get_or m 0 0 ≡ 0 → get_or m 1 0 ≡ 0 → p ≡ drop 4 m → IfSome r (λ nak. nak_octets nak ≡ p)
    → IfSome r (λ nak. IsNak m nak)
some_nak m p None octets long function flags behind found = tt
some_nak m p (Some nak) octets long function flags behind found = is_nak m nak octets long function flags (found ∙ behind)

no_rest : (l : List ℕ) → length l ≡ 0 → [] ≡ l
no_rest [] e = refl
no_rest (x ∷ l) e = absurd (omega (arith, e))

-- function, result code, marker, class and code of a payload that was read
pub payload_spelled : (p : List ℕ) (class code : ℕ) → ((i : ℕ) → get_or p i 0 < 256) → length p ≡ 7 → get_or p 0 0 ≡ 6 → get_or p 1 0 ≡ 1 → class ≡ big_number 2 (drop 3 p)
    → code ≡ big_number 2 (drop 5 p) → nak_octets (record { marker = get_or p 2 0; class = class; code = code }) ≡ p
payload_spelled p class code octets long function result first second =
    let end : length (drop 7 p) ≡ 0 = omega (arith, long, length-drop 7 p) in
    ap (λ (n : ℕ). (n ∷ 1 ∷ get_or p 2 0 ∷ []) ++ big_bytes 2 class ++ big_bytes 2 code ++ []) (sym function)
    ∙ nak_spelled p [] class code (omega (arith, long)) octets result first second (no_rest (drop 7 p) end)

-- what is found on a link that hasn't joined is told
pub told_where_found : (stage : Stage) (m : List ℕ) (r : Option Nak) → may_join stage ≡ true → IfSome r (λ nak. IsNak m nak) → (r ≡ None → (nak : Nak) → ¬ IsNak m nak) → IsTold stage m r
told_where_found stage m None joins found none = λ _. none refl
told_where_found stage m (Some nak) joins found none = (joins, found)
