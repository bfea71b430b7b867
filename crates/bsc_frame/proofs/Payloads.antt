-- What is read of a payload is spelled by it, and what is answered where memory runs out.
-- It serves clauses of most source files here.
use Rattle.std.proofs.Common.{◌≡◌, ℕ, ◌≤◌, List, [], ◌∷◌, ◌++◌, length, get_or, drop, refl, sym, ap, ◌∙◌, arith}
use Rattle.std.specs.Prelude.{Result, Err}
use Rattle.byteorder.specs.Endian.{big_bytes, big_number}
use Rattle.bsc_frame.specs.declared.body.Body.{Body}
use Rattle.bsc_frame.specs.declared.check.Check.{Check}
use Rattle.bsc_frame.specs.declared.fault.FrameFault.{FrameFault}
use Rattle.bsc_frame.specs.declared.fault.FrameFault.TheVariants.{Fails, NoMemory}
use Rattle.bsc_frame.specs.Checks.{IsFirstOf}
use Rattle.bsc_frame.specs.Walk.{BodyAnswers, IsBody, PayloadFails, payload_checks}
use Rattle.bsc_frame.proofs.Numbers.{AreOctets, number_then, number_last, two_then, three_then}

-- ---- an answer that another call gave

pub memory_answer : (f : ℕ) (p : List ℕ) (r : Result Body FrameFault) (e : FrameFault) → r ≡ Err e → e ≡ NoMemory → (body : Body) × IsBody f p body → BodyAnswers f p r
memory_answer f p r e is none found = rw (is, none) found

pub check_answer : (f : ℕ) (p : List ℕ) (r : Result Body FrameFault) (e : FrameFault) (k : Check) → r ≡ Err e → e ≡ Fails k → IsFirstOf payload_checks (PayloadFails f p) k → BodyAnswers f p r
check_answer f p r e k is fails first = rw (is, fails) first

-- ---- octets

-- an Advertisement of two numbers that were read from the rest of the payload
pub advert_spelled : (p : List ℕ) (bvlc npdu : ℕ) → length p ≡ 6 → AreOctets p → bvlc ≡ big_number 2 (drop 2 p) → npdu ≡ big_number 2 (drop 4 p)
    → (get_or p 0 0 ∷ get_or p 1 0 ∷ []) ++ big_bytes 2 bvlc ++ big_bytes 2 npdu ≡ p
advert_spelled p bvlc npdu long octets first second =
    ap (λ (l : List ℕ). (get_or p 0 0 ∷ get_or p 1 0 ∷ []) ++ big_bytes 2 bvlc ++ l) (ap (big_bytes 2) second ∙ number_last p 4 long octets)
    ∙ ap (λ (l : List ℕ). (get_or p 0 0 ∷ get_or p 1 0 ∷ []) ++ l ++ drop 4 p) (ap (big_bytes 2) first)
    ∙ ap (λ (l : List ℕ). (get_or p 0 0 ∷ get_or p 1 0 ∷ []) ++ l) (number_then p 2 (omega arith) octets)
    ∙ two_then p (omega arith)

-- a NAK of two numbers and details that were read
pub nak_spelled : (p details : List ℕ) (class code : ℕ) → 7 ≤ length p → AreOctets p → get_or p 1 0 ≡ 1 → class ≡ big_number 2 (drop 3 p) → code ≡ big_number 2 (drop 5 p) → details ≡ drop 7 p
    → (get_or p 0 0 ∷ 1 ∷ get_or p 2 0 ∷ []) ++ big_bytes 2 class ++ big_bytes 2 code ++ details ≡ p
nak_spelled p details class code long octets nak first second last =
    ap (λ (l : List ℕ). (get_or p 0 0 ∷ 1 ∷ get_or p 2 0 ∷ []) ++ big_bytes 2 class ++ big_bytes 2 code ++ l) last
    ∙ ap (λ (l : List ℕ). (get_or p 0 0 ∷ 1 ∷ get_or p 2 0 ∷ []) ++ big_bytes 2 class ++ l ++ drop 7 p) (ap (big_bytes 2) second)
    ∙ ap (λ (l : List ℕ). (get_or p 0 0 ∷ 1 ∷ get_or p 2 0 ∷ []) ++ big_bytes 2 class ++ l) (number_then p 5 (omega arith) octets)
    ∙ ap (λ (l : List ℕ). (get_or p 0 0 ∷ 1 ∷ get_or p 2 0 ∷ []) ++ l ++ drop 5 p) (ap (big_bytes 2) first)
    ∙ ap (λ (l : List ℕ). (get_or p 0 0 ∷ 1 ∷ get_or p 2 0 ∷ []) ++ l) (number_then p 3 (omega arith) octets)
    ∙ ap (λ (n : ℕ). get_or p 0 0 ∷ n ∷ get_or p 2 0 ∷ drop 3 p) (sym nak)
    ∙ three_then p (omega arith)

-- a Proprietary-Message of a vendor and data that were read
pub proprietary_spelled : (p content : List ℕ) (vendor : ℕ) → 3 ≤ length p → AreOctets p → vendor ≡ big_number 2 p → content ≡ drop 3 p → big_bytes 2 vendor ++ get_or p 2 0 ∷ content ≡ p
proprietary_spelled p content vendor long octets number last =
    ap (λ (l : List ℕ). big_bytes 2 vendor ++ get_or p 2 0 ∷ l) last
    ∙ ap (λ (n : ℕ). big_bytes 2 n ++ get_or p 2 0 ∷ drop 3 p) number
    ∙ ap (λ (l : List ℕ). big_bytes 2 (big_number 2 p) ++ l) (third p long)
    ∙ number_then p 0 (omega arith) octets
  where
    third : (p : List ℕ) → 3 ≤ length p → get_or p 2 0 ∷ drop 3 p ≡ drop 2 p
    third [] h = absurd (omega arith)
    third (a ∷ []) h = absurd (omega arith)
    third (a ∷ b ∷ []) h = absurd (omega arith)
    third (a ∷ b ∷ c ∷ p) h = refl
