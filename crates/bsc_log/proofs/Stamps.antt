-- What a date and a time of day come to, as a number and as a text.
-- It serves the clauses of `text_at`.
use Rattle.std.proofs.Common.{◌≡◌, ℕ, ◌/◌, ◌%◌, List, [], ◌∷◌, ◌++◌, pos, ap, ◌∙◌, arith, append_assoc}
use Rattle.jiff_core.specs.declared.civil.datetime.DateTime.{DateTime}
use Rattle.jiff_core.specs.Date.{epoch_day}
use Rattle.jiff_core.specs.DateTime.{civil_nanos}
use Rattle.jiff_core.specs.Time.{time_seconds}
use Rattle.jiff_core.proofs.SignedLemmas.{signed_arith}

-- the day, the second of the day and the nanosecond of the second
pub day_and_time : (nanos : ℕ) (at : DateTime) → epoch_day at.date ≡ pos (nanos / 1_000_000_000 / 86_400) → time_seconds at.time ≡ nanos / 1_000_000_000 % 86_400
    → at.time.subsec_nanosecond ≡ nanos % 1_000_000_000 → civil_nanos at ≡ pos nanos
unfolding civil_nanos
day_and_time nanos at day second subsec = omega (arith, signed_arith)

-- a date, a T, a time of day and a Z, put one behind the other
pub stamped : (date time s0 s1 s2 s3 s4 : List ℕ) → s0 ≡ [] → s1 ≡ s0 ++ date → s2 ≡ s1 ++ 84 ∷ [] → s3 ≡ s2 ++ time → s4 ≡ s3 ++ 90 ∷ [] → s4 ≡ (date ++ 84 ∷ time) ++ 90 ∷ []
stamped date time s0 s1 s2 s3 s4 e0 e1 e2 e3 e4 =
    let f1 : s1 ≡ date = e1 ∙ ap (λ (l : List ℕ). l ++ date) e0 in
    let f2 : s2 ≡ date ++ 84 ∷ [] = e2 ∙ ap (λ (l : List ℕ). l ++ 84 ∷ []) f1 in
    let f3 : s3 ≡ date ++ 84 ∷ time = e3 ∙ ap (λ (l : List ℕ). l ++ time) f2 ∙ append_assoc date (84 ∷ []) time in
    e4 ∙ ap (λ (l : List ℕ). l ++ 90 ∷ []) f3
