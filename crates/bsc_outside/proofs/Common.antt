-- Lemmas that crates above cite too.
-- It serves many crates above.
use Rattle.bsc_outside.specs.Faults.{HasRisen, PutsPrefix}
use Rattle.std.proofs.Common.{⊎_elim, arith, inr, inl, ◌≤◌, ◌<◌, ℕ, Option, subst, sym, length, List}
use Rattle.std.proofs.lemmas.List.{take_all}
use Rattle.std.specs.Io.KnownBytes.{Appends}

pub risen_from : (a b c : ℕ) → a ≤ b → HasRisen b c → HasRisen a c
risen_from a b c later h = ⊎_elim (λ (k : b < c). inl (omega (arith, later, k))) (λ (k : 18446744073709551615 ≤ c). inr k) h

pub puts_all : (held held' : Option (List ℕ)) (text : List ℕ) → Appends held held' text → PutsPrefix held held' text
puts_all held held' text h = (length text, omega arith, subst (Appends held held') (sym (take_all (length text) text (omega arith))) h)
