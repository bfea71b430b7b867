-- Octets by their places, and one by one.
-- It serves the clauses of `are_below_256`.
use Rattle.std.proofs.Common.{◌<◌, ℕ, suc, List, [], ◌∷◌, slice_index, refl}
use Rattle.std.proofs.lemmas.Bool.{and_from, lt-ltb}
use Rattle.bsc_session.specs.Notes.Octets.{AreBelow256}

pub below_all : (o : List ℕ) → ((i : ℕ) → slice_index o i < 256) → AreBelow256 o
below_all [] h = refl
below_all (c ∷ o) h = and_from _ _ (lt-ltb c 256 (h 0)) (below_all o (λ i. h (suc i)))
