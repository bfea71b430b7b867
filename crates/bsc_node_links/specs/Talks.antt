-- The messages of a link's talk.
use Rattle.std.specs.Prelude.{◌≡◌, ℕ, List, [], ◌∷◌, ◌++◌, flat_map, Ok}
use Rattle.bsc_edge.specs.declared.incoming.Incoming.TheVariants.{Message}
use Rattle.bsc_edge.specs.declared.said.Said.{Said}
use Rattle.bsc_edge.specs.declared.said.Said.TheVariants.{Gave, Put}

abbrev pub given_by : Said → List (List ℕ)
given_by (Gave wait (Ok (Message o))) = o ∷ []
given_by said = []

-- The messages that a link gave, in order, by its talk.
abbrev pub given_in : List Said → List (List ℕ)
given_in T = flat_map given_by T

abbrev pub put_by : Said → List (List ℕ)
put_by (Put o fault) = o ∷ []
put_by said = []

-- The messages that were put on a link, in order, by its talk. (One whose put failed may have gone out, or not.)
abbrev pub put_in : List Said → List (List ℕ)
put_in T = flat_map put_by T

-- These are the first of those.
abbrev pub AreFirstOf : List (List ℕ) → List (List ℕ) → Type 0
AreFirstOf os ps = (later : List (List ℕ)) × (ps ≡ os ++ later)
