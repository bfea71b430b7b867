-- What is put on a link, and what is answered.
use Rattle.std.specs.Prelude.{List, None, Option, Some, [], ℕ, ⊤, ◌∷◌}
use Rattle.bsc_edge.specs.declared.fault.LinkFault.{LinkFault}
use Rattle.bsc_edge.specs.declared.said.Said.{Said}
use Rattle.bsc_edge.specs.declared.said.Said.TheVariants.{Put}
use Rattle.bsc_accept.specs.declared.step.Step.{Step}
use Rattle.bsc_accept.specs.declared.step.Step.TheVariants.{Put as PutStep, PutClose}

-- The octets that a step puts.
abbrev pub octets_in : Step → List (List ℕ)
octets_in (PutStep o) = o.items ∷ []
octets_in (PutClose o c) = o.items ∷ []
octets_in st = []

-- These are put, in order, all answered well but the last where there is a fault.
abbrev pub puts : List (List ℕ) → Option LinkFault → List Said
puts [] fault = []
puts (o ∷ []) fault = Put o fault ∷ []
puts (o ∷ (p ∷ os)) fault = Put o None ∷ puts (p ∷ os) fault

-- A fault is the answer of some put.
abbrev pub HasPut : List (List ℕ) → Option LinkFault → Type 0
HasPut [] (Some fault) = ⊥
HasPut os fault = ⊤
