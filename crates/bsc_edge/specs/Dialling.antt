-- What dialers tell.
use Rattle.std.specs.Prelude.{◌≡◌, ℕ, List, [], ◌∷◌, true, false, Option, Some, None, Result, Ok, Err, ⊤}
use Rattle.bsc_edge.specs.declared.dialled.Dialled.{Dialled}
use Rattle.bsc_edge.specs.declared.fault.LinkFault.{LinkFault}
use Rattle.bsc_edge.specs.declared.kind.Kind.{Kind}

-- A call of a dialer with its answer: a link came where it answered one.
abbrev pub dialled : {L : Type 0} → List ℕ → Kind → Result L LinkFault → Dialled
dialled uri kind (Ok l) = record { uri = uri; kind = kind; came = true }
dialled uri kind (Err fault) = record { uri = uri; kind = kind; came = false }

-- the link that came, where one did
abbrev pub made_in : {L : Type 0} → Result L LinkFault → List L
made_in (Ok l) = l ∷ []
made_in (Err fault) = []

-- What is left lost the link that came, which stood first, and nothing else.
abbrev pub Takes : {L : Type 0} → Option (List L) → Option (List L) → Result L LinkFault → Type 0
Takes old None answer = ⊤
Takes None (Some new) answer = ⊥
Takes (Some old) (Some new) (Ok l) = old ≡ l ∷ new
Takes (Some old) (Some new) (Err fault) = new ≡ old
