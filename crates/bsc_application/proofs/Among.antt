-- A request among those of some turns, and what the application answered.
-- It serves bsc_node_command.
use Rattle.std.proofs.Common.{◌≡◌, ◌⊎◌, inl, inr, true, if◌then◌else◌, List, [], ◌∷◌, map, Some, None, refl, subst, arith}
use Rattle.std.specs.List.{Contains, list_all}
use Rattle.std.proofs.lemmas.Bool.{and_from}
use Rattle.std.proofs.lemmas.List.Elements.{Contains-append_cases, Contains-append_left, Contains-append_right, Contains-push_cases}
use Rattle.bsc_node_run.specs.declared.due.Due.{Due}
use Rattle.bsc_node_run.specs.Requests.{is_asked}
use Rattle.bsc_node_laws.proofs.Turning.{asks}
use Rattle.bsc_application.specs.Asking.{AreAsked, answers_of, answers_to, is_full, requests}

-- Requests are what a script may ask.
pub asks_all : (batch : List Due) → AreAsked batch → list_all asks batch ≡ true
asks_all [] asked = refl
asks_all (d ∷ batch) (at, is, more) = and_from (is_asked d.event) (list_all asks batch) is (asks_all batch more)

-- It is a request of one of these turns.
abbrev pub IsAmong : List (List Due) → Due → Type 0
IsAmong [] d = ⊥
IsAmong (batch ∷ batches) d = Contains batch d ⊎ IsAmong batches d

contains_first : {X : Type 0} (x : X) (xs : List X) → Contains (x ∷ xs) x
contains_first x xs = (0, omega arith, refl)

contains_none : {X : Type 0} (x : X) → Contains [] x → ⊥
contains_none x (i, within, is) = omega (arith, within)

-- the first is it, or it stands behind
first_or : {X : Type 0} (x y : X) (xs : List X) → Contains (x ∷ xs) y → (x ≡ y) ⊎ Contains xs y
first_or {X = X} x y xs c = cases (Contains-append_cases (x ∷ []) xs y c)
  where
    one : Contains [] y ⊎ (x ≡ y) → (x ≡ y) ⊎ Contains xs y
    one (inl none) = absurd (contains_none y none)
    one (inr is) = inl is

    cases : Contains (x ∷ []) y ⊎ Contains xs y → (x ≡ y) ⊎ Contains xs y
    cases (inl first) = one (Contains-push_cases [] x y first)
    cases (inr later) = inr later

one_request : (b : Due) (batch : List Due) (d : Due) → (Contains batch d → Contains (map Some (requests batch)) (Some d.event))
    → (b ≡ d) ⊎ Contains batch d → Contains (map Some (requests (b ∷ batch))) (Some d.event)
one_request b batch d later (inl is) = subst (λ (e : Due). Contains (map Some (requests (b ∷ batch))) (Some e.event)) is (contains_first (Some b.event) (map Some (requests batch)))
one_request b batch d later (inr c) = Contains-append_right (Some b.event ∷ []) (map Some (requests batch)) (Some d.event) (later c)

request_in : (batch : List Due) (d : Due) → Contains batch d → Contains (map Some (requests batch)) (Some d.event)
request_in [] d c = absurd (contains_none d c)
request_in (b ∷ batch) d c = one_request b batch d (request_in batch d) (first_or b d batch c)

-- The application gave it.
pub given_among : (batches : List (List Due)) (d : Due) → IsAmong batches d → Contains (answers_to batches) (Some d.event)
given_among [] d c = absurd c
given_among (batch ∷ batches) d (inl c) = Contains-append_left (answers_of batch) (answers_to batches) (Some d.event)
    (Contains-append_left (map Some (requests batch)) (if is_full batch then [] else None ∷ []) (Some d.event) (request_in batch d c))
given_among (batch ∷ batches) d (inr c) = Contains-append_right (answers_of batch) (answers_to batches) (Some d.event) (given_among batches d c)
