-- What asks the node to end was taken, where the node was asked to end.
-- It serves bsc_node_command.
use Rattle.std.proofs.Common.{◌≡◌, ◌<◌, ℕ, Bool, true, false, inl, inr, if◌then◌else◌, List, [], ◌∷◌, ◌++◌, filter_map, length, Option, Some, None, refl, subst, sym, arith}
use Rattle.std.specs.List.{Contains}
use Rattle.std.proofs.lemmas.List.Elements.{Contains-append_cases, Contains-append_left, Contains-append_right, Contains-push_cases}
use Rattle.std.specs.Prelude.{◌⊎◌}
use Rattle.bsc_edge.specs.Told.{Grows}
use Rattle.bsc_input.specs.declared.inbox.taken.Taken.{Taken}
use Rattle.bsc_node.specs.declared.node_event.NodeEvent.{NodeEvent}
use Rattle.bsc_node.specs.declared.node_event.NodeEvent.TheVariants.{Finish}
use Rattle.bsc_application.specs.Ending.{WasAskedToEnd}
use Rattle.bsc_live_lines.specs.Ending.{EndWasTaken}
use Rattle.bsc_live_lines.specs.Requests.{is_finish, request_of, requests, up_to_finish}
use Rattle.bsc_live_lines.specs.Waiting.{asked_by_answers, event_in, taken_in}

-- ---- elements of lists

contains_none : {X : Type 0} (x : X) → Contains [] x → ⊥
contains_none x (i, within, is) = omega (arith, within)

contains_first : {X : Type 0} (x : X) (xs : List X) → Contains (x ∷ xs) x
contains_first x xs = (0, omega arith, refl)

-- the first is it, or it stands behind
first_or : {X : Type 0} (x y : X) (xs : List X) → Contains (x ∷ xs) y → (x ≡ y) ⊎ Contains xs y
first_or {X = X} x y xs c = cases (Contains-append_cases (x ∷ []) xs y c)
  where
    one : Contains [] y ⊎ (x ≡ y) → (x ≡ y) ⊎ Contains xs y
    one (inl none) = absurd (contains_none y none)
    one (inr is) = inl is

    cases : Contains (x ∷ []) y ⊎ Contains xs y → (x ≡ y) ⊎ Contains xs y
    cases (inl first) = one (Contains-push_cases [] x y first)
    cases (inr later) = inr later

-- ---- from what was asked to what was taken

-- What stands up to the first that asks the node to end, stands in all.
later_in : (b : Bool) (e : NodeEvent) (events kept : List NodeEvent) → (Contains kept e → Contains events e)
    → Contains (if b then [] else kept) e → Contains events e
later_in true e events kept f d = absurd (contains_none e d)
later_in false e events kept f d = f d

in_all_or : (first e : NodeEvent) (events : List NodeEvent) → (Contains (up_to_finish events) e → Contains events e)
    → (first ≡ e) ⊎ Contains (if is_finish first then [] else up_to_finish events) e → Contains (first ∷ events) e
in_all_or first e events f (inl is) = subst (λ (x : NodeEvent). Contains (first ∷ events) x) is (contains_first first events)
in_all_or first e events f (inr d) = Contains-append_right (first ∷ []) events e (later_in (is_finish first) e events (up_to_finish events) f d)

in_all : (events : List NodeEvent) (e : NodeEvent) → Contains (up_to_finish events) e → Contains events e
in_all [] e c = absurd (contains_none e c)
in_all (first ∷ events) e c = in_all_or first e events (in_all events e) (first_or first e (if is_finish first then [] else up_to_finish events) c)

-- What is asked is asked by one that was taken.
abbrev AskedBy : List Taken → NodeEvent → Type 0
AskedBy taken e = (one : Taken) × Contains taken one × (request_of one ≡ Some e)

asked_behind : (first : Taken) (taken : List Taken) (e : NodeEvent) → AskedBy taken e → AskedBy (first ∷ taken) e
asked_behind first taken e (one, d, is) = (one, Contains-append_right (first ∷ []) taken one d, is)

asked_here : (first : Taken) (taken : List Taken) (event e : NodeEvent) → (Contains (filter_map request_of taken) e → AskedBy taken e)
    → request_of first ≡ Some event → (event ≡ e) ⊎ Contains (filter_map request_of taken) e → AskedBy (first ∷ taken) e
asked_here first taken event e f h (inl is) = (first, contains_first first taken, subst (λ (x : NodeEvent). request_of first ≡ Some x) is h)
asked_here first taken event e f h (inr c) = asked_behind first taken e (f c)

asked_first : (first : Taken) (taken : List Taken) (e : NodeEvent) (r : Option NodeEvent) → (Contains (filter_map request_of taken) e → AskedBy taken e)
    → request_of first ≡ r → Contains (filter_map request_of (first ∷ taken)) e → AskedBy (first ∷ taken) e
asked_first first taken e None f h d = asked_behind first taken e (f (rw h at d))
asked_first first taken e (Some event) f h d = asked_here first taken event e f h (first_or event e (filter_map request_of taken) (rw h at d))

of_taken : (taken : List Taken) (e : NodeEvent) → Contains (filter_map request_of taken) e → AskedBy taken e
of_taken [] e c = absurd (contains_none e c)
of_taken (first ∷ taken) e c = asked_first first taken e (request_of first) (of_taken taken e) refl c

-- What an answer asks, all answers ask.
answer_or : (first : Option NodeEvent) (answers : List (Option NodeEvent)) (e : NodeEvent) → (Contains answers (Some e) → Contains (asked_by_answers answers) e)
    → (first ≡ Some e) ⊎ Contains answers (Some e) → Contains (asked_by_answers (first ∷ answers)) e
answer_or first answers e f (inl is) =
    subst (λ (x : Option NodeEvent). Contains (event_in x ++ asked_by_answers answers) e) (sym is) (contains_first e (asked_by_answers answers))
answer_or first answers e f (inr later) = Contains-append_right (event_in first) (asked_by_answers answers) e (f later)

in_answers : (answers : List (Option NodeEvent)) (e : NodeEvent) → Contains answers (Some e) → Contains (asked_by_answers answers) e
in_answers [] e c = absurd (contains_none (Some e) c)
in_answers (first ∷ answers) e c = answer_or first answers e (in_answers answers e) (first_or first (Some e) answers c)

-- Where the application of lines was asked to end, by its answers, and these are what was asked by what was read of what was taken, one that
-- asks the node to end was taken.
pub end_was_taken : (answers answers' : List (Option NodeEvent)) (asked : List NodeEvent) (read taken : List Taken) (unread : Option Taken)
    → asked_by_answers answers' ≡ asked → asked ≡ requests read → taken ≡ read ++ taken_in unread
    → WasAskedToEnd (Some answers) (Some answers') → EndWasTaken taken
end_was_taken answers answers' asked read taken unread all asks takes (given, grew, c) =
    let now = subst (λ (xs : List (Option NodeEvent)). Contains xs (Some Finish)) (sym grew) (Contains-append_right answers given (Some Finish) c) in
    let said = subst (λ (es : List NodeEvent). Contains es Finish) asks (subst (λ (es : List NodeEvent). Contains es Finish) all (in_answers answers' Finish now)) in
    let one = of_taken read Finish (in_all (filter_map request_of read) Finish said) in
    (one.0, subst (λ (xs : List Taken). Contains xs one.0) (sym takes) (Contains-append_left read (taken_in unread) one.0 one.1), one.2)
