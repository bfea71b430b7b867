-- What is asked and refused, where one more was taken.
-- It serves the clauses of `next`.
use Rattle.std.proofs.Common.{◌≡◌, ℕ, ◌+◌, min, Bool, true, false, ◌||◌, if◌then◌else◌, List, [], ◌∷◌, ◌++◌, filter_map, Option, Some, None, Result, Ok, Err, IfOk, OnErr, refl}
use Rattle.std.proofs.Common.{sym, ap, ◌∙◌, true≢false, append-nil, append_assoc, arith}
use Rattle.std.proofs.lemmas.List.Elements.{filter_map-append}
use Rattle.bsc_lemmas.proofs.Lists.{filter_map_none}
use Rattle.bsc_octets.specs.declared.no_memory.NoMemory.{NoMemory}
use Rattle.bsc_application.specs.Asking.{answer_in}
use Rattle.bsc_input.specs.declared.inbox.taken.Taken.{Taken}
use Rattle.bsc_input.specs.declared.inbox.taken.Taken.TheVariants.{Line as OneLine, Nothing as NoLine, End}
use Rattle.bsc_node.specs.declared.node_event.NodeEvent.{NodeEvent}
use Rattle.bsc_node_run.specs.declared.line.Line.{Line}
use Rattle.bsc_node_run.specs.declared.line.Line.TheVariants.{Nothing, At, Ask}
use Rattle.bsc_live_lines.specs.declared.refusal.Refusal.{Refusal}
use Rattle.bsc_live_lines.specs.Requests.{asked_by, has_finish, is_finish, request_of, requests, said_by, up_to_finish}
use Rattle.bsc_live_lines.specs.Waiting.{asked_by_answers, event_in}
use Rattle.bsc_live_lines.specs.Refusals.{is_good, lines_in, number_in, refusals, refused_behind, refused_from}

-- ---- what is asked

-- one more behind these
abbrev behind : Bool → NodeEvent → List NodeEvent
behind finished event = if finished then [] else event ∷ []

up_more : (events : List NodeEvent) (event : NodeEvent) → up_to_finish (events ++ event ∷ []) ≡ up_to_finish events ++ behind (has_finish (up_to_finish events)) event
up_more [] event = by (is_finish event)
  where
    by : (b : Bool) → (event ∷ (if b then [] else [])) ≡ event ∷ []
    by true = refl
    by false = refl
up_more (first ∷ events) event = by (is_finish first) (up_more events event)
  where
    by : (b : Bool) → up_to_finish (events ++ event ∷ []) ≡ up_to_finish events ++ behind (has_finish (up_to_finish events)) event
        → (first ∷ (if b then [] else up_to_finish (events ++ event ∷ [])))
        ≡ (first ∷ (if b then [] else up_to_finish events)) ++ behind (b || has_finish (if b then [] else up_to_finish events)) event
    by true ih = refl
    by false ih = ap (λ (xs : List NodeEvent). first ∷ xs) ih

-- What asks for nothing changes nothing.
pub asks_none : (taken : List Taken) (one : Taken) → request_of one ≡ None → requests (taken ++ one ∷ []) ≡ requests taken
asks_none taken one h = ap up_to_finish (filter_map_none request_of taken one h)

one_request : (taken : List Taken) (one : Taken) (event : NodeEvent) → request_of one ≡ Some event → requests (taken ++ one ∷ []) ≡ requests taken ++ behind (has_finish (requests taken)) event
one_request taken one event h =
    ap up_to_finish (filter_map-append request_of taken (one ∷ []) ∙ some)
    ∙ up_more (filter_map request_of taken) event
  where
    some : filter_map request_of taken ++ filter_map request_of (one ∷ []) ≡ filter_map request_of taken ++ event ∷ []
    some = rw h refl

-- What asks for this adds it, where the node wasn't asked to end before.
pub asks_one : (taken : List Taken) (one : Taken) (event : NodeEvent) → request_of one ≡ Some event → has_finish (requests taken) ≡ false → requests (taken ++ one ∷ []) ≡ requests taken ++ event ∷ []
asks_one taken one event h going = one_request taken one event h ∙ ap (λ (b : Bool). requests taken ++ behind b event) going

-- Where it was, nothing is asked any more.
pub asks_late : (taken : List Taken) (one : Taken) → has_finish (requests taken) ≡ true → requests (taken ++ one ∷ []) ≡ requests taken
asks_late taken one late = by (request_of one) refl
  where
    by : (r : Option NodeEvent) → request_of one ≡ r → requests (taken ++ one ∷ []) ≡ requests taken
    by None h = asks_none taken one h
    by (Some event) h = one_request taken one event h ∙ ap (λ (b : Bool). requests taken ++ behind b event) late ∙ append-nil (requests taken)

pub finish_more : (events : List NodeEvent) (event : NodeEvent) → has_finish events ≡ false → has_finish (events ++ event ∷ []) ≡ is_finish event
finish_more [] event h = by (is_finish event)
  where
    by : (b : Bool) → (b || false) ≡ b
    by true = refl
    by false = refl
finish_more (first ∷ events) event h = by (is_finish first) h (finish_more events event)
  where
    by : (b : Bool) → (b || has_finish events) ≡ false → (has_finish events ≡ false → has_finish (events ++ event ∷ []) ≡ is_finish event)
        → (b || has_finish (events ++ event ∷ [])) ≡ is_finish event
    by true k ih = absurd (true≢false k)
    by false k ih = ih k

-- ---- the numbers of lines

lines_more : (taken : List Taken) (o : List ℕ) → lines_in (taken ++ OneLine o ∷ []) ≡ lines_in taken + 1
lines_more [] o = refl
lines_more (OneLine p ∷ taken) o = ap (λ (n : ℕ). n + 1) (lines_more taken o)
lines_more (NoLine ∷ taken) o = lines_more taken o
lines_more (End ∷ taken) o = lines_more taken o

pub number_more : (taken : List Taken) (o : List ℕ) (n : ℕ) → n ≡ number_in taken → min (n + 1) 18446744073709551615 ≡ number_in (taken ++ OneLine o ∷ [])
number_more taken o n h = rw (h, lines_more taken o) (omega arith)

none_more : (taken : List Taken) → lines_in (taken ++ NoLine ∷ []) ≡ lines_in taken
none_more [] = refl
none_more (OneLine p ∷ taken) = ap (λ (n : ℕ). n + 1) (none_more taken)
none_more (NoLine ∷ taken) = none_more taken
none_more (End ∷ taken) = none_more taken

end_more : (taken : List Taken) → lines_in (taken ++ End ∷ []) ≡ lines_in taken
end_more [] = refl
end_more (OneLine p ∷ taken) = ap (λ (n : ℕ). n + 1) (end_more taken)
end_more (NoLine ∷ taken) = end_more taken
end_more (End ∷ taken) = end_more taken

pub number_none : (taken : List Taken) → number_in (taken ++ NoLine ∷ []) ≡ number_in taken
number_none taken = ap (λ (n : ℕ). min n 18446744073709551615) (none_more taken)

pub number_end : (taken : List Taken) → number_in (taken ++ End ∷ []) ≡ number_in taken
number_end taken = ap (λ (n : ℕ). min n 18446744073709551615) (end_more taken)

-- ---- what is refused

refused_more : (before taken : List Taken) (one : Taken) → refused_from before (taken ++ one ∷ []) ≡ refused_from before taken ++ refused_behind (before ++ taken) one
refused_more before [] one = append-nil (refused_behind before one) ∙ ap (λ (b : List Taken). refused_behind b one) (sym (append-nil before))
refused_more before (first ∷ taken) one =
    ap (λ (xs : List Refusal). refused_behind before first ++ xs) (refused_more (before ++ first ∷ []) taken one)
    ∙ ap (λ (b : List Taken). refused_behind before first ++ (refused_from (before ++ first ∷ []) taken ++ refused_behind b one)) (append_assoc before (first ∷ []) taken)
    ∙ sym (append_assoc (refused_behind before first) (refused_from (before ++ first ∷ []) taken) (refused_behind (before ++ first ∷ taken) one))

pub none_refused : (taken : List Taken) (one : Taken) → refused_behind taken one ≡ [] → refusals (taken ++ one ∷ []) ≡ refusals taken
none_refused taken one h = refused_more [] taken one ∙ ap (λ (xs : List Refusal). refusals taken ++ xs) h ∙ append-nil (refusals taken)

pub one_refused : (taken : List Taken) (o : List ℕ) → is_good (has_finish (requests taken)) (said_by o) ≡ false
    → refusals (taken ++ OneLine o ∷ []) ≡ refusals taken ++ record { number = number_in (taken ++ OneLine o ∷ []); text = o; has_finished = has_finish (requests taken) } ∷ []
one_refused taken o h = refused_more [] taken (OneLine o) ∙ rw h refl

pub good_behind : (taken : List Taken) (o : List ℕ) → is_good (has_finish (requests taken)) (said_by o) ≡ true → refused_behind taken (OneLine o) ≡ []
good_behind taken o h = rw h refl

-- A line that is refused asks for nothing more.
pub refused_asks_nothing : (taken : List Taken) (o : List ℕ) → is_good (has_finish (requests taken)) (said_by o) ≡ false → requests (taken ++ OneLine o ∷ []) ≡ requests taken
refused_asks_nothing taken o h = by (said_by o) refl (has_finish (requests taken)) refl h
  where
    by : (said : Option Line) → said_by o ≡ said → (b : Bool) → has_finish (requests taken) ≡ b → is_good b said ≡ false → requests (taken ++ OneLine o ∷ []) ≡ requests taken
    by None e b f g = asks_none taken (OneLine o) (ap asked_by e)
    by (Some Nothing) e b f g = absurd (true≢false g)
    by (Some (At ms)) e b f g = asks_none taken (OneLine o) (ap asked_by e)
    by (Some (Ask event)) e true f g = asks_late taken (OneLine o) f
    by (Some (Ask event)) e false f g = absurd (true≢false g)

-- A good line that asks for something comes where the node wasn't asked to end.
pub good_asks : (finished : Bool) (said : Option Line) (event : NodeEvent) → is_good finished said ≡ true → asked_by said ≡ Some event → finished ≡ false
good_asks false said event g h = refl
good_asks true (Some (Ask asked)) event g h = absurd (true≢false (sym g))
good_asks true (Some Nothing) event g h = let no : None ≡ Some event = h in cc
good_asks true (Some (At ms)) event g h = absurd (true≢false (sym g))
good_asks true None event g h = absurd (true≢false (sym g))

-- ---- answers

answers_more : (answers : List (Option NodeEvent)) (answer : Option NodeEvent) → asked_by_answers (answers ++ answer ∷ []) ≡ asked_by_answers answers ++ event_in answer
answers_more [] answer = append-nil (event_in answer)
answers_more (first ∷ answers) answer =
    ap (λ (xs : List NodeEvent). event_in first ++ xs) (answers_more answers answer) ∙ sym (append_assoc (event_in first) (asked_by_answers answers) (event_in answer))

-- What all answers ask, where one more call answered this.
pub answers_so : (answers : List (Option NodeEvent)) (asked asked' : List NodeEvent) (answer : Result (Option NodeEvent) NoMemory)
    → asked_by_answers answers ≡ asked → IfOk answer (λ a. asked' ≡ asked ++ event_in a) → OnErr answer (asked' ≡ asked)
    → asked_by_answers (answers ++ answer_in answer) ≡ asked'
answers_so answers asked asked' (Ok answer) is more same = answers_more answers answer ∙ ap (λ (xs : List NodeEvent). xs ++ event_in answer) is ∙ sym more
answers_so answers asked asked' (Err fault) is more same = ap asked_by_answers (append-nil answers) ∙ is ∙ sym same
