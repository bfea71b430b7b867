-- What looking back finds in a list of events with one event more.
-- It serves clauses of functions of `accepting`.
use Rattle.std.proofs.Common.{◌≡◌, Bool, true, false, cond, List, [], ◌∷◌, ◌++◌, Option, Some, None, unwrap_or, refl, ap, ◌∙◌}
use Rattle.std.specs.Option.{option_or}
use Rattle.std.proofs.lemmas.List.{reverse-append, reverse-reverse}
use Rattle.bsc_accept.specs.declared.event.Event.{Event}
use Rattle.bsc_accept.specs.declared.pending_disconnect.PendingDisconnect.{PendingDisconnect}
use Rattle.bsc_accept.specs.declared.start.Start.{Start}
use Rattle.bsc_accept.specs.Past.{connected, awaiting_request, oldest, newest, is_joined, farewell_at, asked_at, message_time, last_message, question, question_at, since_joined}
use Rattle.bsc_accept.specs.Past.{until_farewell, standing, standing_by}
use Rattle.bsc_accept.specs.Kept.{moved}
use Rattle.bsc_accept.specs.Steps.{step, closes}
use Rattle.bsc_accept.specs.Standing.{has_closed, at_newest}
use Rattle.bsc_lemmas.proofs.Options.{or_assoc, or_else, or_none}

oldest-more : {A : Type 0} (f : Event → Option A) (E : List Event) (e : Event) → oldest f (E ++ e ∷ []) ≡ option_or (oldest f E) (f e)
oldest-more f [] e = or_none (f e)
oldest-more f (x ∷ E) e = ap (λ o. option_or (f x) o) (oldest-more f E e) ∙ or_assoc (f x) (oldest f E) (f e)

newest-more : {A : Type 0} (f : Event → Option A) (E : List Event) (e : Event) → newest f (E ++ e ∷ []) ≡ option_or (f e) (newest f E)
newest-more f E e = ap (λ ys. oldest f ys) (reverse-append E (e ∷ []))

-- what came since who asked joined, with one event more
abbrev since_more : Option (List Event) → Event → Option (List Event)
since_more None e = cond (is_joined e) (Some []) None
since_more (Some later) e = Some (later ++ e ∷ [])

here_or_later : (b : Bool) (E : List Event) (e : Event) → since_joined (E ++ e ∷ []) ≡ since_more (since_joined E) e
    → cond b (Some (E ++ e ∷ [])) (since_joined (E ++ e ∷ [])) ≡ since_more (cond b (Some E) (since_joined E)) e
here_or_later true E e later = refl
here_or_later false E e later = later

since_joined-more : (E : List Event) (e : Event) → since_joined (E ++ e ∷ []) ≡ since_more (since_joined E) e
since_joined-more [] e = refl
since_joined-more (x ∷ E) e = here_or_later (is_joined x) E e (since_joined-more E e)

joining : (b : Bool) → standing_by (cond b (Some []) None) ≡ cond b connected awaiting_request
joining true = refl
joining false = refl

parting : (o : Option PendingDisconnect) (e : Event) → until_farewell (option_or o (farewell_at e)) ≡ moved (until_farewell o) e
parting None e = refl
parting (Some f) e = refl

moving : (o : Option (List Event)) (e : Event) → standing_by (since_more o e) ≡ moved (standing_by o) e
moving None e = joining (is_joined e)
moving (Some later) e = ap until_farewell (oldest-more farewell_at later e) ∙ parting (oldest farewell_at later) e

-- The standing goes on from the one before.
pub standing-more : (E : List Event) (e : Event) → standing (E ++ e ∷ []) ≡ moved (standing E) e
standing-more E e = ap standing_by (since_joined-more E e) ∙ moving (since_joined E) e

pub last-more : (s : Start) (E : List Event) (e : Event) → last_message s (E ++ e ∷ []) ≡ unwrap_or (message_time e) (last_message s E)
last-more s E e = ap (λ o. unwrap_or o s.at) (newest-more message_time E e) ∙ or_else (message_time e) (newest message_time E) s.at

pub question-more : (E : List Event) (e : Event) → question (E ++ e ∷ []) ≡ asked_at e
question-more E e = ap question_at (reverse-append E (e ∷ []))

pub closed-more : (s : Start) (E : List Event) (e : Event) → has_closed s (E ++ e ∷ []) ≡ closes (step s E e)
closed-more s E e =
    ap (λ ys. at_newest (λ before x. closes (step s before x)) ys) (reverse-append E (e ∷ []))
    ∙ ap (λ before. closes (step s before e)) (reverse-reverse E)
