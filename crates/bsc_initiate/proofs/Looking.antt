-- What looking back finds in a list of events with one event more.
-- It serves clauses of functions of `initiating` and `laws`.
use Rattle.std.proofs.Common.{◌≡◌, ℕ, Bool, true, false, cond, List, [], ◌∷◌, ◌++◌, reverse, Option, Some, None, unwrap_or, refl, ap, ◌∙◌}
use Rattle.std.specs.Option.{option_or}
use Rattle.std.proofs.lemmas.List.{reverse-append, reverse-reverse}
use Rattle.bsc_accept.specs.declared.pending_disconnect.PendingDisconnect.{PendingDisconnect}
use Rattle.bsc_accept.specs.declared.start.Start.{Start}
use Rattle.bsc_initiate.specs.declared.event.InitEvent.{InitEvent}
use Rattle.bsc_initiate.specs.declared.event.InitEvent.TheVariants.{Opened, Message as Came, Finish, Tick}
use Rattle.bsc_initiate.specs.Past.{awaiting_websocket, oldest, newest, request_at, is_accepted_at, farewell_at, message_time, last_message, has_late_tick, heartbeat_was_put}
use Rattle.bsc_initiate.specs.Past.{until_farewell, since_request, request_or_not, standing}
use Rattle.bsc_initiate.specs.Kept.{moved, until_request, put_after}
use Rattle.bsc_initiate.specs.Steps.{step, closes}
use Rattle.bsc_initiate.specs.Standing.{has_closed, at_newest}
use Rattle.bsc_lemmas.proofs.Options.{or_assoc, or_else, or_none}

oldest-more : {A : Type 0} (f : InitEvent → Option A) (E : List InitEvent) (e : InitEvent) → oldest f (E ++ e ∷ []) ≡ option_or (oldest f E) (f e)
oldest-more f [] e = or_none (f e)
oldest-more f (x ∷ E) e = ap (λ o. option_or (f x) o) (oldest-more f E e) ∙ or_assoc (f x) (oldest f E) (f e)

newest-more : {A : Type 0} (f : InitEvent → Option A) (E : List InitEvent) (e : InitEvent) → newest f (E ++ e ∷ []) ≡ option_or (f e) (newest f E)
newest-more f E e = ap (λ ys. oldest f ys) (reverse-append E (e ∷ []))

-- ---- the standing

parting : (o : Option PendingDisconnect) (e : InitEvent) → until_farewell (option_or o (farewell_at e)) ≡ moved (until_farewell o) e
parting None e = refl
parting (Some f) e = refl

accepted_or_later : (b : Bool) (id : ℕ) (E : List InitEvent) (e : InitEvent) → since_request id (E ++ e ∷ []) ≡ moved (since_request id E) e
    → cond b (until_farewell (oldest farewell_at (E ++ e ∷ []))) (since_request id (E ++ e ∷ [])) ≡ moved (cond b (until_farewell (oldest farewell_at E)) (since_request id E)) e
accepted_or_later true id E e later = ap until_farewell (oldest-more farewell_at E e) ∙ parting (oldest farewell_at E) e
accepted_or_later false id E e later = later

since-more : (id : ℕ) (E : List InitEvent) (e : InitEvent) → since_request id (E ++ e ∷ []) ≡ moved (since_request id E) e
since-more id [] e = refl
since-more id (x ∷ E) e = accepted_or_later (is_accepted_at id x) id E e (since-more id E e)

opening : (o : Option ℕ) → request_or_not o [] awaiting_websocket ≡ until_request o
opening None = refl
opening (Some id) = refl

opened_or_later : (o : Option ℕ) (E : List InitEvent) (e : InitEvent) → standing (E ++ e ∷ []) ≡ moved (standing E) e
    → request_or_not o (E ++ e ∷ []) (standing (E ++ e ∷ [])) ≡ moved (request_or_not o E (standing E)) e
opened_or_later None E e later = later
opened_or_later (Some id) E e later = since-more id E e

-- The standing goes on from the one before.
pub standing-more : (E : List InitEvent) (e : InitEvent) → standing (E ++ e ∷ []) ≡ moved (standing E) e
standing-more [] e = opening (request_at e)
standing-more (x ∷ E) e = opened_or_later (request_at x) E e (standing-more E e)

-- ---- the last message, and the heartbeat since

pub last-more : (s : Start) (E : List InitEvent) (e : InitEvent) → last_message s (E ++ e ∷ []) ≡ unwrap_or (message_time e) (last_message s E)
last-more s E e = ap (λ o. unwrap_or o s.at) (newest-more message_time E e) ∙ or_else (message_time e) (newest message_time E) s.at

late_or_before : (s : Start) (before : List InitEvent) (e : InitEvent) (now last : ℕ) → now ≡ unwrap_or (message_time e) last
    → has_late_tick s now (e ∷ before) ≡ put_after s last (has_late_tick s last before) e
late_or_before s before (Opened t id) now last h = ap (λ x. has_late_tick s x before) h
late_or_before s before (Came t v) now last h = refl
late_or_before s before (Finish t id) now last h = ap (λ x. has_late_tick s x before) h
late_or_before s before (Tick t id) now last h = ap (λ x. has_late_tick s x (Tick t id ∷ before)) h

pub put-more : (s : Start) (E : List InitEvent) (e : InitEvent) → heartbeat_was_put s (E ++ e ∷ []) ≡ put_after s (last_message s E) (heartbeat_was_put s E) e
put-more s E e =
    ap (λ ys. has_late_tick s (last_message s (E ++ e ∷ [])) ys) (reverse-append E (e ∷ []))
    ∙ late_or_before s (reverse E) e (last_message s (E ++ e ∷ [])) (last_message s E) (last-more s E e)

-- ---- the end

pub closed-more : (s : Start) (E : List InitEvent) (e : InitEvent) → has_closed s (E ++ e ∷ []) ≡ closes (step s E e)
closed-more s E e =
    ap (λ ys. at_newest (λ before x. closes (step s before x)) ys) (reverse-append E (e ∷ []))
    ∙ ap (λ before. closes (step s before e)) (reverse-reverse E)
