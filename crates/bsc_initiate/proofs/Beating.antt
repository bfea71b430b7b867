-- Between two Heartbeat-Requests a message came.
-- It serves the clauses of `heartbeats_are_put_once`.
use Rattle.std.proofs.Common.{◌≡◌, ◌≢◌, ℕ, Bool, true, false, cond, not, ◌&&◌, ◌||◌, List, [], ◌∷◌, ◌++◌, refl, ap, sym, ◌∙◌}
use Rattle.std.specs.List.{list_any}
use Rattle.std.proofs.lemmas.List.{append-nil, append_assoc}
use Rattle.arrayvec.specs.ArrayVec.{ArrayVec}
use Rattle.bsc_accept.specs.declared.start.Start.{Start}
use Rattle.bsc_accept.specs.declared.closing.Closing.{Closing}
use Rattle.bsc_accept.specs.declared.reason.Reason.TheVariants.{ConnectWait}
use Rattle.bsc_accept.specs.Waits.{connect_wait_is_over, is_idle, disconnect_wait_is_over}
use Rattle.bsc_accept.specs.Steps.{closing, normal}
use Rattle.bsc_initiate.specs.declared.event.InitEvent.{InitEvent}
use Rattle.bsc_initiate.specs.declared.event.InitEvent.TheVariants.{Opened, Message as Came, Finish, Tick}
use Rattle.bsc_initiate.specs.declared.step.InitStep.TheVariants.{Put, Close, Nothing}
use Rattle.bsc_initiate.specs.Past.{Standing, awaiting_websocket, awaiting_accept, connected, disconnecting, standing, is_message, last_message, heartbeat_was_put, is_heartbeat_due}
use Rattle.bsc_initiate.specs.Steps.{step, tick_step}
use Rattle.bsc_initiate.specs.Kept.{put_after}
use Rattle.bsc_initiate.proofs.Looking.{put-more}
use Rattle.bsc_lemmas.proofs.Booleans.{or_left as first_quiet, or_right as rest_quiet}
use Rattle.std.proofs.lemmas.Bool.{or_right as or_true}

-- ---- once put, a Heartbeat-Request is noted until a message comes

kept : (s : Start) (last : ℕ) (put : Bool) (e : InitEvent) → put ≡ true → is_message e ≡ false → put_after s last put e ≡ true
kept s last put (Opened now id) h m = h
kept s last put (Came now v) h m = cc
kept s last put (Finish now id) h m = h
kept s last put (Tick now id) h m = or_true (is_heartbeat_due s last now) put h

stays : (s : Start) (E later : List InitEvent) → heartbeat_was_put s E ≡ true → list_any is_message later ≡ false → heartbeat_was_put s (E ++ later) ≡ true
stays s E [] h m = ap (λ xs. heartbeat_was_put s xs) (append-nil E) ∙ h
stays s E (e ∷ later) h m =
    ap (λ xs. heartbeat_was_put s xs) (sym (append_assoc E (e ∷ []) later))
    ∙ stays s (E ++ e ∷ []) later
    (put-more s E e ∙ kept s (last_message s E) (heartbeat_was_put s E) e h (first_quiet (is_message e) (list_any is_message later) m))
    (rest_quiet (is_message e) (list_any is_message later) m)

-- ---- a tick that puts one

no_put : (b : Bool) (c : Closing) (octets : ArrayVec ℕ) → cond b (Close c) Nothing ≢ Put octets
no_put true c octets h = cc
no_put false c octets h = cc

put_when_due : (idle due put : Bool) (c : Closing) (o octets : ArrayVec ℕ) → cond idle (Close c) (cond (due && not put) (Put o) Nothing) ≡ Put octets → (due || put) ≡ true
put_when_due true due put c o octets h = cc
put_when_due false true put c o octets h = refl
put_when_due false false put c o octets h = cc

put_when_quiet : (idle due put : Bool) (c : Closing) (o octets : ArrayVec ℕ) → put ≡ true → cond idle (Close c) (cond (due && not put) (Put o) Nothing) ≢ Put octets
put_when_quiet true due put c o octets p h = cc
put_when_quiet false true true c o octets p h = cc
put_when_quiet false true false c o octets p h = cc
put_when_quiet false false put c o octets p h = cc

noted : (s : Start) (last now id : ℕ) (put : Bool) (g : Standing) (octets : ArrayVec ℕ) → tick_step s last put now id g ≡ Put octets → (is_heartbeat_due s last now || put) ≡ true
noted s last now id put awaiting_websocket octets h = absurd (no_put (connect_wait_is_over s now) (closing 1008 ConnectWait) octets h)
noted s last now id put (awaiting_accept request) octets h = absurd (no_put (connect_wait_is_over s now) (closing 1008 ConnectWait) octets h)
noted s last now id put connected octets h = put_when_due (is_idle s last now) (is_heartbeat_due s last now) put _ _ octets h
noted s last now id put (disconnecting f) octets h = absurd (no_put (disconnect_wait_is_over s f now) normal octets h)

once : (s : Start) (last now id : ℕ) (put : Bool) (g : Standing) (octets : ArrayVec ℕ) → put ≡ true → tick_step s last put now id g ≢ Put octets
once s last now id put awaiting_websocket octets p h = no_put (connect_wait_is_over s now) (closing 1008 ConnectWait) octets h
once s last now id put (awaiting_accept request) octets p h = no_put (connect_wait_is_over s now) (closing 1008 ConnectWait) octets h
once s last now id put connected octets p h = put_when_quiet (is_idle s last now) (is_heartbeat_due s last now) put _ _ octets p h
once s last now id put (disconnecting f) octets p h = no_put (disconnect_wait_is_over s f now) normal octets h

pub beats_apart : (s : Start) (E later : List InitEvent) (now id next other : ℕ) (octets others : ArrayVec ℕ) → step s E (Tick now id) ≡ Put octets → list_any is_message later ≡ false
    → step s (E ++ Tick now id ∷ later) (Tick next other) ≢ Put others
beats_apart s E later now id next other octets others first quiet =
    let was : heartbeat_was_put s (E ++ Tick now id ∷ []) ≡ true =
    put-more s E (Tick now id) ∙ noted s (last_message s E) now id (heartbeat_was_put s E) (standing E) octets first in
    let is : heartbeat_was_put s (E ++ Tick now id ∷ later) ≡ true =
    ap (λ xs. heartbeat_was_put s xs) (sym (append_assoc E (Tick now id ∷ []) later)) ∙ stays s (E ++ Tick now id ∷ []) later was quiet in
    once s (last_message s (E ++ Tick now id ∷ later)) next other (heartbeat_was_put s (E ++ Tick now id ∷ later)) (standing (E ++ Tick now id ∷ later)) others is
