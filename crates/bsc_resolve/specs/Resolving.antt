-- Which questions are under way and which URIs are learnt, by all that happened to address resolution, newest last
-- (Annex AB, "Address Resolution").
use Rattle.std.specs.Prelude.{ℕ, ◌+◌, ◌==◌, nat_le, Bool, false, not, ◌&&◌, ◌||◌, if◌then◌else◌, List, filter, Option, Some, None, is_some}
use Rattle.std.specs.List.{list_any, filter_map}
use Rattle.std.specs.Option.{option_map}
use Rattle.std.specs.Set.{distinct_count}
use Rattle.bsc_octets.specs.declared.vmac.Vmac.{Vmac}
use Rattle.bsc_octets.specs.Addresses.{same_vmac}
use Rattle.bsc_connector.specs.Back.{newest_of, since}
use Rattle.bsc_resolve.specs.declared.bounds.TheConstants.{ROOM}
use Rattle.bsc_resolve.specs.declared.question.Question.{Question}
use Rattle.bsc_resolve.specs.declared.call.ResolveCall.{ResolveCall}
use Rattle.bsc_resolve.specs.declared.call.ResolveCall.TheVariants.{Ask, Answered, Refused, Tick}
use Rattle.bsc_resolve.specs.declared.ask_refusal.AskRefusal.{AskRefusal}
use Rattle.bsc_resolve.specs.declared.ask_refusal.AskRefusal.TheVariants.{Full, Pending}

-- ---- what one call says

-- the VMAC of which a call speaks
abbrev pub vmac_of : ResolveCall → Option Vmac
vmac_of (Ask now id v) = Some v
vmac_of (Answered id v uris) = Some v
vmac_of (Refused id v) = Some v
vmac_of (Tick now) = None

-- the question for v that a call asks
abbrev pub question_for : Vmac → ResolveCall → Option Question
question_for v (Ask now id w) = if same_vmac v w then Some (record { id = id; asked = now }) else None
question_for v call = None

-- whether a call asks for v
abbrev pub asks_for : Vmac → ResolveCall → Bool
asks_for v call = is_some (question_for v call)

-- the URIs that an answer for v brings
abbrev pub uris_for : Vmac → ResolveCall → Option (List ℕ)
uris_for v (Answered id w uris) = if same_vmac v w then Some uris else None
uris_for v call = None

-- Whether a call ends a question for v: by its answer, by its NAK, or by a Tick once its wait has passed.
abbrev pub ends : ℕ → Vmac → Question → ResolveCall → Bool
ends wait v q (Ask now id w) = false
ends wait v q (Answered id w uris) = same_vmac v w && (q.id == id)
ends wait v q (Refused id w) = same_vmac v w && (q.id == id)
ends wait v q (Tick now) = nat_le (q.asked + wait) now

-- ---- what all calls say

-- the question, unless one of the calls ended it
abbrev pub unless_ended : ℕ → Vmac → List ResolveCall → Option Question → Option Question
unless_ended wait v calls None = None
unless_ended wait v calls (Some q) = if list_any (ends wait v q) calls then None else Some q

-- The question for v that is under way: the newest, unless it has ended since.
abbrev pub question : ℕ → List ResolveCall → Vmac → Option Question
question wait calls v = unless_ended wait v (since (asks_for v) calls) (newest_of (question_for v) calls)

-- The URIs learnt of v: those that the newest answer brought.
abbrev pub learnt : List ResolveCall → Vmac → Option (List ℕ)
learnt calls v = newest_of (uris_for v) calls

-- Whether v is held: a question for it is under way, or URIs are learnt of it.
abbrev pub is_held : ℕ → List ResolveCall → Vmac → Bool
is_held wait calls v = is_some (question wait calls v) || is_some (learnt calls v)

-- How many VMACs are held: of those of which calls speak, each counted once.
abbrev pub held : ℕ → List ResolveCall → ℕ
held wait calls = distinct_count same_vmac (filter (is_held wait calls) (filter_map vmac_of calls))

-- Why a question for v isn't asked: there is no room for another VMAC, or one for it is under way.
abbrev pub ask_refusal : ℕ → List ResolveCall → Vmac → Option AskRefusal
ask_refusal wait calls v =
    if not (is_held wait calls v) && nat_le ROOM (held wait calls) then Some (Full (held wait calls))
    else option_map (λ (q : Question). Pending q.id) (question wait calls v)

-- whether it is a question with this Message ID
abbrev pub has_id : ℕ → Option Question → Bool
has_id id None = false
has_id id (Some q) = q.id == id

-- Whether a question for v with this Message ID is under way, so that its answer or its NAK counts.
abbrev pub awaits : ℕ → List ResolveCall → ℕ → Vmac → Bool
awaits wait calls id v = has_id id (question wait calls v)
