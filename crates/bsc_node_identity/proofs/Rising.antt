-- Whether a link's machine has made the connection, and whether its slot came up since the link began.
-- It serves the clauses of `npdus_pass_where_up`.
use Rattle.std.proofs.Common.{◌≡◌, ℕ, Bool, true, false, cond, ◌||◌, List, [], ◌∷◌, ◌++◌, Option, Some, None, refl, ap, sym, ◌∙◌}
use Rattle.std.specs.Prelude.{IsTrue}
use Rattle.std.specs.List.{list_any}
use Rattle.std.proofs.lemmas.List.{append_assoc}
use Rattle.bsc_octets.specs.declared.identity.Identity.{Identity}
use Rattle.bsc_connector.proofs.BackLemmas.{list_any-more}
use Rattle.bsc_accept.specs.declared.event.Event.{Event}
use Rattle.bsc_accept.specs.declared.event.Event.TheVariants.{Message as AcceptMessage, Joined, Refused as RefusedEvent, Ended, Finish as AcceptFinish, Tick as AcceptTick}
use Rattle.bsc_accept.specs.Past as Accepting
use Rattle.bsc_accept.specs.Kept as AcceptingKept
use Rattle.bsc_accept.proofs.Looking.{standing-more as accepting_standing-more}
use Rattle.bsc_initiate.specs.declared.event.InitEvent.{InitEvent}
use Rattle.bsc_initiate.specs.declared.event.InitEvent.TheVariants.{Opened as MachineOpened, Message as InitMessage, Finish as InitFinish, Tick as InitTick}
use Rattle.bsc_initiate.specs.Past as Initiating
use Rattle.bsc_initiate.specs.Kept as InitiatingKept
use Rattle.bsc_initiate.proofs.Looking.{standing-more}
use Rattle.bsc_direct.specs.declared.call.SlotCall.TheVariants.{Up}
use Rattle.bsc_node.specs.declared.link_name.LinkName.{LinkName}
use Rattle.bsc_node.specs.declared.link_name.LinkName.TheVariants.{Direct}
use Rattle.bsc_node.specs.declared.node_event.NodeEvent.{NodeEvent}
use Rattle.bsc_node.specs.declared.node_event.NodeEvent.TheVariants.{Came}
use Rattle.bsc_node.specs.declared.timed_event.TimedEvent.{TimedEvent}
use Rattle.bsc_node.specs.Logs.{Made, Line, came, slot, initiating, accepting, Log, now}
use Rattle.bsc_node.specs.Links.{same_link, begins, is_there, was_taken, initiating_events, accepting_events}
use Rattle.bsc_node.specs.Node.{goes_on}
use Rattle.bsc_node.specs.Conditions.{may_come}
use Rattle.bsc_node.proofs.Common.{same_link-is}
use Rattle.bsc_node.proofs.Told.{initiating_events-more, accepting_events-more}
use Rattle.bsc_node_laws.proofs.There.{there-before, taken-other}
use Rattle.bsc_node_identity.specs.There.{CameUpWith}
use Rattle.bsc_node_identity.proofs.OneMore.{initiating-same, accepting-same, initiating-begun, accepting-begun}
use Rattle.bsc_node_identity.proofs.Reasons.{Why}
use Rattle.bsc_node_identity.proofs.Settled.{kept}
use Rattle.bsc_lemmas.proofs.Booleans.{or_false}

-- ---- whether a link's machine has made the connection

abbrev pub is_made_dialled : Initiating.Standing → Bool
is_made_dialled Initiating.connected = true
is_made_dialled g = false

abbrev pub is_made_taken : Accepting.Standing → Bool
is_made_taken Accepting.connected = true
is_made_taken g = false

abbrev pub is_made_by : Bool → List InitEvent → List Event → Bool
is_made_by false E A = is_made_dialled (Initiating.standing E)
is_made_by true E A = is_made_taken (Accepting.standing A)

abbrev pub is_made : ℕ → Log → Bool
is_made k N = is_made_by (was_taken (Direct k) N) (initiating_events N (Direct k)) (accepting_events N (Direct k))

-- By such a line alone the machine of the slot's link may make it.
abbrev pub makes_dialled : Bool → InitEvent → Bool
makes_dialled same (InitMessage now v) = same
makes_dialled same call = false

abbrev pub makes_taken : Bool → Event → Bool
makes_taken same Joined = same
makes_taken same call = false

abbrev pub makes : ℕ → Line → Bool
makes k (initiating other call) = makes_dialled (same_link other (Direct k)) call
makes k (accepting other call) = makes_taken (same_link other (Direct k)) call
makes k m = false

pub until_no : (o : Option ℕ) → is_made_dialled (InitiatingKept.until_request o) ≡ true → ⊥
until_no None h = cc
until_no (Some id) h = cc

pub made_by_dialled : (g : Initiating.Standing) (call : InitEvent) → makes_dialled true call ≡ false → is_made_dialled (InitiatingKept.moved g call) ≡ true → is_made_dialled g ≡ true
made_by_dialled Initiating.awaiting_websocket call n h = absurd (until_no (Initiating.request_at call) h)
made_by_dialled (Initiating.awaiting_accept id) (MachineOpened now i) n h = cc
made_by_dialled (Initiating.awaiting_accept id) (InitMessage now v) n h = cc
made_by_dialled (Initiating.awaiting_accept id) (InitFinish now i) n h = cc
made_by_dialled (Initiating.awaiting_accept id) (InitTick now i) n h = cc
made_by_dialled Initiating.connected call n h = refl
made_by_dialled (Initiating.disconnecting f) call n h = cc

pub made_by_taken : (g : Accepting.Standing) (call : Event) → makes_taken true call ≡ false → is_made_taken (AcceptingKept.moved g call) ≡ true → is_made_taken g ≡ true
made_by_taken Accepting.awaiting_request (AcceptMessage now v) n h = cc
made_by_taken Accepting.awaiting_request Joined n h = cc
made_by_taken Accepting.awaiting_request (RefusedEvent r) n h = cc
made_by_taken Accepting.awaiting_request (Ended now ending) n h = cc
made_by_taken Accepting.awaiting_request (AcceptFinish now id) n h = cc
made_by_taken Accepting.awaiting_request (AcceptTick now) n h = cc
made_by_taken Accepting.connected call n h = refl
made_by_taken (Accepting.disconnecting f) call n h = cc

pub made_dialled : (t : Bool) (E : List InitEvent) (A : List Event) (call : InitEvent) → makes_dialled true call ≡ false → is_made_by t (E ++ call ∷ []) A ≡ true → is_made_by t E A ≡ true
made_dialled true E A call n h = h
made_dialled false E A call n h = made_by_dialled (Initiating.standing E) call n (sym (ap is_made_dialled (standing-more E call)) ∙ h)

pub made_taken : (t : Bool) (E : List InitEvent) (A : List Event) (call : Event) → makes_taken true call ≡ false → is_made_by t E (A ++ call ∷ []) ≡ true → is_made_by t E A ≡ true
made_taken false E A call n h = h
made_taken true E A call n h = made_by_taken (Accepting.standing A) call n (sym (ap is_made_taken (accepting_standing-more A call)) ∙ h)

-- what it is, by what the machines were told
pub made_is : (k : ℕ) (N : Log) (m : Line) (E : List InitEvent) (A : List Event) → begins (Direct k) m ≡ false → initiating_events (N ++ m ∷ []) (Direct k) ≡ E
    → accepting_events (N ++ m ∷ []) (Direct k) ≡ A → is_made k (N ++ m ∷ []) ≡ is_made_by (was_taken (Direct k) N) E A
made_is k N m E A b e a = ap (λ (t : Bool). is_made_by t (initiating_events (N ++ m ∷ []) (Direct k)) (accepting_events (N ++ m ∷ []) (Direct k))) (taken-other (Direct k) N m b)
    ∙ ap (λ (x : List InitEvent). is_made_by (was_taken (Direct k) N) x (accepting_events (N ++ m ∷ []) (Direct k))) e ∙ ap (λ (x : List Event). is_made_by (was_taken (Direct k) N) E x) a

-- Any other line finds it made, where it leaves it so.
pub made_before : (k : ℕ) (N : Log) (m : Line) → begins (Direct k) m ≡ false → makes k m ≡ false → is_made k (N ++ m ∷ []) ≡ true → is_made k N ≡ true
made_before k N (initiating other call) b n h = by (same_link other (Direct k)) refl
  where
    E : List InitEvent
    E = initiating_events N (Direct k)

    A : List Event
    A = accepting_events N (Direct k)

    by : (d : Bool) → same_link other (Direct k) ≡ d → is_made k N ≡ true
    by true is =
        let more : initiating_events (N ++ initiating other call ∷ []) (Direct k) ≡ E ++ call ∷ [] =
        ap (λ (x : LinkName). initiating_events (N ++ initiating x call ∷ []) (Direct k)) (same_link-is other (Direct k) is) ∙ initiating_events-more N (Direct k) call in
        made_dialled (was_taken (Direct k) N) E A call (sym (ap (λ (d : Bool). makes_dialled d call) is) ∙ n)
        (sym (made_is k N (initiating other call) (E ++ call ∷ []) A b more (accepting-same (Direct k) N (initiating other call) b refl)) ∙ h)
    by false is =
        sym (made_is k N (initiating other call) E A b (initiating-same (Direct k) N (initiating other call) b (ap (λ (d : Bool). cond d (Some call) None) is))
        (accepting-same (Direct k) N (initiating other call) b refl)) ∙ h
made_before k N (accepting other call) b n h = by (same_link other (Direct k)) refl
  where
    E : List InitEvent
    E = initiating_events N (Direct k)

    A : List Event
    A = accepting_events N (Direct k)

    by : (d : Bool) → same_link other (Direct k) ≡ d → is_made k N ≡ true
    by true is =
        let more : accepting_events (N ++ accepting other call ∷ []) (Direct k) ≡ A ++ call ∷ [] =
        ap (λ (x : LinkName). accepting_events (N ++ accepting x call ∷ []) (Direct k)) (same_link-is other (Direct k) is) ∙ accepting_events-more N (Direct k) call in
        made_taken (was_taken (Direct k) N) E A call (sym (ap (λ (d : Bool). makes_taken d call) is) ∙ n)
        (sym (made_is k N (accepting other call) E (A ++ call ∷ []) b (initiating-same (Direct k) N (accepting other call) b refl) more) ∙ h)
    by false is =
        sym (made_is k N (accepting other call) E A b (initiating-same (Direct k) N (accepting other call) b refl)
        (accepting-same (Direct k) N (accepting other call) b (ap (λ (d : Bool). cond d (Some call) None) is))) ∙ h
made_before k N m b n h =
    sym (made_is k N m (initiating_events N (Direct k)) (accepting_events N (Direct k)) b (initiating-same (Direct k) N m b refl) (accepting-same (Direct k) N m b refl)) ∙ h

-- A link that begins isn't made.
pub begun_unmade : (k : ℕ) (N : Log) (m : Line) → begins (Direct k) m ≡ true → is_made k (N ++ m ∷ []) ≡ true → ⊥
begun_unmade k N m b h = by (was_taken (Direct k) (N ++ m ∷ [])) (initiating-begun (Direct k) N m b) (accepting-begun (Direct k) N m b) h
  where
    first : (E : List InitEvent) → E ≡ [] → is_made_dialled (Initiating.standing E) ≡ true → ⊥
    first E is g = (let no : false ≡ true = sym (ap (λ (x : List InitEvent). is_made_dialled (Initiating.standing x)) is) ∙ g in cc)

    second : (A : List Event) → A ≡ [] → is_made_taken (Accepting.standing A) ≡ true → ⊥
    second A is g = (let no : false ≡ true = sym (ap (λ (x : List Event). is_made_taken (Accepting.standing x)) is) ∙ g in cc)

    by : (t : Bool) {E : List InitEvent} {A : List Event} → E ≡ [] → A ≡ [] → is_made_by t E A ≡ true → ⊥
    by false {E} {A} e a g = first E e g
    by true {E} {A} e a g = second A a g

-- ---- a slot that came up

abbrev pub UpSince : ℕ → Log → Type 0
UpSince k N = (who : Identity) × CameUpWith N k who

pub up_now : (k : ℕ) (N : Log) (who : Identity) → CameUpWith (N ++ slot (Up k who) ∷ []) k who
up_now k N who = record { before = N; later = []; is = refl; since = refl }

pub up_more : (k : ℕ) (N : Log) (m : Line) (who : Identity) → begins (Direct k) m ≡ false → CameUpWith N k who → CameUpWith (N ++ m ∷ []) k who
up_more k N m who b up = record {
  before = up.before;
  later = up.later ++ m ∷ [];
  is = ap (λ (M : Log). M ++ m ∷ []) up.is ∙ append_assoc up.before (slot (Up k who) ∷ up.later) (m ∷ []);
  since = list_any-more (begins (Direct k)) up.later m ∙ ap (λ (p : Bool). list_any (begins (Direct k)) up.later || p) b ∙ or_false (list_any (begins (Direct k)) up.later) ∙ up.since;
}

-- Where the link is there and made, its slot came up.
abbrev pub RisenAt : ℕ → Log → Type 0
RisenAt k N = is_there (Direct k) N ≡ true → is_made k N ≡ true → UpSince k N

pub risen_more : (k : ℕ) (N : Log) (m : Line) → makes k m ≡ false → RisenAt k N → RisenAt k (N ++ m ∷ [])
risen_more k N m n risen there made = by (begins (Direct k) m) refl
  where
    by : (b : Bool) → begins (Direct k) m ≡ b → UpSince k (N ++ m ∷ [])
    by true b = absurd (begun_unmade k N m b made)
    by false b = (let up = risen (there-before (Direct k) N m b there) (made_before k N m b n made) in (up.0, up_more k N m up.0 b up.1))

-- ---- an event by which nothing comes over the link

abbrev pub comes_over : ℕ → NodeEvent → Bool
comes_over k (Came name o) = same_link name (Direct k)
comes_over k ev = false

pub makes_none : (a : Made) (L : Log) (e : TimedEvent) (k : ℕ) → comes_over k e.event ≡ false → (N : Log) (m : Line) → Why a L e N m → makes k m ≡ false
makes_none a L e k none N (initiating other (InitMessage now v)) why = sym (ap (comes_over k) why.0.1) ∙ none
makes_none a L e k none N (initiating other (MachineOpened now id)) why = refl
makes_none a L e k none N (initiating other (InitFinish now id)) why = refl
makes_none a L e k none N (initiating other (InitTick now id)) why = refl
makes_none a L e k none N (accepting other Joined) why = sym (ap (comes_over k) why.2) ∙ none
makes_none a L e k none N (accepting other (AcceptMessage now v)) why = refl
makes_none a L e k none N (accepting other (RefusedEvent r)) why = refl
makes_none a L e k none N (accepting other (Ended now ending)) why = refl
makes_none a L e k none N (accepting other (AcceptFinish now id)) why = refl
makes_none a L e k none N (accepting other (AcceptTick now)) why = refl
makes_none a L e k none N m why = refl

pub risen_elsewhere : (a : Made) (L : Log) (e : TimedEvent) → IsTrue (may_come L e) → (k : ℕ) → comes_over k e.event ≡ false → RisenAt k L → RisenAt k (L ++ goes_on a e L)
risen_elsewhere a L e may k none risen = kept a L e may (RisenAt k) (λ N m why r. risen_more k N m (makes_none a L e k none N m why) r) (risen_more k L (came e) refl risen)
