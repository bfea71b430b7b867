-- What one line that has its reason changes of slots, peers and learnt URIs, and what it leaves.
-- It serves clauses of functions of `laws`.
use Rattle.std.proofs.Common.{◌≡◌, ◌⊎◌, inl, inr, ℕ, Bool, true, false, cond, List, [], ◌∷◌, ◌++◌, Option, Some, None, is_some, refl, ap, sym, ◌∙◌, subst}
use Rattle.std.specs.Prelude.{⊤, ◌==◌, if◌then◌else◌}
use Rattle.std.specs.Option.{option_or, option_and_then}
use Rattle.std.proofs.lemmas.Bool.{eqb-true}
use Rattle.bsc_octets.specs.declared.vmac.Vmac.{Vmac}
use Rattle.bsc_octets.specs.declared.identity.Identity.{Identity}
use Rattle.bsc_octets.specs.Addresses.{same_vmac}
use Rattle.bsc_connector.specs.Back.{first_of}
use Rattle.bsc_frame.specs.declared.message.Message.{Message}
use Rattle.bsc_checks.specs.declared.verdict.Verdict.{Verdict}
use Rattle.bsc_checks.specs.declared.verdict.Verdict.TheVariants.{Pass, Carry, Silent, Nak}
use Rattle.bsc_resolve.specs.declared.call.ResolveCall.{ResolveCall}
use Rattle.bsc_resolve.specs.declared.call.ResolveCall.TheVariants.{Ask, Answered, Refused as RefusedCall, Tick as ResolveTick}
use Rattle.bsc_resolve.specs.Resolving.{uris_for}
use Rattle.bsc_resolve.specs.Resolving as Resolving
use Rattle.bsc_resolve.proofs.OneMore.{learnt-more}
use Rattle.bsc_accept.specs.declared.event.Event.{Event}
use Rattle.bsc_accept.specs.declared.event.Event.TheVariants.{Message as AcceptMessage, Joined}
use Rattle.bsc_accept.specs.Messages.{who_asks}
use Rattle.bsc_initiate.specs.declared.event.InitEvent.{InitEvent}
use Rattle.bsc_initiate.specs.declared.event.InitEvent.TheVariants.{Opened as MachineOpened, Message as InitMessage, Finish as InitFinish, Tick as InitTick}
use Rattle.bsc_initiate.specs.Messages.{who_accepts}
use Rattle.bsc_initiate.specs.Past.{request_at}
use Rattle.bsc_direct.specs.declared.call.SlotCall.{SlotCall}
use Rattle.bsc_direct.specs.declared.call.SlotCall.TheVariants.{Claim, Up, Release}
use Rattle.bsc_direct.specs.Slots as Slots
use Rattle.bsc_direct.proofs.OneMore.{peer-before as slot-before, peer-beside, peer-up}
use Rattle.bsc_node.specs.declared.link_name.LinkName.{LinkName}
use Rattle.bsc_node.specs.declared.link_name.LinkName.TheVariants.{Hub, Direct}
use Rattle.bsc_node.specs.declared.timed_event.TimedEvent.{TimedEvent}
use Rattle.bsc_node.specs.declared.action.Action.TheVariants.{Dial, Take}
use Rattle.bsc_node.specs.Logs.{Made, Line, came, did, slot, connector, initiating, accepting, resolution, Log, renewal_of}
use Rattle.bsc_node.specs.Links.{same_link, begins, initiating_event, accepting_event, initiating_events, accepting_events, request, accepts_by, asks_by, who_accepted, who_asked, peer}
use Rattle.bsc_node.specs.Ways.{slot_call_of, slot_calls, established_peer, resolve_call_of, resolve_calls, learnt}
use Rattle.bsc_node.specs.Laws.{with_event}
use Rattle.bsc_node.proofs.Told.{initiating_events-more, accepting_events-more}
use Rattle.bsc_node_identity.specs.Naming.{named_by, IsNamedAt}
use Rattle.bsc_node_identity.specs.Resolving.{IsAnsweredAt}
use Rattle.bsc_node_identity.proofs.Meets.{accepts_names, asks_names}
use Rattle.bsc_node_identity.proofs.OneMore.{established-same, established-told, initiating-same, accepting-same, initiating-begun, accepting-begun, resolve_calls-more}
use Rattle.bsc_node_identity.proofs.Reasons.{NoneAccepts, Why, WhySlot, WhyBegun, IsHeard}
use Rattle.bsc_connector.proofs.Common.{first_of-more}
use Rattle.bsc_lemmas.proofs.Options.{or_none as or_last}
use Rattle.bsc_node.proofs.Common.{accepted-kept as same_accepted, asked-kept as same_asked, resolve_calls-kept as resolve_calls-same, same_link-is as same_link-true}
use Rattle.bsc_octets.proofs.Common.{vmac_same}
use Rattle.std.proofs.lemmas.Option.{same_Some as some_same}

-- ---- no event follows from one

pub renewal_none : (a : Made) (L : Log) (e : TimedEvent) (N : Log) (m : Line) → Why a L e N m → renewal_of m ≡ None
renewal_none a L e N (came other) why = absurd why
renewal_none a L e N m why = refl

-- ---- a slot's link begins

begun_same : (taken : Bool) (L : Log) (e : TimedEvent) (N : Log) (j k : ℕ) (b : Bool) → (j == k) ≡ b → is_some (cond b (Some taken) None) ≡ true → WhyBegun L e N j → WhyBegun L e N k
begun_same taken L e N j k true is h why = subst (WhyBegun L e N) (eqb-true j k is) why
begun_same taken L e N j k false is h why = cc

-- A line by which a slot's link begins has the reason for that.
pub begun-why : (a : Made) (L : Log) (e : TimedEvent) (N : Log) (m : Line) (k : ℕ) → begins (Direct k) m ≡ true → Why a L e N m → WhyBegun L e N k
begun-why a L e N (did (Dial (Direct j) uri)) k b why = begun_same false L e N j k (j == k) refl b why.0
begun-why a L e N (did (Take (Direct j))) k b why = begun_same true L e N j k (j == k) refl b why
begun-why a L e N (did (Take (Hub s))) k b why = absurd why
begun-why a L e N m k b why = cc

pub begun-no_call : (name : LinkName) (m : Line) → begins name m ≡ true → slot_call_of m ≡ None
begun-no_call name (did action) b = refl
begun-no_call name m b = cc

-- ---- slots

-- The slot is established with this peer, once one line more stands in the log: it was, or it comes up so.
abbrev pub Stays : Made → Log → TimedEvent → Log → ℕ → Identity → Type 0
Stays a L e N k who = (established_peer k N ≡ Some who) ⊎ WhySlot a L e N (Up k who)

up_here : (a : Made) (L : Log) (e : TimedEvent) (N : Log) (j k : ℕ) (x who : Identity) (b : Bool) → (j == k) ≡ b → WhySlot a L e N (Up j x)
    → Slots.established_peer (slot_calls N ++ Up j x ∷ []) k ≡ Some who → Stays a L e N k who
up_here a L e N j k x who true is why h =
    let now : Some x ≡ Some who = sym (peer-up (slot_calls N) k (Up j x) x refl (ap (λ (b : Bool). cond b (Some x) None) is)) ∙ h in
    inr (subst (λ (y : Identity). WhySlot a L e N (Up k y)) (some_same x who now) (subst (λ (i : ℕ). WhySlot a L e N (Up i x)) (eqb-true j k is) why))
up_here a L e N j k x who false is why h = inl (peer-beside (slot_calls N) j k x who is h).0

told_slot : (a : Made) (L : Log) (e : TimedEvent) (N : Log) (k : ℕ) (who : Identity) (call : SlotCall) → WhySlot a L e N call
    → Slots.established_peer (slot_calls N ++ call ∷ []) k ≡ Some who → Stays a L e N k who
told_slot a L e N k who (Claim j wanted) why h = inl (slot-before (slot_calls N) k (Claim j wanted) who refl (λ w. refl) h)
told_slot a L e N k who (Release j) why h = inl (slot-before (slot_calls N) k (Release j) who refl (λ w. refl) h)
told_slot a L e N k who (Up j x) why h = up_here a L e N j k x who (j == k) refl why h

-- A slot that is established after a line was so before it, or comes up by it.
pub established-before : (a : Made) (L : Log) (e : TimedEvent) (N : Log) (m : Line) (k : ℕ) (who : Identity) → Why a L e N m → established_peer k (N ++ m ∷ []) ≡ Some who → Stays a L e N k who
established-before a L e N (slot call) k who why h = told_slot a L e N k who call why (sym (established-told k N call) ∙ h)
established-before a L e N (came other) k who why h = inl (sym (established-same k N (came other) refl) ∙ h)
established-before a L e N (initiating name call) k who why h = inl (sym (established-same k N (initiating name call) refl) ∙ h)
established-before a L e N (accepting name call) k who why h = inl (sym (established-same k N (accepting name call) refl) ∙ h)
established-before a L e N (connector told) k who why h = inl (sym (established-same k N (connector told) refl) ∙ h)
established-before a L e N (resolution call) k who why h = inl (sym (established-same k N (resolution call) refl) ∙ h)
established-before a L e N (did action) k who why h = inl (sym (established-same k N (did action) refl) ∙ h)

-- ---- peers

abbrev pub is_opening : InitEvent → Bool
is_opening (MachineOpened now id) = true
is_opening call = false

-- Where a machine is told that its link opened, no request of it was accepted.
abbrev pub OpensUnaccepted : Log → Line → Type 0
OpensUnaccepted N (initiating name call) = is_opening call ≡ true → NoneAccepts (initiating_events N name)
OpensUnaccepted N m = ⊤

pub none_accepted : (E : List InitEvent) → NoneAccepts E → who_accepted E ≡ None
none_accepted E none = by (request E)
  where
    by : (o : Option ℕ) → option_and_then (λ id. first_of (accepts_by id) E) o ≡ None
    by None = refl
    by (Some id) = none id

-- Nobody has accepted after a machine is told something by which nobody does.
pub none-told : (N : Log) (other name : LinkName) (call : InitEvent) (id : ℕ) → first_of (accepts_by id) (initiating_events N name) ≡ None → (other ≡ name → accepts_by id call ≡ None)
    → first_of (accepts_by id) (initiating_events (N ++ initiating other call ∷ []) name) ≡ None
none-told N other name call id none silent = by (same_link other name) refl
  where
    by : (d : Bool) → same_link other name ≡ d → first_of (accepts_by id) (initiating_events (N ++ initiating other call ∷ []) name) ≡ None
    by true is =
        let same : other ≡ name = same_link-true other name is in
        ap (λ (n : LinkName). first_of (accepts_by id) (initiating_events (N ++ initiating n call ∷ []) name)) same
        ∙ ap (first_of (accepts_by id)) (initiating_events-more N name call)
        ∙ first_of-more (accepts_by id) (initiating_events N name) call
        ∙ ap (λ (o : Option Identity). option_or o (accepts_by id call)) none ∙ silent same
    by false is = ap (first_of (accepts_by id)) (initiating-same name N (initiating other call) refl (ap (λ (d : Bool). cond d (Some call) None) is)) ∙ none

-- Nobody has asked after a machine is told something by which nobody does.
pub asked-told : (N : Log) (other name : LinkName) (call : Event) → who_asked (accepting_events N name) ≡ None → (other ≡ name → asks_by call ≡ None)
    → who_asked (accepting_events (N ++ accepting other call ∷ []) name) ≡ None
asked-told N other name call none silent = by (same_link other name) refl
  where
    by : (d : Bool) → same_link other name ≡ d → who_asked (accepting_events (N ++ accepting other call ∷ []) name) ≡ None
    by true is =
        let same : other ≡ name = same_link-true other name is in
        ap (λ (n : LinkName). who_asked (accepting_events (N ++ accepting n call ∷ []) name)) same
        ∙ ap who_asked (accepting_events-more N name call)
        ∙ first_of-more asks_by (accepting_events N name) call
        ∙ ap (λ (o : Option Identity). option_or o (asks_by call)) none ∙ silent same
    by false is = ap who_asked (accepting-same name N (accepting other call) refl (ap (λ (d : Bool). cond d (Some call) None) is)) ∙ none

-- By this verdict a message passed in which who accepts.
abbrev Accepted : Verdict → Identity → Type 0
Accepted v who = (m : Message) × (v ≡ Pass m) × (who_accepts m.body ≡ Some who)

abbrev Asked : Verdict → Identity → Type 0
Asked v who = (m : Message) × (v ≡ Pass m) × (who_asks m.body ≡ Some who)

accepts_if : (id now : ℕ) (m : Message) (who : Identity) (b : Bool) → (if b then who_accepts m.body else None) ≡ Some who → Accepted (Pass m) who
accepts_if id now m who true h = (m, refl, h)
accepts_if id now m who false h = cc

accepts_then : (id now : ℕ) (v : Verdict) (who : Identity) → accepts_by id (InitMessage now v) ≡ Some who → Accepted v who
accepts_then id now (Pass m) who h = accepts_if id now m who (m.id == id) h
accepts_then id now (Carry envelope) who h = cc
accepts_then id now (Silent check) who h = cc
accepts_then id now (Nak check octets) who h = cc

asks_then : (now : ℕ) (v : Verdict) (who : Identity) → asks_by (AcceptMessage now v) ≡ Some who → Asked v who
asks_then now (Pass m) who h = (m, refl, h)
asks_then now (Carry envelope) who h = cc
asks_then now (Silent check) who h = cc
asks_then now (Nak check octets) who h = cc

-- Once it is told a message, who accepted is as before, or the one who accepts in it.
accepted_more : (E : List InitEvent) (now : ℕ) (v : Verdict) → (who_accepted (E ++ InitMessage now v ∷ []) ≡ who_accepted E)
    ⊎ ((w : Identity) × (who_accepted (E ++ InitMessage now v ∷ []) ≡ Some w) × Accepted v w)
accepted_more E now v = by (request E) refl
  where
    F : List InitEvent
    F = E ++ InitMessage now v ∷ []

    found : (o : Option ℕ) → request E ≡ o → who_accepted F ≡ option_and_then (λ id. first_of (accepts_by id) F) o
    found o is = ap (λ (r : Option ℕ). option_and_then (λ id. first_of (accepts_by id) F) r) (first_of-more request_at E (InitMessage now v) ∙ or_last (request E) ∙ is)

    before : (o : Option ℕ) → request E ≡ o → who_accepted E ≡ option_and_then (λ id. first_of (accepts_by id) E) o
    before o is = ap (λ (r : Option ℕ). option_and_then (λ id. first_of (accepts_by id) E) r) is

    newly : (id : ℕ) → request E ≡ Some id → first_of (accepts_by id) E ≡ None → (o : Option Identity) → accepts_by id (InitMessage now v) ≡ o → (who_accepted F ≡ who_accepted E)
        ⊎ ((w : Identity) × (who_accepted F ≡ Some w) × Accepted v w)
    newly id is none o here =
        let first : first_of (accepts_by id) F ≡ o = first_of-more (accepts_by id) E (InitMessage now v) ∙ ap (λ (p : Option Identity). option_or p (accepts_by id (InitMessage now v))) none ∙ here in
        split o here first
      where
        split : (o : Option Identity) → accepts_by id (InitMessage now v) ≡ o → first_of (accepts_by id) F ≡ o → (who_accepted F ≡ who_accepted E)
            ⊎ ((w : Identity) × (who_accepted F ≡ Some w) × Accepted v w)
        split None here first = inl (found (Some id) is ∙ first ∙ sym none ∙ sym (before (Some id) is))
        split (Some w) here first = inr (w, found (Some id) is ∙ first, accepts_then id now v w here)

    by_first : (id : ℕ) → request E ≡ Some id → (o : Option Identity) → first_of (accepts_by id) E ≡ o → (who_accepted F ≡ who_accepted E) ⊎ ((w : Identity) × (who_accepted F ≡ Some w) × Accepted v w)
    by_first id is None none = newly id is none (accepts_by id (InitMessage now v)) refl
    by_first id is (Some x) some =
        inl (found (Some id) is ∙ first_of-more (accepts_by id) E (InitMessage now v) ∙ ap (λ (p : Option Identity). option_or p (accepts_by id (InitMessage now v))) some ∙ sym some
        ∙ sym (before (Some id) is))

    by : (o : Option ℕ) → request E ≡ o → (who_accepted F ≡ who_accepted E) ⊎ ((w : Identity) × (who_accepted F ≡ Some w) × Accepted v w)
    by None is = inl (found None is ∙ sym (before None is))
    by (Some id) is = by_first id is (first_of (accepts_by id) E) refl

asked_more : (A : List Event) (now : ℕ) (v : Verdict) → (who_asked (A ++ AcceptMessage now v ∷ []) ≡ who_asked A) ⊎ ((w : Identity) × (who_asked (A ++ AcceptMessage now v ∷ []) ≡ Some w) × Asked v w)
asked_more A now v = by (asks_by (AcceptMessage now v)) refl
  where
    newly : (w : Identity) → asks_by (AcceptMessage now v) ≡ Some w → (o : Option Identity) → who_asked A ≡ o → (who_asked (A ++ AcceptMessage now v ∷ []) ≡ who_asked A)
        ⊎ ((x : Identity) × (who_asked (A ++ AcceptMessage now v ∷ []) ≡ Some x) × Asked v x)
    newly w here None none = inr (w, first_of-more asks_by A (AcceptMessage now v) ∙ ap (λ (p : Option Identity). option_or p (asks_by (AcceptMessage now v))) none ∙ here, asks_then now v w here)
    newly w here (Some x) some = inl (first_of-more asks_by A (AcceptMessage now v) ∙ ap (λ (p : Option Identity). option_or p (asks_by (AcceptMessage now v))) some ∙ sym some)

    by : (o : Option Identity) → asks_by (AcceptMessage now v) ≡ o → (who_asked (A ++ AcceptMessage now v ∷ []) ≡ who_asked A)
        ⊎ ((w : Identity) × (who_asked (A ++ AcceptMessage now v ∷ []) ≡ Some w) × Asked v w)
    by None here = inl (same_asked A (AcceptMessage now v) here)
    by (Some w) here = newly w here (who_asked A) refl

-- ---- the peer of a link

-- The peer is this one, once one line more stands in the log: it was, or it names itself just now.
abbrev pub Named : Made → Log → TimedEvent → Log → LinkName → Identity → Type 0
Named a L e N name who = (peer N name ≡ Some who) ⊎ IsNamedAt a L e name who

pub peer_is : (M : Log) (name : LinkName) (E : List InitEvent) (A : List Event) → initiating_events M name ≡ E → accepting_events M name ≡ A → peer M name ≡ option_or (who_accepted E) (who_asked A)
peer_is M name E A e f = rw (e, f) refl

heard_names : (a : Made) (L : Log) (e : TimedEvent) (N : Log) (name : LinkName) (v : Verdict) (who : Identity) (m : Message) → IsHeard a L e N name v → v ≡ Pass m
    → named_by m.body ≡ Some who → IsNamedAt a L e name who
heard_names a L e N name v who m heard passed names = (heard.0, m, heard.1, sym heard.2 ∙ passed, names)

-- a dialled link's machine hears a message
named_by_initiating : (a : Made) (L : Log) (e : TimedEvent) (N : Log) (name : LinkName) (now : ℕ) (v : Verdict) (who : Identity) → IsHeard a L e N name v
    → peer (N ++ initiating name (InitMessage now v) ∷ []) name ≡ Some who → Named a L e N name who
named_by_initiating a L e N name now v who heard h = by (accepted_more E now v)
  where
    E : List InitEvent
    E = initiating_events N name

    A : List Event
    A = accepting_events N name

    then_is : option_or (who_accepted (E ++ InitMessage now v ∷ [])) (who_asked A) ≡ Some who
    then_is =
        sym (peer_is (N ++ initiating name (InitMessage now v) ∷ []) name (E ++ InitMessage now v ∷ []) A (initiating_events-more N name (InitMessage now v))
        (accepting-same name N (initiating name (InitMessage now v)) refl refl)) ∙ h

    by : (who_accepted (E ++ InitMessage now v ∷ []) ≡ who_accepted E) ⊎ ((w : Identity) × (who_accepted (E ++ InitMessage now v ∷ []) ≡ Some w) × Accepted v w) → Named a L e N name who
    by (inl same) = inl (sym (ap (λ (o : Option Identity). option_or o (who_asked A)) same) ∙ then_is)
    by (inr (w, is, (m, passed, accepts))) =
        let one : Some w ≡ Some who = sym (ap (λ (o : Option Identity). option_or o (who_asked A)) is) ∙ then_is in
        inr (heard_names a L e N name v who m heard passed (accepts_names m.body who (accepts ∙ one)))

-- a taken link's machine hears a message
named_by_accepting : (a : Made) (L : Log) (e : TimedEvent) (N : Log) (name : LinkName) (now : ℕ) (v : Verdict) (who : Identity) → IsHeard a L e N name v
    → peer (N ++ accepting name (AcceptMessage now v) ∷ []) name ≡ Some who → Named a L e N name who
named_by_accepting a L e N name now v who heard h = by (asked_more A now v)
  where
    E : List InitEvent
    E = initiating_events N name

    A : List Event
    A = accepting_events N name

    then_is : option_or (who_accepted E) (who_asked (A ++ AcceptMessage now v ∷ [])) ≡ Some who
    then_is =
        sym (peer_is (N ++ accepting name (AcceptMessage now v) ∷ []) name E (A ++ AcceptMessage now v ∷ []) (initiating-same name N (accepting name (AcceptMessage now v)) refl refl)
        (accepting_events-more N name (AcceptMessage now v))) ∙ h

    first : (w : Identity) → Asked v w → (o : Option Identity) → who_accepted E ≡ o → option_or o (Some w) ≡ Some who → Named a L e N name who
    first w asked None none g = inr (heard_names a L e N name v who asked.0 heard asked.1 (asks_names asked.0.body who (asked.2 ∙ g)))
    first w asked (Some x) some g = inl (ap (λ (o : Option Identity). option_or o (who_asked A)) some ∙ g)

    by : (who_asked (A ++ AcceptMessage now v ∷ []) ≡ who_asked A) ⊎ ((w : Identity) × (who_asked (A ++ AcceptMessage now v ∷ []) ≡ Some w) × Asked v w) → Named a L e N name who
    by (inl same) = inl (sym (ap (λ (o : Option Identity). option_or (who_accepted E) o) same) ∙ then_is)
    by (inr (w, is, (m, passed, asks))) =
        first w (m, passed, asks) (who_accepted E) refl (sym (ap (λ (o : Option Identity). option_or (who_accepted E) o) is) ∙ then_is)

-- a machine is told something that names nobody
same_initiating : (a : Made) (L : Log) (e : TimedEvent) (N : Log) (name : LinkName) (call : InitEvent) (who : Identity)
    → who_accepted (initiating_events N name ++ call ∷ []) ≡ who_accepted (initiating_events N name)
    → peer (N ++ initiating name call ∷ []) name ≡ Some who → Named a L e N name who
same_initiating a L e N name call who same h =
    inl (sym (peer_is (N ++ initiating name call ∷ []) name (initiating_events N name ++ call ∷ []) (accepting_events N name) (initiating_events-more N name call)
    (accepting-same name N (initiating name call) refl refl)
    ∙ ap (λ (o : Option Identity). option_or o (who_asked (accepting_events N name))) same) ∙ h)

same_accepting : (a : Made) (L : Log) (e : TimedEvent) (N : Log) (name : LinkName) (call : Event) (who : Identity) → asks_by call ≡ None
    → peer (N ++ accepting name call ∷ []) name ≡ Some who → Named a L e N name who
same_accepting a L e N name call who none h =
    inl (sym (peer_is (N ++ accepting name call ∷ []) name (initiating_events N name) (accepting_events N name ++ call ∷ []) (initiating-same name N (accepting name call) refl refl)
    (accepting_events-more N name call)
    ∙ ap (λ (o : Option Identity). option_or (who_accepted (initiating_events N name)) o) (same_asked (accepting_events N name) call none)) ∙ h)

-- A line that says nothing to the link's machine leaves its peer as it was; and so does that who asked has joined.
pub peer-silent : (N : Log) (m : Line) (name : LinkName) → begins name m ≡ false → initiating_event name m ≡ None → accepting_event name m ≡ None → peer (N ++ m ∷ []) name ≡ peer N name
peer-silent N m name b i j = peer_is (N ++ m ∷ []) name (initiating_events N name) (accepting_events N name) (initiating-same name N m b i) (accepting-same name N m b j)

pub peer-joined : (N : Log) (name : LinkName) → peer (N ++ accepting name Joined ∷ []) name ≡ peer N name
peer-joined N name =
    peer_is (N ++ accepting name Joined ∷ []) name (initiating_events N name) (accepting_events N name ++ Joined ∷ []) (initiating-same name N (accepting name Joined) refl refl)
    (accepting_events-more N name Joined)
    ∙ ap (λ (o : Option Identity). option_or (who_accepted (initiating_events N name)) o) (same_asked (accepting_events N name) Joined refl)

-- a line that says nothing to the link's machine
same_silent : (a : Made) (L : Log) (e : TimedEvent) (N : Log) (m : Line) (name : LinkName) (who : Identity) → begins name m ≡ false → initiating_event name m ≡ None → accepting_event name m ≡ None
    → peer (N ++ m ∷ []) name ≡ Some who → Named a L e N name who
same_silent a L e N m name who b i j h =
    inl (sym (peer_is (N ++ m ∷ []) name (initiating_events N name) (accepting_events N name) (initiating-same name N m b i) (accepting-same name N m b j)) ∙ h)

-- where it opens, none has accepted
opened_none : (E : List InitEvent) (now id : ℕ) → NoneAccepts E → who_accepted (E ++ MachineOpened now id ∷ []) ≡ who_accepted E
opened_none E now id none =
    none_accepted (E ++ MachineOpened now id ∷ []) (λ i. first_of-more (accepts_by i) E (MachineOpened now id) ∙ ap (λ (o : Option Identity). option_or o None) (none i)) ∙ sym (none_accepted E none)

told_initiating : (a : Made) (L : Log) (e : TimedEvent) (N : Log) (name : LinkName) (call : InitEvent) (who : Identity) → (is_opening call ≡ true → NoneAccepts (initiating_events N name))
    → Why a L e N (initiating name call)
    → peer (N ++ initiating name call ∷ []) name ≡ Some who → Named a L e N name who
told_initiating a L e N name (MachineOpened now id) who none why h = same_initiating a L e N name (MachineOpened now id) who (opened_none (initiating_events N name) now id (none refl)) h
told_initiating a L e N name (InitMessage now v) who none why h = named_by_initiating a L e N name now v who why.0 h
told_initiating a L e N name (InitFinish now id) who none why h = same_initiating a L e N name (InitFinish now id) who (same_accepted (initiating_events N name) (InitFinish now id) refl (λ i. refl)) h
told_initiating a L e N name (InitTick now id) who none why h = same_initiating a L e N name (InitTick now id) who (same_accepted (initiating_events N name) (InitTick now id) refl (λ i. refl)) h

told_accepting : (a : Made) (L : Log) (e : TimedEvent) (N : Log) (name : LinkName) (call : Event) (who : Identity) → Why a L e N (accepting name call)
    → peer (N ++ accepting name call ∷ []) name ≡ Some who → Named a L e N name who
told_accepting a L e N name (AcceptMessage now v) who why h = named_by_accepting a L e N name now v who why.0 h
told_accepting a L e N name call who why h = same_accepting a L e N name call who refl h

-- A link's peer after a line that doesn't begin it was its peer before, or names itself just now.
pub peer-before : (a : Made) (L : Log) (e : TimedEvent) (N : Log) (m : Line) (name : LinkName) (who : Identity) → OpensUnaccepted N m → begins name m ≡ false → Why a L e N m
    → peer (N ++ m ∷ []) name ≡ Some who → Named a L e N name who
peer-before a L e N (initiating other call) name who none b why h = by (same_link other name) refl
  where
    by : (d : Bool) → same_link other name ≡ d → Named a L e N name who
    by true is =
        let same : other ≡ name = same_link-true other name is in
        told_initiating a L e N name call who (subst (λ (n : LinkName). is_opening call ≡ true → NoneAccepts (initiating_events N n)) same none)
        (subst (λ (n : LinkName). Why a L e N (initiating n call)) same why)
        (subst (λ (n : LinkName). peer (N ++ initiating n call ∷ []) name ≡ Some who) same h)
    by false is = same_silent a L e N (initiating other call) name who b (ap (λ (d : Bool). cond d (Some call) None) is) refl h
peer-before a L e N (accepting other call) name who none b why h = by (same_link other name) refl
  where
    by : (d : Bool) → same_link other name ≡ d → Named a L e N name who
    by true is =
        let same : other ≡ name = same_link-true other name is in
        told_accepting a L e N name call who (subst (λ (n : LinkName). Why a L e N (accepting n call)) same why) (subst (λ (n : LinkName). peer (N ++ accepting n call ∷ []) name ≡ Some who) same h)
    by false is = same_silent a L e N (accepting other call) name who b refl (ap (λ (d : Bool). cond d (Some call) None) is) h
peer-before a L e N m name who none b why h = same_silent a L e N m name who b refl refl h

-- A link that begins has no peer.
pub peer-begun : (N : Log) (m : Line) (name : LinkName) → begins name m ≡ true → peer (N ++ m ∷ []) name ≡ None
peer-begun N m name b = peer_is (N ++ m ∷ []) name [] [] (initiating-begun name N m b) (accepting-begun name N m b)

-- ---- learnt URIs

learnt_here : (a : Made) (L : Log) (e : TimedEvent) (N : Log) (v w : Vmac) (said uris : List ℕ) (b : Bool) → same_vmac v w ≡ b → IsAnsweredAt a L e w said
    → option_or (cond b (Some said) None) (learnt v N) ≡ Some uris → (learnt v N ≡ Some uris) ⊎ IsAnsweredAt a L e v uris
learnt_here a L e N v w said uris true is why h = inr (subst (λ (x : Vmac). IsAnsweredAt a L e x uris) (sym (vmac_same v w is)) (subst (IsAnsweredAt a L e w) (some_same said uris h) why))
learnt_here a L e N v w said uris false is why h = inl h

learnt_call : (a : Made) (L : Log) (e : TimedEvent) (N : Log) (call : ResolveCall) (v : Vmac) (uris : List ℕ) → Why a L e N (resolution call)
    → option_or (uris_for v call) (learnt v N) ≡ Some uris → (learnt v N ≡ Some uris) ⊎ IsAnsweredAt a L e v uris
learnt_call a L e N (Answered id w said) v uris why h = learnt_here a L e N v w said uris (same_vmac v w) refl why h
learnt_call a L e N (Ask now id w) v uris why h = inl h
learnt_call a L e N (RefusedCall id w) v uris why h = inl h
learnt_call a L e N (ResolveTick now) v uris why h = inl h

learnt_same : (N : Log) (m : Line) (v : Vmac) (uris : List ℕ) → resolve_call_of m ≡ None → learnt v (N ++ m ∷ []) ≡ Some uris → learnt v N ≡ Some uris
learnt_same N m v uris none h = sym (ap (λ (calls : List ResolveCall). Resolving.learnt calls v) (resolve_calls-same N m none)) ∙ h

pub learnt-event : (L : Log) (e : TimedEvent) (v : Vmac) → learnt v (with_event L e) ≡ learnt v L
learnt-event L e v = ap (λ (calls : List ResolveCall). Resolving.learnt calls v) (resolve_calls-same L (came e) refl)

-- URIs that are learnt after a line were so before it, or are said just now.
pub learnt-before : (a : Made) (L : Log) (e : TimedEvent) (N : Log) (m : Line) (v : Vmac) (uris : List ℕ) → Why a L e N m → learnt v (N ++ m ∷ []) ≡ Some uris → (learnt v N ≡ Some uris)
    ⊎ IsAnsweredAt a L e v uris
learnt-before a L e N (resolution call) v uris why h =
    learnt_call a L e N call v uris why (sym (ap (λ (calls : List ResolveCall). Resolving.learnt calls v) (resolve_calls-more N call) ∙ learnt-more (resolve_calls N) call v) ∙ h)
learnt-before a L e N (came other) v uris why h = inl (learnt_same N (came other) v uris refl h)
learnt-before a L e N (initiating name call) v uris why h = inl (learnt_same N (initiating name call) v uris refl h)
learnt-before a L e N (accepting name call) v uris why h = inl (learnt_same N (accepting name call) v uris refl h)
learnt-before a L e N (connector told) v uris why h = inl (learnt_same N (connector told) v uris refl h)
learnt-before a L e N (slot call) v uris why h = inl (learnt_same N (slot call) v uris refl h)
learnt-before a L e N (did action) v uris why h = inl (learnt_same N (did action) v uris refl h)
