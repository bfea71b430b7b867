-- Who is met over a link is the link's peer from then on, where the machine that waited for its peer knew none.
-- It serves clauses of functions of `laws`.
use Rattle.std.proofs.Common.{◌≡◌, ℕ, Bool, true, false, cond, List, [], ◌∷◌, ◌++◌, Option, Some, None, refl, ap, sym, ◌∙◌}
use Rattle.std.specs.Prelude.{if◌then◌else◌}
use Rattle.std.specs.Option.{option_or, option_and_then}
use Rattle.bsc_octets.specs.declared.identity.Identity.{Identity}
use Rattle.bsc_connector.specs.Back.{first_of}
use Rattle.bsc_frame.specs.declared.message.Message.{Message}
use Rattle.bsc_checks.specs.declared.verdict.Verdict.{Verdict}
use Rattle.bsc_checks.specs.declared.verdict.Verdict.TheVariants.{Pass}
use Rattle.bsc_accept.specs.declared.event.Event.TheVariants.{Message as AcceptMessage}
use Rattle.bsc_accept.specs.Past as Accepting
use Rattle.bsc_initiate.specs.declared.event.InitEvent.{InitEvent}
use Rattle.bsc_initiate.specs.declared.event.InitEvent.TheVariants.{Message as InitMessage}
use Rattle.bsc_initiate.specs.Messages.{who_accepts}
use Rattle.bsc_initiate.specs.Past.{awaiting_accept, request_at, is_accepted_at, oldest, farewell_at, until_farewell, since_request, request_or_not, standing}
use Rattle.bsc_node.specs.declared.link_name.LinkName.{LinkName}
use Rattle.bsc_node.specs.declared.link_name.LinkName.TheVariants.{Direct}
use Rattle.bsc_node.specs.declared.timed_event.TimedEvent.{TimedEvent}
use Rattle.bsc_node.specs.Logs.{Made, came, initiating, accepting, Log, now}
use Rattle.bsc_node.specs.Links.{is_there, was_taken, initiating_events, accepting_events, request, accepts_by, asks_by, who_accepted, who_asked, peer, by_machine, verdict, meets, outcome}
use Rattle.bsc_node.specs.Laws.{with_event, with_heard}
use Rattle.bsc_node.proofs.Told.{initiating_events-more, accepting_events-more}
use Rattle.bsc_node_laws.proofs.There.{there-before, taken-other}
use Rattle.bsc_node_identity.proofs.OneMore.{initiating-same, accepting-same}
use Rattle.bsc_node_identity.proofs.Meets.{Accepts, Asks, met-dialled, met-taken}
use Rattle.bsc_node_identity.proofs.Reasons.{Unmet, Sides}
use Rattle.bsc_node_identity.proofs.Lines.{none_accepted, peer_is}
use Rattle.bsc_connector.proofs.Common.{first_of-more}
use Rattle.bsc_initiate.proofs.Common.{farewell_other, same_request}
use Rattle.bsc_lemmas.proofs.Booleans.{eq_self as same_number}
use Rattle.bsc_lemmas.proofs.Options.{or_none as or_last}

-- ---- the request that is awaited

since_same : (i id : ℕ) (later : List InitEvent) → since_request i later ≡ awaiting_accept id → Some i ≡ Some id
since_same i id [] h = same_request i id h
since_same i id (e ∷ later) h = by (is_accepted_at i e) h (since_same i id later)
  where
    by : (b : Bool) → cond b (until_farewell (oldest farewell_at later)) (since_request i later) ≡ awaiting_accept id → (since_request i later ≡ awaiting_accept id → Some i ≡ Some id)
        → Some i ≡ Some id
    by true g next = farewell_other (oldest farewell_at later) id g
    by false g next = next g

-- The request that a machine awaits the answer to is the one that it put.
requested : (E : List InitEvent) (id : ℕ) → standing E ≡ awaiting_accept id → request E ≡ Some id
requested [] id h = cc
requested (e ∷ later) id h = by (request_at e) h (requested later id)
  where
    by : (o : Option ℕ) → request_or_not o later (standing later) ≡ awaiting_accept id → (standing later ≡ awaiting_accept id → request later ≡ Some id) → option_or o (request later) ≡ Some id
    by (Some i) g next = since_same i id later g
    by None g next = next g

accepted_here : (E : List InitEvent) (at : ℕ) (v : Verdict) (m : Message) (who : Identity) → v ≡ Pass m → standing E ≡ awaiting_accept m.id → first_of (accepts_by m.id) E ≡ None
    → who_accepts m.body ≡ Some who
    → who_accepted (E ++ InitMessage at v ∷ []) ≡ Some who
accepted_here E at v m who passed awaits none accepts =
    ap (λ (r : Option ℕ). option_and_then (λ id. first_of (accepts_by id) (E ++ InitMessage at v ∷ [])) r)
    (first_of-more request_at E (InitMessage at v) ∙ or_last (request E) ∙ requested E m.id awaits)
    ∙ first_of-more (accepts_by m.id) E (InitMessage at v)
    ∙ ap (λ (p : Option Identity). option_or p (accepts_by m.id (InitMessage at v))) none
    ∙ ap (λ (w : Verdict). accepts_by m.id (InitMessage at w)) passed
    ∙ ap (λ (b : Bool). if b then who_accepts m.body else None) (same_number m.id)
    ∙ accepts

-- ---- over a link

-- Who is met is the link's peer then.
pub met-theirs : (a : Made) (L : Log) (e : TimedEvent) (k : ℕ) (o : List ℕ) (who : Identity) → is_there (Direct k) (with_event L e) ≡ true
    → outcome a (with_heard a L e (Direct k) o) (Direct k) ≡ meets who → Unmet L → Sides L
    → peer (with_heard a L e (Direct k) o) (Direct k) ≡ Some who
met-theirs a L e k o who there met unmet sides = by (was_taken name M) refl
  where
    name : LinkName
    name = Direct k

    M : Log
    M = with_event L e

    v : Verdict
    v = verdict a M name o

    E : initiating_events M name ≡ initiating_events L name
    E = initiating-same name L (came e) refl refl

    A : accepting_events M name ≡ accepting_events L name
    A = accepting-same name L (came e) refl refl

    taken : (b : Bool) → was_taken name M ≡ b → was_taken name L ≡ b
    taken b t = sym (taken-other name L (came e) refl) ∙ t

    heard : (b : Bool) → was_taken name M ≡ b → with_heard a L e name o ≡ M ++ by_machine (λ n. InitMessage (now M) (verdict a M n o)) (λ n. AcceptMessage (now M) (verdict a M n o)) name b
    heard b t = ap (λ (d : Bool). M ++ by_machine (λ n. InitMessage (now M) (verdict a M n o)) (λ n. AcceptMessage (now M) (verdict a M n o)) name d) t

    by_accept : was_taken name M ≡ false → Accepts v (standing (initiating_events M name)) who → peer (M ++ initiating name (InitMessage (now M) v) ∷ []) name ≡ Some who
    by_accept t (m, passed, awaits, accepts) =
        peer_is (M ++ initiating name (InitMessage (now M) v) ∷ []) name (initiating_events M name ++ InitMessage (now M) v ∷ []) (accepting_events M name)
        (initiating_events-more M name (InitMessage (now M) v))
        (accepting-same name M (initiating name (InitMessage (now M) v)) refl refl)
        ∙ ap (λ (p : Option Identity). option_or p (who_asked (accepting_events M name)))
        (accepted_here (initiating_events M name) (now M) v m who passed awaits
        (ap (first_of (accepts_by m.id)) E ∙ unmet.accepts name m.id (sym (ap standing E) ∙ awaits)) accepts)

    by_ask : was_taken name M ≡ true → Asks v (Accepting.standing (accepting_events M name)) who → peer (M ++ accepting name (AcceptMessage (now M) v) ∷ []) name ≡ Some who
    by_ask t (m, passed, awaits, asks) =
        peer_is (M ++ accepting name (AcceptMessage (now M) v) ∷ []) name (initiating_events M name) (accepting_events M name ++ AcceptMessage (now M) v ∷ [])
        (initiating-same name M (accepting name (AcceptMessage (now M) v)) refl refl) (accepting_events-more M name (AcceptMessage (now M) v))
        ∙ ap (λ (p : Option Identity). option_or p (who_asked (accepting_events M name ++ AcceptMessage (now M) v ∷ [])))
        (ap who_accepted E ∙ none_accepted (initiating_events L name) (sides.taken name (taken true t)))
        ∙ first_of-more asks_by (accepting_events M name) (AcceptMessage (now M) v)
        ∙ ap (λ (p : Option Identity). option_or p (asks_by (AcceptMessage (now M) v)))
        (ap who_asked A ∙ unmet.asks k (there-before name L (came e) refl there) (taken true t) (sym (ap Accepting.standing A) ∙ awaits))
        ∙ ap (λ (w : Verdict). asks_by (AcceptMessage (now M) w)) passed ∙ asks

    by : (b : Bool) → was_taken name M ≡ b → peer (with_heard a L e name o) name ≡ Some who
    by false t = ap (λ (N : Log). peer N name) (heard false t) ∙ by_accept t (met-dialled a name o M who t met)
    by true t = ap (λ (N : Log). peer N name) (heard true t) ∙ by_ask t (met-taken a name o M who t met)
