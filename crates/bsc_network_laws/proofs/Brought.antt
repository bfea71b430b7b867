-- What an event of a step brings about at a node: who is the peer of a direct connection then, which links begin, and by which link
-- an NPDU goes.
-- It serves clauses of functions of `laws`.
use Rattle.std.proofs.Common.{◌≡◌, ◌<◌, ◌⊎◌, inl, inr, ℕ, Bool, true, false, ◌||◌, List, [], ◌∷◌, ◌++◌, Option, Some, refl, ap, sym, subst, ◌∙◌, append_assoc}
use Rattle.std.specs.Prelude.{◌^◌, IsTrue, if◌then◌else◌, filter_map, map, unwrap_or, ⊤}
use Rattle.std.specs.List.{AllByRecursion, list_any}
use Rattle.std.proofs.lemmas.List.Elements.{filter_map-append}
use Rattle.std.proofs.lemmas.List.Folds.{list_any-append}
use Rattle.bsc_octets.specs.declared.vmac.Vmac.{Vmac}
use Rattle.bsc_octets.specs.declared.identity.Identity.{Identity}
use Rattle.bsc_octets.specs.Functions.{is_npdu}
use Rattle.bsc_frame.specs.declared.message.Message.{Message}
use Rattle.bsc_frame.specs.declared.body.Body.TheVariants.{Npdu}
use Rattle.bsc_checks.specs.declared.place.Place.{Place}
use Rattle.bsc_checks.specs.declared.verdict.Verdict.TheVariants.{Pass}
use Rattle.bsc_connector.specs.declared.side.Side.TheVariants.{Primary, Failover}
use Rattle.bsc_checks.specs.Outcomes.{outcome_of}
use Rattle.bsc_node.specs.declared.link_name.LinkName.{LinkName}
use Rattle.bsc_node.specs.declared.link_name.LinkName.TheVariants.{Hub, Direct}
use Rattle.bsc_node.specs.declared.node_event.NodeEvent.{NodeEvent}
use Rattle.bsc_node.specs.declared.node_event.NodeEvent.TheVariants.{Came, Send, NoRandom}
use Rattle.bsc_node.specs.declared.timed_event.TimedEvent.{TimedEvent}
use Rattle.bsc_node.specs.declared.action.Action.{Action}
use Rattle.bsc_node.specs.declared.action.Action.TheVariants.{Dial, Take, Put}
use Rattle.bsc_node.specs.Logs.{Made, Line, came, did, Log, action_of, in_order, next_id}
use Rattle.bsc_node.specs.Links.{begins, peer, place as place_at}
use Rattle.bsc_node.specs.Messages.{message_octets}
use Rattle.bsc_node.specs.Events.{follows}
use Rattle.bsc_node.specs.Node.{goes_on, actions_at}
use Rattle.bsc_node.specs.Laws.{with_event, draws}
use Rattle.bsc_node.specs.Conditions.{fits, may_come, brings_word}
use Rattle.bsc_node.proofs.Following.{goes_on-is, brought-one, brought-two}
use Rattle.bsc_node_laws.proofs.Drawn.{draws_at}
use Rattle.bsc_node_identity.specs.Naming.{named_by, IsNamedAt}
use Rattle.bsc_node_identity.specs.Carried.{LeadsTo}
use Rattle.bsc_node_identity.proofs.Each.{each-action}
use Rattle.bsc_node_identity.proofs.Reasons.{is_beginning, Why}
use Rattle.bsc_node_identity.proofs.Followed.{each-why}
use Rattle.bsc_node_identity.proofs.OneMore.{established-same}
use Rattle.bsc_node_identity.proofs.Settled.{Settled, settled-goes_on}
use Rattle.bsc_node_identity.proofs.Events.{peer-goes_on}
use Rattle.bsc_node_identity.proofs.Leading.{ways_lead_there}
use Rattle.bsc_node_identity.proofs.Timely.{Timely, may_then}
use Rattle.bsc_network.specs.NodeEvents.{brings_about}
use Rattle.bsc_network_laws.proofs.Acting.{Among}
use Rattle.bsc_network_laws.proofs.Events.{among-both}
use Rattle.bsc_network_laws.proofs.Sent.{IsOfSend, put_is_of_send}
use Rattle.bsc_network_laws.proofs.Named.{all-among}
use Rattle.bsc_lemmas.proofs.Numbers.{small_id}
use Rattle.bsc_node.proofs.Common.{no_word_then}
use Rattle.bsc_node.proofs.Moments.{now_then}

-- ---- the lines

-- an event at this time
abbrev pub at_once : ℕ → NodeEvent → TimedEvent
at_once T e = record { now = T; event = e }

-- What holds of the lines of the event, and of these with those of there being no word, holds of what is brought about.
pub by-lines : (Q : List Line → Type 0) (T : ℕ) (a : Made) (L : Log) (e : NodeEvent) → T < 2 ^ 62 → Timely T L → brings_word e ≡ false → fits L e ≡ true
    → (IsTrue (may_come L (at_once T e)) → Q (goes_on a (at_once T e) L))
    → (IsTrue (may_come L (at_once T e)) → IsTrue (may_come (L ++ goes_on a (at_once T e) L) (at_once T NoRandom))
    → Q (goes_on a (at_once T e) L ++ goes_on a (at_once T NoRandom) (L ++ goes_on a (at_once T e) L)))
    → Q (brings_about a (at_once T e) L)
by-lines Q T a L e below timely word fit one two = by (list_any draws (actions_at a L event)) refl
  where
    event : TimedEvent
    event = at_once T e

    none : TimedEvent
    none = at_once T NoRandom

    may : IsTrue (may_come L event)
    may = may_then T L e below timely word fit

    by : (b : Bool) → list_any draws (actions_at a L event) ≡ b → Q (in_order (map (goes_on a) (if b then event ∷ none ∷ [] else event ∷ [])) L)
    by false drawn = subst Q (sym (brought-one a event L)) (one may)
    by true drawn = subst Q (sym (brought-two a event none L)) (two may (no_word_then T (L ++ goes_on a event L) below (now_then a L event may) (draws_at a L event may ∙ drawn)))

-- They begin with the event.
pub begins-with : (a : Made) (L : Log) (e : TimedEvent) → (later : List Line) × (brings_about a e L ≡ came e ∷ later)
begins-with a L e = by (list_any draws (actions_at a L e))
  where
    none : TimedEvent
    none = record { now = e.now; event = NoRandom }

    first : List Line
    first = follows a e.event (with_event L e)

    by : (b : Bool) → (later : List Line) × (in_order (map (goes_on a) (if b then e ∷ none ∷ [] else e ∷ [])) L ≡ came e ∷ later)
    by false = (first, brought-one a e L ∙ goes_on-is a L e)
    by true = (first ++ goes_on a none (L ++ goes_on a e L), brought-two a e none L ∙ ap (λ (lines : List Line). lines ++ goes_on a none (L ++ goes_on a e L)) (goes_on-is a L e))

-- ---- the actions

-- What holds of each action of the event, and of each at there being no word, holds of each action.
pub by-each : (P : Action → Type 0) (T : ℕ) (a : Made) (L : Log) (e : NodeEvent) → T < 2 ^ 62 → Timely T L → brings_word e ≡ false → fits L e ≡ true
    → (IsTrue (may_come L (at_once T e)) → (action : Action) → Among action (actions_at a L (at_once T e)) → P action)
    → ((M : Log) → IsTrue (may_come M (at_once T NoRandom)) → (action : Action) → Among action (actions_at a M (at_once T NoRandom)) → P action)
    → (action : Action) → Among action (filter_map action_of (brings_about a (at_once T e) L)) → P action
by-each P T a L e below timely word fit one two =
    by-lines (λ lines. (action : Action) → Among action (filter_map action_of lines) → P action) T a L e below timely word fit one (λ may next action among.
    either_of next action
    (among-both action (actions_at a L (at_once T e)) (actions_at a (L ++ goes_on a (at_once T e) L) (at_once T NoRandom))
    (subst (Among action) (filter_map-append action_of (goes_on a (at_once T e) L) (goes_on a (at_once T NoRandom) (L ++ goes_on a (at_once T e) L))) among)) may)
  where
    either_of : IsTrue (may_come (L ++ goes_on a (at_once T e) L) (at_once T NoRandom)) → (action : Action)
        → Among action (actions_at a L (at_once T e)) ⊎ Among action (actions_at a (L ++ goes_on a (at_once T e) L) (at_once T NoRandom)) → IsTrue (may_come L (at_once T e)) → P action
    either_of next action (inl h) may = one may action h
    either_of next action (inr h) may = two (L ++ goes_on a (at_once T e) L) next action h

-- ---- peers

-- By the event a message comes over the link that passes and names its peer.
pub record IsNamedBy (e : NodeEvent) (name : LinkName) (who : Identity) : Type 0 where
  pub octets : List ℕ
  pub place : Place
  pub max : ℕ
  pub msg : Message
  pub comes : e ≡ Came name octets
  pub passed : outcome_of octets place max ≡ Pass msg
  pub names : named_by msg.body ≡ Some who

named-by : (a : Made) (L : Log) (T : ℕ) (e : NodeEvent) (name : LinkName) (who : Identity) → IsNamedAt a L (at_once T e) name who → IsNamedBy e name who
named-by a L T e name who (o, msg, comes, passed, names) = record {
  octets = o;
  place = place_at a (with_event L (at_once T e)) name;
  max = a.own.max_bvlc;
  msg = msg;
  comes = comes;
  passed = passed;
  names = names;
}

-- The peer of a direct connection is then who it was before, or who names itself at the event; and its link doesn't begin.
abbrev pub PeerOn : Log → NodeEvent → ℕ → Identity → List Line → Type 0
PeerOn L e s who lines = ((peer L (Direct s) ≡ Some who) ⊎ IsNamedBy e (Direct s) who) × (list_any (begins (Direct s)) lines ≡ false)

pub peer-on : (T : ℕ) (a : Made) (L : Log) (e : NodeEvent) → Settled a L → T < 2 ^ 62 → Timely T L → brings_word e ≡ false → fits L e ≡ true → (s : ℕ) (who : Identity)
    → peer (L ++ brings_about a (at_once T e) L) (Direct s) ≡ Some who → PeerOn L e s who (brings_about a (at_once T e) L)
peer-on T a L e settled below timely word fit s who = by-lines (λ lines. peer (L ++ lines) (Direct s) ≡ Some who → PeerOn L e s who lines) T a L e below timely word fit one two
  where
    first : List Line
    first = goes_on a (at_once T e) L

    last : List Line
    last = goes_on a (at_once T NoRandom) (L ++ goes_on a (at_once T e) L)

    now : (peer L (Direct s) ≡ Some who) ⊎ IsNamedAt a L (at_once T e) (Direct s) who → (peer L (Direct s) ≡ Some who) ⊎ IsNamedBy e (Direct s) who
    now (inl was) = inl was
    now (inr named) = inr (named-by a L T e (Direct s) who named)

    one : IsTrue (may_come L (at_once T e)) → peer (L ++ first) (Direct s) ≡ Some who → PeerOn L e s who first
    one may h = let r = peer-goes_on a L (at_once T e) settled may s who h in (now r.0, r.1)

    not_came : (o : List ℕ) → NoRandom ≡ Came (Direct s) o → ⊥
    not_came o h = cc

    or_both : (p q : Bool) → p ≡ false → q ≡ false → (p || q) ≡ false
    or_both false q g h = h
    or_both true q g h = cc

    before : (peer (L ++ first) (Direct s) ≡ Some who) ⊎ IsNamedAt a (L ++ first) (at_once T NoRandom) (Direct s) who → peer (L ++ first) (Direct s) ≡ Some who
    before (inl was) = was
    before (inr (o, msg, comes, passed, names)) = absurd (not_came o comes)

    two : IsTrue (may_come L (at_once T e)) → IsTrue (may_come (L ++ first) (at_once T NoRandom)) → peer (L ++ (first ++ last)) (Direct s) ≡ Some who → PeerOn L e s who (first ++ last)
    two may next h =
        let r = peer-goes_on a (L ++ first) (at_once T NoRandom) (settled-goes_on a L (at_once T e) settled may) next s who (ap (λ (N : Log). peer N (Direct s)) (append_assoc L first last) ∙ h) in
        let p = one may (before r.0) in
        (p.0, list_any-append (begins (Direct s)) first last ∙ or_both (list_any (begins (Direct s)) first) (list_any (begins (Direct s)) last) p.1 r.1)

-- ---- links that begin

-- The lines have no action by which a link of this name begins, where no line does.
pub unbegun : (name : LinkName) (lines : List Line) (action : Action) → Among action (filter_map action_of lines) → begins name (did action) ≡ true → list_any (begins name) lines ≡ true
unbegun name [] action among b = absurd among
unbegun name (did x ∷ lines) action (inl same) b = ap (λ (p : Bool). p || list_any (begins name) lines) (ap (λ (y : Action). begins name (did y)) (sym same) ∙ b)
unbegun name (did x ∷ lines) action (inr later) b = or_later (begins name (did x)) (list_any (begins name) lines) (unbegun name lines action later b)
  where
    or_later : (p q : Bool) → q ≡ true → (p || q) ≡ true
    or_later true q h = refl
    or_later false q h = h
unbegun name (m ∷ lines) action among b = unbegun name lines action among b

-- What is due of an action by which a link begins: one to a hub is dialled by a URI that the node was made with, and a direct
-- connection begins at some events alone.
abbrev pub IsDue : Made → NodeEvent → Action → Type 0
IsDue a e (Dial (Hub Primary) uri) = uri ≡ a.limits.primary
IsDue a e (Dial (Hub Failover) uri) = uri ≡ unwrap_or a.limits.failover []
IsDue a e (Dial (Direct s) uri) = is_beginning e ≡ true
IsDue a e (Take (Hub s)) = ⊥
IsDue a e (Take (Direct s)) = is_beginning e ≡ true
IsDue a e action = ⊤

is_due : (a : Made) (L : Log) (e : TimedEvent) (N : Log) (action : Action) → Why a L e N (did action) → ⊤ → IsDue a e.event action
is_due a L e N (Dial (Hub Primary) uri) why n = why
is_due a L e N (Dial (Hub Failover) uri) why n = why
is_due a L e N (Dial (Direct s) uri) why n = why.0.0
is_due a L e N (Take (Hub s)) why n = why
is_due a L e N (Take (Direct s)) why n = why.0
is_due a L e N action why n = tt

due-at : (a : Made) (L : Log) (e : TimedEvent) → IsTrue (may_come L e) → AllByRecursion (IsDue a e.event) (actions_at a L e)
due-at a L e may =
    subst (λ (lines : List Line). AllByRecursion (IsDue a e.event) (filter_map action_of lines)) (sym (goes_on-is a L e))
    (each-action (Why a L e) (λ N. ⊤) (IsDue a e.event) (λ N m why n. tt) (is_due a L e) (with_event L e) (follows a e.event (with_event L e)) (each-why a L e may) tt)

-- where there is no word nothing begins
due-none : (a : Made) (e : NodeEvent) (action : Action) → IsDue a NoRandom action → IsDue a e action
due-none a e (Dial (Hub Primary) uri) due = due
due-none a e (Dial (Hub Failover) uri) due = due
due-none a e (Dial (Direct s) uri) due = cc
due-none a e (Take (Hub s)) due = due
due-none a e (Take (Direct s)) due = cc
due-none a e action due = tt

pub each-due : (T : ℕ) (a : Made) (L : Log) (e : NodeEvent) → T < 2 ^ 62 → Timely T L → brings_word e ≡ false → fits L e ≡ true
    → (action : Action) → Among action (filter_map action_of (brings_about a (at_once T e) L)) → IsDue a e action
each-due T a L e below timely word fit =
    by-each (IsDue a e) T a L e below timely word fit
    (λ may action among. all-among (IsDue a e) (actions_at a L (at_once T e)) action (due-at a L (at_once T e) may) among)
    (λ M next action among. due-none a e action (all-among (IsDue a NoRandom) (actions_at a M (at_once T NoRandom)) action (due-at a M (at_once T NoRandom) next) among))

-- ---- NPDUs

-- An NPDU that is put is that of a Send, and goes by a link that leads to its destination.
pub record IsSentOver (e : NodeEvent) (L : Log) (name : LinkName) (o : List ℕ) : Type 0 where
  pub dest : Vmac
  pub npdu : List ℕ
  pub id : ℕ
  pub to : Option Vmac
  pub event : e ≡ Send dest npdu
  pub octets : o ≡ message_octets id to (Npdu npdu)
  pub small : id < 2 ^ 16
  pub leads : LeadsTo L dest name to

leads-before : (L : Log) (e : TimedEvent) (v : Vmac) (name : LinkName) (to : Option Vmac) → LeadsTo (with_event L e) v name to → LeadsTo L v name to
leads-before L e v (Hub s) to leads = leads
leads-before L e v (Direct s) to (none, who, is, at) = (none, who, sym (established-same s L (came e) refl) ∙ is, at)

put-over : (a : Made) (L : Log) (T : ℕ) (e : NodeEvent) (name : LinkName) (o : List ℕ) → IsOfSend a L (at_once T e) name o → IsSentOver e L name o
put-over a L T e name o s = record {
  dest = s.dest;
  npdu = s.npdu;
  id = next_id (with_event L (at_once T e));
  to = s.path.dest;
  event = s.event;
  octets = s.octets;
  small = small_id _;
  leads = leads-before L (at_once T e) s.dest name s.path.dest
      (subst (λ (link : LinkName). LeadsTo (with_event L (at_once T e)) s.dest link s.path.dest) (sym s.name_is) (ways_lead_there (with_event L (at_once T e)) s.dest s.path s.by));
}

-- of an action: an NPDU that it puts goes so
abbrev pub IsPutOver : NodeEvent → Log → Action → Type 0
IsPutOver e L (Put name o) = is_npdu o ≡ true → IsSentOver e L name o
IsPutOver e L action = ⊤

over_one : (a : Made) (L : Log) (T : ℕ) (e : NodeEvent) → IsTrue (may_come L (at_once T e)) → (action : Action) → Among action (actions_at a L (at_once T e)) → IsPutOver e L action
over_one a L T e may (Put name o) among = λ npdu. put-over a L T e name o (put_is_of_send a L (at_once T e) name o may among npdu)
over_one a L T e may action among = tt

over_none : (a : Made) (L M : Log) (T : ℕ) (e : NodeEvent) → IsTrue (may_come M (at_once T NoRandom)) → (action : Action) → Among action (actions_at a M (at_once T NoRandom)) → IsPutOver e L action
over_none a L M T e may (Put name o) among = λ npdu.
    let s = put_is_of_send a M (at_once T NoRandom) name o may among npdu in
    absurd (no_send s.dest s.npdu s.event)
  where
    no_send : (dest : Vmac) (octets : List ℕ) → NoRandom ≡ Send dest octets → ⊥
    no_send dest octets h = cc
over_none a L M T e may action among = tt

pub each-over : (T : ℕ) (a : Made) (L : Log) (e : NodeEvent) → T < 2 ^ 62 → Timely T L → brings_word e ≡ false → fits L e ≡ true
    → (action : Action) → Among action (filter_map action_of (brings_about a (at_once T e) L)) → IsPutOver e L action
each-over T a L e below timely word fit = by-each (IsPutOver e L) T a L e below timely word fit (over_one a L T e) (λ M next. over_none a L M T e next)
