-- An Encapsulated-NPDU is put for a Send alone, at most once.
-- It serves the clauses of `npdus_are_put_once`.
use Rattle.std.proofs.Common.{◌≡◌, ℕ, Bool, true, false, not, cond, inl, inr, List, [], ◌∷◌, ◌++◌, Option, Some, None, refl, ap, ◌∙◌}
use Rattle.std.specs.Prelude.{◌⊎◌, IsTrue, filter, filter_map}
use Rattle.std.specs.List.{list_all}
use Rattle.bsc_octets.specs.declared.vmac.Vmac.{Vmac}
use Rattle.bsc_frame.specs.declared.message.Message.{Message}
use Rattle.bsc_frame.specs.declared.body.Body.{Body}
use Rattle.bsc_frame.specs.declared.body.Body.TheVariants.{Npdu}
use Rattle.bsc_accept.specs.Steps.{closing}
use Rattle.bsc_initiate.specs.declared.event.InitEvent.TheVariants.{Message as InitMessage}
use Rattle.bsc_accept.specs.declared.event.Event.TheVariants.{Message as AcceptMessage}
use Rattle.bsc_node.specs.declared.link_name.LinkName.{LinkName}
use Rattle.bsc_node.specs.declared.node_event.NodeEvent.{NodeEvent}
use Rattle.bsc_node.specs.declared.node_event.NodeEvent.TheVariants.{Opened, Came, Send}
use Rattle.bsc_node.specs.declared.timed_event.TimedEvent.{TimedEvent}
use Rattle.bsc_node.specs.declared.note.Note.TheVariants.{NoPath, TooLong}
use Rattle.bsc_node.specs.declared.action.Action.{Action}
use Rattle.bsc_node.specs.declared.action.Action.TheVariants.{Put, Close, Deliver}
use Rattle.bsc_node.specs.Logs.{Made, Line, did, Log, Rule, nothing, either, if_so, with_some, does, tells, now, action_of}
use Rattle.bsc_node.specs.Links.{was_taken, by_machine, hears, verdict, Outcome, puts, puts_and_closes, closes, meets, is_refused, passes_up, keeps_still, outcome}
use Rattle.bsc_node.specs.Ways.{Way, way}
use Rattle.bsc_node.specs.Ending.{ends, closes_link, carries_out_by}
use Rattle.bsc_node.specs.Receiving.{sender, delivers, takes_body}
use Rattle.bsc_node.specs.Requesting.{puts_own, other_end_takes}
use Rattle.bsc_node.specs.Events.{obeys_by, obeys, follows}
use Rattle.bsc_node.specs.Conditions.{may_come}
use Rattle.bsc_node.specs.Laws.{with_event, puts_npdu, npdus_put, IsPutOnce, NpdusArePutOnce}
use Rattle.bsc_node.proofs.Passing.{Passes, pass-in_order, pass-nothing, pass-some}
use Rattle.bsc_node.proofs.Proper.{is_proper, proper-hears}
use Rattle.bsc_node.proofs.Quiet.{is_quiet_action, Quiet, quiet-ends, quiet-closes_link}
use Rattle.bsc_node.proofs.Following.{is_send, pass-follows, opened-dialled, goes_on-is}
use Rattle.bsc_node.proofs.Heard.{LetsQuiet, lets-rule, pass-meets_peer, pass-is_refused_by, quiet-takes_body, pass-two-then}
use Rattle.bsc_lemmas.proofs.Booleans.{and_left, and_right, not_true}
use Rattle.std.proofs.lemmas.Bool.{and_from as both}

-- ---- lines that put no Encapsulated-NPDU

abbrev pub puts_none : Line → Bool
puts_none (did action) = not (puts_npdu action)
puts_none m = true

quiet_puts_none_by : (action : Action) → is_quiet_action action ≡ true → not (puts_npdu action) ≡ true
quiet_puts_none_by (Put name o) h = h
quiet_puts_none_by (Deliver delivered) h = refl
quiet_puts_none_by action h = refl

quiet_puts_none : LetsQuiet puts_none
quiet_puts_none (did action) h = quiet_puts_none_by action h
quiet_puts_none m h = refl

none-quiet : (rule : Rule) → Quiet rule → Passes puts_none rule
none-quiet rule q = lets-rule puts_none quiet_puts_none rule q

-- ---- a message that came

none-delivers : (name : LinkName) (msg : Message) (npdu : List ℕ) → Passes puts_none (λ L. with_some (sender name msg L) (delivers msg npdu) nothing L)
none-delivers name msg npdu L = pass-some puts_none (sender name msg L) (delivers msg npdu) nothing (λ v M. refl) (pass-nothing puts_none) L

none-takes_body : (a : Made) (name : LinkName) (msg : Message) (body : Body) → Passes puts_none (takes_body a name msg body)
none-takes_body a name msg (Npdu npdu) = none-delivers name msg npdu
none-takes_body a name msg body = none-quiet (takes_body a name msg body) (quiet-takes_body a name msg body refl)

none-does : (action : Action) → not (puts_npdu action) ≡ true → Passes puts_none (does action)
none-does action h L = both (not (puts_npdu action)) true h refl

none-obeys_by : (a : Made) (name : LinkName) (o : Outcome) → is_proper o ≡ true → Passes puts_none (obeys_by a name o)
none-obeys_by a name (puts o) h = none-does (Put name o) h
none-obeys_by a name (puts_and_closes o closing) h =
    pass-in_order puts_none (carries_out_by name (puts_and_closes o closing) ∷ ends a name ∷ [])
    (pass-in_order puts_none (does (Put name o) ∷ does (Close name closing) ∷ []) (none-does (Put name o) h, ((λ L. refl), tt)), (none-quiet (ends a name) (quiet-ends a name), tt))
none-obeys_by a name (closes closing) h = none-quiet (closes_link a name closing) (quiet-closes_link a name closing)
none-obeys_by a name (meets who) h = pass-meets_peer puts_none quiet_puts_none (λ k w. refl) a name who
none-obeys_by a name (is_refused origin code) h = pass-is_refused_by puts_none quiet_puts_none refl a name origin code
none-obeys_by a name (passes_up msg) h = none-takes_body a name msg msg.body
none-obeys_by a name keeps_still h = pass-nothing puts_none

none-came : (a : Made) (name : LinkName) (o : List ℕ) → Passes puts_none (follows a (Came name o))
none-came a name o L =
    pass-two-then puts_none (hears a name o) (obeys a name) [] L (machine (was_taken name L))
    (none-obeys_by a name (outcome a (L ++ hears a name o L) name) (proper-hears a name o L) (L ++ hears a name o L)) tt
  where
    machine : (b : Bool) → list_all puts_none (by_machine (λ n. InitMessage (now L) (verdict a L n o)) (λ n. AcceptMessage (now L) (verdict a L n o)) name b) ≡ true
    machine true = refl
    machine false = refl

-- ---- every event but a Send

none-follows : (a : Made) (M : Log) (ev : NodeEvent) → is_send ev ≡ false → ((name : LinkName) → ev ≡ Opened name → was_taken name M ≡ false) → list_all puts_none (follows a ev M) ≡ true
none-follows a M (Came name octets) s o = none-came a name octets M
none-follows a M (Send dest npdu) s o = cc
none-follows a M ev s o = pass-follows puts_none quiet_puts_none a M ev refl refl (record { dialled = o; next = λ name k is named uri. refl; dial = λ k free uri. refl; take = λ k free. refl })

none_put_by : (m : Line) (lines : List Line) → puts_none m ≡ true → filter puts_npdu (filter_map action_of lines) ≡ [] → filter puts_npdu (filter_map action_of (m ∷ lines)) ≡ []
none_put_by (did action) lines h rest =
    ap (λ (b : Bool). cond b (action ∷ filter puts_npdu (filter_map action_of lines)) (filter puts_npdu (filter_map action_of lines))) (not_true (puts_npdu action) h) ∙ rest
none_put_by m lines h rest = rest

none_put : (lines : List Line) → list_all puts_none lines ≡ true → filter puts_npdu (filter_map action_of lines) ≡ []
none_put [] h = refl
none_put (m ∷ lines) h = none_put_by m lines (and_left (puts_none m) (list_all puts_none lines) h) (none_put lines (and_right (puts_none m) (list_all puts_none lines) h))

not_sent : (a : Made) (L : Log) (e : TimedEvent) → IsTrue (may_come L e) → is_send e.event ≡ false → npdus_put a L e ≡ []
not_sent a L e h s =
    ap (λ lines. filter puts_npdu (filter_map action_of lines)) (goes_on-is a L e)
    ∙ none_put (follows a e.event (with_event L e)) (none-follows a (with_event L e) e.event s (λ name is. opened-dialled L e name is h))

-- ---- a Send

sent_by_way : (a : Made) (L : Log) (e : TimedEvent) (dest : Vmac) (npdu : List ℕ) (w : Way) → e.event ≡ Send dest npdu → way dest (with_event L e) ≡ Some w
    → (b : Bool) → npdus_put a L e ≡ filter puts_npdu (filter_map action_of (if_so b (puts_own w (Npdu npdu)) (tells (TooLong dest)) (with_event L e))) → (npdus_put a L e ≡ []) ⊎ IsPutOnce a L e
sent_by_way a L e dest npdu w is path true h = inr (dest, npdu, w, is, path, h)
sent_by_way a L e dest npdu w is path false h = inl h

sent_by : (a : Made) (L : Log) (e : TimedEvent) (dest : Vmac) (npdu : List ℕ) → e.event ≡ Send dest npdu → (o : Option Way) → way dest (with_event L e) ≡ o
    → npdus_put a L e ≡ filter puts_npdu (filter_map action_of (with_some o (λ w. either (other_end_takes w npdu) (puts_own w (Npdu npdu)) (tells (TooLong dest))) (tells (NoPath dest))
    (with_event L e))) → (npdus_put a L e ≡ []) ⊎ IsPutOnce a L e
sent_by a L e dest npdu is None path h = inl h
sent_by a L e dest npdu is (Some w) path h = sent_by_way a L e dest npdu w is path (other_end_takes w npdu (with_event L e)) h

sent : (a : Made) (L : Log) (e : TimedEvent) (dest : Vmac) (npdu : List ℕ) → e.event ≡ Send dest npdu → (npdus_put a L e ≡ []) ⊎ IsPutOnce a L e
sent a L e dest npdu is =
    sent_by a L e dest npdu is (way dest (with_event L e)) refl
    (ap (λ lines. filter puts_npdu (filter_map action_of lines)) (goes_on-is a L e) ∙ ap (λ (ev : NodeEvent). filter puts_npdu (filter_map action_of (follows a ev (with_event L e)))) is)

-- ---- all events

by_event : (a : Made) (L : Log) (e : TimedEvent) → IsTrue (may_come L e) → (ev : NodeEvent) → e.event ≡ ev → (npdus_put a L e ≡ []) ⊎ IsPutOnce a L e
by_event a L e h (Send dest npdu) is = sent a L e dest npdu is
by_event a L e h ev is = inl (not_sent a L e h (ap is_send is))

pub npdus_are_put_once : (a : Made) → NpdusArePutOnce a
npdus_are_put_once a L e h = by_event a L e h e.event refl
