-- Of what comes about at an event the first line alone is an event. So the time after it is its own.
-- It serves many crates above.
use Rattle.std.proofs.Common.{◌≡◌, ℕ, Bool, true, false, List, [], ◌∷◌, ◌++◌, Option, None, refl, ap, sym, ◌∙◌, append-nil, append_assoc}
use Rattle.std.specs.Prelude.{IsTrue, unwrap_or}
use Rattle.std.specs.List.{list_all}
use Rattle.std.specs.Option.{option_map, option_or}
use Rattle.bsc_connector.specs.Back.{newest_of}
use Rattle.bsc_connector.proofs.BackLemmas.{newest_of-more}
use Rattle.bsc_initiate.specs.declared.event.InitEvent.TheVariants.{Message as InitMessage}
use Rattle.bsc_accept.specs.declared.event.Event.TheVariants.{Message as AcceptMessage}
use Rattle.bsc_node.specs.declared.link_name.LinkName.{LinkName}
use Rattle.bsc_node.specs.declared.action.Action.TheVariants.{Put, Close}
use Rattle.bsc_node.specs.declared.node_event.NodeEvent.{NodeEvent}
use Rattle.bsc_node.specs.declared.node_event.NodeEvent.TheVariants.{Opened, Came, Send}
use Rattle.bsc_node.specs.declared.timed_event.TimedEvent.{TimedEvent}
use Rattle.bsc_node.specs.Logs.{Made, Line, came, Log, event_of, now, does}
use Rattle.bsc_node.specs.Links.{was_taken, by_machine, hears, verdict, Outcome, puts, puts_and_closes, closes, meets, is_refused, passes_up, keeps_still, outcome}
use Rattle.bsc_node.specs.Ending.{carries_out_by, ends, closes_link}
use Rattle.bsc_node.specs.Events.{obeys_by, obeys, follows}
use Rattle.bsc_node.specs.Node.{goes_on}
use Rattle.bsc_node.specs.Laws.{with_event}
use Rattle.bsc_node.specs.Conditions.{may_come}
use Rattle.bsc_node.proofs.Passing.{Passes, pass-in_order, pass-nothing}
use Rattle.bsc_node.proofs.Quiet.{quiet-ends, quiet-closes_link}
use Rattle.bsc_node.proofs.Heard.{LetsQuiet, lets-rule, pass-meets_peer, pass-is_refused_by, pass-two-then}
use Rattle.bsc_node.proofs.Lasting.{LetsMessages, pass-takes_body, pass-sends}
use Rattle.bsc_node.proofs.Following.{pass-follows, opened-dialled, goes_on-is}
use Rattle.bsc_lemmas.proofs.Booleans.{and_left, and_right}

-- ---- no event follows from one

abbrev pub no_event : Line → Bool
no_event (came e) = false
no_event m = true

quiet_no_event : LetsQuiet no_event
quiet_no_event (came e) h = cc
quiet_no_event m h = refl

lets_messages : LetsMessages no_event
lets_messages = record { quiet = quiet_no_event; put = λ name o. refl; deliver = λ d. refl }

none-obeys_by : (a : Made) (name : LinkName) (o : Outcome) → Passes no_event (obeys_by a name o)
none-obeys_by a name (puts o) = λ L. refl
none-obeys_by a name (puts_and_closes o closing) =
    pass-in_order no_event (carries_out_by name (puts_and_closes o closing) ∷ ends a name ∷ [])
    (pass-in_order no_event (does (Put name o) ∷ does (Close name closing) ∷ []) ((λ L. refl), ((λ L. refl), tt)), (lets-rule no_event quiet_no_event (ends a name) (quiet-ends a name), tt))
none-obeys_by a name (closes closing) = lets-rule no_event quiet_no_event (closes_link a name closing) (quiet-closes_link a name closing)
none-obeys_by a name (meets who) = pass-meets_peer no_event quiet_no_event (λ k w. refl) a name who
none-obeys_by a name (is_refused origin code) = pass-is_refused_by no_event quiet_no_event refl a name origin code
none-obeys_by a name (passes_up msg) = pass-takes_body no_event lets_messages a name msg msg.body
none-obeys_by a name keeps_still = pass-nothing no_event

none-came : (a : Made) (name : LinkName) (o : List ℕ) → Passes no_event (follows a (Came name o))
none-came a name o L = pass-two-then no_event (hears a name o) (obeys a name) [] L (machine (was_taken name L))
    (none-obeys_by a name (outcome a (L ++ hears a name o L) name) (L ++ hears a name o L)) tt
  where
    machine : (b : Bool) → list_all no_event (by_machine (λ n. InitMessage (now L) (verdict a L n o)) (λ n. AcceptMessage (now L) (verdict a L n o)) name b) ≡ true
    machine true = refl
    machine false = refl

pub none-follows : (a : Made) (M : Log) (ev : NodeEvent) → ((name : LinkName) → ev ≡ Opened name → was_taken name M ≡ false) → list_all no_event (follows a ev M) ≡ true
none-follows a M (Came name octets) o = none-came a name octets M
none-follows a M (Send dest npdu) o = pass-sends no_event lets_messages dest npdu M
none-follows a M ev o = pass-follows no_event quiet_no_event a M ev refl refl (record { dialled = o; next = λ name k is named uri. refl; dial = λ k free uri. refl; take = λ k free. refl })

event_of_none : (m : Line) → no_event m ≡ true → event_of m ≡ None
event_of_none (came e) h = cc
event_of_none m h = refl

-- lines that are no event leave the time as it is
pub now_stays : (L : Log) (lines : List Line) → list_all no_event lines ≡ true → now (L ++ lines) ≡ now L
now_stays L [] h = ap now (append-nil L)
now_stays L (m ∷ lines) h =
    ap now (sym (append_assoc L (m ∷ []) lines))
    ∙ now_stays (L ++ m ∷ []) lines (and_right (no_event m) (list_all no_event lines) h)
    ∙ ap (λ (o : Option TimedEvent). unwrap_or (option_map (λ (e : TimedEvent). e.now) o) 0)
    (newest_of-more event_of L m ∙ ap (λ (o : Option TimedEvent). option_or o (newest_of event_of L)) (event_of_none m (and_left (no_event m) (list_all no_event lines) h)))

-- The time after an event that may come is its own.
pub now_then : (a : Made) (L : Log) (e : TimedEvent) → IsTrue (may_come L e) → now (L ++ goes_on a e L) ≡ e.now
now_then a L e may =
    ap now (ap (λ lines. L ++ lines) (goes_on-is a L e) ∙ sym (append_assoc L (came e ∷ []) (follows a e.event (with_event L e))))
    ∙ now_stays (with_event L e) (follows a e.event (with_event L e)) (none-follows a (with_event L e) e.event (λ name is. opened-dialled L e name is may))
    ∙ ap (λ (o : Option TimedEvent). unwrap_or (option_map (λ (x : TimedEvent). x.now) o) 0) (newest_of-more event_of L (came e))
