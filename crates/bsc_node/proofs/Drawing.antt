-- A word is drawn at most once at an event, and as the last of its actions.
-- It serves the clauses of `draws_last`.
use Rattle.std.proofs.Common.{◌≡◌, ℕ, Bool, true, false, not, ◌||◌, inl, inr, List, [], ◌∷◌, ◌++◌, Option, refl, ap, ◌∙◌}
use Rattle.std.specs.Prelude.{◌⊎◌, IsTrue, filter_map}
use Rattle.std.specs.List.{list_all, list_any}
use Rattle.std.proofs.lemmas.List.{append-nil}
use Rattle.bsc_octets.specs.declared.vmac.Vmac.{Vmac}
use Rattle.bsc_accept.specs.Steps.{normal}
use Rattle.bsc_accept.specs.declared.event.Event.{Event}
use Rattle.bsc_accept.specs.declared.event.Event.TheVariants.{Message as AcceptMessage}
use Rattle.bsc_initiate.specs.declared.event.InitEvent.{InitEvent}
use Rattle.bsc_initiate.specs.declared.event.InitEvent.TheVariants.{Message as InitMessage}
use Rattle.bsc_node.specs.declared.link_name.LinkName.{LinkName}
use Rattle.bsc_node.specs.declared.node_event.NodeEvent.{NodeEvent}
use Rattle.bsc_node.specs.declared.node_event.NodeEvent.TheVariants.{Opened, Came, Send}
use Rattle.bsc_node.specs.declared.timed_event.TimedEvent.{TimedEvent}
use Rattle.bsc_node.specs.declared.note.Note.TheVariants.{Nak}
use Rattle.bsc_node.specs.declared.action.Action.{Action}
use Rattle.bsc_node.specs.declared.action.Action.TheVariants.{Put, Close, Tell, Draw}
use Rattle.bsc_node.specs.Logs.{Made, Line, did, Log, either, if_so, does, now, action_of}
use Rattle.bsc_node.specs.Links.{was_taken, by_machine, hears, verdict, Outcome, puts, puts_and_closes, closes, meets, is_refused, passes_up, keeps_still, outcome}
use Rattle.bsc_node.specs.Ending.{carries_out_by, ends, closes_link}
use Rattle.bsc_node.specs.Meeting.{refuser, tells_refusal, may_draw}
use Rattle.bsc_node.specs.Events.{obeys_by, obeys, follows}
use Rattle.bsc_node.specs.Node.{actions_at}
use Rattle.bsc_node.specs.Conditions.{may_come}
use Rattle.bsc_node.specs.Laws.{with_event, with_heard, draws, IsDrawnLast, DrawsLast}
use Rattle.bsc_node.proofs.Order.{in_order-brought}
use Rattle.bsc_node.proofs.Passing.{Passes, pass-in_order, pass-nothing}
use Rattle.bsc_node.proofs.Quiet.{is_quiet_action, quiet-ends, quiet-closes_link}
use Rattle.bsc_node.proofs.Heard.{LetsQuiet, lets-rule, pass-meets_peer}
use Rattle.bsc_node.proofs.Following.{is_came, pass-follows, opened-dialled, goes_on-is}
use Rattle.bsc_node.proofs.Lasting.{LetsMessages, pass-takes_body, pass-sends}
use Rattle.bsc_lemmas.proofs.Booleans.{and_left, and_right, not_true}

-- ---- lines that draw nothing

abbrev pub draws_none : Line → Bool
draws_none (did action) = not (draws action)
draws_none m = true

quiet_draws_none_by : (action : Action) → is_quiet_action action ≡ true → not (draws action) ≡ true
quiet_draws_none_by Draw h = h
quiet_draws_none_by action h = refl

pub quiet_draws_none : LetsQuiet draws_none
quiet_draws_none (did action) h = quiet_draws_none_by action h
quiet_draws_none m h = refl

messages : LetsMessages draws_none
messages = record { quiet = quiet_draws_none; put = λ name o. refl; deliver = λ d. refl }

-- whether lines draw a word
abbrev pub drawn_by : List Line → Bool
drawn_by lines = list_any draws (filter_map action_of lines)

none_drawn_by : (m : Line) (lines : List Line) → draws_none m ≡ true → drawn_by lines ≡ false → drawn_by (m ∷ lines) ≡ false
none_drawn_by (did action) lines h rest = ap (λ (b : Bool). b || drawn_by lines) (not_true (draws action) h) ∙ rest
none_drawn_by m lines h rest = rest

pub none_drawn : (lines : List Line) → list_all draws_none lines ≡ true → drawn_by lines ≡ false
none_drawn [] h = refl
none_drawn (m ∷ lines) h = none_drawn_by m lines (and_left (draws_none m) (list_all draws_none lines) h) (none_drawn lines (and_right (draws_none m) (list_all draws_none lines) h))

-- ---- every event but a message

pub none-follows : (a : Made) (M : Log) (ev : NodeEvent) → is_came ev ≡ false → ((name : LinkName) → ev ≡ Opened name → was_taken name M ≡ false) → list_all draws_none (follows a ev M) ≡ true
none-follows a M (Came name octets) s o = cc
none-follows a M (Send dest npdu) s o = pass-sends draws_none messages dest npdu M
none-follows a M ev s o = pass-follows draws_none quiet_draws_none a M ev refl refl (record { dialled = o; next = λ name k is named uri. refl; dial = λ k free uri. refl; take = λ k free. refl })

not_came : (a : Made) (L : Log) (e : TimedEvent) → IsTrue (may_come L e) → is_came e.event ≡ false → list_any draws (actions_at a L e) ≡ false
not_came a L e h s = ap drawn_by (goes_on-is a L e) ∙ none_drawn (follows a e.event (with_event L e)) (none-follows a (with_event L e) e.event s (λ name is. opened-dialled L e name is h))

-- ---- a message that came

abbrev pub is_refusal : Outcome → Bool
is_refusal (is_refused origin code) = true
is_refusal o = false

pub none-obeys_by : (a : Made) (name : LinkName) (o : Outcome) → is_refusal o ≡ false → Passes draws_none (obeys_by a name o)
none-obeys_by a name (puts o) h = λ L. refl
none-obeys_by a name (puts_and_closes o closing) h =
    pass-in_order draws_none (carries_out_by name (puts_and_closes o closing) ∷ ends a name ∷ [])
    (pass-in_order draws_none (does (Put name o) ∷ does (Close name closing) ∷ []) ((λ L. refl), ((λ L. refl), tt)), (lets-rule draws_none quiet_draws_none (ends a name) (quiet-ends a name), tt))
none-obeys_by a name (closes closing) h = lets-rule draws_none quiet_draws_none (closes_link a name closing) (quiet-closes_link a name closing)
none-obeys_by a name (meets who) h = pass-meets_peer draws_none quiet_draws_none (λ k w. refl) a name who
none-obeys_by a name (is_refused origin code) h = cc
none-obeys_by a name (passes_up msg) h = pass-takes_body draws_none messages a name msg msg.body
none-obeys_by a name keeps_still h = pass-nothing draws_none

machine_acts : (b : Bool) (dialled : LinkName → InitEvent) (taken : LinkName → Event) (name : LinkName) (lines : List Line)
    → filter_map action_of (by_machine dialled taken name b ++ lines) ≡ filter_map action_of lines
machine_acts true dialled taken name lines = refl
machine_acts false dialled taken name lines = refl

-- the actions at a message that came: those that follow from the machine's step
pub came_acts : (a : Made) (L : Log) (e : TimedEvent) (name : LinkName) (o : List ℕ) → e.event ≡ Came name o → actions_at a L e ≡ filter_map action_of (obeys a name (with_heard a L e name o))
came_acts a L e name o is =
    ap (filter_map action_of) (goes_on-is a L e)
    ∙ ap (λ (ev : NodeEvent). filter_map action_of (follows a ev (with_event L e))) is
    ∙ ap (filter_map action_of) (in_order-brought (hears a name o ∷ obeys a name ∷ []) (with_event L e))
    ∙ machine_acts (was_taken name (with_event L e)) (λ n. InitMessage (now (with_event L e)) (verdict a (with_event L e) n o))
    (λ n. AcceptMessage (now (with_event L e)) (verdict a (with_event L e) n o)) name (obeys a name (with_heard a L e name o) ++ [])
    ∙ ap (filter_map action_of) (append-nil (obeys a name (with_heard a L e name o)))

abbrev closed : LinkName → Log → Log
closed name N = N ++ did (Close name normal) ∷ []

abbrev told : LinkName → Option Vmac → ℕ → Log → Action
told name origin code N = Tell (Nak (refuser name origin (closed name N)) 0x06 code)

by_draw : (a : Made) (L : Log) (e : TimedEvent) (name : LinkName) (origin : Option Vmac) (code : ℕ) (N : Log) (b : Bool)
    → actions_at a L e ≡ Close name normal ∷ told name origin code N ∷ filter_map action_of (if_so b (does Draw) (ends a name) (closed name N ++ did (told name origin code N) ∷ []) ++ [])
    → (list_any draws (actions_at a L e) ≡ false) ⊎ IsDrawnLast a L e
by_draw a L e name origin code N true h = inr (Close name normal ∷ told name origin code N ∷ [], h, refl)
by_draw a L e name origin code N false h =
    inl (ap (list_any draws) h
    ∙ ap drawn_by (append-nil (ends a name (closed name N ++ did (told name origin code N) ∷ [])))
    ∙ none_drawn (ends a name (closed name N ++ did (told name origin code N) ∷ []))
    (lets-rule draws_none quiet_draws_none (ends a name) (quiet-ends a name) (closed name N ++ did (told name origin code N) ∷ [])))

by_outcome : (a : Made) (L : Log) (e : TimedEvent) (name : LinkName) (N : Log) (u : Outcome) → actions_at a L e ≡ filter_map action_of (obeys_by a name u N)
    → (list_any draws (actions_at a L e) ≡ false) ⊎ IsDrawnLast a L e
by_outcome a L e name N (is_refused origin code) h =
    by_draw a L e name origin code N (may_draw name code (closed name N ++ did (told name origin code N) ∷ []))
    (h ∙ ap (filter_map action_of) (in_order-brought (does (Close name normal) ∷ tells_refusal name origin code ∷ either (may_draw name code) (does Draw) (ends a name) ∷ []) N))
by_outcome a L e name N u h = inl (ap (list_any draws) h ∙ none_drawn (obeys_by a name u N) (none-obeys_by a name u refl N))

-- ---- all events

by_event : (a : Made) (L : Log) (e : TimedEvent) → IsTrue (may_come L e) → (ev : NodeEvent) → e.event ≡ ev → (list_any draws (actions_at a L e) ≡ false) ⊎ IsDrawnLast a L e
by_event a L e h (Came name o) is = by_outcome a L e name (with_heard a L e name o) (outcome a (with_heard a L e name o) name) (came_acts a L e name o is)
by_event a L e h ev is = inl (not_came a L e h (ap is_came is))

pub draws_last : (a : Made) → DrawsLast a
draws_last a L e h = by_event a L e h e.event refl
