-- Which events leave a log that awaits a word: those at which a word is drawn, as the last line, where no link is there.
-- It serves the clauses of `links_begin_anew`.
use Rattle.std.proofs.Common.{◌≡◌, ℕ, Bool, true, false, not, ◌||◌, List, [], ◌∷◌, ◌++◌, Option, refl, ap, sym, ◌∙◌}
use Rattle.std.specs.Prelude.{IsTrue, filter_map}
use Rattle.std.specs.List.{list_all, list_any}
use Rattle.std.proofs.lemmas.List.{append_assoc, append-nil}
use Rattle.bsc_octets.specs.declared.vmac.Vmac.{Vmac}
use Rattle.bsc_connector.specs.declared.side.Side.TheVariants.{Primary}
use Rattle.bsc_accept.specs.Steps.{normal}
use Rattle.bsc_accept.specs.declared.event.Event.TheVariants.{Message as AcceptMessage}
use Rattle.bsc_initiate.specs.declared.event.InitEvent.TheVariants.{Message as InitMessage}
use Rattle.bsc_node.specs.declared.link_name.LinkName.{LinkName}
use Rattle.bsc_node.specs.declared.link_name.LinkName.TheVariants.{Hub}
use Rattle.bsc_node.specs.declared.node_event.NodeEvent.{NodeEvent}
use Rattle.bsc_node.specs.declared.node_event.NodeEvent.TheVariants.{Came}
use Rattle.bsc_node.specs.declared.timed_event.TimedEvent.{TimedEvent}
use Rattle.bsc_node.specs.declared.action.Action.TheVariants.{Close, Draw}
use Rattle.bsc_node.specs.Logs.{Made, Line, came, did, Log, either, if_so, does, now, action_of}
use Rattle.bsc_node.specs.Links.{is_there, none_there, was_taken, by_machine, hears, verdict, Outcome, is_refused, outcome}
use Rattle.bsc_node.specs.Ending.{ends}
use Rattle.bsc_node.specs.Meeting.{tells_refusal, may_draw, is_refused_by}
use Rattle.bsc_node.specs.Events.{obeys_by, obeys, follows}
use Rattle.bsc_node.specs.Node.{goes_on, actions_at}
use Rattle.bsc_node.specs.Conditions.{is_draw, awaits_word, brings_word, may_come}
use Rattle.bsc_node.specs.Laws.{with_event, with_heard, draws}
use Rattle.bsc_node.proofs.Order.{in_order-brought}
use Rattle.bsc_node.proofs.Quiet.{quiet-ends}
use Rattle.bsc_node.proofs.Heard.{lets-rule, pass-two-then}
use Rattle.bsc_node.proofs.Following.{is_came, opened-dialled, goes_on-is}
use Rattle.bsc_node.proofs.Told.{at_last-more}
use Rattle.bsc_node.proofs.Drawing.{draws_none, none-follows as none_follows, came_acts, quiet_draws_none, drawn_by, none_drawn, none-obeys_by}
use Rattle.bsc_lemmas.proofs.Booleans.{and_left, and_right}
use Rattle.bsc_node.proofs.Common.{draws_where_none}
use Rattle.bsc_node.proofs.There.{there-other}

-- ---- lines that draw nothing

none_is_no_draw : (m : Line) → draws_none m ≡ true → is_draw m ≡ false
none_is_no_draw (did Draw) h = sym h
none_is_no_draw m h = refl

-- a log whose last lines draw nothing awaits no word
awaits_none : (lines : List Line) (L : Log) (m : Line) → is_draw m ≡ false → list_all draws_none lines ≡ true → awaits_word (L ++ m ∷ lines) ≡ false
awaits_none [] L m h rest = at_last-more (λ before n. is_draw n) false L m ∙ h
awaits_none (n ∷ lines) L m h rest =
    ap awaits_word (sym (append_assoc L (m ∷ []) (n ∷ lines)))
    ∙ awaits_none lines (L ++ m ∷ []) n (none_is_no_draw n (and_left (draws_none n) (list_all draws_none lines) rest)) (and_right (draws_none n) (list_all draws_none lines) rest)

-- one line and some lines behind a log, and then some lines
pub seam : (M : Log) (x : Line) (ys zs : List Line) → M ++ (x ∷ (ys ++ zs)) ≡ ((M ++ x ∷ []) ++ ys) ++ zs
seam M x ys zs = sym (append_assoc (M ++ x ∷ []) ys zs ∙ append_assoc M (x ∷ []) (ys ++ zs))

-- ---- what an event leaves

-- A word is awaited exactly where one was drawn, and then the primary hub's link isn't there.
record Leaves (a : Made) (L : Log) (e : TimedEvent) : Type 0 where
  at : awaits_word (L ++ goes_on a e L) ≡ list_any draws (actions_at a L e)
  gone : awaits_word (L ++ goes_on a e L) ≡ true → is_there (Hub Primary) (L ++ goes_on a e L) ≡ false

-- where nothing is drawn
none_awaited : (a : Made) (L : Log) (e : TimedEvent) → list_all draws_none (follows a e.event (with_event L e)) ≡ true → awaits_word (L ++ goes_on a e L) ≡ false
none_awaited a L e h = ap (λ lines. awaits_word (L ++ lines)) (goes_on-is a L e) ∙ awaits_none (follows a e.event (with_event L e)) L (came e) refl h

leaves_none : (a : Made) (L : Log) (e : TimedEvent) → list_all draws_none (follows a e.event (with_event L e)) ≡ true → Leaves a L e
leaves_none a L e h = record {
  at = none_awaited a L e h ∙ sym (ap drawn_by (goes_on-is a L e) ∙ none_drawn (follows a e.event (with_event L e)) h);
  gone = λ awaits. no awaits (none_awaited a L e h);
}
  where
    no : {b c : Bool} → b ≡ true → b ≡ false → c ≡ false
    no h g = cc

-- where a word is drawn, as the last line
leaves_draw : (a : Made) (L : Log) (e : TimedEvent) (C : Log) → L ++ goes_on a e L ≡ C ++ did Draw ∷ [] → list_any draws (actions_at a L e) ≡ true → none_there C ≡ true → Leaves a L e
leaves_draw a L e C is drawn none = record {
  at = ap awaits_word is ∙ at_last-more (λ before m. is_draw m) false C (did Draw) ∙ sym drawn;
  gone = λ awaits. ap (is_there (Hub Primary)) is ∙ there-other (Hub Primary) C (did Draw) refl refl ∙ first_none (is_there (Hub Primary) C) _ none;
}
  where
    first_none : (p q : Bool) → not (p || q) ≡ true → p ≡ false
    first_none true q h = sym h
    first_none false q h = refl

-- ---- every event but a message

not_came : (a : Made) (L : Log) (e : TimedEvent) → IsTrue (may_come L e) → is_came e.event ≡ false → list_all draws_none (follows a e.event (with_event L e)) ≡ true
not_came a L e h s = none_follows a (with_event L e) e.event s (λ name is. opened-dialled L e name is h)

-- ---- a message that came

-- the log as a message leaves it
pub came_log : (a : Made) (L : Log) (e : TimedEvent) (name : LinkName) (o : List ℕ) → e.event ≡ Came name o → L ++ goes_on a e L ≡ with_heard a L e name o ++ obeys a name (with_heard a L e name o)
came_log a L e name o is =
    ap (λ lines. L ++ lines) (goes_on-is a L e)
    ∙ sym (append_assoc L (came e ∷ []) (follows a e.event (with_event L e)))
    ∙ ap (λ (ev : NodeEvent). with_event L e ++ follows a ev (with_event L e)) is
    ∙ ap (λ lines. with_event L e ++ lines) (in_order-brought (hears a name o ∷ obeys a name ∷ []) (with_event L e))
    ∙ sym (append_assoc (with_event L e) (hears a name o (with_event L e)) (obeys a name (with_heard a L e name o) ++ []))
    ∙ ap (λ lines. with_heard a L e name o ++ lines) (append-nil (obeys a name (with_heard a L e name o)))

-- where what the machine's step brings about draws nothing, nothing that follows does
none_came : (a : Made) (L : Log) (e : TimedEvent) (name : LinkName) (o : List ℕ) → e.event ≡ Came name o
    → list_all draws_none (obeys a name (with_heard a L e name o)) ≡ true → list_all draws_none (follows a e.event (with_event L e)) ≡ true
none_came a L e name o is h =
    ap (λ (ev : NodeEvent). list_all draws_none (follows a ev (with_event L e))) is
    ∙ pass-two-then draws_none (hears a name o) (obeys a name) [] (with_event L e) (machine (was_taken name (with_event L e)) (with_event L e)) h tt
  where
    machine : (b : Bool) (M : Log) → list_all draws_none (by_machine (λ n. InitMessage (now M) (verdict a M n o)) (λ n. AcceptMessage (now M) (verdict a M n o)) name b) ≡ true
    machine true M = refl
    machine false M = refl

-- the log once a link whose request was refused is closed and that is told, and what follows then
abbrev told : LinkName → Option Vmac → ℕ → Log → Log
told name origin code N = (N ++ did (Close name normal) ∷ []) ++ tells_refusal name origin code (N ++ did (Close name normal) ∷ [])

refused : (a : Made) (name : LinkName) (origin : Option Vmac) (code : ℕ) (N : Log) (b : Bool) → may_draw name code (told name origin code N) ≡ b
    → is_refused_by a name origin code N ≡ did (Close name normal) ∷ tells_refusal name origin code (N ++ did (Close name normal) ∷ [])
    ++ if_so b (does Draw) (ends a name) (told name origin code N) ++ []
refused a name origin code N b h =
    in_order-brought (does (Close name normal) ∷ tells_refusal name origin code ∷ either (may_draw name code) (does Draw) (ends a name) ∷ []) N
    ∙ ap (λ (d : Bool). did (Close name normal) ∷ tells_refusal name origin code (N ++ did (Close name normal) ∷ []) ++ if_so d (does Draw) (ends a name) (told name origin code N) ++ []) h

-- what is known of a message that came, once its machine heard it and came to this outcome
record Heard (a : Made) (L : Log) (e : TimedEvent) (name : LinkName) (N : Log) (u : Outcome) : Type 0 where
  log_is : L ++ goes_on a e L ≡ N ++ obeys_by a name u N
  acts : actions_at a L e ≡ filter_map action_of (obeys_by a name u N)
  none : list_all draws_none (obeys_by a name u N) ≡ true → list_all draws_none (follows a e.event (with_event L e)) ≡ true

by_draw : (a : Made) (L : Log) (e : TimedEvent) (name : LinkName) (N : Log) (origin : Option Vmac) (code : ℕ) → Heard a L e name N (is_refused origin code)
    → (b : Bool) → may_draw name code (told name origin code N) ≡ b → Leaves a L e
by_draw a L e name N origin code known true h =
    leaves_draw a L e (told name origin code N)
    (known.log_is ∙ ap (λ lines. N ++ lines) (refused a name origin code N true h)
    ∙ seam N (did (Close name normal)) (tells_refusal name origin code (N ++ did (Close name normal) ∷ [])) (did Draw ∷ []))
    (ap (list_any draws) (known.acts ∙ ap (filter_map action_of) (refused a name origin code N true h)))
    (draws_where_none name code (told name origin code N) h)
by_draw a L e name N origin code known false h =
    leaves_none a L e (known.none
    (ap (list_all draws_none) (refused a name origin code N false h)
    ∙ ap (list_all draws_none) (append-nil (ends a name (told name origin code N)))
    ∙ lets-rule draws_none quiet_draws_none (ends a name) (quiet-ends a name) (told name origin code N)))

by_outcome : (a : Made) (L : Log) (e : TimedEvent) (name : LinkName) (N : Log) (u : Outcome) → Heard a L e name N u → Leaves a L e
by_outcome a L e name N (is_refused origin code) known = by_draw a L e name N origin code known (may_draw name code (told name origin code N)) refl
by_outcome a L e name N u known = leaves_none a L e (known.none (none-obeys_by a name u refl N))

-- ---- all events

by_event : (a : Made) (L : Log) (e : TimedEvent) → IsTrue (may_come L e) → (ev : NodeEvent) → e.event ≡ ev → Leaves a L e
by_event a L e h (Came name o) is =
    by_outcome a L e name (with_heard a L e name o) (outcome a (with_heard a L e name o) name)
    (record { log_is = came_log a L e name o is; acts = came_acts a L e name o is; none = none_came a L e name o is })
by_event a L e h ev is = leaves_none a L e (not_came a L e h (ap is_came is))

-- A word is awaited after an event exactly where it drew one.
pub draws_at : (a : Made) (L : Log) (e : TimedEvent) → IsTrue (may_come L e) → awaits_word (L ++ goes_on a e L) ≡ list_any draws (actions_at a L e)
draws_at a L e h = (by_event a L e h e.event refl).at

-- Where a word is awaited after an event, the primary hub's link isn't there.
pub word_gone : (a : Made) (L : Log) (e : TimedEvent) → IsTrue (may_come L e) → awaits_word (L ++ goes_on a e L) ≡ true → is_there (Hub Primary) (L ++ goes_on a e L) ≡ false
word_gone a L e h = (by_event a L e h e.event refl).gone

-- After a word, or after that there is none, no word is awaited.
pub word_settles : (a : Made) (L : Log) (e : TimedEvent) → IsTrue (may_come L e) → brings_word e.event ≡ true → awaits_word (L ++ goes_on a e L) ≡ false
word_settles a L e h word = none_awaited a L e (not_came a L e h (no_message e.event word))
  where
    no_message : (ev : NodeEvent) → brings_word ev ≡ true → is_came ev ≡ false
    no_message (Came name o) g = cc
    no_message ev g = refl
