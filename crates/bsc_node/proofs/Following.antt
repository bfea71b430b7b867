-- What follows from an event, by a test that quiet lines pass.
-- It serves clauses of functions of `laws`.
use Rattle.std.proofs.Common.{◌≡◌, ℕ, Bool, true, false, not, ◌&&◌, List, [], ◌∷◌, ◌++◌, Some, refl, ap, sym, ◌∙◌}
use Rattle.std.specs.Prelude.{IsTrue, nat_le, nat_lt, ◌^◌, if◌then◌else◌, unwrap_or}
use Rattle.std.specs.List.{list_all}
use Rattle.std.proofs.lemmas.List.{append-nil}
use Rattle.bsc_connector.proofs.BackLemmas.{newest_of-more}
use Rattle.bsc_connector.specs.declared.event.ConnectorEvent.TheVariants.{Start as ConnectorStart}
use Rattle.bsc_accept.specs.declared.reason.Reason.TheVariants.{Nothing}
use Rattle.bsc_accept.specs.Steps.{closing}
use Rattle.bsc_initiate.specs.declared.event.InitEvent.TheVariants.{Opened as InitOpened}
use Rattle.bsc_node.specs.declared.link_name.LinkName.{LinkName}
use Rattle.bsc_node.specs.declared.link_name.LinkName.TheVariants.{Direct}
use Rattle.bsc_node.specs.declared.node_event.NodeEvent.{NodeEvent}
use Rattle.bsc_node.specs.declared.node_event.NodeEvent.TheVariants.{Start, Opened, DialFailed, Arrived, Came, CameText, Lost, Tick, Send, Resolve, DirectTo, Solicit, Finish, Random, NoRandom}
use Rattle.bsc_node.specs.declared.timed_event.TimedEvent.{TimedEvent}
use Rattle.bsc_node.specs.declared.action.Action.TheVariants.{Dial, Take}
use Rattle.bsc_node.specs.Logs.{Made, Line, came, did, initiating, Log, now, next_id, in_order}
use Rattle.bsc_node.specs.Links.{is_there, was_taken, beginning_of, start, initiating_events, opens}
use Rattle.bsc_node.specs.Ways.{free_slot}
use Rattle.bsc_node.specs.Ending.{tells_connector, ends, closes_link}
use Rattle.bsc_node.specs.Meeting.{renews, keeps_vmac}
use Rattle.bsc_node.specs.Requesting.{resolves, solicits}
use Rattle.bsc_node.specs.Events.{obeys, follows, time_passes, is_to_end}
use Rattle.bsc_node.specs.Node.{goes_on}
use Rattle.bsc_node.specs.Conditions.{has_opened, awaits_word, brings_word, fits, may_come}
use Rattle.bsc_node.specs.Laws.{with_event}
use Rattle.bsc_node.proofs.Order.{in_order-brought, in_order-cons}
use Rattle.bsc_node.proofs.Passing.{pass-weaker}
use Rattle.bsc_node.proofs.Told.{outcome-initiating}
use Rattle.bsc_node.proofs.Calm.{is_calm, calm-opened}
use Rattle.bsc_node.proofs.Quiet.{is_quiet, quiet-tells_connector, quiet-ends, quiet-closes_link, quiet-renews, quiet-keeps_vmac}
use Rattle.bsc_node.proofs.Heard.{LetsQuiet, lets-rule, quiet-resolves, quiet-solicits, pass-directs, quiet-obeys, pass-dial_fails, pass-arrives, quiet-time_passes, quiet-is_to_end, pass-two-then}
use Rattle.bsc_lemmas.proofs.Booleans.{second_of_three_not as the_middle}

-- ---- what an event is, once it came

-- the condition on an event speaks of what it is
pub the_last : (p q r s : Bool) → (p && q && r && s) ≡ true → s ≡ true
the_last true true true s h = h
the_last true true false s h = cc
the_last true false r s h = cc
the_last false q r s h = cc

-- A link that opens was dialled.
pub opened-dialled : (L : Log) (e : TimedEvent) (name : LinkName) → e.event ≡ Opened name → IsTrue (may_come L e) → was_taken name (with_event L e) ≡ false
opened-dialled L e name is h = ap (λ o. unwrap_or o false) (newest_of-more (beginning_of name) L (came e))
    ∙ the_middle (is_there name L) (was_taken name L) (not (has_opened name L))
    (sym (ap (fits L) is) ∙ the_last (nat_le (now L) e.now) (nat_lt e.now (2 ^ 62)) (if brings_word e.event then awaits_word L else not (awaits_word L)) (fits L e.event) h)

-- A link that opens puts its Connect-Request, and nothing else follows.
pub quiet-opened : (a : Made) (name : LinkName) (M : Log) → was_taken name M ≡ false → list_all is_quiet (follows a (Opened name) M) ≡ true
quiet-opened a name M h =
    pass-two-then is_quiet (opens name) (obeys a name) [] M refl
    (quiet-obeys a name (M ++ opens name M)
    (ap is_calm (outcome-initiating a M name (InitOpened (now M) (next_id M)) h)
    ∙ calm-opened (start a (M ++ initiating name (InitOpened (now M) (next_id M)) ∷ []) name) (initiating_events M name) (now M) (next_id M))) tt

-- every event but a Send and a message
abbrev pub is_send : NodeEvent → Bool
is_send (Send dest npdu) = true
is_send e = false

abbrev pub is_came : NodeEvent → Bool
is_came (Came name o) = true
is_came e = false

-- What the test asks of an event: a link that opens was dialled, and slots may be dialled and taken.
pub record LetsEvent (test : Line → Bool) (M : Log) (ev : NodeEvent) : Type 0 where
  pub dialled : (name : LinkName) → ev ≡ Opened name → was_taken name M ≡ false
  pub next : (name : LinkName) (k : ℕ) → ev ≡ DialFailed name → name ≡ Direct k → (uri : List ℕ) → test (did (Dial (Direct k) uri)) ≡ true
  pub dial : (k : ℕ) → free_slot M ≡ Some k → (uri : List ℕ) → test (did (Dial (Direct k) uri)) ≡ true
  pub take : (k : ℕ) → free_slot M ≡ Some k → test (did (Take (Direct k))) ≡ true

pub pass-follows : (test : Line → Bool) → LetsQuiet test → (a : Made) (M : Log) (ev : NodeEvent) → is_send ev ≡ false → is_came ev ≡ false → LetsEvent test M ev → list_all test (follows a ev M) ≡ true
pass-follows test lets a M Start s c l = lets-rule test lets (tells_connector a ConnectorStart) (quiet-tells_connector a ConnectorStart) M
pass-follows test lets a M (Opened name) s c l = pass-weaker is_quiet test lets (follows a (Opened name) M) (quiet-opened a name M (l.dialled name refl))
pass-follows test lets a M (DialFailed name) s c l = pass-dial_fails test lets a name (λ k is uri. l.next name k refl is uri) M
pass-follows test lets a M Arrived s c l = pass-arrives test lets M l.take
pass-follows test lets a M (Came name octets) s c l = cc
pass-follows test lets a M (CameText name) s c l = lets-rule test lets (closes_link a name (closing 1003 Nothing)) (quiet-closes_link a name (closing 1003 Nothing)) M
pass-follows test lets a M (Lost name) s c l = lets-rule test lets (ends a name) (quiet-ends a name) M
pass-follows test lets a M Tick s c l = lets-rule test lets (time_passes a) (quiet-time_passes a) M
pass-follows test lets a M (Send dest npdu) s c l = cc
pass-follows test lets a M (Resolve v) s c l = lets-rule test lets (resolves a v) (quiet-resolves a v) M
pass-follows test lets a M (DirectTo v) s c l = pass-directs test lets v M l.dial
pass-follows test lets a M (Solicit v) s c l = lets-rule test lets (solicits v) (quiet-solicits v) M
pass-follows test lets a M Finish s c l = lets-rule test lets (is_to_end a) (quiet-is_to_end a) M
pass-follows test lets a M (Random w) s c l = lets-rule test lets (renews a) (quiet-renews a) M
pass-follows test lets a M NoRandom s c l = lets-rule test lets (keeps_vmac a) (quiet-keeps_vmac a) M

-- ---- words on lists and truth

-- what comes about at an event: the event, and what follows from it
pub goes_on-is : (a : Made) (L : Log) (e : TimedEvent) → goes_on a e L ≡ came e ∷ follows a e.event (with_event L e)
goes_on-is a L e = in_order-brought ((λ M. came e ∷ []) ∷ follows a e.event ∷ []) L ∙ ap (λ lines. came e ∷ lines) (append-nil (follows a e.event (with_event L e)))

-- ---- the lines of one event and of two

pub brought-one : (a : Made) (e : TimedEvent) (L : Log) → in_order (goes_on a e ∷ []) L ≡ goes_on a e L
brought-one a e L = in_order-cons (goes_on a e) [] L ∙ ap (λ lines. goes_on a e L ++ lines) (in_order-brought [] (L ++ goes_on a e L)) ∙ append-nil (goes_on a e L)

pub brought-two : (a : Made) (e r : TimedEvent) (L : Log) → in_order (goes_on a e ∷ goes_on a r ∷ []) L ≡ goes_on a e L ++ goes_on a r (L ++ goes_on a e L)
brought-two a e r L = in_order-cons (goes_on a e) (goes_on a r ∷ []) L ∙ ap (λ lines. goes_on a e L ++ lines) (brought-one a r (L ++ goes_on a e L))
