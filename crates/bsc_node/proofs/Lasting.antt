-- What holds of the slots after every event: they are fine, and links begin only under the names of slots.
-- It serves the clauses of `broadcasts_keep_off_slots`, `draws_last` and `slots_keep_apart`.
use Rattle.std.proofs.Common.{◌≡◌, ℕ, Bool, true, false, not, cond, ◌&&◌, ◌||◌, List, [], ◌∷◌, ◌++◌, find, Some, None, refl, ap, sym, ◌∙◌, subst, arith}
use Rattle.std.specs.Prelude.{◌^◌, ◌==◌, IsTrue, fold, filter_map, nat_le, nat_lt, if◌then◌else◌, is_some}
use Rattle.std.specs.List.{list_all, list_any}
use Rattle.std.proofs.lemmas.Bool.{eqb-true}
use Rattle.std.proofs.lemmas.List.{append-nil}
use Rattle.std.proofs.lemmas.List.Elements.{filter_map-append}
use Rattle.std.proofs.lemmas.List.Folds.{list_all-append}
use Rattle.bsc_octets.specs.declared.vmac.Vmac.{Vmac}
use Rattle.bsc_octets.specs.declared.identity.Identity.{Identity}
use Rattle.bsc_octets.specs.Addresses.{same_vmac, broadcast}
use Rattle.bsc_connector.specs.declared.event.ConnectorEvent.TheVariants.{Connected}
use Rattle.bsc_frame.specs.declared.message.Message.{Message}
use Rattle.bsc_frame.specs.declared.body.Body.{Body}
use Rattle.bsc_frame.specs.declared.body.Body.TheVariants.{Npdu}
use Rattle.bsc_accept.specs.declared.event.Event.{Event}
use Rattle.bsc_accept.specs.declared.event.Event.TheVariants.{Message as AcceptMessage}
use Rattle.bsc_initiate.specs.declared.event.InitEvent.{InitEvent}
use Rattle.bsc_initiate.specs.declared.event.InitEvent.TheVariants.{Message as InitMessage}
use Rattle.bsc_direct.specs.declared.call.SlotCall.{SlotCall}
use Rattle.bsc_direct.specs.Slots.{slots, is_claimed}
use Rattle.bsc_node.specs.declared.link_name.LinkName.{LinkName}
use Rattle.bsc_node.specs.declared.link_name.LinkName.TheVariants.{Hub, Direct}
use Rattle.bsc_node.specs.declared.node_event.NodeEvent.{NodeEvent}
use Rattle.bsc_node.specs.declared.node_event.NodeEvent.TheVariants.{DialFailed, Opened, Came, Send}
use Rattle.bsc_node.specs.declared.timed_event.TimedEvent.{TimedEvent}
use Rattle.bsc_node.specs.declared.action.Action.{Action}
use Rattle.bsc_node.specs.declared.action.Action.TheVariants.{Dial, Take, Put, Close, Deliver, Draw}
use Rattle.bsc_node.specs.declared.delivered.Delivered.{Delivered}
use Rattle.bsc_node.specs.declared.note.Note.TheVariants.{NoPath, TooLong}
use Rattle.bsc_node.specs.Logs.{Made, Line, came, did, Log, nothing, either, does, tells, now}
use Rattle.bsc_node.specs.Links.{begins, is_over_by, life, is_there, was_taken, by_machine, hears, verdict, Outcome, puts, puts_and_closes, closes, meets, is_refused, passes_up}
use Rattle.bsc_node.specs.Links.{keeps_still, outcome, is_in_slots, begins_in_slots}
use Rattle.bsc_node.specs.Hubs.{is_under_way}
use Rattle.bsc_node.specs.Ways.{way, slot_call_of, slot_calls, free_slot}
use Rattle.bsc_node.specs.Ending.{carries_out_by, tells_connector, ends, closes_link}
use Rattle.bsc_node.specs.Receiving.{sender, delivers, takes_body}
use Rattle.bsc_node.specs.Requesting.{own_message, puts_own, other_end_takes, sends}
use Rattle.bsc_node.specs.Events.{obeys_by, obeys, follows}
use Rattle.bsc_node.specs.Node.{goes_on, log}
use Rattle.bsc_node.specs.Conditions.{has_opened, awaits_word, brings_word, fits, may_come, Watched, may_all_come}
use Rattle.bsc_node.specs.Laws.{with_event, delivery}
use Rattle.bsc_node.proofs.Order.{in_order-brought}
use Rattle.bsc_node.proofs.Passing.{Passes, pass-in_order, pass-either, pass-when, pass-found, pass-nothing, pass-some}
use Rattle.bsc_node.proofs.Quiet.{is_quiet_action, quiet-tells_connector, quiet-ends, quiet-closes_link}
use Rattle.bsc_node.proofs.Heard.{LetsQuiet, lets-rule, pass-two-then, pass-meets_peer, pass-is_refused_by, quiet-takes_body}
use Rattle.bsc_node.proofs.Following.{pass-follows, opened-dialled, the_last, goes_on-is}
use Rattle.bsc_node.proofs.Slotting.{SlotsFine, ups_none, quiet_ups_none, fine-lines, fine-meets_direct}
use Rattle.bsc_node.proofs.Named.{met-unicast}
use Rattle.bsc_lemmas.proofs.Booleans.{and_left, and_right}
use Rattle.std.proofs.lemmas.Bool.{and_from as both, or_left as or_first, or_right as or_true}
use Rattle.std.proofs.lemmas.Option.{same_Some as some_same}

-- ---- links begin only under the names of slots

quiet_begins_by : (action : Action) → is_quiet_action action ≡ true → begins_in_slots (did action) ≡ true
quiet_begins_by (Dial (Hub s) uri) h = refl
quiet_begins_by (Dial (Direct k) uri) h = cc
quiet_begins_by (Take name) h = cc
quiet_begins_by action h = refl

quiet_begins : LetsQuiet begins_in_slots
quiet_begins (did action) h = quiet_begins_by action h
quiet_begins m h = refl

one_number : (j k : ℕ) → j ≡ k → (k == j) ≡ true
one_number j k e = grind arith

-- a slot that is found is one of the node's
found_in : (test : ℕ → Bool) (ks : List ℕ) (k : ℕ) → find test ks ≡ Some k → list_any (λ j. k == j) ks ≡ true
found_in test [] k h = cc
found_in test (j ∷ ks) k h = by (test j) h (found_in test ks k)
  where
    by : (b : Bool) → cond b (Some j) (find test ks) ≡ Some k → (find test ks ≡ Some k → list_any (λ i. k == i) ks ≡ true) → ((k == j) || list_any (λ i. k == i) ks) ≡ true
    by true g later = or_first (k == j) (list_any (λ i. k == i) ks) (one_number j k (some_same j k g))
    by false g later = or_true (k == j) (list_any (λ i. k == i) ks) (later g)

pub free_in_slots : (L : Log) (k : ℕ) → free_slot L ≡ Some k → is_in_slots k ≡ true
free_in_slots L k h = found_in (λ j. not (is_claimed (slot_calls L) j)) slots k h

-- a link that began, in such a log, has the name of a slot
begun_name : (j k : ℕ) (b taken : Bool) → (j == k) ≡ b → is_some (cond b (Some taken) None) ≡ true → is_in_slots j ≡ true → is_in_slots k ≡ true
begun_name j k true taken e h here = subst (λ (i : ℕ). is_in_slots i ≡ true) (eqb-true j k e) here
begun_name j k false taken e h here = cc

begun_line : (m : Line) (k : ℕ) → begins (Direct k) m ≡ true → begins_in_slots m ≡ true → is_in_slots k ≡ true
begun_line (did (Dial (Direct j) uri)) k h here = begun_name j k (j == k) false refl h here
begun_line (did (Take (Direct j))) k h here = begun_name j k (j == k) true refl h here
begun_line m k h here = cc

begun_slot : (L : Log) (k : ℕ) → list_all begins_in_slots L ≡ true → list_any (begins (Direct k)) L ≡ true → is_in_slots k ≡ true
begun_slot [] k h b = cc
begun_slot (m ∷ L) k h b = by (begins (Direct k) m) refl b (begun_slot L k (and_right (begins_in_slots m) (list_all begins_in_slots L) h))
  where
    by : (d : Bool) → begins (Direct k) m ≡ d → (d || list_any (begins (Direct k)) L) ≡ true → (list_any (begins (Direct k)) L ≡ true → is_in_slots k ≡ true) → is_in_slots k ≡ true
    by true e g later = begun_line m k e (and_left (begins_in_slots m) (list_all begins_in_slots L) h)
    by false e g later = later g

-- ---- what every event leaves

-- What holds of a log, whatever came.
pub record Fine (L : Log) : Type 0 where
  pub slots : SlotsFine (slot_calls L)
  pub begun : list_all begins_in_slots L ≡ true

pub there_in_slots : (L : Log) (k : ℕ) → Fine L → is_there (Direct k) L ≡ true → is_in_slots k ≡ true
there_in_slots L k f h = begun_slot L k f.begun (and_left (list_any (begins (Direct k)) L) (not (list_any (is_over_by (Direct k)) (life L (Direct k)))) h)

pub event_fits : (L : Log) (e : TimedEvent) → IsTrue (may_come L e) → fits L e.event ≡ true
event_fits L e h = the_last (nat_le (now L) e.now) (nat_lt e.now (2 ^ 62)) (if brings_word e.event then awaits_word L else not (awaits_word L)) (fits L e.event) h

came_in_slots : (L : Log) (e : TimedEvent) (k : ℕ) (o : List ℕ) → Fine L → IsTrue (may_come L e) → e.event ≡ Came (Direct k) o → is_in_slots k ≡ true
came_in_slots L e k o f h is =
    there_in_slots L k f (and_left (is_there (Direct k) L) (was_taken (Direct k) L || has_opened (Direct k) L) (sym (ap (fits L) is) ∙ event_fits L e h))

failed_in_slots : (L : Log) (e : TimedEvent) (k : ℕ) → Fine L → IsTrue (may_come L e) → e.event ≡ DialFailed (Direct k) → is_in_slots k ≡ true
failed_in_slots L e k f h is =
    there_in_slots L k f (first_of_three (is_there (Direct k) L) (not (was_taken (Direct k) L)) (not (has_opened (Direct k) L)) (sym (ap (fits L) is) ∙ event_fits L e h))
  where
    first_of_three : (p q r : Bool) → (p && q && r) ≡ true → p ≡ true
    first_of_three true q r g = refl
    first_of_three false q r g = cc

-- ---- lines that pass both tests, where no peer of a direct connection names itself

abbrev meets_slot : LinkName → Outcome → Bool
meets_slot (Direct k) (meets who) = true
meets_slot name o = false

-- a test that quiet lines pass, and those that put or deliver too
pub record LetsMessages (test : Line → Bool) : Type 0 where
  pub quiet : LetsQuiet test
  pub put : (name : LinkName) (o : List ℕ) → test (did (Put name o)) ≡ true
  pub deliver : (d : Delivered) → test (did (Deliver d)) ≡ true

messages_ups : LetsMessages ups_none
messages_ups = record { quiet = quiet_ups_none; put = λ name o. refl; deliver = λ d. refl }

messages_begins : LetsMessages begins_in_slots
messages_begins = record { quiet = quiet_begins; put = λ name o. refl; deliver = λ d. refl }

pub pass-takes_body : (test : Line → Bool) → LetsMessages test → (a : Made) (name : LinkName) (msg : Message) (body : Body) → Passes test (takes_body a name msg body)
pass-takes_body test lets a name msg (Npdu npdu) = λ L.
    pass-some test (sender name msg L) (delivers msg npdu) nothing (λ v M. both (test (did (Deliver (delivery msg npdu v)))) true (lets.deliver (delivery msg npdu v)) refl) (pass-nothing test) L
pass-takes_body test lets a name msg body = lets-rule test lets.quiet (takes_body a name msg body) (quiet-takes_body a name msg body refl)

pub pass-sends : (test : Line → Bool) → LetsMessages test → (v : Vmac) (npdu : List ℕ) → Passes test (sends v npdu)
pass-sends test lets v npdu =
    pass-found test (way v) (λ w. either (other_end_takes w npdu) (puts_own w (Npdu npdu)) (tells (TooLong v))) (tells (NoPath v))
    (λ w. pass-either test (other_end_takes w npdu) (puts_own w (Npdu npdu)) (tells (TooLong v))
    (λ L. both (test (did (Put w.link (own_message w (Npdu npdu) L)))) true (lets.put w.link (own_message w (Npdu npdu) L)) refl)
    (lets-rule test lets.quiet (tells (TooLong v)) (λ L. refl)))
    (lets-rule test lets.quiet (tells (NoPath v)) (λ L. refl))

pass-puts : (test : Line → Bool) → LetsMessages test → (name : LinkName) (o : List ℕ) → Passes test (does (Put name o))
pass-puts test lets name o L = both (test (did (Put name o))) true (lets.put name o) refl

pass-obeys_by : (test : Line → Bool) → LetsMessages test → test (did Draw) ≡ true → (a : Made) (name : LinkName) (o : Outcome) → meets_slot name o ≡ false → Passes test (obeys_by a name o)
pass-obeys_by test lets draw a name (puts o) h = pass-puts test lets name o
pass-obeys_by test lets draw a name (puts_and_closes o closing) h =
    pass-in_order test (carries_out_by name (puts_and_closes o closing) ∷ ends a name ∷ []) (
      pass-in_order test (does (Put name o) ∷ does (Close name closing) ∷ []) (pass-puts test lets name o, (lets-rule test lets.quiet (does (Close name closing)) (λ L. refl), tt)),
      (lets-rule test lets.quiet (ends a name) (quiet-ends a name), tt),
    )
pass-obeys_by test lets draw a name (closes closing) h = lets-rule test lets.quiet (closes_link a name closing) (quiet-closes_link a name closing)
pass-obeys_by test lets draw a (Hub s) (meets who) h =
    pass-when test (is_under_way a s) (tells_connector a (Connected s)) (lets-rule test lets.quiet (tells_connector a (Connected s)) (quiet-tells_connector a (Connected s)))
pass-obeys_by test lets draw a (Direct k) (meets who) h = cc
pass-obeys_by test lets draw a name (is_refused origin code) h = pass-is_refused_by test lets.quiet draw a name origin code
pass-obeys_by test lets draw a name (passes_up msg) h = pass-takes_body test lets a name msg msg.body
pass-obeys_by test lets draw a name keeps_still h = pass-nothing test

-- ---- a message that came

-- what the machine is told is told to no slot
machine_calls : (b : Bool) (dialled : LinkName → InitEvent) (taken : LinkName → Event) (name : LinkName) (lines : List Line)
    → filter_map slot_call_of (by_machine dialled taken name b ++ lines) ≡ filter_map slot_call_of lines
machine_calls true dialled taken name lines = refl
machine_calls false dialled taken name lines = refl

hears_calls : (a : Made) (name : LinkName) (o : List ℕ) (M : Log) (lines : List Line) → filter_map slot_call_of (hears a name o M ++ lines) ≡ filter_map slot_call_of lines
hears_calls a name o M lines = machine_calls (was_taken name M) (λ n. InitMessage (now M) (verdict a M n o)) (λ n. AcceptMessage (now M) (verdict a M n o)) name lines

heard_calls : (a : Made) (name : LinkName) (o : List ℕ) (M : Log) → slot_calls (M ++ hears a name o M) ≡ slot_calls M
heard_calls a name o M =
    filter_map-append slot_call_of M (hears a name o M)
    ∙ ap (λ (told : List SlotCall). slot_calls M ++ told) (ap (filter_map slot_call_of) (sym (append-nil (hears a name o M))) ∙ hears_calls a name o M [])
    ∙ append-nil (slot_calls M)

came_calls : (a : Made) (name : LinkName) (o : List ℕ) (M : Log) → filter_map slot_call_of (follows a (Came name o) M) ≡ filter_map slot_call_of (obeys a name (M ++ hears a name o M))
came_calls a name o M =
    ap (filter_map slot_call_of) (in_order-brought (hears a name o ∷ obeys a name ∷ []) M)
    ∙ hears_calls a name o M (obeys a name (M ++ hears a name o M) ++ [])
    ∙ ap (filter_map slot_call_of) (append-nil (obeys a name (M ++ hears a name o M)))

obeyed : (a : Made) (name : LinkName) (N : Log) (u : Outcome) → SlotsFine (slot_calls N) → ((k : ℕ) → name ≡ Direct k → is_in_slots k ≡ true)
    → ((who : Identity) → u ≡ meets who → same_vmac who.vmac broadcast ≡ false)
    → SlotsFine (slot_calls N ++ filter_map slot_call_of (obeys_by a name u N))
obeyed a (Direct k) N (meets who) f here unicast = fine-meets_direct a k who N (here k refl) (unicast who refl) f
obeyed a name N u f here unicast = fine-lines (obeys_by a name u N) (slot_calls N) (pass-obeys_by ups_none messages_ups refl a name u refl N) f

slots_came : (a : Made) (name : LinkName) (o : List ℕ) (M : Log) → SlotsFine (slot_calls M) → ((k : ℕ) → name ≡ Direct k → is_in_slots k ≡ true)
    → SlotsFine (slot_calls M ++ filter_map slot_call_of (follows a (Came name o) M))
slots_came a name o M f here =
    subst (λ (told : List SlotCall). SlotsFine (slot_calls M ++ told)) (sym (came_calls a name o M))
    (subst (λ (calls : List SlotCall). SlotsFine (calls ++ filter_map slot_call_of (obeys a name (M ++ hears a name o M)))) (heard_calls a name o M)
    (obeyed a name (M ++ hears a name o M) (outcome a (M ++ hears a name o M) name) (subst SlotsFine (sym (heard_calls a name o M)) f) here (λ who. met-unicast a name o M who)))

begins_came : (a : Made) (name : LinkName) (o : List ℕ) (M : Log) → list_all begins_in_slots (follows a (Came name o) M) ≡ true
begins_came a name o M =
    pass-two-then begins_in_slots (hears a name o) (obeys a name) [] M (machine (was_taken name M)) (by name (outcome a (M ++ hears a name o M) name) (M ++ hears a name o M)) tt
  where
    machine : (b : Bool) → list_all begins_in_slots (by_machine (λ n. InitMessage (now M) (verdict a M n o)) (λ n. AcceptMessage (now M) (verdict a M n o)) name b) ≡ true
    machine true = refl
    machine false = refl

    by : (name : LinkName) (u : Outcome) (N : Log) → list_all begins_in_slots (obeys_by a name u N) ≡ true
    by (Direct k) (meets who) N = pass-meets_peer begins_in_slots quiet_begins (λ j w. refl) a (Direct k) who N
    by name u N = pass-obeys_by begins_in_slots messages_begins refl a name u refl N

-- ---- every event

abbrev Given : Log → TimedEvent → Type 0
Given L e = Fine L × IsTrue (may_come L e)

slots_follow : (a : Made) (L : Log) (e : TimedEvent) (M : Log) (ev : NodeEvent) → e.event ≡ ev → Given L e → SlotsFine (slot_calls M)
    → ((name : LinkName) → ev ≡ Opened name → was_taken name M ≡ false) → SlotsFine (slot_calls M ++ filter_map slot_call_of (follows a ev M))
slots_follow a L e M (Came name o) is g f d = slots_came a name o M f (λ k n. came_in_slots L e k o g.0 g.1 (is ∙ ap (λ (m : LinkName). Came m o) n))
slots_follow a L e M (Send dest npdu) is g f d = fine-lines (sends dest npdu M) (slot_calls M) (pass-sends ups_none messages_ups dest npdu M) f
slots_follow a L e M ev is g f d =
    fine-lines (follows a ev M) (slot_calls M) (pass-follows ups_none quiet_ups_none a M ev refl refl
    (record { dialled = d; next = λ name k i n uri. refl; dial = λ k free uri. refl; take = λ k free. refl })) f

begins_follow : (a : Made) (L : Log) (e : TimedEvent) (M : Log) (ev : NodeEvent) → e.event ≡ ev → Given L e → ((name : LinkName) → ev ≡ Opened name → was_taken name M ≡ false)
    → list_all begins_in_slots (follows a ev M) ≡ true
begins_follow a L e M (Came name o) is g d = begins_came a name o M
begins_follow a L e M (Send dest npdu) is g d = pass-sends begins_in_slots messages_begins dest npdu M
begins_follow a L e M ev is g d =
    pass-follows begins_in_slots quiet_begins a M ev refl refl
    (record {
      dialled = d;
      next = λ name k i n uri. failed_in_slots L e k g.0 g.1 (is ∙ i ∙ ap (λ (m : LinkName). DialFailed m) n);
      dial = λ k free uri. free_in_slots M k free;
      take = λ k free. free_in_slots M k free;
    })

-- A fine log stays so by an event that may come.
pub fine-goes_on : (a : Made) (L : Log) (e : TimedEvent) → Fine L → IsTrue (may_come L e) → Fine (L ++ goes_on a e L)
fine-goes_on a L e f h =
    subst (λ (lines : List Line). Fine (L ++ lines)) (sym (goes_on-is a L e))
    (record {
      slots = subst SlotsFine (sym calls_are) (slots_follow a L e (with_event L e) e.event refl (f, h) (subst SlotsFine (sym event_calls) f.slots) (λ name is. opened-dialled L e name is h));
      begun = list_all-append begins_in_slots L (came e ∷ follows a e.event (with_event L e))
          ∙ both (list_all begins_in_slots L) (list_all begins_in_slots (follows a e.event (with_event L e))) f.begun
          (begins_follow a L e (with_event L e) e.event refl (f, h) (λ name is. opened-dialled L e name is h));
    })
  where
    event_calls : slot_calls (with_event L e) ≡ slot_calls L
    event_calls = filter_map-append slot_call_of L (came e ∷ []) ∙ append-nil (slot_calls L)

    calls_are : slot_calls (L ++ came e ∷ follows a e.event (with_event L e)) ≡ slot_calls (with_event L e) ++ filter_map slot_call_of (follows a e.event (with_event L e))
    calls_are =
        filter_map-append slot_call_of L (came e ∷ follows a e.event (with_event L e))
        ∙ ap (λ (calls : List SlotCall). calls ++ filter_map slot_call_of (follows a e.event (with_event L e))) (sym (filter_map-append slot_call_of L (came e ∷ []) ∙ append-nil (slot_calls L)))

-- ---- all events

-- what `may_all_come` keeps, after one event more
abbrev pub watch : Made → Watched → TimedEvent → Watched
watch a w e = record { log = w.log ++ goes_on a e w.log; fine = w.fine && may_come w.log e }

pub was_fine : (a : Made) (events : List TimedEvent) (w : Watched) → (fold (watch a) w events).fine ≡ true → w.fine ≡ true
was_fine a [] w h = h
was_fine a (e ∷ events) w h = and_left w.fine (may_come w.log e) (was_fine a events (watch a w e) h)

fine_after : (a : Made) (events : List TimedEvent) (w : Watched) → Fine w.log → (fold (watch a) w events).fine ≡ true → Fine (fold (λ (L : Log) (e : TimedEvent). L ++ goes_on a e L) w.log events)
fine_after a [] w f h = f
fine_after a (e ∷ events) w f h =
    fine_after a events (watch a w e) (fine-goes_on a w.log e f (and_right w.fine (may_come w.log e) (was_fine a events (watch a w e) h))) h

fine_at_first : Fine []
fine_at_first = record {
  slots = record { apart = λ i j x y n hi hj. cc; unicast = λ k who h. cc; within = λ k who h. cc };
  begun = refl;
}

-- The log of a node to which only events came that may come is fine.
pub fine-log : (a : Made) (events : List TimedEvent) → IsTrue (may_all_come a events) → Fine (log a events)
fine-log a events h = fine_after a events (record { log = []; fine = true }) fine_at_first h
