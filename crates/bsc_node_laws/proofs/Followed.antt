-- What follows from an event fits where it stands: from each event between two others, and from the start.
-- It serves the clauses of `links_begin_anew`.
use Rattle.std.proofs.Common.{◌≡◌, ℕ, Bool, true, false, not, ◌&&◌, List, [], ◌∷◌, ◌++◌, Option, Some, None, inl, inr, refl, ap, sym, ◌∙◌, subst}
use Rattle.std.specs.Prelude.{IsTrue}
use Rattle.std.specs.List.{list_any}
use Rattle.std.proofs.lemmas.List.{append-nil}
use Rattle.std.proofs.lemmas.List.Elements.{filter_map-append}
use Rattle.bsc_connector.specs.declared.side.Side.TheVariants.{Primary}
use Rattle.bsc_connector.specs.declared.event.ConnectorEvent.TheVariants.{Start as ConnectorStart}
use Rattle.bsc_accept.specs.declared.reason.Reason.TheVariants.{Nothing, TableFull}
use Rattle.bsc_accept.specs.Steps.{closing}
use Rattle.bsc_direct.specs.Slots as Slots
use Rattle.bsc_direct.specs.declared.call.SlotCall.{SlotCall}
use Rattle.bsc_direct.specs.declared.call.SlotCall.TheVariants.{Claim}
use Rattle.bsc_node.specs.declared.link_name.LinkName.{LinkName}
use Rattle.bsc_node.specs.declared.link_name.LinkName.TheVariants.{Hub, Direct}
use Rattle.bsc_node.specs.declared.node_event.NodeEvent.{NodeEvent}
use Rattle.bsc_node.specs.declared.node_event.NodeEvent.TheVariants.{Start, Opened, DialFailed, Arrived, Came, CameText, Lost, Tick, Send, Resolve, DirectTo, Solicit, Finish, Random, NoRandom}
use Rattle.bsc_node.specs.declared.note.Note.{Note}
use Rattle.bsc_node.specs.declared.note.Note.TheVariants.{Renewed, NoRandom as ToldNoRandom}
use Rattle.bsc_node.specs.declared.timed_event.TimedEvent.{TimedEvent}
use Rattle.bsc_node.specs.declared.action.Action.TheVariants.{Dial, Take, Refuse, Tell}
use Rattle.bsc_node.specs.Logs.{Made, Line, came, connector, did, Log, in_order, with_some, does, tells, now, next_id, own_vmac}
use Rattle.bsc_node.specs.Links.{is_over_by_event, is_there, was_taken, opens, hears}
use Rattle.bsc_node.specs.Ways.{slot_call_of, slot_calls, free_slot, slots_see}
use Rattle.bsc_node.specs.Meeting.{ends_refused}
use Rattle.bsc_node.specs.Requesting.{sends, resolves, solicits}
use Rattle.bsc_node.specs.Events.{obeys, follows}
use Rattle.bsc_node.specs.Node.{goes_on}
use Rattle.bsc_node.specs.Conditions.{is_start, has_opened, brings_word, fits, may_come}
use Rattle.bsc_node.specs.Laws.{with_event}
use Rattle.bsc_node.proofs.Order.{in_order-brought, in_order-cons}
use Rattle.bsc_node.proofs.Told.{same_link-self}
use Rattle.bsc_node.proofs.Following.{goes_on-is}
use Rattle.bsc_node.proofs.Lasting.{free_in_slots, there_in_slots, event_fits}
use Rattle.bsc_node_laws.specs.Links.{opens_at, LogGoesOn, Admits}
use Rattle.bsc_node_laws.proofs.Tied.{Tied, EachFits}
use Rattle.bsc_node_laws.proofs.Between.{Between}
use Rattle.bsc_node_laws.proofs.There.{gone-stays}
use Rattle.bsc_node_laws.proofs.Tying.{keeps_event, keeps_opened, free_gone}
use Rattle.bsc_node_laws.proofs.Plain.{plain-hears, plain-sends, plain-resolves, plain-solicits}
use Rattle.bsc_node_laws.proofs.Fitting.{fit-plain, fit-then, fit-last, fit-in_order, over, fit-ends, fit-closes_link}
use Rattle.bsc_node_laws.proofs.Obeying.{fit-obeys, fit-time_passes, fit-is_to_end, fit-directs, MayDialNext, fit-dial_fails, fit-ends_refused}
use Rattle.bsc_lemmas.proofs.Booleans.{and_left}
use Rattle.bsc_node.proofs.Common.{word_awaited}
use Rattle.bsc_node.proofs.There.{there-over}

-- ---- what an event is, once it came

-- the slots as they were
event_calls : (L : Log) (e : TimedEvent) → slot_calls (with_event L e) ≡ slot_calls L
event_calls L e = filter_map-append slot_call_of L (came e ∷ []) ∙ append-nil (slot_calls L)

-- the link that the event ends is over
ended_gone : (L : Log) (e : TimedEvent) (name : LinkName) (ev : NodeEvent) → e.event ≡ ev → is_over_by_event name ev ≡ true → is_there name (with_event L e) ≡ false
ended_gone L e name ev is h = there-over name L (came e) refl (ap (is_over_by_event name) is ∙ h)

-- the condition on an event is met
fitting : (L : Log) (e : TimedEvent) (ev : NodeEvent) → IsTrue (may_come L e) → e.event ≡ ev → fits L ev ≡ true
fitting L e ev h is = sym (ap (fits L) is) ∙ event_fits L e h

-- the link whose dial failed was there
failed_there : (L : Log) (e : TimedEvent) (name : LinkName) → IsTrue (may_come L e) → e.event ≡ DialFailed name → is_there name L ≡ true
failed_there L e name h is =
    and_left (is_there name L) (not (was_taken name L)) (and_left (is_there name L && not (was_taken name L)) (not (has_opened name L)) (fitting L e (DialFailed name) h is))

-- its slot may dial again
may_dial_next : (a : Made) (L : Log) (e : TimedEvent) (name : LinkName) → Between a L → is_there name L ≡ true → MayDialNext name (with_event L e)
may_dial_next a L e (Hub s) b there = tt
may_dial_next a L e (Direct k) b there = (ap (λ (calls : List SlotCall). Slots.is_claimed calls k) (event_calls L e) ∙ b.tied.claimed k there, there_in_slots L k b.fine there)

-- ---- what follows from an event

-- What follows from this event: that a link opens, where one does, and then lines that fit.
abbrev pub Follows : Made → Log → NodeEvent → Type 0
Follows a M ev = (lines : List Line) × (follows a ev M ≡ opens_at ev M ++ lines) × EachFits a (M ++ opens_at ev M) lines

-- where no link opens
follow_by : (a : Made) (M : Log) (ev : NodeEvent) → opens_at ev M ≡ [] → EachFits a M (follows a ev M) → Follows a M ev
follow_by a M ev none f = (follows a ev M, ap (λ (opened : List Line). opened ++ follows a ev M) (sym none), subst (λ (N : Log). EachFits a N (follows a ev M)) (sym same) f)
  where
    same : M ++ opens_at ev M ≡ M
    same = ap (λ (opened : List Line). M ++ opened) none ∙ append-nil M

-- where the link opens that was dialled
follow_opened : (a : Made) (M : Log) (name : LinkName) → Tied a M → Follows a M (Opened name)
follow_opened a M name t =
    (in_order (obeys a name ∷ []) opened, in_order-cons (opens name) (obeys a name ∷ []) M, fit-last a (obeys a name) opened (fit-obeys a name opened (keeps_opened a M name (now M) (next_id M) t)))
  where
    opened : Log
    opened = M ++ opens name M

-- a word came, or none could be drawn: that is told, and the refused link is over
fit_word : (a : Made) (M : Log) (note : Log → Note) → Tied a M → is_there (Hub Primary) M ≡ false → EachFits a M (did (Tell (note M)) ∷ [])
    → EachFits a M (in_order ((λ N. tells (note N) N) ∷ ends_refused a ∷ []) M)
fit_word a M note t gone f =
    fit-then a (λ N. tells (note N) N) (ends_refused a ∷ []) M t f
    (λ u. fit-last a (ends_refused a) (M ++ did (Tell (note M)) ∷ []) (fit-ends_refused a (M ++ did (Tell (note M)) ∷ []) u (gone-stays (Hub Primary) M (did (Tell (note M))) refl gone)))

abbrev pub is_arrival : NodeEvent → Bool
is_arrival Arrived = true
is_arrival ev = false

-- an event that may come between two others, and the log once it came
module _ (a : Made) (L : Log) (e : TimedEvent) (b : Between a L) (h : IsTrue (may_come L e)) where
  abbrev M : Log
  M = with_event L e

  tied : Tied a M
  tied = keeps_event a L e b.tied

  primary_gone : brings_word e.event ≡ true → is_there (Hub Primary) M ≡ false
  primary_gone w = gone-stays (Hub Primary) L (came e) refl (b.word (word_awaited L e h w))

  -- the node doesn't start again
  again : list_any is_start L ≡ true → not (list_any is_start L) ≡ true → Follows a M Start
  again x y = cc

  follow : (ev : NodeEvent) → e.event ≡ ev → is_arrival ev ≡ false → Follows a M ev
  follow Start is r = again b.started (fitting L e Start h is)
  follow (Opened name) is r = follow_opened a M name tied
  follow (DialFailed name) is r =
      follow_by a M (DialFailed name) refl
      (fit-dial_fails a name M tied (ended_gone L e name (DialFailed name) is (same_link-self name)) (may_dial_next a L e name b (failed_there L e name h is)))
  follow Arrived is r = cc
  follow (Came name o) is r =
      follow_by a M (Came name o) refl (fit-in_order a (hears a name o ∷ obeys a name ∷ []) (fit-plain a (hears a name o) (plain-hears a name o), (fit-obeys a name, tt)) M tied)
  follow (CameText name) is r = follow_by a M (CameText name) refl (fit-closes_link a name (closing 1003 Nothing) M tied)
  follow (Lost name) is r = follow_by a M (Lost name) refl (fit-ends a name M tied (over name M (ended_gone L e name (Lost name) is (same_link-self name))))
  follow Tick is r = follow_by a M Tick refl (fit-time_passes a M tied)
  follow (Send dest npdu) is r = follow_by a M (Send dest npdu) refl (fit-plain a (sends dest npdu) (plain-sends dest npdu) M tied)
  follow (Resolve v) is r = follow_by a M (Resolve v) refl (fit-plain a (resolves a v) (plain-resolves a v) M tied)
  follow (DirectTo v) is r = follow_by a M (DirectTo v) refl (fit-directs a v M tied)
  follow (Solicit v) is r = follow_by a M (Solicit v) refl (fit-plain a (solicits v) (plain-solicits v) M tied)
  follow Finish is r = follow_by a M Finish refl (fit-is_to_end a M tied)
  follow (Random w) is r = follow_by a M (Random w) refl (fit_word a M (λ N. Renewed (own_vmac a N)) tied (primary_gone (ap brings_word is)) (tt, tt))
  follow NoRandom is r = follow_by a M NoRandom refl (fit_word a M (λ N. ToldNoRandom) tied (primary_gone (ap brings_word is)) (tt, tt))

-- What follows from an event that may come between two others fits, but where a link arrives.
pub fit_follows : (a : Made) (L : Log) (e : TimedEvent) → Between a L → IsTrue (may_come L e) → is_arrival e.event ≡ false → Follows a (with_event L e) e.event
fit_follows a L e b h r = follow a L e b h e.event refl r

-- ---- a link arrives

-- A link that arrives is taken as that of a free slot, or refused.
pub arrives_is : (a : Made) (L : Log) (e : TimedEvent) → Between a L → e.event ≡ Arrived → Admits a L e
arrives_is a L e b is = by (free_slot (with_event L e)) refl
  where
    takes : ℕ → Log → List Line
    takes k = in_order (slots_see (Claim k None) ∷ does (Take (Direct k)) ∷ [])

    refuse : Log → List Line
    refuse = does (Refuse (closing 1008 TableFull))

    found : (o : Option ℕ) → free_slot (with_event L e) ≡ o → goes_on a e L ≡ came e ∷ with_some o takes refuse (with_event L e)
    found o h =
        goes_on-is a L e ∙ ap (λ (ev : NodeEvent). came e ∷ follows a ev (with_event L e)) is ∙ ap (λ (x : Option ℕ). came e ∷ with_some x takes refuse (with_event L e)) h

    by : (o : Option ℕ) → free_slot (with_event L e) ≡ o → Admits a L e
    by (Some k) h =
        inl (
          k,
          found (Some k) h ∙ ap (λ (lines : List Line). came e ∷ lines) (in_order-brought (slots_see (Claim k None) ∷ does (Take (Direct k)) ∷ []) (with_event L e)),
          free_gone a L k b.tied (sym (ap Slots.free_slot (event_calls L e)) ∙ h),
          free_in_slots (with_event L e) k h,
        )
    by None h = inr (found None h)

-- ---- the start

-- the start, at a time
abbrev start_at : ℕ → TimedEvent
start_at n = record { now = n; event = Start }

-- the lines that follow from it: the connector is told of the start, and the primary hub is dialled
abbrev start_lines : Made → ℕ → List Line
start_lines a n = connector (record { now = n; event = ConnectorStart }) ∷ did (Dial (Hub Primary) a.limits.primary) ∷ []

begun_is : (a : Made) (n : ℕ) → goes_on a (start_at n) [] ≡ came (start_at n) ∷ start_lines a n
begun_is a n = refl

begun_tied : (a : Made) (n : ℕ) → Tied a (goes_on a (start_at n) [])
begun_tied a n = subst (Tied a) (sym (begun_is a n)) (record { primary = λ h. refl; claimed = λ k h. cc })

begun_goes_on : (a : Made) (n : ℕ) → LogGoesOn a [] (start_at n)
begun_goes_on a n = record { lines = start_lines a n; is = begun_is a n; may = (tt, ((refl, refl), tt)) }

start_is : (e : TimedEvent) → e.event ≡ Start → start_at e.now ≡ e
start_is e is = ap (λ (ev : NodeEvent). record { now = e.now; event = ev }) (sym is)

-- At the start the connector is told so and the primary hub is dialled, and the log is tied then.
pub first_goes_on : (a : Made) (e : TimedEvent) → e.event ≡ Start → LogGoesOn a [] e
first_goes_on a e is = subst (LogGoesOn a []) (start_is e is) (begun_goes_on a e.now)

pub first_tied : (a : Made) (e : TimedEvent) → e.event ≡ Start → Tied a (goes_on a e [])
first_tied a e is = subst (λ (x : TimedEvent). Tied a (goes_on a x [])) (start_is e is) (begun_tied a e.now)

-- the lines of the start
pub first_lines : (a : Made) (e : TimedEvent) → e.event ≡ Start
    → goes_on a e [] ≡ came e ∷ connector (record { now = e.now; event = ConnectorStart }) ∷ did (Dial (Hub Primary) a.limits.primary) ∷ []
first_lines a e is = subst (λ (x : TimedEvent). goes_on a x [] ≡ came x ∷ start_lines a e.now) (start_is e is) (begun_is a e.now)
