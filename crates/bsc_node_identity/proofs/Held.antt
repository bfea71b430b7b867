-- The link of an established slot is there: it comes up only over a link that is, and is released wherever its link is over.
-- It serves clauses of functions of `laws`.
use Rattle.std.proofs.Common.{◌≡◌, ℕ, Bool, true, false, not, cond, ◌||◌, List, [], ◌∷◌, ◌++◌, Option, Some, None, is_some, refl, ap, sym, ◌∙◌, subst}
use Rattle.std.specs.Prelude.{◌==◌, IsTrue, map}
use Rattle.std.proofs.lemmas.Bool.{eqb-true}
use Rattle.std.proofs.lemmas.List.{append_assoc}
use Rattle.bsc_octets.specs.declared.vmac.Vmac.{Vmac}
use Rattle.bsc_octets.specs.declared.identity.Identity.{Identity}
use Rattle.bsc_connector.specs.declared.event.ConnectorEvent.TheVariants.{Start as ConnectorStart, Connected, Tick as ConnectorTick}
use Rattle.bsc_accept.specs.declared.reason.Reason.TheVariants.{Nothing}
use Rattle.bsc_accept.specs.declared.event.Event.{Event}
use Rattle.bsc_accept.specs.declared.event.Event.TheVariants.{Message as AcceptMessage, Joined, Tick as AcceptTick}
use Rattle.bsc_accept.specs.Messages.{connect_accept}
use Rattle.bsc_accept.specs.Steps.{closing, normal, asked_id}
use Rattle.bsc_frame.specs.Spelling.{spelling}
use Rattle.bsc_initiate.specs.declared.event.InitEvent.{InitEvent}
use Rattle.bsc_initiate.specs.declared.event.InitEvent.TheVariants.{Message as InitMessage, Tick as InitTick}
use Rattle.bsc_direct.specs.declared.call.SlotCall.TheVariants.{Up}
use Rattle.bsc_direct.specs.declared.establish.Establish.{Establish}
use Rattle.bsc_direct.specs.declared.establish.Establish.TheVariants.{Up as IsUp, Duplicate, WrongPeer}
use Rattle.bsc_node.specs.declared.link_name.LinkName.{LinkName}
use Rattle.bsc_node.specs.declared.link_name.LinkName.TheVariants.{Hub, Direct}
use Rattle.bsc_node.specs.declared.node_event.NodeEvent.{NodeEvent}
use Rattle.bsc_node.specs.declared.node_event.NodeEvent.TheVariants.{Start, Opened, DialFailed, Arrived, Came, CameText, Lost, Tick, Send, Resolve, DirectTo, Solicit, Finish, Random, NoRandom}
use Rattle.bsc_node.specs.declared.note.Note.TheVariants.{DirectUp, NoDirect}
use Rattle.bsc_node.specs.declared.timed_event.TimedEvent.{TimedEvent}
use Rattle.bsc_node.specs.declared.action.Action.TheVariants.{Dial, Put, Close, Draw}
use Rattle.bsc_node.specs.Logs.{Made, Line, came, did, slot, initiating, accepting, Log, Rule, nothing, in_order, either, with_some, where_found, does, tells, now, next_id}
use Rattle.bsc_node.specs.Links.{names, same_link, is_over_by_event, is_there, was_taken, start, accepting_events, verdict, by_machine, opens, hears, ticks}
use Rattle.bsc_node.specs.Links.{Outcome, puts, puts_and_closes, closes, meets, is_refused, passes_up, keeps_still, outcome}
use Rattle.bsc_node.specs.Hubs.{is_under_way}
use Rattle.bsc_node.specs.Ways.{awaits_peer, wanted, next_uri, establish, slots_see}
use Rattle.bsc_node.specs.Ending.{carries_out_by, carries_out, tells_connector, tells_finished, ends, closes_link, finishes_link}
use Rattle.bsc_node.specs.Meeting.{joins, refuses, wrong_peer, finishes_replaced, comes_up, meets_dialled, meets_taken, meets_slot, meets_direct, meets_peer, tells_refusal}
use Rattle.bsc_node.specs.Meeting.{may_draw, is_refused_by, renews, keeps_vmac}
use Rattle.bsc_node.specs.Receiving.{takes_body}
use Rattle.bsc_node.specs.Requesting.{sends, resolves, solicits, directs}
use Rattle.bsc_node.specs.Events.{obeys_by, obeys, tries_next, dial_fails, arrives, ticks_link, ticks_resolution, time_passes, is_to_end, follows}
use Rattle.bsc_node.specs.Node.{goes_on}
use Rattle.bsc_node.specs.Conditions.{fits, may_come, has_opened}
use Rattle.bsc_node.specs.Laws.{with_event}
use Rattle.bsc_node.proofs.Common.{same_link-is}
use Rattle.bsc_node.proofs.Told.{outcome-accepting}
use Rattle.bsc_node.proofs.There.{there-other}
use Rattle.bsc_node.proofs.Following.{goes_on-is}
use Rattle.bsc_node.proofs.Lasting.{event_fits}
use Rattle.bsc_node.proofs.Passing.{pass-in_order, pass-either, pass-nothing, pass-when}
use Rattle.bsc_node_laws.proofs.There.{there-begun}
use Rattle.bsc_node_identity.proofs.Bare.{bare-arrives, bare-directs, bare-ends, bare-hears, bare-keeps_vmac, bare-renews, bare-tells_connector, bare-tells_finished, bare-ticks, bare-tries_next}
use Rattle.bsc_lemmas.proofs.Booleans.{and_left, first_of_three, eq_self}
use Rattle.bsc_node_identity.proofs.Holding.{HeldAt, is_mild, held-more, Mild, Holds, Restores, HoldEach, mild_bare, mild_holds, behind, nothing_more, holds-in_order}
use Rattle.bsc_node_identity.proofs.Holding.{restores-then, restores-last, holds-if, same_log, by_name, mild_close, mild_carries_by, mild_carries, restores_ends}
use Rattle.bsc_node_identity.proofs.Holding.{restores_ends_named, holds_over, holds_closes_link, holds_finishes_link, mild_takes_body, mild_sends, mild_resolves, mild_solicits}

-- ---- a peer has named itself

holds_finishes_replaced : (k : ℕ) (a : Made) (replaced : Option ℕ) → Holds k (finishes_replaced a replaced)
holds_finishes_replaced k a None = mild_holds k nothing (pass-nothing (is_mild k))
holds_finishes_replaced k a (Some j) = holds_finishes_link k a (Direct j)

-- A slot comes up over a link that is there.
held_up : (k j : ℕ) (who : Identity) (N : Log) → is_there (Direct j) N ≡ true → HeldAt k N → HeldAt k (N ++ slot (Up j who) ∷ [])
held_up k j who N there held = by (j == k) refl
  where
    by : (b : Bool) → (j == k) ≡ b → HeldAt k (N ++ slot (Up j who) ∷ [])
    by true is = λ w h. there-other (Direct k) N (slot (Up j who)) refl refl ∙ subst (λ (i : ℕ). is_there (Direct i) N ≡ true) (eqb-true j k is) there
    by false is = held-more k N (slot (Up j who)) (ap (λ (b : Bool). not (is_some (cond b (Some who) None))) is) held

held_comes_up : (k : ℕ) (a : Made) (j : ℕ) (who : Identity) (replaced : Option ℕ) (N : Log) → is_there (Direct j) N ≡ true → HeldAt k N → HeldAt k (N ++ comes_up a j who replaced N)
held_comes_up k a j who replaced N there held =
    behind k (slots_see (Up j who)) (tells (DirectUp who.vmac) ∷ finishes_replaced a replaced ∷ []) N
    (holds-in_order k (tells (DirectUp who.vmac) ∷ finishes_replaced a replaced ∷ []) (mild_holds k (tells (DirectUp who.vmac)) (λ M. refl), (holds_finishes_replaced k a replaced, tt))
    (N ++ slot (Up j who) ∷ []) (held_up k j who N there held))

held_meets_dialled : (k : ℕ) (a : Made) (j : ℕ) (who : Identity) (answer : Establish) (N : Log) → is_there (Direct j) N ≡ true → HeldAt k N → HeldAt k (N ++ meets_dialled a j who answer N)
held_meets_dialled k a j who (IsUp replaced) N there held = held_comes_up k a j who replaced N there held
held_meets_dialled k a j who (Duplicate holder) N there held = holds_closes_link k a (Direct j) wrong_peer N held
held_meets_dialled k a j who (WrongPeer v) N there held = holds_closes_link k a (Direct j) wrong_peer N held

-- a peer that is accepted gets its Connect-Accept, and then its slot comes up
held_accepts : (k : ℕ) (a : Made) (j : ℕ) (who : Identity) (replaced : Option ℕ) (N : Log) → is_there (Direct j) N ≡ true → was_taken (Direct j) N ≡ true → HeldAt k N
    → HeldAt k (N ++ meets_taken a j who (IsUp replaced) N)
held_accepts k a j who replaced N there taken held =
    behind k (joins (Direct j)) (carries_out a (Direct j) ∷ comes_up a j who replaced ∷ []) N
    (behind k (carries_out a (Direct j)) (comes_up a j who replaced ∷ []) joined
    (behind k (comes_up a j who replaced) [] (joined ++ carries_out a (Direct j) joined)
    (subst (HeldAt k) (sym (nothing_more ((joined ++ carries_out a (Direct j) joined) ++ comes_up a j who replaced (joined ++ carries_out a (Direct j) joined))))
    (held_comes_up k a j who replaced (joined ++ carries_out a (Direct j) joined) there_then held_then))))
  where
    joined : Log
    joined = N ++ accepting (Direct j) Joined ∷ []

    octets : List ℕ
    octets = spelling (connect_accept (asked_id (accepting_events N (Direct j))) (start a joined (Direct j)).own)

    puts_it : outcome a joined (Direct j) ≡ puts octets
    puts_it = outcome-accepting a N (Direct j) Joined taken

    there_then : is_there (Direct j) (joined ++ carries_out a (Direct j) joined) ≡ true
    there_then =
        ap (λ (u : Outcome). is_there (Direct j) (joined ++ carries_out_by (Direct j) u joined)) puts_it
        ∙ there-other (Direct j) joined (did (Put (Direct j) octets)) refl refl ∙ there-other (Direct j) N (accepting (Direct j) Joined) refl refl ∙ there

    held_then : HeldAt k (joined ++ carries_out a (Direct j) joined)
    held_then =
        subst (λ (u : Outcome). HeldAt k (joined ++ carries_out_by (Direct j) u joined)) (sym puts_it)
        (held-more k joined (did (Put (Direct j) octets)) refl (held-more k N (accepting (Direct j) Joined) refl held))

holds_refuses : (k : ℕ) (a : Made) (j : ℕ) → Holds k (in_order (refuses (Direct j) ∷ carries_out a (Direct j) ∷ ends a (Direct j) ∷ []))
holds_refuses k a j =
    by_name k (Direct j) (in_order (refuses (Direct j) ∷ carries_out a (Direct j) ∷ ends a (Direct j) ∷ []))
    (λ n. mild_holds k (in_order (refuses (Direct j) ∷ carries_out a (Direct j) ∷ ends a (Direct j) ∷ []))
    (pass-in_order (is_mild k) (refuses (Direct j) ∷ carries_out a (Direct j) ∷ ends a (Direct j) ∷ [])
    ((λ N. refl), (mild_carries k a (Direct j) n, (mild_bare k (ends a (Direct j)) (bare-ends a (Direct j)), tt)))))
    (λ is. restores-then k (refuses (Direct j)) (carries_out a (Direct j) ∷ ends a (Direct j) ∷ [])
    (restores-then k (carries_out a (Direct j)) (ends a (Direct j) ∷ []) (restores-last k (ends a (Direct j)) (restores_ends_named k a (Direct j) is))))

held_meets_taken : (k : ℕ) (a : Made) (j : ℕ) (who : Identity) (answer : Establish) (N : Log) → is_there (Direct j) N ≡ true → was_taken (Direct j) N ≡ true → HeldAt k N
    → HeldAt k (N ++ meets_taken a j who answer N)
held_meets_taken k a j who (IsUp replaced) N there taken held = held_accepts k a j who replaced N there taken held
held_meets_taken k a j who (Duplicate holder) N there taken held = holds_refuses k a j N held
held_meets_taken k a j who (WrongPeer v) N there taken held = holds_refuses k a j N held

held_meets_direct : (k : ℕ) (a : Made) (j : ℕ) (who : Identity) (N : Log) → is_there (Direct j) N ≡ true → HeldAt k N → HeldAt k (N ++ meets_direct a j who N)
held_meets_direct k a j who N there held =
    holds-if k (awaits_peer j N) (meets_slot a j who) (closes_link a (Direct j) wrong_peer) N
    (λ h. holds-if k (was_taken (Direct j) N) (meets_taken a j who (establish a j who N)) (meets_dialled a j who (establish a j who N)) N
    (λ taken. held_meets_taken k a j who (establish a j who N) N there taken held) (λ dialled. held_meets_dialled k a j who (establish a j who N) N there held))
    (λ h. holds_closes_link k a (Direct j) wrong_peer N held)

-- ---- a refusal

holds_is_refused_by : (k : ℕ) (a : Made) (name : LinkName) (origin : Option Vmac) (code : ℕ) → Holds k (is_refused_by a name origin code)
holds_is_refused_by k a (Hub s) origin code =
    mild_holds k (is_refused_by a (Hub s) origin code)
    (pass-in_order (is_mild k) (does (Close (Hub s) normal) ∷ tells_refusal (Hub s) origin code ∷ either (may_draw (Hub s) code) (does Draw) (ends a (Hub s)) ∷ [])
    ((λ N. refl), ((λ N. refl), (pass-either (is_mild k) (may_draw (Hub s) code) (does Draw) (ends a (Hub s)) (λ N. refl) (mild_bare k (ends a (Hub s)) (bare-ends a (Hub s))), tt))))
holds_is_refused_by k a (Direct j) origin code =
    by_name k (Direct j) (is_refused_by a (Direct j) origin code)
    (λ n. mild_holds k (is_refused_by a (Direct j) origin code)
    (pass-in_order (is_mild k) (does (Close (Direct j) normal) ∷ tells_refusal (Direct j) origin code ∷ either (may_draw (Direct j) code) (does Draw) (ends a (Direct j)) ∷ []) (
      mild_close k (Direct j) normal n,
      (
        (λ N. refl),
        (
          pass-either (is_mild k) (may_draw (Direct j) code) (does Draw) (ends a (Direct j)) (λ N. refl)
              (mild_bare k (ends a (Direct j)) (bare-ends a (Direct j))),
          tt,
        ),
      ),
    )))
    (λ is. restores-then k (does (Close (Direct j) normal)) (tells_refusal (Direct j) origin code ∷ either (may_draw (Direct j) code) (does Draw) (ends a (Direct j)) ∷ [])
    (restores-then k (tells_refusal (Direct j) origin code) (either (may_draw (Direct j) code) (does Draw) (ends a (Direct j)) ∷ [])
    (restores-last k (either (may_draw (Direct j) code) (does Draw) (ends a (Direct j))) (restores_ends_named k a (Direct j) is))))

-- ---- what follows from a machine's step, over a link that is there

held_meets_peer : (k : ℕ) (a : Made) (name : LinkName) (who : Identity) (N : Log) → is_there name N ≡ true → HeldAt k N → HeldAt k (N ++ meets_peer a name who N)
held_meets_peer k a (Hub s) who N there held = mild_holds k (meets_peer a (Hub s) who)
    (pass-when (is_mild k) (is_under_way a s) (tells_connector a (Connected s)) (mild_bare k (tells_connector a (Connected s)) (bare-tells_connector a (Connected s)))) N held
held_meets_peer k a (Direct j) who N there held = held_meets_direct k a j who N there held

held_obeys_by : (k : ℕ) (a : Made) (name : LinkName) (u : Outcome) (N : Log) → is_there name N ≡ true → HeldAt k N → HeldAt k (N ++ obeys_by a name u N)
held_obeys_by k a name (puts o) N there held = held-more k N (did (Put name o)) refl held
held_obeys_by k a name (puts_and_closes o closing) N there held = holds_over k a name (carries_out_by name (puts_and_closes o closing)) (mild_carries_by k name (puts_and_closes o closing)) N held
held_obeys_by k a name (closes closing) N there held = holds_closes_link k a name closing N held
held_obeys_by k a name (meets who) N there held = held_meets_peer k a name who N there held
held_obeys_by k a name (is_refused origin code) N there held = holds_is_refused_by k a name origin code N held
held_obeys_by k a name (passes_up msg) N there held = mild_holds k (takes_body a name msg msg.body) (mild_takes_body k a name msg msg.body) N held
held_obeys_by k a name keeps_still N there held = same_log k N held

-- a machine is told something, and what follows from its step
held_told : (k : ℕ) (a : Made) (name : LinkName) (rule : Rule) (N : Log) → Mild k rule → is_there name (N ++ rule N) ≡ true → HeldAt k N → HeldAt k (N ++ in_order (rule ∷ obeys a name ∷ []) N)
held_told k a name rule N mild there held =
    behind k rule (obeys a name ∷ []) N
    (behind k (obeys a name) [] (N ++ rule N)
    (subst (HeldAt k) (sym (nothing_more ((N ++ rule N) ++ obeys a name (N ++ rule N)))) (held_obeys_by k a name (outcome a (N ++ rule N) name) (N ++ rule N) there (mild_holds k rule mild N held))))

-- what a machine is told leaves its link there
pub told_there : (name : LinkName) (N : Log) (dialled : LinkName → InitEvent) (taken : LinkName → Event) (b : Bool) → is_there name N ≡ true
    → is_there name (N ++ by_machine dialled taken name b) ≡ true
told_there name N dialled taken true h = there-other name N (accepting name (taken name)) refl refl ∙ h
told_there name N dialled taken false h = there-other name N (initiating name (dialled name)) refl refl ∙ h

holds_ticks_link : (k : ℕ) (a : Made) (name : LinkName) → Holds k (ticks_link a name)
holds_ticks_link k a name N held =
    holds-if k (is_there name N) (in_order (ticks name ∷ obeys a name ∷ [])) nothing N
    (λ there. held_told k a name (ticks name) N (mild_bare k (ticks name) (bare-ticks name))
    (told_there name N (λ n. InitTick (now N) (next_id N)) (λ n. AcceptTick (now N)) (was_taken name N) there) held)
    (λ gone. same_log k N held)

hold_mapped : {A : Type 0} (k : ℕ) (rule : A → Rule) (xs : List A) (rules : List Rule) → ((x : A) → Holds k (rule x)) → HoldEach k rules → HoldEach k (map rule xs ++ rules)
hold_mapped k rule [] rules p q = q
hold_mapped k rule (x ∷ xs) rules p q = (p x, hold_mapped k rule xs rules p q)

hold_all : {A : Type 0} (k : ℕ) (rule : A → Rule) (xs : List A) → ((x : A) → Holds k (rule x)) → HoldEach k (map rule xs)
hold_all k rule [] p = tt
hold_all k rule (x ∷ xs) p = (p x, hold_all k rule xs p)

holds_time_passes : (k : ℕ) (a : Made) → Holds k (time_passes a)
holds_time_passes k a =
    holds-in_order k (map (ticks_link a) names ++ tells_connector a ConnectorTick ∷ ticks_resolution ∷ [])
    (hold_mapped k (ticks_link a) names (tells_connector a ConnectorTick ∷ ticks_resolution ∷ []) (holds_ticks_link k a)
    (mild_holds k (tells_connector a ConnectorTick) (mild_bare k (tells_connector a ConnectorTick) (bare-tells_connector a ConnectorTick)), (mild_holds k ticks_resolution (λ N. refl), tt)))

holds_is_to_end : (k : ℕ) (a : Made) → Holds k (is_to_end a)
holds_is_to_end k a = holds-in_order k (tells_finished ∷ map (finishes_link a) names)
    (mild_holds k tells_finished (mild_bare k tells_finished bare-tells_finished), hold_all k (finishes_link a) names (holds_finishes_link k a))

-- ---- a dial fails

restores_tries_next : (k : ℕ) (a : Made) → Restores k (tries_next a k)
restores_tries_next k a N = by (next_uri k N)
  where
    by : (o : Option (List ℕ)) → HeldAt k (N ++ with_some o (λ uri. does (Dial (Direct k) uri)) (in_order (where_found (wanted k) (λ v. tells (NoDirect v)) nothing ∷ ends a (Direct k) ∷ [])) N)
    by (Some uri) = λ who h. there-begun (Direct k) N (did (Dial (Direct k) uri)) (ap (λ (b : Bool). is_some (cond b (Some false) None)) (eq_self k)) refl
    by None = restores-then k (where_found (wanted k) (λ v. tells (NoDirect v)) nothing) (ends a (Direct k) ∷ []) (restores-last k (ends a (Direct k)) (restores_ends k a)) N

mild_dial_fails : (k : ℕ) (a : Made) (name : LinkName) → Mild k (dial_fails a name)
mild_dial_fails k a (Hub s) = mild_bare k (ends a (Hub s)) (bare-ends a (Hub s))
mild_dial_fails k a (Direct j) = mild_bare k (tries_next a j) (bare-tries_next a j)

-- ---- all events

module _ (k : ℕ) (a : Made) (L : Log) (e : TimedEvent) (may : IsTrue (may_come L e)) (held : HeldAt k L) where
  abbrev M : Log
  M = with_event L e

  fitting : (ev : NodeEvent) → e.event ≡ ev → fits L ev ≡ true
  fitting ev is = sym (ap (fits L) is) ∙ event_fits L e may

  -- an event by which no link of the slot is over
  held_event : is_over_by_event (Direct k) e.event ≡ false → HeldAt k M
  held_event n = held-more k L (came e) (ap not n) held

  other : (ev : NodeEvent) → e.event ≡ ev → is_over_by_event (Direct k) ev ≡ false → HeldAt k M
  other ev is n = held_event (ap (is_over_by_event (Direct k)) is ∙ n)

  there_still : (name : LinkName) (ev : NodeEvent) → e.event ≡ ev → is_over_by_event name ev ≡ false → is_there name L ≡ true → is_there name M ≡ true
  there_still name ev is over there = there-other name L (came e) refl (ap (is_over_by_event name) is ∙ over) ∙ there

  -- what follows where the event is that a link is over
  over_then : (name : LinkName) (ev : NodeEvent) → e.event ≡ ev → is_over_by_event (Direct k) ev ≡ same_link name (Direct k) → (rule : Rule) → Mild k rule
      → (name ≡ Direct k → Restores k rule) → HeldAt k (M ++ rule M)
  over_then name ev is same rule mild restores = by (same_link name (Direct k)) refl
    where
      by : (b : Bool) → same_link name (Direct k) ≡ b → HeldAt k (M ++ rule M)
      by true n = restores (same_link-is name (Direct k) n) M
      by false n = mild_holds k rule mild M (other ev is (same ∙ n))

  follow : (ev : NodeEvent) → e.event ≡ ev → HeldAt k (M ++ follows a ev M)
  follow Start is = mild_holds k (tells_connector a ConnectorStart) (mild_bare k (tells_connector a ConnectorStart) (bare-tells_connector a ConnectorStart)) M (other Start is refl)
  follow (Opened name) is =
      held_told k a name (opens name) M (λ N. refl)
      (there-other name M _ refl refl ∙ there_still name (Opened name) is refl
      (first_of_three (is_there name L) (not (was_taken name L)) (not (has_opened name L)) (fitting (Opened name) is))) (other (Opened name) is refl)
  follow (DialFailed name) is =
      over_then name (DialFailed name) is refl (dial_fails a name) (mild_dial_fails k a name) (λ n. subst (λ (x : LinkName). Restores k (dial_fails a x)) (sym n) (restores_tries_next k a))
  follow Arrived is = mild_holds k arrives (mild_bare k arrives bare-arrives) M (other Arrived is refl)
  follow (Came name o) is =
      held_told k a name (hears a name o) M (mild_bare k (hears a name o) (bare-hears a name o))
      (told_there name M (λ n. InitMessage (now M) (verdict a M n o)) (λ n. AcceptMessage (now M) (verdict a M n o)) (was_taken name M)
      (there_still name (Came name o) is refl (and_left (is_there name L) (was_taken name L || has_opened name L) (fitting (Came name o) is))))
      (other (Came name o) is refl)
  follow (CameText name) is = holds_closes_link k a name (closing 1003 Nothing) M (other (CameText name) is refl)
  follow (Lost name) is = over_then name (Lost name) is refl (ends a name) (mild_bare k (ends a name) (bare-ends a name)) (restores_ends_named k a name)
  follow Tick is = holds_time_passes k a M (other Tick is refl)
  follow (Send dest npdu) is = mild_holds k (sends dest npdu) (mild_sends k dest npdu) M (other (Send dest npdu) is refl)
  follow (Resolve v) is = mild_holds k (resolves a v) (mild_resolves k a v) M (other (Resolve v) is refl)
  follow (DirectTo v) is = mild_holds k (directs v) (mild_bare k (directs v) (bare-directs v)) M (other (DirectTo v) is refl)
  follow (Solicit v) is = mild_holds k (solicits v) (mild_solicits k v) M (other (Solicit v) is refl)
  follow Finish is = holds_is_to_end k a M (other Finish is refl)
  follow (Random w) is = mild_holds k (renews a) (mild_bare k (renews a) (bare-renews a)) M (other (Random w) is refl)
  follow NoRandom is = mild_holds k (keeps_vmac a) (mild_bare k (keeps_vmac a) (bare-keeps_vmac a)) M (other NoRandom is refl)

-- It stays so by each event that may come.
pub held-goes_on : (k : ℕ) (a : Made) (L : Log) (e : TimedEvent) → HeldAt k L → IsTrue (may_come L e) → HeldAt k (L ++ goes_on a e L)
held-goes_on k a L e held may =
    subst (HeldAt k) (append_assoc L (came e ∷ []) (follows a e.event (with_event L e)) ∙ ap (λ (lines : List Line). L ++ lines) (sym (goes_on-is a L e))) (follow k a L e may held e.event refl)
