-- Where an NPDU passes over a direct link, its slot came up over that link, with the link's peer.
-- It serves the clauses of `npdus_pass_where_up`.
use Rattle.std.proofs.Common.{◌≡◌, ◌⊎◌, inl, inr, ℕ, ◌==◌, Bool, true, false, not, ◌||◌, ◌&&◌, List, [], ◌∷◌, ◌++◌, length, Option, Some, None, refl, ap, sym, ◌∙◌, subst, arith, length-append}
use Rattle.std.specs.Prelude.{IsTrue, unwrap_or, if◌then◌else◌}
use Rattle.std.specs.List.{list_any}
use Rattle.std.proofs.lemmas.Bool.{eqb-true}
use Rattle.std.proofs.lemmas.List.{append_assoc, append-nil}
use Rattle.bsc_octets.specs.declared.vmac.Vmac.{Vmac}
use Rattle.bsc_octets.specs.declared.identity.Identity.{Identity}
use Rattle.bsc_octets.specs.Forwarding.{function_in}
use Rattle.bsc_connector.proofs.BackLemmas.{list_any-more}
use Rattle.bsc_frame.specs.declared.check.Check.{Check}
use Rattle.bsc_frame.specs.declared.check.Check.TheVariants.{C13}
use Rattle.bsc_frame.specs.declared.message.Message.{Message}
use Rattle.bsc_checks.specs.declared.phase.Phase.{Phase}
use Rattle.bsc_checks.specs.declared.phase.Phase.TheVariants.{AwaitingRequest, AwaitingAccept, Connected, Disconnecting}
use Rattle.bsc_checks.specs.declared.place.Place.TheVariants.{NodeDirect}
use Rattle.bsc_checks.specs.declared.verdict.Verdict.{Verdict}
use Rattle.bsc_checks.specs.declared.verdict.Verdict.TheVariants.{Pass, Carry, Silent, Nak}
use Rattle.bsc_checks.specs.Failing.{fails}
use Rattle.bsc_checks.specs.Outcomes.{answered, refused, accepted, decided, first_failing, outcome_of}
use Rattle.bsc_checks.specs.Places.{dest_in, origin_in}
use Rattle.bsc_checks.specs.PlaceTests.{is_in_place_in, is_unicast}
use Rattle.bsc_checks.specs.Table.{checks_of, code_of, head_checks, later_checks}
use Rattle.bsc_octets.specs.Functions.{is_response}
use Rattle.bsc_accept.specs.declared.closing.Closing.{Closing}
use Rattle.bsc_accept.specs.declared.event.Event.TheVariants.{Message as AcceptMessage, Joined, Refused as RefusedEvent, Ended, Finish as AcceptFinish, Tick as AcceptTick}
use Rattle.bsc_accept.specs.Past as Accepting
use Rattle.bsc_history.specs.declared.reply.Refusal.TheVariants.{Duplicate as DuplicateRefusal}
use Rattle.bsc_initiate.specs.declared.event.InitEvent.TheVariants.{Opened as MachineOpened, Message as InitMessage, Finish as InitFinish, Tick as InitTick}
use Rattle.bsc_initiate.specs.declared.step.InitStep.TheVariants.{Nothing as InitNothing}
use Rattle.bsc_initiate.specs.Messages.{who_accepts, refusing_code, says_who}
use Rattle.bsc_initiate.specs.Past as Initiating
use Rattle.bsc_initiate.specs.Steps as InitiatingSteps
use Rattle.bsc_initiate.specs.Kept as InitiatingKept
use Rattle.bsc_initiate.proofs.Looking.{standing-more}
use Rattle.bsc_direct.specs.declared.call.SlotCall.TheVariants.{Up}
use Rattle.bsc_direct.specs.declared.establish.Establish.{Establish}
use Rattle.bsc_direct.specs.declared.establish.Establish.TheVariants.{Up as IsUp, Duplicate, WrongPeer}
use Rattle.bsc_direct.proofs.OneMore.{both_ways}
use Rattle.bsc_node.specs.declared.link_name.LinkName.{LinkName}
use Rattle.bsc_node.specs.declared.link_name.LinkName.TheVariants.{Direct}
use Rattle.bsc_node.specs.declared.node_event.NodeEvent.{NodeEvent}
use Rattle.bsc_node.specs.declared.node_event.NodeEvent.TheVariants.{Came}
use Rattle.bsc_node.specs.declared.note.Note.TheVariants.{DirectUp}
use Rattle.bsc_node.specs.declared.timed_event.TimedEvent.{TimedEvent}
use Rattle.bsc_node.specs.declared.action.Action.TheVariants.{Put, Close}
use Rattle.bsc_node.specs.Logs.{Made, Line, came, did, slot, initiating, accepting, Log, Rule, in_order, if_so, does, tells, now, own_vmac}
use Rattle.bsc_node.specs.Links.{same_link, begins, is_over_by_event, is_there, was_taken, initiating_events, accepting_events, phase, phase_by, peer, verdict, by_machine, Outcome}
use Rattle.bsc_node.specs.Links.{meets, initiating_outcome, outcome}
use Rattle.bsc_node.specs.Ways.{awaits_peer, establish, slots_see}
use Rattle.bsc_node.specs.Ending.{carries_out_by, carries_out, ends, closes_link}
use Rattle.bsc_node.specs.Meeting.{joins, refuses, wrong_peer, finishes_replaced, comes_up, meets_dialled, meets_taken, meets_slot, meets_direct}
use Rattle.bsc_node.specs.Events.{obeys_by}
use Rattle.bsc_node.specs.Node.{goes_on, log}
use Rattle.bsc_node.specs.Conditions.{may_come}
use Rattle.bsc_node.specs.Laws.{with_event, with_heard}
use Rattle.bsc_node.proofs.Common.{same_link-is}
use Rattle.bsc_node.proofs.Order.{in_order-brought, in_order-cons}
use Rattle.bsc_node.proofs.There.{there-other, closed-gone}
use Rattle.bsc_node.proofs.Told.{same_link-self, initiating_events-more, outcome-initiating}
use Rattle.bsc_node_laws.proofs.Asked.{asked_closes}
use Rattle.bsc_node_laws.proofs.Drawn.{came_log as log_heard}
use Rattle.bsc_node_laws.proofs.There.{gone-stays}
use Rattle.bsc_node_identity.specs.There.{CameUpWith, NpdusPassWhereUp}
use Rattle.bsc_node_identity.proofs.Each.{EachHas, each-split, keeps}
use Rattle.bsc_node_identity.proofs.Followed.{has-obeyed}
use Rattle.bsc_node_identity.proofs.Knowing.{known_more, keep_sides, sides_event}
use Rattle.bsc_node_identity.proofs.Lines.{peer-silent}
use Rattle.bsc_node_identity.proofs.OneMore.{open-stays, accepting-same}
use Rattle.bsc_node_identity.proofs.Peers.{Knit, knit-at_first, knit-goes_on}
use Rattle.bsc_node_identity.proofs.Reasons.{was_open, Unmet, Sides, Why}
use Rattle.bsc_node_identity.proofs.Settled.{kept, fitting, lasting}
use Rattle.bsc_node_identity.proofs.Waiting.{unbegun}
use Rattle.bsc_lemmas.proofs.Booleans.{and_left, and_right}
use Rattle.bsc_node_identity.proofs.Rising.{is_made_dialled, is_made_taken, is_made_by, is_made, makes_taken, makes, made_is, made_before, UpSince, up_now, up_more, RisenAt}
use Rattle.bsc_node_identity.proofs.Rising.{risen_more, comes_over, risen_elsewhere}

-- ---- an event by which a message comes over it

module _ (a : Made) (L : Log) (e : TimedEvent) (may : IsTrue (may_come L e)) (k : ℕ) (o : List ℕ) (is : e.event ≡ Came (Direct k) o) where
  -- The link is over, or its slot came up.
  abbrev Settles : Log → Type 0
  Settles N = (is_there (Direct k) N ≡ false) ⊎ UpSince k N

  settles_more : (N : Log) (m : Line) → Why a L e N m → Settles N → Settles (N ++ m ∷ [])
  settles_more N m why (inl gone) = inl (gone-stays (Direct k) N m (unbegun a L e k k o is N m why) gone)
  settles_more N m why (inr up) = inr (up.0, up_more k N m up.0 (unbegun a L e k k o is N m why) up.1)

  settles_all : (N : Log) (lines : List Line) → EachHas (Why a L e) N lines → Settles N → Settles (N ++ lines)
  settles_all N lines each s = keeps (Why a L e) Settles settles_more N lines each s

  -- by the first of some rules, or by those behind it
  settles_then : (rule : Rule) (rules : List Rule) (N : Log) → EachHas (Why a L e) N (in_order (rule ∷ rules) N)
      → (EachHas (Why a L e) (N ++ rule N) (in_order rules (N ++ rule N)) → Settles ((N ++ rule N) ++ in_order rules (N ++ rule N))) → Settles (N ++ in_order (rule ∷ rules) N)
  settles_then rule rules N each f =
      let split = each-split (Why a L e) N (rule N) (in_order rules (N ++ rule N)) (subst (EachHas (Why a L e) N) (in_order-cons rule rules N) each) in
      subst Settles (append_assoc N (rule N) (in_order rules (N ++ rule N)) ∙ ap (λ (lines : List Line). N ++ lines) (sym (in_order-cons rule rules N))) (f split.1)

  settles_last : (rule : Rule) (N : Log) → EachHas (Why a L e) N (in_order (rule ∷ []) N) → (EachHas (Why a L e) N (rule N) → Settles (N ++ rule N)) → Settles (N ++ in_order (rule ∷ []) N)
  settles_last rule N each f =
      let same : in_order (rule ∷ []) N ≡ rule N = in_order-brought (rule ∷ []) N ∙ append-nil (rule N) in
      subst (λ (lines : List Line). Settles (N ++ lines)) (sym same) (f (subst (EachHas (Why a L e) N) same each))

  closed_so : (closing : Closing) (N : Log) → EachHas (Why a L e) N (closes_link a (Direct k) closing N) → Settles (N ++ closes_link a (Direct k) closing N)
  closed_so closing N each =
      settles_then (does (Close (Direct k) closing)) (ends a (Direct k) ∷ []) N each
      (λ later. settles_all (N ++ did (Close (Direct k) closing) ∷ []) (in_order (ends a (Direct k) ∷ []) (N ++ did (Close (Direct k) closing) ∷ [])) later (inl (closed-gone (Direct k) N closing)))

  up_so : (who : Identity) (replaced : Option ℕ) (N : Log) → EachHas (Why a L e) N (comes_up a k who replaced N) → Settles (N ++ comes_up a k who replaced N)
  up_so who replaced N each =
      settles_then (slots_see (Up k who)) (tells (DirectUp who.vmac) ∷ finishes_replaced a replaced ∷ []) N each
      (λ later. settles_all (N ++ slot (Up k who) ∷ []) (in_order (tells (DirectUp who.vmac) ∷ finishes_replaced a replaced ∷ []) (N ++ slot (Up k who) ∷ [])) later (inr (who, up_now k N who)))

  dialled_so : (who : Identity) (answer : Establish) (N : Log) → EachHas (Why a L e) N (meets_dialled a k who answer N) → Settles (N ++ meets_dialled a k who answer N)
  dialled_so who (IsUp replaced) N each = up_so who replaced N each
  dialled_so who (Duplicate holder) N each = closed_so wrong_peer N each
  dialled_so who (WrongPeer v) N each = closed_so wrong_peer N each

  refused_so : (who : Identity) (N : Log) → was_taken (Direct k) N ≡ true → outcome a N (Direct k) ≡ meets who
      → EachHas (Why a L e) N (in_order (refuses (Direct k) ∷ carries_out a (Direct k) ∷ ends a (Direct k) ∷ []) N)
      → Settles (N ++ in_order (refuses (Direct k) ∷ carries_out a (Direct k) ∷ ends a (Direct k) ∷ []) N)
  refused_so who N taken met each =
      settles_then (refuses (Direct k)) (carries_out a (Direct k) ∷ ends a (Direct k) ∷ []) N each
      (λ later. settles_then (carries_out a (Direct k)) (ends a (Direct k) ∷ []) refused_log later
      (λ last. settles_all (refused_log ++ carries_out a (Direct k) refused_log) (in_order (ends a (Direct k) ∷ []) (refused_log ++ carries_out a (Direct k) refused_log)) last (inl gone)))
    where
      refused_log : Log
      refused_log = N ++ accepting (Direct k) (RefusedEvent (DuplicateRefusal None)) ∷ []

      gone : is_there (Direct k) (refused_log ++ carries_out a (Direct k) refused_log) ≡ false
      gone =
          let c = asked_closes a N k who taken met in
          ap (λ (u : Outcome). is_there (Direct k) (refused_log ++ carries_out_by (Direct k) u refused_log)) c.2
          ∙ ap (λ (lines : List Line). is_there (Direct k) (refused_log ++ lines)) (in_order-brought (does (Put (Direct k) c.0) ∷ does (Close (Direct k) c.1) ∷ []) refused_log)
          ∙ ap (is_there (Direct k)) (sym (append_assoc refused_log (did (Put (Direct k) c.0) ∷ []) (did (Close (Direct k) c.1) ∷ [])))
          ∙ closed-gone (Direct k) (refused_log ++ did (Put (Direct k) c.0) ∷ []) c.1

  taken_so : (who : Identity) (answer : Establish) (N : Log) → was_taken (Direct k) N ≡ true → outcome a N (Direct k) ≡ meets who → EachHas (Why a L e) N (meets_taken a k who answer N)
      → Settles (N ++ meets_taken a k who answer N)
  taken_so who (IsUp replaced) N taken met each =
      settles_then (joins (Direct k)) (carries_out a (Direct k) ∷ comes_up a k who replaced ∷ []) N each
      (λ later. settles_then (carries_out a (Direct k)) (comes_up a k who replaced ∷ []) (N ++ accepting (Direct k) Joined ∷ []) later
      (λ last. settles_last (comes_up a k who replaced) ((N ++ accepting (Direct k) Joined ∷ []) ++ carries_out a (Direct k) (N ++ accepting (Direct k) Joined ∷ [])) last
      (λ each_up. up_so who replaced ((N ++ accepting (Direct k) Joined ∷ []) ++ carries_out a (Direct k) (N ++ accepting (Direct k) Joined ∷ [])) each_up)))
  taken_so who (Duplicate holder) N taken met each = refused_so who N taken met each
  taken_so who (WrongPeer v) N taken met each = refused_so who N taken met each

  met_so : (who : Identity) (N : Log) → outcome a N (Direct k) ≡ meets who → EachHas (Why a L e) N (meets_direct a k who N) → Settles (N ++ meets_direct a k who N)
  met_so who N met each = by (awaits_peer k N) each
    where
      by_taken : (t : Bool) → was_taken (Direct k) N ≡ t → EachHas (Why a L e) N (if_so t (meets_taken a k who (establish a k who N)) (meets_dialled a k who (establish a k who N)) N)
          → Settles (N ++ if_so t (meets_taken a k who (establish a k who N)) (meets_dialled a k who (establish a k who N)) N)
      by_taken true t x = taken_so who (establish a k who N) N t met x
      by_taken false t x = dialled_so who (establish a k who N) N x

      by : (b : Bool) → EachHas (Why a L e) N (if_so b (meets_slot a k who) (closes_link a (Direct k) wrong_peer) N)
          → Settles (N ++ if_so b (meets_slot a k who) (closes_link a (Direct k) wrong_peer) N)
      by true x = by_taken (was_taken (Direct k) N) refl x
      by false x = closed_so wrong_peer N x

  -- ---- where nobody is met

  abbrev M : Log
  M = with_event L e

  abbrev H : Log
  H = with_heard a L e (Direct k) o

  abbrev judged : Verdict
  judged = verdict a M (Direct k) o

  -- who accepts, in the state in which that is awaited, is met
  accepted_met : (at id : ℕ) (v : Verdict) → Initiating.is_accepted_at id (InitMessage at v) ≡ true → (who : Identity)
      × (initiating_outcome (InitMessage at v) (InitiatingSteps.message_step (Initiating.awaiting_accept id) v) ≡ meets who)
  accepted_met at id (Pass m) h = by (m.id == id) (who_accepts m.body) h
    where
      by : (b : Bool) (p : Option Identity) → (b && says_who p) ≡ true → (who : Identity)
          × (initiating_outcome (InitMessage at (Pass m)) (if b then InitiatingSteps.answer_step p (refusing_code m.body) else InitNothing) ≡ meets who)
      by true (Some who) g = (who, refl)
      by true None g = cc
      by false p g = cc
  accepted_met at id (Carry envelope) h = cc
  accepted_met at id (Silent check) h = cc
  accepted_met at id (Nak check octets) h = cc

  abbrev Unmeeting : Type 0
  Unmeeting = (who : Identity) → outcome a H (Direct k) ≡ meets who → ⊥

  heard_dialled : was_taken (Direct k) M ≡ false → H ≡ M ++ initiating (Direct k) (InitMessage (now M) judged) ∷ []
  heard_dialled t = ap (λ (d : Bool). M ++ by_machine (λ n. InitMessage (now M) (verdict a M n o)) (λ n. AcceptMessage (now M) (verdict a M n o)) (Direct k) d) t

  heard_taken : was_taken (Direct k) M ≡ true → H ≡ M ++ accepting (Direct k) (AcceptMessage (now M) judged) ∷ []
  heard_taken t = ap (λ (d : Bool). M ++ by_machine (λ n. InitMessage (now M) (verdict a M n o)) (λ n. AcceptMessage (now M) (verdict a M n o)) (Direct k) d) t

  heard_one : (x : Line) × (H ≡ M ++ x ∷ [])
  heard_one = by (was_taken (Direct k) M) refl
    where
      by : (t : Bool) → was_taken (Direct k) M ≡ t → (x : Line) × (H ≡ M ++ x ∷ [])
      by false t = (initiating (Direct k) (InitMessage (now M) judged), heard_dialled t)
      by true t = (accepting (Direct k) (AcceptMessage (now M) judged), heard_taken t)

  -- the message makes nothing, where nobody is met
  dialled_unmade : Unmeeting → was_taken (Direct k) M ≡ false → (g : Initiating.Standing) → Initiating.standing (initiating_events M (Direct k)) ≡ g → is_made_dialled g ≡ false
      → is_made_dialled (InitiatingKept.moved g (InitMessage (now M) judged)) ≡ false
  dialled_unmade unmet t Initiating.awaiting_websocket stands n = refl
  dialled_unmade unmet t (Initiating.awaiting_accept id) stands n = by (Initiating.is_accepted_at id (InitMessage (now M) judged)) refl
    where
      by : (b : Bool) → Initiating.is_accepted_at id (InitMessage (now M) judged) ≡ b → is_made_dialled (if b then Initiating.connected else Initiating.awaiting_accept id) ≡ false
      by false accepted = refl
      by true accepted =
          let met = accepted_met (now M) id judged accepted in
          absurd (unmet met.0
          (ap (λ (N : Log). outcome a N (Direct k)) (heard_dialled t) ∙ outcome-initiating a M (Direct k) (InitMessage (now M) judged) t
          ∙ ap (λ (g : Initiating.Standing). initiating_outcome (InitMessage (now M) judged) (InitiatingSteps.message_step g judged)) stands ∙ met.1))
  dialled_unmade unmet t Initiating.connected stands n = cc
  dialled_unmade unmet t (Initiating.disconnecting f) stands n = refl

  heard_unmade : Unmeeting → is_made k M ≡ false → is_made k H ≡ false
  heard_unmade unmet n = by (was_taken (Direct k) M) refl
    where
      by : (t : Bool) → was_taken (Direct k) M ≡ t → is_made k H ≡ false
      by false t =
          let E = initiating_events M (Direct k) in
          let call = InitMessage (now M) judged in
          let line = initiating (Direct k) call in
          ap (is_made k) (heard_dialled t)
          ∙ made_is k M line (E ++ call ∷ []) (accepting_events M (Direct k)) refl (initiating_events-more M (Direct k) call) (accepting-same (Direct k) M line refl refl)
          ∙ ap (λ (d : Bool). is_made_by d (E ++ call ∷ []) (accepting_events M (Direct k))) t
          ∙ ap is_made_dialled (standing-more E call)
          ∙ dialled_unmade unmet t (Initiating.standing E) refl (sym (ap (λ (d : Bool). is_made_by d E (accepting_events M (Direct k))) t) ∙ n)
      by true t = unmade (is_made k H) refl
        where
          unmade : (b : Bool) → is_made k H ≡ b → b ≡ false
          unmade false made = refl
          unmade true made =
              both_ways (is_made k M)
              (made_before k M (accepting (Direct k) (AcceptMessage (now M) judged)) refl (ap (λ (d : Bool). makes_taken d (AcceptMessage (now M) judged)) (same_link-self (Direct k)))
              (sym (ap (is_made k) (heard_taken t)) ∙ made)) n

  longer : (x : Line) (more : List Line) → (M ++ x ∷ []) ++ more ≡ M → ⊥
  longer x more h = (let l : length ((M ++ x ∷ []) ++ more) ≡ length M = ap length h in absurd (omega (arith, l, length-append (M ++ x ∷ []) more, length-append M (x ∷ []))))

  -- Behind the message, and still not made.
  record Behind (N : Log) : Type 0 where
    more : List Line
    goes_on_so : N ≡ H ++ more
    unmade : is_made k N ≡ false

  same_octets : (n : LinkName) (p : List ℕ) → Came n p ≡ Came (Direct k) o → p ≡ o
  same_octets n p h = ap octets h
    where
      octets : NodeEvent → List ℕ
      octets (Came name x) = x
      octets ev = []

  makes_no_more : Unmeeting → (N : Log) (m : Line) → Why a L e N m → Behind N → makes k m ≡ false
  makes_no_more unmet N (initiating other (InitMessage now v)) why b = by (same_link other (Direct k)) refl
    where
      by : (d : Bool) → same_link other (Direct k) ≡ d → d ≡ false
      by false same = refl
      by true same = absurd (longer heard_one.0 b.more (sym (b.goes_on_so ∙ ap (λ (X : Log). X ++ b.more) heard_one.1) ∙ why.0.3))
  makes_no_more unmet N (initiating other (MachineOpened now id)) why b = refl
  makes_no_more unmet N (initiating other (InitFinish now id)) why b = refl
  makes_no_more unmet N (initiating other (InitTick now id)) why b = refl
  makes_no_more unmet N (accepting other Joined) why b = by (same_link other (Direct k)) refl
    where
      by : (d : Bool) → same_link other (Direct k) ≡ d → d ≡ false
      by false same = refl
      by true same =
          let name : other ≡ Direct k = same_link-is other (Direct k) same in
          let octets : why.0 ≡ o = same_octets other why.0 (sym why.2 ∙ is) in
          let here : N ≡ H = why.3 ∙ ap (λ (n : LinkName). with_heard a L e n why.0) name ∙ ap (with_heard a L e (Direct k)) octets in
          absurd (unmet why.1 (ap (λ (X : Log). outcome a X (Direct k)) (sym here) ∙ ap (outcome a N) (sym name) ∙ why.4))
  makes_no_more unmet N (accepting other (AcceptMessage now v)) why b = refl
  makes_no_more unmet N (accepting other (RefusedEvent r)) why b = refl
  makes_no_more unmet N (accepting other (Ended now ending)) why b = refl
  makes_no_more unmet N (accepting other (AcceptFinish now id)) why b = refl
  makes_no_more unmet N (accepting other (AcceptTick now)) why b = refl
  makes_no_more unmet N m why b = refl

  behind_more : Unmeeting → (N : Log) (m : Line) → Why a L e N m → Behind N → Behind (N ++ m ∷ [])
  behind_more unmet N m why b = record {
    more = b.more ++ m ∷ [];
    goes_on_so = ap (λ (X : Log). X ++ m ∷ []) b.goes_on_so ∙ append_assoc H b.more (m ∷ []);
    unmade = unmade (is_made k (N ++ m ∷ [])) refl;
  }
    where
      unmade : (d : Bool) → is_made k (N ++ m ∷ []) ≡ d → d ≡ false
      unmade false made = refl
      unmade true made = both_ways (is_made k N) (made_before k N m (unbegun a L e k k o is N m why) (makes_no_more unmet N m why b) made) b.unmade

  -- ---- both

  there_then : is_there (Direct k) M ≡ true
  there_then = there-other (Direct k) L (came e) refl (ap (is_over_by_event (Direct k)) is) ∙ and_left (is_there (Direct k) L) (was_open (Direct k) L) (fitting L e may (Came (Direct k) o) is)

  opened_then : was_open (Direct k) M ≡ true
  opened_then = open-stays (Direct k) L (came e) refl (and_right (is_there (Direct k) L) (was_open (Direct k) L) (fitting L e may (Came (Direct k) o) is))

  abbrev is_meeting : Outcome → Bool
  is_meeting (meets who) = true
  is_meeting u = false

  risen_settled : (N : Log) → Settles N → RisenAt k N
  risen_settled N (inl gone) there made = both_ways (is_there (Direct k) N) there gone
  risen_settled N (inr up) there made = up

  by_outcome : is_made k M ≡ false → (u : Outcome) → outcome a H (Direct k) ≡ u → EachHas (Why a L e) H (obeys_by a (Direct k) u H) → RisenAt k (H ++ obeys_by a (Direct k) u H)
  by_outcome n (meets who) met each = risen_settled (H ++ meets_direct a k who H) (met_so who H met each)
  by_outcome n u other each = (λ there made. both_ways (is_made k (H ++ obeys_by a (Direct k) u H)) made behind.unmade)
    where
      unmet : is_meeting u ≡ false → Unmeeting
      unmet none who met = both_ways (is_meeting u) (ap is_meeting (sym other ∙ met)) none

      behind : Behind (H ++ obeys_by a (Direct k) u H)
      behind =
          keeps (Why a L e) Behind (behind_more (unmet refl)) H (obeys_by a (Direct k) u H) each
          (record { more = []; goes_on_so = sym (append-nil H); unmade = heard_unmade (unmet refl) n })

  risen_came : RisenAt k L → RisenAt k (L ++ goes_on a e L)
  risen_came risen = by (is_made k M) refl
    where
      by : (b : Bool) → is_made k M ≡ b → RisenAt k (L ++ goes_on a e L)
      by true made =
          let up : UpSince k M = risen_more k L (came e) refl risen there_then made in
          λ there made_then. kept a L e may (UpSince k) (λ N m why u. (u.0, up_more k N m u.0 (unbegun a L e k k o is N m why) u.1)) up
      by false unmade =
          subst (RisenAt k) (sym (log_heard a L e (Direct k) o is))
          (by_outcome unmade (outcome a H (Direct k)) refl (has-obeyed a L e (Direct k) o is there_then opened_then (outcome a H (Direct k)) refl))

comes_over_is : (k : ℕ) (ev : NodeEvent) → comes_over k ev ≡ true → (o : List ℕ) × (ev ≡ Came (Direct k) o)
comes_over_is k (Came name o) h = (o, ap (λ (n : LinkName). Came n o) (same_link-is name (Direct k) h))
comes_over_is k ev h = cc

risen_goes_on : (a : Made) (L : Log) (e : TimedEvent) → IsTrue (may_come L e) → (k : ℕ) → RisenAt k L → RisenAt k (L ++ goes_on a e L)
risen_goes_on a L e may k risen = by (comes_over k e.event) refl
  where
    by : (b : Bool) → comes_over k e.event ≡ b → RisenAt k (L ++ goes_on a e L)
    by true c = (let came_so = comes_over_is k e.event c in risen_came a L e may k came_so.0 came_so.1 risen)
    by false c = risen_elsewhere a L e may k c risen

-- ---- who came up is the peer

-- a list with one more, at an element
at_last_or_before : {A : Type 0} (xs : List A) (y : A) (before : List A) (x : A) (later : List A) → xs ++ y ∷ [] ≡ before ++ x ∷ later
    → ((xs ≡ before) × (y ≡ x)) ⊎ ((more : List A) × (xs ≡ before ++ x ∷ more) × (later ≡ more ++ y ∷ []))
at_last_or_before [] y [] x later h = (let same : y ≡ x = cc in inl (refl, same))
at_last_or_before [] y (b ∷ before) x later h = absurd (none before later h)
  where
    none : (bs ls : List _) → y ∷ [] ≡ b ∷ (bs ++ x ∷ ls) → ⊥
    none [] ls g = cc
    none (c ∷ bs) ls g = cc
at_last_or_before {A} (z ∷ xs) y [] x later h =
    let first : z ≡ x = cc in
    let rest : xs ++ y ∷ [] ≡ later = cc in
    inr (xs, ap (λ (w : A). w ∷ xs) first, sym rest)
at_last_or_before {A} (z ∷ xs) y (b ∷ before) x later h =
    let first : z ≡ b = cc in
    let rest : xs ++ y ∷ [] ≡ before ++ x ∷ later = cc in
    by first (at_last_or_before xs y before x later rest)
  where
    by : z ≡ b → ((xs ≡ before) × (y ≡ x)) ⊎ ((more : List A) × (xs ≡ before ++ x ∷ more) × (later ≡ more ++ y ∷ [])) → ((z ∷ xs ≡ b ∷ before) × (y ≡ x))
        ⊎ ((more : List A) × (z ∷ xs ≡ (b ∷ before) ++ x ∷ more) × (later ≡ more ++ y ∷ []))
    by first (inl (same, last)) = inl (ap (λ (l : List A). z ∷ l) same ∙ ap (λ (w : A). w ∷ before) first, last)
    by first (inr (more, same, last)) = inr (more, ap (λ (l : List A). z ∷ l) same ∙ ap (λ (w : A). w ∷ (before ++ x ∷ more)) first, last)

abbrev UpsArePeers : Log → Type 0
UpsArePeers N = (k : ℕ) (who : Identity) → CameUpWith N k who → peer N (Direct k) ≡ Some who

record Ups (N : Log) : Type 0 where
  sides : Sides N
  peers : UpsArePeers N

begins_last : (k : ℕ) (more : List Line) (m : Line) → list_any (begins (Direct k)) (more ++ m ∷ []) ≡ false → (list_any (begins (Direct k)) more ≡ false) × (begins (Direct k) m ≡ false)
begins_last k more m h = by (list_any (begins (Direct k)) more) (begins (Direct k) m) (sym (list_any-more (begins (Direct k)) more m) ∙ h)
  where
    by : (p q : Bool) → (p || q) ≡ false → (p ≡ false) × (q ≡ false)
    by false false g = (refl, refl)
    by false true g = cc
    by true q g = cc

-- what came up before a line that isn't it is the peer before, and so behind it
ups_before : (N : Log) (m : Line) → Sides N → Sides (N ++ m ∷ []) → UpsArePeers N → (k : ℕ) (who : Identity) (before : Log) (more : List Line) → N ≡ before ++ slot (Up k who) ∷ more
    → list_any (begins (Direct k)) (more ++ m ∷ []) ≡ false → peer (N ++ m ∷ []) (Direct k) ≡ Some who
ups_before N m s t peers k who before more same since =
    let two = begins_last k more m since in
    known_more N m (Direct k) who s t two.1 (peers k who (record { before = before; later = more; is = same; since = two.0 }))

ups_more : (a : Made) (L : Log) (e : TimedEvent) → Unmet L → Sides L → (N : Log) (m : Line) → Why a L e N m → Ups N → Ups (N ++ m ∷ [])
ups_more a L e unmet first N m why u = record { sides = sides; peers = λ k who up. by k who up (at_last_or_before N m up.before (slot (Up k who)) up.later up.is) }
  where
    sides : Sides (N ++ m ∷ [])
    sides = keep_sides a L e N m why u.sides

    here : (k : ℕ) (who : Identity) (x : Line) → m ≡ x → x ≡ slot (Up k who) → peer (N ++ m ∷ []) (Direct k) ≡ Some who
    here k who x same is =
        let up : m ≡ slot (Up k who) = same ∙ is in
        let w : Why a L e N (slot (Up k who)) = subst (Why a L e N) up why in
        ap (λ (y : Line). peer (N ++ y ∷ []) (Direct k)) up ∙ peer-silent N (slot (Up k who)) (Direct k) refl refl refl ∙ w.2 unmet first

    by : (k : ℕ) (who : Identity) (up : CameUpWith (N ++ m ∷ []) k who) → ((N ≡ up.before) × (m ≡ slot (Up k who)))
        ⊎ ((more : List Line) × (N ≡ up.before ++ slot (Up k who) ∷ more) × (up.later ≡ more ++ m ∷ [])) → peer (N ++ m ∷ []) (Direct k) ≡ Some who
    by k who up (inl (same, last)) = here k who m refl last
    by k who up (inr (more, same, last)) = ups_before N m u.sides sides u.peers k who up.before more same (ap (list_any (begins (Direct k))) (sym last) ∙ up.since)

ups_event : (L : Log) (e : TimedEvent) → Ups L → Ups (with_event L e)
ups_event L e u = record { sides = sides; peers = λ k who up. by k who up (at_last_or_before L (came e) up.before (slot (Up k who)) up.later up.is) }
  where
    sides : Sides (with_event L e)
    sides = sides_event L e u.sides

    by : (k : ℕ) (who : Identity) (up : CameUpWith (with_event L e) k who) → ((L ≡ up.before) × (came e ≡ slot (Up k who)))
        ⊎ ((more : List Line) × (L ≡ up.before ++ slot (Up k who) ∷ more) × (up.later ≡ more ++ came e ∷ [])) → peer (with_event L e) (Direct k) ≡ Some who
    by k who up (inl (same, last)) = cc
    by k who up (inr (more, same, last)) = ups_before L (came e) u.sides sides u.peers k who up.before more same (ap (list_any (begins (Direct k))) (sym last) ∙ up.since)

-- ---- every log

record Rising (a : Made) (L : Log) : Type 0 where
  knit : Knit a L
  risen : (k : ℕ) → RisenAt k L
  ups : UpsArePeers L

rising_goes_on : (a : Made) (L : Log) (e : TimedEvent) → Rising a L → IsTrue (may_come L e) → Rising a (L ++ goes_on a e L)
rising_goes_on a L e r may = record {
  knit = knit-goes_on a L e r.knit may;
  risen = λ k. risen_goes_on a L e may k (r.risen k);
  ups = (kept a L e may Ups (ups_more a L e r.knit.unmet r.knit.sides) (ups_event L e (record { sides = r.knit.sides; peers = r.ups }))).peers;
}

rising_at_first : (a : Made) → Rising a []
rising_at_first a = record { knit = knit-at_first a; risen = λ k there made. cc; ups = λ k who up. absurd (none k who up.before up.later up.is) }
  where
    none : (k : ℕ) (who : Identity) (before : Log) (later : List Line) → [] ≡ before ++ slot (Up k who) ∷ later → ⊥
    none k who [] later h = cc
    none k who (x ∷ before) later h = cc

-- ---- an NPDU passes only where the connection is made

none_failing : (test : Check → Bool) (xs : List Check) (check : Check) (ys : List Check) → first_failing test (xs ++ check ∷ ys) ≡ None → test check ≡ false
none_failing test [] check ys h = by (test check) h
  where
    by : (b : Bool) → ◌≡◌ {A = Option Check} (elim b [ true ↦ Some check | false ↦ first_failing test ys ]) None → b ≡ false
    by false g = refl
    by true g = cc
none_failing test (x ∷ xs) check ys h = by (test x) h (none_failing test xs check ys)
  where
    by : (b : Bool) → ◌≡◌ {A = Option Check} (elim b [ true ↦ Some x | false ↦ first_failing test (xs ++ check ∷ ys) ]) None
        → (first_failing test (xs ++ check ∷ ys) ≡ None → test check ≡ false) → test check ≡ false
    by false g later = later g
    by true g later = cc

refused_no : (m : List ℕ) (p : _) (check : Check) (code : Option ℕ) (msg : Message) → refused m p check code ≡ Pass msg → ⊥
refused_no m p check None msg h = cc
refused_no m p check (Some code) msg h = by (is_unicast (dest_in m) && not (is_response (function_in m))) h
  where
    by : (b : Bool) → answered b m p check code ≡ Pass msg → ⊥
    by true g = cc
    by false g = cc

decided_none : (m : List ℕ) (p : _) (o : Option Check) (msg : Message) → decided m p o ≡ Pass msg → o ≡ None
decided_none m p None msg h = refl
decided_none m p (Some check) msg h = absurd (refused_no m p check (code_of check) msg h)

in_place_then : (own : Vmac) (p : Option Vmac) (ph : Phase) (f : ℕ) (origin : Option Vmac) → f ≡ 1 → not (is_in_place_in ph (NodeDirect own p ph) f origin) ≡ false → ph ≡ Connected
in_place_then own p AwaitingRequest f origin one h = (let no : true ≡ false = sym (ap (λ (g : ℕ). not (is_in_place_in AwaitingRequest (NodeDirect own p AwaitingRequest) g origin)) one) ∙ h in cc)
in_place_then own p AwaitingAccept f origin one h = (let no : true ≡ false = sym (ap (λ (g : ℕ). not (is_in_place_in AwaitingAccept (NodeDirect own p AwaitingAccept) g origin)) one) ∙ h in cc)
in_place_then own p Connected f origin one h = refl
in_place_then own p Disconnecting f origin one h = (let no : true ≡ false = sym (ap (λ (g : ℕ). not (is_in_place_in Disconnecting (NodeDirect own p Disconnecting) g origin)) one) ∙ h in cc)

passes_connected : (own : Vmac) (p : Option Vmac) (ph : Phase) (max : ℕ) (m : List ℕ) (msg : Message) → outcome_of m (NodeDirect own p ph) max ≡ Pass msg → (function_in m == 0x01) ≡ true
    → ph ≡ Connected
unfolding outcome_of
passes_connected own p ph max m msg passed npdu =
    let none = decided_none m (NodeDirect own p ph) (first_failing (fails m (NodeDirect own p ph) max) (checks_of (NodeDirect own p ph) m)) msg passed in
    in_place_then own p ph (function_in m) (origin_in m) (eqb-true (function_in m) 1 npdu) (none_failing (fails m (NodeDirect own p ph) max) (head_checks ++ later_checks) C13 [] none)

connected_made : (t : Bool) (N : Log) (k : ℕ) → phase_by t N (Direct k) ≡ Connected → is_made_by t (initiating_events N (Direct k)) (accepting_events N (Direct k)) ≡ true
connected_made false N k h = by (Initiating.standing (initiating_events N (Direct k))) h
  where
    by : (g : Initiating.Standing) → unwrap_or (Initiating.phase_named g) AwaitingAccept ≡ Connected → is_made_dialled g ≡ true
    by Initiating.awaiting_websocket x = cc
    by (Initiating.awaiting_accept id) x = cc
    by Initiating.connected x = refl
    by (Initiating.disconnecting f) x = cc
connected_made true N k h = by (Accepting.standing (accepting_events N (Direct k))) h
  where
    by : (g : Accepting.Standing) → Accepting.phase_named g ≡ Connected → is_made_taken g ≡ true
    by Accepting.awaiting_request x = cc
    by Accepting.connected x = refl
    by (Accepting.disconnecting f) x = cc

pub npdus_pass_where_up : (a : Made) → NpdusPassWhereUp a
npdus_pass_where_up a events e h may k o msg is passed npdu =
    let L = log a events in
    let M = with_event L e in
    let r = lasting a (Rising a) (rising_at_first a) (rising_goes_on a) events h in
    let connected_then : phase M (Direct k) ≡ Connected = passes_connected (own_vmac a M) _ (phase M (Direct k)) a.own.max_bvlc o msg passed npdu in
    let made : is_made k L ≡ true = made_before k L (came e) refl refl (connected_made (was_taken (Direct k) M) M k connected_then) in
    let there : is_there (Direct k) L ≡ true = and_left (is_there (Direct k) L) (was_open (Direct k) L) (fitting L e may (Came (Direct k) o) is) in
    let up = r.risen k there made in
    (up.0, r.ups k up.0 up.1, up.1)
