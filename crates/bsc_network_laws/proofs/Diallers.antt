-- After each step, a connection of a hub has the identity of the node that dialled its link.
-- It serves clauses of functions of `laws`.
use Rattle.std.proofs.Common.{◌≡◌, ℕ, Bool, true, false, List, [], ◌∷◌, ◌++◌, Option, Some, None, option_to_list, refl, ap, sym, subst, ◌∙◌}
use Rattle.std.specs.Prelude.{◌+◌, slice_get, ⊤}
use Rattle.std.specs.Option.{option_map}
use Rattle.std.specs.List.{AllByRecursion}
use Rattle.std.proofs.lemmas.List.{map-append}
use Rattle.bsc_octets.specs.declared.identity.Identity.{Identity}
use Rattle.bsc_frame.specs.declared.message.Message.{Message}
use Rattle.bsc_frame.specs.Payloads.{IsNode}
use Rattle.bsc_history.specs.declared.call.Call.{Call}
use Rattle.bsc_history.specs.declared.call.Call.TheVariants.{Connect, Forward}
use Rattle.bsc_history.specs.declared.reply.Reply.TheVariants.{Joined}
use Rattle.bsc_history.specs.Entries.{connection_of}
use Rattle.bsc_history.specs.Ends.{joined}
use Rattle.bsc_history.proofs.More as More
use Rattle.bsc_checks.specs.declared.place.Place.{Place}
use Rattle.bsc_checks.specs.declared.place.Place.TheVariants.{HubPort}
use Rattle.bsc_checks.specs.declared.verdict.Verdict.{Verdict}
use Rattle.bsc_checks.specs.declared.verdict.Verdict.TheVariants.{Pass, Carry as Carried, Silent, Nak}
use Rattle.bsc_checks.specs.Outcomes.{outcome_of}
use Rattle.bsc_accept.specs.declared.step.Step.{Step}
use Rattle.bsc_accept.specs.declared.step.Step.TheVariants.{Ask}
use Rattle.bsc_accept.specs.Messages.{who_asks, is_farewell_answer}
use Rattle.bsc_accept.specs.Past.{Standing, awaiting_request, connected, disconnecting, standing, phase}
use Rattle.bsc_accept.specs.Steps.{connected_step, message_step}
use Rattle.bsc_node.specs.declared.node_event.NodeEvent.{NodeEvent}
use Rattle.bsc_node.specs.declared.link_name.LinkName.{LinkName}
use Rattle.bsc_node.specs.Logs.{Made}
use Rattle.bsc_node_identity.specs.Naming.{is_connect}
use Rattle.bsc_node_identity.proofs.Carried.{connects_name_their_peer, others_name_nobody}
use Rattle.bsc_node_identity.proofs.Meets.{asks_names}
use Rattle.bsc_network.specs.declared.world_step.WorldStep.{WorldStep}
use Rattle.bsc_network.specs.declared.way.Way.TheVariants.{Up, Down}
use Rattle.bsc_network.specs.declared.target.Target.TheVariants.{Node as ToNode}
use Rattle.bsc_network.specs.declared.arrival.Arrival.{Arrival}
use Rattle.bsc_network.specs.declared.hold.Hold.{Hold}
use Rattle.bsc_network.specs.declared.parcel.Content.{Content}
use Rattle.bsc_network.specs.declared.parcel.Content.TheVariants.{Message as Octets, Closed}
use Rattle.bsc_network.specs.Worlds.{World, Hub, Node, Link, Posted, history, hub_at, node_at, link_at}
use Rattle.bsc_network.specs.Changes.{with_found, with_side}
use Rattle.bsc_network.specs.NodeSides.{hold_of, puts_on, puts_by}
use Rattle.bsc_network.specs.HubCalls.{called, entry_in, reply_in}
use Rattle.bsc_network.specs.declared.timed_step.TimedStep.{TimedStep}
use Rattle.bsc_network.specs.Settings.{Added, hub, node, nodes, nodes_after}
use Rattle.bsc_network.specs.Courses.{MayAddAll}
use Rattle.bsc_network.proofs.Places.{all-changed_here, all-mapped, found-in}
use Rattle.bsc_network_laws.specs.Ends.{receiver}
use Rattle.bsc_network_laws.specs.Naming.{Cast, cast_of, identity_in, IsNamedRight}
use Rattle.bsc_network_laws.specs.Connecting.{IsOfDialler, JoinsDiallers}
use Rattle.bsc_network_laws.proofs.Moves.{IsSide, HasArrived, IsSaid, says_joined, Comes, Each, Lets}
use Rattle.bsc_network_laws.proofs.Acting.{goes_on_in, EachAct, LetsActs}
use Rattle.bsc_network_laws.proofs.Sides.{with_call}
use Rattle.bsc_network_laws.proofs.Stepping.{begun, done, lets-step}
use Rattle.bsc_network_laws.proofs.Beside.{KeepsGiven, KeepsBoth, beside, together}
use Rattle.bsc_network_laws.proofs.Holding.{Keep, KeepFrom, keep-log}
use Rattle.bsc_network_laws.proofs.Holding as Holding
use Rattle.bsc_network_laws.proofs.Casting.{KnowsAll, knows_all, AmidAll, hears-all}
use Rattle.bsc_network_laws.proofs.Named.{Named, arrived-up, named_stays}
use Rattle.bsc_network_laws.proofs.Callers.{none_made}
use Rattle.bsc_network_laws.proofs.SideFits.{asks, asks-if, asks-connected}
use Rattle.bsc_accept.proofs.Common.{asked_by as asked_who}
use Rattle.bsc_history.proofs.Common.{one_made}
use Rattle.bsc_lemmas.proofs.Lists.{all-at, all_append as all-joined}
use Rattle.std.proofs.lemmas.Option.{same_Some as some_same}

-- ---- who asks

-- What a machine asks about is named by a message that passed.
pub record IsAskedBy (v : Verdict) (who : Identity) : Type 0 where
  pub message : Message
  pub passed : v ≡ Pass message
  pub asks : who_asks message.body ≡ Some who

not_asked : (st : Step) (who : Identity) → asks st ≡ false → Ask who ≡ st → ⊥
not_asked st who none is = no (ap asks is ∙ none)
  where
    no : true ≡ false → ⊥
    no e = cc

pub asked : (g : Standing) (v : Verdict) (who : Identity) → Ask who ≡ message_step g v → IsAskedBy v who
asked awaiting_request (Pass msg) who is = record { message = msg; passed = refl; asks = asked_who (who_asks msg.body) who is }
asked connected (Pass msg) who is = absurd (not_asked (connected_step msg.id msg.body) who (asks-connected msg.id msg.body) is)
asked (disconnecting f) (Pass msg) who is = absurd (not_asked (message_step (disconnecting f) (Pass msg)) who (asks-if (is_farewell_answer f.id msg) _ _ refl refl) is)
asked g (Carried envelope) who is = cc
asked g (Silent check) who is = cc
asked g (Nak check octets) who is = cc

-- The one who asks is the one whom the octets name.
pub asks_right : (own : Option Identity) (m : List ℕ) (p : ℕ) (place : Place) (max : ℕ) (g : Standing) (who : Identity) → ((x : Identity) → own ≡ Some x → IsNode x)
    → Ask who ≡ message_step g (outcome_of m place max)
    → IsNamedRight own (record { octets = m; sent_at = p }) → own ≡ Some who
asks_right own m p place max g who fit is right = by (is_connect m) refl
  where
    a : IsAskedBy (outcome_of m place max) who
    a = asked g (outcome_of m place max) who is

    none : None ≡ Some who → ⊥
    none e = cc

    by : (b : Bool) → is_connect m ≡ b → own ≡ Some who
    by true names =
        let r = right names in
        let said = connects_name_their_peer r.0 m place max a.message (fit r.0 r.1) r.2 a.passed in
        r.1 ∙ sym said ∙ asks_names a.message.body who a.asks
    by false names = absurd (none (sym (others_name_nobody m place max a.message names a.passed) ∙ asks_names a.message.body who a.asks))

-- ---- moves that change no hub

abbrev pub Inv : Cast → World → Type 0
Inv cast w = AllByRecursion (JoinsDiallers cast w) w.hubs

heard_from : (o : Option Link) (k : ℕ) → option_map (λ (x : Link). x.from) o ≡ Some k → option_map (receiver Down) o ≡ Some (ToNode k)
heard_from None k h = cc
heard_from (Some x) k h = ap (λ i. Some (ToNode i)) (some_same x.from k h)

from_heard : (o : Option Link) (k : ℕ) → option_map (receiver Down) o ≡ Some (ToNode k) → option_map (λ (x : Link). x.from) o ≡ Some k
from_heard None k h = cc
from_heard (Some x) k h = ap Some (same_node x.from k (some_same (ToNode x.from) (ToNode k) h))
  where
    same_node : (i k : ℕ) → ToNode i ≡ ToNode k → i ≡ k
    same_node i k h = cc

pub dialled-on : (u v : World) → Keep u v → (l k : ℕ) → option_map (λ (x : Link). x.from) (link_at u l) ≡ Some k → option_map (λ (x : Link). x.from) (link_at v l) ≡ Some k
dialled-on u v kept l k is = from_heard (link_at v l) k (kept.ends l Down k (heard_from (link_at u l) k is))

joins-on : (cast : Cast) (u v : World) → Keep u v → (h : Hub) → JoinsDiallers cast u h → JoinsDiallers cast v h
joins-on cast u v kept h all = all-mapped (IsOfDialler cast u) (IsOfDialler cast v) (λ c d. (d.0, dialled-on u v kept c.caller d.0 d.1, d.2)) (joined (history h)) all

pub inv-same : (cast : Cast) (u v : World) → Keep u v → v.hubs ≡ u.hubs → Inv cast u → Inv cast v
inv-same cast u v kept hubs all = subst (AllByRecursion (JoinsDiallers cast v)) (sym hubs) (all-mapped (JoinsDiallers cast u) (JoinsDiallers cast v) (joins-on cast u v kept) u.hubs all)

-- ---- calls

joins-more : (cast : Cast) (w : World) (caller place : ℕ) (call : Call) (h : Hub) → JoinsDiallers cast w h
    → AllByRecursion (IsOfDialler cast w) (option_to_list (connection_of (entry_in w h caller call)))
    → JoinsDiallers cast w (with_call w caller place call h)
joins-more cast w caller place call h all one =
    subst (AllByRecursion (IsOfDialler cast w))
    (sym (ap joined (map-append (λ (p : Posted). p.entry) h.posted (record { entry = entry_in w h caller call; sent_at = place } ∷ [])) ∙ More.joined-more (history h) (entry_in w h caller call)))
    (all-joined (IsOfDialler cast w) (joined (history h)) (option_to_list (connection_of (entry_in w h caller call))) all one)

inv-called : (cast : Cast) (w : World) (j caller place : ℕ) (call : Call)
    → ((h : Hub) → hub_at w j ≡ Some h → AllByRecursion (IsOfDialler cast w) (option_to_list (connection_of (entry_in w h caller call))))
    → Inv cast w → Inv cast (called j caller place call w)
inv-called cast w j caller place call one = all-changed_here (JoinsDiallers cast w) j (with_call w caller place call) w.hubs (λ h here all. joins-more cast w caller place call h all (one h here))

-- ---- the moves of a step

-- each node is one that can say who it is
abbrev pub IsFit : Cast → Type 0
IsFit cast = (k : ℕ) (who : Identity) → identity_in cast (ToNode k) ≡ Some who → IsNode who

abbrev pub KnowsNames : Cast → ℕ → ℕ → World → Type 0
KnowsNames cast T place u = KnowsAll cast T place u × Named cast u

inv-joins : (cast : Cast) → IsFit cast → (w : World) (l j place : ℕ) (h : Hub) (k : Link) (m : List ℕ) (who : Identity) (c : ℕ) (replaced : Option ℕ) → IsSide w l j h k
    → HasArrived w l Up (record { content = Octets m; sent_at = place })
    → IsSaid h k m (Ask who) → reply_in w h (Connect who) ≡ Joined c replaced → Named cast w → Inv cast w → Inv cast (called j l place (Connect who) w)
inv-joins cast fit w l j place h k m who c replaced side arrival said is names =
    inv-called cast w j l place (Connect who) (λ g here.
    one_made (IsOfDialler cast w) l who (reply_in w g (Connect who)) c replaced (ap (λ (x : Hub). reply_in w x (Connect who)) (some_same g h (sym here ∙ side.hub)) ∙ is) (
      k.from,
      ap (option_map (λ (x : Link). x.from)) side.link,
      asks_right (identity_in cast (ToNode k.from)) m place (HubPort (phase said.events)) h.about.hub.max_bvlc (standing said.events) who (fit k.from) said.is
          (arrived-up cast w l place k m side.link arrival names),
    ))

each_act : (cast : Cast) (T place : ℕ) (D : WorldStep) (k : ℕ) (w : World) (n : Node) (by : Option Arrival) (e : NodeEvent) → Comes D w k n by e
    → EachAct k by (λ action. ⊤) (KeepsGiven (AmidAll w cast T place) (Inv cast))
each_act cast T place D k w n by e come = record {
  puts = λ u name o known a. inv-same cast u _ (A.each.puts u name o tt a.0.kept) (puts-hubs u name (Octets o));
  closes = λ u name a. inv-same cast u _ (A.each.closes u name a.0.kept) (puts-hubs u name Closed);
  takes = λ u name b is known a. inv-same cast u _ (A.each.takes u name b is tt a.0.kept) refl;
  dials_as = λ u name uri t known leads a. inv-same cast u _ (A.each.dials_as u name uri t tt leads a.0.kept) refl;
  fails_as = λ u name a. inv-same cast u _ (A.each.fails_as u name a.0.kept) refl;
  refuses_it = λ u b is a. inv-same cast u _ (A.each.refuses_it u b is a.0.kept) refl;
  delivers_one = λ u d b is known a. inv-same cast u _ (A.each.delivers_one u d b is tt a.0.kept) refl;
}
  where
    A : LetsActs k by (λ action. ⊤) (KeepFrom w)
    A = Holding.lets_acts D k w n by e come

    puts-hubs : (u : World) (name : LinkName) (content : Content) → (puts_by k name content u).hubs ≡ u.hubs
    puts-hubs u name content = at_node (node_at u k)
      where
        at_hold : (o : Option Hold) → (with_found o (puts_on content) u).hubs ≡ u.hubs
        at_hold None = refl
        at_hold (Some h) = refl

        at_node : (o : Option Node) → (with_found o (λ m. with_found (hold_of name m) (puts_on content)) u).hubs ≡ u.hubs
        at_node None = refl
        at_node (Some m) = at_hold (hold_of name m)

-- A connection stays that of the node that dialled.
pub diallers_stay : (cast : Cast) → IsFit cast → (T place : ℕ) (D : WorldStep) → Each D (KeepsGiven (KnowsNames cast T place) (Inv cast))
diallers_stay cast fit T place D = record {
  over = λ w l m. inv-same cast w _ (A.each.over w l) refl;
  tells = λ w l j h k e other side m. inv-same cast w _ (A.each.tells w l j h k e other side) refl;
  empty = λ w l m. inv-same cast w _ (A.each.empty w l) refl;
  closes_down = λ w l m. inv-same cast w _ (A.each.closes_down w l) refl;
  hub_puts = λ w l j h k st o side wanted is m. inv-same cast w _ (A.each.hub_puts w l j h k st o side wanted is) refl;
  leaves = λ w l j h k c side conn m. inv-called cast w j l w.steps _ (λ g here. tt);
  stops = λ w j h here is m. inv-called cast w j _ w.steps _ (λ g at. tt);
  asks = λ w l j p h k o who side arrival said is m.
      inv-called cast w j l p (Connect who) (λ g here. none_made (IsOfDialler cast w) l who (reply_in w g (Connect who))
      (ap (λ (x : Hub). says_joined (reply_in w x (Connect who))) (some_same g h (sym here ∙ side.hub)) ∙ is));
  joins = λ w l j p h k o who c replaced side arrival said is m all.
      let v = called j l p (Connect who) w in
      let u = with_side l (λ x. record x { conn = Some c }) v in
      inv-same cast v _ (Holding.keep-then v u _ (Holding.keep-side v l _) (Holding.keep-side u l _)) refl (inv-joins cast fit w l j p h k o who c replaced side arrival said is m.1 all);
  forwards = λ w l j p h k o c side conn arrival said m. inv-called cast w j l p (Forward c o) (λ g here. tt);
  takes = λ w l j h k c f side conn is m. inv-same cast w _ (A.each.takes w l j h k c f side conn is) refl;
  hears = λ w k n by e here come fits_now m.
      hears-all cast T place D k w n by e (λ action. ⊤) (Inv cast) here come fits_now (each_act cast T place D k w n by e come) m.0
      (inv-same cast w (goes_on_in k (record { now = w.now; event = e }) w) (keep-log w k (record { now = w.now; event = e })) refl) (λ action among. tt);
  forgets = λ w later m. inv-same cast w _ (A.each.forgets w later) refl;
  arrives = λ w l way k x here is m. inv-same cast w _ (A.each.arrives w l way k x here is) refl;
  loses = λ w l m. inv-same cast w _ (A.each.loses w l) refl;
}
  where
    A : Lets D Keep
    A = Holding.lets D

-- What each move keeps where names are right too, a step keeps.
pub kept-names : (cast : Cast) (It : World → Type 0) (t : TimedStep) (place : ℕ) → Each t.step (KeepsGiven (KnowsNames cast t.now place) It) → (w : World)
    → KnowsNames cast t.now place (begun w t) → It (begun w t) → It (done w t)
kept-names cast It t place N w known =
    (lets-step (KeepsBoth (KnowsNames cast t.now place) It) t
    (beside t.step (KnowsNames cast t.now place) It (together t.step (KnowsAll cast t.now place) (Named cast) (knows_all cast t.now place t.step) (named_stays cast t.now place t.step)) N)
    w known).1

-- ---- who may take part

all-nodes : (before added : List Added) (hubs_before number : ℕ) → MayAddAll before added → AllByRecursion (λ (m : Made). IsNode m.own) (nodes_after hubs_before number added)
all-nodes before [] hubs_before number may = tt
all-nodes before (hub about ∷ added) hubs_before number may = all-nodes (before ++ hub about ∷ []) added (hubs_before + 1) number may.1
all-nodes before (node own direct ∷ added) hubs_before number may = (may.0.who, all-nodes (before ++ node own direct ∷ []) added hubs_before (number + 1) may.1)

pub nodes_fit : (added : List Added) → MayAddAll [] added → IsFit (cast_of added)
nodes_fit added may k who is =
    let there = found-in (λ (m : Made). m.own) (slice_get (nodes added) k) who is in
    subst IsNode there.2 (all-at (λ (m : Made). IsNode m.own) (nodes added) k there.0 (all-nodes [] added 0 0 may) there.1)
