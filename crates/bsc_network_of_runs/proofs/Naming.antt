-- Who is connected to a hub is the node at the other end of its session's link.
-- It serves clauses of functions of `laws`.
use Rattle.std.proofs.Common.{◌≡◌, ◌⊎◌, inl, inr, ℕ, ◌+◌, zero, suc, Bool, true, false, cond, List, [], ◌∷◌, ◌++◌, drop, Option, Some, None, refl, ap, sym, subst, ◌∙◌, append-nil}
use Rattle.std.specs.Prelude.{IsTrue, slice_get}
use Rattle.std.proofs.lemmas.Option.{same_Some}
use Rattle.bsc_octets.specs.declared.identity.Identity.{Identity}
use Rattle.bsc_frame.specs.declared.message.Message.{Message}
use Rattle.bsc_frame.specs.declared.body.Body.{Body}
use Rattle.bsc_frame.specs.declared.body.Body.TheVariants.{ConnectRequest}
use Rattle.bsc_checks.specs.declared.place.Place.{Place}
use Rattle.bsc_checks.specs.declared.verdict.Verdict.TheVariants.{Pass}
use Rattle.bsc_checks.specs.Outcomes.{outcome_of}
use Rattle.bsc_accept.specs.Messages.{who_asks}
use Rattle.bsc_history.specs.declared.connection.Connection.{Connection}
use Rattle.bsc_history.specs.Ends.{joined}
use Rattle.bsc_history.proofs.Connections.{found_in}
use Rattle.bsc_history.proofs.Lists.{In, In-append, In-left as In-front, In_from_all}
use Rattle.bsc_node.specs.declared.link_name.LinkName.{LinkName}
use Rattle.bsc_node.specs.declared.timed_event.TimedEvent.{TimedEvent}
use Rattle.bsc_node.specs.declared.action.Action.{Action}
use Rattle.bsc_node.specs.declared.action.Action.TheVariants.{Dial, Take, Refuse, Put, Close, Deliver, Tell, Draw}
use Rattle.bsc_node.specs.Conditions.{may_come}
use Rattle.bsc_node.specs.Laws.{with_event}
use Rattle.bsc_node.specs.Links.{begins, same_link}
use Rattle.bsc_node.specs.Logs.{Made, Line, came, did, initiating, accepting, connector, slot, resolution, Log, action_of, own}
use Rattle.bsc_node.specs.Node.{actions_at, goes_on}
use Rattle.bsc_node.proofs.Common.{same_link-is}
use Rattle.bsc_node_identity.specs.Naming.{ConnectsNameTheirPeer, OthersNameNobody, PutsAs, is_connect, named_by}
use Rattle.bsc_node_identity.specs.There.{StaysANode}
use Rattle.bsc_node_identity.proofs.Events.{names-itself}
use Rattle.bsc_node_identity.proofs.Settled.{Settled, lasting, settled-at_first, settled-goes_on}
use Rattle.bsc_history.specs.declared.entry.Entry.{Entry}
use Rattle.bsc_edge.specs.declared.said.Said.{Said}
use Rattle.bsc_session.specs.declared.ended.Ended.{Ended}
use Rattle.bsc_session.specs.Serving.{received}
use Rattle.bsc_session.specs.Standings.{Terms}
use Rattle.bsc_session.specs.Talk.{Session}
use Rattle.bsc_session_laws.specs.Laws.{ConnectsAreAsked, IsUnconnectedBy}
use Rattle.bsc_session_laws.specs.Messages.{JudgedMessage, asked, connected, messages_of}
use Rattle.bsc_node_links.specs.Lives.{LinkLife, life_of, lines_since, put_by, put_over, until_anew}
use Rattle.bsc_node_links.specs.Talks.{given_in, put_in}
use Rattle.bsc_network_of_runs.specs.Connecting.{ConnectionsAreOfNodes, IsOfNode}
use Rattle.bsc_network_of_runs.specs.Deliveries.{SessionIn}
use Rattle.bsc_network_of_runs.specs.Networks.{AreLinks, Carries, HasTraffic, LinkEnd, Network, OtherEnd, SessionName, Traffic, of_node, of_session}
use Rattle.bsc_network_of_runs.specs.Nodes.{CameAt, NodeRun, log_of}
use Rattle.bsc_network_of_runs.proofs.Joining.{AskedBy, asked_among, asked_so, caller_is, connect_among}
use Rattle.bsc_network_of_runs.proofs.Members.{In-given, In-made, In-mapped}
use Rattle.bsc_network_of_runs.proofs.Passing.{GivenLaw}
use Rattle.bsc_network_of_runs.proofs.Sending.{came_still}

-- ---- each thing that a node did it did at some event

record DoneAt (a : Made) (L : Log) (action : Action) : Type 0 where
  place : ℕ
  e : TimedEvent
  comes : CameAt a L place e
  settled : Settled a comes.before
  does : In action (actions_at a comes.before e)

record AllDone (a : Made) (L : Log) : Type 0 where
  settled : Settled a L
  each : (action : Action) → In (did action) L → DoneAt a L action

done_at_first : (a : Made) → AllDone a []
done_at_first a = record { settled = settled-at_first a; each = λ action h. absurd h }

done_goes_on : (a : Made) (L : Log) (e : TimedEvent) → AllDone a L → IsTrue (may_come L e) → AllDone a (L ++ goes_on a e L)
done_goes_on a L e all may = record { settled = settled-goes_on a L e all.settled may; each = λ action h. by action (In-append (did action) L (goes_on a e L) h) }
  where
    by : (action : Action) → In (did action) L ⊎ In (did action) (goes_on a e L) → DoneAt a (L ++ goes_on a e L) action
    by action (inl h) = (let d = all.each action h in record { place = d.place; e = d.e; comes = came_still a L d.place d.e (goes_on a e L) d.comes; settled = d.settled; does = d.does })
    by action (inr h) = record {
      place = _;
      e = e;
      comes = record { before = L; later = []; is = ap (λ (l : List Line). L ++ l) (sym (append-nil (goes_on a e L))); here = refl; may = may };
      settled = all.settled;
      does = In-made action_of (did action) action (goes_on a e L) h refl;
    }

-- ---- what is put on a link stands in the log

In-until : (name : LinkName) (m : Line) (lines : List Line) → In m (until_anew name lines) → In m lines
In-until name m [] h = h
In-until name m (x ∷ lines) h = by (λ g. In-until name m lines g) (begins name x) h
  where
    by : (In m (until_anew name lines) → In m lines) → (b : Bool) → In m (cond b [] (x ∷ until_anew name lines)) → In m (x ∷ lines)
    by rec true g = absurd g
    by rec false (inl e) = inl e
    by rec false (inr g) = inr (rec g)

In-dropped : {A : Type 0} (x : A) (n : ℕ) (xs : List A) → In x (drop n xs) → In x xs
In-dropped x zero xs h = h
In-dropped x (suc n) [] h = h
In-dropped x (suc n) (y ∷ ys) h = inr (In-dropped x n ys h)

-- a line that puts this on the link
pub puts_it : (name : LinkName) (o : List ℕ) (m : Line) → In o (put_by name m) → (other : LinkName) × (m ≡ did (Put other o)) × (other ≡ name)
puts_it name o (did (Put other p)) h = by (same_link other name) refl h
  where
    by : (b : Bool) → same_link other name ≡ b → In o (cond b (p ∷ []) []) → (link : LinkName) × (did (Put other p) ≡ did (Put link o)) × (link ≡ name)
    by true is (inl e) = (other, ap (λ (q : List ℕ). did (Put other q)) e, same_link-is other name is)
    by true is (inr g) = absurd g
    by false is g = absurd g
puts_it name o (did (Dial other uri)) h = absurd h
puts_it name o (did (Take other)) h = absurd h
puts_it name o (did (Refuse c)) h = absurd h
puts_it name o (did (Close other c)) h = absurd h
puts_it name o (did (Deliver d)) h = absurd h
puts_it name o (did (Tell note)) h = absurd h
puts_it name o (did Draw) h = absurd h
puts_it name o (came e) h = absurd h
puts_it name o (initiating other call) h = absurd h
puts_it name o (accepting other call) h = absurd h
puts_it name o (connector e) h = absurd h
puts_it name o (slot call) h = absurd h
puts_it name o (resolution call) h = absurd h

put_in_log : (L : Log) (x : LinkLife) (o : List ℕ) → In o (put_over L x) → (name : LinkName) × In (did (Put name o)) L
put_in_log L x o h =
    let g = In-given (put_by x.name) o (life_of L x) h in
    let p = puts_it x.name o g.from g.gives in
    (p.0, subst (λ (m : Line). In m L) p.1 (In-dropped g.from (x.began + 1) L (In-until x.name g.from (lines_since L x) g.among)))

-- ---- who names itself by what was put

no_name : (body : Body) (who : Identity) → who_asks body ≡ Some who → named_by body ≡ None → ⊥
no_name (ConnectRequest own) who h g = cc
no_name body who h g = cc

pub one_name : (body : Body) (who own : Identity) → who_asks body ≡ Some who → named_by body ≡ Some own → who ≡ own
one_name (ConnectRequest x) who own h g = same_Some who own (sym h ∙ g)
one_name body who own h g = cc

module _ (names : ConnectsNameTheirPeer) (others : OthersNameNobody) (stays : (a : Made) → StaysANode a) where
  pub is_connect_so : (o : List ℕ) (place : Place) (max : ℕ) (msg : Message) (who : Identity) → outcome_of o place max ≡ Pass msg → who_asks msg.body ≡ Some who → is_connect o ≡ true
  is_connect_so o place max msg who passed asks = by (is_connect o) refl
    where
      by : (b : Bool) → is_connect o ≡ b → is_connect o ≡ true
      by true is = is
      by false is = absurd (no_name msg.body who asks (others o place max msg is passed))

  -- what a node put by which somebody asks, names that node
  put_by_node : (k : ℕ) (N : Network) (c : Connection) (n : NodeRun) (at : slice_get N.nodes k ≡ Some n) (x : LinkLife) (o : List ℕ) → In o (put_over (log_of n) x)
      → (place : Place) (max : ℕ) (msg : Message)
      → outcome_of o place max ≡ Pass msg → who_asks msg.body ≡ Some c.who → IsOfNode N k c
  put_by_node k N c n at x o h place max msg passed asks =
      let a = n.made in
      let L = log_of n in
      let p = put_in_log L x o h in
      let all = lasting a (AllDone a) (done_at_first a) (λ M e done may. done_goes_on a M e done may) n.events n.may in
      let d = all.each (Put p.0 o) p.1 in
      let me = own a (with_event d.comes.before d.e) in
      let puts : PutsAs me (Put p.0 o) = In_from_all (PutsAs me) (Put p.0 o) (actions_at a d.comes.before d.e) (names-itself a d.comes.before d.e d.settled d.comes.may) d.does in
      let named = names me o place max msg (stays a n.is_node (with_event d.comes.before d.e)) (puts (is_connect_so o place max msg c.who passed asks)) passed in
      record { node = n; at_node = at; place = d.place; e = d.e; comes = d.comes; who = one_name msg.body c.who me asks named }

-- one of the first is one of all
pub In-left : (o : List ℕ) (later os ps : List (List ℕ)) → ps ≡ os ++ later → In o os → In o ps
In-left o later os ps is h = subst (In o) (sym is) (left os h)
  where
    left : (xs : List (List ℕ)) → In o xs → In o (xs ++ later)
    left xs g = In-front o xs later g

-- ---- the connections of sessions

abbrev pub ConnectsLaw : Type 0
ConnectsLaw = (v : Terms) (T : List Said) (R : List ℕ) (E : List Entry) (frames : List (List ℕ)) (ended : Ended) → (x : Session v T R E frames ended) → ConnectsAreAsked v E x.course

module _ (names : ConnectsNameTheirPeer) (others : OthersNameNobody) (stays : (a : Made) → StaysANode a) (given_law : GivenLaw) (connects_law : ConnectsLaw) (N : Network) (other : OtherEnd)
    (links : AreLinks N other) (z : SessionName) (x : SessionIn N z) (c : Connection)
    (conn : x.session.ended.conn ≡ Some c.number) (among : In c (joined x.hub.history)) where
  pub who_asked : AskedBy (messages_of x.session.session.course) c.who
  who_asked =
      let s = x.session in
      let law = connects_law s.terms s.talk s.readings s.entries (received x.hub.about x.hub.history s.ended.conn s.ended.taken) s.ended s.session in
      let there = connect_among x.hub.about x.hub.history x.hub.legal s c conn among in
      asked_so s.session.course c.who (asked_among (IsUnconnectedBy s.terms.policy s.session.course.last) (asked (messages_of s.session.course)) (connected s.entries) c.who law.made there)

  -- the message by which it asked was given by the session's link
  pub was_given : In who_asked.message.octets (given_in x.session.talk)
  was_given =
      let s = x.session in
      subst (In who_asked.message.octets) (given_law s.terms s.talk s.readings s.entries (received x.hub.about x.hub.history s.ended.conn s.ended.taken) s.ended s.session)
      (In-mapped (λ (j : JudgedMessage). j.octets) who_asked.message (messages_of s.session.course) who_asked.among)

  abbrev t : Traffic
  t = record { given = given_in x.session.talk; put = put_in x.session.talk }

  of_node_there : (k : ℕ) (link : LinkLife) (u : Traffic) → HasTraffic N (of_node k link) u → (later : List (List ℕ)) → u.put ≡ given_in x.session.talk ++ later → IsOfNode N k c
  of_node_there k link u (n, at, begun, is) later first =
      put_by_node names others stays k N c n at link who_asked.message.octets
      (In-left who_asked.message.octets later (given_in x.session.talk) (put_over (log_of n) link) (sym (ap (λ (v : Traffic). v.put) is) ∙ first) was_given)
      who_asked.place who_asked.max who_asked.msg who_asked.passed who_asked.asks

  of_dialler : (k : ℕ) (link : LinkLife) → other (of_session z) ≡ Some (of_node k link) → IsOfNode N k c
  of_dialler k link leads =
      let carried : Carries N (Some (of_node k link)) t = subst (λ (y : Option LinkEnd). Carries N y t) leads (links.carry (of_session z) t (x.hub, x.session, x.at_hub, x.at_session, refl)) in
      of_node_there k link carried.0 carried.1 carried.2.0 carried.2.1

pub connections_are_of_nodes : ConnectsNameTheirPeer → OthersNameNobody → ((a : Made) → StaysANode a) → GivenLaw → ConnectsLaw → ConnectionsAreOfNodes
connections_are_of_nodes names others stays given connects N other links z x c conn found =
    let among : In c (joined x.hub.history) = (found_in c.number (joined x.hub.history) c found).0 in
    record {
      joined_by = caller_is x.hub.about x.hub.history x.hub.legal x.session c conn among;
      of_dialler = of_dialler names others stays given connects N other links z x c conn among;
    }
