-- No two deliveries of one node that came over hubs are of one Send.
-- It serves the clauses of `direct_deliveries_were_sent`, `hub_deliveries_are_apart` and `runs_deliver_only_what_was_sent`.
use Rattle.std.proofs.Common.{◌≡◌, ◌≢◌, ◌⊎◌, inl, inr, ℕ, ◌<◌, zero, suc, true, List, [], ◌∷◌, ◌++◌, length, take, Option, Some, refl, ap, sym, subst, ◌∙◌, arith}
use Rattle.std.specs.Prelude.{slice_get}
use Rattle.std.proofs.lemmas.Option.{same_Some}
use Rattle.bsc_octets.specs.declared.identity.Identity.{Identity}
use Rattle.bsc_octets.specs.Functions.{is_npdu, npdus}
use Rattle.bsc_history.specs.declared.connection.Connection.{Connection}
use Rattle.bsc_history.specs.declared.entry.Entry.{Entry}
use Rattle.bsc_history.specs.declared.limits.About.{About}
use Rattle.bsc_history.specs.Ends.{joined, live, numbered}
use Rattle.bsc_history.specs.Laws.{Apart, OneOfDevice}
use Rattle.bsc_history.specs.Legality.{Legal}
use Rattle.bsc_history.proofs.Common.{joined-append}
use Rattle.bsc_history.proofs.Connections.{found_in, joined_apart, joined_in, numbered_so}
use Rattle.bsc_history.proofs.Lists.{In, In-left, In_from_all, same_one}
use Rattle.bsc_history.proofs.Parts.{Legal-first}
use Rattle.bsc_node.specs.Logs.{came}
use Rattle.bsc_node_links.specs.Lives.{LinkLife, given_over}
use Rattle.bsc_node_links.specs.Talks.{given_in}
use Rattle.bsc_network_of_runs.specs.Connecting.{ConnectionsAreOfNodes, IsConnectedBy, IsOfNode}
use Rattle.bsc_network_of_runs.specs.Deliveries.{CameByHub, CameUp, Delivery, HubDeliveriesAreApart, SessionsPutOnce, beside}
use Rattle.bsc_network_of_runs.specs.Hubs.{HubRun, SessionOf}
use Rattle.bsc_network_of_runs.specs.Networks.{AreLinks, LinkEnd, Network, OtherEnd, SessionName, of_node, of_session}
use Rattle.bsc_network_of_runs.specs.Nodes.{HearsAt, NodeRun, Sending, SendsAt, log_of}
use Rattle.bsc_network_of_runs.specs.Passing.{WasPassedOn}
use Rattle.bsc_node_identity.proofs.Npdus.{out-npdu}
use Rattle.bsc_network_of_runs.proofs.Coming.{own-npdu, same_put}
use Rattle.bsc_network_of_runs.proofs.Hearing.{from_event, heard-in}
use Rattle.bsc_network_of_runs.proofs.Lists.{same-kept}
use Rattle.bsc_network_of_runs.proofs.Lives.{either_way}
use Rattle.bsc_network_of_runs.proofs.Members.{In-got}
use Rattle.bsc_network_of_runs.proofs.Passing.{one_forward}
use Rattle.bsc_lemmas.proofs.Lists.{got-within}

-- ---- one place

-- a first part that is longer goes on where the shorter one ends
longer : {A : Type 0} (b c : List A) (x : A) (l m : List A) → b ++ x ∷ l ≡ c ++ m → length b < length c → (rest : List A) × (c ≡ b ++ x ∷ rest)
longer [] [] x l m is less = absurd (omega arith)
longer {A} [] (y ∷ c) x l m is less = (let same : y ≡ x = cc in (c, ap (λ (z : A). z ∷ c) same))
longer (a ∷ b) [] x l m is less = absurd (omega arith)
longer {A} (a ∷ b) (y ∷ c) x l m is less =
    let same : y ≡ a = cc in
    let tail : b ++ x ∷ l ≡ c ++ m = cc in
    let r = longer b c x l m tail (omega arith) in
    (r.0, ap (λ (z : A). z ∷ c) same ∙ ap (λ (t : List A). a ∷ t) r.1)

-- the later of two that are heard stands behind the earlier
heard_later : (n : NodeRun) (x : LinkLife) (r q i j : ℕ) (o p : List ℕ) → (h : HearsAt n x r i o) → (g : HearsAt n x q j p) → is_npdu o ≡ true → length h.comes.before < length g.comes.before → r < q
heard_later n x r q i j o p h g npdu less =
    let split = longer h.comes.before g.comes.before (came h.e) _ _ (sym (from_event n.made (log_of n) i h.e h.comes) ∙ g.comes.is) less in
    let at = heard-in g.comes.before h.comes.before split.0 x h.e o split.1 h.brings h.has npdu in
    let below = got-within (npdus (given_over g.comes.before x)) (length (npdus (given_over h.comes.before x))) o at in
    let first = h.nth in
    let second = g.nth in
    omega arith

pub heard_once : (n : NodeRun) (x : LinkLife) (r i j : ℕ) (o p : List ℕ) → HearsAt n x r i o → HearsAt n x r j p → is_npdu o ≡ true → is_npdu p ≡ true → i ≡ j
heard_once n x r i j o p h g npdu too = by (either_way (length h.comes.before) (length g.comes.before))
  where
    by : (length h.comes.before < length g.comes.before) ⊎ ((length g.comes.before < length h.comes.before) ⊎ (length h.comes.before ≡ length g.comes.before)) → i ≡ j
    by (inl less) = (let bad = heard_later n x r r i j o p h g npdu less in absurd (omega arith))
    by (inr (inl less)) = (let bad = heard_later n x r r j i p o g h too less in absurd (omega arith))
    by (inr (inr same)) = h.comes.here ∙ same ∙ sym g.comes.here

-- ---- one session

-- of those apart, two that agree have one index
one_index : {A B : Type 0} (f : A → B) (xs : List A) (i j : ℕ) (x y : A) → Apart f xs → slice_get xs i ≡ Some x → slice_get xs j ≡ Some y → f x ≡ f y → i ≡ j
one_index f [] i j x y apart a b same = cc
one_index f (z ∷ zs) zero zero x y apart a b same = refl
one_index {A} {B} f (z ∷ zs) zero (suc j) x y apart a b same = absurd (In_from_all (λ (w : A). f z ≢ f w) y zs apart.0 (In-got zs j y b) (ap f (same_Some z x a) ∙ same))
one_index {A} {B} f (z ∷ zs) (suc i) zero x y apart a b same = absurd (In_from_all (λ (w : A). f z ≢ f w) x zs apart.0 (In-got zs i x a) (ap f (same_Some z y b) ∙ sym same))
one_index f (z ∷ zs) (suc i) (suc j) x y apart a b same = ap suc (one_index f zs i j x y apart.1 a b same)

-- ---- one receiver

-- what a session put, at its hub: the session, what was put, and that its connection is of this node
record PutAt (N : Network) (h : HubRun) (k number n : ℕ) (o : List ℕ) : Type 0 where
  session : SessionOf h.about h.history
  at_session : slice_get h.sessions number ≡ Some session
  passed : WasPassedOn h session n o
  npdu : is_npdu passed.entered.message ≡ true
  joined_by : passed.entered.to.caller ≡ session.terms.caller
  of_node_k : IsOfNode N k passed.entered.to

in_joined : (h : HubRun) (before later : List Entry) (c : Connection) → h.history ≡ before ++ later → In c (live before) → In c (joined h.history)
in_joined h before later c is live_then = subst (λ (l : List Entry). In c (joined l)) (sym is)
    (subst (In c) (sym (joined-append before later)) (In-left c (joined before) (joined later) (joined_in _ before c live_then)))

module _ (connections : ConnectionsAreOfNodes) (N : Network) (other : OtherEnd) (links : AreLinks N other) where
  put_at_hub : (d : Delivery) (s : Sending) (p : CameByHub N other d s) → PutAt N p.up.put_by.hub d.node p.z.number p.n p.octets
  put_at_hub d s p =
      let x = p.up.put_by in
      let w = p.up.passed in
      let found = found_in w.conn (live w.entered.before) w.entered.to w.entered.receiver_live in
      let among : In w.entered.to (joined x.hub.history) = in_joined x.hub w.entered.before (w.entered.forward ∷ w.entered.later) w.entered.to w.entered.is found.0 in
      let one : numbered w.entered.to.number (joined x.hub.history) ≡ Some w.entered.to = numbered_so w.entered.to (joined x.hub.history) (joined_apart x.hub.about x.hub.history x.hub.legal) among in
      let r : IsConnectedBy N other p.z x.session.terms.caller w.entered.to = connections N other links p.z x w.entered.to (w.joined ∙ ap Some (sym found.1)) one in
      record {
        session = x.session;
        at_session = x.at_session;
        passed = w;
        npdu = own-npdu p.up.sender.made (log_of p.up.sender) p.up.link _ s w.entered.message p.up.sent;
        joined_by = r.joined_by;
        of_node_k = r.of_dialler d.node p.link (links.both (of_node d.node p.link) (of_session p.z) p.leads);
      }

-- ---- one delivery

-- the device of a node's connection is the node's
device_of : (N : Network) (k : ℕ) (c : Connection) (x : IsOfNode N k c) → c.who.device ≡ x.node.made.own.device
device_of N k c x = ap (λ (who : Identity). who.device) x.who

one_device : (N : Network) (k j : ℕ) (c d : Connection) → k ≡ j → IsOfNode N k c → IsOfNode N j d → c.who.device ≡ d.who.device
one_device N k j c d same x y =
    let node : x.node ≡ y.node = same_Some x.node y.node (sym x.at_node ∙ ap (λ (i : ℕ). slice_get N.nodes i) same ∙ y.at_node) in
    device_of N k c x ∙ ap (λ (n : NodeRun). n.made.own.device) node ∙ sym (device_of N j d y)

-- two that came of one index of one session were put by one session
same_session : (one : (a : About) (H : List Entry) → Legal a H → OneOfDevice H) (N : Network) (h : HubRun) (k j number index n m : ℕ) (o p : List ℕ) (x : PutAt N h k number n o)
    (y : PutAt N h j index m p) → k ≡ j → x.passed.number ≡ y.passed.number
    → length (npdus (take x.passed.index (given_in x.passed.sender.talk))) ≡ length (npdus (take y.passed.index (given_in y.passed.sender.talk))) → number ≡ index
same_session one N h k j number index n m o p x y node same_number as_many =
    let S = SessionOf h.about h.history in
    let sender : x.passed.sender ≡ y.passed.sender = same_Some x.passed.sender y.passed.sender (sym x.passed.found ∙ ap (λ (i : ℕ). slice_get h.sessions i) same_number ∙ y.passed.found) in
    let given_x : slice_get (given_in y.passed.sender.talk) x.passed.index ≡ Some x.passed.entered.message =
    subst (λ (t : S). slice_get (given_in t.talk) x.passed.index ≡ Some x.passed.entered.message) sender x.passed.given in
    let many : length (npdus (take x.passed.index (given_in y.passed.sender.talk))) ≡ length (npdus (take y.passed.index (given_in y.passed.sender.talk))) =
    ap (λ (t : S). length (npdus (take x.passed.index (given_in t.talk)))) (sym sender) ∙ as_many in
    let at : x.passed.index ≡ y.passed.index =
    same-kept is_npdu (given_in y.passed.sender.talk) x.passed.index y.passed.index x.passed.entered.message y.passed.entered.message given_x x.npdu y.passed.given y.npdu many in
    let before : x.passed.entered.before ≡ y.passed.entered.before = one_forward h x.session y.session n m o p x.passed y.passed same_number at in
    let to_x : In x.passed.entered.to (live x.passed.entered.before) = (found_in x.passed.conn (live x.passed.entered.before) x.passed.entered.to x.passed.entered.receiver_live).0 in
    let to_y : In y.passed.entered.to (live y.passed.entered.before) = (found_in y.passed.conn (live y.passed.entered.before) y.passed.entered.to y.passed.entered.receiver_live).0 in
    let legal : Legal h.about y.passed.entered.before = Legal-first h.about y.passed.entered.before (y.passed.entered.forward ∷ y.passed.entered.later)
    (subst (Legal h.about) y.passed.entered.is h.legal) in
    let to : x.passed.entered.to ≡ y.passed.entered.to = same_one (λ (c : Connection). c.who.device) x.passed.entered.to y.passed.entered.to (live y.passed.entered.before)
    (one h.about y.passed.entered.before legal) (subst (λ (G : List Entry). In x.passed.entered.to (live G)) before to_x) to_y
    (one_device N k j x.passed.entered.to y.passed.entered.to node x.of_node_k y.of_node_k) in
    one_index (λ (t : S). t.terms.caller) h.sessions number index x.session y.session h.apart x.at_session y.at_session (sym x.joined_by ∙ ap (λ (c : Connection). c.caller) to ∙ y.joined_by)

npdu_of : (N : Network) (other : OtherEnd) (d : Delivery) (s : Sending) (p : CameByHub N other d s) → is_npdu p.octets ≡ true
npdu_of N other d s p =
    ap is_npdu p.up.passed.entered.octets ∙ out-npdu p.up.passed.entered.message p.up.passed.entered.from.who.vmac
    ∙ own-npdu p.up.sender.made (log_of p.up.sender) p.up.link _ s p.up.passed.entered.message p.up.sent

of_hub : (one : (a : About) (H : List Entry) → Legal a H → OneOfDevice H) (N : Network) (h g : HubRun) (k j number index n m : ℕ) (o p : List ℕ) (x : PutAt N h k number n o)
    (y : PutAt N g j index m p) → h ≡ g → k ≡ j → x.passed.number ≡ y.passed.number
    → length (npdus (take x.passed.index (given_in x.passed.sender.talk))) ≡ length (npdus (take y.passed.index (given_in y.passed.sender.talk))) → number ≡ index
of_hub one N h g k j number index n m o p x y same = (subst One same (λ w. same_session one N h k j number index n m o p x w)) y
  where
    One : HubRun → Type 0
    One f = (w : PutAt N f j index m p) → k ≡ j → x.passed.number ≡ w.passed.number
        → length (npdus (take x.passed.index (given_in x.passed.sender.talk))) ≡ length (npdus (take w.passed.index (given_in w.passed.sender.talk))) → number ≡ index

abbrev session_of : LinkEnd → SessionName
session_of (of_session z) = z
session_of (of_node k x) = record { hub = 0; number = 0 }

abbrev pub life_in : Option LinkEnd → LinkLife → LinkLife
life_in (Some (of_node k x)) y = x
life_in e y = y

pub hub_deliveries_are_apart : ((a : About) (H : List Entry) → Legal a H → OneOfDevice H) → ConnectionsAreOfNodes → SessionsPutOnce → HubDeliveriesAreApart
unfolding put_at_hub
hub_deliveries_are_apart one connections once N other links d e s t p q node sender place =
    let u = p.up in
    let v = q.up in
    let nodes : u.sender ≡ v.sender = same_Some u.sender v.sender (sym u.at_sender ∙ ap (λ (i : ℕ). slice_get N.nodes i) sender ∙ v.at_sender) in
    let r = length (npdus (take u.passed.index (given_in u.passed.sender.talk))) in
    let sent : SendsAt v.sender.made (log_of v.sender) u.link r s u.passed.entered.message = subst (λ (w : NodeRun). SendsAt w.made (log_of w) u.link r s u.passed.entered.message) nodes u.sent in
    let put = same_put v.sender.made (log_of v.sender) u.link v.link r (length
    (npdus (take v.passed.index (given_in v.passed.sender.talk)))) s t u.passed.entered.message v.passed.entered.message sent v.sent place in
    let to_p = links.both (of_session (beside p.z u.passed.number)) (of_node s.node u.link) u.leads in
    let to_q = links.both (of_session (beside q.z v.passed.number)) (of_node t.node v.link) v.leads in
    let ends : of_session (beside p.z u.passed.number) ≡ of_session (beside q.z v.passed.number) =
    same_Some (of_session (beside p.z u.passed.number)) (of_session (beside q.z v.passed.number))
    (sym to_p ∙ ap (λ (i : ℕ). other (of_node i u.link)) sender ∙ ap (λ (y : LinkLife). other (of_node t.node y)) put.0 ∙ to_q) in
    let names : beside p.z u.passed.number ≡ beside q.z v.passed.number = ap session_of ends in
    let at_hub : p.z.hub ≡ q.z.hub = ap (λ (z : SessionName). z.hub) names in
    let number : u.passed.number ≡ v.passed.number = ap (λ (z : SessionName). z.number) names in
    let hub : u.put_by.hub ≡ v.put_by.hub = same_Some u.put_by.hub v.put_by.hub (sym u.put_by.at_hub ∙ ap (λ (i : ℕ). slice_get N.hubs i) at_hub ∙ v.put_by.at_hub) in
    let same : p.z.number ≡ q.z.number = of_hub one N u.put_by.hub v.put_by.hub d.node e.node p.z.number q.z.number p.n q.n p.octets q.octets (put_at_hub connections N other links d s p)
    (put_at_hub connections N other links e t q) hub node number put.1 in
    let z : p.z ≡ q.z = λ i. record { hub = at_hub i; number = same i } in
    let n : p.n ≡ q.n = once N other links q.z p.n q.n p.octets q.octets s t (subst (λ (y : SessionName). CameUp N other y p.n p.octets s) z u) v sender place in
    let over_p = links.both (of_node d.node p.link) (of_session p.z) p.leads in
    let over_q = links.both (of_node e.node q.link) (of_session q.z) q.leads in
    let ends_there : Some (of_node d.node p.link) ≡ Some (of_node e.node q.link) = sym over_p ∙ ap (λ (y : SessionName). other (of_session y)) z ∙ over_q in
    let link : p.link ≡ q.link = ap (λ (y : Option LinkEnd). life_in y p.link) ends_there in
    let receiver : p.over.receiver ≡ q.over.receiver = same_Some p.over.receiver q.over.receiver (sym p.over.at_receiver ∙ ap (λ (i : ℕ). slice_get N.nodes i) node ∙ q.over.at_receiver) in
    let heard : HearsAt q.over.receiver q.link q.n d.place p.octets =
    subst (λ (i : ℕ). HearsAt q.over.receiver q.link i d.place p.octets) n
    (subst (λ (y : LinkLife). HearsAt q.over.receiver y p.n d.place p.octets) link (subst (λ (w : NodeRun). HearsAt w p.link p.n d.place p.octets) receiver p.over.heard)) in
    heard_once q.over.receiver q.link q.n d.place e.place p.octets q.octets heard q.over.heard (npdu_of N other d s p) (npdu_of N other e t q)
