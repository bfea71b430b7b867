-- What a session puts was put by a node for a Send, and for no other that the session puts.
-- It serves clauses of functions of `laws`.
use Rattle.std.proofs.Common.{◌≡◌, ℕ, true, List, ◌++◌, length, take, Option, Some, None, refl, ap, sym, subst, ◌∙◌}
use Rattle.std.specs.Prelude.{slice_get}
use Rattle.std.proofs.lemmas.List.Elements.{filter-append}
use Rattle.std.proofs.lemmas.Option.{same_Some}
use Rattle.bsc_octets.specs.declared.vmac.Vmac.{Vmac}
use Rattle.bsc_octets.specs.Functions.{is_npdu, npdus}
use Rattle.bsc_node.specs.declared.node_event.NodeEvent.TheVariants.{Send}
use Rattle.bsc_node.specs.declared.timed_event.TimedEvent.{TimedEvent}
use Rattle.bsc_node.specs.Events.{follows}
use Rattle.bsc_node.specs.Laws.{with_event}
use Rattle.bsc_node.specs.Logs.{Made, Line, came, Log}
use Rattle.bsc_node.specs.Node.{goes_on}
use Rattle.bsc_node.specs.Ways.{Way, way}
use Rattle.bsc_node.proofs.Following.{goes_on-is}
use Rattle.bsc_node_links.specs.Lives.{LinkLife, put_over}
use Rattle.bsc_node_links.specs.Talks.{given_in, put_in}
use Rattle.bsc_network_of_runs.specs.Deliveries.{CameUp, SessionIn, SessionsPutOnce, SessionsPutWhatWasSent, beside}
use Rattle.bsc_network_of_runs.specs.Hubs.{HubRun, SessionOf}
use Rattle.bsc_network_of_runs.specs.Networks.{AreLinks, Carries, Fit, HasTraffic, LinkEnd, Network, OtherEnd, SessionName, Traffic, of_node, of_session}
use Rattle.bsc_network_of_runs.specs.Nodes.{CameAt, HasNow, NodeRun, PutsWhatWasSent, Sending, SendsAt, WasSent, log_of}
use Rattle.bsc_node_identity.proofs.Npdus.{out-npdu}
use Rattle.bsc_network_of_runs.specs.Passing.{PassesOn, PassesOnOnce, WasPassedOn}
use Rattle.bsc_network_of_runs.proofs.Lists.{got-filter, kept-here, same-kept, take-split, nothing_got}
use Rattle.bsc_network_of_runs.proofs.Lives.{one_beginning}
use Rattle.bsc_lemmas.proofs.Lists.{got-left, got-split}

-- ---- where it came from

module _ (pass_on : (h : HubRun) → PassesOn h) (puts : (n : NodeRun) → PutsWhatWasSent n) (N : Network) (other : OtherEnd) (links : AreLinks N other) where
  module _ (z : SessionName) (n : ℕ) (o : List ℕ) (x : SessionIn N z) (p : WasPassedOn x.hub x.session n o) (is : is_npdu p.entered.message ≡ true) where
    abbrev given : List (List ℕ)
    given = given_in p.sender.talk

    abbrev m : List ℕ
    m = p.entered.message

    abbrev r : ℕ
    r = length (npdus (take p.index given))

    got : slice_get (npdus given) r ≡ Some m
    got = kept-here is_npdu given p.index m p.given is

    abbrev t : Traffic
    t = record { given = given_in p.sender.talk; put = put_in p.sender.talk }

    of_sent : (k : ℕ) (link : LinkLife) (sender : NodeRun) → slice_get N.nodes k ≡ Some sender → other (of_session (beside z p.number)) ≡ Some (of_node k link) → WasSent k sender link r m
        → (s : Sending) × CameUp N other z n o s
    of_sent k link sender at leads w = (
      w.sending,
      record {
        put_by = x;
        passed = p;
        sender = sender;
        at_sender = ap (λ (i : ℕ). slice_get N.nodes i) w.of_node ∙ at;
        link = link;
        leads = leads ∙ ap (λ (i : ℕ). Some (of_node i link)) (sym w.of_node);
        sent = w.sent;
      },
    )

    by_node : (k : ℕ) (link : LinkLife) → other (of_session (beside z p.number)) ≡ Some (of_node k link) → (u : Traffic) → HasTraffic N (of_node k link) u → (later : List (List ℕ))
        → u.put ≡ given ++ later
        → (s : Sending) × CameUp N other z n o s
    by_node k link leads u (sender, at, begun, is) later first =
        let put : npdus (put_over (log_of sender) link) ≡ npdus given ++ npdus later = ap npdus (sym (ap (λ (v : Traffic). v.put) is) ∙ first) ∙ filter-append is_npdu given later in
        of_sent k link sender at leads (puts sender k link r m begun (ap (λ (l : List (List ℕ)). slice_get l r) put ∙ got-left (npdus given) (npdus later) r m got))

    by_end : (y : LinkEnd) → other (of_session (beside z p.number)) ≡ Some y → Fit (of_session (beside z p.number)) y → Carries N (Some y) t → (s : Sending) × CameUp N other z n o s
    by_end (of_session y) leads fit carried = absurd fit
    by_end (of_node k link) leads fit (u, has, (later, first)) = by_node k link leads u has later first

    by_other : (y : Option LinkEnd) → other (of_session (beside z p.number)) ≡ y → Carries N y t → (s : Sending) × CameUp N other z n o s
    by_other None leads carried = absurd (nothing_got r m (ap (λ (l : List (List ℕ)). slice_get (npdus l) r) (sym carried) ∙ got))
    by_other (Some y) leads carried = by_end y leads (links.fit (of_session (beside z p.number)) y leads) carried

    came_up : (s : Sending) × CameUp N other z n o s
    came_up = by_other (other (of_session (beside z p.number))) refl (links.carry (of_session (beside z p.number)) t (x.hub, p.sender, x.at_hub, p.found, refl))

  put_what_was_sent : (z : SessionName) (n : ℕ) (o : List ℕ) (x : SessionIn N z) → slice_get (npdus (put_in x.session.talk)) n ≡ Some o → (s : Sending) × CameUp N other z n o s
  put_what_was_sent z n o x h =
      let p = pass_on x.hub z.number x.session n o x.at_session h in
      let k = got-filter is_npdu (put_in x.session.talk) n o h in
      came_up z n o x p (sym (out-npdu p.entered.message p.entered.from.who.vmac) ∙ ap is_npdu (sym p.entered.octets) ∙ k.passes)

pub sessions_put_what_was_sent : ((h : HubRun) → PassesOn h) → ((n : NodeRun) → PutsWhatWasSent n) → SessionsPutWhatWasSent
sessions_put_what_was_sent pass_on puts N other links z n o x h = put_what_was_sent pass_on puts N other links z n o x h

-- ---- once

-- a place of a log has one event
same_before : (a : Made) (L : Log) (i j : ℕ) (e f : TimedEvent) (c : CameAt a L i e) (d : CameAt a L j f) → i ≡ j → c.before ≡ d.before
same_before a L i j e f c d same =
    sym (take-split c.before (goes_on a e c.before ++ c.later)) ∙ ap (take (length c.before)) (sym c.is) ∙ ap (λ (k : ℕ). take k L) (sym c.here ∙ same ∙ d.here) ∙ ap (take (length d.before)) d.is
    ∙ take-split d.before (goes_on a f d.before ++ d.later)

pub event_here : (a : Made) (L : Log) (i : ℕ) (e : TimedEvent) (c : CameAt a L i e) → slice_get L i ≡ Some (came e)
event_here a L i e c =
    ap (λ (k : ℕ). slice_get L k) c.here
    ∙ ap (λ (l : Log). slice_get l (length c.before)) (c.is ∙ ap (λ (l : List Line). c.before ++ (l ++ c.later)) (goes_on-is a c.before e))
    ∙ got-split c.before (came e) (follows a e.event (with_event c.before e) ++ c.later)

pub same_event : (a : Made) (L : Log) (i j : ℕ) (e f : TimedEvent) (c : CameAt a L i e) (d : CameAt a L j f) → i ≡ j → e ≡ f
same_event a L i j e f c d same =
    let both : came e ≡ came f = same_Some (came e) (came f) (sym (event_here a L i e c) ∙ ap (λ (k : ℕ). slice_get L k) same ∙ event_here a L j f d) in
    cc

same_life : (x y : LinkLife) → x.name ≡ y.name → x.began ≡ y.began → x ≡ y
same_life x y name began = λ i. record { name = name i; began = began i }

-- Two puts for one Send are one: on one link, at one place among what is put there.
pub same_put : (a : Made) (L : Log) (x y : LinkLife) (r q : ℕ) (s t : Sending) (o p : List ℕ) → SendsAt a L x r s o → SendsAt a L y q t p → s.place ≡ t.place → (x ≡ y) × (r ≡ q)
same_put a L x y r q s t o p c d same =
    let before : c.comes.before ≡ d.comes.before = same_before a L s.place t.place c.e d.e c.comes d.comes same in
    let event : c.e ≡ d.e = same_event a L s.place t.place c.e d.e c.comes d.comes same in
    let sends : Send s.dest s.npdu ≡ Send t.dest t.npdu = sym c.sends ∙ ap (λ (e : TimedEvent). e.event) event ∙ d.sends in
    let dest : s.dest ≡ t.dest = cc in
    let path : c.path ≡ d.path = same_Some c.path d.path (sym c.by_path ∙ ap (λ (v : Vmac). way v (with_event c.comes.before c.e)) dest
    ∙ ap (λ (G : Log). way t.dest (with_event G c.e)) before ∙ ap (λ (e : TimedEvent). way t.dest (with_event d.comes.before e)) event ∙ d.by_path) in
    let name : x.name ≡ y.name = sym c.link ∙ ap (λ (w : Way). w.link) path ∙ d.link in
    let life : x ≡ y = same_life x y name (one_beginning d.comes.before x y name (subst (λ (G : Log). HasNow G x) before c.has) d.has) in
    (life, c.nth ∙ ap (λ (G : Log). length (npdus (put_over G x))) before ∙ ap (λ (z : LinkLife). length (npdus (put_over d.comes.before z))) life ∙ sym d.nth)

abbrev session_number : LinkEnd → ℕ
session_number (of_session z) = z.number
session_number (of_node k x) = 0

pub own-npdu : (a : Made) (L : Log) (x : LinkLife) (r : ℕ) (s : Sending) (o : List ℕ) → SendsAt a L x r s o → is_npdu o ≡ true
own-npdu a L x r s o c = ap is_npdu c.octets

-- with the hub and the session in hand
once_in : (once : (h : HubRun) → PassesOnOnce h) (h : HubRun) (s : SessionOf h.about h.history) (n m : ℕ) (o k : List ℕ) (p : WasPassedOn h s n o) (q : WasPassedOn h s m k) → p.number ≡ q.number
    → is_npdu p.entered.message ≡ true → is_npdu q.entered.message ≡ true
    → length (npdus (take p.index (given_in p.sender.talk))) ≡ length (npdus (take q.index (given_in q.sender.talk))) → n ≡ m
once_in once h s n m o k p q number is_p is_q as_many =
    let S = SessionOf h.about h.history in
    let same : p.sender ≡ q.sender = same_Some p.sender q.sender (sym p.found ∙ ap (λ (i : ℕ). slice_get h.sessions i) number ∙ q.found) in
    let given_p : slice_get (given_in q.sender.talk) p.index ≡ Some p.entered.message = subst (λ (x : S). slice_get (given_in x.talk) p.index ≡ Some p.entered.message) same p.given in
    let many : length (npdus (take p.index (given_in q.sender.talk))) ≡ length (npdus (take q.index (given_in q.sender.talk))) =
    ap (λ (x : S). length (npdus (take p.index (given_in x.talk)))) (sym same) ∙ as_many in
    once h s n m o k p q number (same-kept is_npdu (given_in q.sender.talk) p.index q.index p.entered.message q.entered.message given_p is_p q.given is_q many)

-- A session with its number is one: whatever is so of each pair of puts of one session is so of these.
module _ (once : (h : HubRun) → PassesOnOnce h) (N : Network) (z : SessionName) where
  -- what is known of one of two that were put
  record Known (h : HubRun) (n : ℕ) : Type 0 where
    session : SessionOf h.about h.history
    at_session : slice_get h.sessions z.number ≡ Some session
    octets : List ℕ
    passed : WasPassedOn h session n octets
    is : is_npdu passed.entered.message ≡ true

  of_one : (h : HubRun) (n m : ℕ) (x : Known h n) (y : Known h m) → x.passed.number ≡ y.passed.number
      → length (npdus (take x.passed.index (given_in x.passed.sender.talk))) ≡ length (npdus (take y.passed.index (given_in y.passed.sender.talk))) → n ≡ m
  of_one h n m x y = by y.session (same_Some x.session y.session (sym x.at_session ∙ y.at_session)) y.octets y.passed y.is
    where
      S : Type 0
      S = SessionOf h.about h.history

      One : S → Type 0
      One t = (k : List ℕ) (q : WasPassedOn h t m k) → is_npdu q.entered.message ≡ true → x.passed.number ≡ q.number
          → length (npdus (take x.passed.index (given_in x.passed.sender.talk))) ≡ length (npdus (take q.index (given_in q.sender.talk))) → n ≡ m

      by : (t : S) → x.session ≡ t → One t
      by t same = subst One same (λ k q is number many. once_in once h x.session n m x.octets k x.passed q number x.is is many)

  of_hub : (h g : HubRun) (n m : ℕ) (x : Known h n) (y : Known g m) → h ≡ g → x.passed.number ≡ y.passed.number
      → length (npdus (take x.passed.index (given_in x.passed.sender.talk))) ≡ length (npdus (take y.passed.index (given_in y.passed.sender.talk))) → n ≡ m
  of_hub h g n m x y same = (subst One same (λ v. of_one h n m x v)) y
    where
      One : HubRun → Type 0
      One g = (v : Known g m) → x.passed.number ≡ v.passed.number
          → length (npdus (take x.passed.index (given_in x.passed.sender.talk))) ≡ length (npdus (take v.passed.index (given_in v.passed.sender.talk))) → n ≡ m

pub sessions_put_once : ((h : HubRun) → PassesOnOnce h) → SessionsPutOnce
sessions_put_once once N other links z n m o k s t p q node place =
    let nodes : p.sender ≡ q.sender = same_Some p.sender q.sender (sym p.at_sender ∙ ap (λ (i : ℕ). slice_get N.nodes i) node ∙ q.at_sender) in
    let r = length (npdus (take p.passed.index (given_in p.passed.sender.talk))) in
    let sent : SendsAt q.sender.made (log_of q.sender) p.link r s p.passed.entered.message = subst (λ (w : NodeRun). SendsAt w.made (log_of w) p.link r s p.passed.entered.message) nodes p.sent in
    let same = same_put q.sender.made (log_of q.sender) p.link q.link r (length
    (npdus (take q.passed.index (given_in q.passed.sender.talk)))) s t p.passed.entered.message q.passed.entered.message sent q.sent place in
    let to_p = links.both (of_session (beside z p.passed.number)) (of_node s.node p.link) p.leads in
    let to_q = links.both (of_session (beside z q.passed.number)) (of_node t.node q.link) q.leads in
    let ends : of_session (beside z p.passed.number) ≡ of_session (beside z q.passed.number) =
    same_Some (of_session (beside z p.passed.number)) (of_session (beside z q.passed.number))
    (sym to_p ∙ ap (λ (i : ℕ). other (of_node i p.link)) node ∙ ap (λ (y : LinkLife). other (of_node t.node y)) same.0 ∙ to_q) in
    let hub : p.put_by.hub ≡ q.put_by.hub = same_Some p.put_by.hub q.put_by.hub (sym p.put_by.at_hub ∙ q.put_by.at_hub) in
    of_hub once N z p.put_by.hub q.put_by.hub n m
    (record { session = p.put_by.session; at_session = p.put_by.at_session; octets = o; passed = p.passed; is = own-npdu p.sender.made (log_of p.sender) p.link r s p.passed.entered.message p.sent })
    (record {
      session = q.put_by.session;
      at_session = q.put_by.at_session;
      octets = k;
      passed = q.passed;
      is = own-npdu q.sender.made (log_of q.sender) q.link (length (npdus (take q.passed.index (given_in q.passed.sender.talk)))) t q.passed.entered.message q.sent;
    })
    hub (ap session_number ends) same.1
