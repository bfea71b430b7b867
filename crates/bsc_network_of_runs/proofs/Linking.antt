-- Whether a table of wires makes the links of a network, by computation: each wire fits, and each end of the network gave the first of
-- what was put at the other.
use Rattle.std.proofs.Common.{◌≡◌, ℕ, zero, suc, ◌+◌, ◌==◌, Bool, true, false, not, cond, ◌&&◌, List, [], ◌∷◌, Option, Some, None, refl, ap, sym, subst, ◌∙◌, arith}
use Rattle.std.specs.Prelude.{if◌then◌else◌, is_some, option_and_then, option_map, slice_get}
use Rattle.std.proofs.lemmas.Bool.{and_parts, eqb-true}
use Rattle.std.proofs.lemmas.Option.{same_Some}
use Rattle.bsc_history.specs.declared.entry.Entry.{Entry}
use Rattle.bsc_history.specs.declared.limits.About.{About}
use Rattle.bsc_edge.specs.declared.said.Said.{Said}
use Rattle.bsc_node.specs.declared.link_name.LinkName.{LinkName}
use Rattle.bsc_node.specs.declared.action.Action.TheVariants.{Dial, Take}
use Rattle.bsc_node.specs.Links.{begins, same_link}
use Rattle.bsc_node.specs.Logs.{Line, Log, did}
use Rattle.bsc_node.specs.Meeting.{is_hub}
use Rattle.bsc_node.proofs.Common.{same_link-is}
use Rattle.bsc_node_links.specs.Lives.{HasBegun, LinkLife, given_over, put_over}
use Rattle.bsc_node_links.specs.Talks.{AreFirstOf, given_in, put_in}
use Rattle.bsc_network_of_runs.specs.Hubs.{HubRun, SessionOf}
use Rattle.bsc_network_of_runs.specs.Networks.{AreLinks, Carries, Fit, HasTraffic, LinkEnd, Network, SessionName, Traffic, of_node, of_session}
use Rattle.bsc_network_of_runs.specs.Nodes.{NodeRun, log_of}
use Rattle.bsc_lemmas.proofs.Booleans.{not_true}

-- ---- ends that are the same

abbrev same_session : SessionName → SessionName → Bool
same_session z y = (z.hub == y.hub) && (z.number == y.number)

abbrev same_life : LinkLife → LinkLife → Bool
same_life x y = same_link x.name y.name && (x.began == y.began)

abbrev pub same_end : LinkEnd → LinkEnd → Bool
same_end (of_session z) (of_session y) = same_session z y
same_end (of_session z) (of_node j y) = false
same_end (of_node k x) (of_session y) = false
same_end (of_node k x) (of_node j y) = (k == j) && same_life x y

session_is : (z y : SessionName) → same_session z y ≡ true → z ≡ y
session_is z y h =
    let two = and_parts (z.hub == y.hub) (z.number == y.number) h in
    let a : z.hub ≡ y.hub = eqb-true z.hub y.hub two.0 in
    let b : z.number ≡ y.number = eqb-true z.number y.number two.1 in
    λ i. record { hub = a i; number = b i }

life_is : (x y : LinkLife) → same_life x y ≡ true → x ≡ y
life_is x y h =
    let two = and_parts (same_link x.name y.name) (x.began == y.began) h in
    let a : x.name ≡ y.name = same_link-is x.name y.name two.0 in
    let b : x.began ≡ y.began = eqb-true x.began y.began two.1 in
    λ i. record { name = a i; began = b i }

pub end_is : (x y : LinkEnd) → same_end x y ≡ true → x ≡ y
end_is (of_session z) (of_session y) h = ap of_session (session_is z y h)
end_is (of_session z) (of_node j y) h = cc
end_is (of_node k x) (of_session y) h = cc
end_is (of_node k x) (of_node j y) h =
    let two = and_parts (k == j) (same_life x y) h in
    ap (λ (n : ℕ). of_node n x) (eqb-true k j two.0) ∙ ap (of_node j) (life_is x y two.1)

-- ---- a table of wires

pub record Wire : Type 0 where
  pub one : LinkEnd
  pub two : LinkEnd

abbrev pub other_by : List Wire → LinkEnd → Option LinkEnd
other_by [] x = None
other_by (w ∷ wires) x = if same_end x w.one then Some w.two else if same_end x w.two then Some w.one else other_by wires x

-- It is so of both ends of each wire.
abbrev of_both : (LinkEnd → LinkEnd → Bool) → List Wire → Bool
of_both p [] = true
of_both p (w ∷ wires) = p w.one w.two && (p w.two w.one && of_both p wires)

along : (p : LinkEnd → LinkEnd → Bool) (wires : List Wire) (x y : LinkEnd) → of_both p wires ≡ true → other_by wires x ≡ Some y → p x y ≡ true
along p [] x y all h = cc
along p (w ∷ wires) x y all h = by (λ more g. along p wires x y more g) (same_end x w.one) refl h
  where
    parts : (p w.one w.two ≡ true) × ((p w.two w.one && of_both p wires) ≡ true)
    parts = and_parts (p w.one w.two) (p w.two w.one && of_both p wires) all

    more : (p w.two w.one ≡ true) × (of_both p wires ≡ true)
    more = and_parts (p w.two w.one) (of_both p wires) parts.1

    second : (of_both p wires ≡ true → other_by wires x ≡ Some y → p x y ≡ true) → (b : Bool) → same_end x w.two ≡ b → cond b (Some w.one) (other_by wires x) ≡ Some y → p x y ≡ true
    second rec true is g = subst (λ (e : LinkEnd). p e y ≡ true) (sym (end_is x w.two is)) (subst (λ (e : LinkEnd). p w.two e ≡ true) (same_Some w.one y g) more.0)
    second rec false is g = rec more.1 g

    by : (of_both p wires ≡ true → other_by wires x ≡ Some y → p x y ≡ true) → (b : Bool) → same_end x w.one ≡ b
        → cond b (Some w.two) (cond (same_end x w.two) (Some w.one) (other_by wires x)) ≡ Some y → p x y ≡ true
    by rec true is g = subst (λ (e : LinkEnd). p e y ≡ true) (sym (end_is x w.one is)) (subst (λ (e : LinkEnd). p w.one e ≡ true) (same_Some w.two y g) parts.0)
    by rec false is g = second rec (same_end x w.two) refl g

-- both fit, and each leads back to the other
abbrev fits : LinkEnd → LinkEnd → Bool
fits (of_session z) (of_session y) = false
fits (of_session z) (of_node j y) = is_hub y.name
fits (of_node k x) (of_session y) = is_hub x.name
fits (of_node k x) (of_node j y) = not (is_hub x.name) && not (is_hub y.name)

fit_is : (x y : LinkEnd) → fits x y ≡ true → Fit x y
fit_is (of_session z) (of_session y) h = cc
fit_is (of_session z) (of_node j y) h = h
fit_is (of_node k x) (of_session y) h = h
fit_is (of_node k x) (of_node j y) h =
    let two = and_parts (not (is_hub x.name)) (not (is_hub y.name)) h in
    (not_true (is_hub x.name) two.0, not_true (is_hub y.name) two.1)

abbrev leads_to : Option LinkEnd → LinkEnd → Bool
leads_to None x = false
leads_to (Some z) x = same_end z x

leads_is : (o : Option LinkEnd) (x : LinkEnd) → leads_to o x ≡ true → o ≡ Some x
leads_is None x h = cc
leads_is (Some z) x h = ap Some (end_is z x h)

-- ---- the traffic at an end

abbrev of_talk : List Said → Traffic
of_talk T = record { given = given_in T; put = put_in T }

abbrev of_life : Log → LinkLife → Traffic
of_life L x = record { given = given_over L x; put = put_over L x }

abbrev begun_at : Option Line → LinkName → Bool
begun_at None name = false
begun_at (Some m) name = begins name m

abbrev at_session : (h : HubRun) → Option (SessionOf h.about h.history) → Option Traffic
at_session h o = option_map (λ (s : SessionOf h.about h.history). of_talk s.talk) o

abbrev at_hub : ℕ → HubRun → Option Traffic
at_hub number h = at_session h (slice_get h.sessions number)

abbrev at_node : LinkLife → NodeRun → Option Traffic
at_node x n = if begun_at (slice_get (log_of n) x.began) x.name then Some (of_life (log_of n) x) else None

abbrev traffic_at : Network → LinkEnd → Option Traffic
traffic_at N (of_session z) = option_and_then (at_hub z.number) (slice_get N.hubs z.hub)
traffic_at N (of_node k x) = option_and_then (at_node x) (slice_get N.nodes k)

mapped : {A B : Type 0} (f : A → B) (o : Option A) (b : B) → option_map f o ≡ Some b → (a : A) × (o ≡ Some a) × (b ≡ f a)
mapped f None b h = cc
mapped f (Some a) b h = (a, refl, sym (same_Some (f a) b h))

bound : {A B : Type 0} (f : A → Option B) (o : Option A) (b : B) → option_and_then f o ≡ Some b → (a : A) × (o ≡ Some a) × (f a ≡ Some b)
bound f None b h = cc
bound f (Some a) b h = (a, refl, h)

if_so : {A : Type 0} (b : Bool) (t u : A) → (if b then Some t else None) ≡ Some u → (b ≡ true) × (u ≡ t)
if_so true t u h = (refl, sym (same_Some t u h))
if_so false t u h = cc

begun_there : (L : Log) (x : LinkLife) (o : Option Line) → slice_get L x.began ≡ o → begun_at o x.name ≡ true → HasBegun L x
begun_there L x None got g = cc
begun_there L x (Some m) got g = record { line = m; at = got; begins_it = g }

there : (N : Network) (y : LinkEnd) (u : Traffic) → traffic_at N y ≡ Some u → HasTraffic N y u
there N (of_session z) u h =
    let one = bound (at_hub z.number) (slice_get N.hubs z.hub) u h in
    let two = mapped (λ (s : SessionOf one.0.about one.0.history). of_talk s.talk) (slice_get one.0.sessions z.number) u one.2 in
    (one.0, two.0, one.1, two.1, two.2)
there N (of_node k x) u h =
    let one = bound (at_node x) (slice_get N.nodes k) u h in
    let two = if_so (begun_at (slice_get (log_of one.0) x.began) x.name) (of_life (log_of one.0) x) u one.2 in
    (one.0, one.1, begun_there (log_of one.0) x (slice_get (log_of one.0) x.began) refl two.0, two.1)

-- ---- all ends of a network

abbrev pub begun_by : Line → Option LinkName
begun_by (did (Dial name uri)) = Some name
begun_by (did (Take name)) = Some name
begun_by m = None

begun_is : (name : LinkName) (m : Line) → begins name m ≡ true → begun_by m ≡ Some name
begun_is name (did (Dial other uri)) h = ap Some (same_link-is other name (by (same_link other name) h))
  where
    by : (b : Bool) → is_some (cond b (Some false) None) ≡ true → b ≡ true
    by true g = refl
    by false g = cc
begun_is name (did (Take other)) h = ap Some (same_link-is other name (by (same_link other name) h))
  where
    by : (b : Bool) → is_some (cond b (Some true) None) ≡ true → b ≡ true
    by true g = refl
    by false g = cc
begun_is name m h = cc

from_0 : (n : ℕ) → n ≡ 0 + n
from_0 n = omega arith

module _ (p : LinkEnd → Traffic → Bool) where
  abbrev sessions_have : {a : About} {H : List Entry} → ℕ → ℕ → List (SessionOf a H) → Bool
  sessions_have hub number [] = true
  sessions_have hub number (s ∷ ss) = p (of_session (record { hub = hub; number = number })) (of_talk s.talk) && sessions_have hub (suc number) ss

  abbrev hubs_have : ℕ → List HubRun → Bool
  hubs_have hub [] = true
  hubs_have hub (h ∷ hubs) = sessions_have hub 0 h.sessions && hubs_have (suc hub) hubs

  abbrev life_has : ℕ → ℕ → Log → Option LinkName → Bool
  life_has k at L None = true
  life_has k at L (Some name) = p (of_node k (record { name = name; began = at })) (of_life L (record { name = name; began = at }))

  abbrev lives_have : ℕ → ℕ → Log → List Line → Bool
  lives_have k at L [] = true
  lives_have k at L (m ∷ lines) = life_has k at L (begun_by m) && lives_have k (suc at) L lines

  abbrev nodes_have : ℕ → List NodeRun → Bool
  nodes_have k [] = true
  nodes_have k (n ∷ nodes) = lives_have k 0 (log_of n) (log_of n) && nodes_have (suc k) nodes

  abbrev all_have : Network → Bool
  all_have N = hubs_have 0 N.hubs && nodes_have 0 N.nodes

  session_has : {a : About} {H : List Entry} (hub from i k : ℕ) → i ≡ from + k → (ss : List (SessionOf a H)) (s : SessionOf a H) → sessions_have hub from ss ≡ true → slice_get ss k ≡ Some s
      → p (of_session (record { hub = hub; number = i })) (of_talk s.talk) ≡ true
  session_has hub from i k is [] s all h = cc
  session_has {a} {H} hub from i zero is (r ∷ ss) s all h =
      let here = (and_parts (p (of_session (record { hub = hub; number = from })) (of_talk r.talk)) (sessions_have hub (suc from) ss) all).0 in
      let same : from ≡ i = omega (arith, is) in
      subst (λ (n : ℕ). p (of_session (record { hub = hub; number = n })) (of_talk s.talk) ≡ true) same
      (subst (λ (t : SessionOf a H). p (of_session (record { hub = hub; number = from })) (of_talk t.talk) ≡ true) (same_Some r s h) here)
  session_has hub from i (suc k) is (r ∷ ss) s all h =
      session_has hub (suc from) i k (omega (arith, is)) ss s (and_parts (p (of_session (record { hub = hub; number = from })) (of_talk r.talk)) (sessions_have hub (suc from) ss) all).1 h

  hub_has : (from i k : ℕ) → i ≡ from + k → (hubs : List HubRun) (h : HubRun) → hubs_have from hubs ≡ true → slice_get hubs k ≡ Some h → sessions_have i 0 h.sessions ≡ true
  hub_has from i k is [] h all got = cc
  hub_has from i zero is (r ∷ hubs) h all got =
      let here = (and_parts (sessions_have from 0 r.sessions) (hubs_have (suc from) hubs) all).0 in
      let same : from ≡ i = omega (arith, is) in
      subst (λ (n : ℕ). sessions_have n 0 h.sessions ≡ true) same (subst (λ (g : HubRun). sessions_have from 0 g.sessions ≡ true) (same_Some r h got) here)
  hub_has from i (suc k) is (r ∷ hubs) h all got = hub_has (suc from) i k (omega (arith, is)) hubs h (and_parts (sessions_have from 0 r.sessions) (hubs_have (suc from) hubs) all).1 got

  life_of_it : (node from i k : ℕ) → i ≡ from + k → (L : Log) (lines : List Line) (m : Line) (name : LinkName) → lives_have node from L lines ≡ true → slice_get lines k ≡ Some m → begins name m ≡ true
      → life_has node i L (Some name) ≡ true
  life_of_it node from i k is L [] m name all got b = cc
  life_of_it node from i zero is L (l ∷ lines) m name all got b =
      let here = (and_parts (life_has node from L (begun_by l)) (lives_have node (suc from) L lines) all).0 in
      let same : from ≡ i = omega (arith, is) in
      subst (λ (n : ℕ). life_has node n L (Some name) ≡ true) same
      (subst (λ (o : Option LinkName). life_has node from L o ≡ true) (ap begun_by (same_Some l m got) ∙ begun_is name m b) here)
  life_of_it node from i (suc k) is L (l ∷ lines) m name all got b =
      life_of_it node (suc from) i k (omega (arith, is)) L lines m name (and_parts (life_has node from L (begun_by l)) (lives_have node (suc from) L lines) all).1 got b

  node_has : (from i k : ℕ) → i ≡ from + k → (nodes : List NodeRun) (n : NodeRun) → nodes_have from nodes ≡ true → slice_get nodes k ≡ Some n → lives_have i 0 (log_of n) (log_of n) ≡ true
  node_has from i k is [] n all got = cc
  node_has from i zero is (r ∷ nodes) n all got =
      let here = (and_parts (lives_have from 0 (log_of r) (log_of r)) (nodes_have (suc from) nodes) all).0 in
      let same : from ≡ i = omega (arith, is) in
      subst (λ (j : ℕ). lives_have j 0 (log_of n) (log_of n) ≡ true) same (subst (λ (g : NodeRun). lives_have from 0 (log_of g) (log_of g) ≡ true) (same_Some r n got) here)
  node_has from i (suc k) is (r ∷ nodes) n all got = node_has (suc from) i k (omega (arith, is)) nodes n (and_parts (lives_have from 0 (log_of r) (log_of r)) (nodes_have (suc from) nodes) all).1 got

  end_has : (N : Network) (x : LinkEnd) (t : Traffic) → all_have N ≡ true → HasTraffic N x t → p x t ≡ true
  end_has N (of_session z) t all (h, s, found, got, is) =
      let two = and_parts (hubs_have 0 N.hubs) (nodes_have 0 N.nodes) all in
      subst (λ (u : Traffic). p (of_session z) u ≡ true) (sym is)
      (session_has z.hub 0 z.number z.number (from_0 z.number) h.sessions s (hub_has 0 z.hub z.hub (from_0 z.hub) N.hubs h two.0 found) got)
  end_has N (of_node k x) t all (n, found, begun, is) =
      let two = and_parts (hubs_have 0 N.hubs) (nodes_have 0 N.nodes) all in
      subst (λ (u : Traffic). p (of_node k x) u ≡ true) (sym is)
      (life_of_it k 0 x.began x.began (from_0 x.began) (log_of n) (log_of n) begun.line x.name (node_has 0 k k (from_0 k) N.nodes n two.1 found) begun.at begun.begins_it)

-- ---- what a wire carries

abbrev same_octets : List ℕ → List ℕ → Bool
same_octets [] [] = true
same_octets [] (b ∷ ps) = false
same_octets (a ∷ os) [] = false
same_octets (a ∷ os) (b ∷ ps) = (a == b) && same_octets os ps

octets_are : (os ps : List ℕ) → same_octets os ps ≡ true → os ≡ ps
octets_are [] [] h = refl
octets_are [] (b ∷ ps) h = cc
octets_are (a ∷ os) [] h = cc
octets_are (a ∷ os) (b ∷ ps) h =
    let two = and_parts (a == b) (same_octets os ps) h in
    ap (λ (x : ℕ). x ∷ os) (eqb-true a b two.0) ∙ ap (λ (xs : List ℕ). b ∷ xs) (octets_are os ps two.1)

abbrev are_first : List (List ℕ) → List (List ℕ) → Bool
are_first [] ps = true
are_first (o ∷ os) [] = false
are_first (o ∷ os) (p ∷ ps) = same_octets o p && are_first os ps

first_are : (os ps : List (List ℕ)) → are_first os ps ≡ true → AreFirstOf os ps
first_are [] ps h = (ps, refl)
first_are (o ∷ os) [] h = cc
first_are (o ∷ os) (p ∷ ps) h =
    let two = and_parts (same_octets o p) (are_first os ps) h in
    let rest = first_are os ps two.1 in
    (rest.0, ap (λ (x : List ℕ). x ∷ ps) (sym (octets_are o p two.0)) ∙ ap (λ (xs : List (List ℕ)). o ∷ xs) rest.1)

abbrev first_at : List (List ℕ) → Option Traffic → Bool
first_at os None = false
first_at os (Some u) = are_first os u.put

abbrev carries : Network → Option LinkEnd → Traffic → Bool
carries N None t = are_first t.given []
carries N (Some y) t = first_at t.given (traffic_at N y)

none_given : (os : List (List ℕ)) → are_first os [] ≡ true → os ≡ []
none_given [] h = refl
none_given (o ∷ os) h = cc

carry_is : (N : Network) (o : Option LinkEnd) (t : Traffic) → carries N o t ≡ true → Carries N o t
carry_is N None t h = none_given t.given h
carry_is N (Some y) t h = by (traffic_at N y) refl h
  where
    by : (o : Option Traffic) → traffic_at N y ≡ o → first_at t.given o ≡ true → Carries N (Some y) t
    by None is g = cc
    by (Some u) is g = (u, there N y u is, first_are t.given u.put g)

-- ---- the links

abbrev pub is_linked : Network → List Wire → Bool
is_linked N wires = of_both fits wires && (of_both (λ (x y : LinkEnd). leads_to (other_by wires y) x) wires && all_have (λ (x : LinkEnd) (t : Traffic). carries N (other_by wires x) t) N)

pub are_links : (N : Network) (wires : List Wire) → is_linked N wires ≡ true → AreLinks N (other_by wires)
are_links N wires h =
    let a = and_parts (of_both fits wires) (of_both (λ (x y : LinkEnd). leads_to (other_by wires y) x) wires && all_have (λ (x : LinkEnd) (t : Traffic). carries N (other_by wires x) t) N) h in
    let b = and_parts (of_both (λ (x y : LinkEnd). leads_to (other_by wires y) x) wires) (all_have (λ (x : LinkEnd) (t : Traffic). carries N (other_by wires x) t) N) a.1 in
    record {
      fit = λ x y g. fit_is x y (along fits wires x y a.0 g);
      both = λ x y g. leads_is (other_by wires y) x (along (λ (x y : LinkEnd). leads_to (other_by wires y) x) wires x y b.0 g);
      carry = λ x t has. carry_is N (other_by wires x) t (end_has (λ (x : LinkEnd) (t : Traffic). carries N (other_by wires x) t) N x t b.1 has);
    }
