-- Who takes part in a network can say who it is, and what a node dials as its hub is a hub.
-- It serves clauses of functions of `laws`.
use Rattle.std.proofs.Common.{◌≡◌, ◌≤◌, ◌<◌, ℕ, zero, suc, Bool, true, false, not, cond, List, [], ◌∷◌, ◌++◌, length, map, Option, Some, None, refl, ap, sym, subst, ◌∙◌, arith}
use Rattle.std.proofs.Common.{append_assoc, length-append}
use Rattle.std.specs.Prelude.{◌+◌, nat_lt, slice_get, position, unwrap_or, if◌then◌else◌}
use Rattle.std.specs.List.{AllByRecursion, position_or_len, range_with_len}
use Rattle.std.specs.Option.{option_map, option_or}
use Rattle.std.specs.Cmp.Lexicographic.{bytes_decides}
use Rattle.std.proofs.lemmas.Bool.{lt-ltb, le-ltb, ltb-true}
use Rattle.std.proofs.lemmas.List.Elements.{filter_map-append}
use Rattle.bsc_octets.specs.declared.identity.Identity.{Identity}
use Rattle.bsc_frame.specs.Payloads.{IsNode}
use Rattle.bsc_history.specs.declared.limits.About.{About}
use Rattle.bsc_node.specs.declared.link_name.LinkName.TheVariants.{Hub as HubName}
use Rattle.bsc_node.specs.declared.node_event.NodeEvent.{NodeEvent}
use Rattle.bsc_node.specs.declared.action.Action.TheVariants.{Dial}
use Rattle.bsc_node.specs.Logs.{Made}
use Rattle.bsc_connector.specs.declared.side.Side.{Side}
use Rattle.bsc_connector.specs.declared.side.Side.TheVariants.{Primary, Failover}
use Rattle.bsc_network.specs.declared.target.Target.{Target}
use Rattle.bsc_network.specs.declared.target.Target.TheVariants.{Hub as ToHub, Node as ToNode}
use Rattle.bsc_network.specs.Settings.{Added, hub, node, hub_in, hubs, nodes_after, settings, hub_uri}
use Rattle.bsc_network.specs.Worlds.{World, Hub, Node}
use Rattle.bsc_network.specs.Courses.{MayAddAll}
use Rattle.bsc_network.specs.HubCalls.{most_links}
use Rattle.bsc_network.specs.Dialling.{same_uri, is_uri, hub_with, node_with, target_of, if_room, leads_to}
use Rattle.bsc_network.proofs.Places.{found-in}
use Rattle.bsc_network_laws.specs.Naming.{Cast, cast_of, identity_in}
use Rattle.bsc_network_laws.proofs.Casting.{Casts}
use Rattle.bsc_network_laws.proofs.Diallers.{nodes_fit}
use Rattle.bsc_network_laws.proofs.Brought.{IsDue}
use Rattle.bsc_lemmas.proofs.Lists.{all-at}
use Rattle.std.proofs.lemmas.Option.{same_Some as some_same}

-- A node has the settings of one that was added after some hubs, of which there is one at least, among so many.
pub record IsSet (count : ℕ) (m : Made) : Type 0 where
  pub before : ℕ
  pub number : ℕ
  pub direct : Bool
  pub limits : m.limits ≡ settings before number direct
  pub one_hub : 1 ≤ before
  pub few : before ≤ count

pub record MadeWell (cast : Cast) : Type 0 where
  pub fit : (t : Target) (who : Identity) → identity_in cast t ≡ Some who → IsNode who
  pub set : AllByRecursion (IsSet (length cast.hubs)) cast.nodes

-- ---- who may be added

all-hubs : (before added : List Added) → MayAddAll before added → AllByRecursion (λ (a : About). IsNode a.hub) (hubs added)
all-hubs before [] may = tt
all-hubs before (hub about ∷ added) may = (may.0.who, all-hubs (before ++ hub about ∷ []) added may.1)
all-hubs before (node own direct ∷ added) may = all-hubs (before ++ node own direct ∷ []) added may.1

hubs_fit : (added : List Added) → MayAddAll [] added → (j : ℕ) (who : Identity) → identity_in (cast_of added) (ToHub j) ≡ Some who → IsNode who
hubs_fit added may j who is =
    let there = found-in (λ (a : About). a.hub) (slice_get (hubs added) j) who is in
    subst IsNode there.2 (all-at (λ (a : About). IsNode a.hub) (hubs added) j there.0 (all-hubs [] added may) there.1)

hubs-more : (before : List Added) (about : About) → length (hubs before) + 1 ≡ length (hubs (before ++ hub about ∷ []))
hubs-more before about = sym (ap length (filter_map-append hub_in before (hub about ∷ [])) ∙ length-append (hubs before) (about ∷ []))

hubs-same : (before : List Added) (own : Identity) (direct : Bool) → length (hubs before) ≡ length (hubs (before ++ node own direct ∷ []))
hubs-same before own direct = sym (ap length (filter_map-append hub_in before (node own direct ∷ [])) ∙ length-append (hubs before) [] ∙ plus_none (length (hubs before)))
  where
    plus_none : (n : ℕ) → n + 0 ≡ n
    plus_none n = omega arith

fewer : (before more : List Added) → length (hubs before) ≤ length (hubs (before ++ more))
fewer before more =
    let longer : length (hubs (before ++ more)) ≡ length (hubs before) + length (hubs more) = ap length (filter_map-append hub_in before more) ∙ length-append (hubs before) (hubs more) in
    omega (arith, longer)

all-set : (before added : List Added) (number : ℕ) → MayAddAll before added → AllByRecursion (IsSet (length (hubs (before ++ added)))) (nodes_after (length (hubs before)) number added)
all-set before [] number may = tt
all-set before (hub about ∷ added) number may =
    subst (λ (n : ℕ). AllByRecursion (IsSet (length (hubs (before ++ hub about ∷ added)))) (nodes_after n number added)) (sym (hubs-more before about))
    (subst (λ (all : List Added). AllByRecursion (IsSet (length (hubs all))) (nodes_after (length (hubs (before ++ hub about ∷ []))) number added)) (append_assoc before (hub about ∷ []) added)
    (all-set (before ++ hub about ∷ []) added number may.1))
all-set before (node own direct ∷ added) number may = (
  record { before = length (hubs before); number = number; direct = direct; limits = refl; one_hub = may.0.some_hub; few = fewer before (node own direct ∷ added) },
  subst (λ (n : ℕ). AllByRecursion (IsSet (length (hubs (before ++ node own direct ∷ added)))) (nodes_after n (number + 1) added)) (sym (hubs-same before own direct))
      (subst (λ (all : List Added). AllByRecursion (IsSet (length (hubs all))) (nodes_after (length (hubs (before ++ node own direct ∷ []))) (number + 1) added))
      (append_assoc before (node own direct ∷ []) added)
      (all-set (before ++ node own direct ∷ []) added (number + 1) may.1)),
)

pub made_well : (added : List Added) → MayAddAll [] added → MadeWell (cast_of added)
made_well added may = record { fit = fit; set = all-set [] added 0 may }
  where
    fit : (t : Target) (who : Identity) → identity_in (cast_of added) t ≡ Some who → IsNode who
    fit (ToHub j) who is = hubs_fit added may j who is
    fit (ToNode k) who is = nodes_fit added may k who is

-- ---- the first place at which a test passes

place_below : {A : Type 0} (test : A → Bool) (xs : List A) (i : ℕ) (x : A) → slice_get xs i ≡ Some x → test x ≡ true → position_or_len test xs < length xs
place_below test [] i x here passes = cc
place_below test (y ∷ xs) zero x here passes = at_first (test y) (ap test (some_same y x here) ∙ passes)
  where
    at_first : (b : Bool) → b ≡ true → cond (not b) (1 + position_or_len test xs) 0 < suc (length xs)
    at_first true is = omega arith
    at_first false is = cc
place_below test (y ∷ xs) (suc i) x here passes = behind (test y) (place_below test xs i x here passes)
  where
    behind : (b : Bool) → position_or_len test xs < length xs → cond (not b) (1 + position_or_len test xs) 0 < suc (length xs)
    behind true less = omega arith
    behind false less = omega (arith, less)

place_there : {A : Type 0} (test : A → Bool) (xs : List A) (i : ℕ) (x : A) → slice_get xs i ≡ Some x → test x ≡ true → (j : ℕ) × (position test xs ≡ Some j)
place_there test xs i x here passes =
    (position_or_len test xs, ap (λ (b : Bool). cond b (Some (position_or_len test xs)) None) (lt-ltb (position_or_len test xs) (length xs) (place_below test xs i x here passes)))

place_end : {A : Type 0} (test : A → Bool) (xs : List A) → AllByRecursion (λ x. test x ≡ false) xs → position_or_len test xs ≡ length xs
place_end test [] all = refl
place_end test (x ∷ xs) all =
    let last = place_end test xs all.1 in
    ap (λ (b : Bool). cond (not b) (1 + position_or_len test xs) 0) all.0 ∙ one_more last
  where
    one_more : position_or_len test xs ≡ length xs → 1 + position_or_len test xs ≡ suc (length xs)
    one_more h = omega (arith, h)

place_nowhere : {A : Type 0} (test : A → Bool) (xs : List A) → AllByRecursion (λ x. test x ≡ false) xs → position test xs ≡ None
place_nowhere test xs all =
    let last = place_end test xs all in
    ap (λ (b : Bool). cond b (Some (position_or_len test xs)) None) (le-ltb (position_or_len test xs) (length xs) (omega (arith, last)))

-- ---- URIs

same_itself : (uri : List ℕ) → same_uri uri uri ≡ true
same_itself uri = (bytes_decides uri uri).1 refl

-- the URI of a hub is found
pub hub-found : (w : World) (i : ℕ) → i < length w.hubs → (j : ℕ) × (hub_with w (hub_uri i) ≡ Some j)
hub-found w i below = place_there (same_uri (hub_uri i)) (map hub_uri (range_with_len 0 (length w.hubs))) i (hub_uri i)
    (at 0 (length w.hubs) i below ∙ ap (λ (n : ℕ). Some (hub_uri n)) (none_more i)) (same_itself (hub_uri i))
  where
    none_more : (n : ℕ) → 0 + n ≡ n
    none_more n = omega arith

    at : (start n i : ℕ) → i < n → slice_get (map hub_uri (range_with_len start n)) i ≡ Some (hub_uri (start + i))
    at start zero i below = absurd (omega (arith, below))
    at start (suc n) zero below = ap (λ (m : ℕ). Some (hub_uri m)) (start_here start)
      where
        start_here : (m : ℕ) → m ≡ m + 0
        start_here m = omega arith
    at start (suc n) (suc i) below = at (start + 1) n i (omega (arith, below)) ∙ ap (λ (m : ℕ). Some (hub_uri m)) (next start i)
      where
        next : (m i : ℕ) → (m + 1) + i ≡ m + suc i
        next m i = omega arith

-- no URI is the empty text
no_hub : (start n : ℕ) → AllByRecursion (λ (uri : List ℕ). same_uri [] uri ≡ false) (map hub_uri (range_with_len start n))
no_hub start zero = tt
no_hub start (suc n) = (refl, no_hub (start + 1) n)

no_own : (count : ℕ) (m : Made) → IsSet count m → is_uri [] m.limits.uris ≡ false
no_own count m s = ap (λ limits. is_uri [] limits.uris) s.limits ∙ by s.direct
  where
    by : (b : Bool) → is_uri [] (settings s.before s.number b).uris ≡ false
    by true = refl
    by false = refl

no_node : (count : ℕ) (ns : List Node) → AllByRecursion (IsSet count) (map (λ (n : Node). n.made) ns) → AllByRecursion (λ (n : Node). is_uri [] n.made.limits.uris ≡ false) ns
no_node count [] all = tt
no_node count (n ∷ ns) all = (no_own count n.made all.0, no_node count ns all.1)

-- ---- what a node dials as its hub

is_hub : (o : Option ℕ) (k : Option ℕ) (j : ℕ) (t : Target) → o ≡ Some j → option_or (option_map (λ i. ToHub i) o) (option_map (λ i. ToNode i) k) ≡ Some t → t ≡ ToHub j
is_hub None k j t found leads = cc
is_hub (Some i) k j t found leads = sym (some_same (ToHub i) t leads) ∙ ap (λ (n : ℕ). ToHub n) (some_same i j found)

roomy : (b : Bool) (o : Option Target) (t : Target) → if_room b o ≡ Some t → o ≡ Some t
roomy true o t leads = leads
roomy false o t leads = cc

by-hub : (w : World) (i : ℕ) (t : Target) → i < length w.hubs → leads_to w (hub_uri i) ≡ Some t → (j : ℕ) × (t ≡ ToHub j)
by-hub w i t below leads =
    let there = hub-found w i below in
    (there.0, is_hub (hub_with w (hub_uri i)) (node_with w (hub_uri i)) there.0 t there.1 (roomy (nat_lt (length w.links) most_links) (target_of w (hub_uri i)) t leads))

by-nothing : (cast : Cast) (w : World) (t : Target) → MadeWell cast → Casts cast w → leads_to w [] ≡ Some t → ⊥
by-nothing cast w t made c leads = none (hub_with w []) (node_with w []) no_hubs no_nodes (roomy (nat_lt (length w.links) most_links) (target_of w []) t leads)
  where
    no_hubs : hub_with w [] ≡ None
    no_hubs = place_nowhere (same_uri []) (map hub_uri (range_with_len 0 (length w.hubs))) (no_hub 0 (length w.hubs))

    no_nodes : node_with w [] ≡ None
    no_nodes = place_nowhere (λ (n : Node). is_uri [] n.made.limits.uris) w.nodes (no_node (length cast.hubs) w.nodes (subst (AllByRecursion (IsSet (length cast.hubs))) (sym c.nodes) made.set))

    none : (o k : Option ℕ) → o ≡ None → k ≡ None → option_or (option_map (λ i. ToHub i) o) (option_map (λ i. ToNode i) k) ≡ Some t → ⊥
    none None None p q h = cc
    none (Some i) k p q h = cc
    none None (Some i) p q h = cc

hub_count : (cast : Cast) (w : World) → Casts cast w → length w.hubs ≡ length cast.hubs
hub_count cast w c = sym (length-mapped w.hubs) ∙ ap length c.hubs
  where
    length-mapped : (hs : List Hub) → length (map (λ (h : Hub). h.about) hs) ≡ length hs
    length-mapped [] = refl
    length-mapped (h ∷ hs) = ap suc (length-mapped hs)

-- What a node dials under the name of a hub is a hub.
pub dials-hub : (cast : Cast) (w : World) (m : Made) (e : NodeEvent) (s : Side) (uri : List ℕ) (t : Target) → MadeWell cast → Casts cast w → IsSet (length cast.hubs) m
    → IsDue m e (Dial (HubName s) uri) → leads_to w uri ≡ Some t → (j : ℕ) × (t ≡ ToHub j)
dials-hub cast w m e Primary uri t made c set due leads =
    let few = set.few in
    let one = set.one_hub in
    let count = hub_count cast w c in
    by-hub w 0 t (omega (arith, few, one, count)) (ap (leads_to w) (sym (due ∙ ap (λ limits. limits.primary) set.limits)) ∙ leads)
dials-hub cast w m e Failover uri t made c set due leads = by (nat_lt 1 set.before) refl (ap (leads_to w) (sym (due ∙ ap (λ limits. unwrap_or limits.failover []) set.limits)) ∙ leads)
  where
    by : (b : Bool) → nat_lt 1 set.before ≡ b → leads_to w (unwrap_or (if b then Some (hub_uri 1) else None) []) ≡ Some t → (j : ℕ) × (t ≡ ToHub j)
    by true is h =
        let few = set.few in
        let two : 1 < set.before = ltb-true 1 set.before is in
        let count = hub_count cast w c in
        by-hub w 1 t (omega (arith, few, two, count)) h
    by false is h = absurd (by-nothing cast w t made c h)
