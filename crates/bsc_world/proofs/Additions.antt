-- A world to which a hub or a node was added stands for a network with one more.
-- It serves the clauses of `add_hub` and `add_node`.
use Rattle.std.proofs.Common.{◌≡◌, ◌≤◌, ◌<◌, ◌⊎◌, inl, inr, ℕ, ◌+◌, true, List, [], ◌∷◌, ◌++◌, length, map, slice_get, Some, refl, ap, sym, ◌∙◌, subst, arith, length-append}
use Rattle.std.proofs.lemmas.List.{length-map, map-append}
use Rattle.std.specs.Prelude.{Bool}
use Rattle.bsc_octets.specs.declared.identity.Identity.{Identity}
use Rattle.bsc_frame.specs.Payloads.{IsNode}
use Rattle.bsc_history.specs.Ends.{joined_where}
use Rattle.bsc_history.specs.Legality.{is_of}
use Rattle.bsc_history.specs.declared.limits.About.{About}
use Rattle.bsc_history.specs.declared.limits.Limits.{Limits}
use Rattle.bsc_node.specs.Logs.{Made}
use Rattle.bsc_script.specs.Hubs.{IsHub}
use Rattle.bsc_world.specs.declared.kept_hub.KeptHub.{KeptHub}
use Rattle.bsc_world.specs.declared.kept_node.KeptNode.{KeptNode}
use Rattle.bsc_world.specs.declared.world.World.{World as KeptWorld}
use Rattle.bsc_network.specs.declared.limits.TheConstants.{NODES}
use Rattle.bsc_network.specs.Settings.{Added, hub, node, hubs, nodes, nodes_after, settings, and_hub, and_node}
use Rattle.bsc_network.specs.Worlds.{World, Hub, Node, history, new_hub, new_node, new_world}
use Rattle.bsc_world.specs.Kept.{IsHubKept, IsNodeKept, IsCalm}
use Rattle.bsc_world.specs.Standing.{WorldStands, IsHubAt, IsNodeAt}
use Rattle.bsc_network.proofs.Places.{got-last, got-last_of}
use Rattle.bsc_network.proofs.Common.{may_add_one}
use Rattle.bsc_lemmas.proofs.Lists.{got-left}

-- ---- what was added

pub hubs-hub : (added : List Added) (a : About) → hubs (added ++ hub a ∷ []) ≡ hubs added ++ a ∷ []
hubs-hub [] a = refl
hubs-hub (hub b ∷ added) a = ap (λ xs. b ∷ xs) (hubs-hub added a)
hubs-hub (node own direct ∷ added) a = hubs-hub added a

pub hubs-node : (added : List Added) (own : Identity) (direct : Bool) → hubs (added ++ node own direct ∷ []) ≡ hubs added
hubs-node [] own direct = refl
hubs-node (hub b ∷ added) own direct = ap (λ xs. b ∷ xs) (hubs-node added own direct)
hubs-node (node who d ∷ added) own direct = hubs-node added own direct

nodes_after-hub : (b k : ℕ) (added : List Added) (a : About) → nodes_after b k (added ++ hub a ∷ []) ≡ nodes_after b k added
nodes_after-hub b k [] a = refl
nodes_after-hub b k (hub x ∷ added) a = nodes_after-hub (b + 1) k added a
nodes_after-hub b k (node own direct ∷ added) a = ap (λ xs. record { own = own; limits = settings b k direct } ∷ xs) (nodes_after-hub b (k + 1) added a)

nodes_after-node : (b k : ℕ) (added : List Added) (own : Identity) (direct : Bool)
    → nodes_after b k (added ++ node own direct ∷ []) ≡ nodes_after b k added ++ record { own = own; limits = settings (b + length (hubs added)) (k + length (nodes_after b k added)) direct } ∷ []
nodes_after-node b k [] own direct =
    let P = λ (x y : ℕ). (let m : Made = record { own = own; limits = settings x y direct } in m ∷ []) in
    let first : b + 0 ≡ b = omega arith in
    let second : k + 0 ≡ k = omega arith in
    sym (ap (λ x. P x (k + 0)) first ∙ ap (P b) second)
nodes_after-node b k (hub x ∷ added) own direct =
    let same : (b + 1) + length (hubs added) ≡ b + length (hubs (hub x ∷ added)) = omega arith in
    nodes_after-node (b + 1) k added own direct
    ∙ ap (λ (n : ℕ). nodes_after (b + 1) k added ++ record { own = own; limits = settings n (k + length (nodes_after (b + 1) k added)) direct } ∷ []) same
nodes_after-node b k (node who d ∷ added) own direct =
    let same : (k + 1) + length (nodes_after b (k + 1) added) ≡ k + length (nodes_after b k (node who d ∷ added)) = omega arith in
    ap (λ xs. record { own = who; limits = settings b k d } ∷ xs)
    (nodes_after-node b (k + 1) added own direct
    ∙ ap (λ (n : ℕ). nodes_after b (k + 1) added ++ record { own = own; limits = settings (b + length (hubs added)) n direct } ∷ []) same)

pub nodes-hub : (added : List Added) (a : About) → nodes (added ++ hub a ∷ []) ≡ nodes added
nodes-hub added a = nodes_after-hub 0 0 added a

pub nodes-node : (added : List Added) (own : Identity) (direct : Bool)
    → nodes (added ++ node own direct ∷ []) ≡ nodes added ++ record { own = own; limits = settings (length (hubs added)) (length (nodes added)) direct } ∷ []
nodes-node added own direct =
    let first : 0 + length (hubs added) ≡ length (hubs added) = omega arith in
    let second : 0 + length (nodes added) ≡ length (nodes added) = omega arith in
    nodes_after-node 0 0 added own direct
    ∙ ap (λ (n : ℕ). nodes added ++ record { own = own; limits = settings n (0 + length (nodes added)) direct } ∷ []) first
    ∙ ap (λ (n : ℕ). nodes added ++ record { own = own; limits = settings (length (hubs added)) n direct } ∷ []) second

-- ---- a hub

nothing_there : {A : Type 0} (l : ℕ) (x : A) → slice_get [] l ≡ Some x → ⊥
nothing_there l x p = cc

nobody_joined : (l c : ℕ) → is_of [] l c ≡ true → ⊥
unfolding joined_where
nobody_joined l c p = cc

pub added_hub : (t u : KeptWorld) (added : List Added) (who : Identity) (limits : Limits) (kept : KeptHub) → WorldStands t added []
    → u.made ≡ t.made → u.clock ≡ t.clock → u.hubs.items ≡ t.hubs.items ++ kept ∷ [] → u.nodes.items ≡ t.nodes.items → u.links.items ≡ t.links.items
    → length t.hubs.items < 2 → IsNode who → IsHub (record { hub = who; limits = limits }) → IsHubKept (length t.hubs.items) (new_hub (record { hub = who; limits = limits })) kept
    → WorldStands u (and_hub added who limits) []
added_hub t u added who limits kept f made clock hubs_so nodes_so links_so few node_who fit is =
    let a : About = record { hub = who; limits = limits } in
    let s = f.kept in
    let count : length t.hubs.items ≡ length (hubs added) = s.hub_count ∙ length-map (hubs added) new_hub in
    let hubs_are : (new_world (added ++ hub a ∷ [])).hubs ≡ (new_world added).hubs ++ new_hub a ∷ [] = ap (map new_hub) (hubs-hub added a) ∙ map-append new_hub (hubs added) (a ∷ []) in
    let nodes_are : (new_world (added ++ hub a ∷ [])).nodes ≡ (new_world added).nodes = ap (map new_node) (nodes-hub added a) in
    record {
      course = record { added_all = may_add_one added (hub a) f.course.added_all (record { few = subst (λ n. n < 2) count few; who = node_who; fit = fit }); made_all = tt };
      newest = refl;
      clock = (let c = f.clock in omega arith);
      kept = record {
        steps = made ∙ s.steps;
        untold = refl;
        named = tt;
        hub_count = ap length hubs_so ∙ length-append t.hubs.items (kept ∷ []) ∙ ap (λ n. n + 1) s.hub_count ∙ sym (ap length hubs_are ∙ length-append (new_world added).hubs (new_hub a ∷ []));
        node_count = ap length nodes_so ∙ s.node_count ∙ sym (ap length nodes_are);
        link_count = ap length links_so ∙ s.link_count;
        few_links = s.few_links;
        leads = λ l j link at to. absurd (nothing_there l link at);
        hubs = λ j h at. each j h (got-last_of (new_world added).hubs (new_hub a) j h (ap (λ xs. slice_get xs j) (sym hubs_are) ∙ at));
        nodes = λ k n at. (let b = s.nodes k n (ap (λ xs. slice_get xs k) (sym nodes_are) ∙ at) in
            record { kept = b.kept; there = ap (λ xs. slice_get xs k) nodes_so ∙ b.there; node = b.node; calm = b.calm });
        links = λ l link at. absurd (nothing_there l link at);
        ready = λ l k side other got it. s.ready l k side other (ap (λ xs. slice_get xs l) (sym links_so) ∙ got) it;
      };
    }
  where
    w : World
    w = new_world (added ++ hub (record { hub = who; limits = limits }) ∷ [])

    each : (j : ℕ) (h : Hub) → (slice_get (new_world added).hubs j ≡ Some h) ⊎ ((j ≡ length (new_world added).hubs) × (h ≡ new_hub (record { hub = who; limits = limits }))) → IsHubAt u w j h
    each j h (inl old) =
        (let b = f.kept.hubs j h old in
        record {
          kept = b.kept;
          there = ap (λ xs. slice_get xs j) hubs_so ∙ got-left t.hubs.items (kept ∷ []) j b.kept b.there;
          hub = b.hub;
          sides = λ l link k at to got. absurd (nothing_there l link at);
          joined = λ l c own. (let q = b.joined l c own in record { link = q.link; there = q.there; to = q.to; conn = q.conn; lasts = q.lasts });
        })
    each j h (inr new) =
        let number : length t.hubs.items ≡ j = f.kept.hub_count ∙ sym new.0 in
        record {
          kept = kept;
          there = ap (λ xs. slice_get xs j) hubs_so ∙ ap (slice_get (t.hubs.items ++ kept ∷ [])) (sym number) ∙ got-last t.hubs.items kept;
          hub = subst (λ x. IsHubKept j x kept) (sym new.1) (subst (λ n. IsHubKept n (new_hub (record { hub = who; limits = limits })) kept) number is);
          sides = λ l link k at to got. absurd (nothing_there l link at);
          joined = λ l c own. absurd (nobody_joined l c (ap (λ (x : Hub). is_of (history x) l c) (sym new.1) ∙ own));
        }

-- ---- a node

pub added_node : (t u : KeptWorld) (added : List Added) (own : Identity) (direct : Bool) (kept : KeptNode) → WorldStands t added []
    → u.made ≡ t.made → u.clock ≡ t.clock → u.hubs.items ≡ t.hubs.items → u.nodes.items ≡ t.nodes.items ++ kept ∷ [] → u.links.items ≡ t.links.items
    → 1 ≤ length t.hubs.items → length t.nodes.items < NODES → IsNode own → IsNodeKept (new_node (record { own = own; limits = settings (length t.hubs.items) (length t.nodes.items) direct })) kept
    → WorldStands u (and_node added own direct) []
added_node t u added own direct kept f made clock hubs_so nodes_so links_so some few node_own is =
    let s = f.kept in
    let hub_count : length t.hubs.items ≡ length (hubs added) = s.hub_count ∙ length-map (hubs added) new_hub in
    let node_count : length t.nodes.items ≡ length (nodes added) = s.node_count ∙ length-map (nodes added) new_node in
    let m : Made = record { own = own; limits = settings (length (hubs added)) (length (nodes added)) direct } in
    let nodes_are : (new_world (added ++ node own direct ∷ [])).nodes ≡ (new_world added).nodes ++ new_node m ∷ [] = ap (map new_node) (nodes-node added own direct)
    ∙ map-append new_node (nodes added) (m ∷ []) in
    let hubs_are : (new_world (added ++ node own direct ∷ [])).hubs ≡ (new_world added).hubs = ap (map new_hub) (hubs-node added own direct) in
    let kept_is : IsNodeKept (new_node m) kept = subst (λ n. IsNodeKept (new_node (record { own = own; limits = settings n (length (nodes added)) direct })) kept) hub_count
    (subst (λ n. IsNodeKept (new_node (record { own = own; limits = settings (length t.hubs.items) n direct })) kept) node_count is) in
    record {
      course = record {
        added_all = may_add_one added (node own direct) f.course.added_all
            (record { some_hub = subst (λ n. 1 ≤ n) hub_count some; few = subst (λ n. n < NODES) node_count few; who = node_own });
        made_all = tt;
      };
      newest = refl;
      clock = (let c = f.clock in omega arith);
      kept = record {
        steps = made ∙ s.steps;
        untold = refl;
        named = tt;
        hub_count = ap length hubs_so ∙ s.hub_count ∙ sym (ap length hubs_are);
        node_count = ap length nodes_so ∙ length-append t.nodes.items (kept ∷ []) ∙ ap (λ n. n + 1) s.node_count ∙ sym (ap length nodes_are ∙ length-append (new_world added).nodes (new_node m ∷ []));
        link_count = ap length links_so ∙ s.link_count;
        few_links = s.few_links;
        leads = λ l j link at to. absurd (nothing_there l link at);
        hubs = λ j h at. (let b = s.hubs j h (ap (λ xs. slice_get xs j) (sym hubs_are) ∙ at) in record {
          kept = b.kept;
          there = ap (λ xs. slice_get xs j) hubs_so ∙ b.there;
          hub = b.hub;
          sides = λ l link k is to got. absurd (nothing_there l link is);
          joined = λ l c mine. (let q = b.joined l c mine in record { link = q.link; there = q.there; to = q.to; conn = q.conn; lasts = q.lasts });
        });
        nodes = λ k n at. each m kept_is k n (got-last_of (new_world added).nodes (new_node m) k n (ap (λ xs. slice_get xs k) (sym nodes_are) ∙ at));
        links = λ l link at. absurd (nothing_there l link at);
        ready = λ l k side other got it. s.ready l k side other (ap (λ xs. slice_get xs l) (sym links_so) ∙ got) it;
      };
    }
  where
    w : World
    w = new_world (added ++ node own direct ∷ [])

    each : (m : Made) → IsNodeKept (new_node m) kept → (k : ℕ) (n : Node) → (slice_get (new_world added).nodes k ≡ Some n) ⊎ ((k ≡ length (new_world added).nodes) × (n ≡ new_node m))
        → IsNodeAt u w k n
    each m kept_is k n (inl old) =
        (let b = f.kept.nodes k n old in
        record { kept = b.kept; there = ap (λ xs. slice_get xs k) nodes_so ∙ got-left t.nodes.items (kept ∷ []) k b.kept b.there; node = b.node; calm = b.calm })
    each m kept_is k n (inr new) =
        let number : length t.nodes.items ≡ k = f.kept.node_count ∙ sym new.0 in
        record {
          kept = kept;
          there = ap (λ xs. slice_get xs k) nodes_so ∙ ap (slice_get (t.nodes.items ++ kept ∷ [])) (sym number) ∙ got-last t.nodes.items kept;
          node = subst (λ x. IsNodeKept x kept) (sym new.1) kept_is;
          calm = subst (λ (x : Node). IsCalm 0 x.log) (sym new.1) (record { time = omega arith; word = refl });
        }
