-- Networks of hubs and nodes that the commands ran, by what their links told.
-- It serves the clauses of `what_ran_delivers_by_wires`.
use Rattle.std.proofs.Common.{◌≡◌, ℕ, append-nil, zero, suc, Bool, true, false, List, [], ◌∷◌, Option, Some, None, refl, ap, sym, subst, ◌∙◌}
use Rattle.std.specs.Prelude.{map, option_map, slice_get, unwrap_or}
use Rattle.std.proofs.lemmas.Bool.{both_ways}
use Rattle.std.proofs.lemmas.Option.{same_Some}
use Rattle.bsc_edge.specs.declared.notice.Notice.{Notice}
use Rattle.bsc_edge.specs.declared.said.Said.{Said}
use Rattle.bsc_node.specs.declared.node_event.NodeEvent.{NodeEvent}
use Rattle.bsc_node.specs.Links.{begins as begins_by}
use Rattle.bsc_node.specs.Logs.{Line, Log}
use Rattle.bsc_node_links.specs.Lives.{HasBegun, LinkLife, given_over, put_over}
use Rattle.bsc_node_links.specs.Talks.{AreFirstOf, given_in, put_in}
use Rattle.bsc_node_links.specs.Using.{HasUse}
use Rattle.bsc_node_command.specs.Ran.{RanNodesUseLinks, StoppedNodesUseLinks}
use Rattle.bsc_network_of_runs.specs.Hubs.{HubRun, SessionOf}
use Rattle.bsc_network_of_runs.specs.Networks.{HasTraffic, LinkEnd, SessionName, Traffic, of_node, of_session}
use Rattle.bsc_network_of_runs.specs.Nodes.{NodeRun, log_of}
use Rattle.bsc_network_of_runs.specs.Running.{RunsAreOfNodes, StoppedRunsAreOfNodes}
use Rattle.bsc_network_of_runs.specs.Wires.{AreTold, WiresAreLinks}
use Rattle.bsc_ran_networks.specs.HubRuns.Networks.{HubsThatRanDeliver}
use Rattle.bsc_ran_networks.specs.HubRuns.Runs.{InPairs}
use Rattle.bsc_ran_networks.specs.Networks.{IsItsNode, RanByCommand}
use Rattle.bsc_ran_networks.specs.Wires.{IsItsToldRun, IsToldOver, ToldRun, WhatRanDeliversByWires, network_of, talk_of, told_at}
use Rattle.bsc_ran_networks.proofs.Networks.{node_of}

-- ---- whether a life began

abbrev begun_at : Option Line → LinkLife → Bool
begun_at None l = false
begun_at (Some m) l = begins_by l.name m

has_begun : (M : Log) (l : LinkLife) (o : Option Line) → slice_get M l.began ≡ o → begun_at o l ≡ true → HasBegun M l
has_begun M l None got g = cc
has_begun M l (Some m) got g = record { line = m; at = got; begins_it = g }

begun_so : (M : Log) (l : LinkLife) → HasBegun M l → begun_at (slice_get M l.began) l ≡ true
begun_so M l h = ap (λ (o : Option Line). begun_at o l) h.at ∙ h.begins_it

-- that of f where it did, and else d
pick : {A : Type 0} (M : Log) (l : LinkLife) → (HasBegun M l → A) → A → (b : Bool) → begun_at (slice_get M l.began) l ≡ b → A
pick M l f d true is = f (has_begun M l (slice_get M l.began) refl is)
pick M l f d false is = d

picked : {A : Type 0} (P : A → Type 0) (M : Log) (l : LinkLife) (f : HasBegun M l → A) (d : A) (b : Bool) (is : begun_at (slice_get M l.began) l ≡ b)
    → ((h : HasBegun M l) → P (f h)) → HasBegun M l → P (pick M l f d b is)
unfolding pick has_begun
picked P M l f d true is holds h = holds (has_begun M l (slice_get M l.began) refl is)
picked P M l f d false is holds h = absurd (both_ways (begun_at (slice_get M l.began) l) is (begun_so M l h))

-- ---- what was told on the links of a node

module _ {K : Type 0} (talk : K → Option (List Said)) where
  record SomeTold (M : Log) (links : List (Option K)) (l : LinkLife) : Type 0 where
    said : List Said
    so : IsToldOver talk M links l said

  told_by : (M : Log) (links : List (Option K)) (l : LinkLife) (link : Option K) → slice_get links l.began ≡ Some link → HasUse talk link (given_over M l) (put_over M l)
      → SomeTold M links l
  told_by M links l None came none = record { said = []; so = record { link = None; came = came; told = refl; gave = sym none; took = (put_over M l, refl) } }
  told_by M links l (Some k) came (let_go, u) = record { said = u.T; so = record { link = Some k; came = came; told = (let_go, u.grows); gave = u.gave; took = u.took } }

module _ {K W : Type 0} (talk : K → Option (List Said)) (drawn : NodeEvent → W → W → Type 0) where
  some_told : (x : RanByCommand talk drawn) (n : NodeRun) (its : IsItsNode talk drawn x n) (l : LinkLife) → HasBegun its.last l → SomeTold talk its.last its.used.links l
  some_told x n its l h = by (its.used.used l h)
    where
      by : (link : Option K) × (slice_get its.used.links l.began ≡ Some link) × HasUse talk link (given_over its.last l) (put_over its.last l) → SomeTold talk its.last its.used.links l
      by (link, came, u) = told_by talk its.last its.used.links l link came u

  run_of : RunsAreOfNodes talk drawn → StoppedRunsAreOfNodes talk → RanNodesUseLinks talk drawn → StoppedNodesUseLinks talk drawn
      → (x : RanByCommand talk drawn) → (r : ToldRun) × IsItsToldRun talk drawn x r
  run_of are are_stopped links stopped x =
      let n = node_of talk drawn are are_stopped links stopped x in
      let M = n.1.last in
      let f = λ (l : LinkLife) (h : HasBegun M l). (some_told x n.0 n.1 l h).said in (
        record { node = n.0; told = λ l. pick M l (f l) [] (begun_at (slice_get M l.began) l) refl },
        record { its = n.1; told = λ l h. picked (IsToldOver talk M n.1.used.links l) M l (f l) [] (begun_at (slice_get M l.began) l) refl (λ g. (some_told x n.0 n.1 l g).so) h },
      )

  runs_of : RunsAreOfNodes talk drawn → StoppedRunsAreOfNodes talk → RanNodesUseLinks talk drawn → StoppedNodesUseLinks talk drawn → (ran : List (RanByCommand talk drawn))
      → (runs : List ToldRun) × InPairs (IsItsToldRun talk drawn) ran runs
  runs_of are are_stopped links stopped [] = ([], tt)
  runs_of are are_stopped links stopped (x ∷ ran) =
      let one = run_of are are_stopped links stopped x in
      let rest = runs_of are are_stopped links stopped ran in
      (one.0 ∷ rest.0, (one.1, rest.1))

  -- the run of a node of the network, and what the command ran
  record Found (runs : List ToldRun) (k : ℕ) (n : NodeRun) : Type 0 where
    run : ToldRun
    got : slice_get runs k ≡ Some run
    same : run.node ≡ n
    ran : RanByCommand talk drawn
    its : IsItsToldRun talk drawn ran run

  found : (ran : List (RanByCommand talk drawn)) (runs : List ToldRun) (k : ℕ) (n : NodeRun) → InPairs (IsItsToldRun talk drawn) ran runs
      → slice_get (map (λ (r : ToldRun). r.node) runs) k ≡ Some n → Found runs k n
  found [] [] k n p got = cc
  found [] (r ∷ runs) k n p got = absurd p
  found (x ∷ ran) [] k n p got = absurd p
  found (x ∷ ran) (r ∷ runs) zero n (one, more) got = record { run = r; got = refl; same = same_Some r.node n got; ran = x; its = one }
  found (x ∷ ran) (r ∷ runs) (suc k) n (one, more) got =
      let f = found ran runs k n more got in
      record { run = f.run; got = f.got; same = f.same; ran = f.ran; its = f.its }

  -- ---- what was told is what the network says

  module _ (hubs : List HubRun) (runs : List ToldRun) (ran : List (RanByCommand talk drawn)) (pairs : InPairs (IsItsToldRun talk drawn) ran runs) where
    session_told : (z : SessionName) (h : HubRun) (s : SessionOf h.about h.history) → slice_get hubs z.hub ≡ Some h → slice_get h.sessions z.number ≡ Some s → told_at hubs runs (of_session z) ≡ s.talk
    session_told z h s at got =
        ap (λ (o : Option HubRun). unwrap_or (option_map (talk_of z.number) o) []) at
        ∙ ap (λ (o : Option (SessionOf h.about h.history)). unwrap_or (option_map (λ (r : SessionOf h.about h.history). r.talk) o) []) got

    node_told : (k : ℕ) (l : LinkLife) (r : ToldRun) → slice_get runs k ≡ Some r → told_at hubs runs (of_node k l) ≡ r.told l
    node_told k l r got = ap (λ (o : Option ToldRun). unwrap_or (option_map (λ (q : ToldRun). q.told l) o) []) got

    log_is : (k : ℕ) (n : NodeRun) (f : Found runs k n) → log_of n ≡ f.its.its.last
    log_is k n f = ap log_of (sym f.same) ∙ f.its.its.log_is

    over : (k : ℕ) (l : LinkLife) (n : NodeRun) (f : Found runs k n) → HasBegun (log_of n) l → IsToldOver talk f.its.its.last f.its.its.used.links l (f.run.told l)
    over k l n f begun = f.its.told l (subst (λ (M : Log). HasBegun M l) (log_is k n f) begun)

    gave : (x : LinkEnd) (t : Traffic) → HasTraffic (network_of hubs runs) x t → given_in (told_at hubs runs x) ≡ t.given
    gave (of_session z) t (h, s, at, got, is) = ap given_in (session_told z h s at got) ∙ ap (λ (u : Traffic). u.given) (sym is)
    gave (of_node k l) t (n, at, begun, is) =
        let f = found ran runs k n pairs at in
        ap given_in (node_told k l f.run f.got) ∙ (over k l n f begun).gave ∙ ap (λ (M : Log). given_over M l) (sym (log_is k n f)) ∙ ap (λ (u : Traffic). u.given) (sym is)

    all_of : (os ps : List (List ℕ)) → os ≡ ps → AreFirstOf os ps
    all_of os ps is = subst (AreFirstOf os) is ([], sym (append-nil os))

    took : (x : LinkEnd) (t : Traffic) → HasTraffic (network_of hubs runs) x t → AreFirstOf (put_in (told_at hubs runs x)) t.put
    took (of_session z) t (h, s, at, got, is) = all_of _ _ (ap put_in (session_told z h s at got) ∙ ap (λ (u : Traffic). u.put) (sym is))
    took (of_node k l) t (n, at, begun, is) =
        let f = found ran runs k n pairs at in
        subst (λ (T : List Said). AreFirstOf (put_in T) t.put) (sym (node_told k l f.run f.got))
        (subst (AreFirstOf (put_in (f.run.told l))) (ap (λ (M : Log). put_over M l) (sym (log_is k n f)) ∙ ap (λ (u : Traffic). u.put) (sym is)) (over k l n f begun).took)

    are_told : AreTold (network_of hubs runs) (told_at hubs runs)
    are_told = record { gave = gave; took = took }

module _ {L C N K W : Type 0} (talk : L → Option (List Said)) (faults : L → ℕ) (notices : L → Option (List Notice)) (readings : C → Option (List ℕ))
    (held : N → Option (List ℕ)) (unput : N → ℕ) (begins : Option (List ℕ) → ℕ → N → Type 0) (said : K → Option (List Said))
    (drawn : NodeEvent → W → W → Type 0) where
  pub what_ran_delivers_by_wires : HubsThatRanDeliver talk faults notices readings held unput begins → RunsAreOfNodes said drawn → StoppedRunsAreOfNodes said → RanNodesUseLinks said drawn
      → StoppedNodesUseLinks said drawn → WiresAreLinks
      → WhatRanDeliversByWires talk faults notices readings held unput begins said drawn
  what_ran_delivers_by_wires deliver are are_stopped links stopped wires made ran =
      let h = deliver made in
      let r = runs_of said drawn are are_stopped links stopped ran in (
        h.0,
        r.0,
        h.1,
        r.1,
        λ other w. h.2 (network_of h.0 r.0).nodes other (wires (network_of h.0 r.0) other (told_at h.0 r.0) (are_told said drawn h.0 r.0 ran r.1) w),
      )
