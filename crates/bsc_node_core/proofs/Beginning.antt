-- What a node keeps goes on standing for its log, where a link begins.
-- It serves the clauses of `dial` and `take`.
use Rattle.std.proofs.Common.{◌≡◌, ℕ, ◌+◌, Bool, true, false, not, cond, ◌&&◌, ◌||◌, List, [], ◌∷◌, ◌++◌, Option, Some, None, unwrap_or, refl, ap, sym, ◌∙◌, subst, arith}
use Rattle.std.specs.Prelude.{min, count_by, filter_map, is_some}
use Rattle.std.specs.List.{list_any}
use Rattle.std.specs.Option.{option_or}
use Rattle.std.proofs.lemmas.Bool.{lt-ltb}
use Rattle.bsc_connector.specs.declared.side.Side.TheVariants.{Primary, Failover}
use Rattle.bsc_connector.specs.declared.event.HubEvent.{HubEvent}
use Rattle.bsc_connector.specs.Back.{newest_of, since}
use Rattle.bsc_connector.specs.Sides as Sides
use Rattle.bsc_connector.specs.Standing.{ConnectorStands}
use Rattle.bsc_connector.proofs.BackLemmas.{newest_of-more, list_any-more, until-begun}
use Rattle.bsc_direct.specs.declared.bounds.TheConstants.{SLOTS}
use Rattle.bsc_direct.specs.Standing.{DirectStands}
use Rattle.bsc_octets.specs.declared.identity.Identity.{Identity}
use Rattle.bsc_accept.specs.declared.times.Times.{Times}
use Rattle.bsc_accept.specs.declared.start.Start.{Start}
use Rattle.bsc_accept.specs.declared.accepting.Accepting.{Accepting}
use Rattle.bsc_accept.specs.Standing.{AcceptingStands}
use Rattle.bsc_initiate.specs.declared.initiating.Initiating.{Initiating}
use Rattle.bsc_initiate.specs.Standing.{InitiatingStands}
use Rattle.bsc_node.specs.declared.bounds.TheConstants.{RENEWALS}
use Rattle.bsc_node.specs.declared.link_name.LinkName.{LinkName}
use Rattle.bsc_node.specs.declared.link_name.LinkName.TheVariants.{Hub, Direct}
use Rattle.bsc_node.specs.declared.action.Action.{Action}
use Rattle.bsc_node.specs.declared.action.Action.TheVariants.{Dial, Take}
use Rattle.bsc_node.specs.Logs.{Made, did, Log, now, own, is_numbered}
use Rattle.bsc_node.specs.Links.{beginning_of, begins, begins_by, is_over_by, same_link, life, is_there, was_taken, start, initiating_event, accepting_event, initiating_events}
use Rattle.bsc_node.specs.Links.{accepting_events, who_accepted, who_asked, peer}
use Rattle.bsc_node.specs.Hubs.{waits, hub_events, is_dropped}
use Rattle.bsc_node.specs.Meeting.{is_hub}
use Rattle.bsc_node.specs.Ways.{is_claim_of, tries}
use Rattle.bsc_node.proofs.Told.{same_link-self}
use Rattle.bsc_node_core.specs.declared.machine.Machine.{Machine}
use Rattle.bsc_node_core.specs.declared.machine.Machine.TheVariants.{Dialled, Taken}
use Rattle.bsc_node_core.specs.declared.links.Links.{Links}
use Rattle.bsc_node_core.specs.declared.state.State.{State}
use Rattle.bsc_node_core.specs.Machines.{says_there}
use Rattle.bsc_node_core.specs.Tables.{Kept, link_at, is_name, Sets, Touches, begun}
use Rattle.bsc_node_core.specs.Standing.{Base, MachineStands, LinkStands, Stands}
use Rattle.bsc_node_core.proofs.More.{now-kept, own-kept, next-kept, finishing-kept, renewals-kept, refusing-kept, dropped-kept, since-kept, since-now, count-kept, count-one_more}
use Rattle.bsc_node_core.proofs.Lines.{link-kept, came-did}
use Rattle.bsc_node_core.proofs.Untouched.{agrees-set}
use Rattle.bsc_lemmas.proofs.Booleans.{or_true}
use Rattle.bsc_node.proofs.Common.{hub_events-kept, resolve_calls-kept, same_link-is, slot_calls-kept}

-- By the action the link of this name begins, taken or dialled, and nothing else changes.
pub record Begins (name : LinkName) (taken : Bool) (action : Action) : Type 0 where
  pub begins : (other : LinkName) → begins_by other action ≡ cond (same_link name other) (Some taken) None
  pub over : (other : LinkName) → is_over_by other (did action) ≡ false
  pub number : is_numbered (did action) ≡ false

here : (name : LinkName) (taken : Bool) (action : Action) → Begins name taken action → begins_by name action ≡ Some taken
here name taken action g = g.begins name ∙ ap (λ (b : Bool). cond b (Some taken) None) (same_link-self name)

there : (name other : LinkName) (taken : Bool) (action : Action) → Begins name taken action → same_link name other ≡ false → begins_by other action ≡ None
there name other taken action g e = g.begins other ∙ ap (λ (b : Bool). cond b (Some taken) None) e

-- ---- the link that begins

module _ (a : Made) (busy : Option LinkName) (L : Log) (name : LinkName) (taken : Bool) (action : Action) (g : Begins name taken action) where
  began : begins name (did action) ≡ true
  began = ap is_some (here name taken action g)

  life-begun : life (L ++ did action ∷ []) name ≡ []
  life-begun = since-now (begins name) L (did action) began

  there-begun : is_there name (L ++ did action ∷ []) ≡ true
  there-begun =
      ap (λ ys. list_any (begins name) (L ++ did action ∷ []) && not (list_any (is_over_by name) ys)) life-begun
      ∙ ap (λ b. b && true) (list_any-more (begins name) L (did action) ∙ ap (λ b. list_any (begins name) L || b) began ∙ or_true (list_any (begins name) L))

  taken-begun : was_taken name (L ++ did action ∷ []) ≡ taken
  taken-begun = ap (λ o. unwrap_or o false) (newest_of-more (beginning_of name) L (did action) ∙ ap (λ o. option_or o (newest_of (beginning_of name) L)) (here name taken action g))

  start-begun : start a (L ++ did action ∷ []) name ≡ record { own = own a L; times = a.limits.times; at = now L }
  start-begun = ap (λ (M : Log). record { own = own a M; times = a.limits.times; at = now M }) (until-begun (begins name) L (did action) began)

  initiating-begun : initiating_events (L ++ did action ∷ []) name ≡ []
  initiating-begun = ap (filter_map (initiating_event name)) life-begun

  accepting-begun : accepting_events (L ++ did action ∷ []) name ≡ []
  accepting-begun = ap (filter_map (accepting_event name)) life-begun

  peer-begun : peer (L ++ did action ∷ []) name ≡ None
  peer-begun = ap (λ es. option_or (who_accepted es) (who_asked (accepting_events (L ++ did action ∷ []) name))) initiating-begun ∙ ap who_asked accepting-begun

  pub dialled-begun : (m : Initiating) → taken ≡ false → InitiatingStands m (record { own = own a L; times = a.limits.times; at = now L }) []
      → MachineStands a busy (L ++ did action ∷ []) name (Dialled m)
  dialled-begun m f h = record { dialled = taken-begun ∙ f; alone = accepting-begun; machine = rw (start-begun, initiating-begun) h; accept = rw initiating-begun (refl, λ id. refl) }

  pub taken-machine-begun : (m : Accepting) → is_hub name ≡ false → taken ≡ true → AcceptingStands m (record { own = own a L; times = a.limits.times; at = now L }) []
      → MachineStands a busy (L ++ did action ∷ []) name (Taken m)
  taken-machine-begun m s f h = record { slot = s; taken = taken-begun ∙ f; alone = initiating-begun; machine = rw (start-begun, accepting-begun) h; ask = rw accepting-begun refl }

  link-begun : (machine : Machine) (l : Kept) → says_there machine ≡ true → MachineStands a busy (L ++ did action ∷ []) name machine → LinkStands a busy (L ++ did action ∷ []) name (begun machine l)
  link-begun machine l t h = record { there = there-begun ∙ sym t; machine = h; peer = peer-begun }

  pub links-begun : (old new : Links) (machine : Machine) → Sets old new name (begun machine (link_at old name)) → says_there machine ≡ true → MachineStands a busy (L ++ did action ∷ []) name machine
      → ((other : LinkName) → is_name other ≡ true → LinkStands a busy L other (link_at old other))
      → (other : LinkName) → is_name other ≡ true → LinkStands a busy (L ++ did action ∷ []) other (link_at new other)
  links-begun old new machine sets t m h other n = by (same_link name other) refl
    where
      by : (b : Bool) → same_link name other ≡ b → LinkStands a busy (L ++ did action ∷ []) other (link_at new other)
      by true e =
          let is = same_link-is name other e in
          let l : link_at new other ≡ begun machine (link_at old name) = sets other ∙ ap (λ b. cond (b && is_name name) (begun machine (link_at old name)) (link_at old other)) e
          ∙ ap (λ b. cond b (begun machine (link_at old name)) (link_at old other)) (ap is_name is ∙ n) in
          subst (λ (x : Kept). LinkStands a busy (L ++ did action ∷ []) other x) (sym l)
          (subst (λ (x : LinkName). LinkStands a busy (L ++ did action ∷ []) x (begun machine (link_at old name))) is (link-begun machine (link_at old name) t m))
      by false e =
          let l : link_at new other ≡ link_at old other = sets other ∙ ap (λ b. cond (b && is_name name) (begun machine (link_at old name)) (link_at old other)) e in
          subst (λ (x : Kept). LinkStands a busy (L ++ did action ∷ []) other x) (sym l)
          (link-kept a busy L (did action) other (link_at old other) (there name other taken action g e) (g.over other) refl refl (h other n))

  -- ---- how often a slot began

  tries-by : (k : ℕ) (b : Bool) → same_link name (Direct k) ≡ b → tries k (L ++ did action ∷ []) ≡ tries k L + cond b 1 0
  tries-by k true e =
      ap (count_by (begins (Direct k))) (since-kept (is_claim_of k) L (did action) refl)
      ∙ count-one_more (begins (Direct k)) (since (is_claim_of k) L) (did action) (ap is_some (g.begins (Direct k) ∙ ap (λ (b : Bool). cond b (Some taken) None) e))
  tries-by k false e =
      ap (count_by (begins (Direct k))) (since-kept (is_claim_of k) L (did action) refl)
      ∙ count-kept (begins (Direct k)) (since (is_claim_of k) L) (did action) (ap is_some (there name (Direct k) taken action g e))
      ∙ omega arith

  pub tries-begun : (old new : Links) (machine : Machine) (k : ℕ) → is_name (Direct k) ≡ true → Sets old new name (begun machine (link_at old name))
      → min (tries k L) 18446744073709551615 ≡ (link_at old (Direct k)).tries
      → min (tries k (L ++ did action ∷ [])) 18446744073709551615 ≡ (link_at new (Direct k)).tries
  tries-begun old new machine k n sets h = by (same_link name (Direct k)) refl
    where
      by : (b : Bool) → same_link name (Direct k) ≡ b → min (tries k (L ++ did action ∷ [])) 18446744073709551615 ≡ (link_at new (Direct k)).tries
      by true e =
          let is = same_link-is name (Direct k) e in
          let l : link_at new (Direct k) ≡ begun machine (link_at old (Direct k)) = sets (Direct k) ∙ ap (λ b. cond (b && is_name name) (begun machine (link_at old name)) (link_at old (Direct k))) e
          ∙ ap (λ b. cond b (begun machine (link_at old name)) (link_at old (Direct k))) (ap is_name is ∙ n) ∙ ap (λ x. begun machine (link_at old x)) is in
          let t = tries-by k true e in
          let u : (link_at new (Direct k)).tries ≡ min 18446744073709551615 ((link_at old (Direct k)).tries + 1) = ap (λ (x : Kept). x.tries) l in
          omega (arith, t, u, h)
      by false e =
          let l : link_at new (Direct k) ≡ link_at old (Direct k) = sets (Direct k) ∙ ap (λ b. cond (b && is_name name) (begun machine (link_at old name)) (link_at old (Direct k))) e in
          let t = tries-by k false e in
          let u : (link_at new (Direct k)).tries ≡ (link_at old (Direct k)).tries = ap (λ (x : Kept). x.tries) l in
          omega (arith, t, u, h)

  -- ---- whether the failover was dropped

  pub dropped-begun : (d : Bool) → is_dropped Failover L ≡ d → is_dropped Failover (L ++ did action ∷ []) ≡ cond (same_link name (Hub Failover)) false d
  dropped-begun d h = by (same_link name (Hub Failover)) refl
    where
      by : (b : Bool) → same_link name (Hub Failover) ≡ b → is_dropped Failover (L ++ did action ∷ []) ≡ cond b false d
      by true e = ap (λ ys. list_any (λ (x : HubEvent). Sides.connects Primary x.event) (hub_events ys))
          (since-now (begins (Hub Failover)) L (did action) (ap is_some (g.begins (Hub Failover) ∙ ap (λ (b : Bool). cond b (Some taken) None) e)))
      by false e = dropped-kept L (did action) (ap is_some (there name (Hub Failover) taken action g e)) refl ∙ h

-- A link begins.
pub begin-stands : (b : Base) (out : List Action) (s : State) (L : Log) (name : LinkName) (taken : Bool) (action : Action) (machine : Machine) (ls : Links) → Begins name taken action
    → Sets s.links ls name (begun machine (link_at s.links name)) → Touches s.links ls name → says_there machine ≡ true → MachineStands b.made b.busy (L ++ did action ∷ []) name machine
    → Stands b out s L → Stands b (out ++ action ∷ []) (record s { links = ls; dropped = cond (same_link name (Hub Failover)) false s.dropped }) (L ++ did action ∷ [])
begin-stands b out s L name taken action machine ls g sets touches t m h = record {
  now = now-kept L (did action) refl ∙ h.now;
  own = own-kept b.made L (did action) refl ∙ h.own;
  next = next-kept L (did action) g.number ∙ h.next;
  finishing = finishing-kept L (did action) refl ∙ h.finishing;
  renewals = ap (λ k. min RENEWALS k) (renewals-kept L (did action) refl refl) ∙ h.renewals;
  newest_hub = refusing-kept L (did action) refl ∙ h.newest_hub;
  dropped = dropped-begun b.made b.busy L name taken action g s.dropped h.dropped;
  connector = subst (λ E. ConnectorStands s.connector (waits b.made) E) (sym (hub_events-kept L (did action) refl)) h.connector;
  direct = subst (λ E. DirectStands s.direct E) (sym (slot_calls-kept L (did action) refl)) h.direct;
  asked = resolve_calls-kept L (did action) refl ∙ h.asked;
  links = links-begun b.made b.busy L name taken action g s.links ls machine sets t m h.links;
  tries = λ k w. tries-begun b.made b.busy L name taken action g s.links ls machine k (lt-ltb k SLOTS w) sets (h.tries k w);
  spare = agrees-set b.spare s ls name _ sets touches h.spare;
  actions = came-did b out L action h.actions;
}

abbrev starts : Identity → Times → ℕ → Start
starts own times at = record { own = own; times = times; at = at }

start-is : (b : Base) (out : List Action) (s : State) (L : Log) (times : Times) (at : ℕ) → b.made.limits.times ≡ times → b.now ≡ at → Stands b out s L
    → starts s.own times at ≡ starts (own b.made L) b.made.limits.times (now L)
start-is b out s L times at t n h =
    ap (λ (x : Identity). starts x times at) (sym h.own) ∙ ap (λ (x : Times). starts (own b.made L) x at) (sym t) ∙ ap (λ (x : ℕ). starts (own b.made L) b.made.limits.times x) (sym n ∙ sym h.now)

dials : (name : LinkName) (uri : List ℕ) → Begins name false (Dial name uri)
dials name uri = record { begins = λ other. refl; over = λ other. refl; number = refl }

takes : (name : LinkName) → Begins name true (Take name)
takes name = record { begins = λ other. refl; over = λ other. refl; number = refl }

-- A URI is dialled.
pub dial-stands : (b : Base) (out later : List Action) (s : State) (L : Log) (times : Times) (at : ℕ) (name : LinkName) (uri : List ℕ) (m : Initiating) (ls : Links) (d : Bool)
    → later ≡ out ++ Dial name uri ∷ []
    → Sets s.links ls name (begun (Dialled m) (link_at s.links name)) → Touches s.links ls name → d ≡ cond (same_link name (Hub Failover)) false s.dropped
    → InitiatingStands m (record { own = s.own; times = times; at = at }) []
    → b.made.limits.times ≡ times → b.now ≡ at → Stands b out s L → Stands b later (record s { links = ls; dropped = d }) (L ++ did (Dial name uri) ∷ [])
dial-stands b out later s L times at name uri m ls d o sets touches de stands t n h =
    subst (λ os. Stands b os (record s { links = ls; dropped = d }) (L ++ did (Dial name uri) ∷ [])) (sym o)
    (subst (λ (x : Bool). Stands b (out ++ Dial name uri ∷ []) (record s { links = ls; dropped = x }) (L ++ did (Dial name uri) ∷ [])) (sym de)
    (begin-stands b out s L name false (Dial name uri) (Dialled m) ls (dials name uri) sets touches refl
    (dialled-begun b.made b.busy L name false (Dial name uri) (dials name uri) m refl (subst (λ (x : Start). InitiatingStands m x []) (start-is b out s L times at t n h) stands)) h))

-- A link that arrived is taken for a slot.
pub take-stands : (b : Base) (out later : List Action) (s : State) (L : Log) (times : Times) (at k : ℕ) (m : Accepting) (ls : Links) → later ≡ out ++ Take (Direct k) ∷ []
    → Sets s.links ls (Direct k) (begun (Taken m) (link_at s.links (Direct k))) → Touches s.links ls (Direct k) → AcceptingStands m (record { own = s.own; times = times; at = at }) []
    → b.made.limits.times ≡ times → b.now ≡ at → Stands b out s L → Stands b later (record s { links = ls }) (L ++ did (Take (Direct k)) ∷ [])
take-stands b out later s L times at k m ls o sets touches stands t n h =
    subst (λ os. Stands b os (record s { links = ls }) (L ++ did (Take (Direct k)) ∷ [])) (sym o)
    (begin-stands b out s L (Direct k) true (Take (Direct k)) (Taken m) ls (takes (Direct k)) sets touches refl
    (taken-machine-begun b.made b.busy L (Direct k) true (Take (Direct k)) (takes (Direct k)) m refl refl (subst (λ (x : Start). AcceptingStands m x []) (start-is b out s L times at t n h) stands)) h)
