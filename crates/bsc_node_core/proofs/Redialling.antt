-- What the connector's newest step brings about, line by line.
-- It serves the clauses of `tell_connector` and `tell_use`.
use Rattle.std.proofs.Common.{◌≡◌, Bool, true, false, not, List, [], ◌∷◌, ◌++◌, refl, ap, sym, ◌∙◌}
use Rattle.std.specs.Prelude.{unwrap_or}
use Rattle.std.proofs.lemmas.List.{append-nil}
use Rattle.bsc_accept.specs.Steps.{normal}
use Rattle.bsc_connector.specs.declared.side.Side.TheVariants.{Primary, Failover}
use Rattle.bsc_connector.specs.declared.hub_use.HubUse.{HubUse}
use Rattle.bsc_connector.specs.declared.hub_use.HubUse.TheVariants.{NoHub}
use Rattle.bsc_connector.specs.declared.event.ConnectorEvent.{ConnectorEvent}
use Rattle.bsc_connector.specs.declared.event.HubEvent.{HubEvent}
use Rattle.bsc_connector.specs.Back.{at_last}
use Rattle.bsc_connector.specs.Sides as Sides
use Rattle.bsc_connector.specs.Steps.{connector_step}
use Rattle.bsc_node.specs.declared.link_name.LinkName.TheVariants.{Hub}
use Rattle.bsc_node.specs.declared.note.Note.TheVariants.{HubNow}
use Rattle.bsc_node.specs.declared.action.Action.{Action}
use Rattle.bsc_node.specs.declared.action.Action.TheVariants.{Tell, Dial, Close}
use Rattle.bsc_node.specs.Logs.{Made, connector, did, Log, Rule, now, nothing, if_so, in_order, when, does, tells}
use Rattle.bsc_node.specs.Links.{is_there}
use Rattle.bsc_node.specs.Hubs.{waits, hub_event_of, hub_events, hub_use, hub_use_before, newest_step, no_step, told, same_use}
use Rattle.bsc_node.specs.Ending.{dials, dials_primary, dials_failover, tells_use}
use Rattle.bsc_node.proofs.Told.{at_last-more}
use Rattle.bsc_node_core.specs.declared.state.State.{State}
use Rattle.bsc_node_core.specs.Standing.{Base, Stands}
use Rattle.bsc_node_core.proofs.More.{filter-one_more}
use Rattle.bsc_node_core.proofs.Asking.{two-in-order}
use Rattle.bsc_node_core.proofs.Branching.{when-so, when-not}
use Rattle.bsc_node_core.proofs.Wants.{told-stands}
use Rattle.bsc_node.proofs.Common.{hub_events-kept}

-- ---- what tells the connector nothing

-- By the rule the connector is told nothing.
abbrev TellsNoConnector : Rule → Type 0
TellsNoConnector rule = (L : Log) → hub_events (L ++ rule L) ≡ hub_events L

silent-does : (action : Action) → TellsNoConnector (does action)
silent-does action L = hub_events-kept L (did action) refl

silent-when : (test : Log → Bool) (rule : Rule) → TellsNoConnector rule → TellsNoConnector (when test rule)
silent-when test rule r L = by (test L)
  where
    by : (b : Bool) → hub_events (L ++ if_so b rule nothing L) ≡ hub_events L
    by true = r L
    by false = ap hub_events (append-nil L)

silent-two : (first second : Rule) → TellsNoConnector first → TellsNoConnector second → TellsNoConnector (in_order (first ∷ second ∷ []))
silent-two first second f g L = two-in-order (λ M. hub_events M ≡ hub_events L) L first second (g (L ++ first L) ∙ f L)

pub silent-primary : (a : Made) → TellsNoConnector (dials_primary a)
silent-primary a = silent-when (dials a Primary) (does (Dial (Hub Primary) a.limits.primary)) (silent-does (Dial (Hub Primary) a.limits.primary))

pub silent-failover : (a : Made) → TellsNoConnector (dials_failover a)
silent-failover a =
    let closes : Rule = when (is_there (Hub Failover)) (does (Close (Hub Failover) normal)) in
    let dial : Rule = does (Dial (Hub Failover) (unwrap_or a.limits.failover [])) in
    silent-when (dials a Failover) (in_order (closes ∷ dial ∷ []))
    (silent-two closes dial
    (silent-when (is_there (Hub Failover)) (does (Close (Hub Failover) normal)) (silent-does (Close (Hub Failover) normal)))
    (silent-does (Dial (Hub Failover) (unwrap_or a.limits.failover []))))

pub silent-use : TellsNoConnector tells_use
silent-use L =
    silent-when (λ M. not (same_use (hub_use_before M) (hub_use M))) (tells (HubNow (hub_use L))) (silent-does (Tell (HubNow (hub_use L)))) L

-- Its newest step and the hub that was in use before stay the same.
pub step-kept : (a : Made) (rule : Rule) (L : Log) → TellsNoConnector rule → newest_step a (L ++ rule L) ≡ newest_step a L
step-kept a rule L k = ap (at_last (connector_step (waits a)) no_step) (k L)

pub use_before-kept : (rule : Rule) (L : Log) → TellsNoConnector rule → hub_use_before (L ++ rule L) ≡ hub_use_before L
use_before-kept rule L k = ap (at_last (λ (E : List HubEvent) (e : HubEvent). Sides.hub_use E) NoHub) (k L)

-- Before the connector was told something the hub in use was that before this line.
pub use_before-told : (L : Log) (event : ConnectorEvent) → hub_use_before (L ++ told event L) ≡ hub_use L
use_before-told L event =
    let e : HubEvent = record { now = now L; event = event } in
    ap (at_last (λ (E : List HubEvent) (x : HubEvent). Sides.hub_use E) NoHub) (filter-one_more hub_event_of L (connector e) e refl)
    ∙ at_last-more (λ (E : List HubEvent) (x : HubEvent). Sides.hub_use E) NoHub (hub_events L) e

-- ---- the dials

-- ---- the hub in use

use-tested : (L : Log) (before used : HubUse) → hub_use_before L ≡ before → used ≡ hub_use L → same_use (hub_use_before L) (hub_use L) ≡ same_use before used
use-tested L before used p q = ap (λ (u : HubUse). same_use u (hub_use L)) p ∙ ap (λ (u : HubUse). same_use before u) (sym q)

-- A change is told.
pub use-told : (b : Base) (out later : List Action) (s : State) (L : Log) (before used : HubUse) → hub_use_before L ≡ before → used ≡ hub_use L → same_use before used ≡ false
    → later ≡ out ++ Tell (HubNow used) ∷ []
    → Stands b out s L → Stands b later s (L ++ tells_use L)
use-told b out later s L before used p q n t h =
    when-so (λ M. Stands b later s M) L (λ M. not (same_use (hub_use_before M) (hub_use M))) (tells (HubNow (hub_use L))) (ap not (use-tested L before used p q ∙ n))
    (told-stands b out later s L _ (HubNow used) t (ap (λ (u : HubUse). did (Tell (HubNow u)) ∷ []) (sym q)) h)

-- Else nothing is.
pub use-kept : (b : Base) (out : List Action) (s : State) (L : Log) (before used : HubUse) → hub_use_before L ≡ before → used ≡ hub_use L → same_use before used ≡ true → Stands b out s L
    → Stands b out s (L ++ tells_use L)
use-kept b out s L before used p q e h =
    when-not (λ M. Stands b out s M) L (λ M. not (same_use (hub_use_before M) (hub_use M))) (tells (HubNow (hub_use L))) (ap not (use-tested L before used p q ∙ e)) h
