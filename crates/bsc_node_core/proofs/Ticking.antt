-- What a node keeps goes on standing for its log, where a link's machine is told something and that is obeyed.
-- It serves the clauses of `obey_heard`, `open` and `tick_link`.
use Rattle.std.proofs.Common.{◌≡◌, true, false, not, List, [], ◌∷◌, ◌++◌, Option, Some, None, ap, sym, ◌∙◌, subst}
use Rattle.std.proofs.lemmas.Bool.{false≢true}
use Rattle.std.proofs.lemmas.List.{append-nil}
use Rattle.bsc_octets.specs.Addresses.{broadcast, same_vmac}
use Rattle.bsc_octets.specs.declared.identity.Identity.{Identity}
use Rattle.bsc_octets.specs.declared.vmac.Vmac.{Vmac}
use Rattle.bsc_frame.specs.declared.message.Message.{Message}
use Rattle.bsc_initiate.specs.declared.event.InitEvent.TheVariants.{Opened}
use Rattle.bsc_resolve.specs.declared.resolve.Resolve.{Resolve}
use Rattle.bsc_resolve.specs.Standing.{ResolveStands}
use Rattle.bsc_node.specs.declared.link_name.LinkName.{LinkName}
use Rattle.bsc_node.specs.declared.action.Action.{Action}
use Rattle.bsc_node.specs.Logs.{Made, Log, in_order, now, next_id}
use Rattle.bsc_node.specs.Links.{Outcome, meets, passes_up, keeps_still, is_there, was_taken, opens, ticks, outcome}
use Rattle.bsc_node.specs.Ways.{resolve_calls}
use Rattle.bsc_node.specs.Conditions.{is_dialling, has_opened}
use Rattle.bsc_node.specs.Receiving.{takes_up}
use Rattle.bsc_node.specs.Events.{obeys_by, obeys, ticks_link}
use Rattle.bsc_node.proofs.Calm.{is_calm}
use Rattle.bsc_node.proofs.Quiet.{calm-ticked}
use Rattle.bsc_node.proofs.Told.{outcome-initiating}
use Rattle.bsc_initiate.specs.declared.step.InitStep.{InitStep}
use Rattle.bsc_initiate.specs.declared.step.InitStep.TheVariants.{Up}
use Rattle.bsc_node_core.specs.declared.state.State.{State}
use Rattle.bsc_node_core.specs.Resolving.{BothStand, asked_by}
use Rattle.bsc_node_core.specs.Rules.{outcome_of}
use Rattle.bsc_node_core.specs.Standing.{Base, Stands}
use Rattle.bsc_node_core.specs.Telling.{HasTold}
use Rattle.bsc_node_core.proofs.Asking.{both-still, two-in-order}
use Rattle.bsc_node_core.proofs.Branching.{when-so}
use Rattle.bsc_node_core.proofs.Settling.{settles}
use Rattle.bsc_lemmas.proofs.Booleans.{second_of_three_not as dialled-by}

-- ---- no peer names itself by a tick, nor where the WebSocket opens

unmet : (u : Outcome) (who : Identity) → is_calm u ≡ true → u ≡ meets who → same_vmac who.vmac broadcast ≡ false
unmet u who c e = absurd (false≢true (sym (ap is_calm e) ∙ c))

pub unmet-ticked : (a : Made) (name : LinkName) (L : Log) (who : Identity) → outcome a (L ++ ticks name L) name ≡ meets who → same_vmac who.vmac broadcast ≡ false
unmet-ticked a name L who e = unmet (outcome a (L ++ ticks name L) name) who (calm-ticked a name L) e

pub unmet-opened : (a : Made) (name : LinkName) (L : Log) (who : Identity) → is_dialling name L ≡ true → outcome a (L ++ opens name L) name ≡ meets who → same_vmac who.vmac broadcast ≡ false
unmet-opened a name L who d e =
    unmet (outcome a (L ++ opens name L) name) who (ap is_calm (outcome-initiating a L name (Opened (now L) (next_id L))
    (dialled-by (is_there name L) (was_taken name L) (not (has_opened name L)) d))) e

-- ---- time

pub ticked : (b : Base) (out : List Action) (s : State) (L : Log) (name : LinkName) → is_there name L ≡ true → Stands b out s ((L ++ ticks name L) ++ obeys b.made name (L ++ ticks name L))
    → Stands b out s (L ++ ticks_link b.made name L)
ticked b out s L name t h =
    when-so (Stands b out s) L (is_there name) (in_order (ticks name ∷ obeys b.made name ∷ [])) t (two-in-order (Stands b out s) L (ticks name) (obeys b.made name) h)

-- ---- a message

-- A message is for the node.
pub heard-up : (b : Base) (out out' : List Action) (s s' : State) (r r' : Resolve) (L M : Log) (name : LinkName) (origin : Option Vmac) (passed : Option Message) (step : InitStep)
    (msg : Message) → step ≡ Up → passed ≡ Some msg
    → b.busy ≡ None → ResolveStands r b.made.limits.times.connect_wait (resolve_calls L) → HasTold (asked_by L b) out s M name (outcome_of origin passed step)
    → (BothStand b out s r M → BothStand b out' s' r' (M ++ takes_up b.made name msg M)) → BothStand b out' s' r' (M ++ obeys b.made name M)
heard-up b out out' s s' r r' L M name origin passed step msg d p none h told goes =
    subst (λ (u : Outcome). BothStand b out' s' r' (M ++ obeys_by b.made name u M)) (sym up.newest)
    (goes (both-still b out s r L M h (settles (asked_by L b) out s M name none up.left up.stands)))
  where
    up : HasTold (asked_by L b) out s M name (passes_up msg)
    up = subst (λ (x : Option Message). HasTold (asked_by L b) out s M name (outcome_of origin x Up)) p
        (subst (λ (x : InitStep). HasTold (asked_by L b) out s M name (outcome_of origin passed x)) d told)

-- Nothing passed.
pub heard-nothing : (b : Base) (out : List Action) (s : State) (r : Resolve) (L M : Log) (name : LinkName) (origin : Option Vmac) (passed : Option Message) (step : InitStep) → step ≡ Up
    → passed ≡ None
    → b.busy ≡ None → ResolveStands r b.made.limits.times.connect_wait (resolve_calls L) → HasTold (asked_by L b) out s M name (outcome_of origin passed step)
    → BothStand b out s r (M ++ obeys b.made name M)
heard-nothing b out s r L M name origin passed step d p none h told =
    subst (λ (u : Outcome). BothStand b out s r (M ++ obeys_by b.made name u M)) (sym still.newest)
    (subst (λ (N : Log). BothStand b out s r N) (sym (append-nil M)) (both-still b out s r L M h (settles (asked_by L b) out s M name none still.left still.stands)))
  where
    still : HasTold (asked_by L b) out s M name keeps_still
    still = subst (λ (x : Option Message). HasTold (asked_by L b) out s M name (outcome_of origin x Up)) p
        (subst (λ (x : InitStep). HasTold (asked_by L b) out s M name (outcome_of origin passed x)) d told)

-- What a step is, with the address and the message.
pub told-with : (b : Base) (out : List Action) (s : State) (M : Log) (name : LinkName) (origin from : Option Vmac) (passed msg : Option Message) (step : InitStep) → from ≡ origin
    → msg ≡ passed → HasTold b out s M name (outcome_of origin passed step)
    → HasTold b out s M name (outcome_of from msg step)
told-with b out s M name origin from passed msg step o p h =
    subst (λ (x : Option Vmac). HasTold b out s M name (outcome_of x msg step)) (sym o) (subst (λ (x : Option Message). HasTold b out s M name (outcome_of origin x step)) (sym p) h)
