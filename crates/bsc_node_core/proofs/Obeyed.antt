-- What a node keeps goes on standing for its log, where a step of a link's machine is obeyed.
-- It serves the clauses of `apply_step`.
use Rattle.std.proofs.Common.{◌≡◌, ◌⊎◌, inl, inr, ℕ, List, [], ◌∷◌, ◌++◌, Option, None, sym, subst}
use Rattle.std.proofs.lemmas.List.{append-nil}
use Rattle.bsc_octets.specs.declared.vmac.Vmac.{Vmac}
use Rattle.bsc_octets.specs.declared.identity.Identity.{Identity}
use Rattle.bsc_frame.specs.declared.message.Message.{Message}
use Rattle.bsc_accept.specs.declared.closing.Closing.{Closing}
use Rattle.bsc_initiate.specs.declared.step.InitStep.{InitStep}
use Rattle.bsc_initiate.specs.declared.step.InitStep.TheVariants.{Up, Nothing}
use Rattle.bsc_node.specs.declared.link_name.LinkName.{LinkName}
use Rattle.bsc_node.specs.declared.action.Action.{Action}
use Rattle.bsc_node.specs.declared.action.Action.TheVariants.{Put, Close}
use Rattle.bsc_node.specs.Logs.{did, Log, does}
use Rattle.bsc_node.specs.Links.{Outcome, puts, puts_and_closes, closes, meets, is_refused, keeps_still}
use Rattle.bsc_node.specs.Ending.{ends, closes_link}
use Rattle.bsc_node.specs.Meeting.{meets_peer, is_refused_by}
use Rattle.bsc_node.specs.Events.{obeys_by, obeys}
use Rattle.bsc_node_core.specs.declared.state.State.{State}
use Rattle.bsc_node_core.specs.Rules.{outcome_of}
use Rattle.bsc_node_core.specs.Standing.{Base, Stands}
use Rattle.bsc_node_core.specs.Telling.{busy_with, HasTold}
use Rattle.bsc_node_core.proofs.Carrying.{regrouped}
use Rattle.bsc_node_core.proofs.Settling.{settles}

-- What was told has the outcome of the step.
pub told-by : (b : Base) (out : List Action) (s : State) (L : Log) (name : LinkName) (origin : Option Vmac) (msg : Option Message) (step d : InitStep) → step ≡ d
    → HasTold b out s L name (outcome_of origin msg step)
    → HasTold b out s L name (outcome_of origin msg d)
told-by b out s L name origin msg step d e told = subst (λ (x : InitStep). HasTold b out s L name (outcome_of origin msg x)) e told

-- What follows from the newest step, once what follows from this outcome came about.
obeyed : (b : Base) (out out' : List Action) (s s' : State) (L : Log) (name : LinkName) (u : Outcome) → HasTold b out s L name u → Stands b out' s' (L ++ obeys_by b.made name u L)
    → Stands b out' s' (L ++ obeys b.made name L)
obeyed b out out' s s' L name u told h = subst (λ (x : Outcome). Stands b out' s' (L ++ obeys_by b.made name x L)) (sym told.newest) h

-- A message is put.
pub obeyed-put : (b : Base) (out out' : List Action) (s s' : State) (L : Log) (name : LinkName) (o : List ℕ) → b.busy ≡ None → HasTold b out s L name (puts o)
    → (Stands b out s L → Stands b out' s' (L ++ did (Put name o) ∷ [])) → Stands b out' s' (L ++ obeys b.made name L)
obeyed-put b out out' s s' L name o none told goes = obeyed b out out' s s' L name (puts o) told (goes (settles b out s L name none told.left told.stands))

-- A message is put, and the link is closed.
pub obeyed-put-closed : (b : Base) (out put out' : List Action) (s between s' : State) (L : Log) (name : LinkName) (o : List ℕ) (closing : Closing) → HasTold b out s L name (puts_and_closes o closing)
    → (Stands (busy_with name b) out s L → Stands (busy_with name b) put between (L ++ did (Put name o) ∷ []))
    → (Stands (busy_with name b) put between (L ++ did (Put name o) ∷ []) → Stands b out' s' ((L ++ did (Put name o) ∷ []) ++ closes_link b.made name closing (L ++ did (Put name o) ∷ [])))
    → Stands b out' s' (L ++ obeys b.made name L)
obeyed-put-closed b out put out' s between s' L name o closing told goes ends_it =
    obeyed b out out' s s' L name (puts_and_closes o closing) told
    (subst (λ (M : Log). Stands b out' s' M) (regrouped L (does (Put name o)) (does (Close name closing)) (ends b.made name)) (ends_it (goes told.stands)))

-- The link is closed.
pub obeyed-closed : (b : Base) (out out' : List Action) (s s' : State) (L : Log) (name : LinkName) (closing : Closing) → HasTold b out s L name (closes closing)
    → (Stands (busy_with name b) out s L → Stands b out' s' (L ++ closes_link b.made name closing L)) → Stands b out' s' (L ++ obeys b.made name L)
obeyed-closed b out out' s s' L name closing told goes = obeyed b out out' s s' L name (closes closing) told (goes told.stands)

-- A peer has named itself.
pub obeyed-met : (b : Base) (out out' : List Action) (s s' : State) (L : Log) (name : LinkName) (who : Identity) → HasTold b out s L name (meets who)
    → (HasTold b out s L name (meets who) → Stands b out' s' (L ++ meets_peer b.made name who L)) → Stands b out' s' (L ++ obeys b.made name L)
obeyed-met b out out' s s' L name who told goes = obeyed b out out' s s' L name (meets who) told (goes told)

-- A peer refused.
pub obeyed-refused : (b : Base) (out out' : List Action) (s s' : State) (L : Log) (name : LinkName) (origin : Option Vmac) (code : ℕ) → HasTold b out s L name (is_refused origin code)
    → (Stands (busy_with name b) out s L → Stands b out' s' (L ++ is_refused_by b.made name origin code L)) → Stands b out' s' (L ++ obeys b.made name L)
obeyed-refused b out out' s s' L name origin code told goes = obeyed b out out' s s' L name (is_refused origin code) told (goes told.stands)

-- Nothing follows.
obeyed-still : (b : Base) (out : List Action) (s : State) (L : Log) (name : LinkName) → b.busy ≡ None → HasTold b out s L name keeps_still → Stands b out s (L ++ obeys b.made name L)
obeyed-still b out s L name none told =
    obeyed b out out s s L name keeps_still told (subst (λ (M : Log). Stands b out s M) (sym (append-nil L)) (settles b out s L name none told.left told.stands))

passed-still : (b : Base) (out : List Action) (s : State) (L : Log) (name : LinkName) (origin : Option Vmac) (msg : Option Message) → msg ≡ None → HasTold b out s L name (outcome_of origin msg Up)
    → HasTold b out s L name keeps_still
passed-still b out s L name origin msg e told = subst (λ (m : Option Message). HasTold b out s L name (outcome_of origin m Up)) e told

-- A message that doesn't come is passed up, or the step is nothing to the node.
pub obeyed-nothing : (b : Base) (out : List Action) (s : State) (L : Log) (name : LinkName) (origin : Option Vmac) (msg : Option Message) (step : InitStep) → b.busy ≡ None → (step ≡ Up → msg ≡ None)
    → HasTold b out s L name (outcome_of origin msg step) → (step ≡ Up) ⊎ (step ≡ Nothing) → Stands b out s (L ++ obeys b.made name L)
obeyed-nothing b out s L name origin msg step none p told (inl e) = obeyed-still b out s L name none (passed-still b out s L name origin msg (p e) (told-by b out s L name origin msg step Up e told))
obeyed-nothing b out s L name origin msg step none p told (inr e) = obeyed-still b out s L name none (told-by b out s L name origin msg step Nothing e told)
