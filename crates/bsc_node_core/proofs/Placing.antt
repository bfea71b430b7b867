-- The place of a message that comes over a link is that of the log.
-- It serves the clauses of `verdict`.
use Rattle.std.proofs.Common.{◌≡◌, ℕ, Bool, true, ◌||◌, List, Option, None, unwrap_or, refl, ap, sym, ◌∙◌}
use Rattle.std.specs.Option.{option_map}
use Rattle.std.proofs.lemmas.Bool.{false≢true}
use Rattle.bsc_octets.specs.declared.vmac.Vmac.{Vmac}
use Rattle.bsc_octets.specs.declared.identity.Identity.{Identity}
use Rattle.bsc_checks.specs.declared.phase.Phase.{Phase}
use Rattle.bsc_checks.specs.declared.phase.Phase.TheVariants.{AwaitingAccept as PhaseAccept}
use Rattle.bsc_checks.specs.declared.place.Place.{Place}
use Rattle.bsc_checks.specs.declared.place.Place.TheVariants.{NodeHub, NodeDirect}
use Rattle.bsc_checks.specs.Outcomes.{outcome_of}
use Rattle.bsc_accept.specs.declared.stage.Stage.{Stage as TakenStage}
use Rattle.bsc_accept.specs.declared.stage.Stage.TheVariants.{AwaitingRequest, Asked as TakenAsked, Connected as TakenConnected, Disconnecting as TakenDisconnecting, Idle as TakenIdle}
use Rattle.bsc_accept.specs.Past as A
use Rattle.bsc_accept.specs.Kept as AK
use Rattle.bsc_accept.specs.Standing as AN
use Rattle.bsc_accept.proofs.Following as AF
use Rattle.bsc_initiate.specs.declared.stage.Stage.{Stage}
use Rattle.bsc_initiate.specs.declared.stage.Stage.TheVariants.{AwaitingWebsocket, AwaitingAccept, Connected, Disconnecting, Idle}
use Rattle.bsc_initiate.specs.Past as I
use Rattle.bsc_initiate.specs.Kept as IK
use Rattle.bsc_initiate.specs.Standing as IN
use Rattle.bsc_initiate.proofs.Following as IF
use Rattle.bsc_node.specs.declared.link_name.LinkName.{LinkName}
use Rattle.bsc_node.specs.declared.link_name.LinkName.TheVariants.{Hub, Direct}
use Rattle.bsc_node.specs.declared.action.Action.{Action}
use Rattle.bsc_node.specs.Logs.{Made, Log, own_vmac}
use Rattle.bsc_node.specs.Links.{is_there, was_taken, start, initiating_events, accepting_events, peer, phase_by, phase, place, verdict}
use Rattle.bsc_node.specs.Conditions.{is_open, has_opened}
use Rattle.bsc_node_core.specs.declared.machine.Machine.{Machine}
use Rattle.bsc_node_core.specs.declared.machine.Machine.TheVariants.{Gone, Over, Dialled, Taken, Asked}
use Rattle.bsc_node_core.specs.declared.state.State.{State}
use Rattle.bsc_node_core.specs.Machines.{says_there, is_fit, is_at_rest, phase_kept}
use Rattle.bsc_node_core.specs.Tables.{Kept, link_at, is_name, place_kept}
use Rattle.bsc_node_core.specs.Standing.{Base, MachineStands, Stands}
use Rattle.bsc_node_core.proofs.Settling.{at-rest}
use Rattle.bsc_lemmas.proofs.Booleans.{and_left}

phase-dialled : (waits : Stage) → IN.phase_at waits ≡ I.phase_named (IK.standing_at waits)
phase-dialled AwaitingWebsocket = refl
phase-dialled (AwaitingAccept id) = refl
phase-dialled (Connected put) = refl
phase-dialled (Disconnecting f) = refl
phase-dialled Idle = refl

phase-taken : (waits : TakenStage) → AN.phase_at waits ≡ A.phase_named (AK.standing_at waits)
phase-taken AwaitingRequest = refl
phase-taken (TakenAsked id) = refl
phase-taken TakenConnected = refl
phase-taken (TakenDisconnecting f) = refl
phase-taken TakenIdle = refl

-- The phase of a link that is there and at rest.
phase-is : (a : Made) (busy : Option LinkName) (L : Log) (name : LinkName) (machine : Machine) → is_at_rest machine ≡ true → says_there machine ≡ true → is_fit machine ≡ true
    → MachineStands a busy L name machine → phase_kept machine ≡ phase L name
phase-is a busy L name Gone r t f h = absurd (false≢true t)
phase-is a busy L name Over r t f h = absurd (false≢true r)
phase-is a busy L name (Dialled m) r t f h =
    ap (λ o. unwrap_or o PhaseAccept) (phase-dialled m.stage ∙ ap I.phase_named (sym (IF.standing_of_open m (start a L name) (initiating_events L name) h.machine f)))
    ∙ ap (λ (taken : Bool). phase_by taken L name) (sym h.dialled)
phase-is a busy L name (Taken m) r t f h =
    phase-taken m.stage ∙ ap A.phase_named (sym (AF.standing_of_open m (start a L name) (accepting_events L name) h.machine f))
    ∙ ap (λ (taken : Bool). phase_by taken L name) (sym h.taken)
phase-is a busy L name (Asked m) r t f h = absurd (false≢true r)

place-by : (own : Vmac) (a : Made) (L : Log) (name : LinkName) (l : Kept) → own ≡ own_vmac a L → phase_kept l.machine ≡ phase L name → peer L name ≡ l.peer → place_kept own name l ≡ place a L name
place-by own a L (Hub s) l o p e = ap (λ (v : Vmac). NodeHub v (phase_kept l.machine)) o ∙ ap (λ (x : Phase). NodeHub (own_vmac a L) x) p
place-by own a L (Direct k) l o p e =
    ap (λ (v : Vmac). NodeDirect v (option_map (λ (who : Identity). who.vmac) l.peer) (phase_kept l.machine)) o
    ∙ ap (λ (who : Option Identity). NodeDirect (own_vmac a L) (option_map (λ (x : Identity). x.vmac) who) (phase_kept l.machine)) (sym e)
    ∙ ap (λ (x : Phase). NodeDirect (own_vmac a L) (option_map (λ (who : Identity). who.vmac) (peer L (Direct k))) x) p

-- The place of a message that comes over a link that is open.
pub place-is : (b : Base) (out : List Action) (s : State) (L : Log) (name : LinkName) → b.busy ≡ None → is_name name ≡ true → is_open name L ≡ true
    → is_fit (link_at s.links name).machine ≡ true → Stands b out s L
    → place_kept s.own.vmac name (link_at s.links name) ≡ place b.made L name
place-is b out s L name none n o f h =
    let l = h.links name n in
    place-by s.own.vmac b.made L name (link_at s.links name) (sym (ap (λ (who : Identity). who.vmac) h.own))
    (phase-is b.made b.busy L name (link_at s.links name).machine (at-rest b out s L name none n h)
    (sym l.there ∙ and_left (is_there name L) (was_taken name L || has_opened name L) o) f l.machine) l.peer

-- And its verdict.
pub verdict-is : (b : Base) (out : List Action) (s : State) (L : Log) (name : LinkName) (o : List ℕ) → place_kept s.own.vmac name (link_at s.links name) ≡ place b.made L name → Stands b out s L
    → outcome_of o (place_kept s.own.vmac name (link_at s.links name)) s.own.max_bvlc ≡ verdict b.made L name o
verdict-is b out s L name o p h =
    ap (λ (x : Place). outcome_of o x s.own.max_bvlc) p ∙ ap (λ (who : Identity). outcome_of o (place b.made L name) who.max_bvlc) (sym h.own)
