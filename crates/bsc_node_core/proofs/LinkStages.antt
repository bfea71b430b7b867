-- What is kept of a link says whether it is under way, and whether it is open.
-- It serves the clauses of `is_dialling` and `is_open`.
use Rattle.std.proofs.Common.{◌≡◌, Bool, true, false, not, ◌&&◌, ◌||◌, List, Option, Some, None, refl, ap, sym, ◌∙◌, subst}
use Rattle.std.specs.Prelude.{is_some, is_none, if◌then◌else◌}
use Rattle.std.specs.Option.{option_and_then}
use Rattle.bsc_connector.specs.Back.{first_of}
use Rattle.bsc_initiate.specs.declared.event.InitEvent.{InitEvent}
use Rattle.bsc_initiate.specs.declared.initiating.Initiating.{Initiating}
use Rattle.bsc_initiate.specs.declared.stage.Stage.{Stage}
use Rattle.bsc_initiate.specs.declared.stage.Stage.TheVariants.{Idle}
use Rattle.bsc_initiate.specs.Past.{Standing, awaiting_websocket, awaiting_accept, connected, disconnecting, standing, phase_named, heartbeat_was_put}
use Rattle.bsc_initiate.specs.Standing.{has_closed, open_stage, is_open, phase_at, phase_of}
use Rattle.bsc_node.specs.declared.link_name.LinkName.{LinkName}
use Rattle.bsc_node.specs.Logs.{Made, Log}
use Rattle.bsc_node.specs.Links.{is_there, was_taken, start, initiating_events, request, accepts_by}
use Rattle.bsc_node.specs.Conditions.{has_opened, is_dialling}
use Rattle.bsc_node.specs.Conditions as Conditions
use Rattle.bsc_node_core.specs.declared.link.Link.{Link}
use Rattle.bsc_node_core.specs.declared.machine.Machine.{Machine}
use Rattle.bsc_node_core.specs.declared.machine.Machine.TheVariants.{Gone, Over, Dialled, Taken, Asked}
use Rattle.bsc_node_core.specs.Machines.{is_fit, says_there, says_dialling, says_open}
use Rattle.bsc_node_core.specs.Standing.{AcceptStands, LinkStands, MachineStands}
use Rattle.bsc_node_core.specs.Tables.{Kept, kept_of}

-- ---- the WebSocket of a link that was dialled

-- the phase is that of the events
named : (b : Bool) (g : Standing) (put : Bool) (waits : Stage) → is_open waits ≡ true → waits ≡ (if b then Idle else open_stage g put) → phase_at waits ≡ phase_named g
named true g put waits o e = (let bad : false ≡ true = sym (ap is_open e) ∙ o in cc)
named false g put waits o e = ap phase_at e ∙ by g
  where
    by : (g : Standing) → phase_at (open_stage g put) ≡ phase_named g
    by awaiting_websocket = refl
    by (awaiting_accept id) = refl
    by connected = refl
    by (disconnecting f) = refl

some_first : {A B : Type 0} (f : A → Option B) (o : Option A) → is_some (option_and_then f o) ≡ true → is_some o ≡ true
some_first f None e = cc
some_first f (Some x) e = refl

requested : (g : Standing) (E : List InitEvent) → AcceptStands g E → is_some (phase_named g) ≡ is_some (request E)
requested awaiting_websocket E s = sym (ap is_some s.0)
requested (awaiting_accept id) E s = sym (ap is_some s.0)
requested connected E s = sym (some_first (λ id. first_of (accepts_by id) E) (request E) s)
requested (disconnecting f) E s = sym (some_first (λ id. first_of (accepts_by id) E) (request E) s)

none_not : {A : Type 0} (o : Option A) → is_none o ≡ not (is_some o)
none_not None = refl
none_not (Some x) = refl

-- ---- by its machine

module _ (a : Made) (L : Log) (name : LinkName) where
  opened : (m : Initiating) → MachineStands a None L name (Dialled m) → is_open m.stage ≡ true → is_some (phase_of m) ≡ has_opened name L
  opened m s fit =
      let E = initiating_events L name in
      ap is_some (named (has_closed (start a L name) E) (standing E) (heartbeat_was_put (start a L name) E) m.stage fit s.machine.stage)
      ∙ requested (standing E) E s.accept

  dialling_by : (m : Machine) → is_there name L ≡ says_there m → MachineStands a None L name m → is_fit m ≡ true → says_dialling m ≡ is_dialling name L
  dialling_by Gone there s fit = sym (ap (λ b. b && not (was_taken name L) && not (has_opened name L)) there)
  dialling_by Over there s fit = cc
  dialling_by (Dialled m) there s fit =
      none_not (phase_of m) ∙ ap not (opened m s fit)
      ∙ sym (ap (λ b. b && not (was_taken name L) && not (has_opened name L)) there ∙ ap (λ b. not b && not (has_opened name L)) s.dialled)
  dialling_by (Taken m) there s fit = sym (ap (λ b. b && not (was_taken name L) && not (has_opened name L)) there ∙ ap (λ b. not b && not (has_opened name L)) s.taken)
  dialling_by (Asked m) there s fit = (let bad = s.1 in cc)

  open_by : (m : Machine) → is_there name L ≡ says_there m → MachineStands a None L name m → is_fit m ≡ true → says_open m ≡ Conditions.is_open name L
  open_by Gone there s fit = sym (ap (λ b. b && (was_taken name L || has_opened name L)) there)
  open_by Over there s fit = cc
  open_by (Dialled m) there s fit = opened m s fit ∙ sym (ap (λ b. b && (was_taken name L || has_opened name L)) there ∙ ap (λ b. b || has_opened name L) s.dialled)
  open_by (Taken m) there s fit = sym (ap (λ b. b && (was_taken name L || has_opened name L)) there ∙ ap (λ b. b || has_opened name L) s.taken)
  open_by (Asked m) there s fit = (let bad = s.1 in cc)

  -- What is kept of a link says whether it is under way, and whether it is open.
  pub dialling_kept : (l : Link) (k : Kept) → kept_of l ≡ k → LinkStands a None L name k → says_dialling l.machine ≡ is_dialling name L
  dialling_kept l k same s =
      let at : LinkStands a None L name (kept_of l) = subst (LinkStands a None L name) (sym same) s in
      dialling_by l.machine at.there at.machine l.fit

  pub open_kept : (l : Link) (k : Kept) → kept_of l ≡ k → LinkStands a None L name k → says_open l.machine ≡ Conditions.is_open name L
  open_kept l k same s =
      let at : LinkStands a None L name (kept_of l) = subst (LinkStands a None L name) (sym same) s in
      open_by l.machine at.there at.machine l.fit
