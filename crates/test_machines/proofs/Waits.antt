-- What a machine waits for, by the tests on it and by the words of its calls.
use Rattle.std.proofs.Common.{◌≡◌, ℕ, true, Some, is_none, refl, ap, sym}
use Rattle.std.proofs.lemmas.Bool.{false≢true}
use Rattle.bsc_checks.specs.declared.phase.Phase.TheVariants.{Connected as PhaseConnected}
use Rattle.bsc_accept.specs.declared.stage.Stage.{Stage}
use Rattle.bsc_accept.specs.declared.stage.Stage.TheVariants.{AwaitingRequest, Asked, Connected, Disconnecting, Idle}
use Rattle.bsc_accept.specs.declared.accepting.Accepting.{Accepting}
use Rattle.bsc_accept.specs.declared.step.Step.{Step}
use Rattle.bsc_accept.specs.declared.step.Step.TheVariants.{Ask, Put, PutClose, Up, Close, Nothing}
use Rattle.bsc_accept.specs.Standing.{AwaitsAnswer, LeavesAccepting, is_open}
use Rattle.bsc_initiate.specs.declared.stage.Stage.{Stage as InitStage}
use Rattle.bsc_initiate.specs.declared.stage.Stage.TheVariants.{AwaitingWebsocket, AwaitingAccept, Connected as InitConnected, Disconnecting as InitDisconnecting, Idle as InitIdle}
use Rattle.bsc_initiate.specs.declared.initiating.Initiating.{Initiating}
use Rattle.bsc_initiate.specs.declared.step.InitStep.{InitStep}
use Rattle.bsc_initiate.specs.declared.step.InitStep.TheVariants.{Put as InitPut, PutClose as InitPutClose, Connected as NowConnected, Refused, Up as InitUp, Close as InitClose}
use Rattle.bsc_initiate.specs.declared.step.InitStep.TheVariants.{Nothing as InitNothing}
use Rattle.bsc_initiate.specs.Standing.{AwaitsWebsocket, LeavesInitiating, is_open as is_open_initiating, phase_at}
use Rattle.test_machines.specs.Waiting.{is_asked, is_unopened, asks, goes_on, init_goes_on}

asked_id : (s : Stage) → is_asked s ≡ true → (id : ℕ) × (s ≡ Asked id)
asked_id (Asked id) e = (id, refl)
asked_id AwaitingRequest e = absurd (false≢true e)
asked_id Connected e = absurd (false≢true e)
asked_id (Disconnecting f) e = absurd (false≢true e)
asked_id Idle e = absurd (false≢true e)

pub asked_awaits : (m : Accepting) → is_asked m.stage ≡ true → AwaitsAnswer m
asked_awaits m e = let found = asked_id m.stage e in record { id = found.0; asked = found.1 }

pub left_asked : (step : Step) (m : Accepting) → LeavesAccepting step m → asks step ≡ true → is_asked m.stage ≡ true
left_asked (Ask who) m h e = ap is_asked h.asked
left_asked (Put octets) m h e = absurd (false≢true e)
left_asked (PutClose octets c) m h e = absurd (false≢true e)
left_asked Up m h e = absurd (false≢true e)
left_asked (Close c) m h e = absurd (false≢true e)
left_asked Nothing m h e = absurd (false≢true e)

pub left_open : (step : Step) (m : Accepting) → LeavesAccepting step m → goes_on step ≡ true → is_open m.stage ≡ true
left_open (Ask who) m h e = absurd (false≢true e)
left_open (Put octets) m h e = h
left_open (PutClose octets c) m h e = absurd (false≢true e)
left_open Up m h e = h
left_open (Close c) m h e = absurd (false≢true e)
left_open Nothing m h e = h

unopened_waits : (s : InitStage) → is_unopened s ≡ true → s ≡ AwaitingWebsocket
unopened_waits AwaitingWebsocket e = refl
unopened_waits (AwaitingAccept id) e = absurd (false≢true e)
unopened_waits (InitConnected put) e = absurd (false≢true e)
unopened_waits (InitDisconnecting f) e = absurd (false≢true e)
unopened_waits InitIdle e = absurd (false≢true e)

pub unopened_awaits : (m : Initiating) → is_unopened m.stage ≡ true → AwaitsWebsocket m
unopened_awaits m e = unopened_waits m.stage e

pub awaits_unopened : (m : Initiating) → AwaitsWebsocket m → is_unopened m.stage ≡ true
awaits_unopened m e = ap is_unopened e

connected_open : (s : InitStage) → phase_at s ≡ Some PhaseConnected → is_open_initiating s ≡ true
connected_open AwaitingWebsocket e = refl
connected_open (AwaitingAccept id) e = refl
connected_open (InitConnected put) e = refl
connected_open (InitDisconnecting f) e = refl
connected_open InitIdle e = absurd (false≢true (sym (ap is_none e)))

pub left_running : (step : InitStep) (m : Initiating) → LeavesInitiating step m → init_goes_on step ≡ true → is_open_initiating m.stage ≡ true
left_running (InitPut octets) m h e = h
left_running (InitPutClose octets c) m h e = absurd (false≢true e)
left_running (NowConnected who) m h e = connected_open m.stage h
left_running (Refused code) m h e = absurd (false≢true e)
left_running InitUp m h e = h
left_running (InitClose c) m h e = absurd (false≢true e)
left_running InitNothing m h e = h
