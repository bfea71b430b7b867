-- What is known of links that are there, and of what is put on them, in every log.
-- It serves clauses of functions of `laws`.
use Rattle.std.proofs.Common.{[], sym, subst}
use Rattle.std.specs.Prelude.{⊤, IsTrue}
use Rattle.bsc_node.specs.declared.timed_event.TimedEvent.{TimedEvent}
use Rattle.bsc_node.specs.declared.action.Action.{Action}
use Rattle.bsc_node.specs.declared.action.Action.TheVariants.{Put}
use Rattle.bsc_node.specs.Logs.{Made, Line, did, Log}
use Rattle.bsc_node.specs.Events.{follows}
use Rattle.bsc_node.specs.Node.{goes_on, log}
use Rattle.bsc_node.specs.Conditions.{may_come}
use Rattle.bsc_node.specs.Laws.{with_event}
use Rattle.bsc_node.proofs.Following.{goes_on-is}
use Rattle.bsc_node_identity.specs.There.{ConnectsAreAsBegun, EstablishedAreThere, IsAsBegun, LinksHaveOneVmac, PeersStay}
use Rattle.bsc_node_identity.proofs.Each.{EachHas, each-append, each-at, each-also}
use Rattle.bsc_node_identity.proofs.Reasons.{Why}
use Rattle.bsc_node_identity.proofs.Followed.{each-why}
use Rattle.bsc_node_identity.proofs.Settled.{settled-log, lasting}
use Rattle.bsc_node_identity.proofs.Held.{held-goes_on}
use Rattle.bsc_node_identity.proofs.Holding.{HeldAt}
use Rattle.bsc_node_identity.proofs.Events.{peer-stays}

-- ---- Connect-Requests and Connect-Accepts

abbrev BegunSo : Made → Log → Line → Type 0
BegunSo a N (did (Put name o)) = IsAsBegun a N name o
BegunSo a N m = ⊤

begun_done : (a : Made) (L : Log) (e : TimedEvent) (N : Log) (action : Action) → Why a L e N (did action) → BegunSo a N (did action)
begun_done a L e N (Put name o) why = why.1
begun_done a L e N action why = tt

begun_so : (a : Made) (L : Log) (e : TimedEvent) (N : Log) (m : Line) → Why a L e N m → BegunSo a N m
begun_so a L e N (did action) why = begun_done a L e N action why
begun_so a L e N m why = tt

begun_event : (a : Made) (L : Log) (e : TimedEvent) → IsTrue (may_come L e) → EachHas (BegunSo a) L (goes_on a e L)
begun_event a L e may =
    subst (EachHas (BegunSo a) L) (sym (goes_on-is a L e)) (tt, each-also (Why a L e) (BegunSo a) (begun_so a L e) (with_event L e) (follows a e.event (with_event L e)) (each-why a L e may))

pub connects_are_as_begun : (a : Made) → ConnectsAreAsBegun a
connects_are_as_begun a events h before later name o is =
    each-at (BegunSo a) [] before (did (Put name o)) later
    (subst (EachHas (BegunSo a) []) is (lasting a (EachHas (BegunSo a) []) tt (λ L e each may. each-append (BegunSo a) [] L (goes_on a e L) each (begun_event a L e may)) events h))

-- ---- the others

pub established_slots_are_there : (a : Made) → EstablishedAreThere a
established_slots_are_there a events h k = lasting a (HeldAt k) (λ who g. cc) (held-goes_on k a) events h

pub links_have_one_vmac : (a : Made) → LinksHaveOneVmac a
links_have_one_vmac a events h = (settled-log a events h).vmac

pub peers_stay : (a : Made) → PeersStay a
peers_stay a events e h may = peer-stays a (log a events) e (settled-log a events h) may
