-- What a node keeps stands whether a link is busy or not, where no machine is over and none has asked.
-- It serves clauses of functions of `following`, `node` and `state`.
use Rattle.std.proofs.Common.{◌≡◌, true, false, List, Option, Some, None, refl, sym, ◌∙◌, subst}
use Rattle.std.proofs.lemmas.Bool.{false≢true}
use Rattle.bsc_node.specs.declared.link_name.LinkName.{LinkName}
use Rattle.bsc_node.specs.declared.action.Action.{Action}
use Rattle.bsc_node.specs.Logs.{Made, Log}
use Rattle.bsc_node.specs.Links.{is_there}
use Rattle.bsc_node_core.specs.declared.machine.Machine.{Machine}
use Rattle.bsc_node_core.specs.declared.machine.Machine.TheVariants.{Gone, Over, Dialled, Taken, Asked}
use Rattle.bsc_node_core.specs.declared.state.State.{State}
use Rattle.bsc_node_core.specs.Machines.{says_there, is_at_rest}
use Rattle.bsc_node_core.specs.Tables.{Kept, link_at, is_name}
use Rattle.bsc_node_core.specs.Standing.{Base, HaveCome, MachineStands, LinkStands, Stands}
use Rattle.bsc_node_core.specs.Telling.{busy_with}
use Rattle.std.proofs.lemmas.Option.{none-some as none≢some}

-- A machine at rest stands whatever is busy.
machine-at-rest : (a : Made) (busy other : Option LinkName) (L : Log) (name : LinkName) (machine : Machine) → is_at_rest machine ≡ true → MachineStands a busy L name machine
    → MachineStands a other L name machine
machine-at-rest a busy other L name Gone r h = h
machine-at-rest a busy other L name Over r h = absurd (false≢true r)
machine-at-rest a busy other L name (Dialled m) r h = h
machine-at-rest a busy other L name (Taken m) r h = h
machine-at-rest a busy other L name (Asked m) r h = absurd (false≢true r)

pub link-at-rest : (a : Made) (busy other : Option LinkName) (L : Log) (name : LinkName) (l : Kept) → is_at_rest l.machine ≡ true → LinkStands a busy L name l → LinkStands a other L name l
link-at-rest a busy other L name l r h = record { there = h.there; machine = machine-at-rest a busy other L name l.machine r h.machine; peer = h.peer }

-- A machine that is over, or that has asked, is that of the busy link.
pub busy-or-at-rest : (a : Made) (busy : Option LinkName) (L : Log) (name : LinkName) (machine : Machine) → (busy ≡ Some name → is_at_rest machine ≡ true)
    → MachineStands a busy L name machine → is_at_rest machine ≡ true
busy-or-at-rest a busy L name Gone r h = refl
busy-or-at-rest a busy L name Over r h = r h
busy-or-at-rest a busy L name (Dialled m) r h = refl
busy-or-at-rest a busy L name (Taken m) r h = refl
busy-or-at-rest a busy L name (Asked m) r h = r h.1

-- Where no link is busy, each machine is at rest.
pub at-rest : (b : Base) (out : List Action) (s : State) (L : Log) (name : LinkName) → b.busy ≡ None → is_name name ≡ true → Stands b out s L → is_at_rest (link_at s.links name).machine ≡ true
at-rest b out s L name none n h = busy-or-at-rest b.made b.busy L name (link_at s.links name).machine (λ e. absurd (none≢some name (sym none ∙ e))) (h.links name n).machine

same-actions : (b : Base) (busy : Option LinkName) (out : List Action) (L : Log) → HaveCome b out L → HaveCome (record b { busy = busy }) out L
same-actions b busy out L h = record { lines = h.lines; log = h.log; actions = h.actions }

-- Where each machine is at rest, any link may be busy.
pub any-busy : (b : Base) (busy : Option LinkName) (out : List Action) (s : State) (L : Log) → ((name : LinkName) → is_name name ≡ true → is_at_rest (link_at s.links name).machine ≡ true)
    → Stands b out s L → Stands (record b { busy = busy }) out s L
any-busy b busy out s L rest h = record {
  now = h.now;
  own = h.own;
  next = h.next;
  finishing = h.finishing;
  renewals = h.renewals;
  newest_hub = h.newest_hub;
  dropped = h.dropped;
  connector = h.connector;
  direct = h.direct;
  asked = h.asked;
  links = λ name n. link-at-rest b.made b.busy busy L name (link_at s.links name) (rest name n) (h.links name n);
  tries = h.tries;
  spare = h.spare;
  actions = same-actions b busy out L h.actions;
}

-- Where no link was busy, one may be.
pub is_busy : (b : Base) (out : List Action) (s : State) (L : Log) (name : LinkName) → b.busy ≡ None → Stands b out s L → Stands (busy_with name b) out s L
is_busy b out s L name none h = any-busy b (Some name) out s L (λ other n. at-rest b out s L other none n h) h

-- The link that was busy is at rest: none is busy any more.
pub settles : (b : Base) (out : List Action) (s : State) (L : Log) (name : LinkName) → b.busy ≡ None → is_at_rest (link_at s.links name).machine ≡ true → Stands (busy_with name b) out s L
    → Stands b out s L
settles b out s L name none rest h =
    (any-busy (busy_with name b) b.busy out s L (λ other n. busy-or-at-rest b.made (Some name) L other (link_at s.links other).machine (λ e. same other (some-is e)) (h.links other n).machine) h)
  where
    some-is : {x y : LinkName} → Some x ≡ Some y → x ≡ y
    some-is e = cc

    same : (other : LinkName) → name ≡ other → is_at_rest (link_at s.links other).machine ≡ true
    same other e = subst (λ (x : LinkName). is_at_rest (link_at s.links x).machine ≡ true) e rest

gone : (machine : Machine) → says_there machine ≡ false → is_at_rest machine ≡ true
gone Gone h = refl
gone Over h = absurd (false≢true (sym h))
gone (Dialled m) h = refl
gone (Taken m) h = refl
gone (Asked m) h = absurd (false≢true (sym h))

-- The link that was busy isn't there any more: none is busy.
pub settles-gone : (b : Base) (out : List Action) (s : State) (L : Log) (name : LinkName) → b.busy ≡ None → is_name name ≡ true → is_there name L ≡ false → Stands (busy_with name b) out s L
    → Stands b out s L
settles-gone b out s L name none n t h = settles b out s L name none (gone (link_at s.links name).machine (sym (h.links name n).there ∙ t)) h
