-- A copy of what a node keeps stands for the same log.
-- It serves clauses of functions of `links`, `node` and `state`.
use Rattle.std.proofs.Common.{◌≡◌, Bool, true, false, cond, ◌&&◌, List, refl, ap, sym, ◌∙◌, subst}
use Rattle.std.specs.Prelude.{slice_get}
use Rattle.std.proofs.lemmas.Bool.{false≢true, lt-ltb}
use Rattle.bsc_connector.specs.declared.side.Side.TheVariants.{Primary, Failover}
use Rattle.bsc_connector.specs.declared.connector.Connector.{Connector}
use Rattle.bsc_connector.specs.Standing.{ConnectorStands}
use Rattle.bsc_direct.specs.declared.bounds.TheConstants.{SLOTS}
use Rattle.bsc_direct.specs.declared.direct.Direct.{Direct as SlotTable}
use Rattle.bsc_direct.specs.declared.call.SlotCall.{SlotCall}
use Rattle.bsc_direct.specs.declared.slot.Slot.{Slot}
use Rattle.bsc_direct.specs.Kept.{slot_at}
use Rattle.bsc_direct.specs.Standing.{DirectStands, SlotStands}
use Rattle.bsc_node.specs.declared.link_name.LinkName.{LinkName}
use Rattle.bsc_node.specs.declared.link_name.LinkName.TheVariants.{Hub, Direct}
use Rattle.bsc_node.specs.declared.action.Action.{Action}
use Rattle.bsc_node.specs.Logs.{Log}
use Rattle.bsc_node.specs.Links.{same_link}
use Rattle.bsc_node.specs.Hubs.{waits, hub_events}
use Rattle.bsc_node.proofs.Common.{same_link-is}
use Rattle.bsc_node_core.specs.declared.links.Links.{Links}
use Rattle.bsc_node_core.specs.declared.link.Link.{Link}
use Rattle.bsc_node_core.specs.declared.state.State.{State}
use Rattle.bsc_node_core.specs.declared.touched.Touched.{Touched}
use Rattle.bsc_node_core.specs.declared.touched.Touched.TheVariants.{Many, One}
use Rattle.bsc_node_core.specs.Tables.{AgreeUntouched, Kept, Sets, is_name, is_touched, kept_of, kept_in, link_at}
use Rattle.bsc_node_core.specs.Spares.{Agrees, KeepsSame}
use Rattle.bsc_node_core.specs.Standing.{Base, LinkStands, Stands}

-- ---- links

pub same-links : (old new : Links) → new.primary ≡ old.primary → new.failover ≡ old.failover → new.slots.items ≡ old.slots.items → (name : LinkName) → link_at new name ≡ link_at old name
same-links old new p f i (Hub Primary) = ap kept_of p
same-links old new p f i (Hub Failover) = ap kept_of f
same-links old new p f i (Direct k) = ap (λ (ls : List Link). kept_in (slice_get ls k)) i

-- One link was touched alone, and is kept now.
pub caught-one : (old new links : Links) (touched : LinkName) → links.touched ≡ One touched → Sets old new touched (link_at links touched) → AgreeUntouched old links
    → (name : LinkName) → is_name name ≡ true → link_at new name ≡ link_at links name
caught-one old new links touched is sets agrees name n = by (same_link touched name) refl
  where
    by : (b : Bool) → same_link touched name ≡ b → link_at new name ≡ link_at links name
    by true e =
        let one = same_link-is touched name e in
        sets name ∙ ap (λ (b : Bool). cond (b && is_name touched) (link_at links touched) (link_at old name)) e
        ∙ ap (λ (b : Bool). cond b (link_at links touched) (link_at old name)) (ap is_name one ∙ n) ∙ ap (link_at links) one
    by false e = sets name ∙ ap (λ (b : Bool). cond (b && is_name touched) (link_at links touched) (link_at old name)) e ∙ sym (agrees name n (ap (λ (t : Touched). is_touched t name) is ∙ e))

-- ---- states

same-slots : (old new : SlotTable) (calls : List SlotCall) → new.slots.items ≡ old.slots.items → DirectStands old calls → DirectStands new calls
same-slots old new calls i h = record {
  slots = λ k. subst (λ (slots : List Slot). SlotStands calls k (slot_at slots k)) (sym i) (h.slots k);
  apart = h.apart;
  unicast = h.unicast;
}

-- What keeps the same stands for the same, beside any spare with which it agrees.
pub copied-stands : (b : Base) (out : List Action) (s t spare : State) (L : Log) → KeepsSame s t → Agrees spare t → Stands b out s L → Stands (record b { spare = spare }) out t L
copied-stands b out s t spare L i agrees h = record {
  now = h.now;
  own = h.own ∙ sym i.own;
  next = h.next ∙ sym i.next;
  finishing = h.finishing ∙ sym i.finishing;
  renewals = h.renewals ∙ sym i.renewals;
  newest_hub = h.newest_hub ∙ sym i.newest_hub;
  dropped = h.dropped ∙ sym i.dropped;
  connector = subst (λ (c : Connector). ConnectorStands c (waits b.made) (hub_events L)) (sym i.connector) h.connector;
  direct = same-slots s.direct t.direct _ i.direct h.direct;
  asked = h.asked;
  links = λ name n. subst (λ (x : Kept). LinkStands b.made b.busy L name x) (sym (i.links name n)) (h.links name n);
  tries = λ k w. h.tries k w ∙ sym (ap (λ (x : Kept). x.tries) (i.links (Direct k) (lt-ltb k SLOTS w)));
  spare = agrees;
  actions = record { lines = h.actions.lines; log = h.actions.log; actions = h.actions.actions };
}

-- A copy is a spare of what it was made of.
pub copy-agrees : (s spare : State) → KeepsSame s spare → Agrees spare s
copy-agrees s spare i = (λ name n t. sym (i.links name n), λ t. sym i.direct)

-- What keeps the same as something that keeps the same keeps the same.
keeps-then : (s t u : State) → KeepsSame s t → KeepsSame t u → KeepsSame s u
keeps-then s t u i j = record {
  own = j.own ∙ i.own;
  next = j.next ∙ i.next;
  finishing = j.finishing ∙ i.finishing;
  renewals = j.renewals ∙ i.renewals;
  newest_hub = j.newest_hub ∙ i.newest_hub;
  dropped = j.dropped ∙ i.dropped;
  connector = j.connector ∙ i.connector;
  links = λ name n. j.links name n ∙ i.links name n;
  direct = j.direct ∙ i.direct;
}

-- ---- between two events

-- Where an event begins the spare was brought up to the state, whatever of that counts as touched.
pub begun-stands : (b : Base) (out : List Action) (s start spare : State) (L : Log) → KeepsSame s start → (Agrees b.spare s → KeepsSame s spare) → Stands b out s L
    → Stands (record b { spare = spare }) out start L
begun-stands b out s start spare L same catches h =
    let i = catches h.spare in
    copied-stands b out s start spare L same (λ name n t. same.links name n ∙ sym (i.links name n), λ t. same.direct ∙ sym i.direct) h

-- Where memory was wanting, all of the spare is taken back, whatever the state was.
pub restored-stands : (b : Base) (out : List Action) (s caught marked failed new : State) (L : Log) → (Agrees b.spare s → KeepsSame s caught) → KeepsSame caught marked
    → marked.links.touched ≡ Many → marked.direct_touched ≡ true
    → (Agrees failed marked → KeepsSame marked new) → Stands b out s L → Stands (record b { spare = marked }) out new L
restored-stands b out s caught marked failed new L catches same many all brings h =
    let none : Agrees failed marked = (λ name n t. absurd (false≢true (sym t ∙ ap (λ (x : Touched). is_touched x name) many)), λ t. absurd (false≢true (sym t ∙ all))) in
    let back = brings none in
    copied-stands b out s new marked L (keeps-then s marked new (keeps-then s caught marked (catches h.spare) same) back) (λ name n t. back.links name n, λ t. back.direct) h
