-- What a node keeps goes on standing for its log, where an event comes.
-- It serves the clauses of `record_event`.
use Rattle.std.proofs.Common.{◌≡◌, ℕ, ◌+◌, Bool, true, false, cond, ◌&&◌, List, [], ◌∷◌, ◌++◌, Option, Some, None, unwrap_or, refl, ap, sym, ◌∙◌, subst, arith}
use Rattle.std.specs.Prelude.{min, count_by}
use Rattle.std.specs.List.{list_any}
use Rattle.std.specs.Option.{option_map}
use Rattle.bsc_octets.specs.declared.vmac.Vmac.{Vmac}
use Rattle.bsc_octets.specs.declared.identity.Identity.{Identity}
use Rattle.bsc_octets.specs.Addresses.{random48_of}
use Rattle.bsc_connector.specs.declared.side.Side.{Side}
use Rattle.bsc_connector.specs.Back.{since}
use Rattle.bsc_connector.specs.Standing.{ConnectorStands}
use Rattle.bsc_connector.proofs.BackLemmas.{newest_of-more, list_any-more}
use Rattle.bsc_direct.specs.Standing.{DirectStands}
use Rattle.bsc_node.specs.declared.bounds.TheConstants.{RENEWALS}
use Rattle.bsc_node.specs.declared.link_name.LinkName.{LinkName}
use Rattle.bsc_node.specs.declared.link_name.LinkName.TheVariants.{Hub, Direct}
use Rattle.bsc_node.specs.declared.node_event.NodeEvent.{NodeEvent}
use Rattle.bsc_node.specs.declared.node_event.NodeEvent.TheVariants.{Start, Opened, DialFailed, Arrived, Came, CameText, Lost, Tick, Send, Resolve, DirectTo, Solicit, Finish, Random, NoRandom}
use Rattle.bsc_node.specs.declared.timed_event.TimedEvent.{TimedEvent}
use Rattle.bsc_node.specs.declared.action.Action.{Action}
use Rattle.bsc_node.specs.Logs.{Made, came, Log, event_of, renewal_of, own, is_finish, is_finishing}
use Rattle.bsc_node.specs.Links.{is_over_by, same_link}
use Rattle.bsc_node.specs.Hubs.{waits}
use Rattle.bsc_node.specs.Meeting.{is_renewal, is_accept_of_hub, renewals, hub_message_of, refusing_side}
use Rattle.bsc_node_core.specs.declared.machine.Machine.TheVariants.{Gone}
use Rattle.bsc_node_core.specs.declared.links.Links.{Links}
use Rattle.bsc_node_core.specs.declared.state.State.{State}
use Rattle.bsc_node_core.specs.Tables.{Kept, link_at, is_name, Sets, Touches, with_machine}
use Rattle.bsc_node_core.specs.Spares.{Agrees}
use Rattle.bsc_node_core.specs.Standing.{Base, HaveCome, LinkStands, Stands}
use Rattle.bsc_node_core.specs.Events.{at_time}
use Rattle.bsc_node_core.proofs.More.{next-kept, own-kept, finishing-kept, renewals-kept, refusing-kept, dropped-kept, tries-kept, since-kept, count-one_more}
use Rattle.bsc_node_core.proofs.Lines.{link-kept, peer-kept, came-other}
use Rattle.bsc_node_core.proofs.Closing.{tries-closed}
use Rattle.bsc_node_core.proofs.Untouched.{agrees-set}
use Rattle.bsc_lemmas.proofs.Booleans.{or_true}
use Rattle.bsc_node.proofs.Common.{hub_events-kept, resolve_calls-kept, same_link-is, slot_calls-kept}
use Rattle.bsc_node.proofs.There.{there-over}

-- what is kept beside its parts, and the links
abbrev known_at : State → Identity → Bool → ℕ → Option Side → Links → State
known_at s i f r side ls = record s { own = i; finishing = f; renewals = r; newest_hub = side; links = ls }

came-told : (b : Base) (out : List Action) (L : Log) (e : TimedEvent) → HaveCome b out L → HaveCome (at_time e.now b) out (L ++ came e ∷ [])
came-told b out L e h = let more = came-other b out L (came e) refl h in record { lines = more.lines; log = more.log; actions = more.actions }

came-stands : (b : Base) (out : List Action) (s : State) (L : Log) (e : TimedEvent) (i : Identity) (f : Bool) (r : ℕ) (side : Option Side) (ls : Links)
    → own b.made (L ++ came e ∷ []) ≡ i → is_finishing (L ++ came e ∷ []) ≡ f → min RENEWALS (renewals (L ++ came e ∷ [])) ≡ r → refusing_side (L ++ came e ∷ []) ≡ side
    → ((name : LinkName) → is_name name ≡ true → LinkStands b.made b.busy (L ++ came e ∷ []) name (link_at ls name)) → ((k : ℕ) → (link_at ls (Direct k)).tries ≡ (link_at s.links (Direct k)).tries)
    → Agrees b.spare (record s { links = ls }) → Stands b out s L → Stands (at_time e.now b) out (known_at s i f r side ls) (L ++ came e ∷ [])
came-stands b out s L e i f r side ls hi hf hr hs hl ht ha h = record {
  now = ap (λ o. unwrap_or (option_map (λ (x : TimedEvent). x.now) o) 0) (newest_of-more event_of L (came e));
  own = hi;
  next = next-kept L (came e) refl ∙ h.next;
  finishing = hf;
  renewals = hr;
  newest_hub = hs;
  dropped = dropped-kept L (came e) refl refl ∙ h.dropped;
  connector = subst (λ E. ConnectorStands s.connector (waits b.made) E) (sym (hub_events-kept L (came e) refl)) h.connector;
  direct = subst (λ E. DirectStands s.direct E) (sym (slot_calls-kept L (came e) refl)) h.direct;
  asked = resolve_calls-kept L (came e) refl ∙ h.asked;
  links = hl;
  tries = λ k w. ap (λ c. min c 18446744073709551615) (tries-kept k L (came e) refl refl) ∙ h.tries k w ∙ sym (ht k);
  spare = ha;
  actions = came-told b out L e h.actions;
}

-- ---- what an event says of what is kept

-- It draws no word, is no Finish, and is no message of a hub.
record SaysNothing (e : TimedEvent) : Type 0 where
  renewal : renewal_of (came e) ≡ None
  finish : is_finish (came e) ≡ false
  counted : is_renewal (came e) ≡ false
  message : hub_message_of (came e) ≡ None

-- An event that says nothing of them, by which no link is over.
quiet-came : (b : Base) (out : List Action) (s : State) (L : Log) (e : TimedEvent) → SaysNothing e → ((name : LinkName) → is_over_by name (came e) ≡ false) → Stands b out s L
    → Stands (at_time e.now b) out s (L ++ came e ∷ [])
quiet-came b out s L e q over h =
    came-stands b out s L e s.own s.finishing s.renewals s.newest_hub s.links (own-kept b.made L (came e) q.renewal ∙ h.own) (finishing-kept L (came e) q.finish ∙ h.finishing)
    (ap (λ k. min RENEWALS k) (renewals-kept L (came e) q.counted refl) ∙ h.renewals) (refusing-kept L (came e) q.message ∙ h.newest_hub)
    (λ name n. link-kept b.made b.busy L (came e) name (link_at s.links name) refl (over name) refl refl (h.links name n)) (λ k. refl) h.spare h

-- ---- a link is over

links-over : (a : Made) (busy : Option LinkName) (old new : Links) (L : Log) (name : LinkName) (e : TimedEvent) → ((other : LinkName) → is_over_by other (came e) ≡ same_link name other)
    → Sets old new name (with_machine Gone (link_at old name)) → ((other : LinkName) → is_name other ≡ true → LinkStands a busy L other (link_at old other))
    → (other : LinkName) → is_name other ≡ true → LinkStands a busy (L ++ came e ∷ []) other (link_at new other)
links-over a busy old new L name e over sets h other n = by (same_link name other) refl
  where
    by : (b : Bool) → same_link name other ≡ b → LinkStands a busy (L ++ came e ∷ []) other (link_at new other)
    by true x =
        let is = same_link-is name other x in
        let l : link_at new other ≡ with_machine Gone (link_at old other) = sets other ∙ ap (λ c. cond (c && is_name name) (with_machine Gone (link_at old name)) (link_at old other)) x
        ∙ ap (λ c. cond c (with_machine Gone (link_at old name)) (link_at old other)) (ap is_name is ∙ n) ∙ ap (λ y. with_machine Gone (link_at old y)) is in
        subst (λ (y : Kept). LinkStands a busy (L ++ came e ∷ []) other y) (sym l) (record {
          there = there-over other L (came e) refl (over other ∙ x);
          machine = tt;
          peer = peer-kept L (came e) other refl refl refl ∙ (h other n).peer;
        })
    by false x =
        let l : link_at new other ≡ link_at old other = sets other ∙ ap (λ c. cond (c && is_name name) (with_machine Gone (link_at old name)) (link_at old other)) x in
        subst (λ (y : Kept). LinkStands a busy (L ++ came e ∷ []) other y) (sym l) (link-kept a busy L (came e) other (link_at old other) refl (over other ∙ x) refl refl (h other n))

over-came : (b : Base) (out : List Action) (s : State) (L : Log) (e : TimedEvent) (name : LinkName) (ls : Links) → SaysNothing e
    → ((other : LinkName) → is_over_by other (came e) ≡ same_link name other)
    → Sets s.links ls name (with_machine Gone (link_at s.links name)) → Touches s.links ls name → Stands b out s L → Stands (at_time e.now b) out (record s { links = ls }) (L ++ came e ∷ [])
over-came b out s L e name ls q over sets touches h =
    came-stands b out s L e s.own s.finishing s.renewals s.newest_hub ls (own-kept b.made L (came e) q.renewal ∙ h.own) (finishing-kept L (came e) q.finish ∙ h.finishing)
    (ap (λ k. min RENEWALS k) (renewals-kept L (came e) q.counted refl) ∙ h.renewals) (refusing-kept L (came e) q.message ∙ h.newest_hub)
    (links-over b.made b.busy s.links ls L name e over sets h.links) (λ k. tries-closed s.links ls name k sets) (agrees-set b.spare s ls name _ sets touches h.spare) h

-- ---- the events

abbrev at : ℕ → NodeEvent → TimedEvent
at t ev = record { now = t; event = ev }

silent : (t : ℕ) (ev : NodeEvent) → renewal_of (came (at t ev)) ≡ None → is_finish (came (at t ev)) ≡ false → is_renewal (came (at t ev)) ≡ false → hub_message_of (came (at t ev)) ≡ None
    → SaysNothing (at t ev)
silent t ev r f c m = record { renewal = r; finish = f; counted = c; message = m }

-- what is left to show at an event that is known
abbrev Stands_at : Base → List Action → State → Log → ℕ → NodeEvent → Type 0
Stands_at b out s L t ev = Stands (at_time t b) out s (L ++ came (at t ev) ∷ [])

pub lost-came : (b : Base) (out : List Action) (s : State) (L : Log) (t : ℕ) (ev : NodeEvent) (name : LinkName) (ls : Links) → ev ≡ Lost name
    → Sets s.links ls name (with_machine Gone (link_at s.links name))
    → Touches s.links ls name → Stands b out s L → Stands (at_time t b) out (record s { links = ls }) (L ++ came (at t ev) ∷ [])
lost-came b out s L t ev name ls is sets touches h =
    subst (Stands_at b out (record s { links = ls }) L t) (sym is) (over-came b out s L (at t (Lost name)) name ls (silent t (Lost name) refl refl refl refl) (λ other. refl) sets touches h)

pub failed-came : (b : Base) (out : List Action) (s : State) (L : Log) (t : ℕ) (ev : NodeEvent) (name : LinkName) (ls : Links) → ev ≡ DialFailed name
    → Sets s.links ls name (with_machine Gone (link_at s.links name))
    → Touches s.links ls name → Stands b out s L → Stands (at_time t b) out (record s { links = ls }) (L ++ came (at t ev) ∷ [])
failed-came b out s L t ev name ls is sets touches h =
    subst (Stands_at b out (record s { links = ls }) L t) (sym is) (over-came b out s L (at t (DialFailed name)) name ls (silent t (DialFailed name) refl refl refl refl)
    (λ other. refl) sets touches h)

pub hub-came : (b : Base) (out : List Action) (s : State) (L : Log) (t : ℕ) (ev : NodeEvent) (side : Side) (o : List ℕ) → ev ≡ Came (Hub side) o → Stands b out s L
    → Stands (at_time t b) out (record s { newest_hub = Some side }) (L ++ came (at t ev) ∷ [])
hub-came b out s L t ev side o is h =
    let e = at t (Came (Hub side) o) in
    subst (Stands_at b out (record s { newest_hub = Some side }) L t) (sym is)
    (came-stands b out s L e s.own s.finishing s.renewals (Some side) s.links (own-kept b.made L (came e) refl ∙ h.own) (finishing-kept L (came e) refl ∙ h.finishing)
    (ap (λ k. min RENEWALS k) (renewals-kept L (came e) refl refl) ∙ h.renewals) (newest_of-more hub_message_of L (came e))
    (λ name n. link-kept b.made b.busy L (came e) name (link_at s.links name) refl refl refl refl (h.links name n)) (λ k. refl) h.spare h)

pub slot-came : (b : Base) (out : List Action) (s : State) (L : Log) (t : ℕ) (ev : NodeEvent) (k : ℕ) (o : List ℕ) → ev ≡ Came (Direct k) o → Stands b out s L
    → Stands (at_time t b) out s (L ++ came (at t ev) ∷ [])
slot-came b out s L t ev k o is h =
    subst (Stands_at b out s L t) (sym is) (quiet-came b out s L (at t (Came (Direct k) o)) (silent t (Came (Direct k) o) refl refl refl refl) (λ name. refl) h)

pub finish-came : (b : Base) (out : List Action) (s : State) (L : Log) (t : ℕ) (ev : NodeEvent) → ev ≡ Finish → Stands b out s L
    → Stands (at_time t b) out (record s { finishing = true }) (L ++ came (at t ev) ∷ [])
finish-came b out s L t ev is h =
    let e = at t Finish in
    subst (Stands_at b out (record s { finishing = true }) L t) (sym is)
    (came-stands b out s L e s.own true s.renewals s.newest_hub s.links (own-kept b.made L (came e) refl ∙ h.own) (list_any-more is_finish L (came e) ∙ or_true (list_any is_finish L))
    (ap (λ k. min RENEWALS k) (renewals-kept L (came e) refl refl) ∙ h.renewals) (refusing-kept L (came e) refl ∙ h.newest_hub)
    (λ name n. link-kept b.made b.busy L (came e) name (link_at s.links name) refl refl refl refl (h.links name n)) (λ k. refl) h.spare h)

one_renewal : (L : Log) (t w : ℕ) → renewals (L ++ came (at t (Random w)) ∷ []) ≡ renewals L + 1
one_renewal L t w =
    ap (count_by is_renewal) (since-kept is_accept_of_hub L (came (at t (Random w))) refl) ∙ count-one_more is_renewal (since is_accept_of_hub L) (came (at t (Random w))) refl

pub word-came : (b : Base) (out : List Action) (s : State) (L : Log) (t : ℕ) (ev : NodeEvent) (w r : ℕ) (v : Vmac) → ev ≡ Random w → v ≡ random48_of w → min RENEWALS (s.renewals + 1) ≡ r
    → Stands b out s L
    → Stands (at_time t b) out (record s { own = record s.own { vmac = v }; renewals = r }) (L ++ came (at t ev) ∷ [])
word-came b out s L t ev w r v is ve re h =
    let e = at t (Random w) in
    let one = one_renewal L t w in
    let k = h.renewals in
    let drawn : own b.made (L ++ came e ∷ []) ≡ record s.own { vmac = v } =
    ap (λ (o : Option Vmac). record b.made.own { vmac = unwrap_or o b.made.own.vmac }) (newest_of-more renewal_of L (came e)) ∙ ap (λ (x : Vmac). record b.made.own { vmac = x }) (sym ve)
    ∙ ap (λ (i : Identity). record i { vmac = v }) h.own in
    subst (Stands_at b out (record s { own = record s.own { vmac = v }; renewals = r }) L t) (sym is)
    (came-stands b out s L e (record s.own { vmac = v }) s.finishing r s.newest_hub s.links drawn (finishing-kept L (came e) refl ∙ h.finishing)
    (omega (arith, one, k, re)) (refusing-kept L (came e) refl ∙ h.newest_hub)
    (λ name n. link-kept b.made b.busy L (came e) name (link_at s.links name) refl refl refl refl (h.links name n)) (λ j. refl) h.spare h)

pub other-came : (b : Base) (out : List Action) (s : State) (L : Log) (t : ℕ) (ev : NodeEvent) → ((name : LinkName) → ev ≡ DialFailed name → ⊥)
    → ((name : LinkName) (o : List ℕ) → ev ≡ Came name o → ⊥)
    → ((name : LinkName) → ev ≡ Lost name → ⊥) → (ev ≡ Finish → ⊥) → ((w : ℕ) → ev ≡ Random w → ⊥) → Stands b out s L → Stands (at_time t b) out s (L ++ came (at t ev) ∷ [])
other-came b out s L t (DialFailed name) f c l n r h = absurd (f name refl)
other-came b out s L t (Came name o) f c l n r h = absurd (c name o refl)
other-came b out s L t (Lost name) f c l n r h = absurd (l name refl)
other-came b out s L t Finish f c l n r h = absurd (n refl)
other-came b out s L t (Random w) f c l n r h = absurd (r w refl)
other-came b out s L t Start f c l n r h = quiet-came b out s L (at t Start) (silent t Start refl refl refl refl) (λ name. refl) h
other-came b out s L t (Opened name) f c l n r h = quiet-came b out s L (at t (Opened name)) (silent t (Opened name) refl refl refl refl) (λ other. refl) h
other-came b out s L t Arrived f c l n r h = quiet-came b out s L (at t Arrived) (silent t Arrived refl refl refl refl) (λ name. refl) h
other-came b out s L t (CameText name) f c l n r h = quiet-came b out s L (at t (CameText name)) (silent t (CameText name) refl refl refl refl) (λ other. refl) h
other-came b out s L t Tick f c l n r h = quiet-came b out s L (at t Tick) (silent t Tick refl refl refl refl) (λ name. refl) h
other-came b out s L t (Send dest npdu) f c l n r h = quiet-came b out s L (at t (Send dest npdu)) (silent t (Send dest npdu) refl refl refl refl) (λ name. refl) h
other-came b out s L t (Resolve v) f c l n r h = quiet-came b out s L (at t (Resolve v)) (silent t (Resolve v) refl refl refl refl) (λ name. refl) h
other-came b out s L t (DirectTo v) f c l n r h = quiet-came b out s L (at t (DirectTo v)) (silent t (DirectTo v) refl refl refl refl) (λ name. refl) h
other-came b out s L t (Solicit v) f c l n r h = quiet-came b out s L (at t (Solicit v)) (silent t (Solicit v) refl refl refl refl) (λ name. refl) h
other-came b out s L t NoRandom f c l n r h = quiet-came b out s L (at t NoRandom) (silent t NoRandom refl refl refl refl) (λ name. refl) h
