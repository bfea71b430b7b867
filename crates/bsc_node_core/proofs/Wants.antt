-- What follows where the user of the node wants something, line by line.
-- It serves clauses of most source files here.
use Rattle.std.proofs.Common.{◌≡◌, ℕ, zero, suc, Bool, cond, true, false, List, [], ◌∷◌, ◌++◌, Option, Some, None, refl, ap, sym, ◌∙◌, subst, arith}
use Rattle.bsc_octets.specs.declared.vmac.Vmac.{Vmac}
use Rattle.bsc_frame.specs.declared.body.Body.{Body}
use Rattle.bsc_frame.specs.declared.body.Body.TheVariants.{Npdu, AdvertisementSolicitation}
use Rattle.bsc_connector.specs.declared.hub_use.HubUse.{HubUse}
use Rattle.bsc_direct.specs.declared.bounds.TheConstants.{SLOTS}
use Rattle.bsc_direct.specs.declared.routes.Route.{Route}
use Rattle.bsc_direct.specs.declared.routes.Route.TheVariants.{Direct as ByDirect, Hub as ByHub, NoPath as ByNone}
use Rattle.bsc_direct.specs.Paths.{path}
use Rattle.bsc_node.specs.Messages.{message_octets}
use Rattle.bsc_node.specs.declared.note.Note.{Note}
use Rattle.bsc_node.specs.declared.note.Note.TheVariants.{NoPath, TooLong}
use Rattle.bsc_node.specs.declared.action.Action.{Action}
use Rattle.bsc_node.specs.declared.action.Action.TheVariants.{Put, Tell}
use Rattle.bsc_node.specs.Logs.{Line, did, Log}
use Rattle.bsc_node.specs.Links.{peer}
use Rattle.bsc_node.specs.Hubs.{hub_use}
use Rattle.bsc_node.specs.Ways.{Way, way, slot_calls}
use Rattle.bsc_node.specs.Ways as Ways
use Rattle.bsc_node.specs.Requesting.{takes_it, own_message, puts_own, sends, solicits}
use Rattle.bsc_node_core.specs.declared.state.State.{State}
use Rattle.std.specs.Prelude.{◌<◌, ◌+◌, find, nat_lt}
use Rattle.std.specs.List.{range_with_len}
use Rattle.std.specs.Option.{option_map}
use Rattle.std.proofs.lemmas.Bool.{lt-ltb}
use Rattle.bsc_direct.specs.Slots.{slots}
use Rattle.bsc_node_core.specs.declared.way.Way as Core
use Rattle.bsc_connector.specs.declared.hub_use.HubUse.TheVariants.{NoHub, Primary, Failover}
use Rattle.bsc_connector.specs.declared.side.Side.TheVariants.{Primary as PrimarySide, Failover as FailoverSide}
use Rattle.bsc_octets.specs.declared.identity.Identity.{Identity}
use Rattle.bsc_octets.specs.Addresses.{same_vmac}
use Rattle.bsc_direct.specs.Paths.{slot_or, hub_path}
use Rattle.bsc_direct.specs.Slots.{is_peer, established_peer, established}
use Rattle.bsc_node.specs.declared.link_name.LinkName.TheVariants.{Hub, Direct}
use Rattle.bsc_node_core.specs.Tables.{link_at, is_name}
use Rattle.bsc_node_core.specs.Rules.{way_by, way_of}
use Rattle.bsc_node_core.specs.Standing.{Base, Stands}
use Rattle.bsc_node_core.proofs.Lines.{IsQuiet, quiet-stands}
use Rattle.bsc_lemmas.proofs.Options.{some_none_any as some_none}
use Rattle.std.proofs.lemmas.Option.{same_Some as some_same}

pub tell-quiet : (note : Note) → IsQuiet (Tell note)
tell-quiet note = record { begins = λ name. refl; over = λ name. refl; number = refl }

-- The node tells its user something.
pub tell-stands : (b : Base) (out : List Action) (s : State) (L : Log) (note : Note) → Stands b out s L → Stands b (out ++ Tell note ∷ []) s (L ++ did (Tell note) ∷ [])
tell-stands b out s L note h = quiet-stands b out s L (Tell note) (tell-quiet note) h

by_route : (L : Log) (v : Vmac) (r : Route) → way_by v (hub_use L) r ≡ Ways.way_by L v r
by_route L v (ByDirect k) = refl
by_route L v ByHub = refl
by_route L v ByNone = refl

pub way-is : (L : Log) (v : Vmac) (used : HubUse) (r : Route) → used ≡ hub_use L → r ≡ path (slot_calls L) used v → way_by v used r ≡ way v L
way-is L v used r u p = ap (λ x. way_by v used x) p ∙ ap (λ x. way_by v x (path (slot_calls L) x v)) u ∙ by_route L v (path (slot_calls L) (hub_use L) v)

-- ---- nothing but a word to the user

pub told-stands : (b : Base) (out later : List Action) (s : State) (L : Log) (lines : List Line) (note : Note) → later ≡ out ++ Tell note ∷ [] → lines ≡ did (Tell note) ∷ []
    → Stands b out s L → Stands b later s (L ++ lines)
told-stands b out later s L lines note t l h = subst (λ o. Stands b o s (L ++ lines)) (sym t) (subst (λ ms. Stands b (out ++ Tell note ∷ []) s (L ++ ms)) (sym l) (tell-stands b out s L note h))

pub same-lines : (b : Base) (out : List Action) (s : State) (L : Log) (lines others : List Line) → others ≡ lines → Stands b out s (L ++ lines) → Stands b out s (L ++ others)
same-lines b out s L lines others l h = subst (λ ms. Stands b out s (L ++ ms)) (sym l) h

-- ---- sending

pub sends-nowhere : (v : Vmac) (npdu : List ℕ) (L : Log) → way v L ≡ None → sends v npdu L ≡ did (Tell (NoPath v)) ∷ []
sends-nowhere v npdu L h = rw h refl

pub sends-put : (v : Vmac) (npdu : List ℕ) (L : Log) (w : Way) → way v L ≡ Some w → takes_it npdu (own_message w (Npdu npdu) L) (peer L w.link) ≡ true
    → sends v npdu L ≡ did (Put w.link (own_message w (Npdu npdu) L)) ∷ []
sends-put v npdu L w h t = rw (h, t) refl

pub sends-not : (v : Vmac) (npdu : List ℕ) (L : Log) (w : Way) → way v L ≡ Some w → takes_it npdu (own_message w (Npdu npdu) L) (peer L w.link) ≡ false
    → sends v npdu L ≡ did (Tell (TooLong v)) ∷ []
sends-not v npdu L w h t = rw (h, t) refl

pub solicits-nowhere : (v : Vmac) (L : Log) → way v L ≡ None → solicits v L ≡ did (Tell (NoPath v)) ∷ []
solicits-nowhere v L h = rw h refl

pub solicits-by : (v : Vmac) (L : Log) (w : Way) → way v L ≡ Some w → solicits v L ≡ puts_own w AdvertisementSolicitation L
solicits-by v L w h = rw h refl

-- the octets of the next message
pub own-octets : (b : Base) (out : List Action) (s : State) (L : Log) (w : Way) (body : Body) → Stands b out s L → own_message w body L ≡ message_octets s.next w.dest body
own-octets b out s L w body h = ap (λ n. message_octets n w.dest body) h.next

-- ---- the way

pub none-path : (r : Option Core.Way) (o : Option Way) → option_map way_of r ≡ o → r ≡ None → o ≡ None
none-path r o h is = sym h ∙ ap (option_map way_of) is

pub some-path : (r : Option Core.Way) (o : Option Way) (w : Core.Way) → option_map way_of r ≡ o → r ≡ Some w → o ≡ Some (way_of w)
some-path r o w h is = sym h ∙ ap (option_map way_of) is

found_or_later : {o : Option ℕ} (b : Bool) (first n k : ℕ) → (o ≡ Some k → k < first + 1 + n) → cond b (Some first) o ≡ Some k → k < first + suc n
found_or_later true first n k later h = let i : first ≡ k = some_same first k h in omega (arith, i)
found_or_later false first n k later h = let i = later h in omega (arith, i)

-- A number that is found among those from a first one on is among them.
found_within : (test : ℕ → Bool) (first n k : ℕ) → find test (range_with_len first n) ≡ Some k → k < first + n
found_within test first zero k h = some_none k (sym h)
found_within test first (suc n) k h = found_or_later (test first) first n k (λ e. found_within test (first + 1) n k e) h

pub slot-within : (test : ℕ → Bool) (k : ℕ) → find test slots ≡ Some k → nat_lt k SLOTS ≡ true
unfolding slots
slot-within test k h = lt-ltb k SLOTS (found_within test 0 SLOTS k h)

way_name_by : (e : Option ℕ) (used : HubUse) (v : Vmac) (w : Way) → ((k : ℕ) → e ≡ Some k → nat_lt k SLOTS ≡ true) → way_by v used (slot_or e (hub_path used)) ≡ Some w → is_name w.link ≡ true
way_name_by (Some k) used v w within h = subst (λ (x : Way). is_name x.link ≡ true) (some_same (record { link = Direct k; dest = None }) w h) (within k refl)
way_name_by None NoHub v w within h = some_none w (sym h)
way_name_by None Primary v w within h = subst (λ (x : Way). is_name x.link ≡ true) (some_same (record { link = Hub PrimarySide; dest = Some v }) w h) refl
way_name_by None Failover v w within h = subst (λ (x : Way). is_name x.link ≡ true) (some_same (record { link = Hub FailoverSide; dest = Some v }) w h) refl

-- The link of a way has a name.
pub way-name : (L : Log) (v : Vmac) (w : Way) → way v L ≡ Some w → is_name w.link ≡ true
way-name L v w h =
    way_name_by (established (slot_calls L) v) (hub_use L) v w
    (λ k e. slot-within (λ j. is_peer (λ (who : Identity). same_vmac who.vmac v) (established_peer (slot_calls L) j)) k e)
    (way-is L v (hub_use L) (path (slot_calls L) (hub_use L) v) refl refl ∙ h)

-- The peer that is kept of the way's link is the log's.
pub way-peer : (b : Base) (out : List Action) (s : State) (L : Log) (v : Vmac) (w : Way) → Stands b out s L → way v L ≡ Some w → peer L w.link ≡ (link_at s.links w.link).peer
way-peer b out s L v w h e = (h.links w.link (way-name L v w e)).peer

pub taken-by : (b : Base) (out : List Action) (s : State) (L : Log) (v : Vmac) (npdu o : List ℕ) (w : Core.Way) (p : Option Identity) (r : Bool) → Stands b out s L → way v L ≡ Some (way_of w)
    → o ≡ message_octets s.next w.dest (Npdu npdu) → p ≡ (link_at s.links w.link).peer → r ≡ takes_it npdu o p → takes_it npdu (own_message (way_of w) (Npdu npdu) L) (peer L w.link) ≡ r
taken-by b out s L v npdu o w p r h e oe pe re =
    ap (λ x. takes_it npdu x (peer L w.link)) (own-octets b out s L (way_of w) (Npdu npdu) h ∙ sym oe)
    ∙ ap (takes_it npdu o) (way-peer b out s L v (way_of w) h e ∙ sym pe)
    ∙ sym re

pub sends-these : (b : Base) (out : List Action) (s : State) (L : Log) (v : Vmac) (npdu o : List ℕ) (w : Core.Way) → Stands b out s L → way v L ≡ Some (way_of w)
    → o ≡ message_octets s.next w.dest (Npdu npdu) → takes_it npdu (own_message (way_of w) (Npdu npdu) L) (peer L w.link) ≡ true → sends v npdu L ≡ did (Put w.link o) ∷ []
sends-these b out s L v npdu o w h e oe t = sends-put v npdu L (way_of w) e t ∙ ap (λ x. did (Put w.link x) ∷ []) (own-octets b out s L (way_of w) (Npdu npdu) h ∙ sym oe)
