-- The entry of a call that may be made is lawful: each of its looks finds what was taken, and that it can find.
-- It serves clauses of functions of `laws`.
use Rattle.std.proofs.Common.{◌≡◌, ◌≤◌, ℕ, ◌==◌, nat_le, nat_lt, true, false, not, List, [], ◌∷◌, length, map, Option, Some, None, MatchOption, refl, ap, sym, subst, ◌∙◌, arith}
use Rattle.std.specs.List.{list_all}
use Rattle.std.proofs.lemmas.Bool.{and_from, and_parts, both_ways, eq-eqb, eqb-true, false_from_ne_true, le-leb, leb-false, lt-ltb}
use Rattle.std.proofs.lemmas.List.{length-map}
use Rattle.bsc_octets.specs.declared.identity.Identity.{Identity}
use Rattle.bsc_octets.specs.Addresses.{same_vmac, zero_vmac, broadcast}
use Rattle.bsc_frame.specs.Payloads.{IsNode}
use Rattle.bsc_history.specs.declared.call.Call.{Call}
use Rattle.bsc_history.specs.declared.connection.Connection.{Connection}
use Rattle.bsc_history.specs.declared.looks.Look.{Look}
use Rattle.bsc_history.specs.Ends.{joined, numbered}
use Rattle.bsc_history.specs.Entries.{moment}
use Rattle.bsc_history.specs.Legality.{Lawful, Legal, looks_at, can_find, may_call}
use Rattle.bsc_history.specs.Outboxes.{looked, sent}
use Rattle.bsc_history.proofs.Lists.{In, In_from_all, any_gives, find_says, same_one}
use Rattle.bsc_history.proofs.Connections.{joined_apart}
use Rattle.bsc_network.specs.Worlds.{World, Hub, Link, Posted, history, hub_at, link_at}
use Rattle.bsc_network.specs.Outboxes.{Frame, frames}
use Rattle.bsc_network.specs.HubCalls.{taken_over, taken_by, taken_from, entry_in, is_worn}
use Rattle.bsc_network.proofs.Frames.{octets-frames}
use Rattle.bsc_network_laws.specs.Connecting.{is_conn, HasJoinedBy, IsOfLink, JoinByLinks}
use Rattle.bsc_network_laws.proofs.Moves.{IsSide}
use Rattle.bsc_network_laws.proofs.Taken.{SidesFit, LinkFits}
use Rattle.bsc_network_laws.proofs.Looks.{LooksFit}
use Rattle.bsc_lemmas.proofs.Lists.{all-at}
use Rattle.bsc_octets.proofs.Common.{vmac_same}

-- ---- what looks find

entered_as_sent : (h : Hub) (c : ℕ) → length (frames h c) ≡ length (sent h.about (history h) c)
entered_as_sent h c = sym (length-map (frames h c) (λ (f : Frame). f.octets)) ∙ ap length (octets-frames h.about h.posted c)

-- no more was taken than entered
taken-within : (w : World) (j : ℕ) (h : Hub) (c : ℕ) → hub_at w j ≡ Some h → JoinByLinks w → SidesFit w → taken_from w h c ≤ length (sent h.about (history h) c)
taken-within w j h c at by fit = found (numbered c (joined (history h))) (find_says (λ (x : Connection). x.number == c) (joined (history h)))
  where
    found : (o : Option Connection) → MatchOption o ((x : Connection) → In x (joined (history h)) → (x.number == c) ≡ false) (λ x. In x (joined (history h)) × ((x.number == c) ≡ true))
        → taken_by w o ≤ length (sent h.about (history h) c)
    found None says = omega arith
    found (Some x) says =
        let of : IsOfLink w j x = In_from_all (IsOfLink w j) x (joined (history h)) (by j h at) says.0 in
        let is : x.number ≡ c = eqb-true x.number c says.1 in
        let few : of.0.side.taken ≤ length (frames h c) = (all-at (LinkFits w.hubs) w.links x.caller of.0 fit of.1 j h of.2 at).within c (of.3 ∙ ap Some is) in
        let taken : taken_by w (Some x) ≡ of.0.side.taken = ap taken_over of.1 in
        let entered = entered_as_sent h c in
        omega arith

can_find_so : (w : World) (j : ℕ) (h : Hub) (c : ℕ) → hub_at w j ≡ Some h → JoinByLinks w → SidesFit w → LooksFit w → can_find h.about (history h) c (taken_from w h c) ≡ true
can_find_so w j h c at by fit looks =
    and_from (nat_le (looked (history h) c) (taken_from w h c)) (nat_le (taken_from w h c) (length (sent h.about (history h) c)))
    (le-leb (looked (history h) c) (taken_from w h c) (looks j h c at)) (le-leb (taken_from w h c) (length (sent h.about (history h) c)) (taken-within w j h c at by fit))

named_so : (t : ℕ → ℕ) (cs : List ℕ) → map (λ (k : Look). k.conn) (map (λ c. record { conn = c; taken = t c }) cs) ≡ cs
named_so t [] = refl
named_so t (c ∷ cs) = ap (λ l. c ∷ l) (named_so t cs)

found_so : (w : World) (j : ℕ) (h : Hub) → hub_at w j ≡ Some h → JoinByLinks w → SidesFit w → LooksFit w → (cs : List ℕ)
    → list_all (λ (k : Look). can_find h.about (history h) k.conn k.taken) (map (λ c. record { conn = c; taken = taken_from w h c }) cs) ≡ true
found_so w j h at by fit looks [] = refl
found_so w j h at by fit looks (c ∷ cs) = and_from (can_find h.about (history h) c (taken_from w h c)) _ (can_find_so w j h c at by fit looks) (found_so w j h at by fit looks cs)

-- The entry of a call that may be made is lawful.
pub lawful_of : (w : World) (j : ℕ) (h : Hub) (caller : ℕ) (call : Call) → hub_at w j ≡ Some h → JoinByLinks w → SidesFit w → LooksFit w → may_call h.about (history h) caller call ≡ true
    → Lawful h.about (moment (history h) (entry_in w h caller call))
lawful_of w j h caller call at by fit looks may = record {
  replied = refl;
  named = named_so (taken_from w h) (looks_at (history h) call);
  found = found_so w j h at by fit looks (looks_at (history h) call);
  called = may;
}

-- ---- what a side took

-- A side took what was taken from its connection.
pub side_took : (w : World) (l j : ℕ) (h : Hub) (k : Link) (c : ℕ) → IsSide w l j h k → Legal h.about (history h) → HasJoinedBy h l c → taken_from w h c ≡ k.side.taken
side_took w l j h k c side legal has =
    let one = any_gives (is_conn l c) (joined (history h)) has in
    let two = and_parts (one.0.number == c) (one.0.caller == l) one.2 in
    found one.0 one.1 (eqb-true one.0.number c two.0) (eqb-true one.0.caller l two.1) (numbered c (joined (history h))) (find_says (λ (x : Connection). x.number == c) (joined (history h)))
  where
    found : (x : Connection) → In x (joined (history h)) → x.number ≡ c → x.caller ≡ l → (o : Option Connection)
        → MatchOption o ((y : Connection) → In y (joined (history h)) → (y.number == c) ≡ false) (λ y. In y (joined (history h)) × ((y.number == c) ≡ true)) → taken_by w o ≡ k.side.taken
    found x m number caller None says = absurd (both_ways (x.number == c) (says x m) (eq-eqb x.number c number))
    found x m number caller (Some y) says =
        let same : y ≡ x = same_one (λ (z : Connection). z.number) y x (joined (history h)) (joined_apart h.about (history h) legal) says.0 m (eqb-true y.number c says.1 ∙ sym number) in
        ap (λ (z : Connection). taken_over (link_at w z.caller)) same ∙ ap (λ n. taken_over (link_at w n)) caller ∙ ap taken_over side.link

-- A side can find what it took.
pub side_finds : (w : World) (l j : ℕ) (h : Hub) (k : Link) (c : ℕ) → IsSide w l j h k → Legal h.about (history h) → HasJoinedBy h l c → JoinByLinks w → SidesFit w → LooksFit w
    → can_find h.about (history h) c k.side.taken ≡ true
side_finds w l j h k c side legal has by fit looks = subst (λ n. can_find h.about (history h) c n ≡ true) (side_took w l j h k c side legal has) (can_find_so w j h c side.hub by fit looks)

-- ---- who may connect, and when

-- A hub that isn't worn takes one call more.
pub not_worn : (h : Hub) → is_worn h ≡ false → nat_lt (length (history h)) h.about.limits.calls ≡ true
not_worn h fresh =
    let few = leb-false h.about.limits.calls (length h.posted) fresh in
    let as_long : length (history h) ≡ length h.posted = length-map h.posted (λ (p : Posted). p.entry) in
    lt-ltb (length (history h)) h.about.limits.calls (omega arith)

-- Who can say who it is has an address that a node may have.
pub node_address : (who : Identity) → IsNode who → (not (same_vmac who.vmac zero_vmac) ≡ true) × (not (same_vmac who.vmac broadcast) ≡ true)
node_address who node = (
  ap not (false_from_ne_true (same_vmac who.vmac zero_vmac) (λ is. node.reserved (vmac_same who.vmac zero_vmac is))),
  ap not (false_from_ne_true (same_vmac who.vmac broadcast) (λ is. node.broadcast (vmac_same who.vmac broadcast is))),
)
