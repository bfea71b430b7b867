-- To each node each NPDU comes once: two that stand on ways by which one node hears, and have one place, stand at one index of one
-- way. That follows from what holds after each step, and from the hubs' histories being legal.
-- It serves the clauses of `networks_deliver_what_was_sent` and `none_is_delivered_twice`.
use Rattle.std.proofs.Common.{◌≡◌, ◌≢◌, ◌⊎◌, ◌≤◌, inl, inr, ℕ, suc, ◌==◌, true, List, [], ◌∷◌, ◌++◌, Option, Some, None, is_none, option_to_list, refl, ap, sym, subst, ◌∙◌, arith}
use Rattle.std.specs.Prelude.{◌+◌, length, filter, take}
use Rattle.std.specs.List.{AllByRecursion, range_with_len}
use Rattle.std.specs.Option.{option_map}
use Rattle.std.proofs.lemmas.List.{map-append}
use Rattle.std.proofs.lemmas.Bool.{eqb-true, and_parts}
use Rattle.bsc_octets.specs.declared.identity.Identity.{Identity}
use Rattle.bsc_octets.specs.Functions.{is_npdu}
use Rattle.bsc_history.specs.declared.entry.Entry.{Entry}
use Rattle.bsc_history.specs.declared.connection.Connection.{Connection}
use Rattle.bsc_history.specs.Entries.{connection_of}
use Rattle.bsc_history.specs.Ends.{first_end, joined_where, joined, live}
use Rattle.bsc_history.specs.Laws.{Apart}
use Rattle.bsc_history.specs.Legality.{Legal}
use Rattle.bsc_history.specs.Replies.{numbers}
use Rattle.bsc_history.proofs.Lists.{In, In-append, In-filter, In_kept, In_from_all, any_gives, same_one, In-left, In-right}
use Rattle.bsc_history.proofs.Uniqueness.{settled}
use Rattle.bsc_history.proofs.Parts.{Legal-first}
use Rattle.bsc_network.specs.declared.way.Way.{Way}
use Rattle.bsc_network.specs.declared.way.Way.TheVariants.{Up, Down}
use Rattle.bsc_network.specs.declared.target.Target.{Target}
use Rattle.bsc_network.specs.declared.target.Target.TheVariants.{Hub as ToHub, Node as ToNode}
use Rattle.bsc_network.specs.Worlds.{World, Hub, Link, Posted, entries, history, hub_at, link_at}
use Rattle.bsc_network.specs.Outboxes.{Frame, frames}
use Rattle.bsc_network.proofs.Places.{all-mapped}
use Rattle.bsc_network_laws.specs.Ends.{receiver, putter, messages}
use Rattle.bsc_network_laws.specs.Carrying.{npdus, taken_of}
use Rattle.bsc_network_laws.specs.Connecting.{IsOfDialler, JoinsDiallers, is_conn, HasJoinedBy}
use Rattle.bsc_network_laws.specs.Naming.{Cast, identity_in}
use Rattle.bsc_network_laws.proofs.SideFits.{SideFits}
use Rattle.bsc_network_laws.proofs.Taken.{LinkFits, SidesFit}
use Rattle.bsc_network_laws.proofs.Joins.{SidesJoined}
use Rattle.bsc_network_laws.proofs.Diallers.{Inv}
use Rattle.bsc_network_laws.proofs.Placed.{StandsAt}
use Rattle.bsc_network_laws.proofs.PutOnce.{IsOne, ArePutOnce}
use Rattle.bsc_network_laws.proofs.Receipts.{HeardAt, ComeOnce}
use Rattle.bsc_network_laws.proofs.ForwardedOnce.{ForwardAt, ForwardsFit}
use Rattle.bsc_network_laws.proofs.OutboxOnce.{Different, all-taken, different-taken, npdu-at, one-index, IsLiveAs, IsEntered, ForwardIn, ForwardsApart, forward_in, frames-entered, frames-different}
use Rattle.bsc_network_laws.proofs.HubsThere.{HubsThere, hub-found}
use Rattle.bsc_lemmas.proofs.Lists.{all-at}
use Rattle.bsc_network.proofs.Common.{not_both, same_node}
use Rattle.std.proofs.lemmas.Option.{same_Some as some_same}

-- the history of each hub is legal
abbrev pub HubsLegal : World → Type 0
HubsLegal w = (j : ℕ) (h : Hub) → hub_at w j ≡ Some h → Legal h.about (history h)

-- what holds of a network
pub record IsOrderly (cast : Cast) (w : World) : Type 0 where
  pub sides : SidesFit w
  pub hubs : HubsThere w
  pub put : ArePutOnce w
  pub forwards : ForwardsFit w
  pub joins : SidesJoined w
  pub diallers : Inv cast w
  pub legal : HubsLegal w

-- ---- legal histories

numbers-from : (s : ℕ) (xs : List Connection) → numbers xs ≡ range_with_len s (length xs) → AllByRecursion (λ (y : Connection). s ≤ y.number) xs
numbers-from s [] h = tt
numbers-from s (x ∷ xs) h =
    let here : x.number ≡ s = head h in
    (omega arith, all-mapped (λ (y : Connection). s + 1 ≤ y.number) (λ (y : Connection). s ≤ y.number) (λ y more. omega arith) xs (numbers-from (s + 1) xs (tail h)))
  where
    head : x.number ∷ numbers xs ≡ s ∷ range_with_len (s + 1) (length xs) → x.number ≡ s
    head h = cc

    tail : x.number ∷ numbers xs ≡ s ∷ range_with_len (s + 1) (length xs) → numbers xs ≡ range_with_len (s + 1) (length xs)
    tail h = cc

numbers-apart : (s : ℕ) (xs : List Connection) → numbers xs ≡ range_with_len s (length xs) → Apart (λ (y : Connection). y.number) xs
numbers-apart s [] h = tt
numbers-apart s (x ∷ xs) h = (
  all-mapped (λ (y : Connection). s + 1 ≤ y.number) (λ (y : Connection). x.number ≢ y.number) (λ y more same. absurd (differs x y (head h) more same)) xs
      (numbers-from (s + 1) xs (tail h)),
  numbers-apart (s + 1) xs (tail h),
)
  where
    head : x.number ∷ numbers xs ≡ s ∷ range_with_len (s + 1) (length xs) → x.number ≡ s
    head h = cc

    tail : x.number ∷ numbers xs ≡ s ∷ range_with_len (s + 1) (length xs) → numbers xs ≡ range_with_len (s + 1) (length xs)
    tail h = cc

    differs : (x y : Connection) → x.number ≡ s → s + 1 ≤ y.number → x.number ≡ y.number → ⊥
    differs x y here more same = omega arith

-- a connection that is live before an entry has joined
live-joined : (G es : List Entry) (x : Connection) → In x (live G) → In x (joined (G ++ es))
unfolding joined_where
live-joined [] es x m = absurd m
live-joined (e ∷ G) es x m =
    let now = option_to_list (connection_of e) in
    elim (In-append x (filter (λ (c : Connection). is_none (first_end c.number G)) now) (live G) m) [
      | inl here ↦ In-left x (filter (λ (c : Connection). true) now) (joined (G ++ es))
          (In_kept (λ (c : Connection). true) x now (In-filter (λ (c : Connection). is_none (first_end c.number G)) x now here).0 refl)
      | inr later ↦ In-right x (filter (λ (c : Connection). true) now) (joined (G ++ es)) (live-joined G es x later)
    ]

-- ---- what comes down from a hub

-- An NPDU on the way down of this link was taken from the outbox of its connection, which it entered by a forward.
pub record IsTaken (l : ℕ) (x : Link) (h : Hub) (f : Frame) : Type 0 where
  pub conn : ℕ
  pub joined_by : HasJoinedBy h l conn
  pub entered : IsEntered [] conn h.posted f
  pub different : Different (npdus (messages x.down))

forwards-apart : (w : World) (j : ℕ) (h : Hub) → ForwardsFit w → hub_at w j ≡ Some h → ForwardsApart h.posted
forwards-apart w j h fits here p f r g a b same = (fits.once j p f j r g (at p f a) (at r g b) same).1
  where
    at : (p : ℕ) (f : Frame) → ForwardIn h.posted p f → ForwardAt w j p f
    at p f (q, is, forward) = record { hub = h; here = here; posted = q; at = is; is_forward = forward }

taken : (cast : Cast) (w : World) → IsOrderly cast w → (l : ℕ) (x : Link) (j : ℕ) (h : Hub) (i : ℕ) (f : Frame) → link_at w l ≡ Some x → x.to ≡ ToHub j → hub_at w j ≡ Some h
    → StandsAt x Down i f → is_npdu f.octets ≡ true → IsTaken l x h f
taken cast w o l x j h i f here leads there stands npdu = by x.side.conn refl
  where
    fits : SideFits h x
    fits = all-at (LinkFits w.hubs) w.links l x o.sides here j h leads there

    by : (c : Option ℕ) → x.side.conn ≡ c → IsTaken l x h f
    by None conn =
        let down : npdus (messages x.down) ≡ [] = fits.down ∙ ap (λ (c : Option ℕ). npdus (taken_of h c x.side.taken)) conn in
        absurd (npdu-at (λ (g : Frame). ⊥) x.down.put i f (subst (AllByRecursion (λ (g : Frame). ⊥)) (sym down) tt) stands npdu)
    by (Some c) conn =
        let down : npdus (messages x.down) ≡ npdus (take x.side.taken (frames h c)) = fits.down ∙ ap (λ (c : Option ℕ). npdus (taken_of h c x.side.taken)) conn in
        record {
          conn = c;
          joined_by = o.joins l j h x c (record { hub = there; link = here; leads = leads }) conn;
          entered =
              npdu-at (IsEntered [] c h.posted) x.down.put i f
              (subst (AllByRecursion (IsEntered [] c h.posted)) (sym down) (all-taken (IsEntered [] c h.posted) x.side.taken (frames h c) (frames-entered h c))) stands npdu;
          different = subst Different (sym down) (different-taken x.side.taken (frames h c) (frames-different h c (forwards-apart w j h o.forwards there)));
        }

-- the forward by which it entered, among all
entered_at : (w : World) (j : ℕ) (h : Hub) (c : ℕ) (f : Frame) → hub_at w j ≡ Some h → (is : IsEntered [] c h.posted f) → ForwardAt w j (length is.before) is.frame
entered_at w j h c f here is = let q = forward_in [] c h.posted f is in record { hub = h; here = here; posted = q.0; at = q.1; is_forward = q.2 }

-- ---- the connection that took it

entries-split : (h : Hub) (before later : List Posted) (q : Posted) → h.posted ≡ before ++ q ∷ later → history h ≡ entries before ++ entries (q ∷ later)
entries-split h before later q is = ap entries is ∙ map-append (λ (p : Posted). p.entry) before (q ∷ later)

-- A connection that was live then, with the number of a side's, joined by the side's link.
caller_is : (l c : ℕ) (h : Hub) (G es : List Entry) (x : Connection) → Legal h.about (history h) → history h ≡ G ++ es → HasJoinedBy h l c → In x (live G) → x.number ≡ c → x.caller ≡ l
caller_is l c h G es x legal split by_link lives number =
    let s = settled h.about (history h) legal in
    let y = any_gives (is_conn l c) (joined (history h)) by_link in
    let both = and_parts (y.0.number == c) (y.0.caller == l) y.2 in
    let mine : In x (joined (history h)) = subst (λ (H : List Entry). In x (joined H)) (sym split) (live-joined G es x lives) in
    let same : x ≡ y.0 = same_one (λ (z : Connection). z.number) x y.0 (joined (history h)) (numbers-apart 1 (joined (history h)) s.numbered) mine y.1 (number ∙ sym (eqb-true y.0.number c both.0)) in
    ap (λ (z : Connection). z.caller) same ∙ eqb-true y.0.caller l both.1

-- And has the identity of the node that dialled the link.
who_is : (cast : Cast) (w : World) → IsOrderly cast w → (j : ℕ) (h : Hub) (k l : ℕ) (y : Link) (G es : List Entry) (x : Connection) → hub_at w j ≡ Some h → history h ≡ G ++ es
    → In x (live G) → x.caller ≡ l → link_at w l ≡ Some y → y.from ≡ k
    → identity_in cast (ToNode k) ≡ Some x.who
who_is cast w o j h k l y G es x there split lives caller here from =
    let mine : In x (joined (history h)) = subst (λ (H : List Entry). In x (joined H)) (sym split) (live-joined G es x lives) in
    let all = all-at (JoinsDiallers cast w) w.hubs j h o.diallers there in
    let is : IsOfDialler cast w x = In_from_all (IsOfDialler cast w) x (joined (history h)) all mine in
    let dialled : Some is.0 ≡ Some k = sym is.1 ∙ ap (λ (n : ℕ). option_map (λ (z : Link). z.from) (link_at w n)) caller ∙ ap (option_map (λ (z : Link). z.from)) here ∙ ap Some from in
    ap (λ (n : ℕ). identity_in cast (ToNode n)) (sym (some_same is.0 k dialled)) ∙ is.2

-- ---- two that come down from one hub by one entry

same-front : {A : Type 0} (xs ys us vs : List A) → xs ++ ys ≡ us ++ vs → length xs ≡ length us → xs ≡ us
same-front [] ys [] vs h e = refl
same-front [] ys (u ∷ us) vs h e = cc
same-front (x ∷ xs) ys [] vs h e = cc
same-front (x ∷ xs) ys (u ∷ us) vs h e = both (front h) (same-front xs ys us vs (back h) (less e))
  where
    front : x ∷ (xs ++ ys) ≡ u ∷ (us ++ vs) → x ≡ u
    front h = cc

    back : x ∷ (xs ++ ys) ≡ u ∷ (us ++ vs) → xs ++ ys ≡ us ++ vs
    back h = cc

    less : suc (length xs) ≡ suc (length us) → length xs ≡ length us
    less h = cc

    both : x ≡ u → xs ≡ us → x ∷ xs ≡ u ∷ us
    both p q = cc

same-link : (cast : Cast) (w : World) → IsOrderly cast w → (j : ℕ) (h : Hub) (k : ℕ) → hub_at w j ≡ Some h → (l : ℕ) (x : Link) (f : Frame) (m : ℕ) (y : Link) (g : Frame)
    → link_at w l ≡ Some x → x.from ≡ k → link_at w m ≡ Some y → y.from ≡ k
    → (a : IsTaken l x h f) (b : IsTaken m y h g) → length a.entered.before ≡ length b.entered.before → l ≡ m
same-link cast w o j h k there l x f m y g at_x from_x at_y from_y a b index =
    let legal = o.legal j h there in
    let before : a.entered.before ≡ b.entered.before =
    same-front a.entered.before (a.entered.forward ∷ a.entered.later) b.entered.before (b.entered.forward ∷ b.entered.later) (sym a.entered.posted_is ∙ b.entered.posted_is) index in
    let G = entries a.entered.before in
    let es = entries (a.entered.forward ∷ a.entered.later) in
    let split = entries-split h a.entered.before a.entered.later a.entered.forward a.entered.posted_is in
    let c = a.entered.to in
    let d : IsLiveAs G b.conn = subst (λ (ps : List Posted). IsLiveAs (entries ps) b.conn) (sym before) b.entered.to in
    let caller_c : c.0.caller ≡ l = caller_is l a.conn h G es c.0 legal split a.joined_by c.1 c.2 in
    let caller_d : d.0.caller ≡ m = caller_is m b.conn h G es d.0 legal split b.joined_by d.1 d.2 in
    let who : c.0.who ≡ d.0.who =
    some_same c.0.who d.0.who (sym (who_is cast w o j h k l x G es c.0 there split c.1 caller_c at_x from_x) ∙ who_is cast w o j h k m y G es d.0 there split d.1 caller_d at_y from_y) in
    let devices = (settled h.about G (Legal-first h.about G es (subst (Legal h.about) split legal))).devices in
    let same : c.0 ≡ d.0 = same_one (λ (z : Connection). z.who.device) c.0 d.0 (live G) devices c.1 d.1 (ap (λ (i : Identity). i.device) who) in
    sym caller_c ∙ ap (λ (z : Connection). z.caller) same ∙ caller_d

-- ---- any two

-- what puts on a way is a node, or it is the way down from a hub
sort_of : (way : Way) (x : Link) → ((n : ℕ) × (putter way x ≡ ToNode n)) ⊎ ((j : ℕ) × (way ≡ Down) × (x.to ≡ ToHub j))
sort_of Up x = inl (x.from, refl)
sort_of Down x = by x.to refl
  where
    by : (t : Target) → x.to ≡ t → ((n : ℕ) × (x.to ≡ ToNode n)) ⊎ ((j : ℕ) × (Down ≡ Down) × (x.to ≡ ToHub j))
    by (ToHub j) is = inr (j, refl, is)
    by (ToNode n) is = inl (n, is)

-- on the way down from a hub
pub record IsFromHub (w : World) (l : ℕ) (way : Way) (x : Link) (f : Frame) : Type 0 where
  pub number : ℕ
  pub hub : Hub
  pub there : hub_at w number ≡ Some hub
  pub is_down : way ≡ Down
  pub is_taken : IsTaken l x hub f

abbrev frame_at : List ℕ → ℕ → Frame
frame_at o place = record { octets = o; sent_at = place }

from_hub : (cast : Cast) (w : World) → IsOrderly cast w → (l : ℕ) (way : Way) (i : ℕ) (o : List ℕ) (place k j : ℕ) (h : HeardAt w l way i o place k) → way ≡ Down → h.at.to ≡ ToHub j
    → IsFromHub w l way h.at (frame_at o place)
from_hub cast w orderly l way i o place k j h down leads =
    let g = hub-found w.hubs j (orderly.hubs.within l j h.at h.here leads) in
    record {
      number = j;
      hub = g.0;
      there = g.1;
      is_down = down;
      is_taken = taken cast w orderly l h.at j g.0 i (frame_at o place) h.here leads g.1 (subst (λ (on : Way). StandsAt h.at on i (frame_at o place)) down h.stands) h.npdu;
    }

-- what a node puts where a node hears isn't what a hub passed on
not_passed : (cast : Cast) (w : World) → IsOrderly cast w → (m : ℕ) (on : Way) (i : ℕ) (p : List ℕ) (place k : ℕ) (b : HeardAt w m on i p place k) (n : ℕ) → putter on b.at ≡ ToNode n
    → (l : ℕ) (way : Way) (x : Link) (f : Frame) → IsFromHub w l way x f → f.sent_at ≡ place → ⊥
not_passed cast w orderly m on i p place k b n by_node l way x f hub sent =
    let t = hub.is_taken in
    let s = orderly.forwards.sources hub.number (length t.entered.before) t.entered.frame (entered_at w hub.number hub.hub t.conn f hub.there t.entered) in
    let npdu : is_npdu t.entered.frame.octets ≡ true = t.entered.is_forward.npdu in
    let one = orderly.put m on i (frame_at p place) s.number Up s.index t.entered.frame
    (b.at, b.here, record { stands = b.stands; npdu = b.npdu; node = n; putter_is = by_node })
    (s.link, s.here, record { stands = s.stands; npdu = npdu; node = s.link.from; putter_is = refl }) (sym sent ∙ t.entered.place) in
    let link : b.at ≡ s.link = some_same b.at s.link (sym b.here ∙ ap (link_at w) one.link ∙ s.here) in
    let heard : receiver Up b.at ≡ ToNode k = ap (λ (v : Way). receiver v b.at) (sym one.way_is) ∙ b.heard in
    not_both k hub.number b.at.to heard (ap (λ (y : Link). y.to) link ∙ s.leads)

both_passed : (cast : Cast) (w : World) → IsOrderly cast w → (l : ℕ) (way : Way) (i : ℕ) (o : List ℕ) (m : ℕ) (on : Way) (j : ℕ) (p : List ℕ) (place k : ℕ) (a : HeardAt w l way i o place k)
    (b : HeardAt w m on j p place k)
    → IsFromHub w l way a.at (frame_at o place) → IsFromHub w m on b.at (frame_at p place) → IsOne l way i m on j
both_passed cast w orderly l way i o m on j p place k a b x y =
    let s = x.is_taken.entered in
    let t = y.is_taken.entered in
    let one = orderly.forwards.once x.number (length s.before) s.frame y.number (length t.before) t.frame
    (entered_at w x.number x.hub x.is_taken.conn (frame_at o place) x.there s) (entered_at w y.number y.hub y.is_taken.conn (frame_at p place) y.there t) (sym s.place ∙ t.place) in
    let hub : y.hub ≡ x.hub = some_same y.hub x.hub (sym y.there ∙ ap (hub_at w) (sym one.0) ∙ x.there) in
    let moved : SameFrom x.is_taken x.hub = subst (SameFrom x.is_taken) hub (y.is_taken, one.1) in
    let link : l ≡ m =
    same-link cast w orderly x.number x.hub k x.there l a.at (frame_at o place) m b.at (frame_at p place) a.here (from_of way a.at x.is_down a.heard) b.here
    (from_of on b.at y.is_down b.heard) x.is_taken moved.0 moved.1 in
    let same : b.at ≡ a.at = some_same b.at a.at (sym b.here ∙ ap (link_at w) (sym link) ∙ a.here) in
    let first : StandsAt a.at Down i (frame_at o place) = subst (λ (v : Way). StandsAt a.at v i (frame_at o place)) x.is_down a.stands in
    let second : StandsAt a.at Down j (frame_at p place) = subst (λ (z : Link). StandsAt z Down j (frame_at p place)) same
    (subst (λ (v : Way). StandsAt b.at v j (frame_at p place)) y.is_down b.stands) in
    record { link = link; way_is = x.is_down ∙ sym y.is_down; index = one-index a.at.down.put i j (frame_at o place) (frame_at p place) x.is_taken.different first a.npdu second b.npdu refl }
  where
    from_of : (v : Way) (z : Link) → v ≡ Down → receiver v z ≡ ToNode k → z.from ≡ k
    from_of v z down heard = same_node z.from k (ap (λ (u : Way). receiver u z) (sym down) ∙ heard)

    -- the other came from this hub by the same entry
    SameFrom : {h : Hub} → IsTaken l a.at h (frame_at o place) → Hub → Type 0
    SameFrom s g = (t : IsTaken m b.at g (frame_at p place)) × (length s.entered.before ≡ length t.entered.before)

-- To each node each NPDU comes once.
pub come_once : (cast : Cast) (w : World) → IsOrderly cast w → ComeOnce w
come_once cast w orderly l way i o m on j p place k a b = by (sort_of way a.at) (sort_of on b.at)
  where
    by : ((n : ℕ) × (putter way a.at ≡ ToNode n)) ⊎ ((j : ℕ) × (way ≡ Down) × (a.at.to ≡ ToHub j)) → ((n : ℕ) × (putter on b.at ≡ ToNode n)) ⊎ ((j : ℕ) × (on ≡ Down) × (b.at.to ≡ ToHub j))
        → IsOne l way i m on j
    by (inl (n, put)) (inl (q, also)) =
        orderly.put l way i (frame_at o place) m on j (frame_at p place) (a.at, a.here, record { stands = a.stands; npdu = a.npdu; node = n; putter_is = put })
        (b.at, b.here, record { stands = b.stands; npdu = b.npdu; node = q; putter_is = also }) refl
    by (inl (n, put)) (inr (h, down, leads)) = absurd (not_passed cast w orderly l way i o place k a n put m on b.at (frame_at p place) (from_hub cast w orderly m on j p place k h b down leads) refl)
    by (inr (h, down, leads)) (inl (n, put)) = absurd (not_passed cast w orderly m on j p place k b n put l way a.at (frame_at o place) (from_hub cast w orderly l way i o place k h a down leads) refl)
    by (inr (h, down, leads)) (inr (g, also, to)) = both_passed cast w orderly l way i o m on j p place k a b (from_hub cast w orderly l way i o place k h a down leads)
        (from_hub cast w orderly m on j p place k g b also to)
