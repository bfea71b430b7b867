-- What holds of each move holds of what a hub's side does.
-- It serves clauses of functions of `laws`.
use Rattle.std.proofs.Common.{◌≡◌, ℕ, Bool, true, false, List, [], ◌∷◌, ◌++◌, Option, Some, None, refl, ap, ◌∙◌}
use Rattle.std.specs.Prelude.{slice_get, if◌then◌else◌}
use Rattle.bsc_octets.specs.declared.identity.Identity.{Identity}
use Rattle.bsc_history.specs.declared.ending.End.{End}
use Rattle.bsc_history.specs.declared.call.Call.TheVariants.{Connect, Forward}
use Rattle.bsc_history.specs.declared.reply.Reply.{Reply}
use Rattle.bsc_history.specs.declared.reply.Reply.TheVariants.{Joined, Refused}
use Rattle.bsc_history.specs.Ends.{ended}
use Rattle.bsc_checks.specs.declared.place.Place.TheVariants.{HubPort}
use Rattle.bsc_accept.specs.declared.event.Event.{Event}
use Rattle.bsc_accept.specs.declared.event.Event.TheVariants.{Message as CameToHub, Joined as HasJoined, Refused as WasRefused, Ended}
use Rattle.bsc_accept.specs.Past.{is_joined, phase}
use Rattle.bsc_accept.specs.declared.step.Step.{Step}
use Rattle.bsc_accept.specs.declared.step.Step.TheVariants.{Ask, Up as GoesUp, Put, PutClose, Close as ClosesLink}
use Rattle.bsc_network.specs.declared.world_step.WorldStep.{WorldStep}
use Rattle.bsc_network.specs.declared.way.Way.{Way}
use Rattle.bsc_network.specs.declared.way.Way.TheVariants.{Up, Down}
use Rattle.bsc_network.specs.declared.parcel.Parcel.{Parcel}
use Rattle.bsc_network.specs.declared.parcel.Content.TheVariants.{Message, Closed}
use Rattle.bsc_network.specs.Worlds.{World, Hub, HubSide, Link, history, traffic, link_at}
use Rattle.bsc_network.specs.Outboxes.{Frame, frames}
use Rattle.bsc_network.specs.Changes.{Change, in_order, with_found, with_side, puts_now}
use Rattle.bsc_network.specs.HubCalls.{called, is_worn, reply_in}
use Rattle.bsc_network.specs.HubSides.{leaves_as, leaves, closes, start, step_at, told, carries_out, tells, gets_reply, joins_by, connects, forwards, verdict_on, acts_on, hears, receives}
use Rattle.bsc_network.specs.Taking.{takes_next, takes}
use Rattle.bsc_network.proofs.Places.{kept-at}
use Rattle.bsc_network_laws.proofs.Moves.{IsSide, HasArrived, IsWanted, IsTold, IsSaid, says_joined}
use Rattle.bsc_accept.proofs.OwnOctets.{IsJudged}
use Rattle.bsc_network_laws.proofs.Beginning.{HasJustCome, after_arrival, LetsStep as Lets}
use Rattle.bsc_network_laws.proofs.Sides.{lets-at, lets-of_side, going_on, side-side, side-puts, side-called, with_call}

-- ---- what is found, and what is chosen

pub found : {A : Type 0} (R : World → World → Type 0) (o : Option A) (change : A → Change) (w : World) → R w w → ((x : A) → o ≡ Some x → R w (change x w)) → R w (with_found o change w)
found R None change w none f = none
found R (Some x) change w none f = f x refl

pub chosen : (R : World → World → Type 0) (b : Bool) (first second : Change) (w : World) → (b ≡ true → R w (first w)) → (b ≡ false → R w (second w)) → R w ((if b then first else second) w)
chosen R true first second w f g = f refl
chosen R false first second w f g = g refl

-- ---- the end of a session

lets-leaves_as : (B : World) (D : WorldStep) (R : World → World → Type 0) → Lets B D R → (w : World) (l j : ℕ) (h : Hub) (k : Link) (c : Option ℕ) → IsSide w l j h k → k.side.conn ≡ c
    → R w (with_side l (λ s. record s { is_over = true }) (leaves_as j l k.side c w))
lets-leaves_as B D R M w l j h k None side conn = M.each.over w l j h k side conn
lets-leaves_as B D R M w l j h k (Some c) side conn = M.each.leaves w l j h k c side conn

pub lets-leaves : (B : World) (D : WorldStep) (R : World → World → Type 0) → Lets B D R → (w : World) (l j : ℕ) (h : Hub) (k : Link) → IsSide w l j h k → R w (leaves l w)
lets-leaves B D R M w l j h k side =
    lets-at R w w l j h k (λ j h link. in_order (leaves_as j l link.side link.side.conn ∷ with_side l (λ s. record s { is_over = true }) ∷ [])) side
    (lets-leaves_as B D R M w l j h k k.side.conn side refl)

pub lets-closes : (B : World) (D : WorldStep) (R : World → World → Type 0) → Lets B D R → (w : World) (l j : ℕ) (h : Hub) (k : Link) → IsSide w l j h k → R w (closes l w)
lets-closes B D R M w l j h k side =
    let v = puts_now l Down Closed w in
    M.then w v (leaves l v) (M.each.closes_down w l) (lets-leaves B D R M v l j h _ (side-puts w l j w.steps h k Closed side))

-- ---- the machine

pub lets-carries_out : (B : World) (D : WorldStep) (R : World → World → Type 0) → Lets B D R → (w : World) (l j : ℕ) (h : Hub) (k : Link) (st : Step) → IsSide w l j h k → IsWanted h.about st
    → R w (carries_out l st w)
lets-carries_out B D R M w l j h k (Put o) side wanted = M.each.hub_puts w l j h k (Put o) o.items side wanted refl
lets-carries_out B D R M w l j h k (PutClose o c) side wanted =
    let v = puts_now l Down (Message o.items) w in
    M.then w v (closes l v) (M.each.hub_puts w l j h k (PutClose o c) o.items side wanted refl) (lets-closes B D R M v l j h _ (side-puts w l j w.steps h k (Message o.items) side))
lets-carries_out B D R M w l j h k (ClosesLink c) side wanted = lets-closes B D R M w l j h k side
lets-carries_out B D R M w l j h k st side wanted = M.none w

-- the link once its machine was told this
abbrev pub with_event : Event → HubSide → HubSide
with_event e s = record s { events = s.events ++ e ∷ [] }

pub lets-tells : (B : World) (D : WorldStep) (R : World → World → Type 0) → Lets B D R → (w : World) (l j : ℕ) (h : Hub) (k : Link) (e : Event) → is_joined e ≡ false → IsJudged e
    → IsSide w l j h k → R w (tells l e w)
lets-tells B D R M w l j h k e other judged side =
    let v = told l e w in
    lets-at R w w l j h k (λ j h link. in_order (told l e ∷ carries_out l (step_at h link e) ∷ [])) side
    (M.then w v (carries_out l (step_at h k e) v) (M.each.tells w l j h k e other side)
    (lets-carries_out B D R M v l j h _ (step_at h k e) (side-side w l j h k (with_event e) refl side) (start h k, k.side.events, e, refl, judged, refl)))

-- ---- a connect and a forward

-- what the machine wants, where the hub isn't worn
said_fresh : (h : Hub) (k : Link) (m : List ℕ) (st : Step) → IsTold h k m st → is_worn h ≡ false → IsSaid h k m st
said_fresh h k m st said fresh = record { started = said.started; own = said.own; events = said.events; time = said.time; is = said.is; told = said.told; fresh = fresh }

lets-joined : (B : World) (D : WorldStep) (R : World → World → Type 0) → Lets B D R
    → (w : World) (l j place : ℕ) (h : Hub) (k : Link) (m : List ℕ) (who : Identity) (c : ℕ) (replaced : Option ℕ) → IsSide w l j h k
    → HasArrived w l Up (record { content = Message m; sent_at = place }) → IsSaid h k m (Ask who) → reply_in w h (Connect who) ≡ Joined c replaced
    → R w (gets_reply l (Joined c replaced) (called j l place (Connect who) w))
lets-joined B D R M w l j place h k m who c replaced side arrived said is =
    let entered = called j l place (Connect who) w in
    let v = with_side l (λ s. record s { conn = Some c }) entered in
    let g = with_call w l place (Connect who) h in
    let at_v : IsSide v l j g (record k { side = record k.side { conn = Some c } }) =
    side-side entered l j g k (λ s. record s { conn = Some c }) refl (side-called w l j place h k (Connect who) side) in
    let u = told l HasJoined v in
    let st = step_at g (record k { side = record k.side { conn = Some c } }) HasJoined in
    lets-at R w v l j g (record k { side = record k.side { conn = Some c } }) (λ j h link. in_order (told l HasJoined ∷ carries_out l (step_at h link HasJoined) ∷ [])) at_v
    (M.then w u (carries_out l st u) (M.each.joins w l j place h k m who c replaced side arrived said is)
    (lets-carries_out B D R M u l j g _ st (side-side v l j g _ (with_event HasJoined) refl at_v) (start g k, k.side.events, HasJoined, refl, tt, refl)))

lets-gets_reply : (B : World) (D : WorldStep) (R : World → World → Type 0) → Lets B D R → (w : World) (l j place : ℕ) (h : Hub) (k : Link) (m : List ℕ) (who : Identity) (r : Reply) → IsSide w l j h k
    → HasArrived w l Up (record { content = Message m; sent_at = place }) → IsSaid h k m (Ask who) → reply_in w h (Connect who) ≡ r → R w (gets_reply l r (called j l place (Connect who) w))
lets-gets_reply B D R M w l j place h k m who (Joined c replaced) side arrived said is = lets-joined B D R M w l j place h k m who c replaced side arrived said is
lets-gets_reply B D R M w l j place h k m who (Refused refusal) side arrived said is =
    let v = called j l place (Connect who) w in
    M.then w v (tells l (WasRefused refusal) v) (M.each.asks w l j place h k m who side arrived said (ap says_joined is))
    (lets-tells B D R M v l j _ k (WasRefused refusal) refl tt (side-called w l j place h k (Connect who) side))
lets-gets_reply B D R M w l j place h k m who r side arrived said is = M.each.asks w l j place h k m who side arrived said (ap says_joined is)

lets-connects : (B : World) (D : WorldStep) (R : World → World → Type 0) → Lets B D R → (w : World) (l j place : ℕ) (h : Hub) (k : Link) (m : List ℕ) (who : Identity) → IsSide w l j h k
    → HasArrived w l Up (record { content = Message m; sent_at = place }) → IsTold h k m (Ask who) → R w (connects l place who w)
lets-connects B D R M w l j place h k m who side arrived said =
    lets-at R w w l j h k (λ j h link w. (if is_worn h then closes l else joins_by j l place who (reply_in w h (Connect who))) w) side
    (chosen R (is_worn h) (closes l) (joins_by j l place who (reply_in w h (Connect who))) w
    (λ worn. lets-closes B D R M w l j h k side)
    (λ fresh. lets-gets_reply B D R M w l j place h k m who (reply_in w h (Connect who)) side arrived (said_fresh h k m (Ask who) said fresh) refl))

lets-forwards : (B : World) (D : WorldStep) (R : World → World → Type 0) → Lets B D R → (w : World) (l j place : ℕ) (h : Hub) (k : Link) (m : List ℕ) → IsSide w l j h k
    → HasArrived w l Up (record { content = Message m; sent_at = place }) → IsTold h k m GoesUp → HasJustCome B w l → R w (forwards l place m w)
lets-forwards B D R M w l j place h k m side arrived said now =
    lets-at R w w l j h k (λ j h link. with_found link.side.conn (λ c. if is_worn h then closes l else called j l place (Forward c m))) side
    (found R k.side.conn (λ c. if is_worn h then closes l else called j l place (Forward c m)) w (M.none w) (λ c conn.
    chosen R (is_worn h) (closes l) (called j l place (Forward c m)) w
    (λ worn. lets-closes B D R M w l j h k side)
    (λ fresh. M.each.forwards w l j place h k m c side conn arrived (said_fresh h k m GoesUp said fresh) now)))

-- ---- a message

-- what the machine wants is what it wants at some event
pub wanted_at : (h : Hub) (k : Link) (m : List ℕ) (st : Step) → IsTold h k m st → IsWanted h.about st
wanted_at h k m st said = (said.started, said.events, CameToHub said.time _, said.own, (m, HubPort (phase said.events), h.about.hub.max_bvlc, refl), said.is)

lets-acts_on : (B : World) (D : WorldStep) (R : World → World → Type 0) → Lets B D R → (w : World) (l j place : ℕ) (h : Hub) (k : Link) (m : List ℕ) (st : Step) → IsSide w l j h k
    → HasArrived w l Up (record { content = Message m; sent_at = place }) → IsTold h k m st → HasJustCome B w l → R w (acts_on l place m st w)
lets-acts_on B D R M w l j place h k m (Ask who) side arrived said now = lets-connects B D R M w l j place h k m who side arrived said
lets-acts_on B D R M w l j place h k m GoesUp side arrived said now = lets-forwards B D R M w l j place h k m side arrived said now
lets-acts_on B D R M w l j place h k m st side arrived said now = lets-carries_out B D R M w l j h k st side (wanted_at h k m st said)

traffic-side : (way : Way) (f : HubSide → HubSide) (k : Link) → traffic way (record k { side = f k.side }) ≡ traffic way k
traffic-side Up f k = refl
traffic-side Down f k = refl

-- an arrival isn't undone by what the machine is told
arrived-told : (w : World) (l i : ℕ) (way : Way) (e : Event) (x : Parcel) → HasArrived w l way x → HasArrived (told i e w) l way x
arrived-told w l i way e x h = record {
  on = h.on;
  found = kept-at (traffic way) i (λ link. record link { side = with_event e link.side }) (traffic-side way (with_event e)) w.links l ∙ h.found;
  place = h.place;
  here = h.here;
  last = h.last;
}

pub lets-receives : (B : World) (D : WorldStep) (R : World → World → Type 0) → Lets B D R → (w : World) (l j place : ℕ) (h : Hub) (k : Link) (m : List ℕ) → IsSide w l j h k
    → HasArrived w l Up (record { content = Message m; sent_at = place }) → w ≡ after_arrival l Up B → R w (receives l place m w)
lets-receives B D R M w l j place h k m side arrived now =
    let e = CameToHub w.now (verdict_on h k m) in
    let v = told l e w in
    lets-at R w w l j h k (λ j h link w. hears l place m (CameToHub w.now (verdict_on h link m)) w) side
    (lets-at R w w l j h k (λ j h link. in_order (told l e ∷ acts_on l place m (step_at h link e) ∷ [])) side
    (M.then w v (acts_on l place m (step_at h k e) v) (M.each.tells w l j h k e refl side)
    (lets-acts_on B D R M v l j place h (record k { side = with_event e k.side }) m (step_at h k e) (side-side w l j h k (with_event e) refl side)
    (arrived-told w l l Up e (record { content = Message m; sent_at = place }) arrived)
    (record { started = start h k; own = refl; events = k.side.events; time = w.now; is = refl; told = refl }) (e, ap (told l e) now))))

-- ---- a take

lets-takes_next : (B : World) (D : WorldStep) (R : World → World → Type 0) → Lets B D R → (w : World) (l j : ℕ) (h : Hub) (k : Link) (c : ℕ) (f : Option Frame) (ending : Option End)
    → IsSide w l j h k → k.side.conn ≡ Some c
    → slice_get (frames h c) k.side.taken ≡ f → R w (takes_next l f ending w)
lets-takes_next B D R M w l j h k c (Some f) ending side conn is = M.each.takes w l j h k c f side conn is
lets-takes_next B D R M w l j h k c None (Some ending) side conn is = lets-tells B D R M w l j h k (Ended w.now ending) refl tt side
lets-takes_next B D R M w l j h k c None None side conn is = M.each.empty w l

pub lets-takes : (B : World) (D : WorldStep) (R : World → World → Type 0) → Lets B D R → (w : World) (l : ℕ) → ((k : Link) → link_at w l ≡ Some k → k.side.is_over ≡ false) → R w (takes l w)
lets-takes B D R M w l going =
    lets-of_side R w l (λ j h link. with_found link.side.conn (λ c. takes_next l (slice_get (frames h c) link.side.taken) (ended (history h) c))) (M.none w) (λ j h k side.
    found R k.side.conn (λ c. takes_next l (slice_get (frames h c) k.side.taken) (ended (history h) c)) w (M.none w) (λ c conn.
    lets-takes_next B D R M w l j h k c (slice_get (frames h c) k.side.taken) (ended (history h) c) (going_on w l j h k side (going k side.link)) conn refl))
