-- What stands on the way down from a hub is what was taken from the outbox, after each step.
-- It serves clauses of functions of `laws`.
use Rattle.std.proofs.Common.{◌≡◌, ◌≤◌, ℕ, suc, Bool, true, false, ◌||◌, cond, List, [], ◌∷◌, ◌++◌, Option, Some, None, refl, ap, sym, arith, ◌∙◌, append-nil}
use Rattle.std.specs.Prelude.{◌+◌, length, filter_map, take, slice_get, is_some, ⊤}
use Rattle.std.proofs.lemmas.List.{length-append}
use Rattle.std.proofs.lemmas.List.Elements.{filter-append, filter_map-append}
use Rattle.std.proofs.lemmas.Option.{slice_get_within}
use Rattle.bsc_octets.specs.declared.identity.Identity.{Identity}
use Rattle.bsc_octets.specs.Functions.{is_npdu}
use Rattle.bsc_frame.specs.declared.body.Body.{Body}
use Rattle.bsc_frame.specs.declared.body.Body.TheVariants.{DisconnectRequest, HeartbeatRequest}
use Rattle.bsc_checks.specs.declared.verdict.Verdict.{Verdict}
use Rattle.bsc_checks.specs.declared.verdict.Verdict.TheVariants.{Pass, Carry as Carried, Silent, Nak}
use Rattle.bsc_accept.specs.declared.pending_disconnect.PendingDisconnect.{PendingDisconnect}
use Rattle.bsc_accept.specs.declared.event.Event.{Event}
use Rattle.bsc_accept.specs.declared.event.Event.TheVariants.{Joined as HasJoined}
use Rattle.bsc_accept.specs.declared.step.Step.{Step}
use Rattle.bsc_accept.specs.declared.step.Step.TheVariants.{Ask}
use Rattle.bsc_accept.specs.Messages.{is_farewell_answer}
use Rattle.bsc_accept.specs.Past.{is_joined, since_joined, standing_by, until_farewell, farewell_at, oldest}
use Rattle.bsc_accept.specs.Steps.{connected_step, message_step}
use Rattle.bsc_network.specs.declared.parcel.Parcel.{Parcel}
use Rattle.bsc_network.specs.declared.parcel.Content.{Content}
use Rattle.bsc_network.specs.declared.parcel.Content.TheVariants.{Opened, Arrived, Message, Closed}
use Rattle.bsc_network.specs.Traffic.{Traffic, and_then}
use Rattle.bsc_network.specs.Worlds.{Posted, Hub, Link, entries}
use Rattle.bsc_network.specs.Outboxes.{Frame, frames, frames_by}
use Rattle.bsc_network_laws.specs.Ends.{message_of, messages}
use Rattle.bsc_network_laws.specs.Carrying.{npdus, taken_of}
use Rattle.bsc_network.proofs.Frames.{frames-more, take-more, take-next}
use Rattle.bsc_lemmas.proofs.Booleans.{or_false}
use Rattle.std.proofs.lemmas.Option.{same_Some as some_same}

-- ---- what holds of the hub's side of a link

-- Of the side of a link to this hub: the NPDUs on the way down are those that were taken, in order; no more were taken than
-- entered the outbox, and none before it joined; and it has a connection exactly where its machine was told that it joined.
pub record SideFits (h : Hub) (k : Link) : Type 0 where
  pub down : npdus (messages k.down) ≡ npdus (taken_of h k.side.conn k.side.taken)
  pub within : (c : ℕ) → k.side.conn ≡ Some c → k.side.taken ≤ length (frames h c)
  pub none : k.side.conn ≡ None → k.side.taken ≡ 0
  pub joined : is_some k.side.conn ≡ is_some (since_joined k.side.events)

-- ---- what is put on the way down

-- a message that is no NPDU, and what is no message, don't count
abbrev pub CarriesNone : Content → Type 0
CarriesNone (Message o) = is_npdu o ≡ false
CarriesNone content = ⊤

pub npdus-more : (x : Parcel) (t : Traffic) → npdus (messages (and_then x t)) ≡ npdus (messages t) ++ npdus (filter_map message_of (x ∷ []))
npdus-more x t =
    ap npdus (filter_map-append message_of t.put (x ∷ [])) ∙ filter-append (λ (f : Frame). is_npdu f.octets) (messages t) (filter_map message_of (x ∷ []))

npdus-none : (content : Content) (place : ℕ) → CarriesNone content → npdus (filter_map message_of (record { content = content; sent_at = place } ∷ [])) ≡ []
npdus-none (Message o) place h = ap (λ (b : Bool). cond b (record { octets = o; sent_at = place } ∷ []) []) h
npdus-none Opened place h = refl
npdus-none Arrived place h = refl
npdus-none Closed place h = refl

pub npdus-kept : (content : Content) (place : ℕ) (t : Traffic) → CarriesNone content → npdus (messages (and_then (record { content = content; sent_at = place }) t)) ≡ npdus (messages t)
npdus-kept content place t h =
    npdus-more (record { content = content; sent_at = place }) t ∙ ap (λ l. npdus (messages t) ++ l) (npdus-none content place h) ∙ append-nil (npdus (messages t))

-- ---- one entry more at the hub

taken-more : (h : Hub) (p : Posted) (c : Option ℕ) (n : ℕ) → ((d : ℕ) → c ≡ Some d → n ≤ length (frames h d)) → taken_of (record h { posted = h.posted ++ p ∷ [] }) c n ≡ taken_of h c n
taken-more h p None n within = refl
taken-more h p (Some d) n within = ap (take n) (frames-more h.about h.posted p d) ∙ take-more n (frames h d) (frames_by h.about (entries h.posted) d p) (within d refl)

pub frames-grow : (h : Hub) (p : Posted) (c n : ℕ) → n ≤ length (frames h c) → n ≤ length (frames (record h { posted = h.posted ++ p ∷ [] }) c)
frames-grow h p c n few =
    let longer : length (frames (record h { posted = h.posted ++ p ∷ [] }) c) ≡ length (frames h c) + length (frames_by h.about (entries h.posted) c p) =
    ap length (frames-more h.about h.posted p c) ∙ length-append (frames h c) (frames_by h.about (entries h.posted) c p) in
    omega arith

pub side-posted : (h : Hub) (p : Posted) (k : Link) → SideFits h k → SideFits (record h { posted = h.posted ++ p ∷ [] }) k
side-posted h p k fits = record {
  down = fits.down ∙ ap npdus (sym (taken-more h p k.side.conn k.side.taken fits.within));
  within = λ c is. frames-grow h p c k.side.taken (fits.within c is);
  none = fits.none;
  joined = fits.joined;
}

-- ---- the machine is told something

pub joined-more : (E : List Event) (e : Event) → is_some (since_joined (E ++ e ∷ [])) ≡ (is_some (since_joined E) || is_joined e)
joined-more [] e = elim (is_joined e) as (λ b. is_some {T = List Event} (cond b (Some []) None) ≡ b) [ true ↦ refl | false ↦ refl ]
joined-more (x ∷ E) e =
    elim (is_joined x) as (λ b. is_some (cond b (Some (E ++ e ∷ [])) (since_joined (E ++ e ∷ [])))
    ≡ (is_some (cond b (Some E) (since_joined E)) || is_joined e)) [ true ↦ refl | false ↦ joined-more E e ]

pub side-told : (h : Hub) (k : Link) (e : Event) → is_joined e ≡ false → SideFits h k → SideFits h (record k { side = record k.side { events = k.side.events ++ e ∷ [] } })
side-told h k e other fits = record {
  down = fits.down;
  within = fits.within;
  none = fits.none;
  joined = fits.joined ∙ sym (joined-more k.side.events e ∙ ap (λ (b : Bool). is_some (since_joined k.side.events) || b) other ∙ or_false (is_some (since_joined k.side.events)));
}

-- ---- a frame is taken

taken-one : (h : Hub) (o : Option ℕ) (c n : ℕ) (f : Frame) → o ≡ Some c → slice_get (frames h c) n ≡ Some f → taken_of h o (n + 1) ≡ taken_of h o n ++ f ∷ []
taken-one h None c n f conn is = cc
taken-one h (Some d) c n f conn is =
    let next : n + 1 ≡ suc n = omega arith in
    ap (λ m. take m (frames h d)) next ∙ take-next n (frames h d) f (ap (λ e. slice_get (frames h e) n) (some_same d c conn) ∙ is)

taken-within : (h : Hub) (o : Option ℕ) (c d n : ℕ) (f : Frame) → o ≡ Some c → slice_get (frames h c) n ≡ Some f → o ≡ Some d → n + 1 ≤ length (frames h d)
taken-within h o c d n f conn is at =
    let same : c ≡ d = some_same c d (sym conn ∙ at) in
    let here : slice_get (frames h d) n ≡ Some f = ap (λ e. slice_get (frames h e) n) (sym same) ∙ is in
    let few = slice_get_within (frames h d) n f here in
    omega arith

pub side-takes : (h : Hub) (k : Link) (c : ℕ) (f : Frame) → k.side.conn ≡ Some c → slice_get (frames h c) k.side.taken ≡ Some f → SideFits h k
    → SideFits h (record k { down = and_then (record { content = Message f.octets; sent_at = f.sent_at }) k.down; side = record k.side { taken = k.side.taken + 1 } })
side-takes h k c f conn is fits =
    let one : taken_of h k.side.conn (k.side.taken + 1) ≡ taken_of h k.side.conn k.side.taken ++ f ∷ [] = taken-one h k.side.conn c k.side.taken f conn is in
    record {
      down = npdus-more (record { content = Message f.octets; sent_at = f.sent_at }) k.down
          ∙ ap (λ l. l ++ npdus (f ∷ [])) fits.down
          ∙ sym (ap npdus one ∙ filter-append (λ (g : Frame). is_npdu g.octets) (taken_of h k.side.conn k.side.taken) (f ∷ []));
      within = λ d at. taken-within h k.side.conn c d k.side.taken f conn is at;
      none = λ none. cc;
      joined = fits.joined;
    }

-- ---- a peer joins

-- whether a step asks about a peer
abbrev pub asks : Step → Bool
asks (Ask who) = true
asks other = false

pub asks-if : (b : Bool) (x y : Step) → asks x ≡ false → asks y ≡ false → asks (cond b x y) ≡ false
asks-if true x y p q = p
asks-if false x y p q = q

pub asks-connected : (id : ℕ) (body : Body) → asks (connected_step id body) ≡ false
asks-connected id HeartbeatRequest = refl
asks-connected id DisconnectRequest = refl
asks-connected id body = refl

asks-farewell : (o : Option PendingDisconnect) (v : Verdict) → asks (message_step (until_farewell o) v) ≡ false
asks-farewell None (Pass msg) = asks-connected msg.id msg.body
asks-farewell (Some f) (Pass msg) = asks-if (is_farewell_answer f.id msg) _ _ refl refl
asks-farewell None (Carried envelope) = refl
asks-farewell (Some f) (Carried envelope) = refl
asks-farewell None (Silent check) = refl
asks-farewell (Some f) (Silent check) = refl
asks-farewell None (Nak check octets) = refl
asks-farewell (Some f) (Nak check octets) = refl

-- only a machine that wasn't told that its peer joined asks
pub asks-before : (o : Option (List Event)) (v : Verdict) (who : Identity) → Ask who ≡ message_step (standing_by o) v → is_some o ≡ false
asks-before None v who is = refl
asks-before (Some later) v who is = ap asks is ∙ asks-farewell (oldest farewell_at later) v

pub no_conn : (o : Option ℕ) → is_some o ≡ false → o ≡ None
no_conn None h = refl
no_conn (Some c) h = cc

-- A side whose machine wasn't told that it joined, and then is, as c.
pub side-joins : (h : Hub) (k : Link) (c : ℕ) → is_some (since_joined k.side.events) ≡ false → SideFits h k
    → SideFits h (record k { side = record k.side { conn = Some c; events = k.side.events ++ HasJoined ∷ [] } })
side-joins h k c before fits =
    let without : k.side.conn ≡ None = no_conn k.side.conn (fits.joined ∙ before) in
    let untaken : k.side.taken ≡ 0 = fits.none without in
    record {
      down = fits.down ∙ ap (λ (o : Option ℕ). npdus (taken_of h o k.side.taken)) without ∙ sym (ap (λ n. npdus (take n (frames h c))) untaken);
      within = λ d is. omega arith;
      none = λ is. cc;
      joined = sym (joined-more k.side.events HasJoined ∙ ap (λ (b : Bool). b || true) before);
    }
