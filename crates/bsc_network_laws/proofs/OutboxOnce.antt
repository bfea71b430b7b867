-- Where no two forwards of NPDUs have one place, no two NPDUs that entered an outbox have, and none that were taken from it.
-- It serves clauses of functions of `laws`.
use Rattle.std.proofs.Common.{◌≡◌, ◌≢◌, ◌⊎◌, inl, inr, ℕ, zero, suc, Bool, true, false, cond, List, [], ◌∷◌, ◌++◌, Some, refl, ap, sym, subst, ◌∙◌, append_assoc, append-nil}
use Rattle.std.specs.Prelude.{◌&&◌, ◌==◌, length, map, filter_map, take, slice_get}
use Rattle.std.specs.List.{AllByRecursion, list_any}
use Rattle.std.proofs.lemmas.List.Elements.{filter-append, filter_map-append}
use Rattle.std.proofs.lemmas.Bool.{eqb-true, and_parts}
use Rattle.bsc_octets.specs.declared.vmac.Vmac.{Vmac}
use Rattle.bsc_octets.specs.Forwarding.{out}
use Rattle.bsc_octets.specs.Functions.{is_npdu}
use Rattle.bsc_history.specs.declared.limits.About.{About}
use Rattle.bsc_history.specs.declared.entry.Entry.{Entry}
use Rattle.bsc_history.specs.declared.looks.Look.{Look}
use Rattle.bsc_history.specs.declared.call.Call.{Call}
use Rattle.bsc_history.specs.declared.call.Call.TheVariants.{Forward}
use Rattle.bsc_history.specs.declared.connection.Connection.{Connection}
use Rattle.bsc_history.specs.Ends.{live, is_live}
use Rattle.bsc_history.specs.Laws.{Apart}
use Rattle.bsc_history.specs.Outboxes.{means, meant, takes, out_of, added_by, sent}
use Rattle.bsc_history.proofs.Lists.{In, In-filter, any_gives}
use Rattle.bsc_network.specs.declared.parcel.Parcel.{Parcel}
use Rattle.bsc_network.specs.declared.parcel.Content.TheVariants.{Message}
use Rattle.bsc_network.specs.Worlds.{Hub, Posted, entries}
use Rattle.bsc_network.specs.Outboxes.{Frame, at_place, frames_by, frames_after, frames_of, frames}
use Rattle.bsc_network.proofs.Places.{all-mapped}
use Rattle.bsc_network_laws.specs.Ends.{message_of}
use Rattle.bsc_network_laws.specs.Carrying.{npdus}
use Rattle.bsc_network_laws.proofs.ForwardedOnce.{IsForward}
use Rattle.bsc_network_laws.proofs.Named.{all-messages}
use Rattle.bsc_node_identity.proofs.Npdus.{out-npdu}
use Rattle.std.proofs.lemmas.Option.{same_Some as some_same}
use Rattle.bsc_lemmas.proofs.Numbers.{same_suc}
use Rattle.bsc_lemmas.proofs.Lists.{got-split}

-- No two of these have one place.
abbrev pub Different : List Frame → Type 0
Different fs = Apart (λ (f : Frame). f.sent_at) fs

-- ---- NPDUs among frames

abbrev P_one : (Frame → Type 0) → Bool → Frame → List Frame → Type 0
P_one P b f rest = AllByRecursion P (cond b (f ∷ rest) rest)

npdus-one : (P : Frame → Type 0) (f : Frame) (fs : List Frame) → (is_npdu f.octets ≡ true → P f) → AllByRecursion P (npdus fs) → AllByRecursion P (npdus (f ∷ fs))
npdus-one P f fs here rest = by (is_npdu f.octets) here
  where
    by : (b : Bool) → (b ≡ true → P f) → P_one P b f (npdus fs)
    by true h = (h refl, rest)
    by false h = rest

-- what holds of each NPDU among some frames
pub all-npdus : (P : Frame → Type 0) (fs : List Frame) → AllByRecursion P (npdus fs) → AllByRecursion (λ (f : Frame). is_npdu f.octets ≡ true → P f) fs
all-npdus P [] all = tt
all-npdus P (f ∷ fs) all = by (all-npdus P fs) (is_npdu f.octets) refl all
  where
    no : false ≡ true → ⊥
    no h = cc

    by : (AllByRecursion P (npdus fs) → AllByRecursion (λ (f : Frame). is_npdu f.octets ≡ true → P f) fs) → (b : Bool) → is_npdu f.octets ≡ b → P_one P b f (npdus fs)
        → AllByRecursion (λ (f : Frame). is_npdu f.octets ≡ true → P f) (f ∷ fs)
    by rest true is all = (λ npdu. all.0, rest all.1)
    by rest false is all = (λ npdu. absurd (no (sym is ∙ npdu)), rest all)

pub all-taken : (P : Frame → Type 0) (n : ℕ) (fs : List Frame) → AllByRecursion P (npdus fs) → AllByRecursion P (npdus (take n fs))
all-taken P zero fs all = tt
all-taken P (suc n) [] all = tt
all-taken P (suc n) (f ∷ fs) all = by (all-taken P n fs) (is_npdu f.octets) all
  where
    by : (AllByRecursion P (npdus fs) → AllByRecursion P (npdus (take n fs))) → (b : Bool) → P_one P b f (npdus fs) → P_one P b f (npdus (take n fs))
    by rest true all = (all.0, rest all.1)
    by rest false all = rest all

pub different-taken : (n : ℕ) (fs : List Frame) → Different (npdus fs) → Different (npdus (take n fs))
different-taken zero fs all = tt
different-taken (suc n) [] all = tt
different-taken (suc n) (f ∷ fs) all = by (different-taken n fs) (is_npdu f.octets) all
  where
    by : (Different (npdus fs) → Different (npdus (take n fs))) → (b : Bool) → Different (cond b (f ∷ npdus fs) (npdus fs)) → Different (cond b (f ∷ npdus (take n fs)) (npdus (take n fs)))
    by rest true all = (all-taken (λ (g : Frame). f.sent_at ≢ g.sent_at) n fs all.0, rest all.1)
    by rest false all = rest all

different-one : (f : Frame) (fs : List Frame) → (is_npdu f.octets ≡ true → AllByRecursion (λ (g : Frame). f.sent_at ≢ g.sent_at) (npdus fs)) → Different (npdus fs) → Different (npdus (f ∷ fs))
different-one f fs here rest = by (is_npdu f.octets) here
  where
    by : (b : Bool) → (b ≡ true → AllByRecursion (λ (g : Frame). f.sent_at ≢ g.sent_at) (npdus fs)) → Different (cond b (f ∷ npdus fs) (npdus fs))
    by true h = (h refl, rest)
    by false h = rest

-- ---- on a way

-- a message at an index
abbrev pub IsMessageAt : List Parcel → ℕ → Frame → Type 0
IsMessageAt xs i f = slice_get xs i ≡ Some (record { content = Message f.octets; sent_at = f.sent_at })

-- what holds of each NPDU on a way holds of one at an index
pub npdu-at : (P : Frame → Type 0) (xs : List Parcel) (i : ℕ) (f : Frame) → AllByRecursion P (npdus (filter_map message_of xs)) → IsMessageAt xs i f → is_npdu f.octets ≡ true → P f
npdu-at P xs i f all here npdu = all-messages (λ (g : Frame). is_npdu g.octets ≡ true → P g) xs i f.octets f.sent_at (all-npdus P (filter_map message_of xs) all) here npdu

apart-right : {A B : Type 0} (f : A → B) (xs ys : List A) → Apart f (xs ++ ys) → Apart f ys
apart-right f [] ys all = all
apart-right f (x ∷ xs) ys all = apart-right f xs ys all.1

messages-split : (x : Parcel) (xs : List Parcel) → npdus (filter_map message_of (x ∷ xs)) ≡ npdus (filter_map message_of (x ∷ [])) ++ npdus (filter_map message_of xs)
messages-split x xs = ap npdus (filter_map-append message_of (x ∷ []) xs) ∙ filter-append (λ (f : Frame). is_npdu f.octets) (filter_map message_of (x ∷ [])) (filter_map message_of xs)

-- the first of a way has another place than each behind it
first-differs : (xs : List Parcel) (f : Frame) → is_npdu f.octets ≡ true → Different (npdus (filter_map message_of (record { content = Message f.octets; sent_at = f.sent_at } ∷ xs)))
    → AllByRecursion (λ (g : Frame). f.sent_at ≢ g.sent_at) (npdus (filter_map message_of xs))
first-differs xs f npdu all = by (is_npdu f.octets) npdu all
  where
    rest : List Frame
    rest = npdus (filter_map message_of xs)

    no : false ≡ true → ⊥
    no h = cc

    by : (b : Bool) → b ≡ true → Different (cond b (record { octets = f.octets; sent_at = f.sent_at } ∷ rest) rest) → AllByRecursion (λ (g : Frame). f.sent_at ≢ g.sent_at) rest
    by true is all = all.0
    by false is all = absurd (no is)

-- NPDUs of one place are at one index of a way on which no two have one place.
pub one-index : (xs : List Parcel) (i j : ℕ) (f g : Frame) → Different (npdus (filter_map message_of xs)) → IsMessageAt xs i f → is_npdu f.octets ≡ true → IsMessageAt xs j g
    → is_npdu g.octets ≡ true → f.sent_at ≡ g.sent_at → i ≡ j
one-index [] i j f g all a p b q same = cc
one-index (x ∷ xs) zero zero f g all a p b q same = refl
one-index (x ∷ xs) zero (suc j) f g all a p b q same =
    let first : x ≡ record { content = Message f.octets; sent_at = f.sent_at } = some_same x _ a in
    absurd (npdu-at (λ (h : Frame). f.sent_at ≢ h.sent_at) xs j g (first-differs xs f p (subst (λ (y : Parcel). Different (npdus (filter_map message_of (y ∷ xs)))) first all)) b q same)
one-index (x ∷ xs) (suc i) zero f g all a p b q same =
    let first : x ≡ record { content = Message g.octets; sent_at = g.sent_at } = some_same x _ b in
    absurd (npdu-at (λ (h : Frame). g.sent_at ≢ h.sent_at) xs i f (first-differs xs g q (subst (λ (y : Parcel). Different (npdus (filter_map message_of (y ∷ xs)))) first all)) a p (sym same))
one-index (x ∷ xs) (suc i) (suc j) f g all a p b q same =
    ap suc (one-index xs i j f g (apart-right (λ (h : Frame). h.sent_at) (npdus (filter_map message_of (x ∷ []))) (npdus (filter_map message_of xs))
    (subst Different (messages-split x xs) all)) a p b q same)

-- ---- what an entry adds

-- c was live after the entries G
abbrev pub IsLiveAs : List Entry → ℕ → Type 0
IsLiveAs G c = (x : Connection) × In x (live G) × (x.number ≡ c)

-- It is a forward, and adds its frame to the outbox of c, which was live then.
pub record Adds (a : About) (G : List Entry) (c : ℕ) (p : Posted) : Type 0 where
  pub sender : ℕ
  pub m : List ℕ
  pub v : Vmac
  pub call : p.entry.call ≡ Forward sender m
  pub frame : frames_by a G c p ≡ record { octets = out m v; sent_at = p.sent_at } ∷ []
  pub to : IsLiveAs G c

-- what a call adds: nothing, or one frame
adds_one : (a : About) (G : List Entry) (entered : List (List ℕ)) (c : ℕ) (call : Call) (looks : List Look)
    → (added_by a G entered c call looks ≡ []) ⊎ ((sender : ℕ) × (m : List ℕ) × (v : Vmac) × (call ≡ Forward sender m) × (added_by a G entered c call looks ≡ out m v ∷ []) × IsLiveAs G c)
unfolding added_by
adds_one a G entered c (Forward sender m) looks = by (is_live G sender && list_any test (meant G sender m)) refl
  where
    o : List ℕ
    o = out_of G sender m

    test : Connection → Bool
    test x = takes a o entered looks c x

    by : (b : Bool) → (is_live G sender && list_any test (meant G sender m)) ≡ b
        → (cond b (o ∷ []) [] ≡ []) ⊎ ((s : ℕ) × (n : List ℕ) × (v : Vmac) × (Forward sender m ≡ Forward s n) × (cond b (o ∷ []) [] ≡ out n v ∷ []) × IsLiveAs G c)
    by false is = inl refl
    by true is =
        let one = any_gives test (meant G sender m) (and_parts (is_live G sender) (list_any test (meant G sender m)) is).1 in
        let there = In-filter (means m sender) one.0 (live G) one.1 in
        inr (sender, m, _, refl, refl, (one.0, there.0, eqb-true one.0.number c (and_parts (one.0.number == c) _ one.2).0))
adds_one a G entered c call looks = inl refl

entry_adds : (a : About) (G : List Entry) (c : ℕ) (p : Posted) → (frames_by a G c p ≡ []) ⊎ Adds a G c p
entry_adds a G c p =
    elim (adds_one a G (sent a G c) c p.entry.call p.entry.looks) [
      | inl none ↦ inl (ap (map (at_place p.sent_at)) none)
      | inr one ↦ inr (record { sender = one.0; m = one.1; v = one.2; call = one.3; frame = ap (map (at_place p.sent_at)) one.4; to = one.5 })
    ]

-- ---- what entered an outbox

-- It is of this forward of an NPDU, by which c took it, which was live then.
pub record IsEntered (G : List Entry) (c : ℕ) (posted : List Posted) (f : Frame) : Type 0 where
  pub before : List Posted
  pub forward : Posted
  pub later : List Posted
  pub posted_is : posted ≡ before ++ forward ∷ later
  pub frame : Frame
  pub is_forward : IsForward forward frame
  pub place : f.sent_at ≡ frame.sent_at
  pub to : IsLiveAs (G ++ entries before) c

entered-first : (a : About) (G : List Entry) (c : ℕ) (p : Posted) (posted : List Posted) → Adds a G c p → (v : Vmac) (m : List ℕ) → (sender : ℕ) → p.entry.call ≡ Forward sender m
    → is_npdu (out m v) ≡ true
    → IsEntered G c (p ∷ posted) (record { octets = out m v; sent_at = p.sent_at })
entered-first a G c p posted adds v m sender call npdu = record {
  before = [];
  forward = p;
  later = posted;
  posted_is = refl;
  frame = record { octets = m; sent_at = p.sent_at };
  is_forward = record { conn = sender; call = call; place = refl; npdu = sym (out-npdu m v) ∙ npdu };
  place = refl;
  to = subst (λ (F : List Entry). IsLiveAs F c) (sym (append-nil G)) adds.to;
}

entered-later : (G : List Entry) (c : ℕ) (p : Posted) (posted : List Posted) (f : Frame) → IsEntered (G ++ p.entry ∷ []) c posted f → IsEntered G c (p ∷ posted) f
entered-later G c p posted f is = record {
  before = p ∷ is.before;
  forward = is.forward;
  later = is.later;
  posted_is = ap (λ (ps : List Posted). p ∷ ps) is.posted_is;
  frame = is.frame;
  is_forward = is.is_forward;
  place = is.place;
  to = subst (λ (F : List Entry). IsLiveAs F c) (append_assoc G (p.entry ∷ []) (entries is.before)) is.to;
}

-- Each NPDU that entered an outbox did so by a forward of an NPDU.
pub all-entered : (a : About) (G : List Entry) (c : ℕ) (posted : List Posted) → AllByRecursion (IsEntered G c posted) (npdus (frames_after a G c posted))
all-entered a G c [] = tt
all-entered a G c (p ∷ posted) = by (all-entered a (G ++ p.entry ∷ []) c posted) (entry_adds a G c p)
  where
    rest : List Frame
    rest = frames_after a (G ++ p.entry ∷ []) c posted

    later : AllByRecursion (IsEntered (G ++ p.entry ∷ []) c posted) (npdus rest) → AllByRecursion (IsEntered G c (p ∷ posted)) (npdus rest)
    later all = all-mapped (IsEntered (G ++ p.entry ∷ []) c posted) (IsEntered G c (p ∷ posted)) (entered-later G c p posted) (npdus rest) all

    by : AllByRecursion (IsEntered (G ++ p.entry ∷ []) c posted) (npdus rest) → (frames_by a G c p ≡ []) ⊎ Adds a G c p
        → AllByRecursion (IsEntered G c (p ∷ posted)) (npdus (frames_by a G c p ++ rest))
    by all (inl none) = subst (λ (fs : List Frame). AllByRecursion (IsEntered G c (p ∷ posted)) (npdus (fs ++ rest))) (sym none) (later all)
    by all (inr adds) =
        subst (λ (fs : List Frame). AllByRecursion (IsEntered G c (p ∷ posted)) (npdus (fs ++ rest))) (sym adds.frame)
        (npdus-one (IsEntered G c (p ∷ posted)) (record { octets = out adds.m adds.v; sent_at = p.sent_at }) rest (entered-first a G c p posted adds adds.v adds.m adds.sender adds.call) (later all))

-- ---- no two of one place

-- the entry at this index is a forward of this
abbrev pub ForwardIn : List Posted → ℕ → Frame → Type 0
ForwardIn posted p f = (q : Posted) × (slice_get posted p ≡ Some q) × IsForward q f

-- no two forwards of NPDUs have one place
abbrev pub ForwardsApart : List Posted → Type 0
ForwardsApart posted = (p : ℕ) (f : Frame) (r : ℕ) (g : Frame) → ForwardIn posted p f → ForwardIn posted r g → f.sent_at ≡ g.sent_at → p ≡ r

apart-tail : (p : Posted) (posted : List Posted) → ForwardsApart (p ∷ posted) → ForwardsApart posted
apart-tail p posted apart i f j g a b same = same_suc i j (apart (suc i) f (suc j) g a b same)

-- the forward by which it entered
pub forward_in : (G : List Entry) (c : ℕ) (posted : List Posted) (f : Frame) (is : IsEntered G c posted f) → ForwardIn posted (length is.before) is.frame
forward_in G c posted f is = (is.forward, ap (λ (ps : List Posted). slice_get ps (length is.before)) is.posted_is ∙ got-split is.before is.forward is.later, is.is_forward)

pub different-entered : (a : About) (G : List Entry) (c : ℕ) (posted : List Posted) → ForwardsApart posted → Different (npdus (frames_after a G c posted))
different-entered a G c [] apart = tt
different-entered a G c (p ∷ posted) apart = by (different-entered a (G ++ p.entry ∷ []) c posted (apart-tail p posted apart)) (entry_adds a G c p)
  where
    rest : List Frame
    rest = frames_after a (G ++ p.entry ∷ []) c posted

    never : (n : ℕ) → zero ≡ suc n → ⊥
    never n h = cc

    first : (adds : Adds a G c p) → is_npdu (out adds.m adds.v) ≡ true → AllByRecursion (λ (g : Frame). p.sent_at ≢ g.sent_at) (npdus rest)
    first adds npdu =
        all-mapped (IsEntered (G ++ p.entry ∷ []) c posted) (λ (g : Frame). p.sent_at ≢ g.sent_at)
        (λ g is same. never (length is.before) (apart zero (record { octets = adds.m; sent_at = p.sent_at }) (suc (length is.before)) is.frame
        (p, refl, record { conn = adds.sender; call = adds.call; place = refl; npdu = sym (out-npdu adds.m adds.v) ∙ npdu }) (forward_in (G ++ p.entry ∷ []) c posted g is) (same ∙ is.place)))
        (npdus rest) (all-entered a (G ++ p.entry ∷ []) c posted)

    by : Different (npdus rest) → (frames_by a G c p ≡ []) ⊎ Adds a G c p → Different (npdus (frames_by a G c p ++ rest))
    by later (inl none) = subst (λ (fs : List Frame). Different (npdus (fs ++ rest))) (sym none) later
    by later (inr adds) =
        subst (λ (fs : List Frame). Different (npdus (fs ++ rest))) (sym adds.frame)
        (different-one (record { octets = out adds.m adds.v; sent_at = p.sent_at }) rest (first adds) later)

-- ---- of a hub

pub frames-entered : (h : Hub) (c : ℕ) → AllByRecursion (IsEntered [] c h.posted) (npdus (frames h c))
unfolding frames_of
frames-entered h c = all-entered h.about [] c h.posted

pub frames-different : (h : Hub) (c : ℕ) → ForwardsApart h.posted → Different (npdus (frames h c))
unfolding frames_of
frames-different h c apart = different-entered h.about [] c h.posted apart
