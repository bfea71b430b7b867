-- How a slot changes by one call more.
-- It serves clauses of functions of `direct`, `laws` and `path`.
use Rattle.std.proofs.Common.{◌≡◌, ℕ, Bool, true, false, not, cond, ◌||◌, ◌&&◌, List, [], ◌∷◌, ◌++◌, Option, Some, None, is_some, refl, ap, sym, ◌∙◌, subst}
use Rattle.std.specs.Prelude.{◌==◌, unwrap_or}
use Rattle.std.specs.List.{list_any}
use Rattle.std.specs.Option.{option_or}
use Rattle.std.specs.Cmp.{IsEquivalence}
use Rattle.std.specs.Cmp.Lexicographic.{on_texts_equal}
use Rattle.bsc_octets.specs.declared.vmac.Vmac.{Vmac}
use Rattle.bsc_octets.specs.declared.device_id.DeviceId.{DeviceId}
use Rattle.bsc_octets.specs.declared.identity.Identity.{Identity}
use Rattle.bsc_octets.specs.Addresses.{same_device}
use Rattle.bsc_connector.specs.Back.{newest_of, since}
use Rattle.bsc_connector.proofs.BackLemmas.{newest_of-more, since-more, list_any-more}
use Rattle.bsc_direct.specs.declared.call.SlotCall.{SlotCall}
use Rattle.bsc_direct.specs.declared.call.SlotCall.TheVariants.{Up}
use Rattle.bsc_direct.specs.Slots.{claim_said, wanted_by, clears, peer_by, replaces, is_up_call, is_claimed, wanted, unless_replaced, established_peer}
use Rattle.bsc_lemmas.proofs.Options.{some_none_any as some_none}
use Rattle.std.proofs.lemmas.Option.{same_Some as some_same}

pub device_laws : IsEquivalence same_device
device_laws = on_texts_equal (λ (d : DeviceId). d.0)

pub both_ways : {B : Type 0} (b : Bool) → b ≡ true → b ≡ false → B
both_ways b h k = cc

-- ---- claims

pub claimed-more : (calls : List SlotCall) (call : SlotCall) (k : ℕ) → is_claimed (calls ++ call ∷ []) k ≡ unwrap_or (option_or (claim_said k call) (newest_of (claim_said k) calls)) false
claimed-more calls call k = ap (λ o. unwrap_or o false) (newest_of-more (claim_said k) calls call)

pub claimed-kept : (calls : List SlotCall) (call : SlotCall) (k : ℕ) → claim_said k call ≡ None → is_claimed (calls ++ call ∷ []) k ≡ is_claimed calls k
claimed-kept calls call k h = claimed-more calls call k ∙ ap (λ o. unwrap_or (option_or o (newest_of (claim_said k) calls)) false) h

pub claimed-said : (calls : List SlotCall) (call : SlotCall) (k : ℕ) (b : Bool) → claim_said k call ≡ Some b → is_claimed (calls ++ call ∷ []) k ≡ b
claimed-said calls call k b h = claimed-more calls call k ∙ ap (λ o. unwrap_or (option_or o (newest_of (claim_said k) calls)) false) h

pub wanted-more : (calls : List SlotCall) (call : SlotCall) (k : ℕ) → wanted (calls ++ call ∷ []) k ≡ unwrap_or (option_or (wanted_by k call) (newest_of (wanted_by k) calls)) None
wanted-more calls call k = ap (λ o. unwrap_or o None) (newest_of-more (wanted_by k) calls call)

pub wanted-kept : (calls : List SlotCall) (call : SlotCall) (k : ℕ) → wanted_by k call ≡ None → wanted (calls ++ call ∷ []) k ≡ wanted calls k
wanted-kept calls call k h = wanted-more calls call k ∙ ap (λ o. unwrap_or (option_or o (newest_of (wanted_by k) calls)) None) h

pub wanted-said : (calls : List SlotCall) (call : SlotCall) (k : ℕ) (v : Option Vmac) → wanted_by k call ≡ Some v → wanted (calls ++ call ∷ []) k ≡ v
wanted-said calls call k v h = wanted-more calls call k ∙ ap (λ o. unwrap_or (option_or o (newest_of (wanted_by k) calls)) None) h

-- ---- peers

-- the peer that came up in the slot since it was claimed, replaced or not
abbrev peer_since : List SlotCall → ℕ → Option Identity
peer_since calls k = newest_of (peer_by k) (since (clears k) calls)

since-kept : (test : SlotCall → Bool) (calls : List SlotCall) (call : SlotCall) → test call ≡ false → since test (calls ++ call ∷ []) ≡ since test calls ++ call ∷ []
since-kept test calls call h = since-more test calls call ∙ rw h refl

since-none : (test : SlotCall → Bool) (calls : List SlotCall) (call : SlotCall) → test call ≡ true → since test (calls ++ call ∷ []) ≡ []
since-none test calls call h = since-more test calls call ∙ rw h refl

-- the peer, unless the call replaces it
abbrev pub unless_now : ℕ → SlotCall → Option Identity → Option Identity
unless_now k call None = None
unless_now k call (Some who) = cond (replaces k who call) None (Some who)

unless-more : (calls : List SlotCall) (k : ℕ) (call : SlotCall) (o : Option Identity) → peer_by k call ≡ None → unless_replaced k (calls ++ call ∷ []) o ≡ unless_now k call (unless_replaced k calls o)
unless-more calls k call None p = refl
unless-more calls k call (Some who) p =
    rw (ap (λ (xs : List SlotCall). list_any (replaces k who) xs) (since-kept (is_up_call k) calls call (ap (λ (o : Option Identity). is_some o) p))
    ∙ list_any-more (replaces k who) (since (is_up_call k) calls) call)
    (by (list_any (replaces k who) (since (is_up_call k) calls)))
  where
    by : (b : Bool) → cond (b || replaces k who call) None (Some who) ≡ unless_now k call (cond b None (Some who))
    by true = refl
    by false = refl

-- A call that is about another slot can only replace the peer.
pub peer-more : (calls : List SlotCall) (k : ℕ) (call : SlotCall) → clears k call ≡ false → peer_by k call ≡ None
    → established_peer (calls ++ call ∷ []) k ≡ unless_now k call (established_peer calls k)
peer-more calls k call c p =
    let s : peer_since (calls ++ call ∷ []) k ≡ peer_since calls k =
    ap (λ (xs : List SlotCall). newest_of (peer_by k) xs) (since-kept (clears k) calls call c)
    ∙ newest_of-more (peer_by k) (since (clears k) calls) call
    ∙ ap (λ (o : Option Identity). option_or o (peer_since calls k)) p in
    ap (λ (o : Option Identity). unless_replaced k (calls ++ call ∷ []) o) s ∙ unless-more calls k call (peer_since calls k) p

-- A call that claims or releases the slot leaves it without a peer.
pub peer-cleared : (calls : List SlotCall) (k : ℕ) (call : SlotCall) → clears k call ≡ true → established_peer (calls ++ call ∷ []) k ≡ None
peer-cleared calls k call c = ap (λ (xs : List SlotCall). unless_replaced k (calls ++ call ∷ []) (newest_of (peer_by k) xs)) (since-none (clears k) calls call c)

-- The slot that comes up has its peer.
pub peer-up : (calls : List SlotCall) (k : ℕ) (call : SlotCall) (who : Identity) → clears k call ≡ false → peer_by k call ≡ Some who → established_peer (calls ++ call ∷ []) k ≡ Some who
peer-up calls k call who c p =
    let s : peer_since (calls ++ call ∷ []) k ≡ Some who =
    ap (λ (xs : List SlotCall). newest_of (peer_by k) xs) (since-kept (clears k) calls call c)
    ∙ newest_of-more (peer_by k) (since (clears k) calls) call
    ∙ ap (λ (o : Option Identity). option_or o (peer_since calls k)) p in
    ap (λ (o : Option Identity). unless_replaced k (calls ++ call ∷ []) o) s
    ∙ ap (λ (xs : List SlotCall). cond (list_any (replaces k who) xs) None (Some who)) (since-none (is_up_call k) calls call (ap (λ (o : Option Identity). is_some o) p))

-- ---- a call that establishes nothing

-- a peer that is there after the call was there before it
pub peer-before : (calls : List SlotCall) (k : ℕ) (call : SlotCall) (who : Identity) → peer_by k call ≡ None → ((w : Identity) → replaces k w call ≡ false)
    → established_peer (calls ++ call ∷ []) k ≡ Some who → established_peer calls k ≡ Some who
peer-before calls k call who p r h = by (clears k call) refl
  where
    same : (o : Option Identity) → unless_now k call o ≡ o
    same None = refl
    same (Some w) = rw (r w) refl

    by : (b : Bool) → clears k call ≡ b → established_peer calls k ≡ Some who
    by true c = some_none who (sym h ∙ peer-cleared calls k call c)
    by false c = sym (same (established_peer calls k)) ∙ sym (peer-more calls k call c p) ∙ h

-- a peer of another slot that is there after a slot came up was there before, and is another device
pub peer-beside : (calls : List SlotCall) (slot k : ℕ) (who y : Identity) → (slot == k) ≡ false → established_peer (calls ++ Up slot who ∷ []) k ≡ Some y
    → (established_peer calls k ≡ Some y) × (same_device who.device y.device ≡ false)
peer-beside calls slot k who y n h =
    by (established_peer calls k) (sym (peer-more calls k (Up slot who) refl (ap (λ (b : Bool). cond b (Some who) None) n)) ∙ h)
  where
    here : (z : Identity) (b : Bool) → same_device who.device z.device ≡ b → cond (not (slot == k) && b) None (Some z) ≡ Some y → (Some z ≡ Some y) × (same_device who.device y.device ≡ false)
    here z true s g = let q : None ≡ Some y = ap (λ (c : Bool). cond (not c && true) None (Some z)) (sym n) ∙ g in some_none y (sym q)
    here z false s g =
        let q : Some z ≡ Some y = ap (λ (c : Bool). cond (not c && false) None (Some z)) (sym n) ∙ g in
        (q, subst (λ (w : Identity). same_device who.device w.device ≡ false) (some_same z y q) s)

    by : (o : Option Identity) → unless_now k (Up slot who) o ≡ Some y → (o ≡ Some y) × (same_device who.device y.device ≡ false)
    by None g = some_none y (sym g)
    by (Some z) g = here z (same_device who.device z.device) refl g
