-- What is kept goes on standing for what happened.
-- It serves clauses of functions of `direct`, `laws` and `path`.
use Rattle.std.proofs.Common.{◌≡◌, ◌<◌, ◌≤◌, ℕ, zero, suc, Bool, true, false, not, cond, ◌&&◌, List, [], ◌∷◌, ◌++◌, length, replicate, Option, Some, None, is_some, refl, ap, sym, ◌∙◌, subst, arith}
use Rattle.std.specs.Prelude.{◌==◌}
use Rattle.std.specs.List.{position}
use Rattle.std.proofs.Math.ListN.{set}
use Rattle.std.proofs.lemmas.Bool.{eqb-true, eqb-false, false_from_ne_true}
use Rattle.std.proofs.lemmas.Grind.{get_or-set_at}
use Rattle.std.proofs.lemmas.List.{get_or-set_other, length-set, get_or_past}
use Rattle.std.proofs.lemmas.List.Quantifiers.{position-Some}
use Rattle.bsc_octets.specs.declared.vmac.Vmac.{Vmac}
use Rattle.bsc_octets.specs.declared.device_id.DeviceId.{DeviceId}
use Rattle.bsc_octets.specs.declared.identity.Identity.{Identity}
use Rattle.bsc_octets.specs.Addresses.{same_vmac, same_device, broadcast}
use Rattle.bsc_direct.specs.declared.bounds.TheConstants.{SLOTS}
use Rattle.bsc_direct.specs.declared.slot.Slot.{Slot}
use Rattle.bsc_direct.specs.declared.slot.Slot.TheVariants.{Free, Claimed, Established}
use Rattle.bsc_direct.specs.declared.establish.Establish.{Establish}
use Rattle.bsc_direct.specs.declared.establish.Establish.TheVariants.{Up as IsUp, WrongPeer}
use Rattle.bsc_direct.specs.declared.call.SlotCall.{SlotCall}
use Rattle.bsc_direct.specs.declared.call.SlotCall.TheVariants.{Claim, Up, Release}
use Rattle.bsc_direct.specs.declared.direct.Direct.{Direct}
use Rattle.bsc_direct.specs.Slots.{replaces, is_claimed, wanted, established_peer, free_slot, is_peer, established_with, established, is_rival, unless_rival, unless_own}
use Rattle.bsc_direct.specs.Slots.{unless_wrong, establish, slots}
use Rattle.bsc_direct.specs.Laws.{PeersAreApart}
use Rattle.bsc_direct.specs.Kept.{says_claimed, says_wanted, says_peer, without_peer, slot_at, kept_with, establish_kept, slots_without, slots_up}
use Rattle.bsc_direct.specs.Standing.{SlotStands, DirectStands, StandsOn, IsClaimed, DirectAnswers, and_up}
use Rattle.bsc_direct.proofs.OneMore.{device_laws, claimed-kept, claimed-said, wanted-kept, wanted-said, unless_now, peer-more, peer-cleared, peer-up}
use Rattle.bsc_direct.proofs.Keeping.{HasNoRival, quiet-apart, quiet-unicast, up-apart, up-unicast}
use Rattle.bsc_direct.proofs.Finding.{none_passes, found_as_kept, none_found}
use Rattle.bsc_lemmas.proofs.Booleans.{and_false}
use Rattle.bsc_lemmas.proofs.Options.{some_none_any as some_none}
use Rattle.bsc_octets.proofs.Common.{device_same, vmac_same}

abbrev pub Stand : List Slot → List SlotCall → Type 0
Stand items calls = (k : ℕ) → SlotStands calls k (slot_at items k)

pub set_here : (xs : List Slot) (i k : ℕ) (s : Slot) → i < length xs → (i == k) ≡ true → slot_at (set xs i s) k ≡ s
set_here xs i k s within h = get_or-set_at xs i k s Free (sym (eqb-true i k h)) within

pub set_there : (xs : List Slot) (i k : ℕ) (s : Slot) → (i == k) ≡ false → slot_at (set xs i s) k ≡ slot_at xs k
set_there xs i k s h = get_or-set_other xs i k s Free (λ e. eqb-false i k h (sym e))

unless_quiet : (k : ℕ) (call : SlotCall) (o : Option Identity) → ((w : Identity) → replaces k w call ≡ false) → unless_now k call o ≡ o
unless_quiet k call None r = refl
unless_quiet k call (Some w) r = rw (r w) refl

-- ---- a slot is claimed, or released

claim_stands : (calls : List SlotCall) (items : List Slot) (slot : ℕ) (v : Option Vmac) → slot < length items → Stand items calls → Stand (set items slot (Claimed v)) (calls ++ Claim slot v ∷ [])
claim_stands calls items slot v within st k = by (slot == k) refl
  where
    by : (b : Bool) → (slot == k) ≡ b → SlotStands (calls ++ Claim slot v ∷ []) k (slot_at (set items slot (Claimed v)) k)
    by true h = subst (λ (s : Slot). SlotStands (calls ++ Claim slot v ∷ []) k s) (sym (set_here items slot k (Claimed v) within h)) (record {
      claimed = claimed-said calls (Claim slot v) k true (ap (λ (b : Bool). cond b (Some true) None) h);
      wanted = wanted-said calls (Claim slot v) k v (ap (λ (b : Bool). cond b (Some v) None) h);
      peer = peer-cleared calls k (Claim slot v) (ap (λ (b : Bool). is_some (cond b (Some true) None)) h);
    })
    by false h = subst (λ (s : Slot). SlotStands (calls ++ Claim slot v ∷ []) k s) (sym (set_there items slot k (Claimed v) h)) (record {
      claimed = claimed-kept calls (Claim slot v) k (ap (λ (b : Bool). cond b (Some true) None) h) ∙ (st k).claimed;
      wanted = wanted-kept calls (Claim slot v) k (ap (λ (b : Bool). cond b (Some v) None) h) ∙ (st k).wanted;
      peer = peer-more calls k (Claim slot v) (ap (λ (b : Bool). is_some (cond b (Some true) None)) h) refl ∙ unless_quiet k (Claim slot v) (established_peer calls k) (λ w. refl) ∙ (st k).peer;
    })

freed : (calls : List SlotCall) (slot k : ℕ) → (slot == k) ≡ true → SlotStands (calls ++ Release slot ∷ []) k Free
freed calls slot k h = record {
  claimed = claimed-said calls (Release slot) k false (ap (λ (b : Bool). cond b (Some false) None) h);
  wanted = wanted-said calls (Release slot) k None (ap (λ (b : Bool). cond b (Some None) None) h);
  peer = peer-cleared calls k (Release slot) (ap (λ (b : Bool). is_some (cond b (Some false) None)) h);
}

stays : (calls : List SlotCall) (slot k : ℕ) (s : Slot) → (slot == k) ≡ false → SlotStands calls k s → SlotStands (calls ++ Release slot ∷ []) k s
stays calls slot k s h st = record {
  claimed = claimed-kept calls (Release slot) k (ap (λ (b : Bool). cond b (Some false) None) h) ∙ st.claimed;
  wanted = wanted-kept calls (Release slot) k (ap (λ (b : Bool). cond b (Some None) None) h) ∙ st.wanted;
  peer = peer-more calls k (Release slot) (ap (λ (b : Bool). is_some (cond b (Some false) None)) h) refl ∙ unless_quiet k (Release slot) (established_peer calls k) (λ w. refl) ∙ st.peer;
}

release_stands : (calls : List SlotCall) (items : List Slot) (slot : ℕ) → slot < length items → Stand items calls → Stand (set items slot Free) (calls ++ Release slot ∷ [])
release_stands calls items slot within st k = by (slot == k) refl
  where
    by : (b : Bool) → (slot == k) ≡ b → SlotStands (calls ++ Release slot ∷ []) k (slot_at (set items slot Free) k)
    by true h = subst (λ (s : Slot). SlotStands (calls ++ Release slot ∷ []) k s) (sym (set_here items slot k Free within h)) (freed calls slot k h)
    by false h = subst (λ (s : Slot). SlotStands (calls ++ Release slot ∷ []) k s) (sym (set_there items slot k Free h)) (stays calls slot k (slot_at items k) h (st k))

-- there is no such slot
past_stands : (calls : List SlotCall) (items : List Slot) (slot : ℕ) → length items ≤ slot → Stand items calls → Stand items (calls ++ Release slot ∷ [])
past_stands calls items slot past st k = by (slot == k) refl
  where
    by : (b : Bool) → (slot == k) ≡ b → SlotStands (calls ++ Release slot ∷ []) k (slot_at items k)
    by true h = subst (λ (s : Slot). SlotStands (calls ++ Release slot ∷ []) k s) (sym (get_or_past items k Free (let e : slot ≡ k = eqb-true slot k h in omega arith))) (freed calls slot k h)
    by false h = stays calls slot k (slot_at items k) h (st k)

-- ---- a slot comes up

pub keeps_claimed : (s : Slot) → says_claimed (without_peer s) ≡ says_claimed s
keeps_claimed Free = refl
keeps_claimed (Claimed v) = refl
keeps_claimed (Established v who) = refl

keeps_wanted : (s : Slot) → says_wanted (without_peer s) ≡ says_wanted s
keeps_wanted Free = refl
keeps_wanted (Claimed v) = refl
keeps_wanted (Established v who) = refl

pub loses_peer : (s : Slot) → says_peer (without_peer s) ≡ None
loses_peer Free = refl
loses_peer (Claimed v) = refl
loses_peer (Established v who) = refl

abbrev pub Within : Option ℕ → List Slot → Type 0
Within replaced items = (j : ℕ) → replaced ≡ Some j → j < length items

-- what a slot's loss of its peer leaves as it was
pub without_same : {A : Type 0} (f : Slot → A) (replaced : Option ℕ) (items : List Slot) (k : ℕ) → ((s : Slot) → f (without_peer s) ≡ f s) → Within replaced items
    → f (slot_at (slots_without replaced items) k) ≡ f (slot_at items k)
without_same f None items k keeps within = refl
without_same f (Some r) items k keeps within = by (r == k) refl
  where
    by : (b : Bool) → (r == k) ≡ b → f (slot_at (set items r (without_peer (slot_at items r))) k) ≡ f (slot_at items k)
    by true h = ap f (set_here items r k (without_peer (slot_at items r)) (within r refl) h) ∙ keeps (slot_at items r) ∙ ap (λ (j : ℕ). f (slot_at items j)) (eqb-true r k h)
    by false h = ap f (set_there items r k (without_peer (slot_at items r)) h)

pub length_without : (replaced : Option ℕ) (items : List Slot) → length (slots_without replaced items) ≡ length items
length_without None items = refl
length_without (Some r) items = length-set items r (without_peer (slot_at items r))

peer_there : (test : Identity → Bool) (o : Option Identity) → is_peer test o ≡ true → (x : Identity) × (o ≡ Some x) × (test x ≡ true)
peer_there test None h = cc
peer_there test (Some x) h = (x, refl, h)

-- another device stays
beside : (slot k : ℕ) (who : Identity) (o : Option Identity) → ((z : Identity) → o ≡ Some z → same_device who.device z.device ≡ false) → unless_now k (Up slot who) o ≡ o
beside slot k who None free = refl
beside slot k who (Some z) free = ap (λ (b : Bool). cond b None (Some z)) (ap (λ (b : Bool). not (slot == k) && b) (free z refl) ∙ and_false (not (slot == k)))

-- the same device is replaced
gone : (slot k : ℕ) (who : Identity) (o : Option Identity) → (slot == k) ≡ false → ((z : Identity) → o ≡ Some z → same_device who.device z.device ≡ true) → unless_now k (Up slot who) o ≡ None
gone slot k who None n same = refl
gone slot k who (Some z) n same = ap (λ (b : Bool). cond b None (Some z)) (ap (λ (b : Bool). not b && same_device who.device z.device) n ∙ same z refl)

abbrev pub by_device : Identity → Identity → Bool
by_device who peer = same_device peer.device who.device

-- the peer of another slot once this one came up
peer_after : (calls : List SlotCall) (items : List Slot) (slot k : ℕ) (who : Identity) (replaced : Option ℕ) → Stand items calls → PeersAreApart calls → Within replaced items
    → kept_with (by_device who) items ≡ replaced → (slot == k) ≡ false
    → established_peer (calls ++ Up slot who ∷ []) k ≡ says_peer (slot_at (slots_without replaced items) k)
peer_after calls items slot k who replaced st apart within is n =
    peer-more calls k (Up slot who) refl (ap (λ (b : Bool). cond b (Some who) None) n)
    ∙ ap (unless_now k (Up slot who)) (st k).peer
    ∙ by replaced is within
  where
    p : Slot → Bool
    p s = is_peer (by_device who) (says_peer s)

    free_none : kept_with (by_device who) items ≡ None → (z : Identity) → says_peer (slot_at items k) ≡ Some z → same_device who.device z.device ≡ false
    free_none none z e = device_laws.symm who.device z.device ∙ ap (is_peer (by_device who)) (sym e) ∙ none_passes (λ (s : Slot). is_peer (by_device who) (says_peer s)) Free items refl none k

    there : (r : ℕ) → kept_with (by_device who) items ≡ Some r → is_peer (by_device who) (says_peer (slot_at items r)) ≡ true
    there r some = (position-Some (λ (s : Slot). is_peer (by_device who) (says_peer s)) items r Free some).1

    free_other : (r : ℕ) → is_peer (by_device who) (says_peer (slot_at items r)) ≡ true → (r == k) ≡ false → (z : Identity) → says_peer (slot_at items k) ≡ Some z
        → same_device who.device z.device ≡ false
    free_other r here m z e =
        let x = peer_there (by_device who) (says_peer (slot_at items r)) here in
        subst (λ (d : DeviceId). same_device d z.device ≡ false) (device_same x.0.device who.device x.2) (apart r k x.0 z m ((st r).peer ∙ x.1) ((st k).peer ∙ e)).1

    same_here : (r : ℕ) → is_peer (by_device who) (says_peer (slot_at items r)) ≡ true → (r == k) ≡ true → (z : Identity) → says_peer (slot_at items k) ≡ Some z
        → same_device who.device z.device ≡ true
    same_here r here m z e =
        device_laws.symm who.device z.device ∙ ap (is_peer (by_device who)) (sym e) ∙ ap (λ (j : ℕ). is_peer (by_device who) (says_peer (slot_at items j))) (sym (eqb-true r k m)) ∙ here

    at_place : (r : ℕ) (b : Bool) → (r == k) ≡ b → is_peer (by_device who) (says_peer (slot_at items r)) ≡ true → r < length items
        → unless_now k (Up slot who) (says_peer (slot_at items k)) ≡ says_peer (slot_at (set items r (without_peer (slot_at items r))) k)
    at_place r true m here in_list = gone slot k who (says_peer (slot_at items k)) n (same_here r here m)
        ∙ sym (ap says_peer (set_here items r k (without_peer (slot_at items r)) in_list m) ∙ loses_peer (slot_at items r))
    at_place r false m here in_list = beside slot k who (says_peer (slot_at items k)) (free_other r here m) ∙ sym (ap says_peer (set_there items r k (without_peer (slot_at items r)) m))

    by : (o : Option ℕ) → kept_with (by_device who) items ≡ o → Within o items → unless_now k (Up slot who) (says_peer (slot_at items k)) ≡ says_peer (slot_at (slots_without o items) k)
    by None none w = beside slot k who (says_peer (slot_at items k)) (free_none none)
    by (Some r) some w = at_place r (r == k) refl (there r some) (w r refl)

up_stands : (calls : List SlotCall) (items : List Slot) (slot : ℕ) (who : Identity) (replaced : Option ℕ) → Stand items calls → PeersAreApart calls → Within replaced items
    → kept_with (by_device who) items ≡ replaced
    → slot < length items → says_claimed (slot_at items slot) ≡ true → Stand (slots_up slot who replaced items) (calls ++ Up slot who ∷ [])
up_stands calls items slot who replaced st apart within is here claimed k = by (slot == k) refl
  where
    without : List Slot
    without = slots_without replaced items

    up : Slot
    up = Established (says_wanted (slot_at (slots_without replaced items) slot)) who

    by : (b : Bool) → (slot == k) ≡ b → SlotStands (calls ++ Up slot who ∷ []) k (slot_at (slots_up slot who replaced items) k)
    by true h =
        let e : slot ≡ k = eqb-true slot k h in
        let c : says_claimed (slot_at items k) ≡ true = ap (λ (j : ℕ). says_claimed (slot_at items j)) (sym e) ∙ claimed in
        subst (λ (s : Slot). SlotStands (calls ++ Up slot who ∷ []) k s)
        (sym (set_here (slots_without replaced items) slot k (Established (says_wanted (slot_at (slots_without replaced items) slot)) who)
        (subst (λ (n : ℕ). slot < n) (sym (length_without replaced items)) here) h))
        (record {
          claimed = claimed-kept calls (Up slot who) k refl ∙ (st k).claimed ∙ c;
          wanted = wanted-kept calls (Up slot who) k refl ∙ (st k).wanted ∙ ap (λ (j : ℕ). says_wanted (slot_at items j)) (sym e)
              ∙ sym (without_same says_wanted replaced items slot keeps_wanted within);
          peer = peer-up calls k (Up slot who) who refl (ap (λ (b : Bool). cond b (Some who) None) h);
        })
    by false h =
        subst (λ (s : Slot). SlotStands (calls ++ Up slot who ∷ []) k s)
        (sym (set_there (slots_without replaced items) slot k (Established (says_wanted (slot_at (slots_without replaced items) slot)) who) h))
        (record {
          claimed = claimed-kept calls (Up slot who) k refl ∙ (st k).claimed ∙ sym (without_same says_claimed replaced items k keeps_claimed within);
          wanted = wanted-kept calls (Up slot who) k refl ∙ (st k).wanted ∙ sym (without_same says_wanted replaced items k keeps_wanted within);
          peer = peer_after calls items slot k who replaced st apart within is h;
        })

-- ---- what looking finds

kept_as_told : (calls : List SlotCall) (items : List Slot) (test : Identity → Bool) → length items ≡ SLOTS → Stand items calls → kept_with test items ≡ established_with test calls
kept_as_told calls items test len st = found_as_kept (λ (s : Slot). is_peer test (says_peer s)) (λ (k : ℕ). is_peer test (established_peer calls k)) Free items len
    (λ k. ap (is_peer test) (sym (st k).peer))

pub answer_is : (calls : List SlotCall) (items : List Slot) (own : Vmac) (slot : ℕ) (who : Identity) → length items ≡ SLOTS → Stand items calls
    → establish_kept own items slot who ≡ establish own calls slot who
answer_is calls items own slot who len st =
    ap (λ (w : Option Vmac). unless_wrong w who (unless_own (same_vmac who.vmac own) (unless_rival (kept_with (is_rival who) items) (kept_with (by_device who) items)))) (sym (st slot).wanted)
    ∙ ap (λ (r : Option ℕ). unless_wrong (wanted calls slot) who (unless_own (same_vmac who.vmac own) (unless_rival r (kept_with (by_device who) items))))
    (kept_as_told calls items (is_rival who) len st)
    ∙ ap (λ (d : Option ℕ). unless_wrong (wanted calls slot) who (unless_own (same_vmac who.vmac own) (unless_rival (established_with (is_rival who) calls) d)))
    (kept_as_told calls items (by_device who) len st)

no_rivals : (calls : List SlotCall) (items : List Slot) (who : Identity) → Stand items calls → kept_with (is_rival who) items ≡ None → HasNoRival calls who
no_rivals calls items who st none k y e =
    ap (is_peer (is_rival who)) (sym e ∙ (st k).peer) ∙ none_passes (λ (s : Slot). is_peer (is_rival who) (says_peer s)) Free items refl none k

up_unless : (own : Bool) (o d r : Option ℕ) → unless_own own (unless_rival o d) ≡ IsUp r → (o ≡ None) × (d ≡ r)
up_unless true o d r h = cc
up_unless false (Some x) d r h = cc
up_unless false None d r h = (refl, cc)

pub up_by : (w : Option Vmac) (who : Identity) (own : Bool) (o d r : Option ℕ) → unless_wrong w who (unless_own own (unless_rival o d)) ≡ IsUp r → (o ≡ None) × (d ≡ r)
up_by None who own o d r h = up_unless own o d r h
up_by (Some v) who own o d r h = by (same_vmac v who.vmac) h
  where
    by : (b : Bool) → cond b (unless_own own (unless_rival o d)) (WrongPeer v) ≡ IsUp r → (o ≡ None) × (d ≡ r)
    by true g = up_unless own o d r g
    by false g = cc

-- ---- the calls

free_at : (n k : ℕ) → slot_at (replicate n Free) k ≡ Free
free_at zero k = refl
free_at (suc n) zero = refl
free_at (suc n) (suc k) = free_at n k

pub made : (d : Direct) → d.slots.items ≡ replicate SLOTS Free → DirectStands d []
made d items = record {
  slots = λ k. subst (λ (l : List Slot). SlotStands [] k (slot_at l k)) (sym items)
      (subst (λ (s : Slot). SlotStands [] k s) (sym (free_at SLOTS k)) (record { claimed = refl; wanted = refl; peer = refl }));
  apart = λ i j x y n hi hj. some_none x (sym hi);
  unicast = λ k who h. some_none who (sym h);
}

pub claimed_slot : (old new : Direct) (slot : ℕ) (v : Option Vmac) → length old.slots.items ≡ SLOTS → position (λ s. not (says_claimed s)) old.slots.items ≡ Some slot
    → new.slots.items ≡ set old.slots.items slot (Claimed v) → IsClaimed old new slot v
claimed_slot old new slot v len placed items calls s =
    let es = old.slots.items in (
      sym (found_as_kept (λ (x : Slot). not (says_claimed x)) (λ (k : ℕ). not (is_claimed calls k)) Free es len (λ k. ap not (sym (s.slots k).claimed))) ∙ placed,
      record {
        slots = subst (λ (l : List Slot). Stand l (calls ++ Claim slot v ∷ [])) (sym items)
            (claim_stands calls es slot v (position-Some (λ (x : Slot). not (says_claimed x)) es slot Free placed).0 s.slots);
        apart = quiet-apart calls (Claim slot v) (λ k. refl) (λ k w. refl) s.apart;
        unicast = quiet-unicast calls (Claim slot v) (λ k. refl) (λ k w. refl) s.unicast;
      },
    )

pub none_free : (old : Direct) (calls : List SlotCall) → length old.slots.items ≡ SLOTS → position (λ s. not (says_claimed s)) old.slots.items ≡ None → DirectStands old calls → free_slot calls ≡ None
none_free old calls len placed s = sym (found_as_kept (λ (x : Slot). not (says_claimed x)) (λ (k : ℕ). not (is_claimed calls k)) Free old.slots.items len
    (λ k. ap not (sym (s.slots k).claimed))) ∙ placed

pub released : (old new : Direct) (slot : ℕ) → slot < length old.slots.items → new.slots.items ≡ set old.slots.items slot Free → StandsOn old new (Release slot)
released old new slot within items calls s = record {
  slots = subst (λ (l : List Slot). Stand l (calls ++ Release slot ∷ [])) (sym items) (release_stands calls old.slots.items slot within s.slots);
  apart = quiet-apart calls (Release slot) (λ k. refl) (λ k w. refl) s.apart;
  unicast = quiet-unicast calls (Release slot) (λ k. refl) (λ k w. refl) s.unicast;
}

pub released_past : (old : Direct) (slot : ℕ) → length old.slots.items ≤ slot → StandsOn old old (Release slot)
released_past old slot past calls s = record {
  slots = past_stands calls old.slots.items slot past s.slots;
  apart = quiet-apart calls (Release slot) (λ k. refl) (λ k w. refl) s.apart;
  unicast = quiet-unicast calls (Release slot) (λ k. refl) (λ k w. refl) s.unicast;
}

pub came_up : (old new : Direct) (own : Vmac) (slot : ℕ) (who : Identity) (replaced : Option ℕ) → length old.slots.items ≡ SLOTS → slot < SLOTS
    → says_claimed (slot_at old.slots.items slot) ≡ true → same_vmac who.vmac broadcast ≡ false
    → establish_kept own old.slots.items slot who ≡ IsUp replaced → new.slots.items ≡ slots_up slot who replaced old.slots.items → DirectAnswers old new own slot who (IsUp replaced)
came_up old new own slot who replaced len within claimed unicast is items calls s =
    let es = old.slots.items in
    let u = up_by (says_wanted (slot_at es slot)) who (same_vmac who.vmac own) (kept_with (is_rival who) es) (kept_with (by_device who) es) replaced is in
    let inside : Within replaced es = λ j e. (position-Some (λ (x : Slot). is_peer (by_device who) (says_peer x)) es j Free (u.1 ∙ e)).0 in (
      sym is ∙ answer_is calls es own slot who len s.slots,
      record {
        slots = subst (λ (l : List Slot). Stand l (calls ++ Up slot who ∷ [])) (sym items) (up_stands calls es slot who replaced s.slots s.apart inside u.1 (omega arith) claimed);
        apart = up-apart calls slot who s.apart (no_rivals calls es who s.slots u.0);
        unicast = up-unicast calls slot who s.unicast unicast;
      },
    )

pub stays_down : (old : Direct) (own : Vmac) (slot : ℕ) (who : Identity) (answer : Establish) → length old.slots.items ≡ SLOTS → establish_kept own old.slots.items slot who ≡ answer
    → ((calls : List SlotCall) → and_up answer calls slot who ≡ calls) → DirectAnswers old old own slot who answer
stays_down old own slot who answer len is same calls s = (sym is ∙ answer_is calls old.slots.items own slot who len s.slots, subst (DirectStands old) (sym (same calls)) s)

pub established_is : (d : Direct) (v : Vmac) (calls : List SlotCall) → length d.slots.items ≡ SLOTS → DirectStands d calls → kept_with (λ who. same_vmac who.vmac v) d.slots.items ≡ established calls v
established_is d v calls len s = kept_as_told calls d.slots.items (λ who. same_vmac who.vmac v) len s.slots

-- ---- the broadcast

pub is_unicast : (who : Identity) → (who.vmac ≡ broadcast → ⊥) → same_vmac who.vmac broadcast ≡ false
is_unicast who n = false_from_ne_true (same_vmac who.vmac broadcast) (λ h. n (vmac_same who.vmac broadcast h))

pub never_broadcast : (d : Direct) (calls : List SlotCall) → DirectStands d calls → established calls broadcast ≡ None
never_broadcast d calls s = none_found (λ (k : ℕ). is_peer (λ who. same_vmac who.vmac broadcast) (established_peer calls k)) slots (λ k. by k (established_peer calls k) refl)
  where
    by : (k : ℕ) (o : Option Identity) → established_peer calls k ≡ o → is_peer (λ who. same_vmac who.vmac broadcast) o ≡ false
    by k None e = refl
    by k (Some who) e = s.unicast k who e
