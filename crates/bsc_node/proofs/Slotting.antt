-- The established slots of a node: they stay apart, none has the broadcast address, and each is one of the node's.
-- It serves the clauses of `broadcasts_keep_off_slots`, `draws_last` and `slots_keep_apart`.
use Rattle.std.proofs.Common.{◌≡◌, ℕ, Bool, true, false, cond, ◌||◌, List, [], ◌∷◌, ◌++◌, find, Option, Some, None, refl, ap, sym, ◌∙◌, subst}
use Rattle.std.specs.Prelude.{◌==◌, filter_map}
use Rattle.std.specs.List.{list_all, list_any}
use Rattle.std.proofs.lemmas.Bool.{eqb-true}
use Rattle.std.proofs.lemmas.List.{append-nil, append_assoc}
use Rattle.std.proofs.lemmas.List.Elements.{filter_map-append}
use Rattle.bsc_octets.specs.declared.vmac.Vmac.{Vmac}
use Rattle.bsc_octets.specs.declared.identity.Identity.{Identity}
use Rattle.bsc_octets.specs.Addresses.{same_vmac, broadcast}
use Rattle.bsc_direct.specs.declared.call.SlotCall.{SlotCall}
use Rattle.bsc_direct.specs.declared.call.SlotCall.TheVariants.{Claim, Up, Release}
use Rattle.bsc_direct.specs.declared.establish.Establish.{Establish}
use Rattle.bsc_direct.specs.declared.establish.Establish.TheVariants.{Up as IsUp, Duplicate, WrongPeer}
use Rattle.bsc_direct.specs.Slots.{slots, established_peer, is_peer, is_rival, rival, of_device, unless_rival, unless_own, unless_wrong}
use Rattle.bsc_direct.specs.Slots as Slots
use Rattle.bsc_direct.specs.Laws.{PeersAreApart}
use Rattle.bsc_direct.specs.Standing.{PeersAreUnicast}
use Rattle.bsc_direct.proofs.OneMore.{peer-before, peer-beside}
use Rattle.bsc_direct.proofs.Keeping.{HasNoRival, quiet-apart, quiet-unicast, up-apart, up-unicast}
use Rattle.bsc_node.specs.declared.link_name.LinkName.{LinkName}
use Rattle.bsc_node.specs.declared.link_name.LinkName.TheVariants.{Direct}
use Rattle.bsc_node.specs.declared.note.Note.TheVariants.{DirectUp}
use Rattle.bsc_node.specs.declared.action.Action.TheVariants.{Put, Close}
use Rattle.bsc_node.specs.Logs.{Made, Line, slot, Log, if_so, does, tells, own_vmac}
use Rattle.bsc_node.specs.Links.{was_taken, Outcome, puts, puts_and_closes, closes, meets, is_refused, passes_up, keeps_still, outcome, is_in_slots}
use Rattle.bsc_node.specs.Ways.{slot_call_of, slot_calls, awaits_peer, establish, slots_see}
use Rattle.bsc_node.specs.Ending.{carries_out, carries_out_by, closes_link}
use Rattle.bsc_node.specs.Meeting.{joins, finishes_replaced, comes_up, meets_dialled, meets_taken, meets_slot, meets_direct, wrong_peer}
use Rattle.bsc_node.proofs.Order.{brought, in_order-brought}
use Rattle.bsc_node.proofs.Passing.{pass-brought}
use Rattle.bsc_node.proofs.Quiet.{is_quiet_call, quiet-closes_link}
use Rattle.bsc_node.proofs.Heard.{LetsQuiet, lets-rule, pass-after_up, pass-refused}
use Rattle.bsc_lemmas.proofs.Booleans.{and_left, and_right}

-- ---- calls

-- What holds of the slots, whatever was told to them.
pub record SlotsFine (calls : List SlotCall) : Type 0 where
  pub apart : PeersAreApart calls
  pub unicast : PeersAreUnicast calls
  pub within : (k : ℕ) (who : Identity) → established_peer calls k ≡ Some who → is_in_slots k ≡ true

fine_quietly : (calls : List SlotCall) (call : SlotCall) → ((k : ℕ) → Slots.peer_by k call ≡ None) → ((k : ℕ) (w : Identity) → Slots.replaces k w call ≡ false) → SlotsFine calls
    → SlotsFine (calls ++ call ∷ [])
fine_quietly calls call p r f = record {
  apart = quiet-apart calls call p r f.apart;
  unicast = quiet-unicast calls call p r f.unicast;
  within = λ k who h. f.within k who (peer-before calls k call who (p k) (r k) h);
}

fine_quiet_call : (calls : List SlotCall) (call : SlotCall) → is_quiet_call call ≡ true → SlotsFine calls → SlotsFine (calls ++ call ∷ [])
fine_quiet_call calls (Claim k v) h f = fine_quietly calls (Claim k v) (λ j. refl) (λ j w. refl) f
fine_quiet_call calls (Release k) h f = fine_quietly calls (Release k) (λ j. refl) (λ j w. refl) f
fine_quiet_call calls (Up k who) h f = cc

fine_up : (calls : List SlotCall) (k : ℕ) (who : Identity) → is_in_slots k ≡ true → HasNoRival calls who → same_vmac who.vmac broadcast ≡ false → SlotsFine calls → SlotsFine (calls ++ Up k who ∷ [])
fine_up calls k who here rival unicast f = record {
  apart = up-apart calls k who f.apart rival;
  unicast = up-unicast calls k who f.unicast unicast;
  within = λ j y h. by j y h (k == j) refl;
}
  where
    by : (j : ℕ) (y : Identity) → established_peer (calls ++ Up k who ∷ []) j ≡ Some y → (b : Bool) → (k == j) ≡ b → is_in_slots j ≡ true
    by j y h true e = subst (λ (i : ℕ). is_in_slots i ≡ true) (eqb-true k j e) here
    by j y h false e = f.within j y (peer-beside calls k j who y e h).0

-- ---- lines

-- lines that bring no slot up
abbrev pub ups_none : Line → Bool
ups_none (slot call) = is_quiet_call call
ups_none m = true

pub quiet_ups_none : LetsQuiet ups_none
quiet_ups_none (slot call) h = h
quiet_ups_none m h = refl

pub fine-lines : (lines : List Line) (calls : List SlotCall) → list_all ups_none lines ≡ true → SlotsFine calls → SlotsFine (calls ++ filter_map slot_call_of lines)
fine-lines [] calls h f = subst SlotsFine (sym (append-nil calls)) f
fine-lines (slot call ∷ lines) calls h f =
    subst SlotsFine (append_assoc calls (call ∷ []) (filter_map slot_call_of lines))
    (fine-lines lines (calls ++ call ∷ []) (and_right (is_quiet_call call) (list_all ups_none lines) h) (fine_quiet_call calls call (and_left (is_quiet_call call) (list_all ups_none lines) h) f))
fine-lines (m ∷ lines) calls h f = fine-lines lines calls h f

-- ---- a slot comes up only where no other device has its address

-- where nothing is found, none of the slots passes
none_found : (test : ℕ → Bool) (ks : List ℕ) (k : ℕ) → find test ks ≡ None → list_any (λ j. k == j) ks ≡ true → test k ≡ false
none_found test [] k h here = cc
none_found test (j ∷ ks) k h here = by (test j) refl h (k == j) refl here (none_found test ks k)
  where
    by : (b : Bool) → test j ≡ b → cond b (Some j) (find test ks) ≡ None → (d : Bool) → (k == j) ≡ d → (d || list_any (λ i. k == i) ks) ≡ true
        → (find test ks ≡ None → list_any (λ i. k == i) ks ≡ true → test k ≡ false) → test k ≡ false
    by true t g d e l later = cc
    by false t g true e l later = ap test (eqb-true k j e) ∙ t
    by false t g false e l later = later g l

up_unless : (own : Bool) (o d r : Option ℕ) → unless_own own (unless_rival o d) ≡ IsUp r → o ≡ None
up_unless true o d r h = cc
up_unless false (Some x) d r h = cc
up_unless false None d r h = refl

up_by : (w : Option Vmac) (who : Identity) (own : Bool) (o d r : Option ℕ) → unless_wrong w who (unless_own own (unless_rival o d)) ≡ IsUp r → o ≡ None
up_by None who own o d r h = up_unless own o d r h
up_by (Some v) who own o d r h = by (same_vmac v who.vmac) h
  where
    by : (b : Bool) → cond b (unless_own own (unless_rival o d)) (WrongPeer v) ≡ IsUp r → o ≡ None
    by true g = up_unless own o d r g
    by false g = cc

pub no_rival : (own : Vmac) (calls : List SlotCall) (k : ℕ) (who : Identity) (r : Option ℕ) → SlotsFine calls → Slots.establish own calls k who ≡ IsUp r → HasNoRival calls who
no_rival own calls k who r f h j y e =
    ap (is_peer (is_rival who)) (sym e)
    ∙ none_found (λ i. is_peer (is_rival who) (established_peer calls i)) slots j
    (up_by (Slots.wanted calls k) who (same_vmac who.vmac own) (rival calls who) (of_device calls who.device) r h) (f.within j y e)

-- ---- what is told to the slots where a peer has named itself

-- what machines carry out is told to no slot
no_calls_carried : (name : LinkName) (o : Outcome) (L : Log) → filter_map slot_call_of (carries_out_by name o L) ≡ []
no_calls_carried name (puts o) L = refl
no_calls_carried name (puts_and_closes o closing) L = ap (filter_map slot_call_of) (in_order-brought (does (Put name o) ∷ does (Close name closing) ∷ []) L)
no_calls_carried name (closes closing) L = refl
no_calls_carried name (meets who) L = refl
no_calls_carried name (is_refused origin code) L = refl
no_calls_carried name (passes_up msg) L = refl
no_calls_carried name keeps_still L = refl

-- where it comes up, that is told first, and nothing of that kind after it
fine_comes_up : (a : Made) (k : ℕ) (who : Identity) (replaced : Option ℕ) (L : Log) (calls : List SlotCall) → is_in_slots k ≡ true → HasNoRival calls who
    → same_vmac who.vmac broadcast ≡ false → SlotsFine calls
    → SlotsFine (calls ++ filter_map slot_call_of (comes_up a k who replaced L))
fine_comes_up a k who replaced L calls here rival unicast f =
    subst (λ (lines : List Line). SlotsFine (calls ++ filter_map slot_call_of lines)) (sym (in_order-brought (slots_see (Up k who) ∷ tells (DirectUp who.vmac) ∷ finishes_replaced a replaced ∷ []) L))
    (subst SlotsFine (append_assoc calls (Up k who ∷ []) (filter_map slot_call_of (brought (tells (DirectUp who.vmac) ∷ finishes_replaced a replaced ∷ []) (L ++ slot (Up k who) ∷ []))))
    (fine-lines (brought (tells (DirectUp who.vmac) ∷ finishes_replaced a replaced ∷ []) (L ++ slot (Up k who) ∷ [])) (calls ++ Up k who ∷ [])
    (pass-brought ups_none (tells (DirectUp who.vmac) ∷ finishes_replaced a replaced ∷ []) (pass-after_up ups_none quiet_ups_none a who replaced) (L ++ slot (Up k who) ∷ []))
    (fine_up calls k who here rival unicast f)))

told_where_taken : (a : Made) (k : ℕ) (who : Identity) (replaced : Option ℕ) (L : Log)
    → filter_map slot_call_of (meets_taken a k who (IsUp replaced) L) ≡ filter_map slot_call_of
    (comes_up a k who replaced ((L ++ joins (Direct k) L) ++ carries_out a (Direct k) (L ++ joins (Direct k) L)))
told_where_taken a k who replaced L =
    ap (filter_map slot_call_of) (in_order-brought (joins (Direct k) ∷ carries_out a (Direct k) ∷ comes_up a k who replaced ∷ []) L)
    ∙ filter_map-append slot_call_of (carries_out a (Direct k) (L ++ joins (Direct k) L))
    (comes_up a k who replaced ((L ++ joins (Direct k) L) ++ carries_out a (Direct k) (L ++ joins (Direct k) L)) ++ [])
    ∙ ap (λ (told : List SlotCall). told ++ filter_map slot_call_of (comes_up a k who replaced ((L ++ joins (Direct k) L) ++ carries_out a (Direct k) (L ++ joins (Direct k) L)) ++ []))
    (no_calls_carried (Direct k) (outcome a (L ++ joins (Direct k) L) (Direct k)) (L ++ joins (Direct k) L))
    ∙ ap (filter_map slot_call_of) (append-nil (comes_up a k who replaced ((L ++ joins (Direct k) L) ++ carries_out a (Direct k) (L ++ joins (Direct k) L))))

-- a taken link: the Connect-Accept goes out before it, which is told to no slot
fine_taken : (a : Made) (k : ℕ) (who : Identity) (replaced : Option ℕ) (L : Log) (calls : List SlotCall) → is_in_slots k ≡ true → HasNoRival calls who → same_vmac who.vmac broadcast ≡ false
    → SlotsFine calls
    → SlotsFine (calls ++ filter_map slot_call_of (meets_taken a k who (IsUp replaced) L))
fine_taken a k who replaced L calls here rival unicast f =
    subst (λ (told : List SlotCall). SlotsFine (calls ++ told)) (sym (told_where_taken a k who replaced L))
    (fine_comes_up a k who replaced ((L ++ joins (Direct k) L) ++ carries_out a (Direct k) (L ++ joins (Direct k) L)) calls here rival unicast f)

-- A peer of a direct connection has named itself: whatever the slots answer, they are fine.
fine_met : (a : Made) (k : ℕ) (who : Identity) (N : Log) (e : Establish) (b : Bool) → is_in_slots k ≡ true → same_vmac who.vmac broadcast ≡ false → SlotsFine (slot_calls N)
    → establish a k who N ≡ e → was_taken (Direct k) N ≡ b
    → SlotsFine (slot_calls N ++ filter_map slot_call_of (if_so b (meets_taken a k who e) (meets_dialled a k who e) N))
fine_met a k who N (IsUp r) true here unicast f h t = fine_taken a k who r N (slot_calls N) here (no_rival (own_vmac a N) (slot_calls N) k who r f h) unicast f
fine_met a k who N (IsUp r) false here unicast f h t = fine_comes_up a k who r N (slot_calls N) here (no_rival (own_vmac a N) (slot_calls N) k who r f h) unicast f
fine_met a k who N (Duplicate holder) true here unicast f h t = fine-lines (meets_taken a k who (Duplicate holder) N) (slot_calls N) (pass-refused ups_none quiet_ups_none a k N t) f
fine_met a k who N (Duplicate holder) false here unicast f h t = fine-lines (closes_link a (Direct k) wrong_peer N) (slot_calls N)
    (lets-rule ups_none quiet_ups_none (closes_link a (Direct k) wrong_peer) (quiet-closes_link a (Direct k) wrong_peer) N) f
fine_met a k who N (WrongPeer v) true here unicast f h t = fine-lines (meets_taken a k who (WrongPeer v) N) (slot_calls N) (pass-refused ups_none quiet_ups_none a k N t) f
fine_met a k who N (WrongPeer v) false here unicast f h t = fine-lines (closes_link a (Direct k) wrong_peer N) (slot_calls N)
    (lets-rule ups_none quiet_ups_none (closes_link a (Direct k) wrong_peer) (quiet-closes_link a (Direct k) wrong_peer) N) f

pub fine-meets_direct : (a : Made) (k : ℕ) (who : Identity) (N : Log) → is_in_slots k ≡ true → same_vmac who.vmac broadcast ≡ false → SlotsFine (slot_calls N)
    → SlotsFine (slot_calls N ++ filter_map slot_call_of (meets_direct a k who N))
fine-meets_direct a k who N here unicast f = by (awaits_peer k N)
  where
    by : (b : Bool) → SlotsFine (slot_calls N ++ filter_map slot_call_of (if_so b (meets_slot a k who) (closes_link a (Direct k) wrong_peer) N))
    by true = fine_met a k who N (establish a k who N) (was_taken (Direct k) N) here unicast f refl refl
    by false = fine-lines (closes_link a (Direct k) wrong_peer N) (slot_calls N)
        (lets-rule ups_none quiet_ups_none (closes_link a (Direct k) wrong_peer) (quiet-closes_link a (Direct k) wrong_peer) N) f
