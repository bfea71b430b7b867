-- What a log says once one line more stands in it.
-- It serves clauses of functions of `laws`.
use Rattle.std.proofs.Common.{◌≡◌, ℕ, Bool, true, false, cond, ◌||◌, List, [], ◌∷◌, ◌++◌, Option, Some, None, is_some, refl, ap, sym, ◌∙◌, subst}
use Rattle.std.specs.Prelude.{filter_map, unwrap_or}
use Rattle.std.specs.Option.{option_or}
use Rattle.std.proofs.lemmas.List.Elements.{filter_map-append}
use Rattle.bsc_octets.specs.declared.vmac.Vmac.{Vmac}
use Rattle.bsc_connector.specs.Back.{newest_of}
use Rattle.bsc_connector.proofs.BackLemmas.{newest_of-more}
use Rattle.bsc_initiate.specs.declared.event.InitEvent.{InitEvent}
use Rattle.bsc_initiate.specs.declared.event.InitEvent.TheVariants.{Opened as MachineOpened, Message as InitMessage, Finish as InitFinish, Tick as InitTick}
use Rattle.bsc_direct.specs.declared.call.SlotCall.{SlotCall}
use Rattle.bsc_direct.specs.declared.call.SlotCall.TheVariants.{Claim}
use Rattle.bsc_direct.specs.Slots as Slots
use Rattle.bsc_direct.proofs.OneMore.{peer-cleared}
use Rattle.bsc_resolve.specs.declared.call.ResolveCall.{ResolveCall}
use Rattle.bsc_node.specs.declared.link_name.LinkName.{LinkName}
use Rattle.bsc_node.specs.Logs.{Made, Line, slot, initiating, resolution, Log, renewal_of, own_vmac}
use Rattle.bsc_node.specs.Links.{same_link, begins, life, was_taken, initiating_event, accepting_event, initiating_events, accepting_events}
use Rattle.bsc_node.specs.Ways.{slot_call_of, slot_calls, established_peer, resolve_call_of, resolve_calls}
use Rattle.bsc_node.specs.Conditions.{has_opened}
use Rattle.bsc_node.proofs.Told.{life-more}
use Rattle.bsc_node_laws.proofs.There.{taken-other, opened-other, opened-told, opened-now}
use Rattle.bsc_node_laws.proofs.Tying.{slot_calls-more}
use Rattle.bsc_node_identity.proofs.Reasons.{was_open}
use Rattle.bsc_lemmas.proofs.Booleans.{eq_self as same_number}
use Rattle.bsc_lemmas.proofs.Lists.{filter_map_none as filter_same}
use Rattle.bsc_node.proofs.Common.{life_begun, same_link-is as same_link-true, slot_calls-kept as slot_calls-same}

-- ---- which links may be open

told_opens : (name : LinkName) (L : Log) (call : InitEvent) → has_opened name L ≡ true → has_opened name (L ++ initiating name call ∷ []) ≡ true
told_opens name L (MachineOpened now id) h = opened-now name L now id
told_opens name L (InitMessage now v) h = opened-told name L (InitMessage now v) refl ∙ h
told_opens name L (InitFinish now id) h = opened-told name L (InitFinish now id) refl ∙ h
told_opens name L (InitTick now id) h = opened-told name L (InitTick now id) refl ∙ h

-- A link that has opened stays so until one of its name begins.
pub opened-stays : (name : LinkName) (L : Log) (m : Line) → begins name m ≡ false → has_opened name L ≡ true → has_opened name (L ++ m ∷ []) ≡ true
opened-stays name L (initiating other call) b h = by (same_link other name) refl
  where
    by : (d : Bool) → same_link other name ≡ d → has_opened name (L ++ initiating other call ∷ []) ≡ true
    by true e = subst (λ (n : LinkName). has_opened name (L ++ initiating n call ∷ []) ≡ true) (sym (same_link-true other name e)) (told_opens name L call h)
    by false e = opened-other name L (initiating other call) b (ap (λ (d : Bool). cond d (Some call) None) e) ∙ h
opened-stays name L m b h = opened-other name L m b refl ∙ h

or_either : (p q r : Bool) → (p || q) ≡ true → (q ≡ true → r ≡ true) → (p || r) ≡ true
or_either true q r h k = refl
or_either false q r h k = k h

-- So does one that was taken or has opened.
pub open-stays : (name : LinkName) (L : Log) (m : Line) → begins name m ≡ false → was_open name L ≡ true → was_open name (L ++ m ∷ []) ≡ true
open-stays name L m b h =
    ap (λ (p : Bool). p || has_opened name (L ++ m ∷ [])) (taken-other name L m b)
    ∙ or_either (was_taken name L) (has_opened name L) (has_opened name (L ++ m ∷ [])) h (opened-stays name L m b)

-- ---- slots

-- A line that tells the slots nothing leaves their peers as they were.
pub established-same : (k : ℕ) (L : Log) (m : Line) → slot_call_of m ≡ None → established_peer k (L ++ m ∷ []) ≡ established_peer k L
established-same k L m h = ap (λ (calls : List SlotCall). Slots.established_peer calls k) (slot_calls-same L m h)

pub established-told : (k : ℕ) (L : Log) (call : SlotCall) → established_peer k (L ++ slot call ∷ []) ≡ Slots.established_peer (slot_calls L ++ call ∷ []) k
established-told k L call = ap (λ (calls : List SlotCall). Slots.established_peer calls k) (slot_calls-more L call)

-- A slot that is claimed isn't established.
pub claimed-alone : (k : ℕ) (L : Log) (wanted : Option Vmac) → established_peer k (L ++ slot (Claim k wanted) ∷ []) ≡ None
claimed-alone k L wanted =
    established-told k L (Claim k wanted) ∙ peer-cleared (slot_calls L) k (Claim k wanted) (ap (λ (b : Bool). is_some (cond b (Some true) None)) (same_number k))

-- ---- the node's VMAC

pub own_vmac-same : (a : Made) (L : Log) (m : Line) → renewal_of m ≡ None → own_vmac a (L ++ m ∷ []) ≡ own_vmac a L
own_vmac-same a L m h = ap (λ (o : Option Vmac). unwrap_or o a.own.vmac) (newest_of-more renewal_of L m ∙ ap (λ (o : Option Vmac). option_or o (newest_of renewal_of L)) h)

-- ---- what machines were told

pub initiating-same : (name : LinkName) (L : Log) (m : Line) → begins name m ≡ false → initiating_event name m ≡ None → initiating_events (L ++ m ∷ []) name ≡ initiating_events L name
initiating-same name L m b e = ap (filter_map (initiating_event name)) (life-more L m name b) ∙ filter_same (initiating_event name) (life L name) m e

pub accepting-same : (name : LinkName) (L : Log) (m : Line) → begins name m ≡ false → accepting_event name m ≡ None → accepting_events (L ++ m ∷ []) name ≡ accepting_events L name
accepting-same name L m b e = ap (filter_map (accepting_event name)) (life-more L m name b) ∙ filter_same (accepting_event name) (life L name) m e

pub initiating-begun : (name : LinkName) (L : Log) (m : Line) → begins name m ≡ true → initiating_events (L ++ m ∷ []) name ≡ []
initiating-begun name L m b = ap (filter_map (initiating_event name)) (life_begun name L m b)

pub accepting-begun : (name : LinkName) (L : Log) (m : Line) → begins name m ≡ true → accepting_events (L ++ m ∷ []) name ≡ []
accepting-begun name L m b = ap (filter_map (accepting_event name)) (life_begun name L m b)

-- ---- what happened to address resolution

pub resolve_calls-more : (L : Log) (call : ResolveCall) → resolve_calls (L ++ resolution call ∷ []) ≡ resolve_calls L ++ call ∷ []
resolve_calls-more L call = filter_map-append resolve_call_of L (resolution call ∷ [])
