-- What a node keeps goes on standing for its log, where a slot is claimed or released.
-- It serves clauses of functions of `requesting` and `state`.
use Rattle.std.proofs.Common.{◌≡◌, ℕ, ◌<◌, Bool, true, false, cond, ◌&&◌, List, [], ◌∷◌, ◌++◌, Option, Some, None, refl, ap, sym, ◌∙◌, subst}
use Rattle.std.specs.Prelude.{◌==◌, min, count_by}
use Rattle.std.proofs.lemmas.Bool.{lt-ltb, eqb-true}
use Rattle.bsc_octets.specs.declared.vmac.Vmac.{Vmac}
use Rattle.bsc_octets.specs.declared.identity.Identity.{Identity}
use Rattle.bsc_connector.specs.Standing.{ConnectorStands}
use Rattle.bsc_direct.specs.declared.bounds.TheConstants.{SLOTS}
use Rattle.bsc_direct.specs.declared.direct.Direct.{Direct as SlotTable}
use Rattle.bsc_direct.specs.declared.call.SlotCall.TheVariants.{Claim, Release}
use Rattle.bsc_direct.specs.Standing.{DirectStands}
use Rattle.bsc_accept.specs.declared.reason.Reason.TheVariants.{TableFull}
use Rattle.bsc_accept.specs.Steps.{closing}
use Rattle.bsc_node.specs.declared.bounds.TheConstants.{RENEWALS}
use Rattle.bsc_node.specs.declared.link_name.LinkName.{LinkName}
use Rattle.bsc_node.specs.declared.link_name.LinkName.TheVariants.{Direct}
use Rattle.bsc_node.specs.declared.note.Note.TheVariants.{DirectDown}
use Rattle.bsc_node.specs.declared.action.Action.{Action}
use Rattle.bsc_node.specs.declared.action.Action.TheVariants.{Take, Refuse, Tell}
use Rattle.bsc_node.specs.Logs.{slot, did, Log, in_order, does}
use Rattle.bsc_node.specs.Links.{begins, same_link}
use Rattle.bsc_node.specs.Hubs.{waits}
use Rattle.bsc_node.specs.Ways.{slot_call_of, slot_calls, is_claim_of, tries, free_slot, established_peer, slots_see}
use Rattle.bsc_node.specs.Ending.{ends_slot}
use Rattle.bsc_node.specs.Events.{arrives}
use Rattle.bsc_node_core.specs.declared.links.Links.{Links}
use Rattle.bsc_node_core.specs.declared.state.State.{State}
use Rattle.bsc_node_core.specs.Tables.{Kept, link_at, is_name, Sets, Touches, claimed}
use Rattle.std.proofs.lemmas.List.{append-nil}
use Rattle.bsc_node_core.specs.Rules.{tells_down}
use Rattle.bsc_node_core.specs.Standing.{Base, LinkStands, Stands}
use Rattle.bsc_node_core.proofs.More.{now-kept, own-kept, next-kept, finishing-kept, renewals-kept, refusing-kept, dropped-kept, tries-kept, since-now, filter-one_more}
use Rattle.bsc_node_core.proofs.Lines.{link-kept, came-other, quiet-stands}
use Rattle.bsc_node_core.proofs.Together.{first-then, none-left}
use Rattle.bsc_node_core.proofs.Untouched.{agrees-set, agrees-slots}
use Rattle.bsc_node.proofs.Common.{hub_events-kept, resolve_calls-kept, same_link-is}

same_kept : (b : Base) (L : Log) (name : LinkName) (l : Kept) → LinkStands b.made b.busy L name l → LinkStands b.made b.busy L name (claimed l)
same_kept b L name l h = record { there = h.there; machine = h.machine; peer = h.peer }

links-claimed : (b : Base) (old new : Links) (L : Log) (k : ℕ) (v : Option Vmac) → Sets old new (Direct k) (claimed (link_at old (Direct k)))
    → ((other : LinkName) → is_name other ≡ true → LinkStands b.made b.busy L other (link_at old other))
    → (other : LinkName) → is_name other ≡ true → LinkStands b.made b.busy (L ++ slot (Claim k v) ∷ []) other (link_at new other)
links-claimed b old new L k v sets h other n = by (same_link (Direct k) other) refl
  where
    kept : LinkStands b.made b.busy (L ++ slot (Claim k v) ∷ []) other (link_at old other)
    kept = link-kept b.made b.busy L (slot (Claim k v)) other (link_at old other) refl refl refl refl (h other n)

    by : (c : Bool) → same_link (Direct k) other ≡ c → LinkStands b.made b.busy (L ++ slot (Claim k v) ∷ []) other (link_at new other)
    by true e =
        let is = same_link-is (Direct k) other e in
        let l : link_at new other ≡ claimed (link_at old other) = sets other ∙ ap (λ c. cond (c && is_name (Direct k)) (claimed (link_at old (Direct k))) (link_at old other)) e
        ∙ ap (λ c. cond c (claimed (link_at old (Direct k))) (link_at old other)) (ap is_name is ∙ n) ∙ ap (λ x. claimed (link_at old x)) is in
        subst (λ (x : Kept). LinkStands b.made b.busy (L ++ slot (Claim k v) ∷ []) other x) (sym l) (same_kept b (L ++ slot (Claim k v) ∷ []) other (link_at old other) kept)
    by false e =
        let l : link_at new other ≡ link_at old other = sets other ∙ ap (λ c. cond (c && is_name (Direct k)) (claimed (link_at old (Direct k))) (link_at old other)) e in
        subst (λ (x : Kept). LinkStands b.made b.busy (L ++ slot (Claim k v) ∷ []) other x) (sym l) kept

tries-claimed : (old new : Links) (L : Log) (k j : ℕ) (v : Option Vmac) → j < SLOTS → Sets old new (Direct k) (claimed (link_at old (Direct k)))
    → min (tries j L) 18446744073709551615 ≡ (link_at old (Direct j)).tries
    → min (tries j (L ++ slot (Claim k v) ∷ [])) 18446744073709551615 ≡ (link_at new (Direct j)).tries
tries-claimed old new L k j v w sets h = by (k == j) refl
  where
    by : (c : Bool) → (k == j) ≡ c → min (tries j (L ++ slot (Claim k v) ∷ [])) 18446744073709551615 ≡ (link_at new (Direct j)).tries
    by true e =
        let l : link_at new (Direct j) ≡ claimed (link_at old (Direct k)) = sets (Direct j) ∙ ap (λ c. cond (c && is_name (Direct k)) (claimed (link_at old (Direct k))) (link_at old (Direct j))) e
        ∙ ap (λ c. cond c (claimed (link_at old (Direct k))) (link_at old (Direct j))) (ap (λ x. is_name (Direct x)) (eqb-true k j e) ∙ lt-ltb j SLOTS w) in
        ap (λ ys. min (count_by (begins (Direct j)) ys) 18446744073709551615) (since-now (is_claim_of j) L (slot (Claim k v)) e) ∙ sym (ap (λ (x : Kept). x.tries) l)
    by false e =
        let l : link_at new (Direct j) ≡ link_at old (Direct j) = sets (Direct j) ∙ ap (λ c. cond (c && is_name (Direct k)) (claimed (link_at old (Direct k))) (link_at old (Direct j))) e in
        ap (λ n. min n 18446744073709551615) (tries-kept j L (slot (Claim k v)) refl e) ∙ h ∙ sym (ap (λ (x : Kept). x.tries) l)

-- A slot is claimed.
pub claim-stands : (b : Base) (out : List Action) (s : State) (L : Log) (k : ℕ) (v : Option Vmac) (d : SlotTable) (ls : Links) → DirectStands d (slot_calls L ++ Claim k v ∷ [])
    → Sets s.links ls (Direct k) (claimed (link_at s.links (Direct k))) → Touches s.links ls (Direct k) → Stands b out s L
    → Stands b out (record s { direct = d; links = ls; direct_touched = true }) (L ++ slot (Claim k v) ∷ [])
claim-stands b out s L k v d ls stands sets touches h = record {
  now = now-kept L (slot (Claim k v)) refl ∙ h.now;
  own = own-kept b.made L (slot (Claim k v)) refl ∙ h.own;
  next = next-kept L (slot (Claim k v)) refl ∙ h.next;
  finishing = finishing-kept L (slot (Claim k v)) refl ∙ h.finishing;
  renewals = ap (λ n. min RENEWALS n) (renewals-kept L (slot (Claim k v)) refl refl) ∙ h.renewals;
  newest_hub = refusing-kept L (slot (Claim k v)) refl ∙ h.newest_hub;
  dropped = dropped-kept L (slot (Claim k v)) refl refl ∙ h.dropped;
  connector = subst (λ E. ConnectorStands s.connector (waits b.made) E) (sym (hub_events-kept L (slot (Claim k v)) refl)) h.connector;
  direct = subst (λ E. DirectStands d E) (sym (filter-one_more slot_call_of L (slot (Claim k v)) (Claim k v) refl)) stands;
  asked = resolve_calls-kept L (slot (Claim k v)) refl ∙ h.asked;
  links = links-claimed b s.links ls L k v sets h.links;
  tries = λ j w. tries-claimed s.links ls L k j v w sets (h.tries j w);
  spare = agrees-slots b.spare (record s { links = ls }) d (agrees-set b.spare s ls (Direct k) _ sets touches h.spare);
  actions = came-other b out L (slot (Claim k v)) refl h.actions;
}

-- ---- arrivals

pub arrives-at : (L : Log) (k : ℕ) → free_slot L ≡ Some k → arrives L ≡ in_order (slots_see (Claim k None) ∷ does (Take (Direct k)) ∷ []) L
arrives-at L k h = rw h refl

pub arrives-in-vain : (L : Log) → free_slot L ≡ None → arrives L ≡ did (Refuse (closing 1008 TableFull)) ∷ []
arrives-in-vain L h = rw h refl

-- A slot is claimed, and the link is taken.
pub arrival-stands : (b : Base) (out : List Action) (s : State) (L : Log) (k : ℕ) → free_slot L ≡ Some k → Stands b out s ((L ++ slot (Claim k None) ∷ []) ++ did (Take (Direct k)) ∷ [])
    → Stands b out s (L ++ arrives L)
arrival-stands b out s L k f h =
    subst (λ ms. Stands b out s (L ++ ms)) (sym (arrives-at L k f))
    (first-then b out s L (slots_see (Claim k None)) (does (Take (Direct k)) ∷ [])
    (first-then b out s (L ++ slot (Claim k None) ∷ []) (does (Take (Direct k))) []
    (none-left b out s ((L ++ slot (Claim k None) ∷ []) ++ did (Take (Direct k)) ∷ []) h)))

pub refusal-stands : (b : Base) (out later : List Action) (s : State) (L : Log) → free_slot L ≡ None → later ≡ out ++ Refuse (closing 1008 TableFull) ∷ [] → Stands b out s L
    → Stands b later s (L ++ arrives L)
refusal-stands b out later s L f o h =
    subst (λ ms. Stands b later s (L ++ ms)) (sym (arrives-in-vain L f))
    (subst (λ os. Stands b os s (L ++ did (Refuse (closing 1008 TableFull)) ∷ [])) (sym o)
    (quiet-stands b out s L (Refuse (closing 1008 TableFull)) (record { begins = λ name. refl; over = λ name. refl; number = refl }) h))

-- ---- a slot's end

pub down-told : (k : ℕ) (L : Log) (who : Identity) → established_peer k L ≡ Some who → tells_down k L ≡ did (Tell (DirectDown who.vmac)) ∷ []
down-told k L who h = rw h refl

pub nothing-told : (b : Base) (out : List Action) (s : State) (L : Log) (k : ℕ) → established_peer k L ≡ None → Stands b out s L → Stands b out s (L ++ tells_down k L)
nothing-told b out s L k e h = subst (λ ms. Stands b out s (L ++ ms)) (sym (rw e refl)) (subst (λ M. Stands b out s M) (sym (append-nil L)) h)

-- It is released, once it was told.
pub ended-stands : (b : Base) (out : List Action) (s : State) (L : Log) (k : ℕ) → Stands b out s ((L ++ tells_down k L) ++ slot (Release k) ∷ []) → Stands b out s (L ++ ends_slot k L)
ended-stands b out s L k h =
    first-then b out s L (tells_down k) (slots_see (Release k) ∷ [])
    (first-then b out s (L ++ tells_down k L) (slots_see (Release k)) [] (none-left b out s ((L ++ tells_down k L) ++ slot (Release k) ∷ []) h))
