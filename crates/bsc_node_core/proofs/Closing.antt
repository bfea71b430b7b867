-- What a node keeps goes on standing for its log, where a link is closed or begins.
-- It serves the clauses of `close` and `record_event`.
use Rattle.std.proofs.Common.{◌≡◌, ℕ, Bool, true, false, cond, ◌&&◌, List, [], ◌∷◌, ◌++◌, Option, refl, ap, sym, ◌∙◌, subst}
use Rattle.std.specs.Prelude.{min}
use Rattle.bsc_connector.specs.Standing.{ConnectorStands}
use Rattle.bsc_direct.specs.Standing.{DirectStands}
use Rattle.bsc_accept.specs.declared.closing.Closing.{Closing}
use Rattle.bsc_node.specs.declared.bounds.TheConstants.{RENEWALS}
use Rattle.bsc_node.specs.declared.link_name.LinkName.{LinkName}
use Rattle.bsc_node.specs.declared.link_name.LinkName.TheVariants.{Direct}
use Rattle.bsc_node.specs.declared.action.Action.TheVariants.{Close}
use Rattle.bsc_node.specs.declared.action.Action.{Action}
use Rattle.bsc_node.specs.Logs.{Made, Line, did, Log}
use Rattle.bsc_node.specs.Links.{same_link}
use Rattle.bsc_node.specs.Hubs.{waits}
use Rattle.bsc_node_core.specs.declared.machine.Machine.TheVariants.{Gone}
use Rattle.bsc_node_core.specs.declared.links.Links.{Links}
use Rattle.bsc_node_core.specs.declared.state.State.{State}
use Rattle.bsc_node_core.specs.Tables.{Kept, link_at, is_name, Sets, Touches, with_machine}
use Rattle.bsc_node_core.specs.Standing.{Base, LinkStands, Stands}
use Rattle.bsc_node_core.proofs.More.{now-kept, own-kept, next-kept, finishing-kept, renewals-kept, refusing-kept, dropped-kept, tries-kept}
use Rattle.bsc_node_core.proofs.Lines.{link-kept, peer-kept, came-did}
use Rattle.bsc_node_core.proofs.Untouched.{agrees-set}
use Rattle.bsc_node.proofs.Common.{hub_events-kept, resolve_calls-kept, same_link-is, slot_calls-kept}
use Rattle.bsc_node.proofs.There.{there-over}

-- The links, where one is closed.
closed-link : (a : Made) (busy : Option LinkName) (old new : Links) (L : Log) (name : LinkName) (closing : Closing) → Sets old new name (with_machine Gone (link_at old name))
    → ((other : LinkName) → is_name other ≡ true → LinkStands a busy L other (link_at old other))
    → (other : LinkName) → is_name other ≡ true → LinkStands a busy (L ++ did (Close name closing) ∷ []) other (link_at new other)
closed-link a busy old new L name closing sets h other n = by (same_link name other) refl
  where
    m : Line
    m = did (Close name closing)

    by : (b : Bool) → same_link name other ≡ b → LinkStands a busy (L ++ did (Close name closing) ∷ []) other (link_at new other)
    by true e =
        let is = same_link-is name other e in
        let l : link_at new other ≡ with_machine Gone (link_at old other) = sets other ∙ ap (λ b. cond (b && is_name name) (with_machine Gone (link_at old name)) (link_at old other)) e
        ∙ ap (λ b. cond b (with_machine Gone (link_at old name)) (link_at old other)) (ap is_name is ∙ n) ∙ ap (λ x. with_machine Gone (link_at old x)) is in
        subst (λ (x : Kept). LinkStands a busy (L ++ did (Close name closing) ∷ []) other x) (sym l) (record {
          there = there-over other L (did (Close name closing)) refl e;
          machine = tt;
          peer = peer-kept L (did (Close name closing)) other refl refl refl ∙ (h other n).peer;
        })
    by false e =
        let l : link_at new other ≡ link_at old other = sets other ∙ ap (λ b. cond (b && is_name name) (with_machine Gone (link_at old name)) (link_at old other)) e in
        subst (λ (x : Kept). LinkStands a busy (L ++ did (Close name closing) ∷ []) other x) (sym l)
        (link-kept a busy L (did (Close name closing)) other (link_at old other) refl e refl refl (h other n))

pub tries-closed : (old new : Links) (name : LinkName) (k : ℕ) → Sets old new name (with_machine Gone (link_at old name)) → (link_at new (Direct k)).tries ≡ (link_at old (Direct k)).tries
tries-closed old new name k sets = by (same_link name (Direct k)) (is_name name) refl
  where
    by : (b c : Bool) → same_link name (Direct k) ≡ b → (link_at new (Direct k)).tries ≡ (link_at old (Direct k)).tries
    by true c e = ap (λ (l : Kept). l.tries) (sets (Direct k)) ∙ there (same_link name (Direct k) && is_name name) ∙ refl
      where
        there : (d : Bool) → (cond d (with_machine Gone (link_at old name)) (link_at old (Direct k))).tries ≡ (link_at old (Direct k)).tries
        there true = ap (λ x. (link_at old x).tries) (same_link-is name (Direct k) e)
        there false = refl
    by false c e = ap (λ (l : Kept). l.tries) (sets (Direct k)) ∙ ap (λ b. (cond (b && is_name name) (with_machine Gone (link_at old name)) (link_at old (Direct k))).tries) e

pub close-stands : (b : Base) (out : List Action) (s : State) (L : Log) (name : LinkName) (closing : Closing) (ls : Links) → Sets s.links ls name (with_machine Gone (link_at s.links name))
    → Touches s.links ls name → Stands b out s L → Stands b (out ++ Close name closing ∷ []) (record s { links = ls }) (L ++ did (Close name closing) ∷ [])
close-stands b out s L name closing ls sets touches h = record {
  now = now-kept L (did (Close name closing)) refl ∙ h.now;
  own = own-kept b.made L (did (Close name closing)) refl ∙ h.own;
  next = next-kept L (did (Close name closing)) refl ∙ h.next;
  finishing = finishing-kept L (did (Close name closing)) refl ∙ h.finishing;
  renewals = ap (λ k. min RENEWALS k) (renewals-kept L (did (Close name closing)) refl refl) ∙ h.renewals;
  newest_hub = refusing-kept L (did (Close name closing)) refl ∙ h.newest_hub;
  dropped = dropped-kept L (did (Close name closing)) refl refl ∙ h.dropped;
  connector = subst (λ E. ConnectorStands s.connector (waits b.made) E) (sym (hub_events-kept L (did (Close name closing)) refl)) h.connector;
  direct = subst (λ E. DirectStands s.direct E) (sym (slot_calls-kept L (did (Close name closing)) refl)) h.direct;
  asked = resolve_calls-kept L (did (Close name closing)) refl ∙ h.asked;
  links = closed-link b.made b.busy s.links ls L name closing sets h.links;
  tries = λ k w. ap (λ c. min c 18446744073709551615) (tries-kept k L (did (Close name closing)) refl refl) ∙ h.tries k w ∙ sym (tries-closed s.links ls name k sets);
  spare = agrees-set b.spare s ls name _ sets touches h.spare;
  actions = came-did b out L (Close name closing) h.actions;
}
