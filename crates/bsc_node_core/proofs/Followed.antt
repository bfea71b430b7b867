-- What a node keeps and its address resolution go on standing for its log, where an event that is known is followed.
-- It serves the clauses of `follow` and `pass_time`.
use Rattle.std.proofs.Common.{◌≡◌, ℕ, List, [], ◌∷◌, ◌++◌, ap, sym, ◌∙◌, subst, append_assoc}
use Rattle.std.specs.Prelude.{map}
use Rattle.bsc_connector.specs.declared.event.ConnectorEvent.TheVariants.{Tick as ConnectorTick}
use Rattle.bsc_resolve.specs.declared.call.ResolveCall.TheVariants.{Tick as ResolveTick}
use Rattle.bsc_resolve.specs.declared.resolve.Resolve.{Resolve}
use Rattle.bsc_resolve.specs.Standing.{ResolveStands, StandsOn}
use Rattle.bsc_node.specs.declared.node_event.NodeEvent.{NodeEvent}
use Rattle.bsc_node.specs.declared.action.Action.{Action}
use Rattle.bsc_node.specs.Logs.{Made, resolution, Log, Rule, after, in_order}
use Rattle.bsc_node.specs.Links.{names}
use Rattle.bsc_node.specs.Ways.{resolve_calls}
use Rattle.bsc_node.specs.Ending.{tells_connector}
use Rattle.bsc_node.specs.Events.{ticks_link, ticks_resolution, time_passes, follows}
use Rattle.bsc_node.proofs.Order.{after-brought, in_order-brought}
use Rattle.bsc_node_core.specs.declared.state.State.{State}
use Rattle.bsc_node_core.specs.Standing.{Base, Stands}
use Rattle.bsc_node_core.specs.Resolving.{asked_by, BothStand}
use Rattle.bsc_node_core.proofs.Asking.{both-still, both-told}

pub by-both : (b : Base) (out : List Action) (s : State) (r : Resolve) (L : Log) (ev known : NodeEvent) → ev ≡ known → BothStand b out s r (L ++ follows b.made known L)
    → BothStand b out s r (L ++ follows b.made ev L)
by-both b out s r L ev known is h = subst (λ (e : NodeEvent). BothStand b out s r (L ++ follows b.made e L)) (sym is) h

-- Where nothing happened to address resolution.
pub by-state : (b : Base) (out : List Action) (s : State) (r : Resolve) (L : Log) (ev known : NodeEvent) → ev ≡ known → ResolveStands r b.made.limits.times.connect_wait (resolve_calls L)
    → Stands (asked_by L b) out s (L ++ follows b.made known L) → BothStand b out s r (L ++ follows b.made ev L)
by-state b out s r L ev known is g h = by-both b out s r L ev known is (both-still b out s r L (L ++ follows b.made known L) g h)

-- ---- time

after-last : (rules : List Rule) (rule : Rule) (L : Log) → after (rules ++ rule ∷ []) L ≡ after rules L ++ rule (after rules L)
after-last [] rule L = λ i. L ++ rule L
after-last (first ∷ rules) rule L = after-last rules rule (L ++ first L)

log-after : (rules : List Rule) (L : Log) → L ++ in_order rules L ≡ after rules L
log-after rules L = ap (λ ms. L ++ ms) (in_order-brought rules L) ∙ sym (after-brought rules L)

-- the last of some rules, on the log that those before it left
in-order-last : (rules : List Rule) (rule : Rule) (L : Log) → (L ++ in_order rules L) ++ rule (L ++ in_order rules L) ≡ L ++ in_order (rules ++ rule ∷ []) L
in-order-last rules rule L = ap (λ (M : Log). M ++ rule M) (log-after rules L) ∙ sym (after-last rules rule L) ∙ sym (log-after (rules ++ rule ∷ []) L)

abbrev before_resolution : Made → List Rule
before_resolution a = map (ticks_link a) names ++ tells_connector a ConnectorTick ∷ []

pub timed : (b : Base) (out : List Action) (s : State) (r r' : Resolve) (L : Log) (t : ℕ) → b.now ≡ t → ResolveStands r b.made.limits.times.connect_wait (resolve_calls L)
    → Stands (asked_by L b) out s (L ++ in_order (map (ticks_link b.made) names ++ tells_connector b.made ConnectorTick ∷ []) L) → StandsOn r r' (ResolveTick t)
    → BothStand b out s r' (L ++ time_passes b.made L)
timed b out s r r' L t n g h on =
    let rules = before_resolution b.made in
    let M = L ++ in_order rules L in
    let both : BothStand b out s r M = both-still b out s r L M g h in
    let told : BothStand b out s r' (M ++ resolution (ResolveTick t) ∷ []) = both-told b out s r r' M (ResolveTick t) (on b.made.limits.times.connect_wait (resolve_calls M) both.resolution) both in
    let line : ticks_resolution M ≡ resolution (ResolveTick t) ∷ [] = ap (λ (x : ℕ). resolution (ResolveTick x) ∷ []) (h.now ∙ n) in
    let log : M ++ ticks_resolution M ≡ L ++ time_passes b.made L =
    in-order-last rules ticks_resolution L ∙ ap (λ rs. L ++ in_order rs L) (append_assoc (map (ticks_link b.made) names) (tells_connector b.made ConnectorTick ∷ []) (ticks_resolution ∷ [])) in
    subst (λ N. BothStand b out s r' N) log (subst (λ ms. BothStand b out s r' (M ++ ms)) (sym line) told)
