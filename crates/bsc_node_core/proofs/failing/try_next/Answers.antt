use Rattle.std.proofs.Common.{[], ◌∷◌, ap, sym, ◌∙◌}
use Rattle.std.proofs.lemmas.Bool.{lt-ltb}
use Rattle.std.proofs.lemmas.Result.{on_ok_weaker}
use Rattle.bsc_direct.specs.declared.bounds.TheConstants.{SLOTS}
use Rattle.bsc_node.specs.declared.link_name.LinkName.TheVariants.{Direct}
use Rattle.bsc_node.specs.declared.node_limits.NodeLimits.{NodeLimits}
use Rattle.bsc_node.specs.declared.note.Note.TheVariants.{NoDirect}
use Rattle.bsc_node.specs.declared.action.Action.TheVariants.{Dial}
use Rattle.bsc_node.specs.Logs.{does, in_order, nothing, tells, where_found}
use Rattle.bsc_node.specs.Ways.{next_uri, slot_calls, wanted}
use Rattle.bsc_node.specs.Ending.{ends}
use Rattle.bsc_node_core.specs.Resolving.{asked_by}
use Rattle.bsc_node_core.specs.Standing.{Stands}
use Rattle.bsc_node_core.proofs.Asking.{both-still}
use Rattle.bsc_node_core.proofs.Branching.{found-some, found-none}
use Rattle.bsc_node_core.proofs.failing.try_next.Goals as goal

pub returns-in-Some : goal.returns-in-Some
returns-in-Some c = on_ok_weaker c.dial.result
    (λ g b L r k h.
    let w = sym (c.wanted-whom.ensures (slot_calls L) h.state.direct) in
    both-still b c.dial.new.out c.dial.new.self c.args.resolve.now L _ h.resolution
    (found-some (λ M. Stands (asked_by L b) c.dial.new.out c.dial.new.self M) L (next_uri c.args.k) (λ uri. does (Dial (Direct c.args.k) uri))
    (in_order (where_found (wanted c.args.k) (λ v. tells (NoDirect v)) nothing ∷ ends b.made (Direct c.args.k) ∷ [])) c.in-Some.uri (sym (c.in_ok-uri.ensures b c.args.out.now L k w h) ∙ c.in-Some.is)
    (g (asked_by L b) L (ap (λ (x : NodeLimits). x.times) r.0) r.1 (lt-ltb c.args.k SLOTS k) h.state)))
    c.dial.ensures

pub returns-in-None : goal.returns-in-None
returns-in-None c = on_ok_weaker c.give_up.result
    (λ g b L r k h.
    let w = sym (c.wanted-whom.ensures (slot_calls L) h.state.direct) in
    both-still b c.give_up.new.out c.give_up.new.state c.args.resolve.now L _ h.resolution
    (found-none (λ M. Stands (asked_by L b) c.give_up.new.out c.give_up.new.state M) L (next_uri c.args.k) (λ uri. does (Dial (Direct c.args.k) uri))
    (in_order (where_found (wanted c.args.k) (λ v. tells (NoDirect v)) nothing ∷ ends b.made (Direct c.args.k) ∷ [])) (sym (c.in_ok-uri.ensures b c.args.out.now L k w h) ∙ c.in-None.is)
    (g (asked_by L b) L r w h.state)))
    c.give_up.ensures
