use Rattle.std.proofs.Common.{Bool, not, ◌&&◌, ap, sym, ◌∙◌, refl}
use Rattle.std.specs.Prelude.{nat_lt}
use Rattle.bsc_node.specs.declared.bounds.TheConstants.{RENEWALS}
use Rattle.bsc_node.specs.Logs.{is_finishing}
use Rattle.bsc_node.specs.Links.{none_there}
use Rattle.bsc_node.specs.Meeting.{renewals}
use Rattle.bsc_node_core.proofs.NoneThere.{none-there-kept}
use Rattle.bsc_node_core.proofs.Refusing.{may-draw-by}
use Rattle.bsc_node_core.proofs.state.State.may_draw.Goals.{else-is_duplicate-via-then-is_duplicate+else-none_there, else-is_duplicate-via-else-is_duplicate}
use Rattle.bsc_node_core.proofs.state.State.may_draw.Goals as goal

pub returns-then-none_there : goal.returns-then-none_there
returns-then-none_there c = λ b out L h.
    sym (ap (λ (x : Bool). x && (c.none_there.result && c.may_renew.result)) c.if-is_duplicate.true ∙ ap (λ (x : Bool). x && c.may_renew.result) c.if-none_there.true)
    ∙ may-draw-by c.args.name c.args.code L _ _ _ c.is_duplicate.ensures (c.none_there.ensures ∙ sym (none-there-kept b out c.args.self.now L h)) (c.may_renew.ensures b out L h)

pub returns-else-is_duplicate : goal.returns-else-is_duplicate
returns-else-is_duplicate c = λ b out L h.
    let may = not (is_finishing L) && nat_lt (renewals L) RENEWALS in
    elim c.else-is_duplicate.branch [
      | else-is_duplicate-via-then-is_duplicate+else-none_there w ↦
          sym (ap (λ (x : Bool). x && (w.none_there.result && may)) w.if-is_duplicate.true ∙ ap (λ (x : Bool). x && may) w.if-none_there.false)
          ∙ may-draw-by c.args.name c.args.code L _ _ may c.is_duplicate.ensures (w.none_there.ensures ∙ sym (none-there-kept b out c.args.self.now L h)) refl
      | else-is_duplicate-via-else-is_duplicate w ↦
          sym (ap (λ (x : Bool). x && (none_there L && may)) w.if-is_duplicate.false) ∙ may-draw-by c.args.name c.args.code L _ (none_there L) may c.is_duplicate.ensures refl refl
    ]
