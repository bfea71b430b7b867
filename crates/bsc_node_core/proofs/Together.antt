-- Rules in order, one after the other.
-- It serves clauses of functions of `requesting` and `state`.
use Rattle.std.proofs.Common.{List, [], ◌∷◌, ◌++◌, ap, sym, ◌∙◌, subst, append_assoc}
use Rattle.std.proofs.lemmas.List.{append-nil}
use Rattle.bsc_node.specs.declared.action.Action.{Action}
use Rattle.bsc_node.specs.Logs.{Log, Rule, in_order}
use Rattle.bsc_node.proofs.Order.{in_order-cons, in_order-brought}
use Rattle.bsc_node_core.specs.declared.state.State.{State}
use Rattle.bsc_node_core.specs.Standing.{Base, Stands}

-- A rule, and then the others on the log that it left.
pub first-then : (b : Base) (out : List Action) (s : State) (L : Log) (rule : Rule) (rules : List Rule) → Stands b out s ((L ++ rule L) ++ in_order rules (L ++ rule L))
    → Stands b out s (L ++ in_order (rule ∷ rules) L)
first-then b out s L rule rules h =
    subst (λ M. Stands b out s M) (append_assoc L (rule L) (in_order rules (L ++ rule L)) ∙ ap (λ ms. L ++ ms) (sym (in_order-cons rule rules L))) h

-- No rule is left.
pub none-left : (b : Base) (out : List Action) (s : State) (L : Log) → Stands b out s L → Stands b out s (L ++ in_order [] L)
none-left b out s L h = subst (λ M. Stands b out s M) (sym (append-nil L) ∙ ap (λ ms. L ++ ms) (sym (in_order-brought [] L))) h
