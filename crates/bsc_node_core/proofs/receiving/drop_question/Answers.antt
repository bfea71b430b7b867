use Rattle.std.proofs.Common.{subst, sym, Option, ◌++◌}
use Rattle.bsc_octets.specs.declared.vmac.Vmac.{Vmac}
use Rattle.bsc_node.specs.Logs.{nothing, with_some}
use Rattle.bsc_node.specs.Receiving.{drops_question}
use Rattle.bsc_node_core.specs.Resolving.{BothStand}
use Rattle.bsc_node_core.proofs.receiving.drop_question.Goals as goal

pub returns-in-Some : goal.returns-in-Some
returns-in-Some c = λ b out s L h.
    subst (λ (x : Option Vmac). BothStand b out s c.drop_question_of.new.resolve (L ++ with_some x (drops_question b.made c.args.function c.args.id) nothing L)) (sym c.in-Some.is)
    (c.drop_question_of.ensures b out s L h)
