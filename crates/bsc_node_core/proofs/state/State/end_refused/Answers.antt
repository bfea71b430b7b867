use Rattle.std.proofs.Common.{◌∙◌}
use Rattle.std.proofs.lemmas.Result.{on_ok_weaker}
use Rattle.bsc_node.specs.declared.link_name.LinkName.TheVariants.{Hub}
use Rattle.bsc_node.specs.Logs.{nothing}
use Rattle.bsc_node.specs.Ending.{ends}
use Rattle.bsc_node.specs.Meeting.{refusing_side}
use Rattle.bsc_node_core.specs.Standing.{Stands}
use Rattle.bsc_node_core.proofs.Branching.{still, found-some, found-none}
use Rattle.bsc_node_core.proofs.state.State.end_refused.Goals as goal

pub returns-in-Some : goal.returns-in-Some
returns-in-Some c = on_ok_weaker c.end.result
    (λ g b L r h.
    found-some (Stands b _ _) L refusing_side (λ s. ends b.made (Hub s)) nothing c.in-Some.side (h.newest_hub ∙ c.in-Some.is) (g b L r h))
    c.end.ensures

pub returns-in-None : goal.returns-in-None
returns-in-None c = λ b L r h.
    found-none (Stands b _ _) L refusing_side (λ s. ends b.made (Hub s)) nothing (h.newest_hub ∙ c.in-None.is) (still (Stands b _ _) L h)
