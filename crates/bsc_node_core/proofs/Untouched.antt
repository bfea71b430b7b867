-- What wasn't touched of a state is as in its spare, where a link is touched or the slots are.
-- It serves clauses of most source files here.
use Rattle.std.proofs.Common.{Bool, true, cond, ◌&&◌, ap, sym, ◌∙◌}
use Rattle.std.proofs.lemmas.Bool.{false≢true}
use Rattle.bsc_direct.specs.declared.direct.Direct.{Direct as SlotTable}
use Rattle.bsc_node.specs.declared.link_name.LinkName.{LinkName}
use Rattle.bsc_node_core.specs.declared.links.Links.{Links}
use Rattle.bsc_node_core.specs.declared.state.State.{State}
use Rattle.bsc_node_core.specs.Tables.{Kept, Sets, Touches, is_name, link_at}
use Rattle.bsc_node_core.specs.Spares.{Agrees}

-- Something is kept of a link.
pub agrees-set : (spare s : State) (ls : Links) (name : LinkName) (kept : Kept) → Sets s.links ls name kept → Touches s.links ls name → Agrees spare s → Agrees spare (record s { links = ls })
agrees-set spare s ls name kept sets touches h = (
  λ other n t. (let u = touches other t in sets other ∙ ap (λ (b : Bool). cond (b && is_name name) kept (link_at s.links other)) u.0 ∙ h.0 other n u.1),
  h.1,
)

-- The slots are touched.
pub agrees-slots : (spare s : State) (d : SlotTable) → Agrees spare s → Agrees spare (record s { direct = d; direct_touched = true })
agrees-slots spare s d h = (h.0, λ t. absurd (false≢true (sym t)))
