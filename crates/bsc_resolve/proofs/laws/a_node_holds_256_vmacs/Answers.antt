use Rattle.bsc_resolve.proofs.Following.{refused_at_256, asked_at_255}
use Rattle.bsc_resolve.proofs.laws.a_node_holds_256_vmacs.Goals as goal

pub returns-clause-refused : goal.returns-clause-refused
returns-clause-refused c = λ wait calls v new many. refused_at_256 wait calls v new many

pub returns-clause-asked : goal.returns-clause-asked
returns-clause-asked c = λ wait calls v new many. asked_at_255 wait calls v new many
