use Rattle.bsc_resolve.specs.Kept.{is_for, without_question}
use Rattle.bsc_resolve.proofs.Finding.{set_first}
use Rattle.bsc_resolve.proofs.entries.drop_at.Goals as goal

pub returns-clause-items : goal.returns-clause-items
returns-clause-items c = set_first (is_for c.args.v) (without_question) c.args.entries.now.items c.args.place c.index_mut-entry.result.now c.requires c.index_mut-entry.ensures.value
