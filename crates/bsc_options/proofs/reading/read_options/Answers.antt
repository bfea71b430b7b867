use Rattle.bsc_options.proofs.Exact.{within_of, only_of, memory_of, cut_then, cut_if, bad_kind_then, bad_kind_if, bad_shape_then, bad_shape_if}
use Rattle.bsc_options.proofs.reading.read_options.Goals as goal

pub returns-clause-within : goal.returns-clause-within
returns-clause-within c = within_of c.args.m.now c.args.at c.list_at.result c.requires c.list_at.ensures

pub returns-clause-only : goal.returns-clause-only
returns-clause-only c = only_of c.args.m.now c.args.at c.list_at.result c.list_at.ensures

pub returns-clause-memory : goal.returns-clause-memory
returns-clause-memory c = memory_of c.args.m.now c.args.at c.list_at.result c.list_at.ensures

pub returns-clause-cut : goal.returns-clause-cut
returns-clause-cut c = (cut_then c.args.m.now c.args.at c.list_at.result c.list_at.ensures, cut_if c.args.m.now c.args.at c.list_at.result c.list_at.ensures)

pub returns-clause-bad_kind : goal.returns-clause-bad_kind
returns-clause-bad_kind c = (bad_kind_then c.args.m.now c.args.at c.list_at.result c.list_at.ensures, bad_kind_if c.args.m.now c.args.at c.list_at.result c.list_at.ensures)

pub returns-clause-bad_shape : goal.returns-clause-bad_shape
returns-clause-bad_shape c = (bad_shape_then c.args.m.now c.args.at c.list_at.result c.list_at.ensures, bad_shape_if c.args.m.now c.args.at c.list_at.result c.list_at.ensures)
