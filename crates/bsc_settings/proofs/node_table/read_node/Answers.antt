use Rattle.toml.specs.View.{table_view}
use Rattle.bsc_settings.proofs.Joined.{peers-fault, sizes-fault, bounds-fault, names, names-err}
use Rattle.bsc_settings.proofs.node_table.read_node.Goals as goal

pub returns-in-Err-clause-fault : goal.returns-in-Err-clause-fault
returns-in-Err-clause-fault c =
    names c.from.result c.in-Err.name _ c.from.ensures
    (peers-fault (table_view c.args.table.now) c.stands.result c.in-Err.name c.stands.ensures c.in-Err.ensures.fault)

pub returns-in_err-sizes-clause-fault : goal.returns-in_err-sizes-clause-fault
returns-in_err-sizes-clause-fault c =
    names-err c.from_residual.result c.in_err-sizes.field-0.0 _ c.from_residual.ensures.1
    (sizes-fault (table_view c.args.table.now) c.stands.result c.in_err-sizes.field-0.0 c.stands.ensures c.in-Ok.ensures.fine c.in_err-sizes.ensures.fault)

pub returns-in_err-bounds-clause-fault : goal.returns-in_err-bounds-clause-fault
returns-in_err-bounds-clause-fault c =
    names-err c.from_residual-in_err-bounds.result c.in_err-bounds.field-0.0 _ c.from_residual-in_err-bounds.ensures.1
    (bounds-fault (table_view c.args.table.now) c.stands.result c.in_ok-sizes.sizes.least_reconnect_ms c.in_err-bounds.field-0.0 c.stands.ensures
    c.in_ok-sizes.ensures.least c.in-Ok.ensures.fine c.in_ok-sizes.ensures.fine c.in_err-bounds.ensures.fault)
