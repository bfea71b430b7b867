use Rattle.bsc_node_core.proofs.state.State.put_made.Goals as goal

pub returns-clause-goes : goal.returns-clause-goes
returns-clause-goes c = rw c.as_slice.ensures.value at (rw c.in_ok-copy.ensures at c.put.ensures.goes)
