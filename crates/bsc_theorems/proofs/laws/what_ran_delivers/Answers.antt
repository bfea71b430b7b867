use Rattle.bsc_theorems.proofs.laws.what_ran_delivers.Goals as goal

pub returns : goal.returns
returns g c = record {
  delivers = c.hubs_and_nodes_that_ran_deliver.ensures;
  by_wires = c.what_ran_delivers_by_wires.ensures;
}
