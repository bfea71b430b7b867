use Rattle.bsc_world.proofs.whole.is_whole.Goals as goal

pub returns-in-Node : goal.returns-in-Node
returns-in-Node c = rw c.in-Node.is (c.sends_whole.ensures 0)
