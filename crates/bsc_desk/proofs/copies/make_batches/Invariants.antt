use Rattle.std.proofs.Common.{◌≡◌, vec_len}
use Rattle.bsc_octets.specs.Forwarding.{out}
use Rattle.bsc_desk.specs.Copying.{AreBatches}
use Rattle.bsc_desk.proofs.copies.make_batches.Given as goal

abbrev pub invariant-loop-batch : goal.invariant-loop-batch
invariant-loop-batch l = (vec_len l.made ≡ l._batch) × AreBatches (out l.frame.message l.frame.sender) l.made.items
