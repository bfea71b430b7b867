use Rattle.std.proofs.Common.{◌≡◌, vec_len}
use Rattle.std.specs.List.{AllByRecursion}
use Rattle.bsc_octets.specs.Forwarding.{out}
use Rattle.bsc_desk.proofs.copies.make_batch.Given as goal

abbrev pub invariant-loop-copy : goal.invariant-loop-copy
invariant-loop-copy l = (vec_len l.made ≡ l._copy) × AllByRecursion (λ o. o ≡ out l.frame.message l.frame.sender) l.made.items
