use Rattle.std.proofs.Common.{inl, inr, arith}
use Rattle.bsc_frame.proofs.PayloadFirst.{empty_test, some_test}
use Rattle.bsc_frame.proofs.Connects.{node_missing, node_below, node_beyond, node_outside, vmac_read}
use Rattle.bsc_octets.specs.Addresses.{broadcast, zero_vmac}
use Rattle.bsc_frame.proofs.connect.read_node.Goals as goal

pub returns-then-is_empty : goal.returns-then-is_empty
returns-then-is_empty c = node_missing c.args.p.now (empty_test c.args.p.now c.is_empty.result c.is_empty.ensures c.if-is_empty.true)

pub returns-then-p-lt-FIXED_PART : goal.returns-then-p-lt-FIXED_PART
returns-then-p-lt-FIXED_PART c = node_below c.args.p.now (some_test c.args.p.now c.is_empty.result c.is_empty.ensures c.if-is_empty.false) (omega arith)

pub returns-then-p-gt-FIXED_PART : goal.returns-then-p-gt-FIXED_PART
returns-then-p-gt-FIXED_PART c = node_beyond c.args.p.now (omega arith)

pub returns-then-eq : goal.returns-then-eq
returns-then-eq c = node_outside c.args.p.now (omega arith) (inl (vmac_read c.args.p.now c.read_identity-who.result zero_vmac c.eq.result c.read_identity-who.ensures.read c.eq.ensures c.if-eq.true))

pub returns-then-eq-2 : goal.returns-then-eq-2
returns-then-eq-2 c =
    node_outside c.args.p.now (omega arith) (inr (vmac_read c.args.p.now c.read_identity-who.result broadcast c.eq-2.result c.read_identity-who.ensures.read c.eq-2.ensures c.if-eq-2.true))
