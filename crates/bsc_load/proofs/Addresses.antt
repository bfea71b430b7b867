-- Two peers have two addresses.
-- It serves clauses of functions of `passes`, `storm`, `worker` and `workload`.
use Rattle.std.proofs.Common.{◌≡◌, ◌≢◌, ℕ, ◌+◌, ◌*◌, ◌<◌, [], drop, ap, sym, ◌∙◌, arith, append-nil}
use Rattle.byteorder.specs.Endian.{big_bytes, big_number}
use Rattle.bsc_octets.specs.declared.vmac.Vmac.{Vmac}
use Rattle.bsc_octets.proofs.TwoOctets.{two_octet_number}
use Rattle.bsc_history.specs.Marks.{entries}
use Rattle.bsc_history.specs.Outboxes.{vmac_of}
use Rattle.bsc_turn.specs.declared.pass.Pass.{Pass}
use Rattle.bsc_turn.specs.Passes.{seen}
use Rattle.bsc_hub.specs.Passing.{IsOwnAs}
use Rattle.bsc_load.specs.declared.bounds.TheConstants.{WORKERS}
use Rattle.bsc_load.specs.Peers.{address, receiver, sender}

-- the number of an address
number_at : Vmac → ℕ
number_at v = big_number 2 (drop 4 v.0)

number_at-address : (n : ℕ) → n < 65536 → number_at (address n) ≡ n
unfolding number_at
number_at-address n small = ap (big_number 2) (sym (append-nil (big_bytes 2 n))) ∙ two_octet_number n [] small

pub addresses_differ : (i : ℕ) → i < WORKERS → (sender i).vmac ≢ (receiver i).vmac
addresses_differ i small same =
    let one = number_at-address (2 * i + 1) (omega (arith, small)) in
    let two = number_at-address (2 * i + 2) (omega (arith, small)) in
    let e : 2 * i + 1 ≡ 2 * i + 2 = sym one ∙ ap number_at same ∙ two in
    omega (arith, e)

-- the two connections of a worker differ, since their addresses do
pub connections_differ : (q : Pass) (i s r : ℕ) → i < WORKERS → IsOwnAs q s (sender i).vmac → IsOwnAs q r (receiver i).vmac → r ≢ s
connections_differ q i s r small a b same = addresses_differ i small (sym a.1 ∙ ap (λ (c : ℕ). vmac_of (entries (seen q)) c) (sym same) ∙ b.1)
