-- Hubs and nodes are added before the first step.
-- It serves the clauses of `a_script_delivers_what_was_sent` and `a_script_is_of_its_steps`.
use Rattle.std.proofs.Common.{◌≡◌, ℕ, true, ◌&&◌, nat_eq, nat_lt, nat_le, List, [], ◌∷◌, length, refl, arith}
use Rattle.std.proofs.lemmas.Bool.{and_parts, eqb-true}
use Rattle.bsc_octets.specs.declared.identity.Identity.{Identity}
use Rattle.bsc_network.specs.declared.limits.TheConstants.{NODES}
use Rattle.bsc_network_script.specs.Scripts.{may_add_hub, may_add_node, may_be_hub, names_one}

pub no_elements : {A : Type 0} (xs : List A) → length xs ≡ 0 → xs ≡ []
no_elements [] e = refl
no_elements (x ∷ xs) e = absurd (omega arith)

-- a hub or a node is added before the first step
pub hub_first : (made total : ℕ) (who : Identity) → may_add_hub made total who ≡ true → made ≡ 0
hub_first made total who e =
    let p = and_parts (nat_eq made 0 && nat_lt total 2) (may_be_hub who) e in
    let q = and_parts (nat_eq made 0) (nat_lt total 2) p.0 in
    eqb-true made 0 q.0

pub node_first : (made hub_total node_total : ℕ) (own : Identity) → may_add_node made hub_total node_total own ≡ true → made ≡ 0
node_first made hub_total node_total own e =
    let p = and_parts (nat_eq made 0 && nat_le 1 hub_total && nat_lt node_total NODES) (names_one own.vmac) e in
    let q = and_parts (nat_eq made 0 && nat_le 1 hub_total) (nat_lt node_total NODES) p.0 in
    let r = and_parts (nat_eq made 0) (nat_le 1 hub_total) q.0 in
    eqb-true made 0 r.0
