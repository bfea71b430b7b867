-- A hub by settings is one that a script may make.
-- It serves the clauses of `make_hub`.
use Rattle.std.proofs.Common.{◌≡◌, ℕ, ◌≤◌, Bool, true, false, not, ◌||◌, refl, ◌*◌}
use Rattle.std.proofs.lemmas.Bool.{and_from, le-leb}
use Rattle.bsc_octets.specs.declared.bounds.TheConstants.{LEAST_BVLC}
use Rattle.bsc_octets.specs.Addresses.{broadcast, same_vmac, zero_vmac}
use Rattle.bsc_history.specs.declared.limits.TheConstants.{MOST_OCTETS, MOST_OUTBOX, MOST_ROWS}
use Rattle.bsc_settings.specs.declared.hub.HubSettings.{HubSettings}
use Rattle.bsc_settings.specs.Parts.{identity_of, limits_of}
use Rattle.bsc_script.specs.Lines.{lies_within}
use Rattle.bsc_hub_command.proofs.HubBack.{CanBeSaid}

neither : (a b : Bool) → not (a || b) ≡ true → (not a ≡ true) × (not b ≡ true)
neither true b h = (h, cc h)
neither false b h = (refl, h)

within : (low n high : ℕ) → (low ≤ n) × (n ≤ high) → lies_within low n high ≡ true
within low n high h = and_from _ _ (le-leb low n h.0) (le-leb n high h.1)

pub can_be_said : (s : HubSettings) → CanBeSaid (record { hub = identity_of s; limits = limits_of s })
can_be_said s =
    let named = neither (same_vmac s.vmac zero_vmac) (same_vmac s.vmac broadcast) s.address in (
      and_from _ _
          (and_from _ _
          (and_from _ _
          (and_from _ _
          (and_from _ _
          (and_from _ _
          (and_from _ _ named.0 named.1)
          (within LEAST_BVLC s.max_bvlc 65535 s.max_bvlc_fits))
          (within 1 s.max_npdu 65535 s.max_npdu_fits))
          (within 1 s.rows MOST_ROWS s.rows_fit))
          (within 2 s.outbox MOST_OUTBOX s.outbox_fits))
          refl)
          (le-leb (s.rows * s.outbox * s.max_bvlc) MOST_OCTETS s.product),
      refl,
    )
