use Rattle.std.proofs.Common.{◌≡◌, Bool, true, false, not, ◌||◌, refl, sym, ◌∙◌}
use Rattle.bsc_octets.specs.Addresses.{broadcast, same_vmac, zero_vmac}
use Rattle.bsc_history.proofs.Uniqueness.{vmac_refl}
use Rattle.bsc_settings.proofs.laws.settings_are_of_nodes.Goals as goal

both_ways : true ≡ false → ⊥
both_ways e = cc

neither : (a b : Bool) → not (a || b) ≡ true → (a ≡ false) × (b ≡ false)
neither true b h = cc h
neither false true h = cc h
neither false false h = (refl, refl)

pub returns : goal.returns
returns c =
    let v = c.args.settings.now in
    let named = neither (same_vmac v.vmac zero_vmac) (same_vmac v.vmac broadcast) v.address in
    record {
      address = c.has_six.ensures;
      device = c.has_sixteen.ensures;
      reserved = λ e. both_ways (sym (vmac_refl _ _ e) ∙ named.0);
      broadcast = λ e. both_ways (sym (vmac_refl _ _ e) ∙ named.1);
      bvlc = c.in_range.ensures;
      npdu = c.in_range-2.ensures;
    }
