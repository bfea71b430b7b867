use Rattle.std.proofs.Common.{◌≡◌, drop, map}
use Rattle.toml.specs.View.{view}
use Rattle.bsc_settings.specs.Policies.{are_members, member_said}
use Rattle.bsc_settings.proofs.Lists.{TakenTo}
use Rattle.bsc_settings.proofs.Refused.{ReadTo}
use Rattle.bsc_settings.proofs.policy_table.take_members.Given as goal

abbrev pub invariant-loop-value : goal.invariant-loop-value
invariant-loop-value l =
    TakenTo member_said are_members l.fn.policy.members.items l.policy.members.items (map view l.list) (map view (drop l.value-index l.list))
    × (l.policy.rules.items ≡ l.fn.policy.rules.items)
    × ReadTo member_said are_members l.fn.policy.members.items l.policy.members.items l.list l.value-index l.entry
