use Rattle.std.proofs.Common.{◌≡◌, drop, map}
use Rattle.toml.specs.View.{view}
use Rattle.bsc_settings.specs.Policies.{are_rules, rule_said}
use Rattle.bsc_settings.proofs.Lists.{TakenTo}
use Rattle.bsc_settings.proofs.Refused.{ReadTo}
use Rattle.bsc_settings.proofs.policy_table.take_rules.Given as goal

abbrev pub invariant-loop-value : goal.invariant-loop-value
invariant-loop-value l =
    TakenTo rule_said are_rules l.fn.policy.rules.items l.policy.rules.items (map view l.list) (map view (drop l.value-index l.list))
    × (l.policy.members.items ≡ l.fn.policy.members.items)
    × ReadTo rule_said are_rules l.fn.policy.rules.items l.policy.rules.items l.list l.value-index l.entry
