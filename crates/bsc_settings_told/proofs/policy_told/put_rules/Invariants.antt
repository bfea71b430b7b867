use Rattle.std.proofs.Common.{◌≡◌, ◌++◌, take, flat_map}
use Rattle.bsc_settings_told.specs.Told.{rule_lines}
use Rattle.bsc_settings_told.proofs.policy_told.put_rules.Given as goal

abbrev pub invariant-loop-rule : goal.invariant-loop-rule
invariant-loop-rule l = l.text.items ≡ l.fn.text.items ++ flat_map rule_lines (take l.rule-index l.rules)
