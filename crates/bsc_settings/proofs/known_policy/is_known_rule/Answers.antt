use Rattle.std.proofs.Common.{◌∙◌, refl}
use Rattle.bsc_settings.specs.Table.{rule_table}
use Rattle.bsc_settings.specs.Documents.{has_key}
use Rattle.bsc_settings.proofs.Keys.{all_keys}
use Rattle.bsc_settings.proofs.known_policy.is_known_rule.Goals as goal

pub returns-in-Some : goal.returns-in-Some
returns-in-Some c =
    let known = c.has_rule_keys.ensures ∙ all_keys (has_key rule_table) c.in-Some.table.now.entries in
    known ∙ rw (← rw c.in-Some.is at c.as_table.ensures) refl

pub returns-in-None : goal.returns-in-None
returns-in-None c = rw (← rw c.in-None.is at c.as_table.ensures) refl
