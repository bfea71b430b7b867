use Rattle.std.proofs.Common.{◌≡◌, codes, map, subst, List, Some}
use Rattle.std.specs.Prelude.{IfOk}
use Rattle.toml.specs.View.{table_view, view}
use Rattle.bsc_policy.specs.declared.rule.Rule.{Rule}
use Rattle.bsc_settings.specs.Listed.{values_at}
use Rattle.bsc_settings.specs.Policies.{rule_said}
use Rattle.bsc_settings.proofs.Sayings.{of_values}
use Rattle.bsc_settings.proofs.listing.rules_in.Goals as goal

pub returns-in-Some : goal.returns-in-Some
returns-in-Some c =
    let at : Some (map view c.in-Some.values.now) ≡ values_at (codes "rule") (table_view c.args.table.now) = rw c.in-Some.is at c.values_at.ensures in
    subst (λ (xs : List Rule). IfOk c.list_rules.result (λ m. m.items ≡ xs)) (of_values rule_said c.in-Some.values.now (values_at (codes "rule") (table_view c.args.table.now)) at) c.list_rules.ensures
