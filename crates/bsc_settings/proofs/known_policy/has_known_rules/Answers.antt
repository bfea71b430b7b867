use Rattle.std.proofs.Common.{◌∙◌, codes, refl, sym, ap, Some}
use Rattle.std.specs.List.{list_all}
use Rattle.toml.specs.View.{view}
use Rattle.toml.proofs.Views.{table_get}
use Rattle.bsc_settings.specs.Table.{rule_table}
use Rattle.bsc_settings.specs.Documents.{is_known}
use Rattle.bsc_settings.proofs.Lists.{known-list}
use Rattle.bsc_settings.proofs.known_policy.has_known_rules.Goals as goal

pub returns-in_default : goal.returns-in_default
returns-in_default c =
    let found = table_get c.get.result (codes "rule") c.args.table.now.entries c.get.ensures.value in
    rw (← rw c.in_default.is at found) refl

pub returns-in-Some-as_array : goal.returns-in-Some-as_array
returns-in-Some-as_array c =
    let found = table_get c.get.result (codes "rule") c.args.table.now.entries c.get.ensures.value in
    let same = ap (list_all (λ it. is_known (λ _. rule_table) (Some (view it)))) c.deref.ensures.value in
    let known = c.are_known_rules.ensures ∙ same ∙ sym (known-list rule_table c.in-Some-as_array.list.now.items) in
    rw (← rw c.in-Some.is at found, ← rw c.in-Some-as_array.is at c.as_array.ensures) known

pub returns-in-None : goal.returns-in-None
returns-in-None c =
    let found = table_get c.get.result (codes "rule") c.args.table.now.entries c.get.ensures.value in
    rw (← rw c.in-Some.is at found, ← rw c.in-None.is at c.as_array.ensures) refl
