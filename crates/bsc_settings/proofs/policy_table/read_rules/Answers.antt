use Rattle.std.proofs.Common.{◌≡◌, ◌∙◌, codes, refl, sym, subst, ap, Some, None, IfErr, List, OnOk}
use Rattle.toml.specs.Data.{as_array, get_member}
use Rattle.toml.specs.View.{items_view, table_view, view}
use Rattle.toml.specs.declared.value.Value.{Value}
use Rattle.toml.proofs.Views.{table_get}
use Rattle.bsc_settings.specs.declared.key.KeyName.TheVariants.{PolicyRule}
use Rattle.bsc_settings.specs.Lists.{IsUnread}
use Rattle.bsc_settings.specs.Policies.{are_rules, rule_said}
use Rattle.bsc_settings.proofs.Lists.{rules-kept, no-list, read-list}
use Rattle.bsc_settings.specs.declared.refusal.PolicyRefusal.TheVariants as refused
use Rattle.bsc_settings.specs.Refusals.{IsOfRules}
use Rattle.bsc_settings.proofs.Refused.{of-list, of-no-list}
use Rattle.bsc_settings.proofs.policy_table.read_rules.Goals as goal

pub returns-in_default-clause-taken : goal.returns-in_default-clause-taken
returns-in_default-clause-taken c =
    let found = table_get c.get.result (codes "rule") c.args.table.now.entries c.get.ensures.value in
    rw (← rw c.in_default.is at found, c.requires) refl

pub returns-in-Some-as_array-clause-taken : goal.returns-in-Some-as_array-clause-taken
returns-in-Some-as_array-clause-taken c =
    let found = table_get c.get.result (codes "rule") c.args.table.now.entries c.get.ensures.value in
    let is : get_member (codes "rule") (table_view c.args.table.now) ≡ Some (view c.in-Some.value.now) = sym (rw c.in-Some.is at found) in
    let list : as_array (view c.in-Some.value.now) ≡ Some (items_view c.in-Some-as_array.list.now.items) = sym (rw c.in-Some-as_array.is at c.as_array.ensures) in
    let same = list ∙ ap (λ (vs : List Value). Some (items_view vs)) (sym c.deref.ensures.value) in
    let said = read-list rule_said are_rules rules-kept refl c.args.policy.now.rules.items c.requires c.deref.result.now (get_member (codes "rule") (table_view c.args.table.now))
    (view c.in-Some.value.now) is same in
    subst (λ o. OnOk c.take_rules.result (o ≡ Some c.take_rules.new.policy.rules.items)) said c.take_rules.ensures.taken

pub returns-in-Some-as_array-clause-untaken : goal.returns-in-Some-as_array-clause-untaken
returns-in-Some-as_array-clause-untaken c =
    let found = table_get c.get.result (codes "rule") c.args.table.now.entries c.get.ensures.value in
    let is : get_member (codes "rule") (table_view c.args.table.now) ≡ Some (view c.in-Some.value.now) = sym (rw c.in-Some.is at found) in
    let list : as_array (view c.in-Some.value.now) ≡ Some (items_view c.in-Some-as_array.list.now.items) = sym (rw c.in-Some-as_array.is at c.as_array.ensures) in
    let same = list ∙ ap (λ (vs : List Value). Some (items_view vs)) (sym c.deref.ensures.value) in
    let said = read-list rule_said are_rules rules-kept refl c.args.policy.now.rules.items c.requires c.deref.result.now (get_member (codes "rule") (table_view c.args.table.now))
    (view c.in-Some.value.now) is same in
    subst (λ o. IfErr c.take_rules.result (λ why. IsUnread why PolicyRule o)) said c.take_rules.ensures.untaken

pub returns-in-None-clause-untaken : goal.returns-in-None-clause-untaken
returns-in-None-clause-untaken c =
    let found = table_get c.get.result (codes "rule") c.args.table.now.entries c.get.ensures.value in
    let is : get_member (codes "rule") (table_view c.args.table.now) ≡ Some (view c.in-Some.value.now) = sym (rw c.in-Some.is at found) in
    let none : as_array (view c.in-Some.value.now) ≡ None = sym (rw c.in-None.is at c.as_array.ensures) in
    (refl, no-list rule_said are_rules (get_member (codes "rule") (table_view c.args.table.now)) (view c.in-Some.value.now) is none)

pub returns-in-Some-as_array-clause-why : goal.returns-in-Some-as_array-clause-why
returns-in-Some-as_array-clause-why c =
    let found = table_get c.get.result (codes "rule") c.args.table.now.entries c.get.ensures.value in
    let is : get_member (codes "rule") (table_view c.args.table.now) ≡ Some (view c.in-Some.value.now) = sym (rw c.in-Some.is at found) in
    let list : as_array (view c.in-Some.value.now) ≡ Some (items_view c.in-Some-as_array.list.now.items) = sym (rw c.in-Some-as_array.is at c.as_array.ensures) in
    let same = list ∙ ap (λ (vs : List Value). Some (items_view vs)) (sym c.deref.ensures.value) in
    of-list IsOfRules refused.RuleList c.deref.result.now (get_member (codes "rule") (table_view c.args.table.now)) (view c.in-Some.value.now) is same c.take_rules.result c.take_rules.ensures.first

pub returns-in-None-clause-why : goal.returns-in-None-clause-why
returns-in-None-clause-why c =
    let found = table_get c.get.result (codes "rule") c.args.table.now.entries c.get.ensures.value in
    let is : get_member (codes "rule") (table_view c.args.table.now) ≡ Some (view c.in-Some.value.now) = sym (rw c.in-Some.is at found) in
    let none : as_array (view c.in-Some.value.now) ≡ None = sym (rw c.in-None.is at c.as_array.ensures) in
    of-no-list IsOfRules refused.RuleList (get_member (codes "rule") (table_view c.args.table.now)) (view c.in-Some.value.now) is none
