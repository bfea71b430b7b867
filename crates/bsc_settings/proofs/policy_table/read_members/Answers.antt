use Rattle.std.proofs.Common.{◌≡◌, ◌∙◌, codes, refl, sym, subst, ap, Some, None, IfErr, List, OnOk}
use Rattle.toml.specs.Data.{as_array, get_member}
use Rattle.toml.specs.View.{items_view, table_view, view}
use Rattle.toml.specs.declared.value.Value.{Value}
use Rattle.toml.proofs.Views.{table_get}
use Rattle.bsc_settings.specs.declared.key.KeyName.TheVariants.{PolicyMember}
use Rattle.bsc_settings.specs.Lists.{IsUnread}
use Rattle.bsc_settings.specs.Policies.{are_members, member_said}
use Rattle.bsc_settings.proofs.Lists.{members-kept, no-list, read-list}
use Rattle.bsc_settings.specs.declared.refusal.PolicyRefusal.TheVariants as refused
use Rattle.bsc_settings.specs.Refusals.{IsOfMembers}
use Rattle.bsc_settings.proofs.Refused.{of-list, of-no-list}
use Rattle.bsc_settings.proofs.policy_table.read_members.Goals as goal

pub returns-in_default-clause-taken : goal.returns-in_default-clause-taken
returns-in_default-clause-taken c =
    let found = table_get c.get.result (codes "member") c.args.table.now.entries c.get.ensures.value in
    rw (← rw c.in_default.is at found, c.requires) refl

pub returns-in-Some-as_array-clause-taken : goal.returns-in-Some-as_array-clause-taken
returns-in-Some-as_array-clause-taken c =
    let found = table_get c.get.result (codes "member") c.args.table.now.entries c.get.ensures.value in
    let is : get_member (codes "member") (table_view c.args.table.now) ≡ Some (view c.in-Some.value.now) = sym (rw c.in-Some.is at found) in
    let list : as_array (view c.in-Some.value.now) ≡ Some (items_view c.in-Some-as_array.list.now.items) = sym (rw c.in-Some-as_array.is at c.as_array.ensures) in
    let same = list ∙ ap (λ (vs : List Value). Some (items_view vs)) (sym c.deref.ensures.value) in
    let said = read-list member_said are_members members-kept refl c.args.policy.now.members.items c.requires c.deref.result.now (get_member (codes "member") (table_view c.args.table.now))
    (view c.in-Some.value.now) is same in
    subst (λ o. OnOk c.take_members.result (o ≡ Some c.take_members.new.policy.members.items)) said c.take_members.ensures.taken

pub returns-in-Some-as_array-clause-untaken : goal.returns-in-Some-as_array-clause-untaken
returns-in-Some-as_array-clause-untaken c =
    let found = table_get c.get.result (codes "member") c.args.table.now.entries c.get.ensures.value in
    let is : get_member (codes "member") (table_view c.args.table.now) ≡ Some (view c.in-Some.value.now) = sym (rw c.in-Some.is at found) in
    let list : as_array (view c.in-Some.value.now) ≡ Some (items_view c.in-Some-as_array.list.now.items) = sym (rw c.in-Some-as_array.is at c.as_array.ensures) in
    let same = list ∙ ap (λ (vs : List Value). Some (items_view vs)) (sym c.deref.ensures.value) in
    let said = read-list member_said are_members members-kept refl c.args.policy.now.members.items c.requires c.deref.result.now (get_member (codes "member") (table_view c.args.table.now))
    (view c.in-Some.value.now) is same in
    subst (λ o. IfErr c.take_members.result (λ why. IsUnread why PolicyMember o)) said c.take_members.ensures.untaken

pub returns-in-None-clause-untaken : goal.returns-in-None-clause-untaken
returns-in-None-clause-untaken c =
    let found = table_get c.get.result (codes "member") c.args.table.now.entries c.get.ensures.value in
    let is : get_member (codes "member") (table_view c.args.table.now) ≡ Some (view c.in-Some.value.now) = sym (rw c.in-Some.is at found) in
    let none : as_array (view c.in-Some.value.now) ≡ None = sym (rw c.in-None.is at c.as_array.ensures) in
    (refl, no-list member_said are_members (get_member (codes "member") (table_view c.args.table.now)) (view c.in-Some.value.now) is none)

pub returns-in-Some-as_array-clause-why : goal.returns-in-Some-as_array-clause-why
returns-in-Some-as_array-clause-why c =
    let found = table_get c.get.result (codes "member") c.args.table.now.entries c.get.ensures.value in
    let is : get_member (codes "member") (table_view c.args.table.now) ≡ Some (view c.in-Some.value.now) = sym (rw c.in-Some.is at found) in
    let list : as_array (view c.in-Some.value.now) ≡ Some (items_view c.in-Some-as_array.list.now.items) = sym (rw c.in-Some-as_array.is at c.as_array.ensures) in
    let same = list ∙ ap (λ (vs : List Value). Some (items_view vs)) (sym c.deref.ensures.value) in
    of-list IsOfMembers refused.MemberList c.deref.result.now (get_member (codes "member") (table_view c.args.table.now))
    (view c.in-Some.value.now) is same c.take_members.result c.take_members.ensures.first

pub returns-in-None-clause-why : goal.returns-in-None-clause-why
returns-in-None-clause-why c =
    let found = table_get c.get.result (codes "member") c.args.table.now.entries c.get.ensures.value in
    let is : get_member (codes "member") (table_view c.args.table.now) ≡ Some (view c.in-Some.value.now) = sym (rw c.in-Some.is at found) in
    let none : as_array (view c.in-Some.value.now) ≡ None = sym (rw c.in-None.is at c.as_array.ensures) in
    of-no-list IsOfMembers refused.MemberList (get_member (codes "member") (table_view c.args.table.now)) (view c.in-Some.value.now) is none
