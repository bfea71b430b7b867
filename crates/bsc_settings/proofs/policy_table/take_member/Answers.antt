use Rattle.std.proofs.Common.{◌∙◌, Err, ap}
use Rattle.toml.specs.View.{view}
use Rattle.bsc_policy.specs.declared.member.Member.{Member}
use Rattle.bsc_settings.specs.declared.key.KeyName.TheVariants.{PolicyMember}
use Rattle.bsc_settings.specs.Lists.{after}
use Rattle.bsc_settings.specs.Policies.{are_members, member_said}
use Rattle.bsc_settings.proofs.Lists.{member-full, member-taken, member-twice, unread-for}
use Rattle.bsc_settings.specs.Refusals.{member_fault}
use Rattle.bsc_settings.proofs.Refused.{untaken-full, untaken-twice}
use Rattle.bsc_settings.proofs.policy_table.take_member.Goals as goal

pub returns-in-Ok-member-clause-taken : goal.returns-in-Ok-member-clause-taken
returns-in-Ok-member-clause-taken c =
    let m : Member = record { device = c.in-Ok.said.device; vmac = c.in-Ok.said.vmac; group = c.in-Ok.said.group.now } in
    member-taken c.member.result c.in-Ok-member.field-0 c.args.policy.now.members.items c.member.new.self.members.items m (member_said (view c.args.value.now)) c.in-Ok-member.is
    (c.member.ensures.full, c.member.ensures.twice) c.requires c.in-Ok.ensures.said c.in-Ok-member.ensures.ok

pub returns-in-Err-Full-clause-untaken : goal.returns-in-Err-Full-clause-untaken
returns-in-Err-Full-clause-untaken c =
    let m : Member = record { device = c.in-Ok.said.device; vmac = c.in-Ok.said.vmac; group = c.in-Ok.said.group.now } in
    let err = c.in-Err-Full.is ∙ ap Err c.in-Err-Full.field-0-is in
    unread-for c.unfit_member-in-Err-Full.result PolicyMember (after member_said are_members c.args.policy.now.members.items (view c.args.value.now)) c.unfit_member-in-Err-Full.ensures.key
    (member-full c.member.result c.args.policy.now.members.items m (member_said (view c.args.value.now)) c.in-Err-Full.held err
    (c.member.ensures.full, c.member.ensures.twice) c.in-Ok.ensures.said)

pub returns-in-Err-Twice-clause-untaken : goal.returns-in-Err-Twice-clause-untaken
returns-in-Err-Twice-clause-untaken c =
    let m : Member = record { device = c.in-Ok.said.device; vmac = c.in-Ok.said.vmac; group = c.in-Ok.said.group.now } in
    let err = c.in-Err-Twice.is ∙ ap Err c.in-Err-Twice.field-0-is in
    unread-for c.unfit_member-in-Err-Twice.result PolicyMember (after member_said are_members c.args.policy.now.members.items (view c.args.value.now)) c.unfit_member-in-Err-Twice.ensures.key
    (member-twice c.member.result c.args.policy.now.members.items m (member_said (view c.args.value.now)) c.in-Err-Twice.member err
    (c.member.ensures.full, c.member.ensures.twice) c.in-Ok.ensures.said)

pub returns-in-Err-clause-entry : goal.returns-in-Err-clause-entry
returns-in-Err-clause-entry c =
    c.unfit_member.ensures.entry (member_fault c.args.policy.now.members.items (view c.args.value.now)) (c.in-Err.ensures.wrong c.args.policy.now.members.items)

pub returns-in-Err-Full-clause-entry : goal.returns-in-Err-Full-clause-entry
returns-in-Err-Full-clause-entry c =
    let m : Member = record { device = c.in-Ok.said.device; vmac = c.in-Ok.said.vmac; group = c.in-Ok.said.group.now } in
    let full = (c.member.ensures.full c.in-Err-Full.held).0 (c.in-Err-Full.is ∙ ap Err c.in-Err-Full.field-0-is) in
    c.unfit_member-in-Err-Full.ensures.entry (member_fault c.args.policy.now.members.items (view c.args.value.now))
    (c.in-Ok.ensures.fine c.args.policy.now.members.items ∙ untaken-full c.args.policy.now.members.items m c.in-Err-Full.held full.0 full.1)

pub returns-in-Err-Twice-clause-entry : goal.returns-in-Err-Twice-clause-entry
returns-in-Err-Twice-clause-entry c =
    let m : Member = record { device = c.in-Ok.said.device; vmac = c.in-Ok.said.vmac; group = c.in-Ok.said.group.now } in
    let twice = (c.member.ensures.twice c.in-Err-Twice.member).0 (c.in-Err-Twice.is ∙ ap Err c.in-Err-Twice.field-0-is) in
    c.unfit_member-in-Err-Twice.ensures.entry (member_fault c.args.policy.now.members.items (view c.args.value.now))
    (c.in-Ok.ensures.fine c.args.policy.now.members.items
    ∙ untaken-twice c.args.policy.now.members.items m c.in-Err-Twice.member c.saturating_add.result twice.0 twice.1 c.saturating_add.ensures)
