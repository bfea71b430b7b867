use Rattle.std.proofs.Common.{◌∙◌, Err, ap}
use Rattle.toml.specs.View.{view}
use Rattle.bsc_policy.specs.declared.rule.Rule.{Rule}
use Rattle.bsc_settings.specs.declared.key.KeyName.TheVariants.{PolicyRule}
use Rattle.bsc_settings.specs.Lists.{after}
use Rattle.bsc_settings.specs.Policies.{are_rules, rule_said}
use Rattle.bsc_settings.proofs.Lists.{rule-full, unread-for}
use Rattle.bsc_settings.specs.Refusals.{rule_fault}
use Rattle.bsc_settings.proofs.Refused.{unruled-full}
use Rattle.bsc_settings.proofs.policy_table.take_rule.Goals as goal

pub returns-in-Err-Full-clause-untaken : goal.returns-in-Err-Full-clause-untaken
returns-in-Err-Full-clause-untaken c =
    let r : Rule = record { allows = c.in-Ok.said.allows; from = c.in-Ok.said.from.now; to = c.in-Ok.said.to.now } in
    let err = c.in-Err-Full.is ∙ ap Err c.in-Err-Full.field-0-is in
    unread-for c.unfit_rule-in-Err-Full.result PolicyRule (after rule_said are_rules c.args.policy.now.rules.items (view c.args.value.now)) c.unfit_rule-in-Err-Full.ensures.key
    (rule-full c.args.policy.now.rules.items r (rule_said (view c.args.value.now)) ((c.rule.ensures.full c.in-Err-Full.held).0 err).1 c.in-Ok.ensures.said)

pub returns-in-Err-clause-entry : goal.returns-in-Err-clause-entry
returns-in-Err-clause-entry c =
    c.unfit_rule.ensures.entry (rule_fault c.args.policy.now.rules.items (view c.args.value.now)) (c.in-Err.ensures.wrong c.args.policy.now.rules.items)

pub returns-in-Err-Full-clause-entry : goal.returns-in-Err-Full-clause-entry
returns-in-Err-Full-clause-entry c =
    let full = (c.rule.ensures.full c.in-Err-Full.held).0 (c.in-Err-Full.is ∙ ap Err c.in-Err-Full.field-0-is) in
    c.unfit_rule-in-Err-Full.ensures.entry (rule_fault c.args.policy.now.rules.items (view c.args.value.now))
    (c.in-Ok.ensures.fine c.args.policy.now.rules.items ∙ unruled-full c.args.policy.now.rules.items c.in-Err-Full.held full.0 full.1)
