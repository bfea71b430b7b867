use Rattle.std.proofs.Common.{◌∙◌, map, refl, sym, subst, ap, arith, true, ◌≡◌}
use Rattle.std.proofs.lemmas.Result.{err_from_is_err_and}
use Rattle.toml.specs.View.{view}
use Rattle.bsc_policy.specs.declared.bounds.TheConstants.{RULES}
use Rattle.bsc_settings.specs.declared.refusal.PolicyRefusal.TheVariants as refused
use Rattle.bsc_settings.specs.Policies.{are_rules, rule_said}
use Rattle.bsc_settings.specs.Refusals.{IsOfRules, rule_fault}
use Rattle.bsc_settings.proofs.Lists.{rules-kept, taken-more}
use Rattle.bsc_settings.proofs.Refused.{few-rules, first-told, read-more, read-start, told-on}
use Rattle.bsc_settings.proofs.policy_table.take_rules.Goals as goal

pub loop-value-init : goal.loop-value-init
loop-value-init c = (
  record { goes_on = refl; fits = subst (λ l. are_rules l ≡ true) (sym c.requires) refl },
  refl,
  read-start rule_said are_rules c.args.policy.now.rules.items c.args.list.now c.requires,
)

pub loop-value-preserved : goal.loop-value-preserved
loop-value-preserved c = (
  taken-more rule_said are_rules c.args.policy.now.rules.items c.loop-value.policy.rules.items c.take_rule.new.policy.rules.items c.args.list.now c.loop-value.value-index c.value-item.result
      c.loop-value-test.true c.value-item.is c.in_ok-take_rule.ensures.taken c.loop-value.invariant.0,
  c.take_rule.ensures.members ∙ c.loop-value.invariant.1,
  read-more rule_said are_rules RULES few-rules (omega arith) c.args.policy.now.rules.items c.loop-value.policy.rules.items c.take_rule.new.policy.rules.items c.args.list.now
      c.loop-value.value-index c.loop-value.entry c.saturating_add-entry.result c.value-item.result
      c.loop-value-test.true c.value-item.is c.in_ok-take_rule.ensures.taken c.saturating_add-entry.ensures c.loop-value.invariant.0.fits c.loop-value.invariant.2,
)

pub returns-in_err-take_rule-clause-first : goal.returns-in_err-take_rule-clause-first
returns-in_err-take_rule-clause-first c =
    let e = err_from_is_err_and c.from_residual.result c.from_residual.ensures.1 in
    told-on (IsOfRules (map view c.args.list.now)) c.from_residual.result c.in_err-take_rule.field-0.0 e.0 e.1 e.2 (
    first-told rule_said are_rules rule_fault rules-kept refl RULES few-rules (omega arith) (λ n f. refused.Rule n f) IsOfRules (λ values n f is. is)
    c.args.policy.now.rules.items c.loop-value.policy.rules.items c.args.list.now c.loop-value.value-index c.loop-value.entry c.saturating_add-entry.result c.value-item.result
    c.in_err-take_rule.field-0.0
    c.requires c.loop-value-test.true c.value-item.is c.saturating_add-entry.ensures c.loop-value.invariant.0.fits c.loop-value.invariant.2 c.in_err-take_rule.ensures.entry
    )
