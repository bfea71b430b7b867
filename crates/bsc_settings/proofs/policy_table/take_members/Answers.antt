use Rattle.std.proofs.Common.{◌∙◌, map, refl, sym, subst, ap, arith, true, ◌≡◌}
use Rattle.std.proofs.lemmas.Result.{err_from_is_err_and}
use Rattle.toml.specs.View.{view}
use Rattle.bsc_policy.specs.declared.bounds.TheConstants.{MEMBERS}
use Rattle.bsc_settings.specs.declared.refusal.PolicyRefusal.TheVariants as refused
use Rattle.bsc_settings.specs.Policies.{are_members, member_said}
use Rattle.bsc_settings.specs.Refusals.{IsOfMembers, member_fault}
use Rattle.bsc_settings.proofs.Lists.{members-kept, taken-more}
use Rattle.bsc_settings.proofs.Refused.{few-members, first-told, read-more, read-start, told-on}
use Rattle.bsc_settings.proofs.policy_table.take_members.Goals as goal

pub loop-value-init : goal.loop-value-init
loop-value-init c = (
  record { goes_on = refl; fits = subst (λ l. are_members l ≡ true) (sym c.requires) refl },
  refl,
  read-start member_said are_members c.args.policy.now.members.items c.args.list.now c.requires,
)

pub loop-value-preserved : goal.loop-value-preserved
loop-value-preserved c = (
  taken-more member_said are_members c.args.policy.now.members.items c.loop-value.policy.members.items c.take_member.new.policy.members.items c.args.list.now c.loop-value.value-index
      c.value-item.result
      c.loop-value-test.true c.value-item.is c.in_ok-take_member.ensures.taken c.loop-value.invariant.0,
  c.take_member.ensures.rules ∙ c.loop-value.invariant.1,
  read-more member_said are_members MEMBERS few-members (omega arith) c.args.policy.now.members.items c.loop-value.policy.members.items c.take_member.new.policy.members.items c.args.list.now
      c.loop-value.value-index c.loop-value.entry c.saturating_add-entry.result c.value-item.result
      c.loop-value-test.true c.value-item.is c.in_ok-take_member.ensures.taken c.saturating_add-entry.ensures c.loop-value.invariant.0.fits c.loop-value.invariant.2,
)

pub returns-in_err-take_member-clause-first : goal.returns-in_err-take_member-clause-first
returns-in_err-take_member-clause-first c =
    let e = err_from_is_err_and c.from_residual.result c.from_residual.ensures.1 in
    told-on (IsOfMembers (map view c.args.list.now)) c.from_residual.result c.in_err-take_member.field-0.0 e.0 e.1 e.2 (
    first-told member_said are_members member_fault members-kept refl MEMBERS few-members (omega arith) (λ n f. refused.Member n f) IsOfMembers (λ values n f is. is)
    c.args.policy.now.members.items c.loop-value.policy.members.items c.args.list.now c.loop-value.value-index c.loop-value.entry c.saturating_add-entry.result c.value-item.result
    c.in_err-take_member.field-0.0
    c.requires c.loop-value-test.true c.value-item.is c.saturating_add-entry.ensures c.loop-value.invariant.0.fits c.loop-value.invariant.2 c.in_err-take_member.ensures.entry
    )
