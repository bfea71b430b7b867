use Rattle.std.proofs.Common.{List, Option, find, option_map, ap, ap₂, ◌∙◌}
use Rattle.bsc_octets.specs.Addresses.{same_vmac}
use Rattle.bsc_policy.specs.declared.member.Member.{Member}
use Rattle.bsc_policy.specs.declared.rule.Rule.{Rule}
use Rattle.bsc_policy.specs.Decisions.{group_in, number_between}
use Rattle.bsc_policy.proofs.policy.Policy.number.Goals as goal

pub returns-in-None : goal.returns-in-None
returns-in-None c =
    let from = c.member_at.ensures ∙ ap (λ (l : List Member). find (λ m. same_vmac m.vmac c.args.from) l) c.deref-in-None.ensures.value in
    let to = c.member_at-in-None.ensures ∙ ap (λ (l : List Member). find (λ m. same_vmac m.vmac c.args.to) l) c.deref-in-None-2.ensures.value in
    c.number_between.ensures
    ∙ ap (λ (l : List Rule). number_between l (group_in (option_map (λ m. m.now) c.member_at.result)) (group_in (option_map (λ m. m.now) c.member_at-in-None.result))) c.deref.ensures.value
    ∙ ap₂ (λ (f t : Option Member). number_between c.args.self.now.rules.items (group_in f) (group_in t)) from to
