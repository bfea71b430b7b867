-- Which key is named where a policy is refused.
use Rattle.bsc_settings.specs.declared.key.KeyName.{KeyName}
use Rattle.bsc_settings.specs.declared.key.KeyName.TheVariants.{PolicyMember, PolicyRule}
use Rattle.bsc_settings.specs.declared.refusal.PolicyRefusal.{PolicyRefusal}
use Rattle.bsc_settings.specs.declared.refusal.PolicyRefusal.TheVariants.{MemberList, Member, RuleList, Rule}

-- The key at fault where a policy is refused: its list of members, or that of rules.
abbrev pub key_of : PolicyRefusal → KeyName
key_of MemberList = PolicyMember
key_of (Member entry fault) = PolicyMember
key_of RuleList = PolicyRule
key_of (Rule entry fault) = PolicyRule
