-- The document that tells settings: a table with a line for each row of its table of keys.
use Rattle.std.specs.Prelude.{ℕ, List, [], ◌∷◌, ◌++◌, codes, flat_map, is_some, Option, Some, None, option_map}
use Rattle.bsc_policy.specs.declared.member.Member.{Member}
use Rattle.bsc_policy.specs.declared.policy.Policy.{Policy}
use Rattle.bsc_policy.specs.declared.rule.Rule.{Rule}
use Rattle.bsc_settings.specs.declared.hub.HubSettings.{HubSettings}
use Rattle.bsc_settings.specs.declared.node.NodeSettings.{NodeSettings}
use Rattle.bsc_settings.specs.Fields.{fields_of, node_fields_of}
use Rattle.bsc_settings.specs.Listed.{Listed, listed_of}
use Rattle.bsc_settings.specs.Table.{hub_table, node_table, member_table, rule_table}
use Rattle.bsc_settings.specs.Values.{vmac, uuid, text, allows}
use Rattle.bsc_settings_told.specs.Lines.{lines_of, unset_line}

-- The table `hub`: of each key its value, and whether that is the default.
abbrev pub hub_lines : HubSettings → List ℕ
hub_lines h = codes "[hub]\n" ++ lines_of hub_table (fields_of h)

-- A member of a policy.
unfoldable pub member_lines : Member → List ℕ
member_lines m = codes "[[policy.member]]\n" ++ lines_of member_table (Some (uuid m.device) ∷ Some (vmac m.vmac) ∷ Some (text m.group) ∷ [])

-- A rule of a policy.
unfoldable pub rule_lines : Rule → List ℕ
rule_lines r = codes "[[policy.rule]]\n" ++ lines_of rule_table (Some (allows r.allows) ∷ Some (text r.from) ∷ Some (text r.to) ∷ [])

-- The table `policy`: its members and its rules, in their order; or that there is none, which is the default.
abbrev pub listed_lines : Option Listed → List ℕ
listed_lines None = unset_line (codes "policy")
listed_lines (Some l) = codes "[policy]\n" ++ (flat_map member_lines l.members ++ flat_map rule_lines l.rules)

abbrev pub policy_lines : Option Policy → List ℕ
policy_lines policy = listed_lines (option_map listed_of policy)

-- What is told of the settings of a hub and of the policy beside them.
abbrev pub hub_told : HubSettings → Option Policy → List ℕ
hub_told h policy = hub_lines h ++ policy_lines policy

-- What is told of the settings of a node: its table, of each key its value, and whether that is the default.
abbrev pub node_told : NodeSettings → List ℕ
node_told n = codes "[node]\n" ++ lines_of (node_table (is_some n.direct_port) n.least_reconnect_ms) (node_fields_of n)
