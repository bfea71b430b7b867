-- What a settled policy keeps, so that a decision costs the same with any number of members and rules.
use Rattle.std.specs.Prelude.{◌≡◌, ℕ, List, map, option_map}
use Rattle.bsc_octets.specs.declared.vmac.Vmac.{Vmac}
use Rattle.bsc_policy.specs.declared.classes.Classes.{Classes}
use Rattle.bsc_policy.specs.declared.directory.Directory.{Directory}
use Rattle.bsc_policy.specs.declared.member.Member.{Member}
use Rattle.bsc_policy.specs.declared.names.Names.{Names}
use Rattle.bsc_policy.specs.declared.rule.Rule.{Rule}
use Rattle.bsc_policy.specs.declared.tables.Tables.{Tables}
use Rattle.bsc_policy.specs.Classes.{class_of, names_of}
use Rattle.bsc_policy.specs.Decisions.{group_of, number_between}
use Rattle.bsc_policy.specs.Filing.{filed_at, number_for}

-- The names are those of the classes by these rules, on both sides.
abbrev pub AreNamesOf : List Rule → Names → Type 0
AreNamesOf rules names = (names.froms.items ≡ names_of (map (λ r. r.from) rules)) × (names.tos.items ≡ names_of (map (λ r. r.to) rules))

-- The classes of a group, on both sides.
abbrev pub classes_of : Names → List ℕ → Classes
classes_of names group = record { from = class_of names.froms.items group; to = class_of names.tos.items group }

-- A directory tells of each address the classes of the group of the member that has it.
abbrev pub TellsClasses : List Member → Names → Directory → Type 0
TellsClasses members names d = (v : Vmac) → filed_at d.filed v ≡ option_map (λ g. classes_of names g) (group_of members v)

-- The number that tables tell for two addresses: that for their classes.
abbrev pub number_told : Tables → Vmac → Vmac → ℕ
number_told t from to = number_for (map (λ r. r.items) t.numbers.items) (filed_at t.directory.filed from) (filed_at t.directory.filed to)

-- Tables are those of members and rules: for each two addresses they tell the number of the rule that decides.
abbrev pub AreTablesOf : List Member → List Rule → Tables → Type 0
AreTablesOf members rules t = (from to : Vmac) → number_told t from to ≡ number_between rules (group_of members from) (group_of members to)
