-- The first fault of a document.
use Rattle.std.specs.Prelude.{◌≡◌, ⊤, ◌*◌, nat_le, Bool, List, [], ◌∷◌, if◌then◌else◌, Option, Some, None, is_some}
use Rattle.toml.specs.Data.{Members}
use Rattle.bsc_history.specs.declared.limits.TheConstants.{MOST_OCTETS}
use Rattle.bsc_settings.specs.declared.key.KeyName.{KeyName}
use Rattle.bsc_settings.specs.declared.key.KeyName.TheVariants.{PolicyMember, PolicyRule, HubProduct, Unknown}
use Rattle.bsc_settings.specs.declared.fault.SettingFault.{SettingFault}
use Rattle.bsc_settings.specs.declared.fault.SettingFault.TheVariants.{NotToml, Key, NoMemory}
use Rattle.bsc_settings.specs.Table.{Row, hub_table, rows_row, outbox_row, max_bvlc_row}
use Rattle.bsc_settings.specs.Values.{value_at}
use Rattle.bsc_settings.specs.Documents.{hub_of, node_of, amount, policy_of, node_rows_of, has_known_alone}
use Rattle.bsc_settings.specs.Policies.{members_in, rules_in}

-- The first key whose row has no value in a table: a wrong value stands there, or nothing does and it has no default.
abbrev pub first_at_fault : List Row → Members → Option KeyName
first_at_fault [] table = None
first_at_fault (r ∷ rows) table =
    if is_some (value_at r table) then first_at_fault rows table else Some r.key

-- whether all outboxes together hold no more octets than they may
abbrev pub has_small_product : Members → Bool
has_small_product table =
    nat_le (amount (value_at rows_row table) * amount (value_at outbox_row table) * amount (value_at max_bvlc_row table)) MOST_OCTETS

-- the key of a rule that is broken
abbrev pub unless : Bool → KeyName → Option KeyName
unless holds key = if holds then None else Some key

-- the first of two faults
infixr 20 ◌before◌
abbrev pub ◌before◌ : Option KeyName → Option KeyName → Option KeyName
None before later = later
Some key before later = Some key

-- the faults of the keys of a table by its rows, where the document has it
abbrev pub fault_in : (Members → List Row) → Option Members → Option KeyName
fault_in rows None = None
fault_in rows (Some table) = first_at_fault (rows table) table

-- the fault of the product of the limits, where the document has the table `hub`
abbrev pub product_fault : Option Members → Option KeyName
product_fault None = None
product_fault (Some table) = unless (has_small_product table) HubProduct

-- the fault of a policy, where the document has the table `policy`: that of its members, then that of its rules
abbrev pub policy_fault : Option Members → Option KeyName
policy_fault None = None
policy_fault (Some table) =
    unless (is_some (members_in table)) PolicyMember before unless (is_some (rules_in table)) PolicyRule

-- The first fault of a document: the keys of `hub` in the order of their table, those of `node` in the order of theirs,
-- then the members of `policy`, then its rules, then the product of the limits, then a key or a table that settings don't
-- have.
abbrev pub fault_of : Members → Option KeyName
fault_of doc =
    fault_in (λ _. hub_table) (hub_of doc)
    before fault_in node_rows_of (node_of doc)
    before policy_fault (policy_of doc)
    before product_fault (hub_of doc)
    before unless (has_known_alone doc) Unknown

-- A refusal of a document names this fault, which is the first; want of memory names none.
abbrev pub NamesFirst : SettingFault → Option KeyName → Type 0
NamesFirst (Key name) first = first ≡ Some name
NamesFirst NoMemory first = ⊤
NamesFirst NotToml first = ⊥
