-- What a state and its spare have in common: the spare is put back where memory is wanting.
use Rattle.std.specs.Prelude.{◌≡◌, true, false}
use Rattle.bsc_node.specs.declared.link_name.LinkName.{LinkName}
use Rattle.bsc_node_core.specs.declared.state.State.{State}
use Rattle.bsc_node_core.specs.Tables.{link_at, is_name, AgreeUntouched}

-- What wasn't touched of the links and slots of a state is as in its spare.
abbrev pub Agrees : State → State → Type 0
Agrees spare s = AgreeUntouched spare.links s.links × (s.direct_touched ≡ false → s.direct.slots.items ≡ spare.direct.slots.items)

-- Both keep the same, whatever was touched.
pub record KeepsSame (s t : State) : Type 0 where
  pub own : t.own ≡ s.own
  pub next : t.next ≡ s.next
  pub finishing : t.finishing ≡ s.finishing
  pub renewals : t.renewals ≡ s.renewals
  pub newest_hub : t.newest_hub ≡ s.newest_hub
  pub dropped : t.dropped ≡ s.dropped
  pub connector : t.connector ≡ s.connector
  pub links : (name : LinkName) → is_name name ≡ true → link_at t.links name ≡ link_at s.links name
  pub direct : t.direct.slots.items ≡ s.direct.slots.items
