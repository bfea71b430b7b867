-- What is known of a document while it is read.
use Rattle.std.specs.Prelude.{◌≡◌, Bool, false, Option, Some, None, option_map}
use Rattle.toml.specs.Data.{Members}
use Rattle.bsc_settings.specs.declared.key.KeyName.{KeyName}
use Rattle.bsc_settings.specs.declared.key.KeyName.TheVariants.{HubProduct, Unknown}
use Rattle.bsc_settings.specs.declared.hub_said.HubSaid.{HubSaid}
use Rattle.bsc_settings.specs.declared.hub_said.HubSaid.TheVariants.{Settings, LargeProduct}
use Rattle.bsc_settings.specs.Table.{hub_table}
use Rattle.bsc_settings.specs.Faults.{product_fault}
use Rattle.bsc_settings.specs.Fields.{fields_of, values_of}

-- What the table `hub` says, where its keys have no fault.
abbrev pub TableSays : Option Members → HubSaid → Type 0
TableSays table (Settings hub) = (product_fault table ≡ None) × (option_map fields_of hub ≡ option_map (values_of hub_table) table)
TableSays table LargeProduct = product_fault table ≡ Some HubProduct

-- The key that is at fault behind those of the tables: the product of the limits, or what isn't known.
abbrev pub IsLate : HubSaid → Bool → KeyName → Type 0
IsLate LargeProduct known key = key ≡ HubProduct
IsLate (Settings hub) known key = (known ≡ false) × (key ≡ Unknown)
