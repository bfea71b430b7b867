-- Who holds an address, and which connection a device has.
use Rattle.std.specs.Prelude.{List, find, Option}
use Rattle.bsc_octets.specs.declared.vmac.Vmac.{Vmac}
use Rattle.bsc_octets.specs.declared.device_id.DeviceId.{DeviceId}
use Rattle.bsc_octets.specs.Addresses.{same_vmac, same_device}
use Rattle.bsc_history.specs.declared.entry.Entry.{Entry}
use Rattle.bsc_history.specs.declared.connection.Connection.{Connection}
use Rattle.bsc_history.specs.Ends.{live}

-- The holder of the address v: the live connection that joined with it.
abbrev pub holder : List Entry → Vmac → Option Connection
holder H v = find (λ c. same_vmac c.who.vmac v) (live H)

-- The connection of the device u: the live one that joined with it.
abbrev pub of_device : List Entry → DeviceId → Option Connection
of_device H u = find (λ c. same_device c.who.device u) (live H)
