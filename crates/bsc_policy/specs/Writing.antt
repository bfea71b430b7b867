-- Which members a policy takes.
use Rattle.std.specs.Prelude.{◌||◌, Bool}
use Rattle.bsc_octets.specs.declared.device_id.DeviceId.{DeviceId}
use Rattle.bsc_octets.specs.declared.vmac.Vmac.{Vmac}
use Rattle.bsc_octets.specs.Addresses.{same_device, same_vmac}
use Rattle.bsc_policy.specs.declared.member.Member.{Member}

-- A member has this address or this device.
abbrev pub is_taken_by : Vmac → DeviceId → Member → Bool
is_taken_by v d m = same_vmac m.vmac v || same_device m.device d
