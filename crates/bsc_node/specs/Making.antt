-- What a node may be made with.
use Rattle.std.specs.Prelude.{◌<◌, ◌^◌, IfSome}
use Rattle.std.specs.Str.{IsUtf8}
use Rattle.bsc_frame.specs.Payloads.{IsNode}
use Rattle.bsc_accept.specs.declared.times.Times.{Times}
use Rattle.bsc_node.specs.Logs.{Made}

-- Each wait is a number of 32 bits.
pub record AreTimes (times : Times) : Type 0 where
  pub connect_wait : times.connect_wait < 2 ^ 32
  pub disconnect_wait : times.disconnect_wait < 2 ^ 32
  pub heartbeat : times.heartbeat < 2 ^ 32

-- What a node may be made with: its identity is that of a node, as in a Connect-Request; its own URIs, where it has some,
-- are UTF-8; and its waits are numbers of 32 bits. The URIs of its hubs are any octets: a dial of others than it knows fails.
pub record MayBeMade (a : Made) : Type 0 where
  pub own : IsNode a.own
  pub uris : IfSome a.limits.uris IsUtf8
  pub times : AreTimes a.limits.times
  pub least : a.limits.least_wait < 2 ^ 32
  pub greatest : a.limits.greatest_wait < 2 ^ 32
