-- Who asks to join.
use Rattle.std.specs.Prelude.{◌≡◌, ℕ, List, length, get_or, drop}
use Rattle.bsc_octets.specs.declared.identity.Identity.{Identity}
use Rattle.bsc_octets.specs.Identities.{identity_of}
use Rattle.bsc_frame.specs.Payloads.{IsNode}
use Rattle.bsc_frame.specs.declared.body.Body.TheVariants.{ConnectRequest}
use Rattle.bsc_frame.specs.declared.message.Message.{Message}
use Rattle.bsc_frame.specs.Spelling.{Spells}

-- These octets spell the Connect-Request of this device.
abbrev pub Asks : List ℕ → Identity → Type 0
Asks m who = (msg : Message) × Spells msg m × (msg.body ≡ ConnectRequest who)

-- They are a Connect-Request of a node without addresses and options: the function 06, no flags, an ID, and 26 octets that say a node.
pub record AsksPlainly (m : List ℕ) : Type 0 where
  pub long : length m ≡ 30
  pub function : get_or m 0 0 ≡ 6
  pub flags : get_or m 1 0 ≡ 0
  pub node : IsNode (identity_of (drop 4 m))
