-- How a frame entered an outbox: by one Forward.
use Rattle.std.specs.Prelude.{◌≡◌, ℕ, true, List, ◌∷◌, ◌++◌, length, slice_get, Some}
use Rattle.bsc_octets.specs.Forwarding.{out}
use Rattle.bsc_history.specs.declared.limits.About.{About}
use Rattle.bsc_history.specs.declared.entry.Entry.{Entry}
use Rattle.bsc_history.specs.declared.call.Call.TheVariants.{Forward}
use Rattle.bsc_history.specs.declared.connection.Connection.{Connection}
use Rattle.bsc_history.specs.Ends.{live, numbered}
use Rattle.bsc_history.specs.Outboxes.{means, sent}

-- A frame entered the outbox of c, at this place in it, by this Forward of the history H. When that was entered, sender and c were
-- live, and the message that was forwarded meant c. It is passed on under the sender's address. What entered the outbox before it
-- did so by the entries before.
pub record EnteredBy (a : About) (H : List Entry) (c place : ℕ) (frame : List ℕ) : Type 0 where
  pub before : List Entry
  pub forward : Entry
  pub later : List Entry
  pub is : H ≡ before ++ forward ∷ later
  pub from : Connection
  pub to : Connection
  pub message : List ℕ
  pub call : forward.call ≡ Forward from.number message
  pub sender_live : numbered from.number (live before) ≡ Some from
  pub receiver_live : numbered c (live before) ≡ Some to
  pub meant : means message from.number to ≡ true
  pub octets : frame ≡ out message from.who.vmac
  pub behind : place ≡ length (sent a before c)

-- Each frame of an outbox entered it by a Forward of the history.
abbrev pub EnterByForwards : About → List Entry → Type 0
EnterByForwards a H = (c place : ℕ) (frame : List ℕ) → slice_get (sent a H c) place ≡ Some frame → EnteredBy a H c place frame
