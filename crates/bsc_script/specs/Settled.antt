-- What holds of the state after each line.
use Rattle.std.specs.Prelude.{◌≡◌, ◌↔◌, ℕ, nat_lt, Bool, true, ◌&&◌, List, [], ◌∷◌, Option, Some, None}
use Rattle.std.specs.List.{AllByRecursion, list_all}
use Rattle.bsc_history.specs.declared.limits.About.{About}
use Rattle.bsc_history.specs.declared.entry.Entry.{Entry}
use Rattle.bsc_history.specs.Laws.{is_among}
use Rattle.bsc_accept.specs.Past.{phase}
use Rattle.bsc_accept.specs.Standing.{stage, is_open}
use Rattle.bsc_checks.specs.declared.phase.Phase.TheVariants.{AwaitingRequest}
use Rattle.bsc_script.specs.States.{State, Peer, start_at}
use Rattle.bsc_script.specs.Emptying.{emptied_after}

-- A peer has a connection exactly where its phase isn't that in which a Connect-Request is awaited.
abbrev pub HasFitPhase : Peer → Type 0
HasFitPhase k = (k.conn ≡ None) ↔ (phase k.events ≡ AwaitingRequest)

-- A peer is settled, but for these connections: its machine may be told something, since it hasn't closed and waits for
-- no word on who asked; it has a connection or none by its phase; and its outbox doesn't wait to be emptied, unless it
-- is that of one of these connections.
pub record IsSettledBut (cs : List ℕ) (a : About) (H : List Entry) (k : Peer) : Type 0 where
  pub ready : is_open (stage (start_at a k) k.events) ≡ true
  pub fits : HasFitPhase k
  pub emptied : (c : ℕ) → k.conn ≡ Some c → emptied_after a H k c ≡ true → is_among c cs ≡ true

-- numbers that ascend, as those of connections do in the order of joining
abbrev pub ascends : List ℕ → Bool
ascends [] = true
ascends (c ∷ cs) = list_all (nat_lt c) cs && ascends cs

-- All peers are settled, but for these connections, in the order of joining.
pub record SettledBut (cs : List ℕ) (s : State) : Type 0 where
  pub peers : AllByRecursion (IsSettledBut cs s.about s.history) s.peers
  pub order : ascends cs ≡ true

-- After a line each peer may be told something, each has a connection or none by its phase, and no outbox waits to be
-- emptied.
abbrev pub Settled : State → Type 0
Settled s = SettledBut [] s
