-- Where a unicast is, by a history.
use Rattle.std.specs.Prelude.{◌≡◌, ◌≢◌, ℕ, ◌+◌, List, [], ◌∷◌, ◌++◌, take, Some}
use Rattle.bsc_octets.specs.Forwarding.{destination, out}
use Rattle.bsc_history.specs.declared.entry.Entry.{Entry}
use Rattle.bsc_history.specs.declared.limits.About.{About}
use Rattle.bsc_history.specs.Holders.{holder}
use Rattle.bsc_history.specs.Outboxes.{sent}
use Rattle.bsc_history.specs.Replies.{number_of}
use Rattle.bsc_desk.specs.Frames.{Frame}

-- By the entry at this place of the history H the frame joined the outbox of c, which held its destination: the octets
-- entered there under the sender's address, behind all that had entered, and nothing entered any other outbox; and they
-- are there in all of H.
pub record IsThereAlone (a : About) (H : List Entry) (at c : ℕ) (f : Frame) : Type 0 where
  pub held : number_of (holder (take at H) (destination f.message)) ≡ Some c
  pub joins : sent a (take (at + 1) H) c ≡ sent a (take at H) c ++ out f.message f.sender ∷ []
  pub alone : (k : ℕ) → k ≢ c → sent a (take (at + 1) H) k ≡ sent a (take at H) k
  pub stays : (later : List (List ℕ)) × (sent a H c ≡ sent a (take (at + 1) H) c ++ later)
