-- What entered the outboxes of a hub, each frame with its place.
use Rattle.std.specs.Prelude.{ℕ, List, [], ◌∷◌, ◌++◌, map}
use Rattle.bsc_history.specs.declared.limits.About.{About}
use Rattle.bsc_history.specs.declared.entry.Entry.{Entry}
use Rattle.bsc_history.specs.Entries.{moment}
use Rattle.bsc_history.specs.Outboxes.{added, sent}
use Rattle.bsc_network.specs.Worlds.{Posted, Hub}

-- A frame in an outbox, with the place of the step by which a node put it.
pub record Frame : Type 0 where
  pub octets : List ℕ
  pub sent_at : ℕ

abbrev pub at_place : ℕ → List ℕ → Frame
at_place place octets = record { octets = octets; sent_at = place }

-- what a call adds to the outbox of c after the entries G: a frame has the place of the message that was handed in
abbrev pub frames_by : About → List Entry → ℕ → Posted → List Frame
frames_by a G c p = map (at_place p.sent_at) (added a (moment G p.entry) (sent a G c) c)

-- what some calls add, after the entries G
abbrev pub frames_after : About → List Entry → ℕ → List Posted → List Frame
frames_after a G c [] = []
frames_after a G c (p ∷ posted) = frames_by a G c p ++ frames_after a (G ++ p.entry ∷ []) c posted

-- What entered the outbox of c by some calls, oldest first. Without the places these are the frames that were sent to c.
unfoldable pub frames_of : About → List Posted → ℕ → List Frame
frames_of a posted c = frames_after a [] c posted

-- The same, of a hub.
abbrev pub frames : Hub → ℕ → List Frame
frames h c = frames_of h.about h.posted c
