-- Which hubs and nodes may be added to a network, and which steps may be made in it.
use Rattle.std.specs.Prelude.{◌≡◌, ◌<◌, ◌≤◌, ◌^◌, ℕ, List, [], ◌∷◌, ◌++◌, length, false, ⊤}
use Rattle.bsc_octets.specs.declared.identity.Identity.{Identity}
use Rattle.bsc_octets.specs.Addresses.{same_vmac, zero_vmac}
use Rattle.bsc_frame.specs.Payloads.{IsNode}
use Rattle.bsc_history.specs.declared.limits.About.{About}
use Rattle.bsc_node.specs.declared.node_event.NodeEvent.TheVariants.{Send}
use Rattle.bsc_script.specs.Hubs.{IsHub}
use Rattle.bsc_network.specs.declared.limits.TheConstants.{NODES}
use Rattle.bsc_network.specs.declared.world_step.WorldStep.{WorldStep}
use Rattle.bsc_network.specs.declared.world_step.WorldStep.TheVariants.{Node as OfNode}
use Rattle.bsc_network.specs.declared.timed_step.TimedStep.{TimedStep}
use Rattle.bsc_network.specs.Settings.{Added, hub, node, hubs, nodes}

-- ---- hubs and nodes

-- A hub may be added where fewer than two were. Its identity is one that can be said, whose VMAC is neither the reserved one
-- nor the broadcast, and its limits are in their ranges.
pub record MayAddHub (before : List Added) (about : About) : Type 0 where
  pub few : length (hubs before) < 2
  pub who : IsNode about.hub
  pub fit : IsHub about

-- A node may be added once a hub was, where fewer nodes were than a network has at most.
pub record MayAddNode (before : List Added) (own : Identity) : Type 0 where
  pub some_hub : 1 ≤ length (hubs before)
  pub few : length (nodes before) < NODES
  pub who : IsNode own

abbrev pub MayAdd : List Added → Added → Type 0
MayAdd before (hub about) = MayAddHub before about
MayAdd before (node own direct) = MayAddNode before own

-- Some may be added after those before them.
abbrev pub MayAddAll : List Added → List Added → Type 0
MayAddAll before [] = ⊤
MayAddAll before (one ∷ added) = MayAdd before one × MayAddAll (before ++ one ∷ []) added

-- ---- steps

-- What is sent has at least one octet, and a destination that isn't the reserved VMAC.
abbrev pub HasContent : WorldStep → Type 0
HasContent (OfNode k (Send dest npdu)) = (0 < length npdu) × (same_vmac dest zero_vmac ≡ false)
HasContent step = ⊤

-- What is sent goes to an address of six octets. In code each address has six.
abbrev pub IsWhole : WorldStep → Type 0
IsWhole (OfNode k (Send dest npdu)) = length dest.0 ≡ 6
IsWhole step = ⊤

-- A step may be made at its time after one at this time: time doesn't fall, and is below 2^62.
pub record MayMake (before : ℕ) (t : TimedStep) : Type 0 where
  pub later : before ≤ t.now
  pub in_range : t.now < 2 ^ 62
  pub content : HasContent t.step
  pub whole : IsWhole t.step

-- When the newest of some steps was made, and this time where there is none.
abbrev pub end_time : ℕ → List TimedStep → ℕ
end_time before [] = before
end_time before (t ∷ steps) = end_time t.now steps

-- Some steps may be made after one at this time.
abbrev pub MayMakeAll : ℕ → List TimedStep → Type 0
MayMakeAll before [] = ⊤
MayMakeAll before (t ∷ steps) = MayMake before t × MayMakeAll t.now steps

-- ---- a network

-- The hubs and nodes may be added in this order, and the steps may be made in this order.
pub record IsCourse (added : List Added) (steps : List TimedStep) : Type 0 where
  pub added_all : MayAddAll [] added
  pub made_all : MayMakeAll 0 steps
