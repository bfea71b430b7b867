-- What a policy denies in a session: of a step what it denies at the hub's port, and of frames to a connection. Without a policy
-- nothing is denied.
use Rattle.std.specs.Prelude.{ℕ, List, [], ◌∷◌, ◌++◌, filter, is_none, Option, Some, None, Result, Ok, Err}
use Rattle.bsc_octets.specs.declared.vmac.Vmac.{Vmac}
use Rattle.bsc_octets.specs.declared.envelope.Envelope.{Envelope}
use Rattle.bsc_octets.specs.declared.envelope.EnvelopeFault.{EnvelopeFault}
use Rattle.bsc_octets.specs.Addresses.{zero_vmac}
use Rattle.bsc_octets.specs.Envelopes.{envelope_of}
use Rattle.bsc_policy.specs.declared.policy.Policy.{Policy}
use Rattle.bsc_edge.specs.declared.fault.LinkFault.{LinkFault}
use Rattle.bsc_edge.specs.declared.incoming.Incoming.{Incoming}
use Rattle.bsc_edge.specs.declared.incoming.Incoming.TheVariants.{Message}
use Rattle.bsc_accept.specs.declared.step.Step.{Step}
use Rattle.bsc_accept.specs.declared.step.Step.TheVariants.{Ask, Up}
use Rattle.bsc_lines.specs.declared.denial.Denial.{Denial}
use Rattle.bsc_port.specs.Guarding.{denied_connect, denied_message, denied_pair}

-- The Originating Virtual Address of a frame. Each frame that was forwarded has one.
abbrev pub origin_in : Result Envelope EnvelopeFault → Option Vmac
origin_in (Ok e) = e.origin
origin_in (Err fault) = None

abbrev pub or_zero : Option Vmac → Vmac
or_zero None = zero_vmac
or_zero (Some v) = v

abbrev pub origin : List ℕ → Vmac
origin f = or_zero (origin_in (envelope_of f))

-- A frame to the connection that has an address is denied where the pair of its origin and this address is.
abbrev pub denied_frame : Policy → Option Vmac → List ℕ → Option Denial
denied_frame p to f = denied_pair p (origin f) to

-- Of frames to a connection those that are let through, in order.
abbrev pub let_through : Option Policy → Option Vmac → List (List ℕ) → List (List ℕ)
let_through None to frames = frames
let_through (Some p) to frames = filter (λ f. is_none (denied_frame p to f)) frames

-- what there is, as a list
abbrev pub if_any : {A : Type 0} → Option A → List A
if_any None = []
if_any (Some x) = x ∷ []

-- What is denied of frames to a connection, in order.
abbrev pub denials_by : Policy → Option Vmac → List (List ℕ) → List Denial
denials_by p to [] = []
denials_by p to (f ∷ fs) = if_any (denied_frame p to f) ++ denials_by p to fs

abbrev pub denials : Option Policy → Option Vmac → List (List ℕ) → List Denial
denials None to frames = []
denials (Some p) to frames = denials_by p to frames

-- What is denied of a step that would call the hub.
abbrev pub denial_of : Option Policy → Option Vmac → Step → Result Incoming LinkFault → Option Denial
denial_of policy address (Ask who) given = denied_connect policy who
denial_of policy address Up (Ok (Message m)) = denied_message policy address m
denial_of policy address st given = None
