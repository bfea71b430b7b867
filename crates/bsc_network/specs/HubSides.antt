-- What the hub's side of a link does: it is the session of one connection, whose machine is told what comes, and whose
-- steps are carried out.
use Rattle.std.specs.Prelude.{ℕ, true, if◌then◌else◌, List, [], ◌∷◌, ◌++◌, Option, Some, None}
use Rattle.bsc_octets.specs.declared.identity.Identity.{Identity}
use Rattle.bsc_history.specs.declared.call.Call.TheVariants.{Connect, Forward, Leave}
use Rattle.bsc_history.specs.declared.reply.Reply.{Reply}
use Rattle.bsc_history.specs.declared.reply.Reply.TheVariants.{Joined, Refused}
use Rattle.bsc_checks.specs.declared.place.Place.TheVariants.{HubPort}
use Rattle.bsc_checks.specs.declared.verdict.Verdict.{Verdict}
use Rattle.bsc_checks.specs.Outcomes.{outcome_of}
use Rattle.bsc_accept.specs.declared.start.Start.{Start}
use Rattle.bsc_accept.specs.declared.event.Event.{Event}
use Rattle.bsc_accept.specs.declared.event.Event.TheVariants.{Message as Came, Joined as HasJoined, Refused as WasRefused}
use Rattle.bsc_accept.specs.declared.step.Step.{Step}
use Rattle.bsc_accept.specs.declared.step.Step.TheVariants.{Ask, Up as GoesUp, Put, PutClose, Close}
use Rattle.bsc_accept.specs.Past.{phase}
use Rattle.bsc_accept.specs.Steps.{step}
use Rattle.bsc_script.specs.States.{default_times}
use Rattle.bsc_network.specs.declared.way.Way.TheVariants.{Down}
use Rattle.bsc_network.specs.declared.parcel.Content.TheVariants.{Message, Closed}
use Rattle.bsc_network.specs.Worlds.{Hub, HubSide, Link}
use Rattle.bsc_network.specs.Changes.{Change, unchanged, in_order, with_side, puts_now, with_found, of_hub, of_link, by_target}
use Rattle.bsc_network.specs.HubCalls.{called, is_worn, reply_in}

-- A change by the number of the hub that a link leads to, the hub and the link; nothing changes where it leads to a node.
abbrev pub of_side : ℕ → (ℕ → Hub → Link → Change) → Change
of_side l change = of_link l (λ link. by_target link.to (λ j. of_hub j (λ h. change j h link)) (λ n. unchanged))

-- ---- the end of a session

-- the connection leaves, where there is one
abbrev pub leaves_as : ℕ → ℕ → HubSide → Option ℕ → Change
leaves_as j l s None w = w
leaves_as j l s (Some c) w = called j l w.steps (Leave c s.taken s.empties) w

-- The session is over: where it has joined, its connection leaves.
abbrev pub leaves : ℕ → Change
leaves l = of_side l (λ j h link. in_order (leaves_as j l link.side link.side.conn ∷ with_side l (λ s. record s { is_over = true }) ∷ []))

-- The hub's side closes the link, and so the session is over.
abbrev pub closes : ℕ → Change
closes l = in_order (puts_now l Down Closed ∷ leaves l ∷ [])

-- A change that is made unless the session is over.
abbrev pub unless_over : ℕ → Change → Change
unless_over l change = of_side l (λ j h link. if link.side.is_over then unchanged else change)

-- ---- the machine

-- with what the machine started
abbrev pub start : Hub → Link → Start
start h link = record { own = h.about.hub; times = default_times; at = link.side.since }

-- The step that the machine makes at an event.
abbrev pub step_at : Hub → Link → Event → Step
step_at h link e = step (start h link) link.side.events e

-- It was told this.
abbrev pub told : ℕ → Event → Change
told l e = with_side l (λ s. record s { events = s.events ++ e ∷ [] })

-- A step that needs no call is carried out: octets are put, and the link is closed.
abbrev pub carries_out : ℕ → Step → Change
carries_out l (Put o) = puts_now l Down (Message o.items)
carries_out l (PutClose o c) = in_order (puts_now l Down (Message o.items) ∷ closes l ∷ [])
carries_out l (Close c) = closes l
carries_out l other = unchanged

-- The machine is told something that leads to no call, and its step is carried out.
abbrev pub tells : ℕ → Event → Change
tells l e = of_side l (λ j h link. in_order (told l e ∷ carries_out l (step_at h link e) ∷ []))

-- ---- calls

-- What the reply to a connect leads to: the machine is told who joined, or was refused.
abbrev pub gets_reply : ℕ → Reply → Change
gets_reply l (Joined conn replaced) = in_order (with_side l (λ s. record s { conn = Some conn }) ∷ tells l HasJoined ∷ [])
gets_reply l (Refused refusal) = tells l (WasRefused refusal)
gets_reply l other = unchanged

-- a connect is made, and the machine gets its reply
abbrev pub joins_by : ℕ → ℕ → ℕ → Identity → Reply → Change
joins_by j l place who reply = in_order (called j l place (Connect who) ∷ gets_reply l reply ∷ [])

-- A peer asks to be accepted: that is a connect. Where the hub is worn the link is closed.
abbrev pub connects : ℕ → ℕ → Identity → Change
connects l place who =
    of_side l (λ j h link w. (if is_worn h then closes l else joins_by j l place who (reply_in w h (Connect who))) w)

-- A message is passed on: that is a forward, whose reply changes nothing else. Where the hub is worn the link is closed.
abbrev pub forwards : ℕ → ℕ → List ℕ → Change
forwards l place m =
    of_side l (λ j h link. with_found link.side.conn (λ c. if is_worn h then closes l else called j l place (Forward c m)))

-- ---- messages

-- The verdict on a message: that at the hub's port in the phase of the machine, where no message is to be longer than
-- the hub takes.
abbrev pub verdict_on : Hub → Link → List ℕ → Verdict
verdict_on h link m = outcome_of m (HubPort (phase link.side.events)) h.about.hub.max_bvlc

-- The step of the machine at a message is carried out.
abbrev pub acts_on : ℕ → ℕ → List ℕ → Step → Change
acts_on l place m (Ask who) = connects l place who
acts_on l place m GoesUp = forwards l place m
acts_on l place m other = carries_out l other

-- the machine is told a message, with its verdict
abbrev pub hears : ℕ → ℕ → List ℕ → Event → Change
hears l place m e = of_side l (λ j h link. in_order (told l e ∷ acts_on l place m (step_at h link e) ∷ []))

-- A message comes, with its place: it is judged, and the machine is told.
abbrev pub receives : ℕ → ℕ → List ℕ → Change
receives l place m = of_side l (λ j h link w. hears l place m (Came w.now (verdict_on h link m)) w)
