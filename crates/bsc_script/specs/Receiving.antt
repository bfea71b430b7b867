-- What a message of a peer comes to: it is judged at the hub port, its machine is told, and the step is carried out.
use Rattle.std.specs.Prelude.{ℕ, if◌then◌else◌, List, [], ◌∷◌, ◌++◌, codes, Option, Some, None}
use Rattle.bsc_octets.specs.declared.identity.Identity.{Identity}
use Rattle.bsc_history.specs.declared.call.Call.TheVariants.{Connect, Forward}
use Rattle.bsc_history.specs.declared.reply.Reply.{Reply}
use Rattle.bsc_history.specs.declared.reply.Reply.TheVariants.{Joined, Refused}
use Rattle.bsc_checks.specs.declared.place.Place.TheVariants.{HubPort}
use Rattle.bsc_checks.specs.declared.verdict.Verdict.{Verdict}
use Rattle.bsc_checks.specs.declared.verdict.Verdict.TheVariants.{Silent}
use Rattle.bsc_checks.specs.Outcomes.{outcome_of}
use Rattle.bsc_accept.specs.declared.event.Event.TheVariants.{Message as Came, Joined as HasJoined, Refused as WasRefused}
use Rattle.bsc_accept.specs.declared.reason.Reason.TheVariants.{HubWorn}
use Rattle.bsc_accept.specs.declared.step.Step.{Step}
use Rattle.bsc_accept.specs.declared.step.Step.TheVariants.{Ask, Up}
use Rattle.bsc_accept.specs.Past.{phase}
use Rattle.bsc_accept.specs.Steps.{closing}
use Rattle.bsc_script.specs.Written.{Said, says}
use Rattle.bsc_script.specs.Texts.{silent_words}
use Rattle.bsc_lines.specs.Replies.{joined_words, refusal_words, forward_words}
use Rattle.bsc_script.specs.States.{State, Peer, told, joined_as, with_peer}
use Rattle.bsc_script.specs.Calls.{called, reply_in, is_worn}
use Rattle.bsc_script.specs.Carrying.{ScriptOutcome, quietly, writes, and_then, closes, does, step_of, tells}

-- ---- calls

-- A call was worn: that is said, and the WebSocket is closed.
abbrev pub wears : State → Peer → ScriptOutcome
wears s k = writes (says k.name (codes "worn")) (closes s k (closing 1008 HubWorn))

-- What the reply to a connect leads to: it is said, and the machine is told who joined or was refused.
abbrev pub gets_reply : State → Peer → Reply → ScriptOutcome
gets_reply s k (Joined conn replaced) =
    writes (says k.name (joined_words conn replaced)) (tells s (joined_as conn k) HasJoined)
gets_reply s k (Refused refusal) = writes (says k.name (refusal_words refusal)) (tells s k (WasRefused refusal))
gets_reply s k other = quietly s

-- A peer asks to be accepted: a connect.
abbrev pub connects : State → Peer → Identity → ScriptOutcome
connects s k who =
    if is_worn s then wears s k else gets_reply (called s (Connect who)) k (reply_in s (Connect who))

-- The message of a peer that has joined as c is carried on: a forward, whose reply is said.
abbrev pub forwards : State → Peer → ℕ → List ℕ → ScriptOutcome
forwards s k c m =
    if is_worn s then wears s k
    else writes (says k.name (forward_words (reply_in s (Forward c m)))) (quietly (called s (Forward c m)))

-- the same, where the peer has joined; no other message is to be carried on
abbrev pub forwards_if : State → Peer → Option ℕ → List ℕ → ScriptOutcome
forwards_if s k None m = quietly s
forwards_if s k (Some c) m = forwards s k c m

-- ---- the message

-- The verdict on a message of a peer: at the hub port, in the phase of its machine, with the hub's greatest length.
abbrev pub verdict_on : State → Peer → List ℕ → Verdict
verdict_on s k m = outcome_of m (HubPort (phase k.events)) s.about.hub.max_bvlc

-- What a message comes to, by the step of the machine.
abbrev pub acts : State → Peer → List ℕ → Step → ScriptOutcome
acts s k m (Ask who) = connects s k who
acts s k m Up = forwards_if s k k.conn m
acts s k m step = does s k step

-- the line of a message that is met with silence; there is none for another verdict
abbrev pub silence : List ℕ → Verdict → List Said
silence name (Silent check) = says name (silent_words check) ∷ []
silence name verdict = []

-- The same, by the verdict on it: first comes what is said of silence.
abbrev pub gets_verdict : State → Peer → List ℕ → Verdict → ScriptOutcome
gets_verdict s k m verdict =
    let e = Came s.clock verdict in
    and_then (record { state = with_peer (told e k) s; said = silence k.name verdict })
    (λ t. acts t (told e k) m (step_of s k e))

-- A message of a peer comes in.
abbrev pub receives : State → Peer → List ℕ → ScriptOutcome
receives s k m = gets_verdict s k m (verdict_on s k m)
