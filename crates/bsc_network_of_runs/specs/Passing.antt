-- What a hub that was served passes on: the Encapsulated-NPDUs that its sessions put are those that its sessions were given.
use Rattle.std.specs.Prelude.{◌≡◌, ℕ, List, length, slice_get, take, Some}
use Rattle.bsc_octets.specs.Functions.{npdus}
use Rattle.bsc_history.specs.Entries.{own}
use Rattle.bsc_history.specs.Entering.{EnteredBy}
use Rattle.bsc_history.specs.Outboxes.{sent}
use Rattle.bsc_session.specs.Course.{end_of}
use Rattle.bsc_session.specs.Guarding.{let_through}
use Rattle.bsc_session_laws.specs.Messages.{allowed, forwarded, messages_of}
use Rattle.bsc_node_links.specs.Talks.{given_in, put_in}
use Rattle.bsc_network_of_runs.specs.Hubs.{HubRun, SessionOf}

-- Of the Encapsulated-NPDUs that this session of the hub put, the n-th is the frame o. It entered the outbox of the session's
-- connection by a Forward, and the message of that is what the link of one of the hub's sessions gave, at this index; the session
-- had the connection that forwarded it.
pub record WasPassedOn (h : HubRun) (s : SessionOf h.about h.history) (n : ℕ) (o : List ℕ) : Type 0 where
  -- it is a frame of the outbox of the session's connection ..
  pub conn : ℕ
  pub joined : s.ended.conn ≡ Some conn
  pub place : ℕ
  pub entered : EnteredBy h.about h.history conn place o
  -- .. and n of those before it were put too, as the policy lets them through;
  pub nth : n ≡ length (npdus (let_through s.terms.policy (end_of s.session.course).address (sent h.about entered.before conn)))
  -- the Forward by which it entered is an entry of this session ..
  pub number : ℕ
  pub sender : SessionOf h.about h.history
  pub found : slice_get h.sessions number ≡ Some sender
  pub caller : entered.forward.caller ≡ sender.terms.caller
  pub sends_as : sender.ended.conn ≡ Some entered.from.number
  -- .. and its message is what that session's link gave, at this index: as many of those before were forwarded as the caller had
  -- forwarded before.
  pub index : ℕ
  pub given : slice_get (given_in sender.talk) index ≡ Some entered.message
  pub as_many : length (allowed (take index (messages_of sender.session.course)))
      ≡ length (forwarded (own entered.before sender.terms.caller))

-- Each Encapsulated-NPDU that a session of the hub puts was passed on so.
abbrev pub PassesOn : HubRun → Type 0
PassesOn h = (number : ℕ) (s : SessionOf h.about h.history) (n : ℕ) (o : List ℕ) → slice_get h.sessions number ≡ Some s
    → slice_get (npdus (put_in s.talk)) n ≡ Some o → WasPassedOn h s n o

-- What a link gave is put at most once by each session.
abbrev pub PassesOnOnce : HubRun → Type 0
PassesOnOnce h = (s : SessionOf h.about h.history) (n j : ℕ) (o k : List ℕ) → (p : WasPassedOn h s n o) → (q : WasPassedOn h s j k)
    → p.number ≡ q.number → p.index ≡ q.index → n ≡ j
