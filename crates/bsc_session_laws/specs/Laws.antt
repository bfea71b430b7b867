-- What holds of each session, in words of messages, entries and frames.
use Rattle.std.specs.Prelude.{List, [], None, Ok, Option, Some, false, length, map, ℕ, ◌++◌, ◌∷◌, ◌≡◌, ◌≢◌, ◌≤◌, ◌⊎◌}
use Rattle.std.specs.List.{AllByRecursion}
use Rattle.bsc_octets.specs.declared.identity.Identity.{Identity}
use Rattle.bsc_policy.specs.declared.policy.Policy.{Policy}
use Rattle.bsc_policy.specs.Decisions.{is_admitted}
use Rattle.bsc_history.specs.declared.call.Call.TheVariants.{Forward}
use Rattle.bsc_history.specs.declared.entry.Entry.{Entry}
use Rattle.bsc_frame.specs.Spelling.{spelling}
use Rattle.bsc_accept.specs.Messages.{connect_accept}
use Rattle.bsc_edge.specs.declared.incoming.Incoming.TheVariants.{Message}
use Rattle.bsc_edge.specs.declared.said.Said.{Said}
use Rattle.bsc_edge.specs.declared.said.Said.TheVariants.{Gave, Put}
use Rattle.bsc_node_links.specs.Talks.{given_in}
use Rattle.bsc_session.specs.declared.ended.Ended.{Ended}
use Rattle.bsc_session.specs.Causes.{last_answer, last_given, last_judged}
use Rattle.bsc_session.specs.Course.{SessionCourse, all_turns, shares}
use Rattle.bsc_session.specs.Receiving.{worn, no_memory}
use Rattle.bsc_session.specs.Standings.{Terms, begun}
use Rattle.bsc_session.specs.Taking.{full_wait}
use Rattle.bsc_session.specs.Turns.{Turn, frames_in, said_in}
use Rattle.bsc_session_laws.specs.Messages.{allowed, asked, carried, connected, forwarded, messages_of}

-- ---- the messages

-- The messages that are judged are those that the link gave, in order.
abbrev pub MessagesAreGiven : (v : Terms) → List Said → SessionCourse v → Type 0
MessagesAreGiven v T c = map (λ m. m.octets) (messages_of c) ≡ given_in T

-- ---- forwards

-- The second list has all of the first; or all but the last, for which there is this cause.
abbrev pub AreAllBut : {A : Type 0} → (A → Type 0) → List A → List A → Type 0
AreAllBut {A} Cause all made = (all ≡ made) ⊎ ((last : A) × Cause last × (all ≡ made ++ last ∷ []))

-- The hub made no entry of the call in the last turn: it was worn, or memory ran out in it.
abbrev pub MadeNone : Option Turn → Type 0
MadeNone last = (last_answer last ≡ Some worn) ⊎ (last_answer last ≡ Some no_memory)

-- This message is the last thing that the link gave, and the hub made no entry of its call.
abbrev pub IsUnentered : Option Turn → List ℕ → Type 0
IsUnentered last m = (last_given last ≡ Some (Ok (Message m))) × MadeNone last

-- An entry that is a Forward is one of this connection.
abbrev pub IsOfConnection : Option ℕ → Entry → Type 0
IsOfConnection conn e = (sender : ℕ) (m : List ℕ) → e.call ≡ Forward sender m → conn ≡ Some sender

-- The Forwards among the entries are the messages that came, are to be carried on and aren't denied, in order: all of them, or
-- all but the last thing that was given, where the hub made no entry of its call. Without a policy these are the messages that
-- are to be carried on. And all are of the session's connection. A line that isn't put is that of an entry that was made, so it
-- is no cause here.
pub record ForwardsAreCarried (v : Terms) (E : List Entry) (ended : Ended) (c : SessionCourse v) : Type 0 where
  pub made : AreAllBut (IsUnentered c.last) (allowed (messages_of c)) (forwarded E)
  pub unguarded : v.policy ≡ None → AreAllBut (IsUnentered c.last) (carried (messages_of c)) (forwarded E)
  pub own : AllByRecursion (IsOfConnection ended.conn) E

-- ---- connects

-- The hub made no entry of the call in the last turn, or memory was wanting to judge the message of that turn.
abbrev pub IsUnconnected : Option Turn → Identity → Type 0
IsUnconnected last who = MadeNone last ⊎ (last_judged last ≡ false)

-- The policy doesn't admit who asks.
abbrev pub IsTurnedAway : Option Policy → Identity → Type 0
IsTurnedAway policy who = (p : Policy) × (policy ≡ Some p) × (is_admitted p.members.items who ≡ false)

-- That, or the policy doesn't admit who asks.
abbrev pub IsUnconnectedBy : Option Policy → Option Turn → Identity → Type 0
IsUnconnectedBy policy last who = IsUnconnected last who ⊎ IsTurnedAway policy who

-- The Connects among the entries are for those who asked to connect, in order: all of them, or all but the last, where the
-- hub made no entry of the last turn's call, memory was wanting to judge its message, or the policy doesn't admit who asks.
-- Without a policy the last of these is no cause. One asked at most. A line that isn't put is no cause here either.
pub record ConnectsAreAsked (v : Terms) (E : List Entry) (c : SessionCourse v) : Type 0 where
  pub made : AreAllBut (IsUnconnectedBy v.policy c.last) (asked (messages_of c)) (connected E)
  pub unguarded : v.policy ≡ None → AreAllBut (IsUnconnected c.last) (asked (messages_of c)) (connected E)
  pub once : length (asked (messages_of c)) ≤ 1

-- ---- frames

-- Some turns took no frame, and the last of them put the Connect-Accept behind the request that it answers; all other turns
-- come after them.
pub record AcceptsFirst (v : Terms) (T : List Said) (c : SessionCourse v) : Type 0 where
  pub before : List Turn
  pub joining : Turn
  pub later : List Turn
  pub turns : all_turns c ≡ before ++ joining ∷ later
  pub none_taken : shares frames_in v begun (before ++ joining ∷ []) ≡ []
  pub request : List ℕ
  pub id : ℕ
  pub said_later : List Said
  pub talk : T ≡ shares said_in v begun before
      ++ Gave full_wait (Ok (Message request)) ∷ Put (spelling (connect_accept id v.hub)) None ∷ said_later

-- A session that takes frames has put the Connect-Accept before it takes the first.
abbrev pub FramesFollowAccept : (v : Terms) → List Said → List (List ℕ) → SessionCourse v → Type 0
FramesFollowAccept v T frames c = frames ≢ [] → AcceptsFirst v T c
