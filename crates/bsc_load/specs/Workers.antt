-- What the workers of a workload ask of a hub, and what they take.
use Rattle.std.specs.Prelude.{◌≡◌, ◌≢◌, ◌⊎◌, ◌≤◌, ◌<◌, ℕ, ◌-◌, ◌^◌, min, IsTrue, List, [], ◌∷◌, ◌++◌, length, map, take, Contains, ⊤}
use Rattle.std.specs.List.{list_any, range_with_len}
use Rattle.bsc_history.specs.declared.call.Call.{Call}
use Rattle.bsc_history.specs.declared.call.Call.TheVariants.{Connect, Forward, Leave}
use Rattle.bsc_history.specs.declared.ending.End.{End}
use Rattle.bsc_history.specs.declared.ending.End.TheVariants.{Left}
use Rattle.bsc_history.specs.declared.entry.Entry.{Entry}
use Rattle.bsc_history.specs.declared.limits.About.{About}
use Rattle.bsc_history.specs.declared.reply.Reply.TheVariants.{Gone}
use Rattle.bsc_history.specs.Counting.{is_refused}
use Rattle.bsc_history.specs.Ends.{joined}
use Rattle.bsc_history.specs.Outboxes.{sent}
use Rattle.bsc_history.specs.Replies.{numbers}
use Rattle.bsc_load.specs.Frames.{frame, npdu_octets}
use Rattle.bsc_load.specs.Peers.{receiver, sender}

-- the calls of some entries
abbrev pub calls : List Entry → List Call
calls E = map (λ e. e.call) E

-- the first n forwards of worker i, by its connection s
abbrev pub forwards : ℕ → ℕ → ℕ → List Call
forwards i s n = map (λ k. Forward s (frame i k)) (range_with_len 0 n)

-- What worker i asks for, where its sender joined as connection s: two connects and a thousand forwards.
abbrev pub asks : ℕ → ℕ → List Call
asks i s = Connect (sender i) ∷ Connect (receiver i) ∷ forwards i s 1000

-- All calls of worker i, where its sender is connection s and its receiver r, which takes so many frames and finds its
-- outbox empty so often: what it asks for, and two leaves.
abbrev pub all_calls : ℕ → ℕ → ℕ → ℕ → ℕ → List Call
all_calls i s r taken empties = asks i s ++ Leave r taken empties ∷ Leave s 0 0 ∷ []

-- One of these entries is the leave of connection r, with these counts, and its reply says that the connection had ended before,
-- other than by a leave.
abbrev pub HadEnded : List Entry → ℕ → ℕ → ℕ → Type 0
HadEnded E r taken empties =
    (left : Entry) × (ending : End) × Contains E left × (left.call ≡ Leave r taken empties) × (left.reply ≡ Gone ending taken) × (ending ≢ Left)

-- The outlet of connection r was found empty n times, as where a worker takes n times until it is empty; or fewer times, and
-- then the connection had ended, so that it was found closed.
abbrev pub EmptiedEachTime : List Entry → ℕ → ℕ → ℕ → ℕ → Type 0
EmptiedEachTime E n r taken empties = (empties ≡ n) ⊎ ((empties < n) × HadEnded E r taken empties)

-- These are the entries of a whole worker i: exactly its calls, of which the two connects joined. As often as it forwarded,
-- it took until its receiver's outlet was empty or closed.
pub record IsWholeWorker (i : ℕ) (E : List Entry) (r taken : ℕ) : Type 0 where
  pub sender : ℕ
  pub empties : ℕ
  pub calls : calls E ≡ all_calls i sender r taken empties
  pub joined : numbers (joined E) ≡ sender ∷ r ∷ []
  pub emptied : EmptiedEachTime E 1000 r taken empties

-- The calls of worker i up to where it was cut short, by the connections of its peers that joined, the sender's first. Where
-- none joined, that is its sender's connect or none; where the sender alone did, it asked for its receiver's connect or not,
-- and the sender left; where both did, it made the first n of its forwards, and the receiver left, and then the sender.
abbrev pub calls_up_to : ℕ → List ℕ → ℕ → ℕ → ℕ → List Call
calls_up_to i [] n taken empties = take n (Connect (sender i) ∷ [])
calls_up_to i (s ∷ []) n taken empties = Connect (sender i) ∷ take n (Connect (receiver i) ∷ []) ++ Leave s 0 0 ∷ []
calls_up_to i (s ∷ r ∷ others) n taken empties =
    Connect (sender i) ∷ Connect (receiver i) ∷ take n (forwards i s 1000) ++ Leave r taken empties ∷ Leave s 0 0 ∷ []

-- A worker that made n forwards, at most a thousand, took as often until its receiver's outlet was empty or closed, by the
-- connections of its peers that joined. Where its receiver didn't join, there is no outlet, and nothing was forwarded.
abbrev pub EmptiedUpTo : List Entry → List ℕ → ℕ → ℕ → ℕ → Type 0
EmptiedUpTo E [] n taken empties = ⊤
EmptiedUpTo E (s ∷ []) n taken empties = ⊤
EmptiedUpTo E (s ∷ r ∷ others) n taken empties = (n ≤ 1000) × EmptiedEachTime E n r taken empties

-- These are the entries of worker i, whole or cut short: exactly its calls up to there. So it made no other entry, and who
-- joined has left. As often as it forwarded, it took until its receiver's outlet was empty or closed.
pub record IsPart (i : ℕ) (E : List Entry) : Type 0 where
  pub who : List ℕ
  pub more : ℕ
  pub taken : ℕ
  pub empties : ℕ
  pub calls : calls E ≡ calls_up_to i who more taken empties
  pub joined : numbers (joined E) ≡ who
  pub emptied : EmptiedUpTo E who more taken empties

-- The entries show that their worker was cut short, where so many entries have been seen: a connect was refused, or they
-- are fewer than a whole worker's, and the hub had made as many calls as it may.
abbrev pub ShowsShort : About → List Entry → ℕ → Type 0
ShowsShort a E seen = IsTrue (list_any (λ e. is_refused e.reply) E) ⊎ ((length E < 1004) × (a.limits.calls ≤ seen))

-- How many octets of NPDU the first frames of an outbox have, where so many were taken.
abbrev pub octets_taken : About → List Entry → ℕ → ℕ → ℕ
octets_taken a H r taken = npdu_octets (take taken (sent a H r))

-- A number of 64 bits says so many, or its greatest where they are more.
abbrev pub within_64_bits : ℕ → ℕ
within_64_bits n = min n (2 ^ 64 - 1)
