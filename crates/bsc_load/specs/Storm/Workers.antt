-- What the three workers of a storm ask of a hub.
use Rattle.std.specs.Prelude.{◌≡◌, ◌≢◌, ◌⊎◌, ◌≤◌, ◌<◌, ℕ, ◌+◌, ◌*◌, Bool, true, false, IsTrue, List, [], ◌∷◌, ◌++◌, length, map, take, ⊤}
use Rattle.std.specs.List.{AllByRecursion, list_any, range_with_len, sum_by}
use Rattle.bsc_history.specs.declared.call.Call.{Call}
use Rattle.bsc_history.specs.declared.call.Call.TheVariants.{Connect, Forward, Leave}
use Rattle.bsc_history.specs.declared.ending.End.{End}
use Rattle.bsc_history.specs.declared.ending.End.TheVariants.{Left}
use Rattle.bsc_history.specs.declared.entry.Entry.{Entry}
use Rattle.bsc_history.specs.declared.limits.About.{About}
use Rattle.bsc_history.specs.declared.reply.Reply.{Reply}
use Rattle.bsc_history.specs.declared.reply.Reply.TheVariants.{Gone}
use Rattle.bsc_history.specs.Counting.{is_refused}
use Rattle.bsc_history.specs.Ends.{joined}
use Rattle.bsc_history.specs.Replies.{numbers}
use Rattle.bsc_load.specs.Workers.{calls}
use Rattle.bsc_load.specs.declared.storm.bounds.TheConstants.{TAKES}
use Rattle.bsc_load.specs.Storm.Peers.{storm_frame, storm_sender, taken_over}

-- One stay: its connection, how many frames its outlet gave, and how often it found its outbox empty.
pub record Stay : Type 0 where
  pub conn : ℕ
  pub taken : ℕ
  pub empties : ℕ

-- The calls of some stays: a connect and a leave each.
abbrev pub stay_calls : List Stay → List Call
stay_calls [] = []
stay_calls (s ∷ stays) = Connect taken_over ∷ Leave s.conn s.taken s.empties ∷ stay_calls stays

-- A leave was told that the connection had ended before, other than by it, and that so many frames were taken.
abbrev pub WasEnded : Reply → ℕ → Type 0
WasEnded told taken = (ending : End) × (ending ≢ Left) × (told ≡ Gone ending taken)

-- Before a leave its outlet gave as many frames as a stay takes, or fewer until its outbox was found empty once, or until the
-- End was found that the leave is then told.
abbrev pub HasTaken : Call → Reply → Type 0
HasTaken (Leave conn taken empties) told =
    ((taken ≡ TAKES) × (empties ≡ 0)) ⊎ ((taken < TAKES) × (empties ≡ 1)) ⊎ ((taken < TAKES) × (empties ≡ 0) × WasEnded told taken)
HasTaken call told = ⊤

-- Each leave among some entries is such a leave.
abbrev pub TakesAll : List Entry → Type 0
TakesAll E = AllByRecursion (λ e. HasTaken e.call e.reply) E

-- These are the entries of a whole worker of so many stays, whose outlets gave so many frames.
pub record AreStays (rounds : ℕ) (E : List Entry) (frames : ℕ) : Type 0 where
  pub stays : List Stay
  pub many : length stays ≡ rounds
  pub calls : calls E ≡ stay_calls stays
  pub joined : numbers (joined E) ≡ map (λ s. s.conn) stays
  pub takes : TakesAll E
  pub taken : frames ≡ sum_by (λ s. s.taken) stays

-- These are the entries of such a worker, whole or cut short: exactly some stays, and maybe a connect that didn't join.
pub record AreSomeStays (rounds : ℕ) (E : List Entry) : Type 0 where
  pub stays : List Stay
  pub more : ℕ
  pub few : length stays + more ≤ rounds
  pub calls : calls E ≡ stay_calls stays ++ take more (Connect taken_over ∷ [])
  pub joined : numbers (joined E) ≡ map (λ s. s.conn) stays
  pub takes : TakesAll E

-- The first n forwards of the sender, by its connection.
abbrev pub storm_forwards : ℕ → ℕ → List Call
storm_forwards s n = map (λ k. Forward s (storm_frame k)) (range_with_len 0 n)

-- These are the entries of a whole sender of n unicasts, whose outlet gave none.
pub record IsSender (n : ℕ) (E : List Entry) (frames : ℕ) : Type 0 where
  pub sender : ℕ
  pub calls : calls E ≡ Connect storm_sender ∷ storm_forwards sender n ++ Leave sender 0 0 ∷ []
  pub joined : numbers (joined E) ≡ sender ∷ []
  pub none : frames ≡ 0

-- The calls of a sender of n unicasts up to where it was cut short, by its connection, if it joined: its connect or none,
-- where it didn't, and else its connect, the first k of its unicasts, and its leave.
abbrev pub calls_up_to : ℕ → List ℕ → ℕ → List Call
calls_up_to n [] k = take k (Connect storm_sender ∷ [])
calls_up_to n (s ∷ others) k = Connect storm_sender ∷ take k (storm_forwards s n) ++ Leave s 0 0 ∷ []

-- These are the entries of such a sender, whole or cut short: exactly its calls up to there.
pub record IsSomeSender (n : ℕ) (E : List Entry) : Type 0 where
  pub who : List ℕ
  pub more : ℕ
  pub calls : calls E ≡ calls_up_to n who more
  pub joined : numbers (joined E) ≡ who

-- These are all entries of a worker that stays, or of the one that sends.
abbrev pub IsWholeStormWorker : Bool → ℕ → List Entry → ℕ → Type 0
IsWholeStormWorker false rounds E taken = AreStays rounds E taken
IsWholeStormWorker true rounds E taken = IsSender (2 * rounds) E taken

-- How many they are.
abbrev pub whole_length : Bool → ℕ → ℕ
whole_length false rounds = 2 * rounds
whole_length true rounds = 2 * rounds + 2

-- These are the entries of such a worker, whole or cut short. It made no other, and who joined has left.
abbrev pub IsPart : Bool → ℕ → List Entry → Type 0
IsPart false rounds E = AreSomeStays rounds E
IsPart true rounds E = IsSomeSender (2 * rounds) E

-- The entries show that their worker was cut short, where so many entries have been seen: a connect was refused, or they
-- are fewer than a whole worker's, and the hub had made as many calls as it may.
abbrev pub ShowsShort : Bool → ℕ → About → List Entry → ℕ → Type 0
ShowsShort sends rounds a E seen =
    IsTrue (list_any (λ e. is_refused e.reply) E) ⊎ ((length E < whole_length sends rounds) × (a.limits.calls ≤ seen))
