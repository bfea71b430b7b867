-- What is looked at while a hub is served: whether its stop is asked for.
use Rattle.std.specs.Prelude.{◌≡◌, ℕ, ◌≤◌, Bool, true, false, List, [], ◌∷◌, ◌++◌, map, replicate, Option, ⊤}
use Rattle.bsc_history.specs.declared.counts.Counts.{Counts}
use Rattle.bsc_history.specs.declared.entry.Entry.{Entry}
use Rattle.bsc_outside.specs.Faults.{HasRisen}
use Rattle.bsc_edge.specs.Told.{Grows}
use Rattle.bsc_serve.specs.declared.bounds.TheConstants.{WAIT_MS}
use Rattle.bsc_serve.specs.declared.end.ServeEnd.{ServeEnd}
use Rattle.bsc_serve.specs.declared.session_look.SessionLook.{SessionLook}
use Rattle.bsc_serve.specs.declared.end.ServeEnd.TheVariants.{Done, StoppedBefore, Requested, AcceptFault, JournalFault, NoMemory}

-- What an asker tells of itself: how it was looked at, so far as that is told; how often it asked, up to the greatest u64; and what
-- was written each time that it was told that a hub has ended, so far as that is told.
pub record Asking : Type 0 where
  pub looks : Option (List SessionLook)
  pub asked : ℕ
  pub endings : Option (List (Option (List ℕ)))

abbrev pub asking_by : {Q : Type 0} → (Q → Option (List SessionLook)) → (Q → ℕ) → (Q → Option (List (Option (List ℕ)))) → Q → Asking
asking_by looks asked endings q = record { looks = looks q; asked = asked q; endings = endings q }

-- A look at which the hub's own pass had entered this, and the answer was that.
abbrev pub look_at : List Entry → Bool → SessionLook
look_at entered asks = record { asks = asks; entered = entered }

-- the answer of a last look, where there was one more that asked
abbrev pub last_look : Bool → List Bool
last_look true = true ∷ []
last_look false = []

-- Before each time that the acceptor was asked for a link it was looked whether the stop is asked for, and it wasn't. And at last
-- a look found that it is, behind which the acceptor wasn't asked any more; or it was looked no more. At each look the hub's own pass
-- had entered this and nothing more. Nobody was told of an end.
pub record Looked (entered : List Entry) (waits waits' : Option (List ℕ)) (before after : Asking) (is_asked : Bool) : Type 0 where
  pub asks : ℕ
  pub waited : Grows waits waits' (replicate asks WAIT_MS)
  pub looks : Grows before.looks after.looks (map (look_at entered) (replicate asks false ++ last_look is_asked))
  pub rose : is_asked ≡ true → HasRisen before.asked after.asked
  pub later : before.asked ≤ after.asked
  pub endings : after.endings ≡ before.endings

-- Serving ended as it does where the stop was asked for: with an end that says so, or the Stop's line wasn't put.
abbrev pub EndsAsked : ServeEnd → Type 0
EndsAsked (Done c u) = ⊥
EndsAsked (StoppedBefore at u) = ⊥
EndsAsked (Requested c u) = ⊤
EndsAsked AcceptFault = ⊥
EndsAsked JournalFault = ⊤
EndsAsked NoMemory = ⊤

-- It ended as it does where nobody asked.
abbrev pub EndsUnasked : ServeEnd → Type 0
EndsUnasked (Requested c u) = ⊥
EndsUnasked end = ⊤

abbrev pub EndsAfter : Bool → ServeEnd → Type 0
EndsAfter true end = EndsAsked end
EndsAfter false end = EndsUnasked end

-- It was looked so, and serving ended by what the last look found.
pub record AskedSo (entered : List Entry) (waits waits' : Option (List ℕ)) (before after : Asking) (end : ServeEnd) : Type 0 where
  pub is_asked : Bool
  pub looked : Looked entered waits waits' before after is_asked
  pub ends : EndsAfter is_asked end

-- No end says that the stop was asked for where the count of the asker stands at 0: it never asked.
abbrev pub RequestsNeedAskers : Type 0
RequestsNeedAskers = (entered : List Entry) (waits waits' : Option (List ℕ)) (before after : Asking) (counts : Option Counts) (u : ℕ) → after.asked ≡ 0
    → AskedSo entered waits waits' before after (Requested counts u) → ⊥
