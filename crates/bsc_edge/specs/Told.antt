-- What objects tell of what they hold, and how that changes.
use Rattle.std.specs.Prelude.{◌≡◌, Bool, true, false, List, [], ◌∷◌, ◌++◌, Option, Some, None, Result, Ok, Err, ⊤}
use Rattle.std.specs.List.{list_all}
use Rattle.bsc_edge.specs.declared.fault.LinkFault.{LinkFault}
use Rattle.bsc_edge.specs.declared.incoming.Incoming.{Incoming}
use Rattle.bsc_edge.specs.declared.incoming.Incoming.TheVariants.{Quiet}
use Rattle.bsc_edge.specs.declared.arrived.Arrived.{Arrived}
use Rattle.bsc_edge.specs.declared.arrived.Arrived.TheVariants.{Link, Quiet as NoLink}
use Rattle.bsc_edge.specs.declared.unstarted.Unstarted.{Unstarted}
use Rattle.bsc_edge.specs.declared.unstarted.Unstarted.TheVariants.{Failed, NoMemory}

-- What is told grew by these, and was told before. What isn't told any more says nothing.
abbrev pub Grows : {A : Type 0} → Option (List A) → Option (List A) → List A → Type 0
Grows old None xs = ⊤
Grows None (Some new) xs = ⊥
Grows (Some old) (Some new) xs = new ≡ old ++ xs

-- What is told is this.
abbrev pub ToldIs : {A : Type 0} → Option A → A → Type 0
ToldIs None x = ⊤
ToldIs (Some y) x = y ≡ x

-- What is told is what was told before.
abbrev pub Stays : {A : Type 0} → Option A → Option A → Type 0
Stays old None = ⊤
Stays None (Some new) = ⊥
Stays (Some old) (Some new) = new ≡ old

-- Whether each of these is so, where they are told.
abbrev pub all_told : {A : Type 0} → (A → Bool) → Option (List A) → Bool
all_told is_so None = true
all_told is_so (Some xs) = list_all is_so xs

-- Whether nothing has happened yet, as far as it is told.
abbrev pub is_untold : {A : Type 0} → Option (List A) → Bool
is_untold (Some (x ∷ xs)) = false
is_untold told = true

-- Nothing came within the wait.
abbrev pub IsQuiet : Result Incoming LinkFault → Type 0
IsQuiet (Ok Quiet) = ⊤
IsQuiet given = ⊥

-- the fault that was answered, where one was
abbrev pub fault_in : {A : Type 0} → Result A LinkFault → Option LinkFault
fault_in (Ok x) = None
fault_in (Err fault) = Some fault

-- What is left lost the link that arrived, which stood first, and nothing else.
abbrev pub Leaves : {L : Type 0} → Option (List L) → Option (List L) → Result (Arrived L) LinkFault → Type 0
Leaves old None arrived = ⊤
Leaves None (Some new) arrived = ⊥
Leaves (Some old) (Some new) (Ok (Link l)) = old ≡ l ∷ new
Leaves (Some old) (Some new) arrived = new ≡ old

-- the link that arrived, where one did
abbrev pub arrived_in : {L : Type 0} → Result (Arrived L) LinkFault → List L
arrived_in (Ok (Link l)) = l ∷ []
arrived_in (Ok NoLink) = []
arrived_in (Err fault) = []

-- No link arrived within the wait.
abbrev pub IsNoLink : {L : Type 0} → Result (Arrived L) LinkFault → Type 0
IsNoLink (Ok NoLink) = ⊤
IsNoLink arrived = ⊥

-- A job that wasn't started comes back as it was handed in.
abbrev pub ComesBack : {J : Type 0} → Unstarted J → J → Type 0
ComesBack (Failed job) given = job ≡ given
ComesBack (NoMemory job) given = job ≡ given

-- A job that wasn't started comes back, and it is the one that was handed in.
abbrev pub GivesBack : {J : Type 0} → {T : Type 0} → Result T (Unstarted J) → J → Type 0
GivesBack (Ok x) given = ⊤
GivesBack (Err unstarted) given = ComesBack unstarted given

-- A job that was started is the last of these, and else they are as before.
abbrev pub Joins : {J : Type 0} → {T : Type 0} → List J → List J → Result T (Unstarted J) → J → Type 0
Joins old new (Ok x) job = new ≡ old ++ job ∷ []
Joins old new (Err unstarted) job = new ≡ old

-- The same where jobs are told.
abbrev pub Starts : {J : Type 0} → {T : Type 0} → Option (List J) → Option (List J) → Result T (Unstarted J) → J → Type 0
Starts old None answer job = ⊤
Starts None (Some new) answer job = ⊥
Starts (Some old) (Some new) answer job = Joins old new answer job

-- what is left of the job that has ended, where one has
abbrev pub ended_in : {D : Type 0} → Option D → List D
ended_in (Some done) = done ∷ []
ended_in None = []

module _ {J D : Type 0} (works : J → D → Type 0) where
  -- One of the jobs that were out has ended: this is what may be left of it, and the others are still out.
  pub record Ends (old new : List J) (done : D) : Type 0 where
    pub job : J
    pub before : List J
    pub behind : List J
    pub was : old ≡ before ++ job ∷ behind
    pub left : new ≡ before ++ behind
    pub worked : works job done

  -- One has ended and this is left of it, or all are still out.
  abbrev pub Comes : List J → List J → Option D → Type 0
  Comes old new (Some done) = Ends old new done
  Comes old new None = new ≡ old
