-- What of an input was read, and went into a ring.
use Rattle.std.specs.Prelude.{◌≡◌, ℕ, List, ◌++◌}
use Rattle.bsc_input.specs.declared.feed_end.FeedEnd.{FeedEnd}
use Rattle.bsc_input.specs.declared.feed_end.FeedEnd.TheVariants.{All, Failed, NoMemory, TooMany}
use Rattle.bsc_input.specs.Lines.{lines_of}

-- Of a chunk some front was read.
abbrev pub ReadFront : List ℕ → List ℕ → List ℕ → Type 0
ReadFront before after chunk = (front rest : List ℕ) × (chunk ≡ front ++ rest) × (after ≡ before ++ front)

-- These are the first lines of any input that begins so.
abbrev pub AreFirst : List ℕ → List (List ℕ) → Type 0
AreFirst o lines = (more : List ℕ) → (rest : List (List ℕ)) × (lines_of (o ++ more) ≡ lines ++ rest)

-- What was put into a ring of an input that was read: all its lines, where it ended there; and else its first ones.
abbrev pub FedBy : List ℕ → List (List ℕ) → FeedEnd → Type 0
FedBy o lines All = lines ≡ lines_of o
FedBy o lines Failed = AreFirst o lines
FedBy o lines NoMemory = AreFirst o lines
FedBy o lines TooMany = AreFirst o lines
