-- What was asked of those who begin journals and of those who read files.
use Rattle.std.specs.Prelude.{◌≡◌, ℕ, List, [], ◌∷◌, ◌++◌, map, true, false, Option, Result, Ok, Err}
use Rattle.bsc_edge.specs.declared.begun.Begun.{Begun}
use Rattle.bsc_edge.specs.declared.fault.FileFault.{FileFault}
use Rattle.bsc_edge.specs.declared.fault.LinkFault.{LinkFault}
use Rattle.bsc_edge.specs.declared.loaded.Loaded.{Loaded}
use Rattle.bsc_edge.specs.Told.{Grows}

-- A call that begins a journal, with its answer: a journal came where it answered one.
abbrev pub begun_by : {K : Type 0} → Option (List ℕ) → ℕ → Result K LinkFault → Begun
begun_by prefix number (Ok journal) = record { prefix = prefix; number = number; came = true }
begun_by prefix number (Err fault) = record { prefix = prefix; number = number; came = false }

-- a call that reads a file, with its answer
abbrev pub loaded_by : List ℕ → Result (List ℕ) FileFault → Loaded
loaded_by path answer = record { path = path; answer = answer }

-- One file was read, once, that at this path, and no other was, as far as that is told.
abbrev pub ReadsOnce : Option (List Loaded) → Option (List Loaded) → List ℕ → Type 0
ReadsOnce old new path = (answer : Result (List ℕ) FileFault) × Grows old new (loaded_by path answer ∷ [])

-- The files at the first of these paths were read, each once, in this order, and no other was, as far as that is told.
pub record ReadsFirstOf (old new : Option (List Loaded)) (paths : List (List ℕ)) : Type 0 where
  pub since : List Loaded
  pub unread : List (List ℕ)
  pub told : Grows old new since
  pub first : paths ≡ map (λ (l : Loaded). l.path) since ++ unread

-- Where `holds` says which octets the file at a path has, and `loads` which files were read: the file at this path had these
-- octets, and it was read, and that gave them, each as far as it is told.
pub record GaveFile {F : Type 0} (holds : F → List ℕ → List ℕ → Type 0) (loads : F → Option (List Loaded)) (old new : F) (path octets : List ℕ) : Type 0 where
  pub held : holds old path octets
  pub earlier : List Loaded
  pub later : List Loaded
  pub told : Grows (loads old) (loads new) (earlier ++ loaded_by path (Ok octets) ∷ later)
