-- What is kept of the VMACs that are held, and how it goes on.
use Rattle.std.specs.Prelude.{ℕ, ◌+◌, nat_le, Bool, ◌||◌, if◌then◌else◌, List, [], ◌∷◌, Option, Some, None, is_some, find, position, map}
use Rattle.bsc_octets.specs.declared.vmac.Vmac.{Vmac}
use Rattle.bsc_octets.specs.Addresses.{same_vmac}
use Rattle.bsc_resolve.specs.declared.question.Question.{Question}
use Rattle.bsc_resolve.specs.declared.entry.Entry.{Entry}
use Rattle.bsc_resolve.specs.Resolving.{has_id}

abbrev pub is_for : Vmac → Entry → Bool
is_for v e = same_vmac v e.vmac

-- the entry of v
abbrev pub entry_of : List Entry → Vmac → Option Entry
entry_of es v = find (is_for v) es

-- the VMACs of entries
abbrev pub vmacs : List Entry → List Vmac
vmacs es = map (λ (e : Entry). e.vmac) es

-- the question that an entry has
abbrev pub kept_question : Option Entry → Option Question
kept_question None = None
kept_question (Some e) = e.question

-- the URIs that an entry has
abbrev pub kept_uris : Option Entry → Option (List ℕ)
kept_uris None = None
kept_uris (Some e) = e.uris

-- whether an entry has a question or URIs
abbrev pub holds_something : Entry → Bool
holds_something e = is_some e.question || is_some e.uris

-- ---- how an entry goes on

abbrev pub with_question : Question → Entry → Entry
with_question q e = record e { question = Some q }

abbrev pub with_uris : List ℕ → Entry → Entry
with_uris uris e = record e { question = None; uris = Some uris }

abbrev pub without_question : Entry → Entry
without_question e = record e { question = None }

abbrev pub has_passed : ℕ → ℕ → Question → Bool
has_passed wait now q = nat_le (q.asked + wait) now

abbrev pub unless_passed : ℕ → ℕ → Option Question → Option Question
unless_passed wait now None = None
unless_passed wait now (Some q) = if has_passed wait now q then None else Some q

abbrev pub ticked : ℕ → ℕ → Entry → Entry
ticked wait now e = record e { question = unless_passed wait now e.question }

-- the list with f of the first element that passes the test
abbrev pub at_first : {A : Type 0} → (A → Bool) → (A → A) → List A → List A
at_first test f [] = []
at_first test f (x ∷ xs) = if test x then f x ∷ xs else x ∷ at_first test f xs

-- the place of the entry of v, where a question with this Message ID is under way
abbrev pub awaiting_place : List Entry → ℕ → Vmac → Option ℕ
awaiting_place es id v = if has_id id (kept_question (entry_of es v)) then position (is_for v) es else None
