-- The journals of a hub that was served.
use Rattle.std.specs.Prelude.{◌≡◌, ◌≤◌, ◌^◌, ℕ, List, [], ◌∷◌, ◌++◌, length, Option, Some, None, IsPermutation, IsTrue, ⊤}
use Rattle.bsc_history.specs.declared.limits.About.{About}
use Rattle.bsc_history.specs.Entries.{own}
use Rattle.bsc_history.specs.Marks.{entries}
use Rattle.bsc_edge.specs.declared.notice.Notice.{Notice}
use Rattle.bsc_edge.specs.declared.said.Said.{Said}
use Rattle.bsc_turn.specs.declared.pass.Pass.{Pass}
use Rattle.bsc_turn.specs.Histories.{StartsWith}
use Rattle.bsc_turn.specs.Passes.{number_of, own_list, seen}
use Rattle.bsc_hub.specs.Passing.{about_of}
use Rattle.bsc_hub.specs.Whole.{IsFirst}
use Rattle.bsc_session.specs.declared.job.SessionJob.{SessionJob}
use Rattle.bsc_session.specs.declared.session_end.SessionEnd.{SessionEnd}
use Rattle.bsc_session.specs.Jobs.{Worked}
use Rattle.bsc_session.specs.Talk.{lost_of}
use Rattle.bsc_serve.specs.declared.end.ServeEnd.{ServeEnd}
use Rattle.bsc_serve.specs.Events.{jobs_of}
use Rattle.bsc_serve.specs.Serving.{Serving}
use Rattle.bsc_serve.specs.Terms.{Terms}
use Rattle.bsc_serve.specs.Worlds.{ServedWorld}
use Rattle.bsc_journal.specs.Journals.{Audited, most_in_line, most_octets}
use Rattle.bsc_journal.specs.Saying.{IsHubLine}
use Rattle.bsc_journal_laws.specs.Laws.{put_together}
use Rattle.bsc_journal_laws.specs.Lines.{is_clean}

-- What is fixed of a hub and of its sessions lies within the bounds of settings: its rows, its callers, the longest message that
-- it takes, and how many turns a session makes.
pub record IsBounded (a : About) (turns : ℕ) : Type 0 where
  pub rows : a.limits.rows ≤ 1024
  pub callers : a.limits.callers ≤ 2 ^ 62
  pub longest : a.hub.max_bvlc ≤ 65535
  pub few_turns : turns ≤ 2 ^ 40

module _ {L C N : Type 0} (talk : L → Option (List Said)) (faults : L → ℕ) (notices : L → Option (List Notice)) (readings : C
    → Option (List ℕ))
    (held : N → Option (List ℕ)) (unput : N → ℕ) where
  -- The octets o are the journal of a job that was worked off: the journal tells that it held o when it was let go. What is left
  -- of the job stands in what the pass q has seen.
  pub record JournalOf (q : Pass) (job : SessionJob L C N) (o : List ℕ) : Type 0 where
    pub left : SessionEnd L C N
    pub worked : Worked talk faults notices readings held unput job left
    pub all_own : own (entries (seen q)) (number_of job.pass) ≡ own_list left.pass
    pub since : StartsWith (seen q) (seen left.pass)
    pub is : held left.last.journal.value ≡ Some o

  -- None of its lines was lost.
  abbrev pub IsWhole : {q : Pass} {job : SessionJob L C N} {o : List ℕ} → JournalOf q job o → Type 0
  IsWhole k = lost_of k.worked.served.session ≡ None

  -- These are the journals of these jobs, in order.
  abbrev pub JournalsOf : Pass → List (SessionJob L C N) → List (List ℕ) → Type 0
  JournalsOf q [] [] = ⊤
  JournalsOf q [] (o ∷ os) = ⊥
  JournalsOf q (j ∷ js) [] = ⊥
  JournalsOf q (j ∷ js) (o ∷ os) = JournalOf q j o × JournalsOf q js os

  abbrev pub AreWhole : (q : Pass) (jobs : List (SessionJob L C N)) (files : List (List ℕ)) → JournalsOf q jobs files → Type 0
  AreWhole q [] [] ks = ⊤
  AreWhole q [] (o ∷ os) ks = ⊤
  AreWhole q (j ∷ js) [] ks = ⊤
  AreWhole q (j ∷ js) (o ∷ os) ks = IsWhole ks.0 × AreWhole q js os ks.1

  module _ (begins : Option (List ℕ) → ℕ → N → Type 0) where
    -- Serving is recorded: there are journals of a prefix, of which each is begun with nothing in it and tells so, and the hub's own
    -- held one line, that of the hub.
    pub record IsRecorded (terms : Terms) (before : ServedWorld L C N) (prefix l : List ℕ) : Type 0 where
      pub named : terms.prefix ≡ Some prefix
      pub empty : (n : ℕ) (k : N) → begins (Some prefix) n k → held k ≡ Some []
      pub hub : IsHubLine l (about_of before.hub)
      pub clean : IsTrue (is_clean l)
      pub short : length l ≤ most_in_line
      pub titled : before.held ≡ Some (l ++ 10 ∷ [])

    -- Then each job that the spawner took has its journal, however serving ended.
    abbrev pub JournalsAreThere : Type 0
    JournalsAreThere = (terms : Terms) (before after : ServedWorld L C N) (end : ServeEnd) (prefix l : List ℕ) → IsRecorded terms before prefix l
        → (s : Serving (Worked talk faults notices readings held unput) begins talk terms before after end)
        → (files : List (List ℕ)) × JournalsOf after.beside.pass (jobs_of s.events) files

    -- A hub was served by its first pass, which had made no entry, and serving is recorded. No line was lost: not that of the Stop, and
    -- none of a session. Then the octets of the hub's own journal and of those of all jobs that the spawner took, put together in any
    -- order, may be believed, with as many entries as the hub's own pass has seen, if they are no more than an audit takes.
    abbrev pub RunAudits : Type 0
    RunAudits = (terms : Terms) (before after : ServedWorld L C N) (end : ServeEnd) (prefix l own_file : List ℕ) (files gs : List (List ℕ))
        → IsFirst before.beside.pass → own_list before.beside.pass ≡ []
        → IsRecorded terms before prefix l → IsBounded (about_of before.hub) terms.turns
        → (s : Serving (Worked talk faults notices readings held unput) begins talk terms before after end) → s.lost ≡ None
        → after.held ≡ Some own_file
        → (ks : JournalsOf after.beside.pass (jobs_of s.events) files) → AreWhole after.beside.pass (jobs_of s.events) files ks
        → IsPermutation (own_file ∷ files) gs → length (put_together gs) ≤ most_octets
        → Audited (put_together gs) (length (entries (seen after.beside.pass)))
