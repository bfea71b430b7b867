-- The journals of a hub that the command `hub` made.
use Rattle.std.specs.Prelude.{◌≡◌, ◌≤◌, ℕ, false, List, [], ◌∷◌, length, Option, Some, IsPermutation}
use Rattle.bsc_history.specs.Marks.{entries}
use Rattle.bsc_edge.specs.declared.notice.Notice.{Notice}
use Rattle.bsc_edge.specs.declared.said.Said.{Said}
use Rattle.bsc_edge.specs.Told.{Grows}
use Rattle.bsc_turn.specs.declared.pass.Pass.{Pass}
use Rattle.bsc_turn.specs.Passes.{seen}
use Rattle.bsc_session.specs.declared.job.SessionJob.{SessionJob}
use Rattle.bsc_session.specs.Jobs.{Worked}
use Rattle.bsc_journal.specs.Journals.{Audited, most_octets}
use Rattle.bsc_hub_command.specs.declared.place.HubPlace.{HubPlace}
use Rattle.bsc_hub_command.specs.Served.{HubRuns, HubTerms, HubWorld, telling}
use Rattle.bsc_journal_laws.specs.Laws.{put_together}
use Rattle.bsc_journal_laws.specs.Runs.{AreWhole, JournalsOf}

module _ {L C N : Type 0} (talk : L → Option (List Said)) (faults : L → ℕ) (notices : L → Option (List Notice)) (readings : C
    → Option (List ℕ))
    (held : N → Option (List ℕ)) (unput : N → ℕ) (begins : Option (List ℕ) → ℕ → N → Type 0) where
  -- The journals of the command: the hub's own, which is kept in the place, and those of the jobs by which what the spawner tells has
  -- grown, with what each holds.
  pub record HasJournals (place : HubPlace N) (before after : HubWorld L C N) (last : Pass) : Type 0 where
    pub own : N
    pub kept : place.own ≡ Some own
    pub own_file : List ℕ
    pub holds : held own ≡ Some own_file
    pub jobs : List (SessionJob L C N)
    pub taken : Grows before.jobs after.jobs jobs
    pub files : List (List ℕ)
    pub journals : JournalsOf talk faults notices readings held unput last jobs files

  -- Their octets, put together in any order, may be believed, with as many entries as the hub's own pass has seen at last, if no line
  -- of a session was lost and they are no more than an audit takes.
  abbrev pub MayBeBelieved : {place : HubPlace N} {before after : HubWorld L C N} → (last : Pass) → HasJournals place before after last → Type 0
  MayBeBelieved last k = (gs : List (List ℕ)) → AreWhole talk faults notices readings held unput last k.jobs k.files k.journals
      → IsPermutation (k.own_file ∷ k.files) gs → length (put_together gs) ≤ most_octets
      → Audited (put_together gs) (length (entries (seen last)))

  -- The journals were asked once whether lines were lost, and none was, as far as they tell.
  abbrev pub NoneLost : HubWorld L C N → HubWorld L C N → Type 0
  NoneLost before after = Grows before.lost after.lost (false ∷ [])

  -- Where the command ended with status 0, and has journals that are begun with nothing in them and tell what they hold, these are
  -- there, and they audit: with the first line, that of the hub. And none of their lines was lost.
  abbrev pub CommandAudits : Type 0
  CommandAudits = (asked : HubTerms) (place : HubPlace N) (before after : HubWorld L C N) (prefix : List ℕ)
      → (x : HubRuns (telling (Worked talk faults notices readings held unput) begins talk held unput) asked place before after 0)
      → asked.prefix ≡ Some prefix → ((n : ℕ) (k : N) → begins (Some prefix) n k → held k ≡ Some [])
      → (k : HasJournals place before after x.last) × MayBeBelieved x.last k × NoneLost before after
