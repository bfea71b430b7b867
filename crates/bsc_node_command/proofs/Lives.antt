-- A run of a node's code by lines as they come is a run of the definition of a node, and what its status says.
-- It serves the clauses of `live_made` and `run_live`.
use Rattle.std.proofs.Common.{◌≡◌, inl, inr, ⊎_elim, ℕ, Bool, true, false, List, [], length, Option, Some, is_some, Result, Ok, Err, IfErr, IfOk, OnErr, refl, ◌∙◌, arith}
use Rattle.bsc_edge.specs.declared.said.Said.{Said}
use Rattle.bsc_edge.specs.Told.{Grows}
use Rattle.bsc_settings.specs.declared.node.NodeSettings.{NodeSettings}
use Rattle.bsc_node.specs.declared.node_event.NodeEvent.{NodeEvent}
use Rattle.bsc_node.specs.Logs.{Log}
use Rattle.bsc_node_core.specs.Node.{NodeStands}
use Rattle.bsc_node_run.specs.declared.halt.Halt.{Halt}
use Rattle.bsc_node_run.specs.declared.halt.Halt.TheVariants.{WriteFault, AcceptFault, NoMemory}
use Rattle.bsc_node_run.specs.declared.run_end.RunEnd.{RunEnd}
use Rattle.bsc_node_run.specs.declared.run_end.RunEnd.TheVariants.{Finished, Spent}
use Rattle.bsc_node_run.specs.Drawing.{GoesDrawing, at_rest}
use Rattle.bsc_node_run.specs.Moments.{outside, run_moment}
use Rattle.bsc_node_run.specs.Worlds.{Admitting, Dialling}
use Rattle.bsc_node_laws.specs.Courses.{GoesAsDefined}
use Rattle.bsc_node_laws.specs.Said.{EndsAsTold, IsSaid}
use Rattle.bsc_node_laws.proofs.Lifting.{Steps}
use Rattle.bsc_application.specs.Breaking.{LiveFails}
use Rattle.bsc_application.specs.Ending.{WasAskedToEnd}
use Rattle.bsc_application.specs.Living.{Answered, LiveRun}
use Rattle.bsc_application.specs.Pausing.{HasPaused}
use Rattle.bsc_application.proofs.Defined.{live_defined}
use Rattle.bsc_application.proofs.Stopped.{live_fails_defined}
use Rattle.bsc_application.proofs.Waits.{pauses_defined}
use Rattle.bsc_live_lines.specs.Ending.{EndWasTaken}
use Rattle.bsc_live_lines.specs.Requests.{requests}
use Rattle.bsc_live_lines.proofs.Ending.{end_was_taken}
use Rattle.bsc_node_command.specs.declared.running_node.RunningNode.{RunningNode}
use Rattle.bsc_node_command.specs.Comes.{AnswersAt, made_by}
use Rattle.bsc_node_command.specs.Lives.{LiveComes, LiveNotRun, LiveWorld, SaysLiveEnd}
use Rattle.bsc_node_command.proofs.Ended.{line_fails}

-- ---- by the definition

-- The node of the code stands for a log.
abbrev Stands : NodeSettings → RunningNode → Log → Type 0
Stands v n M = NodeStands n.node (made_by v) M

node_steps : (v : NodeSettings) → Steps AnswersAt (made_by v) (Stands v)
node_steps v n m M t e actions stands may goes = goes (made_by v) M stands may

is_finished : (e : RunEnd) → ◌≡◌ {A = Result RunEnd Halt} (Ok e) (Ok Finished) → e ≡ Finished
is_finished Finished is = refl
is_finished Spent is = absurd (let bad : ◌≡◌ {A = Result RunEnd Halt} (Ok Spent) (Ok Finished) = is in cc)

module _ {L W : Type 0} (talk : L → Option (List Said)) (drawn : NodeEvent → W → W → Type 0) (v : NodeSettings) where
  -- A run of a node that was made so is a run of the definition, with the same words. What its node told is what was written.
  pub lives_by_definition : (first last : RunningNode) (u u' : W) (end : Result RunEnd Halt)
      (c c' : Dialling L) (l l' : Admitting L) (t t' : Option (List ℕ)) (b b' : Option (List ℕ)) (k k' : Answered) → NodeStands first.node (made_by v) []
      → IfOk end (λ e. LiveRun (GoesDrawing AnswersAt drawn) talk (is_some v.direct_port) e v.turns
      (run_moment (at_rest first u) c b l t) (run_moment (at_rest last u') c' b' l' t') k k')
      → (M : Log) × IfOk end (λ e. LiveRun (GoesDrawing (GoesAsDefined (made_by v)) drawn) talk (is_some v.direct_port) e v.turns
      (run_moment (at_rest [] u) c b l t) (run_moment (at_rest M u') c' b' l' t') k k')
      × IfOk end (λ e. IsSaid M c.calls c'.calls b b' × EndsAsTold e M) × (end ≡ Ok Finished → WasAskedToEnd k k')
  lives_by_definition first last u u' (Ok end) c c' l l' t t' b b' k k' stands run =
      let d = live_defined AnswersAt drawn (made_by v) (Stands v) (node_steps v) talk (is_some v.direct_port) end v.turns first last u u' c c' b b' l l' t t' k k' stands run in
      (d.0, d.1, (d.2, d.3), λ is. d.4 (is_finished end is))
  lives_by_definition first last u u' (Err halt) c c' l l' t t' b b' k k' stands run = ([], tt, tt, λ is. absurd cc)

  -- One that a fault ended is such a run up to there.
  pub breaks_by_definition : (first : RunningNode) (u : W) (end : Result RunEnd Halt)
      (c c' : Dialling L) (l l' : Admitting L) (t t' : Option (List ℕ)) (b b' : Option (List ℕ)) (k k' : Answered) → NodeStands first.node (made_by v) []
      → OnErr end (LiveFails (GoesDrawing AnswersAt drawn) talk (is_some v.direct_port) v.turns (run_moment (at_rest first u) c b l t) (outside c' b' l' t') k k')
      → IfErr end (λ halt. LiveFails (GoesDrawing (GoesAsDefined (made_by v)) drawn) talk (is_some v.direct_port) v.turns
      (run_moment (at_rest [] u) c b l t) (outside c' b' l' t') k k')
  breaks_by_definition first u (Ok end) c c' l l' t t' b b' k k' stands fails = tt
  breaks_by_definition first u (Err halt) c c' l l' t t' b b' k k' stands fails =
      live_fails_defined AnswersAt drawn (made_by v) (Stands v) (node_steps v) talk (is_some v.direct_port) v.turns first u c c' b b' l l' t t' k k' stands fails

  -- and however it ended, it waited between its turns as the definition's run does
  pub pauses_by_definition : (first : RunningNode) (u : W) (c : Dialling L) (b : Option (List ℕ)) (l : Admitting L) (t t' r r' : Option (List ℕ))
      → NodeStands first.node (made_by v) []
      → HasPaused (GoesDrawing AnswersAt drawn) talk (is_some v.direct_port) (run_moment (at_rest first u) c b l t) t' r r'
      → HasPaused (GoesDrawing (GoesAsDefined (made_by v)) drawn) talk (is_some v.direct_port) (run_moment (at_rest [] u) c b l t) t' r r'
  pauses_by_definition first u c b l t t' r r' stands rests =
      pauses_defined AnswersAt drawn (made_by v) (Stands v) (node_steps v) talk (is_some v.direct_port) first u c b l t t' r r' stands rests

-- ---- what a status says

-- Status 0 comes only of a node that has ended, and whose input hadn't failed.
over : (P : Type 0) (end : Result RunEnd Halt) (failed : Bool) (s : ℕ) (b b' : Option (List ℕ)) → (end ≡ Ok Finished → P)
    → SaysLiveEnd end failed s b b' → s ≡ 0 → P × (failed ≡ false)
over P (Ok Finished) true s b b' p h is = absurd (line_fails 3 s b b' _ (omega arith) h is)
over P (Ok Finished) false s b b' p h is = (p refl, refl)
over P (Ok Spent) failed s b b' p h is = absurd (line_fails 8 s b b' _ (omega arith) h is)
over P (Err WriteFault) failed s b b' p h is = absurd (omega (arith, h.0, is))
over P (Err AcceptFault) failed s b b' p h is = absurd (line_fails 6 s b b' _ (omega arith) h is)
over P (Err NoMemory) failed s b b' p h is = absurd (omega (arith, h.0, is))

module _ {L W : Type 0} (talk : L → Option (List Said)) (drawn : NodeEvent → W → W → Type 0) (v : NodeSettings) where
  pub end_taken : (before after : LiveWorld L W) (s : ℕ) → LiveComes talk drawn v before after s → s ≡ 0
      → EndWasTaken after.lines.taken × (after.lines.failed ≡ false)
  end_taken before after s (inl (idle, same, inl k)) is = absurd (line_fails 6 s before.node.written after.node.written _ (omega arith) k.1 is)
  end_taken before after s (inl (idle, same, inr k)) is = absurd (omega (arith, k.1.0, is))
  end_taken before after s (inr r) is =
      over (EndWasTaken after.lines.taken) r.end after.lines.failed s r.written after.node.written
      (λ finished. end_was_taken before.lines.answers after.lines.answers (requests r.heard.read) r.heard.read after.lines.taken r.heard.unread
      r.heard.asked refl r.heard.taken (r.ended finished)) r.says is

  -- and status 8 only of one that made all its turns
  spent_turns : (u u' : W) (last : Log) (end : Result RunEnd Halt) (failed : Bool) (c c' : Dialling L) (l l' : Admitting L) (t t' : Option (List ℕ)) (s : ℕ)
      (b b' b'' : Option (List ℕ)) (k k' : Answered)
      → IfOk end (λ e. LiveRun (GoesDrawing (GoesAsDefined (made_by v)) drawn) talk (is_some v.direct_port) e v.turns
      (run_moment (at_rest [] u) c b l t) (run_moment (at_rest last u') c' b' l' t') k k')
      → SaysLiveEnd end failed s b' b'' → s ≡ 8 → (times : List ℕ) × Grows t t' times × (length times ≡ v.turns)
  spent_turns u u' last (Ok Finished) true c c' l l' t t' s b b' b'' k k' run h is = absurd (⊎_elim (λ e. omega (arith, e.0, is)) (λ e. omega (arith, e.0, is)) h)
  spent_turns u u' last (Ok Finished) false c c' l l' t t' s b b' b'' k k' run h is = absurd (omega (arith, h.0, is))
  spent_turns u u' last (Ok Spent) failed c c' l l' t t' s b b' b'' k k' run h is = (run.times, run.readings, run.ends.0)
  spent_turns u u' last (Err WriteFault) failed c c' l l' t t' s b b' b'' k k' run h is = absurd (omega (arith, h.0, is))
  spent_turns u u' last (Err AcceptFault) failed c c' l l' t t' s b b' b'' k k' run h is = absurd (⊎_elim (λ e. omega (arith, e.0, is)) (λ e. omega (arith, e.0, is)) h)
  spent_turns u u' last (Err NoMemory) failed c c' l l' t t' s b b' b'' k k' run h is = absurd (omega (arith, h.0, is))

  pub spent_live : (before after : LiveWorld L W) (s : ℕ) → LiveComes talk drawn v before after s → s ≡ 8
      → (times : List ℕ) × Grows before.node.readings after.node.readings times × (length times ≡ v.turns)
  spent_live before after s (inl (idle, same, inl k)) is = absurd (⊎_elim (λ e. omega (arith, e.0, is)) (λ e. omega (arith, e.0, is)) k.1)
  spent_live before after s (inl (idle, same, inr k)) is = absurd (omega (arith, k.1.0, is))
  spent_live before after s (inr r) is =
      spent_turns before.node.random after.node.random r.last r.end after.lines.failed before.node.dialled after.node.dialled r.door after.node.door
      before.node.readings after.node.readings s before.node.written r.written after.node.written (Some before.lines.answers) (Some after.lines.answers) r.run r.says is
