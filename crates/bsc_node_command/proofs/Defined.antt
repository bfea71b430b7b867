-- A run of a node's code is a run of the definition of a node, and its node ends only once the `finish` of its script came.
-- It serves clauses of functions of `command`, `living` and `playing`.
use Rattle.std.proofs.Common.{◌≡◌, ℕ, Bool, List, [], ◌++◌, map, Option, is_some, Result, Ok, Err, IfErr, IfOk, OnErr, refl, subst}
use Rattle.std.specs.Prelude.{IsTrue}
use Rattle.bsc_edge.specs.declared.said.Said.{Said}
use Rattle.bsc_edge.specs.Told.{Grows}
use Rattle.bsc_settings.specs.declared.node.NodeSettings.{NodeSettings}
use Rattle.bsc_node.specs.declared.node_event.NodeEvent.{NodeEvent}
use Rattle.bsc_node.specs.declared.action.Action.{Action}
use Rattle.bsc_node.specs.Logs.{Made, Log}
use Rattle.bsc_node.specs.Node.{goes_on, actions_at}
use Rattle.bsc_node.specs.Conditions.{may_come}
use Rattle.bsc_node_core.specs.Node.{NodeStands}
use Rattle.bsc_node_run.specs.declared.due.Due.{Due}
use Rattle.bsc_node_run.specs.declared.halt.Halt.{Halt}
use Rattle.bsc_node_run.specs.declared.run_end.RunEnd.{RunEnd}
use Rattle.bsc_node_run.specs.declared.run_end.RunEnd.TheVariants.{Finished}
use Rattle.bsc_node_run.specs.Drawing.{Drawing, GoesDrawing, at_rest}
use Rattle.bsc_node_run.specs.Resting.{HasRested}
use Rattle.bsc_node_run.specs.Running.{Run}
use Rattle.bsc_node_run.specs.Scripts.{script_of, wish_of}
use Rattle.bsc_node_run.specs.Stopping.{RunFails}
use Rattle.bsc_node_run.specs.Worlds.{Admitting, Dialling}
use Rattle.bsc_node_run.specs.Moments.{outside, run_moment}
use Rattle.bsc_node_run.proofs.Asked.{asked_of}
use Rattle.bsc_node_laws.specs.Alone.{NoLinkCame, alone}
use Rattle.bsc_node_laws.specs.Courses.{FinishCame, GoesAsDefined}
use Rattle.bsc_node_laws.specs.Said.{EndsAsTold, IsSaid}
use Rattle.bsc_node_laws.proofs.Beside.{Beside, Both, beside}
use Rattle.bsc_node_laws.proofs.Courses.{lifted}
use Rattle.bsc_node_laws.proofs.Lonely.{lonely}
use Rattle.bsc_node_laws.proofs.Mapping.{Maps, run_map}
use Rattle.bsc_node_laws.proofs.Resting.{rests_lifted, rests_map}
use Rattle.bsc_node_laws.proofs.Saying.{ends_as_told, said}
use Rattle.bsc_node_laws.proofs.Stopping.{fails_lifted}
use Rattle.bsc_node_laws.proofs.StopsMapping.{fails_map}
use Rattle.bsc_node_links.proofs.Walking.{log_alone}
use Rattle.bsc_node_command.specs.declared.running_node.RunningNode.{RunningNode}
use Rattle.bsc_node_command.specs.Comes.{AnswersAt, made_by}

-- A node that answers what its definition asks for stands for the log as it goes on, whichever words it draws.
drawing_steps : {W : Type 0} (drawn : NodeEvent → W → W → Type 0) (a : Made) (n m : Drawing RunningNode W) (L : Log) (now : ℕ) (e : NodeEvent) (actions : List Action) → NodeStands n.node.node a L
    → IsTrue (may_come L (record { now = now; event = e })) → GoesDrawing AnswersAt drawn n now e actions m
    → (actions ≡ actions_at a L (record { now = now; event = e })) × NodeStands m.node.node a (L ++ goes_on a (record { now = now; event = e }) L)
drawing_steps drawn a n m L now e actions stands may goes = goes.0 a L stands may

-- and so does a log
log_steps : (a : Made) (n m L : Log) (now : ℕ) (e : NodeEvent) (actions : List Action) → n ≡ L → IsTrue (may_come L (record { now = now; event = e })) → GoesAsDefined a n now e actions m
    → (actions ≡ actions_at a L (record { now = now; event = e })) × (m ≡ L ++ goes_on a (record { now = now; event = e }) L)
log_steps a n m L now e actions is may goes = subst (λ (K : Log). (actions ≡ actions_at a K (record { now = now; event = e })) × (m ≡ K ++ goes_on a (record { now = now; event = e }) K)) is
    (goes.1, goes.2)

-- ---- the words that a node draws, beside its log

-- A node that draws beside its log, seen as a log that draws the same words.
abbrev log_beside : {N W : Type 0} → Beside (Drawing N W) → Drawing Log W
log_beside b = record { node = b.log; words = b.core.words; awaits = b.core.awaits }

log_draws : {N W : Type 0} (goes : N → ℕ → NodeEvent → List Action → N → Type 0) (drawn : NodeEvent → W → W → Type 0) (a : Made)
    → Maps (Both (GoesDrawing goes drawn) a) (GoesDrawing (GoesAsDefined a) drawn) log_beside
log_draws goes drawn a n m t e actions (g, h) = (h, g.1, g.2)

module _ {L W : Type 0} (talk : L → Option (List Said)) (drawn : NodeEvent → W → W → Type 0) where
  -- A run of a node that was made so is a run of the definition, with the same words.
  pub by_definition : (v : NodeSettings) (script : List ℕ) (lines : List Due) (first last : RunningNode) (u u' : W) (end : Result RunEnd Halt)
      (c c' : Dialling L) (l l' : Admitting L) (t t' : Option (List ℕ)) (b b' : Option (List ℕ))
      → script_of script ≡ Ok (map wish_of lines) → NodeStands first.node (made_by v) []
      → IfOk end (λ e. Run (GoesDrawing AnswersAt drawn) talk (is_some v.direct_port) e v.turns lines (run_moment (at_rest first u) c b l t) (run_moment (at_rest last u') c' b' l' t'))
      → (M : Log) × IfOk end (λ e. Run (GoesDrawing (GoesAsDefined (made_by v)) drawn) talk (is_some v.direct_port) e v.turns lines (run_moment (at_rest [] u) c b l t)
      (run_moment (at_rest M u') c' b' l' t'))
  by_definition v script lines first last u u' (Ok end) c c' l l' t t' b b' reads made run =
      let two = lifted (GoesDrawing AnswersAt drawn) (made_by v) (λ n (M : Log). NodeStands n.node.node (made_by v) M) (drawing_steps drawn (made_by v))
      talk (is_some v.direct_port) end v.turns lines (asked_of script lines reads) (at_rest first u) (at_rest last u') c c' b b' l l' t t' made run in (
        two.0,
        run_map (Both (GoesDrawing AnswersAt drawn) (made_by v)) (GoesDrawing (GoesAsDefined (made_by v)) drawn) log_beside
            (log_draws AnswersAt drawn (made_by v)) talk (is_some v.direct_port) end v.turns lines
            (beside (at_rest first u) []) (beside (at_rest last u') two.0) c c' b b' l l' t t' two.1,
      )
  by_definition v script lines first last u u' (Err halt) c c' l l' t t' b b' reads made run = ([], tt)

  -- One that a fault ended is such a run up to there.
  pub fails_by_definition : (v : NodeSettings) (script : List ℕ) (lines : List Due) (first : RunningNode) (u : W) (end : Result RunEnd Halt)
      (c c' : Dialling L) (l l' : Admitting L) (t t' : Option (List ℕ)) (b b' : Option (List ℕ))
      → script_of script ≡ Ok (map wish_of lines) → NodeStands first.node (made_by v) []
      → OnErr end (RunFails (GoesDrawing AnswersAt drawn) talk (is_some v.direct_port) v.turns lines (run_moment (at_rest first u) c b l t) (outside c' b' l' t'))
      → IfErr end (λ halt. RunFails (GoesDrawing (GoesAsDefined (made_by v)) drawn) talk (is_some v.direct_port) v.turns lines (run_moment (at_rest [] u) c b l t) (outside c' b' l' t'))
  fails_by_definition v script lines first u (Ok end) c c' l l' t t' b b' reads made run = tt
  fails_by_definition v script lines first u (Err halt) c c' l l' t t' b b' reads made run =
      fails_map (Both (GoesDrawing AnswersAt drawn) (made_by v)) (GoesDrawing (GoesAsDefined (made_by v)) drawn) log_beside
      (log_draws AnswersAt drawn (made_by v)) talk (is_some v.direct_port) v.turns lines (beside (at_rest first u) []) c c' b b' l l' t t'
      (fails_lifted (GoesDrawing AnswersAt drawn) (made_by v) (λ n (M : Log). NodeStands n.node.node (made_by v) M) (drawing_steps drawn (made_by v))
      talk (is_some v.direct_port) v.turns lines (asked_of script lines reads) (at_rest first u) c c' b b' l l' t t' made run)

  -- and however it ended, it waited between its turns as the definition's run does
  pub rests_by_definition : (v : NodeSettings) (script : List ℕ) (lines : List Due) (first : RunningNode) (u : W) (c : Dialling L) (b : Option (List ℕ)) (l : Admitting L) (t t' r r' : Option (List ℕ))
      → script_of script ≡ Ok (map wish_of lines) → NodeStands first.node (made_by v) []
      → HasRested (GoesDrawing AnswersAt drawn) talk (is_some v.direct_port) lines (run_moment (at_rest first u) c b l t) t' r r'
      → HasRested (GoesDrawing (GoesAsDefined (made_by v)) drawn) talk (is_some v.direct_port) lines (run_moment (at_rest [] u) c b l t) t' r r'
  rests_by_definition v script lines first u c b l t t' r r' reads made rests =
      rests_map (Both (GoesDrawing AnswersAt drawn) (made_by v)) (GoesDrawing (GoesAsDefined (made_by v)) drawn) log_beside
      (log_draws AnswersAt drawn (made_by v)) talk (is_some v.direct_port) lines (beside (at_rest first u) []) c b l t t' r r'
      (rests_lifted (GoesDrawing AnswersAt drawn) (made_by v) (λ n (M : Log). NodeStands n.node.node (made_by v) M) (drawing_steps drawn (made_by v))
      talk (is_some v.direct_port) lines (asked_of script lines reads) (at_rest first u) c b l t t' r r' made rests)

  -- whatever words it draws
  alone_of : (a : Made) (listens : Bool) (end : RunEnd) (turns : ℕ) (lines : List Due) (u u' : W) (last : Log) (c c' : Dialling L) (l l' : Admitting L) (t t' : Option (List ℕ))
      (b b' : Option (List ℕ))
      → Run (GoesDrawing (GoesAsDefined a) drawn) talk listens end turns lines (run_moment (at_rest [] u) c b l t) (run_moment (at_rest last u') c' b' l' t')
      → Run (GoesAsDefined a) talk listens end turns lines (run_moment [] c b l t) (run_moment last c' b' l' t')
  alone_of a listens end turns lines u u' last c c' l l' t t' b b' run =
      run_map (GoesDrawing (GoesAsDefined a) drawn) (GoesAsDefined a) (λ (d : Drawing Log W). d.node) (log_alone drawn a) talk listens end turns lines
      (at_rest [] u) (at_rest last u') c c' b b' l l' t t' run

  -- what it wrote and dialled, and how it ended, is what the log of its node has
  pub said_of : (v : NodeSettings) (lines : List Due) (u u' : W) (last : Log) (end : Result RunEnd Halt) (c c' : Dialling L) (l l' : Admitting L) (t t' : Option (List ℕ)) (b b' : Option (List ℕ))
      → IfOk end (λ e. Run (GoesDrawing (GoesAsDefined (made_by v)) drawn) talk (is_some v.direct_port) e v.turns lines (run_moment (at_rest [] u) c b l t) (run_moment (at_rest last u') c' b' l' t'))
      → IfOk end (λ e. IsSaid last c.calls c'.calls b b' × EndsAsTold e last)
  said_of v lines u u' last (Ok end) c c' l l' t t' b b' run =
      let ran = alone_of (made_by v) (is_some v.direct_port) end v.turns lines u u' last c c' l l' t t' b b' run in (
        said (made_by v) talk (is_some v.direct_port) end v.turns lines c c' b b' l l' t t' last ran,
        ends_as_told (made_by v) talk (is_some v.direct_port) end v.turns lines c c' b b' l l' t t' last ran,
      )
  said_of v lines u u' last (Err halt) c c' l l' t t' b b' run = tt

  -- where no link came, the log is that of a node alone
  pub lonely_of : (v : NodeSettings) (script : List ℕ) (lines : List Due) (u u' : W) (last : Log) (end : Result RunEnd Halt) (c c' : Dialling L) (l l' : Admitting L) (t t' : Option (List ℕ))
      (b b' : Option (List ℕ))
      → script_of script ≡ Ok (map wish_of lines)
      → IfOk end (λ e. Run (GoesDrawing (GoesAsDefined (made_by v)) drawn) talk (is_some v.direct_port) e v.turns lines (run_moment (at_rest [] u) c b l t) (run_moment (at_rest last u') c' b' l' t'))
      → IfOk end (λ e. NoLinkCame c.calls c'.calls l.left l'.left → (times : List ℕ) × Grows t t' times × (last ≡ alone (made_by v) lines times))
  lonely_of v script lines u u' last (Ok end) c c' l l' t t' b b' reads run =
      lonely (made_by v) talk (is_some v.direct_port) end v.turns lines (asked_of script lines reads) c c' b b' l l' t t' last
      (alone_of (made_by v) (is_some v.direct_port) end v.turns lines u u' last c c' l l' t t' b b' run)
  lonely_of v script lines u u' last (Err halt) c c' l l' t t' b b' reads run = tt

  -- a run of the definition in which the node told that it has ended came to the time of its `finish`
  pub finish_came : (a : Made) (script : List ℕ) (listens : Bool) (turns : ℕ) (lines : List Due) (u u' : W) (last : Log) (c c' : Dialling L) (l l' : Admitting L) (t t' : Option (List ℕ))
      (b b' : Option (List ℕ))
      → script_of script ≡ Ok (map wish_of lines)
      → Run (GoesDrawing (GoesAsDefined a) drawn) talk listens Finished turns lines (run_moment (at_rest [] u) c b l t) (run_moment (at_rest last u') c' b' l' t') → FinishCame lines t t'
  finish_came a script listens turns lines u u' last c c' l l' t t' b b' reads run =
      let three = lifted (GoesAsDefined a) a (λ (n M : Log). n ≡ M) (log_steps a)
      talk listens Finished turns lines (asked_of script lines reads) [] last c c' b b' l l' t t' refl
      (alone_of a listens Finished turns lines u u' last c c' l l' t t' b b' run) in
      three.2 refl
