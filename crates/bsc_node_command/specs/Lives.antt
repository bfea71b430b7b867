-- What running a node comes to that is asked by lines as they come.
use Rattle.std.specs.Prelude.{◌≡◌, ℕ, ◌⊎◌, Bool, true, List, [], ◌++◌, Option, Some, is_some, Result, Ok, IfErr, IfOk}
use Rattle.bsc_outside.specs.Faults.{HasRisen}
use Rattle.bsc_edge.specs.declared.said.Said.{Said}
use Rattle.bsc_player.specs.LastLines.{EndsWith, RanOut, read_line}
use Rattle.bsc_frame.specs.Payloads.{IsNode}
use Rattle.bsc_input.specs.declared.inbox.taken.Taken.{Taken}
use Rattle.bsc_settings.specs.declared.node.NodeSettings.{NodeSettings}
use Rattle.bsc_settings.specs.Parts.{node_identity_of}
use Rattle.bsc_node.specs.declared.node_event.NodeEvent.{NodeEvent}
use Rattle.bsc_node.specs.Logs.{Log}
use Rattle.bsc_node_run.specs.declared.halt.Halt.{Halt}
use Rattle.bsc_node_run.specs.declared.run_end.RunEnd.{RunEnd}
use Rattle.bsc_node_run.specs.declared.run_end.RunEnd.TheVariants.{Finished}
use Rattle.bsc_node_run.specs.Drawing.{GoesDrawing, at_rest}
use Rattle.bsc_node_run.specs.Moments.{outside, run_moment}
use Rattle.bsc_node_run.specs.Worlds.{Admitting}
use Rattle.bsc_node_laws.specs.Courses.{GoesAsDefined}
use Rattle.bsc_node_laws.specs.Said.{EndsAsTold, IsSaid}
use Rattle.bsc_application.specs.Breaking.{LiveFails}
use Rattle.bsc_application.specs.Ending.{WasAskedToEnd}
use Rattle.bsc_application.specs.Living.{LiveRun}
use Rattle.bsc_application.specs.Pausing.{HasPaused}
use Rattle.bsc_live_lines.specs.declared.refusal.Refusal.{Refusal}
use Rattle.bsc_live_lines.specs.Refusals.{refusals}
use Rattle.bsc_live_lines.specs.Requests.{requests}
use Rattle.bsc_live_lines.specs.Waiting.{asked_by_answers, taken_in}
use Rattle.bsc_node_command.specs.Comes.{IsBoundBy, IsIdle, IsUnasked, IsUntouched, NodeWorld, made_by}
use Rattle.bsc_node_command.specs.Lines.{SaysEnd, link_line}
use Rattle.bsc_node_command.specs.Settled.{IsSettled, Unsettled}

-- What is written of the end of a run, and its status. Where the node has ended and the end of its input was none, a read failed.
abbrev pub SaysLiveEnd : Result RunEnd Halt → Bool → ℕ → Option (List ℕ) → Option (List ℕ) → Type 0
SaysLiveEnd (Ok Finished) true s before after = EndsWith s 3 before after read_line
SaysLiveEnd end failed s before after = SaysEnd end s before after

-- What there is of the lines that a node is asked by, at a moment: what was taken of their inbox; what the node was answered, call by
-- call; the lines that were told as refused; and whether the end of the input came since it couldn't be read any further.
pub record LinesWorld : Type 0 where
  pub taken : List Taken
  pub answers : List (Option NodeEvent)
  pub refused : List Refusal
  pub failed : Bool

abbrev pub lines_world : List Taken → List (Option NodeEvent) → List Refusal → Bool → LinesWorld
lines_world taken answers refused failed = record { taken = taken; answers = answers; refused = refused; failed = failed }

-- All that was taken was read, each once and in order, but for a last one that waits for memory. What the node was asked is what the good
-- lines of that ask, in order, up to the first that asks it to end; the end of the input asks that. The lines that were told as refused
-- are those that aren't good.
pub record AreHeard (lines : LinesWorld) : Type 0 where
  pub read : List Taken
  pub unread : Option Taken
  pub taken : lines.taken ≡ read ++ taken_in unread
  pub asked : asked_by_answers lines.answers ≡ requests read
  pub refused : lines.refused ≡ refusals read

-- What there is outside a node that is asked by lines: the outside of any node, and the lines.
pub record LiveWorld (L W : Type 0) : Type 0 where
  pub node : NodeWorld L W
  pub lines : LinesWorld

abbrev pub live_world : {L W : Type 0} → NodeWorld L W → LinesWorld → LiveWorld L W
live_world node lines = record { node = node; lines = lines }

module _ {L W : Type 0} where
  -- Why no node was run: the port couldn't be bound; or there was no memory.
  abbrev pub LiveNotRun : NodeSettings → NodeWorld L W → NodeWorld L W → ℕ → Type 0
  LiveNotRun v before after s =
      (HasRisen before.faults after.faults × EndsWith s 6 before.written after.written link_line)
      ⊎ (IsBoundBy v.direct_port before.port after.port × RanOut s before.written after.written)

module _ {L W : Type 0} (talk : L → Option (List Said)) (drawn : NodeEvent → W → W → Type 0) where
  -- A node of the settings to which nothing had come was run, asked by lines, and the acceptor is bound by the settings. A run that came to
  -- its end was a whole run of a node as its definition has it, as by a script; but in each turn the node was told, in order, all that
  -- was asked by lines before that turn, and no more. It came to the node's end only where it was asked for. A run that a fault ended is
  -- such a run up to there, with one action more in part. However it ended, there was one wait before each turn: of no time before the
  -- first, where something new of a link was left to be told, or where as much was asked as is taken before a turn; and else of 50 ms,
  -- which a line that comes ends. What the run wrote stands before what is written of its end.
  pub record NodeLived (v : NodeSettings) (before after : LiveWorld L W) (s : ℕ) : Type 0 where
    pub own : IsNode (node_identity_of v)
    pub last : Log
    pub end : Result RunEnd Halt
    pub door : Admitting L
    pub written : Option (List ℕ)
    pub bound : IsBoundBy v.direct_port before.node.port after.node.port
    pub unasked : IsUnasked before.node.door door
    pub run : IfOk end (λ e. LiveRun (GoesDrawing (GoesAsDefined (made_by v)) drawn) talk (is_some v.direct_port) e v.turns
        (run_moment (at_rest [] before.node.random) before.node.dialled before.node.written door before.node.readings)
        (run_moment (at_rest last after.node.random) after.node.dialled written after.node.door after.node.readings)
        (Some before.lines.answers) (Some after.lines.answers))
    pub fails : IfErr end (λ halt. LiveFails (GoesDrawing (GoesAsDefined (made_by v)) drawn) talk (is_some v.direct_port) v.turns
        (run_moment (at_rest [] before.node.random) before.node.dialled before.node.written door before.node.readings)
        (outside after.node.dialled written after.node.door after.node.readings)
        (Some before.lines.answers) (Some after.lines.answers))
    pub said : IfOk end (λ e. IsSaid last before.node.dialled.calls after.node.dialled.calls before.node.written written × EndsAsTold e last)
    pub ended : end ≡ Ok Finished → WasAskedToEnd (Some before.lines.answers) (Some after.lines.answers)
    pub rests : HasPaused (GoesDrawing (GoesAsDefined (made_by v)) drawn) talk (is_some v.direct_port)
        (run_moment (at_rest [] before.node.random) before.node.dialled before.node.written door before.node.readings)
        after.node.readings before.node.waited after.node.waited
    pub heard : AreHeard after.lines
    pub says : SaysLiveEnd end after.lines.failed s written after.node.written

  -- Either no node was run, nothing was dialled, no link was asked for, the clock wasn't read, nothing was waited for, no word was drawn
  -- and no line was taken; or a node was run.
  abbrev pub LiveComes : NodeSettings → LiveWorld L W → LiveWorld L W → ℕ → Type 0
  LiveComes v before after s =
      (IsIdle before.node after.node × (after.lines ≡ before.lines) × LiveNotRun v before.node after.node s) ⊎ NodeLived v before after s

  -- Either there are no settings of a node in their file, and nothing was touched; or this became of the node of them. The counts are those
  -- of files that couldn't be read.
  abbrev pub RunsLive : (List ℕ → Type 0) → ℕ → ℕ → LiveWorld L W → LiveWorld L W → ℕ → Type 0
  RunsLive holds unread unread' before after s =
      (IsUntouched before.node after.node × (after.lines ≡ before.lines)
      × Unsettled holds unread unread' s before.node.written after.node.written)
      ⊎ ((v : NodeSettings) × IsSettled holds v × LiveComes v before after s)
