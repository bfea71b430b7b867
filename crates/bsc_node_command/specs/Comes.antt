-- What running a node by its settings comes to.
use Rattle.std.specs.Prelude.{◌≡◌, ℕ, ◌⊎◌, List, [], map, Option, Some, None, is_some, Result, Ok, Err, IfErr, IfOk}
use Rattle.bsc_outside.specs.Faults.{HasRisen}
use Rattle.bsc_edge.specs.declared.said.Said.{Said}
use Rattle.bsc_edge.specs.Told.{Grows, Stays, ToldIs}
use Rattle.bsc_player.specs.LastLines.{EndsWith, RanOut, SaysOrRunsOut, script_line}
use Rattle.bsc_frame.specs.Payloads.{IsNode}
use Rattle.bsc_settings.specs.declared.node.NodeSettings.{NodeSettings}
use Rattle.bsc_settings.specs.Parts.{node_identity_of, node_times_of}
use Rattle.bsc_node.specs.declared.node_limits.NodeLimits.{NodeLimits}
use Rattle.bsc_node.specs.declared.node_event.NodeEvent.{NodeEvent}
use Rattle.bsc_node.specs.declared.action.Action.{Action}
use Rattle.bsc_node.specs.Logs.{Made, Log}
use Rattle.bsc_node_core.specs.Node.{NodeAnswers}
use Rattle.bsc_node_run.specs.declared.due.Due.{Due}
use Rattle.bsc_node_run.specs.declared.halt.Halt.{Halt}
use Rattle.bsc_node_run.specs.declared.parts.NodeParts.{NodeParts}
use Rattle.bsc_node_run.specs.declared.run_end.RunEnd.{RunEnd}
use Rattle.bsc_node_run.specs.Drawing.{GoesDrawing, at_rest}
use Rattle.bsc_node_run.specs.Resting.{HasRested}
use Rattle.bsc_node_run.specs.Running.{Run}
use Rattle.bsc_node_run.specs.Scripts.{script_of, wish_of}
use Rattle.bsc_node_run.specs.Stopping.{RunFails}
use Rattle.bsc_node_run.specs.Worlds.{Admitting, Dialling, admitting}
use Rattle.bsc_node_run.specs.Moments.{outside, run_moment}
use Rattle.bsc_node_laws.specs.Alone.{NoLinkCame, alone}
use Rattle.bsc_node_laws.specs.Courses.{GoesAsDefined}
use Rattle.bsc_node_laws.specs.Said.{EndsAsTold, IsSaid}
use Rattle.bsc_node_command.specs.declared.running_node.RunningNode.{RunningNode}
use Rattle.bsc_node_command.specs.Lines.{SaysEnd, link_line}
use Rattle.bsc_node_command.specs.Settled.{IsSettled, Unread, Unsettled}

-- what a node of these settings is made with
abbrev pub node_limits_of : NodeSettings → NodeLimits
node_limits_of v = record {
  times = node_times_of v;
  primary = v.primary;
  failover = v.failover;
  uris = v.direct_uris;
  least_wait = v.least_reconnect_ms;
  greatest_wait = v.greatest_reconnect_ms;
}

abbrev pub made_by : NodeSettings → Made
made_by v = record { own = node_identity_of v; limits = node_limits_of v }

-- A node at an event: it answers what the definition of a node asks for.
abbrev pub AnswersAt : RunningNode → ℕ → NodeEvent → List Action → RunningNode → Type 0
AnswersAt old now e actions new = NodeAnswers old.node new.node (record { now = now; event = e }) actions

-- The acceptor is bound to this port; where there is none, it is bound as before.
abbrev pub IsBoundBy : Option ℕ → Option (Option ℕ) → Option (Option ℕ) → Type 0
IsBoundBy (Some port) p p' = ToldIs p' (Some port)
IsBoundBy None p p' = Stays p p'

-- What there is outside a node that is run, at a moment, each as far as it is told: the dialer; the acceptor, with the port that
-- it is bound to and its count of faults; the readings of the clock; the waits between turns that were asked for; who draws its
-- random words; and what was written.
pub record NodeWorld (L W : Type 0) : Type 0 where
  pub dialled : Dialling L
  pub door : Admitting L
  pub port : Option (Option ℕ)
  pub faults : ℕ
  pub readings : Option (List ℕ)
  pub waited : Option (List ℕ)
  pub random : W
  pub written : Option (List ℕ)

-- The same outside the command, and the files' count of faults.
pub record CommandWorld (L W : Type 0) : Type 0 where
  pub beside : NodeWorld L W
  pub unread : ℕ

-- What there is of an acceptor at a moment: its links, those that came, the waits that it was asked for, and the port that it is
-- bound to, as far as these are told; and its count of faults.
pub record AcceptorWorld (L : Type 0) : Type 0 where
  pub door : Admitting L
  pub port : Option (Option ℕ)
  pub faults : ℕ

-- that of an acceptor, by what acceptors of its type tell
abbrev pub acceptor_world : {A L : Type 0} → (A → Option (List L)) → (A → Option (List L)) → (A → Option (List ℕ)) → (A → Option (Option ℕ)) → (A → ℕ) → A
    → AcceptorWorld L
acceptor_world left came waits bound faults a = record { door = admitting left came waits a; port = bound a; faults = faults a }

-- What there is outside a node that is run by these parts, as those of their types tell it: behind the parts stand what there is of
-- the acceptor, the readings of the clock, and what was written.
abbrev pub node_world : {D L V W : Type 0} → (D → Dialling L) → (V → Option (List ℕ)) → NodeParts V W D → AcceptorWorld L
    → Option (List ℕ) → Option (List ℕ) → NodeWorld L W
node_world dialled waits parts acceptor readings written = record {
  dialled = dialled parts.dialer;
  door = acceptor.door;
  port = acceptor.port;
  faults = acceptor.faults;
  readings = readings;
  waited = waits parts.waiter;
  random = parts.random;
  written = written;
}

-- What a node is run by: its settings, and the text of its script.
pub record NodeAsked : Type 0 where
  pub settings : NodeSettings
  pub script : List ℕ

-- What the two files of a node may have, as far as that is told: that of its settings, and that of its script.
pub record NodeFiles : Type 1 where
  pub settings : List ℕ → Type 0
  pub script : List ℕ → Type 0

-- An acceptor gave no link, and was asked for none.
abbrev pub IsUnasked : {L : Type 0} → Admitting L → Admitting L → Type 0
IsUnasked old new = Stays old.left new.left × Stays old.came new.came × Stays old.waits new.waits

module _ {L W : Type 0} where
  -- No node was run: a line of the script is the first bad one, and no port was bound; or the script is good, the port wasn't
  -- bound, and the acceptor's count of faults rose; or memory ran out, before the port was bound or after.
  abbrev pub NotRun : NodeSettings → List ℕ → NodeWorld L W → NodeWorld L W → ℕ → Type 0
  NotRun v script before after s =
      ((n : ℕ) × (script_of script ≡ Err n) × Stays before.port after.port × SaysOrRunsOut s 2 before.written after.written (script_line n))
      ⊎ ((lines : List Due) × (script_of script ≡ Ok (map wish_of lines)) × HasRisen before.faults after.faults
      × EndsWith s 6 before.written after.written link_line)
      ⊎ ((Stays before.port after.port ⊎ IsBoundBy v.direct_port before.port after.port) × RanOut s before.written after.written)

  -- Nothing was dialled, no link was asked for, the clock wasn't read, nothing was waited for, and no word was drawn.
  pub record IsIdle (before after : NodeWorld L W) : Type 0 where
    pub dialled : after.dialled ≡ before.dialled
    pub door : IsUnasked before.door after.door
    pub readings : after.readings ≡ before.readings
    pub waited : after.waited ≡ before.waited
    pub random : after.random ≡ before.random

  -- Nothing was touched but the output.
  abbrev pub IsUntouched : NodeWorld L W → NodeWorld L W → Type 0
  IsUntouched before after = after ≡ record before { written = after.written }

module _ {L W : Type 0} (talk : L → Option (List Said)) (drawn : NodeEvent → W → W → Type 0) where
  -- A node of the settings, whose identity is that of a node, and to which nothing had come was run, with the lines of the script, and the acceptor is bound by the
  -- settings. A run that came to its end was a whole run of a node as its definition has it: each event that came to it is
  -- one that may come, what was done is what the definition asks for, and each word that the node drew was drawn there. It
  -- made as many turns as the settings allow at most, and accepts links exactly where they have a port. What the node of that log
  -- told is what was written, and what it dialled is what was dialled; it told that it has ended exactly where the run is finished.
  -- Where no link came, the log is that of a node alone, by the readings of the clock and the lines of the script. A run that a fault ended is such a
  -- run up to there, with one action more in part. However it ended, there was one wait before each turn: of no time before the
  -- first, and where something new of a link was left to be told; and else until the time of the next line, and of 50 ms at most.
  -- What the run wrote stands before what is written of its end.
  pub record NodeRan (asked : NodeAsked) (before after : NodeWorld L W) (s : ℕ) : Type 0 where
    pub own : IsNode (node_identity_of asked.settings)
    pub lines : List Due
    pub reads : script_of asked.script ≡ Ok (map wish_of lines)
    pub last : Log
    pub end : Result RunEnd Halt
    pub door : Admitting L
    pub written : Option (List ℕ)
    pub bound : IsBoundBy asked.settings.direct_port before.port after.port
    pub unasked : IsUnasked before.door door
    pub run : IfOk end (λ e. Run (GoesDrawing (GoesAsDefined (made_by asked.settings)) drawn) talk (is_some asked.settings.direct_port) e
        asked.settings.turns lines
        (run_moment (at_rest [] before.random) before.dialled before.written door before.readings)
        (run_moment (at_rest last after.random) after.dialled written after.door after.readings))
    pub fails : IfErr end (λ halt. RunFails (GoesDrawing (GoesAsDefined (made_by asked.settings)) drawn) talk (is_some asked.settings.direct_port)
        asked.settings.turns lines
        (run_moment (at_rest [] before.random) before.dialled before.written door before.readings)
        (outside after.dialled written after.door after.readings))
    pub said : IfOk end (λ e. IsSaid last before.dialled.calls after.dialled.calls before.written written × EndsAsTold e last)
    pub lonely : IfOk end (λ e. NoLinkCame before.dialled.calls after.dialled.calls door.left after.door.left
        → (times : List ℕ) × Grows before.readings after.readings times × (last ≡ alone (made_by asked.settings) lines times))
    pub rests : HasRested (GoesDrawing (GoesAsDefined (made_by asked.settings)) drawn) talk (is_some asked.settings.direct_port) lines
        (run_moment (at_rest [] before.random) before.dialled before.written door before.readings) after.readings before.waited after.waited
    pub says : SaysEnd end s written after.written

  -- Either no node was run, nothing was dialled, no link was asked for, the clock wasn't read, nothing was waited for and no word
  -- was drawn; or a node was run.
  abbrev pub Comes : NodeAsked → NodeWorld L W → NodeWorld L W → ℕ → Type 0
  Comes asked before after s =
      (IsIdle before after × NotRun asked.settings asked.script before after s) ⊎ NodeRan asked before after s

  -- Either the script wasn't read, and nothing was touched; or a node of these settings came to this by the script that the
  -- file has.
  abbrev pub RunsScript : NodeSettings → (List ℕ → Type 0) → CommandWorld L W → CommandWorld L W → ℕ → Type 0
  RunsScript v holds before after s =
      (IsUntouched before.beside after.beside × Unread before.unread after.unread s before.beside.written after.beside.written)
      ⊎ ((script : List ℕ) × holds script × Comes (record { settings = v; script = script }) before.beside after.beside s)

  -- Either there are no settings of a node in their file, and nothing was touched; or this became of the node of them, by the
  -- script in the other file.
  abbrev pub RunsFiles : NodeFiles → CommandWorld L W → CommandWorld L W → ℕ → Type 0
  RunsFiles files before after s =
      (IsUntouched before.beside after.beside
      × Unsettled files.settings before.unread after.unread s before.beside.written after.beside.written)
      ⊎ ((v : NodeSettings) × IsSettled files.settings v × RunsScript v files.script before after s)
