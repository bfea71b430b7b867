-- The log of a run that a fault stopped: all that came up to there, with the whole of what follows from the last event. Of that
-- the first part was done.
use Rattle.std.specs.Prelude.{◌≡◌, ℕ, Bool, IsTrue, List, [], ◌∷◌, ◌++◌, length, map, Option, Some, slice_get, Ok, ⊤}
use Rattle.std.specs.List.{Contains}
use Rattle.bsc_outside.specs.Faults.{PutsPrefix}
use Rattle.bsc_edge.specs.declared.dialled.Dialled.{Dialled}
use Rattle.bsc_edge.specs.declared.said.Said.{Said}
use Rattle.bsc_edge.specs.Told.{Grows}
use Rattle.bsc_node.specs.declared.node_event.NodeEvent.{NodeEvent}
use Rattle.bsc_node.specs.declared.node_event.NodeEvent.TheVariants.{Send}
use Rattle.bsc_node.specs.declared.timed_event.TimedEvent.{TimedEvent}
use Rattle.bsc_node.specs.Conditions.{may_come}
use Rattle.bsc_node.specs.Logs.{Made, Log}
use Rattle.bsc_node.specs.Node.{goes_on, log}
use Rattle.bsc_node_run.specs.declared.due.Due.{Due}
use Rattle.bsc_node_run.specs.declared.run_terms.RunTerms.{RunTerms}
use Rattle.bsc_node_run.specs.Drawing.{GoesDrawing, at_rest}
use Rattle.bsc_node_run.specs.Moments.{outside, run_moment}
use Rattle.bsc_node_run.specs.Scripts.{script_of, wish_of}
use Rattle.bsc_node_run.specs.Stopping.{RunBreaks, RunFails}
use Rattle.bsc_node_run.specs.Worlds.{Dialling}
use Rattle.bsc_node_laws.specs.Courses.{GoesAsDefined}
use Rattle.bsc_node_laws.specs.Said.{text_of}
use Rattle.bsc_node_links.specs.Coming.{EachTaken, HasGiven, LeftBy, arrived_by, by_lines, dialled_by, link_by}
use Rattle.bsc_node_links.specs.Lives.{HasBegun, LinkLife, given_over, put_over}
use Rattle.bsc_node_links.specs.Telling.{CameFresh, EachTells}
use Rattle.bsc_node_links.specs.Using.{AreAsked, HasUse, Outside}

-- ---- what came

-- A Send is that of a line of the script.
abbrev pub IsOfScript : List Due → NodeEvent → Type 0
IsOfScript script (Send dest npdu) = (line : Due) × Contains script line × (line.event ≡ Send dest npdu)
IsOfScript script e = ⊤

-- Each of these events might come after the log and those before it, and each Send is that of a line of the script.
abbrev pub MightCome : Made → List Due → Log → List TimedEvent → Type 0
MightCome a script M [] = ⊤
MightCome a script M (e ∷ events) = IsTrue (may_come M e) × IsOfScript script e.event × MightCome a script (M ++ goes_on a e M) events

-- ---- how links were used

-- A dialer was called just at the first of the lines that dial, gave a link just where one came by such a line, and gave just these.
pub record HasDialledFirst {L : Type 0} (d e : Dialling L) (M : Log) (links : List (Option L)) : Type 0 where
  pub called : List Dialled
  pub uncalled : List Dialled
  pub parts : by_lines dialled_by M links ≡ called ++ uncalled
  pub calls : Grows d.calls e.calls called
  pub left : LeftBy d.left e.left (by_lines link_by M links)
  pub came : Grows d.came e.came (by_lines link_by M links)

module _ {L : Type 0} (talk : L → Option (List Said)) where
  -- The links of a node are used as in `LinksAreUsed`, but that the dialer was called at the first of the lines that dial alone: each
  -- link gave just what the log says, and took the first of what it says.
  pub record LinksAreUsedFirst (before after : Outside L) (M : Log) : Type 0 where
    pub links : List (Option L)
    pub each : length links ≡ length M
    pub dialled : HasDialledFirst before.dialled after.dialled M links
    pub arrived : HasGiven before.door after.door (by_lines arrived_by M links)
    pub taken : EachTaken M links
    pub used : (x : LinkLife) → HasBegun M x → (link : Option L) × (slice_get links x.began ≡ Some link) × HasUse talk link (given_over M x) (put_over M x)

  -- ---- a run that stopped

  -- A run by this script that a fault stopped has this log: that of a node to which these events came. Its links were used so, and what
  -- was written is a first part of what the node of that log told and delivered.
  pub record HasStopped (a : Made) (script : List Due) (before after : Outside L) (M : Log) : Type 0 where
    pub events : List TimedEvent
    pub is : M ≡ log a events
    pub might : MightCome a script [] events
    pub links : LinksAreUsedFirst before after M
    pub written : PutsPrefix before.written after.written (text_of M)

  -- All that links which had told nothing when they came tell at last is what the log says of them.
  abbrev pub StoppedLinksTell : Type 0
  StoppedLinksTell = (before after : Outside L) (M : Log) (u : LinksAreUsedFirst before after M) → CameFresh talk after.dialled.came → CameFresh talk after.door.came
      → EachTells talk M u.links

-- Each run that began with no log, and that a fault stopped, has such a log.
abbrev pub StoppedRunsHaveLogs : {L : Type 0} → (L → Option (List Said)) → Type 0
StoppedRunsHaveLogs {L} talk = (a : Made) (terms : RunTerms) (o p : Outside L) → AreAsked terms.script.now
    → RunBreaks (GoesAsDefined a) talk terms (run_moment [] o.dialled o.written o.door o.readings) (outside p.dialled p.written p.door p.readings)
    → (M : Log) × HasStopped talk a terms.script.now o p M

-- So has each by the text of a script, whichever words it draws.
abbrev pub StoppedScriptsHaveLogs : {L W : Type 0} → (L → Option (List Said)) → (NodeEvent → W → W → Type 0) → Type 0
StoppedScriptsHaveLogs {L} {W} talk drawn = (a : Made) (text : List ℕ) (lines : List Due) → script_of text ≡ Ok (map wish_of lines)
    → (listens : Bool) (turns : ℕ) (u : W) (o p : Outside L)
    → RunFails (GoesDrawing (GoesAsDefined a) drawn) talk listens turns lines
    (run_moment (at_rest [] u) o.dialled o.written o.door o.readings) (outside p.dialled p.written p.door p.readings)
    → (M : Log) × HasStopped talk a lines o p M
