-- How the links of a run were used, beside the log of its node.
use Rattle.std.specs.Prelude.{◌≡◌, ℕ, Bool, true, List, [], length, map, Option, Some, None, slice_get, Ok}
use Rattle.std.specs.List.{list_all}
use Rattle.bsc_edge.specs.declared.said.Said.{Said}
use Rattle.bsc_edge.specs.Told.{Grows}
use Rattle.bsc_node.specs.declared.node_event.NodeEvent.{NodeEvent}
use Rattle.bsc_node.specs.Logs.{Made, Log}
use Rattle.bsc_node_run.specs.declared.due.Due.{Due}
use Rattle.bsc_node_run.specs.declared.run_end.RunEnd.{RunEnd}
use Rattle.bsc_node_run.specs.declared.run_terms.RunTerms.{RunTerms}
use Rattle.bsc_node_run.specs.Drawing.{GoesDrawing, at_rest}
use Rattle.bsc_node_run.specs.Moments.{run_moment}
use Rattle.bsc_node_run.specs.Requests.{is_asked}
use Rattle.bsc_node_run.specs.Running.{Run, RunsTo}
use Rattle.bsc_node_run.specs.Scripts.{script_of, wish_of}
use Rattle.bsc_node_run.specs.Worlds.{Admitting, Dialling}
use Rattle.bsc_node_laws.specs.Courses.{GoesAsDefined}
use Rattle.bsc_node_links.specs.Coming.{EachTaken, HasDialled, HasGiven, arrived_by, by_lines}
use Rattle.bsc_node_links.specs.Lives.{HasBegun, LinkLife, given_over, put_over}
use Rattle.bsc_node_links.specs.Talks.{AreFirstOf, given_in, put_in}

-- What there is outside a node at a moment: the dialer, what was written, the acceptor, and the readings of the clock.
pub record Outside (L : Type 0) : Type 0 where
  pub dialled : Dialling L
  pub written : Option (List ℕ)
  pub door : Admitting L
  pub readings : Option (List ℕ)

module _ {L : Type 0} (talk : L → Option (List Said)) where
  -- A link came as the one and was let go as the other. What it told between is T: it gave just these messages, and the first of
  -- those were put on it. (What the node put once the link was gone went nowhere.)
  pub record IsUsed (given put : List (List ℕ)) (came let_go : L) : Type 0 where
    pub T : List Said
    pub grows : Grows (talk came) (talk let_go) T
    pub gave : given_in T ≡ given
    pub took : AreFirstOf (put_in T) put

  -- No link came, and nothing was given; or this link came and was used so.
  abbrev pub HasUse : Option L → List (List ℕ) → List (List ℕ) → Type 0
  HasUse None given put = given ≡ []
  HasUse (Some came) given put = (let_go : L) × IsUsed given put came let_go

  -- The links of a node: by each line of the log came one, or none; the dialer was called just so; the acceptor gave just those that
  -- were taken or refused; and whenever one was taken, it came. Each beginning has the use of what came by its line: for what the
  -- log says was given over it, and put on it.
  pub record LinksAreUsed (before after : Outside L) (M : Log) : Type 0 where
    pub links : List (Option L)
    pub each : length links ≡ length M
    pub dialled : HasDialled before.dialled after.dialled M links
    pub arrived : HasGiven before.door after.door (by_lines arrived_by M links)
    pub taken : EachTaken M links
    pub used : (x : LinkLife) → HasBegun M x → (link : Option L) × (slice_get links x.began ≡ Some link) × HasUse link (given_over M x) (put_over M x)

-- ---- what runs promise of them

-- Each line of a script is one that a script may have.
abbrev pub AreAsked : List Due → Type 0
AreAsked lines = list_all (λ (d : Due). is_asked d.event) lines ≡ true

-- So are the links of each run of such a script that began with no log.
abbrev pub RunsUseLinks : {L : Type 0} → (L → Option (List Said)) → Type 0
RunsUseLinks {L} talk = (a : Made) (terms : RunTerms) (end : RunEnd) (o p : Outside L) (M : Log) → AreAsked terms.script.now
    → RunsTo (GoesAsDefined a) talk terms (run_moment [] o.dialled o.written o.door o.readings) (run_moment M p.dialled p.written p.door p.readings) end
    → LinksAreUsed talk o p M

-- And those of a run of a node by the text of a script, whichever words it draws.
abbrev pub ScriptRunsUseLinks : {L W : Type 0} → (L → Option (List Said)) → (NodeEvent → W → W → Type 0) → Type 0
ScriptRunsUseLinks {L} {W} talk drawn = (a : Made) (text : List ℕ) (lines : List Due) → script_of text ≡ Ok (map wish_of lines)
    → (listens : Bool) (end : RunEnd) (turns : ℕ) (u u' : W) (o p : Outside L) (M : Log)
    → Run (GoesDrawing (GoesAsDefined a) drawn) talk listens end turns lines
    (run_moment (at_rest [] u) o.dialled o.written o.door o.readings) (run_moment (at_rest M u') p.dialled p.written p.door p.readings)
    → LinksAreUsed talk o p M
