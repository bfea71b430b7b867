-- A run of a node as its definition has it, written out: it starts and dials its hub, the dial fails, and at once it is to finish.
-- No clause needs it: worked examples.
use Rattle.std.proofs.Common.{◌≡◌, ℕ, true, false, List, [], ◌∷◌, ◌++◌, Option, Some, None, inl, refl, replicate, sym, subst, ◌∙◌, arith, lit<, lit≤}
use Rattle.std.specs.Prelude.{◌≤◌, codes}
use Rattle.bsc_direct.specs.Slots.{slots}
use Rattle.bsc_connector.specs.declared.side.Side.TheVariants.{Primary}
use Rattle.bsc_edge.specs.declared.dialled.Dialled.{Dialled}
use Rattle.bsc_edge.specs.declared.kind.Kind.TheVariants.{Hub as HubKind}
use Rattle.bsc_edge.specs.declared.said.Said.{Said}
use Rattle.bsc_edge.specs.Told.{Grows}
use Rattle.bsc_accept.specs.Steps.{normal}
use Rattle.bsc_node.specs.declared.action.Action.TheVariants.{Close, Dial, Tell}
use Rattle.bsc_node.specs.declared.link_name.LinkName.{LinkName}
use Rattle.bsc_node.specs.declared.link_name.LinkName.TheVariants.{Hub}
use Rattle.bsc_node.specs.declared.node_event.NodeEvent.{NodeEvent}
use Rattle.bsc_node.specs.declared.node_event.NodeEvent.TheVariants.{Start, Tick, Finish}
use Rattle.bsc_node.specs.declared.note.Note.TheVariants.{Finished as TellsEnd}
use Rattle.bsc_node.specs.declared.timed_event.TimedEvent.{TimedEvent}
use Rattle.bsc_node.specs.Logs.{Log, Made}
use Rattle.bsc_node.specs.Node.{goes_on}
use Rattle.bsc_node_run.specs.declared.due.Due.{Due}
use Rattle.bsc_node_run.specs.declared.news.Change.TheVariants.{DialFailed}
use Rattle.bsc_node_run.specs.declared.run_end.RunEnd.TheVariants.{Finished, Spent}
use Rattle.bsc_node_run.specs.Lines.{note_line}
use Rattle.bsc_node_run.specs.Moments.{RunMoment, moment, run_moment}
use Rattle.bsc_node_run.specs.Resting.{HasRested, Rested, until_next}
use Rattle.bsc_node_run.specs.Running.{Run, Turns}
use Rattle.bsc_node_run.specs.Turning.{Gives, HearsEach, Turn, names}
use Rattle.bsc_node_run.specs.Worlds.{Admitting, Dialling, Same, World}
use Rattle.bsc_node_laws.specs.Courses.{GoesAsDefined}
use Rattle.bsc_node_laws.specs.Said.{EndsAsTold, IsSaid}
use Rattle.bsc_witnesses.proofs.Pieces.{unlike}

-- ---- the node, and its log

abbrev node : Made
node = record {
  own = record { vmac = record { 0 = 2 ∷ 0 ∷ 0 ∷ 0 ∷ 0 ∷ 0x0B ∷ [] }; device = record { 0 = replicate 16 0xBB }; max_bvlc = 1600; max_npdu = 1497 };
  limits = record {
    times = record { connect_wait = 10000; disconnect_wait = 10000; heartbeat = 300000 };
    primary = codes "ws://p/";
    failover = None;
    uris = None;
    least_wait = 2000;
    greatest_wait = 30000;
  };
}

abbrev at_0 : NodeEvent → TimedEvent
at_0 event = record { now = 0; event = event }

abbrev started : Log
started = goes_on node (at_0 Start) []

abbrev ticked : Log
ticked = started ++ goes_on node (at_0 Tick) started

abbrev finished : Log
finished = ticked ++ goes_on node (at_0 Finish) ticked

abbrev script : List Due
script = record { at = 0; event = Finish; octets = refl } ∷ []

-- ---- what there is outside

-- No link comes, so none tells anything.
abbrev silent : ℕ → Option (List Said)
silent link = None

abbrev call : Dialled
call = record { uri = codes "ws://p/"; kind = HubKind; came = false }

abbrev dialled_once : Dialling ℕ
dialled_once = record { calls = Some (call ∷ []); left = Some []; came = Some []; faults = 1 }

abbrev at_first : World ℕ
at_first = record {
  link = λ name. None;
  arrived = None;
  over = [];
  due = [];
  waiting = [];
  finished = false;
  dialled = record { calls = Some []; left = Some []; came = Some []; faults = 0 };
  held = Some [];
}

-- The dial has failed, of which the node would be told in the next turn.
abbrev dialled : World ℕ
dialled = record at_first { waiting = record { link = Hub Primary; change = DialFailed } ∷ []; dialled = dialled_once }

-- What is new of a link that is closed isn't told any more.
abbrev closed : World ℕ
closed = record dialled { waiting = [] }

abbrev told : World ℕ
told = record closed { held = Some (note_line TellsEnd); finished = true }

abbrev door : Admitting ℕ
door = record { left = Some []; came = Some []; waits = Some [] }

same : (w : World ℕ) → Same w w
same w = record { link = λ name. refl; arrived = refl; over = refl; due = refl; waiting = refl; finished = refl; dialled = refl; held = refl }

-- ---- its one turn

start_given : Gives (GoesAsDefined node) silent 0 Start [] at_first started dialled
unfolding slots
start_given = (
  Dial (Hub Primary) (codes "ws://p/") ∷ [],
  started,
  dialled,
  (refl, refl, refl),
  (dialled, (None, refl, (refl, refl, inl (lit< tt)), same dialled), same dialled),
  (refl, same dialled),
)

tick_given : Gives (GoesAsDefined node) silent 0 Tick started dialled ticked dialled
unfolding slots
tick_given = ([], ticked, dialled, (refl, refl, refl), same dialled, (refl, same dialled))

finish_given : Gives (GoesAsDefined node) silent 0 Finish ticked dialled finished told
unfolding slots
finish_given = (
  Close (Hub Primary) normal ∷ Tell TellsEnd ∷ [],
  finished,
  told,
  (refl, refl, refl),
  (closed, same closed, (told, (refl, same told), same told)),
  (refl, same told),
)

hears_none : (all : List LinkName) → HearsEach (GoesAsDefined node) silent 0 all finished told finished told
hears_none [] = (refl, same told)
hears_none (name ∷ all) = (finished, told, (refl, same told), hears_none all)

turn : Turn (GoesAsDefined node) silent 0 None script [] false (moment [] at_first door) (moment finished told door)
turn = record {
  news = [];
  lines = script;
  world_begun = at_first;
  world_started = dialled;
  world_ticked = dialled;
  world_told = dialled;
  world_given = told;
  world_heard = told;
  node_started = started;
  node_ticked = ticked;
  node_told = ticked;
  node_given = finished;
  node_heard = finished;
  begins = same at_first;
  starts = start_given;
  ticks = tick_given;
  told = (refl, refl, same dialled);
  parts = refl;
  due = (lit≤ tt, tt);
  next = tt;
  given = (finished, told, finish_given, (refl, same told));
  heard = hears_none names;
  admits = (refl, same told, refl);
}

-- ---- the run

-- what there is before the run, and after it
abbrev before : RunMoment Log ℕ
before = run_moment [] (at_first.dialled) (Some []) door (Some [])

abbrev after : RunMoment Log ℕ
after = run_moment finished dialled_once (Some (note_line TellsEnd)) door (Some (0 ∷ []))

runs : Run (GoesAsDefined node) silent false Finished 100 script before after
runs = record {
  times = 0 ∷ [];
  first = at_first;
  last = told;
  empty = record { link = λ name. refl; arrived = refl; due = refl; waiting = refl; finished = refl; dialled = refl; held = refl };
  went = ([], finished, told, door, refl, turn, (refl, same told, refl));
  dials = refl;
  holds = refl;
  readings = refl;
  rise = (lit≤ tt, lit< tt, tt);
  ends = refl;
}

-- What was dialled and written is what the log says.
is_said : IsSaid finished (Some []) (Some (call ∷ [])) (Some []) (Some (note_line TellsEnd))
unfolding slots
is_said = record { written = refl; calls = (call ∷ [], refl, refl) }

ends_as_told : EndsAsTold Finished finished
unfolding slots
ends_as_told = refl

-- Before its first turn a node doesn't wait.
has_rested : HasRested (GoesAsDefined node) silent false script before (Some (0 ∷ [])) (Some []) (Some (0 ∷ []))
has_rested = (
  0 ∷ [],
  0 ∷ [],
  at_first,
  record { link = λ name. refl; arrived = refl; due = refl; waiting = refl; finished = refl; dialled = refl; held = refl },
  (lit≤ tt, lit< tt, tt),
  refl,
  refl,
  (refl, inl (refl, refl)),
)

-- ---- what no run is

-- No run is finished without a turn.
no_turns : (end : RunMoment Log ℕ) → end.out.readings ≡ Some [] → Run (GoesAsDefined node) silent false Finished 100 script before end → ⊥
no_turns end unread x =
    let none : [] ≡ x.times = subst (λ (o : Option (List ℕ)). Grows (Some []) o x.times) unread x.readings in
    let went = subst (λ (times : List ℕ). Turns (GoesAsDefined node) silent false times None script (moment [] x.first door) (moment end.node x.last end.out.door)) (sym none) x.went in
    let bad : true ≡ false = sym x.ends ∙ (went.1.finished ∙ x.empty.finished) in
    cc

-- A node that has told that it has ended hasn't spent its turns.
spent : EndsAsTold Spent finished → ⊥
unfolding slots
spent h = (let bad : true ≡ false = h in cc)

-- No wait is longer than 50 milliseconds.
waits_too_long : until_next 0 [] ≡ 51 → ⊥
waits_too_long h = unlike 50 51 refl h

-- Nor is there one before the first turn.
waits_at_first : HasRested (GoesAsDefined node) silent false script before (Some (0 ∷ [])) (Some []) (Some (7 ∷ [])) → ⊥
waits_at_first h =
    let rests = subst (λ (waits : List ℕ). Rested (GoesAsDefined node) silent false (0 ∷ []) waits None 0 script (moment [] h.2 door)) (sym h.6)
    (subst (λ (times : List ℕ). Rested (GoesAsDefined node) silent false times h.1 None 0 script (moment [] h.2 door)) (sym h.5) h.7) in
    unlike 7 0 refl rests.0
