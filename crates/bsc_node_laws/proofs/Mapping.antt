-- A run of one core is a run of another, where each step of the one is a step of the other.
-- It serves many crates above.
use Rattle.std.proofs.Common.{ℕ, Bool, true, false, inl, inr, List, [], ◌∷◌, Option, Some, None, Result, Ok, Err, ap, unwrap_or}
use Rattle.bsc_edge.specs.declared.fault.LinkFault.{LinkFault}
use Rattle.bsc_edge.specs.declared.fault.LinkFault.TheVariants.{Failed, NoMemory}
use Rattle.bsc_edge.specs.declared.incoming.Incoming.{Incoming}
use Rattle.bsc_edge.specs.declared.incoming.Incoming.TheVariants.{Message, Text, Quiet, Closed}
use Rattle.bsc_edge.specs.declared.said.Said.{Said}
use Rattle.bsc_node.specs.declared.link_name.LinkName.{LinkName}
use Rattle.bsc_node.specs.declared.node_event.NodeEvent.{NodeEvent}
use Rattle.bsc_node.specs.declared.node_event.NodeEvent.TheVariants.{Start, Arrived, Came, CameText, Lost, Tick}
use Rattle.bsc_node.specs.declared.action.Action.{Action}
use Rattle.bsc_node_run.specs.declared.due.Due.{Due}
use Rattle.bsc_node_run.specs.declared.news.News.{News}
use Rattle.bsc_node_run.specs.declared.run_end.RunEnd.{RunEnd}
use Rattle.bsc_node_run.specs.Running.{Run, Turns}
use Rattle.bsc_node_run.specs.Turning.{Admits, GivesWord, Gives, GivesIn, GivesLines, GivesNews, HearsEach, HearsIf, HearsOf, Starts, Turn}
use Rattle.bsc_node_run.specs.Turning.{draws, event_of, names}
use Rattle.bsc_node_run.specs.Worlds.{Admitting, Dialling, World, ends, is_open, with_link}
use Rattle.bsc_node_run.specs.Moments.{moment, run_moment}

-- Each step of the one is a step of the other, between what it is seen as.
abbrev pub Maps : {N P : Type 0} → (N → ℕ → NodeEvent → List Action → N → Type 0) → (P → ℕ → NodeEvent → List Action → P → Type 0) → (N → P) → Type 0
Maps {N} goes goes' f = (n m : N) (t : ℕ) (e : NodeEvent) (actions : List Action) → goes n t e actions m → goes' (f n) t e actions (f m)

module _ {N P L : Type 0} (goes : N → ℕ → NodeEvent → List Action → N → Type 0) (goes' : P → ℕ → NodeEvent → List Action → P → Type 0) (f : N → P)
    (step : Maps goes goes' f) (talk : L → Option (List Said)) (t : ℕ) where
  answers_map : (b : Bool) (n m : N) (w v : World L) → GivesWord goes talk t b n w m v → GivesWord goes' talk t b (f n) w (f m) v
  answers_map false n m w v (is, same) = (ap f is, same)
  answers_map true n m w v (word, actions, brings, g, c) = (word, actions, brings, step n m t word actions g, c)

  pub gives_map : (e : NodeEvent) (n m : N) (w v : World L) → Gives goes talk t e n w m v → Gives goes' talk t e (f n) w (f m) v
  gives_map e n m w v (actions, p, x, g, c, k) = (actions, f p, x, step n p t e actions g, c, answers_map (draws actions) p m x v k)

  pub news_map : (news : List News) (n m : N) (w v : World L) → GivesNews goes talk t news n w m v → GivesNews goes' talk t news (f n) w (f m) v
  news_map [] n m w v (none, is, same) = (none, ap f is, same)
  news_map (one ∷ more) n m w v (rest, p, x, is, g, k) = (rest, f p, x, is, gives_map (event_of one) n p (record w { due = rest }) x g, news_map more p m x v k)

  pub lines_map : (lines : List Due) (n m : N) (w v : World L) → GivesLines goes talk t lines n w m v → GivesLines goes' talk t lines (f n) w (f m) v
  lines_map [] n m w v (is, same) = (ap f is, same)
  lines_map (d ∷ lines) n m w v (p, x, g, k) = (f p, x, gives_map d.event n p w x g, lines_map lines p m x v k)

  in_map : (e : NodeEvent) (n m : N) (w v : World L) → GivesIn goes talk t e n w m v → GivesIn goes' talk t e (f n) w (f m) v
  in_map e n m w v (x, same, g) = (x, same, gives_map e n m x v g)

  of_map : (name : LinkName) (l : L) (given : Result Incoming LinkFault) (n m : N) (w v : World L)
      → HearsOf goes talk t name l given n w m v → HearsOf goes' talk t name l given (f n) w (f m) v
  of_map name l (Ok (Message o)) n m w v g = in_map (Came name o) n m (with_link name (Some l) w) v g
  of_map name l (Ok Text) n m w v g = in_map (CameText name) n m (with_link name (Some l) w) v g
  of_map name l (Ok Quiet) n m w v (is, same) = (ap f is, same)
  of_map name l (Ok Closed) n m w v g = in_map (Lost name) n m (ends name l w) v g
  of_map name l (Err Failed) n m w v g = in_map (Lost name) n m (ends name l w) v g
  of_map name l (Err NoMemory) n m w v g = absurd g

  pub hears_map : (name : LinkName) (b : Bool) (n m : N) (w v : World L) → HearsIf goes talk t name b n w m v → HearsIf goes' talk t name b (f n) w (f m) v
  hears_map name false n m w v (is, same) = (ap f is, same)
  hears_map name true n m w v (k, l, given, is, grows, g) = (k, l, given, is, grows, of_map name l given n m w v g)

  pub each_map : (links : List LinkName) (n m : N) (w v : World L) → HearsEach goes talk t links n w m v → HearsEach goes' talk t links (f n) w (f m) v
  each_map [] n m w v (is, same) = (ap f is, same)
  each_map (name ∷ links) n m w v (p, x, g, k) = (f p, x, hears_map name (is_open name w) n p w x g, each_map links p m x v k)

  pub admits_map : (listens : Bool) (n m : N) (w v : World L) (door door' : Admitting L)
      → Admits goes talk t listens (moment n w door) (moment m v door') → Admits goes' talk t listens (moment (f n) w door) (moment (f m) v door')
  admits_map false n m w v door door' (is, same, stays) = (ap f is, same, stays)
  admits_map true n m w v door door' (waits, inl (is, same, none)) = (waits, inl (ap f is, same, none))
  admits_map true n m w v door door' (waits, inr (l, one, g)) = (waits, inr (l, one, gives_map Arrived n m (record w { arrived = Some l }) v g))

  pub starts_map : (start : Option ℕ) (n m : N) (w v : World L) → Starts goes talk t start n w m v → Starts goes' talk t start (f n) w (f m) v
  starts_map None n m w v g = gives_map Start n m w v g
  starts_map (Some start) n m w v (is, same) = (ap f is, same)

  pub turn_map : (start : Option ℕ) (script rest : List Due) (listens : Bool) (n m : N) (w v : World L) (door door' : Admitting L)
      → Turn goes talk t start script rest listens (moment n w door) (moment m v door') → Turn goes' talk t start script rest listens (moment (f n) w door) (moment (f m) v door')
  turn_map start script rest listens n m w v door door' r = record {
    news = r.news;
    lines = r.lines;
    world_begun = r.world_begun;
    world_started = r.world_started;
    world_ticked = r.world_ticked;
    world_told = r.world_told;
    world_given = r.world_given;
    world_heard = r.world_heard;
    node_started = f r.node_started;
    node_ticked = f r.node_ticked;
    node_told = f r.node_told;
    node_given = f r.node_given;
    node_heard = f r.node_heard;
    begins = r.begins;
    starts = starts_map start n r.node_started r.world_begun r.world_started r.starts;
    ticks = gives_map Tick r.node_started r.node_ticked r.world_started r.world_ticked r.ticks;
    told = news_map r.news r.node_ticked r.node_told r.world_ticked r.world_told r.told;
    parts = r.parts;
    due = r.due;
    next = r.next;
    given = lines_map r.lines r.node_told r.node_given r.world_told r.world_given r.given;
    heard = each_map names r.node_given r.node_heard r.world_given r.world_heard r.heard;
    admits = admits_map listens r.node_heard m r.world_heard v door door' r.admits;
  }

module _ {N P L : Type 0} (goes : N → ℕ → NodeEvent → List Action → N → Type 0) (goes' : P → ℕ → NodeEvent → List Action → P → Type 0) (f : N → P)
    (step : Maps goes goes' f) (talk : L → Option (List Said)) (listens : Bool) where
  pub turns_map : (times : List ℕ) (start : Option ℕ) (script : List Due) (n m : N) (w v : World L) (door door' : Admitting L)
      → Turns goes talk listens times start script (moment n w door) (moment m v door') → Turns goes' talk listens times start script (moment (f n) w door) (moment (f m) v door')
  turns_map [] start script n m w v door door' (is, same, stays) = (ap f is, same, stays)
  turns_map (now ∷ times) start script n m w v door door' (rest, p, x, mid, going, r, k) = (
    rest,
    f p,
    x,
    mid,
    going,
    turn_map goes goes' f step talk now start script rest listens n p w x door mid r,
    turns_map times (Some (unwrap_or start now)) rest p m x v mid door' k,
  )

  pub run_map : (end : RunEnd) (turns : ℕ) (script : List Due) (n m : N) (c c' : Dialling L) (b b' : Option (List ℕ)) (l l' : Admitting L) (o o' : Option (List ℕ))
      → Run goes talk listens end turns script (run_moment n c b l o) (run_moment m c' b' l' o') → Run goes' talk listens end turns script (run_moment (f n) c b l o) (run_moment (f m) c' b' l' o')
  run_map end turns script n m c c' b b' l l' o o' r = record {
    times = r.times;
    first = r.first;
    last = r.last;
    empty = r.empty;
    went = turns_map r.times None script n m r.first r.last l l' r.went;
    dials = r.dials;
    holds = r.holds;
    readings = r.readings;
    rise = r.rise;
    ends = r.ends;
  }
