-- A run of one core that a fault stopped is one of another, where each step of the one is a step of the other.
-- It serves bsc_application, bsc_node_command and bsc_node_links.
use Rattle.std.proofs.Common.{ℕ, Bool, true, false, inl, inr, List, [], ◌∷◌, Option, Some, None, unwrap_or}
use Rattle.bsc_edge.specs.declared.said.Said.{Said}
use Rattle.bsc_node.specs.declared.link_name.LinkName.{LinkName}
use Rattle.bsc_node.specs.declared.node_event.NodeEvent.{NodeEvent}
use Rattle.bsc_node.specs.declared.node_event.NodeEvent.TheVariants.{Start, Arrived, Tick}
use Rattle.bsc_node.specs.declared.action.Action.{Action}
use Rattle.bsc_node_run.specs.declared.due.Due.{Due}
use Rattle.bsc_node_run.specs.declared.news.News.{News}
use Rattle.bsc_node_run.specs.Stopping.{AdmitStops, EachStop, GiveStops, HearStops, LinesStop, NewsStop, StartStops, StopsAt, TurnStops}
use Rattle.bsc_node_run.specs.Stopping.{RunFails, StopsFromLines, StopsFromLinks, StopsFromNews, StopsFromTick, TurnsStop}
use Rattle.bsc_node_run.specs.Turning.{event_of, names, passed_by}
use Rattle.bsc_node_run.specs.Worlds.{Admitting, Dialling, World, is_open}
use Rattle.bsc_node_run.specs.Moments.{in_hands, moment, outside, run_moment}
use Rattle.bsc_node_laws.proofs.Mapping.{Maps, each_map, gives_map, hears_map, lines_map, news_map, starts_map, turn_map}

module _ {N P L : Type 0} (goes : N → ℕ → NodeEvent → List Action → N → Type 0) (goes' : P → ℕ → NodeEvent → List Action → P → Type 0) (f : N → P)
    (step : Maps goes goes' f) (talk : L → Option (List Said)) (t : ℕ) where
  at_map : (e : NodeEvent) (n : N) (w v : World L) → StopsAt goes talk t e n w v → StopsAt goes' talk t e (f n) w v
  at_map e n w v (inl same) = inl same
  at_map e n w v (inr (actions, p, g, b)) = inr (actions, f p, step n p t e actions g, b)

  give_map : (e : NodeEvent) (n : N) (w v : World L) → GiveStops goes talk t e n w v → GiveStops goes' talk t e (f n) w v
  give_map e n w v (inl s) = inl (at_map e n w v s)
  give_map e n w v (inr (actions, p, x, word, g, c, drawn, brings, s)) =
      inr (actions, f p, x, word, step n p t e actions g, c, drawn, brings, at_map word p x v s)

  news_stop : (news : List News) (n : N) (w v : World L) → NewsStop goes talk t news n w v → NewsStop goes' talk t news (f n) w v
  news_stop [] n w v s = absurd s
  news_stop (one ∷ more) n w v (rest, is, inl s) = (rest, is, inl (give_map (event_of one) n (record w { due = rest }) v s))
  news_stop (one ∷ more) n w v (rest, is, inr (p, x, g, k)) =
      (rest, is, inr (f p, x, gives_map goes goes' f step talk t (event_of one) n p (record w { due = rest }) x g, news_stop more p x v k))

  lines_stop : (lines : List Due) (n : N) (w v : World L) → LinesStop goes talk t lines n w v → LinesStop goes' talk t lines (f n) w v
  lines_stop [] n w v s = absurd s
  lines_stop (d ∷ lines) n w v (inl s) = inl (give_map d.event n w v s)
  lines_stop (d ∷ lines) n w v (inr (p, x, g, k)) = inr (f p, x, gives_map goes goes' f step talk t d.event n p w x g, lines_stop lines p x v k)

  hear_stops : (name : LinkName) (n : N) (w v : World L) → HearStops goes talk t name n w v → HearStops goes' talk t name (f n) w v
  hear_stops name n w v (up, inl quiet) = (up, inl quiet)
  hear_stops name n w v (up, inr (e, x, r, s)) = (up, inr (e, x, r, give_map e n x v s))

  each_stop : (links : List LinkName) (n : N) (w v : World L) → EachStop goes talk t links n w v → EachStop goes' talk t links (f n) w v
  each_stop [] n w v s = absurd s
  each_stop (name ∷ links) n w v (inl s) = inl (hear_stops name n w v s)
  each_stop (name ∷ links) n w v (inr (p, x, g, k)) = inr (f p, x, hears_map goes goes' f step talk t name (is_open name w) n p w x g, each_stop links p x v k)

  admit_stops : (listens : Bool) (n : N) (w v : World L) (door door' : Admitting L) → AdmitStops goes talk t listens (moment n w door) (in_hands v door')
      → AdmitStops goes' talk t listens (moment (f n) w door) (in_hands v door')
  admit_stops false n w v door door' s = absurd s
  admit_stops true n w v door door' (waits, inl k) = (waits, inl k)
  admit_stops true n w v door door' (waits, inr (l, one, s)) = (waits, inr (l, one, give_map Arrived n (record w { arrived = Some l }) v s))

  start_stops : (start : Option ℕ) (n : N) (w v : World L) → StartStops goes talk t start n w v → StartStops goes' talk t start (f n) w v
  start_stops None n w v s = give_map Start n w v s
  start_stops (Some start) n w v s = absurd s

  from_links : (listens : Bool) (n : N) (w v : World L) (door door' : Admitting L)
      → StopsFromLinks goes talk t listens (moment n w door) (in_hands v door') → StopsFromLinks goes' talk t listens (moment (f n) w door) (in_hands v door')
  from_links listens n w v door door' (inl (s, stays)) = inl (each_stop names n w v s, stays)
  from_links listens n w v door door' (inr (p, x, g, k)) = inr (f p, x, each_map goes goes' f step talk t names n p w x g, admit_stops listens p x v door door' k)

  from_lines : (passed : ℕ) (script : List Due) (listens : Bool) (n : N) (w v : World L) (door door' : Admitting L)
      → StopsFromLines goes talk t passed script listens (moment n w door) (in_hands v door') → StopsFromLines goes' talk t passed script listens (moment (f n) w door) (in_hands v door')
  from_lines passed script listens n w v door door' (lines, rest, parts, due, inl (s, stays)) = (lines, rest, parts, due, inl (lines_stop lines n w v s, stays))
  from_lines passed script listens n w v door door' (lines, rest, parts, due, inr (p, x, next, g, k)) =
      (lines, rest, parts, due, inr (f p, x, next, lines_map goes goes' f step talk t lines n p w x g, from_links listens p x v door door' k))

  from_news : (passed : ℕ) (script : List Due) (listens : Bool) (n : N) (w v : World L) (door door' : Admitting L)
      → StopsFromNews goes talk t passed script listens (moment n w door) (in_hands v door') → StopsFromNews goes' talk t passed script listens (moment (f n) w door) (in_hands v door')
  from_news passed script listens n w v door door' (news, inl (s, stays)) = (news, inl (news_stop news n w v s, stays))
  from_news passed script listens n w v door door' (news, inr (p, x, g, k)) =
      (news, inr (f p, x, news_map goes goes' f step talk t news n p w x g, from_lines passed script listens p x v door door' k))

  from_tick : (passed : ℕ) (script : List Due) (listens : Bool) (n : N) (w v : World L) (door door' : Admitting L)
      → StopsFromTick goes talk t passed script listens (moment n w door) (in_hands v door') → StopsFromTick goes' talk t passed script listens (moment (f n) w door) (in_hands v door')
  from_tick passed script listens n w v door door' (inl (s, stays)) = inl (give_map Tick n w v s, stays)
  from_tick passed script listens n w v door door' (inr (p, x, g, k)) =
      inr (f p, x, gives_map goes goes' f step talk t Tick n p w x g, from_news passed script listens p x v door door' k)

  pub turn_stops : (start : Option ℕ) (script : List Due) (listens : Bool) (n : N) (w v : World L) (door door' : Admitting L)
      → TurnStops goes talk t start script listens (moment n w door) (in_hands v door') → TurnStops goes' talk t start script listens (moment (f n) w door) (in_hands v door')
  turn_stops start script listens n w v door door' (o, begins, inl (s, stays)) = (o, begins, inl (start_stops start n o v s, stays))
  turn_stops start script listens n w v door door' (o, begins, inr (p, x, g, k)) =
      (o, begins, inr (f p, x, starts_map goes goes' f step talk t start n p o x g, from_tick (passed_by start t) script listens p x v door door' k))

module _ {N P L : Type 0} (goes : N → ℕ → NodeEvent → List Action → N → Type 0) (goes' : P → ℕ → NodeEvent → List Action → P → Type 0) (f : N → P)
    (step : Maps goes goes' f) (talk : L → Option (List Said)) (listens : Bool) where
  turns_stop : (times : List ℕ) (start : Option ℕ) (script : List Due) (n : N) (w v : World L) (door door' : Admitting L)
      → TurnsStop goes talk listens times start script (moment n w door) (in_hands v door') → TurnsStop goes' talk listens times start script (moment (f n) w door) (in_hands v door')
  turns_stop [] start script n w v door door' s = absurd s
  turns_stop (now ∷ times) start script n w v door door' (going, inl (over, s)) = (going, inl (over, turn_stops goes goes' f step talk now start script listens n w v door door' s))
  turns_stop (now ∷ times) start script n w v door door' (going, inr (rest, p, x, mid, r, k)) =
      (going, inr (rest, f p, x, mid, turn_map goes goes' f step talk now start script rest listens n p w x door mid r, turns_stop times (Some (unwrap_or start now)) rest p x v mid door' k))

  pub fails_map : (turns : ℕ) (script : List Due) (n : N) (c c' : Dialling L) (b b' : Option (List ℕ)) (l l' : Admitting L) (o o' : Option (List ℕ))
      → RunFails goes talk listens turns script (run_moment n c b l o) (outside c' b' l' o') → RunFails goes' talk listens turns script (run_moment (f n) c b l o) (outside c' b' l' o')
  fails_map turns script n c c' b b' l l' o o' (inl k) = inl k
  fails_map turns script n c c' b b' l l' o o' (inr r) = inr (
      record {
        times = r.times;
        first = r.first;
        last = r.last;
        empty = r.empty;
        went = turns_stop r.times None script n r.first r.last l l' r.went;
        dials = r.dials;
        holds = r.holds;
        readings = r.readings;
        rise = r.rise;
        within = r.within;
      }
      )
