-- The events that came in a run: each might come, and each Send is that of a line of the script.
-- It serves the clauses of `stopped_runs_have_logs` and `stopped_scripts_have_logs`.
use Rattle.std.proofs.Common.{◌≡◌, inl, inr, ℕ, Bool, true, false, List, [], ◌∷◌, ◌++◌, fold, Option, Some, None, Result, Ok, Err, refl, ap, sym, subst, ◌∙◌}
use Rattle.std.specs.Prelude.{IsTrue}
use Rattle.std.specs.List.{Contains}
use Rattle.std.proofs.lemmas.List.Elements.{Contains-append_left, Contains-append_right}
use Rattle.std.proofs.lemmas.List.Sums.{fold-append}
use Rattle.bsc_edge.specs.declared.fault.LinkFault.{LinkFault}
use Rattle.bsc_edge.specs.declared.fault.LinkFault.TheVariants.{Failed, NoMemory}
use Rattle.bsc_edge.specs.declared.incoming.Incoming.{Incoming}
use Rattle.bsc_edge.specs.declared.incoming.Incoming.TheVariants.{Message, Text, Quiet, Closed}
use Rattle.bsc_edge.specs.declared.said.Said.{Said}
use Rattle.bsc_node.specs.declared.link_name.LinkName.{LinkName}
use Rattle.bsc_node.specs.declared.node_event.NodeEvent.{NodeEvent}
use Rattle.bsc_node.specs.declared.node_event.NodeEvent.TheVariants.{Start, Arrived, Came, CameText, Lost, Tick, Send}
use Rattle.bsc_node.specs.declared.timed_event.TimedEvent.{TimedEvent}
use Rattle.bsc_node.specs.declared.action.Action.{Action}
use Rattle.bsc_node.specs.Conditions.{brings_word, may_come}
use Rattle.bsc_node.specs.Logs.{Made, Log}
use Rattle.bsc_node.specs.Node.{goes_on}
use Rattle.bsc_node_run.specs.declared.due.Due.{Due}
use Rattle.bsc_node_run.specs.declared.news.Change.{Change}
use Rattle.bsc_node_run.specs.declared.news.Change.TheVariants.{Opened as DidOpen, DialFailed as DidntOpen, Lost as WasLost}
use Rattle.bsc_node_run.specs.declared.news.News.{News}
use Rattle.bsc_node_run.specs.Moments.{moment}
use Rattle.bsc_node_run.specs.Turning.{Admits, Gives, GivesIn, GivesLines, GivesNews, GivesWord, HearsEach, HearsIf, HearsOf, Starts, Turn, draws, event_of, names}
use Rattle.bsc_node_run.specs.Worlds.{Admitting, World, ends, is_open, with_link}
use Rattle.bsc_node_laws.specs.Courses.{GoesAsDefined}
use Rattle.bsc_node_laws.proofs.Turning.{contains_first}
use Rattle.bsc_node_links.specs.Stopped.{IsOfScript, MightCome}

-- ---- events that might come

-- the log after some events
abbrev pub after_all : Made → Log → List TimedEvent → Log
after_all a M events = fold (λ (L : Log) (e : TimedEvent). L ++ goes_on a e L) M events

might-append : (a : Made) (script : List Due) (M : Log) (xs ys : List TimedEvent) → MightCome a script M xs → MightCome a script (after_all a M xs) ys → MightCome a script M (xs ++ ys)
might-append a script M [] ys h g = g
might-append a script M (e ∷ xs) ys h g = (h.0, h.1, might-append a script (M ++ goes_on a e M) xs ys h.2 g)

-- from one log to another such events came
pub record Went (a : Made) (script : List Due) (M N : Log) : Type 0 where
  pub events : List TimedEvent
  pub is : N ≡ after_all a M events
  pub might : MightCome a script M events

pub went-none : (a : Made) (script : List Due) (M N : Log) → N ≡ M → Went a script M N
went-none a script M N e = record { events = []; is = e; might = tt }

pub went-one : (a : Made) (script : List Due) (M : Log) (e : TimedEvent) → IsTrue (may_come M e) → IsOfScript script e.event → Went a script M (M ++ goes_on a e M)
went-one a script M e may meant = record { events = e ∷ []; is = refl; might = (may, meant, tt) }

pub went-then : (a : Made) (script : List Due) (M P N : Log) → Went a script M P → Went a script P N → Went a script M N
went-then a script M P N f g = record {
  events = f.events ++ g.events;
  is = g.is ∙ ap (λ (L : Log). after_all a L g.events) f.is ∙ sym (fold-append (λ (L : Log) (e : TimedEvent). L ++ goes_on a e L) M f.events g.events);
  might = might-append a script M f.events g.events f.might (subst (λ (L : Log). MightCome a script L g.events) f.is g.might);
}

-- ---- what is no Send, or of the script

pub word_of : (script : List Due) (e : NodeEvent) → IsTrue (brings_word e) → IsOfScript script e
word_of script (Send dest npdu) h = cc
word_of script e h = tt

pub news_of : (script : List Due) (name : LinkName) (change : Change) → IsOfScript script (event_of (record { link = name; change = change }))
news_of script name DidOpen = tt
news_of script name DidntOpen = tt
news_of script name WasLost = tt

pub line_of : (script : List Due) (d : Due) → Contains script d → IsOfScript script d.event
line_of script d c = by d.event refl
  where
    by : (e : NodeEvent) → d.event ≡ e → IsOfScript script e
    by (Send dest npdu) is = (d, c, is)
    by e is = tt

-- some lines stand in a script
abbrev pub AreIn : List Due → List Due → Type 0
AreIn script lines = (d : Due) → Contains lines d → Contains script d

pub in-all : (script : List Due) → AreIn script script
in-all script d c = c

pub in-first : (script : List Due) (d : Due) (lines : List Due) → AreIn script (d ∷ lines) → Contains script d
in-first script d lines within = within d (contains_first d lines)

pub in-later : (script : List Due) (d : Due) (lines : List Due) → AreIn script (d ∷ lines) → AreIn script lines
in-later script d lines within e c = within e (Contains-append_right (d ∷ []) lines e c)

pub in-left : (script whole lines rest : List Due) → whole ≡ lines ++ rest → AreIn script whole → AreIn script lines
in-left script whole lines rest parts within d c = within d (subst (λ (all : List Due). Contains all d) (sym parts) (Contains-append_left lines rest d c))

pub in-right : (script whole lines rest : List Due) → whole ≡ lines ++ rest → AreIn script whole → AreIn script rest
in-right script whole lines rest parts within d c = within d (subst (λ (all : List Due). Contains all d) (sym parts) (Contains-append_right lines rest d c))

-- ---- a turn

module _ {L : Type 0} (a : Made) (talk : L → Option (List Said)) (script : List Due) (now : ℕ) where
  pub goes : (e : NodeEvent) (actions : List Action) (M N : Log) → IsOfScript script e → GoesAsDefined a M now e actions N → Went a script M N
  goes e actions M N meant (may, are, on) = record { events = record { now = now; event = e } ∷ []; is = on; might = (may, meant, tt) }

  answers : (drawn : Bool) (M : Log) (w : World L) (N : Log) (v : World L) → GivesWord (GoesAsDefined a) talk now drawn M w N v → Went a script M N
  answers false M w N v (e, s) = went-none a script M N e
  answers true M w N v (word, actions, brings, g, c) = goes word actions M N (word_of script word brings) g

  pub gives : (e : NodeEvent) (M : Log) (w : World L) (N : Log) (v : World L) → IsOfScript script e → Gives (GoesAsDefined a) talk now e M w N v → Went a script M N
  gives e M w N v meant (actions, P, x, g, c, answer) = went-then a script M P N (goes e actions M P meant g) (answers (draws actions) P x N v answer)

  pub news_go : (news : List News) (M : Log) (w : World L) (N : Log) (v : World L) → GivesNews (GoesAsDefined a) talk now news M w N v → Went a script M N
  news_go [] M w N v (none, e, s) = went-none a script M N e
  news_go (n ∷ news) M w N v (rest, P, x, is, g, later) =
      went-then a script M P N (gives (event_of n) M (record w { due = rest }) P x (news_of script n.link n.change) g) (news_go news P x N v later)

  pub lines_go : (lines : List Due) → AreIn script lines → (M : Log) (w : World L) (N : Log) (v : World L) → GivesLines (GoesAsDefined a) talk now lines M w N v → Went a script M N
  lines_go [] within M w N v (e, s) = went-none a script M N e
  lines_go (d ∷ lines) within M w N v (P, x, g, later) =
      went-then a script M P N (gives d.event M w P x (line_of script d (in-first script d lines within)) g) (lines_go lines (in-later script d lines within) P x N v later)

  gives_in : (e : NodeEvent) (M : Log) (w : World L) (N : Log) (v : World L) → IsOfScript script e → GivesIn (GoesAsDefined a) talk now e M w N v → Went a script M N
  gives_in e M w N v meant (x, s, g) = gives e M x N v meant g

  heard_of : (name : LinkName) (l : L) (given : Result Incoming LinkFault) (M : Log) (w : World L) (N : Log) (v : World L) → HearsOf (GoesAsDefined a) talk now name l given M w N v → Went a script M N
  heard_of name l (Ok (Message o)) M w N v g = gives_in (Came name o) M (with_link name (Some l) w) N v tt g
  heard_of name l (Ok Text) M w N v g = gives_in (CameText name) M (with_link name (Some l) w) N v tt g
  heard_of name l (Ok Quiet) M w N v (e, s) = went-none a script M N e
  heard_of name l (Ok Closed) M w N v g = gives_in (Lost name) M (ends name l w) N v tt g
  heard_of name l (Err Failed) M w N v g = gives_in (Lost name) M (ends name l w) N v tt g
  heard_of name l (Err NoMemory) M w N v g = absurd g

  pub hears_if : (name : LinkName) (opened : Bool) (M : Log) (w : World L) (N : Log) (v : World L) → HearsIf (GoesAsDefined a) talk now name opened M w N v → Went a script M N
  hears_if name false M w N v (e, s) = went-none a script M N e
  hears_if name true M w N v (k, l, given, is, grows, h) = heard_of name l given M w N v h

  pub hears_each : (all : List LinkName) (M : Log) (w : World L) (N : Log) (v : World L) → HearsEach (GoesAsDefined a) talk now all M w N v → Went a script M N
  hears_each [] M w N v (e, s) = went-none a script M N e
  hears_each (name ∷ all) M w N v (P, x, h, later) = went-then a script M P N (hears_if name (is_open name w) M w P x h) (hears_each all P x N v later)

  admits : (listens : Bool) (M : Log) (w : World L) (door : Admitting L) (N : Log) (v : World L) (door' : Admitting L)
      → Admits (GoesAsDefined a) talk now listens (moment M w door) (moment N v door') → Went a script M N
  admits false M w door N v door' (e, s, same) = went-none a script M N e
  admits true M w door N v door' (waits, inl (e, s, none)) = went-none a script M N e
  admits true M w door N v door' (waits, inr (l, leaves, g)) = gives Arrived M (record w { arrived = Some l }) N v tt g

  pub starts : (start : Option ℕ) (M : Log) (w : World L) (N : Log) (v : World L) → Starts (GoesAsDefined a) talk now start M w N v → Went a script M N
  starts None M w N v g = gives Start M w N v tt g
  starts (Some start) M w N v (e, s) = went-none a script M N e

  pub turn : (start : Option ℕ) (whole rest : List Due) → AreIn script whole → (listens : Bool) (M : Log) (w : World L) (door : Admitting L) (N : Log) (v : World L) (door' : Admitting L)
      → Turn (GoesAsDefined a) talk now start whole rest listens (moment M w door) (moment N v door') → Went a script M N
  turn start whole rest within listens M w door N v door' t =
      went-then a script M t.node_started N (starts start M t.world_begun t.node_started t.world_started t.starts)
      (went-then a script t.node_started t.node_ticked N (gives Tick t.node_started t.world_started t.node_ticked t.world_ticked tt t.ticks)
      (went-then a script t.node_ticked t.node_told N (news_go t.news t.node_ticked t.world_ticked t.node_told t.world_told t.told)
      (went-then a script t.node_told t.node_given N (lines_go t.lines (in-left script whole t.lines rest t.parts within) t.node_told t.world_told t.node_given t.world_given t.given)
      (went-then a script t.node_given t.node_heard N (hears_each names t.node_given t.world_given t.node_heard t.world_heard t.heard)
      (admits listens t.node_heard t.world_heard door N v door' t.admits)))))
