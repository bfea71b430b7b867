-- What is sent in a run goes to addresses of six octets, where its script says so.
-- It serves the clauses of `runs_are_of_nodes` and `stopped_runs_are_of_nodes`.
use Rattle.std.proofs.Common.{◌≡◌, inl, inr, ℕ, zero, suc, arith, Bool, true, false, List, [], ◌∷◌, ◌++◌, Option, Some, None, Result, Ok, Err, refl, ap, sym, subst, ◌∙◌}
use Rattle.std.specs.Prelude.{IsTrue, unwrap_or, ⊤}
use Rattle.std.specs.List.{Contains}
use Rattle.bsc_edge.specs.declared.fault.LinkFault.{LinkFault}
use Rattle.bsc_edge.specs.declared.fault.LinkFault.TheVariants.{Failed, NoMemory}
use Rattle.bsc_edge.specs.declared.incoming.Incoming.{Incoming}
use Rattle.bsc_edge.specs.declared.incoming.Incoming.TheVariants.{Message, Text, Quiet, Closed}
use Rattle.bsc_edge.specs.declared.said.Said.{Said}
use Rattle.bsc_node.specs.declared.link_name.LinkName.{LinkName}
use Rattle.bsc_node.specs.declared.node_event.NodeEvent.{NodeEvent}
use Rattle.bsc_node.specs.declared.node_event.NodeEvent.TheVariants.{Start, Arrived, Came, CameText, Lost, Tick, Send}
use Rattle.bsc_node.specs.declared.timed_event.TimedEvent.{TimedEvent}
use Rattle.bsc_node.specs.declared.action.Action.{Action}
use Rattle.bsc_node.specs.Conditions.{brings_word, may_come}
use Rattle.bsc_node.specs.Logs.{Made, Log}
use Rattle.bsc_node_run.specs.declared.due.Due.{Due}
use Rattle.bsc_node_run.specs.declared.news.Change.{Change}
use Rattle.bsc_node_run.specs.declared.news.Change.TheVariants.{Opened as DidOpen, DialFailed as DidntOpen, Lost as WasLost}
use Rattle.bsc_node_run.specs.declared.news.News.{News}
use Rattle.bsc_node_run.specs.Moments.{moment}
use Rattle.bsc_node_run.specs.Running.{Turns}
use Rattle.bsc_node_run.specs.Turning.{Admits, Gives, GivesIn, GivesLines, GivesNews, GivesWord, HearsEach, HearsIf, HearsOf, Starts, Turn, draws, event_of, names}
use Rattle.bsc_node_run.specs.Worlds.{Admitting, World, ends, is_open, with_link}
use Rattle.bsc_node_laws.specs.Courses.{GoesAsDefined}
use Rattle.bsc_node.specs.Laws.{with_event}
use Rattle.bsc_node.specs.Logs.{Line, came}
use Rattle.bsc_node.specs.Events.{follows}
use Rattle.bsc_node.specs.Node.{goes_on}
use Rattle.bsc_node.proofs.Following.{goes_on-is}
use Rattle.bsc_node_links.specs.Stopped.{IsOfScript, MightCome}
use Rattle.bsc_network_of_runs.specs.Nodes.{CameAt, IsWhole}
use Rattle.bsc_network_of_runs.proofs.Hearing.{from_event}
use Rattle.bsc_network_of_runs.proofs.Reached.{no_event}
use Rattle.bsc_network_of_runs.proofs.Running.{after_all}

-- ---- a whole log

abbrev IsWholeLine : Line → Type 0
IsWholeLine (came e) = IsWhole e.event
IsWholeLine m = ⊤

-- What each event in it sends goes to an address of six octets.
abbrev pub EachWhole : Log → Type 0
EachWhole [] = ⊤
EachWhole (m ∷ lines) = IsWholeLine m × EachWhole lines

whole_append : (xs ys : Log) → EachWhole xs → EachWhole ys → EachWhole (xs ++ ys)
whole_append [] ys f g = g
whole_append (m ∷ xs) ys f g = (f.0, whole_append xs ys f.1 g)

-- lines that are no event
whole_none : (lines : List Line) → ((b rest : List Line) (x : TimedEvent) → lines ≡ b ++ came x ∷ rest → ⊥) → EachWhole lines
whole_none [] h = tt
whole_none (came e ∷ lines) h = absurd (h [] lines e refl)
whole_none (m ∷ lines) h = (tt, whole_none lines (λ b rest x is. h (m ∷ b) rest x (ap (λ (l : List Line). m ∷ l) is)))

pub whole_at : (before rest : Log) (e : TimedEvent) → EachWhole (before ++ came e ∷ rest) → IsWhole e.event
whole_at [] rest e h = h.0
whole_at (m ∷ before) rest e h = whole_at before rest e h.1

pub whole_event : (a : Made) (M : Log) → EachWhole M → (place : ℕ) (e : TimedEvent) → CameAt a M place e → IsWhole e.event
whole_event a M h place e c = whole_at c.before (follows a e.event (with_event c.before e) ++ c.later) e (subst EachWhole (from_event a M place e c) h)

-- From a whole log to one.
abbrev Wholly : Log → Log → Type 0
Wholly M N = EachWhole M → EachWhole N

wholly-none : (M N : Log) → N ≡ M → Wholly M N
wholly-none M N e h = subst EachWhole (sym e) h

wholly-then : (M P N : Log) → Wholly M P → Wholly P N → Wholly M N
wholly-then M P N f g h = g (f h)

-- all but what is sent
word_whole : (e : NodeEvent) → IsTrue (brings_word e) → IsWhole e
word_whole (Send dest npdu) h = cc
word_whole e h = tt

news_whole : (name : LinkName) (change : Change) → IsWhole (event_of (record { link = name; change = change }))
news_whole name DidOpen = tt
news_whole name DidntOpen = tt
news_whole name WasLost = tt

-- What each line of a script sends goes to an address of six octets.
abbrev pub AreWhole : List Due → Type 0
AreWhole [] = ⊤
AreWhole (d ∷ lines) = IsWhole d.event × AreWhole lines

whole_left : (xs ys : List Due) → AreWhole (xs ++ ys) → AreWhole xs
whole_left [] ys h = tt
whole_left (d ∷ xs) ys h = (h.0, whole_left xs ys h.1)

whole_right : (xs ys : List Due) → AreWhole (xs ++ ys) → AreWhole ys
whole_right [] ys h = h
whole_right (d ∷ xs) ys h = whole_right xs ys h.1

-- ---- events that might come

each_whole : (lines : List Due) (d : Due) → AreWhole lines → Contains lines d → IsWhole d.event
each_whole [] d h (k, below, is) = absurd (omega (arith, below))
each_whole (x ∷ lines) d h (zero, below, is) = subst (λ (y : Due). IsWhole y.event) is h.0
each_whole (x ∷ lines) d h (suc k, below, is) = each_whole lines d h.1 (k, omega (arith, below), is)

script_whole : (script : List Due) (e : NodeEvent) → AreWhole script → IsOfScript script e → IsWhole e
script_whole script (Send dest npdu) whole (line, c, is) = subst IsWhole is (each_whole script line whole c)
script_whole script e whole h = tt

one_whole : (a : Made) (M : Log) (e : TimedEvent) → IsTrue (may_come M e) → IsWhole e.event → Wholly M (M ++ goes_on a e M)
one_whole a M e may whole h =
    subst EachWhole (sym (ap (λ (l : List Line). M ++ l) (goes_on-is a M e)))
    (whole_append M (came e ∷ follows a e.event (with_event M e)) h (whole, whole_none (follows a e.event (with_event M e)) (λ b rest y is. no_event a M e may b rest y is)))

pub whole_all : (a : Made) (script : List Due) → AreWhole script → (M : Log) (events : List TimedEvent) → MightCome a script M events → EachWhole M → EachWhole (after_all a M events)
whole_all a script whole M [] h each = each
whole_all a script whole M (e ∷ events) h each =
    whole_all a script whole (M ++ goes_on a e M) events h.2 (one_whole a M e h.0 (script_whole script e.event whole h.1) each)

-- ---- a turn

module _ {L : Type 0} (a : Made) (talk : L → Option (List Said)) (now : ℕ) where
  goes : (e : NodeEvent) (actions : List Action) (M N : Log) → IsWhole e → GoesAsDefined a M now e actions N → Wholly M N
  goes e actions M N whole (may, are, on) h =
      let x : TimedEvent = record { now = now; event = e } in
      subst EachWhole (sym (on ∙ ap (λ (l : List Line). M ++ l) (goes_on-is a M x)))
      (whole_append M (came x ∷ follows a e (with_event M x)) h (whole, whole_none (follows a e (with_event M x)) (λ b rest y is. no_event a M x may b rest y is)))

  answers : (drawn : Bool) (M : Log) (w : World L) (N : Log) (v : World L) → GivesWord (GoesAsDefined a) talk now drawn M w N v → Wholly M N
  answers false M w N v (e, s) = wholly-none M N e
  answers true M w N v (word, actions, brings, g, c) = goes word actions M N (word_whole word brings) g

  gives : (e : NodeEvent) (M : Log) (w : World L) (N : Log) (v : World L) → IsWhole e → Gives (GoesAsDefined a) talk now e M w N v → Wholly M N
  gives e M w N v whole (actions, P, x, g, c, answer) = wholly-then M P N (goes e actions M P whole g) (answers (draws actions) P x N v answer)

  news_go : (news : List News) (M : Log) (w : World L) (N : Log) (v : World L) → GivesNews (GoesAsDefined a) talk now news M w N v → Wholly M N
  news_go [] M w N v (none, e, s) = wholly-none M N e
  news_go (n ∷ news) M w N v (rest, P, x, is, g, later) = wholly-then M P N (gives (event_of n) M (record w { due = rest }) P x (news_whole n.link n.change) g) (news_go news P x N v later)

  lines_go : (lines : List Due) → AreWhole lines → (M : Log) (w : World L) (N : Log) (v : World L) → GivesLines (GoesAsDefined a) talk now lines M w N v → Wholly M N
  lines_go [] whole M w N v (e, s) = wholly-none M N e
  lines_go (d ∷ lines) whole M w N v (P, x, g, later) = wholly-then M P N (gives d.event M w P x whole.0 g) (lines_go lines whole.1 P x N v later)

  gives_in : (e : NodeEvent) (M : Log) (w : World L) (N : Log) (v : World L) → IsWhole e → GivesIn (GoesAsDefined a) talk now e M w N v → Wholly M N
  gives_in e M w N v whole (x, s, g) = gives e M x N v whole g

  heard_of : (name : LinkName) (l : L) (given : Result Incoming LinkFault) (M : Log) (w : World L) (N : Log) (v : World L) → HearsOf (GoesAsDefined a) talk now name l given M w N v → Wholly M N
  heard_of name l (Ok (Message o)) M w N v g = gives_in (Came name o) M (with_link name (Some l) w) N v tt g
  heard_of name l (Ok Text) M w N v g = gives_in (CameText name) M (with_link name (Some l) w) N v tt g
  heard_of name l (Ok Quiet) M w N v (e, s) = wholly-none M N e
  heard_of name l (Ok Closed) M w N v g = gives_in (Lost name) M (ends name l w) N v tt g
  heard_of name l (Err Failed) M w N v g = gives_in (Lost name) M (ends name l w) N v tt g
  heard_of name l (Err NoMemory) M w N v g = absurd g

  hears_if : (name : LinkName) (opened : Bool) (M : Log) (w : World L) (N : Log) (v : World L) → HearsIf (GoesAsDefined a) talk now name opened M w N v → Wholly M N
  hears_if name false M w N v (e, s) = wholly-none M N e
  hears_if name true M w N v (k, l, given, is, grows, h) = heard_of name l given M w N v h

  hears_each : (all : List LinkName) (M : Log) (w : World L) (N : Log) (v : World L) → HearsEach (GoesAsDefined a) talk now all M w N v → Wholly M N
  hears_each [] M w N v (e, s) = wholly-none M N e
  hears_each (name ∷ all) M w N v (P, x, h, later) = wholly-then M P N (hears_if name (is_open name w) M w P x h) (hears_each all P x N v later)

  admits : (listens : Bool) (M : Log) (w : World L) (door : Admitting L) (N : Log) (v : World L) (door' : Admitting L)
      → Admits (GoesAsDefined a) talk now listens (moment M w door) (moment N v door') → Wholly M N
  admits false M w door N v door' (e, s, same) = wholly-none M N e
  admits true M w door N v door' (waits, inl (e, s, none)) = wholly-none M N e
  admits true M w door N v door' (waits, inr (l, leaves, g)) = gives Arrived M (record w { arrived = Some l }) N v tt g

  starts : (start : Option ℕ) (M : Log) (w : World L) (N : Log) (v : World L) → Starts (GoesAsDefined a) talk now start M w N v → Wholly M N
  starts None M w N v g = gives Start M w N v tt g
  starts (Some start) M w N v (e, s) = wholly-none M N e

  turn : (start : Option ℕ) (script rest : List Due) → AreWhole script → (listens : Bool) (M : Log) (w : World L) (door : Admitting L) (N : Log) (v : World L) (door' : Admitting L)
      → Turn (GoesAsDefined a) talk now start script rest listens (moment M w door) (moment N v door') → Wholly M N
  turn start script rest whole listens M w door N v door' t =
      wholly-then M t.node_started N (starts start M t.world_begun t.node_started t.world_started t.starts)
      (wholly-then t.node_started t.node_ticked N (gives Tick t.node_started t.world_started t.node_ticked t.world_ticked tt t.ticks)
      (wholly-then t.node_ticked t.node_told N (news_go t.news t.node_ticked t.world_ticked t.node_told t.world_told t.told)
      (wholly-then t.node_told t.node_given N (lines_go t.lines (whole_left t.lines rest (subst AreWhole t.parts whole)) t.node_told t.world_told t.node_given t.world_given t.given)
      (wholly-then t.node_given t.node_heard N (hears_each names t.node_given t.world_given t.node_heard t.world_heard t.heard)
      (admits listens t.node_heard t.world_heard door N v door' t.admits)))))

-- ---- a run

module _ {L : Type 0} (a : Made) (talk : L → Option (List Said)) (listens : Bool) where
  pub turns : (times : List ℕ) (start : Option ℕ) (script : List Due) → AreWhole script → (M : Log) (w : World L) (door : Admitting L) (N : Log) (v : World L) (door' : Admitting L)
      → Turns (GoesAsDefined a) talk listens times start script (moment M w door) (moment N v door') → Wholly M N
  turns [] start script whole M w door N v door' (e, s, same) = wholly-none M N e
  turns (now ∷ times) start script whole M w door N v door' (rest, P, x, mid, going, t, later) =
      wholly-then M P N (turn a talk now start script rest whole listens M w door P x mid t)
      (turns times (Some (unwrap_or start now)) rest (whole_right t.lines rest (subst AreWhole t.parts whole)) P x mid N v door' later)
