-- One turn of a run: each event that it gives to its node is one that may come, and so it is a turn of the definition too.
-- It serves bsc_application, bsc_node_command and bsc_node_links.
use Rattle.std.proofs.Common.{◌≡◌, ◌≤◌, ◌<◌, ℕ, Bool, true, false, inl, inr, List, [], ◌∷◌, ◌++◌, Option, Some, None, Result, Ok, Err, refl, ap, sym, ◌∙◌, subst, arith}
use Rattle.std.specs.Prelude.{◌^◌, IsTrue}
use Rattle.std.specs.List.{Contains, list_all}
use Rattle.std.proofs.lemmas.List.Elements.{Contains-append_left, Contains-append_right}
use Rattle.std.proofs.lemmas.List.Folds.{list_all-append}
use Rattle.std.proofs.lemmas.Option.{same_Some}
use Rattle.bsc_edge.specs.declared.fault.LinkFault.{LinkFault}
use Rattle.bsc_edge.specs.declared.fault.LinkFault.TheVariants.{Failed, NoMemory}
use Rattle.bsc_edge.specs.declared.incoming.Incoming.{Incoming}
use Rattle.bsc_edge.specs.declared.incoming.Incoming.TheVariants.{Message, Text, Quiet, Closed}
use Rattle.bsc_edge.specs.declared.said.Said.{Said}
use Rattle.bsc_node.specs.declared.link_name.LinkName.{LinkName}
use Rattle.bsc_node.specs.declared.node_event.NodeEvent.{NodeEvent}
use Rattle.bsc_node.specs.declared.node_event.NodeEvent.TheVariants.{Start, Arrived, Came, CameText, Lost, Tick, Send, Resolve, DirectTo, Solicit, Finish}
use Rattle.bsc_node.specs.declared.action.Action.{Action}
use Rattle.bsc_node.specs.Logs.{Made, came, Log, is_finish}
use Rattle.bsc_node.specs.Links.{is_over_by_event}
use Rattle.bsc_node.specs.Node.{goes_on}
use Rattle.bsc_node.specs.Conditions.{awaits_word, brings_word, fits, may_come}
use Rattle.bsc_node.specs.Laws.{with_event}
use Rattle.bsc_node_laws.specs.Links.{Brings}
use Rattle.bsc_node_laws.proofs.Between.{Between}
use Rattle.bsc_node_laws.proofs.Followed.{is_arrival}
use Rattle.bsc_node_laws.proofs.Bringing.{begun as begins, brings}
use Rattle.bsc_node_run.specs.declared.due.Due.{Due}
use Rattle.bsc_node_run.specs.declared.news.Change.{Change}
use Rattle.bsc_node_run.specs.declared.news.Change.TheVariants.{Opened as DidOpen, DialFailed as DidntOpen, Lost as WasLost}
use Rattle.bsc_node_run.specs.declared.news.News.{News}
use Rattle.bsc_node_run.specs.Receiving.{WasGiven, left_by, told_of}
use Rattle.bsc_node_run.specs.Requests.{is_asked}
use Rattle.bsc_node_run.specs.Turning.{event_of, names, passed_by, AreDue, Gives, GivesIn, GivesNews, GivesLines, HearsOf, HearsIf, LinkHears, HearsEach, Admits, Starts, Turn}
use Rattle.bsc_node_run.specs.Worlds.{Admitting, World, Same, begun, ends, is_name, is_open, with_link}
use Rattle.bsc_node_run.specs.Moments.{moment}
use Rattle.bsc_node_laws.proofs.Agreeing.{Agrees}
use Rattle.bsc_node_laws.proofs.Beside.{Both, beside, beside_same}
use Rattle.bsc_node_laws.proofs.Same.{agrees-same}
use Rattle.bsc_node_laws.proofs.News.{begun_keeps, news_may, news_keeps, event_keeps, hears_may, hears_keeps, lost_keeps, asked-ends}
use Rattle.bsc_node_laws.proofs.Coming.{goes_keeps, admits_keeps}
use Rattle.bsc_node_laws.proofs.Lifting.{at, is_plain, may_at, Holds, stood_same, Ready, ready_of, ready_plain, Steps, gives, gives_in, gives_due, gives_in_due}
use Rattle.bsc_lemmas.proofs.Booleans.{and_left, and_right, if_no as no_word}

-- ---- what the events of a turn are

-- News bring no word, no link that arrives, and not that the node is to end.
news_no_word : (name : LinkName) (change : Change) → brings_word (event_of (record { link = name; change = change })) ≡ false
news_no_word name DidOpen = refl
news_no_word name DidntOpen = refl
news_no_word name WasLost = refl

news_no_arrival : (name : LinkName) (change : Change) → is_arrival (event_of (record { link = name; change = change })) ≡ false
news_no_arrival name DidOpen = refl
news_no_arrival name DidntOpen = refl
news_no_arrival name WasLost = refl

news_no_finish : (t : ℕ) (name : LinkName) (change : Change) → is_finish (came (at t (event_of (record { link = name; change = change })))) ≡ false
news_no_finish t name DidOpen = refl
news_no_finish t name DidntOpen = refl
news_no_finish t name WasLost = refl

-- whether a line of a script is one that a script may have
abbrev pub asks : Due → Bool
asks d = is_asked d.event

-- What a script asks fits any log, and is plain.
asked_fits : (M : Log) (e : NodeEvent) → is_asked e ≡ true → fits M e ≡ true
asked_fits M (Send dest npdu) h = h
asked_fits M (Resolve v) h = refl
asked_fits M (DirectTo v) h = refl
asked_fits M (Solicit v) h = refl
asked_fits M Finish h = refl
asked_fits M e h = cc

asked_no_word : (e : NodeEvent) → is_asked e ≡ true → brings_word e ≡ false
asked_no_word (Send dest npdu) h = refl
asked_no_word (Resolve v) h = refl
asked_no_word (DirectTo v) h = refl
asked_no_word (Solicit v) h = refl
asked_no_word Finish h = refl
asked_no_word e h = cc

asked_plain : (e : NodeEvent) → is_asked e ≡ true → is_plain e ≡ true
asked_plain (Send dest npdu) h = refl
asked_plain (Resolve v) h = refl
asked_plain (DirectTo v) h = refl
asked_plain (Solicit v) h = refl
asked_plain Finish h = refl
asked_plain e h = cc

-- It says that the node is to end only as a Finish.
asked_finish : (t : ℕ) (e : NodeEvent) → is_finish (came (at t e)) ≡ true → e ≡ Finish
asked_finish t Finish h = refl
asked_finish t e h = cc

pub contains_first : (d : Due) (lines : List Due) → Contains (d ∷ lines) d
contains_first d lines = (0, omega arith, refl)

pub no_true : (P : Type 0) (b : Bool) → b ≡ false → b ≡ true → P
no_true P true f h = cc
no_true P false f h = cc

module _ {N L : Type 0} (goes : N → ℕ → NodeEvent → List Action → N → Type 0) (talk : L → Option (List Said)) (a : Made) (Stands : N → Log → Type 0)
    (steps : Steps goes a Stands) (t : ℕ) (below : t < 2 ^ 62) (P : Type 0) where
  -- What holds between two events of the turn.
  abbrev Held : N → World L → Log → Type 0
  Held n w M = Holds a Stands t P n w M

  held_same : (n m : N) (w v : World L) (M : Log) → m ≡ n → Same v w → Held n w M → Held m v M
  held_same n m w v M is same h = (stood_same a Stands t P n m w v M is same h.0, h.1)

  -- An event that fits and isn't that a word came may come between two events.
  may_between : (n : N) (w : World L) (M : Log) (e : NodeEvent) → Held n w M → fits M e ≡ true → brings_word e ≡ false → IsTrue (may_come M (at t e))
  may_between n w M e h f wordless = may_at M t e below h.0.time (no_word (brings_word e) (awaits_word M) wordless h.1) f

  -- So it is ready, where what is in hand agrees with the log once it came.
  ready_between : (n : N) (w x : World L) (M : Log) (e : NodeEvent) → Held n w M → fits M e ≡ true → brings_word e ≡ false → is_plain e ≡ true
      → Agrees x (with_event M (at t e)) → (is_finish (came (at t e)) ≡ true → P) → Ready a Stands t P talk n x M e
  ready_between n w x M e h f wordless plain agrees asks =
      ready_plain goes talk a Stands steps t below P n w x M e h.0 (may_between n w M e h f wordless) plain agrees asks

  -- ---- what is new of its links

  pub ready_news : (news : News) (rest : List News) (n : N) (w : World L) (M : Log) → Held n w M → w.due ≡ news ∷ rest
      → Ready a Stands t P talk n (record w { due = rest }) M (event_of news)
  ready_news news rest n w M h is =
      ready_of goes talk a Stands steps t below P n w (record w { due = rest }) M (event_of news) h.0
      (may_between n w M (event_of news) h (news_may news rest w M is h.0.agrees) (news_no_word news.link news.change))
      (news_no_arrival news.link news.change) (news_keeps news rest w M (at t (event_of news)) refl is h.0.agrees)
      (no_true P (is_finish (came (at t (event_of news)))) (news_no_finish t news.link news.change))

  pub given_news : (news : List News) (n m : N) (w v : World L) (M : Log) → Held n w M → GivesNews goes talk t news n w m v
      → (K : Log) × GivesNews (Both goes a) talk t news (beside n M) w (beside m K) v × Held m v K × (v.due ≡ [])
  given_news [] n m w v M h (due, is, same) = (M, (due, beside_same n m M is, same), held_same n m w v M is same h, same.due ∙ due)
  given_news (news ∷ more) n m w v M h (rest, p, x, is, g, k) =
      let q : (K : Log) × Gives (Both goes a) talk t (event_of news) (beside n M) (record w { due = rest }) (beside p K) x × Held p x K =
      gives goes talk a Stands steps t below P n p (record w { due = rest }) x M (event_of news) (ready_news news rest n w M h is) g in
      let r : (K : Log) × GivesNews (Both goes a) talk t more (beside p q.0) x (beside m K) v × Held m v K × (v.due ≡ []) = given_news more p m x v q.0 q.2 k in
      (r.0, (rest, beside p q.0, x, is, q.1, r.1), r.2, r.3)

  -- ---- the script

  pub ready_line : (passed : ℕ) (d : Due) → is_asked d.event ≡ true → d.at ≤ passed → (d.event ≡ Finish → d.at ≤ passed → P)
      → (n : N) (w : World L) (M : Log) → Held n w M → Ready a Stands t P talk n w M d.event
  ready_line passed d here due over n w M h =
      ready_between n w w M d.event h (asked_fits M d.event here) (asked_no_word d.event here) (asked_plain d.event here)
      (event_keeps w M (at t d.event) (asked-ends d.event here) h.0.agrees) (λ finish. over (asked_finish t d.event finish) due)

  pub given_lines : (passed : ℕ) (lines : List Due) → list_all asks lines ≡ true → AreDue passed lines
      → ((d : Due) → Contains lines d → d.event ≡ Finish → d.at ≤ passed → P)
      → (n m : N) (w v : World L) (M : Log) → Held n w M → w.due ≡ [] → GivesLines goes talk t lines n w m v
      → (K : Log) × GivesLines (Both goes a) talk t lines (beside n M) w (beside m K) v × Held m v K × (v.due ≡ [])
  given_lines passed [] asked due over n m w v M h none (is, same) = (M, (beside_same n m M is, same), held_same n m w v M is same h, same.due ∙ none)
  given_lines passed (d ∷ lines) asked due over n m w v M h none (p, x, g, k) =
      let q : (K : Log) × Gives (Both goes a) talk t d.event (beside n M) w (beside p K) x × Held p x K =
      gives goes talk a Stands steps t below P n p w x M d.event
      (ready_line passed d here due.0 (over d (contains_first d lines)) n w M h) g in
      let r : (K : Log) × GivesLines (Both goes a) talk t lines (beside p q.0) x (beside m K) v × Held m v K × (v.due ≡ []) =
      given_lines passed lines (and_right (is_asked d.event) (list_all asks lines) asked) due.1
      (λ e c. over e (Contains-append_right (d ∷ []) lines e c)) p m x v q.0 q.2 (gives_due goes talk t d.event n p w x g none) k in
      (r.0, (beside p q.0, x, q.1, r.1), r.2, r.3)
    where
      here : is_asked d.event ≡ true
      here = and_left (is_asked d.event) (list_all asks lines) asked

  -- ---- what comes

  -- a link that is open, and what it gave
  pub record Hearing (name : LinkName) (k : L) (n : N) (w : World L) (M : Log) : Type 0 where
    pub held : Held n w M
    pub named : is_name name ≡ true
    pub none : w.due ≡ []
    pub up : is_open name w ≡ true
    pub is : w.link name ≡ Some k

  ready_message : (name : LinkName) (k l : L) (e : NodeEvent) (n : N) (w x : World L) (M : Log) → Hearing name k n w M → fits M e ≡ true → brings_word e ≡ false → is_plain e ≡ true
      → ((other : LinkName) → is_over_by_event other e ≡ false) → (is_finish (came (at t e)) ≡ true → P) → Same x (with_link name (Some l) w) → Ready a Stands t P talk n x M e
  ready_message name k l e n w x M h f wordless plain lasts asks same =
      ready_between n w x M e h.held f wordless plain
      (event_keeps x M (at t e) lasts (agrees-same x (with_link name (Some l) w) M same (hears_keeps name k l w M h.named h.is h.held.0.agrees))) asks

  ready_lost : (name : LinkName) (k l : L) (n : N) (w x : World L) (M : Log) → Hearing name k n w M → Same x (ends name l w) → Ready a Stands t P talk n x M (Lost name)
  ready_lost name k l n w x M h same =
      ready_between n w x M (Lost name) h.held (hears_may name w M h.named h.none h.up h.held.0.agrees).1 refl refl
      (agrees-same x (ends name l w) (with_event M (at t (Lost name))) same (lost_keeps name l w M (at t (Lost name)) refl h.named h.none h.up h.held.0.agrees)) (λ no. cc)

  -- What is told of what a link gave is ready.
  pub ready_heard : (name : LinkName) (k l : L) (given : Result Incoming LinkFault) (e : NodeEvent) (n : N) (w x : World L) (M : Log) → Hearing name k n w M
      → WasGiven given → Some e ≡ told_of name given → Same x (left_by name l given w) → Ready a Stands t P talk n x M e
  ready_heard name k l (Ok (Message o)) e n w x M h ok told same =
      subst (Ready a Stands t P talk n x M) (sym (same_Some e (Came name o) told))
      (ready_message name k l (Came name o) n w x M h (hears_may name w M h.named h.none h.up h.held.0.agrees).0 refl refl (λ other. refl) (λ no. cc) same)
  ready_heard name k l (Ok Text) e n w x M h ok told same =
      subst (Ready a Stands t P talk n x M) (sym (same_Some e (CameText name) told))
      (ready_message name k l (CameText name) n w x M h (hears_may name w M h.named h.none h.up h.held.0.agrees).0 refl refl (λ other. refl) (λ no. cc) same)
  ready_heard name k l (Ok Quiet) e n w x M h ok told same = cc
  ready_heard name k l (Ok Closed) e n w x M h ok told same =
      subst (Ready a Stands t P talk n x M) (sym (same_Some e (Lost name) told)) (ready_lost name k l n w x M h same)
  ready_heard name k l (Err Failed) e n w x M h ok told same =
      subst (Ready a Stands t P talk n x M) (sym (same_Some e (Lost name) told)) (ready_lost name k l n w x M h same)
  ready_heard name k l (Err NoMemory) e n w x M h ok told same = absurd ok

  heard_message : (name : LinkName) (k l : L) (e : NodeEvent) (n m : N) (w v : World L) (M : Log) → Hearing name k n w M → fits M e ≡ true → brings_word e ≡ false → is_plain e ≡ true
      → ((other : LinkName) → is_over_by_event other e ≡ false) → (is_finish (came (at t e)) ≡ true → P) → GivesIn goes talk t e n (with_link name (Some l) w) m v
      → (K : Log) × GivesIn (Both goes a) talk t e (beside n M) (with_link name (Some l) w) (beside m K) v × Held m v K × (v.due ≡ [])
  heard_message name k l e n m w v M h f wordless plain lasts asks g = (q.0, q.1, q.2, gives_in_due goes talk t e n m (with_link name (Some l) w) v g h.none)
    where
      q : (K : Log) × GivesIn (Both goes a) talk t e (beside n M) (with_link name (Some l) w) (beside m K) v × Held m v K
      q = gives_in goes talk a Stands steps t below P n m (with_link name (Some l) w) v M e
          (λ x same. ready_message name k l e n w x M h f wordless plain lasts asks same) g

  heard_lost : (name : LinkName) (k l : L) (n m : N) (w v : World L) (M : Log) → Hearing name k n w M → GivesIn goes talk t (Lost name) n (ends name l w) m v
      → (K : Log) × GivesIn (Both goes a) talk t (Lost name) (beside n M) (ends name l w) (beside m K) v × Held m v K × (v.due ≡ [])
  heard_lost name k l n m w v M h g = (q.0, q.1, q.2, gives_in_due goes talk t (Lost name) n m (ends name l w) v g h.none)
    where
      q : (K : Log) × GivesIn (Both goes a) talk t (Lost name) (beside n M) (ends name l w) (beside m K) v × Held m v K
      q = gives_in goes talk a Stands steps t below P n m (ends name l w) v M (Lost name)
          (λ x same. ready_lost name k l n w x M h same) g

  heard_of : (name : LinkName) (k l : L) (given : Result Incoming LinkFault) (n m : N) (w v : World L) (M : Log) → Hearing name k n w M → HearsOf goes talk t name l given n w m v
      → (K : Log) × HearsOf (Both goes a) talk t name l given (beside n M) w (beside m K) v × Held m v K × (v.due ≡ [])
  heard_of name k l (Ok (Message o)) n m w v M h g =
      heard_message name k l (Came name o) n m w v M h (hears_may name w M h.named h.none h.up h.held.0.agrees).0 refl refl (λ other. refl) (λ no. cc) g
  heard_of name k l (Ok Text) n m w v M h g =
      heard_message name k l (CameText name) n m w v M h (hears_may name w M h.named h.none h.up h.held.0.agrees).0 refl refl (λ other. refl) (λ no. cc) g
  heard_of name k l (Ok Quiet) n m w v M h (is, same) = (M, (beside_same n m M is, same), quiet, same.due ∙ h.none)
    where
      quiet : Held m v M
      quiet = (
        record {
          stands = subst (λ p. Stands p M) (sym is) h.held.0.stands;
          agrees = agrees-same v (with_link name (Some l) w) M same (hears_keeps name k l w M h.named h.is h.held.0.agrees);
          between = h.held.0.between;
          time = h.held.0.time;
          by = h.held.0.by;
        },
        h.held.1,
      )
  heard_of name k l (Ok Closed) n m w v M h g = heard_lost name k l n m w v M h g
  heard_of name k l (Err Failed) n m w v M h g = heard_lost name k l n m w v M h g
  heard_of name k l (Err NoMemory) n m w v M h g = absurd g

  pub heard_if : (name : LinkName) (b : Bool) (n m : N) (w v : World L) (M : Log) → Held n w M → is_name name ≡ true → w.due ≡ [] → is_open name w ≡ b → HearsIf goes talk t name b n w m v
      → (K : Log) × HearsIf (Both goes a) talk t name b (beside n M) w (beside m K) v × Held m v K × (v.due ≡ [])
  heard_if name false n m w v M h named none up (is, same) = (M, (beside_same n m M is, same), held_same n m w v M is same h, same.due ∙ none)
  heard_if name true n m w v M h named none up (k, l, given, is, grows, g) =
      let q = heard_of name k l given n m w v M (record { held = h; named = named; none = none; up = up; is = is }) g in
      (q.0, (k, l, given, is, grows, q.1), q.2, q.3)

  pub heard_each : (links : List LinkName) (n m : N) (w v : World L) (M : Log) → list_all is_name links ≡ true → Held n w M → w.due ≡ [] → HearsEach goes talk t links n w m v
      → (K : Log) × HearsEach (Both goes a) talk t links (beside n M) w (beside m K) v × Held m v K × (v.due ≡ [])
  heard_each [] n m w v M named h none (is, same) = (M, (beside_same n m M is, same), held_same n m w v M is same h, same.due ∙ none)
  heard_each (name ∷ links) n m w v M named h none (p, x, g, k) =
      let q : (K : Log) × LinkHears (Both goes a) talk t name (beside n M) w (beside p K) x × Held p x K × (x.due ≡ []) =
      heard_if name (is_open name w) n p w x M h (and_left (is_name name) (list_all is_name links) named) none refl g in
      let r : (K : Log) × HearsEach (Both goes a) talk t links (beside p q.0) x (beside m K) v × Held m v K × (v.due ≡ []) =
      heard_each links p m x v q.0 (and_right (is_name name) (list_all is_name links) named) q.2 q.3 k in
      (r.0, (beside p q.0, x, q.1, r.1), r.2, r.3)

  -- ---- a link that arrives

  arrived_keeps : (w : World L) (l : L) (M : Log) → Agrees w M → Agrees (record w { arrived = Some l }) M
  arrived_keeps w l M g = record { links = g.links; others = g.others; named = g.named; finished = g.finished }

  pub ready_arrived : (n : N) (w : World L) (l : L) (M : Log) → Held n w M → Ready a Stands t P talk n (record w { arrived = Some l }) M Arrived
  ready_arrived n w l M h = record {
    stands = h.0.stands;
    may = may;
    brings = b.0;
    between = b.1;
    keeps = λ x c. admits_keeps talk a M (at t Arrived) (record w { arrived = Some l }) x l refl refl b.0
        (event_keeps (record w { arrived = Some l }) M (at t Arrived) (λ name. refl) (arrived_keeps w l M h.0.agrees)) c;
    by = h.0.by;
    asks = λ no. cc;
  }
    where
      may : IsTrue (may_come M (at t Arrived))
      may = may_between n w M Arrived h refl refl

      b : Brings a M (at t Arrived) Arrived × Between a (M ++ goes_on a (at t Arrived) M)
      b = brings a M (at t Arrived) h.0.between may

  admitted : (listens : Bool) (n m : N) (w v : World L) (door door' : Admitting L) (M : Log) → Held n w M → w.due ≡ [] → Admits goes talk t listens (moment n w door) (moment m v door')
      → (K : Log) × Admits (Both goes a) talk t listens (moment (beside n M) w door) (moment (beside m K) v door') × Held m v K × (v.due ≡ [])
  admitted false n m w v door door' M h none (is, same, leaves) = (M, (beside_same n m M is, same, leaves), held_same n m w v M is same h, same.due ∙ none)
  admitted true n m w v door door' M h none (waits, inl (is, same, leaves)) = (M, (waits, inl (beside_same n m M is, same, leaves)), held_same n m w v M is same h, same.due ∙ none)
  admitted true n m w v door door' M h none (waits, inr (l, leaves, g)) =
      let q = gives goes talk a Stands steps t below P n m (record w { arrived = Some l }) v M Arrived (ready_arrived n w l M h) g in
      (q.0, (waits, inr (l, leaves, q.1)), q.2, gives_due goes talk t Arrived n m (record w { arrived = Some l }) v g none)

  -- ---- a turn

  -- the first event of all: the node starts
  pub ready_start : (n : N) (w : World L) → Stands n [] → Agrees w [] → Ready a Stands t P talk n w [] Start
  ready_start n w s agrees = record {
    stands = s;
    may = may_at [] t Start below (omega arith) refl refl;
    brings = b.0;
    between = b.1;
    keeps = λ x c. goes_keeps talk a [] (at t Start) w x b.0 (event_keeps w [] (at t Start) (λ name. refl) agrees) c;
    by = λ no. cc;
    asks = λ no. cc;
  }
    where
      b : Brings a [] (at t Start) Start × Between a (goes_on a (at t Start) [])
      b = begins a (at t Start) refl

  pub started : (n m : N) (w v : World L) → Stands n [] → Agrees w [] → Starts goes talk t None n w m v
      → (K : Log) × Starts (Both goes a) talk t None (beside n []) w (beside m K) v × Held m v K
  started n m w v s agrees g = gives goes talk a Stands steps t below P n m w v [] Start (ready_start n w s agrees) g

  -- in a turn after the first
  pub goes_on_later : (start : ℕ) (n m : N) (w x v : World L) (M : Log) → Held n w M → w.due ≡ [] → Same x (begun w) → Starts goes talk t (Some start) n x m v
      → (K : Log) × Starts (Both goes a) talk t (Some start) (beside n M) x (beside m K) v × Held m v K
  goes_on_later start n m w x v M h none same (is, stays) = (M, (beside_same n m M is, stays), held_same n m x v M is stays begins)
    where
      begins : Held n x M
      begins = (
        record {
          stands = h.0.stands;
          agrees = agrees-same x (begun w) M same (begun_keeps w M none h.0.agrees);
          between = h.0.between;
          time = h.0.time;
          by = h.0.by;
        },
        h.1,
      )

  pub ready_tick : (n : N) (w : World L) (M : Log) → Held n w M → Ready a Stands t P talk n w M Tick
  ready_tick n w M h = ready_between n w w M Tick h refl refl refl (event_keeps w M (at t Tick) (λ name. refl) h.0.agrees) (λ no. cc)

  -- A turn whose start is lifted is lifted whole.
  pub turn : (start : Option ℕ) (script rest : List Due) (listens : Bool) (n m : N) (w v : World L) (door door' : Admitting L) (M : Log)
      → ((p : N) (x y : World L) → Same x (begun w) → Starts goes talk t start n x p y → (K : Log) × Starts (Both goes a) talk t start (beside n M) x (beside p K) y × Held p y K)
      → list_all asks script ≡ true → ((d : Due) → Contains script d → d.event ≡ Finish → d.at ≤ passed_by start t → P)
      → Turn goes talk t start script rest listens (moment n w door) (moment m v door')
      → (K : Log) × Turn (Both goes a) talk t start script rest listens (moment (beside n M) w door) (moment (beside m K) v door') × Held m v K × (v.due ≡ [])
  turn start script rest listens n m w v door door' M first asked over g = (
    q6.0,
    record {
      news = g.news;
      lines = g.lines;
      world_begun = g.world_begun;
      world_started = g.world_started;
      world_ticked = g.world_ticked;
      world_told = g.world_told;
      world_given = g.world_given;
      world_heard = g.world_heard;
      node_started = beside g.node_started q1.0;
      node_ticked = beside g.node_ticked q2.0;
      node_told = beside g.node_told q3.0;
      node_given = beside g.node_given q4.0;
      node_heard = beside g.node_heard q5.0;
      begins = g.begins;
      starts = q1.1;
      ticks = q2.1;
      told = q3.1;
      parts = g.parts;
      due = g.due;
      next = g.next;
      given = q4.1;
      heard = q5.1;
      admits = q6.1;
    },
    q6.2,
    q6.3,
  )
    where
      q1 : (K : Log) × Starts (Both goes a) talk t start (beside n M) g.world_begun (beside g.node_started K) g.world_started × Held g.node_started g.world_started K
      q1 = first g.node_started g.world_begun g.world_started g.begins g.starts

      q2 : (K : Log) × Gives (Both goes a) talk t Tick (beside g.node_started q1.0) g.world_started (beside g.node_ticked K) g.world_ticked × Held g.node_ticked g.world_ticked K
      q2 = gives goes talk a Stands steps t below P g.node_started g.node_ticked g.world_started g.world_ticked q1.0 Tick
          (ready_tick g.node_started g.world_started q1.0 q1.2) g.ticks

      q3 : (K : Log) × GivesNews (Both goes a) talk t g.news (beside g.node_ticked q2.0) g.world_ticked (beside g.node_told K) g.world_told × Held g.node_told g.world_told K × (g.world_told.due ≡ [])
      q3 = given_news g.news g.node_ticked g.node_told g.world_ticked g.world_told q2.0 q2.2 g.told

      q4 : (K : Log) × GivesLines (Both goes a) talk t g.lines (beside g.node_told q3.0) g.world_told (beside g.node_given K) g.world_given × Held g.node_given g.world_given K
          × (g.world_given.due ≡ [])
      q4 = given_lines (passed_by start t) g.lines
          (and_left (list_all asks g.lines) (list_all asks rest)
          (sym (ap (list_all asks) g.parts ∙ list_all-append asks g.lines rest) ∙ asked))
          g.due (λ d c. over d (subst (λ (lines : List Due). Contains lines d) (sym g.parts) (Contains-append_left g.lines rest d c)))
          g.node_told g.node_given g.world_told g.world_given q3.0 q3.2 q3.3 g.given

      q5 : (K : Log) × HearsEach (Both goes a) talk t names (beside g.node_given q4.0) g.world_given (beside g.node_heard K) g.world_heard × Held g.node_heard g.world_heard K
          × (g.world_heard.due ≡ [])
      q5 = heard_each names g.node_given g.node_heard g.world_given g.world_heard q4.0 refl q4.2 q4.3 g.heard

      q6 : (K : Log) × Admits (Both goes a) talk t listens (moment (beside g.node_heard q5.0) g.world_heard door) (moment (beside m K) v door') × Held m v K × (v.due ≡ [])
      q6 = admitted listens g.node_heard m g.world_heard v door door' q5.0 q5.2 q5.3 g.admits
