-- One event that a run gives to its node: where it may come, it is one of the definition's too, and what a run has in hand
-- agrees with the log after it.
-- It serves bsc_application, bsc_node_command and bsc_node_links.
use Rattle.std.proofs.Common.{◌≡◌, ◌≤◌, ◌<◌, ℕ, Bool, true, false, not, List, [], ◌++◌, refl, ap, sym, ◌∙◌, subst, arith}
use Rattle.std.specs.Prelude.{◌^◌, IsTrue, nat_le, nat_lt, if◌then◌else◌, Option}
use Rattle.std.specs.List.{list_any}
use Rattle.std.proofs.lemmas.Bool.{le-leb, lt-ltb}
use Rattle.std.proofs.lemmas.List.{append-nil}
use Rattle.bsc_edge.specs.declared.said.Said.{Said}
use Rattle.bsc_node.specs.declared.node_event.NodeEvent.{NodeEvent}
use Rattle.bsc_node.specs.declared.node_event.NodeEvent.TheVariants.{Opened, Arrived, Random, NoRandom}
use Rattle.bsc_node.specs.declared.timed_event.TimedEvent.{TimedEvent}
use Rattle.bsc_node.specs.declared.action.Action.{Action}
use Rattle.bsc_node.specs.Logs.{Made, came, Log, now, is_finish, is_finishing}
use Rattle.bsc_node.specs.Node.{goes_on, actions_at}
use Rattle.bsc_node.specs.Conditions.{awaits_word, brings_word, fits, may_come}
use Rattle.bsc_node.specs.Laws.{with_event, draws}
use Rattle.bsc_node_laws.specs.Links.{opens_at, LogGoesOn, Brings}
use Rattle.bsc_node_laws.proofs.Between.{Between}
use Rattle.bsc_node_laws.proofs.Followed.{is_arrival}
use Rattle.bsc_node_laws.proofs.Drawn.{draws_at, word_settles}
use Rattle.bsc_node_laws.proofs.Bringing.{brings}
use Rattle.bsc_node_run.specs.Performing.{Carries}
use Rattle.bsc_node_run.specs.Turning.{GivesWord, Gives, GivesIn}
use Rattle.bsc_node_run.specs.Turning as Turning
use Rattle.bsc_node_run.specs.Worlds.{World, Same}
use Rattle.bsc_node_laws.proofs.Agreeing.{Agrees}
use Rattle.bsc_node_laws.proofs.Beside.{Both, beside, beside_same}
use Rattle.bsc_node_laws.proofs.Same.{agrees-same}
use Rattle.bsc_node_laws.proofs.Carrying.{carries_due}
use Rattle.bsc_node_laws.proofs.News.{event_keeps}
use Rattle.bsc_node_laws.proofs.Coming.{comes_of, now_then, finishing_by, draws-same, goes_keeps}
use Rattle.bsc_lemmas.proofs.Booleans.{all_four}

-- an event at a time
abbrev pub at : ℕ → NodeEvent → TimedEvent
at t e = record { now = t; event = e }

-- whether an event opens no link and brings none
abbrev pub is_plain : NodeEvent → Bool
is_plain (Opened name) = false
is_plain Arrived = false
is_plain e = true

goes_on_of : (a : Made) (M : Log) (t : ℕ) (e : NodeEvent) → is_arrival e ≡ false → Brings a M (at t e) e → LogGoesOn a M (at t e)
goes_on_of a M t Arrived h b = cc
goes_on_of a M t e h b = b

plain_no_arrival : (e : NodeEvent) → is_plain e ≡ true → is_arrival e ≡ false
plain_no_arrival Arrived h = cc
plain_no_arrival e h = refl

plain_opens : (e : NodeEvent) (L : Log) → is_plain e ≡ true → opens_at e L ≡ []
plain_opens (Opened name) L h = cc
plain_opens e L h = refl

-- An event may come at a time, where that isn't before the log's.
pub may_at : (M : Log) (t : ℕ) (e : NodeEvent) → t < 2 ^ 62 → now M ≤ t
    → (if brings_word e then awaits_word M else not (awaits_word M)) ≡ true → fits M e ≡ true → IsTrue (may_come M (at t e))
may_at M t e below later word f =
    all_four (nat_le (now M) t) (nat_lt t (2 ^ 62)) (if brings_word e then awaits_word M else not (awaits_word M)) (fits M e) (le-leb (now M) t later) (lt-ltb t (2 ^ 62) below) word f

module _ {N L : Type 0} (a : Made) (Stands : N → Log → Type 0) (t : ℕ) (P : Type 0) where
  -- What holds after an event of a turn at the time t: the core stands for the log, what a run has in hand agrees with it,
  -- and P holds once the node is to end.
  pub record Stood (n : N) (w : World L) (M : Log) : Type 0 where
    pub stands : Stands n M
    pub agrees : Agrees w M
    pub between : Between a M
    pub time : now M ≤ t
    pub by : is_finishing M ≡ true → P

  -- And no word is awaited.
  abbrev pub Holds : N → World L → Log → Type 0
  Holds n w M = Stood n w M × (awaits_word M ≡ false)

  pub stood_same : (n m : N) (w v : World L) (M : Log) → m ≡ n → Same v w → Stood n w M → Stood m v M
  stood_same n m w v M is same s = record {
    stands = subst (λ p. Stands p M) (sym is) s.stands;
    agrees = agrees-same v w M same s.agrees;
    between = s.between;
    time = s.time;
    by = s.by;
  }

  -- An event is ready to be given: what follows from it is carried out in this world.
  pub record Ready (talk : L → Option (List Said)) (n : N) (w : World L) (M : Log) (e : NodeEvent) : Type 0 where
    pub stands : Stands n M
    pub may : IsTrue (may_come M (at t e))
    pub brings : Brings a M (at t e) e
    pub between : Between a (M ++ goes_on a (at t e) M)
    pub keeps : (x : World L) → Carries talk (actions_at a M (at t e)) w x → Agrees x (M ++ goes_on a (at t e) M)
    pub by : is_finishing M ≡ true → P
    pub asks : is_finish (came (at t e)) ≡ true → P

-- A core takes steps that the definition takes too: from a log that it stands for to one that it stands for.
abbrev pub Steps : {N : Type 0} → (N → ℕ → NodeEvent → List Action → N → Type 0) → Made → (N → Log → Type 0) → Type 0
Steps {N} goes a Stands =
    (n m : N) (M : Log) (t : ℕ) (e : NodeEvent) (actions : List Action) → Stands n M → IsTrue (may_come M (at t e)) → goes n t e actions m
    → (actions ≡ actions_at a M (at t e)) × Stands m (M ++ goes_on a (at t e) M)

module _ {N L : Type 0} (goes : N → ℕ → NodeEvent → List Action → N → Type 0) (talk : L → Option (List Said)) (a : Made) (Stands : N → Log → Type 0)
    (steps : Steps goes a Stands) (t : ℕ) (below : t < 2 ^ 62) (P : Type 0) where
  abbrev After : N → World L → Log → Type 0
  After n w M = Stood a Stands t P n w M

  abbrev Held : N → World L → Log → Type 0
  Held n w M = Holds a Stands t P n w M

  abbrev Given : N → World L → Log → NodeEvent → Type 0
  Given n w M e = Ready a Stands t P talk n w M e

  -- ---- one event

  pub after : (n p : N) (w x : World L) (M : Log) (e : NodeEvent) (actions : List Action) → Given n w M e → goes n t e actions p → Carries talk actions w x
      → (actions ≡ actions_at a M (at t e)) × After p x (M ++ goes_on a (at t e) M)
  after n p w x M e actions r g c = (
    s.0,
    record {
      stands = s.1;
      agrees = r.keeps x (subst (λ did. Carries talk did w x) s.0 c);
      between = r.between;
      time = time_is (now_then a M (at t e) (comes_of a M (at t e) e r.brings));
      by = finishing_by P a M (at t e) (comes_of a M (at t e) e r.brings) r.by r.asks;
    },
  )
    where
      s : (actions ≡ actions_at a M (at t e)) × Stands p (M ++ goes_on a (at t e) M)
      s = steps n p M t e actions r.stands r.may g

      time_is : now (M ++ goes_on a (at t e) M) ≡ t → now (M ++ goes_on a (at t e) M) ≤ t
      time_is is = omega arith

  -- Any event is ready that may come, but that a link arrives.
  pub ready_of : (n : N) (w x : World L) (M : Log) (e : NodeEvent) → After n w M → IsTrue (may_come M (at t e)) → is_arrival e ≡ false
      → Agrees x (with_event M (at t e) ++ opens_at e (with_event M (at t e))) → (is_finish (came (at t e)) ≡ true → P) → Given n x M e
  ready_of n w x M e s may none agrees asks = record {
    stands = s.stands;
    may = may;
    brings = b.0;
    between = b.1;
    keeps = λ y c. goes_keeps talk a M (at t e) x y (goes_on_of a M t e none b.0) agrees c;
    by = s.by;
    asks = asks;
  }
    where
      b : Brings a M (at t e) e × Between a (M ++ goes_on a (at t e) M)
      b = brings a M (at t e) s.between may

  -- Of an event that opens no link and brings none, what is in hand agrees with the log once it came.
  pub ready_plain : (n : N) (w x : World L) (M : Log) (e : NodeEvent) → After n w M → IsTrue (may_come M (at t e)) → is_plain e ≡ true
      → Agrees x (with_event M (at t e)) → (is_finish (came (at t e)) ≡ true → P) → Given n x M e
  ready_plain n w x M e s may plain agrees asks =
      ready_of n w x M e s may (plain_no_arrival e plain)
      (subst (Agrees x) (sym (ap (λ lines. with_event M (at t e) ++ lines) (plain_opens e (with_event M (at t e)) plain) ∙ append-nil (with_event M (at t e)))) agrees) asks

  -- ---- the word that it draws

  pub ready_word : (n : N) (w : World L) (M : Log) (e : NodeEvent) → After n w M → awaits_word M ≡ true → IsTrue (brings_word e) → Given n w M e
  ready_word n w M (Random word) s h b =
      ready_plain n w w M (Random word) s (may_at M t (Random word) below s.time h refl) refl (event_keeps w M (at t (Random word)) (λ name. refl) s.agrees) (λ no. cc)
  ready_word n w M NoRandom s h b =
      ready_plain n w w M NoRandom s (may_at M t NoRandom below s.time h refl) refl (event_keeps w M (at t NoRandom) (λ name. refl) s.agrees) (λ no. cc)
  ready_word n w M e s h b = cc

  -- A word that was drawn comes next, and then none is awaited.
  answered : (b : Bool) (n m : N) (w v : World L) (M : Log) → After n w M → awaits_word M ≡ b → GivesWord goes talk t b n w m v
      → (K : Log) × GivesWord (Both goes a) talk t b (beside n M) w (beside m K) v × Held m v K
  answered false n m w v M s h (is, same) = (M, (beside_same n m M is, same), (stood_same a Stands t P n m w v M is same s, h))
  answered true n m w v M s h (word, actions, b, g, c) =
      (M ++ goes_on a (at t word) M, (word, actions, b, (g, (r.may, k.0, refl)), c), (k.1, word_settles a M (at t word) r.may b))
    where
      r : Given n w M word
      r = ready_word n w M word s h b

      k : (actions ≡ actions_at a M (at t word)) × After m v (M ++ goes_on a (at t word) M)
      k = after n m w v M word actions r g c

  -- ---- an event is given

  -- An event that is ready is given, and what it draws.
  pub gives : (n m : N) (w v : World L) (M : Log) (e : NodeEvent) → Given n w M e → Gives goes talk t e n w m v
      → (K : Log) × Gives (Both goes a) talk t e (beside n M) w (beside m K) v × Held m v K
  gives n m w v M e r (actions, p, x, g, c, h) =
      (q.0, (actions, beside p (M ++ goes_on a (at t e) M), x, (g, (r.may, k.0, refl)), c, q.1), q.2)
    where
      k : (actions ≡ actions_at a M (at t e)) × After p x (M ++ goes_on a (at t e) M)
      k = after n p w x M e actions r g c

      q : (K : Log) × GivesWord (Both goes a) talk t (Turning.draws actions) (beside p (M ++ goes_on a (at t e) M)) x (beside m K) v × Held m v K
      q = answered (Turning.draws actions) p m x v (M ++ goes_on a (at t e) M) k.1 (draws_at a M (at t e) r.may ∙ sym (ap (list_any draws) k.0) ∙ draws-same actions) h

  -- In a world like this one.
  pub gives_in : (n m : N) (w v : World L) (M : Log) (e : NodeEvent) → ((x : World L) → Same x w → Given n x M e) → GivesIn goes talk t e n w m v
      → (K : Log) × GivesIn (Both goes a) talk t e (beside n M) w (beside m K) v × Held m v K
  gives_in n m w v M e r (x, same, g) = let q = gives n m x v M e (r x same) g in (q.0, (x, same, q.1), q.2)

module _ {N L : Type 0} (goes : N → ℕ → NodeEvent → List Action → N → Type 0) (talk : L → Option (List Said)) (t : ℕ) where
  -- Nothing new is due after it where nothing was.
  answers_due : (b : Bool) (n m : N) (w v : World L) → GivesWord goes talk t b n w m v → w.due ≡ [] → v.due ≡ []
  answers_due false n m w v (is, same) h = same.due ∙ h
  answers_due true n m w v (word, actions, b, g, c) h = carries_due talk actions w v c h

  pub gives_due : (e : NodeEvent) (n m : N) (w v : World L) → Gives goes talk t e n w m v → w.due ≡ [] → v.due ≡ []
  gives_due e n m w v (actions, p, x, g, c, k) h = answers_due (Turning.draws actions) p m x v k (carries_due talk actions w x c h)

  pub gives_in_due : (e : NodeEvent) (n m : N) (w v : World L) → GivesIn goes talk t e n w m v → w.due ≡ [] → v.due ≡ []
  gives_in_due e n m w v (x, same, g) h = gives_due e n m x v g (same.due ∙ h)
