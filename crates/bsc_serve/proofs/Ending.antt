-- The end of serving.
-- It serves the clauses of `serve_on` and `stop_first`.
use Rattle.std.proofs.Common.{inl, inr, ◌≡◌, ℕ, ◌+◌, ◌≤◌, List, [], ◌∷◌, ◌++◌, length, take, Bool, true, false, cond, Option, Some, None, Ok, Err, refl, ap, sym, ◌∙◌, subst, arith}
use Rattle.std.proofs.Common.{append-nil, append_assoc, length-append}
use Rattle.std.specs.Prelude.{Result, ◌<◌, ◌^◌, ◌⊎◌, ◌≢◌, position}
use Rattle.std.specs.List.{position_from}
use Rattle.std.proofs.lemmas.Bool.{false_from_ne_true}
use Rattle.std.proofs.lemmas.List.{map-append}
use Rattle.std.proofs.lemmas.Iterator.Adapters.{position_from-zero}
use Rattle.bsc_history.specs.declared.counts.Counts.{Counts}
use Rattle.bsc_history.specs.declared.told.AlreadyStopped.{AlreadyStopped}
use Rattle.bsc_history.specs.declared.told.Told.{Told}
use Rattle.bsc_history.specs.declared.entry.Entry.{Entry}
use Rattle.bsc_history.specs.declared.mark.Stamped.{Stamped}
use Rattle.bsc_history.specs.Entries.{stops}
use Rattle.bsc_history.specs.Marks.{entries}
use Rattle.bsc_history.specs.Counting.{counts}
use Rattle.bsc_history.specs.Replies.{is_stopped}
use Rattle.bsc_turn.specs.declared.pass.Pass.{Pass}
use Rattle.bsc_turn.specs.declared.view.EndedCaller.{EndedCaller}
use Rattle.bsc_turn.specs.Histories.{StartsWith}
use Rattle.bsc_turn.specs.Passes.{drawn_list, number_of, seen}
use Rattle.bsc_hub.specs.declared.hub.Hub.{Hub}
use Rattle.bsc_hub.specs.Calls.{stop_made}
use Rattle.bsc_hub.specs.Passing.{Placed, Went}
use Rattle.bsc_hub.proofs.Following.{drew_no_number, passed_none, starts_then, went_then}
use Rattle.bsc_edge.specs.declared.fault.LinkFault.{LinkFault}
use Rattle.bsc_edge.specs.declared.fault.LinkFault.TheVariants.{Failed, NoMemory as NoRoom}
use Rattle.bsc_edge.specs.declared.begun.Begun.{Begun}
use Rattle.bsc_edge.specs.declared.said.Said.{Said}
use Rattle.bsc_edge.specs.Told.{Grows, Stays}
use Rattle.bsc_edge.proofs.Common.{grows_from, grows_then}
use Rattle.bsc_session.specs.Notes.Notes.{HasLine, Records}
use Rattle.bsc_serve.specs.declared.end.ServeEnd.{ServeEnd}
use Rattle.bsc_serve.specs.declared.end.ServeEnd.TheVariants.{Done, StoppedBefore, Requested, AcceptFault, JournalFault, NoMemory}
use Rattle.bsc_serve.specs.declared.halt.Halt.{Halt}
use Rattle.bsc_serve.specs.declared.halt.Halt.TheVariants.{AcceptFault as HaltFault, JournalFault as HaltJournal, NoMemory as HaltMemory}
use Rattle.bsc_session.specs.declared.job.SessionJob.{SessionJob}
use Rattle.bsc_session.specs.declared.session_end.SessionEnd.{SessionEnd}
use Rattle.bsc_serve.specs.Terms.{Terms}
use Rattle.bsc_serve.specs.Events.{Event, OutAfter, begun_of, callers_of, ends_of, jobs_of, links_of, numbers_of, returned_of, unstarted_of}
use Rattle.bsc_serve.specs.Asking.{EndsAsked, EndsUnasked}
use Rattle.bsc_serve.specs.declared.tally.Tally.{Tally}
use Rattle.bsc_serve.specs.Inner.{CutAt, GaveBack, Halted, Stopped, Taken, TakesIn, asked_end, fault_halt, halt_end, stock_of, whole_end, world_of}
use Rattle.bsc_serve.specs.Serving.{AreAnswered, Cut, CutBy, EndsSo, IsCutShort, IsWithin, JournalFailed, Loses, RoseBy, Serving, StopAnswers, cut_callers, cut_links, stop_notes}
use Rattle.bsc_serve.specs.Tallies.{CountsUp, Remains}
use Rattle.bsc_serve.specs.Worlds.{ServeWorld, Stock, served_world}
use Rattle.bsc_serve.proofs.Arrivals.{SpentStays, fates_later, few_unstarted, grows_still, rose_later}
use Rattle.bsc_serve.proofs.Sessions.{found_still, stop_stands}

-- calls that made no entry, and the stop of the hub after them
stops_so : (h : Hub) (p m q : Pass) (drew : ℕ) (took : List EndedCaller) (r : Result (Told Counts) AlreadyStopped)
    → Went h p drew took None m → Stopped h m q r → Went h p drew took (stop_made (number_of p) r) q
stops_so h p m q drew took r before s =
    let all : drew + 0 ≡ drew = omega arith in
    subst (λ n. Went h p drew took (stop_made n r) q) before.number
    (subst (λ xs. Went h p drew xs (stop_made (number_of m) r) q) (append-nil took)
    (subst (λ k. Went h p k (took ++ []) (stop_made (number_of m) r) q) all
    (went_then h p m q drew 0 took [] (stop_made (number_of m) r) before s.passed)))

stop_answers : (h : Hub) (m q : Pass) (r : Result (Told Counts) AlreadyStopped) → Stopped h m q r → StopAnswers q r
stop_answers h m q (Ok t) s = (
  s.due,
  false_from_ne_true (is_stopped (take t.at (entries (seen q)))) (λ e. (let k : false ≡ true = s.refused.1 e in cc)),
)
stop_answers h m q (Err e) s = s.place

-- the first place that passes stays it, where the list goes on
pub place_on : (test : Entry → Bool) (i : ℕ) (xs ys : List Entry) (k : ℕ) → position_from test i xs ≡ Some k → position_from test i (xs ++ ys) ≡ Some k
place_on test i [] ys k e = absurd (let bad : None ≡ Some k = e in cc)
place_on test i (x ∷ xs) ys k e = by (test x) (λ is. place_on test (i + 1) xs ys k is) e
  where
    by : (b : Bool) → (position_from test (i + 1) xs ≡ Some k → position_from test (i + 1) (xs ++ ys) ≡ Some k) → cond b (Some i) (position_from test (i + 1) xs) ≡ Some k
        → cond b (Some i) (position_from test (i + 1) (xs ++ ys)) ≡ Some k
    by true later is = is
    by false later is = later is

-- what the stop answered is so by what the pass has seen later
answers_later : (h : Hub) (p v q : Pass) (drew : ℕ) (took : List EndedCaller) (r : Result (Told Counts) AlreadyStopped) → Went h p drew took (stop_made (number_of p) r) v
    → StartsWith (seen q) (seen v) → StopAnswers v r → StopAnswers q r
answers_later h p v q drew took (Ok t) w more s =
    let k = found_still h p v q drew took t w more in
    let same : take t.at (entries (seen v)) ≡ take t.at (entries (seen q)) = k.4 ∙ sym k.3 in
    subst (λ (H : List Entry). (t.said ≡ counts H) × (is_stopped H ≡ false)) same s
answers_later h p v q drew took (Err e) w more s =
    let all : entries (seen q) ≡ entries (seen v) ++ entries more.0 = ap entries more.1 ∙ map-append (λ (x : Stamped). x.entry) (seen v) more.0 in
    ap (λ (H : List Entry). position stops H) all ∙ (position_from-zero stops (entries (seen v) ++ entries more.0)
    ∙ place_on stops 0 (entries (seen v)) (entries more.0) e.at (sym (position_from-zero stops (entries (seen v))) ∙ s))

stays_stopped : (h : Hub) (m q : Pass) (r : Result (Told Counts) AlreadyStopped) → Stopped h m q r → SpentStays h m q
stays_stopped h m q r s e = s.loaded ∙ e

all_came : (sessions : Option ℕ) (n : ℕ) → Remains sessions n (Some 0) → sessions ≡ Some n
all_came None n r = absurd r
all_came (Some s) n r = (let k : s ≡ n = omega (arith, r) in ap (λ x. Some x) k)

-- the number of links without a job, where it isn't past the greatest u64
counted_so : (u n : ℕ) → CountsUp u n → n < 2 ^ 64 → u ≡ n
counted_so u n (inl e) small = e
counted_so u n (inr e) small = absurd (omega (arith, e, small))

came_fits : (sessions : Option ℕ) (n : ℕ) → ((s : ℕ) → sessions ≡ Some s → s < 2 ^ 64) → Remains sessions n (Some 0) → n < 2 ^ 64
came_fits sessions n fits r = fits n (all_came sessions n r)

within_whole : (sessions : Option ℕ) (n : ℕ) → Remains sessions n (Some 0) → IsWithin sessions (n + 0)
within_whole None n r = absurd r
within_whole (Some s) n r = omega (arith, r)

-- no more have come than are awaited, where more may come
within_so : (sessions : Option ℕ) (n : ℕ) (k : Option ℕ) → Remains sessions n k → IsWithin sessions (n + 0)
within_so None n k r = tt
within_so (Some s) n None r = absurd r
within_so (Some s) n (Some k) r = omega (arith, r)

-- a job whose journal couldn't be begun
halts_failed : (fault : LinkFault) → HaltJournal ≡ fault_halt fault → fault ≡ Failed
halts_failed Failed e = refl
halts_failed NoRoom e = absurd (let k : HaltJournal ≡ HaltMemory = e in cc)

-- no journal failed where none halted the loop and none was lost
none_failed : {L : Type 0} → (cut : Option (Cut L)) (halt : Halt) (lost : Option LinkFault) → CutAt cut halt → halt ≢ HaltJournal → lost ≢ Some Failed → JournalFailed cut lost → ⊥
none_failed cut halt lost at other put (inl f) = put f
none_failed None halt lost at other put (inr f) = (let k : None ≡ Some Failed = f in cc)
none_failed (Some c) halt lost at other put (inr f) = (let k : Some c.fault ≡ Some Failed = f in let is : c.fault ≡ Failed = cc in other (at.0 ∙ ap fault_halt is))

-- how serving ends where a job couldn't be made
fault_ends : (fault : LinkFault) (lost : Option LinkFault) → (halt_end (fault_halt fault) lost ≡ NoMemory) ⊎ (halt_end (fault_halt fault) lost ≡ JournalFault)
fault_ends Failed lost = inr refl
fault_ends NoRoom None = inl refl
fault_ends NoRoom (Some Failed) = inr refl
fault_ends NoRoom (Some NoRoom) = inl refl

cut_by : {L : Type 0} → (cut : Option (Cut L)) (halt : Halt) (lost : Option LinkFault) → CutAt cut halt → CutBy cut (halt_end halt lost)
cut_by None halt lost c = tt
cut_by (Some x) halt lost c =
    (subst (λ t. (halt_end t lost ≡ NoMemory) ⊎ (halt_end t lost ≡ JournalFault)) (sym c.0) (fault_ends x.fault lost), c.1)

module _ {L C N : Type 0} where
  ends_whole : (awaited : Option ℕ) (events : List (Event L C N)) (u : ℕ) (r : Result (Told Counts) AlreadyStopped) (lost : Option LinkFault)
      → awaited ≡ Some (length (links_of events)) → u ≡ unstarted_of events → EndsSo awaited events None [] r lost (whole_end u r lost)
  ends_whole awaited events u (Ok t) None came same = (came, refl, same, (t.at, refl), refl)
  ends_whole awaited events u (Err already) None came same = (came, refl, same, refl)
  ends_whole awaited events u r (Some Failed) came same = inl refl
  ends_whole awaited events u r (Some NoRoom) came same =
      let cut : Option (Cut L) = None in
      none_failed cut HaltMemory (Some NoRoom) (λ e. cc) (λ e. cc) (λ e. cc)

  ends_halted : (awaited : Option ℕ) (events : List (Event L C N)) (cut : Option (Cut L)) (still : List (SessionJob L C N))
      (stop : Result (Told Counts) AlreadyStopped) (lost : Option LinkFault) (halt : Halt) → CutAt cut halt
      → EndsSo awaited events cut still stop lost (halt_end halt lost)
  ends_halted awaited events None still stop lost HaltJournal at = absurd (at refl)
  ends_halted awaited events (Some c) still stop lost HaltJournal at = inr (ap Some (halts_failed c.fault at.0))
  ends_halted awaited events cut still stop None HaltFault at = refl
  ends_halted awaited events cut still stop (Some Failed) HaltFault at = inl refl
  ends_halted awaited events cut still stop (Some NoRoom) HaltFault at = none_failed cut HaltFault (Some NoRoom) at (λ e. cc) (λ e. cc)
  ends_halted awaited events cut still stop None HaltMemory at = none_failed cut HaltMemory None at (λ e. cc) (λ e. cc)
  ends_halted awaited events cut still stop (Some Failed) HaltMemory at = inl refl
  ends_halted awaited events cut still stop (Some NoRoom) HaltMemory at = none_failed cut HaltMemory (Some NoRoom) at (λ e. cc) (λ e. cc)

  ends_asked : (awaited : Option ℕ) (events : List (Event L C N)) (still : List (SessionJob L C N)) (u : ℕ) (r : Result (Told Counts) AlreadyStopped) (lost : Option LinkFault)
      → CountsUp u (unstarted_of events) → EndsSo awaited events None still r lost (asked_end u r lost)
  ends_asked awaited events still u (Ok t) None counted = (counted, (t.at, refl), refl)
  ends_asked awaited events still u (Err already) None counted = (counted, (already.at, refl), refl)
  ends_asked awaited events still u r (Some Failed) counted = inl refl
  ends_asked awaited events still u r (Some NoRoom) counted =
      let cut : Option (Cut L) = None in
      none_failed cut HaltMemory (Some NoRoom) (λ e. cc) (λ e. cc) (λ e. cc)

-- ---- what an end says of its causes

pub whole_lost : (u : ℕ) (r : Result (Told Counts) AlreadyStopped) (lost : Option LinkFault) → whole_end u r lost ≡ JournalFault → lost ≡ Some Failed
whole_lost u (Ok t) None e = absurd (let k : Done t.said u ≡ JournalFault = e in cc)
whole_lost u (Err already) None e = absurd (let k : StoppedBefore already.at u ≡ JournalFault = e in cc)
whole_lost u r (Some Failed) e = refl
whole_lost u r (Some NoRoom) e = absurd (let k : NoMemory ≡ JournalFault = e in cc)

pub whole_served : (u : ℕ) (r : Result (Told Counts) AlreadyStopped) (lost : Option LinkFault) → whole_end u r lost ≡ AcceptFault → ⊥
whole_served u (Ok t) None e = (let k : Done t.said u ≡ AcceptFault = e in cc)
whole_served u (Err already) None e = (let k : StoppedBefore already.at u ≡ AcceptFault = e in cc)
whole_served u r (Some Failed) e = (let k : JournalFault ≡ AcceptFault = e in cc)
whole_served u r (Some NoRoom) e = (let k : NoMemory ≡ AcceptFault = e in cc)

pub asked_lost : (u : ℕ) (r : Result (Told Counts) AlreadyStopped) (lost : Option LinkFault) → asked_end u r lost ≡ JournalFault → lost ≡ Some Failed
asked_lost u (Ok t) None e = absurd (let k : Requested (Some t.said) u ≡ JournalFault = e in cc)
asked_lost u (Err already) None e = absurd (let k : Requested None u ≡ JournalFault = e in cc)
asked_lost u r (Some Failed) e = refl
asked_lost u r (Some NoRoom) e = absurd (let k : NoMemory ≡ JournalFault = e in cc)

pub asked_served : (u : ℕ) (r : Result (Told Counts) AlreadyStopped) (lost : Option LinkFault) → asked_end u r lost ≡ AcceptFault → ⊥
asked_served u (Ok t) None e = (let k : Requested (Some t.said) u ≡ AcceptFault = e in cc)
asked_served u (Err already) None e = (let k : Requested None u ≡ AcceptFault = e in cc)
asked_served u r (Some Failed) e = (let k : JournalFault ≡ AcceptFault = e in cc)
asked_served u r (Some NoRoom) e = (let k : NoMemory ≡ AcceptFault = e in cc)

pub halt_failed : (halt : Halt) (lost : Option LinkFault) → halt_end halt lost ≡ AcceptFault → halt ≡ HaltFault
halt_failed HaltFault lost e = refl
halt_failed HaltJournal lost e = absurd (let k : JournalFault ≡ AcceptFault = e in cc)
halt_failed HaltMemory None e = absurd (let k : NoMemory ≡ AcceptFault = e in cc)
halt_failed HaltMemory (Some Failed) e = absurd (let k : JournalFault ≡ AcceptFault = e in cc)
halt_failed HaltMemory (Some NoRoom) e = absurd (let k : NoMemory ≡ AcceptFault = e in cc)

pub halt_lost : {X Y : Type 0} → (halt : Halt) (lost : Option LinkFault) → halt_end halt lost ≡ JournalFault → (halt ≡ HaltJournal → X) → (lost ≡ Some Failed → Y) → X ⊎ Y
halt_lost HaltJournal lost e x y = inl (x refl)
halt_lost HaltFault None e x y = absurd (let k : AcceptFault ≡ JournalFault = e in cc)
halt_lost HaltFault (Some Failed) e x y = inr (y refl)
halt_lost HaltFault (Some NoRoom) e x y = absurd (let k : NoMemory ≡ JournalFault = e in cc)
halt_lost HaltMemory None e x y = absurd (let k : NoMemory ≡ JournalFault = e in cc)
halt_lost HaltMemory (Some Failed) e x y = inr (y refl)
halt_lost HaltMemory (Some NoRoom) e x y = absurd (let k : NoMemory ≡ JournalFault = e in cc)

-- ---- whether an end may come where nobody asked, or the stop was asked for

pub asked_so : (u : ℕ) (r : Result (Told Counts) AlreadyStopped) (lost : Option LinkFault) → EndsAsked (asked_end u r lost)
asked_so u (Ok t) None = tt
asked_so u (Err already) None = tt
asked_so u r (Some Failed) = tt
asked_so u r (Some NoRoom) = tt

pub whole_unasked : (u : ℕ) (r : Result (Told Counts) AlreadyStopped) (lost : Option LinkFault) → EndsUnasked (whole_end u r lost)
whole_unasked u (Ok t) None = tt
whole_unasked u (Err already) None = tt
whole_unasked u r (Some Failed) = tt
whole_unasked u r (Some NoRoom) = tt

pub halt_unasked : (halt : Halt) (lost : Option LinkFault) → EndsUnasked (halt_end halt lost)
halt_unasked HaltJournal lost = tt
halt_unasked HaltFault None = tt
halt_unasked HaltFault (Some Failed) = tt
halt_unasked HaltFault (Some NoRoom) = tt
halt_unasked HaltMemory None = tt
halt_unasked HaltMemory (Some Failed) = tt
halt_unasked HaltMemory (Some NoRoom) = tt

-- what halted cut it short
halts_short : (halt : Halt) (lost : Option LinkFault) → IsCutShort (halt_end halt lost)
halts_short HaltJournal lost = tt
halts_short HaltFault None = tt
halts_short HaltFault (Some Failed) = tt
halts_short HaltFault (Some NoRoom) = tt
halts_short HaltMemory None = tt
halts_short HaltMemory (Some Failed) = tt
halts_short HaltMemory (Some NoRoom) = tt

answered_halted : {L : Type 0} → (asks came idle : ℕ) (cut : Option (Cut L)) (halt : Halt) (lost : Option LinkFault) → (asks ≡ came + idle) ⊎ ((asks ≡ came + idle + 1) × (cut ≡ None))
    → AreAnswered asks came idle cut (halt_end halt lost)
answered_halted asks came idle cut halt lost (inl e) = inl e
answered_halted asks came idle cut halt lost (inr e) = inr (e.0, e.1, halts_short halt lost)

rose_from : (n a b c : ℕ) → a ≤ b → RoseBy n b c → RoseBy n a c
rose_from n a b c later (inl x) = inl (omega (arith, later, x))
rose_from n a b c later (inr x) = inr x

module _ {L C N : Type 0} (works : SessionJob L C N → SessionEnd L C N → Type 0) (begins : Option (List ℕ) → ℕ → N → Type 0) (talk : L → Option (List Said)) where
  -- all arrived, all sessions ended and were taken in, and the hub was stopped
  pub serves_whole : (h : Hub) (terms : Terms) (w m : ServeWorld L C N) (q : Pass) (u : ℕ) (r : Result (Told Counts) AlreadyStopped)
      (lost : Option LinkFault) (held held' : Option (List ℕ)) → ((s : ℕ) → terms.sessions ≡ Some s → s < 2 ^ 64) → w.out ≡ []
      → Taken works begins talk h terms w m (record { remaining = Some 0; unstarted = u })
      → m.out ≡ [] → Stopped h m.pass q r → Records held held' (stop_notes (number_of m.pass) r) lost
      → HasLine (stop_notes (number_of m.pass) r) lost → Serving works begins talk terms (served_world h held w) (served_world h held' (record m { pass = q })) (whole_end u r lost)
  serves_whole h terms w m q u r lost held held' fits none_before t none s noted line =
      let n = length (links_of t.events) in
      let all : n ≡ n + 0 = omega arith in
      let few = few_unstarted t.events in
      let small = came_fits terms.sessions n fits t.remains in
      let under : unstarted_of t.events < 2 ^ 64 = omega (arith, few, small) in
      let came = all_came terms.sessions n t.remains in
      let callers : List EndedCaller = callers_of t.events in
      let made : Option Placed = stop_made (number_of w.pass) r in
      let went : Went h w.pass (n + 0) (callers ++ []) made q =
      subst (λ k. Went h w.pass k (callers ++ []) made q) all
      (subst (λ xs. Went h w.pass n xs made q) (sym (append-nil callers)) (stops_so h w.pass m.pass q n callers r t.went s)) in
      record {
        events = t.events;
        cut = None;
        still = [];
        stop = r;
        at_stop = q;
        late = [];
        lost = lost;
        cut_last = tt;
        cut_so = tt;
        hub = refl;
        left = subst (λ xs. Loses w.links m.links xs) (sym (append-nil (links_of t.events))) t.left;
        came = subst (λ xs. Grows w.came m.came xs) (sym (append-nil (links_of t.events))) t.came;
        within = within_whole terms.sessions n t.remains;
        asks = t.asks;
        asked = t.asked;
        idle = t.idle;
        quiet = t.quiet;
        answered = inl (let k = t.answered in omega (arith, k));
        begun = subst (λ (xs : List Begun). Grows w.begun m.begun xs) (sym (append-nil (begun_of terms.prefix t.events))) t.begun;
        jobs = t.jobs;
        fates = fates_later begins talk h terms w.pass m.pass q t.events s.passed.grows (stays_stopped h m.pass q r s) t.fates;
        returned = t.returned;
        out = subst (λ (o : List (SessionJob L C N)). OutAfter works [] t.events o) none t.out;
        late_out = refl;
        only_ends = refl;
        gathered = none;
        earlier = [];
        one_each = sym (ap (λ (o : List (SessionJob L C N)). length o) none_before);
        given_back = subst (λ xs. Grows w.given_back m.given_back xs) (sym (append-nil (ends_of t.events))) t.given_back;
        went = went;
        joined = passed_none h q s.passed.caller;
        same = λ e. refl;
        stopped = stop_answers h m.pass q r s;
        drew = drew_no_number h m.pass q [] (stop_made (number_of m.pass) r) s.passed ∙ (t.drew ∙ ap (λ (k : List ℕ). drawn_list w.pass ++ k) (sym (append-nil (numbers_of t.events))));
        stop_last = stop_stands h w.pass q q (n + 0) t.events [] [] r went (passed_none h q s.passed.caller) t.all_ended;
        records = subst (λ k. Records held held' (stop_notes k r) lost) t.went.number noted;
        has_line = subst (λ k. HasLine (stop_notes k r) lost) t.went.number line;
        ends = ends_whole terms.sessions t.events u r lost came (counted_so u (unstarted_of t.events) t.counted under);
      }

  -- the loop halted, the hub was stopped, and the sessions ended and were taken in
  pub serves_halted : (h : Hub) (terms : Terms) (w m : ServeWorld L C N) (v q : Pass) (s : Stock L C N) (halt : Halt)
      (r : Result (Told Counts) AlreadyStopped) (lost : Option LinkFault) (held held' : Option (List ℕ)) → w.out ≡ [] → Halted works begins talk h terms w m halt → Stopped h m.pass v r
      → TakesIn works h v (stock_of m) q s → s.out ≡ [] → Records held held' (stop_notes (number_of m.pass) r) lost
      → HasLine (stop_notes (number_of m.pass) r) lost → Serving works begins talk terms (served_world h held w) (served_world h held' (world_of q s m)) (halt_end halt lost)
  serves_halted h terms w m v q s halt r lost held held' none_before t stopped x none noted line =
      let n = length (links_of t.events) + length (cut_links t.cut) in
      let took : List EndedCaller = callers_of t.events ++ cut_callers t.cut in
      let went : Went h w.pass n took (stop_made (number_of w.pass) r) v = stops_so h w.pass m.pass v n took r t.went stopped in
      record {
        events = t.events;
        cut = t.cut;
        still = m.out;
        stop = r;
        at_stop = v;
        late = x.late;
        lost = lost;
        cut_last = cut_by t.cut halt lost t.cut_last;
        cut_so = t.cut_so;
        hub = refl;
        left = t.left;
        came = t.came;
        within = t.within;
        asks = t.asks;
        asked = t.asked;
        idle = t.idle;
        quiet = t.quiet;
        answered = answered_halted t.asks n t.idle t.cut halt lost t.answered;
        begun = t.begun;
        jobs = grows_still w.jobs m.jobs s.jobs (jobs_of t.events) t.jobs x.jobs;
        fates = fates_later begins talk h terms w.pass m.pass q t.events (starts_then (seen m.pass) (seen v) (seen q) stopped.passed.grows x.went.grows)
            (λ e. x.loaded ∙ stays_stopped h m.pass v r stopped e) t.fates;
        returned = rose_later (returned_of t.events) w.unstarted m.unstarted s.unstarted t.returned x.later;
        out = t.out;
        late_out = subst (λ (o : List (SessionJob L C N)). OutAfter works m.out x.late o) none x.out;
        only_ends = x.none;
        gathered = none;
        earlier = [];
        one_each = sym (ap (λ (o : List (SessionJob L C N)). length o) none_before);
        given_back = grows_then w.given_back m.given_back s.given_back (ends_of t.events) (ends_of x.late) t.given_back x.given_back;
        went = went;
        joined = x.went;
        same = x.same;
        stopped = answers_later h w.pass v q n took r went x.went.grows (stop_answers h m.pass v r stopped);
        drew = drew_no_number h v q (callers_of x.late) None x.went ∙ (drew_no_number h m.pass v [] (stop_made (number_of m.pass) r) stopped.passed ∙ t.drew);
        stop_last = stop_stands h w.pass v q n t.events (cut_callers t.cut) (callers_of x.late) r went x.went t.all_ended;
        records = subst (λ k. Records held held' (stop_notes k r) lost) t.went.number noted;
        has_line = subst (λ k. HasLine (stop_notes k r) lost) t.went.number line;
        ends = ends_halted terms.sessions t.events t.cut m.out r lost halt t.cut_last;
      }

  -- the stop was asked for, the hub was stopped, and the sessions ended and were taken in
  pub serves_asked : (h : Hub) (terms : Terms) (w m : ServeWorld L C N) (v q : Pass) (s : Stock L C N) (tally : Tally)
      (r : Result (Told Counts) AlreadyStopped) (lost : Option LinkFault) (held held' : Option (List ℕ)) → w.out ≡ [] → Taken works begins talk h terms w m tally → Stopped h m.pass v r
      → TakesIn works h v (stock_of m) q s → s.out ≡ [] → Records held held' (stop_notes (number_of m.pass) r) lost
      → HasLine (stop_notes (number_of m.pass) r) lost → Serving works begins talk terms (served_world h held w) (served_world h held' (world_of q s m)) (asked_end tally.unstarted r lost)
  serves_asked h terms w m v q s tally r lost held held' none_before t stopped x none noted line =
      let n = length (links_of t.events) + 0 in
      let all : length (links_of t.events) ≡ n = omega arith in
      let took : List EndedCaller = callers_of t.events ++ [] in
      let before : Went h w.pass n took None m.pass =
      subst (λ k. Went h w.pass k took None m.pass) all
      (subst (λ xs. Went h w.pass (length (links_of t.events)) xs None m.pass) (sym (append-nil (callers_of t.events))) t.went) in
      let went : Went h w.pass n took (stop_made (number_of w.pass) r) v = stops_so h w.pass m.pass v n took r before stopped in
      record {
        events = t.events;
        cut = None;
        still = m.out;
        stop = r;
        at_stop = v;
        late = x.late;
        lost = lost;
        cut_last = tt;
        cut_so = tt;
        hub = refl;
        left = subst (λ xs. Loses w.links m.links xs) (sym (append-nil (links_of t.events))) t.left;
        came = subst (λ xs. Grows w.came m.came xs) (sym (append-nil (links_of t.events))) t.came;
        within = within_so terms.sessions (length (links_of t.events)) tally.remaining t.remains;
        asks = t.asks;
        asked = t.asked;
        idle = t.idle;
        quiet = t.quiet;
        answered = inl (let k = t.answered in omega (arith, k));
        begun = subst (λ (xs : List Begun). Grows w.begun m.begun xs) (sym (append-nil (begun_of terms.prefix t.events))) t.begun;
        jobs = grows_still w.jobs m.jobs s.jobs (jobs_of t.events) t.jobs x.jobs;
        fates = fates_later begins talk h terms w.pass m.pass q t.events (starts_then (seen m.pass) (seen v) (seen q) stopped.passed.grows x.went.grows)
            (λ e. x.loaded ∙ stays_stopped h m.pass v r stopped e) t.fates;
        returned = rose_later (returned_of t.events) w.unstarted m.unstarted s.unstarted t.returned x.later;
        out = t.out;
        late_out = subst (λ (o : List (SessionJob L C N)). OutAfter works m.out x.late o) none x.out;
        only_ends = x.none;
        gathered = none;
        earlier = [];
        one_each = sym (ap (λ (o : List (SessionJob L C N)). length o) none_before);
        given_back = grows_then w.given_back m.given_back s.given_back (ends_of t.events) (ends_of x.late) t.given_back x.given_back;
        went = went;
        joined = x.went;
        same = x.same;
        stopped = answers_later h w.pass v q n took r went x.went.grows (stop_answers h m.pass v r stopped);
        drew = drew_no_number h v q (callers_of x.late) None x.went ∙ (drew_no_number h m.pass v [] (stop_made (number_of m.pass) r) stopped.passed
            ∙ (t.drew ∙ ap (λ (k : List ℕ). drawn_list w.pass ++ k) (sym (append-nil (numbers_of t.events)))));
        stop_last = stop_stands h w.pass v q n t.events [] (callers_of x.late) r went x.went t.all_ended;
        records = subst (λ k. Records held held' (stop_notes k r) lost) t.went.number noted;
        has_line = subst (λ k. HasLine (stop_notes k r) lost) t.went.number line;
        ends = ends_asked terms.sessions t.events m.out tally.unstarted r lost t.counted;
      }

  -- what the spawner had out before was awaited at first
  pub serves_after : (h : Hub) (terms : Terms) (w v : ServeWorld L C N) (s : Stock L C N) (held held' : Option (List ℕ)) (end : ServeEnd) → Stays w.jobs s.jobs
      → GaveBack w.out s.out w.given_back s.given_back
      → w.unstarted ≤ s.unstarted → Serving works begins talk terms (served_world h held (world_of w.pass s w)) (served_world h held' v) end
      → Serving works begins talk terms (served_world h held w) (served_world h held' v) end
  serves_after h terms w v s held held' end stays gave later t = record {
    events = t.events;
    cut = t.cut;
    still = t.still;
    stop = t.stop;
    at_stop = t.at_stop;
    late = t.late;
    lost = t.lost;
    cut_last = t.cut_last;
    cut_so = t.cut_so;
    hub = t.hub;
    left = t.left;
    came = t.came;
    within = t.within;
    asks = t.asks;
    asked = t.asked;
    idle = t.idle;
    quiet = t.quiet;
    answered = t.answered;
    begun = t.begun;
    jobs = grows_from w.jobs s.jobs v.jobs (jobs_of t.events) stays t.jobs;
    fates = t.fates;
    returned = rose_from (returned_of t.events) w.unstarted s.unstarted v.unstarted later t.returned;
    out = t.out;
    late_out = t.late_out;
    only_ends = t.only_ends;
    gathered = t.gathered;
    earlier = gave.ends ++ t.earlier;
    one_each = (let a = length-append gave.ends t.earlier in let b = gave.one_each in let c = t.one_each in omega (arith, a, b, c));
    given_back = subst (λ xs. Grows w.given_back v.given_back xs) (sym (append_assoc gave.ends t.earlier (ends_of t.events ++ ends_of t.late)))
        (grows_then w.given_back s.given_back v.given_back gave.ends (t.earlier ++ (ends_of t.events ++ ends_of t.late)) gave.given_back t.given_back);
    went = t.went;
    joined = t.joined;
    same = t.same;
    stopped = t.stopped;
    drew = t.drew;
    stop_last = t.stop_last;
    records = t.records;
    has_line = t.has_line;
    ends = t.ends;
  }
