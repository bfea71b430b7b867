-- Sessions that have ended: their callers are taken in, and all that these entered stands before the Stop.
-- It serves clauses of functions of `accepting`, `laws`, `serving` and `taking_in`.
use Rattle.std.proofs.Common.{inl, inr, ◌≡◌, ℕ, ◌+◌, ◌≤◌, List, [], ◌∷◌, ◌++◌, length, take, Option, None, Ok, Err, refl, ap, sym, ◌∙◌, subst, arith, append_assoc, append-nil}
use Rattle.std.specs.Prelude.{◌≢◌, ◌⊎◌, Result, map, true}
use Rattle.std.proofs.lemmas.List.{length-map, map-append, take_at}
use mathlib.Core.Option.{some}
use lib.ListN.{get_elem?}
use Rattle.bsc_history.specs.declared.counts.Counts.{Counts}
use Rattle.bsc_history.specs.declared.entry.Entry.{Entry}
use Rattle.bsc_history.specs.declared.mark.Stamped.{Stamped}
use Rattle.bsc_history.specs.declared.told.AlreadyStopped.{AlreadyStopped}
use Rattle.bsc_history.specs.declared.told.Told.{Told}
use Rattle.bsc_history.specs.Entries.{own}
use Rattle.bsc_history.specs.Marks.{entries}
use Rattle.bsc_history.proofs.More.{entries-more}
use Rattle.bsc_turn.specs.declared.pass.Pass.{Pass}
use Rattle.bsc_turn.specs.declared.view.EndedCaller.{EndedCaller}
use Rattle.bsc_turn.specs.Effects.{IsConsistent, ended_of}
use Rattle.bsc_turn.specs.Histories.{StartsWith, own_of}
use Rattle.bsc_turn.specs.Passes.{drawn_list, ended_callers, newest_number, number_of, own_list, seen, view_of}
use Rattle.bsc_turn.proofs.Beginnings.{own_else}
use Rattle.bsc_turn.proofs.Uniting.{at_middle}
use Rattle.bsc_hub.specs.declared.hub.Hub.{Hub}
use Rattle.bsc_hub.specs.Calls.{stop_made, stop_stamped}
use Rattle.bsc_hub.specs.Passing.{IsCaller, Passed, Went, found_history}
use Rattle.bsc_hub.proofs.Following.{drew_no_number, passed_none, passed_then, went_then}
use Rattle.bsc_desk.specs.Entries.{stop_entry}
use Rattle.bsc_edge.specs.declared.said.Said.{Said}
use Rattle.bsc_edge.specs.declared.notice.Notice.{Notice}
use Rattle.bsc_edge.specs.Told.{Ends, Grows, Stays}
use Rattle.bsc_edge.proofs.Common.{grows_then, stays_then}
use Rattle.bsc_session.specs.declared.job.SessionJob.{SessionJob}
use Rattle.bsc_session.specs.declared.session_end.SessionEnd.{SessionEnd}
use Rattle.bsc_session.specs.Jobs.{Worked}
use Rattle.bsc_serve.specs.Events.{AllStand, Event, OutAfter, arrived, begun_call, callers_of, ended, ends_of, jobs_of, links_of, numbers_of, returned_of, unstarted_of}
use Rattle.bsc_serve.specs.Fates.{caller_in}
use Rattle.bsc_serve.specs.Inner.{AllEnded, AllOurs, GoesOn, IsOurEnd, IsOurs, TakesIn, limit_of}
use Rattle.bsc_serve.specs.Serving.{Loses, RoseBy}
use Rattle.bsc_serve.specs.Tallies.{CountsUp, Remains}
use Rattle.bsc_serve.specs.Worlds.{Stock}
use Rattle.bsc_serve.proofs.Arrivals.{all_ended_then, callers-append, ends-append, fates_later, fates_then, grows_no_more, grows_still, jobs-append, links-append, numbers-append}
use Rattle.bsc_serve.proofs.Arrivals.{out_then, returned-append, rose_later, unstarted-append}

module _ {L C N : Type 0} where
  ours_split : (h : Hub) (before : List (SessionJob L C N)) (j : SessionJob L C N) (behind : List (SessionJob L C N)) → AllOurs h (before ++ j ∷ behind) → IsOurs h j × AllOurs h (before ++ behind)
  ours_split h [] j behind a = (a.0, a.1)
  ours_split h (x ∷ before) j behind a = (let k = ours_split h before j behind a.1 in (k.0, (a.0, k.1)))

  -- what is left of a job of this hub is of it, has its number, and no caller has ended in its pass
  pub our_end : (talk : L → Option (List Said)) (faults : L → ℕ) (notices : L → Option (List Notice)) (readings : C → Option (List ℕ)) (held : N → Option (List ℕ)) (unput : N → ℕ)
      (h : Hub) (j : SessionJob L C N) (d : SessionEnd L C N) → IsOurs h j → Worked talk faults notices readings held unput j d → IsOurEnd h j d × (ended_callers d.pass ≡ [])
  our_end talk faults notices readings held unput h j d ours w =
      let goes = w.served.goes in
      ((subst (λ (y : Hub). IsCaller y d.pass) ours.0 goes.caller, goes.number), goes.took_in ∙ ours.1)

pub drawn_same : (h : Hub) (w p q : Pass) → newest_number q ≡ newest_number p → (newest_number w ≤ newest_number p) ⊎ (newest_number p ≡ limit_of h) → (newest_number w ≤ newest_number q)
    ⊎ (newest_number q ≡ limit_of h)
drawn_same h w p q e (inl x) = inl (omega (arith, e, x))
drawn_same h w p q e (inr x) = inr (e ∙ x)

module _ {L C N : Type 0} (works : SessionJob L C N → SessionEnd L C N → Type 0) (begins : Option (List ℕ) → ℕ → N → Type 0) (talk : L → Option (List Said)) where
  pub ours_ended : (h : Hub) (old new : List (SessionJob L C N)) (d : SessionEnd L C N) (e : Ends works old new d) → AllOurs h old → IsOurs h e.job
  ours_ended h old new d e ours = (ours_split h e.before e.job e.behind (subst (λ (o : List (SessionJob L C N)). AllOurs h o) e.was ours)).0

  pub ours_left : (h : Hub) (old new : List (SessionJob L C N)) (d : SessionEnd L C N) (e : Ends works old new d) → AllOurs h old → AllOurs h new
  ours_left h old new d e ours =
      subst (λ (o : List (SessionJob L C N)). AllOurs h o) (sym e.left)
      (ours_split h e.before e.job e.behind (subst (λ (o : List (SessionJob L C N)). AllOurs h o) e.was ours)).1

  -- a session has ended, and its caller was taken in
  pub goes_one : (h : Hub) (p q : Pass) (s t : Stock L C N) (d : SessionEnd L C N) (e : Ends works s.out t.out d) → IsOurEnd h e.job d
      → Passed h p (ended_of (view_of d.pass) ∷ []) None q → newest_number q ≡ newest_number p → Stays s.jobs t.jobs
      → Grows s.given_back t.given_back (d ∷ []) → s.unstarted ≤ t.unstarted → GoesOn works begins talk h p s q t
  goes_one h p q s t d e is went loaded stays grew later terms first beside tally taken =
      let a : List (Event L C N) = ended e.job d ∷ [] in
      let more = taken.events in
      let same_links : links_of (more ++ a) ≡ links_of more = links-append more a ∙ append-nil (links_of more) in
      let same_jobs : jobs_of (more ++ a) ≡ jobs_of more = jobs-append more a ∙ append-nil (jobs_of more) in
      let many : length (links_of (more ++ a)) ≡ length (links_of more) = ap (λ (xs : List L). length xs) same_links in
      let all : length (links_of more) + 0 ≡ length (links_of (more ++ a)) = omega (arith, many) in
      let back : returned_of (more ++ a) ≡ returned_of more = (let k = returned-append more a in omega (arith, k)) in
      let missed : unstarted_of (more ++ a) ≡ unstarted_of more = (let k = unstarted-append more a in omega (arith, k)) in
      let callers : callers_of (more ++ a) ≡ callers_of more ++ ended_of (view_of d.pass) ∷ [] = callers-append more a in
      let since : Went h first.pass (length (links_of more) + 0) (callers_of more ++ ended_of (view_of d.pass) ∷ []) None q =
      went_then h first.pass p q (length (links_of more)) 0 (callers_of more) (ended_of (view_of d.pass) ∷ []) None taken.went went in
      record {
        events = more ++ a;
        left = subst (λ (xs : List L). Loses first.links beside.links xs) (sym same_links) taken.left;
        came = subst (λ (xs : List L). Grows first.came beside.came xs) (sym same_links) taken.came;
        asks = taken.asks;
        asked = taken.asked;
        idle = taken.idle;
        quiet = taken.quiet;
        answered = (let k = taken.answered in omega (arith, k, many));
        begun = subst (λ (xs : List ℕ). Grows first.begun beside.begun (map (begun_call terms.prefix true) xs)) (sym (numbers-append more a ∙ append-nil (numbers_of more))) taken.begun;
        jobs = grows_still first.jobs s.jobs t.jobs (jobs_of (more ++ a))
            (subst (λ (xs : List (SessionJob L C N)). Grows first.jobs s.jobs xs) (sym same_jobs) taken.jobs) stays;
        given_back = subst (λ (xs : List (SessionEnd L C N)). Grows first.given_back t.given_back xs) (sym (ends-append more a))
            (grows_then first.given_back s.given_back t.given_back (ends_of more) (d ∷ []) taken.given_back grew);
        fates = fates_then begins talk h terms first.pass q more a (fates_later begins talk h terms first.pass p q more went.grows (λ x. loaded ∙ x) taken.fates) tt;
        returned = subst (λ k. RoseBy k first.unstarted t.unstarted) (sym back)
            (rose_later (returned_of more) first.unstarted s.unstarted t.unstarted taken.returned later);
        out = out_then works [] s.out t.out more a taken.out (e.before, e.behind, e.was, e.worked, e.left);
        ours = ours_left h s.out t.out d e taken.ours;
        all_ended = all_ended_then h more a taken.all_ended (is, tt);
        went = subst (λ k. Went h first.pass k (callers_of (more ++ a)) None q) all
            (subst (λ (xs : List EndedCaller). Went h first.pass (length (links_of more) + 0) xs None q) (sym callers) since);
        drawn = drawn_same h first.pass p q loaded taken.drawn;
        drew = drew_no_number h p q (ended_of (view_of d.pass) ∷ []) None went ∙ (taken.drew
            ∙ ap (λ (k : List ℕ). drawn_list first.pass ++ k) (sym (numbers-append more a ∙ append-nil (numbers_of more))));
        remains = subst (λ k. Remains terms.sessions k tally.remaining) (sym many) taken.remains;
        counted = subst (λ k. CountsUp tally.unstarted k) (sym missed) taken.counted;
      }

  -- none has ended
  pub goes_none : (h : Hub) (p : Pass) (s t : Stock L C N) → t.out ≡ s.out → Stays s.jobs t.jobs → Grows s.given_back t.given_back [] → s.unstarted ≤ t.unstarted → GoesOn works begins talk h p s p t
  goes_none h p s t same stays grew later terms first beside tally taken = record {
    events = taken.events;
    left = taken.left;
    came = taken.came;
    asks = taken.asks;
    asked = taken.asked;
    idle = taken.idle;
    quiet = taken.quiet;
    answered = taken.answered;
    begun = taken.begun;
    jobs = grows_still first.jobs s.jobs t.jobs (jobs_of taken.events) taken.jobs stays;
    given_back = grows_no_more first.given_back s.given_back t.given_back (ends_of taken.events) taken.given_back grew;
    fates = taken.fates;
    returned = rose_later (returned_of taken.events) first.unstarted s.unstarted t.unstarted taken.returned later;
    out = subst (λ (o : List (SessionJob L C N)). OutAfter works [] taken.events o) (sym same) taken.out;
    ours = subst (λ (o : List (SessionJob L C N)). AllOurs h o) (sym same) taken.ours;
    all_ended = taken.all_ended;
    went = taken.went;
    drawn = taken.drawn;
    drew = taken.drew;
    remains = taken.remains;
    counted = taken.counted;
  }

  pub goes_then : (h : Hub) (p m q : Pass) (s t u : Stock L C N) → GoesOn works begins talk h p s m t → GoesOn works begins talk h m t q u → GoesOn works begins talk h p s q u
  goes_then h p m q s t u a b terms first beside tally taken = b terms first beside tally (a terms first beside tally taken)

both_empty : {A : Type 0} → (xs ys : List A) → xs ++ ys ≡ [] → (xs ≡ []) × (ys ≡ [])
both_empty [] ys e = (refl, e)
both_empty {A} (x ∷ xs) ys e = absurd (let bad : x ∷ (xs ++ ys) ≡ [] = e in cc)

module _ {L C N : Type 0} (works : SessionJob L C N → SessionEnd L C N → Type 0) where
  -- none has ended
  pub takes_none : (h : Hub) (p : Pass) (s t : Stock L C N) → IsCaller h p → t.out ≡ s.out → Stays s.jobs t.jobs → Grows s.given_back t.given_back [] → s.unstarted ≤ t.unstarted
      → TakesIn works h p s p t
  takes_none h p s t is same stays grew later = record {
    late = [];
    none = refl;
    out = same;
    all_ended = tt;
    went = passed_none h p is;
    loaded = refl;
    same = λ e. refl;
    jobs = stays;
    given_back = grew;
    later = later;
  }

  -- one has ended, and its caller was taken in
  pub takes_one : (h : Hub) (p q : Pass) (s t : Stock L C N) (d : SessionEnd L C N) (e : Ends works s.out t.out d) → IsOurEnd h e.job d
      → Passed h p (ended_of (view_of d.pass) ∷ []) None q → newest_number q ≡ newest_number p → Stays s.jobs t.jobs → Grows s.given_back t.given_back (d ∷ []) → s.unstarted ≤ t.unstarted
      → TakesIn works h p s q t
  takes_one h p q s t d e is went loaded stays grew later = record {
    late = ended e.job d ∷ [];
    none = refl;
    out = (e.before, e.behind, e.was, e.worked, e.left);
    all_ended = (is, tt);
    went = went;
    loaded = loaded;
    same = λ empty. absurd (let bad : ended e.job d ∷ [] ≡ [] = empty in cc);
    jobs = stays;
    given_back = grew;
    later = later;
  }

  pub takes_then : (h : Hub) (p m q : Pass) (s t u : Stock L C N) → TakesIn works h p s m t → TakesIn works h m t q u → TakesIn works h p s q u
  takes_then h p m q s t u a b = record {
    late = a.late ++ b.late;
    none = links-append a.late b.late ∙ (ap (λ (k : List L). k ++ links_of b.late) a.none ∙ b.none);
    out = out_then works s.out t.out u.out a.late b.late a.out b.out;
    all_ended = all_ended_then h a.late b.late a.all_ended b.all_ended;
    went = subst (λ (k : List EndedCaller). Passed h p k None q) (sym (callers-append a.late b.late))
        (passed_then h p m q (callers_of a.late) (callers_of b.late) None a.went b.went);
    loaded = b.loaded ∙ a.loaded;
    same = λ empty. (let k = both_empty a.late b.late empty in b.same k.1 ∙ a.same k.0);
    jobs = stays_then s.jobs t.jobs u.jobs a.jobs b.jobs;
    given_back = subst (λ (k : List (SessionEnd L C N)). Grows s.given_back u.given_back k) (sym (ends-append a.late b.late))
        (grows_then s.given_back t.given_back u.given_back (ends_of a.late) (ends_of b.late) a.given_back b.given_back);
    later = (let x = a.later in let y = b.later in omega (arith, x, y));
  }

-- a caller that ended in a pass has in what the pass has seen its own list and no more
pub ended_so : (q : Pass) (front : List EndedCaller) (e : EndedCaller) (rest : List EndedCaller) → IsConsistent (view_of q) → ended_callers q ≡ front ++ e ∷ rest
    → ((view_of q).number ≢ e.number) × (own_of (seen q) e.number ≡ e.own)
ended_so q front e rest c same =
    let has : get_elem? (ended_callers q) (length front) ≡ some e =
    subst (λ (x : List EndedCaller). get_elem? x (length front) ≡ some e) (sym same) (at_middle front e rest) in
    let k = c.1 (length front) e has in
    (k.0, k.1)

module _ {L C N : Type 0} where
  all_stand : (h : Hub) (q : Pass) (H : List Entry) (front rest : List EndedCaller) (more : List (Event L C N)) → IsConsistent (view_of q)
      → ((n : ℕ) → (view_of q).number ≢ n → own H n ≡ own_of (seen q) n) → ended_callers q ≡ front ++ (callers_of more ++ rest)
      → AllEnded h more → AllStand H more
  all_stand h q H front rest [] c all same are = tt
  all_stand h q H front rest (arrived l f ∷ more) c all same are =
      all_stand h q H (front ++ caller_in f) rest more c all
      (same ∙ ap (λ (k : List EndedCaller). front ++ k) (append_assoc (caller_in f) (callers_of more) rest)
      ∙ sym (append_assoc front (caller_in f) (callers_of more ++ rest))) are
  all_stand h q H front rest (ended j d ∷ more) c all same are =
      let e : EndedCaller = ended_of (view_of d.pass) in
      let k = ended_so q front e (callers_of more ++ rest) c same in
      let number : e.number ≡ number_of j.pass = are.0.0.0.1.1.2 ∙ are.0.1 in (
        subst (λ n. own H n ≡ own_list d.pass) number (all e.number k.0 ∙ k.1),
        all_stand h q H (front ++ e ∷ []) rest more c all (same ∙ sym (append_assoc front (e ∷ []) (callers_of more ++ rest))) are.1,
      )

-- of another caller a stop found as much as the pass has then seen
stop_found : (h : Hub) (p q : Pass) (drew : ℕ) (took : List EndedCaller) (r : Result (Told Counts) AlreadyStopped) → Went h p drew took (stop_made (number_of p) r) q → (n : ℕ)
    → (view_of q).number ≢ n → own (found_history (stop_made (number_of p) r) q) n ≡ own_of (seen q) n
stop_found h p q drew took (Err already) w n apart = refl
stop_found h p q drew took (Ok t) w n apart =
    let m = w.makes in
    let s : Stamped = stop_stamped (number_of p) t.said in
    let split : entries (seen q) ≡ entries m.before ++ s.entry ∷ [] = ap entries m.ends ∙ entries-more m.before s in
    let place : length (entries m.before) ≡ t.at = length-map m.before (λ (x : Stamped). x.entry) ∙ sym m.place in
    let found : take t.at (entries (seen q)) ≡ entries m.before =
    ap (λ (x : List Entry). take t.at x) split ∙ take_at (entries m.before) (s.entry ∷ []) t.at place in
    let mine = w.caller.0.1.1.2 in
    ap (λ (x : List Entry). own x n) found
    ∙ sym (ap (λ (x : List Stamped). own_of x n) m.ends ∙ own_else m.before s n (λ e. apart (mine ∙ w.number ∙ e)))

-- What a stop found stays what it was, where the pass has since seen more.
pub found_still : (h : Hub) (p v q : Pass) (drew : ℕ) (took : List EndedCaller) (t : Told Counts) → Went h p drew took (stop_made (number_of p) (Ok t)) v → StartsWith (seen q) (seen v)
    → (before : List Entry) × (behind : List Entry) × (entries (seen q) ≡ before ++ stop_entry (number_of p) t.said ∷ behind) × (take t.at (entries (seen q)) ≡ before)
    × (take t.at (entries (seen v)) ≡ before)
found_still h p v q drew took t w more =
    let m = w.makes in
    let s : Stamped = stop_stamped (number_of p) t.said in
    let split : entries (seen v) ≡ entries m.before ++ s.entry ∷ [] = ap entries m.ends ∙ entries-more m.before s in
    let all : entries (seen q) ≡ entries m.before ++ s.entry ∷ entries more.0 =
    ap entries more.1 ∙ (map-append (λ (x : Stamped). x.entry) (seen v) more.0
    ∙ (ap (λ (x : List Entry). x ++ entries more.0) split ∙ append_assoc (entries m.before) (s.entry ∷ []) (entries more.0))) in
    let place : length (entries m.before) ≡ t.at = length-map m.before (λ (x : Stamped). x.entry) ∙ sym m.place in (
      entries m.before,
      entries more.0,
      all,
      ap (λ (x : List Entry). take t.at x) all ∙ take_at (entries m.before) (s.entry ∷ entries more.0) t.at place,
      ap (λ (x : List Entry). take t.at x) split ∙ take_at (entries m.before) (s.entry ∷ []) t.at place,
    )

module _ {L C N : Type 0} where
  -- all that the callers of ended jobs entered stands in the history that the stop found, also as the pass has it once it took in
  -- more
  pub stop_stands : (h : Hub) (p v q : Pass) (drew : ℕ) (more : List (Event L C N)) (rest last : List EndedCaller)
      (r : Result (Told Counts) AlreadyStopped) → Went h p drew (callers_of more ++ rest) (stop_made (number_of p) r) v
      → Passed h v last None q → AllEnded h more → AllStand (found_history (stop_made (number_of p) r) q) more
  stop_stands h p v q drew more rest last (Ok t) w x are =
      let k = found_still h p v q drew (callers_of more ++ rest) t w x.grows in
      subst (λ (H : List Entry). AllStand H more) (k.4 ∙ sym k.3)
      (all_stand h v (found_history (stop_made (number_of p) (Ok t)) v) (ended_callers p) rest more w.caller.0.1.1.5
      (stop_found h p v drew (callers_of more ++ rest) (Ok t) w) w.takes_in are)
  stop_stands h p v q drew more rest last (Err already) w x are =
      all_stand h q (entries (seen q)) (ended_callers p) (rest ++ last) more x.caller.0.1.1.5 (λ n apart. refl)
      (x.takes_in ∙ (ap (λ (k : List EndedCaller). k ++ last) w.takes_in
      ∙ (append_assoc (ended_callers p) (callers_of more ++ rest) last
      ∙ ap (λ (k : List EndedCaller). ended_callers p ++ k) (append_assoc (callers_of more) rest last)))) are
