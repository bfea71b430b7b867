-- One link more in the loop that takes links, or one end of a session.
-- It serves the clauses of `accept_all` and `take_next`.
use Rattle.std.proofs.Common.{inl, inr, ◌≡◌, ℕ, zero, suc, ◌+◌, ◌≤◌, List, [], ◌∷◌, ◌++◌, length, Bool, Option, Some, None, Ok, Err, refl, ap, sym, ◌∙◌, subst, arith, append-nil}
use Rattle.std.proofs.Common.{append_assoc, length-append}
use Rattle.std.specs.Prelude.{◌≢◌, ◌⊎◌, map, true}
use Rattle.bsc_turn.specs.declared.pass.Pass.{Pass}
use Rattle.bsc_turn.specs.declared.view.EndedCaller.{EndedCaller}
use Rattle.bsc_turn.specs.Histories.{StartsWith}
use Rattle.bsc_turn.specs.Passes.{drawn_list, newest_number, number_of, seen}
use Rattle.bsc_hub.specs.declared.hub.Hub.{Hub}
use Rattle.bsc_hub.specs.Passing.{IsCaller, Went}
use Rattle.bsc_hub.proofs.Following.{passed_none, starts_then, went_then}
use Rattle.bsc_edge.specs.declared.arrived.Arrived.TheVariants.{Link, Quiet}
use Rattle.bsc_edge.specs.declared.fault.LinkFault.{LinkFault}
use Rattle.bsc_edge.specs.declared.begun.Begun.{Begun}
use Rattle.bsc_edge.specs.declared.said.Said.{Said}
use Rattle.bsc_edge.specs.Told.{Grows, Leaves}
use Rattle.bsc_outside.specs.Faults.{HasRisen}
use Rattle.bsc_edge.proofs.Common.{grows_none, grows_then}
use Rattle.bsc_serve.specs.declared.bounds.TheConstants.{WAIT_MS}
use Rattle.bsc_serve.specs.declared.halt.Halt.{Halt}
use Rattle.bsc_serve.specs.declared.halt.Halt.TheVariants.{JournalFault}
use Rattle.bsc_session.specs.declared.job.SessionJob.{SessionJob}
use Rattle.bsc_session.specs.declared.session_end.SessionEnd.{SessionEnd}
use Rattle.bsc_serve.specs.Events.{Event, OutAfter, arrived, begun_call, begun_of, callers_of, ends_of, jobs_of, links_of, numbers_in, numbers_of, returned_of, unstarted_of}
use Rattle.bsc_serve.specs.Fates.{Fate, IsFate, IsSplitIn, caller_in, job_in, returned, spent, started}
use Rattle.bsc_serve.specs.declared.tally.Tally.{Tally}
use Rattle.bsc_serve.specs.Terms.{Terms}
use Rattle.bsc_serve.specs.Inner.{AllOurs, Draws, DrawsFor, Fared, Halted, LacksRoom, Taken, fault_halt, giver, limit_of, stock_of}
use Rattle.bsc_serve.specs.Serving.{IsWithin, Loses, RoseBy}
use Rattle.bsc_serve.specs.Tallies.{CountsUp, Remains, one_unless}
use Rattle.bsc_serve.specs.Worlds.{ServeWorld}
use Rattle.bsc_serve.proofs.Arrivals.{SpentStays, all_ended_then, asks_once, begun-append, callers-append, ends-append, fates_later, fates_then, grows_no_more, grows_still}
use Rattle.bsc_serve.proofs.Arrivals.{jobs-append, links-append, loses_failed, loses_more, loses_none, loses_still, numbers-append, out_then, returned-append, rose_later}
use Rattle.bsc_serve.proofs.Arrivals.{rose_then, unstarted-append}

-- a loop that began at p and stands at m has drawn no fewer numbers, or all
abbrev HasDrawn : Hub → Pass → Pass → Type 0
HasDrawn h p m = (newest_number p ≤ newest_number m) ⊎ (newest_number m ≡ limit_of h)

drawn_past : (h : Hub) (p m q : Pass) → HasDrawn h p m → Draws h m q → newest_number p ≤ newest_number m
drawn_past h p m q (inl a) d = a
drawn_past h p m q (inr a) d = absurd (omega (arith, a, d.0, d.1))

drawn_draws : (h : Hub) (p m q : Pass) → HasDrawn h p m → Draws h m q → HasDrawn h p q
drawn_draws h p m q a d = (let k = drawn_past h p m q a d in inl (omega (arith, k, d.0)))

stays_draws : (h : Hub) (m q : Pass) → Draws h m q → SpentStays h m q
stays_draws h m q d e = absurd (omega (arith, e, d.0, d.1))

module _ {J : Type 0} where
  drawn_later : (h : Hub) (p m q : Pass) (f : Fate J) → HasDrawn h p m → DrawsFor h m q f → HasDrawn h p q
  drawn_later h p m q (started j) a d = drawn_draws h p m q a d
  drawn_later h p m q (returned e) a d = drawn_draws h p m q a d
  drawn_later h p m q spent a d = inr d

  spent_stays : (h : Hub) (m q : Pass) (f : Fate J) → DrawsFor h m q f → SpentStays h m q
  spent_stays h m q (started j) d = stays_draws h m q d
  spent_stays h m q (returned e) d = stays_draws h m q d
  spent_stays h m q spent d = λ e. d

split_before : (h : Hub) (p m q x : Pass) → number_of m ≡ number_of p → StartsWith (seen m) (seen p) → newest_number p ≤ newest_number m → IsSplitIn h m q x → IsSplitIn h p q x
split_before h p m q x number begins drawn is = record {
  caller = is.caller;
  new = is.new;
  number = (let k = is.number in omega (arith, k, number));
  drawn = (let k = is.drawn in omega (arith, k, drawn));
  room = is.room;
  since = starts_then (seen p) (seen m) (seen x) begins is.since;
  by = is.by;
}

rose_once : (a b : ℕ) → HasRisen a b → RoseBy 1 a b
rose_once a b (inl x) = inl (omega (arith, x))
rose_once a b (inr x) = inr x

begins_so : (sessions : Option ℕ) → Remains sessions 0 sessions
begins_so None = tt
begins_so (Some s) = omega arith

-- of links that may still come, one more may; and no more have come than are awaited
within_more : (sessions : Option ℕ) (n : ℕ) (k : Option ℕ) → k ≢ Some 0 → Remains sessions n k → IsWithin sessions (n + 1)
within_more None n k more_come r = tt
within_more (Some s) n None more_come r = absurd r
within_more (Some s) n (Some zero) more_come r = absurd (more_come refl)
within_more (Some s) n (Some (suc k)) more_come r = omega (arith, r)

within_now : (sessions : Option ℕ) (n : ℕ) (k : Option ℕ) → Remains sessions n k → IsWithin sessions (n + 0)
within_now None n k r = tt
within_now (Some s) n None r = absurd r
within_now (Some s) n (Some k) r = omega (arith, r)

module _ {L C N : Type 0} where
  pub ours_then : (h : Hub) (xs ys : List (SessionJob L C N)) → AllOurs h xs → AllOurs h ys → AllOurs h (xs ++ ys)
  ours_then h [] ys a b = b
  ours_then h (x ∷ xs) ys a b = (a.0, ours_then h xs ys a.1 b)

module _ {L C N : Type 0} (begins : Option (List ℕ) → ℕ → N → Type 0) (talk : L → Option (List Said)) where
  fate_before : (h : Hub) (terms : Terms) (p m q : Pass) (l : L) (f : Fate (SessionJob L C N)) → number_of m ≡ number_of p → StartsWith (seen m) (seen p) → HasDrawn h p m → DrawsFor h m q f
      → IsFate begins talk h terms m q l f → IsFate begins talk h terms p q l f
  fate_before h terms p m q l (started j) number begins drawn d is = record {
    link = is.link;
    hub = is.hub;
    pass = split_before h p m q j.pass number begins (drawn_past h p m q drawn d) is.pass;
    limits = is.limits;
    turns = is.turns;
    journal = is.journal;
    is_recorded = is.is_recorded;
    policy = is.policy;
  }
  fate_before h terms p m q l (returned e) number begins drawn d is = is
  fate_before h terms p m q l spent number begins drawn d is = is

  fate_ours : (h : Hub) (terms : Terms) (p q : Pass) (l : L) (f : Fate (SessionJob L C N)) → IsFate begins talk h terms p q l f → AllOurs h (job_in f)
  fate_ours h terms p q l (started j) is = ((is.hub, is.pass.new.1), tt)
  fate_ours h terms p q l (returned e) is = tt
  fate_ours h terms p q l spent is = tt

module _ {L C N : Type 0} (works : SessionJob L C N → SessionEnd L C N → Type 0) (begins : Option (List ℕ) → ℕ → N → Type 0) (talk : L → Option (List Said)) where
  -- before the first link
  pub taken_begins : (h : Hub) (terms : Terms) (w : ServeWorld L C N) (tally : Tally) → IsCaller h w.pass
      → w.out ≡ [] → tally.remaining ≡ terms.sessions → tally.unstarted ≡ 0 → Taken works begins talk h terms w w tally
  taken_begins h terms w tally is all_in same none = record {
    events = [];
    left = loses_none w.links;
    came = grows_none w.came;
    asks = 0;
    asked = grows_none w.waits;
    idle = 0;
    quiet = inl (omega arith);
    answered = omega arith;
    begun = grows_none w.begun;
    jobs = grows_none w.jobs;
    given_back = grows_none w.given_back;
    fates = tt;
    returned = inl (omega arith);
    out = all_in;
    ours = subst (λ (o : List (SessionJob L C N)). AllOurs h o) (sym all_in) tt;
    all_ended = tt;
    went = passed_none h w.pass is;
    drawn = inl (omega arith);
    drew = sym (append-nil (drawn_list w.pass));
    remains = subst (λ x. Remains terms.sessions 0 x) (sym same) (begins_so terms.sessions);
    counted = inl none;
  }

  -- none arrived
  pub taken_still : (h : Hub) (terms : Terms) (w m : ServeWorld L C N) (links came : Option (List L)) (waits : Option (List ℕ)) (quiets : ℕ)
      (tally : Tally) → Taken works begins talk h terms w m tally → Leaves m.links links (Ok Quiet) → Grows m.came came [] → Grows m.waits waits (WAIT_MS ∷ []) → HasRisen m.quiets quiets
      → Taken works begins talk h terms w (record m { links = links; came = came; waits = waits; quiets = quiets }) tally
  taken_still h terms w m links came waits quiets tally t lost none asked rose = record {
    events = t.events;
    left = loses_still w.links m.links links (links_of t.events) t.left lost;
    came = grows_no_more w.came m.came came (links_of t.events) t.came none;
    asks = t.asks + 1;
    asked = asks_once w.waits m.waits waits t.asks t.asked asked;
    idle = t.idle + 1;
    quiet = rose_then t.idle 1 w.quiets m.quiets quiets t.quiet (rose_once m.quiets quiets rose);
    answered = (let k = t.answered in omega (arith, k));
    begun = t.begun;
    jobs = t.jobs;
    given_back = t.given_back;
    fates = t.fates;
    returned = t.returned;
    out = t.out;
    ours = t.ours;
    all_ended = t.all_ended;
    went = t.went;
    drawn = t.drawn;
    drew = t.drew;
    remains = t.remains;
    counted = t.counted;
  }

  -- one arrived, and this became of it
  pub taken_more : (h : Hub) (terms : Terms) (w m v : ServeWorld L C N) (tally tally' : Tally) (x : L) (is_started : Bool)
      → Taken works begins talk h terms w m tally → Leaves m.links v.links (Ok (Link x)) → Grows m.came v.came (x ∷ []) → Grows m.waits v.waits (WAIT_MS ∷ []) → m.quiets ≤ v.quiets
      → Fared begins talk h terms x (giver m.pass (stock_of m) m.begun) (giver v.pass (stock_of v) v.begun) is_started
      → ((s : Option ℕ) (n : ℕ) → Remains s n tally.remaining → Remains s (n + 1) tally'.remaining)
      → ((u : ℕ) → CountsUp tally.unstarted u → CountsUp tally'.unstarted (u + one_unless is_started))
      → Taken works begins talk h terms w v tally'
  taken_more h terms w m v tally tally' x is_started t lost new asked later r counts_on counts_up =
      let p = w.pass in
      let n = m.pass in
      let q = v.pass in
      let a : List (Event L C N) = arrived x r.fate ∷ [] in
      let more = t.events in
      let links : links_of (more ++ a) ≡ links_of more ++ x ∷ [] = links-append more a in
      let one : length (links_of (more ++ a)) ≡ length (links_of more) + 1 =
      ap (λ (xs : List L). length xs) links ∙ length-append (links_of more) (x ∷ []) in
      let jobs : jobs_of (more ++ a) ≡ jobs_of more ++ job_in r.fate =
      jobs-append more a ∙ ap (λ (xs : List (SessionJob L C N)). jobs_of more ++ xs) (append-nil (job_in r.fate)) in
      let callers : callers_of (more ++ a) ≡ callers_of more ++ caller_in r.fate =
      callers-append more a ∙ ap (λ (xs : List EndedCaller). callers_of more ++ xs) (append-nil (caller_in r.fate)) in
      let many : returned_of (more ++ a) ≡ returned_of more + length (caller_in r.fate) =
      (let k = returned-append more a in omega (arith, k)) in
      let unstarted_so : unstarted_of (more ++ a) ≡ unstarted_of more + one_unless is_started =
      (let k = unstarted-append more a in let c = r.counts in omega (arith, k, c)) in
      let calls : begun_of terms.prefix (more ++ a) ≡ begun_of terms.prefix more ++ map (begun_call terms.prefix true) (numbers_in r.fate) =
      begun-append terms.prefix more a ∙ ap (λ (xs : List ℕ). begun_of terms.prefix more ++ map (begun_call terms.prefix true) xs) (append-nil (numbers_in r.fate)) in
      let went : Went h p (length (links_of more) + 1) (callers_of more ++ caller_in r.fate) None q =
      went_then h p n q (length (links_of more)) 1 (callers_of more) (caller_in r.fate) None t.went r.went in
      let is = fate_before begins talk h terms p n q x r.fate t.went.number t.went.grows t.drawn r.draws r.is in
      record {
        events = more ++ a;
        left = subst (λ xs. Loses w.links v.links xs) (sym links) (loses_more w.links m.links v.links (links_of more) x t.left lost);
        came = subst (λ xs. Grows w.came v.came xs) (sym links) (grows_then w.came m.came v.came (links_of more) (x ∷ []) t.came new);
        asks = t.asks + 1;
        asked = asks_once w.waits m.waits v.waits t.asks t.asked asked;
        idle = t.idle;
        quiet = rose_later t.idle w.quiets m.quiets v.quiets t.quiet later;
        answered = (let k = t.answered in omega (arith, k, one));
        begun = subst (λ (xs : List Begun). Grows w.begun v.begun xs) (sym calls)
            (grows_then w.begun m.begun v.begun (begun_of terms.prefix more) (map (begun_call terms.prefix true) (numbers_in r.fate)) t.begun r.begun);
        jobs = subst (λ xs. Grows w.jobs v.jobs xs) (sym jobs)
            (grows_then w.jobs m.jobs v.jobs (jobs_of more) (job_in r.fate) t.jobs r.jobs);
        given_back = subst (λ xs. Grows w.given_back v.given_back xs) (sym (ends-append more a ∙ append-nil (ends_of more)))
            (grows_still w.given_back m.given_back v.given_back (ends_of more) t.given_back r.given_back);
        fates = fates_then begins talk h terms p q more a
            (fates_later begins talk h terms p n q more r.went.grows (spent_stays h n q r.fate r.draws) t.fates) (is, tt);
        returned = subst (λ k. RoseBy k w.unstarted v.unstarted) (sym many)
            (rose_then (returned_of more) (length (caller_in r.fate)) w.unstarted m.unstarted v.unstarted t.returned r.rose);
        out = out_then works [] m.out v.out more a t.out r.out;
        ours = subst (λ (o : List (SessionJob L C N)). AllOurs h o) (sym r.out)
            (ours_then h m.out (job_in r.fate) t.ours (fate_ours begins talk h terms n q x r.fate r.is));
        all_ended = all_ended_then h more a t.all_ended tt;
        went = subst (λ k. Went h p k (callers_of (more ++ a)) None q) (sym one)
            (subst (λ xs. Went h p (length (links_of more) + 1) xs None q) (sym callers) went);
        drawn = drawn_later h p n q r.fate t.drawn r.draws;
        drew = r.drew ∙ (ap (λ (k : List ℕ). k ++ numbers_in r.fate) t.drew
            ∙ (append_assoc (drawn_list p) (numbers_of more) (numbers_in r.fate)
            ∙ ap (λ (k : List ℕ). drawn_list p ++ k) (sym (numbers-append more a ∙ ap (λ (k : List ℕ). numbers_of more ++ k) (append-nil (numbers_in r.fate))))));
        remains = subst (λ k. Remains terms.sessions k tally'.remaining) (sym one)
            (counts_on terms.sessions (length (links_of more)) t.remains);
        counted = subst (λ k. CountsUp tally'.unstarted k) (sym unstarted_so) (counts_up (unstarted_of more) t.counted);
      }

  -- the acceptor failed
  pub halted_now : (h : Hub) (terms : Terms) (w m : ServeWorld L C N) (links came : Option (List L)) (waits : Option (List ℕ)) (quiets : ℕ)
      (tally : Tally) (fault : LinkFault) (halt : Halt) → halt ≢ JournalFault → Taken works begins talk h terms w m tally → Leaves m.links links (Err fault)
      → Grows m.came came [] → Grows m.waits waits (WAIT_MS ∷ []) → m.quiets ≤ quiets
      → Halted works begins talk h terms w (record m { links = links; came = came; waits = waits; quiets = quiets }) halt
  halted_now h terms w m links came waits quiets tally fault halt other t lost none asked later =
      let all : length (links_of t.events) ≡ length (links_of t.events) + 0 = omega arith in
      record {
        events = t.events;
        cut = None;
        cut_last = other;
        cut_so = tt;
        left = subst (λ xs. Loses w.links links xs) (sym (append-nil (links_of t.events)))
            (loses_failed w.links m.links links (links_of t.events) fault t.left lost);
        came = subst (λ xs. Grows w.came came xs) (sym (append-nil (links_of t.events)))
            (grows_no_more w.came m.came came (links_of t.events) t.came none);
        within = within_now terms.sessions (length (links_of t.events)) tally.remaining t.remains;
        asks = t.asks + 1;
        asked = asks_once w.waits m.waits waits t.asks t.asked asked;
        idle = t.idle;
        quiet = rose_later t.idle w.quiets m.quiets quiets t.quiet later;
        answered = inr ((let k = t.answered in omega (arith, k)), refl);
        begun = subst (λ (xs : List Begun). Grows w.begun m.begun xs) (sym (append-nil (begun_of terms.prefix t.events))) t.begun;
        jobs = t.jobs;
        given_back = t.given_back;
        fates = t.fates;
        returned = t.returned;
        out = t.out;
        ours = t.ours;
        all_ended = t.all_ended;
        went = subst (λ k. Went h w.pass k (callers_of t.events ++ []) None m.pass) all
            (subst (λ xs. Went h w.pass (length (links_of t.events)) xs None m.pass) (sym (append-nil (callers_of t.events))) t.went);
        drew = t.drew ∙ ap (λ (k : List ℕ). drawn_list w.pass ++ k) (sym (append-nil (numbers_of t.events)));
      }

  -- one arrived, whose job couldn't be made
  pub halted_cut : (h : Hub) (terms : Terms) (w m v : ServeWorld L C N) (tally : Tally) (x : L) (fault : LinkFault) (halt : Halt)
      → halt ≡ fault_halt fault → Taken works begins talk h terms w m tally → tally.remaining ≢ Some 0 → Leaves m.links v.links (Ok (Link x))
      → Grows m.came v.came (x ∷ []) → Grows m.waits v.waits (WAIT_MS ∷ []) → m.quiets ≤ v.quiets
      → LacksRoom talk h terms.prefix x (giver m.pass (stock_of m) m.begun) (giver v.pass (stock_of v) v.begun) fault
      → Halted works begins talk h terms w v halt
  halted_cut h terms w m v tally x fault halt so t more_come lost new asked later r = record {
    events = t.events;
    cut = Some (record { link = x; caller = r.caller; came = r.came; fault = fault });
    cut_last = (so, r.unused);
    cut_so = (r.none, r.turned);
    left = loses_more w.links m.links v.links (links_of t.events) x t.left lost;
    came = grows_then w.came m.came v.came (links_of t.events) (x ∷ []) t.came new;
    within = within_more terms.sessions (length (links_of t.events)) tally.remaining more_come t.remains;
    asks = t.asks + 1;
    asked = asks_once w.waits m.waits v.waits t.asks t.asked asked;
    idle = t.idle;
    quiet = rose_later t.idle w.quiets m.quiets v.quiets t.quiet later;
    answered = inl (let k = t.answered in omega (arith, k));
    begun = grows_then w.begun m.begun v.begun (begun_of terms.prefix t.events) (begun_call terms.prefix r.came r.caller.number ∷ []) t.begun r.begun;
    jobs = subst (λ xs. Grows w.jobs v.jobs xs) (append-nil (jobs_of t.events))
        (grows_then w.jobs m.jobs v.jobs (jobs_of t.events) [] t.jobs r.jobs);
    given_back = grows_still w.given_back m.given_back v.given_back (ends_of t.events) t.given_back r.given_back;
    fates = fates_later begins talk h terms w.pass m.pass v.pass t.events r.went.grows (stays_draws h m.pass v.pass r.draws) t.fates;
    returned = rose_later (returned_of t.events) w.unstarted m.unstarted v.unstarted t.returned r.later;
    out = subst (λ (o : List (SessionJob L C N)). OutAfter works [] t.events o) (sym r.out) t.out;
    ours = subst (λ (o : List (SessionJob L C N)). AllOurs h o) (sym r.out) t.ours;
    all_ended = t.all_ended;
    went = went_then h w.pass m.pass v.pass (length (links_of t.events)) 1 (callers_of t.events) (r.caller ∷ []) None t.went r.went;
    drew = r.drew ∙ (ap (λ (k : List ℕ). k ++ r.caller.number ∷ []) t.drew ∙ append_assoc (drawn_list w.pass) (numbers_of t.events) (r.caller.number ∷ []));
  }
