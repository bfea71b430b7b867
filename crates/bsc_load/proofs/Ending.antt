-- The end of a workload.
-- It serves the clauses of `run_jobs`.
use Rattle.std.proofs.Common.{◌≡◌, ◌≤◌, ◌<◌, ◌+◌, ◌-◌, inl, inr, ℕ, Bool, true, false, cond, List, [], ◌++◌, length, map, Option, None, Result, Ok, Err, refl, ap, sym, ◌∙◌, subst, arith, append-nil}
use Rattle.std.specs.Prelude.{min, nat_lt}
use Rattle.std.specs.List.{range_with_len}
use Rattle.std.proofs.lemmas.Bool.{ltb-false, ltb-true}
use Rattle.std.proofs.lemmas.List.{length-map}
use Rattle.std.proofs.lemmas.List.Sums.{count_by-le-length}
use Rattle.bsc_history.specs.declared.counts.Counts.{Counts}
use Rattle.bsc_history.specs.declared.told.AlreadyStopped.{AlreadyStopped}
use Rattle.bsc_history.specs.declared.told.Told.{Told}
use Rattle.bsc_turn.specs.declared.pass.Pass.{Pass}
use Rattle.bsc_turn.specs.declared.view.EndedCaller.{EndedCaller}
use Rattle.bsc_turn.specs.Passes.{number_of, seen}
use Rattle.bsc_hub.specs.declared.hub.Hub.{Hub}
use Rattle.bsc_hub.specs.Calls.{stop_made}
use Rattle.bsc_hub.specs.Passing.{Passed, Placed, Went, about_of}
use Rattle.bsc_hub.proofs.Following.{passed_none, passed_then}
use Rattle.bsc_load.specs.declared.bounds.TheConstants.{WORKERS}
use Rattle.bsc_load.specs.declared.ends.LoadEnd.{LoadEnd}
use Rattle.bsc_load.specs.declared.ends.LoadStop.{LoadStop}
use Rattle.bsc_load.specs.declared.ends.LoadStop.TheVariants.{Short as ShortStop}
use Rattle.bsc_load.specs.declared.jobs.Job.{Job}
use Rattle.bsc_load.specs.declared.jobs.Sum.{Sum}
use Rattle.bsc_load.specs.declared.jobs.Work.{Work}
use Rattle.bsc_load.specs.Inner.{HaveRun, LoadFinishes, LoadJoins, LoadsFrom, Splits, Stops, cut_short, ends_as, indices, job_indices, within_32_bits, work_indices}
use Rattle.bsc_load.specs.Load.{LoadRan, Loads, Worker}
use Rattle.bsc_load.specs.Workers.{within_64_bits}
use Rattle.bsc_load.proofs.Joining.{all_cut_later, all_took_same}
use Rattle.bsc_load.proofs.Passing.{went_on}
use Rattle.bsc_load.proofs.Common.{stopped_now}

-- the workers that got a pass are those for which jobs were split off
many_workers : (xs : List Worker) (ws : List Work) (js : List Job) → indices xs ≡ work_indices ws → work_indices ws ≡ job_indices js → length xs ≡ length js
many_workers xs ws js a b = sym (length-map xs (λ (x : Worker). x.index)) ∙ ap (λ (l : List ℕ). length l) (a ∙ b) ∙ length-map js (λ (j : Job). j.index)

-- the callers that were taken in, and the entry that was made
ran_by : (h : Hub) (p m v q : Pass) (n : ℕ) (js : List Job) (ws : List Work) (sum : Sum) (made : Option Placed) → Splits h p m n js → HaveRun h js ws → (j : LoadJoins h ws m v sum)
    → Passed h v [] made q → (r : LoadRan h p q n j.workers made) × (r.drew ≡ min n (length js + 1))
ran_by h p m v q n js ws sum made split run j last =
    let xs = j.workers in
    let callers = map (λ (w : Worker). w.caller) xs in
    let many = many_workers xs ws js j.same run.same in
    let ran : LoadRan h p q n xs made = record {
      drew = min n (length js + 1);
      went =
          subst (λ (l : List EndedCaller). Went h p (min n (length js + 1)) l made q) (append-nil callers)
          (went_on h p m q (min n (length js + 1)) [] (callers ++ []) made split.went (passed_then h m v q callers [] made j.passed last));
      numbered = j.same ∙ run.same ∙ split.numbered ∙ ap (range_with_len 0) (sym many);
      within = omega (arith, many, split.within);
      few = omega arith;
      parts = j.parts;
    } in
    (ran, refl)

-- a stop's entry has the number of the pass that was given
same_stop : (h : Hub) (p m v q : Pass) (told : Result (Told Counts) AlreadyStopped) (n : ℕ) (js : List Job) (ws : List Work) (sum : Sum) → Splits h p m n js → LoadJoins h ws m v sum
    → Stops h v q told → Passed h v [] (stop_made (number_of p) told) q
same_stop h p m v q told n js ws sum split j s = subst (λ k. Passed h v [] (stop_made k told) q) (j.passed.number ∙ split.went.number) s.passed

-- at least one worker was cut short or got no pass
some_short : (h : Hub) (p m v q : Pass) (n without short : ℕ) (js : List Job) (ws : List Work) (sum : Sum) (told : Result (Told Counts) AlreadyStopped) → n ≤ WORKERS
    → without ≡ n - length js → short ≡ within_32_bits (sum.short + without) →
    Splits h p m n js → HaveRun h js ws → LoadJoins h ws m v sum → Stops h v q told → 0 < short → Loads h p q n (Err (ShortStop short))
some_short h p m v q n without short js ws sum told few rest all split run j s some =
    let xs = j.workers in
    let many = many_workers xs ws js j.same run.same in
    let ran = ran_by h p m v q n js ws sum (stop_made (number_of p) told) split run j (same_stop h p m v q told n js ws sum split j s) in
    record {
      workers = xs;
      told = told;
      ran = ran.0;
      some = some;
      count = omega (arith, few, rest, all, many, split.within, j.short, count_by-le-length (λ (w : Worker). w.is_cut) xs);
      cut = all_cut_later h v q xs s.passed.grows j.cut;
      without = λ less. s.loaded ∙ j.loaded ∙ split.spent (omega (arith, less, many));
      tried = ran.1 ∙ ap (λ (k : ℕ). min n (k + 1)) (sym many);
      stopped = stopped_now h v q told s;
    }

-- none was
none_short : (h : Hub) (p m v q : Pass) (n without short : ℕ) (js : List Job) (ws : List Work) (sum : Sum) (told : Result (Told Counts) AlreadyStopped) → n ≤ WORKERS
    → without ≡ n - length js → short ≡ within_32_bits (sum.short + without) →
    Splits h p m n js → HaveRun h js ws → LoadJoins h ws m v sum → Stops h v q told → short ≤ 0 → sum.lacks_memory ≡ false → Loads h p q n (ends_as told sum.octets)
none_short h p m v q n without short js ws sum (Ok t) few rest all split run j s none fine =
    let xs = j.workers in
    let many = many_workers xs ws js j.same run.same in
    let zero : cut_short xs ≡ 0 = omega (arith, none, all, j.short, few, rest, count_by-le-length (λ (w : Worker). w.is_cut) xs, many, split.within) in
    let whole = j.whole fine zero in
    record {
      workers = xs;
      told = t;
      ran = (ran_by h p m v q n js ws sum (stop_made (number_of p) (Ok t)) split run j (same_stop h p m v q (Ok t) n js ws sum split j s)).0;
      all = omega (arith, none, all, rest, many, split.within, few);
      whole = whole.0;
      counts = s.due;
      octets = whole.1 ∙ ap within_64_bits (all_took_same (about_of h) (seen v) (seen q) xs s.passed.grows j.took);
    }
none_short h p m v q n without short js ws sum (Err already) few rest all split run j s none fine =
    let xs = j.workers in
    let many = many_workers xs ws js j.same run.same in
    let zero : cut_short xs ≡ 0 = omega (arith, none, all, j.short, few, rest, count_by-le-length (λ (w : Worker). w.is_cut) xs, many, split.within) in
    let whole = j.whole fine zero in
    record {
      workers = xs;
      ran = (ran_by h p m v q n js ws sum None split run j (same_stop h p m v q (Err already) n js ws sum split j s)).0;
      all = omega (arith, none, all, rest, many, split.within, few);
      whole = whole.0;
      place = s.place;
    }

answered : (h : Hub) (p m v q : Pass) (n without short : ℕ) (js : List Job) (ws : List Work) (sum : Sum) (told : Result (Told Counts) AlreadyStopped) (b : Bool) → nat_lt 0 short ≡ b
    → n ≤ WORKERS → without ≡ n - length js → short ≡ within_32_bits (sum.short + without) →
    Splits h p m n js → HaveRun h js ws → LoadJoins h ws m v sum → Stops h v q told → sum.lacks_memory ≡ false → Loads h p q n (cond b (Err (ShortStop short)) (ends_as told sum.octets))
answered h p m v q n without short js ws sum told true is few rest all split run j s fine = some_short h p m v q n without short js ws sum told few rest all split run j s (ltb-true 0 short is)
answered h p m v q n without short js ws sum told false is few rest all split run j s fine = none_short h p m v q n without short js ws sum told few rest all split run j s (ltb-false 0 short is) fine

-- from the jobs on
pub loads_from : (h : Hub) (m q : Pass) (n without : ℕ) (js : List Job) (ws : List Work) (result : Result LoadEnd LoadStop) → n ≤ WORKERS → without ≡ n - length js → HaveRun h js ws
    → LoadFinishes h ws without m q result → LoadsFrom h m n js q result
loads_from h m q n without js ws result few rest run f p split =
    elim f.ends [
      | inl lacks ↦ subst (λ (r : Result LoadEnd LoadStop). Loads h p q n r) (sym lacks.2) (
        f.joins.workers,
        subst (λ (x : Pass). LoadRan h p x n f.joins.workers None) (sym lacks.1)
            (ran_by h p m f.pass f.pass n js ws f.sum None split run f.joins (passed_none h f.pass f.joins.passed.caller)).0,
      )
      | inr fine ↦ (
          let short = within_32_bits (f.sum.short + without) in
          subst (λ (r : Result LoadEnd LoadStop). Loads h p q n r) (sym fine.1.2)
          (answered h p m f.pass q n without short js ws f.sum fine.1.0 (nat_lt 0 short) refl few rest refl split run f.joins fine.1.1 fine.0))
    ]
