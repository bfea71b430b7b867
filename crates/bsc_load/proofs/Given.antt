-- Lists that go with one another, element by element.
-- It serves the clauses of `run_all`.
use Rattle.std.proofs.Common.{◌≡◌, ◌<◌, ℕ, suc, List, [], ◌∷◌, length, refl, ap, sym, ◌∙◌, subst, arith}
use Rattle.std.specs.List.{slice_index_or}
use Rattle.bsc_hub.specs.declared.hub.Hub.{Hub}
use Rattle.bsc_load.specs.declared.jobs.Job.{Job}
use Rattle.bsc_load.specs.declared.jobs.Work.{Work}
use Rattle.bsc_load.specs.Inner.{HaveRun, RunsJob, work_indices}

-- each work came of the job at its place
abbrev pub Comes : Hub → List Job → List Work → Type 0
Comes h js ws = (i : ℕ) (d : Work) → i < length js → (j : Job) × ((e : Job) → slice_index_or js i e ≡ j) × RunsJob h j (slice_index_or ws i d)

pub have_run : (h : Hub) (js : List Job) (ws : List Work) → length ws ≡ length js → Comes h js ws → HaveRun h js ws
have_run h [] [] many each = record { many = many; same = refl; run = tt }
have_run h [] (w ∷ ws) many each = absurd (omega (arith, many))
have_run h (j ∷ js) [] many each = absurd (omega (arith, many))
have_run h (j ∷ js) (w ∷ ws) many each =
    let first = each 0 w (omega arith) in
    let did : RunsJob h j w = subst (λ (x : Job). RunsJob h x w) (sym (first.1 j)) first.2 in
    let rest = have_run h js ws (omega (arith, many)) (λ i d l. each (suc i) d (omega (arith, l))) in
    record {
      many = many;
      same = ap (λ (n : ℕ). n ∷ work_indices ws) did.0 ∙ ap (λ (l : List ℕ). j.index ∷ l) rest.same;
      run = (did.1, rest.run);
    }
