use Rattle.std.proofs.Common.{◌≡◌, ◌+◌, List, [], ◌∷◌, ◌++◌, length, refl, ap, sym, ◌∙◌, subst, arith, length-append}
use Rattle.std.specs.List.{AllByRecursion}
use Rattle.bsc_load.specs.declared.jobs.Job.{Job}
use Rattle.bsc_load.specs.Inner.{IsJob, job_indices}
use Rattle.bsc_load.proofs.Splitting.{asked_more, asks_more, indices_more}
use Rattle.bsc_load.proofs.passes.split_for.Goals as goal
use Rattle.bsc_lemmas.proofs.Lists.{all-push as all_push}

pub loop-index-preserved : goal.loop-index-preserved
loop-index-preserved g c =
    let h = c.args.hub.now in
    let k = c.loop-index.index in
    let js = c.loop-index.jobs.items in
    let inv = c.loop-index.invariant in
    let s = c.in-Ok.ensures in
    let j : Job = record { index = k; pass = c.in-Ok.new } in
    let items : c.push.new.self.items ≡ js ++ j ∷ [] = c.in_ok-push-in-Ok.ensures.items in
    let one : IsJob h j = record { caller = s.new; own = s.seen.1; ended = s.seen.2; fresh = s.fresh; index = omega (arith, c.loop-index-test.true, c.requires.workers) } in
    let many : length c.push.new.self.items ≡ length js + 1 = ap (λ (l : List Job). length l) items ∙ length-append js (j ∷ []) in (
      asked_more h c.args.pass.now c.loop-index.pass c.split.new.pass k inv.0 s.pass,
      subst (λ (l : List Job). AllByRecursion (IsJob h) l) (sym items) (all_push (IsJob h) js j inv.1 one),
      ap job_indices items ∙ indices_more js j k refl inv.2,
      omega (arith, many, inv.3),
    )

pub returns-in-Err-clause-asks : goal.returns-in-Err-clause-asks
returns-in-Err-clause-asks g c =
    asks_more c.args.hub.now c.args.pass.now c.loop-index.pass c.split.new.pass c.args.workers c.loop-index.index c.loop-index-test.true c.loop-index.invariant.0 c.split.ensures.pass

pub returns-in_err-push-in-Ok-clause-asks : goal.returns-in_err-push-in-Ok-clause-asks
returns-in_err-push-in-Ok-clause-asks g c =
    asks_more c.args.hub.now c.args.pass.now c.loop-index.pass c.split.new.pass c.args.workers c.loop-index.index c.loop-index-test.true c.loop-index.invariant.0 c.split.ensures.pass
