use Rattle.std.proofs.Common.{rules, ◌≡◌, List, ◌∷◌, ◌++◌, [], false, length, refl, ap, sym, ◌∙◌, subst, arith, append_assoc}
use Rattle.std.specs.List.{AllByRecursion}
use Rattle.std.specs.Vec.Iter.{into_iter_items}
use Rattle.bsc_load.specs.declared.jobs.Work.{Work}
use Rattle.bsc_load.specs.Inner.{HasRun}
use Rattle.bsc_load.proofs.Joining.{joins_more, joins_none}
use Rattle.bsc_load.proofs.passes.join_all.Goals as goal

pub loop-work-init : goal.loop-work-init
loop-work-init c =
    let gives = c.into_iter-work-iterator.ensures.into_iter_gives in
    let all = subst (λ (l : List Work). AllByRecursion (HasRun c.args.hub.now) l) (sym gives.0) c.requires.works in
    (refl, joins_none c.args.hub.now c.args.pass.now (record { octets = 0; short = 0; lacks_memory = false }) c.requires.caller refl refl refl, all, search rules)

pub loop-work-preserved : goal.loop-work-preserved
loop-work-preserved c =
    let h = c.args.hub.now in
    let at = c.loop-work in
    let w = c.in-Some.work in
    let rest = into_iter_items c.next.new.self in
    let steps : into_iter_items at.work-iterator ≡ w ∷ rest = c.in-Some.ensures.steps.0 in
    let all : AllByRecursion (HasRun h) (w ∷ rest) = subst (λ (l : List Work). AllByRecursion (HasRun h) l) steps at.invariant.2 in
    let gone = c.in-Some.ensures.steps.1 in
    let short = ap (λ (l : List Work). length l) steps in (
      append_assoc at.yielded (w ∷ []) rest ∙ subst (λ (l : List Work). at.yielded ++ l ≡ into_iter_items c.into_iter-work-iterator.result) steps at.invariant.0,
      joins_more h at.yielded w c.args.pass.now at.pass c.join.new.pass at.sum c.count_in-sum.result at.invariant.1 all.0 c.join.ensures.pass c.join.ensures.seen.2 c.join.ensures.loaded
          c.count_in-sum.ensures,
      all.1,
      omega (arith, at.invariant.3, gone, short),
    )
