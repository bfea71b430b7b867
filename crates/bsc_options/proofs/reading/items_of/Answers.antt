use Rattle.std.proofs.Common.{◌≡◌, ◌++◌, ◌∷◌, [], ap, ◌∙◌}
use Rattle.bsc_options.specs.declared.item.OptionItem.{OptionItem}
use Rattle.bsc_options.specs.Walk.{item_of}
use Rattle.bsc_options.proofs.Rest.{items_on, items_done}
use Rattle.bsc_options.proofs.reading.items_of.Goals as goal

pub loop-first-preserved : goal.loop-first-preserved
loop-first-preserved c =
    let first = c.in-Some.first in
    let same : c.in_ok-owned.field-0 ≡ item_of first = c.in_ok-owned.ensures in
    let pushed : c.push.new.self ≡ c.loop-first.options ++ item_of first ∷ [] = c.in_ok-push.ensures.ok ∙ ap (λ (i : OptionItem). c.loop-first.options ++ i ∷ []) same in
    rw pushed (items_on c.args.list.now c.loop-first.rest.now first.rest.now c.loop-first.options first.follows
    (item_of first) c.loop-first.invariant c.in-Some.ensures.found.0 c.in-Some.ensures.found.1)

pub returns : goal.returns
returns c = items_done c.args.list.now c.loop-first.rest.now c.loop-first.options c.loop-first.invariant c.in_default.ensures.none
