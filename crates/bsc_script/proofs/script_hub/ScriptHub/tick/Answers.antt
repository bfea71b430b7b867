-- The clock is set, and the machines of all open names are told.
use Rattle.std.proofs.Common.{◌<◌, ◌≤◌, Ok, sym, refl, subst}
use Rattle.bsc_accept.specs.declared.event.Event.TheVariants.{Tick}
use Rattle.bsc_script.specs.Carrying.{tells}
use Rattle.bsc_script.specs.Holding.{RunsTo}
use Rattle.bsc_script.proofs.Changes.{some_at}
use Rattle.bsc_script.proofs.Ticked.{after, ticks_begin, ticks_more, ticks_end, fewer, clock_set}
use Rattle.bsc_script.proofs.script_hub.ScriptHub.tick.Goals as goal
use Rattle.bsc_lemmas.proofs.Lists.{got-at as get_some}

pub loop-at-init : goal.loop-at-init
loop-at-init c = λ s h. ticks_begin c.args.self.now _ c.args.text.now.items c.args.ms s h refl refl refl refl refl

pub tick_one-requires-clause-some : goal.tick_one-requires-clause-some
tick_one-requires-clause-some c =
    let i = c.loop-at.invariant c.requires.some.0 c.requires.some.1 in
    ((after c.requires.some.0 c.args.ms i.done).state, (i.carried.stands, i.carried.settled))

pub loop-at-preserved : goal.loop-at-preserved
loop-at-preserved c = λ s h. (
    let x = get_some c.loop-at.self.peers.entries c.loop-at.at (subst (λ n. c.loop-at.at < n) c.len.ensures.len c.loop-at-test.true) in
    ticks_more c.loop-at.self c.tick_one.new.self c.args.text.now.items c.loop-at.text.items c.tick_one.new.text.items c.args.ms c.loop-at.at c.in_ok-at.at s x.0 (c.loop-at.invariant s h) x.1
    (λ u k g here. c.in_ok-at.ensures u k g here))

pub loop-at-smaller : goal.loop-at-smaller
loop-at-smaller c =
    let within = subst (λ n. c.loop-at.at < n) c.len.ensures.len c.loop-at-test.true in
    let x = get_some c.loop-at.self.peers.entries c.loop-at.at within in
    let i = c.loop-at.invariant c.requires.some.0 c.requires.some.1 in
    let u = (after c.requires.some.0 c.args.ms i.done).state in
    let k = some_at c.loop-at.self u c.loop-at.at x.0 i.carried.stands x.1 in
    let r = c.in_ok-at.ensures u k.0 (i.carried.stands, i.carried.settled) k.1 in
    fewer c.loop-at.self c.tick_one.new.self c.loop-at.at c.in_ok-at.at u (tells u k.0 (Tick u.clock)).state i.carried.stands r.0.stands within r.1

pub returns : goal.returns
returns c = λ s h.
    subst (λ o. RunsTo (Ok tt) c.loop-at.self c.args.text.now.items c.loop-at.text.items o)
    (sym (clock_set s c.args.ms (subst (λ n. n ≤ c.args.ms) h.0.clock c.if-ms-self.false) c.if-ms-gt-LATEST.false))
    (ticks_end c.loop-at.self c.args.text.now.items c.loop-at.text.items c.args.ms c.loop-at.at s (c.loop-at.invariant s h) (subst (λ n. n ≤ c.loop-at.at) c.len.ensures.len c.loop-at-test.false))
