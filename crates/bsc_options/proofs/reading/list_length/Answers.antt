use Rattle.std.proofs.Common.{◌≡◌, ◌+◌, ◌-◌, ◌++◌, Bool, false, length, subst, ap, arith, length-append}
use Rattle.bsc_options.specs.Spelling.{item_octets}
use Rattle.bsc_options.specs.Walk.{item_of}
use Rattle.bsc_options.proofs.Chains.{chain, walked_on, walked_out, walked_cut}
use Rattle.bsc_options.proofs.reading.list_length.Goals as goal

pub returns-then-not-first-clause-found : goal.returns-then-not-first-clause-found
returns-then-not-first-clause-found c =
    let first = c.in-Some.first in
    let walked = c.loop-first.invariant in
    let whole : c.loop-first.rest.now ≡ item_octets first.follows (item_of first) ++ first.rest.now = c.in-Some.ensures.found.1 in
    let last : c.loop-first.rest.now ≡ item_octets false (item_of first) ++ first.rest.now =
    subst (λ (b : Bool). c.loop-first.rest.now ≡ item_octets b (item_of first) ++ first.rest.now) c.if-not-first.true whole in
    let place : (length c.args.o.now - length first.rest.now) + length first.rest.now ≡ length c.args.o.now =
    omega (arith, ap length walked.2, length-append (chain walked.0) c.loop-first.rest.now, ap length whole, length-append (item_octets first.follows (item_of first)) first.rest.now) in
    walked_out c.args.o.now c.loop-first.rest.now first.rest.now (item_of first) _ walked c.in-Some.ensures.found.0 last place

pub loop-first-preserved : goal.loop-first-preserved
loop-first-preserved c =
    let first = c.in-Some.first in
    walked_on c.args.o.now c.loop-first.rest.now first.rest.now (item_of first) c.loop-first.invariant c.in-Some.ensures.found.0
    (subst (λ (b : Bool). c.loop-first.rest.now ≡ item_octets b (item_of first) ++ first.rest.now) c.if-not-first.false c.in-Some.ensures.found.1)

pub returns-clause-none : goal.returns-clause-none
returns-clause-none c = walked_cut c.args.o.now c.loop-first.rest.now c.loop-first.invariant c.in_default.ensures.none
