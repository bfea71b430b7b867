use Rattle.bsc_history.specs.declared.looks.Look.{Look}
use Rattle.bsc_legality.specs.Deciding.{fares_so}
use Rattle.bsc_legality.proofs.Breaches.{kept_first, kept_none}
use Rattle.bsc_legality.proofs.breaching.all_faring.Goals as goal

pub loop-look-preserved : goal.loop-look-preserved
loop-look-preserved c =
    kept_first (λ (k : Look). k.conn)
    (fares_so c.args.full c.args.outbox c.args.rows.now) c.fares_so.result c.loop-look.numbers.items c.push_if.new.numbers.items _ c.loop-look.looks.now c.in-Some.rest.now c.in-Some.look
    c.in-Some.ensures c.fares_so.ensures c.in_ok-push_if.ensures c.loop-look.invariant

pub returns : goal.returns
returns c = kept_none (λ (k : Look). k.conn) (fares_so c.args.full c.args.outbox c.args.rows.now) c.loop-look.numbers.items _ c.loop-look.looks.now c.in_default.ensures c.loop-look.invariant
