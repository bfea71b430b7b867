-- The outboxes are emptied one after the other.
use Rattle.std.proofs.Common.{◌≡◌, [], ◌∷◌, suc, drop, get_or, sym, subst, drop-cons, add-one, drop_of_length-le}
use Rattle.bsc_script.specs.Carrying.{quietly}
use Rattle.bsc_script.proofs.Carried.{quiet_carried}
use Rattle.bsc_script.proofs.Rounds.{RoundGoes, goes_begins, goes_on, goes_ends, goes_some}
use Rattle.bsc_script.proofs.script_hub.ScriptHub.empty_each.Goals as goal

pub loop-conn-init : goal.loop-conn-init
loop-conn-init c = λ base o h. goes_begins c.args.self.now base c.args.text.now.items c.args.conns.now o h

pub loop-conn-preserved : goal.loop-conn-preserved
loop-conn-preserved c = λ base o h. (
    let conns = c.args.conns.now in
    let i = c.loop-conn.conn-index in
    subst (λ m. RoundGoes c.empty_one.new.self base c.empty_one.new.text.items (drop m conns) o) (sym (add-one i))
    (goes_on c.loop-conn.self c.empty_one.new.self base c.loop-conn.text.items c.empty_one.new.text.items (drop i conns) (get_or conns i 0) (drop (suc i) conns) o (c.loop-conn.invariant base o h)
    (drop-cons conns i 0 c.loop-conn-test.true) (λ s es a g. c.in_ok-empty_one.ensures s es a g)))

pub empty_one-requires : goal.empty_one-requires
empty_one-requires c =
    let r = c.requires.some in
    let conns = c.args.conns.now in
    let i = c.loop-conn.conn-index in
    let b = c.args.text.now.items in
    record {
      some = goes_some c.loop-conn.self b c.loop-conn.text.items (drop i conns) (get_or conns i 0) (drop (suc i) conns) (quietly r.0)
          (c.loop-conn.invariant b (quietly r.0) (quiet_carried c.args.self.now b conns r.0 r.1 r.2)) (drop-cons conns i 0 c.loop-conn-test.true);
    }

pub returns : goal.returns
returns c = λ base o h.
    goes_ends c.loop-conn.self base c.loop-conn.text.items (drop c.loop-conn.conn-index c.args.conns.now) o (c.loop-conn.invariant base o h) (drop_of_length-le c.args.conns.now c.loop-conn-test.false)
