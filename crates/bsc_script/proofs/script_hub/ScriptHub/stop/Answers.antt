use Rattle.std.proofs.Common.{refl, sym, subst}
use Rattle.bsc_script.specs.Between.{AreConnections}
use Rattle.bsc_script.proofs.Stopped.{stopped, stopped_already}
use Rattle.bsc_script.proofs.script_hub.ScriptHub.stop.Goals as goal

pub returns-in_ok-put_counts-in-Ok : goal.returns-in_ok-put_counts-in-Ok
returns-in_ok-put_counts-in-Ok c s w =
    stopped c.args.self.now _ s c.in-Ok.counts _ c.args.text.now.items c.put_counts.new.text.items w (record { about = refl; clock = refl; peers = refl; names = refl })
    (subst (AreConnections c.args.self.now) (sym c.from_vec.ensures) c.in_ok-conns.ensures) (c.in-Ok.ensures s.history w.0.core) c.in_ok-put_counts-in-Ok.ensures

pub returns-in_ok-put_words-in-Err : goal.returns-in_ok-put_words-in-Err
returns-in_ok-put_words-in-Err c s w =
    let x = c.in-Err.ensures s.history w.0.core in
    stopped_already c.args.self.now _ s c.args.text.now.items c.put_words.new.text.items w (record { about = refl; clock = refl; peers = refl; names = refl }) x.1 x.0 c.in_ok-put_words-in-Err.ensures
