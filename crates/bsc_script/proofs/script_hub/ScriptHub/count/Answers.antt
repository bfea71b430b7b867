use Rattle.std.proofs.Common.{refl}
use Rattle.bsc_script.proofs.Entered.{worn_is}
use Rattle.bsc_script.proofs.Stopped.{counted, counted_worn, on_put}
use Rattle.bsc_script.proofs.script_hub.ScriptHub.count.Goals as goal

pub returns-in-Ok : goal.returns-in-Ok
returns-in-Ok c s w =
    on_put c.put_counts.result c.put_counts.ensures (counted c.args.self.now _ s c.in-Ok.counts c.args.text.now.items c.put_counts.new.text.items w
    (record { about = refl; clock = refl; peers = refl; names = refl }) (c.in-Ok.ensures s.history w.0.core))

pub returns-in-Err : goal.returns-in-Err
returns-in-Err c s w =
    let x = c.in-Err.ensures s.history w.0.core in
    on_put c.put_words.result c.put_words.ensures (counted_worn c.args.self.now _ s c.args.text.now.items c.put_words.new.text.items w
    (record { about = refl; clock = refl; peers = refl; names = refl }) x.1 (worn_is c.args.self.now s _ w.0 x.0))
