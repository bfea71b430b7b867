use Rattle.bsc_script.proofs.Carried.{said_carried}
use Rattle.bsc_script.proofs.Changes.{indexed}
use Rattle.bsc_script.proofs.script_hub.ScriptHub.wear.Goals as goal
use Rattle.std.proofs.lemmas.Result.{on_ok_weaker as on_ok}

pub returns : goal.returns
returns c s k cs w =
    on_ok c.close.result (said_carried c.close.new.self c.args.text.now.items c.put_line.new.text.items c.close.new.text.items cs c.name_at.result.now k _ _ c.in_ok-put_line.ensures
    (c.name_at.ensures s.peers k (indexed c.args.self.now s w.stands) w.here)) (c.close.ensures s k cs w)
