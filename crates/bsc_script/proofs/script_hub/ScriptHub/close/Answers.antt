-- The close line stands before what the end of the connection comes to.
use Rattle.bsc_script.specs.Texts.{close_words}
use Rattle.bsc_script.specs.Carrying.{ends}
use Rattle.bsc_script.proofs.Changes.{indexed}
use Rattle.bsc_script.proofs.Carried.{said_carried}
use Rattle.bsc_script.proofs.script_hub.ScriptHub.close.Goals as goal
use Rattle.std.proofs.lemmas.Result.{on_ok_weaker as on_ok}

pub returns : goal.returns
returns c = λ s k cs h.
    on_ok c.end.result
    (said_carried c.end.new.self c.args.text.now.items _ c.end.new.text.items cs _ k (close_words c.args.closing) (ends s k) c.in_ok-put_close.ensures
    (c.name_at.ensures s.peers k (indexed c.args.self.now s h.stands) h.here))
    (c.end.ensures s k cs h)
