use Rattle.bsc_node_run.proofs.performing.close_link.Goals as goal
use Rattle.std.proofs.lemmas.Result.{on_err_weaker as on_err, on_ok_weaker as on_ok}

pub returns-clause-closes : goal.returns-clause-closes
returns-clause-closes g c = on_ok c.end.result (λ k d h. (c.close.new.self, rw c.text.ensures at c.close.ensures.told, k d h)) c.end.ensures.over

pub returns-clause-part : goal.returns-clause-part
returns-clause-part g c = on_err c.end.result (λ k d h. (c.close.new.self, rw c.text.ensures at c.close.ensures.told, k d h)) c.end.ensures.dropped
