-- The peer at a place is the one that is kept there.
use Rattle.std.proofs.Common.{sym, ap}
use Rattle.bsc_script.proofs.Names.{peer_kept}
use Rattle.bsc_script.proofs.script_hub.ScriptHub.peer_at.Goals as goal

pub returns : goal.returns
returns c = λ e is. ap (λ x. x.1) (sym (peer_kept c.args.self.now c.args.at (c.in-Some.field-0-0.now, c.in-Some.peer.now) e (sym c.in-Some.ensures.entry) is))
