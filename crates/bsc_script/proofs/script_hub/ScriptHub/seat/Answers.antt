use Rattle.std.proofs.Common.{refl, ◌∙◌}
use Rattle.bsc_script.proofs.Seated.{seats}
use Rattle.bsc_script.proofs.script_hub.ScriptHub.seat.Goals as goal

pub returns-in-Ok : goal.returns-in-Ok
returns-in-Ok c = seats c.args.self.now _ c.args.at c.args.conn c.pair_mut-peer.result.0.now c.pair_mut-peer.result.1.now c.in_ok-name.name c.pair_mut-peer.ensures.value refl refl refl refl
    c.in-Ok.ensures.updates.0 (c.in_ok-name.ensures ∙ c.as_slice.ensures.value)
