-- The peer at a place is held, or freed.
use Rattle.std.proofs.Common.{refl}
use Rattle.bsc_script.proofs.Held.{held_carried, conn_among, no_conn_among}
use Rattle.bsc_script.proofs.script_hub.ScriptHub.hold.Goals as goal

pub returns-in-Some : goal.returns-in-Some
returns-in-Some c = λ s k h here.
    held_carried c.args.self.now _ s c.args.at k (c.pair_mut-peer.result.0.now, c.pair_mut-peer.result.1.now) c.args.held _ h here c.pair_mut-peer.ensures.value refl
    (conn_among c.args.self.now s c.args.at k (c.pair_mut-peer.result.0.now, c.pair_mut-peer.result.1.now) c.in-Some.conn h.0 here c.pair_mut-peer.ensures.value c.in-Some.is) refl refl refl refl refl

pub returns-in-None : goal.returns-in-None
returns-in-None c = λ s k h here.
    held_carried c.args.self.now _ s c.args.at k (c.pair_mut-peer.result.0.now, c.pair_mut-peer.result.1.now) c.args.held _ h here c.pair_mut-peer.ensures.value refl
    (no_conn_among c.args.self.now s c.args.at k (c.pair_mut-peer.result.0.now, c.pair_mut-peer.result.1.now) h.0 here c.pair_mut-peer.ensures.value c.in-None.is) refl refl refl refl refl
