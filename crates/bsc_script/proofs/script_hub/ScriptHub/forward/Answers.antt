use Rattle.std.proofs.Common.{[], refl, subst}
use Rattle.bsc_hub_core.specs.Calls.{ForwardsAs}
use Rattle.bsc_desk.specs.Entries.{all_reply, one_reply}
use Rattle.bsc_script.proofs.Entered.{at_same, stands_same, worn_is}
use Rattle.bsc_script.proofs.Sending.{forward_worn, forwarded, may_send, sends_none}
use Rattle.bsc_script.proofs.script_hub.ScriptHub.forward.Goals as goal

pub returns-in_default : goal.returns-in_default
returns-in_default c s k w own = sends_none c.args.self.now c.args.at s k c.peer_at.result.now c.args.message.now c.args.text.now.items w own c.peer_at.ensures c.in_default.is

pub forward-requires-clause-some : goal.forward-requires-clause-some
forward-requires-clause-some c =
    let r = c.requires.some in
    may_send c.args.self.now c.args.at c.in-Some.conn r.0 r.1 c.peer_at.result.now r.2 c.peer_at.ensures c.in-Some.is

pub returns-in_ok-put_reply-in-One : goal.returns-in_ok-put_reply-in-One
returns-in_ok-put_reply-in-One c s k w own =
    forwarded c.args.self.now _ c.args.at c.in-Some.conn s k c.peer_at.result.now c.args.message.now
    (one_reply c.in-One.reply) _ c.args.text.now.items c.put_reply.new.text.items c.name_at.result.now w own c.peer_at.ensures c.in-Some.is
    (record { about = refl; clock = refl; peers = refl; names = refl }) (subst
    (λ a. ForwardsAs s.history 0 c.in-Some.conn 0 c.args.message.now a c.args.self.now.core c.forward.new.self) c.in-One.is
    (c.in_ok-reply.ensures s.history w.stands.core)) c.by_one.ensures c.name_at.ensures c.in_ok-put_reply-in-One.ensures

pub returns-in_ok-put_all-in-All : goal.returns-in_ok-put_all-in-All
returns-in_ok-put_all-in-All c s k w own =
    forwarded c.args.self.now _ c.args.at c.in-Some.conn s k c.peer_at.result.now c.args.message.now
    (all_reply c.in-All.reply) _ c.args.text.now.items c.put_all.new.text.items c.name_at-in-All.result.now w own c.peer_at.ensures c.in-Some.is
    (record { about = refl; clock = refl; peers = refl; names = refl }) (subst
    (λ a. ForwardsAs s.history 0 c.in-Some.conn 0 c.args.message.now a c.args.self.now.core c.forward.new.self) c.in-All.is
    (c.in_ok-reply.ensures s.history w.stands.core)) c.by_all.ensures c.name_at-in-All.ensures c.in_ok-put_all-in-All.ensures

pub wear-requires-clause-some : goal.wear-requires-clause-some
wear-requires-clause-some c =
    let r = c.requires.some in
    let x = subst (λ a. ForwardsAs r.0.history 0 c.in-Some.conn 0 c.args.message.now a c.args.self.now.core c.forward.new.self) c.in-Worn.is (c.in_ok-reply.ensures r.0.history r.2.stands.core) in
    (r.0, stands_same c.args.self.now _ r.0 (record { about = refl; clock = refl; peers = refl; names = refl }) x.1 r.2.stands)

pub returns-in_ok-wear-in-Worn : goal.returns-in_ok-wear-in-Worn
returns-in_ok-wear-in-Worn c s k w own =
    let x = subst (λ a. ForwardsAs s.history 0 c.in-Some.conn 0 c.args.message.now a c.args.self.now.core c.forward.new.self) c.in-Worn.is (c.in_ok-reply.ensures s.history w.stands.core) in
    forward_worn c.args.self.now c.wear.new.self c.args.at c.in-Some.conn s k c.peer_at.result.now c.args.message.now c.args.text.now.items c.wear.new.text.items w c.peer_at.ensures c.in-Some.is
    (worn_is c.args.self.now s _ w.stands x.0) (c.in_ok-wear-in-Worn.ensures s k []
    (at_same c.args.self.now _ c.args.at [] s k (record { about = refl; clock = refl; peers = refl; names = refl }) x.1 w))
