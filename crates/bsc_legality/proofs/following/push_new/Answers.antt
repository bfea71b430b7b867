use Rattle.std.proofs.Common.{◌∙◌, ap}
use Rattle.bsc_history.specs.declared.call.Call.{Call}
use Rattle.bsc_history.specs.declared.call.Call.TheVariants.{Connect}
use Rattle.bsc_history.specs.declared.reply.Reply.{Reply}
use Rattle.bsc_history.specs.Entries.{made_by}
use Rattle.bsc_legality.proofs.following.push_new.Goals as goal

pub push_reserved-requires : goal.push_reserved-requires
push_reserved-requires c =
    let e = c.args.entry.now in
    c.requires _ (ap (λ (k : Call). made_by e.caller k e.reply) c.in-Connect-Joined.is-0 ∙ ap (λ (r : Reply). made_by e.caller (Connect c.in-Connect-Joined.who) r) c.in-Connect-Joined.is-1)
