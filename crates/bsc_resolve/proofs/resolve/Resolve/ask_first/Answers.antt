use Rattle.std.proofs.Common.{refl, arith, ◌<◌, length}
use Rattle.bsc_resolve.proofs.Following.{asked_full, asked_first, asked_in_vain, as_before}
use Rattle.bsc_resolve.proofs.resolve.Resolve.ask_first.Goals as goal

pub returns-then-len-ge-ROOM-clause-refused : goal.returns-then-len-ge-ROOM-clause-refused
returns-then-len-ge-ROOM-clause-refused c = asked_full c.args.self.now c.args.v c.len-then-len-ge-ROOM.result c.requires (omega (arith, c.args.self.now.entries.ok.0))
    (omega (arith, c.args.self.now.entries.ok.0))

pub returns-in-Ok-clause-asked : goal.returns-in-Ok-clause-asked
returns-in-Ok-clause-asked c = asked_first c.args.self.now _ c.args.v c.args.question.asked c.args.question.id c.requires (omega (arith, c.args.self.now.entries.ok.0)) refl c.in-Ok.ensures.items

pub returns-in-Err-clause-refused : goal.returns-in-Err-clause-refused
returns-in-Err-clause-refused c = asked_in_vain c.args.self.now c.args.v c.requires (omega (arith, c.args.self.now.entries.ok.0))

pub returns-in-Err-clause-err : goal.returns-in-Err-clause-err
returns-in-Err-clause-err c = as_before c.args.self.now _ refl c.in-Err.ensures.items
