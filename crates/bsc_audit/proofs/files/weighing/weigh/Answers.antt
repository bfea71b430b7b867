-- One more entry is weighed behind those before it.
use Rattle.std.proofs.Common.{refl}
use Rattle.bsc_audit.proofs.FileFacts.Weighed.{weighs_more}
use Rattle.bsc_audit.proofs.files.weighing.weigh.Goals as goal

pub returns-clause-weighs : goal.returns-clause-weighs
returns-clause-weighs c = λ about done w.
    weighs_more c.args.weighing.now _ about done (record { place = c.args.place; entry = c.args.entry.now }) refl refl c.twice_with-weighing.ensures c.missing_with-weighing.ensures
    (λ none H judged at. c.judge_next-weighing.ensures.judged about H none judged at) w
