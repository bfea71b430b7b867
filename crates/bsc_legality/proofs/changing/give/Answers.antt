use Rattle.bsc_legality.proofs.Changes.{few_more, given_none}
use Rattle.bsc_legality.proofs.changing.give.Goals as goal

pub add_to-requires-clause-few : goal.add_to-requires-clause-few
add_to-requires-clause-few c = few_more c.args.rows.now c.requires.few

pub returns-in_default : goal.returns-in_default
returns-in_default c = given_none c.args.reply.now c.args.rows.now c.in_default.not-Appended c.in_default.not-SentAll
