use Rattle.std.proofs.Common.{not, rules, tests}
use Rattle.std.proofs.lemmas.Fn.{filter_same}
use Rattle.bsc_node_run.specs.declared.news.News.{News}
use Rattle.bsc_node_run.specs.Worlds.{is_of}
use Rattle.bsc_node_run.proofs.linking.drop_of.Goals as goal

pub returns : goal.returns
returns c = filter_same _ (λ (x : News). not (is_of c.args.name x)) _ (λ x b q k. search (rules, tests)) _ _ c.retain.ensures.filtered
