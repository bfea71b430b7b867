-- What holds of the log of a node between two events, once it has started.
-- It serves the clauses of `links_begin_anew`.
use Rattle.std.proofs.Common.{◌≡◌, true, false}
use Rattle.std.specs.List.{list_any}
use Rattle.bsc_connector.specs.declared.side.Side.TheVariants.{Primary}
use Rattle.bsc_node.specs.declared.link_name.LinkName.TheVariants.{Hub}
use Rattle.bsc_node.specs.Logs.{Made, Log}
use Rattle.bsc_node.specs.Links.{is_there}
use Rattle.bsc_node.specs.Conditions.{is_start, awaits_word}
use Rattle.bsc_node.proofs.Lasting.{Fine}
use Rattle.bsc_node_laws.proofs.Tied.{Tied}

-- It is tied, the node has started, links began in slots, and while a word is awaited the primary hub's link isn't there.
pub record Between (a : Made) (L : Log) : Type 0 where
  pub tied : Tied a L
  pub fine : Fine L
  pub started : list_any is_start L ≡ true
  pub word : awaits_word L ≡ true → is_there (Hub Primary) L ≡ false
