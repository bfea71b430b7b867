use Rattle.std.proofs.Common.{rules, ◌∙◌}
use Rattle.std.proofs.lemmas.List.Sorted.{answers_always}
use Rattle.bsc_legality.proofs.Numbers.{searched}
use Rattle.bsc_legality.proofs.rows.searched_place.Goals as goal

pub returns : goal.returns
returns c =
    let facts = c.binary_search_by_key.ensures in
    let by_number = facts.position (λ r. r.connection.number) (answers_always _ _ _ (λ f a r g called. search rules)) in
    c.ok.ensures.value ∙ searched c.args.conn c.args.rows.now c.binary_search_by_key.result c.requires facts.bound by_number
