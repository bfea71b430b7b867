-- A sort by a key puts them in the order of the key.
use Rattle.std.proofs.Common.{rules}
use Rattle.std.proofs.lemmas.List.Sorted.{IsNonDecreasingBy-from_sort_by_key}
use Rattle.bsc_audit.proofs.places.sorting.sort_by_place.Goals as goal

pub returns-clause-rising : goal.returns-clause-rising
returns-clause-rising c =
    IsNonDecreasingBy-from_sort_by_key (λ s. s.place) _ c.sort_unstable_by_key.ensures.sorted (λ a r q k. search rules)
