-- One job more for each pass that is split off.
-- It serves the clauses of `split_for`.
use Rattle.std.proofs.Common.{◌≡◌, ◌≤◌, ◌<◌, ℕ, ◌+◌, List, [], ◌∷◌, ◌++◌, None, map-id, ap, sym, ◌∙◌, arith}
use Rattle.std.specs.List.{range_with_len}
use Rattle.std.proofs.lemmas.List.{map-append}
use Rattle.std.proofs.lemmas.List.FromFn.{map-range_with_len_more}
use Rattle.bsc_turn.specs.declared.pass.Pass.{Pass}
use Rattle.bsc_hub.specs.declared.hub.Hub.{Hub}
use Rattle.bsc_hub.specs.Passing.{Went}
use Rattle.bsc_hub.proofs.Following.{went_then}
use Rattle.bsc_load.specs.declared.jobs.Job.{Job}
use Rattle.bsc_load.specs.Inner.{Asks, job_indices}

range_more : (k : ℕ) → range_with_len 0 (k + 1) ≡ range_with_len 0 k ++ k ∷ []
range_more k =
    sym (map-id (range_with_len 0 (k + 1))) ∙ map-range_with_len_more (λ (n : ℕ). n) 0 k k (omega arith)
    ∙ ap (λ (l : List ℕ). l ++ k ∷ []) (map-id (range_with_len 0 k))

pub indices_more : (js : List Job) (j : Job) (k : ℕ) → j.index ≡ k → job_indices js ≡ range_with_len 0 k → job_indices (js ++ j ∷ []) ≡ range_with_len 0 (k + 1)
indices_more js j k is are =
    map-append (λ (x : Job). x.index) js (j ∷ [])
    ∙ ap (λ (l : List ℕ). l ++ j.index ∷ []) are
    ∙ ap (λ (n : ℕ). range_with_len 0 k ++ n ∷ []) is
    ∙ sym (range_more k)

pub asked_more : (h : Hub) (p m q : Pass) (k : ℕ) → Went h p k [] None m → Went h m 1 [] None q → Went h p (k + 1) [] None q
asked_more h p m q k before one = went_then h p m q k 1 [] [] None before one

pub asks_so : (h : Hub) (p q : Pass) (n k : ℕ) → k ≤ n → Went h p k [] None q → Asks h p q n
asks_so h p q n k few went = record { drew = k; few = few; went = went }

pub asks_more : (h : Hub) (p m q : Pass) (n k : ℕ) → k < n → Went h p k [] None m → Went h m 1 [] None q → Asks h p q n
asks_more h p m q n k less before one = asks_so h p q n (k + 1) (omega (arith, less)) (asked_more h p m q k before one)
