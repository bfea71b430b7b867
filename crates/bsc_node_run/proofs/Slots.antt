-- The slots of a new set of links.
-- It serves the clauses of `make`.
use Rattle.std.proofs.Common.{◌≡◌, ℕ, zero, suc, List, [], ◌∷◌, ◌++◌, take, Option, Some, None, refl, ap, ◌∙◌, slice_get}
use Rattle.std.specs.List.{AppendsResults, FoldsTo}
use Rattle.bsc_connector.specs.declared.side.Side.TheVariants.{Primary, Failover}
use Rattle.bsc_node.specs.declared.link_name.LinkName.{LinkName}
use Rattle.bsc_node.specs.declared.link_name.LinkName.TheVariants.{Hub, Direct}
use Rattle.bsc_node_run.specs.Worlds.{link_among, link_if}

no_take : {A : Type 0} (m : ℕ) → take {A = A} m [] ≡ []
no_take zero = refl
no_take (suc m) = refl

module _ {L : Type 0} where
  pub no_links : (xs : List (Option L)) → ((k : ℕ) → link_if (slice_get xs k) ≡ None) → (name : LinkName) → link_among name None None xs ≡ None
  no_links xs none (Hub Primary) = refl
  no_links xs none (Hub Failover) = refl
  no_links xs none (Direct k) = none k

  all_none : {F : Type 0} (step : F → Option L → F → Type 0) → ((f : F) (x : Option L) (k : F) → step f x k → x ≡ None) → (f last : F) (xs : List (Option L)) → FoldsTo step f xs last
      → (k : ℕ) → link_if (slice_get xs k) ≡ None
  all_none step none f last [] h k = refl
  all_none step none f last (x ∷ xs) (j, s, h) zero = ap link_if (ap Some (none f x j s))
  all_none step none f last (x ∷ xs) (j, s, h) (suc k) = all_none step none j last xs h k

  -- Slots that were filled with none, where there were no slots before.
  pub no_slots : {F : Type 0} (step : F → Option L → F → Type 0) → ((f : F) (x : Option L) (k : F) → step f x k → x ≡ None) → (old new : List (Option L)) (n : ℕ) (f : F) → old ≡ []
      → AppendsResults step (take n old) new f → (k : ℕ) → link_if (slice_get new k) ≡ None
  no_slots step none old new n f empty (ys, last, e, h) k =
      ap (λ (xs : List (Option L)). link_if (slice_get xs k)) (e ∙ ap (λ (xs : List (Option L)). take n xs ++ ys) empty ∙ ap (λ (xs : List (Option L)). xs ++ ys) (no_take n))
      ∙ all_none step none f last ys h k
