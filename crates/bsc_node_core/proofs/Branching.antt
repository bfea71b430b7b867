-- Rules that ask something of the log first.
-- It serves clauses of functions of `failing`, `following`, `links` and `state`.
use Rattle.std.proofs.Common.{◌≡◌, Bool, true, false, [], ◌++◌, Option, Some, None, sym, subst}
use Rattle.std.proofs.lemmas.List.{append-nil}
use Rattle.bsc_node.specs.Logs.{Log, Rule, nothing, if_so, either, when, with_some, where_found}

-- What holds of a log holds of it where nothing comes about.
pub still : (P : Log → Type 0) (L : Log) → P L → P (L ++ [])
still P L h = subst P (sym (append-nil L)) h

module _ (P : Log → Type 0) (L : Log) (test : Log → Bool) where
  pub when-so : (rule : Rule) → test L ≡ true → P (L ++ rule L) → P (L ++ when test rule L)
  when-so rule t h = subst (λ (b : Bool). P (L ++ if_so b rule nothing L)) (sym t) h

  pub when-not : (rule : Rule) → test L ≡ false → P L → P (L ++ when test rule L)
  when-not rule t h = subst (λ (b : Bool). P (L ++ if_so b rule nothing L)) (sym t) (still P L h)

  pub either-so : (rule other : Rule) → test L ≡ true → P (L ++ rule L) → P (L ++ either test rule other L)
  either-so rule other t h = subst (λ (b : Bool). P (L ++ if_so b rule other L)) (sym t) h

  pub either-not : (rule other : Rule) → test L ≡ false → P (L ++ other L) → P (L ++ either test rule other L)
  either-not rule other t h = subst (λ (b : Bool). P (L ++ if_so b rule other L)) (sym t) h

module _ {A : Type 0} (P : Log → Type 0) (L : Log) (look : Log → Option A) where
  pub found-some : (rule : A → Rule) (other : Rule) (x : A) → look L ≡ Some x → P (L ++ rule x L) → P (L ++ where_found look rule other L)
  found-some rule other x f h = subst (λ (o : Option A). P (L ++ with_some o rule other L)) (sym f) h

  pub found-none : (rule : A → Rule) (other : Rule) → look L ≡ None → P (L ++ other L) → P (L ++ where_found look rule other L)
  found-none rule other f h = subst (λ (o : Option A). P (L ++ with_some o rule other L)) (sym f) h
