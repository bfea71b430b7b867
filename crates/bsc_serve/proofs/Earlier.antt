-- Jobs that were out before a hub is served: one end of each is given back.
-- It serves the clauses of `await_all`.
use Rattle.std.proofs.Common.{◌≡◌, ◌+◌, List, [], ◌∷◌, ◌++◌, length, Option, Some, None, ap, subst, sym, arith, append-nil, length-append}
use Rattle.bsc_edge.specs.Told.{Comes, Ends, Grows, ended_in}
use Rattle.bsc_edge.proofs.Common.{grows_none, grows_then}
use Rattle.bsc_serve.specs.Inner.{GaveBack}

module _ {J D : Type 0} where
  pub gave_none : (out : List J) (told : Option (List D)) → GaveBack out out told told
  gave_none out told = record {
    ends = [];
    one_each = omega arith;
    given_back = grows_none told;
  }

module _ {J D : Type 0} (works : J → D → Type 0) where
  one_less : (old new : List J) (d : D) → Ends works old new d → length old ≡ length new + 1
  one_less old new d e =
      let was : length old ≡ length (e.before ++ e.job ∷ e.behind) = ap (λ (o : List J). length o) e.was in
      let left : length new ≡ length (e.before ++ e.behind) = ap (λ (o : List J). length o) e.left in
      let all = length-append e.before (e.job ∷ e.behind) in
      let others = length-append e.before e.behind in
      omega (arith, was, left, all, others)

  -- one end more, or none
  pub gave_next : (out mid new : List J) (a b c : Option (List D)) (r : Option D) → GaveBack out mid a b → Comes works mid new r
      → Grows b c (ended_in r) → GaveBack out new a c
  gave_next out mid new a b c None g same grew = record {
    ends = g.ends;
    one_each = subst (λ (o : List J). length g.ends + length o ≡ length out) (sym same) g.one_each;
    given_back = subst (λ (xs : List D). Grows a c xs) (append-nil g.ends) (grows_then a b c g.ends [] g.given_back grew);
  }
  gave_next out mid new a b c (Some d) g e grew = record {
    ends = g.ends ++ d ∷ [];
    one_each = (let k = one_less mid new d e in let n = length-append g.ends (d ∷ []) in let m = g.one_each in omega (arith, k, n, m));
    given_back = grows_then a b c g.ends (d ∷ []) g.given_back grew;
  }
