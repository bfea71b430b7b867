-- What a broadcast's looks find tells who gets it and who misses it.
-- It serves clauses of functions of `breaching`, `laws` and `legality`.
use Rattle.std.proofs.Common.{◌≡◌, ◌≢◌, ℕ, ◌==◌, Bool, true, false, ◌&&◌, ◌||◌, cond, List, [], ◌∷◌, filter, refl, ap, sym, ◌∙◌}
use Rattle.std.specs.List.{list_any, AllByRecursion}
use Rattle.std.proofs.lemmas.Bool.{eq-eqb, ne_eqb}
use Rattle.bsc_history.specs.declared.connection.Connection.{Connection}
use Rattle.bsc_history.specs.declared.looks.Look.{Look}
use Rattle.bsc_history.specs.Laws.{Apart}
use Rattle.bsc_history.specs.Replies.{numbers}
use Rattle.bsc_legality.specs.Deciding.{conns}
use Rattle.bsc_lemmas.proofs.Booleans.{or_false}

pub filter_both : (p q : Connection → Bool) (xs : List Connection) → filter q (filter p xs) ≡ filter (λ x. p x && q x) xs
filter_both p q [] = refl
filter_both p q (x ∷ xs) =
    let rest = filter_both p q xs in
    let F = filter (λ (x : Connection). p x && q x) xs in
    elim (p x) as (λ b. filter q (cond b (x ∷ filter p xs) (filter p xs)) ≡ cond (b && q x) (x ∷ F) F) [
      | true ↦ elim (q x) as (λ b. cond b (x ∷ filter q (filter p xs)) (filter q (filter p xs)) ≡ cond b (x ∷ F) F) [ true ↦ ap (λ (l : List Connection). x ∷ l) rest | false ↦ rest ]
      | false ↦ rest
    ]

filter_agree : (p q : Connection → Bool) (xs : List Connection) → AllByRecursion (λ x. p x ≡ q x) xs → filter p xs ≡ filter q xs
filter_agree p q [] all = refl
filter_agree p q (x ∷ xs) all =
    ap (λ (b : Bool). cond b (x ∷ filter p xs) (filter p xs)) all.0
    ∙ ap (λ (l : List Connection). cond (q x) (x ∷ l) l) (filter_agree p q xs all.1)

-- whether some of the looks at c pass a test of c and of what was found
abbrev pub some_at : (ℕ → ℕ → Bool) → List Look → ℕ → Bool
some_at F looks c = list_any (λ k. (k.conn == c) && F c k.taken) looks

absent : (F : ℕ → ℕ → Bool) (c : ℕ) (ks : List Look) (xs : List Connection) → conns ks ≡ numbers xs → AllByRecursion (λ (y : Connection). c ≢ y.number) xs → some_at F ks c ≡ false
absent F c [] xs same all = refl
absent F c (k ∷ ks) [] same all = cc
absent F c (k ∷ ks) (y ∷ ys) same all =
    let head : k.conn ≡ y.number = cc in
    let tail : conns ks ≡ numbers ys = cc in
    ap (λ (b : Bool). (b && F c k.taken) || some_at F ks c) (ne_eqb k.conn c (λ e. all.0 (sym e ∙ head)))
    ∙ absent F c ks ys tail all.1

-- Where looks are at these connections, one each and in order, those that pass by their looks are those whose looks
-- pass.
pub split : (F : ℕ → ℕ → Bool) (f : Bool → Bool) (looks : List Look) (xs : List Connection) → Apart (λ (c : Connection). c.number) xs → conns looks ≡ numbers xs
    → conns (filter (λ k. f (F k.conn k.taken)) looks) ≡ numbers (filter (λ x. f (some_at F looks x.number)) xs)
split F f [] [] apart same = refl
split F f [] (x ∷ xs) apart same = cc
split F f (k ∷ ks) [] apart same = cc
split F f (k ∷ ks) (x ∷ xs) apart same =
    let head : k.conn ≡ x.number = cc in
    let tail : conns ks ≡ numbers xs = cc in
    let here : some_at F (k ∷ ks) x.number ≡ F k.conn k.taken = (
    ap (λ (b : Bool). (b && F x.number k.taken) || some_at F ks x.number) (eq-eqb k.conn x.number head)
    ∙ ap (λ (b : Bool). F x.number k.taken || b) (absent F x.number ks xs tail apart.0)
    ∙ or_false (F x.number k.taken)
    ∙ ap (λ (c : ℕ). F c k.taken) (sym head)) in
    let each = agree k ks x.number xs head apart.0 in
    let rest : conns (filter (λ k. f (F k.conn k.taken)) ks) ≡ numbers (filter (λ y. f (some_at F (k ∷ ks) y.number)) xs) = split F f ks xs apart.1 tail
    ∙ sym (ap numbers (filter_agree (λ y. f (some_at F (k ∷ ks) y.number)) (λ y. f (some_at F ks y.number)) xs each)) in
    let R = filter (λ (k : Look). f (F k.conn k.taken)) ks in
    let S = filter (λ (y : Connection). f (some_at F (k ∷ ks) y.number)) xs in
    elim (f (F k.conn k.taken)) as (λ b. conns (cond b (k ∷ R) R) ≡ numbers (cond b (x ∷ S) S)) [
      | true ↦ ap (λ (c : ℕ). c ∷ conns R) head ∙ ap (λ (l : List ℕ). x.number ∷ l) rest
      | false ↦ rest
    ]
    ∙ ap (λ (b : Bool). numbers (cond b (x ∷ S) S)) (ap f (sym here))
  where
    agree : (k : Look) (ks : List Look) (c : ℕ) (ys : List Connection) → k.conn ≡ c → AllByRecursion (λ (y : Connection). c ≢ y.number) ys
        → AllByRecursion (λ y. f (some_at F (k ∷ ks) y.number) ≡ f (some_at F ks y.number)) ys
    agree k ks c [] head all = tt
    agree k ks c (y ∷ ys) head all =
        (ap (λ (b : Bool). f ((b && F y.number k.taken) || some_at F ks y.number)) (ne_eqb k.conn y.number (λ e. all.0 (sym head ∙ e))), agree k ks c ys head all.1)
