-- Connections that are filed one after the other in the order of their octets.
-- It serves clauses of most source files here.
use Rattle.std.proofs.Common.{◌≡◌, ◌<◌, ◌≤◌, ◌+◌, ◌⊎◌, inl, inr, ℕ, zero, suc, Bool, true, false, cond, List, [], ◌∷◌, ◌++◌, length, filter, fold, get_or, take, drop, slice_get}
use Rattle.std.proofs.Common.{Option, Some, None, refl, ap, sym, ◌∙◌, subst, arith}
use Rattle.std.specs.List.{AllByRecursion}
use Rattle.std.specs.List.Sorted.{IsPartitionedBy, IsPartitionPoint}
use Rattle.std.specs.Option.{option_or}
use Rattle.std.specs.Cmp.Lexicographic.{same_text, bytes_decides}
use Rattle.std.proofs.lemmas.Bool.{both_ways, cases_eq}
use Rattle.bsc_history.specs.declared.connection.Connection.{Connection}
use Rattle.bsc_desk.specs.Orders.{in_order, same_key, at_most, precedes, up_to, filed, sorted_by, last_of, passing, before}
use Rattle.bsc_desk.proofs.Orders.{InOrder, order_true, true_order, order-at, all-weaker, at_most-chain, at_most-other, at_most-itself, at_most-both}
use Rattle.bsc_lemmas.proofs.Lists.{all-filter}
use Rattle.bsc_lemmas.proofs.Options.{or_assoc, or_none}

or_two : {A : Type 0} (o : Option A) (y : A) (q : Option A) → option_or (option_or o (Some y)) q ≡ option_or o (Some y)
or_two None y q = refl
or_two (Some x) y q = refl

-- the octets of one connection come no later than those of another
abbrev pub Precedes : (Connection → List ℕ) → Connection → Connection → Type 0
Precedes key c d = precedes key c d ≡ true

module _ (key : Connection → List ℕ) where
  -- whether a connection has the octets k
  abbrev has : List ℕ → Connection → Bool
  has k c = same_key (key c) k

  abbrev one : List ℕ → Connection → Option Connection
  one k c = cond (has k c) (Some c) None

  -- where the octets of all come later, none has them, and what is filed by them stands before all

  none_of : (k : List ℕ) (cs : List Connection) → AllByRecursion (λ c. at_most (key c) k ≡ false) cs → last_of (has k) cs ≡ None
  none_of k [] all = refl
  none_of k (c ∷ cs) all =
      let no : has k c ≡ false = (
      let by : (b : Bool) → has k c ≡ b → b ≡ false = λ b. elim b as (λ b. has k c ≡ b
      → b ≡ false) [ true ↦ λ e. absurd (both_ways (at_most (key c) k) all.0 (at_most-itself (key c) k (same_text (key c) k (sym e)))) | false ↦ λ e. refl ] in
      by (has k c) refl) in
      rw (none_of k cs all.1, no) refl

  first_up : (k : List ℕ) (cs : List Connection) → AllByRecursion (λ c. at_most (key c) k ≡ false) cs → up_to key k cs ≡ 0
  first_up k [] all = refl
  first_up k (c ∷ cs) all = rw all.0 refl

  -- behind a connection whose octets come later than k, all do
  all_above : (k : List ℕ) (c : Connection) (cs : List Connection) → at_most (key c) k ≡ false → AllByRecursion (Precedes key c) cs → AllByRecursion (λ d. at_most (key d) k ≡ false) (c ∷ cs)
  all_above k c cs above all = (
    above,
    all-weaker (Precedes key c) (λ (d : Connection). at_most (key d) k ≡ false) cs (λ d h. (
        let by : (b : Bool) → at_most (key d) k ≡ b → b ≡ false = λ b. elim b as (λ b. at_most (key d) k ≡ b
        → b ≡ false) [ true ↦ λ e. absurd (both_ways (at_most (key c) k) above (at_most-chain (key c) (key d) k h e)) | false ↦ λ e. refl ] in
        by (at_most (key d) k) refl)) all,
  )

  -- one more

  all-put : (P : Connection → Type 0) (k : List ℕ) (cs : List Connection) (c : Connection) → AllByRecursion P cs → P c → AllByRecursion P (take (up_to key k cs) cs ++ c ∷ drop (up_to key k cs) cs)
  all-put P k [] c all this = (this, tt)
  all-put P k (x ∷ xs) c all this =
      elim (at_most (key x) k) as (λ b. AllByRecursion P (take (cond b (suc (up_to key k xs)) 0) (x ∷ xs) ++ c ∷ drop (cond b (suc (up_to key k xs)) 0) (x ∷ xs))) [
        | true ↦ (
          all.0,
          all-put P k xs c all.1 this,
        )
        | false ↦ (this, all)
      ]

  length-put : (k : List ℕ) (cs : List Connection) (c : Connection) → length (take (up_to key k cs) cs ++ c ∷ drop (up_to key k cs) cs) ≡ suc (length cs)
  length-put k [] c = refl
  length-put k (x ∷ xs) c = elim (at_most (key x) k) as (λ b. length (take (cond b (suc (up_to key k xs)) 0) (x ∷ xs) ++ c ∷ drop (cond b (suc (up_to key k xs)) 0) (x ∷ xs))
      ≡ suc (suc (length xs))) [ true ↦ ap suc (length-put k xs c) | false ↦ refl ]

  pub order-filed : (cs : List Connection) (c : Connection) → InOrder (Precedes key) cs → InOrder (Precedes key) (filed key cs c)
  order-filed [] c order = (tt, tt)
  order-filed (x ∷ xs) c order =
      let k = key c in
      let by : (b : Bool) → at_most (key x) k ≡ b → InOrder (Precedes key) (take (cond b (suc (up_to key k xs)) 0) (x ∷ xs) ++ c ∷ drop (cond b (suc (up_to key k xs)) 0) (x ∷ xs)) =
      λ b. elim b as (λ b. at_most (key x) k ≡ b → InOrder (Precedes key) (take (cond b (suc (up_to key k xs)) 0) (x ∷ xs) ++ c ∷ drop (cond b (suc (up_to key k xs)) 0) (x ∷ xs))) [
        | true ↦ λ e. (all-put (Precedes key x) k xs c order.0 e, order-filed xs c order.1)
        | false ↦ λ e. (let less = at_most-other (key x) k e in ((less, all-weaker (Precedes key x) (Precedes key c) xs (λ d h. at_most-chain k (key x) (key d) less h) order.0), order))
      ] in
      by (at_most (key x) k) refl

  last-filed : (k : List ℕ) (cs : List Connection) (c : Connection) → InOrder (Precedes key) cs → last_of (has k) (filed key cs c) ≡ option_or (one k c) (last_of (has k) cs)
  last-filed k [] c order = sym (or_none (one k c))
  last-filed k (x ∷ xs) c order =
      let n = up_to key (key c) xs in
      let Goal = λ (b : Bool). last_of (has k) (take (cond b (suc n) 0) (x ∷ xs) ++ c ∷ drop (cond b (suc n) 0) (x ∷ xs)) ≡ option_or (one k c) (option_or (last_of (has k) xs) (one k x)) in
      let by : (b : Bool) → at_most (key x) (key c) ≡ b → Goal b = λ b. elim b as (λ b. at_most (key x) (key c) ≡ b → Goal b) [
        | true ↦ λ e. ap (λ (o : Option Connection). option_or o (one k x)) (last-filed k xs c order.1) ∙ sym (or_assoc (one k c) (last_of (has k) xs) (one k x))
        | false ↦ λ e. (
            let L = option_or (last_of (has k) xs) (one k x) in
            let none : has k c ≡ true → L ≡ None = λ h. none_of k (x ∷ xs) (subst (λ (l : List ℕ). AllByRecursion (λ d. at_most (key d) l ≡ false) (x ∷ xs)) (same_text (key c) k (sym h))
            (all_above (key c) x xs e order.0)) in
            let on : (b : Bool) → has k c ≡ b → option_or L (cond b (Some c) None) ≡ option_or (cond b (Some c) None) L =
            λ b. elim b as (λ b. has k c ≡ b → option_or L (cond b (Some c) None) ≡ option_or (cond b (Some c) None) L) [ true ↦ λ h. rw (none h) refl | false ↦ λ h. or_none L ] in
            on (has k c) refl)
      ] in
      by (at_most (key x) (key c)) refl

  filter-filed : (q : Connection → Bool) (cs : List Connection) (c : Connection) → InOrder (Precedes key) cs → filter q (filed key cs c) ≡ cond (q c) (filed key (filter q cs) c) (filter q cs)
  filter-filed q [] c order = refl
  filter-filed q (x ∷ xs) c order =
      let n = up_to key (key c) xs in
      let F = filter q xs in
      let Goal = λ (b : Bool). filter q (take (cond b (suc n) 0) (x ∷ xs) ++ c ∷ drop (cond b (suc n) 0) (x ∷ xs)) ≡ cond (q c) (filed key (filter q (x ∷ xs)) c) (filter q (x ∷ xs)) in
      let by : (b : Bool) → at_most (key x) (key c) ≡ b → Goal b = λ b. elim b as (λ b. at_most (key x) (key c) ≡ b → Goal b) [
        | true ↦ λ e. (
            let rest = filter-filed q xs c order.1 in
            ap (λ (l : List Connection). cond (q x) (x ∷ l) l) rest
            ∙ elim (q c) as (λ s. cond (q x) (x ∷ cond s (filed key F c) F) (cond s (filed key F c) F) ≡ cond s (filed key (cond (q x) (x ∷ F) F) c) (cond (q x) (x ∷ F) F)) [
              | true ↦ elim (q x) as (λ t. cond t (x ∷ filed key F c) (filed key F c) ≡ filed key (cond t (x ∷ F) F) c) [ true ↦ rw e refl | false ↦ refl ]
              | false ↦ refl
            ])
        | false ↦ λ e. (
            let G = filter q (x ∷ xs) in
            let front = first_up (key c) G (all-filter (λ (d : Connection). at_most (key d) (key c) ≡ false) q (x ∷ xs) (all_above (key c) x xs e order.0)) in
            elim (q c) as (λ s. cond s (c ∷ G) G ≡ cond s (filed key G c) G) [ true ↦ sym (ap (λ (m : ℕ). take m G ++ c ∷ drop m G) front) | false ↦ refl ])
      ] in
      by (at_most (key x) (key c)) refl

  -- all

  length-fold : (cs es : List Connection) (n : ℕ) → length es ≡ n → length (fold (filed key) es cs) ≡ length cs + n
  length-fold [] es n h = omega arith
  length-fold (c ∷ cs) es n h = (let more : length (filed key es c) ≡ suc n = length-put (key c) es c ∙ ap suc h in let rest = length-fold cs (filed key es c) (suc n) more in omega arith)

  last-fold : (k : List ℕ) (cs es : List Connection) → InOrder (Precedes key) es → last_of (has k) (fold (filed key) es cs) ≡ option_or (last_of (has k) cs) (last_of (has k) es)
  last-fold k [] es order = refl
  last-fold k (c ∷ cs) es order =
      last-fold k cs (filed key es c) (order-filed es c order)
      ∙ ap (option_or (last_of (has k) cs)) (last-filed k es c order)
      ∙ or_assoc (last_of (has k) cs) (one k c) (last_of (has k) es)

  filter-fold : (q : Connection → Bool) (cs es : List Connection) → InOrder (Precedes key) es → filter q (fold (filed key) es cs) ≡ fold (filed key) (filter q es) (filter q cs)
  filter-fold q [] es order = refl
  filter-fold q (c ∷ cs) es order =
      filter-fold q cs (filed key es c) (order-filed es c order)
      ∙ ap (λ (l : List Connection). fold (filed key) l (filter q cs)) (filter-filed q es c order)
      ∙ elim (q c) as (λ b. fold (filed key) (cond b (filed key (filter q es) c) (filter q es)) (filter q cs)
      ≡ fold (filed key) (filter q es) (cond b (c ∷ filter q cs) (filter q cs))) [ true ↦ refl | false ↦ refl ]

  pub length-sorted : (cs : List Connection) → length (sorted_by key cs) ≡ length cs
  length-sorted cs = let e = length-fold cs [] 0 refl in omega arith

  pub last-sorted : (k : List ℕ) (cs : List Connection) → last_of (λ c. same_key (key c) k) (sorted_by key cs) ≡ last_of (λ c. same_key (key c) k) cs
  last-sorted k cs = last-fold k cs [] tt ∙ or_none (last_of (has k) cs)

  pub filter-sorted : (q : Connection → Bool) (cs : List Connection) → filter q (sorted_by key cs) ≡ sorted_by key (filter q cs)
  filter-sorted q cs = filter-fold q cs [] tt

  fold-push : (cs es : List Connection) (c : Connection) → fold (filed key) es (cs ++ c ∷ []) ≡ filed key (fold (filed key) es cs) c
  fold-push [] es c = refl
  fold-push (x ∷ cs) es c = fold-push cs (filed key es x) c

  pub sorted-push : (cs : List Connection) (c : Connection) → sorted_by key (cs ++ c ∷ []) ≡ filed key (sorted_by key cs) c
  sorted-push cs c = fold-push cs [] c

  -- the last that has some octets stands before the place that they are filed at

  pub last_before : (k : List ℕ) (cs : List Connection) → InOrder (Precedes key) cs → passing (λ c. same_key (key c) k) (before cs (up_to key k cs)) ≡ last_of (λ c. same_key (key c) k) cs
  last_before k [] order = refl
  last_before k (x ∷ xs) order =
      let rest = last_before k xs order.1 in
      let Goal = λ (b : Bool). passing (has k) (before (x ∷ xs) (cond b (suc (up_to key k xs)) 0)) ≡ option_or (last_of (has k) xs) (one k x) in
      let by : (b : Bool) → at_most (key x) k ≡ b → Goal b = λ b. elim b as (λ b. at_most (key x) k ≡ b → Goal b) [
        | true ↦ λ e. behind k x xs order.0 e (up_to key k xs) refl rest
        | false ↦ λ e. sym (none_of k (x ∷ xs) (all_above k x xs e order.0))
      ] in
      by (at_most (key x) k) refl
    where
      behind : (k : List ℕ) (x : Connection) (xs : List Connection) → AllByRecursion (Precedes key x) xs → at_most (key x) k ≡ true → (n : ℕ) → up_to key k xs ≡ n
          → passing (has k) (before xs (up_to key k xs)) ≡ last_of (has k) xs → passing (has k) (slice_get (x ∷ xs) n) ≡ option_or (last_of (has k) xs) (one k x)
      behind k x xs all e zero up rest = ap (λ (o : Option Connection). option_or o (one k x)) (ap (λ (m : ℕ). passing (has k) (before xs m)) (sym up) ∙ rest)
      behind k x [] all e (suc n) up rest = cc
      behind k x (y ∷ ys) all e (suc n) up rest =
          let here : passing (has k) (slice_get (y ∷ ys) n) ≡ last_of (has k) (y ∷ ys) = ap (λ (m : ℕ). passing (has k) (before (y ∷ ys) m)) (sym up) ∙ rest in
          let L = last_of (has k) ys in
          let low : at_most (key y) k ≡ true = (
          let by : (b : Bool) → at_most (key y) k ≡ b → b ≡ true = λ b. elim b as (λ b. at_most (key y) k ≡ b
          → b ≡ true) [ true ↦ λ h. refl | false ↦ λ h. (let zero_up : up_to key k (y ∷ ys) ≡ 0 = rw h refl in absurd (omega arith)) ] in
          by (at_most (key y) k) refl) in
          let on : (b : Bool) → has k x ≡ b → option_or L (one k y) ≡ option_or (option_or L (one k y)) (cond b (Some x) None) =
          λ b. elim b as (λ b. has k x ≡ b → option_or L (one k y) ≡ option_or (option_or L (one k y)) (cond b (Some x) None)) [
            | true ↦ λ h. (
                let same_x : key x ≡ k = same_text (key x) k (sym h) in
                let same_y : key y ≡ k = at_most-both (key y) k low (subst (λ (l : List ℕ). at_most l (key y) ≡ true) same_x all.0) in
                let it : has k y ≡ true = (bytes_decides (key y) k).1 same_y in
                rw it (sym (or_two L y (Some x))))
            | false ↦ λ h. sym (or_none (option_or L (one k y)))
          ] in
          here ∙ on (has k x) refl

  -- a search for the place

  pub parted : (k : List ℕ) (cs : List Connection) → InOrder (Precedes key) cs → IsPartitionedBy (λ c. at_most (key c) k) cs
  parted k cs order i j d up within low = elim (cases_le i j up) [
    | inl less ↦ at_most-chain (key (get_or cs i d)) (key (get_or cs j d)) k (order-at (Precedes key) cs i j d order less within) low
    | inr same ↦ ap (λ (n : ℕ). at_most (key (get_or cs n d)) k) same ∙ low
  ]
    where
      cases_le : (i j : ℕ) → i ≤ j → (i < j) ⊎ (i ≡ j)
      cases_le i j up = elim (cases_eq i j) [ inl e ↦ inr e | inr n ↦ inl (omega (arith, n)) ]

  pub point_is : (k : List ℕ) (cs : List Connection) (n : ℕ) → n ≤ length cs → IsPartitionPoint (λ c. at_most (key c) k ≡ true) (λ c. at_most (key c) k ≡ false) cs n → n ≡ up_to key k cs
  point_is k [] n within point = omega arith
  point_is k (x ∷ xs) zero within point = rw (point.1 0 x (omega arith) (omega arith)) refl
  point_is k (x ∷ xs) (suc n) within point = rw (point.0 0 x (omega arith) (omega arith))
      (ap suc (point_is k xs n (omega arith) (λ i d low high. point.0 (suc i) d (omega arith) (omega arith), λ i d low high. point.1 (suc i) d (omega arith) (omega arith))))

  -- what a search gives, by its steps

  pub newest_is : (k : List ℕ) (cs list : List Connection) (place : ℕ) (found result : Option Connection) → in_order (precedes key) cs ≡ true → list ≡ cs → place ≡ up_to key k list
      → found ≡ before list place → result ≡ passing (λ c. same_key (key c) k) found → result ≡ last_of (λ c. same_key (key c) k) cs
  newest_is k cs list place found result order same up one last =
      last
      ∙ ap (passing (has k)) (one ∙ ap (before list) up ∙ ap (λ (l : List Connection). before l (up_to key k l)) same)
      ∙ last_before k cs (order_true (precedes key) cs order)

  pub tests-filed : (cs : List Connection) (c : Connection) → in_order (precedes key) cs ≡ true → in_order (precedes key) (filed key cs c) ≡ true
  tests-filed cs c order = true_order (precedes key) (filed key cs c) (order-filed cs c (order_true (precedes key) cs order))
