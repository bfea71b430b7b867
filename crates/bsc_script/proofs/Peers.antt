-- Open names: of which no two have one name or one connection, and of which one is changed or taken out.
-- It serves clauses of functions of `emptying` and `script_hub`.
use Rattle.std.proofs.Common.{◌≡◌, ◌≢◌, inl, inr, ℕ, zero, suc, Bool, true, false, not, cond, List, [], ◌∷◌, ◌++◌, map, set, remove, find, filter, slice_get, Option, Some, None}
use Rattle.std.proofs.Common.{is_some, option_map, refl, ap, sym, ◌∙◌, subst}
use Rattle.std.specs.List.{AllByRecursion}
use Rattle.std.proofs.lemmas.Bool.{false_from_ne_true, eqb-true, eq-eqb}
use Rattle.std.proofs.lemmas.Bool.Decides.{Decides-eqb}
use Rattle.std.proofs.lemmas.Slice.Eq.{slice_eq-Decides}
use Rattle.bsc_text.specs.Lines.{same_octets}
use Rattle.bsc_history.specs.Ends.{is_one}
use Rattle.bsc_history.specs.Laws.{Apart}
use Rattle.bsc_history.proofs.Lists.{In, all_from_In, In_from_all, In-filter}
use Rattle.bsc_script.specs.States.{Peer, is_named, has_joined_as}
use Rattle.bsc_script.specs.Holding.{name_of, conn_of, ConnsApart}
use Rattle.bsc_script.proofs.Pairs.{In-at}
use Rattle.std.proofs.lemmas.Option.{same_Some as same_some}

-- ---- names

pub same_name : (a b : List ℕ) → same_octets a b ≡ true → a ≡ b
same_name a b h = (slice_eq-Decides (λ x y. Decides-eqb x y) a b (same_octets a b) refl).0 h

pub name_same : (a b : List ℕ) → a ≡ b → same_octets a b ≡ true
name_same a b h = (slice_eq-Decides (λ x y. Decides-eqb x y) a b (same_octets a b) refl).1 h

pub other_name : (a b : List ℕ) → a ≢ b → same_octets a b ≡ false
other_name a b h = false_from_ne_true (same_octets a b) (λ e. h (same_name a b e))

-- none of these has the name, so none is changed, nor taken out
unchanged : (n : List ℕ) (j : Peer) (ks : List Peer) → AllByRecursion (λ p. n ≢ name_of p) ks → map (λ p. cond (is_named n p) j p) ks ≡ ks
unchanged n j [] h = refl
unchanged n j (p ∷ ks) h =
    ap (λ (b : Bool). cond b j p ∷ map (λ q. cond (is_named n q) j q) ks) (other_name p.name n (λ e. h.0 (sym e)))
    ∙ ap (λ (l : List Peer). p ∷ l) (unchanged n j ks h.1)

all_kept : (n : List ℕ) (ks : List Peer) → AllByRecursion (λ p. n ≢ name_of p) ks → filter (λ p. not (is_named n p)) ks ≡ ks
all_kept n [] h = refl
all_kept n (p ∷ ks) h =
    ap (λ (b : Bool). cond (not b) (p ∷ filter (λ q. not (is_named n q)) ks) (filter (λ q. not (is_named n q)) ks)) (other_name p.name n (λ e. h.0 (sym e)))
    ∙ ap (λ (l : List Peer). p ∷ l) (all_kept n ks h.1)

-- the names behind the first are others
named_later : (p k : Peer) (ks : List Peer) (at : ℕ) → AllByRecursion (λ q. name_of p ≢ name_of q) ks → slice_get ks at ≡ Some k → p.name ≢ k.name
named_later p k ks at h g = In_from_all (λ q. name_of p ≢ name_of q) k ks h (In-at ks at k g)

-- The peer of a name is changed: it is the one at its place.
pub changed : (ks : List Peer) (at : ℕ) (k j : Peer) → Apart name_of ks → slice_get ks at ≡ Some k → j.name ≡ k.name → map (λ p. cond (is_named j.name p) j p) ks ≡ set ks at j
changed [] at k j h g e = cc
changed (p ∷ ks) zero k j h g e =
    let here : j.name ≡ p.name = e ∙ ap name_of (sym (same_some p k g)) in
    ap (λ (b : Bool). cond b j p ∷ map (λ q. cond (is_named j.name q) j q) ks) (name_same p.name j.name (sym here))
    ∙ ap (λ (l : List Peer). j ∷ l) (unchanged j.name j ks (subst (λ n. AllByRecursion (λ q. n ≢ name_of q) ks) (sym here) h.0))
changed (p ∷ ks) (suc at) k j h g e =
    ap (λ (b : Bool). cond b j p ∷ map (λ q. cond (is_named j.name q) j q) ks) (other_name p.name j.name (λ s. named_later p k ks at h.0 g (s ∙ e)))
    ∙ ap (λ (l : List Peer). p ∷ l) (changed ks at k j h.1 g e)

-- A name is closed: it is taken out at its place.
pub taken_out : (ks : List Peer) (at : ℕ) (k : Peer) → Apart name_of ks → slice_get ks at ≡ Some k → filter (λ p. not (is_named k.name p)) ks ≡ remove ks at
taken_out [] at k h g = cc
taken_out (p ∷ ks) zero k h g =
    let here : k.name ≡ p.name = ap name_of (sym (same_some p k g)) in
    ap (λ (b : Bool). cond (not b) (p ∷ filter (λ q. not (is_named k.name q)) ks) (filter (λ q. not (is_named k.name q)) ks)) (name_same p.name k.name (sym here))
    ∙ all_kept k.name ks (subst (λ n. AllByRecursion (λ q. n ≢ name_of q) ks) (sym here) h.0)
taken_out (p ∷ ks) (suc at) k h g =
    ap (λ (b : Bool). cond (not b) (p ∷ filter (λ q. not (is_named k.name q)) ks) (filter (λ q. not (is_named k.name q)) ks)) (other_name p.name k.name (named_later p k ks at h.0 g))
    ∙ ap (λ (l : List Peer). p ∷ l) (taken_out ks at k h.1 g)

-- ---- connections

joined_conn : (c : ℕ) (o : Option ℕ) → is_one c o ≡ true → o ≡ Some c
joined_conn c None h = cc
joined_conn c (Some d) h = ap Some (eqb-true d c h)

-- who has joined as c has the connection c
pub has_conn : (c : ℕ) (k : Peer) → has_joined_as c k ≡ true → k.conn ≡ Some c
has_conn c k h = joined_conn c k.conn h

pub conn_has : (c : ℕ) (k : Peer) → k.conn ≡ Some c → has_joined_as c k ≡ true
conn_has c k h = ap (is_one c) h ∙ eq-eqb c c refl

pub found_conn : (c : ℕ) (k : Peer) (ks : List Peer) → find (has_joined_as c) ks ≡ Some k → (k.conn ≡ Some c) × In k ks
found_conn c k [] h = cc
found_conn c k (p ∷ ks) h = by (has_joined_as c p) refl (λ g. found_conn c k ks g)
  where
    by : (b : Bool) → has_joined_as c p ≡ b → (find (has_joined_as c) ks ≡ Some k → (k.conn ≡ Some c) × In k ks) → (k.conn ≡ Some c) × In k (p ∷ ks)
    by true e rec =
        let same : p ≡ k = same_some p k (sym (ap (λ (b : Bool). cond b (Some p) (find (has_joined_as c) ks)) e) ∙ h) in
        (subst (λ q. q.conn ≡ Some c) same (has_conn c p e), inl same)
    by false e rec =
        let r = rec (sym (ap (λ (b : Bool). cond b (Some p) (find (has_joined_as c) ks)) e) ∙ h) in
        (r.0, inr r.1)

pub ConnsApart-filter : (q : Peer → Bool) (ks : List Peer) → ConnsApart ks → ConnsApart (filter q ks)
ConnsApart-filter q [] h = tt
ConnsApart-filter q (p ∷ ks) h =
    let rest = ConnsApart-filter q ks h.1 in
    let P = λ (j : Peer). (c : ℕ) → p.conn ≡ Some c → j.conn ≡ Some c → ⊥ in
    elim (q p) as (λ b. ConnsApart (cond b (p ∷ filter q ks) (filter q ks))) [
      | true ↦ (all_from_In P (filter q ks) (λ y m. In_from_all P y ks h.0 (In-filter q y ks m).0), rest)
      | false ↦ rest
    ]

conns_unlike : (p r : Peer) (ks js : List Peer) → p.conn ≡ r.conn → map conn_of ks ≡ map conn_of js
    → AllByRecursion (λ (j : Peer). (c : ℕ) → p.conn ≡ Some c → j.conn ≡ Some c → ⊥) ks → AllByRecursion (λ (j : Peer). (c : ℕ) → r.conn ≡ Some c → j.conn ≡ Some c → ⊥) js
conns_unlike p r ks [] s e h = tt
conns_unlike p r [] (j ∷ js) s e h = cc
conns_unlike p r (k ∷ ks) (j ∷ js) s e h =
    let here : conn_of k ≡ conn_of j = cc in
    let rest : map conn_of ks ≡ map conn_of js = cc in
    ((λ c a b. h.0 c (s ∙ a) (here ∙ b)), conns_unlike p r ks js s rest h.1)

pub ConnsApart-same : (ks js : List Peer) → map conn_of ks ≡ map conn_of js → ConnsApart ks → ConnsApart js
ConnsApart-same ks [] e h = tt
ConnsApart-same [] (j ∷ js) e h = cc
ConnsApart-same (k ∷ ks) (j ∷ js) e h =
    let here : conn_of k ≡ conn_of j = cc in
    let rest : map conn_of ks ≡ map conn_of js = cc in
    (conns_unlike k j ks js here rest h.0, ConnsApart-same ks js rest h.1)

-- the name of who has a connection, by names and connections alone
pub found_same : (c : ℕ) (ks js : List Peer) → map name_of ks ≡ map name_of js → map conn_of ks ≡ map conn_of js
    → option_map name_of (find (has_joined_as c) ks) ≡ option_map name_of (find (has_joined_as c) js)
found_same c [] [] n e = refl
found_same c [] (j ∷ js) n e = cc
found_same c (k ∷ ks) [] n e = cc
found_same c (k ∷ ks) (j ∷ js) n e =
    let name : name_of k ≡ name_of j = cc in
    let conn : conn_of k ≡ conn_of j = cc in
    let names : map name_of ks ≡ map name_of js = cc in
    let conns : map conn_of ks ≡ map conn_of js = cc in
    by (has_joined_as c k) (has_joined_as c j) (ap (is_one c) conn) (ap Some name) (found_same c ks js names conns)
  where
    by : (a b : Bool) → a ≡ b → Some (name_of k) ≡ Some (name_of j) → option_map name_of (find (has_joined_as c) ks) ≡ option_map name_of (find (has_joined_as c) js)
        → option_map name_of (cond a (Some k) (find (has_joined_as c) ks)) ≡ option_map name_of (cond b (Some j) (find (has_joined_as c) js))
    by true true s here later = here
    by true false s here later = cc
    by false true s here later = cc
    by false false s here later = later

pub some_name : (o : Option Peer) → is_some (option_map name_of o) ≡ is_some o
some_name None = refl
some_name (Some k) = refl

-- ---- one taken out

pub find-remove : {A : Type 0} (p : A → Bool) (xs : List A) (i : ℕ) (x : A) → slice_get xs i ≡ Some x → p x ≡ false → find p (remove xs i) ≡ find p xs
find-remove p [] i x h f = cc
find-remove {A} p (y ∷ ys) zero x h f =
    sym (ap (λ (b : Bool). cond b (Some y) (find p ys)) (ap p (same_some y x h) ∙ f))
find-remove p (y ∷ ys) (suc i) x h f = ap (λ o. cond (p y) (Some y) o) (find-remove p ys i x h f)

-- who had the connection is gone, so nobody has it
pub gone_conn : (ks : List Peer) (at : ℕ) (k : Peer) (c : ℕ) → ConnsApart ks → slice_get ks at ≡ Some k → k.conn ≡ Some c → find (has_joined_as c) (remove ks at) ≡ None
gone_conn [] at k c h g e = cc
gone_conn (p ∷ ks) zero k c h g e =
    none_found c ks (subst (λ (q : Peer). AllByRecursion (λ (j : Peer). (d : ℕ) → q.conn ≡ Some d → j.conn ≡ Some d → ⊥) ks) (same_some p k g) h.0) e
  where
    none_found : (c : ℕ) (js : List Peer) → AllByRecursion (λ (j : Peer). (d : ℕ) → k.conn ≡ Some d → j.conn ≡ Some d → ⊥) js → k.conn ≡ Some c → find (has_joined_as c) js ≡ None
    none_found c [] a s = refl
    none_found c (j ∷ js) a s =
        ap (λ (b : Bool). cond b (Some j) (find (has_joined_as c) js)) (false_from_ne_true (has_joined_as c j) (λ t. a.0 c s (has_conn c j t)))
        ∙ none_found c js a.1 s
gone_conn (p ∷ ks) (suc at) k c h g e =
    let other : has_joined_as c p ≡ false = false_from_ne_true (has_joined_as c p)
    (λ t. In_from_all (λ (j : Peer). (d : ℕ) → p.conn ≡ Some d → j.conn ≡ Some d → ⊥) k ks h.0 (In-at ks at k g) c (has_conn c p t) e) in
    ap (λ (b : Bool). cond b (Some p) (find (has_joined_as c) (remove ks at))) other ∙ gone_conn ks at k c h.1 g e

-- ---- one more

pub find-push : {A : Type 0} (p : A → Bool) (xs : List A) (y : A) → p y ≡ false → find p (xs ++ y ∷ []) ≡ find p xs
find-push p [] y f = ap (λ (b : Bool). cond b (Some y) None) f
find-push p (x ∷ xs) y f = ap (λ o. cond (p x) (Some x) o) (find-push p xs y f)
