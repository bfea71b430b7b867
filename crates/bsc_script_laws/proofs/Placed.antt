-- Lists of peers where one stands in the place of those that have its name, and who is among them.
-- It serves the clauses of `a_line_goes_on` and `a_script_is_of_one_hub`.
use Rattle.std.proofs.Common.{◌≡◌, ◌⊎◌, inl, inr, ℕ, Bool, true, false, cond, List, [], ◌∷◌, find, map, Option, Some, None, MatchOption, refl, ap, sym, ◌∙◌, subst}
use Rattle.bsc_history.proofs.Lists.{In, find_says}
use Rattle.bsc_script.specs.States.{Peer, is_named}
use Rattle.bsc_script.specs.Holding.{name_of}
use Rattle.bsc_script.proofs.Peers.{name_same}
use Rattle.bsc_script_laws.proofs.Once.{name_kept}
use Rattle.std.proofs.lemmas.Option.{same_Some as same_some}

-- these peers, but that j is in the place of those that have its name
abbrev pub placed : Peer → List Peer → List Peer
placed j ks = map (λ p. cond (is_named j.name p) j p) ks

-- who is among them is j, or was there and has another name
pub in_placed : (j q : Peer) (ks : List Peer) → In q (placed j ks) → (q ≡ j) ⊎ (In q ks × (is_named j.name q ≡ false))
in_placed j q [] m = absurd m
in_placed j q (p ∷ ks) m = by (is_named j.name p) refl m (in_placed j q ks)
  where
    later : (q ≡ j) ⊎ (In q ks × (is_named j.name q ≡ false)) → (q ≡ j) ⊎ (In q (p ∷ ks) × (is_named j.name q ≡ false))
    later (inl e) = inl e
    later (inr r) = inr (inr r.0, r.1)

    by : (b : Bool) → is_named j.name p ≡ b → (cond b j p ≡ q) ⊎ In q (placed j ks) → (In q (placed j ks) → (q ≡ j) ⊎ (In q ks × (is_named j.name q ≡ false))) → (q ≡ j)
        ⊎ (In q (p ∷ ks) × (is_named j.name q ≡ false))
    by true is (inl e) rec = inl (sym e)
    by true is (inr n) rec = later (rec n)
    by false is (inl e) rec = inr (inl e, ap (is_named j.name) (sym e) ∙ is)
    by false is (inr n) rec = later (rec n)

-- j is among them, where one of its name was there
pub placed_in : (j k : Peer) (ks : List Peer) → In k ks → j.name ≡ k.name → In j (placed j ks)
placed_in j k [] m same = absurd m
placed_in j k (p ∷ ks) (inl e) same = inl (ap (λ (b : Bool). cond b j p) (name_same p.name j.name (ap name_of e ∙ sym same)))
placed_in j k (p ∷ ks) (inr m) same = inr (placed_in j k ks m same)

-- and so is who was there and has another name
pub placed_other : (j q : Peer) (ks : List Peer) → In q ks → is_named j.name q ≡ false → In q (placed j ks)
placed_other j q [] m other = absurd m
placed_other j q (p ∷ ks) (inl e) other = inl (ap (λ (b : Bool). cond b j p) (ap (is_named j.name) e ∙ other) ∙ e)
placed_other j q (p ∷ ks) (inr m) other = inr (placed_other j q ks m other)

pub names_placed : (j : Peer) (ks : List Peer) → map name_of (placed j ks) ≡ map name_of ks
names_placed j [] = refl
names_placed j (p ∷ ks) =
    ap (λ (n : List ℕ). n ∷ map name_of (placed j ks)) (name_kept j p (is_named j.name p) refl)
    ∙ ap (λ (l : List (List ℕ)). p.name ∷ l) (names_placed j ks)

pub in_map : {A B : Type 0} (f : A → B) (xs : List A) (y : B) → In y (map f xs) → (x : A) × In x xs × (f x ≡ y)
in_map f [] y m = absurd m
in_map f (x ∷ xs) y (inl e) = (x, inl refl, e)
in_map f (x ∷ xs) y (inr m) = (let r = in_map f xs y m in (r.0, inr r.1, r.2))

pub map_in : {A B : Type 0} (f : A → B) (xs : List A) (x : A) → In x xs → In (f x) (map f xs)
map_in f [] x m = absurd m
map_in f (y ∷ xs) x (inl e) = inl (ap f e)
map_in f (y ∷ xs) x (inr m) = inr (map_in f xs x m)

-- who is found is among those that were looked through
pub found_in : {A : Type 0} (p : A → Bool) (xs : List A) (x : A) → find p xs ≡ Some x → In x xs
found_in {A} p xs x e = by (find p xs) (find_says p xs) e
  where
    by : (o : Option A) → MatchOption o ((z : A) → In z xs → p z ≡ false) (λ z. In z xs × (p z ≡ true)) → o ≡ Some x → In x xs
    by None f g = cc
    by (Some z) r g = subst (λ (y : A). In y xs) (same_some z x g) r.0
