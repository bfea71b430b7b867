-- What has left and what is held, as octets leave.
-- It serves the clauses of `put_from`.
use Rattle.std.proofs.Common.{◌≡◌, ◌∙◌, ◌+◌, ◌≤◌, ◌⊎◌, ℕ, List, [], ◌++◌, take, drop, length, Option, Some, None, Result, Ok, Err, IsErr, inl, inr, refl, sym, subst, ap}
use Rattle.std.proofs.Common.{append-nil, take-append-drop, take_all, le_refl}
use Rattle.std.proofs.KnownBytes.{Appends-nil, Keeps-refl, Keeps-trans, append_known-grown, append_known-kept, append_known-moved, append_known-passed}
use Rattle.std.proofs.lemmas.List.{drop-append-le, drop-drop}
use Rattle.std.specs.Io.KnownBytes.{Appends, Keeps, WriteAppends, append_known}
use Rattle.bsc_live.specs.Written.{written}

-- octets that were held have left
pub moved : (a b : Option (List ℕ)) (octets : List ℕ) (at n : ℕ) → Appends a b (take n (drop at octets)) → Keeps (written a octets at) (written b octets (at + n))
moved a b octets at n p =
    append_known-moved a b (take n (drop at octets)) (drop (at + n) octets) (drop at octets) p
    (sym (take-append-drop n (drop at octets)) ∙ ap (λ l. take n (drop at octets) ++ l) (drop-drop n at octets))

-- none did
pub stayed : (a b : Option (List ℕ)) (octets : List ℕ) (at : ℕ) → Keeps a b → Keeps (written a octets at) (written b octets at)
stayed a b octets at p = append_known-kept a b (drop at octets) p

nothing : (a b : Option (List ℕ)) → Appends a b [] → Keeps a b
nothing None b p = tt
nothing (Some x) None p = absurd p
nothing (Some x) (Some y) p = p ∙ append-nil x

-- a wire that took nothing, or failed, has left as much as before
pub untaken : {E : Type 0} (answer : Result ℕ E) (a b : Option (List ℕ)) (rest : List ℕ) → IsErr answer ⊎ (answer ≡ Ok 0) → WriteAppends a b answer rest → Keeps a b
untaken (Err e) a b rest why w = w
untaken (Ok n) a b rest (inl e) w = let no : ⊥ = cc in absurd no
untaken (Ok n) a b rest (inr is) w = let none : n ≡ 0 = cc in nothing a b (rw none at w)

-- all that was held has left, and is let go of
pub let_go : (start a b : Option (List ℕ)) (old new : List ℕ) (gone now : ℕ) → Keeps start (written a old gone) → drop gone old ≡ [] → drop now new ≡ [] → Keeps a b
    → Keeps start (written b new now)
let_go start a b old new gone now p all none q =
    let same : written a old gone ≡ written a new now = ap (append_known a) (all ∙ sym none) in
    Keeps-trans start (written a new now) (written b new now) (subst (Keeps start) same p) (stayed a b new now q)

-- octets are held behind others
pub grown : (start a : Option (List ℕ)) (old new : List ℕ) (gone : ℕ) (octets : List ℕ) → gone ≤ length old → new ≡ old ++ octets → Keeps start (written a old gone)
    → Appends start (written a new gone) octets
grown start a old new gone octets within is p =
    append_known-grown start a (drop gone old) (drop gone new) octets p (ap (drop gone) is ∙ drop-append-le gone old octets within)

-- octets leave at once, where none are held
pub passed : {E : Type 0} (start a b : Option (List ℕ)) (held : List ℕ) (gone : ℕ) (answer : Result ℕ E) (octets : List ℕ) → Keeps start (written a held gone) → drop gone held ≡ []
    → WriteAppends a b answer octets → WriteAppends start (written b held gone) answer octets
passed start a b held gone (Ok n) octets p none q =
    subst (Appends start (written b held gone)) (append-nil (take n octets))
    (append_known-passed start a b (drop gone held) (drop gone held) (take n octets) [] p none q (sym (append-nil (drop gone held))))
passed start a b held gone (Err e) octets p none q = Keeps-trans start (written a held gone) (written b held gone) p (stayed a b held gone q)

-- all of these were taken
pub whole : (a b : Option (List ℕ)) (octets : List ℕ) → Appends a b octets → Appends a b (take (length octets) octets)
whole a b octets p = subst (Appends a b) (sym (take_all (length octets) octets (le_refl (length octets)))) p
