-- Lemmas that crates above cite too: what is told grows, and stays.
-- It serves many crates above.
use Rattle.std.proofs.Common.{List, [], ◌++◌, Option, Some, None, refl, ap, sym, ◌∙◌, append_assoc, append-nil}
use Rattle.bsc_edge.specs.Told.{Grows, Stays}

pub grows_none : {A : Type 0} (old : Option (List A)) → Grows old old []
grows_none None = tt
grows_none (Some o) = sym (append-nil o)

pub grows_then : {A : Type 0} (old mid new : Option (List A)) (xs ys : List A) → Grows old mid xs → Grows mid new ys → Grows old new (xs ++ ys)
grows_then old mid None xs ys a b = tt
grows_then old None (Some n) xs ys a b = absurd b
grows_then None (Some m) (Some n) xs ys a b = absurd a
grows_then (Some o) (Some m) (Some n) xs ys a b = b ∙ ap (λ l. l ++ ys) a ∙ append_assoc o xs ys

pub grows_from : {A : Type 0} → (l m n : Option (List A)) (xs : List A) → Stays l m → Grows m n xs → Grows l n xs
grows_from l m None xs s t = tt
grows_from l None (Some n) xs s t = absurd t
grows_from None (Some m) (Some n) xs s t = absurd s
grows_from (Some l) (Some m) (Some n) xs s t = t ∙ ap (λ ys. ys ++ xs) s

pub stays_same : {A : Type 0} → (a : Option A) → Stays a a
stays_same None = tt
stays_same (Some x) = refl

pub stays_then : {A : Type 0} → (a b c : Option A) → Stays a b → Stays b c → Stays a c
stays_then a b None s t = tt
stays_then a None (Some z) s t = absurd t
stays_then None (Some y) (Some z) s t = absurd s
stays_then (Some x) (Some y) (Some z) s t = t ∙ s
