-- Lemmas that crates above cite too.
-- It serves many crates above.
use Rattle.bsc_connector.specs.Back.{first_of}
use Rattle.bsc_lemmas.proofs.Options.{or_none as or_last, or_assoc as or_three}
use Rattle.std.proofs.Common.{Option, ◌∷◌, ◌≡◌, ◌++◌, ◌∙◌, List, ap, []}
use Rattle.std.specs.Option.{option_or}

pub first_of-more : {A B : Type 0} (f : A → Option B) (xs : List A) (x : A) → first_of f (xs ++ x ∷ []) ≡ option_or (first_of f xs) (f x)
first_of-more f [] x = or_last (f x)
first_of-more f (y ∷ ys) x = ap (λ o. option_or (f y) o) (first_of-more f ys x) ∙ or_three (f y) (first_of f ys) (f x)
