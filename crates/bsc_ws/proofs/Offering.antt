-- Where a text between commas is looked at from its front.
-- It serves the clauses of `asks_for` and `offers`.
use Rattle.std.proofs.Common.{◌≡◌, inl, inr, ℕ, List, [], ◌∷◌, ◌++◌, refl, sym, ap, ◌∙◌, append-nil, append_assoc}
use Rattle.std.specs.Str.{IsTrimAscii}
use Rattle.bsc_ws.specs.Protocols.{Offers, StartsPart}

-- What is left of a text starts a part of it.
abbrev pub IsLeft : List ℕ → List ℕ → Type 0
IsLeft text left = (before : List ℕ) × (text ≡ before ++ left) × StartsPart before

-- The last part is the name.
pub last_offers : (text left name : List ℕ) → IsLeft text left → IsTrimAscii left name → Offers text name
last_offers text left name (before, whole, starts) trimmed =
    (before, left, [], whole ∙ ap (λ l. before ++ l) (sym (append-nil left)) ∙ sym (append_assoc before left []), starts, inl refl, trimmed)

-- The part before a comma is the name.
pub first_offers : (text left first rest name : List ℕ) → IsLeft text left → left ≡ first ++ (44 ∷ rest) → IsTrimAscii first name → Offers text name
first_offers text left first rest name (before, whole, starts) cut trimmed =
    (before, first, 44 ∷ rest, whole ∙ ap (λ l. before ++ l) cut ∙ sym (append_assoc before first (44 ∷ rest)), starts, inr (rest, refl), trimmed)

-- What stands behind a comma starts a part.
pub rest_is_left : (text left first rest : List ℕ) → IsLeft text left → left ≡ first ++ (44 ∷ rest) → IsLeft text rest
rest_is_left text left first rest (before, whole, starts) cut = (
  before ++ (first ++ (44 ∷ [])),
  whole ∙ ap (λ l. before ++ l) cut
      ∙ sym (append_assoc before (first ++ (44 ∷ [])) rest ∙ ap (λ l. before ++ l) (append_assoc first (44 ∷ []) rest)),
  inr (before ++ first, sym (append_assoc before first (44 ∷ []))),
)

-- Behind the first of what is left stands the rest of it.
pub next_is_left : {X : Type 0} {all : List X} (before left rest : List X) (x : X) → all ≡ before ++ left → left ≡ x ∷ rest → all ≡ (before ++ x ∷ []) ++ rest
next_is_left before left rest x whole cut =
    whole ∙ ap (λ l. before ++ l) cut ∙ sym (append_assoc before (x ∷ []) rest)
