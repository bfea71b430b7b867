-- What is asked for by what `clap` finds.
-- It serves clauses of functions of `beside`, `laws` and `reading`.
use Rattle.std.proofs.Common.{◌≡◌, ◌≢◌, ◌∙◌, Bool, true, List, [], ◌∷◌, Option, Some, None, codes, refl, sym, ap}
use Rattle.std.proofs.lemmas.Bool.{and_parts}
use Rattle.clap.specs.Words.{App, Kinds, Row, Text, fault_of, is_simple, is_simple_and_free, matches_of}
use Rattle.clap.specs.Faults.{is_free_app}
use Rattle.clap.specs.Simple.{built}
use Rattle.bsc_cli.specs.declared.asked.Way.{Way}
use Rattle.bsc_cli.specs.Words.{AskedOf, app_for, asked_as, found_by, has_word, or_by, unless}

pub simple_of : (app : App) → is_simple_and_free app ≡ true → is_simple app ≡ true
simple_of app h = (and_parts (is_simple app) (is_free_app (built app)) h).0

-- where nothing is at fault, what is asked for stands
asked_if_fine : (kinds : Kinds) (asked : Option AskedOf) → kinds ≡ [] → unless kinds asked ≡ asked
asked_if_fine kinds asked fine = ap (λ k. unless k asked) fine

-- where something is, nothing is asked for
none_if_faulty : (kinds : Kinds) (asked : Option AskedOf) → kinds ≢ [] → unless kinds asked ≡ None
none_if_faulty [] asked faulty = absurd (faulty refl)
none_if_faulty (kind ∷ kinds) asked faulty = refl

module _ (app : App) (way : Way) (words : List Text) where
  -- words with no fault ask for what is found in their rows
  pub found_asked : (rows : List Row) (ended : Bool) (asked : Option AskedOf) → app ≡ app_for way → fault_of app words ≡ [] → rows ≡ matches_of app words
      → ended ≡ has_word (codes "--") words → asked ≡ found_by way ended rows → asked_as way words ≡ asked
  found_asked rows ended asked is fine found e a =
      asked_if_fine _ _ (sym (ap (λ x. fault_of x words) is) ∙ fine)
      ∙ ap (λ r. found_by way (has_word (codes "--") words) r) (sym (found ∙ ap (λ x. matches_of x words) is))
      ∙ sym (a ∙ ap (λ b. found_by way b rows) e)

  -- words with a fault ask for nothing
  pub faulty_asked : app ≡ app_for way → fault_of app words ≢ [] → asked_as way words ≡ None
  faulty_asked is faulty = none_if_faulty _ _ (λ fine. faulty (ap (λ x. fault_of x words) is ∙ fine))

-- what is asked for by the first of two, and by the second where the first asks for nothing
pub by_first : (x y : Option AskedOf) (a : AskedOf) → x ≡ Some a → or_by x y ≡ Some a
by_first x y a is = ap (λ z. or_by z y) is

pub by_second : (x y z : Option AskedOf) → x ≡ None → y ≡ z → or_by x y ≡ z
by_second x y z none is = ap (λ w. or_by w y) none ∙ is
