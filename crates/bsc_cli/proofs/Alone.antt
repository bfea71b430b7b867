-- A command that takes no words: what `clap` finds for it, its list, and calls for help.
-- It serves clauses of functions of `beside`, `laws` and `reading`.
use Rattle.std.proofs.Common.{[], ◌∙◌, ◌∷◌, ◌≡◌, List, None, Option, Some, codes, false, is_some, refl, sym, true, true≢false}
use Rattle.clap.proofs.OnLiterals.{clap_on_literals}
use Rattle.clap.specs.Faults.{step_fault}
use Rattle.clap.specs.Walk.{nothing_held, value}
use Rattle.clap.specs.Words.{Shape, Text, built, fault_of, is_simple_and_free}
use Rattle.clap.specs.declared.error.kind.ErrorKind.TheVariants.{UnknownArgument}
use Rattle.bsc_cli.specs.Words.{AskedOf, app_with, has_hyphen, have_no_hyphen, listed_alone, unless}
use Rattle.bsc_cli.proofs.Lists.{first_plain}
use Rattle.bsc_cli.proofs.Steps.{asked_from, at, plain_turn, stops}

-- by the command's name, and what it asks for
module _ (command : Text) (asked : AskedOf) where
  -- what words ask for as those of this command
  abbrev alone_asked : List Text → Option AskedOf
  alone_asked words = unless (fault_of (app_with command []) words) (Some asked)

  abbrev alone_shape : Shape
  alone_shape = (built (app_with command [])).top

  pub alone_simple : is_simple_and_free (app_with command []) ≡ true
  unfolding clap_on_literals
  alone_simple = refl

  alone_from : (name : Text) (words : List Text) → alone_asked (name ∷ words) ≡ asked_from alone_shape (λ rows. Some asked) (at nothing_held 1) words
  alone_from name words = refl

  alone_none : (name : Text) → alone_asked (name ∷ []) ≡ Some asked
  unfolding clap_on_literals
  alone_none name = refl

  alone_stray : step_fault alone_shape 1 nothing_held value ≡ UnknownArgument ∷ []
  alone_stray = refl

  alone_more : (name word : Text) (words : List Text) → has_hyphen word ≡ false → alone_asked (name ∷ word ∷ words) ≡ None
  alone_more name word words h =
      alone_from name (word ∷ words)
      ∙ stops alone_shape (λ rows. Some asked) (at nothing_held 1) word words UnknownArgument [] (plain_turn alone_shape nothing_held 1 word h ∙ alone_stray)

  -- ---- as lists

  pub alone_plain : (name : Text) (words : List Text) → have_no_hyphen words ≡ true → alone_asked (name ∷ words) ≡ listed_alone asked words
  alone_plain name [] h = alone_none name
  alone_plain name (word ∷ words) h = alone_more name word words (first_plain word words h)

  pub alone_taken : (name : Text) (words : List Text) → is_some (listed_alone asked words) ≡ true → alone_asked (name ∷ words) ≡ listed_alone asked words
  alone_taken name [] s = alone_none name
  alone_taken name (word ∷ words) s = absurd (true≢false (sym s))

  -- ---- calls for help

  pub alone_long : (name : Text) (words : List Text) → alone_asked (name ∷ codes "--help" ∷ words) ≡ None
  unfolding clap_on_literals
  alone_long name words = refl

  pub alone_short : (name : Text) (words : List Text) → alone_asked (name ∷ codes "-h" ∷ words) ≡ None
  unfolding clap_on_literals
  alone_short name words = refl
