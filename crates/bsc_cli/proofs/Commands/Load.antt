-- The command `load`: what `clap` finds for it, its list, calls for help, and rows worked by hand.
-- It serves clauses of functions of `beside`, `laws` and `reading`.
use Rattle.std.proofs.Common.{[], ◌&&◌, ◌∙◌, ◌∷◌, ◌≡◌, ◌≤◌, Bool, List, None, Option, Some, codes, false, is_some, nat_le, option_map, refl, sym, true, true≢false, ℕ}
use Rattle.std.proofs.lemmas.Bool.{and_parts, leb-true}
use Rattle.std.specs.Prelude.{if◌then◌else◌}
use Rattle.clap.proofs.OnLiterals.{clap_on_literals}
use Rattle.clap.specs.Faults.{step_fault}
use Rattle.clap.specs.Walk.{Held, nothing_held, value}
use Rattle.clap.specs.Words.{Row, Shape, Text, built, first_of, is_simple_and_free}
use Rattle.clap.specs.declared.error.kind.ErrorKind.TheVariants.{UnknownArgument}
use Rattle.bsc_text.specs.Grammar.{number_of}
use Rattle.bsc_cli.specs.Words.{AskedOf, app_for, asked_as, asked_by, has_hyphen, have_no_hyphen, listed_load, load, load_of, up_to, workers_of}
use Rattle.bsc_cli.specs.declared.asked.Way.TheVariants as way
use Rattle.bsc_cli.specs.declared.bounds.TheConstants.{WORKERS}
use Rattle.bsc_cli.proofs.Lists.{first_plain, number_plain, rest_plain, some_mapped}
use Rattle.bsc_cli.proofs.Ways.{Fits, Reads}
use Rattle.bsc_cli.proofs.Steps.{asked_from, at, pending, plain_turn, plain_walked, stops, walks_on}

load-simple : is_simple_and_free (app_for way.Load) ≡ true
unfolding clap_on_literals
load-simple = refl

-- ---- `load` takes one word

abbrev load_shape : Shape
load_shape = (built (app_for way.Load)).top

abbrev load_read : List Row → Option AskedOf
load_read rows = load_of (first_of (codes "workers") rows)

load_from : (name : Text) (words : List Text) → asked_as way.Load (name ∷ words) ≡ asked_from load_shape load_read (at nothing_held 1) words
load_from name words = refl

abbrev load_first : Text → Held
load_first word = pending [] (codes "workers") word

load_step : (word : Text) (words : List Text) → has_hyphen word ≡ false
    → asked_from load_shape load_read (at nothing_held 1) (word ∷ words) ≡ asked_from load_shape load_read (at (load_first word) 2) words
load_step word words h =
    walks_on load_shape load_read (at nothing_held 1) (at (load_first word) 2) word words (plain_turn load_shape nothing_held 1 word h)
    (plain_walked load_shape.rules nothing_held 1 word h)

load_none : (name : Text) → asked_as way.Load (name ∷ []) ≡ None
unfolding clap_on_literals
load_none name = refl

load_end : (word : Text) → asked_from load_shape load_read (at (load_first word) 2) [] ≡ option_map load (workers_of word)
unfolding clap_on_literals
load_end word = refl

load_one : (name word : Text) → has_hyphen word ≡ false → asked_as way.Load (name ∷ word ∷ []) ≡ option_map load (workers_of word)
load_one name word h = load_from name (word ∷ []) ∙ load_step word [] h ∙ load_end word

load_stray : (word : Text) → step_fault load_shape 2 (load_first word) value ≡ UnknownArgument ∷ []
load_stray word = refl

load_more : (name word next : Text) (words : List Text) → has_hyphen word ≡ false → has_hyphen next ≡ false
    → asked_as way.Load (name ∷ word ∷ next ∷ words) ≡ None
load_more name word next words h i =
    load_from name (word ∷ next ∷ words) ∙ load_step word (next ∷ words) h
    ∙ stops load_shape load_read (at (load_first word) 2) next words UnknownArgument [] (plain_turn load_shape (load_first word) 2 next i ∙ load_stray word)

-- ---- as lists

load_plain : (name : Text) (words : List Text) → have_no_hyphen words ≡ true → asked_as way.Load (name ∷ words) ≡ listed_load words
load_plain name [] h = load_none name
load_plain name (word ∷ []) h = load_one name word (first_plain word [] h)
load_plain name (word ∷ next ∷ words) h =
    load_more name word next words (first_plain word (next ∷ words) h) (first_plain next words (rest_plain word (next ∷ words) h))

load_good : (name : Text) (words : List Text) → is_some (listed_load words) ≡ true → asked_as way.Load (name ∷ words) ≡ listed_load words
load_good name [] s = absurd (true≢false (sym s))
load_good name (word ∷ []) s = load_one name word (number_plain word WORKERS (sym (some_mapped load (workers_of word)) ∙ s))
load_good name (word ∷ next ∷ words) s = absurd (true≢false (sym s))

-- ---- calls for help

long_load : (name : Text) (words : List Text) → asked_as way.Load (name ∷ codes "--help" ∷ words) ≡ None
unfolding clap_on_literals
long_load name words = refl

short_load : (name : Text) (words : List Text) → asked_as way.Load (name ∷ codes "-h" ∷ words) ≡ None
unfolding clap_on_literals
short_load name words = refl

-- ---- workers

fits_range : (n : ℕ) (b : Bool) → (b ≡ true → (1 ≤ n) × (n ≤ WORKERS)) → Fits (option_map load (if b then Some n else None))
fits_range n true f = f refl
fits_range n false f = tt

in_range : (n : ℕ) → (nat_le 1 n && nat_le n WORKERS) ≡ true → (1 ≤ n) × (n ≤ WORKERS)
in_range n h = let two = and_parts (nat_le 1 n) (nat_le n WORKERS) h in (leb-true 1 n two.0, leb-true n WORKERS two.1)

fits_workers : (n : Option ℕ) → Fits (option_map load (up_to WORKERS n))
fits_workers None = tt
fits_workers (Some n) = fits_range n (nat_le 1 n && nat_le n WORKERS) (in_range n)

fits_load : (workers : Option Text) → Fits (load_of workers)
fits_load None = tt
fits_load (Some word) = fits_workers (number_of word)

-- ---- together

pub load_reads : Reads way.Load
load_reads = record {
  simple = load-simple;
  plain = load_plain;
  taken = λ name words n s h. load_good name words s;
  apart = λ name words s h. absurd (true≢false (sym s));
  long_help = long_load;
  short_help = short_load;
  fits = λ ended rows. fits_load (first_of (codes "workers") rows);
}

-- ---- worked by hand

loads : asked_by (codes "load" ∷ codes "512" ∷ []) ≡ Some (load 512)
unfolding clap_on_literals
loads = refl

loads_more : asked_by (codes "load" ∷ codes "513" ∷ []) ≡ None
unfolding clap_on_literals
loads_more = refl

tries_a_workload : asked_by (codes "load" ∷ codes "3" ∷ codes "--test" ∷ []) ≡ None
unfolding clap_on_literals
tries_a_workload = refl
