-- All commands together: what the laws say of each, and how many workers words may ask for.
-- It serves clauses of functions of `beside`, `laws` and `reading`.
use Rattle.std.proofs.Common.{[], ◌∙◌, ◌∷◌, ◌≡◌, ◌≤◌, Bool, List, None, Option, Some, ap, ap₂, codes, false, is_some, refl, subst, sym, true, true≢false, ℕ}
use Rattle.std.specs.Prelude.{option_and_then}
use Rattle.std.specs.Cmp.Lexicographic.{bytes_decides}
use Rattle.clap.proofs.OnLiterals.{clap_on_literals}
use Rattle.clap.specs.Words.{App, Kinds, Text, fault_of, is_simple_and_free, matches_of}
use Rattle.bsc_text.specs.Lines.{same_octets}
use Rattle.bsc_cli.specs.declared.asked.Way.{Way}
use Rattle.bsc_cli.specs.declared.asked.Way.TheVariants as way
use Rattle.bsc_cli.specs.declared.bounds.TheConstants.{WORKERS}
use Rattle.bsc_cli.specs.Words.{AskedOf, app_for, asked_as, asked_by, found_by, first_in, has_plain_paths, has_word, have_no_hyphen, listed, listed_as, load}
use Rattle.bsc_cli.specs.Words.{or_by, other_way, unless, way_of}
use Rattle.bsc_cli.proofs.Lists.{SecondAsks, either_good, plain_in}
use Rattle.bsc_cli.proofs.Ways.{Fits, Reads}
pub mod Replay
pub mod Simulate
pub mod Check
pub mod Audit
pub mod Hub
pub mod Node
pub mod Load
use Rattle.bsc_cli.proofs.Commands.Replay.{replay_reads}
use Rattle.bsc_cli.proofs.Commands.Simulate.{simulate_reads}
use Rattle.bsc_cli.proofs.Commands.Check.{check_reads}
use Rattle.bsc_cli.proofs.Commands.Audit.{audit_reads}
use Rattle.bsc_cli.proofs.Commands.Hub.{hub_reads, test_hub_reads}
use Rattle.bsc_cli.proofs.Commands.Node.{node_reads, test_node_reads}
use Rattle.bsc_cli.proofs.Commands.Load.{load_reads}

pub reads : (way : Way) → Reads way
reads way.Replay = replay_reads
reads way.Simulate = simulate_reads
reads way.Check = check_reads
reads way.Audit = audit_reads
reads way.Hub = hub_reads
reads way.TestHub = test_hub_reads
reads way.Node = node_reads
reads way.TestNode = test_node_reads
reads way.Load = load_reads

-- by which `clap` says what it finds for what the code has for a way's command
pub simple : (app : App) (w : Way) → app ≡ app_for w → is_simple_and_free app ≡ true
simple app w is = ap is_simple_and_free is ∙ (reads w).simple

-- ---- words without hyphens

-- two that agree in each way agree in the first
first_same : (asked listed : Way → Option AskedOf) → ((w : Way) → asked w ≡ listed w) → (o : Option Way) → first_in asked o ≡ first_in listed o
first_same asked listed same None = refl
first_same asked listed same (Some w) = ap₂ or_by (same w) (other (other_way w))
  where
    other : (o : Option Way) → option_and_then asked o ≡ option_and_then listed o
    other None = refl
    other (Some v) = same v

pub plain_listed : (name : Text) (words : List Text) → have_no_hyphen words ≡ true → asked_by (name ∷ words) ≡ listed (name ∷ words)
plain_listed name words h =
    first_same (λ w. asked_as w (name ∷ words)) (λ w. listed_as w words) (λ w. (reads w).plain name words h) (way_of name)

-- ---- lists

-- the name of a command isn't `--`
no_end_named : (name : Text) (words : List Text) → is_some (listed (name ∷ words)) ≡ true → same_octets name (codes "--") ≡ false
no_end_named name words s = go (same_octets name (codes "--")) refl
  where
    go : (b : Bool) → same_octets name (codes "--") ≡ b → same_octets name (codes "--") ≡ false
    go false e = e
    go true e =
        let is : name ≡ codes "--" = (bytes_decides name (codes "--")).0 e in
        absurd (true≢false (sym s ∙ ap (λ n. is_some (listed (n ∷ words))) is))

module _ (name : Text) (words : List Text) (named : same_octets name (codes "--") ≡ false) where
  other_good : (o : Option Way) → is_some (option_and_then (λ w. listed_as w words) o) ≡ true → plain_in (option_and_then (λ w. listed_as w words) o) ≡ true
      → option_and_then (λ w. asked_as w (name ∷ words)) o ≡ option_and_then (λ w. listed_as w words) o
  other_good None s h = refl
  other_good (Some v) s h = (reads v).taken name words named s h

  first_good : (o : Option Way) → is_some (first_in (λ w. listed_as w words) o) ≡ true → plain_in (first_in (λ w. listed_as w words) o) ≡ true
      → first_in (λ w. asked_as w (name ∷ words)) o ≡ first_in (λ w. listed_as w words) o
  first_good None s h = refl
  first_good (Some w) s h =
      let second : SecondAsks (asked_as w (name ∷ words)) (option_and_then (λ v. asked_as v (name ∷ words)) (other_way w)) (option_and_then (λ v. listed_as v words) (other_way w)) =
      λ t i. ((reads w).apart name words t i, other_good (other_way w) t i) in
      either_good (asked_as w (name ∷ words)) (listed_as w words) (option_and_then (λ v. asked_as v (name ∷ words)) (other_way w)) (option_and_then (λ v. listed_as v words) (other_way w))
      (λ t i. (reads w).taken name words named t i) second s h

listed_good : (words : List Text) → is_some (listed words) ≡ true → plain_in (listed words) ≡ true → asked_by words ≡ listed words
listed_good [] s h = refl
listed_good (name ∷ words) s h = first_good name words (no_end_named name words s) (way_of name) s h

pub listed_taken : (words : List Text) (asked : AskedOf) → listed words ≡ Some asked → has_plain_paths asked ≡ true → asked_by words ≡ Some asked
listed_taken words asked is plain = listed_good words (ap (λ o. is_some o) is) (ap plain_in is ∙ plain) ∙ is

-- ---- calls for help

-- where each way asks for nothing, so does the first
first_none : (asked : Way → Option AskedOf) → ((w : Way) → asked w ≡ None) → (o : Option Way) → first_in asked o ≡ None
first_none asked none None = refl
first_none asked none (Some w) = ap₂ or_by (none w) (other (other_way w))
  where
    other : (o : Option Way) → option_and_then asked o ≡ None
    other None = refl
    other (Some v) = none v

pub long_help : (name : Text) (words : List Text) → asked_by (name ∷ codes "--help" ∷ words) ≡ None
long_help name words = first_none (λ w. asked_as w (name ∷ codes "--help" ∷ words)) (λ w. (reads w).long_help name words) (way_of name)

pub short_help : (name : Text) (words : List Text) → asked_by (name ∷ codes "-h" ∷ words) ≡ None
short_help name words = first_none (λ w. asked_as w (name ∷ codes "-h" ∷ words)) (λ w. (reads w).short_help name words) (way_of name)

-- ---- workers

fits_unless : (kinds : Kinds) (x : Option AskedOf) → Fits x → Fits (unless kinds x)
fits_unless [] x f = f
fits_unless (kind ∷ kinds) x f = tt

fits_either : (x y : Option AskedOf) → Fits x → Fits y → Fits (or_by x y)
fits_either None y f g = g
fits_either (Some a) y f g = f

module _ (words : List Text) where
  fits_as : (w : Way) → Fits (asked_as w words)
  fits_as w =
      fits_unless (fault_of (app_for w) words) (found_by w (has_word (codes "--") words) (matches_of (app_for w) words))
      ((reads w).fits (has_word (codes "--") words) (matches_of (app_for w) words))

  fits_other : (o : Option Way) → Fits (option_and_then (λ w. asked_as w words) o)
  fits_other None = tt
  fits_other (Some v) = fits_as v

  fits_first : (o : Option Way) → Fits (first_in (λ w. asked_as w words) o)
  fits_first None = tt
  fits_first (Some w) = fits_either (asked_as w words) (option_and_then (λ v. asked_as v words) (other_way w)) (fits_as w) (fits_other (other_way w))

fits_asked : (words : List Text) → Fits (asked_by words)
fits_asked [] = tt
fits_asked (name ∷ words) = fits_first (name ∷ words) (way_of name)

-- words that ask for workers ask for as many as there may be
pub workers_fit : (words : List Text) (a : AskedOf) (n : ℕ) → asked_by words ≡ Some a → a ≡ load n → (1 ≤ n) × (n ≤ WORKERS)
workers_fit words a n is named = subst Fits (is ∙ ap Some named) (fits_asked words)

-- ---- worked by hand

help_alone : asked_by (codes "--help" ∷ []) ≡ None
unfolding clap_on_literals
help_alone = refl

nothing : asked_by [] ≡ None
nothing = refl

another : asked_by (codes "serve" ∷ codes "a" ∷ []) ≡ None
unfolding clap_on_literals
another = refl
