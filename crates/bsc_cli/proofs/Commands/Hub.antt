-- The command `hub`, without `--test` and with it: what `clap` finds for it, its lists, calls for help, and rows worked by hand.
-- It serves clauses of functions of `beside`, `laws` and `reading`.
use Rattle.std.proofs.Common.{[], ◌&&◌, ◌∙◌, ◌∷◌, ◌≡◌, Bool, List, None, Option, Some, ap, ap₂, codes, false, is_some, not, option_map, refl, sym, true}
use Rattle.std.proofs.Common.{true≢false, ℕ}
use Rattle.std.proofs.lemmas.Bool.{and_parts, not-true}
use Rattle.std.specs.Prelude.{if◌then◌else◌}
use Rattle.std.specs.Cmp.Lexicographic.{bytes_decides}
use Rattle.clap.proofs.OnLiterals.{clap_on_literals}
use Rattle.clap.specs.Faults.{step_fault, turn_fault}
use Rattle.clap.specs.Walk.{Held, Walk, arg_by_id, nothing_held, option_word, value, walked}
use Rattle.clap.specs.Words.{Row, Shape, Text, built, first_of, is_simple_and_free}
use Rattle.clap.specs.declared.error.kind.ErrorKind.TheVariants.{UnknownArgument}
use Rattle.bsc_cli.specs.Words.{AskedOf, JournalsOf, app_for, asked_as, asked_by, has_hyphen, have_no_hyphen, hub, hub_of, journals_of, listed_hub, listed_test_hub, sessions_of}
use Rattle.bsc_cli.specs.Words.{test_hub, test_hub_of, under}
use Rattle.bsc_cli.specs.declared.asked.Way.TheVariants as way
use Rattle.bsc_cli.specs.declared.bounds.TheConstants.{SESSIONS}
use Rattle.bsc_text.specs.Lines.{same_octets}
use Rattle.bsc_cli.proofs.Lists.{SecondAsks, first_plain, mapped, no_flag, number_plain, plain_in, rest_plain, some_mapped}
use Rattle.bsc_cli.proofs.Ways.{Fits, Reads}
use Rattle.bsc_cli.proofs.Steps.{asked_from, at, awaiting, pending, plain_turn, plain_walked, stops, value_turn, value_walked, walks_on}

hub-simple : is_simple_and_free (app_for way.Hub) ≡ true
unfolding clap_on_literals
hub-simple = refl

test_hub-simple : is_simple_and_free (app_for way.TestHub) ≡ true
unfolding clap_on_literals
test_hub-simple = refl

-- ---- `hub` takes a path

abbrev hub_shape : Shape
hub_shape = (built (app_for way.Hub)).top

abbrev hub_read : List Row → Option AskedOf
hub_read rows =
    hub_of (first_of (codes "path") rows) (first_of (codes "sessions") rows) (journals_of (first_of (codes "journal") rows) (first_of (codes "journal-octets") rows))
    (first_of (codes "stop-file") rows)

hub_from : (name : Text) (words : List Text) → asked_as way.Hub (name ∷ words) ≡ asked_from hub_shape hub_read (at nothing_held 1) words
hub_from name words = refl

abbrev hub_first : Text → Held
hub_first word = pending [] (codes "path") word

hub_step : (word : Text) (words : List Text) → has_hyphen word ≡ false
    → asked_from hub_shape hub_read (at nothing_held 1) (word ∷ words) ≡ asked_from hub_shape hub_read (at (hub_first word) 2) words
hub_step word words h =
    walks_on hub_shape hub_read (at nothing_held 1) (at (hub_first word) 2) word words (plain_turn hub_shape nothing_held 1 word h)
    (plain_walked hub_shape.rules nothing_held 1 word h)

hub_none : (name : Text) → asked_as way.Hub (name ∷ []) ≡ None
unfolding clap_on_literals
hub_none name = refl

hub_end : (path : Text) → asked_from hub_shape hub_read (at (hub_first path) 2) [] ≡ Some (hub path None None None)
unfolding clap_on_literals
hub_end path = refl

hub_one : (name path : Text) → has_hyphen path ≡ false → asked_as way.Hub (name ∷ path ∷ []) ≡ Some (hub path None None None)
hub_one name path h = hub_from name (path ∷ []) ∙ hub_step path [] h ∙ hub_end path

hub_stray : (path : Text) → step_fault hub_shape 2 (hub_first path) value ≡ UnknownArgument ∷ []
hub_stray path = refl

hub_more : (name path next : Text) (words : List Text) → has_hyphen path ≡ false → has_hyphen next ≡ false
    → asked_as way.Hub (name ∷ path ∷ next ∷ words) ≡ None
hub_more name path next words h i =
    hub_from name (path ∷ next ∷ words) ∙ hub_step path (next ∷ words) h
    ∙ stops hub_shape hub_read (at (hub_first path) 2) next words UnknownArgument [] (plain_turn hub_shape (hub_first path) 2 next i ∙ hub_stray path)

-- and a number of sessions behind it
abbrev hub_second : Text → Walk
hub_second path = walked hub_shape.rules [] (at (hub_first path) 2) (codes "--sessions")

option_turn : (path : Text) → turn_fault hub_shape [] (at (hub_first path) 2) (codes "--sessions") ≡ []
unfolding clap_on_literals
option_turn path = refl

option_walked : (path : Text) → hub_second path ≡ awaiting (codes "sessions") (hub_second path).held 2
unfolding clap_on_literals
option_walked path = refl

abbrev hub_third : Text → Text → Walk
hub_third path word =
    let held = (hub_second path).held in
    let met = option_word (arg_by_id hub_shape.rules (codes "sessions")) (codes "sessions") word held in
    record (awaiting (codes "sessions") held 2) { held = met.0; waiting = met.1 }

served_end : (path word : Text) → asked_from hub_shape hub_read (hub_third path word) [] ≡ option_map (λ n. hub path (Some n) None None) (sessions_of word)
unfolding clap_on_literals
served_end path word = refl

hub_served : (name path word : Text) → has_hyphen path ≡ false → has_hyphen word ≡ false
    → asked_as way.Hub (name ∷ path ∷ codes "--sessions" ∷ word ∷ []) ≡ option_map (λ n. hub path (Some n) None None) (sessions_of word)
hub_served name path word h i =
    let held = (hub_second path).held in
    hub_from name (path ∷ codes "--sessions" ∷ word ∷ []) ∙ hub_step path (codes "--sessions" ∷ word ∷ []) h
    ∙ walks_on hub_shape hub_read (at (hub_first path) 2) (awaiting (codes "sessions") held 2) (codes "--sessions") (word ∷ [])
    (option_turn path) (option_walked path)
    ∙ walks_on hub_shape hub_read (awaiting (codes "sessions") held 2) (hub_third path word) word [] (value_turn hub_shape (codes "sessions") held 2 word i)
    (value_walked hub_shape.rules (codes "sessions") held 2 word i)
    ∙ served_end path word

-- and a prefix
abbrev hub_other : Text → Walk
hub_other path = walked hub_shape.rules [] (at (hub_first path) 2) (codes "--journal")

other_turn : (path : Text) → turn_fault hub_shape [] (at (hub_first path) 2) (codes "--journal") ≡ []
unfolding clap_on_literals
other_turn path = refl

other_walked : (path : Text) → hub_other path ≡ awaiting (codes "journal") (hub_other path).held 2
unfolding clap_on_literals
other_walked path = refl

abbrev hub_prefixed : Text → Text → Walk
hub_prefixed path prefix =
    let held = (hub_other path).held in
    let met = option_word (arg_by_id hub_shape.rules (codes "journal")) (codes "journal") prefix held in
    record (awaiting (codes "journal") held 2) { held = met.0; waiting = met.1 }

recorded_end : (path prefix : Text) → asked_from hub_shape hub_read (hub_prefixed path prefix) [] ≡ Some (hub path None (Some (under prefix)) None)
unfolding clap_on_literals
recorded_end path prefix = refl

hub_recorded : (name path prefix : Text) → has_hyphen path ≡ false → has_hyphen prefix ≡ false
    → asked_as way.Hub (name ∷ path ∷ codes "--journal" ∷ prefix ∷ []) ≡ Some (hub path None (Some (under prefix)) None)
hub_recorded name path prefix h i =
    let held = (hub_other path).held in
    hub_from name (path ∷ codes "--journal" ∷ prefix ∷ []) ∙ hub_step path (codes "--journal" ∷ prefix ∷ []) h
    ∙ walks_on hub_shape hub_read (at (hub_first path) 2) (awaiting (codes "journal") held 2) (codes "--journal") (prefix ∷ [])
    (other_turn path) (other_walked path)
    ∙ walks_on hub_shape hub_read (awaiting (codes "journal") held 2) (hub_prefixed path prefix) prefix [] (value_turn hub_shape (codes "journal") held 2 prefix i)
    (value_walked hub_shape.rules (codes "journal") held 2 prefix i)
    ∙ recorded_end path prefix

-- and both
abbrev hub_fourth : Text → Text → Walk
hub_fourth path word = walked hub_shape.rules [] (hub_third path word) (codes "--journal")

fourth_turn : (path word : Text) → turn_fault hub_shape [] (hub_third path word) (codes "--journal") ≡ []
unfolding clap_on_literals
fourth_turn path word = refl

fourth_walked : (path word : Text) → hub_fourth path word ≡ awaiting (codes "journal") (hub_fourth path word).held 2
unfolding clap_on_literals
fourth_walked path word = refl

abbrev hub_fifth : Text → Text → Text → Walk
hub_fifth path word prefix =
    let held = (hub_fourth path word).held in
    let met = option_word (arg_by_id hub_shape.rules (codes "journal")) (codes "journal") prefix held in
    record (awaiting (codes "journal") held 2) { held = met.0; waiting = met.1 }

both_end : (path word prefix : Text) → asked_from hub_shape hub_read (hub_fifth path word prefix) [] ≡ option_map (λ n. hub path (Some n) (Some (under prefix)) None) (sessions_of word)
unfolding clap_on_literals
both_end path word prefix = refl

hub_both : (name path word prefix : Text) → has_hyphen path ≡ false → has_hyphen word ≡ false → has_hyphen prefix ≡ false
    → asked_as way.Hub (name ∷ path ∷ codes "--sessions" ∷ word ∷ codes "--journal" ∷ prefix ∷ []) ≡ option_map (λ n. hub path (Some n) (Some (under prefix)) None) (sessions_of word)
hub_both name path word prefix h i j =
    let held = (hub_second path).held in
    let more = (hub_fourth path word).held in
    hub_from name (path ∷ codes "--sessions" ∷ word ∷ codes "--journal" ∷ prefix ∷ []) ∙ hub_step path (codes "--sessions" ∷ word ∷ codes "--journal" ∷ prefix ∷ []) h
    ∙ walks_on hub_shape hub_read (at (hub_first path) 2) (awaiting (codes "sessions") held 2) (codes "--sessions") (word ∷ codes "--journal" ∷ prefix ∷ [])
    (option_turn path) (option_walked path)
    ∙ walks_on hub_shape hub_read (awaiting (codes "sessions") held 2) (hub_third path word) word (codes "--journal" ∷ prefix ∷ []) (value_turn hub_shape (codes "sessions") held 2 word i)
    (value_walked hub_shape.rules (codes "sessions") held 2 word i)
    ∙ walks_on hub_shape hub_read (hub_third path word) (awaiting (codes "journal") more 2) (codes "--journal") (prefix ∷ []) (fourth_turn path word) (fourth_walked path word)
    ∙ walks_on hub_shape hub_read (awaiting (codes "journal") more 2) (hub_fifth path word prefix) prefix [] (value_turn hub_shape (codes "journal") more 2 prefix j)
    (value_walked hub_shape.rules (codes "journal") more 2 prefix j)
    ∙ both_end path word prefix

-- and a path of the file that stops it, behind each of these
abbrev hub_filed : Held → Text → Walk
hub_filed held file =
    let met = option_word (arg_by_id hub_shape.rules (codes "stop-file")) (codes "stop-file") file held in
    record (awaiting (codes "stop-file") held 2) { held = met.0; waiting = met.1 }

hub_file : (w : Walk) (held : Held) (file : Text) → turn_fault hub_shape [] w (codes "--stop-file") ≡ []
    → walked hub_shape.rules [] w (codes "--stop-file") ≡ awaiting (codes "stop-file") held 2 → has_hyphen file ≡ false
    → asked_from hub_shape hub_read w (codes "--stop-file" ∷ file ∷ []) ≡ asked_from hub_shape hub_read (hub_filed held file) []
hub_file w held file turn on i =
    walks_on hub_shape hub_read w (awaiting (codes "stop-file") held 2) (codes "--stop-file") (file ∷ []) turn on
    ∙ walks_on hub_shape hub_read (awaiting (codes "stop-file") held 2) (hub_filed held file) file [] (value_turn hub_shape (codes "stop-file") held 2 file i)
    (value_walked hub_shape.rules (codes "stop-file") held 2 file i)

hub_serving : (path word : Text) (words : List Text) → has_hyphen word ≡ false
    → asked_from hub_shape hub_read (at (hub_first path) 2) (codes "--sessions" ∷ word ∷ words) ≡ asked_from hub_shape hub_read (hub_third path word) words
hub_serving path word words i =
    let held = (hub_second path).held in
    walks_on hub_shape hub_read (at (hub_first path) 2) (awaiting (codes "sessions") held 2) (codes "--sessions") (word ∷ words) (option_turn path) (option_walked path)
    ∙ walks_on hub_shape hub_read (awaiting (codes "sessions") held 2) (hub_third path word) word words (value_turn hub_shape (codes "sessions") held 2 word i)
    (value_walked hub_shape.rules (codes "sessions") held 2 word i)

abbrev only_stop : Text → Walk
only_stop path = walked hub_shape.rules [] (at (hub_first path) 2) (codes "--stop-file")

only_turn : (path : Text) → turn_fault hub_shape [] (at (hub_first path) 2) (codes "--stop-file") ≡ []
unfolding clap_on_literals
only_turn path = refl

only_walked : (path : Text) → only_stop path ≡ awaiting (codes "stop-file") (only_stop path).held 2
unfolding clap_on_literals
only_walked path = refl

only_end : (path file : Text) → asked_from hub_shape hub_read (hub_filed (only_stop path).held file) [] ≡ Some (hub path None None (Some file))
unfolding clap_on_literals
only_end path file = refl

hub_stopped : (name path file : Text) → has_hyphen path ≡ false → has_hyphen file ≡ false
    → asked_as way.Hub (name ∷ path ∷ codes "--stop-file" ∷ file ∷ []) ≡ Some (hub path None None (Some file))
hub_stopped name path file h i =
    hub_from name (path ∷ codes "--stop-file" ∷ file ∷ []) ∙ hub_step path (codes "--stop-file" ∷ file ∷ []) h
    ∙ hub_file (at (hub_first path) 2) (only_stop path).held file (only_turn path) (only_walked path) i ∙ only_end path file

abbrev served_stop : Text → Text → Walk
served_stop path word = walked hub_shape.rules [] (hub_third path word) (codes "--stop-file")

served_turn : (path word : Text) → turn_fault hub_shape [] (hub_third path word) (codes "--stop-file") ≡ []
unfolding clap_on_literals
served_turn path word = refl

served_walked : (path word : Text) → served_stop path word ≡ awaiting (codes "stop-file") (served_stop path word).held 2
unfolding clap_on_literals
served_walked path word = refl

served_stop_end : (path word file : Text) → asked_from hub_shape hub_read (hub_filed (served_stop path word).held file) [] ≡ option_map (λ n. hub path (Some n) None (Some file)) (sessions_of word)
unfolding clap_on_literals
served_stop_end path word file = refl

hub_served_stopped : (name path word file : Text) → has_hyphen path ≡ false → has_hyphen word ≡ false → has_hyphen file ≡ false
    → asked_as way.Hub (name ∷ path ∷ codes "--sessions" ∷ word ∷ codes "--stop-file" ∷ file ∷ []) ≡ option_map (λ n. hub path (Some n) None (Some file)) (sessions_of word)
hub_served_stopped name path word file h i j =
    hub_from name (path ∷ codes "--sessions" ∷ word ∷ codes "--stop-file" ∷ file ∷ []) ∙ hub_step path (codes "--sessions" ∷ word ∷ codes "--stop-file" ∷ file ∷ []) h
    ∙ hub_serving path word (codes "--stop-file" ∷ file ∷ []) i
    ∙ hub_file (hub_third path word) (served_stop path word).held file (served_turn path word) (served_walked path word) j ∙ served_stop_end path word file

abbrev recorded_stop : Text → Text → Walk
recorded_stop path prefix = walked hub_shape.rules [] (hub_prefixed path prefix) (codes "--stop-file")

recorded_turn : (path prefix : Text) → turn_fault hub_shape [] (hub_prefixed path prefix) (codes "--stop-file") ≡ []
unfolding clap_on_literals
recorded_turn path prefix = refl

recorded_walked : (path prefix : Text) → recorded_stop path prefix ≡ awaiting (codes "stop-file") (recorded_stop path prefix).held 2
unfolding clap_on_literals
recorded_walked path prefix = refl

recorded_stop_end : (path prefix file : Text) → asked_from hub_shape hub_read (hub_filed (recorded_stop path prefix).held file) [] ≡ Some (hub path None (Some (under prefix)) (Some file))
unfolding clap_on_literals
recorded_stop_end path prefix file = refl

hub_recorded_stopped : (name path prefix file : Text) → has_hyphen path ≡ false → has_hyphen prefix ≡ false → has_hyphen file ≡ false
    → asked_as way.Hub (name ∷ path ∷ codes "--journal" ∷ prefix ∷ codes "--stop-file" ∷ file ∷ []) ≡ Some (hub path None (Some (under prefix)) (Some file))
hub_recorded_stopped name path prefix file h i j =
    let held = (hub_other path).held in
    let more = codes "--stop-file" ∷ file ∷ [] in
    hub_from name (path ∷ codes "--journal" ∷ prefix ∷ more) ∙ hub_step path (codes "--journal" ∷ prefix ∷ more) h
    ∙ walks_on hub_shape hub_read (at (hub_first path) 2) (awaiting (codes "journal") held 2) (codes "--journal") (prefix ∷ more)
    (other_turn path) (other_walked path)
    ∙ walks_on hub_shape hub_read (awaiting (codes "journal") held 2) (hub_prefixed path prefix) prefix more (value_turn hub_shape (codes "journal") held 2 prefix i)
    (value_walked hub_shape.rules (codes "journal") held 2 prefix i)
    ∙ hub_file (hub_prefixed path prefix) (recorded_stop path prefix).held file (recorded_turn path prefix) (recorded_walked path prefix) j
    ∙ recorded_stop_end path prefix file

abbrev all_stop : Text → Text → Text → Walk
all_stop path word prefix = walked hub_shape.rules [] (hub_fifth path word prefix) (codes "--stop-file")

all_turn : (path word prefix : Text) → turn_fault hub_shape [] (hub_fifth path word prefix) (codes "--stop-file") ≡ []
unfolding clap_on_literals
all_turn path word prefix = refl

all_walked : (path word prefix : Text) → all_stop path word prefix ≡ awaiting (codes "stop-file") (all_stop path word prefix).held 2
unfolding clap_on_literals
all_walked path word prefix = refl

all_end : (path word prefix file : Text)
    → asked_from hub_shape hub_read (hub_filed (all_stop path word prefix).held file) [] ≡ option_map (λ n. hub path (Some n) (Some (under prefix)) (Some file)) (sessions_of word)
unfolding clap_on_literals
all_end path word prefix file = refl

hub_all : (name path word prefix file : Text) → has_hyphen path ≡ false → has_hyphen word ≡ false → has_hyphen prefix ≡ false → has_hyphen file ≡ false
    → asked_as way.Hub (name ∷ path ∷ codes "--sessions" ∷ word ∷ codes "--journal" ∷ prefix ∷ codes "--stop-file" ∷ file ∷ [])
    ≡ option_map (λ n. hub path (Some n) (Some (under prefix)) (Some file)) (sessions_of word)
hub_all name path word prefix file h i j k =
    let held = (hub_fourth path word).held in
    let last = codes "--stop-file" ∷ file ∷ [] in
    let more = codes "--journal" ∷ prefix ∷ last in
    hub_from name (path ∷ codes "--sessions" ∷ word ∷ more) ∙ hub_step path (codes "--sessions" ∷ word ∷ more) h
    ∙ hub_serving path word more i
    ∙ walks_on hub_shape hub_read (hub_third path word) (awaiting (codes "journal") held 2) (codes "--journal") (prefix ∷ last) (fourth_turn path word) (fourth_walked path word)
    ∙ walks_on hub_shape hub_read (awaiting (codes "journal") held 2) (hub_fifth path word prefix) prefix last (value_turn hub_shape (codes "journal") held 2 prefix j)
    (value_walked hub_shape.rules (codes "journal") held 2 prefix j)
    ∙ hub_file (hub_fifth path word prefix) (all_stop path word prefix).held file (all_turn path word prefix) (all_walked path word prefix) k
    ∙ all_end path word prefix file

hub_flagged : (path : Text) → turn_fault hub_shape [] (at (hub_first path) 2) (codes "--test") ≡ UnknownArgument ∷ []
unfolding clap_on_literals
hub_flagged path = refl

hub_untested : (name path : Text) → has_hyphen path ≡ false → asked_as way.Hub (name ∷ path ∷ codes "--test" ∷ []) ≡ None
hub_untested name path h =
    hub_from name (path ∷ codes "--test" ∷ []) ∙ hub_step path (codes "--test" ∷ []) h
    ∙ stops hub_shape hub_read (at (hub_first path) 2) (codes "--test") [] UnknownArgument [] (hub_flagged path)

-- ---- `hub` and `--test` take a path

abbrev test_hub_shape : Shape
test_hub_shape = (built (app_for way.TestHub)).top

abbrev test_hub_read : List Row → Option AskedOf
test_hub_read rows = test_hub_of (first_of (codes "path") rows)

test_hub_from : (name : Text) (words : List Text) → asked_as way.TestHub (name ∷ words) ≡ asked_from test_hub_shape test_hub_read (at nothing_held 1) words
test_hub_from name words = refl

test_hub_step : (word : Text) (words : List Text) → has_hyphen word ≡ false
    → asked_from test_hub_shape test_hub_read (at nothing_held 1) (word ∷ words) ≡ asked_from test_hub_shape test_hub_read (at (hub_first word) 2) words
test_hub_step word words h =
    walks_on test_hub_shape test_hub_read (at nothing_held 1) (at (hub_first word) 2) word words (plain_turn test_hub_shape nothing_held 1 word h)
    (plain_walked test_hub_shape.rules nothing_held 1 word h)

test_hub_none : (name : Text) → asked_as way.TestHub (name ∷ []) ≡ None
unfolding clap_on_literals
test_hub_none name = refl

test_hub_end : (path : Text) → asked_from test_hub_shape test_hub_read (at (hub_first path) 2) [] ≡ None
unfolding clap_on_literals
test_hub_end path = refl

test_hub_one : (name path : Text) → has_hyphen path ≡ false → asked_as way.TestHub (name ∷ path ∷ []) ≡ None
test_hub_one name path h = test_hub_from name (path ∷ []) ∙ test_hub_step path [] h ∙ test_hub_end path

test_hub_stray : (path : Text) → step_fault test_hub_shape 2 (hub_first path) value ≡ UnknownArgument ∷ []
test_hub_stray path = refl

test_hub_more : (name path next : Text) (words : List Text) → has_hyphen path ≡ false → has_hyphen next ≡ false
    → asked_as way.TestHub (name ∷ path ∷ next ∷ words) ≡ None
test_hub_more name path next words h i =
    test_hub_from name (path ∷ next ∷ words) ∙ test_hub_step path (next ∷ words) h
    ∙ stops test_hub_shape test_hub_read (at (hub_first path) 2) next words UnknownArgument []
    (plain_turn test_hub_shape (hub_first path) 2 next i ∙ test_hub_stray path)

tested_end : (path : Text) → asked_from test_hub_shape test_hub_read (at (hub_first path) 2) (codes "--test" ∷ []) ≡ Some (test_hub path)
unfolding clap_on_literals
tested_end path = refl

test_hub_two : (name path : Text) → has_hyphen path ≡ false → asked_as way.TestHub (name ∷ path ∷ codes "--test" ∷ []) ≡ Some (test_hub path)
test_hub_two name path h = test_hub_from name (path ∷ codes "--test" ∷ []) ∙ test_hub_step path (codes "--test" ∷ []) h ∙ tested_end path

-- ---- as lists

no_option : (word : Text) → has_hyphen word ≡ false → same_octets word (codes "--sessions") ≡ false
no_option [] h = refl
no_option (c ∷ word) h = rw h refl

no_prefix : (word : Text) → has_hyphen word ≡ false → same_octets word (codes "--journal") ≡ false
no_prefix [] h = refl
no_prefix (c ∷ word) h = rw h refl

no_file : (word : Text) → has_hyphen word ≡ false → same_octets word (codes "--stop-file") ≡ false
no_file [] h = refl
no_file (c ∷ word) h = rw h refl

-- three choices of which none is taken
none_taken : (a b d : Bool) (x y z : Option AskedOf) → a ≡ false → b ≡ false → d ≡ false → None ≡ (if a then x else if b then y else if d then z else None)
none_taken a b d x y z e f g = sym (ap₂ (λ p q. if p then x else if q then y else if d then z else None) e f ∙ ap (λ r. if r then z else None) g)

and_not : (a b : Bool) → a ≡ false → (a && b) ≡ false
and_not a b e = ap (λ x. x && b) e

hub_plain : (name : Text) (words : List Text) → have_no_hyphen words ≡ true → asked_as way.Hub (name ∷ words) ≡ listed_hub words
hub_plain name [] h = hub_none name
hub_plain name (path ∷ []) h = hub_one name path (first_plain path [] h)
hub_plain name (path ∷ next ∷ []) h = hub_more name path next [] (first_plain path (next ∷ []) h) (first_plain next [] (rest_plain path (next ∷ []) h))
hub_plain name (path ∷ next ∷ word ∷ []) h =
    let i : has_hyphen next ≡ false = first_plain next (word ∷ []) (rest_plain path (next ∷ word ∷ []) h) in
    hub_more name path next (word ∷ []) (first_plain path (next ∷ word ∷ []) h) i
    ∙ none_taken (same_octets next (codes "--sessions")) (same_octets next (codes "--journal")) (same_octets next (codes "--stop-file"))
    (option_map (λ n. hub path (Some n) None None) (sessions_of word)) (Some (hub path None (Some (under word)) None)) (Some (hub path None None (Some word)))
    (no_option next i) (no_prefix next i) (no_file next i)
hub_plain name (path ∷ next ∷ word ∷ more ∷ []) h =
    hub_more name path next (word ∷ more ∷ []) (first_plain path (next ∷ word ∷ more ∷ []) h)
    (first_plain next (word ∷ more ∷ []) (rest_plain path (next ∷ word ∷ more ∷ []) h))
hub_plain name (path ∷ next ∷ word ∷ more ∷ last ∷ []) h =
    let i : has_hyphen next ≡ false = first_plain next (word ∷ more ∷ last ∷ []) (rest_plain path (next ∷ word ∷ more ∷ last ∷ []) h) in
    hub_more name path next (word ∷ more ∷ last ∷ []) (first_plain path (next ∷ word ∷ more ∷ last ∷ []) h) i
    ∙ none_taken (same_octets next (codes "--sessions") && same_octets more (codes "--journal")) (same_octets next (codes "--sessions") && same_octets more (codes "--stop-file"))
    (same_octets next (codes "--journal") && same_octets more (codes "--stop-file"))
    (option_map (λ n. hub path (Some n) (Some (under last)) None) (sessions_of word)) (option_map (λ n. hub path (Some n) None (Some last)) (sessions_of word)) (Some (hub path None (Some (under word)) (Some last)))
    (and_not (same_octets next (codes "--sessions")) (same_octets more (codes "--journal")) (no_option next i))
    (and_not (same_octets next (codes "--sessions")) (same_octets more (codes "--stop-file")) (no_option next i))
    (and_not (same_octets next (codes "--journal")) (same_octets more (codes "--stop-file")) (no_prefix next i))
hub_plain name (path ∷ next ∷ word ∷ more ∷ prefix ∷ last ∷ []) h =
    hub_more name path next (word ∷ more ∷ prefix ∷ last ∷ []) (first_plain path (next ∷ word ∷ more ∷ prefix ∷ last ∷ []) h)
    (first_plain next (word ∷ more ∷ prefix ∷ last ∷ []) (rest_plain path (next ∷ word ∷ more ∷ prefix ∷ last ∷ []) h))
hub_plain name (path ∷ next ∷ word ∷ more ∷ prefix ∷ third ∷ file ∷ []) h =
    let i : has_hyphen next ≡ false = first_plain next (word ∷ more ∷ prefix ∷ third ∷ file ∷ []) (rest_plain path (next ∷ word ∷ more ∷ prefix ∷ third ∷ file ∷ []) h) in
    let other : same_octets next (codes "--sessions") ≡ false = no_option next i in
    hub_more name path next (word ∷ more ∷ prefix ∷ third ∷ file ∷ []) (first_plain path (next ∷ word ∷ more ∷ prefix ∷ third ∷ file ∷ []) h) i
    ∙ sym (ap (λ b. if b && same_octets more (codes "--journal") && same_octets third (codes "--stop-file") then option_map (λ n. hub path (Some n) (Some (under prefix)) (Some file))
    (sessions_of word) else None) other)
hub_plain name (path ∷ next ∷ word ∷ more ∷ prefix ∷ third ∷ file ∷ last ∷ words) h =
    hub_more name path next (word ∷ more ∷ prefix ∷ third ∷ file ∷ last ∷ words) (first_plain path (next ∷ word ∷ more ∷ prefix ∷ third ∷ file ∷ last ∷ words) h)
    (first_plain next (word ∷ more ∷ prefix ∷ third ∷ file ∷ last ∷ words) (rest_plain path (next ∷ word ∷ more ∷ prefix ∷ third ∷ file ∷ last ∷ words) h))

test_hub_plain : (name : Text) (words : List Text) → have_no_hyphen words ≡ true → asked_as way.TestHub (name ∷ words) ≡ listed_test_hub words
test_hub_plain name [] h = test_hub_none name
test_hub_plain name (path ∷ []) h = test_hub_one name path (first_plain path [] h)
test_hub_plain name (path ∷ next ∷ []) h =
    let i : has_hyphen next ≡ false = first_plain next [] (rest_plain path (next ∷ []) h) in
    test_hub_more name path next [] (first_plain path (next ∷ []) h) i
    ∙ sym (ap (λ b. if b then Some (test_hub path) else None) (no_flag next i))
test_hub_plain name (path ∷ next ∷ word ∷ words) h =
    test_hub_more name path next (word ∷ words) (first_plain path (next ∷ word ∷ words) h) (first_plain next (word ∷ words) (rest_plain path (next ∷ word ∷ words) h))

-- a path and a prefix, or a path and the path of the file that stops the hub, that begin with no hyphen
both_plain : (path word : Text) → (not (has_hyphen word) && not (has_hyphen path)) ≡ true → (has_hyphen path ≡ false) × (has_hyphen word ≡ false)
both_plain path word h =
    let each = and_parts (not (has_hyphen word)) (not (has_hyphen path)) h in
    (not-true (has_hyphen path) each.1, not-true (has_hyphen word) each.0)

-- and all three
three_plain : (path prefix file : Text) → (not (has_hyphen prefix) && (not (has_hyphen file) && not (has_hyphen path))) ≡ true
    → (has_hyphen path ≡ false) × (has_hyphen prefix ≡ false) × (has_hyphen file ≡ false)
three_plain path prefix file h =
    let each = and_parts (not (has_hyphen prefix)) (not (has_hyphen file) && not (has_hyphen path)) h in
    let both = both_plain path file each.1 in
    (both.0, not-true (has_hyphen prefix) each.0, both.1)

abbrev one_of : Text → Text → Bool → Bool → Bool → Option AskedOf
one_of path word b d e =
    if b then option_map (λ n. hub path (Some n) None None) (sessions_of word)
    else if d then Some (hub path None (Some (under word)) None) else if e then Some (hub path None None (Some word)) else None

hub_option : (name path option word : Text) (b d e : Bool) → same_octets option (codes "--sessions") ≡ b → same_octets option (codes "--journal") ≡ d
    → same_octets option (codes "--stop-file") ≡ e → is_some (one_of path word b d e) ≡ true → plain_in (one_of path word b d e) ≡ true
    → asked_as way.Hub (name ∷ path ∷ option ∷ word ∷ []) ≡ one_of path word b d e
hub_option name path option word false false false a f g s h = absurd (true≢false (sym s))
hub_option name path option word false false true a f g s h =
    let is : option ≡ codes "--stop-file" = (bytes_decides option (codes "--stop-file")).0 g in
    let each = both_plain path word h in
    ap (λ o. asked_as way.Hub (name ∷ path ∷ o ∷ word ∷ [])) is ∙ hub_stopped name path word each.0 each.1
hub_option name path option word false true e a f g s h =
    let is : option ≡ codes "--journal" = (bytes_decides option (codes "--journal")).0 f in
    let each = both_plain path word h in
    ap (λ o. asked_as way.Hub (name ∷ path ∷ o ∷ word ∷ [])) is ∙ hub_recorded name path word each.0 each.1
hub_option name path option word true d e a f g s h =
    let is : option ≡ codes "--sessions" = (bytes_decides option (codes "--sessions")).0 a in
    ap (λ o. asked_as way.Hub (name ∷ path ∷ o ∷ word ∷ [])) is
    ∙ hub_served name path word (mapped (λ n. hub path (Some n) None None) (has_hyphen path ≡ false) (sessions_of word) (λ n k. not-true (has_hyphen path) k) s h)
    (number_plain word SESSIONS (sym (some_mapped (λ n. hub path (Some n) None None) (sessions_of word)) ∙ s))

abbrev two_of : Text → Text → Text → Bool → Bool → Bool → Option AskedOf
two_of path word last b d e =
    if b then option_map (λ n. hub path (Some n) (Some (under last)) None) (sessions_of word)
    else if d then option_map (λ n. hub path (Some n) None (Some last)) (sessions_of word)
    else if e then Some (hub path None (Some (under word)) (Some last)) else None

hub_options : (name path option word next last : Text) (b d e : Bool) → (same_octets option (codes "--sessions") && same_octets next (codes "--journal")) ≡ b
    → (same_octets option (codes "--sessions") && same_octets next (codes "--stop-file")) ≡ d → (same_octets option (codes "--journal") && same_octets next (codes "--stop-file")) ≡ e
    → is_some (two_of path word last b d e) ≡ true → plain_in (two_of path word last b d e) ≡ true
    → asked_as way.Hub (name ∷ path ∷ option ∷ word ∷ next ∷ last ∷ []) ≡ two_of path word last b d e
hub_options name path option word next last false false false a f g s h = absurd (true≢false (sym s))
hub_options name path option word next last false false true a f g s h =
    let are = and_parts (same_octets option (codes "--journal")) (same_octets next (codes "--stop-file")) g in
    let is : option ≡ codes "--journal" = (bytes_decides option (codes "--journal")).0 are.0 in
    let is_next : next ≡ codes "--stop-file" = (bytes_decides next (codes "--stop-file")).0 are.1 in
    let each = three_plain path word last h in
    ap₂ (λ o q. asked_as way.Hub (name ∷ path ∷ o ∷ word ∷ q ∷ last ∷ [])) is is_next ∙ hub_recorded_stopped name path word last each.0 each.1 each.2
hub_options name path option word next last false true e a f g s h =
    let are = and_parts (same_octets option (codes "--sessions")) (same_octets next (codes "--stop-file")) f in
    let is : option ≡ codes "--sessions" = (bytes_decides option (codes "--sessions")).0 are.0 in
    let is_next : next ≡ codes "--stop-file" = (bytes_decides next (codes "--stop-file")).0 are.1 in
    let each = mapped (λ n. hub path (Some n) None (Some last)) ((has_hyphen path ≡ false) × (has_hyphen last ≡ false)) (sessions_of word) (λ n k. both_plain path last k) s h in
    ap₂ (λ o q. asked_as way.Hub (name ∷ path ∷ o ∷ word ∷ q ∷ last ∷ [])) is is_next
    ∙ hub_served_stopped name path word last each.0
    (number_plain word SESSIONS (sym (some_mapped (λ n. hub path (Some n) None (Some last)) (sessions_of word)) ∙ s)) each.1
hub_options name path option word next last true d e a f g s h =
    let are = and_parts (same_octets option (codes "--sessions")) (same_octets next (codes "--journal")) a in
    let is : option ≡ codes "--sessions" = (bytes_decides option (codes "--sessions")).0 are.0 in
    let is_next : next ≡ codes "--journal" = (bytes_decides next (codes "--journal")).0 are.1 in
    let each = mapped (λ n. hub path (Some n) (Some (under last)) None) ((has_hyphen path ≡ false) × (has_hyphen last ≡ false)) (sessions_of word) (λ n k. both_plain path last k) s h in
    ap₂ (λ o q. asked_as way.Hub (name ∷ path ∷ o ∷ word ∷ q ∷ last ∷ [])) is is_next
    ∙ hub_both name path word last each.0
    (number_plain word SESSIONS (sym (some_mapped (λ n. hub path (Some n) (Some (under last)) None) (sessions_of word)) ∙ s)) each.1

abbrev three_of : Text → Text → Text → Text → Bool → Option AskedOf
three_of path word prefix file b = if b then option_map (λ n. hub path (Some n) (Some (under prefix)) (Some file)) (sessions_of word) else None

hub_options_all : (name path option word next prefix third file : Text) (b : Bool)
    → (same_octets option (codes "--sessions") && same_octets next (codes "--journal") && same_octets third (codes "--stop-file")) ≡ b
    → is_some (three_of path word prefix file b) ≡ true → plain_in (three_of path word prefix file b) ≡ true
    → asked_as way.Hub (name ∷ path ∷ option ∷ word ∷ next ∷ prefix ∷ third ∷ file ∷ []) ≡ three_of path word prefix file b
hub_options_all name path option word next prefix third file false e s h = absurd (true≢false (sym s))
hub_options_all name path option word next prefix third file true e s h =
    let are = and_parts (same_octets option (codes "--sessions") && same_octets next (codes "--journal")) (same_octets third (codes "--stop-file")) e in
    let first = and_parts (same_octets option (codes "--sessions")) (same_octets next (codes "--journal")) are.0 in
    let is : option ≡ codes "--sessions" = (bytes_decides option (codes "--sessions")).0 first.0 in
    let is_next : next ≡ codes "--journal" = (bytes_decides next (codes "--journal")).0 first.1 in
    let is_third : third ≡ codes "--stop-file" = (bytes_decides third (codes "--stop-file")).0 are.1 in
    let each = mapped (λ n. hub path (Some n) (Some (under prefix)) (Some file)) ((has_hyphen path ≡ false) × (has_hyphen prefix ≡ false) × (has_hyphen file ≡ false)) (sessions_of word)
    (λ n k. three_plain path prefix file k) s h in
    ap₂ (λ o q. asked_as way.Hub (name ∷ path ∷ o ∷ word ∷ q ∷ prefix ∷ third ∷ file ∷ [])) is is_next
    ∙ ap (λ o. asked_as way.Hub (name ∷ path ∷ codes "--sessions" ∷ word ∷ codes "--journal" ∷ prefix ∷ o ∷ file ∷ [])) is_third
    ∙ hub_all name path word prefix file each.0
    (number_plain word SESSIONS (sym (some_mapped (λ n. hub path (Some n) (Some (under prefix)) (Some file)) (sessions_of word)) ∙ s)) each.1 each.2

hub_good : (name : Text) (words : List Text) → is_some (listed_hub words) ≡ true → plain_in (listed_hub words) ≡ true
    → asked_as way.Hub (name ∷ words) ≡ listed_hub words
hub_good name [] s h = absurd (true≢false (sym s))
hub_good name (path ∷ []) s h = hub_one name path (not-true (has_hyphen path) h)
hub_good name (path ∷ option ∷ []) s h = absurd (true≢false (sym s))
hub_good name (path ∷ option ∷ word ∷ []) s h =
    hub_option name path option word (same_octets option (codes "--sessions")) (same_octets option (codes "--journal")) (same_octets option (codes "--stop-file")) refl refl refl s h
hub_good name (path ∷ option ∷ word ∷ next ∷ []) s h = absurd (true≢false (sym s))
hub_good name (path ∷ option ∷ word ∷ next ∷ last ∷ []) s h =
    hub_options name path option word next last (same_octets option (codes "--sessions") && same_octets next (codes "--journal"))
    (same_octets option (codes "--sessions") && same_octets next (codes "--stop-file")) (same_octets option (codes "--journal") && same_octets next (codes "--stop-file")) refl refl refl s h
hub_good name (path ∷ option ∷ word ∷ next ∷ last ∷ third ∷ []) s h = absurd (true≢false (sym s))
hub_good name (path ∷ option ∷ word ∷ next ∷ prefix ∷ third ∷ file ∷ []) s h =
    hub_options_all name path option word next prefix third file (same_octets option (codes "--sessions") && same_octets next (codes "--journal") && same_octets third (codes "--stop-file")) refl s h
hub_good name (path ∷ option ∷ word ∷ next ∷ prefix ∷ third ∷ file ∷ last ∷ words) s h = absurd (true≢false (sym s))

test_hub_asks : (name : Text) (words : List Text) → SecondAsks (asked_as way.Hub (name ∷ words)) (asked_as way.TestHub (name ∷ words)) (listed_test_hub words)
test_hub_asks name [] s h = absurd (true≢false (sym s))
test_hub_asks name (path ∷ []) s h = absurd (true≢false (sym s))
test_hub_asks name (path ∷ flag ∷ []) s h = go (same_octets flag (codes "--test")) refl s h
  where
    go : (b : Bool) → same_octets flag (codes "--test") ≡ b
        → SecondAsks (asked_as way.Hub (name ∷ path ∷ flag ∷ [])) (asked_as way.TestHub (name ∷ path ∷ flag ∷ [])) (if b then Some (test_hub path) else None)
    go false e s h = absurd (true≢false (sym s))
    go true e s h =
        let is : flag ≡ codes "--test" = (bytes_decides flag (codes "--test")).0 e in
        let i : has_hyphen path ≡ false = not-true (has_hyphen path) h in
        (ap (λ f. asked_as way.Hub (name ∷ path ∷ f ∷ [])) is ∙ hub_untested name path i, ap (λ f. asked_as way.TestHub (name ∷ path ∷ f ∷ [])) is ∙ test_hub_two name path i)
test_hub_asks name (path ∷ flag ∷ word ∷ words) s h = absurd (true≢false (sym s))

-- ---- calls for help

long_hub : (name : Text) (words : List Text) → asked_as way.Hub (name ∷ codes "--help" ∷ words) ≡ None
unfolding clap_on_literals
long_hub name words = refl

long_test_hub : (name : Text) (words : List Text) → asked_as way.TestHub (name ∷ codes "--help" ∷ words) ≡ None
unfolding clap_on_literals
long_test_hub name words = refl

short_hub : (name : Text) (words : List Text) → asked_as way.Hub (name ∷ codes "-h" ∷ words) ≡ None
unfolding clap_on_literals
short_hub name words = refl

short_test_hub : (name : Text) (words : List Text) → asked_as way.TestHub (name ∷ codes "-h" ∷ words) ≡ None
unfolding clap_on_literals
short_test_hub name words = refl

-- ---- workers, of which a hub has none

fits_sessions : (path : Text) (n : Option ℕ) (journal : Option JournalsOf) (stop_file : Option Text) → Fits (option_map (λ n. hub path (Some n) journal stop_file) n)
fits_sessions path None journal stop_file = tt
fits_sessions path (Some n) journal stop_file = tt

fits_hub : (path sessions : Option Text) (journals : Option (Option JournalsOf)) (stop_file : Option Text) → Fits (hub_of path sessions journals stop_file)
fits_hub None sessions journals stop_file = tt
fits_hub (Some path) sessions None stop_file = tt
fits_hub (Some path) None (Some journals) stop_file = tt
fits_hub (Some path) (Some word) (Some journals) stop_file = fits_sessions path (sessions_of word) journals stop_file

fits_test_hub : (path : Option Text) → Fits (test_hub_of path)
fits_test_hub None = tt
fits_test_hub (Some path) = tt

-- ---- together

pub hub_reads : Reads way.Hub
hub_reads = record {
  simple = hub-simple;
  plain = hub_plain;
  taken = λ name words n s h. hub_good name words s h;
  apart = λ name words s h. (test_hub_asks name words s h).0;
  long_help = long_hub;
  short_help = short_hub;
  fits = λ ended rows. fits_hub (first_of (codes "path") rows) (first_of (codes "sessions") rows)
      (journals_of (first_of (codes "journal") rows) (first_of (codes "journal-octets") rows)) (first_of (codes "stop-file") rows);
}

pub test_hub_reads : Reads way.TestHub
test_hub_reads = record {
  simple = test_hub-simple;
  plain = test_hub_plain;
  taken = λ name words n s h. (test_hub_asks name words s h).1;
  apart = λ name words s h. absurd (true≢false (sym s));
  long_help = long_test_hub;
  short_help = short_test_hub;
  fits = λ ended rows. fits_test_hub (first_of (codes "path") rows);
}

-- ---- worked by hand

serves : asked_by (codes "hub" ∷ codes "a" ∷ []) ≡ Some (hub (codes "a") None None None)
unfolding clap_on_literals
serves = refl

serves_three : asked_by (codes "hub" ∷ codes "a" ∷ codes "--sessions" ∷ codes "3" ∷ []) ≡ Some (hub (codes "a") (Some 3) None None)
unfolding clap_on_literals
serves_three = refl

serves_three_at_first : asked_by (codes "hub" ∷ codes "--sessions" ∷ codes "3" ∷ codes "a" ∷ []) ≡ Some (hub (codes "a") (Some 3) None None)
unfolding clap_on_literals
serves_three_at_first = refl

serves_three_in_one_word : asked_by (codes "hub" ∷ codes "--sessions=3" ∷ codes "a" ∷ []) ≡ Some (hub (codes "a") (Some 3) None None)
unfolding clap_on_literals
serves_three_in_one_word = refl

serves_none : asked_by (codes "hub" ∷ codes "a" ∷ codes "--sessions" ∷ codes "0" ∷ []) ≡ None
unfolding clap_on_literals
serves_none = refl

serves_a_million : asked_by (codes "hub" ∷ codes "a" ∷ codes "--sessions" ∷ codes "1000000" ∷ []) ≡ Some (hub (codes "a") (Some 1000000) None None)
unfolding clap_on_literals
serves_a_million = refl

serves_more : asked_by (codes "hub" ∷ codes "a" ∷ codes "--sessions" ∷ codes "1000001" ∷ []) ≡ None
unfolding clap_on_literals
serves_more = refl

serves_with_a_zero : asked_by (codes "hub" ∷ codes "a" ∷ codes "--sessions" ∷ codes "03" ∷ []) ≡ None
unfolding clap_on_literals
serves_with_a_zero = refl

serves_with_a_sign : asked_by (codes "hub" ∷ codes "a" ∷ codes "--sessions" ∷ codes "+3" ∷ []) ≡ None
unfolding clap_on_literals
serves_with_a_sign = refl

serves_twice : asked_by (codes "hub" ∷ codes "a" ∷ codes "--sessions" ∷ codes "3" ∷ codes "--sessions" ∷ codes "3" ∷ []) ≡ None
unfolding clap_on_literals
serves_twice = refl

serves_with_journals : asked_by (codes "hub" ∷ codes "a" ∷ codes "--journal" ∷ codes "j" ∷ []) ≡ Some (hub (codes "a") None (Some (under (codes "j"))) None)
unfolding clap_on_literals
serves_with_journals = refl

serves_three_with_journals :
    asked_by (codes "hub" ∷ codes "--journal" ∷ codes "j" ∷ codes "a" ∷ codes "--sessions" ∷ codes "3" ∷ [])
    ≡ Some (hub (codes "a") (Some 3) (Some (under (codes "j"))) None)
unfolding clap_on_literals
serves_three_with_journals = refl

serves_without_a_prefix : asked_by (codes "hub" ∷ codes "a" ∷ codes "--journal" ∷ []) ≡ None
unfolding clap_on_literals
serves_without_a_prefix = refl

serves_with_two_prefixes : asked_by (codes "hub" ∷ codes "a" ∷ codes "--journal" ∷ codes "j" ∷ codes "--journal" ∷ codes "k" ∷ []) ≡ None
unfolding clap_on_literals
serves_with_two_prefixes = refl

serves_until_asked : asked_by (codes "hub" ∷ codes "a" ∷ codes "--stop-file" ∷ codes "s" ∷ []) ≡ Some (hub (codes "a") None None (Some (codes "s")))
unfolding clap_on_literals
serves_until_asked = refl

serves_with_all :
    asked_by (codes "hub" ∷ codes "--stop-file=s" ∷ codes "--journal" ∷ codes "j" ∷ codes "a" ∷ codes "--sessions" ∷ codes "3" ∷ [])
    ≡ Some (hub (codes "a") (Some 3) (Some (under (codes "j"))) (Some (codes "s")))
unfolding clap_on_literals
serves_with_all = refl

serves_without_a_stop_file : asked_by (codes "hub" ∷ codes "a" ∷ codes "--stop-file" ∷ []) ≡ None
unfolding clap_on_literals
serves_without_a_stop_file = refl

serves_with_two_stop_files : asked_by (codes "hub" ∷ codes "a" ∷ codes "--stop-file" ∷ codes "s" ∷ codes "--stop-file" ∷ codes "t" ∷ []) ≡ None
unfolding clap_on_literals
serves_with_two_stop_files = refl

limits_journals : asked_by (codes "hub" ∷ codes "a" ∷ codes "--journal" ∷ codes "j" ∷ codes "--journal-octets" ∷ codes "4096" ∷ [])
    ≡ Some (hub (codes "a") None (Some (record { prefix = codes "j"; limit = Some 4096 })) None)
unfolding clap_on_literals
limits_journals = refl

limits_journals_at_first : asked_by (codes "hub" ∷ codes "--journal-octets=1000000000000" ∷ codes "--journal=j" ∷ codes "a" ∷ [])
    ≡ Some (hub (codes "a") None (Some (record { prefix = codes "j"; limit = Some 1000000000000 })) None)
unfolding clap_on_literals
limits_journals_at_first = refl

limits_journals_and_serves_three : asked_by (codes "hub" ∷ codes "a" ∷ codes "--sessions" ∷ codes "3" ∷ codes "--journal" ∷ codes "j" ∷ codes "--journal-octets" ∷ codes "4096" ∷ codes "--stop-file" ∷ codes "s" ∷ [])
    ≡ Some (hub (codes "a") (Some 3) (Some (record { prefix = codes "j"; limit = Some 4096 })) (Some (codes "s")))
unfolding clap_on_literals
limits_journals_and_serves_three = refl

limits_journals_too_much : asked_by (codes "hub" ∷ codes "a" ∷ codes "--journal" ∷ codes "j" ∷ codes "--journal-octets" ∷ codes "4095" ∷ [])
    ≡ None
unfolding clap_on_literals
limits_journals_too_much = refl

limits_journals_too_little : asked_by (codes "hub" ∷ codes "a" ∷ codes "--journal" ∷ codes "j" ∷ codes "--journal-octets" ∷ codes "1000000000001" ∷ [])
    ≡ None
unfolding clap_on_literals
limits_journals_too_little = refl

limits_journals_by_no_number : asked_by (codes "hub" ∷ codes "a" ∷ codes "--journal" ∷ codes "j" ∷ codes "--journal-octets" ∷ codes "4k" ∷ [])
    ≡ None
unfolding clap_on_literals
limits_journals_by_no_number = refl

limits_no_journals : asked_by (codes "hub" ∷ codes "a" ∷ codes "--journal-octets" ∷ codes "4096" ∷ [])
    ≡ None
unfolding clap_on_literals
limits_no_journals = refl

limits_journals_twice : asked_by (codes "hub" ∷ codes "a" ∷ codes "--journal" ∷ codes "j" ∷ codes "--journal-octets" ∷ codes "4096" ∷ codes "--journal-octets" ∷ codes "4096" ∷ [])
    ≡ None
unfolding clap_on_literals
limits_journals_twice = refl

hyphen : asked_by (codes "hub" ∷ codes "-" ∷ []) ≡ Some (hub (codes "-") None None None)
unfolding clap_on_literals
hyphen = refl

hyphen_a : asked_by (codes "hub" ∷ codes "-a" ∷ []) ≡ None
unfolding clap_on_literals
hyphen_a = refl

hyphen_a_at_the_end : asked_by (codes "hub" ∷ codes "--" ∷ codes "-a" ∷ []) ≡ Some (hub (codes "-a") None None None)
unfolding clap_on_literals
hyphen_a_at_the_end = refl

hyphens_alone : asked_by (codes "hub" ∷ codes "--" ∷ []) ≡ None
unfolding clap_on_literals
hyphens_alone = refl

no_path : asked_by (codes "hub" ∷ []) ≡ None
unfolding clap_on_literals
no_path = refl

no_number : asked_by (codes "hub" ∷ codes "a" ∷ codes "--sessions" ∷ []) ≡ None
unfolding clap_on_literals
no_number = refl

two_paths : asked_by (codes "hub" ∷ codes "a" ∷ codes "b" ∷ []) ≡ None
unfolding clap_on_literals
two_paths = refl

help : asked_by (codes "hub" ∷ codes "a" ∷ codes "--help" ∷ []) ≡ None
unfolding clap_on_literals
help = refl

tries_a_hub : asked_by (codes "hub" ∷ codes "a" ∷ codes "--test" ∷ []) ≡ Some (test_hub (codes "a"))
unfolding clap_on_literals
tries_a_hub = refl

tries_a_hub_at_first : asked_by (codes "hub" ∷ codes "--test" ∷ codes "a" ∷ []) ≡ Some (test_hub (codes "a"))
unfolding clap_on_literals
tries_a_hub_at_first = refl

tries_a_hub_without_a_path : asked_by (codes "hub" ∷ codes "--test" ∷ []) ≡ None
unfolding clap_on_literals
tries_a_hub_without_a_path = refl

tries_a_hub_twice : asked_by (codes "hub" ∷ codes "a" ∷ codes "--test" ∷ codes "--test" ∷ []) ≡ None
unfolding clap_on_literals
tries_a_hub_twice = refl

tries_a_hub_by_a_word : asked_by (codes "hub" ∷ codes "a" ∷ codes "--test=true" ∷ []) ≡ None
unfolding clap_on_literals
tries_a_hub_by_a_word = refl

tries_a_hub_and_serves : asked_by (codes "hub" ∷ codes "a" ∷ codes "--test" ∷ codes "--sessions" ∷ codes "3" ∷ []) ≡ None
unfolding clap_on_literals
tries_a_hub_and_serves = refl

serves_a_path_of_this_name : asked_by (codes "hub" ∷ codes "--" ∷ codes "--test" ∷ []) ≡ Some (hub (codes "--test") None None None)
unfolding clap_on_literals
serves_a_path_of_this_name = refl
