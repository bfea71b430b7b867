-- The command `node`, without `--test` and with it: what `clap` finds for it, its lists, calls for help, and rows worked by hand.
-- It serves clauses of functions of `beside`, `laws` and `reading`.
use Rattle.std.proofs.Common.{[], ◌&&◌, ◌||◌, ◌∙◌, ◌∷◌, ◌≡◌, Bool, List, None, Option, Some, ap, ap₂, codes, false, is_some, not, refl, sym, true}
use Rattle.std.proofs.Common.{true≢false}
use Rattle.std.proofs.lemmas.Bool.{and_parts, not-true}
use Rattle.std.specs.Prelude.{if◌then◌else◌}
use Rattle.std.specs.Cmp.Lexicographic.{bytes_decides}
use Rattle.clap.proofs.OnLiterals.{clap_on_literals}
use Rattle.clap.specs.Faults.{step_fault, turn_fault}
use Rattle.clap.specs.Walk.{Held, Walk, arg_by_index, nothing_held, to_positional, value, walked}
use Rattle.clap.specs.Words.{Row, Shape, Text, built, first_of, is_simple_and_free}
use Rattle.clap.specs.declared.error.kind.ErrorKind.TheVariants.{UnknownArgument}
use Rattle.bsc_cli.specs.Words.{AskedOf, app_for, asked_as, asked_by, has_hyphen, has_word, have_no_hyphen, listed_node, listed_test_node, live_node, node, node_of}
use Rattle.bsc_cli.specs.Words.{test_node, test_node_of}
use Rattle.bsc_cli.specs.declared.asked.Way.TheVariants as way
use Rattle.bsc_text.specs.Lines.{same_octets}
use Rattle.bsc_cli.proofs.Lists.{SecondAsks, first_plain, no_flag, no_hyphen_alone, no_two_hyphens, plain_in, rest_plain}
use Rattle.bsc_cli.proofs.Ways.{Fits, Reads}
use Rattle.bsc_cli.proofs.Steps.{asked_from, at, pending, plain_turn, plain_walked, stops, walks_on}

node-simple : is_simple_and_free (app_for way.Node) ≡ true
unfolding clap_on_literals
node-simple = refl

test_node-simple : is_simple_and_free (app_for way.TestNode) ≡ true
unfolding clap_on_literals
test_node-simple = refl

-- ---- `node` takes two paths

abbrev node_shape : Shape
node_shape = (built (app_for way.Node)).top

abbrev node_read : Bool → List Row → Option AskedOf
node_read ended rows = node_of ended (first_of (codes "path") rows) (first_of (codes "script") rows)

-- whether `--` is among words
abbrev has_end : Text → List Text → Bool
has_end name words = has_word (codes "--") (name ∷ words)

node_from : (name : Text) (words : List Text) → asked_as way.Node (name ∷ words) ≡ asked_from node_shape (node_read (has_word (codes "--") (name ∷ words))) (at nothing_held 1) words
node_from name words = refl

abbrev node_first : Text → Held
node_first word = pending [] (codes "path") word

node_step : (ended : Bool) (word : Text) (words : List Text) → has_hyphen word ≡ false
    → asked_from node_shape (node_read ended) (at nothing_held 1) (word ∷ words) ≡ asked_from node_shape (node_read ended) (at (node_first word) 2) words
node_step ended word words h =
    walks_on node_shape (node_read ended) (at nothing_held 1) (at (node_first word) 2) word words (plain_turn node_shape nothing_held 1 word h)
    (plain_walked node_shape.rules nothing_held 1 word h)

node_none : (name : Text) → asked_as way.Node (name ∷ []) ≡ None
unfolding clap_on_literals
node_none name = refl

node_first_end : (ended : Bool) (path : Text) → asked_from node_shape (node_read ended) (at (node_first path) 2) [] ≡ None
unfolding clap_on_literals
node_first_end ended path = refl

node_one : (name path : Text) → has_hyphen path ≡ false → asked_as way.Node (name ∷ path ∷ []) ≡ None
node_one name path h = node_from name (path ∷ []) ∙ node_step (has_end name (path ∷ [])) path [] h ∙ node_first_end (has_end name (path ∷ [])) path

abbrev node_second : Text → Text → Walk
node_second path script =
    to_positional node_shape.rules (arg_by_index node_shape.rules 2) script (at (node_first path) 2) (node_first path)

node_fine : (path : Text) → step_fault node_shape 2 (node_first path) value ≡ []
node_fine path = refl

node_step_two : (ended : Bool) (path script : Text) (words : List Text) → has_hyphen script ≡ false
    → asked_from node_shape (node_read ended) (at (node_first path) 2) (script ∷ words) ≡ asked_from node_shape (node_read ended) (at (node_second path script).held 3) words
node_step_two ended path script words i =
    walks_on node_shape (node_read ended) (at (node_first path) 2) (at (node_second path script).held 3) script words
    (plain_turn node_shape (node_first path) 2 script i ∙ node_fine path) (plain_walked node_shape.rules (node_first path) 2 script i)

node_end : (ended : Bool) (path script : Text) → asked_from node_shape (node_read ended) (at (node_second path script).held 3) [] ≡ node_of ended (Some path) (Some script)
unfolding clap_on_literals
node_end ended path script = refl

node_of_file : (ended : Bool) (path script : Text) → has_hyphen script ≡ false → node_of ended (Some path) (Some script) ≡ Some (node path script)
node_of_file ended path script i = ap (λ b. if b && not ended then Some (live_node path) else Some (node path script)) (no_hyphen_alone script i)

node_two : (name path script : Text) → has_hyphen path ≡ false → has_hyphen script ≡ false
    → asked_as way.Node (name ∷ path ∷ script ∷ []) ≡ Some (node path script)
node_two name path script h i =
    let ended = has_end name (path ∷ script ∷ []) in
    node_from name (path ∷ script ∷ []) ∙ node_step ended path (script ∷ []) h ∙ node_step_two ended path script [] i ∙ node_end ended path script
    ∙ node_of_file ended path script i

-- and with `-` behind its path it is live
live_turn : (path : Text) → turn_fault node_shape [] (at (node_first path) 2) (codes "-") ≡ []
unfolding clap_on_literals
live_turn path = refl

live_walked : (path : Text) → walked node_shape.rules [] (at (node_first path) 2) (codes "-") ≡ at (node_second path (codes "-")).held 3
unfolding clap_on_literals
live_walked path = refl

live_of : (ended : Bool) (path : Text) → ended ≡ false → node_of ended (Some path) (Some (codes "-")) ≡ Some (live_node path)
live_of ended path e = ap (λ b. node_of b (Some path) (Some (codes "-"))) e

node_live : (name path : Text) → same_octets name (codes "--") ≡ false → has_hyphen path ≡ false
    → asked_as way.Node (name ∷ path ∷ codes "-" ∷ []) ≡ Some (live_node path)
node_live name path n h =
    let ended = has_end name (path ∷ codes "-" ∷ []) in
    let none : ended ≡ false = ap₂ (λ a b. a || (b || false)) n (no_two_hyphens path h) in
    node_from name (path ∷ codes "-" ∷ []) ∙ node_step ended path (codes "-" ∷ []) h
    ∙ walks_on node_shape (node_read ended) (at (node_first path) 2) (at (node_second path (codes "-")).held 3) (codes "-") [] (live_turn path) (live_walked path)
    ∙ node_end ended path (codes "-") ∙ live_of ended path none

node_stray : (path script : Text) → step_fault node_shape 3 (node_second path script).held value ≡ UnknownArgument ∷ []
node_stray path script = refl

node_more : (name path script word : Text) (words : List Text) → has_hyphen path ≡ false → has_hyphen script ≡ false → has_hyphen word ≡ false
    → asked_as way.Node (name ∷ path ∷ script ∷ word ∷ words) ≡ None
node_more name path script word words h i j =
    let ended = has_end name (path ∷ script ∷ word ∷ words) in
    node_from name (path ∷ script ∷ word ∷ words) ∙ node_step ended path (script ∷ word ∷ words) h ∙ node_step_two ended path script (word ∷ words) i
    ∙ stops node_shape (node_read ended) (at (node_second path script).held 3) word words UnknownArgument []
    (plain_turn node_shape (node_second path script).held 3 word j ∙ node_stray path script)

node_flagged : (path script : Text) → turn_fault node_shape [] (at (node_second path script).held 3) (codes "--test") ≡ UnknownArgument ∷ []
unfolding clap_on_literals
node_flagged path script = refl

node_untested : (name path script : Text) → has_hyphen path ≡ false → has_hyphen script ≡ false
    → asked_as way.Node (name ∷ path ∷ script ∷ codes "--test" ∷ []) ≡ None
node_untested name path script h i =
    let ended = has_end name (path ∷ script ∷ codes "--test" ∷ []) in
    node_from name (path ∷ script ∷ codes "--test" ∷ []) ∙ node_step ended path (script ∷ codes "--test" ∷ []) h ∙ node_step_two ended path script (codes "--test" ∷ []) i
    ∙ stops node_shape (node_read ended) (at (node_second path script).held 3) (codes "--test") [] UnknownArgument [] (node_flagged path script)

-- ---- `node` and `--test` take two

abbrev test_node_shape : Shape
test_node_shape = (built (app_for way.TestNode)).top

abbrev test_node_read : List Row → Option AskedOf
test_node_read rows = test_node_of (first_of (codes "path") rows) (first_of (codes "script") rows)

test_node_from : (name : Text) (words : List Text) → asked_as way.TestNode (name ∷ words) ≡ asked_from test_node_shape test_node_read (at nothing_held 1) words
test_node_from name words = refl

test_node_step : (word : Text) (words : List Text) → has_hyphen word ≡ false
    → asked_from test_node_shape test_node_read (at nothing_held 1) (word ∷ words) ≡ asked_from test_node_shape test_node_read (at (node_first word) 2) words
test_node_step word words h =
    walks_on test_node_shape test_node_read (at nothing_held 1) (at (node_first word) 2) word words (plain_turn test_node_shape nothing_held 1 word h)
    (plain_walked test_node_shape.rules nothing_held 1 word h)

test_node_none : (name : Text) → asked_as way.TestNode (name ∷ []) ≡ None
unfolding clap_on_literals
test_node_none name = refl

test_node_first_end : (path : Text) → asked_from test_node_shape test_node_read (at (node_first path) 2) [] ≡ None
unfolding clap_on_literals
test_node_first_end path = refl

test_node_one : (name path : Text) → has_hyphen path ≡ false → asked_as way.TestNode (name ∷ path ∷ []) ≡ None
test_node_one name path h = test_node_from name (path ∷ []) ∙ test_node_step path [] h ∙ test_node_first_end path

abbrev test_node_second : Text → Text → Walk
test_node_second path script =
    to_positional test_node_shape.rules (arg_by_index test_node_shape.rules 2) script (at (node_first path) 2) (node_first path)

test_node_fine : (path : Text) → step_fault test_node_shape 2 (node_first path) value ≡ []
test_node_fine path = refl

test_node_step_two : (path script : Text) (words : List Text) → has_hyphen script ≡ false
    → asked_from test_node_shape test_node_read (at (node_first path) 2) (script ∷ words)
    ≡ asked_from test_node_shape test_node_read (at (test_node_second path script).held 3) words
test_node_step_two path script words i =
    walks_on test_node_shape test_node_read (at (node_first path) 2) (at (test_node_second path script).held 3) script words
    (plain_turn test_node_shape (node_first path) 2 script i ∙ test_node_fine path) (plain_walked test_node_shape.rules (node_first path) 2 script i)

test_node_end : (path script : Text) → asked_from test_node_shape test_node_read (at (test_node_second path script).held 3) [] ≡ None
unfolding clap_on_literals
test_node_end path script = refl

test_node_two : (name path script : Text) → has_hyphen path ≡ false → has_hyphen script ≡ false
    → asked_as way.TestNode (name ∷ path ∷ script ∷ []) ≡ None
test_node_two name path script h i =
    test_node_from name (path ∷ script ∷ []) ∙ test_node_step path (script ∷ []) h ∙ test_node_step_two path script [] i ∙ test_node_end path script

test_node_stray : (path script : Text) → step_fault test_node_shape 3 (test_node_second path script).held value ≡ UnknownArgument ∷ []
test_node_stray path script = refl

test_node_more : (name path script word : Text) (words : List Text) → has_hyphen path ≡ false → has_hyphen script ≡ false → has_hyphen word ≡ false
    → asked_as way.TestNode (name ∷ path ∷ script ∷ word ∷ words) ≡ None
test_node_more name path script word words h i j =
    test_node_from name (path ∷ script ∷ word ∷ words) ∙ test_node_step path (script ∷ word ∷ words) h ∙ test_node_step_two path script (word ∷ words) i
    ∙ stops test_node_shape test_node_read (at (test_node_second path script).held 3) word words UnknownArgument []
    (plain_turn test_node_shape (test_node_second path script).held 3 word j ∙ test_node_stray path script)

node_tested_end : (path script : Text) → asked_from test_node_shape test_node_read (at (test_node_second path script).held 3) (codes "--test" ∷ [])
    ≡ Some (test_node path script)
unfolding clap_on_literals
node_tested_end path script = refl

test_node_three : (name path script : Text) → has_hyphen path ≡ false → has_hyphen script ≡ false
    → asked_as way.TestNode (name ∷ path ∷ script ∷ codes "--test" ∷ []) ≡ Some (test_node path script)
test_node_three name path script h i =
    test_node_from name (path ∷ script ∷ codes "--test" ∷ []) ∙ test_node_step path (script ∷ codes "--test" ∷ []) h
    ∙ test_node_step_two path script (codes "--test" ∷ []) i ∙ node_tested_end path script

-- ---- as lists

node_plain : (name : Text) (words : List Text) → have_no_hyphen words ≡ true → asked_as way.Node (name ∷ words) ≡ listed_node words
node_plain name [] h = node_none name
node_plain name (path ∷ []) h = node_one name path (first_plain path [] h)
node_plain name (path ∷ script ∷ []) h =
    let i : has_hyphen script ≡ false = first_plain script [] (rest_plain path (script ∷ []) h) in
    node_two name path script (first_plain path (script ∷ []) h) i
    ∙ sym (ap (λ b. if b then Some (live_node path) else Some (node path script)) (no_hyphen_alone script i))
node_plain name (path ∷ script ∷ word ∷ words) h =
    let after = rest_plain path (script ∷ word ∷ words) h in
    node_more name path script word words (first_plain path (script ∷ word ∷ words) h) (first_plain script (word ∷ words) after)
    (first_plain word words (rest_plain script (word ∷ words) after))

test_node_plain : (name : Text) (words : List Text) → have_no_hyphen words ≡ true → asked_as way.TestNode (name ∷ words) ≡ listed_test_node words
test_node_plain name [] h = test_node_none name
test_node_plain name (path ∷ []) h = test_node_one name path (first_plain path [] h)
test_node_plain name (path ∷ script ∷ []) h =
    test_node_two name path script (first_plain path (script ∷ []) h) (first_plain script [] (rest_plain path (script ∷ []) h))
test_node_plain name (path ∷ script ∷ next ∷ []) h =
    let after = rest_plain path (script ∷ next ∷ []) h in
    let i : has_hyphen next ≡ false = first_plain next [] (rest_plain script (next ∷ []) after) in
    test_node_more name path script next [] (first_plain path (script ∷ next ∷ []) h) (first_plain script (next ∷ []) after) i
    ∙ sym (ap (λ b. if b then Some (test_node path script) else None) (no_flag next i))
test_node_plain name (path ∷ script ∷ next ∷ word ∷ words) h =
    let after = rest_plain path (script ∷ next ∷ word ∷ words) h in
    test_node_more name path script next (word ∷ words) (first_plain path (script ∷ next ∷ word ∷ words) h) (first_plain script (next ∷ word ∷ words) after)
    (first_plain next (word ∷ words) (rest_plain script (next ∷ word ∷ words) after))

abbrev run_by : Text → Text → Bool → Option AskedOf
run_by path script b = if b then Some (live_node path) else Some (node path script)

node_good : (name : Text) (words : List Text) → same_octets name (codes "--") ≡ false → is_some (listed_node words) ≡ true → plain_in (listed_node words) ≡ true
    → asked_as way.Node (name ∷ words) ≡ listed_node words
node_good name [] n s h = absurd (true≢false (sym s))
node_good name (path ∷ []) n s h = absurd (true≢false (sym s))
node_good name (path ∷ script ∷ []) n s h = go (same_octets script (codes "-")) refl h
  where
    go : (b : Bool) → same_octets script (codes "-") ≡ b → plain_in (run_by path script b) ≡ true → asked_as way.Node (name ∷ path ∷ script ∷ []) ≡ run_by path script b
    go false e h =
        let each = and_parts (not (has_hyphen path)) (not (has_hyphen script)) h in
        node_two name path script (not-true (has_hyphen path) each.0) (not-true (has_hyphen script) each.1)
    go true e h =
        let is : script ≡ codes "-" = (bytes_decides script (codes "-")).0 e in
        ap (λ w. asked_as way.Node (name ∷ path ∷ w ∷ [])) is ∙ node_live name path n (not-true (has_hyphen path) h)
node_good name (path ∷ script ∷ word ∷ words) n s h = absurd (true≢false (sym s))

test_node_asks : (name : Text) (words : List Text) → SecondAsks (asked_as way.Node (name ∷ words)) (asked_as way.TestNode (name ∷ words)) (listed_test_node words)
test_node_asks name [] s h = absurd (true≢false (sym s))
test_node_asks name (path ∷ []) s h = absurd (true≢false (sym s))
test_node_asks name (path ∷ script ∷ []) s h = absurd (true≢false (sym s))
test_node_asks name (path ∷ script ∷ flag ∷ []) s h = go (same_octets flag (codes "--test")) refl s h
  where
    go : (b : Bool) → same_octets flag (codes "--test") ≡ b
        → SecondAsks (asked_as way.Node (name ∷ path ∷ script ∷ flag ∷ [])) (asked_as way.TestNode (name ∷ path ∷ script ∷ flag ∷ [])) (if b then Some (test_node path script) else None)
    go false e s h = absurd (true≢false (sym s))
    go true e s h =
        let is : flag ≡ codes "--test" = (bytes_decides flag (codes "--test")).0 e in
        let each = and_parts (not (has_hyphen path)) (not (has_hyphen script)) h in
        let i : has_hyphen path ≡ false = not-true (has_hyphen path) each.0 in
        let j : has_hyphen script ≡ false = not-true (has_hyphen script) each.1 in (
          ap (λ f. asked_as way.Node (name ∷ path ∷ script ∷ f ∷ [])) is ∙ node_untested name path script i j,
          ap (λ f. asked_as way.TestNode (name ∷ path ∷ script ∷ f ∷ [])) is ∙ test_node_three name path script i j,
        )
test_node_asks name (path ∷ script ∷ flag ∷ word ∷ words) s h = absurd (true≢false (sym s))

-- ---- calls for help

long_node : (name : Text) (words : List Text) → asked_as way.Node (name ∷ codes "--help" ∷ words) ≡ None
unfolding clap_on_literals
long_node name words = refl

long_test_node : (name : Text) (words : List Text) → asked_as way.TestNode (name ∷ codes "--help" ∷ words) ≡ None
unfolding clap_on_literals
long_test_node name words = refl

short_node : (name : Text) (words : List Text) → asked_as way.Node (name ∷ codes "-h" ∷ words) ≡ None
unfolding clap_on_literals
short_node name words = refl

short_test_node : (name : Text) (words : List Text) → asked_as way.TestNode (name ∷ codes "-h" ∷ words) ≡ None
unfolding clap_on_literals
short_test_node name words = refl

-- ---- workers, of which a node has none

fits_run : (path script : Text) (b : Bool) → Fits (run_by path script b)
fits_run path script true = tt
fits_run path script false = tt

fits_node : (ended : Bool) (path script : Option Text) → Fits (node_of ended path script)
fits_node ended None script = tt
fits_node ended (Some path) None = tt
fits_node ended (Some path) (Some script) = fits_run path script (same_octets script (codes "-") && not ended)

fits_test_node : (path script : Option Text) → Fits (test_node_of path script)
fits_test_node None script = tt
fits_test_node (Some path) None = tt
fits_test_node (Some path) (Some script) = tt

-- ---- together

pub node_reads : Reads way.Node
node_reads = record {
  simple = node-simple;
  plain = node_plain;
  taken = node_good;
  apart = λ name words s h. (test_node_asks name words s h).0;
  long_help = long_node;
  short_help = short_node;
  fits = λ ended rows. fits_node ended (first_of (codes "path") rows) (first_of (codes "script") rows);
}

pub test_node_reads : Reads way.TestNode
test_node_reads = record {
  simple = test_node-simple;
  plain = test_node_plain;
  taken = λ name words n s h. (test_node_asks name words s h).1;
  apart = λ name words s h. absurd (true≢false (sym s));
  long_help = long_test_node;
  short_help = short_test_node;
  fits = λ ended rows. fits_test_node (first_of (codes "path") rows) (first_of (codes "script") rows);
}

-- ---- worked by hand

runs : asked_by (codes "node" ∷ codes "a" ∷ codes "b" ∷ []) ≡ Some (node (codes "a") (codes "b"))
unfolding clap_on_literals
runs = refl

no_script : asked_by (codes "node" ∷ codes "a" ∷ []) ≡ None
unfolding clap_on_literals
no_script = refl

runs_live : asked_by (codes "node" ∷ codes "a" ∷ codes "-" ∷ []) ≡ Some (live_node (codes "a"))
unfolding clap_on_literals
runs_live = refl

runs_a_file_of_this_name : asked_by (codes "node" ∷ codes "a" ∷ codes "--" ∷ codes "-" ∷ []) ≡ Some (node (codes "a") (codes "-"))
unfolding clap_on_literals
runs_a_file_of_this_name = refl

runs_a_file_by_both : asked_by (codes "node" ∷ codes "--" ∷ codes "a" ∷ codes "-" ∷ []) ≡ Some (node (codes "a") (codes "-"))
unfolding clap_on_literals
runs_a_file_by_both = refl

runs_live_by_a_hyphen : asked_by (codes "node" ∷ codes "-" ∷ codes "-" ∷ []) ≡ Some (live_node (codes "-"))
unfolding clap_on_literals
runs_live_by_a_hyphen = refl

tries_a_script_of_this_name : asked_by (codes "node" ∷ codes "a" ∷ codes "-" ∷ codes "--test" ∷ []) ≡ Some (test_node (codes "a") (codes "-"))
unfolding clap_on_literals
tries_a_script_of_this_name = refl

tries_a_node : asked_by (codes "node" ∷ codes "a" ∷ codes "b" ∷ codes "--test" ∷ []) ≡ Some (test_node (codes "a") (codes "b"))
unfolding clap_on_literals
tries_a_node = refl

tries_a_node_between : asked_by (codes "node" ∷ codes "a" ∷ codes "--test" ∷ codes "b" ∷ []) ≡ Some (test_node (codes "a") (codes "b"))
unfolding clap_on_literals
tries_a_node_between = refl

tries_a_node_without_a_script : asked_by (codes "node" ∷ codes "a" ∷ codes "--test" ∷ []) ≡ None
unfolding clap_on_literals
tries_a_node_without_a_script = refl
