-- What the words of the program ask for, and the lists of words that name a command and all that it takes, in one order.
use Rattle.std.specs.Prelude.{ℕ, nat_le, ◌==◌, Bool, true, false, not, ◌&&◌, if◌then◌else◌, List, [], ◌∷◌, codes, fold, Option, Some, None}
use Rattle.std.specs.Prelude.{option_and_then, option_map}
use Rattle.std.specs.List.{list_any}
use Rattle.clap.specs.Words.{App, Kinds, Row, Rule, Text, fault_of, first_of, matches_of, new_app, new_rule, with_rule}
use Rattle.clap.specs.declared.builder.action.ArgAction.TheVariants.{SetTrue}
use Rattle.bsc_text.specs.Grammar.{number_of}
use Rattle.bsc_text.specs.Lines.{same_octets}
use Rattle.bsc_cli.specs.declared.bounds.TheConstants.{LEAST_OCTETS, MOST_OCTETS, SESSIONS, WORKERS}
use Rattle.bsc_cli.specs.declared.asked.Asked.{Asked}
use Rattle.bsc_cli.specs.declared.asked.Asked.TheVariants.{Replay, Simulate, Check, Audit, Hub, Node, LiveNode, Load, TestHub, TestNode}
use Rattle.bsc_cli.specs.declared.asked.JournalWords.{JournalWords}
use Rattle.bsc_cli.specs.declared.asked.Way.{Way}
use Rattle.bsc_cli.specs.declared.asked.Way.TheVariants as way

-- Journals under a prefix, and to how many octets each of their files is limited, if it is.
pub record JournalsOf : Type 0 where
  pub prefix : Text
  pub limit : Option ℕ

-- journals under this prefix, with files of any length
abbrev pub under : Text → JournalsOf
under prefix = record { prefix = prefix; limit = None }

-- the prefix of journals, where there are some, and the limit of their files, where there is one
abbrev pub prefix_in : Option JournalsOf → Option Text
prefix_in journals = option_map (λ j. j.prefix) journals

abbrev pub limit_in : Option JournalsOf → Option ℕ
limit_in journals = option_and_then (λ j. j.limit) journals

-- What words may ask for: a script of one hub is played, or one of a network; lines are checked; journals are audited; a hub
-- is served by the settings at a path, until so many links have ended or for ever, with journals under a prefix or without, and
-- until a file at a path asks for its stop, if one may; a node is run by the settings at a path and the script at another, or by
-- lines as they come; a workload is run by so many workers; or settings are tried, those of a hub at a path, or those of a node
-- at a path with the script at another.
pub data AskedOf : Type 0 where
  replay : AskedOf
  simulate : AskedOf
  check : AskedOf
  audit : AskedOf
  hub : Text → Option ℕ → Option JournalsOf → Option Text → AskedOf
  node : Text → Text → AskedOf
  live_node : Text → AskedOf
  load : ℕ → AskedOf
  test_hub : Text → AskedOf
  test_node : Text → Text → AskedOf

-- ---- the commands as arguments of `clap`

-- a word that has to be there, in its place
abbrev pub required : Text → Rule
required id = record (new_rule id) { required = true }

-- an option by its name, which takes one word
abbrev pub option : Text → Rule
option name = record (new_rule name) { long = Some name }

-- a flag by its name, which takes no word and has to be there
abbrev pub required_flag : Text → Rule
required_flag name = record (new_rule name) { long = Some name; action = Some SetTrue; required = true }

-- a command by its name, with the rules of its words
abbrev pub app_with : Text → List Rule → App
app_with name rules = fold with_rule (new_app name) rules

-- `replay`, `simulate`, `check`, `audit`, `hub PATH [--sessions N] [--journal PREFIX [--journal-octets N]] [--stop-file FILE]
-- [--status-file FILE]`, `node PATH SCRIPT` (SCRIPT may be `-`), `load N`; and what tries settings, `hub PATH --test` and
-- `node PATH SCRIPT --test`
abbrev pub app_for : Way → App
app_for way.Replay = app_with (codes "replay") []
app_for way.Simulate = app_with (codes "simulate") []
app_for way.Check = app_with (codes "check") []
app_for way.Audit = app_with (codes "audit") []
app_for way.Hub =
    app_with (codes "hub")
    (required (codes "path") ∷ option (codes "sessions") ∷ option (codes "journal") ∷ option (codes "journal-octets")
    ∷ option (codes "stop-file") ∷ option (codes "status-file") ∷ [])
app_for way.TestHub = app_with (codes "hub") (required (codes "path") ∷ required_flag (codes "test") ∷ [])
app_for way.Node = app_with (codes "node") (required (codes "path") ∷ required (codes "script") ∷ [])
app_for way.TestNode = app_with (codes "node") (required (codes "path") ∷ required (codes "script") ∷ required_flag (codes "test") ∷ [])
app_for way.Load = app_with (codes "load") (required (codes "workers") ∷ [])

-- the number that a word writes in decimal digits, without a sign or a leading zero, where it is from 1 to `most`
abbrev pub up_to : ℕ → Option ℕ → Option ℕ
up_to most None = None
up_to most (Some n) = if nat_le 1 n && nat_le n most then Some n else None

-- how many links a word says, from 1 to the most
abbrev pub sessions_of : Text → Option ℕ
sessions_of word = up_to SESSIONS (number_of word)

-- how many workers a word says, from 1 to the most
abbrev pub workers_of : Text → Option ℕ
workers_of word = up_to WORKERS (number_of word)

-- how many octets a word says, from the least that a file may be limited to, to the most
abbrev pub octets_of : Text → Option ℕ
octets_of word = option_and_then (λ n. if nat_le LEAST_OCTETS n then Some n else None) (up_to MOST_OCTETS (number_of word))

-- journals by their prefix and what is said of the octets of their files: none without a prefix, and octets neither
abbrev pub journals_of : Option Text → Option Text → Option (Option JournalsOf)
journals_of None None = Some None
journals_of None (Some word) = None
journals_of (Some prefix) None = Some (Some (under prefix))
journals_of (Some prefix) (Some word) = option_map (λ n. Some (record { prefix = prefix; limit = Some n })) (octets_of word)

-- a hub by its path, what is said of its sessions, its journals, where all are good, and the path of the file that stops it
abbrev pub hub_of : Option Text → Option Text → Option (Option JournalsOf) → Option Text → Option AskedOf
hub_of None sessions journals stop_file = None
hub_of (Some path) sessions None stop_file = None
hub_of (Some path) None (Some journals) stop_file = Some (hub path None journals stop_file)
hub_of (Some path) (Some word) (Some journals) stop_file = option_map (λ n. hub path (Some n) journals stop_file) (sessions_of word)

-- a node by its path and its script, and whether `--` is among its words: a script `-` without `--` is no file, but the lines as they
-- come
abbrev pub node_of : Bool → Option Text → Option Text → Option AskedOf
node_of ended None script = None
node_of ended (Some path) None = None
node_of ended (Some path) (Some script) = if same_octets script (codes "-") && not ended then Some (live_node path) else Some (node path script)

-- a workload by its workers
abbrev pub load_of : Option Text → Option AskedOf
load_of None = None
load_of (Some word) = option_map load (workers_of word)

-- settings of a hub by their path
abbrev pub test_hub_of : Option Text → Option AskedOf
test_hub_of path = option_map test_hub path

-- settings of a node by their path, with its script
abbrev pub test_node_of : Option Text → Option Text → Option AskedOf
test_node_of None script = None
test_node_of (Some path) None = None
test_node_of (Some path) (Some script) = Some (test_node path script)

-- ---- what words ask for

-- what is asked for by the rows that `clap` finds, where `--` is among the words or isn't
abbrev pub found_by : Way → Bool → List Row → Option AskedOf
found_by way.Replay ended rows = Some replay
found_by way.Simulate ended rows = Some simulate
found_by way.Check ended rows = Some check
found_by way.Audit ended rows = Some audit
found_by way.Hub ended rows =
    hub_of (first_of (codes "path") rows) (first_of (codes "sessions") rows)
    (journals_of (first_of (codes "journal") rows) (first_of (codes "journal-octets") rows)) (first_of (codes "stop-file") rows)
found_by way.TestHub ended rows = test_hub_of (first_of (codes "path") rows)
found_by way.Node ended rows = node_of ended (first_of (codes "path") rows) (first_of (codes "script") rows)
found_by way.TestNode ended rows = test_node_of (first_of (codes "path") rows) (first_of (codes "script") rows)
found_by way.Load ended rows = load_of (first_of (codes "workers") rows)

-- what is asked for, where `clap` finds nothing at fault
abbrev pub unless : Kinds → Option AskedOf → Option AskedOf
unless [] asked = asked
unless (kind ∷ kinds) asked = None

-- whether a word is among words
abbrev pub has_word : Text → List Text → Bool
has_word word words = list_any (λ w. same_octets w word) words

-- what words ask for as they are read in one way
abbrev pub asked_as : Way → List Text → Option AskedOf
asked_as way words = unless (fault_of (app_for way) words) (found_by way (has_word (codes "--") words) (matches_of (app_for way) words))

-- the path at which the status of a hub is kept that is served by some words, where they say one
abbrev pub unless_refused : Kinds → Option Text → Option Text
unless_refused [] path = path
unless_refused (kind ∷ kinds) path = None

abbrev pub status_path_of : List Text → Option Text
status_path_of words = unless_refused (fault_of (app_for way.Hub) words) (first_of (codes "status-file") (matches_of (app_for way.Hub) words))

-- the way to read words whose first is this
abbrev pub way_of : Text → Option Way
way_of name =
    if same_octets name (codes "replay") then Some way.Replay
    else if same_octets name (codes "simulate") then Some way.Simulate
    else if same_octets name (codes "check") then Some way.Check
    else if same_octets name (codes "audit") then Some way.Audit
    else if same_octets name (codes "hub") then Some way.Hub
    else if same_octets name (codes "node") then Some way.Node
    else if same_octets name (codes "load") then Some way.Load
    else None

-- the other way to read the words of a command, if it has one: a hub and a node may have their settings tried
abbrev pub other_way : Way → Option Way
other_way way.Hub = Some way.TestHub
other_way way.Node = Some way.TestNode
other_way way = None

-- what is asked for by the one, or else by the other
abbrev pub or_by : Option AskedOf → Option AskedOf → Option AskedOf
or_by (Some asked) other = Some asked
or_by None other = other

-- what is asked for in a way or, where that is nothing, in the other way of the command
abbrev pub first_in : (Way → Option AskedOf) → Option Way → Option AskedOf
first_in asked None = None
first_in asked (Some way) = or_by (asked way) (option_and_then asked (other_way way))

-- what words ask for whose first is this
abbrev pub asked_of : Text → List Text → Option AskedOf
asked_of name words = first_in (λ way. asked_as way words) (way_of name)

-- What words ask for: the first names a command, and `clap` takes all of them as that command and its arguments. They ask
-- for nothing where there is none, where the first names no command, or where `clap` refuses them or N is out of range.
abbrev pub asked_by : List Text → Option AskedOf
asked_by [] = None
asked_by (name ∷ words) = asked_of name (name ∷ words)

-- ---- lists of words

-- whether a word begins with a hyphen
abbrev pub has_hyphen : Text → Bool
has_hyphen [] = false
has_hyphen (c ∷ word) = c == 45

-- whether no word begins with a hyphen
abbrev pub have_no_hyphen : List Text → Bool
have_no_hyphen [] = true
have_no_hyphen (word ∷ words) = not (has_hyphen word) && have_no_hyphen words

-- a command with no words after it
abbrev pub listed_alone : AskedOf → List Text → Option AskedOf
listed_alone asked [] = Some asked
listed_alone asked (word ∷ words) = None

-- `PATH`, and behind it none, one, two or all of `--sessions N`, `--journal PREFIX` and `--stop-file FILE`, in this order, where the
-- octets of files aren't limited
abbrev pub listed_hub : List Text → Option AskedOf
listed_hub (path ∷ []) = Some (hub path None None None)
listed_hub (path ∷ option ∷ word ∷ []) =
    if same_octets option (codes "--sessions") then option_map (λ n. hub path (Some n) None None) (sessions_of word)
    else if same_octets option (codes "--journal") then Some (hub path None (Some (under word)) None)
    else if same_octets option (codes "--stop-file") then Some (hub path None None (Some word)) else None
listed_hub (path ∷ option ∷ word ∷ next ∷ last ∷ []) =
    if same_octets option (codes "--sessions") && same_octets next (codes "--journal")
    then option_map (λ n. hub path (Some n) (Some (under last)) None) (sessions_of word)
    else if same_octets option (codes "--sessions") && same_octets next (codes "--stop-file")
    then option_map (λ n. hub path (Some n) None (Some last)) (sessions_of word)
    else if same_octets option (codes "--journal") && same_octets next (codes "--stop-file") then Some (hub path None (Some (under word)) (Some last))
    else None
listed_hub (path ∷ option ∷ word ∷ next ∷ prefix ∷ third ∷ file ∷ []) =
    if same_octets option (codes "--sessions") && same_octets next (codes "--journal") && same_octets third (codes "--stop-file")
    then option_map (λ n. hub path (Some n) (Some (under prefix)) (Some file)) (sessions_of word) else None
listed_hub words = None

-- `PATH SCRIPT`, and `PATH -`
abbrev pub listed_node : List Text → Option AskedOf
listed_node (path ∷ script ∷ []) = if same_octets script (codes "-") then Some (live_node path) else Some (node path script)
listed_node words = None

-- `N`
abbrev pub listed_load : List Text → Option AskedOf
listed_load (word ∷ []) = option_map load (workers_of word)
listed_load words = None

-- `PATH --test`
abbrev pub listed_test_hub : List Text → Option AskedOf
listed_test_hub (path ∷ flag ∷ []) = if same_octets flag (codes "--test") then Some (test_hub path) else None
listed_test_hub words = None

-- `PATH SCRIPT --test`
abbrev pub listed_test_node : List Text → Option AskedOf
listed_test_node (path ∷ script ∷ flag ∷ []) = if same_octets flag (codes "--test") then Some (test_node path script) else None
listed_test_node words = None

-- what words behind the first ask for as a list, in one way to read them
abbrev pub listed_as : Way → List Text → Option AskedOf
listed_as way.Replay words = listed_alone replay words
listed_as way.Simulate words = listed_alone simulate words
listed_as way.Check words = listed_alone check words
listed_as way.Audit words = listed_alone audit words
listed_as way.Hub words = listed_hub words
listed_as way.TestHub words = listed_test_hub words
listed_as way.Node words = listed_node words
listed_as way.TestNode words = listed_test_node words
listed_as way.Load words = listed_load words

-- What exactly the lists `replay`, `simulate`, `check`, `audit`, `hub PATH` with none, one, two or all of `--sessions N`,
-- `--journal PREFIX` and `--stop-file FILE` behind it in this order, without `--journal-octets N`, `hub PATH --test`, `node PATH SCRIPT`, `node PATH -`,
-- `node PATH SCRIPT --test` and `load N` ask for.
abbrev pub listed : List Text → Option AskedOf
listed [] = None
listed (name ∷ words) = first_in (λ way. listed_as way words) (way_of name)

-- whether a path, if there is one, begins with no hyphen
abbrev pub is_plain : Option Text → Bool
is_plain None = true
is_plain (Some word) = not (has_hyphen word)

-- the same of the prefix of journals
abbrev pub is_plain_prefix : Option JournalsOf → Bool
is_plain_prefix None = true
is_plain_prefix (Some journals) = not (has_hyphen journals.prefix)

-- whether the paths and the prefix in what is asked for begin with no hyphen
abbrev pub has_plain_paths : AskedOf → Bool
has_plain_paths (hub path sessions journal stop_file) = is_plain_prefix journal && (is_plain stop_file && not (has_hyphen path))
has_plain_paths (node path script) = not (has_hyphen path) && not (has_hyphen script)
has_plain_paths (live_node path) = not (has_hyphen path)
has_plain_paths (test_hub path) = not (has_hyphen path)
has_plain_paths (test_node path script) = not (has_hyphen path) && not (has_hyphen script)
has_plain_paths asked = true

-- ---- answers

-- the journals that are said
abbrev pub said_journals : JournalWords → JournalsOf
said_journals j = record { prefix = j.prefix.now; limit = j.limit }

-- what an answer asks for
abbrev pub seen : Asked → AskedOf
seen Replay = replay
seen Simulate = simulate
seen Check = check
seen Audit = audit
seen (Hub path sessions journal stop_file) = hub path.now sessions (option_map said_journals journal) (option_map (λ p. p.now) stop_file)
seen (Node path script) = node path.now script.now
seen (LiveNode path) = live_node path.now
seen (Load workers) = load workers
seen (TestHub path) = test_hub path.now
seen (TestNode path script) = test_node path.now script.now
