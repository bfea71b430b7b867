-- How `clap` walks over words, one at a time, where a command has no subcommands.
-- It serves clauses of functions of `beside`, `laws` and `reading`.
use Rattle.std.proofs.Common.{◌≡◌, ◌∙◌, ℕ, false, List, [], ◌∷◌, fold, Option, Some, None, is_some, refl, ap, ap₂}
use Rattle.clap.specs.Words.{App, Kinds, Row, Rule, Shape, Text}
use Rattle.clap.specs.Lexer.{strip_byte}
use Rattle.clap.specs.Kinds.{or_else}
use Rattle.clap.specs.Walk.{Held, Walk, arg_by_id, arg_by_index, finished, idle, option, option_word, settled, to_positional, value, walked}
use Rattle.clap.specs.Simple.{entered}
use Rattle.clap.specs.Faults.{check_fault, defaults_fault, entered_fault, settle_fault, step_fault, turn_fault, walk_fault}
use Rattle.clap.specs.declared.error.kind.ErrorKind.{ErrorKind}
use Rattle.bsc_cli.specs.Words.{AskedOf, unless, has_hyphen}

-- a command without subcommands
abbrev of_shape : Shape → App
of_shape s = record { top = s; subs = [] }

-- a walk before a word, where nothing waits for a value, and where an option does
abbrev pub at : Held → ℕ → Walk
at h p = record { held = h; waiting = idle; position = p; is_trailing = false; stopped = None }

abbrev pub awaiting : Text → Held → ℕ → Walk
awaiting id h p = record { held = h; waiting = option id; position = p; is_trailing = false; stopped = None }

-- what is asked for by the fault of a walk, by where it ended and by what is read of its rows
abbrev pub asked_at : Shape → (List Row → Option AskedOf) → Kinds → Walk → Option AskedOf
asked_at s read fault w =
    unless (or_else fault (or_else (entered_fault (of_shape s) w.stopped) (or_else (settle_fault s.rules s.args_override_self w.held)
    (or_else (defaults_fault (settled s.rules w.held).rows s.rules)
    (check_fault s (finished s.rules w.held) (is_some (entered (of_shape s) w.stopped)))))))
    (read (finished s.rules w.held))

-- what is asked for by the words that a walk still has before it
abbrev pub asked_from : Shape → (List Row → Option AskedOf) → Walk → List Text → Option AskedOf
asked_from s read w words = asked_at s read (walk_fault s [] w words) (fold (walked s.rules []) w words)

fault_on : (s : Shape) (w : Walk) (word : Text) (words : List Text)
    → walk_fault s [] w (word ∷ words) ≡ or_else (turn_fault s [] w word) (walk_fault s [] (walked s.rules [] w word) words)
unfolding walk_fault
fault_on s w word words = refl

-- the walk goes on over a word that has no fault
pub walks_on : (s : Shape) (read : List Row → Option AskedOf) (w next : Walk) (word : Text) (words : List Text)
    → turn_fault s [] w word ≡ [] → walked s.rules [] w word ≡ next → asked_from s read w (word ∷ words) ≡ asked_from s read next words
walks_on s read w next word words fine on =
    let faults : walk_fault s [] w (word ∷ words) ≡ walk_fault s [] next words =
    fault_on s w word words ∙ ap₂ or_else fine (ap (λ x. walk_fault s [] x words) on) in
    ap₂ (asked_at s read) faults (ap (λ x. fold (walked s.rules []) x words) on)

-- at a word at fault nothing is asked for, whatever follows
pub stops : (s : Shape) (read : List Row → Option AskedOf) (w : Walk) (word : Text) (words : List Text) (k : ErrorKind) (ks : Kinds)
    → turn_fault s [] w word ≡ k ∷ ks → asked_from s read w (word ∷ words) ≡ None
stops s read w word words k ks faulty =
    ap (λ f. asked_at s read f (fold (walked s.rules []) w (word ∷ words)))
    (fault_on s w word words ∙ ap (λ f. or_else f (walk_fault s [] (walked s.rules [] w word) words)) faulty)

-- a word that begins with no hyphen goes to the positional at the place
pub plain_walked : (c : List Rule) (h : Held) (p : ℕ) (word : Text) → has_hyphen word ≡ false
    → walked c [] (at h p) word ≡ to_positional c (arg_by_index c p) word (at h p) h
unfolding walked
plain_walked c h p [] e = refl
plain_walked c h p (b ∷ rest) e =
    let k : strip_byte 45 (b ∷ rest) ≡ None = rw e refl in
    rw (k, e) refl

pub plain_turn : (s : Shape) (h : Held) (p : ℕ) (word : Text) → has_hyphen word ≡ false → turn_fault s [] (at h p) word ≡ step_fault s p h value
plain_turn s h p [] e = refl
plain_turn s h p (b ∷ rest) e =
    let k : strip_byte 45 (b ∷ rest) ≡ None = rw e refl in
    rw (k, e) refl

-- or to the option that waits for it
pub value_walked : (c : List Rule) (id : Text) (h : Held) (p : ℕ) (word : Text) → has_hyphen word ≡ false
    → walked c [] (awaiting id h p) word
    ≡ record (awaiting id h p) { held = (option_word (arg_by_id c id) id word h).0; waiting = (option_word (arg_by_id c id) id word h).1 }
unfolding walked
value_walked c id h p [] e = refl
value_walked c id h p (b ∷ rest) e =
    let k : strip_byte 45 (b ∷ rest) ≡ None = rw e refl in
    rw (k, e) refl

pub value_turn : (s : Shape) (id : Text) (h : Held) (p : ℕ) (word : Text) → has_hyphen word ≡ false → turn_fault s [] (awaiting id h p) word ≡ []
value_turn s id h p [] e = refl
value_turn s id h p (b ∷ rest) e =
    let k : strip_byte 45 (b ∷ rest) ≡ None = rw e refl in
    rw (k, e) refl

-- the matches so far, and a first or a second word that waits to be one
abbrev pub pending : List Row → Text → Text → Held
pending rows id word = record { rows = rows; pending = Some (id, word ∷ []); skip = 0 }
