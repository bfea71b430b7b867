-- A hub line begins with `hub`, but for spaces.
-- It serves bsc_audit, bsc_audit_laws and bsc_journal_laws.
use Rattle.std.proofs.Common.{◌≡◌, ◌≢◌, ℕ, Bool, true, false, cond, List, [], ◌∷◌, codes, Option, Some, None, refl, ap, sym, ◌∙◌}
use Rattle.std.specs.Option.{option_map}
use Rattle.std.specs.Cmp.Lexicographic.{same_text}
use Rattle.std.proofs.lemmas.Bool.{ne_eqb}
use Rattle.bsc_history.specs.declared.limits.About.{About}
use Rattle.bsc_text.specs.Grammar.{is_name, number_of, octets_of_words}
use Rattle.bsc_text.specs.Lines.{in_front, same_octets}
use Rattle.bsc_text.specs.Words.{begins_comment, goes_on, words_of}
use Rattle.bsc_script.specs.declared.line.Line.{Line}
use Rattle.bsc_script.specs.declared.line.Line.TheVariants.{Nothing, Hub, Open, Text, Drop, Hold, Free, At, Stop, Counts}
use Rattle.bsc_script.specs.Lines.{at_line_of_words, bare_line_of_words, hub_line_of_words, hubs_line_of_words, in_line, in_line_of_words, line_of, line_of_words}
use Rattle.bsc_script.specs.Lines.{name_line_of_words, open_line_of_words, other_line_of_words}

-- whether a line is that of a hub
abbrev is_hub_line : Option Line → Bool
is_hub_line None = false
is_hub_line (Some (Hub about)) = true
is_hub_line (Some line) = false

-- of two lines that are no hub lines one is chosen
either : (b : Bool) (x y : Option Line) → is_hub_line x ≡ false → is_hub_line y ≡ false → is_hub_line (cond b x y) ≡ false
either true x y h k = h
either false x y h k = k

-- ---- no other line is a hub line

open_line : (ws : List (List ℕ)) → is_hub_line (open_line_of_words ws) ≡ false
open_line [] = refl
open_line (name ∷ []) = either (is_name name) (Some (Open name)) None refl refl
open_line (name ∷ w ∷ ws) = refl

message_line : (name : List ℕ) (o : Option (List ℕ)) → is_hub_line (in_line name o) ≡ false
message_line name None = refl
message_line name (Some message) = refl

in_line_no : (ws : List (List ℕ)) → is_hub_line (in_line_of_words ws) ≡ false
in_line_no [] = refl
in_line_no (name ∷ ws) = message_line name (octets_of_words ws)

name_line : (line : List ℕ → Line) → ((name : List ℕ) → is_hub_line (Some (line name)) ≡ false) → (ws : List (List ℕ)) → is_hub_line (name_line_of_words line ws) ≡ false
name_line line h [] = refl
name_line line h (name ∷ []) = h name
name_line line h (name ∷ w ∷ ws) = refl

time_line : (o : Option ℕ) → is_hub_line (option_map At o) ≡ false
time_line None = refl
time_line (Some ms) = refl

at_line : (ws : List (List ℕ)) → is_hub_line (at_line_of_words ws) ≡ false
at_line [] = refl
at_line (ms ∷ []) = time_line (number_of ms)
at_line (ms ∷ w ∷ ws) = refl

bare_line : (line : Line) → is_hub_line (Some line) ≡ false → (ws : List (List ℕ)) → is_hub_line (bare_line_of_words line ws) ≡ false
bare_line line h [] = h
bare_line line h (w ∷ ws) = refl

hubs_line : (w : List ℕ) (ws : List (List ℕ)) → is_hub_line (hubs_line_of_words w ws) ≡ false
hubs_line w ws =
    either (same_octets w (codes "at")) _ _ (at_line ws)
    (either (same_octets w (codes "stop")) _ _ (bare_line Stop refl ws)
    (either (same_octets w (codes "counts")) _ None (bare_line Counts refl ws) refl))

other_line : (w : List ℕ) (ws : List (List ℕ)) → is_hub_line (other_line_of_words w ws) ≡ false
other_line w ws =
    either (same_octets w (codes "text")) _ _ (name_line Text (λ name. refl) ws)
    (either (same_octets w (codes "drop")) _ _ (name_line Drop (λ name. refl) ws)
    (either (same_octets w (codes "hold")) _ _ (name_line Hold (λ name. refl) ws)
    (either (same_octets w (codes "free")) _ _ (name_line Free (λ name. refl) ws) (hubs_line w ws))))

-- ---- the first word of a hub line

hub_choice : (a b : Bool) (hub other : Option Line) → is_hub_line other ≡ false →
    is_hub_line (cond a (Some Nothing) (cond b hub other)) ≡ true → b ≡ true
hub_choice true b hub other h e = cc
hub_choice false true hub other h e = refl
hub_choice false false hub other h e = sym h ∙ e

hub_word : (w : List ℕ) (ws : List (List ℕ)) (about : About) → line_of_words (w ∷ ws) ≡ Some (Hub about) → same_octets w (codes "hub") ≡ true
hub_word w ws about e =
    hub_choice (begins_comment w) (same_octets w (codes "hub")) (hub_line_of_words ws) _
    (either (same_octets w (codes "open")) _ _ (open_line ws)
    (either (same_octets w (codes "in")) _ _ (in_line_no ws) (other_line w ws)))
    (ap is_hub_line e)

-- a first word that begins with an octet
abbrev BeginsWith : ℕ → List (List ℕ) → Type 0
BeginsWith c words = (v : List ℕ) × (ws : List (List ℕ)) × (words ≡ (c ∷ v) ∷ ws)

word_in : (c : ℕ) (b : Bool) (us : List (List ℕ)) → BeginsWith c (cond b (in_front c us) ((c ∷ []) ∷ us))
word_in c true [] = ([], [], refl)
word_in c true (u ∷ us) = (u, us, refl)
word_in c false us = ([], us, refl)

first_word : (c : ℕ) (o : List ℕ) → c ≢ 32 → BeginsWith c (words_of (c ∷ o))
first_word c o n =
    let w = word_in c (goes_on o) (words_of o) in
    (w.0, w.1, ap (λ (b : Bool). cond b (words_of o) (cond (goes_on o) (in_front c (words_of o)) ((c ∷ []) ∷ words_of o))) (ne_eqb c 32 n) ∙ w.2)

abbrev first : List ℕ → ℕ
first [] = 0
first (c ∷ o) = c

-- A hub line that begins with no space begins with an h.
pub hub_first : (c : ℕ) (o : List ℕ) (about : About) → c ≢ 32 → line_of (c ∷ o) ≡ Some (Hub about) → c ≡ 104
unfolding line_of
hub_first c o about n e =
    let w = first_word c o n in
    let said : line_of_words ((c ∷ w.0) ∷ w.1) ≡ Some (Hub about) = ap line_of_words (sym w.2) ∙ e in
    ap first (same_text (c ∷ w.0) (codes "hub") (sym (hub_word (c ∷ w.0) w.1 about said)))
