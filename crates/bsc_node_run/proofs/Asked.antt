-- What a script asks of a node is one of the events for which it may ask.
-- It serves bsc_live_lines, bsc_node_command and bsc_node_links.
use Rattle.std.proofs.Common.{◌≡◌, ℕ, ◌+◌, Bool, true, false, not, nat_lt, nat_eq, ◌&&◌, ◌||◌, if◌then◌else◌, List, [], ◌∷◌, length, map, option_map, codes, Option, Some, None}
use Rattle.std.proofs.Common.{IfSome, Ok, Err, IfOk, refl, sym, ◌∙◌, true≢false, arith}
use Rattle.std.specs.List.{list_all, cons_option}
use Rattle.std.proofs.lemmas.Bool.{and_from, and_parts}
use Rattle.std.proofs.lemmas.Bool.Decides.{nat_tests}
use Rattle.std.proofs.lemmas.List.Folds.{list_all-map}
use Rattle.std.proofs.lemmas.Result.{IfOk-at_ok}
use Rattle.bsc_octets.specs.declared.vmac.Vmac.{Vmac}
use Rattle.bsc_octets.specs.Addresses.{same_vmac, zero_vmac}
use Rattle.bsc_text.specs.Grammar.{number_of, vmac_of_word, octets_of_words}
use Rattle.bsc_text.specs.Lines.{pieces_of, line_in, same_octets}
use Rattle.bsc_text.specs.Words.{words_of, begins_comment}
use Rattle.bsc_node.specs.declared.node_event.NodeEvent.{NodeEvent}
use Rattle.bsc_node.specs.declared.node_event.NodeEvent.TheVariants.{Send, Resolve, DirectTo, Solicit}
use Rattle.bsc_node_run.specs.declared.due.Due.{Due}
use Rattle.bsc_node_run.specs.declared.line.Line.{Line}
use Rattle.bsc_node_run.specs.declared.line.Line.TheVariants.{Nothing, At, Ask}
use Rattle.bsc_node_run.specs.Requests.{is_asked}
use Rattle.bsc_node_run.specs.Saying.{at_line, finish_line, line_of, line_of_words, node_line, one_node, other_line, send_line, send_to}
use Rattle.bsc_node_run.specs.Scripts.{Wish, wish_of, asked_from, first_bad, has_finish, lines_in, meant_by, script_of}

-- ---- one line

-- whether what a line asks, where it asks something, is one of the events for which a script may ask
abbrev pub asks_well : Line → Bool
asks_well (Ask event) = is_asked event
asks_well line = true

-- the same of what is said, where it is a line
abbrev pub AsksWell : Option Line → Type 0
AsksWell line = IfSome line (λ l. asks_well l ≡ true)

-- one of two lines
either : (b : Bool) (x y : Option Line) → AsksWell x → AsksWell y → AsksWell (if b then x else y)
either true x y p q = p
either false x y p q = q

at_well : (ws : List (List ℕ)) → AsksWell (at_line ws)
at_well [] = tt
at_well (ms ∷ []) = number_well (number_of ms)
  where
    number_well : (n : Option ℕ) → AsksWell (option_map At n)
    number_well None = tt
    number_well (Some n) = refl
at_well (ms ∷ w ∷ ws) = tt

-- a line that no test refused
unless : (b : Bool) (line : Line) → (b ≡ false → asks_well line ≡ true) → AsksWell (if b then None else Some line)
unless true line p = tt
unless false line p = p refl

-- an NPDU with octets, to a VMAC that isn't zero
may_send : (zero : Bool) (n : ℕ) → (zero || nat_eq n 0) ≡ false → (nat_lt 0 n && not zero) ≡ true
may_send true n e = absurd (true≢false e)
may_send false n e = grind (arith, nat_tests)

to_well : (dest : Option Vmac) (npdu : Option (List ℕ)) → AsksWell (send_to dest npdu)
to_well None npdu = tt
to_well (Some dest) None = tt
to_well (Some dest) (Some npdu) = unless (same_vmac dest zero_vmac || nat_eq (length npdu) 0) (Ask (Send dest npdu)) (may_send (same_vmac dest zero_vmac) (length npdu))

send_well : (ws : List (List ℕ)) → AsksWell (send_line ws)
send_well [] = tt
send_well (dest ∷ ws) = to_well (vmac_of_word dest) (octets_of_words ws)

node_well : (asks : Vmac → NodeEvent) → ((v : Vmac) → is_asked (asks v) ≡ true) → (ws : List (List ℕ)) → AsksWell (node_line asks ws)
node_well asks well [] = tt
node_well asks well (v ∷ []) = one_well (one_node (vmac_of_word v))
  where
    one_well : (node : Option Vmac) → AsksWell (option_map (λ n. Ask (asks n)) node)
    one_well None = tt
    one_well (Some n) = well n
node_well asks well (v ∷ w ∷ ws) = tt

finish_well : (ws : List (List ℕ)) → AsksWell (finish_line ws)
finish_well [] = refl
finish_well (w ∷ ws) = tt

other_well : (w : List ℕ) (ws : List (List ℕ)) → AsksWell (other_line w ws)
other_well w ws =
    either (same_octets w (codes "resolve")) _ _ (node_well Resolve (λ v. refl) ws)
    (either (same_octets w (codes "direct")) _ _ (node_well DirectTo (λ v. refl) ws)
    (either (same_octets w (codes "solicit")) _ _ (node_well Solicit (λ v. refl) ws)
    (either (same_octets w (codes "finish")) _ _ (finish_well ws) tt)))

words_well : (ws : List (List ℕ)) → AsksWell (line_of_words ws)
words_well [] = refl
words_well (w ∷ ws) =
    either (begins_comment w) _ _ refl
    (either (same_octets w (codes "at")) _ _ (at_well ws)
    (either (same_octets w (codes "send")) _ _ (send_well ws) (other_well w ws)))

-- What a line of the text asks is one of these events.
pub line_well : (l : List ℕ) → AsksWell (line_of l)
unfolding line_of
line_well l = words_well (words_of l)

-- ---- all lines

lines_well : (pieces : List (List ℕ)) → list_all asks_well (lines_in pieces) ≡ true
lines_well [] = refl
lines_well (piece ∷ pieces) = one_more (line_of (line_in piece)) (lines_in pieces) (line_well (line_in piece)) (lines_well pieces)
  where
    one_more : (line : Option Line) (lines : List Line) → AsksWell line → list_all asks_well lines ≡ true → list_all asks_well (cons_option line lines) ≡ true
    one_more None lines p q = q
    one_more (Some l) lines p q = and_from (asks_well l) (list_all asks_well lines) p q

-- whether what is wished is one of these events
abbrev is_fit : Wish → Bool
is_fit wish = is_asked wish.event

wishes_well : (ms : ℕ) (lines : List Line) → list_all asks_well lines ≡ true → list_all is_fit (asked_from ms lines) ≡ true
wishes_well ms [] h = refl
wishes_well ms (Nothing ∷ lines) h = wishes_well ms lines h
wishes_well ms (At new ∷ lines) h = wishes_well new lines h
wishes_well ms (Ask event ∷ lines) h =
    let p : (is_asked event ≡ true) × (list_all asks_well lines ≡ true) = and_parts (is_asked event) (list_all asks_well lines) h in
    and_from (is_asked event) (list_all is_fit (asked_from ms lines)) p.0 (wishes_well ms lines p.1)

-- ---- the whole script

-- Where a script means something, what it asks is what its lines ask.
meant_well : (bad : Option ℕ) (pieces : List (List ℕ)) → IfOk (meant_by bad pieces) (λ wishes. list_all is_fit wishes ≡ true)
meant_well (Some n) pieces = tt
meant_well None pieces = ended_well (has_finish (lines_in pieces))
  where
    ended_well : (ended : Bool) → IfOk (if ended then Ok (asked_from 0 (lines_in pieces)) else Err (length pieces + 1)) (λ wishes. list_all is_fit wishes ≡ true)
    ended_well true = wishes_well 0 (lines_in pieces) (lines_well pieces)
    ended_well false = tt

script_well : (text : List ℕ) → IfOk (script_of text) (λ wishes. list_all is_fit wishes ≡ true)
unfolding script_of
script_well text = meant_well (first_bad [] (pieces_of text)) (pieces_of text)

-- Each event that a line of a script asks is one for which a script may ask.
pub asked_of : (text : List ℕ) (lines : List Due) → script_of text ≡ Ok (map wish_of lines) → list_all (λ (d : Due). is_asked d.event) lines ≡ true
asked_of text lines says = sym (list_all-map is_fit wish_of lines) ∙ IfOk-at_ok (λ wishes. list_all is_fit wishes ≡ true) says (script_well text)
