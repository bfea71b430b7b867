-- What a node's script sends goes to addresses of six octets.
-- It serves the clauses of `runs_are_of_nodes` and `stopped_runs_are_of_nodes`.
use Rattle.std.proofs.Common.{◌≡◌, ◌/◌, ◌%◌, ℕ, ◌+◌, Bool, true, false, if◌then◌else◌, ◌||◌, nat_eq, List, [], ◌∷◌, length, map, option_map, codes, Option, Some, None, IfSome}
use Rattle.std.proofs.Common.{Result, Ok, Err, IfOk, inl, inr, refl, sym, ◌∙◌, arith}
use Rattle.std.specs.Prelude.{⊤}
use Rattle.std.specs.List.{cons_option}
use Rattle.std.proofs.lemmas.Bool.{cases_eq}
use Rattle.std.proofs.lemmas.Result.{IfOk-at_ok}
use Rattle.hex.specs.declared.error.FromHexError.{FromHexError}
use Rattle.hex.specs.Hex.{decode_sized}
use Rattle.hex.proofs.HexLemmas.{decode_pairs-ok, decode_sized-odd, decode_sized-other}
use Rattle.hex.proofs.Pairs.{decode_sized-pairs}
use Rattle.bsc_octets.specs.declared.vmac.Vmac.{Vmac}
use Rattle.bsc_octets.specs.Addresses.{same_vmac, zero_vmac}
use Rattle.bsc_text.specs.Grammar.{decoded, number_of, octets_of_words, vmac_in, vmac_of_word}
use Rattle.bsc_text.specs.Lines.{pieces_of, line_in, same_octets}
use Rattle.bsc_text.specs.Words.{words_of, begins_comment}
use Rattle.bsc_node.specs.declared.node_event.NodeEvent.{NodeEvent}
use Rattle.bsc_node.specs.declared.node_event.NodeEvent.TheVariants.{Send, Resolve, DirectTo, Solicit}
use Rattle.bsc_node_run.specs.declared.due.Due.{Due}
use Rattle.bsc_node_run.specs.declared.line.Line.{Line}
use Rattle.bsc_node_run.specs.declared.line.Line.TheVariants.{Nothing, At, Ask}
use Rattle.bsc_node_run.specs.Saying.{at_line, finish_line, line_of, line_of_words, node_line, one_node, other_line, send_line, send_to}
use Rattle.bsc_node_run.specs.Scripts.{Wish, wish_of, asked_from, first_bad, has_finish, lines_in, meant_by, script_of}
use Rattle.bsc_network_of_runs.specs.Nodes.{IsWhole}
use Rattle.bsc_network_of_runs.proofs.Wholly.{AreWhole}

-- ---- words

sized : (s : List ℕ) (n : ℕ) (xs : List ℕ) → decode_sized s n ≡ Ok xs → length xs ≡ n
sized s n xs e =
    elim (cases_eq (length s % 2) 1) [
      | inl odd ↦ cc (sym e ∙ decode_sized-odd s n odd)
      | inr other ↦
          let even : length s % 2 ≡ 0 = omega arith in
          elim (cases_eq (length s / 2) n) [
            | inl half ↦
                let ok = decode_pairs-ok 0 s xs (sym (decode_sized-pairs s n even half) ∙ e) in
                let long = ok.1 in
                omega (arith, long, half)
            | inr apart ↦ cc (sym e ∙ decode_sized-other s n even apart)
          ]
    ]

abbrev HasSix : Vmac → Type 0
HasSix v = length v.0 ≡ 6

vmac_six : (w : List ℕ) → IfSome (vmac_of_word w) HasSix
vmac_six w = by (decode_sized w 6) refl
  where
    by : (r : Result (List ℕ) FromHexError) → decode_sized w 6 ≡ r → IfSome (vmac_in (decoded r)) HasSix
    by (Ok xs) e = sized w 6 xs e
    by (Err fault) e = tt

-- ---- one line

abbrev IsWholeLine : Line → Type 0
IsWholeLine (Ask event) = IsWhole event
IsWholeLine line = ⊤

abbrev Said : Option Line → Type 0
Said line = IfSome line IsWholeLine

either : (b : Bool) (x y : Option Line) → Said x → Said y → Said (if b then x else y)
either true x y p q = p
either false x y p q = q

at_whole : (ws : List (List ℕ)) → Said (at_line ws)
at_whole [] = tt
at_whole (ms ∷ []) = by (number_of ms)
  where
    by : (n : Option ℕ) → Said (option_map At n)
    by None = tt
    by (Some n) = tt
at_whole (ms ∷ w ∷ ws) = tt

to_whole : (dest : Option Vmac) (npdu : Option (List ℕ)) → IfSome dest HasSix → Said (send_to dest npdu)
to_whole None npdu h = tt
to_whole (Some dest) None h = tt
to_whole (Some dest) (Some npdu) h = either (same_vmac dest zero_vmac || nat_eq (length npdu) 0) None (Some (Ask (Send dest npdu))) tt h

send_whole : (ws : List (List ℕ)) → Said (send_line ws)
send_whole [] = tt
send_whole (dest ∷ ws) = to_whole (vmac_of_word dest) (octets_of_words ws) (vmac_six dest)

node_whole : (asks : Vmac → NodeEvent) → ((v : Vmac) → IsWhole (asks v)) → (ws : List (List ℕ)) → Said (node_line asks ws)
node_whole asks whole [] = tt
node_whole asks whole (v ∷ []) = by (one_node (vmac_of_word v))
  where
    by : (node : Option Vmac) → Said (option_map (λ n. Ask (asks n)) node)
    by None = tt
    by (Some n) = whole n
node_whole asks whole (v ∷ w ∷ ws) = tt

finish_whole : (ws : List (List ℕ)) → Said (finish_line ws)
finish_whole [] = tt
finish_whole (w ∷ ws) = tt

other_whole : (w : List ℕ) (ws : List (List ℕ)) → Said (other_line w ws)
other_whole w ws =
    either (same_octets w (codes "resolve")) _ _ (node_whole Resolve (λ v. tt) ws)
    (either (same_octets w (codes "direct")) _ _ (node_whole DirectTo (λ v. tt) ws)
    (either (same_octets w (codes "solicit")) _ _ (node_whole Solicit (λ v. tt) ws)
    (either (same_octets w (codes "finish")) _ _ (finish_whole ws) tt)))

words_whole : (ws : List (List ℕ)) → Said (line_of_words ws)
words_whole [] = tt
words_whole (w ∷ ws) =
    either (begins_comment w) _ _ tt
    (either (same_octets w (codes "at")) _ _ (at_whole ws)
    (either (same_octets w (codes "send")) _ _ (send_whole ws) (other_whole w ws)))

line_whole : (l : List ℕ) → Said (line_of l)
unfolding line_of
line_whole l = words_whole (words_of l)

-- ---- all lines

abbrev EachLine : List Line → Type 0
EachLine [] = ⊤
EachLine (line ∷ lines) = IsWholeLine line × EachLine lines

lines_whole : (pieces : List (List ℕ)) → EachLine (lines_in pieces)
lines_whole [] = tt
lines_whole (piece ∷ pieces) = one_more (line_of (line_in piece)) (lines_in pieces) (line_whole (line_in piece)) (lines_whole pieces)
  where
    one_more : (line : Option Line) (lines : List Line) → Said line → EachLine lines → EachLine (cons_option line lines)
    one_more None lines p q = q
    one_more (Some l) lines p q = (p, q)

abbrev EachWish : List Wish → Type 0
EachWish [] = ⊤
EachWish (wish ∷ wishes) = IsWhole wish.event × EachWish wishes

wishes_whole : (ms : ℕ) (lines : List Line) → EachLine lines → EachWish (asked_from ms lines)
wishes_whole ms [] h = tt
wishes_whole ms (Nothing ∷ lines) h = wishes_whole ms lines h.1
wishes_whole ms (At new ∷ lines) h = wishes_whole new lines h.1
wishes_whole ms (Ask event ∷ lines) h = (h.0, wishes_whole ms lines h.1)

meant_whole : (bad : Option ℕ) (pieces : List (List ℕ)) → IfOk (meant_by bad pieces) EachWish
meant_whole (Some n) pieces = tt
meant_whole None pieces = by (has_finish (lines_in pieces))
  where
    by : (ended : Bool) → IfOk (if ended then Ok (asked_from 0 (lines_in pieces)) else Err (length pieces + 1)) EachWish
    by true = wishes_whole 0 (lines_in pieces) (lines_whole pieces)
    by false = tt

script_whole : (text : List ℕ) → IfOk (script_of text) EachWish
unfolding script_of
script_whole text = meant_whole (first_bad [] (pieces_of text)) (pieces_of text)

of_wishes : (lines : List Due) → EachWish (map wish_of lines) → AreWhole lines
of_wishes [] h = tt
of_wishes (d ∷ lines) h = (h.0, of_wishes lines h.1)

pub whole_of : (text : List ℕ) (lines : List Due) → script_of text ≡ Ok (map wish_of lines) → AreWhole lines
whole_of text lines says = of_wishes lines (IfOk-at_ok EachWish says (script_whole text))
