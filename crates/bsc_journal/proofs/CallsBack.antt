-- A call is read back from its text, with its looks.
-- It serves many crates above.
use Rattle.std.proofs.Common.{◌≡◌, ℕ, zero, suc, ◌<◌, Bool, true, ◌&&◌, List, [], ◌∷◌, ◌++◌, length, map, flat_map, codes, decimal, nat_lt, Option, Some, refl, ap, sym, ◌∙◌, append_assoc, arith}
use Rattle.std.specs.List.{list_all}
use Rattle.std.proofs.lemmas.Bool.{and_parts, ltb-true}
use Rattle.hex.specs.Hex.{IsBytes, decode_of, decode_sized, encode_upper, upper_digits}
use Rattle.hex.proofs.Pairs.{decode_sized-pairs}
use Rattle.hex.proofs.HexLemmas.{IsDigits-upper_digits, decode_of-encode_upper, decode_pairs-encode_with, length-encode_with}
use Rattle.bsc_octets.specs.declared.identity.Identity.{Identity}
use Rattle.bsc_octets.specs.Identities.{identity_octets}
use Rattle.bsc_history.specs.declared.call.Call.{Call}
use Rattle.bsc_history.specs.declared.call.Call.TheVariants.{Connect, Forward, Leave, Stop, Count}
use Rattle.bsc_history.specs.declared.looks.Look.{Look}
use Rattle.bsc_text.specs.Grammar.{decoded}
use Rattle.bsc_lines.specs.Lines.{call_text, look_text, looks_text, then_number}
use Rattle.bsc_journal.specs.Reading.{asked, call_in, connect_of, forward_of, in_front_of, leave_of, looks_of, loose_words, numbers_in, read}
use Rattle.bsc_journal.specs.Saying.{HasOctets, IsIdentity, ShowsLooks, are_octets, are_short, call_is_short, is_short, look_is_short}
use Rattle.bsc_journal.proofs.Numbers.{number_back}
use Rattle.bsc_journal.proofs.Loosening.{ends, hex_plain, hex_some, number_front, number_then, word_front, word_then}

-- ---- numbers

-- no number comes first
abbrev pub NoNumber : List (List ℕ) → Type 0
NoNumber ws = numbers_in ws ≡ read [] ws

pub numbers_back : (ns : List ℕ) (ws : List (List ℕ)) → are_short ns ≡ true → NoNumber ws → numbers_in (map decimal ns ++ ws) ≡ read ns ws
numbers_back [] ws h none = none
numbers_back (n ∷ ns) ws h none =
    let p = and_parts (is_short n) (are_short ns) h in
    λ i. in_front_of (decimal n) (map decimal ns ++ ws) (number_back n p.0 i) (numbers_back ns ws p.1 none i)

-- ---- looks

-- the numbers of some looks
abbrev pub look_numbers : List Look → List ℕ
look_numbers [] = []
look_numbers (k ∷ ks) = k.conn ∷ k.taken ∷ look_numbers ks

looks_back : (ks : List Look) → looks_of (look_numbers ks) ≡ ks
looks_back [] = refl
looks_back (k ∷ ks) = ap (λ (l : List Look). k ∷ l) (looks_back ks)

looks_short : (ks : List Look) → list_all look_is_short ks ≡ true → are_short (look_numbers ks) ≡ true
looks_short [] h = refl
looks_short (k ∷ ks) h =
    let p = and_parts (look_is_short k) (list_all look_is_short ks) h in
    let q = and_parts (is_short k.conn) (is_short k.taken) p.0 in
    both (is_short k.conn) (is_short k.taken) (are_short (look_numbers ks)) q.0 q.1 (looks_short ks p.1)
  where
    both : (a b c : Bool) → a ≡ true → b ≡ true → c ≡ true → (a && (b && c)) ≡ true
    both a b c i j l = λ k. i k && (j k && l k)

look_then : (k : Look) (x o : List ℕ) → look_is_short k ≡ true → ends (x ++ o) ≡ true →
    loose_words ((look_text k ++ x) ++ o) ≡ decimal k.conn ∷ decimal k.taken ∷ loose_words (x ++ o)
look_then k x o h e =
    let p = and_parts (is_short k.conn) (is_short k.taken) h in
    let whole : (look_text k ++ x) ++ o ≡ (decimal k.conn ++ (codes ":" ++ decimal k.taken)) ++ (x ++ o) = append_assoc (look_text k) x o in
    ap loose_words whole
    ∙ number_then k.conn (codes ":" ++ decimal k.taken) (x ++ o) p.0 refl
    ∙ ap (λ (ws : List (List ℕ)). decimal k.conn ∷ ws) (number_front k.taken (x ++ o) p.1 e)

-- commas, each with a look behind it
abbrev more_looks : List Look → List ℕ
more_looks ks = flat_map (λ l. codes "," ++ look_text l) ks

more_ends : (ks : List Look) (o : List ℕ) → ends o ≡ true → ends (more_looks ks ++ o) ≡ true
more_ends [] o e = e
more_ends (k ∷ ks) o e = refl

more_front : (ks : List Look) (o : List ℕ) → list_all look_is_short ks ≡ true → ends o ≡ true →
    loose_words (more_looks ks ++ o) ≡ map decimal (look_numbers ks) ++ loose_words o
more_front [] o h e = refl
more_front (k ∷ ks) o h e =
    let p = and_parts (look_is_short k) (list_all look_is_short ks) h in
    look_then k (more_looks ks) o p.0 (more_ends ks o e)
    ∙ ap (λ (ws : List (List ℕ)). decimal k.conn ∷ decimal k.taken ∷ ws) (more_front ks o p.1 e)

looks_front : (ks : List Look) (o : List ℕ) → list_all look_is_short ks ≡ true → ends o ≡ true →
    loose_words (looks_text ks ++ o) ≡ map decimal (look_numbers ks) ++ loose_words o
looks_front [] o h e = refl
looks_front (k ∷ ks) o h e =
    let p = and_parts (look_is_short k) (list_all look_is_short ks) h in
    look_then k (more_looks ks) o p.0 (more_ends ks o e)
    ∙ ap (λ (ws : List (List ℕ)). decimal k.conn ∷ decimal k.taken ∷ ws) (more_front ks o p.1 e)

-- ---- octets

pub bytes : (o : List ℕ) → are_octets o ≡ true → IsBytes o
bytes [] h i = omega arith
bytes (c ∷ o) h zero = ltb-true c 256 (and_parts (nat_lt c 256) (are_octets o) h).0
bytes (c ∷ o) h (suc i) = bytes o (and_parts (nat_lt c 256) (are_octets o) h).1 i

frame_back : (o : List ℕ) → are_octets o ≡ true → decoded (decode_of (encode_upper o)) ≡ Some o
frame_back o h = ap decoded (decode_of-encode_upper o (bytes o h))

identity_back : (o : List ℕ) → are_octets o ≡ true → length o ≡ 26 → decoded (decode_sized (encode_upper o) 26) ≡ Some o
identity_back o h long =
    let twice = length-encode_with upper_digits o in
    let size : length (encode_upper o) ≡ 52 = omega (arith, twice, long) in
    let sized = decode_sized-pairs (encode_upper o) 26 (omega (arith, size)) (omega (arith, size)) in
    ap decoded (sized ∙ decode_pairs-encode_with upper_digits IsDigits-upper_digits 0 o (bytes o h))

-- ---- calls

connect_back : (who : Identity) (o : List ℕ) → IsIdentity who → ends o ≡ true →
    call_in (loose_words (call_text (Connect who) [] ++ o)) ≡ Some (read (asked (Connect who) []) (loose_words o))
connect_back who o is e =
    let hex = encode_upper (identity_octets who) in
    let some = hex_some (identity_octets who) (omega (arith, is.long)) in
    ap (λ (ws : List (List ℕ)). call_in (codes "connect" ∷ ws)) (word_front hex o some (hex_plain (identity_octets who) is.octets) e)
    ∙ ap (λ (x : Option (List ℕ)). connect_of (loose_words o) x) (identity_back (identity_octets who) is.octets is.long)
    ∙ ap (λ (w : Identity). Some (read (asked (Connect w) []) (loose_words o))) is.said

leave_back : (conn taken empties : ℕ) (o : List ℕ) → call_is_short (Leave conn taken empties) ≡ true → ends o ≡ true →
    call_in (loose_words (call_text (Leave conn taken empties) [] ++ o)) ≡ Some (read (asked (Leave conn taken empties) []) (loose_words o))
leave_back conn taken empties o h e =
    let p = and_parts (is_short conn) (are_short (taken ∷ empties ∷ [])) h in
    let q = and_parts (is_short taken) (are_short (empties ∷ [])) p.1 in
    let r = and_parts (is_short empties) true q.1 in
    let words : loose_words (call_text (Leave conn taken empties) [] ++ o) ≡ codes "leave" ∷ decimal conn ∷ decimal taken ∷ decimal empties ∷ loose_words o =
    ap (λ (ws : List (List ℕ)). codes "leave" ∷ ws)
    (number_then conn (then_number taken ++ then_number empties) o p.0 refl
    ∙ ap (λ (ws : List (List ℕ)). decimal conn ∷ ws)
    (number_then taken (then_number empties) o q.0 refl
    ∙ ap (λ (ws : List (List ℕ)). decimal taken ∷ ws) (number_front empties o r.0 e))) in
    ap call_in words
    ∙ (λ i. leave_of (loose_words o) (number_back conn p.0 i) (number_back taken q.0 i) (number_back empties r.0 i))

forward_back : (conn : ℕ) (frame : List ℕ) (looks : List Look) (o : List ℕ) → is_short conn ≡ true → are_octets frame ≡ true → 0 < length frame →
    list_all look_is_short looks ≡ true → ends o ≡ true → NoNumber (loose_words o) →
    call_in (loose_words (call_text (Forward conn frame) looks ++ o)) ≡ Some (read (asked (Forward conn frame) looks) (loose_words o))
forward_back conn frame looks o h octets some short e none =
    let hex = encode_upper frame in
    let words : loose_words (call_text (Forward conn frame) looks ++ o)
    ≡ codes "forward" ∷ decimal conn ∷ hex ∷ codes "looks" ∷ (map decimal (look_numbers looks) ++ loose_words o) =
    ap (λ (ws : List (List ℕ)). codes "forward" ∷ ws)
    (number_then conn (codes " " ++ (hex ++ (codes " looks " ++ looks_text looks))) o h refl
    ∙ ap (λ (ws : List (List ℕ)). decimal conn ∷ ws)
    (word_then hex (codes " looks " ++ looks_text looks) o (hex_some frame some) (hex_plain frame octets) refl
    ∙ ap (λ (ws : List (List ℕ)). hex ∷ codes "looks" ∷ ws) (looks_front looks o short e))) in
    ap call_in words
    ∙ (λ i. forward_of (numbers_back (look_numbers looks) (loose_words o) (looks_short looks short) none i) (number_back conn h i) (frame_back frame octets i))
    ∙ ap (λ (ks : List Look). Some (read (asked (Forward conn frame) ks) (loose_words o))) (looks_back looks)

pub call_back : (call : Call) (looks : List Look) (o : List ℕ) → call_is_short call ≡ true → list_all look_is_short looks ≡ true → HasOctets call →
    ShowsLooks call looks → ends o ≡ true → NoNumber (loose_words o) →
    call_in (loose_words (call_text call looks ++ o)) ≡ Some (read (asked call looks) (loose_words o))
call_back (Connect who) looks o h short octets shown e none =
    connect_back who o octets e ∙ ap (λ (ks : List Look). Some (read (asked (Connect who) ks) (loose_words o))) (sym shown)
call_back (Forward conn frame) looks o h short octets shown e none = forward_back conn frame looks o h octets.0 octets.1 short e none
call_back (Leave conn taken empties) looks o h short octets shown e none =
    leave_back conn taken empties o h e ∙ ap (λ (ks : List Look). Some (read (asked (Leave conn taken empties) ks) (loose_words o))) (sym shown)
call_back Stop looks o h short octets shown e none = stop_back o looks shown e
  where
    stop_back : (o : List ℕ) (looks : List Look) → looks ≡ [] → ends o ≡ true →
        call_in (loose_words (codes "stop" ++ o)) ≡ Some (read (asked Stop looks) (loose_words o))
    stop_back o looks shown e =
        ap call_in (word_front (codes "stop") o (let some : 0 < 4 = omega arith in some) refl e)
        ∙ ap (λ (ks : List Look). Some (read (asked Stop ks) (loose_words o))) (sym shown)
call_back Count looks o h short octets shown e none = count_back o looks shown e
  where
    count_back : (o : List ℕ) (looks : List Look) → looks ≡ [] → ends o ≡ true →
        call_in (loose_words (codes "count" ++ o)) ≡ Some (read (asked Count looks) (loose_words o))
    count_back o looks shown e =
        ap call_in (word_front (codes "count") o (let some : 0 < 5 = omega arith in some) refl e)
        ∙ ap (λ (ks : List Look). Some (read (asked Count ks) (loose_words o))) (sym shown)
