-- The text of a hub is read as that hub.
-- It serves the clauses of `make_hub`.
use Rattle.std.proofs.Common.{◌≡◌, ℕ, zero, suc, ◌+◌, ◌*◌, ◌/◌, ◌%◌, ◌^◌, ◌<◌, ◌≤◌, ◌==◌, nat_le, nat_lt, Bool, true, false, not, ◌&&◌, cond, List, [], ◌∷◌, ◌++◌, length}
use Rattle.std.proofs.Common.{slice_index, take, drop, codes, decimal, Some, None, refl, ap, sym, ◌∙◌, subst, append_assoc, arith}
use Rattle.std.specs.List.{list_all}
use Rattle.std.proofs.lemmas.Bool.{agree_below_at, and_from, and_parts, eqb-true, leb-true, lt-ltb, ltb-true}
use Rattle.std.proofs.lemmas.List.{get_or_default, length-drop, length-take-le}
use Rattle.byteorder.specs.Endian.{big_number}
use Rattle.byteorder.specs.Numbers.{big_from-take}
use Rattle.hex.specs.Hex.{decode_sized, encode_upper, encode_with, upper_digits}
use Rattle.hex.proofs.HexLemmas.{IsDigits-upper_digits, decode_pairs-encode_with, length-encode_with}
use Rattle.hex.proofs.Pairs.{decode_sized-pairs}
use Rattle.uuid.specs.Text.{byte_of_digits, is_hex_digit, parsed, value_of}
use Rattle.uuid.proofs.TextLemmas.{by_index_same}
use Rattle.bsc_octets.specs.declared.identity.Identity.{Identity}
use Rattle.bsc_octets.specs.Identities.{identity_octets, identity_of}
use Rattle.bsc_history.specs.declared.limits.About.{About}
use Rattle.bsc_history.specs.declared.limits.TheConstants.{MOST_CALLERS, MOST_CALLS, MOST_OUTBOX, MOST_ROWS}
use Rattle.bsc_text.specs.Grammar.{decoded, device_in, maximum_of_word, number_in, vmac_in}
use Rattle.bsc_text.specs.Lines.{in_front}
use Rattle.bsc_text.specs.Words.{words_of}
use Rattle.bsc_script.specs.declared.line.Line.TheVariants.{Hub}
use Rattle.bsc_script.specs.Lines.{hub_line as said_line, hub_of, lies_within, line_of, line_of_words, may_be_hub}
use Rattle.bsc_journal.specs.Saying.{IsHubLine, IsIdentity, are_octets, is_short}
use Rattle.bsc_journal.proofs.Loosening.{hex_plain, hex_some, plain, no_space, plain_digits}
use Rattle.bsc_journal.proofs.Numbers.{digits, number_back, some_digits}
use Rattle.bsc_hub_command.specs.HubLines.{hub_text}
use Rattle.bsc_journal.proofs.CallsBack.{bytes}

-- A script may make this hub: its line takes these numbers, and it has the most callers.
abbrev pub CanBeSaid : About → Type 0
CanBeSaid a =
    (may_be_hub a.hub.vmac a.hub.max_bvlc a.hub.max_npdu a.limits.rows a.limits.outbox a.limits.calls ≡ true)
    × (a.limits.callers ≡ MOST_CALLERS)

-- ---- words

word_stops : (c : ℕ) (ws : List (List ℕ)) → (c == 32) ≡ false → cond (c == 32) ws ((c ∷ []) ∷ ws) ≡ (c ∷ []) ∷ ws
word_stops c ws m = ap (λ (b : Bool). cond b ws ((c ∷ []) ∷ ws)) m

word_goes : (c d : ℕ) (ws : List (List ℕ)) → (c == 32) ≡ false → (d == 32) ≡ false →
    cond (c == 32) ws (cond (not (d == 32)) (in_front c ws) ((c ∷ []) ∷ ws)) ≡ in_front c ws
word_goes c d ws m n =
    ap (λ (b : Bool). cond b ws (cond (not (d == 32)) (in_front c ws) ((c ∷ []) ∷ ws))) m
    ∙ ap (λ (b : Bool). cond (not b) (in_front c ws) ((c ∷ []) ∷ ws)) n

-- what a word is
abbrev IsWord : List ℕ → Type 0
IsWord w = (0 < length w) × (list_all plain w ≡ true)

-- a word up to a space
word : (c : ℕ) (w o : List ℕ) → list_all plain (c ∷ w) ≡ true → words_of ((c ∷ w) ++ (32 ∷ o)) ≡ (c ∷ w) ∷ words_of o
word c [] o h = word_stops c (words_of o) (no_space c (and_parts (plain c) true h).0)
word c (d ∷ w) o h =
    let p = and_parts (plain c) (list_all plain (d ∷ w)) h in
    let q = and_parts (plain d) (list_all plain w) p.1 in
    word_goes c d (words_of ((d ∷ w) ++ (32 ∷ o))) (no_space c p.0) (no_space d q.0) ∙ ap (in_front c) (word d w o p.1)

-- the last word
last : (c : ℕ) (w : List ℕ) → list_all plain (c ∷ w) ≡ true → words_of (c ∷ w) ≡ (c ∷ w) ∷ []
last c [] h = word_stops c [] (no_space c (and_parts (plain c) true h).0)
last c (d ∷ w) h =
    let p = and_parts (plain c) (list_all plain (d ∷ w)) h in
    let q = and_parts (plain d) (list_all plain w) p.1 in
    word_goes c d (words_of (d ∷ w)) (no_space c p.0) (no_space d q.0) ∙ ap (in_front c) (last d w p.1)

front : (w o : List ℕ) → IsWord w → words_of (w ++ (codes " " ++ o)) ≡ w ∷ words_of o
front [] o h = absurd (let some : 0 < length {A = ℕ} [] = h.0 in omega (arith, some))
front (c ∷ w) o h = word c w o h.1

front_then : (w x o : List ℕ) → IsWord w → words_of ((w ++ (codes " " ++ x)) ++ o) ≡ w ∷ words_of (x ++ o)
front_then w x o h = ap words_of (append_assoc w (codes " " ++ x) o) ∙ front w (x ++ o) h

only : (w : List ℕ) → IsWord w → words_of w ≡ w ∷ []
only [] h = absurd (let some : 0 < length {A = ℕ} [] = h.0 in omega (arith, some))
only (c ∷ w) h = last c w h.1

eight_words : (v u b n r s c : List ℕ) → IsWord v → IsWord u → IsWord b → IsWord n → IsWord r → IsWord s → IsWord c →
    words_of (codes "hub " ++ ((v ++ ((codes " " ++ u) ++ ((codes " " ++ b) ++ (codes " " ++ n)))) ++ ((codes " " ++ r) ++ ((codes " " ++ s) ++ (codes " " ++ c)))))
    ≡ codes "hub" ∷ v ∷ u ∷ b ∷ n ∷ r ∷ s ∷ c ∷ []
eight_words v u b n r s c hv hu hb hn hr hs hc =
    let behind : List ℕ = r ++ (codes " " ++ (s ++ (codes " " ++ c))) in
    let rest : List ℕ = codes " " ++ behind in
    let x : List ℕ = b ++ (codes " " ++ n) in
    let y : List ℕ = u ++ (codes " " ++ x) in
    front (codes "hub") ((v ++ (codes " " ++ y)) ++ rest) (omega arith, refl)
    ∙ ap (λ (ws : List (List ℕ)). codes "hub" ∷ ws)
    (front_then v y rest hv ∙ ap (λ (ws : List (List ℕ)). v ∷ ws)
    (front_then u x rest hu ∙ ap (λ (ws : List (List ℕ)). u ∷ ws)
    (front_then b n rest hb ∙ ap (λ (ws : List (List ℕ)). b ∷ ws)
    (front n behind hn ∙ ap (λ (ws : List (List ℕ)). n ∷ ws)
    (front r (s ++ (codes " " ++ c)) hr ∙ ap (λ (ws : List (List ℕ)). r ∷ ws)
    (front s c hs ∙ ap (λ (ws : List (List ℕ)). s ∷ ws) (only c hc)))))))

-- ---- octets

octets_take : (n : ℕ) (o : List ℕ) → are_octets o ≡ true → are_octets (take n o) ≡ true
octets_take zero [] h = refl
octets_take zero (c ∷ o) h = refl
octets_take (suc n) [] h = refl
octets_take (suc n) (c ∷ o) h =
    let p = and_parts (nat_lt c 256) (are_octets o) h in
    and_from _ _ p.0 (octets_take n o p.1)

octets_drop : (n : ℕ) (o : List ℕ) → are_octets o ≡ true → are_octets (drop n o) ≡ true
octets_drop zero [] h = refl
octets_drop zero (c ∷ o) h = h
octets_drop (suc n) [] h = refl
octets_drop (suc n) (c ∷ o) h = octets_drop n o (and_parts (nat_lt c 256) (are_octets o) h).1

hex_word : (o : List ℕ) → 0 < length o → are_octets o ≡ true → IsWord (encode_upper o)
hex_word o some h = (hex_some o some, hex_plain o h)

sized_back : (o : List ℕ) (n : ℕ) → are_octets o ≡ true → length o ≡ n → decoded (decode_sized (encode_upper o) n) ≡ Some o
sized_back o n h long =
    let twice = length-encode_with upper_digits o in
    let size : length (encode_upper o) ≡ 2 * n = omega (arith, twice, long) in
    let sized = decode_sized-pairs (encode_upper o) n (omega (arith, size)) (omega (arith, size)) in
    ap decoded (sized ∙ decode_pairs-encode_with upper_digits IsDigits-upper_digits 0 o (bytes o h))

-- ---- a Device UUID

digit_is : (d : ℕ) → d < 16 → is_hex_digit (slice_index upper_digits d) ≡ true
digit_is d h = agree_below_at (λ k. is_hex_digit (slice_index upper_digits k)) (λ k. true) 16 d refl h

value_is : (d : ℕ) → d < 16 → value_of (slice_index upper_digits d) ≡ d
value_is d h =
    eqb-true (value_of (slice_index upper_digits d)) d
    (agree_below_at (λ k. value_of (slice_index upper_digits k) == k) (λ k. true) 16 d refl h)

hex_digits : (o : List ℕ) → are_octets o ≡ true → list_all is_hex_digit (encode_upper o) ≡ true
unfolding encode_with
hex_digits [] h = refl
hex_digits (b ∷ o) h =
    let p = and_parts (nat_lt b 256) (are_octets o) h in
    let small = ltb-true b 256 p.0 in
    and_from _ _ (digit_is (b / 16) (omega (arith, small)))
    (and_from _ _ (digit_is (b % 16) (omega (arith, small))) (hex_digits o p.1))

high_at : (t o : List ℕ) (i : ℕ) → i < length o → slice_index (encode_with t o) (2 * i) ≡ slice_index t (slice_index o i / 16)
unfolding encode_with
high_at t [] i h = absurd (omega (arith, h))
high_at t (b ∷ o) zero h = refl
high_at t (b ∷ o) (suc i) h =
    let e : 2 * suc i ≡ suc (suc (2 * i)) = omega arith in
    ap (λ (k : ℕ). slice_index (encode_with t (b ∷ o)) k) e ∙ high_at t o i (omega (arith, h))

low_at : (t o : List ℕ) (i : ℕ) → i < length o → slice_index (encode_with t o) (2 * i + 1) ≡ slice_index t (slice_index o i % 16)
unfolding encode_with
low_at t [] i h = absurd (omega (arith, h))
low_at t (b ∷ o) zero h = refl
low_at t (b ∷ o) (suc i) h =
    let e : 2 * suc i + 1 ≡ suc (suc (2 * i + 1)) = omega arith in
    ap (λ (k : ℕ). slice_index (encode_with t (b ∷ o)) k) e ∙ low_at t o i (omega (arith, h))

byte_back : (o : List ℕ) → are_octets o ≡ true → (i : ℕ) → i < length o → slice_index o i ≡ byte_of_digits (encode_upper o) i
byte_back o h i inside =
    let small = bytes o h i in
    let high : value_of (slice_index (encode_upper o) (2 * i)) ≡ slice_index o i / 16 =
    ap value_of (high_at upper_digits o i inside) ∙ value_is (slice_index o i / 16) (omega (arith, small)) in
    let low : value_of (slice_index (encode_upper o) (2 * i + 1)) ≡ slice_index o i % 16 =
    ap value_of (low_at upper_digits o i inside) ∙ value_is (slice_index o i % 16) (omega (arith, small)) in
    rw (high, low) (omega arith)

device_back : (o : List ℕ) → are_octets o ≡ true → length o ≡ 16 → parsed (encode_upper o) ≡ Some o
device_back o h long =
    let twice = length-encode_with upper_digits o in
    let size : length (encode_upper o) ≡ 32 = omega (arith, twice, long) in
    let all = hex_digits o h in
    let same = by_index_same o 16 (byte_of_digits (encode_upper o)) long
    (λ i d within. get_or_default o i d 0 (omega (arith, within, long)) ∙ byte_back o h i (omega (arith, within, long))) in
    rw (size, all) (ap Some (sym same))

-- ---- numbers

number_word : (n : ℕ) → is_short n ≡ true → IsWord (decimal n)
number_word n h = (some_digits n h, plain_digits (decimal n) (digits n h))

short : (low n high : ℕ) → high ≤ MOST_CALLS → lies_within low n high ≡ true → is_short n ≡ true
short low n high most h =
    let within = leb-true n high (and_parts (nat_le low n) (nat_le n high) h).1 in
    lt-ltb n (10 ^ 19) (omega (arith, most, within))

-- which of its tests a hub passes that are on its rows, its outboxes and its calls
last_tests : (x r o c p : Bool) → (x && r && o && c && p) ≡ true → (r ≡ true) × (o ≡ true) × (c ≡ true)
last_tests x r o c p h =
    let a = and_parts (x && r && o && c) p h in
    let b = and_parts (x && r && o) c a.0 in
    let d = and_parts (x && r) o b.0 in
    let e = and_parts x r d.0 in
    (e.1, d.1, b.1)

-- ---- a hub

pub hub_back : (a : About) → IsIdentity a.hub → CanBeSaid a → IsHubLine (hub_text a) a
unfolding line_of
hub_back a is can =
    let o : List ℕ = identity_octets a.hub in
    let long : length o ≡ 26 = is.long in
    let h : are_octets o ≡ true = is.octets in
    let tests = last_tests _ (lies_within 1 a.limits.rows MOST_ROWS) (lies_within 2 a.limits.outbox MOST_OUTBOX) (lies_within 1 a.limits.calls MOST_CALLS) _ can.0 in
    let rows = short 1 a.limits.rows MOST_ROWS (omega arith) tests.0 in
    let outbox = short 2 a.limits.outbox MOST_OUTBOX (omega arith) tests.1 in
    let calls = short 1 a.limits.calls MOST_CALLS (omega arith) tests.2 in
    let v : List ℕ = take 6 o in
    let v_long : length v ≡ 6 = length-take-le 6 o (omega (arith, long)) in
    let v_octets = octets_take 6 o h in
    let u : List ℕ = take 16 (drop 6 o) in
    let u_rest = length-drop 6 o in
    let u_long : length u ≡ 16 = length-take-le 16 (drop 6 o) (omega (arith, long, u_rest)) in
    let u_octets = octets_take 16 (drop 6 o) (octets_drop 6 o h) in
    let b : List ℕ = take 2 (drop 22 o) in
    let b_rest = length-drop 22 o in
    let b_long : length b ≡ 2 = length-take-le 2 (drop 22 o) (omega (arith, long, b_rest)) in
    let b_octets = octets_take 2 (drop 22 o) (octets_drop 22 o h) in
    let n : List ℕ = drop 24 o in
    let n_rest = length-drop 24 o in
    let n_long : length n ≡ 2 = omega (arith, long, n_rest) in
    let n_octets = octets_drop 24 o h in
    let words = eight_words (encode_upper v) (encode_upper u) (encode_upper b) (encode_upper n) (decimal a.limits.rows) (decimal a.limits.outbox) (decimal a.limits.calls)
    (hex_word v (omega (arith, v_long)) v_octets) (hex_word u (omega (arith, u_long)) u_octets) (hex_word b (omega (arith, b_long)) b_octets)
    (hex_word n (omega (arith, n_long)) n_octets) (number_word a.limits.rows rows) (number_word a.limits.outbox outbox) (number_word a.limits.calls calls) in
    let vmac = ap vmac_in (sized_back v 6 v_octets v_long) in
    let device = ap device_in (device_back u u_octets u_long) in
    let bvlc : maximum_of_word (encode_upper b) ≡ Some (big_number 2 (drop 22 o)) =
    ap number_in (sized_back b 2 b_octets b_long) ∙ ap Some (big_from-take 0 2 2 (drop 22 o) (omega arith)) in
    let npdu : maximum_of_word (encode_upper n) ≡ Some (big_number 2 (drop 24 o)) = ap number_in (sized_back n 2 n_octets n_long) in
    let w : Identity = identity_of o in
    let may : may_be_hub w.vmac w.max_bvlc w.max_npdu a.limits.rows a.limits.outbox a.limits.calls ≡ true =
    subst (λ (x : Identity). may_be_hub x.vmac x.max_bvlc x.max_npdu a.limits.rows a.limits.outbox a.limits.calls ≡ true) (sym is.said) can.0 in
    record {
      line =
          ap line_of_words words
          ∙ (λ i. said_line (vmac i) (device i) (bvlc i) (npdu i) (number_back a.limits.rows rows i) (number_back a.limits.outbox outbox i) (number_back a.limits.calls calls i))
          ∙ ap (λ (t : Bool). cond t (Some (Hub (hub_of w.vmac w.device w.max_bvlc w.max_npdu a.limits.rows a.limits.outbox a.limits.calls))) None) may
          ∙ ap (λ (x : Identity). Some (Hub (hub_of x.vmac x.device x.max_bvlc x.max_npdu a.limits.rows a.limits.outbox a.limits.calls))) is.said
          ∙ ap (λ (k : ℕ). Some (Hub (record { hub = a.hub; limits = record { rows = a.limits.rows; outbox = a.limits.outbox; calls = a.limits.calls; callers = k } }))) (sym can.1);
      words = ap length words;
    }
