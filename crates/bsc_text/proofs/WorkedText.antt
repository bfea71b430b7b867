-- Lines and words, and what they write, worked by hand.
-- No clause needs it: worked examples.
use Rattle.std.proofs.Common.{◌≡◌, [], ◌∷◌, codes, true, false, Some, None, refl}
use Rattle.hex.specs.Hex.{decode_pairs}
use Rattle.bsc_text.specs.Lines.{pieces_of, line_in, is_too_big}
use Rattle.bsc_text.specs.Words.{words_of}
use Rattle.bsc_text.specs.Grammar.{number_of, vmac_of_word, maximum_of_word, octets_of_words, is_name}

-- a\nb
pieces : pieces_of (97 ∷ 10 ∷ 98 ∷ []) ≡ (97 ∷ 10 ∷ []) ∷ (98 ∷ []) ∷ []
pieces = refl

-- one CR before an LF is the line's end, another one isn't, and none is without the LF
line : line_in (97 ∷ 13 ∷ 10 ∷ []) ≡ 97 ∷ []
line = refl

line-two : line_in (97 ∷ 13 ∷ 13 ∷ 10 ∷ []) ≡ 97 ∷ 13 ∷ []
line-two = refl

line-open : line_in (97 ∷ 13 ∷ []) ≡ 97 ∷ 13 ∷ []
line-open = refl

-- 2^40 octets are the most
big : is_too_big 1099511627774 (97 ∷ 10 ∷ []) ≡ false
big = refl

bigger : is_too_big 1099511627775 (97 ∷ 10 ∷ []) ≡ true
bigger = refl

-- a tab is no space
words : words_of (codes "  in  A 0 ") ≡ codes "in" ∷ codes "A" ∷ codes "0" ∷ []
words = refl

tab : words_of (97 ∷ 9 ∷ 98 ∷ []) ≡ (97 ∷ 9 ∷ 98 ∷ []) ∷ []
tab = refl

zero-is : number_of (codes "0") ≡ Some 0
zero-is = refl

nineteen : number_of (codes "9999999999999999999") ≡ Some 9999999999999999999
nineteen = refl

twenty : number_of (codes "10000000000000000000") ≡ None
twenty = refl

no-word : number_of [] ≡ None
no-word = refl

leading : number_of (codes "01") ≡ None
leading = refl

sign : number_of (codes "+1") ≡ None
sign = refl

maximum : maximum_of_word (codes "05D9") ≡ Some 1497
unfolding decode_pairs
maximum = refl

maximum-lower : maximum_of_word (codes "05d9") ≡ Some 1497
unfolding decode_pairs
maximum-lower = refl

maximum-short : maximum_of_word (codes "5D9") ≡ None
maximum-short = refl

vmac : vmac_of_word (codes "02000000000A") ≡ Some (record { 0 = 2 ∷ 0 ∷ 0 ∷ 0 ∷ 0 ∷ 10 ∷ [] })
unfolding decode_pairs
vmac = refl

vmac-long : vmac_of_word (codes "02000000000A00") ≡ None
vmac-long = refl

-- octets over several words, cut anywhere
octets : octets_of_words (codes "0" ∷ codes "1aF" ∷ []) ≡ Some (1 ∷ 175 ∷ [])
unfolding decode_pairs
octets = refl

octets-none : octets_of_words [] ≡ Some []
unfolding decode_pairs
octets-none = refl

octets-odd : octets_of_words (codes "0" ∷ codes "1a" ∷ []) ≡ None
octets-odd = refl

name : is_name (codes "Node_7") ≡ true
name = refl

name-hub : is_name (codes "hub") ≡ false
name-hub = refl

name-long : is_name (codes "abcdefghijklmnopq") ≡ false
name-long = refl

name-dot : is_name (codes "a.b") ≡ false
name-dot = refl
