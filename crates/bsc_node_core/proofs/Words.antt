-- The words of a text, read octet by octet.
-- It serves the clauses of `fail_dial`, `learnt_uri` and `uri_to_dial`.
use Rattle.std.proofs.Common.{◌≡◌, ℕ, suc, ◌+◌, ◌<◌, ◌≤◌, true, false, List, [], ◌∷◌, ◌++◌, length, drop, take, Option, refl, ap, sym, ◌∙◌, arith}
use Rattle.std.specs.Prelude.{◌-◌, ◌==◌, filter, slice_get}
use Rattle.std.proofs.Math.ListN.{get_or}
use Rattle.std.proofs.Math.Seq.{drop-cons, take-suc}
use Rattle.std.proofs.lemmas.List.{get_or-drop, length-drop}
use Rattle.bsc_node.specs.Ways.{is_ws_uri, words_with}

-- a word with one octet more
abbrev pub one_more : List ℕ → ℕ → List ℕ
one_more [] c = c ∷ []
one_more (b ∷ bs) c = b ∷ one_more bs c

pub at_the_end : (word : List ℕ) (c : ℕ) → one_more word c ≡ word ++ c ∷ []
at_the_end [] c = refl
at_the_end (b ∷ bs) c = ap (λ xs. b ∷ xs) (at_the_end bs c)

within : (word cs : List ℕ) (c : ℕ) → (c == 0x20) ≡ false → words_with word (c ∷ cs) ≡ words_with (word ++ c ∷ []) cs
within word cs c h = rw h (ap (λ w. words_with w cs) (at_the_end word c))

-- the URI of this number, where such a word is read and these octets are left
abbrev pub uri_after : List ℕ → List ℕ → ℕ → Option (List ℕ)
uri_after word cs n = slice_get (filter is_ws_uri (words_with word cs)) n

pub more-of-word : (word cs : List ℕ) (c n : ℕ) → (c == 0x20) ≡ false → uri_after word (c ∷ cs) n ≡ uri_after (word ++ c ∷ []) cs n
more-of-word word cs c n h = ap (λ ws. slice_get (filter is_ws_uri ws) n) (within word cs c h)

pub next-word : (word cs : List ℕ) (n : ℕ) → is_ws_uri word ≡ true → uri_after word (0x20 ∷ cs) (suc n) ≡ uri_after [] cs n
next-word word cs n h = rw h refl

pub other-word : (word cs : List ℕ) (n : ℕ) → is_ws_uri word ≡ false → uri_after word (0x20 ∷ cs) n ≡ uri_after [] cs n
other-word word cs n h = rw h refl

-- ---- a text, read up to a place

-- the word from one place to another
abbrev pub word_between : List ℕ → ℕ → ℕ → List ℕ
word_between text start end = take (end - start) (drop start text)

-- The word that is read begins at start, and the URI that is looked for is the one of the number left in what comes after.
abbrev pub IsRead : List ℕ → ℕ → ℕ → ℕ → ℕ → Type 0
IsRead text number start end left = (start ≤ end) × (uri_after [] text number ≡ uri_after (word_between text start end) (drop end text) left)

word_grows : (text : List ℕ) (start end d : ℕ) → start ≤ end → end < length text → word_between text start (end + 1) ≡ word_between text start end ++ get_or text end d ∷ []
word_grows text start end d o w =
    let j = end - start in
    let e : end + 1 - start ≡ suc j = omega (arith, o) in
    let l = length-drop start text in
    let s : start + j ≡ end = omega (arith, o) in
    ap (λ n. take n (drop start text)) e
    ∙ take-suc (drop start text) j d (omega (arith, l, w, o))
    ∙ ap (λ x. take j (drop start text) ++ x ∷ []) (get_or-drop start text j d ∙ ap (λ n. get_or text n d) s)

no_word : (text : List ℕ) (end : ℕ) → word_between text end end ≡ []
no_word text end = let e : end - end ≡ 0 = omega arith in ap (λ n. take n (drop end text)) e

octet_first : (text : List ℕ) (end d : ℕ) → end < length text → drop end text ≡ get_or text end d ∷ drop (end + 1) text
octet_first text end d w = let e : suc end ≡ end + 1 = omega arith in drop-cons text end d w ∙ ap (λ n. get_or text end d ∷ drop n text) e

pub read-more : (text : List ℕ) (number start end left d : ℕ) → IsRead text number start end left → end < length text → (get_or text end d == 0x20) ≡ false → IsRead text number start (end + 1) left
read-more text number start end left d r w c = (
  omega (arith, r.0),
  r.1
      ∙ ap (λ cs. uri_after (word_between text start end) cs left) (octet_first text end d w)
      ∙ more-of-word (word_between text start end) (drop (end + 1) text) (get_or text end d) left c
      ∙ ap (λ word. uri_after word (drop (end + 1) text) left) (sym (word_grows text start end d r.0 w)),
)

at_space : (text : List ℕ) (number start end left d : ℕ) → IsRead text number start end left → end < length text → get_or text end d ≡ 0x20
    → uri_after [] text number ≡ uri_after (word_between text start end) (0x20 ∷ drop (end + 1) text) left
at_space text number start end left d r w c =
    r.1
    ∙ ap (λ cs. uri_after (word_between text start end) cs left) (octet_first text end d w)
    ∙ ap (λ x. uri_after (word_between text start end) (x ∷ drop (end + 1) text) left) c

pub read-next : (text : List ℕ) (number start end left d : ℕ) → IsRead text number start end left → end < length text → get_or text end d ≡ 0x20
    → is_ws_uri (word_between text start end) ≡ true → 0 < left
    → IsRead text number (end + 1) (end + 1) (left - 1)
read-next text number start end left d r w c h p =
    let e : left ≡ suc (left - 1) = omega (arith, p) in (
      omega arith,
      at_space text number start end left d r w c
          ∙ ap (λ n. uri_after (word_between text start end) (0x20 ∷ drop (end + 1) text) n) e
          ∙ next-word (word_between text start end) (drop (end + 1) text) (left - 1) h
          ∙ ap (λ word. uri_after word (drop (end + 1) text) (left - 1)) (sym (no_word text (end + 1))),
    )

pub read-other : (text : List ℕ) (number start end left d : ℕ) → IsRead text number start end left → end < length text → get_or text end d ≡ 0x20 → is_ws_uri (word_between text start end) ≡ false
    → IsRead text number (end + 1) (end + 1) left
read-other text number start end left d r w c h = (
  omega arith,
  at_space text number start end left d r w c
      ∙ other-word (word_between text start end) (drop (end + 1) text) left h
      ∙ ap (λ word. uri_after word (drop (end + 1) text) left) (sym (no_word text (end + 1))),
)

-- ---- the last word
