-- What a node keeps and its address resolution go on standing for its log, where a dial failed.
-- It serves the clauses of `fail_dial` and `learnt_uri`.
use Rattle.std.proofs.Common.{◌≡◌, ℕ, ◌+◌, ◌<◌, ◌≤◌, Bool, true, false, List, [], ◌∷◌, length, Option, Some, refl, ap, sym, ◌∙◌, arith, length-append}
use Rattle.std.specs.Prelude.{◌==◌, ◌^◌, filter, min, nat_le, slice_get}
use Rattle.std.proofs.lemmas.Bool.{leb-true, leb-false}
use Rattle.std.proofs.lemmas.Option.{slice_get_past}
use Rattle.bsc_octets.specs.declared.vmac.Vmac.{Vmac}
use Rattle.bsc_connector.specs.declared.side.Side.{Side}
use Rattle.bsc_node.specs.declared.link_name.LinkName.{LinkName}
use Rattle.bsc_node.specs.declared.link_name.LinkName.TheVariants.{Hub}
use Rattle.bsc_node.specs.Logs.{Made, Log}
use Rattle.bsc_node.specs.Ways.{is_ws_uri, words_with, learnt, uris_to_dial}
use Rattle.bsc_node.specs.Ending.{ends}
use Rattle.bsc_node.specs.Events.{dial_fails}
use Rattle.bsc_node_core.proofs.Words.{one_more, at_the_end}
use Rattle.bsc_node_core.proofs.Connecting.{these-to-dial}

-- ---- how many URIs a text has

filtered : (word : List ℕ) (ws : List (List ℕ)) → length (filter is_ws_uri (word ∷ ws)) ≤ 1 + length (filter is_ws_uri ws)
filtered word ws = by (is_ws_uri word) refl
  where
    by : (b : Bool) → is_ws_uri word ≡ b → length (filter is_ws_uri (word ∷ ws)) ≤ 1 + length (filter is_ws_uri ws)
    by true h = rw h (omega arith)
    by false h = rw h (omega arith)

last_word : (word : List ℕ) → length (filter is_ws_uri (word ∷ [])) ≤ length word
last_word [] = omega arith
last_word (c ∷ word) = let q = filtered (c ∷ word) [] in omega (arith, q)

dialled : (text word : List ℕ) → length (filter is_ws_uri (words_with word text)) ≤ length word + length text
dialled [] word = let q = last_word word in omega (arith, q)
dialled (c ∷ text) word = by (c == 0x20) refl (dialled text []) (dialled text (one_more word c))
  where
    by : (b : Bool) → (c == 0x20) ≡ b → length (filter is_ws_uri (words_with [] text)) ≤ 0 + length text
        → length (filter is_ws_uri (words_with (one_more word c) text)) ≤ length (one_more word c) + length text
        → length (filter is_ws_uri (words_with word (c ∷ text))) ≤ length word + length (c ∷ text)
    by true h r s = rw h (let q = filtered word (words_with [] text) in omega (arith, q, r))
    by false h r s = rw h (let n : length (one_more word c) ≡ length word + 1 = ap length (at_the_end word c) ∙ length-append word (c ∷ []) in omega (arith, n, s))

-- The URI of a number that is kept up to the greatest is that of the number itself.
same_uri : (uris : List (List ℕ)) (n number : ℕ) → length uris ≤ 18446744073709551615 → min n 18446744073709551615 ≡ number → slice_get uris number ≡ slice_get uris n
same_uri uris n number few m = by (nat_le n 18446744073709551615) refl
  where
    by : (b : Bool) → nat_le n 18446744073709551615 ≡ b → slice_get uris number ≡ slice_get uris n
    by true e = ap (slice_get uris) (let w = leb-true n 18446744073709551615 e in omega (arith, m, w))
    by false e =
        let w = leb-false n 18446744073709551615 e in
        slice_get_past uris number (omega (arith, m, w, few)) ∙ sym (slice_get_past uris n (omega (arith, w, few)))

pub learnt-of : (v : Vmac) (L : Log) (text : List ℕ) (o : Option (List ℕ)) (n number : ℕ) → length text < 2 ^ 64 → min n 18446744073709551615 ≡ number → learnt v L ≡ Some text
    → o ≡ slice_get (filter is_ws_uri (words_with [] text)) number → o ≡ slice_get (uris_to_dial v L) n
learnt-of v L text o n number fits m l h =
    h ∙ same_uri (filter is_ws_uri (words_with [] text)) n number (let q : length (filter is_ws_uri (words_with [] text)) ≤ 0 + length text = dialled text [] in omega (arith, q, fits)) m
    ∙ sym (these-to-dial v L text n l)

-- A dial of a hub that fails: its connection is over.
pub hub-fails : (a : Made) (name : LinkName) (side : Side) (L : Log) → name ≡ Hub side → dial_fails a name L ≡ ends a name L
hub-fails a name side L is = ap (λ n. dial_fails a n L) is ∙ ap (λ n. ends a n L) (sym is)
