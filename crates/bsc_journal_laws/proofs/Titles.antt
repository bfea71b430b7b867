-- The first line of a hub's own journal is one line, and no longer than an audit takes.
-- It serves the clauses of `command_audits`.
use Rattle.std.proofs.Common.{◌≡◌, ℕ, zero, suc, ◌+◌, ◌*◌, ◌≤◌, true, nat_lt, List, [], ◌∷◌, ◌++◌, length, take, drop, codes, refl, arith}
use Rattle.std.proofs.lemmas.Bool.{and_from, and_parts}
use Rattle.std.proofs.lemmas.List.{length-drop, length-take-le}
use Rattle.hex.specs.Hex.{encode_upper}
use Rattle.bsc_octets.specs.Identities.{identity_octets}
use Rattle.bsc_history.specs.declared.limits.About.{About}
use Rattle.bsc_lines.specs.Lines.{then_number}
use Rattle.bsc_journal.specs.Saying.{IsIdentity, are_octets, is_short}
use Rattle.bsc_hub_command.specs.HubLines.{hub_text, identity_text, then_hex}
use Rattle.bsc_journal_laws.specs.Lines.{is_clean}
use Rattle.bsc_journal_laws.proofs.Clean.{append as clean_append, behind as clean_behind, hex as clean_hex}
use Rattle.bsc_journal_laws.proofs.Lengths.{behind as long_behind, hex as long_hex, two}

octets_take : (n : ℕ) (o : List ℕ) → are_octets o ≡ true → are_octets (take n o) ≡ true
octets_take zero [] h = refl
octets_take zero (c ∷ o) h = refl
octets_take (suc n) [] h = refl
octets_take (suc n) (c ∷ o) h =
    let p = and_parts (nat_lt c 256) (are_octets o) h in
    and_from _ _ p.0 (octets_take n o p.1)

octets_drop : (n : ℕ) (o : List ℕ) → are_octets o ≡ true → are_octets (drop n o) ≡ true
octets_drop zero [] h = refl
octets_drop zero (c ∷ o) h = h
octets_drop (suc n) [] h = refl
octets_drop (suc n) (c ∷ o) h = octets_drop n o (and_parts (nat_lt c 256) (are_octets o) h).1

-- ---- it has no end of a line

clean_then : (o : List ℕ) → are_octets o ≡ true → is_clean (then_hex o) ≡ true
clean_then o h = clean_append (codes " ") (encode_upper o) refl (clean_hex o h)

clean_identity : (o : List ℕ) → are_octets o ≡ true → is_clean (identity_text o) ≡ true
clean_identity o h =
    let c = then_hex (drop 24 o) in
    let b = then_hex (take 2 (drop 22 o)) ++ c in
    let a = then_hex (take 16 (drop 6 o)) ++ b in
    clean_append (encode_upper (take 6 o)) a (clean_hex (take 6 o) (octets_take 6 o h))
    (clean_append (then_hex (take 16 (drop 6 o))) b (clean_then (take 16 (drop 6 o)) (octets_take 16 (drop 6 o) (octets_drop 6 o h)))
    (clean_append (then_hex (take 2 (drop 22 o))) c (clean_then (take 2 (drop 22 o)) (octets_take 2 (drop 22 o) (octets_drop 22 o h)))
    (clean_then (drop 24 o) (octets_drop 24 o h))))

pub title_clean : (a : About) → IsIdentity a.hub → is_short a.limits.rows ≡ true → is_short a.limits.outbox ≡ true → is_short a.limits.calls ≡ true → is_clean (hub_text a) ≡ true
title_clean a is rows outbox calls =
    let c = then_number a.limits.outbox ++ then_number a.limits.calls in
    let b = then_number a.limits.rows ++ c in
    clean_append (codes "hub ") (identity_text (identity_octets a.hub) ++ b) refl
    (clean_append (identity_text (identity_octets a.hub)) b (clean_identity (identity_octets a.hub) is.octets)
    (clean_append (then_number a.limits.rows) c (clean_behind a.limits.rows rows)
    (clean_append (then_number a.limits.outbox) (then_number a.limits.calls) (clean_behind a.limits.outbox outbox) (clean_behind a.limits.calls calls))))

-- ---- it is short

long_then : (o : List ℕ) → length (then_hex o) ≤ 1 + 2 * length o
long_then o = two (codes " ") (encode_upper o) 1 (2 * length o) (omega arith) (long_hex o)

long_identity : (o : List ℕ) → length o ≡ 26 → length (identity_text o) ≤ 100
long_identity o long =
    let c = then_hex (drop 24 o) in
    let b = then_hex (take 2 (drop 22 o)) ++ c in
    let a = then_hex (take 16 (drop 6 o)) ++ b in
    let rest_6 = length-drop 6 o in
    let rest_22 = length-drop 22 o in
    let rest_24 = length-drop 24 o in
    let v_long : length (take 6 o) ≡ 6 = length-take-le 6 o (omega (arith, long)) in
    let u_long : length (take 16 (drop 6 o)) ≡ 16 = length-take-le 16 (drop 6 o) (omega (arith, long, rest_6)) in
    let m_long : length (take 2 (drop 22 o)) ≡ 2 = length-take-le 2 (drop 22 o) (omega (arith, long, rest_22)) in
    let n_long : length (drop 24 o) ≡ 2 = omega (arith, long, rest_24) in
    let of_c : length c ≤ 5 = (let k = long_then (drop 24 o) in omega (arith, k, n_long)) in
    let of_m : length (then_hex (take 2 (drop 22 o))) ≤ 5 = (let k = long_then (take 2 (drop 22 o)) in omega (arith, k, m_long)) in
    let of_b = two (then_hex (take 2 (drop 22 o))) c 5 5 of_m of_c in
    let of_u : length (then_hex (take 16 (drop 6 o))) ≤ 33 = (let k = long_then (take 16 (drop 6 o)) in omega (arith, k, u_long)) in
    let of_a = two (then_hex (take 16 (drop 6 o))) b 33 (5 + 5) of_u of_b in
    let of_v : length (encode_upper (take 6 o)) ≤ 12 = (let k = long_hex (take 6 o) in omega (arith, k, v_long)) in
    let all = two (encode_upper (take 6 o)) a 12 (33 + (5 + 5)) of_v of_a in
    omega (arith, all)

pub title_short : (a : About) → IsIdentity a.hub → is_short a.limits.rows ≡ true → is_short a.limits.outbox ≡ true → is_short a.limits.calls ≡ true → length (hub_text a) ≤ 300000
title_short a is rows outbox calls =
    let c = then_number a.limits.outbox ++ then_number a.limits.calls in
    let b = then_number a.limits.rows ++ c in
    let of_c = two (then_number a.limits.outbox) (then_number a.limits.calls) (1 + 19) (1 + 19) (long_behind a.limits.outbox outbox) (long_behind a.limits.calls calls) in
    let of_b = two (then_number a.limits.rows) c (1 + 19) ((1 + 19) + (1 + 19)) (long_behind a.limits.rows rows) of_c in
    let of_a = two (identity_text (identity_octets a.hub)) b 100 ((1 + 19) + ((1 + 19) + (1 + 19))) (long_identity (identity_octets a.hub) is.long) of_b in
    let all = two (codes "hub ") (identity_text (identity_octets a.hub) ++ b) 4 (100 + ((1 + 19) + ((1 + 19) + (1 + 19)))) (omega arith) of_a in
    omega (arith, all)
