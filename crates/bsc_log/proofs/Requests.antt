-- A Connect-Request without addresses and options.
-- It serves the clauses of `plain_asker`.
use Rattle.std.proofs.Common.{◌≡◌, ℕ, ◌+◌, ◌*◌, ◌<◌, ◌^◌, Option, Some, None, IfSome, List, [], ◌∷◌, ◌++◌, length, get_or, drop, lit<, refl, sym, ap, subst, ◌∙◌, arith, append-nil}
use Rattle.byteorder.specs.Endian.{big_bytes, big_number}
use Rattle.bsc_octets.specs.declared.identity.Identity.{Identity}
use Rattle.bsc_octets.specs.Identities.{identity_octets}
use Rattle.bsc_octets.proofs.TwoOctets.{two_octets}
use Rattle.bsc_frame.specs.declared.body.Body.TheVariants.{ConnectRequest}
use Rattle.bsc_frame.specs.declared.message.Message.{Message}
use Rattle.bsc_frame.specs.Payloads.{IsNode}
use Rattle.bsc_frame.specs.Spelling.{HasSpelling, spelling}
use Rattle.bsc_log.specs.Asking.{Asks}

-- nothing stands between a head and its payload
nothing_between : (head payload : List ℕ) → ((((head ++ []) ++ []) ++ []) ++ []) ++ payload ≡ head ++ payload
nothing_between head payload = ap (λ (l : List ℕ). l ++ payload) (append-nil _ ∙ append-nil _ ∙ append-nil _ ∙ append-nil head)

asks_by : (a b : ℕ) (p : List ℕ) (who : Identity) → a < 256 → b < 256 → IsNode who → identity_octets who ≡ p → Asks (6 ∷ 0 ∷ a ∷ b ∷ p) who
asks_by a b p who ha hb node says =
    let msg : Message = record { id = big_number 2 (a ∷ b ∷ []); origin = None; dest = None; dest_options = []; data_options = []; body = ConnectRequest who } in
    let small : a * 256 + (b * 1 + 0) < 2 ^ 16 = omega (arith, ha, hb) in
    let ids : big_bytes 2 msg.id ≡ a ∷ b ∷ [] = two_octets a b [] ha hb in
    let octets : spelling msg ≡ 6 ∷ 0 ∷ a ∷ b ∷ p =
    nothing_between (6 ∷ 0 ∷ big_bytes 2 msg.id) (identity_octets who)
    ∙ ap (λ (l : List ℕ). (6 ∷ 0 ∷ l) ++ identity_octets who) ids
    ∙ ap (λ (l : List ℕ). 6 ∷ 0 ∷ a ∷ b ∷ l) says in
    let legal : HasSpelling msg =
    record {
      id = small;
      origin = tt;
      dest = tt;
      dest_options = tt;
      data_options = tt;
      place = λ some. let no : 0 < 0 = some in absurd (omega arith);
      body = node;
    } in
    (msg, record { legal = legal; octets = sym octets }, refl)

too_few : (n : ℕ) → n ≡ 30 → n < 30 → ⊥
too_few n e h = omega (arith, e, h)

-- its function and its flags, its ID, and its payload
parts : (m : List ℕ) → length m ≡ 30 → get_or m 0 0 ≡ 6 → get_or m 1 0 ≡ 0 → m ≡ 6 ∷ 0 ∷ get_or m 2 0 ∷ get_or m 3 0 ∷ drop 4 m
parts [] long six zero = absurd (too_few 0 long (lit< tt))
parts (f ∷ []) long six zero = absurd (too_few 1 long (lit< tt))
parts (f ∷ g ∷ []) long six zero = absurd (too_few 2 long (lit< tt))
parts (f ∷ g ∷ a ∷ []) long six zero = absurd (too_few 3 long (lit< tt))
parts (f ∷ g ∷ a ∷ b ∷ p) long six zero = ap (λ (n : ℕ). n ∷ g ∷ a ∷ b ∷ p) six ∙ ap (λ (n : ℕ). 6 ∷ n ∷ a ∷ b ∷ p) zero

pub asks_plainly : (m p : List ℕ) (r : Option Identity) → ((i : ℕ) → get_or m i 0 < 256) → length m ≡ 30 → get_or m 0 0 ≡ 6 → get_or m 1 0 ≡ 0 → p ≡ drop 4 m
    → IfSome r (λ who. IsNode who × (identity_octets who ≡ p)) → IfSome r (λ who. Asks m who)
asks_plainly m p None octets long six zero behind found = tt
asks_plainly m p (Some who) octets long six zero behind found =
    subst (λ (l : List ℕ). Asks l who) (sym (parts m long six zero)) (asks_by (get_or m 2 0) (get_or m 3 0) (drop 4 m) who (octets 2) (octets 3) found.0 (found.1 ∙ behind))
