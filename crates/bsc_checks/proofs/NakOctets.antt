-- The octets that were put together are a NAK's.
-- It serves the clauses of `one_outcome`.
use Rattle.std.proofs.Common.{◌≡◌, ℕ, ◌*◌, ◌<◌, ◌^◌, List, [], ◌∷◌, ◌++◌, length, Option, Some, None, is_some, refl, sym, ap, ◌∙◌, arith, append_assoc, append-nil}
use Rattle.std.specs.Prelude.{IfSome}
use Rattle.std.proofs.lemmas.Str.{IsUtf8-nil}
use Rattle.byteorder.specs.Endian.{big_bytes}
use Rattle.bsc_octets.specs.declared.vmac.Vmac.{Vmac}
use Rattle.bsc_octets.specs.Envelopes.{address_octets}
use Rattle.bsc_options.specs.Spelling.{bit}
use Rattle.bsc_frame.specs.Spelling.{Spells, spelling}
use Rattle.bsc_checks.specs.Naks.{nak}

same_octets : (id : ℕ) (dest : Option Vmac) (function marker code flags : ℕ) → flags ≡ 4 * bit (is_some dest)
    → (0x00 ∷ flags ∷ []) ++ big_bytes 2 id ++ address_octets dest ++ (function ∷ 0x01 ∷ marker ∷ []) ++ big_bytes 2 7 ++ big_bytes 2 code ≡ spelling (nak id dest function marker code)
same_octets id None function marker code flags e = rw e refl
same_octets id (Some v) function marker code flags e =
    let a = function ∷ 0x01 ∷ marker ∷ [] in
    let b = big_bytes 2 7 in
    let d = big_bytes 2 code in
    let behind : ((v.0 ++ a) ++ b) ++ d ≡ ((v.0 ++ []) ++ []) ++ (a ++ (b ++ d)) =
    append_assoc (v.0 ++ a) b d ∙ append_assoc v.0 a (b ++ d) ∙ ap (λ (l : List ℕ). l ++ (a ++ (b ++ d))) (sym (append-nil v.0) ∙ sym (append-nil (v.0 ++ []))) in
    ap (λ (f : ℕ). (0x00 ∷ f ∷ big_bytes 2 id) ++ (((v.0 ++ a) ++ b) ++ d)) e ∙ ap (λ (l : List ℕ). (0x00 ∷ 4 ∷ big_bytes 2 id) ++ l) behind

pub nak_spelled : (id : ℕ) (dest : Option Vmac) (function marker code flags : ℕ) (o : List ℕ) → id < 2 ^ 16 → IfSome dest (λ v. length v.0 ≡ 6) → code < 2 ^ 16 → flags ≡ 4 * bit (is_some dest)
    → o ≡ (0x00 ∷ flags ∷ []) ++ big_bytes 2 id ++ address_octets dest ++ (function ∷ 0x01 ∷ marker ∷ []) ++ big_bytes 2 7 ++ big_bytes 2 code → Spells (nak id dest function marker code) o
nak_spelled id dest function marker code flags o fits six coded flag is =
    record {
      legal = record {
        id = fits;
        origin = tt;
        dest = six;
        dest_options = tt;
        data_options = tt;
        place = (λ some. absurd (omega arith));
        body = ((omega arith), coded, IsUtf8-nil);
      };
      octets = is ∙ same_octets id dest function marker code flags flag;
    }
