-- What has a line, by its tests.
-- It serves the clauses of `are_octets`.
use Rattle.std.proofs.Common.{◌≡◌, ℕ, suc, true, ◌&&◌, List, [], ◌∷◌, refl}
use Rattle.std.specs.Prelude.{IsTrue}
use Rattle.std.specs.List.{list_all}
use Rattle.std.proofs.lemmas.Bool.{and_from, and_parts, lt-ltb}
use Rattle.hex.specs.Hex.{IsBytes}
use Rattle.bsc_history.specs.declared.entry.Entry.{Entry}
use Rattle.bsc_journal.specs.Saying.{FitsCall, HasLine, HasOctets, ShowsLooks, are_octets, call_is_short, is_short, look_is_short, reply_is_short}

pub octets_all : (o : List ℕ) → IsBytes o → IsTrue (are_octets o)
octets_all [] h = refl
octets_all (c ∷ o) h = and_from _ _ (lt-ltb c 256 (h 0)) (octets_all o (λ i. h (suc i)))

pub has_all : (place : ℕ) (e : Entry) →
    (is_short place && (is_short e.caller && (call_is_short e.call && (list_all look_is_short e.looks && reply_is_short e.reply)))) ≡ true →
    HasOctets e.call → ShowsLooks e.call e.looks → FitsCall e.call e.reply → HasLine place e
has_all place e short octets shown fits =
    let a = and_parts (is_short place) (is_short e.caller && (call_is_short e.call && (list_all look_is_short e.looks && reply_is_short e.reply))) short in
    let b = and_parts (is_short e.caller) (call_is_short e.call && (list_all look_is_short e.looks && reply_is_short e.reply)) a.1 in
    let c = and_parts (call_is_short e.call) (list_all look_is_short e.looks && reply_is_short e.reply) b.1 in
    let d = and_parts (list_all look_is_short e.looks) (reply_is_short e.reply) c.1 in
    record {
      place_short = a.0;
      caller_short = b.0;
      call_short = c.0;
      looks_short = d.0;
      reply_short = d.1;
      octets = octets;
      shown = shown;
      fits = fits;
    }
