-- The entry of a line is read back from it, so a line has one entry.
-- It serves bsc_audit, bsc_audit_laws and bsc_journal_laws.
use Rattle.std.proofs.Common.{◌≡◌, ℕ, List, ◌∷◌, ◌++◌, codes, decimal, Option, Some, None, refl, ap, sym, ◌∙◌}
use Rattle.bsc_history.specs.declared.entry.Entry.{Entry}
use Rattle.bsc_history.specs.declared.reply.Reply.{Reply}
use Rattle.bsc_lines.specs.Lines.{call_text, entry_line, reply_text, then_number}
use Rattle.bsc_journal.specs.Reading.{asked, entry_in, entry_of, loose_words, placed, read_of}
use Rattle.bsc_journal.specs.Saying.{HasLine, IsLineOf}
use Rattle.bsc_journal.proofs.CallsBack.{call_back}
use Rattle.bsc_journal.proofs.Loosening.{number_front}
use Rattle.bsc_journal.proofs.Numbers.{number_back}
use Rattle.bsc_journal.proofs.RepliesBack.{reply_back, reply_begins}

-- the text after the caller
abbrev behind : Entry → List ℕ
behind e = call_text e.call e.looks ++ (codes " " ++ reply_text e.reply)

words : (place : ℕ) (e : Entry) → HasLine place e → loose_words (entry_line place e) ≡ decimal place ∷ decimal e.caller ∷ loose_words (behind e)
unfolding entry_line
words place e has =
    number_front place (then_number e.caller ++ (codes " " ++ behind e)) has.place_short refl
    ∙ ap (λ (ws : List (List ℕ)). decimal place ∷ ws) (number_front e.caller (codes " " ++ behind e) has.caller_short refl)

pub line_back : (place : ℕ) (e : Entry) → HasLine place e → read_of (entry_line place e) ≡ Some (place, e)
unfolding read_of
line_back place e has =
    let rest = loose_words (reply_text e.reply) in
    ap entry_in (words place e has)
    ∙ (λ i. entry_of (number_back place has.place_short i) (number_back e.caller has.caller_short i)
    (call_back e.call e.looks (codes " " ++ reply_text e.reply) has.call_short has.looks_short has.octets has.shown refl (reply_begins e.reply) i))
    ∙ ap (λ (r : Option Reply). placed place e.caller (asked e.call e.looks) r) (reply_back e.call e.reply has.reply_short has.fits)

-- The entry that a line is of is the one that is read of it.
pub read_is : (l : List ℕ) (place : ℕ) (e : Entry) → IsLineOf l place e → read_of l ≡ Some (place, e)
read_is l place e is = ap read_of is.line ∙ line_back place e is.has

-- the place and the entry of what was read
abbrev pub place_in : Option (ℕ × Entry) → ℕ
place_in None = 0
place_in (Some x) = x.0

abbrev entry_or : Entry → Option (ℕ × Entry) → Entry
entry_or e None = e
entry_or e (Some x) = x.1

-- A line is of one entry.
pub one_entry : (l : List ℕ) (p q : ℕ) (e f : Entry) → IsLineOf l p e → IsLineOf l q f → (p ≡ q) × (e ≡ f)
one_entry l p q e f is also =
    let same : Some (p, e) ≡ Some (q, f) = sym (read_is l p e is) ∙ read_is l q f also in
    (ap place_in same, ap (entry_or e) same)
