-- A line of a journal says one thing.
-- It serves bsc_audit, bsc_audit_laws and bsc_journal_laws.
use Rattle.std.proofs.Common.{◌≡◌, ◌≢◌, ◌<◌, ◌+◌, ℕ, ◌==◌, nat_eq, Bool, true, false, List, [], ◌∷◌, ◌++◌, length, take, codes, decimal, Option, Some, refl, ap, sym, ◌∙◌, arith}
use Rattle.std.specs.List.{list_all}
use Rattle.std.specs.Cmp.Lexicographic.{pointwise}
use Rattle.std.proofs.lemmas.Bool.{and_parts, eqb-true}
use Rattle.bsc_history.specs.declared.entry.Entry.{Entry}
use Rattle.bsc_history.specs.declared.limits.About.{About}
use Rattle.bsc_text.specs.Grammar.{is_digit}
use Rattle.bsc_text.specs.Lines.{line_in}
use Rattle.bsc_script.specs.declared.line.Line.{Line}
use Rattle.bsc_script.specs.declared.line.Line.TheVariants.{Hub as HubLine}
use Rattle.bsc_script.specs.Lines.{line_of}
use Rattle.bsc_journal.specs.declared.journal_record.JournalRecord.{JournalRecord}
use Rattle.bsc_journal.specs.declared.journal_record.JournalRecord.TheVariants.{Hub, Entry as AnEntry, Denial}
use Rattle.bsc_lines.specs.Lines.{call_text, entry_line, reply_text, then_number}
use Rattle.bsc_journal.specs.Saying.{IsHubLine, IsLineOf, Says, is_denial}
use Rattle.bsc_journal.specs.Good.{SayAll}
use Rattle.bsc_journal.proofs.HubLines.{hub_first}
use Rattle.bsc_journal.proofs.Numbers.{digits, some_digits}
use Rattle.bsc_journal.proofs.ReadBack.{one_entry}

-- ---- the first octet of a line

-- octets begin with a digit
abbrev pub BeginsWithDigit : List ℕ → Type 0
BeginsWithDigit l = (c : ℕ) × (o : List ℕ) × (l ≡ c ∷ o) × (is_digit c ≡ true)

digit_first : (w x : List ℕ) → 0 < length w → list_all is_digit w ≡ true → BeginsWithDigit (w ++ x)
digit_first [] x some h = absurd (omega (arith, some))
digit_first (c ∷ w) x some h = (c, w ++ x, refl, (and_parts (is_digit c) (list_all is_digit w) h).0)

pub entry_first : (l : List ℕ) (place : ℕ) (e : Entry) → IsLineOf l place e → BeginsWithDigit l
unfolding entry_line
entry_first l place e is =
    let rest = then_number e.caller ++ (codes " " ++ (call_text e.call e.looks ++ (codes " " ++ reply_text e.reply))) in
    let d = digit_first (decimal place) rest (some_digits place is.has.place_short) (digits place is.has.place_short) in
    (d.0, d.1, is.line ∙ d.2, d.3)

denial_first : (l : List ℕ) → is_denial l ≡ true → (o : List ℕ) × (l ≡ 100 ∷ o)
denial_first [] h = cc
denial_first (c ∷ o) h = (o, ap (λ (x : ℕ). x ∷ o) (sym (eqb-true 100 c (and_parts (100 == c) (pointwise nat_eq (codes "eny") (take 3 o)) h).0)))

-- ---- what it says

pub no_digit : (c : ℕ) → is_digit c ≡ true → (c ≢ 104) × (c ≢ 100) × (c ≢ 32)
no_digit c h = (λ e. told (ap is_digit e) h, λ e. told (ap is_digit e) h, λ e. told (ap is_digit e) h)
  where
    told : {b : Bool} → b ≡ false → b ≡ true → ⊥
    told e f = cc

hub_no_entry : (l : List ℕ) (about : About) (place : ℕ) (e : Entry) → IsHubLine l about → IsLineOf l place e → ⊥
hub_no_entry l about place e hub is =
    let d = entry_first l place e is in
    let no = no_digit d.0 d.3 in
    no.0 (hub_first d.0 d.1 about no.2 (ap line_of (sym d.2) ∙ hub.line))

pub hub_no_denial : (l : List ℕ) (about : About) → IsHubLine l about → is_denial l ≡ true → ⊥
hub_no_denial l about hub denied =
    let d = denial_first l denied in
    let e : 100 ≡ 104 = hub_first 100 d.0 about (λ e. (let no : ⊥ = omega (arith, e) in no)) (ap line_of (sym d.1) ∙ hub.line) in
    omega (arith, e)

first_of : List ℕ → ℕ
first_of [] = 0
first_of (c ∷ o) = c

pub entry_no_denial : (l : List ℕ) (place : ℕ) (e : Entry) → IsLineOf l place e → is_denial l ≡ true → ⊥
unfolding first_of
entry_no_denial l place e is denied =
    let d = entry_first l place e is in
    let k = denial_first l denied in
    let same : d.0 ≡ 100 = ap first_of (sym d.2 ∙ k.1) in
    (no_digit d.0 d.3).1 same

hub_in : About → Option Line → About
hub_in about (Some (HubLine other)) = other
hub_in about line = about

-- A line says one thing.
pub says_one : (l : List ℕ) (s t : JournalRecord) → Says l s → Says l t → s ≡ t
unfolding hub_in
says_one l (Hub a) (Hub b) h k = ap (λ (o : Option Line). Hub (hub_in a o)) (sym h.line ∙ k.line)
says_one l (Hub a) (AnEntry q f) h k = absurd (hub_no_entry l a q f h k)
says_one l (Hub a) Denial h k = absurd (hub_no_denial l a h k)
says_one l (AnEntry p e) (Hub b) h k = absurd (hub_no_entry l b p e k h)
says_one l (AnEntry p e) (AnEntry q f) h k = let same = one_entry l p q e f h k in λ i. AnEntry (same.0 i) (same.1 i)
says_one l (AnEntry p e) Denial h k = absurd (entry_no_denial l p e h k)
says_one l Denial (Hub b) h k = absurd (hub_no_denial l b k h)
says_one l Denial (AnEntry q f) h k = absurd (entry_no_denial l q f k h)
says_one l Denial Denial h k = refl

-- Good pieces say one list of things.
pub say_once : (before : ℕ) (pieces : List (List ℕ)) (s t : List JournalRecord) → SayAll before pieces s → SayAll before pieces t → s ≡ t
say_once before [] [] [] h k = refl
say_once before [] [] (y ∷ t) h k = absurd k
say_once before [] (x ∷ s) t h k = absurd h
say_once before (piece ∷ pieces) [] t h k = absurd h
say_once before (piece ∷ pieces) (x ∷ s) [] h k = absurd k
say_once before (piece ∷ pieces) (x ∷ s) (y ∷ t) h k =
    let one = says_one (line_in piece) x y h.0.says k.0.says in
    let more = say_once (before + length piece) pieces s t h.1 k.1 in
    λ i. one i ∷ more i
