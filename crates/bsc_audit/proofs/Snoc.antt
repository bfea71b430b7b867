-- One more piece at the end, and what it says.
-- It serves clauses of most source files here.
use Rattle.std.proofs.Common.{◌≡◌, ℕ, ◌+◌, List, [], ◌∷◌, ◌++◌, length, flat_map, Option, Some, refl, ap, ◌∙◌, subst, arith, length-append, append-nil}
use Rattle.std.specs.List.{last_or}
use Rattle.bsc_history.specs.declared.limits.About.{About}
use Rattle.bsc_text.specs.Lines.{line_in}
use Rattle.bsc_journal.specs.declared.journal_record.JournalRecord.{JournalRecord}
use Rattle.bsc_journal.specs.declared.journal_record.JournalRecord.TheVariants.{Hub, Entry as AnEntry, Denial}
use Rattle.bsc_journal.specs.Good.{IsGood, SayAll}
use Rattle.bsc_audit.specs.Verdicts.{places_of}
use Rattle.bsc_audit.specs.Hearing.{entry_lines, hubs_of}

-- the octets of some pieces
abbrev pub flat : List (List ℕ) → List ℕ
flat pieces = flat_map (λ piece. piece) pieces

pub flat_snoc : (pieces : List (List ℕ)) (p : List ℕ) → length (flat (pieces ++ p ∷ [])) ≡ length (flat pieces) + length p
flat_snoc [] p = ap length (append-nil p) ∙ (let same : length p ≡ 0 + length p = omega arith in same)
flat_snoc (q ∷ pieces) p =
    let more = flat_snoc pieces p in
    let long = length-append q (flat (pieces ++ p ∷ [])) in
    let was = length-append q (flat pieces) in
    omega (arith, more, long, was)

-- all of them are good, and so is one more
pub say_snoc : (before : ℕ) (pieces : List (List ℕ)) (said : List JournalRecord) (p : List ℕ) (s : JournalRecord) →
    SayAll before pieces said → IsGood (before + length (flat pieces)) p s → SayAll before (pieces ++ p ∷ []) (said ++ s ∷ [])
say_snoc before [] [] p s all good = (subst (λ (n : ℕ). IsGood n p s) (let same : before + 0 ≡ before = omega arith in same) good, tt)
say_snoc before [] (t ∷ said) p s all good = absurd all
say_snoc before (q ∷ pieces) [] p s all good = absurd all
say_snoc before (q ∷ pieces) (t ∷ said) p s all good =
    let long = length-append q (flat pieces) in
    let same : before + length (q ++ flat pieces) ≡ (before + length q) + length (flat pieces) = omega (arith, long) in
    (all.0, say_snoc (before + length q) pieces said p s all.1 (subst (λ (n : ℕ). IsGood n p s) same good))

pub hubs_snoc : (said : List JournalRecord) (s : JournalRecord) → hubs_of (said ++ s ∷ []) ≡ hubs_of said ++ hubs_of (s ∷ [])
hubs_snoc [] s = refl
hubs_snoc (Hub about ∷ said) s = ap (λ (l : List About). about ∷ l) (hubs_snoc said s)
hubs_snoc (AnEntry place e ∷ said) s = hubs_snoc said s
hubs_snoc (Denial ∷ said) s = hubs_snoc said s

pub places_snoc : (said : List JournalRecord) (s : JournalRecord) → places_of (said ++ s ∷ []) ≡ places_of said ++ places_of (s ∷ [])
places_snoc [] s = refl
places_snoc (Hub about ∷ said) s = places_snoc said s
places_snoc (AnEntry place e ∷ said) s = ap (λ (l : List ℕ). place ∷ l) (places_snoc said s)
places_snoc (Denial ∷ said) s = places_snoc said s

pub entries_snoc : (before : ℕ) (pieces : List (List ℕ)) (said : List JournalRecord) (p : List ℕ) (s : JournalRecord) → SayAll before pieces said →
    entry_lines (pieces ++ p ∷ []) (said ++ s ∷ []) ≡ entry_lines pieces said ++ entry_lines (p ∷ []) (s ∷ [])
entries_snoc before [] [] p s all = refl
entries_snoc before [] (t ∷ said) p s all = absurd all
entries_snoc before (q ∷ pieces) [] p s all = absurd all
entries_snoc before (q ∷ pieces) (Hub about ∷ said) p s all = entries_snoc (before + length q) pieces said p s all.1
entries_snoc before (q ∷ pieces) (AnEntry place e ∷ said) p s all =
    ap (λ (l : List (List ℕ)). line_in q ∷ l) (entries_snoc (before + length q) pieces said p s all.1)
entries_snoc before (q ∷ pieces) (Denial ∷ said) p s all = entries_snoc (before + length q) pieces said p s all.1

pub last_append : {A : Type 0} (o : Option A) (xs ys : List A) → last_or o (xs ++ ys) ≡ last_or (last_or o xs) ys
last_append o [] ys = refl
last_append o (x ∷ xs) ys = last_append (Some x) xs ys
