-- Octets have one verdict.
-- It serves the clauses of `one_verdict`.
use Rattle.std.proofs.Common.{◌≡◌, ℕ, ◌+◌, ◌<◌, ◌≤◌, ◌⊎◌, false, nat_eq, List, [], ◌∷◌, ◌++◌, length, take, drop, inl, inr, ⊎_elim, refl, ap, sym, ◌∙◌, subst, arith}
use Rattle.std.specs.List.{AllByRecursion, IsDistinct, count_by}
use Rattle.std.proofs.lemmas.Bool.{cases_eq, cases_order, eqb-false}
use Rattle.std.proofs.lemmas.List.{take-append-drop, take-take}
use Rattle.bsc_history.specs.declared.entry.Entry.{Entry}
use Rattle.bsc_history.specs.declared.limits.About.{About}
use Rattle.bsc_history.specs.Legality.{Legal}
use Rattle.bsc_history.proofs.Parts.{Legal-first}
use Rattle.bsc_text.specs.Lines.{pieces_of}
use Rattle.bsc_audit.specs.Places.Places.{IsLeastMissing, IsLeastTwice}
use Rattle.bsc_audit.proofs.PlaceFacts.Counting.{often, often_here, often_there}
use Rattle.bsc_audit.proofs.PlaceFacts.Ranges.{none_missing, none_twice}
use Rattle.bsc_journal.specs.declared.journal_record.JournalRecord.{JournalRecord}
use Rattle.bsc_journal.specs.Journals.{Tells}
use Rattle.bsc_journal.specs.Good.{IsGood, SayAll}
use Rattle.bsc_journal.proofs.SaidOnce.{say_once}
use Rattle.bsc_audit.specs.declared.audit_end.AuditEnd.{AuditEnd}
use Rattle.bsc_audit.specs.declared.audit_end.AuditEnd.TheVariants.{Legal as IsLegal, BadLine, Hubs, Twice, Missing, Illegal, ReadFault, NoMemory}
use Rattle.bsc_audit.specs.Verdicts.{AuditsTo, HasHubs, IsFirstBad, IsLeastIllegal, SayOneHub, is_hub, places_of}
use Rattle.bsc_audit.proofs.Believed.{no_bad, no_hubs, no_illegal}
use Rattle.bsc_audit.proofs.Counts.{one_hub_said, places_all}
use Rattle.bsc_audit.proofs.OneHistory.{one_history, same_length}
use Rattle.bsc_audit.proofs.SayAgain.{say_at, telling_says}
use Rattle.bsc_audit.proofs.Snoc.{flat}
use Rattle.bsc_audit_laws.specs.Laws.{SaysNothing}
use Rattle.bsc_lemmas.proofs.Booleans.{not_both as told}

-- what two verdicts come to
abbrev pub AreOne : AuditEnd → AuditEnd → Type 0
AreOne r s = (r ≡ s) ⊎ (SaysNothing r ⊎ SaysNothing s)

-- ---- bad lines

-- where all lines are good, none is bad
good_not_bad : (o : List ℕ) (k : ℕ) (said : List JournalRecord) → SayAll 0 (pieces_of o) said → IsFirstBad k o → ⊥
good_not_bad o k said all b =
    let says : SayAll 0 (b.good ++ b.bad ∷ b.rest) said = subst (λ (ps : List (List ℕ)). SayAll 0 ps said) b.pieces all in
    let good = say_at 0 b.good b.bad b.rest said says in
    b.refused good.0 (subst (λ (m : ℕ). IsGood m b.bad good.0) (let same : 0 + length (flat b.good) ≡ length (flat b.good) = omega arith in same) good.1)

-- of two first parts of one list the longer goes on with what comes after the shorter
pub record GoesOn (longer shorter : List (List ℕ)) (next : List ℕ) : Type 0 where
  pub more : List (List ℕ)
  pub parts : longer ≡ shorter ++ next ∷ more

first_list : List ℕ → List (List ℕ) → List ℕ
first_list x [] = x
first_list x (y ∷ ys) = y

goes_on : (a b rest more : List (List ℕ)) (x y : List ℕ) → a ++ x ∷ rest ≡ b ++ y ∷ more → length a < length b → GoesOn b a x
unfolding first_list
goes_on a [] rest more x y e less = let no : ⊥ = omega (arith, less) in absurd no
goes_on [] (q ∷ b) rest more x y e less = record { more = b; parts = ap (λ (l : List ℕ). l ∷ b) (sym (ap (first_list x) e)) }
goes_on (p ∷ a) (q ∷ b) rest more x y e less =
    let same : p ≡ q = ap (first_list p) e in
    let g = goes_on a b rest more x y (ap (drop 1) e) (omega (arith, less)) in
    record { more = g.more; parts = (λ i. sym same i ∷ g.parts i) }

not_before : (o : List ℕ) (n k : ℕ) → IsFirstBad n o → IsFirstBad k o → n < k → ⊥
not_before o n k b c less =
    let at = b.number in
    let there = c.number in
    let g = goes_on b.good c.good b.rest c.rest b.bad c.bad (sym b.pieces ∙ c.pieces) (omega (arith, at, there, less)) in
    let says : SayAll 0 (b.good ++ b.bad ∷ g.more) c.said = subst (λ (ps : List (List ℕ)). SayAll 0 ps c.said) g.parts c.before in
    let good = say_at 0 b.good b.bad g.more c.said says in
    b.refused good.0 (subst (λ (m : ℕ). IsGood m b.bad good.0) (let same : 0 + length (flat b.good) ≡ length (flat b.good) = omega arith in same) good.1)

-- numbers of which neither is before the other
same_if : (n k : ℕ) → (n < k → ⊥) → (k < n → ⊥) → n ≡ k
same_if n k first second = ⊎_elim (λ (e : n ≡ k). e) (λ (h : (n < k) ⊎ (k < n)). ⊎_elim (λ (l : n < k). absurd (first l)) (λ (l : k < n). absurd (second l)) h) (cases_order n k)

one_bad : (o : List ℕ) (n k : ℕ) → IsFirstBad n o → IsFirstBad k o → n ≡ k
one_bad o n k b c = same_if n k (not_before o n k b c) (not_before o k n c b)

-- ---- places

least_twice : (xs : List ℕ) (p q : ℕ) → IsLeastTwice p xs → IsLeastTwice q xs → p < q → ⊥
least_twice xs p q t u less = let twice = t.twice in let once = u.least p less in omega (arith, twice, once)

least_missing : (xs : List ℕ) (p q : ℕ) → IsLeastMissing p xs → IsLeastMissing q xs → p < q → ⊥
least_missing xs p q m n less = told (n.least p less) m.missing

-- where places are distinct, none stands twice

never : (p x : ℕ) (xs : List ℕ) → x ≡ p → AllByRecursion (λ y. nat_eq x y ≡ false) xs → often p xs ≡ 0
never p x [] e all = refl
never p x (y ∷ ys) e all = often_there p y ys (λ (f : y ≡ p). eqb-false x y all.0 (e ∙ sym f)) ∙ never p x ys e all.1

distinct_once : (p : ℕ) (xs : List ℕ) → IsDistinct nat_eq xs → often p xs ≤ 1
unfolding IsDistinct
distinct_once p [] d = omega arith
distinct_once p (x ∷ xs) d = ⊎_elim
    (λ (e : x ≡ p). (let here = often_here p x xs e in let none = never p x xs e d.0 in omega (arith, here, none)))
    (λ (f : x ≡ p → ⊥). (let there = often_there p x xs f in let more = distinct_once p xs d.1 in omega (arith, there, more)))
    (cases_eq x p)

twice_or_missing : (xs : List ℕ) (p q : ℕ) → IsLeastTwice p xs → IsLeastMissing q xs → ⊥
twice_or_missing xs p q t m = let twice = t.twice in let once = distinct_once p xs m.once in omega (arith, twice, once)

-- ---- entries

not_illegal_before : (o : List ℕ) (p q : ℕ) → IsLeastIllegal p o → IsLeastIllegal q o → p < q → ⊥
not_illegal_before o p q i j less =
    let same = one_history o j.about i.about j.history i.history j.tells i.tells in
    let legal : Legal i.about (take q i.history) = subst (λ (H : List Entry). Legal i.about (take q H)) same.1 (subst (λ (x : About). Legal x (take q j.history)) same.0 j.before) in
    let parted : Legal i.about (take (p + 1) (take q i.history) ++ drop (p + 1) (take q i.history)) =
    subst (λ (H : List Entry). Legal i.about H) (sym (take-append-drop (p + 1) (take q i.history))) legal in
    let first = Legal-first i.about (take (p + 1) (take q i.history)) (drop (p + 1) (take q i.history)) parted in
    i.illegal (subst (λ (H : List Entry). Legal i.about H) (take-take (p + 1) q i.history (omega (arith, less))) first)

-- ---- what they say

hubs_told : (o : List ℕ) (n : ℕ) (about : About) (H : List Entry) → Tells o about H → HasHubs n o → ⊥
hubs_told o n about H t h = h.other (h.count ∙ one_hub_said o about H h.said t h.all)

same_said : (o : List ℕ) (s t : List JournalRecord) → SayAll 0 (pieces_of o) s → SayAll 0 (pieces_of o) t → s ≡ t
same_said o s t = say_once 0 (pieces_of o) s t

one_hubs : (o : List ℕ) (n k : ℕ) → HasHubs n o → HasHubs k o → n ≡ k
one_hubs o n k h g = h.count ∙ ap (λ (s : List JournalRecord). count_by is_hub s) (same_said o h.said g.said h.all g.all) ∙ sym g.count

hubs_or_one : (o : List ℕ) (n : ℕ) (said : List JournalRecord) → HasHubs n o → SayOneHub o said → ⊥
hubs_or_one o n said h s = h.other (h.count ∙ ap (λ (t : List JournalRecord). count_by is_hub t) (same_said o h.said said h.all s.all) ∙ s.one)

moved_twice : (o : List ℕ) (p : ℕ) (s t : List JournalRecord) → SayOneHub o s → SayOneHub o t → IsLeastTwice p (places_of s) → IsLeastTwice p (places_of t)
moved_twice o p s t hs ht h = subst (λ (x : List JournalRecord). IsLeastTwice p (places_of x)) (same_said o s t hs.all ht.all) h

moved_missing : (o : List ℕ) (p : ℕ) (s t : List JournalRecord) → SayOneHub o s → SayOneHub o t → IsLeastMissing p (places_of s) → IsLeastMissing p (places_of t)
moved_missing o p s t hs ht h = subst (λ (x : List JournalRecord). IsLeastMissing p (places_of x)) (same_said o s t hs.all ht.all) h

pub one_verdict : (o : List ℕ) (r s : AuditEnd) → AuditsTo o r → AuditsTo o s → AreOne r s
one_verdict o ReadFault s h k = inr (inl tt)
one_verdict o NoMemory s h k = inr (inl tt)
one_verdict o r ReadFault h k = inr (inr tt)
one_verdict o r NoMemory h k = inr (inr tt)
one_verdict o (BadLine n) (BadLine k) h g = inl (ap BadLine (one_bad o n k h g))
one_verdict o (BadLine n) (IsLegal k) h g = absurd (no_bad o k n g h)
one_verdict o (BadLine n) (Hubs k) h g = absurd (good_not_bad o n g.said g.all h)
one_verdict o (BadLine n) (Twice q) h g = absurd (good_not_bad o n g.0 g.1.all h)
one_verdict o (BadLine n) (Missing q) h g = absurd (good_not_bad o n g.0 g.1.all h)
one_verdict o (BadLine n) (Illegal q) h g = absurd (let t = telling_says o g.1.about g.1.history g.0 g.1.tells in good_not_bad o n t.said t.all h)
one_verdict o (IsLegal n) (BadLine k) h g = absurd (no_bad o n k h g)
one_verdict o (IsLegal n) (IsLegal k) h g = inl (ap IsLegal (h.count ∙ same_length o h.about g.about h.history g.history h.tells g.tells ∙ sym g.count))
one_verdict o (IsLegal n) (Hubs k) h g = absurd (no_hubs o n k h g)
one_verdict o (IsLegal n) (Twice q) h g = absurd (none_twice (places_of g.0) (length h.history) q (places_all o h.about h.history g.0 h.tells g.1.all) g.2)
one_verdict o (IsLegal n) (Missing q) h g = absurd (none_missing (places_of g.0) (length h.history) q (places_all o h.about h.history g.0 h.tells g.1.all) g.2)
one_verdict o (IsLegal n) (Illegal q) h g = absurd (no_illegal o n q h g.1)
one_verdict o (Hubs n) (BadLine k) h g = absurd (good_not_bad o k h.said h.all g)
one_verdict o (Hubs n) (IsLegal k) h g = absurd (no_hubs o k n g h)
one_verdict o (Hubs n) (Hubs k) h g = inl (ap Hubs (one_hubs o n k h g))
one_verdict o (Hubs n) (Twice q) h g = absurd (hubs_or_one o n g.0 h g.1)
one_verdict o (Hubs n) (Missing q) h g = absurd (hubs_or_one o n g.0 h g.1)
one_verdict o (Hubs n) (Illegal q) h g = absurd (hubs_told o n g.1.about g.1.history g.1.tells h)
one_verdict o (Twice p) (BadLine k) h g = absurd (good_not_bad o k h.0 h.1.all g)
one_verdict o (Twice p) (IsLegal k) h g = absurd (none_twice (places_of h.0) (length g.history) p (places_all o g.about g.history h.0 g.tells h.1.all) h.2)
one_verdict o (Twice p) (Hubs k) h g = absurd (hubs_or_one o k h.0 g h.1)
one_verdict o (Twice p) (Twice q) h g =
    let here = moved_twice o p h.0 g.0 h.1 g.1 h.2 in
    inl (ap Twice (same_if p q (least_twice (places_of g.0) p q here g.2) (least_twice (places_of g.0) q p g.2 here)))
one_verdict o (Twice p) (Missing q) h g = absurd (twice_or_missing (places_of g.0) p q (moved_twice o p h.0 g.0 h.1 g.1 h.2) g.2)
one_verdict o (Twice p) (Illegal q) h g = absurd (none_twice (places_of h.0) (length g.1.history) p (places_all o g.1.about g.1.history h.0 g.1.tells h.1.all) h.2)
one_verdict o (Missing p) (BadLine k) h g = absurd (good_not_bad o k h.0 h.1.all g)
one_verdict o (Missing p) (IsLegal k) h g = absurd (none_missing (places_of h.0) (length g.history) p (places_all o g.about g.history h.0 g.tells h.1.all) h.2)
one_verdict o (Missing p) (Hubs k) h g = absurd (hubs_or_one o k h.0 g h.1)
one_verdict o (Missing p) (Twice q) h g = absurd (twice_or_missing (places_of g.0) q p g.2 (moved_missing o p h.0 g.0 h.1 g.1 h.2))
one_verdict o (Missing p) (Missing q) h g =
    let here = moved_missing o p h.0 g.0 h.1 g.1 h.2 in
    inl (ap Missing (same_if p q (least_missing (places_of g.0) p q here g.2) (least_missing (places_of g.0) q p g.2 here)))
one_verdict o (Missing p) (Illegal q) h g = absurd (none_missing (places_of h.0) (length g.1.history) p (places_all o g.1.about g.1.history h.0 g.1.tells h.1.all) h.2)
one_verdict o (Illegal p) (BadLine k) h g = absurd (let t = telling_says o h.1.about h.1.history h.0 h.1.tells in good_not_bad o k t.said t.all g)
one_verdict o (Illegal p) (IsLegal k) h g = absurd (no_illegal o k p g h.1)
one_verdict o (Illegal p) (Hubs k) h g = absurd (hubs_told o k h.1.about h.1.history h.1.tells g)
one_verdict o (Illegal p) (Twice q) h g = absurd (none_twice (places_of g.0) (length h.1.history) q (places_all o h.1.about h.1.history g.0 h.1.tells g.1.all) g.2)
one_verdict o (Illegal p) (Missing q) h g = absurd (none_missing (places_of g.0) (length h.1.history) q (places_all o h.1.about h.1.history g.0 h.1.tells g.1.all) g.2)
one_verdict o (Illegal p) (Illegal q) h g = inl (ap Illegal (same_if p q (not_illegal_before o p q h.1 g.1) (not_illegal_before o q p g.1 h.1)))
