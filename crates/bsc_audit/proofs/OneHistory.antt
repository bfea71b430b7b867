-- Octets tell one history of one hub.
-- It serves the clauses of `audit_explained` and `audit_files`.
use Rattle.std.proofs.Common.{◌≡◌, ℕ, suc, ◌+◌, List, [], ◌∷◌, ◌++◌, length, drop, filter, refl, ap, sym, ◌∙◌, subst, arith, append_assoc}
use Rattle.std.specs.List.{AllByRecursion}
use Rattle.std.proofs.lemmas.List.{drop_at, length_push}
use Rattle.std.proofs.lemmas.List.Elements.{All-from_recursion, recursion_from_All}
use Rattle.std.proofs.lemmas.List.Sorted.{All-permutation, IsPermutation-sym, IsPermutation-trans, length_permutation}
use Rattle.bsc_history.specs.declared.entry.Entry.{Entry}
use Rattle.bsc_history.specs.declared.limits.About.{About}
use Rattle.bsc_journal.specs.declared.journal_record.JournalRecord.{JournalRecord}
use Rattle.bsc_journal.specs.declared.journal_record.JournalRecord.TheVariants.{Hub, Entry as AnEntry, Denial}
use Rattle.bsc_lines.specs.Lines.{entry_line}
use Rattle.bsc_journal.specs.Saying.{Says}
use Rattle.bsc_journal.specs.Journals.{HaveLines, Tells, lines_from, lines_of}
use Rattle.bsc_journal.proofs.SaidOnce.{says_one}
use Rattle.bsc_audit.proofs.SortedOut.{is_kept}
use Rattle.bsc_journal.proofs.Common.{length_lines}

-- The entry e stands at place k of H.
pub record StandsAt (H : List Entry) (k : ℕ) (e : Entry) : Type 0 where
  pub front : List Entry
  pub rest : List Entry
  pub parts : H ≡ front ++ e ∷ rest
  pub at : length front ≡ k

-- what is said is of this hub and of this history
abbrev IsOf : About → List Entry → JournalRecord → Type 0
IsOf about H (Hub a) = a ≡ about
IsOf about H (AnEntry place e) = StandsAt H place e
IsOf about H Denial = ⊥

-- A line says something of this hub and of this history.
pub record SaysOf (about : About) (H : List Entry) (l : List ℕ) : Type 0 where
  pub s : JournalRecord
  pub says : Says l s
  pub of : IsOf about H s

fits : (about : About) (H : List Entry) (l : List ℕ) (s : JournalRecord) → SaysOf about H l → Says l s → IsOf about H s
fits about H l s of says = subst (λ (t : JournalRecord). IsOf about H t) (says_one l of.s s of.says says) of.of

all_of : (about : About) (H : List Entry) (n : ℕ) (front G : List Entry) → H ≡ front ++ G → length front ≡ n → HaveLines n G → AllByRecursion (SaysOf about H) (lines_from n G)
all_of about H n front [] parts at have = tt
all_of about H n front (e ∷ G) parts at have = (
  record { s = AnEntry n e; says = record { line = refl; has = have.0 }; of = record { front = front; rest = G; parts = parts; at = at } },
  all_of about H (n + 1) (front ++ e ∷ []) G (parts ∙ sym (append_assoc front (e ∷ []) G)) (let more = length_push front e in omega (arith, more, at)) have.1,
)

-- what follows parts of one length
same_rest : (n : ℕ) (a b x y : List Entry) → a ++ x ≡ b ++ y → length a ≡ n → length b ≡ n → x ≡ y
same_rest n a b x y e left right = sym (drop_at a x n left) ∙ ap (drop n) e ∙ drop_at b y n right

abbrev head_or : Entry → List Entry → Entry
head_or x [] = x
head_or x (y ∷ ys) = y

same_from : (about : About) (H : List Entry) (n : ℕ) (front G F : List Entry) → H ≡ front ++ F → length front ≡ n → length G ≡ length F →
    HaveLines n G → AllByRecursion (SaysOf about H) (lines_from n G) → G ≡ F
same_from about H n front [] [] parts at long have all = refl
same_from about H n front [] (f ∷ F) parts at long have all = absurd (let none : 0 ≡ suc (length F) = long in let no : ⊥ = omega (arith, none) in no)
same_from about H n front (e ∷ G) [] parts at long have all = absurd (let none : suc (length G) ≡ 0 = long in let no : ⊥ = omega (arith, none) in no)
same_from about H n front (e ∷ G) (f ∷ F) parts at long have all =
    let there = fits about H (entry_line n e) (AnEntry n e) all.0 (record { line = refl; has = have.0 }) in
    let same : f ∷ F ≡ e ∷ there.rest = same_rest n front there.front (f ∷ F) (e ∷ there.rest) (sym parts ∙ there.parts) at there.at in
    let first : e ≡ f = ap (head_or e) (sym same) in
    let more = same_from about H (n + 1) (front ++ f ∷ []) G F (parts ∙ sym (append_assoc front (f ∷ []) F)) (let m = length_push front f in omega (arith, m, at))
    (let l : suc (length G) ≡ suc (length F) = long in omega (arith, l)) have.1 all.1 in
    λ i. first i ∷ more i

-- as many lines as entries, and the hub line
pub same_length : (o : List ℕ) (a b : About) (G H : List Entry) → Tells o a G → Tells o b H → length G ≡ length H
same_length o a b G H g h =
    let kept = filter is_kept (lines_of o) in
    let left = length_permutation kept (g.hub_line ∷ lines_from 0 G) g.lines in
    let right = length_permutation kept (h.hub_line ∷ lines_from 0 H) h.lines in
    let first = length_lines 0 G in
    let second = length_lines 0 H in
    omega (arith, left, right, first, second)

pub one_history : (o : List ℕ) (a b : About) (G H : List Entry) → Tells o a G → Tells o b H → (a ≡ b) × (G ≡ H)
one_history o a b G H g h =
    let kept = filter is_kept (lines_of o) in
    let left = g.hub_line ∷ lines_from 0 G in
    let right = h.hub_line ∷ lines_from 0 H in
    let moved = IsPermutation-trans right kept left (IsPermutation-sym kept right h.lines) g.lines in
    let says : AllByRecursion (SaysOf b H) right = (record { s = Hub b; says = h.hub; of = refl }, all_of b H 0 [] H refl refl h.entries) in
    let all = recursion_from_All (SaysOf b H) left (All-permutation (SaysOf b H) right left moved (All-from_recursion (SaysOf b H) right says)) in
    (fits b H g.hub_line (Hub a) all.0 g.hub, same_from b H 0 [] G H refl refl (same_length o a b G H g h) g.entries all.1)
