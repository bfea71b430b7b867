-- Entries whose places are all those from 0 on are a history.
-- It serves the clauses of `judge`.
use Rattle.std.proofs.Common.{◌≡◌, ℕ, ◌+◌, List, [], ◌∷◌, length, drop, map, refl, ap, subst}
use Rattle.std.specs.List.{AllByRecursion, range_with_len}
use Rattle.bsc_history.specs.declared.entry.Entry.{Entry}
use Rattle.bsc_audit.specs.declared.places.spot.Spot.{Spot}
use Rattle.bsc_journal.specs.Saying.{IsLineOf}
use Rattle.bsc_journal.specs.Journals.{HaveLines, lines_from}
use Rattle.bsc_audit.specs.Hearing.{AreInOrder, line_at}
use Rattle.bsc_audit.proofs.SoFar.{place_of}
use Rattle.bsc_audit.proofs.SortedOut.{IsSpotOfOne}

-- The lines at some spots are those of these entries, whose places go on from n.
pub record AreFrom (n : ℕ) (o : List ℕ) (spots : List Spot) (H : List Entry) : Type 0 where
  pub lines : map (line_at o) spots ≡ lines_from n H
  pub have : HaveLines n H

first_number : ℕ → List ℕ → ℕ
first_number n [] = n
first_number n (m ∷ ms) = m

pub entries_from : (n : ℕ) (o : List ℕ) (spots : List Spot) → AllByRecursion (IsSpotOfOne o) spots → map place_of spots ≡ range_with_len n (length spots) →
    (H : List Entry) × AreFrom n o spots H
unfolding first_number
entries_from n o [] all places = ([], record { lines = refl; have = tt })
entries_from n o (s ∷ spots) all places =
    let more = entries_from (n + 1) o spots all.1 (ap (drop 1) places) in
    let at : s.place ≡ n = ap (first_number n) places in
    let is : IsLineOf (line_at o s) n all.0.entry = subst (λ (k : ℕ). IsLineOf (line_at o s) k all.0.entry) at all.0.is in
    (all.0.entry ∷ more.0, record { lines = (λ i. is.line i ∷ more.1.lines i); have = (is.has, more.1.have) })

pub history_of : (o : List ℕ) (spots : List Spot) → AllByRecursion (IsSpotOfOne o) spots → map place_of spots ≡ range_with_len 0 (length spots) →
    (H : List Entry) × AreInOrder o spots H
history_of o spots all places =
    let h = entries_from 0 o spots all places in
    (h.0, record { lines = h.1.lines; have = h.1.have })
