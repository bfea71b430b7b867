-- The first line that is bad.
-- It serves the clauses of `hear_last` and `hear_whole`.
use Rattle.std.proofs.Common.{◌≡◌, ℕ, ◌+◌, ◌<◌, ◌≤◌, ◌⊎◌, true, List, [], ◌∷◌, ◌++◌, length, drop, inl, inr, ⊎_elim, refl, ap, sym, ◌∙◌, subst, arith, append-nil, length-append}
use Rattle.bsc_text.specs.Lines.{BeginsLine, has_no_lf, line_in, pieces_of}
use Rattle.bsc_text.proofs.Cutting.{line_in-length, pieces_of-begin}
use Rattle.bsc_journal.specs.declared.bounds.TheConstants.{MOST_IN_ALL, MOST_IN_LINE}
use Rattle.bsc_journal.specs.declared.journal_record.JournalRecord.{JournalRecord}
use Rattle.bsc_journal.specs.Good.{IsGood, is_too_big}
use Rattle.bsc_audit.specs.declared.heard.Heard.{Heard}
use Rattle.bsc_audit.specs.Verdicts.{IsFirstBad}
use Rattle.bsc_audit.specs.Hearing.{HasHeard, IsBadAnyhow, part}
use Rattle.bsc_audit.proofs.SoFar.{cut_off, last_is}
use Rattle.bsc_lemmas.proofs.Booleans.{either, not_both as told}

-- a piece is refused that begins where what was heard ends
refuses : (o all bad : List ℕ) (rest : List (List ℕ)) (h : Heard) (n : ℕ) (so : HasHeard o h) → n ≡ h.lines →
    pieces_of all ≡ so.pieces ++ bad ∷ rest → ((s : JournalRecord) → IsGood h.at bad s → ⊥) → IsFirstBad (n + 1) all
refuses o all bad rest h n so is pieces refused = record {
  good = so.pieces;
  bad = bad;
  rest = rest;
  pieces = pieces;
  number = (let lines = so.heeds.lines in omega (arith, is, lines));
  said = so.said;
  before = so.heeds.all;
  refused = λ s good. refused s (subst (λ (m : ℕ). IsGood m bad s) so.heeds.long good);
}

-- a piece with its LF is bad, whatever follows
pub bad_piece : (o : List ℕ) (h : Heard) (n k : ℕ) → HasHeard o h → k ≡ h.lines → BeginsLine n (drop h.at o) →
    ((s : JournalRecord) → IsGood h.at (part o h.at (h.at + n + 1)) s → ⊥) → IsBadAnyhow (k + 1) o
bad_piece o h n k so is b refused = λ more.
    refuses o (o ++ more) (part o h.at (h.at + n + 1)) (pieces_of (drop (h.at + n + 1) o ++ more)) h k so is
    (so.cut more ∙ ap (λ (l : List (List ℕ)). so.pieces ++ l) (cut_off o more h.at n so.within b)) refused

-- the same of what a walk saw of the rest
pub bad_piece_at : (o rest : List ℕ) (h : Heard) (n : ℕ) → rest ≡ drop h.at o → HasHeard o h → BeginsLine n rest →
    ((s : JournalRecord) → IsGood h.at (part o h.at (h.at + n + 1)) s → ⊥) → IsBadAnyhow (h.lines + 1) o
bad_piece_at o rest h n e so b refused = bad_piece o h n h.lines so refl (subst (λ (x : List ℕ). BeginsLine n x) e b) refused

-- octets of which none is an LF may be too many for any piece
too_long : (before : ℕ) (rest more : List ℕ) → has_no_lf rest ≡ true → 0 < length rest → (MOST_IN_LINE + 1 < length rest) ⊎ (MOST_IN_ALL < before + length rest) →
    (bad : List ℕ) × (later : List (List ℕ)) × (pieces_of (rest ++ more) ≡ bad ∷ later) × (is_too_big before bad ≡ true)
too_long before [] more no_lf some big = let no : ⊥ = omega (arith, some) in absurd no
too_long before (c ∷ q) more no_lf some big =
    let f = pieces_of-begin c q more no_lf in
    let bad = (c ∷ q) ++ f.0 in
    let short = line_in-length (c ∷ q) f.0 no_lf in
    let long = length-append (c ∷ q) f.0 in (
      bad,
      f.1,
      f.2,
      either MOST_IN_LINE MOST_IN_ALL (length (line_in bad)) (before + length bad)
          (⊎_elim (λ (k : MOST_IN_LINE + 1 < length (c ∷ q)). inl (omega (arith, k, short))) (λ (k : MOST_IN_ALL < before + length (c ∷ q)). inr (omega (arith, k, long))) big),
    )

pub bad_rest : (o : List ℕ) (h : Heard) (k : ℕ) → HasHeard o h → k ≡ h.lines → has_no_lf (drop h.at o) ≡ true → h.at ≤ MOST_IN_ALL →
    (MOST_IN_LINE + 1 < length (drop h.at o)) ⊎ (MOST_IN_ALL < h.at + length (drop h.at o)) → IsBadAnyhow (k + 1) o
bad_rest o h k so is no_lf short big = λ more.
    let rest = drop h.at o in
    let some : 0 < length rest = ⊎_elim (λ (b : MOST_IN_LINE + 1 < length rest). omega (arith, b)) (λ (b : MOST_IN_ALL < h.at + length rest). omega (arith, b, short)) big in
    let t = too_long h.at rest more no_lf some big in
    refuses o (o ++ more) t.0 t.1 h k so is (so.cut more ∙ ap (λ (l : List (List ℕ)). so.pieces ++ l) t.2) (λ s good. told t.3 good.fits)

-- the last piece, which has no LF, is bad
pub bad_last : (o : List ℕ) (h : Heard) (k : ℕ) → HasHeard o h → k ≡ h.lines → has_no_lf (drop h.at o) ≡ true → h.at < length o →
    ((s : JournalRecord) → IsGood h.at (part o h.at (length o)) s → ⊥) → IsFirstBad (k + 1) o
bad_last o h k so is no_lf before refused =
    refuses o o (part o h.at (length o)) [] h k so is
    (ap pieces_of (sym (append-nil o)) ∙ so.cut [] ∙ ap (λ (x : List ℕ). so.pieces ++ pieces_of x) (append-nil (drop h.at o))
    ∙ ap (λ (l : List (List ℕ)). so.pieces ++ l) (last_is o h.at before no_lf))
    refused
