-- What reads of a file give, piece by piece.
-- It serves the clauses of `next_line`, `read_on` and `read_piece`.
use Rattle.std.proofs.Common.{◌≡◌, ℕ, zero, suc, ◌+◌, ◌<◌, ◌≤◌, true, List, [], ◌∷◌, ◌++◌, length, take, drop, map, refl, ap, sym, ◌∙◌, arith, append_assoc, append-nil, length-append, take_all}
use Rattle.std.proofs.lemmas.List.{take-append-le, drop-append-le, drop-drop, drop_all, drop_at, take-append-drop}
use Rattle.bsc_text.specs.Lines.{BeginsLine, has_no_lf, line_in, pieces_of}
use Rattle.bsc_text.proofs.Cutting.{line_in-length, pieces_of-begin, pieces_of-last, pieces_of-lf}
use Rattle.bsc_journal.specs.declared.bounds.TheConstants.{MOST_IN_LINE}
use Rattle.bsc_journal.specs.declared.journal_record.JournalRecord.{JournalRecord}
use Rattle.bsc_audit.specs.Pieces.{BeginsWith, GivesAt, GivesBad, GivesLine, StandsAt}
use Rattle.bsc_audit.specs.Together.{IsGoodLine}

pub stands_none : (f : List ℕ) (at : ℕ) → StandsAt f at []
stands_none f at = record { rest = drop at f; parts = refl }

-- what comes behind the octets that stand there
rest_is : (f : List ℕ) (at : ℕ) (o got : List ℕ) (s : StandsAt f at o) (g : GivesAt f (at + length o) got) → s.rest ≡ got ++ g.rest
rest_is f at o got s g = sym (drop_at o s.rest (length o) refl) ∙ ap (drop (length o)) (sym s.parts) ∙ drop-drop (length o) at f ∙ g.parts

pub stands_more : (f : List ℕ) (at : ℕ) (o got : List ℕ) → GivesAt f (at + length o) got → StandsAt f at o → StandsAt f at (o ++ got)
stands_more f at o got g s = record { rest = g.rest; parts = s.parts ∙ ap (λ (x : List ℕ). o ++ x) (rest_is f at o got s g) ∙ sym (append_assoc o got g.rest) }

-- where nothing came, nothing follows
pub stands_end : (f : List ℕ) (at : ℕ) (o got : List ℕ) → got ≡ [] → GivesAt f (at + length o) got → StandsAt f at o → drop at f ≡ o
stands_end f at o got none g s =
    s.parts ∙ ap (λ (x : List ℕ). o ++ x) (rest_is f at o got s g ∙ (λ i. none i ++ g.end none i)) ∙ append-nil o

-- a piece with its LF
pub begins_whole : (f : List ℕ) (at n : ℕ) (o : List ℕ) → n + 1 ≤ length o → StandsAt f at o → BeginsLine n o → BeginsWith f at (n + 1) o
begins_whole f at n o within s b = record {
  none = λ e. (let no : ⊥ = omega (arith, e) in absurd no);
  some = λ some.
      ap pieces_of
      (s.parts ∙ ap (λ (x : List ℕ). x ++ s.rest) (sym (take-append-drop (n + 1) o) ∙ ap (λ (x : List ℕ). x ++ drop (n + 1) o) b.cut)
      ∙ append_assoc (take n o ++ 10 ∷ []) (drop (n + 1) o) s.rest)
      ∙ pieces_of-lf (take n o) (drop (n + 1) o ++ s.rest) b.no_lf
      ∙ (λ i. sym b.cut i ∷ pieces_of ((sym (drop-append-le (n + 1) o s.rest within) ∙ ap (drop (n + 1)) (sym s.parts) ∙ drop-drop (n + 1) at f) i));
}

-- the first octets of a room that some were written into
short : (n : ℕ) (l : List ℕ) → length (take n l) ≤ n
short zero [] = omega arith
short zero (c ∷ l) = omega arith
short (suc n) [] = omega arith
short (suc n) (c ∷ l) = let more = short n l in omega (arith, more)

few : (n : ℕ) (l : List ℕ) → length (take n l) ≤ length l
few zero [] = omega arith
few zero (c ∷ l) = omega arith
few (suc n) [] = omega arith
few (suc n) (c ∷ l) = let more = few n l in omega (arith, more)

twice_taken : (n m : ℕ) (l : List ℕ) → n ≤ m → take n (take m l) ≡ take n l
twice_taken zero zero [] le = refl
twice_taken zero zero (c ∷ l) le = refl
twice_taken zero (suc m) [] le = refl
twice_taken zero (suc m) (c ∷ l) le = refl
twice_taken (suc n) zero l le = absurd (let no : ⊥ = omega (arith, le) in no)
twice_taken (suc n) (suc m) [] le = refl
twice_taken (suc n) (suc m) (c ∷ l) le = ap (λ (x : List ℕ). c ∷ x) (twice_taken n m l (omega (arith, le)))

pub written : (n room : ℕ) (given into rest : List ℕ) → given ≡ take n (take room (into ++ rest)) → length given ≡ n → n ≤ length into → given ≡ take n into
written n room given into rest is long within =
    let size = ap length is in
    let some = few n (take room (into ++ rest)) in
    let most = short room (into ++ rest) in
    is ∙ twice_taken n room (into ++ rest) (omega (arith, size, some, most, long)) ∙ take-append-le n into rest within

nothing : (o : List ℕ) → length o ≡ 0 → o ≡ []
nothing [] e = refl
nothing (c ∷ o) e = let no : ⊥ = omega (arith, e) in absurd no

-- a read that gave nothing left the octets as they were
pub ends_same : (f : List ℕ) (at : ℕ) (o new : List ℕ) → StandsAt f at o → drop at f ≡ new → length new ≡ length o → new ≡ o
ends_same f at o new s end same =
    let sum = length-append o s.rest in
    let long = ap length (sym s.parts ∙ end) in
    sym end ∙ s.parts ∙ ap (λ (x : List ℕ). o ++ x) (nothing s.rest (omega (arith, sum, long, same))) ∙ append-nil o

alone : (o : List ℕ) → has_no_lf o ≡ true → 0 < length o → pieces_of o ≡ o ∷ []
alone [] no_lf some = let no : ⊥ = omega (arith, some) in absurd no
alone (c ∷ o) no_lf some = pieces_of-last c o no_lf

-- the last piece, which has no LF, or none
pub begins_last : (f : List ℕ) (at : ℕ) (o : List ℕ) → drop at f ≡ o → has_no_lf o ≡ true → BeginsWith f at (length o) o
begins_last f at o is no_lf =
    let le : length o ≤ length o = omega arith in
    record {
      none = λ e. is ∙ nothing o e;
      some = λ some. ap pieces_of is ∙ alone o no_lf some
          ∙ (λ i. sym (take_all (length o) o le) i ∷ pieces_of ((sym (drop_all (length o) o le) ∙ ap (drop (length o)) (sym is) ∙ drop-drop (length o) at f) i));
    }

-- too many octets without an LF
pub gives_long : (f : List ℕ) (at : ℕ) (o : List ℕ) → StandsAt f at o → has_no_lf o ≡ true → MOST_IN_LINE + 1 < length o → GivesBad f at
gives_long f at [] s no_lf long = let no : ⊥ = omega (arith, long) in absurd no
gives_long f at (c ∷ o) s no_lf long =
    let p = pieces_of-begin c o s.rest no_lf in
    let short = line_in-length (c ∷ o) p.0 no_lf in
    record {
      line = line_in ((c ∷ o) ++ p.0);
      later = map line_in p.1;
      lines = ap (λ (x : List ℕ). map line_in (pieces_of x)) s.parts ∙ ap (map line_in) p.2;
      bad = λ r good. (let fits = good.short in let no : ⊥ = omega (arith, long, short, fits) in no);
    }

pub gives_line : (f : List ℕ) (at n : ℕ) (o : List ℕ) (s : JournalRecord) → 0 < n → BeginsWith f at n o → IsGoodLine (line_in (take n o)) s → GivesLine f at s (at + n)
gives_line f at n o s some b good = record { line = line_in (take n o); lines = ap (map line_in) (b.some some); good = good }

pub gives_bad : (f : List ℕ) (at n : ℕ) (o : List ℕ) → 0 < n → BeginsWith f at n o → ((s : JournalRecord) → IsGoodLine (line_in (take n o)) s → ⊥) → GivesBad f at
gives_bad f at n o some b bad = record {
  line = line_in (take n o);
  later = map line_in (pieces_of (drop (at + n) f));
  lines = ap (map line_in) (b.some some);
  bad = bad;
}
