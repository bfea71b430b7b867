-- Entries in order, judged one after another.
-- It serves clauses of functions of `judging` and `reasons`.
use Rattle.std.proofs.Common.{◌≡◌, ℕ, ◌+◌, List, [], ◌∷◌, ◌++◌, length, take, drop, map, refl, ap, sym, ◌∙◌, subst, arith, append_assoc, append-nil, length-append}
use Rattle.std.proofs.lemmas.List.{length_push}
use Rattle.std.proofs.Math.Seq.{take-append-add}
use Rattle.bsc_history.specs.declared.entry.Entry.{Entry}
use Rattle.bsc_history.specs.declared.limits.About.{About}
use Rattle.bsc_history.specs.Legality.{Legal}
use Rattle.bsc_audit.specs.declared.places.spot.Spot.{Spot}
use Rattle.bsc_legality.specs.declared.legality.Legality.{Legality}
use Rattle.bsc_legality.specs.Standing.{LegalityStands}
use Rattle.bsc_lines.specs.Lines.{entry_line}
use Rattle.bsc_journal.specs.Saying.{IsLineOf}
use Rattle.bsc_journal.specs.Journals.{HaveLines, lines_from}
use Rattle.bsc_audit.specs.Hearing.{AreInOrder, line_at}
use Rattle.bsc_audit.specs.Judging.{AreLegal, IsIllegalAt}

-- The first entries of a history H were judged, and the lines of the others stand at the spots that are left.
pub record Judged (about : About) (o : List ℕ) (left : List Spot) (l : Legality) (place : ℕ) (H : List Entry) : Type 0 where
  pub done : List Entry
  pub others : List Entry
  pub parts : H ≡ done ++ others
  pub count : place ≡ length done
  pub stands : LegalityStands l about done
  pub lines : map (line_at o) left ≡ lines_from place others
  pub have : HaveLines place others

pub none_judged : (about : About) (o : List ℕ) (spots : List Spot) (l : Legality) (H : List Entry) → LegalityStands l about [] → AreInOrder o spots H → Judged about o spots l 0 H
none_judged about o spots l H stands order = record { done = []; others = H; parts = refl; count = refl; stands = stands; lines = order.lines; have = order.have }

-- The next entry, whose line stands at a spot.
pub record IsNext (about : About) (o : List ℕ) (spot : Spot) (left : List Spot) (l : Legality) (place : ℕ) (H : List Entry) : Type 0 where
  pub done : List Entry
  pub entry : Entry
  pub others : List Entry
  pub parts : H ≡ done ++ entry ∷ others
  pub count : place ≡ length done
  pub stands : LegalityStands l about done
  pub is : IsLineOf (line_at o spot) place entry
  pub lines : map (line_at o) left ≡ lines_from (place + 1) others
  pub have : HaveLines (place + 1) others

first_line : List ℕ → List (List ℕ) → List ℕ
first_line l [] = l
first_line l (m ∷ ms) = m

next_of : (about : About) (o : List ℕ) (spot : Spot) (left : List Spot) (l : Legality) (place : ℕ) (H done others : List Entry) →
    H ≡ done ++ others → place ≡ length done → LegalityStands l about done → map (line_at o) (spot ∷ left) ≡ lines_from place others → HaveLines place others →
    IsNext about o spot left l place H
unfolding first_line
next_of about o spot left l place H done [] parts count stands lines have = absurd (let no : line_at o spot ∷ map (line_at o) left ≡ [] = lines in cc)
next_of about o spot left l place H done (e ∷ others) parts count stands lines have = record {
  done = done;
  entry = e;
  others = others;
  parts = parts;
  count = count;
  stands = stands;
  is = record { line = ap (first_line (entry_line place e)) lines; has = have.0 };
  lines = ap (drop 1) lines;
  have = have.1;
}

pub next_judged : (about : About) (o : List ℕ) (spot : Spot) (left : List Spot) (l : Legality) (place : ℕ) (H : List Entry) → Judged about o (spot ∷ left) l place H
    → IsNext about o spot left l place H
next_judged about o spot left l place H j = next_of about o spot left l place H j.done j.others j.parts j.count j.stands j.lines j.have

-- the next entry is legal behind those before it
pub one_judged : (about : About) (o : List ℕ) (spot : Spot) (left : List Spot) (l l' : Legality) (place : ℕ) (H : List Entry) (next : IsNext about o spot left l place H) →
    LegalityStands l' about (next.done ++ next.entry ∷ []) → Judged about o left l' (place + 1) H
one_judged about o spot left l l' place H next stands = record {
  done = next.done ++ next.entry ∷ [];
  others = next.others;
  parts = next.parts ∙ sym (append_assoc next.done (next.entry ∷ []) next.others);
  count = (let was = next.count in let more = length_push next.done next.entry in omega (arith, was, more));
  stands = stands;
  lines = next.lines;
  have = next.have;
}

-- the next entry isn't
first_of : (done rest : List Entry) (n : ℕ) → n ≡ length done → take n (done ++ rest) ≡ done
first_of done rest n e = ap (λ (k : ℕ). take k (done ++ rest)) (e ∙ (let same : length done ≡ length done + 0 = omega arith in same)) ∙ take-append-add done rest 0 ∙ append-nil done

first_and : (done rest : List Entry) (e : Entry) (n : ℕ) → n ≡ length done → take (n + 1) (done ++ e ∷ rest) ≡ done ++ e ∷ []
first_and done rest e n is = ap (λ (k : ℕ). take (k + 1) (done ++ e ∷ rest)) is ∙ take-append-add done (e ∷ rest) 1

pub illegal_next : (about : About) (o : List ℕ) (spot : Spot) (left : List Spot) (l : Legality) (place : ℕ) (H : List Entry) (next : IsNext about o spot left l place H) →
    (Legal about (next.done ++ next.entry ∷ []) → ⊥) → IsIllegalAt place about H
illegal_next about o spot left l place H next illegal = record {
  place = (let count = next.count in let long = ap length next.parts in let sum = length-append next.done (next.entry ∷ next.others) in omega (arith, count, long, sum));
  before = subst (λ (F : List Entry). Legal about F) (sym (ap (take place) next.parts ∙ first_of next.done (next.entry ∷ next.others) place next.count)) next.stands.legal;
  illegal = λ legal. illegal (subst (λ (F : List Entry). Legal about F) (ap (take (place + 1)) next.parts ∙ first_and next.done next.others next.entry place next.count) legal);
}

-- no spot is left
ended : (o : List ℕ) (place : ℕ) (others : List Entry) → map (line_at o) [] ≡ lines_from place others → others ≡ []
ended o place [] lines = refl
ended o place (e ∷ others) lines = absurd (let no : [] ≡ entry_line place e ∷ lines_from (place + 1) others = lines in cc)

pub all_judged : (about : About) (o : List ℕ) (l : Legality) (place : ℕ) (H : List Entry) → Judged about o [] l place H → AreLegal place about H
all_judged about o l place H j =
    let whole : H ≡ j.done = j.parts ∙ ap (λ (F : List Entry). j.done ++ F) (ended o place j.others j.lines) ∙ append-nil j.done in
    record { count = j.count ∙ ap length (sym whole); legal = subst (λ (F : List Entry). Legal about F) (sym whole) j.stands.legal }
