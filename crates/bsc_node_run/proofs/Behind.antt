-- What stands behind one line more, and behind one piece more.
-- It serves clauses of functions of `reading`.
use Rattle.std.proofs.Common.{◌≡◌, ℕ, ◌+◌, ◌≤◌, Bool, true, false, not, nat_le, ◌&&◌, ◌||◌, if◌then◌else◌, List, [], ◌∷◌, ◌++◌, map, length, refl, ap, sym, ◌∙◌, append_assoc}
use Rattle.std.proofs.Common.{append-nil, length-append, arith, Some, None, Result, Ok, Err, IfOk, OnOk}
use Rattle.std.specs.List.{concat, fold}
use Rattle.std.proofs.lemmas.Bool.Decides.{nat_tests}
use Rattle.std.proofs.lemmas.List.{map-append}
use Rattle.std.proofs.lemmas.List.Elements.{filter_map-append}
use Rattle.std.proofs.lemmas.List.Folds.{concat-append, list_any-append}
use Rattle.std.proofs.lemmas.List.Sums.{fold-append}
use Rattle.bsc_node.specs.declared.node_event.NodeEvent.{NodeEvent}
use Rattle.bsc_text.specs.Lines.{pieces_of, line_in, is_too_big}
use Rattle.bsc_node_run.specs.declared.due.Due.{Due}
use Rattle.bsc_node_run.specs.declared.line.Line.{Line}
use Rattle.bsc_node_run.specs.declared.line.Line.TheVariants.{Nothing, At, Ask}
use Rattle.bsc_node_run.specs.Saying.{line_of}
use Rattle.bsc_node_run.specs.Scripts.{Wish, wish_of, asked_from, first_bad, fits_behind, has_finish, is_finish, lines_in, may_follow, script_of, time_after, time_by}
use Rattle.bsc_node_run.specs.Reading.{LinesKept}
use Rattle.bsc_lemmas.proofs.Booleans.{or_false as or_none}

pub on_ok : {T E P Q : Type 0} (r : Result T E) → OnOk r P → (P → Q) → OnOk r Q
on_ok (Ok x) p f = f p
on_ok (Err e) p f = tt

pub if_ok : {T E : Type 0} {P Q : T → Type 0} (r : Result T E) → IfOk r P → ((x : T) → P x → Q x) → IfOk r Q
if_ok (Ok x) p f = f x p
if_ok (Err e) p f = tt

-- a list of no length
pub emptied : (o : List ℕ) → length o ≡ 0 → o ≡ []
emptied [] h = refl
emptied (c ∷ o) h = absurd (omega (arith, h))

-- ---- one line more

time-more : (lines : List Line) (l : Line) → time_by (lines ++ l ∷ []) ≡ time_after (time_by lines) l
time-more lines l = fold-append time_after 0 lines (l ∷ [])

finish-more : (lines : List Line) (l : Line) → has_finish (lines ++ l ∷ []) ≡ (has_finish lines || is_finish l)
finish-more lines l = list_any-append is_finish lines (l ∷ []) ∙ ap (λ (b : Bool). has_finish lines || b) (or_none (is_finish l))

asked-more : (ms : ℕ) (lines : List Line) (l : Line) → asked_from ms (lines ++ l ∷ []) ≡ asked_from ms lines ++ asked_from (fold time_after ms lines) (l ∷ [])
asked-more ms [] l = refl
asked-more ms (Nothing ∷ lines) l = asked-more ms lines l
asked-more ms (At new ∷ lines) l = asked-more new lines l
asked-more ms (Ask event ∷ lines) l = ap (λ (x : List Wish). record { at = ms; event = event } ∷ x) (asked-more ms lines l)

-- a line that says nothing
pub kept_nothing : (at : ℕ) (ended : Bool) (asked : List Wish) (lines : List Line) → LinesKept at ended asked lines → LinesKept at ended asked (lines ++ Nothing ∷ [])
kept_nothing at ended asked lines k = record {
  time = k.time ∙ sym (time-more lines Nothing);
  finish = k.finish ∙ sym (finish-more lines Nothing ∙ or_none (has_finish lines));
  all = k.all ∙ sym (asked-more 0 lines Nothing ∙ append-nil (asked_from 0 lines));
}

-- a time
may_at : (finish : Bool) (by ms : ℕ) → finish ≡ false → by ≤ ms → (not finish && nat_le by ms) ≡ true
may_at finish by ms h le = rw h (grind (arith, nat_tests))

pub follows_at : (at : ℕ) (ended : Bool) (asked : List Wish) (lines : List Line) (ms : ℕ) → LinesKept at ended asked lines → ended ≡ false → at ≤ ms → (may_follow lines (At ms) ≡ true)
    × LinesKept ms ended asked (lines ++ At ms ∷ [])
follows_at at ended asked lines ms k going le = (
  may_at (has_finish lines) (time_by lines) ms (sym k.finish ∙ going) (omega (arith, k.time)),
  record {
    time = sym (time-more lines (At ms));
    finish = k.finish ∙ sym (finish-more lines (At ms) ∙ or_none (has_finish lines));
    all = k.all ∙ sym (asked-more 0 lines (At ms) ∙ append-nil (asked_from 0 lines));
  },
)

-- what is asked
pub follows_ask : (at : ℕ) (ended : Bool) (asked : List Wish) (lines : List Line) (event : NodeEvent) → LinesKept at ended asked lines → ended ≡ false → (may_follow lines (Ask event) ≡ true)
    × LinesKept at (is_finish (Ask event)) (asked ++ record { at = at; event = event } ∷ []) (lines ++ Ask event ∷ [])
follows_ask at ended asked lines event k going =
    let none : has_finish lines ≡ false = sym k.finish ∙ going in (
      ap not none,
      record {
        time = k.time ∙ sym (time-more lines (Ask event));
        finish = sym (finish-more lines (Ask event) ∙ ap (λ (b : Bool). b || is_finish (Ask event)) none);
        all = rw (k.all, k.time) (sym (asked-more 0 lines (Ask event)));
      },
    )

-- and kept as one element more of what the code has
pub asked_more : (at : ℕ) (finish : Bool) (asked all : List Due) (d : Due) (lines : List Line) (event : NodeEvent) → finish ≡ is_finish (Ask event) → all ≡ asked ++ d ∷ []
    → (may_follow lines (Ask event) ≡ true) × LinesKept at (is_finish (Ask event)) (map wish_of asked ++ wish_of d ∷ []) (lines ++ Ask event ∷ [])
    → (may_follow lines (Ask event) ≡ true) × LinesKept at finish (map wish_of all) (lines ++ Ask event ∷ [])
asked_more at finish asked all d lines event same more k =
    let wishes : map wish_of all ≡ map wish_of asked ++ wish_of d ∷ [] = ap (map wish_of) more ∙ map-append wish_of asked (d ∷ []) in
    (k.0, rw (same, wishes) k.1)

-- ---- one piece more

in_piece : (piece : List ℕ) (l : Line) → line_of (line_in piece) ≡ Some l → lines_in (piece ∷ []) ≡ l ∷ []
in_piece piece l h = rw h refl

lines-more : (pieces : List (List ℕ)) (piece : List ℕ) (l : Line) → line_of (line_in piece) ≡ Some l → lines_in (pieces ++ piece ∷ []) ≡ lines_in pieces ++ l ∷ []
lines-more pieces piece l h = filter_map-append (λ (p : List ℕ). line_of (line_in p)) pieces (piece ∷ []) ∙ ap (λ (x : List Line). lines_in pieces ++ x) (in_piece piece l h)

pub fits_piece : (pieces : List (List ℕ)) (piece : List ℕ) (before : ℕ) (l : Line) → before ≡ length (concat pieces) → is_too_big before piece ≡ false → line_of (line_in piece) ≡ Some l
    → may_follow (lines_in pieces) l ≡ true → fits_behind pieces piece ≡ true
fits_piece pieces piece before l count small says may =
    let fits : is_too_big (length (concat pieces)) piece ≡ false = ap (λ (n : ℕ). is_too_big n piece) (sym count) ∙ small in
    rw (fits, says, may) refl

pub kept_piece : (at : ℕ) (ended : Bool) (asked : List Wish) (pieces : List (List ℕ)) (piece : List ℕ) (l : Line) → line_of (line_in piece) ≡ Some l
    → LinesKept at ended asked (lines_in pieces ++ l ∷ []) → LinesKept at ended asked (lines_in (pieces ++ piece ∷ []))
kept_piece at ended asked pieces piece l says k = rw (lines-more pieces piece l says) k

-- ---- a script that was read so far

-- What is left of a script, and what is known of the pieces that were read.
pub record ReadSoFar (octets left : List ℕ) (before line at : ℕ) (ended : Bool) (asked : List Wish) : Type 0 where
  pub done : List (List ℕ)
  pub parts : pieces_of octets ≡ done ++ pieces_of left
  pub count : before ≡ length (concat done)
  pub number : line ≡ length done + 1
  pub good : first_bad [] (pieces_of octets) ≡ first_bad done (pieces_of left)
  pub kept : LinesKept at ended asked (lines_in done)

good-more : (done : List (List ℕ)) (piece : List ℕ) (pieces after : List (List ℕ)) → pieces ≡ piece ∷ after → fits_behind done piece ≡ true
    → first_bad done pieces ≡ first_bad (done ++ piece ∷ []) after
good-more done piece pieces after cut fits = rw (cut, fits) refl

-- one piece more, which may stand there
pub read_more : (octets left piece rest : List ℕ) (before line at at' : ℕ) (ended ended' : Bool) (asked asked' : List Wish)
    → (r : ReadSoFar octets left before line at ended asked)
    → pieces_of left ≡ piece ∷ pieces_of rest
    → fits_behind r.done piece ≡ true → LinesKept at' ended' asked' (lines_in (r.done ++ piece ∷ []))
    → ReadSoFar octets rest (before + length piece) (line + 1) at' ended' asked'
read_more octets left piece rest before line at at' ended ended' asked asked' r cut fits kept = record {
  done = r.done ++ piece ∷ [];
  parts = r.parts ∙ ap (λ (x : List (List ℕ)). r.done ++ x) cut ∙ sym (append_assoc r.done (piece ∷ []) (pieces_of rest));
  count = (
      let all : length (concat (r.done ++ piece ∷ [])) ≡ length (concat r.done) + length (concat (piece ∷ [])) = ap length (concat-append r.done (piece ∷ []))
      ∙ length-append (concat r.done) (concat (piece ∷ [])) in
      let one : length (concat (piece ∷ [])) ≡ length piece = ap length (append-nil piece) in
      omega (arith, r.count, all, one)
      );
  number = omega (arith, r.number, length-append r.done (piece ∷ []));
  good = r.good ∙ good-more r.done piece (pieces_of left) (pieces_of rest) cut fits;
  kept = kept;
}

bad-now : (done : List (List ℕ)) (piece : List ℕ) (pieces after : List (List ℕ)) → pieces ≡ piece ∷ after → fits_behind done piece ≡ false → first_bad done pieces ≡ Some (length done + 1)
bad-now done piece pieces after cut bad = rw (cut, bad) refl

meant-bad : (octets : List ℕ) (n : ℕ) → first_bad [] (pieces_of octets) ≡ Some n → script_of octets ≡ Err n
unfolding script_of
meant-bad octets n h = rw h refl

-- one that may not is the first bad one
pub read_bad : (octets left piece rest : List ℕ) (before line at : ℕ) (ended : Bool) (asked : List Wish)
    → (r : ReadSoFar octets left before line at ended asked)
    → pieces_of left ≡ piece ∷ pieces_of rest → fits_behind r.done piece ≡ false → script_of octets ≡ Err line
read_bad octets left piece rest before line at ended asked r cut bad =
    meant-bad octets line (r.good ∙ bad-now r.done piece (pieces_of left) (pieces_of rest) cut bad ∙ ap Some (sym r.number))

meant-good : (octets : List ℕ) (pieces : List (List ℕ)) → pieces_of octets ≡ pieces → first_bad [] (pieces_of octets) ≡ None
    → script_of octets ≡ (if has_finish (lines_in pieces) then Ok (asked_from 0 (lines_in pieces)) else Err (length pieces + 1))
unfolding script_of
meant-good octets pieces all good = rw (good, all) refl

-- at the end of a script
ends-good : (octets : List ℕ) (before line at : ℕ) (ended : Bool) (asked : List Wish) → (r : ReadSoFar octets [] before line at ended asked)
    → script_of octets ≡ (if has_finish (lines_in r.done) then Ok (asked_from 0 (lines_in r.done)) else Err (length r.done + 1))
ends-good octets before line at ended asked r = meant-good octets r.done (r.parts ∙ append-nil r.done) r.good

pub read_all : (octets left : List ℕ) (before line at : ℕ) (ended : Bool) (asked : List Wish) → ReadSoFar octets left before line at ended asked → left ≡ [] → ended ≡ true
    → script_of octets ≡ Ok asked
read_all octets left before line at ended asked r none over =
    let s : ReadSoFar octets [] before line at ended asked = rw none at r in
    ends-good octets before line at ended asked s ∙ rw (sym s.kept.finish ∙ over) (ap Ok (sym s.kept.all))

pub read_unended : (octets left : List ℕ) (before line at : ℕ) (ended : Bool) (asked : List Wish) → ReadSoFar octets left before line at ended asked → left ≡ [] → ended ≡ false
    → script_of octets ≡ Err line
read_unended octets left before line at ended asked r none going =
    let s : ReadSoFar octets [] before line at ended asked = rw none at r in
    ends-good octets before line at ended asked s ∙ rw (sym s.kept.finish ∙ going) (ap Err (sym s.number))
