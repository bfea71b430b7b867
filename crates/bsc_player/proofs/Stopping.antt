-- How a play ends, by what it has reached.
-- It serves the clauses of `play_lines`.
use Rattle.std.proofs.Common.{◌≡◌, ℕ, ◌+◌, ◌≤◌, Bool, true, false, ◌⊎◌, inl, inr, ⊎_elim, List, [], ◌∷◌, ◌++◌, length, take, refl, ap, sym, ◌∙◌, subst, append_assoc, append-nil}
use Rattle.std.proofs.Common.{length-append, arith, Option, Some, None}
use Rattle.std.proofs.Math.Seq.{take-append-add}
use Rattle.std.proofs.lemmas.List.{take-append-le}
use Rattle.std.specs.List.{concat}
use Rattle.std.specs.Io.KnownBytes.{Appends}
use Rattle.bsc_outside.specs.Faults.{PutsPrefix}
use Rattle.bsc_text.specs.Lines.{pieces_of, has_no_lf}
use Rattle.bsc_player.specs.Playing.{Meaning, Played, piece_after, ended_at, play, played_of}
use Rattle.bsc_player.specs.Ends.{Taken, whole_lines, lines_read, WritesAll, WritesTo, WritesWhole, WritesSome, PlaysOut}
use Rattle.bsc_player.specs.Collecting.{end_of}
use Rattle.bsc_player.proofs.Cutting.{IsWhole, IsLast, pieces_of-none, whole_lines-none, first_piece, concat-pieces_of}
use Rattle.bsc_player.proofs.SoFar.{Plays, plays_all, play_refused, play_end, ended_says}
use Rattle.bsc_player.proofs.Reached.{IsGiven, IsAll, Reached, given_before, given_going}
use Rattle.bsc_lemmas.proofs.Lists.{appends_to as appended}
use Rattle.bsc_outside.proofs.Common.{puts_all}

-- how an input ends whose lines were all accepted
ended_well : (b : Bool) (number : ℕ) → b ≡ true → (ended_at b number).refused ≡ None
ended_well true number h = refl
ended_well false number h = absurd cc

ended_early : (b : Bool) (number : ℕ) → b ≡ false → (ended_at b number).refused ≡ Some number
ended_early true number h = absurd cc
ended_early false number h = refl

ended_after : (b : Bool) (number n : ℕ) → (ended_at b number).refused ≡ Some n → n ≡ number
ended_after true number n h = absurd cc
ended_after false number n h = cc

-- what was read
abbrev pub taken_of : {S : Type 0} (means : Meaning S) (s0 : S) (o t : List ℕ) (left held : Option (List ℕ)) (unread : List ℕ) (ended : Bool) (count number : ℕ) (stands : S → Type 0)
    (collected : List ℕ) → Reached means s0 o t left held unread ended count number stands collected → Taken o left
taken_of means s0 o t left held unread ended count number stands collected r = record {
  read = r.given ++ unread;
  rest = r.rest;
  parts = r.octets ∙ sym (append_assoc r.given unread r.rest);
  remains = r.remains;
}

-- what a input comes to that begins with what was given
says_after : {S : Type 0} (means : Meaning S) (s0 : S) (given : List ℕ) (pieces : List (List ℕ)) (state : S) (number count : ℕ) (text : List ℕ) → IsGiven given pieces
    → Plays means s0 pieces state number count text → (more : List ℕ) → (played_of means s0 (given ++ more)).text ≡ text ++ (play means state number count (pieces_of more)).text
says_after means s0 given pieces state number count text g p more = ap (λ (x : List (List ℕ)). (play means s0 1 0 x).text) (g.cuts more) ∙ p.says (pieces_of more)

refuses_after : {S : Type 0} (means : Meaning S) (s0 : S) (given : List ℕ) (pieces : List (List ℕ)) (state : S) (number count : ℕ) (text : List ℕ) → IsGiven given pieces
    → Plays means s0 pieces state number count text → (more : List ℕ) → (played_of means s0 (given ++ more)).refused ≡ (play means state number count (pieces_of more)).refused
refuses_after means s0 given pieces state number count text g p more = ap (λ (x : List (List ℕ)). (play means s0 1 0 x).refused) (g.cuts more) ∙ p.refuses (pieces_of more)

-- a text is all of another's first part
pub record BeginsWith (all text : List ℕ) : Type 0 where
  pub more : List ℕ
  pub is : all ≡ text ++ more

-- the text of the lines that were read begins with that of the lines that were given
text_first : {S : Type 0} (means : Meaning S) (s0 : S) (given unread rest : List ℕ) (ended : Bool) (pieces : List (List ℕ)) (state : S) (number count : ℕ) (text : List ℕ)
    → IsGiven given pieces ⊎ IsAll given pieces unread rest ended → Plays means s0 pieces state number count text → BeginsWith (played_of means s0 (lines_read (given ++ unread) rest)).text text
text_first means s0 given unread [] ended pieces state number count text cut p = ⊎_elim
    (λ (g : IsGiven given pieces). record { more = (play means state number count (pieces_of unread)).text; is = says_after means s0 given pieces state number count text g p unread })
    (λ (a : IsAll given pieces unread [] ended).
    let none : given ++ unread ≡ given = ap (λ (x : List ℕ). given ++ x) a.none_unread ∙ append-nil given in
    let all : (played_of means s0 (given ++ unread)).text ≡ text = ap (λ (x : List ℕ). (played_of means s0 x).text) none ∙ ap (λ (x : List (List ℕ)). (play means s0 1 0 x).text) a.cut
    ∙ ap (λ (x : Played). x.text) (plays_all means s0 pieces state number count text p) in
    record { more = []; is = all ∙ sym (append-nil text) })
    cut
text_first means s0 given unread (c ∷ rest) ended pieces state number count text cut p = ⊎_elim
    (λ (g : IsGiven given pieces). record {
      more = (play means state number count (pieces_of (whole_lines unread))).text;
      is = ap (λ (x : List ℕ). (played_of means s0 x).text) (g.whole unread) ∙ says_after means s0 given pieces state number count text g p (whole_lines unread);
    })
    (λ (a : IsAll given pieces unread (c ∷ rest) ended). absurd (let bad = a.none_left in cc))
    cut

-- a first part of some octets, after others, is a first part of both and more
puts_part : (t xs st ys all : List ℕ) (held : Option (List ℕ)) → all ≡ xs ++ (st ++ ys) → PutsPrefix (Some (t ++ xs)) held st → PutsPrefix (Some t) held all
puts_part t xs st ys all None is part = absurd part.2
puts_part t xs st ys all (Some h) is part =
    let n = part.0 in
    let grows : h ≡ t ++ take (length xs + n) (xs ++ (st ++ ys)) =
    part.2 ∙ append_assoc t xs (take n st) ∙ ap (λ (l : List ℕ). t ++ (xs ++ l)) (sym (take-append-le n st ys part.1)) ∙ ap (λ (l : List ℕ). t ++ l) (sym (take-append-add xs (st ++ ys) n)) in
    let fits : length xs + n ≤ length (xs ++ (st ++ ys)) = omega (arith, length-append xs (st ++ ys), length-append st ys, part.1) in
    let front : PutsPrefix (Some t) (Some h) (xs ++ (st ++ ys)) = (length xs + n, fits, grows) in
    subst (λ (a : List ℕ). PutsPrefix (Some t) (Some h) a) (sym is) front

-- the collected text was written in part
pub breaks_off : {S : Type 0} (means : Meaning S) (s0 : S) (o t : List ℕ) (left held held' : Option (List ℕ)) (unread : List ℕ) (ended : Bool) (count number : ℕ) (stands : S → Type 0)
    (collected : List ℕ) → Reached means s0 o t left held unread ended count number stands collected → PutsPrefix held held' collected → WritesSome (played_of means s0) o t left held'
breaks_off means s0 o t left held held' unread ended count number stands collected r part =
    let begins = text_first means s0 r.given unread r.rest ended r.pieces r.state number count r.text r.cut r.plays in
    let all : (played_of means s0 (lines_read (r.given ++ unread) r.rest)).text ≡ r.written ++ (collected ++ begins.more) = begins.is ∙ ap (λ (x : List ℕ). x ++ begins.more) r.parts
    ∙ append_assoc r.written collected begins.more in
    record {
      taken = taken_of means s0 o t left held unread ended count number stands collected r;
      written = puts_part t r.written collected begins.more (played_of means s0 (lines_read (r.given ++ unread) r.rest)).text held' all
          (subst (λ (h : Option (List ℕ)). PutsPrefix h held' collected) r.wrote part);
    }

-- The first line of these octets is refused.
pub record RefusesFirst {S : Type 0} (means : Meaning S) (state : S) (count : ℕ) (octets : List ℕ) : Type 0 where
  pub piece : List ℕ
  pub pieces : List (List ℕ)
  pub first : pieces_of octets ≡ piece ∷ pieces
  pub refused : piece_after means state count piece ≡ None

first_refused : {S : Type 0} (means : Meaning S) (state : S) (number count : ℕ) (octets : List ℕ) → RefusesFirst means state count octets
    → play means state number count (pieces_of octets) ≡ record { text = []; refused = Some number }
first_refused means state number count octets f = ap (play means state number count) f.first ∙ play_refused means state number count f.piece f.pieces f.refused

-- where the next line is refused, the whole lines that were read say nothing more
whole_says_nothing : {S : Type 0} (means : Meaning S) (state : S) (number count : ℕ) (unread rest : List ℕ) → RefusesFirst means state count (unread ++ rest)
    → (play means state number count (pieces_of (whole_lines unread))).text ≡ []
whole_says_nothing means state number count unread rest f = by (pieces_of unread) refl
  where
    none : whole_lines unread ≡ [] → (play means state number count (pieces_of (whole_lines unread))).text ≡ []
    none e = ap (λ (x : List ℕ). (play means state number count (pieces_of x)).text) e ∙ ap (λ (x : Played). x.text) (play_end means state number count) ∙ ended_says (means.may_end state) number

    by : (ps : List (List ℕ)) → pieces_of unread ≡ ps → (play means state number count (pieces_of (whole_lines unread))).text ≡ []
    by [] e = none (rw (pieces_of-none unread e) refl)
    by (p ∷ ps) e = ⊎_elim
        (λ (w : IsWhole p).
        let parted : unread ≡ p ++ concat ps = sym (concat-pieces_of unread) ∙ ap concat e in
        let longer : pieces_of (unread ++ rest) ≡ p ∷ pieces_of (concat ps ++ rest) = ap (λ (x : List ℕ). pieces_of (x ++ rest)) parted ∙ ap pieces_of (append_assoc p (concat ps) rest)
        ∙ w.cuts (concat ps ++ rest) in
        let both = sym f.first ∙ longer in
        let same : f.piece ≡ p = cc in
        let whole : whole_lines unread ≡ p ++ whole_lines (concat ps) = ap whole_lines parted ∙ w.whole (concat ps) in
        let cut : pieces_of (whole_lines unread) ≡ p ∷ pieces_of (whole_lines (concat ps)) = ap pieces_of whole ∙ w.cuts (whole_lines (concat ps)) in
        let after : piece_after means state count p ≡ None = ap (piece_after means state count) (sym same) ∙ f.refused in
        ap (λ (x : List (List ℕ)). (play means state number count x).text) cut ∙ ap (λ (x : Played). x.text) (play_refused means state number count p (pieces_of (whole_lines (concat ps))) after))
        (λ (l : IsLast unread p ps). none (whole_lines-none unread (ap has_no_lf l.all ∙ l.no_lf)))
        (first_piece unread p ps e)

-- the same of all that was read
in_time : {S : Type 0} (means : Meaning S) (s0 : S) (given unread rest : List ℕ) (pieces : List (List ℕ)) (state : S) (number count : ℕ) (text : List ℕ) → IsGiven given pieces
    → Plays means s0 pieces state number count text → RefusesFirst means state count (unread ++ rest) → (played_of means s0 (lines_read (given ++ unread) rest)).text ≡ text
in_time means s0 given unread [] pieces state number count text g p f =
    let one = append-nil unread in
    let turned = first_refused means state number count (unread ++ []) f in
    says_after means s0 given pieces state number count text g p unread ∙ ap (λ (x : List ℕ). text ++ (play means state number count (pieces_of x)).text) (sym one)
    ∙ ap (λ (x : Played). text ++ x.text) turned ∙ append-nil text
in_time means s0 given unread (c ∷ rest) pieces state number count text g p f =
    ap (λ (x : List ℕ). (played_of means s0 x).text) (g.whole unread) ∙ says_after means s0 given pieces state number count text g p (whole_lines unread)
    ∙ ap (λ (x : List ℕ). text ++ x) (whole_says_nothing means state number count unread (c ∷ rest) f) ∙ append-nil text

-- all of the collected text was written
written_all : {S : Type 0} (means : Meaning S) (s0 : S) (o t : List ℕ) (left held held' : Option (List ℕ)) (unread : List ℕ) (ended : Bool) (count number : ℕ) (stands : S → Type 0)
    (collected : List ℕ) (r : Reached means s0 o t left held unread ended count number stands collected) → Appends held held' collected → held' ≡ Some (t ++ r.text)
written_all means s0 o t left held held' unread ended count number stands collected r put =
    appended held held' (t ++ r.written) collected r.wrote put ∙ ap Some (append_assoc t r.written collected ∙ ap (λ (x : List ℕ). t ++ x) (sym r.parts))

-- What was read decides that the next line is refused: nothing is left, or it is so whatever might follow.
abbrev pub RefusesNext : {S : Type 0} (means : Meaning S) → S → ℕ → List ℕ → List ℕ → Type 0
RefusesNext means state count unread rest = (rest ≡ []) ⊎ ((more : List ℕ) → RefusesFirst means state count (unread ++ more))

-- the next line was refused
pub ends_refused : {S : Type 0} (means : Meaning S) (s0 : S) (o t : List ℕ) (left held held' : Option (List ℕ)) (unread : List ℕ) (ended : Bool) (count number : ℕ) (stands : S → Type 0)
    (collected : List ℕ) (r : Reached means s0 o t left held unread ended count number stands collected)
    → RefusesFirst means r.state count (unread ++ r.rest) → RefusesNext means r.state count unread r.rest → Appends held held' collected → WritesTo (played_of means s0) number o t left held'
ends_refused means s0 o t left held held' unread ended count number stands collected r first next put =
    let g = given_before r.given r.pieces unread r.rest first.piece ended first.pieces first.first r.cut in
    let refused : (more : List ℕ) → RefusesFirst means r.state count (unread ++ more) → played_of means s0 (r.given ++ (unread ++ more)) ≡ record { text = r.text; refused = Some number } = λ more f. (
    let turned = first_refused means r.state number count (unread ++ more) f in
    let says : (played_of means s0 (r.given ++ (unread ++ more))).text ≡ r.text = says_after means s0 r.given r.pieces r.state number count r.text g r.plays (unread ++ more)
    ∙ ap (λ (x : Played). r.text ++ x.text) turned ∙ append-nil r.text in
    let refuses : (played_of means s0 (r.given ++ (unread ++ more))).refused ≡ Some number = refuses_after means s0 r.given r.pieces r.state number count r.text g r.plays (unread ++ more)
    ∙ ap (λ (x : Played). x.refused) turned in
    rw (← says, ← refuses) refl) in
    let here : played_of means s0 o ≡ record { text = r.text; refused = Some number } = ap (played_of means s0) r.octets ∙ refused r.rest first in
    let said : (played_of means s0 o).text ≡ r.text = ap (λ (x : Played). x.text) here in
    record {
      refused = ap (λ (x : Played). x.refused) here;
      written = written_all means s0 o t left held held' unread ended count number stands collected r put ∙ ap (λ (x : List ℕ). Some (t ++ x)) (sym said);
      taken = taken_of means s0 o t left held unread ended count number stands collected r;
      decided = ⊎_elim
          (λ (e : r.rest ≡ []). inl e)
          (λ (f : (more : List ℕ) → RefusesFirst means r.state count (unread ++ more)). inr
          (λ more. ap (λ (x : List ℕ). (played_of means s0 x).refused) (append_assoc r.given unread more) ∙ ap (λ (x : Played). x.refused) (refused more (f more))))
          next;
      in_time = in_time means s0 r.given unread r.rest r.pieces r.state number count r.text g r.plays first ∙ sym said;
    }

-- what the whole input comes to where all of it was given
comes_to : {S : Type 0} (means : Meaning S) (s0 : S) (given unread rest : List ℕ) (ended : Bool) (pieces : List (List ℕ)) (state : S) (number count : ℕ) (text : List ℕ) → unread ≡ []
    → rest ≡ [] → IsGiven given pieces ⊎ IsAll given pieces unread rest ended → Plays means s0 pieces state number count text
    → played_of means s0 (given ++ (unread ++ rest)) ≡ record { text = text; refused = (ended_at (means.may_end state) number).refused }
comes_to means s0 given unread rest ended pieces state number count text none_unread none_left cut p =
    let none : unread ++ rest ≡ [] = rw (none_unread, none_left) refl in
    let all : given ++ (unread ++ rest) ≡ given = ap (λ (x : List ℕ). given ++ x) none ∙ append-nil given in
    let cut_all : pieces_of given ≡ pieces = ⊎_elim
    (λ (g : IsGiven given pieces). ap pieces_of (sym (append-nil given)) ∙ g.cuts [] ∙ append-nil pieces)
    (λ (a : IsAll given pieces unread rest ended). a.cut)
    cut in
    ap (played_of means s0) all ∙ ap (play means s0 1 0) cut_all ∙ plays_all means s0 pieces state number count text p

-- the input ended, where it may
ends_done : {S : Type 0} (means : Meaning S) (s0 : S) (o t : List ℕ) (left held held' : Option (List ℕ)) (unread : List ℕ) (ended : Bool) (count number : ℕ) (stands : S → Type 0)
    (collected : List ℕ) (r : Reached means s0 o t left held unread ended count number stands collected) → means.may_end r.state ≡ true → unread ≡ [] → ended ≡ true
    → Appends held held' collected → WritesAll (played_of means s0) o t left held'
ends_done means s0 o t left held held' unread ended count number stands collected r may none at_end put =
    let none_left = r.at_end at_end in
    let all = ap (played_of means s0) r.octets ∙ comes_to means s0 r.given unread r.rest ended r.pieces r.state number count r.text none none_left r.cut r.plays in
    record {
      accepted = ap (λ (x : Played). x.refused) all ∙ ended_well (means.may_end r.state) number may;
      written = written_all means s0 o t left held held' unread ended count number stands collected r put ∙ ap (λ (x : Played). Some (t ++ x.text)) (sym all);
      read = r.remains ∙ ap Some none_left;
    }

-- the input ended, where it may not
ends_early : {S : Type 0} (means : Meaning S) (s0 : S) (o t : List ℕ) (left held held' : Option (List ℕ)) (unread : List ℕ) (ended : Bool) (count number : ℕ) (stands : S → Type 0)
    (collected : List ℕ) (r : Reached means s0 o t left held unread ended count number stands collected) → means.may_end r.state ≡ false → unread ≡ [] → ended ≡ true
    → Appends held held' collected → WritesTo (played_of means s0) number o t left held'
ends_early means s0 o t left held held' unread ended count number stands collected r may_not none at_end put =
    let none_left = r.at_end at_end in
    let all = ap (played_of means s0) r.octets ∙ comes_to means s0 r.given unread r.rest ended r.pieces r.state number count r.text none none_left r.cut r.plays in
    let is : o ≡ lines_read (r.given ++ unread) r.rest = r.octets ∙ sym (append_assoc r.given unread r.rest) ∙ read_all (r.given ++ unread) r.rest none_left in
    record {
      refused = ap (λ (x : Played). x.refused) all ∙ ended_early (means.may_end r.state) number may_not;
      written = written_all means s0 o t left held held' unread ended count number stands collected r put ∙ ap (λ (x : Played). Some (t ++ x.text)) (sym all);
      taken = taken_of means s0 o t left held unread ended count number stands collected r;
      decided = inl none_left;
      in_time = ap (λ (x : List ℕ). (played_of means s0 x).text) (sym is);
    }
  where
    read_all : (read rest : List ℕ) → rest ≡ [] → read ++ rest ≡ lines_read read rest
    read_all read [] h = append-nil read
    read_all read (c ∷ rest) h = absurd cc

-- the input ended
pub ends_as : {S : Type 0} (means : Meaning S) (s0 : S) (o t : List ℕ) (left held held' : Option (List ℕ)) (unread : List ℕ) (ended : Bool) (count number : ℕ) (stands : S → Type 0)
    (collected : List ℕ) (b : Bool) → ((s : S) → stands s → b ≡ means.may_end s) → Reached means s0 o t left held unread ended count number stands collected → unread ≡ [] → ended ≡ true
    → Appends held held' collected → PlaysOut (played_of means s0) (end_of b number) o t left held'
ends_as means s0 o t left held held' unread ended count number stands collected true may r none at_end put =
    ends_done means s0 o t left held held' unread ended count number stands collected r (sym (may r.state r.holds)) none at_end put
ends_as means s0 o t left held held' unread ended count number stands collected false may r none at_end put =
    ends_early means s0 o t left held held' unread ended count number stands collected r (sym (may r.state r.holds)) none at_end put

-- a read failed, after all whole lines were given and their text was written
pub ends_at_fault : {S : Type 0} (means : Meaning S) (s0 : S) (o t : List ℕ) (left held : Option (List ℕ)) (unread : List ℕ) (ended : Bool) (count number : ℕ) (stands : S → Type 0)
    → Reached means s0 o t left held unread ended count number stands [] → ended ≡ false → has_no_lf unread ≡ true → WritesWhole (played_of means s0) o t left held
ends_at_fault means s0 o t left held unread ended count number stands r going no_lf =
    let g = given_going r.given r.pieces unread r.rest ended going r.cut in
    let whole : whole_lines (r.given ++ unread) ≡ r.given = g.whole unread ∙ ap (λ (x : List ℕ). r.given ++ x) (whole_lines-none unread no_lf) ∙ append-nil r.given in
    let cut : pieces_of (whole_lines (r.given ++ unread)) ≡ r.pieces = ap pieces_of (whole ∙ sym (append-nil r.given)) ∙ g.cuts [] ∙ append-nil r.pieces in
    let all : played_of means s0 (whole_lines (r.given ++ unread)) ≡ record { text = r.text; refused = (ended_at (means.may_end r.state) number).refused } = ap (play means s0 1 0) cut
    ∙ plays_all means s0 r.pieces r.state number count r.text r.plays in
    let text_is : r.text ≡ r.written = r.parts ∙ append-nil r.written in
    record {
      taken = taken_of means s0 o t left held unread ended count number stands [] r;
      accepted = λ n h. (ended_after (means.may_end r.state) number n (sym (ap (λ (x : Played). x.refused) all) ∙ h) ∙ r.plays.numbered ∙ ap (λ (x : List (List ℕ)). length x + 1) (sym cut));
      written = r.wrote ∙ ap (λ (x : List ℕ). Some (t ++ x)) (sym text_is ∙ sym (ap (λ (x : Played). x.text) all));
    }

-- memory ran out, after all of the collected text was written
pub runs_out : {S : Type 0} (means : Meaning S) (s0 : S) (o t : List ℕ) (left held held' : Option (List ℕ)) (unread : List ℕ) (ended : Bool) (count number : ℕ) (stands : S → Type 0)
    (collected : List ℕ) → Reached means s0 o t left held unread ended count number stands collected → Appends held held' collected → WritesSome (played_of means s0) o t left held'
runs_out means s0 o t left held held' unread ended count number stands collected r put =
    breaks_off means s0 o t left held held' unread ended count number stands collected r (puts_all held held' collected put)
