-- Languages whose inputs may always end: no number after the last line is refused.
-- It serves bsc_replay.
use Rattle.std.proofs.Common.{◌≡◌, ℕ, ◌+◌, ◌<◌, Bool, true, List, [], ◌∷◌, length, refl, ap, sym, ◌∙◌, arith, Option, Some, None}
use Rattle.bsc_text.specs.Lines.{pieces_of}
use Rattle.bsc_player.specs.Playing.{Meaning, Played, LineOutcome, piece_after, ended_at, play, played_of}
use Rattle.bsc_player.specs.Ends.{AcceptsLines}
use Rattle.bsc_player.proofs.SoFar.{play_line, play_refused, play_end}

-- what is refused is one of the pieces
refused_within : {S : Type 0} (means : Meaning S) → ((s : S) → means.may_end s ≡ true) → (s : S) (number before : ℕ) (pieces : List (List ℕ)) (n : ℕ)
    → (play means s number before pieces).refused ≡ Some n → n < number + length pieces
refused_within means always s number before [] n h =
    let none : (play means s number before []).refused ≡ None = ap (λ (x : Played). x.refused) (play_end means s number before) ∙ ap (λ (b : Bool). (ended_at b number).refused) (always s) in
    absurd (let bad = sym none ∙ h in cc)
refused_within {S} means always s number before (piece ∷ pieces) n h = by (λ s' number' before'. refused_within means always s' number' before' pieces n) (piece_after means s before piece) refl
  where
    by : ((s' : S) (number' before' : ℕ) → (play means s' number' before' pieces).refused ≡ Some n → n < number' + length pieces) → (a : Option (LineOutcome S))
        → piece_after means s before piece ≡ a → n < number + length (piece ∷ pieces)
    by next None e =
        let here = sym (ap (λ (x : Played). x.refused) (play_refused means s number before piece pieces e)) ∙ h in
        let is : n ≡ number = cc in
        omega (arith, is)
    by next (Some t) e =
        let later = sym (ap (λ (x : Played). x.refused) (play_line means s number before piece pieces t e)) ∙ h in
        let within = next t.state (number + 1) (before + length piece) later in
        omega (arith, within)

-- where an input may always end, that its lines are accepted says that none is refused
pub accepts_all : {S : Type 0} (means : Meaning S) (s : S) → ((x : S) → means.may_end x ≡ true) → (o : List ℕ) → AcceptsLines (played_of means s) o → (played_of means s o).refused ≡ None
accepts_all means s always o accepts = by (played_of means s o).refused refl
  where
    by : (r : Option ℕ) → (played_of means s o).refused ≡ r → (played_of means s o).refused ≡ None
    by None e = e
    by (Some n) e =
        let after = accepts n e in
        let within = refused_within means always s 1 0 (pieces_of o) n e in
        absurd (omega (arith, after, within))
