-- The mark that was kept as a connection joined, in a longer history.
-- It serves many crates above.
use Rattle.std.proofs.Common.{◌≡◌, ℕ, Bool, true, false, cond, List, [], ◌∷◌, ◌++◌, find, Option, Some, None, refl, ap, ◌∙◌}
use Rattle.std.specs.List.{list_any}
use Rattle.std.specs.Option.{option_or, option_and_then}
use Rattle.std.proofs.lemmas.Bool.{or_parts}
use Rattle.std.proofs.lemmas.List.Folds.{find-append}
use Rattle.bsc_history.specs.declared.mark.Mark.{Mark}
use Rattle.bsc_history.specs.declared.mark.Stamped.{Stamped}
use Rattle.bsc_history.specs.Entries.{joins}
use Rattle.bsc_history.specs.Marks.{entries, mark_of}

abbrev found : ℕ → List Stamped → Option Stamped
found c S = find (λ s. joins c s.entry) S

not_found : (S : List Stamped) (c : ℕ) → list_any (joins c) (entries S) ≡ false → found c S ≡ None
not_found [] c h = refl
not_found (s ∷ S) c h = let two = or_parts (joins c s.entry) (list_any (joins c) (entries S)) h in rw two.0 (not_found S c two.1)

-- A mark stays as the history grows.
pub mark_grows : (S T : List Stamped) (c : ℕ) (m : Mark) → mark_of S c ≡ Some m → mark_of (S ++ T) c ≡ Some m
mark_grows S T c m h =
    let mark = option_and_then (λ (s : Stamped). s.mark) in
    let on : (o : Option Stamped) → mark o ≡ Some m → mark (option_or o (found c T)) ≡ Some m =
    λ o. elim o as (λ o. mark o ≡ Some m → mark (option_or o (found c T)) ≡ Some m) [ None ↦ λ e. cc | Some s ↦ λ e. e ] in
    ap mark (find-append (λ (s : Stamped). joins c s.entry) S T) ∙ on (found c S) h

-- The mark of who joins by the newest entry is the one kept with that entry.
pub mark_new : (S : List Stamped) (s : Stamped) (c : ℕ) → list_any (joins c) (entries S) ≡ false → joins c s.entry ≡ true → mark_of (S ++ s ∷ []) c ≡ s.mark
mark_new S s c none here =
    let mark = option_and_then (λ (x : Stamped). x.mark) in
    ap mark (find-append (λ (x : Stamped). joins c x.entry) S (s ∷ []) ∙ ap (λ (o : Option Stamped). option_or o (found c (s ∷ []))) (not_found S c none))
    ∙ ap (λ (b : Bool). mark (cond b (Some s) None)) here
