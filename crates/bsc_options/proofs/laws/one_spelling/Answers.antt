use Rattle.std.proofs.Common.{◌≡◌, ◌++◌, sym, ap, ◌∙◌, List, ℕ}
use Rattle.bsc_options.specs.Spelling.{spelling_of}
use Rattle.bsc_options.proofs.Unique.{one_list}
use Rattle.bsc_options.proofs.Exact.{fit_all}
use Rattle.bsc_options.proofs.laws.one_spelling.Goals as goal

pub returns : goal.returns
returns c = λ a b o p rest other spells also e.
    let here : spelling_of a ++ rest ≡ spelling_of b ++ other = ap (λ (l : List ℕ). l ++ rest) (sym spells.spelling) ∙ e ∙ ap (λ (l : List ℕ). l ++ other) also.spelling in
    let same = one_list a b rest other (fit_all a spells.options.shapes) (fit_all b also.options.shapes) spells.options.some also.options.some here in
    (same.0, spells.spelling ∙ ap spelling_of same.0 ∙ sym also.spelling, same.1)
