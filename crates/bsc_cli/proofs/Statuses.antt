-- Where the words of a hub name a file for its status.
-- It serves the clauses of `status_path`.
use Rattle.std.proofs.Common.{◌≡◌, ◌≢◌, [], ◌∷◌, List, None, Option, codes, refl, ap, sym, ◌∙◌, subst}
use Rattle.clap.specs.Words.{App, Kinds, Row, Text, fault_of, first_of, matches_of}
use Rattle.bsc_cli.specs.Words.{app_for, status_path_of, unless_refused}
use Rattle.bsc_cli.specs.declared.asked.Way.TheVariants as way

none_where : (kinds : Kinds) (path : Option Text) → kinds ≢ [] → None ≡ unless_refused kinds path
none_where [] path is = absurd (is refl)
none_where (kind ∷ kinds) path is = refl

pub status_none : (app : App) (words : List Text) → app ≡ app_for way.Hub → fault_of app words ≢ [] → None ≡ status_path_of words
status_none app words is faulty =
    none_where (fault_of (app_for way.Hub) words) (first_of (codes "status-file") (matches_of (app_for way.Hub) words)) (subst (λ a. fault_of a words ≢ []) is faulty)

pub status_found : (app : App) (words : List Text) (rows : List Row) (path : Option Text) → app ≡ app_for way.Hub → fault_of app words ≡ [] → rows ≡ matches_of app words
    → path ≡ first_of (codes "status-file") rows → path ≡ status_path_of words
status_found app words rows path is fine found value =
    value ∙ ap (first_of (codes "status-file")) (found ∙ ap (λ a. matches_of a words) is)
    ∙ sym (ap (λ k. unless_refused k (first_of (codes "status-file") (matches_of (app_for way.Hub) words))) (subst (λ a. fault_of a words ≡ []) is fine))
