-- The numbers of the rules that decide, read off the tables.
-- It serves the clauses of `make`.
use Rattle.std.proofs.Common.{◌≡◌, ℕ, List, map, slice_get, option_map, unwrap_or, Option, Some, None, refl, ap, ap₂, sym, ◌∙◌}
use Rattle.std.proofs.lemmas.Option.{slice_get-map}
use Rattle.bsc_policy.specs.declared.member.Member.{Member}
use Rattle.bsc_policy.specs.declared.names.Names.{Names}
use Rattle.bsc_policy.specs.declared.rule.Rule.{Rule}
use Rattle.bsc_policy.specs.declared.tables.Tables.{Tables}
use Rattle.bsc_policy.specs.Classes.{class_of, names_of}
use Rattle.bsc_policy.specs.Decisions.{group_of, number_between, number_of}
use Rattle.bsc_policy.specs.Filing.{number_for, number_in, row_of, rows_of}
use Rattle.bsc_policy.specs.Tables.{AreNamesOf, AreTablesOf, TellsClasses, classes_of}
use Rattle.bsc_policy.proofs.Named.{named, star_first}
use Rattle.bsc_policy.proofs.Covered.{name_of, named_at, same_number}

-- for two places there is the number of the rule that decides between what stands there
in_rows : (rules : List Rule) (froms tos : List (List ℕ)) (from to : List ℕ) (a b : ℕ) → slice_get froms a ≡ Some from → slice_get tos b ≡ Some to
    → number_in (slice_get (rows_of rules froms tos) a) b ≡ number_of rules from to
in_rows rules froms tos from to a b from_is to_is =
    ap (λ (r : Option (List ℕ)). number_in r b) (slice_get-map (λ f. row_of rules tos f) froms a ∙ ap (option_map (λ f. row_of rules tos f)) from_is)
    ∙ ap (λ (n : Option ℕ). unwrap_or n 0) (slice_get-map (λ t. number_of rules from t) tos b ∙ ap (option_map (λ t. number_of rules from t)) to_is)

-- for the classes of two groups there is that of the rule that decides between them
for_classes : (rules : List Rule) (from to : List ℕ)
    → let froms = names_of (map (λ r. r.from) rules) in let tos = names_of (map (λ r. r.to) rules) in
    number_in (slice_get (rows_of rules froms tos) (class_of froms from)) (class_of tos to) ≡ number_of rules from to
for_classes rules from to =
    let froms = names_of (map (λ r. r.from) rules) in
    let tos = names_of (map (λ r. r.to) rules) in
    in_rows rules froms tos (name_of froms from) (name_of tos to) (class_of froms from) (class_of tos to)
    (named_at froms from (star_first (map (λ r. r.from) rules))) (named_at tos to (star_first (map (λ r. r.to) rules)))
    ∙ sym (same_number rules froms tos from to (named (λ r. r.from) rules) (named (λ r. r.to) rules))

for_groups : (rules : List Rule) (names : Names) (rows : List (List ℕ)) → AreNamesOf rules names → rows ≡ rows_of rules names.froms.items names.tos.items
    → (from to : Option (List ℕ)) → number_for rows (option_map (λ g. classes_of names g) from) (option_map (λ g. classes_of names g) to) ≡ number_between rules from to
for_groups rules names rows are is None to = refl
for_groups rules names rows are is (Some from) None = refl
for_groups rules names rows are is (Some from) (Some to) =
    ap (λ (l : List (List ℕ)). number_in (slice_get l (class_of names.froms.items from)) (class_of names.tos.items to)) is
    ∙ ap₂ (λ (froms tos : List (List ℕ)). number_in (slice_get (rows_of rules froms tos) (class_of froms from)) (class_of tos to)) are.0 are.1
    ∙ for_classes rules from to

pub are_tables : (members : List Member) (rules : List Rule) (names : Names) (t : Tables) → AreNamesOf rules names → TellsClasses members names t.directory
    → map (λ r. r.items) t.numbers.items ≡ rows_of rules names.froms.items names.tos.items → AreTablesOf members rules t
are_tables members rules names t are tells is = λ from to.
    ap₂ (number_for (map (λ r. r.items) t.numbers.items)) (tells from) (tells to)
    ∙ for_groups rules names (map (λ r. r.items) t.numbers.items) are is (group_of members from) (group_of members to)
