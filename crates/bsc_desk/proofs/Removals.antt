-- Rows of which one is taken out.
-- It serves clauses of functions of `desk`, `looking` and `rows`.
use Rattle.std.proofs.Common.{◌≡◌, ◌≢◌, ℕ, zero, suc, ◌==◌, Bool, true, false, not, cond, List, [], ◌∷◌, map, filter, find, Option, Some, None, refl, ap, sym, ◌∙◌}
use Rattle.std.specs.List.{position, remove, AllByRecursion}
use Rattle.std.proofs.lemmas.Bool.{eqb-true, ne_eqb}
use Rattle.bsc_history.specs.declared.connection.Connection.{Connection}
use Rattle.bsc_history.specs.Laws.{Apart}
use Rattle.bsc_desk.specs.declared.row.Row.{Row}
use Rattle.bsc_desk.specs.Live.{connection, number}
use Rattle.bsc_desk.proofs.Walks.{OnlyAt, has_number, only_number}

pub connections-kept : (conn : ℕ) (rows : List Row) → map connection (filter (λ r. not (r.connection.number == conn)) rows) ≡ filter (λ c. not (c.number == conn)) (map connection rows)
connections-kept conn [] = refl
connections-kept conn (r ∷ rows) =
    let rest = connections-kept conn rows in
    let F = filter (λ (x : Row). not (x.connection.number == conn)) rows in
    let G = filter (λ (c : Connection). not (c.number == conn)) (map connection rows) in
    elim (not (r.connection.number == conn)) as (λ b. map connection (cond b (r ∷ F) F) ≡ cond b (connection r ∷ G) G) [ true ↦ ap (λ (l : List Connection). connection r ∷ l) rest | false ↦ rest ]

all_stay : (conn : ℕ) (rows : List Row) → AllByRecursion (λ y. has_number conn y ≡ false) rows → filter (λ r. not (r.connection.number == conn)) rows ≡ rows
all_stay conn [] all = refl
all_stay conn (y ∷ rows) all = rw all.0 (ap (λ (l : List Row). y ∷ l) (all_stay conn rows all.1))

out_at : (conn i : ℕ) (rows : List Row) → OnlyAt (has_number conn) i rows → remove rows i ≡ filter (λ r. not (r.connection.number == conn)) rows
out_at conn i [] only = absurd only
out_at conn zero (r ∷ rows) only = rw only.0 (sym (all_stay conn rows only.1))
out_at conn (suc i) (r ∷ rows) only = rw only.0 (ap (λ (l : List Row). r ∷ l) (out_at conn i rows only.1))

-- where numbers are apart, the rows left are those of another number
pub removed : (conn i : ℕ) (r : Row) (rows : List Row) → position (has_number conn) rows ≡ Some i → Apart number rows → remove rows i ≡ filter (λ r. not (r.connection.number == conn)) rows
removed conn i r rows place apart = out_at conn i rows (only_number conn i rows r place apart)

pub find_gone : (conn : ℕ) (rows : List Row) → find (has_number conn) (filter (λ r. not (r.connection.number == conn)) rows) ≡ None
find_gone conn [] = refl
find_gone conn (r ∷ rows) =
    let rest = find_gone conn rows in
    let A = filter (λ (x : Row). not (x.connection.number == conn)) rows in
    let by : (b : Bool) → (r.connection.number == conn) ≡ b → find (has_number conn) (cond (not b) (r ∷ A) A) ≡ None =
    λ b. elim b as (λ b. (r.connection.number == conn) ≡ b → find (has_number conn) (cond (not b) (r ∷ A) A) ≡ None) [ true ↦ λ e. rest | false ↦ λ e. rw e rest ] in
    by (r.connection.number == conn) refl

pub find_kept : (conn k : ℕ) (rows : List Row) → k ≢ conn → find (has_number k) (filter (λ r. not (r.connection.number == conn)) rows) ≡ find (has_number k) rows
find_kept conn k [] other = refl
find_kept conn k (r ∷ rows) other =
    let rest = find_kept conn k rows other in
    let A = filter (λ (x : Row). not (x.connection.number == conn)) rows in
    let Goal = λ (b : Bool). find (has_number k) (cond (not b) (r ∷ A) A) ≡ cond (r.connection.number == k) (Some r) (find (has_number k) rows) in
    let by : (b : Bool) → (r.connection.number == conn) ≡ b → Goal b = λ b. elim b as (λ b. (r.connection.number == conn) ≡ b → Goal b) [
      | true ↦ λ e. (let no : (r.connection.number == k) ≡ false = ne_eqb r.connection.number k (λ same. other (sym same ∙ eqb-true r.connection.number conn e)) in rw no rest)
      | false ↦ λ e. ap (λ (o : Option Row). cond (r.connection.number == k) (Some r) o) rest
    ] in
    by (r.connection.number == conn) refl
