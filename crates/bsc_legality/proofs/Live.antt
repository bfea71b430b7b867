-- The rows of live connections.
-- It serves clauses of functions of `breaching`, `deciding`, `laws` and `legality`.
use Rattle.std.proofs.Common.{◌≡◌, inl, inr, ℕ, Bool, true, false, ◌&&◌, ◌||◌, cond, List, [], ◌∷◌, map, filter, find, Some, is_none, refl, ap, sym, ◌∙◌}
use Rattle.std.specs.List.{list_any, AllByRecursion}
use Rattle.std.specs.Option.{option_map}
use Rattle.bsc_history.specs.declared.limits.About.{About}
use Rattle.bsc_history.specs.declared.connection.Connection.{Connection}
use Rattle.bsc_history.specs.declared.entry.Entry.{Entry}
use Rattle.bsc_history.specs.Ends.{ended, live}
use Rattle.bsc_history.specs.Replies.{numbers}
use Rattle.bsc_history.proofs.Lists.{In}
use Rattle.bsc_legality.specs.declared.row.Row.{Row}
use Rattle.bsc_legality.specs.declared.legality.Legality.{Legality}
use Rattle.bsc_legality.specs.Rows.{connection, is_open, is_open_with, number}
use Rattle.bsc_legality.specs.Standing.{IsRowOf, LegalityStands}
use Rattle.bsc_history.proofs.Connections.{live_unended}

pub In-map : (r : Row) (rows : List Row) → In r rows → In (connection r) (map connection rows)
In-map r [] m = absurd m
In-map r (x ∷ rows) (inl e) = inl (ap connection e)
In-map r (x ∷ rows) (inr m) = inr (In-map r rows m)

pub any_row : (p : Connection → Bool) (rows : List Row) → list_any (λ r. p (connection r)) rows ≡ list_any p (map connection rows)
any_row p [] = refl
any_row p (r ∷ rows) = ap (λ (b : Bool). p (connection r) || b) (any_row p rows)

open_rows : (a : About) (H : List Entry) (rows : List Row) → AllByRecursion (IsRowOf a H) rows → filter (λ x. is_none (ended H x.number)) (map connection rows) ≡ map connection (filter is_open rows)
open_rows a H [] all = refl
open_rows a H (r ∷ rows) all =
    let rest = open_rows a H rows all.1 in
    let E = λ (x : Connection). is_none (ended H x.number) in
    let same : E (connection r) ≡ is_open r = ap is_none (sym all.0.ends) in
    ap (λ (b : Bool). cond b (connection r ∷ filter E (map connection rows)) (filter E (map connection rows))) same
    ∙ elim (is_open r) as (λ b. cond b (connection r ∷ filter E (map connection rows)) (filter E (map connection rows))
    ≡ map connection (cond b (r ∷ filter is_open rows) (filter is_open rows))) [ true ↦ ap (λ (l : List Connection). connection r ∷ l) rest | false ↦ rest ]

-- the live connections are those of the rows that are open
pub live_rows : (l : Legality) (a : About) (H : List Entry) → LegalityStands l a H → live H ≡ map connection (filter is_open l.rows.items)
live_rows l a H s = live_unended a H s.legal ∙ ap (filter (λ x. is_none (ended H x.number))) (sym s.unleft_rows) ∙ open_rows a H l.rows.items s.each_row

find_open : (p : Connection → Bool) (rows : List Row) → find p (map connection (filter is_open rows)) ≡ option_map connection (find (is_open_with p) rows)
find_open p [] = refl
find_open p (r ∷ rows) =
    elim (is_open r) as (λ b. find p (map connection (cond b (r ∷ filter is_open rows) (filter is_open rows)))
    ≡ option_map connection (cond (b && p (connection r)) (Some r) (find (is_open_with p) rows))) [
      | true ↦ elim (p (connection r)) as (λ b. cond b (Some (connection r)) (find p (map connection (filter is_open rows)))
          ≡ option_map connection (cond b (Some r) (find (is_open_with p) rows))) [ true ↦ refl | false ↦ find_open p rows ]
      | false ↦ find_open p rows
    ]

pub live_found : (l : Legality) (a : About) (H : List Entry) (p : Connection → Bool) → LegalityStands l a H → find p (live H) ≡ option_map connection (find (is_open_with p) l.rows.items)
live_found l a H p s = ap (find p) (live_rows l a H s) ∙ find_open p l.rows.items

-- the live connections that a test of connections keeps, and a test of rows that agrees with one of connections
pub meant_rows : (M P : Connection → Bool) (Q : Row → Bool) (rows : List Row) → ((r : Row) → Q r ≡ P (connection r))
    → map number (filter (λ r. is_open r && (M (connection r) && Q r)) rows) ≡ numbers (filter P (filter M (map connection (filter is_open rows))))
meant_rows M P Q [] same = refl
meant_rows M P Q (r ∷ rows) same =
    let rest = meant_rows M P Q rows same in
    let F = filter (λ (r : Row). is_open r && (M (connection r) && Q r)) rows in
    let L = map connection (filter is_open rows) in
    elim (is_open r) as (λ b. map number (cond (b && (M (connection r) && Q r)) (r ∷ F) F) ≡ numbers (filter P (filter M (map connection (cond b (r ∷ filter is_open rows) (filter is_open rows)))))) [
      | true ↦ elim (M (connection r)) as (λ b. map number (cond (b && Q r) (r ∷ F) F) ≡ numbers (filter P (cond b (connection r ∷ filter M L) (filter M L)))) [
        | true ↦ ap (λ (b : Bool). map number (cond b (r ∷ F) F)) (same r)
            ∙ elim (P (connection r)) as (λ b. map number (cond b (r ∷ F) F) ≡ numbers (cond b (connection r ∷ filter P (filter M L)) (filter P (filter M L)))) [
              | true ↦ ap
                  (λ (l : List ℕ). number r ∷ l) rest
              | false ↦ rest
            ]
        | false ↦ rest
      ]
      | false ↦ rest
    ]
