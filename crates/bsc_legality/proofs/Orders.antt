-- Lists in an order, and connections that stand in the order of their numbers.
-- It serves the clauses of `breach` and `entry`.
use Rattle.std.proofs.Common.{◌≡◌, ◌<◌, Bool, true, false, not, cond, List, [], ◌∷◌, ◌++◌, filter, Option, Some, None, option_to_list, refl, arith, append-nil}
use Rattle.std.specs.Bool.{⊤}
use Rattle.std.specs.List.{AllByRecursion}
use Rattle.bsc_history.specs.declared.limits.About.{About}
use Rattle.bsc_history.specs.declared.connection.Connection.{Connection}
use Rattle.bsc_history.specs.declared.entry.Entry.{Entry}
use Rattle.bsc_history.specs.Entries.{connection_of}
use Rattle.bsc_history.specs.Ends.{joined_where, leaves, unleft}
use Rattle.bsc_history.specs.Legality.{Legal}
use Rattle.bsc_history.proofs.Lists.{In, In-filter, all_from_In}
use Rattle.bsc_history.proofs.More.{along, unleft-more}
use Rattle.bsc_history.proofs.Uniqueness.{comes}
use Rattle.bsc_history.proofs.Connections.{number_bound, unleft_joined}
use Rattle.bsc_lemmas.proofs.Lists.{all-filter, all-push}

-- the number of each connection is below those of all after it
abbrev pub Rise : List Connection → Type 0
Rise [] = ⊤
Rise (x ∷ xs) = AllByRecursion (λ (y : Connection). x.number < y.number) xs × Rise xs

rise-filter : (q : Connection → Bool) (xs : List Connection) → Rise xs → Rise (filter q xs)
rise-filter q [] rise = tt
rise-filter q (x ∷ xs) rise = let rest = rise-filter q xs rise.1 in elim
    (q x) as (λ b. Rise (cond b (x ∷ filter q xs) (filter q xs))) [ true ↦ (all-filter (λ (y : Connection). x.number < y.number) q xs rise.0, rest) | false ↦ rest ]

rise-push : (xs : List Connection) (y : Connection) → Rise xs → AllByRecursion (λ (x : Connection). x.number < y.number) xs → Rise (xs ++ y ∷ [])
rise-push [] y rise all = (tt, tt)
rise-push (x ∷ xs) y rise all = (all-push (λ (z : Connection). x.number < z.number) xs y rise.0 all.0, rise-push xs y rise.1 all.1)

rise-more : (xs : List Connection) (o : Option Connection) → Rise xs → ((x y : Connection) → In x xs → o ≡ Some y → x.number < y.number) → Rise (xs ++ option_to_list o)
rise-more xs None rise below = rw append-nil rise
rise-more xs (Some y) rise below = rise-push xs y rise (all_from_In (λ (x : Connection). x.number < y.number) xs (λ x m. below x y m refl))

-- The connections that haven't left stand in the order of their numbers.
pub unleft_rise : (a : About) (H : List Entry) → Legal a H → Rise (unleft H)
unfolding joined_where
unleft_rise a H legal = along a (λ G. Rise (unleft G)) tt (λ G e legalG p lawful.
    let stays = λ (x : Connection). not (leaves x.number e) in
    rw unleft-more (rise-more (filter stays (unleft G)) (connection_of e) (rise-filter stays (unleft G) p) (λ x y m new. (
    let most = number_bound a G x legalG (unleft_joined G x (In-filter stays x (unleft G) m).0).1 in
    let next = (comes a G e y lawful new).0 in
    omega arith)))) H legal
