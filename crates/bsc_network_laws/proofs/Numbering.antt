-- Who stays a caller's own by one entry more, and who has joined still when other entries come behind.
-- It serves clauses of functions of `laws`.
use Rattle.std.proofs.Common.{◌≡◌, inl, inr, ℕ, ◌==◌, true, false, ◌&&◌, List, [], ◌∷◌, ◌++◌, filter, option_to_list}
use Rattle.std.proofs.lemmas.Bool.{and_parts, eqb-true}
use Rattle.bsc_history.specs.declared.limits.About.{About}
use Rattle.bsc_history.specs.declared.entry.Entry.{Entry}
use Rattle.bsc_history.specs.declared.connection.Connection.{Connection}
use Rattle.bsc_history.specs.Entries.{connection_of, moment}
use Rattle.bsc_history.specs.Ends.{joined_where, joined, leaves}
use Rattle.bsc_history.specs.Legality.{Lawful, Legal, is_of}
use Rattle.bsc_history.proofs.Lifting.{stays}
use Rattle.bsc_history.proofs.Lists.{In, In-append, In-left, In-right}

-- What a caller joined and didn't leave stays so by an entry that isn't its own Leave.
pub stays_own : (a : About) (H : List Entry) (e : Entry) (p c : ℕ) → Legal a H → Lawful a (moment H e) → ((e.caller == p) ≡ true → leaves c e ≡ false) → is_of H p c ≡ true
    → is_of (H ++ e ∷ []) p c ≡ true
stays_own a H e p c legal lawful stay of =
    stays a p c (λ x. (x.number == c) && (x.caller == p)) (λ x h. let two = and_parts (x.number == c) (x.caller == p) h in
    (eqb-true x.caller p two.1, eqb-true x.number c two.0)) H e legal lawful stay of

-- Who has joined has joined still, when other entries come behind.
pub joined_longer : (G es : List Entry) (x : Connection) → In x (joined G) → In x (joined (G ++ es))
unfolding joined_where
joined_longer [] es x m = absurd m
joined_longer (e ∷ G) es x m =
    let new : List Connection = filter (λ c. true) (option_to_list (connection_of e)) in
    elim (In-append x new (joined G) m) [ inl here ↦ In-left x new (joined (G ++ es)) here | inr later ↦ In-right x new (joined (G ++ es)) (joined_longer G es x later) ]
