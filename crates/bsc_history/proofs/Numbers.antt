-- Connections that haven't left have numbers of their own.
-- It serves clauses of functions of `laws`.
use Rattle.std.proofs.Common.{◌≡◌, ◌≢◌, ℕ, ◌==◌, Bool, true, not, List, filter, Some, is_none, refl, arith}
use Rattle.std.specs.List.{list_any}
use Rattle.std.proofs.lemmas.Bool.{eq-eqb, both_ways}
use Rattle.bsc_history.specs.declared.limits.About.{About}
use Rattle.bsc_history.specs.declared.entry.Entry.{Entry}
use Rattle.bsc_history.specs.declared.connection.Connection.{Connection}
use Rattle.bsc_history.specs.Entries.{connection_of, joins, moment}
use Rattle.bsc_history.specs.Ends.{end_by, first_end, joined_where, leaves, live, unleft}
use Rattle.bsc_history.specs.Legality.{Lawful, Legal}
use Rattle.bsc_history.specs.Laws.{Apart, NumbersAreNew}
use Rattle.bsc_history.proofs.Lists.{In, In-filter, any_In, Apart-filter, Apart-push}
use Rattle.bsc_history.proofs.More.{along, live-more, unleft-more}
use Rattle.bsc_history.proofs.Uniqueness.{settled, comes}
use Rattle.bsc_history.proofs.Named.{unleft_joined}

-- the number of one that joins is that of none of those who joined before
new_number : (a : About) (G : List Entry) (e : Entry) (test : ℕ → List Entry → Bool) (x y : Connection) → Legal a G → Lawful a (moment G e) → In x (joined_where test G)
    → connection_of e ≡ Some y → x.number ≢ y.number
new_number a G e test x y legal lawful m new same =
    let n = (comes a G e y lawful new).0 in
    let there : list_any (λ (z : Connection). z.number == x.number) (joined_where test G) ≡ true = any_In (λ z. z.number == x.number) x (joined_where test G) m (eq-eqb x.number x.number refl) in
    let came = unleft_joined test (λ z. z.number == x.number) x.number (λ z h. h) G there in
    both_ways (list_any (joins x.number) G) ((settled a G legal).fresh x.number (omega arith)) came

pub numbers_are_new : (a : About) (H : List Entry) → Legal a H → NumbersAreNew H
unfolding joined_where
numbers_are_new a H legal = along a NumbersAreNew tt (λ G e legalG apart lawful.
    let stays = λ (x : Connection). not (leaves x.number e) in
    rw unleft-more (Apart-push (λ (c : Connection). c.number) (filter stays (unleft G)) (connection_of e) (Apart-filter (λ (c : Connection). c.number) stays (unleft G) apart)
    (λ x y m new. new_number a G e (λ c after. not (list_any (leaves c) after)) x y legalG lawful (In-filter stays x (unleft G) m).0 new))) H legal

-- Live connections have numbers of their own.
pub live_numbers : (a : About) (H : List Entry) → Legal a H → Apart (λ (c : Connection). c.number) (live H)
unfolding joined_where
live_numbers a H legal = along a (λ G. Apart (λ (c : Connection). c.number) (live G)) tt (λ G e legalG apart lawful.
    let stays = λ (x : Connection). is_none (end_by x.number e) in
    rw live-more (Apart-push (λ (c : Connection). c.number) (filter stays (live G)) (connection_of e) (Apart-filter (λ (c : Connection). c.number) stays (live G) apart)
    (λ x y m new. new_number a G e (λ c after. is_none (first_end c after)) x y legalG lawful (In-filter stays x (live G) m).0 new))) H legal
