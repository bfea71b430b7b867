-- Passes that are split off for the workers.
-- It serves the clauses of `split_three`.
use Rattle.std.proofs.Common.{◌≡◌, ◌<◌, ℕ, [], Option, Some, None, ap, arith}
use Rattle.std.specs.Prelude.{IfSome}
use Rattle.bsc_turn.specs.declared.pass.Pass.{Pass}
use Rattle.bsc_turn.specs.Passes.{newest_number, number_of}
use Rattle.bsc_hub.specs.declared.hub.Hub.{Hub}
use Rattle.bsc_hub.specs.Passing.{about_of}
use Rattle.bsc_hub.proofs.Following.{went_then}
use Rattle.bsc_load.specs.Storm.Inner.{HasSplit, IsNew, Splits, SplitsOne}

-- a pass that was split off is new
new_of : (h : Hub) (p q : Pass) (x : Option Pass) → HasSplit h p q x → IfSome x (IsNew h)
new_of h p q None s = tt
new_of h p q (Some x) s = s.0

-- where none was, the numbers are spent
spent_of : (h : Hub) (p q : Pass) (x : Option Pass) → HasSplit h p q x → x ≡ None → newest_number q ≡ (about_of h).limits.callers
spent_of h p q None s is = s
spent_of h p q (Some x) s is = cc

-- and stay so
spent_still : (h : Hub) (p q : Pass) (x : Option Pass) → HasSplit h p q x → newest_number p ≡ (about_of h).limits.callers → newest_number q ≡ (about_of h).limits.callers
spent_still h p q None s spent = s
spent_still h p q (Some x) s spent = absurd (omega (arith, s.1, s.2, s.3, spent))

abbrev number_in : Option Pass → ℕ
number_in None = 0
number_in (Some a) = number_of a

-- a later number is greater
later_number : (h : Hub) (p m q : Pass) (x y : Option Pass) → HasSplit h p m x → HasSplit h m q y → (a b : Pass) → x ≡ Some a → y ≡ Some b → number_of a < number_of b
later_number h p m q None y s t a b is_a is_b = cc
later_number h p m q (Some x) None s t a b is_a is_b = cc
later_number h p m q (Some x) (Some y) s t a b is_a is_b =
    let first : number_of x ≡ number_of a = ap number_in is_a in
    let second : number_of y ≡ number_of b = ap number_in is_b in
    omega (arith, s.2, t.1, first, second)

pub splits_three : (h : Hub) (p m n q : Pass) (x y z : Option Pass) → SplitsOne h p m x → SplitsOne h m n y → SplitsOne h n q z → Splits h p q x y z
splits_three h p m n q x y z one other sends =
    let no_one : x ≡ None → newest_number n ≡ (about_of h).limits.callers = λ is. spent_still h m n y other.split (spent_of h p m x one.split is) in
    record {
      went = went_then h p n q 2 1 [] [] None (went_then h p m n 1 1 [] [] None one.went other.went) sends.went;
      one = new_of h p m x one.split;
      other = new_of h m n y other.split;
      sends = new_of h n q z sends.split;
      rises = later_number h p m n x y one.split other.split;
      no_one = λ is. spent_still h n q z sends.split (no_one is);
      no_other = λ is. spent_still h n q z sends.split (spent_of h m n y other.split is);
      no_sender = spent_of h n q z sends.split;
    }
