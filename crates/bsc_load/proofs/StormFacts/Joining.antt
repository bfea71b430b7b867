-- The passes of the workers, joined.
-- It serves the clauses of `join_one` and `join_three`.
use Rattle.std.proofs.Common.{◌≡◌, List, ◌∷◌, ◌++◌, Option, Some, None, refl, sym, ◌∙◌, subst}
use Rattle.bsc_turn.specs.declared.pass.Pass.{Pass}
use Rattle.bsc_turn.specs.declared.view.EndedCaller.{EndedCaller}
use Rattle.bsc_turn.specs.Effects.{ended_of}
use Rattle.bsc_turn.specs.Histories.{StartsWith}
use Rattle.bsc_turn.specs.Passes.{ended_callers, newest_number, seen, view_of}
use Rattle.bsc_hub.specs.declared.hub.Hub.{Hub}
use Rattle.bsc_hub.specs.Passing.{IsCaller, Passed}
use Rattle.bsc_hub.proofs.Following.{passed_none, passed_then, starts_then}
use Rattle.bsc_load.specs.declared.storm.works.Work.{Work}
use Rattle.bsc_load.specs.Storm.Inner.{JoinsOne, MayJoin, SeesAll, StormJoins, ended_in}

pub joined_none : (h : Hub) (p : Pass) (o : Option Work) → o ≡ None → IsCaller h p → JoinsOne h p p o
joined_none h p o none is = subst (λ (x : Option Work). JoinsOne h p p x) (sym none) (record { passed = passed_none h p is; loaded = refl; sees = tt })

pub joined_some : (h : Hub) (p q : Pass) (o : Option Work) (w : Work) → o ≡ Some w → MayJoin h o → Passed h p (ended_of (view_of w.pass) ∷ ended_callers w.pass) None q
    → newest_number q ≡ newest_number p → StartsWith (seen q) (seen w.pass) → JoinsOne h p q o
joined_some h p q o w is may passed loaded sees =
    let m : MayJoin h (Some w) = subst (λ (x : Option Work). MayJoin h x) is may in
    subst (λ (x : Option Work). JoinsOne h p q x) (sym is) (record {
      passed = subst (λ (l : List EndedCaller). Passed h p (ended_of (view_of w.pass) ∷ l) None q) m.1 passed;
      loaded = loaded;
      sees = sees;
    })

-- what a pass sees a later one sees
sees_later : (q r : Pass) (w : Option Work) → StartsWith (seen r) (seen q) → SeesAll q w → SeesAll r w
sees_later q r None grows sees = tt
sees_later q r (Some w) grows sees = starts_then (seen w.pass) (seen q) (seen r) sees grows

pub joins_three : (h : Hub) (p m n q : Pass) (x y z : Option Work) → JoinsOne h p m x → JoinsOne h m n y → JoinsOne h n q z → StormJoins h p q x y z
joins_three h p m n q x y z one other sends = record {
  passed = passed_then h p m q (ended_in x) (ended_in y ++ ended_in z) None one.passed (passed_then h m n q (ended_in y) (ended_in z) None other.passed sends.passed);
  loaded = sends.loaded ∙ other.loaded ∙ one.loaded;
  one = sees_later n q x sends.passed.grows (sees_later m n x other.passed.grows one.sees);
  other = sees_later n q y sends.passed.grows other.sees;
  sends = sends.sees;
}
