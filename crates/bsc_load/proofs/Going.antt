-- A pass that goes on from call to call.
-- It serves clauses of functions of `passes`, `storm`, `worker` and `workload`.
use Rattle.std.proofs.Common.{◌≡◌, ℕ, List, [], ◌∷◌, ◌++◌, Option, Some, None, refl, ap, sym, ◌∙◌, subst, append_assoc, append-nil}
use Rattle.bsc_history.specs.declared.entry.Entry.{Entry}
use Rattle.bsc_history.specs.declared.mark.Mark.{Mark}
use Rattle.bsc_history.specs.Marks.{mark_of}
use Rattle.bsc_history.proofs.Marks.{mark_grows}
use Rattle.bsc_turn.specs.declared.pass.Pass.{Pass}
use Rattle.bsc_turn.specs.Histories.{StartsWith}
use Rattle.bsc_turn.specs.Passes.{ended_callers, own_list, seen}
use Rattle.bsc_turn.proofs.Beginnings.{starts_self}
use Rattle.bsc_hub.specs.declared.hub.Hub.{Hub}
use Rattle.bsc_hub.specs.Passing.{IsCaller, Passed, Placed, StaysBy}
use Rattle.bsc_hub.proofs.Following.{drew_none, starts_then}
use Rattle.bsc_hub.proofs.Owning.{owned_kept}
use Rattle.bsc_load.specs.Inner.{KeepsOwn, WorkerGoes}

-- no call
pub goes_same : (h : Hub) (p : Pass) → IsCaller h p → WorkerGoes h p [] p
goes_same h p is = record {
  caller = is;
  number = refl;
  sees = starts_self (seen p);
  own = sym (append-nil (own_list p));
  took_in = refl;
  draws_none = refl;
}

-- some calls, and then others
pub goes_then : (h : Hub) (p m q : Pass) (E F : List Entry) → WorkerGoes h p E m → WorkerGoes h m F q → WorkerGoes h p (E ++ F) q
goes_then h p m q E F a b = record {
  caller = b.caller;
  number = b.number ∙ a.number;
  sees = starts_then (seen p) (seen m) (seen q) a.sees b.sees;
  own = b.own ∙ ap (λ (l : List Entry). l ++ F) a.own ∙ append_assoc (own_list p) E F;
  took_in = b.took_in ∙ a.took_in;
  draws_none = b.draws_none ∙ a.draws_none;
}

-- a call that made an entry, and one that made none
pub goes_one : (h : Hub) (p q : Pass) (m : Placed) → Passed h p [] (Some m) q → WorkerGoes h p (m.stamped.entry ∷ []) q
goes_one h p q m x = record {
  caller = x.caller;
  number = x.number;
  sees = x.grows;
  own = x.makes.grew;
  took_in = x.takes_in ∙ append-nil (ended_callers p);
  draws_none = drew_none h p q [] (Some m) x;
}

pub goes_none : (h : Hub) (p q : Pass) → Passed h p [] None q → WorkerGoes h p [] q
goes_none h p q x = record {
  caller = x.caller;
  number = x.number;
  sees = x.grows;
  own = x.makes ∙ sym (append-nil (own_list p));
  took_in = x.takes_in ∙ append-nil (ended_callers p);
  draws_none = drew_none h p q [] None x;
}

-- a call that is no leave keeps what is the caller's own
pub holds_by : (h : Hub) (p q : Pass) (made : Option Placed) → IsCaller h p → Passed h p [] made q → ((c : ℕ) → StaysBy made c) → KeepsOwn p q
holds_by h p q made is passed stays c v has = owned_kept h p q [] made c v is passed (stays c) has

pub holds_then : (p m q : Pass) → KeepsOwn p m → KeepsOwn m q → KeepsOwn p q
holds_then p m q a b c v has = b c v (a c v has)

pub holds_same : (p : Pass) → KeepsOwn p p
holds_same p c v has = has

-- a mark that is kept stays
pub mark_later : (p q : Pass) (c : ℕ) (m : Mark) → StartsWith (seen q) (seen p) → mark_of (seen p) c ≡ Some m → mark_of (seen q) c ≡ Some m
mark_later p q c m sees has = subst (λ l. mark_of l c ≡ Some m) (sym sees.1) (mark_grows (seen p) sees.0 c m has)
