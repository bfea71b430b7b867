-- The forwards of a worker.
-- It serves the clauses of `forward_all` and `forward`.
use Rattle.std.specs.Prelude.{⊤}
use Rattle.std.proofs.Common.{◌≡◌, ℕ, ◌+◌, ◌≤◌, ◌↔◌, IsErr, length, None, List, [], ◌∷◌, ◌++◌, Result, Ok, Err, refl, ap, sym, ◌∙◌, subst, arith, append-nil}
use Rattle.std.specs.Option.{option_to_list}
use Rattle.std.proofs.lemmas.List.{map-append}
use Rattle.std.proofs.lemmas.List.FromFn.{map-range_with_len_more}
use Rattle.bsc_history.specs.declared.call.Call.{Call}
use Rattle.bsc_history.specs.declared.call.Call.TheVariants.{Forward}
use Rattle.bsc_history.specs.declared.connection.Connection.{Connection}
use Rattle.bsc_history.specs.declared.entry.Entry.{Entry}
use Rattle.bsc_history.specs.declared.told.Told.{Told}
use Rattle.bsc_history.specs.declared.told.Worn.{Worn}
use Rattle.bsc_history.specs.Ends.{joined_where}
use Rattle.bsc_history.specs.Entries.{connection_of}
use Rattle.bsc_history.proofs.More.{joined-more}
use Rattle.bsc_ring.specs.declared.ends.Outlet.{Outlet}
use Rattle.bsc_ring.specs.Ends.{IsNewOutlet}
use Rattle.bsc_turn.specs.declared.pass.Pass.{Pass}
use Rattle.bsc_turn.specs.Passes.{number_of}
use Rattle.bsc_desk.specs.declared.forwarding.OneReply.{OneReply}
use Rattle.bsc_hub.specs.declared.hub.Hub.{Hub}
use Rattle.bsc_hub.specs.Calls.{one_made, one_stamped}
use Rattle.bsc_hub.specs.Passing.{IsCaller, Passed, about_of, found_history}
use Rattle.bsc_hub.proofs.Staying.{one_stays}
use Rattle.bsc_load.specs.declared.jobs.Cut.{Cut}
use Rattle.bsc_load.specs.Frames.{frame, npdu_octets}
use Rattle.bsc_load.specs.Inner.{IsCounted, KeepsOwn, LoadForwards, RanForwards, WorkerGoes, goes_on}
use Rattle.bsc_load.specs.Workers.{forwards, within_64_bits}
use Rattle.bsc_load.proofs.Calls.{forward_joins_none}
use Rattle.bsc_load.proofs.Going.{goes_none, goes_one, goes_same, goes_then, holds_by, holds_same, holds_then}

-- a forward, whatever it was told
pub forwarded : (h : Hub) (i s k : ℕ) (p q : Pass) (r : Result (Told OneReply) Worn) → IsCaller h p → Passed h p [] (one_made (number_of p) s (frame i k) r) q
    → (IsErr r ↔ ((about_of h).limits.calls ≤ length (found_history (one_made (number_of p) s (frame i k) r) q))) → LoadForwards h i s k p q (goes_on r)
forwarded h i s k p q (Ok t) is x worn = (
  (one_stamped (number_of p) s (frame i k) t.said).entry,
  refl,
  goes_one h p q _ x,
  holds_by h p q (one_made (number_of p) s (frame i k) (Ok t)) is x (one_stays (number_of p) s (frame i k) (Ok t)),
)
forwarded h i s k p q (Err e) is x worn = (
  goes_none h p q x,
  holds_by h p q None is x (one_stays (number_of p) s (frame i k) (Err e)),
  worn.0 refl,
)

pub forwarded_as : (h : Hub) (i s k : ℕ) (p q : Pass) (r : Result (Told OneReply) Worn) (m : List ℕ) (said : Result ⊤ Cut) → m ≡ frame i k → said ≡ goes_on r → IsCaller h p
    → Passed h p [] (one_made (number_of p) s m r) q → (IsErr r ↔ ((about_of h).limits.calls ≤ length (found_history (one_made (number_of p) s m r) q))) → LoadForwards h i s k p q said
forwarded_as h i s k p q r m said same told is x worn =
    subst (λ (a : Result ⊤ Cut). LoadForwards h i s k p q a) (sym told) (
    forwarded h i s k p q r is
    (subst (λ (m : List ℕ). Passed h p [] (one_made (number_of p) s m r) q) same x)
    (subst (λ (m : List ℕ). IsErr r ↔ ((about_of h).limits.calls ≤ length (found_history (one_made (number_of p) s m r) q))) same worn)
    )

-- no forward yet
pub ran_none : (h : Hub) (i s : ℕ) (p : Pass) → IsCaller h p → RanForwards h i s 0 p p
unfolding joined_where
ran_none h i s p is = record { made = []; calls = refl; quiet = refl; goes = goes_same h p is; holds = holds_same p }

-- nothing was taken yet
pub counted_none : (o : Outlet) → IsNewOutlet o → IsCounted o 0
counted_none o new = sym (ap (λ (l : List (List ℕ)). within_64_bits (npdu_octets l)) new.0)

-- one forward more
pub ran_more : (h : Hub) (i s k : ℕ) (p m q : Pass) (u : ⊤) → RanForwards h i s k p m → LoadForwards h i s k m q (Ok u) → RanForwards h i s (k + 1) p q
ran_more h i s k p m q u a b = record {
  made = a.made ++ b.0 ∷ [];
  calls =
      map-append (λ (e : Entry). e.call) a.made (b.0 ∷ [])
      ∙ ap (λ (l : List Call). l ++ b.0.call ∷ []) a.calls
      ∙ ap (λ (x : Call). forwards i s k ++ x ∷ []) b.1
      ∙ sym (map-range_with_len_more (λ k. Forward s (frame i k)) 0 k k (omega arith));
  quiet = joined-more a.made b.0 ∙ ap (λ (l : List Connection). l ++ option_to_list (connection_of b.0)) a.quiet ∙ ap option_to_list (forward_joins_none b.0 s (frame i k) b.1);
  goes = goes_then h p m q a.made (b.0 ∷ []) a.goes b.2;
  holds = holds_then p m q a.holds b.3;
}

-- a forward that failed
pub ran_still : (h : Hub) (i s n : ℕ) (p m q : Pass) → RanForwards h i s n p m → WorkerGoes h m [] q → KeepsOwn m q → RanForwards h i s n p q
ran_still h i s n p m q a b c = record {
  made = a.made;
  calls = a.calls;
  quiet = a.quiet;
  goes = subst (λ (l : List Entry). WorkerGoes h p l q) (append-nil a.made) (goes_then h p m q a.made [] a.goes b);
  holds = holds_then p m q a.holds c;
}
