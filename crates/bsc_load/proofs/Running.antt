-- What a worker does from its sender's connect to its sender's leave.
-- It serves clauses of functions of `passes`, `storm`, `worker` and `workload`.
use Rattle.std.proofs.Common.{◌≡◌, ◌≤◌, inl, inr, ℕ, List, [], ◌∷◌, ◌++◌, length, take, Result, Ok, Err, refl, ap, ◌∙◌, arith, append_assoc}
use Rattle.std.specs.List.{list_any}
use Rattle.std.proofs.lemmas.Bool.{or_left, or_right}
use Rattle.std.proofs.lemmas.List.Folds.{list_any-append}
use Rattle.bsc_history.specs.declared.call.Call.{Call}
use Rattle.bsc_history.specs.declared.call.Call.TheVariants.{Connect, Leave}
use Rattle.bsc_history.specs.declared.entry.Entry.{Entry}
use Rattle.bsc_history.specs.declared.mark.Stamped.{Stamped}
use Rattle.bsc_history.specs.declared.told.Told.{Told}
use Rattle.bsc_history.specs.Counting.{is_refused}
use Rattle.bsc_history.specs.Marks.{entries}
use Rattle.bsc_history.specs.Replies.{numbers}
use Rattle.bsc_ring.specs.declared.ends.Outlet.{Outlet}
use Rattle.bsc_ring.specs.Ends.{IsNewOutlet, empties_of, given}
use Rattle.bsc_turn.specs.declared.pass.Pass.{Pass}
use Rattle.bsc_turn.specs.Passes.{number_of, seen}
use Rattle.bsc_desk.specs.declared.leaving.Gone.{Gone}
use Rattle.bsc_hub.specs.declared.hub.Hub.{Hub}
use Rattle.bsc_hub.specs.declared.joined.Joined.{Joined}
use Rattle.bsc_hub.specs.Calls.{connect_made, leave_made}
use Rattle.bsc_hub.specs.Passing.{Passed, about_of}
use Rattle.bsc_load.specs.declared.jobs.Cut.{Cut}
use Rattle.bsc_load.specs.declared.jobs.Cut.TheVariants.{NoMemory, Short}
use Rattle.bsc_load.specs.Inner.{AfterBoth, LoadWorkerRuns, ShowsBy, inner_calls}
use Rattle.bsc_load.specs.Peers.{receiver, sender}
use Rattle.bsc_load.specs.Workers.{IsPart, IsWholeWorker, calls, calls_up_to, forwards}
use Rattle.bsc_load.proofs.Both.{calls_between, goes_between, join_entry, joined_between, leave_entry, length_between}
use Rattle.bsc_load.proofs.Calls.{first_forwards}
use Rattle.bsc_load.proofs.Emptying.{emptied_more, emptied_part}
use Rattle.bsc_load.proofs.Unjoined.{first_later}
use Rattle.bsc_hub.proofs.Guarding.{longer}

-- those that were cut short show it by all of their entries
more_shows : (h : Hub) (S T : List Stamped) (E : List Entry) (e l : Entry) (cut : Cut) → length (entries S) ≤ length (entries T) → ShowsBy 1002 h S E cut → ShowsBy 1004 h T (e ∷ E ++ l ∷ []) cut
more_shows h S T E e l NoMemory later so = tt
more_shows h S T E e l Short later so =
    let r = λ (x : Entry). is_refused x.reply in
    elim so [
      | inl refused ↦ inl (or_right (r e) (list_any r (E ++ l ∷ [])) (list_any-append r E (l ∷ []) ∙ or_left (list_any r E) (list_any r (l ∷ [])) refused))
      | inr worn ↦ inr (omega (arith, length_between E e l, worn.0), omega (arith, later, worn.1))
    ]

-- the calls of a worker whose sender joined and left, which took nothing
pub outer_calls : (E : List Entry) (C : List Call) (e l : Entry) (x : Call) (s taken empties : ℕ) → e.call ≡ x → l.call ≡ Leave s taken empties → taken ≡ 0 → empties ≡ 0 → calls E ≡ C
    → calls (e ∷ E ++ l ∷ []) ≡ x ∷ C ++ Leave s 0 0 ∷ []
outer_calls E C e l x s taken empties joins leaves none never are =
    let L = leaves ∙ ap (λ (n : ℕ). Leave s n empties) none ∙ ap (λ (n : ℕ). Leave s 0 n) never in
    calls_between E e l
    ∙ ap (λ (c : Call). c ∷ calls E ++ l.call ∷ []) joins
    ∙ ap (λ (c : Call). x ∷ calls E ++ c ∷ []) L
    ∙ ap (λ (k : List Call). x ∷ k ++ Leave s 0 0 ∷ []) are

-- those of a whole worker
whole_calls : (C : List Call) (x y z : Call) → x ∷ (C ++ y ∷ []) ++ z ∷ [] ≡ x ∷ C ++ y ∷ z ∷ []
whole_calls C x y z = ap (λ (k : List Call). x ∷ k) (append_assoc C (y ∷ []) (z ∷ []))

-- those of one that was cut short
cut_calls : (i s : ℕ) (who : List ℕ) (n taken empties : ℕ) → Connect (sender i) ∷ inner_calls i s who n taken empties ++ Leave s 0 0 ∷ [] ≡ calls_up_to i (s ∷ who) n taken empties
cut_calls i s [] n taken empties = refl
cut_calls i s (r ∷ others) n taken empties = whole_calls (Connect (receiver i) ∷ take n (forwards i s 1000)) (Connect (sender i)) (Leave r taken empties) (Leave s 0 0)

-- a whole worker's entries are those of a worker
pub part_of_whole : (i : ℕ) (E : List Entry) (r taken : ℕ) → IsWholeWorker i E r taken → IsPart i E
part_of_whole i E r taken w = record {
  who = w.sender ∷ r ∷ [];
  more = 1000;
  taken = taken;
  empties = w.empties;
  calls =
      let ends = Leave r taken w.empties ∷ Leave w.sender 0 0 ∷ [] in
      w.calls ∙ ap (λ (k : List Call). Connect (sender i) ∷ Connect (receiver i) ∷ k ++ ends) (first_forwards i w.sender 1000 (omega arith));
  joined = w.joined;
  emptied = (omega arith, w.emptied);
}

pub after_run : (h : Hub) (i : ℕ) (p m n q : Pass) (j : Joined) (o : Outlet) (told : Told Gone) (result : Result ℕ Cut) →
    Passed h p [] (connect_made (number_of p) (sender i) (Ok j)) m → AfterBoth h i j.conn m n result →
    IsNewOutlet o → Passed h n [] (leave_made (number_of n) j.conn (empties_of o) told) q → told.said.taken ≡ length (given o) →
    LoadWorkerRuns h i p q result
after_run h i p m n q j o told (Ok octets) came b new left many =
    let E = b.made in
    let e = join_entry p (sender i) j in
    let l = leave_entry n j.conn o told in (
      e ∷ E ++ l ∷ [],
      goes_between h p m n q E (sender i) j j.conn o told came b.goes left,
      record {
        conn = b.conn;
        taken = b.taken;
        frames = b.frames;
        whole = record {
          sender = j.conn;
          empties = b.empties;
          calls =
              let C = Connect (receiver i) ∷ forwards i j.conn 1000 in
              let y = Leave b.conn b.taken b.empties in
              outer_calls E (C ++ y ∷ []) e l (Connect (sender i)) j.conn told.said.taken (empties_of o) refl refl (many ∙ ap (λ (x : List (List ℕ)). length x) new.0) new.1 b.calls
              ∙ whole_calls C (Connect (sender i)) y (Leave j.conn 0 0);
          joined = ap numbers (joined_between E p n (sender i) j j.conn o told) ∙ ap (λ (x : List ℕ). j.conn ∷ x) b.joined;
          emptied = emptied_more E e l 1000 b.conn b.taken b.empties b.emptied;
        };
        many = b.many;
        first = first_later (about_of h) (seen n) (seen q) b.conn b.frames left.grows b.first;
        counted = b.counted;
      },
    )
after_run h i p m n q j o told (Err cut) came b new left many =
    let E = b.made in
    let e = join_entry p (sender i) j in
    let l = leave_entry n j.conn o told in (
      e ∷ E ++ l ∷ [],
      goes_between h p m n q E (sender i) j j.conn o told came b.goes left,
      (
        record {
          who = j.conn ∷ b.who;
          more = b.more;
          taken = b.taken;
          empties = b.empties;
          calls =
              outer_calls E (inner_calls i j.conn b.who b.more b.taken b.empties) e l (Connect (sender i)) j.conn told.said.taken (empties_of o) refl refl
              (many ∙ ap (λ (x : List (List ℕ)). length x) new.0) new.1 b.calls
              ∙ cut_calls i j.conn b.who b.more b.taken b.empties;
          joined = ap numbers (joined_between E p n (sender i) j j.conn o told) ∙ ap (λ (x : List ℕ). j.conn ∷ x) b.joined;
          emptied = emptied_part E e l j.conn b.who b.more b.taken b.empties b.emptied;
        },
        more_shows h (seen n) (seen q) E e l cut (longer (seen n) (seen q) left.grows) b.shows,
      ),
    )
