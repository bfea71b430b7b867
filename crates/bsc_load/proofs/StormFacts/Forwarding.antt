-- What the sender of a storm does.
-- It serves clauses of functions of `storm`.
use Rattle.std.specs.Prelude.{⊤}
use Rattle.std.proofs.Common.{◌≡◌, ◌≤◌, ◌<◌, ◌+◌, ◌*◌, ◌↔◌, IsErr, inl, inr, ℕ, true, List, [], ◌∷◌, ◌++◌, length, take, None, Result, Ok, Err, refl, ap, sym, ◌∙◌, subst, arith, append-nil}
use Rattle.std.specs.Option.{option_to_list}
use Rattle.std.proofs.lemmas.List.{length-map, map-append}
use Rattle.std.proofs.lemmas.List.FromFn.{length-map-range_with_len, map-range_with_len_more, take-map-range_with_len}
use Rattle.bsc_history.specs.declared.call.Call.{Call}
use Rattle.bsc_history.specs.declared.call.Call.TheVariants.{Connect, Forward, Leave}
use Rattle.bsc_history.specs.declared.connection.Connection.{Connection}
use Rattle.bsc_history.specs.declared.entry.Entry.{Entry}
use Rattle.bsc_history.specs.declared.told.Told.{Told}
use Rattle.bsc_history.specs.declared.told.Worn.{Worn}
use Rattle.bsc_history.specs.Ends.{joined_where}
use Rattle.bsc_history.specs.Entries.{connection_of}
use Rattle.bsc_history.specs.Replies.{numbers}
use Rattle.bsc_history.proofs.More.{joined-more}
use Rattle.bsc_ring.specs.declared.ends.Outlet.{Outlet}
use Rattle.bsc_ring.specs.Ends.{IsNewOutlet, empties_of, given}
use Rattle.bsc_turn.specs.declared.pass.Pass.{Pass}
use Rattle.bsc_turn.specs.Histories.{StartsWith}
use Rattle.bsc_turn.specs.Passes.{number_of, seen}
use Rattle.bsc_desk.specs.declared.forwarding.OneReply.{OneReply}
use Rattle.bsc_desk.specs.declared.leaving.Gone.{Gone}
use Rattle.bsc_hub.specs.declared.hub.Hub.{Hub}
use Rattle.bsc_hub.specs.declared.joined.ConnectRefusal.{ConnectRefusal}
use Rattle.bsc_hub.specs.declared.joined.Joined.{Joined}
use Rattle.bsc_hub.specs.Calls.{connect_made, leave_made, one_made, one_stamped}
use Rattle.bsc_hub.specs.Passing.{IsCaller, Passed, about_of, found_history}
use Rattle.bsc_hub.proofs.Staying.{one_stays}
use Rattle.bsc_load.specs.Inner.{KeepsOwn, Unjoined, WorkerGoes, cut_of as load_cut_of}
use Rattle.bsc_load.specs.Workers.{calls}
use Rattle.bsc_load.proofs.Both.{goes_between, join_entry, joined_between, leave_entry, length_between}
use Rattle.bsc_load.proofs.Calls.{forward_joins_none}
use Rattle.bsc_load.proofs.Going.{goes_none, goes_one, goes_same, goes_then, holds_by, holds_same, holds_then}
use Rattle.bsc_load.proofs.Running.{outer_calls}
use Rattle.bsc_load.proofs.Unjoined.{asked_or_not}
use Rattle.bsc_load.specs.declared.storm.works.Cut.{Cut}
use Rattle.bsc_load.specs.declared.storm.works.Cut.TheVariants.{NoMemory, Short}
use Rattle.bsc_load.specs.Storm.Inner.{Sent, SentAll, ShowsBy, StormForwards, StormWasWorn, StormWorkerRuns, cut_of, goes_on}
use Rattle.bsc_load.specs.Storm.Peers.{storm_frame, storm_sender}
use Rattle.bsc_load.specs.Storm.Workers.{IsPart, IsSender, storm_forwards}
use Rattle.bsc_load.proofs.StormFacts.Stays.{shows_own}
use Rattle.bsc_hub.proofs.Guarding.{longer}

-- a forward, whatever it was told
forwarded : (h : Hub) (s k : ℕ) (p q : Pass) (r : Result (Told OneReply) Worn) → IsCaller h p → Passed h p [] (one_made (number_of p) s (storm_frame k) r) q
    → (IsErr r ↔ ((about_of h).limits.calls ≤ length (found_history (one_made (number_of p) s (storm_frame k) r) q))) → StormForwards h s k p q (goes_on r)
forwarded h s k p q (Ok t) is x worn = (
  (one_stamped (number_of p) s (storm_frame k) t.said).entry,
  refl,
  goes_one h p q _ x,
  holds_by h p q (one_made (number_of p) s (storm_frame k) (Ok t)) is x (one_stays (number_of p) s (storm_frame k) (Ok t)),
)
forwarded h s k p q (Err e) is x worn = (
  goes_none h p q x,
  holds_by h p q None is x (one_stays (number_of p) s (storm_frame k) (Err e)),
  worn.0 refl,
)

pub forwarded_as : (h : Hub) (s k : ℕ) (p q : Pass) (r : Result (Told OneReply) Worn) (m : List ℕ) (said : Result ⊤ Cut) → m ≡ storm_frame k → said ≡ goes_on r → IsCaller h p
    → Passed h p [] (one_made (number_of p) s m r) q → (IsErr r ↔ ((about_of h).limits.calls ≤ length (found_history (one_made (number_of p) s m r) q))) → StormForwards h s k p q said
forwarded_as h s k p q r m said same told is x worn =
    subst (λ (a : Result ⊤ Cut). StormForwards h s k p q a) (sym told) (
    forwarded h s k p q r is
    (subst (λ (m : List ℕ). Passed h p [] (one_made (number_of p) s m r) q) same x)
    (subst (λ (m : List ℕ). IsErr r ↔ ((about_of h).limits.calls ≤ length (found_history (one_made (number_of p) s m r) q))) same worn)
    )

-- no forward yet
pub sent_none : (h : Hub) (s : ℕ) (p : Pass) → IsCaller h p → Sent h s 0 p p
unfolding joined_where
sent_none h s p is = record { made = []; calls = refl; quiet = refl; goes = goes_same h p is; holds = holds_same p }

-- one forward more
pub sent_more : (h : Hub) (s k : ℕ) (p m q : Pass) (u : ⊤) → Sent h s k p m → StormForwards h s k m q (Ok u) → Sent h s (k + 1) p q
sent_more h s k p m q u a b = record {
  made = a.made ++ b.0 ∷ [];
  calls =
      map-append (λ (e : Entry). e.call) a.made (b.0 ∷ [])
      ∙ ap (λ (l : List Call). l ++ b.0.call ∷ []) a.calls
      ∙ ap (λ (x : Call). storm_forwards s k ++ x ∷ []) b.1
      ∙ sym (map-range_with_len_more (λ k. Forward s (storm_frame k)) 0 k k (omega arith));
  quiet = joined-more a.made b.0 ∙ ap (λ (l : List Connection). l ++ option_to_list (connection_of b.0)) a.quiet ∙ ap option_to_list (forward_joins_none b.0 s (storm_frame k) b.1);
  goes = goes_then h p m q a.made (b.0 ∷ []) a.goes b.2;
  holds = holds_then p m q a.holds b.3;
}

-- a forward that failed
pub sent_still : (h : Hub) (s n : ℕ) (p m q : Pass) → Sent h s n p m → WorkerGoes h m [] q → KeepsOwn m q → Sent h s n p q
sent_still h s n p m q a b c = record {
  made = a.made;
  calls = a.calls;
  quiet = a.quiet;
  goes = subst (λ (l : List Entry). WorkerGoes h p l q) (append-nil a.made) (goes_then h p m q a.made [] a.goes b);
  holds = holds_then p m q a.holds c;
}

-- the pass after the forwards, whatever they came to
pub sent_went : (h : Hub) (s n : ℕ) (m q : Pass) (result : Result ℕ Cut) → SentAll h s n m q result → IsCaller h q × StartsWith (seen q) (seen m) × KeepsOwn m q
sent_went h s n m q (Ok taken) ran = (ran.0.goes.caller, ran.0.goes.sees, ran.0.holds)
sent_went h s n m q (Err cut) ran = (ran.2.goes.caller, ran.2.goes.sees, ran.2.holds)

-- the first forwards are the first of more
first_forwards : (s n m : ℕ) → n ≤ m → storm_forwards s n ≡ take n (storm_forwards s m)
first_forwards s n m few = sym (take-map-range_with_len (λ k. Forward s (storm_frame k)) 0 m n few)

few_made : (s n : ℕ) (E : List Entry) → calls E ≡ storm_forwards s n → length E ≡ n
few_made s n E are = sym (length-map E (λ (e : Entry). e.call)) ∙ ap (λ (l : List Call). length l) are ∙ length-map-range_with_len (λ k. Forward s (storm_frame k)) 0 n

-- a whole sender's entries are those of a sender
pub part_of_sender : (n : ℕ) (E : List Entry) (t : ℕ) → IsSender (2 * n) E t → IsPart true n E
part_of_sender n E t w = record {
  who = w.sender ∷ [];
  more = 2 * n;
  calls = w.calls ∙ ap (λ (k : List Call). Connect storm_sender ∷ k ++ Leave w.sender 0 0 ∷ []) (first_forwards w.sender (2 * n) (2 * n) (omega arith));
  joined = w.joined;
}

-- those that were cut short show it
cut_shows : (h : Hub) (m q : Pass) (n k : ℕ) (E : List Entry) (e l : Entry) (cut : Cut) → k < 2 * n → length E ≡ k → StartsWith (seen q) (seen m) → StormWasWorn h m cut
    → ShowsBy (2 * n + 2) h (seen q) (e ∷ E ++ l ∷ []) cut
cut_shows h m q n k E e l NoMemory few many later worn = tt
cut_shows h m q n k E e l Short few many later worn = inr (omega (arith, length_between E e l, few, many), omega (arith, longer (seen m) (seen q) later, worn))

pub after_send : (h : Hub) (n : ℕ) (p m v q : Pass) (j : Joined) (o : Outlet) (told : Told Gone) (result : Result ℕ Cut) →
    Passed h p [] (connect_made (number_of p) storm_sender (Ok j)) m → SentAll h j.conn (2 * n) m v result →
    IsNewOutlet o → Passed h v [] (leave_made (number_of v) j.conn (empties_of o) told) q → told.said.taken ≡ length (given o) → StormWorkerRuns h true n p q result
after_send h n p m v q j o told (Ok t) came ran new left many =
    let E = ran.0.made in
    let e = join_entry p storm_sender j in
    let l = leave_entry v j.conn o told in
    let none : told.said.taken ≡ 0 = many ∙ ap (λ (x : List (List ℕ)). length x) new.0 in (
      e ∷ E ++ l ∷ [],
      goes_between h p m v q E storm_sender j j.conn o told came ran.0.goes left,
      record {
        taken = 0;
        whole = record {
          sender = j.conn;
          calls = outer_calls E (storm_forwards j.conn (2 * n)) e l (Connect storm_sender) j.conn told.said.taken (empties_of o) refl refl none new.1 ran.0.calls;
          joined = ap numbers (joined_between E p v storm_sender j j.conn o told) ∙ ap (λ (x : List Connection). j.conn ∷ numbers x) ran.0.quiet;
          none = refl;
        };
        said = ran.1;
      },
    )
after_send h n p m v q j o told (Err cut) came ran new left many =
    let f = ran.2 in
    let E = f.made in
    let e = join_entry p storm_sender j in
    let l = leave_entry v j.conn o told in
    let none : told.said.taken ≡ 0 = many ∙ ap (λ (x : List (List ℕ)). length x) new.0 in (
      e ∷ E ++ l ∷ [],
      goes_between h p m v q E storm_sender j j.conn o told came f.goes left,
      (
        record {
          who = j.conn ∷ [];
          more = ran.0;
          calls =
              outer_calls E (take ran.0 (storm_forwards j.conn (2 * n))) e l (Connect storm_sender) j.conn told.said.taken (empties_of o) refl refl none new.1
              (f.calls ∙ first_forwards j.conn ran.0 (2 * n) (omega (arith, ran.1)));
          joined = ap numbers (joined_between E p v storm_sender j j.conn o told) ∙ ap (λ (x : List Connection). j.conn ∷ numbers x) f.quiet;
        },
        cut_shows h v q n ran.0 E e l cut ran.1 (few_made j.conn ran.0 E f.calls) left.grows ran.3,
      ),
    )

shows_few : (h : Hub) (n : ℕ) (q : Pass) (E : List Entry) (cut : Cut) → ShowsBy 1 h (seen q) E cut → ShowsBy (2 * n + 2) h (seen q) E cut
shows_few h n q E NoMemory so = tt
shows_few h n q E Short so = elim so [ inl refused ↦ inl refused | inr worn ↦ inr (omega (arith, worn.0), worn.1) ]

-- a sender that didn't join
pub unsent : (h : Hub) (n : ℕ) (p q : Pass) (refusal : ConnectRefusal) → Unjoined h storm_sender p q (load_cut_of refusal) → StormWorkerRuns h true n p q (Err (cut_of refusal))
unsent h n p q refusal u =
    let asked = asked_or_not u.made storm_sender u.calls in (
      u.made,
      u.goes,
      (
        record { who = []; more = asked.0; calls = asked.2; joined = ap numbers u.quiet },
        shows_few h n q u.made (cut_of refusal) (shows_own h (seen q) u.made refusal u.shows),
      ),
    )
