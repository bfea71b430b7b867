-- The stays of a worker that takes over.
-- It serves clauses of functions of `storm`.
use Rattle.std.proofs.Common.{◌≡◌, ◌<◌, ◌+◌, ◌*◌, inl, inr, ℕ, Bool, false, List, [], ◌∷◌, ◌++◌, length, map, Option, Some, None, Result, Ok, Err, refl, ap, sym, ◌∙◌, subst, arith}
use Rattle.std.proofs.Common.{append-nil, length-append}
use Rattle.std.specs.List.{list_any, sum_by}
use Rattle.std.proofs.lemmas.Bool.{or_right}
use Rattle.std.proofs.lemmas.List.{length-map, map-append}
use Rattle.std.proofs.lemmas.List.Folds.{list_any-append}
use Rattle.std.proofs.lemmas.List.Sums.{sum_by_push}
use Rattle.bsc_history.specs.declared.call.Call.{Call}
use Rattle.bsc_history.specs.declared.call.Call.TheVariants.{Connect, Leave}
use Rattle.bsc_history.specs.declared.connection.Connection.{Connection}
use Rattle.bsc_history.specs.declared.ending.End.{End}
use Rattle.bsc_history.specs.declared.entry.Entry.{Entry}
use Rattle.bsc_history.specs.declared.mark.Stamped.{Stamped}
use Rattle.bsc_history.specs.declared.told.Told.{Told}
use Rattle.bsc_history.specs.Counting.{is_refused}
use Rattle.bsc_history.specs.Ends.{joined, joined_where}
use Rattle.bsc_history.specs.Replies.{numbers}
use Rattle.bsc_ring.specs.declared.ends.Outlet.{Outlet}
use Rattle.bsc_ring.specs.Ends.{FoundEnd, empties_of, given}
use Rattle.bsc_turn.specs.declared.pass.Pass.{Pass}
use Rattle.bsc_turn.specs.Passes.{number_of, seen}
use Rattle.bsc_desk.specs.declared.leaving.Gone.{Gone}
use Rattle.bsc_hub.specs.declared.hub.Hub.{Hub}
use Rattle.bsc_hub.specs.declared.joined.ConnectRefusal.{ConnectRefusal}
use Rattle.bsc_hub.specs.declared.joined.ConnectRefusal.TheVariants.{NoMemory as NoMemoryRefusal, Worn as WornRefusal, Refused}
use Rattle.bsc_hub.specs.declared.joined.Joined.{Joined}
use Rattle.bsc_hub.specs.Calls.{connect_made, leave_made}
use Rattle.bsc_hub.specs.Passing.{IsCaller, Passed}
use Rattle.bsc_load.specs.Inner.{Unjoined, cut_of as load_cut_of, ShowsBy as LoadShowsBy}
use Rattle.bsc_load.specs.Workers.{calls, within_64_bits}
use Rattle.bsc_load.proofs.Both.{goes_between, join_entry, joined_between, leave_entry}
use Rattle.bsc_load.proofs.Going.{goes_same, goes_then}
use Rattle.bsc_load.proofs.Unjoined.{asked_or_not}
use Rattle.bsc_load.specs.declared.storm.works.Cut.{Cut}
use Rattle.bsc_load.specs.declared.storm.works.Cut.TheVariants.{NoMemory, Short}
use Rattle.bsc_load.specs.declared.storm.works.Work.{Work}
use Rattle.bsc_load.specs.Storm.Inner.{HasRun, IsNew, MayRun, NoStay, ShowsBy, Stayed, StayedOften, StaysOnce, StormWorkerDid, StormWorkerRuns, TookSome, WasCut, cut_of}
use Rattle.bsc_load.specs.Storm.Peers.{taken_over}
use Rattle.bsc_load.specs.Storm.Workers.{AreStays, HasTaken, IsPart, Stay, stay_calls}
use Rattle.bsc_load.proofs.StormFacts.Taking.{has_taken, takes_unjoined}
use Rattle.bsc_history.proofs.Common.{joined-append}
use Rattle.bsc_lemmas.proofs.Lists.{all_append}

-- the sign of a refused connect
pub shows_own : (h : Hub) (S : List Stamped) (E : List Entry) (refusal : ConnectRefusal) → LoadShowsBy 1 h S E (load_cut_of refusal) → ShowsBy 1 h S E (cut_of refusal)
shows_own h S E NoMemoryRefusal so = tt
shows_own h S E (WornRefusal worn) so = so
shows_own h S E (Refused at refusal) so = so

pub no_stay : (h : Hub) (p q : Pass) (refusal : ConnectRefusal) → Unjoined h taken_over p q (load_cut_of refusal) → NoStay h p q (cut_of refusal)
no_stay h p q refusal u = record { made = u.made; calls = u.calls; quiet = u.quiet; goes = u.goes; shows = shows_own h (seen q) u.made refusal u.shows }

pub stays_once : (h : Hub) (p m q : Pass) (j : Joined) (o : Outlet) (told : Told Gone) → Passed h p [] (connect_made (number_of p) taken_over (Ok j)) m
    → Passed h m [] (leave_made (number_of m) j.conn (empties_of o) told) q →
    TookSome o → told.said.taken ≡ length (given o) → ((e : End) → FoundEnd o e → told.said.ending ≡ e) → StaysOnce h p q told.said.taken
unfolding joined_where
stays_once h p m q j o told came left took many ends = record {
  conn = j.conn;
  empties = empties_of o;
  first = join_entry p taken_over j;
  last = leave_entry m j.conn o told;
  joins = refl;
  leaves = refl;
  who = ap numbers (joined_between [] p m taken_over j j.conn o told);
  takes = (tt, (has_taken o j.conn told.said took many ends, tt));
  goes = goes_between h p m m q [] taken_over j j.conn o told came (goes_same h m came.caller) left;
}

-- so many stays
abbrev conns : List Stay → List ℕ
conns xs = map (λ (s : Stay). s.conn) xs

stay_calls_push : (xs : List Stay) (s : Stay) → stay_calls (xs ++ s ∷ []) ≡ stay_calls xs ++ Connect taken_over ∷ Leave s.conn s.taken s.empties ∷ []
stay_calls_push [] s = refl
stay_calls_push (x ∷ xs) s = ap (λ (l : List Call). Connect taken_over ∷ Leave x.conn x.taken x.empties ∷ l) (stay_calls_push xs s)

length_stays : (xs : List Stay) → length (stay_calls xs) ≡ 2 * length xs
length_stays [] = refl
length_stays (x ∷ xs) = (let k = length_stays xs in omega (arith, k))

pub stayed_none : (h : Hub) (p : Pass) → IsCaller h p → Stayed h 0 p p 0
unfolding joined_where
stayed_none h p is = record { stays = []; many = refl; made = []; calls = refl; joined = refl; takes = tt; goes = goes_same h p is; taken = refl }

pub stayed_more : (h : Hub) (k : ℕ) (p m q : Pass) (all more total : ℕ) → Stayed h k p m all → StaysOnce h m q more → total ≡ within_64_bits (all + more) → Stayed h (k + 1) p q total
stayed_more h k p m q all more total s o is =
    let x : Stay = record { conn = o.conn; taken = more; empties = o.empties } in
    let two = o.first ∷ o.last ∷ [] in
    let sum : total ≡ within_64_bits (sum_by (λ (s : Stay). s.taken) s.stays + more) = omega (arith, is, s.taken) in
    record {
      stays = s.stays ++ x ∷ [];
      many = length-append s.stays (x ∷ []) ∙ ap (λ (n : ℕ). n + 1) s.many;
      made = s.made ++ two;
      calls =
          map-append (λ (e : Entry). e.call) s.made two
          ∙ ap (λ (l : List Call). l ++ o.first.call ∷ o.last.call ∷ []) s.calls
          ∙ ap (λ (c : Call). stay_calls s.stays ++ c ∷ o.last.call ∷ []) o.joins
          ∙ ap (λ (c : Call). stay_calls s.stays ++ Connect taken_over ∷ c ∷ []) o.leaves
          ∙ sym (stay_calls_push s.stays x);
      joined =
          ap numbers (joined-append s.made two)
          ∙ map-append (λ (c : Connection). c.number) (joined s.made) (joined two)
          ∙ ap (λ (l : List ℕ). l ++ numbers (joined two)) s.joined
          ∙ ap (λ (l : List ℕ). conns s.stays ++ l) o.who
          ∙ sym (map-append (λ (s : Stay). s.conn) s.stays (x ∷ []));
      takes = all_append (λ (e : Entry). HasTaken e.call e.reply) s.made two s.takes o.takes;
      goes = goes_then h p m q s.made two s.goes o.goes;
      taken = sum ∙ ap within_64_bits (sym (sum_by_push (λ (s : Stay). s.taken) s.stays x));
    }

shows_after : (h : Hub) (n k : ℕ) (S : List Stamped) (E F : List Entry) (cut : Cut) → length E ≡ 2 * k → k < n → ShowsBy 1 h S F cut → ShowsBy (2 * n) h S (E ++ F) cut
shows_after h n k S E F NoMemory long less so = tt
shows_after h n k S E F Short long less so =
    let r = λ (x : Entry). is_refused x.reply in
    elim so [
      | inl refused ↦ inl (list_any-append r E F ∙ or_right (list_any r E) (list_any r F) refused)
      | inr worn ↦ inr (omega (arith, length-append E F, long, less, worn.0), worn.1)
    ]

pub stayed_cut : (h : Hub) (n k : ℕ) (p m q : Pass) (all : ℕ) (cut : Cut) → k < n → Stayed h k p m all → NoStay h m q cut → WasCut h false n p q cut
stayed_cut h n k p m q all cut less s u =
    let long : length s.made ≡ 2 * k =
    sym (length-map s.made (λ (e : Entry). e.call)) ∙ ap (λ (l : List Call). length l) s.calls ∙ length_stays s.stays ∙ ap (λ (n : ℕ). 2 * n) s.many in
    let asked = asked_or_not u.made taken_over u.calls in
    record {
      made = s.made ++ u.made;
      part = record {
        stays = s.stays;
        more = asked.0;
        few = omega (arith, s.many, less, asked.1);
        calls =
            map-append (λ (e : Entry). e.call) s.made u.made
            ∙ ap (λ (l : List Call). l ++ calls u.made) s.calls
            ∙ ap (λ (l : List Call). stay_calls s.stays ++ l) asked.2;
        joined =
            ap numbers (joined-append s.made u.made ∙ ap (λ (l : List Connection). joined s.made ++ l) u.quiet ∙ append-nil (joined s.made)) ∙ s.joined;
        takes = all_append (λ (e : Entry). HasTaken e.call e.reply) s.made u.made s.takes (takes_unjoined u.made taken_over u.calls);
      };
      goes = goes_then h p m q s.made u.made s.goes u.goes;
      shows = shows_after h n k (seen q) s.made u.made cut long less u.shows;
    }

-- a whole worker's entries are those of a worker
pub part_of_stays : (n : ℕ) (E : List Entry) (t : ℕ) → AreStays n E t → IsPart false n E
part_of_stays n E t w = record {
  stays = w.stays;
  more = 0;
  few = omega (arith, w.many);
  calls = w.calls ∙ sym (append-nil (stay_calls w.stays));
  joined = w.joined;
  takes = w.takes;
}

pub stays_run : (h : Hub) (n : ℕ) (p q : Pass) (result : Result ℕ Cut) → StayedOften h n p q result → StormWorkerRuns h false n p q result
stays_run h n p q (Ok all) s = (
  s.made,
  s.goes,
  record {
    taken = sum_by (λ (x : Stay). x.taken) s.stays;
    whole = record { stays = s.stays; many = s.many; calls = s.calls; joined = s.joined; takes = s.takes; taken = refl };
    said = s.taken;
  },
)
stays_run h n p q (Err cut) w = (w.made, w.goes, (w.part, w.shows))

-- a pass that had made no entry
pub has_run : (h : Hub) (sends : Bool) (n : ℕ) (p : Pass) (w : Work) → IsNew h p → StormWorkerRuns h sends n p w.pass w.taken → HasRun h sends n (number_of p) w
has_run h sends n p w new r = record {
  caller = r.1.caller;
  number = r.1.number;
  ended = r.1.took_in ∙ new.ended;
  draws_none = r.1.draws_none ∙ new.fresh;
  did =
      subst (λ (l : List Entry). StormWorkerDid h sends n l (seen w.pass) w.taken)
      (sym (r.1.own ∙ ap (λ (l : List Entry). l ++ r.0) new.own)) r.2;
}

-- a worker that may have run
pub may_run_none : (h : Hub) (sends : Bool) (n : ℕ) (p : Option Pass) → p ≡ None → MayRun h sends n p None
may_run_none h sends n p is = subst (λ (o : Option Pass). MayRun h sends n o None) (sym is) tt

pub may_run_some : (h : Hub) (sends : Bool) (n : ℕ) (p : Option Pass) (k : Pass) (w : Work) → p ≡ Some k → HasRun h sends n (number_of k) w → MayRun h sends n p (Some w)
may_run_some h sends n p k w is run = subst (λ (o : Option Pass). MayRun h sends n o (Some w)) (sym is) run
