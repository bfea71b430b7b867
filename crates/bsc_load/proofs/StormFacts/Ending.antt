-- The end of a storm.
-- It serves the clauses of `run`.
use Rattle.std.proofs.Common.{◌≡◌, ◌≢◌, ◌≤◌, ◌<◌, ◌+◌, inl, inr, ℕ, Bool, true, false, ◌||◌, cond, List, [], ◌∷◌, ◌++◌, length, take, Option, Some, None, Result, Ok, Err, refl, ap}
use Rattle.std.proofs.Common.{sym, ◌∙◌, subst, arith, append-nil, append_assoc}
use Rattle.std.specs.Prelude.{nat_lt}
use Rattle.std.specs.List.{sum_by}
use Rattle.std.proofs.lemmas.Bool.{ltb-false, ltb-true}
use Rattle.std.proofs.lemmas.List.{length-map}
use Rattle.std.proofs.lemmas.List.Sums.{sum_by-cons}
use Rattle.std.proofs.Math.Seq.{take-append_seam}
use mathlib.Core.Option.{some}
use lib.ListN.{get_elem?}
use Rattle.bsc_history.specs.declared.call.Call.TheVariants.{Connect, Leave}
use Rattle.bsc_history.specs.declared.counts.Counts.{Counts}
use Rattle.bsc_history.specs.declared.entry.Entry.{Entry}
use Rattle.bsc_history.specs.declared.mark.Stamped.{Stamped}
use Rattle.bsc_history.specs.declared.told.AlreadyStopped.{AlreadyStopped}
use Rattle.bsc_history.specs.declared.told.Told.{Told}
use Rattle.bsc_history.specs.Counting.{counts}
use Rattle.bsc_history.specs.Ends.{joined_where}
use Rattle.bsc_history.specs.Entries.{own}
use Rattle.bsc_history.specs.Marks.{entries}
use Rattle.bsc_history.proofs.More.{counts-more, entries-more}
use Rattle.bsc_turn.specs.declared.pass.Pass.{Pass}
use Rattle.bsc_turn.specs.declared.view.EndedCaller.{EndedCaller}
use Rattle.bsc_turn.specs.Effects.{ended_of}
use Rattle.bsc_turn.specs.Histories.{StartsWith}
use Rattle.bsc_turn.specs.Passes.{ended_callers, newest_number, number_of, own_list, seen, view_of}
use Rattle.bsc_hub.specs.declared.hub.Hub.{Hub}
use Rattle.bsc_hub.specs.Calls.{stop_made, stop_stamped}
use Rattle.bsc_hub.specs.Passing.{Passed, Placed, Went, about_of}
use Rattle.bsc_hub.proofs.Following.{passed_none, passed_then, starts_then}
use Rattle.bsc_load.specs.declared.ends.LoadStop.{LoadStop}
use Rattle.bsc_load.specs.declared.ends.LoadStop.TheVariants.{Short as ShortStop}
use Rattle.bsc_load.specs.Inner.{Stops}
use Rattle.bsc_load.specs.Workers.{within_64_bits}
use Rattle.bsc_load.proofs.Passing.{went_on}
use Rattle.bsc_load.specs.declared.storm.ends.StormEnd.{StormEnd}
use Rattle.bsc_load.specs.declared.storm.works.Cut.{Cut}
use Rattle.bsc_load.specs.declared.storm.works.Cut.TheVariants.{NoMemory, Short}
use Rattle.bsc_load.specs.declared.storm.works.Work.{Work}
use Rattle.bsc_load.specs.Storm.Inner.{HasRun, MayRun, SeesAll, ShowsBy, Splits, StormFinishes, StormJoins, StormWorkerDid, StormsFrom, all_short, all_taken_of, any_lacks, came_of}
use Rattle.bsc_load.specs.Storm.Inner.{ended_in, ends_as, lacks, short_of, taken_of}
use Rattle.bsc_load.specs.Storm.Peers.{taken_over}
use Rattle.bsc_load.specs.Storm.Storms.{Crew, LackedMemory, ShowsCut, StormRan, Storms, Worker, WorksPart, WorksWhole, in_list, short_as}
use Rattle.bsc_load.specs.Storm.Workers.{AreStays, IsPart, IsWholeStormWorker, ShowsShort, Stay, stay_calls, whole_length}
use Rattle.bsc_load.proofs.StormFacts.Forwarding.{part_of_sender}
use Rattle.bsc_load.proofs.StormFacts.Stays.{part_of_stays}
use Rattle.bsc_load.proofs.StormFacts.Taken.{all_taken, own_two, taken_by, taken_few}
use Rattle.bsc_load.proofs.StormFacts.Taking.{at_end}
use Rattle.bsc_load.specs.Workers.{calls}
use Rattle.bsc_lemmas.proofs.Booleans.{false_true as no_cut}
use Rattle.bsc_load.proofs.Common.{stopped_now}
use Rattle.bsc_hub.proofs.Guarding.{longer}

-- what a work is as a worker, by the history that was seen in the end

part_of_whole : (sends : Bool) (n : ℕ) (E : List Entry) (t : ℕ) → IsWholeStormWorker sends n E t → IsPart sends n E
part_of_whole false n E t w = part_of_stays n E t w
part_of_whole true n E t w = part_of_sender n E t w

part_of_none : (sends : Bool) (n : ℕ) → IsPart sends n []
unfolding joined_where
part_of_none false n = record { stays = []; more = 0; few = omega arith; calls = refl; joined = refl; takes = tt }
part_of_none true n = record { who = []; more = 0; calls = refl; joined = refl }

-- a worker, of which this is known: its pass, where it got one, what it came to, and the callers that were taken in
record Known (h : Hub) (sends : Bool) (n : ℕ) (p : Option Pass) (ends : List EndedCaller) (q : Pass) (r : Result ℕ Cut) (x : Worker) : Type 0 where
  pub callers : in_list x.caller ≡ ends
  pub part : WorksPart sends n x
  pub shows : ShowsCut h q sends n x
  pub short : short_as x.caller x.is_cut ≡ short_of r
  pub whole : lacks r ≡ false → short_of r ≡ 0 → WorksWhole sends n x × (taken_of r ≡ within_64_bits x.taken)
  pub number : (e : EndedCaller) → x.caller ≡ Some e → (k : Pass) × (p ≡ Some k) × (e.number ≡ number_of k)

shows_later : (sends : Bool) (n : ℕ) (h : Hub) (E : List Entry) (S T : List Stamped) → StartsWith T S → ShowsBy (whole_length sends n) h S E Short
    → ShowsShort sends n (about_of h) E (length (entries T))
shows_later sends n h E S T begins so =
    elim so [
      | inl refused ↦ inl refused
      | inr worn ↦ inr (worn.0, omega (arith, longer S T begins, worn.1))
    ]

no_caller : (P : Type 0) (e : EndedCaller) → None ≡ Some e → P
no_caller P e is = cc

a_caller : (P : Type 0) (e : EndedCaller) → Some e ≡ None → P
a_caller P e is = cc

abbrev number_in : Option EndedCaller → ℕ
number_in None = 0
number_in (Some e) = e.number

-- a caller's number is that of its pass
number_as : (h : Hub) (sends : Bool) (n : ℕ) (k : Pass) (w : Work) → HasRun h sends n (number_of k) w → (e : EndedCaller) → Some (ended_of (view_of w.pass)) ≡ Some e → e.number ≡ number_of k
number_as h sends n k w run e is = sym (ap number_in is) ∙ run.caller.0.1.1.2 ∙ run.number

-- a worker that got a pass
module _ (h : Hub) (sends : Bool) (n : ℕ) (k : Pass) (w : Work) (q : Pass) (begins : StartsWith (seen q) (seen w.pass)) (run : HasRun h sends n (number_of k) w) where
  at_pass : (e : EndedCaller) → Some (ended_of (view_of w.pass)) ≡ Some e → (a : Pass) × (Some k ≡ Some a) × (e.number ≡ number_of a)
  at_pass e is = (k, refl, number_as h sends n k w run e is)

  known_by : (r : Result ℕ Cut) → StormWorkerDid h sends n (own_list w.pass) (seen w.pass) r → (x : Worker) × Known h sends n (Some k) (ended_of (view_of w.pass) ∷ []) q r x
  known_by (Ok said) d = (
    record { caller = Some (ended_of (view_of w.pass)); is_cut = false; taken = d.taken },
    record {
      callers = refl;
      part = record { part = part_of_whole sends n (own_list w.pass) d.taken d.whole; draws_none = run.draws_none };
      shows = record { cut = λ is. no_cut _ is; without = λ is. a_caller _ (ended_of (view_of w.pass)) is };
      short = refl;
      whole = λ fine none. (record { ended = ended_of (view_of w.pass); caller = refl; uncut = refl; whole = d.whole }, d.said);
      number = at_pass;
    },
  )
  known_by (Err NoMemory) d = (
    record { caller = Some (ended_of (view_of w.pass)); is_cut = false; taken = 0 },
    record {
      callers = refl;
      part = record { part = d.0; draws_none = run.draws_none };
      shows = record { cut = λ is. no_cut _ is; without = λ is. a_caller _ (ended_of (view_of w.pass)) is };
      short = refl;
      whole = λ fine none. no_cut _ (sym fine);
      number = at_pass;
    },
  )
  known_by (Err Short) d = (
    record { caller = Some (ended_of (view_of w.pass)); is_cut = true; taken = 0 },
    record {
      callers = refl;
      part = record { part = d.0; draws_none = run.draws_none };
      shows = record { cut = λ is. shows_later sends n h (own_list w.pass) (seen w.pass) (seen q) begins d.1; without = λ is. a_caller _ (ended_of (view_of w.pass)) is };
      short = refl;
      whole = λ fine none. cc;
      number = at_pass;
    },
  )

-- a worker that got none
known_none : (h : Hub) (sends : Bool) (n : ℕ) (q : Pass) → newest_number q ≡ (about_of h).limits.callers → (x : Worker) × Known h sends n None [] q (Err Short) x
known_none h sends n q spent = (
  record { caller = None; is_cut = false; taken = 0 },
  record {
    callers = refl;
    part = record { part = part_of_none sends n; draws_none = refl };
    shows = record { cut = λ is. no_cut _ is; without = λ is. spent };
    short = refl;
    whole = λ fine none. cc;
    number = λ e is. no_caller _ e is;
  },
)

known_may : (h : Hub) (sends : Bool) (n : ℕ) (p : Option Pass) (w : Option Work) (v q : Pass) → StartsWith (seen q) (seen v) → SeesAll v w
    → (p ≡ None → newest_number q ≡ (about_of h).limits.callers) → MayRun h sends n p w →
    (x : Worker) × Known h sends n p (ended_in w) q (came_of w) x
known_may h sends n None None v q grows begins spent run = known_none h sends n q (spent refl)
known_may h sends n (Some k) (Some w) v q grows begins spent run = known_by h sends n k w q (starts_then (seen w.pass) (seen v) (seen q) begins grows) run w.taken run.did
known_may h sends n None (Some w) v q grows begins spent run = absurd run
known_may h sends n (Some k) None v q grows begins spent run = absurd run

-- how many frames the leaves of a worker say

taken_calls : (E : List Entry) → all_taken E ≡ sum_by taken_by (calls E)
taken_calls [] = refl
taken_calls (e ∷ E) = sum_by-cons (λ (x : Entry). taken_by x.call) e E ∙ ap (λ (n : ℕ). taken_by e.call + n) (taken_calls E) ∙ sym (sum_by-cons taken_by e.call (calls E))

taken_stays : (xs : List Stay) → sum_by taken_by (stay_calls xs) ≡ sum_by (λ (s : Stay). s.taken) xs
taken_stays [] = refl
taken_stays (x ∷ xs) =
    let C = stay_calls xs in
    let k = taken_stays xs in
    let one = sum_by-cons (λ (s : Stay). s.taken) x xs in
    let L = Leave x.conn x.taken x.empties in
    let leave : sum_by taken_by (L ∷ C) ≡ x.taken + sum_by taken_by C = sum_by-cons taken_by L C in
    let both : sum_by taken_by (stay_calls (x ∷ xs)) ≡ 0 + sum_by taken_by (L ∷ C) = sum_by-cons taken_by (Connect taken_over) (L ∷ C) in
    let two : sum_by taken_by (stay_calls (x ∷ xs)) ≡ x.taken + sum_by taken_by C = omega (arith, leave, both) in
    two ∙ ap (λ (n : ℕ). x.taken + n) k ∙ sym one

taken_whole : (n : ℕ) (E : List Entry) (t : ℕ) → AreStays n E t → all_taken E ≡ t
taken_whole n E t w = taken_calls E ∙ ap (sum_by taken_by) w.calls ∙ taken_stays w.stays ∙ sym w.taken

-- a caller that a pass took in has all entries of its number

-- what the pass took in is what it saw of those callers
module _ (h : Hub) (p q : Pass) (a b c : EndedCaller) (made : Option Placed) (x : Went h p 3 (a ∷ b ∷ c ∷ []) made q) where
  own_first : own (entries (seen q)) a.number ≡ a.own
  own_first =
      let sound = x.caller.0.1.1 in
      let found : get_elem? (ended_callers q) (length (ended_callers p)) ≡ some a = ap (λ (l : List EndedCaller). get_elem? l (length (ended_callers p))) x.takes_in
      ∙ at_end (ended_callers p) (b ∷ c ∷ []) a in
      (sound.5.1 (length (ended_callers p)) a found).1

  own_second : own (entries (seen q)) b.number ≡ b.own
  own_second =
      let sound = x.caller.0.1.1 in
      let P = ended_callers p ++ a ∷ [] in
      let all : ended_callers q ≡ P ++ b ∷ c ∷ [] = x.takes_in ∙ sym (append_assoc (ended_callers p) (a ∷ []) (b ∷ c ∷ [])) in
      let found : get_elem? (ended_callers q) (length P) ≡ some b = ap (λ (l : List EndedCaller). get_elem? l (length P)) all ∙ at_end P (c ∷ []) b in
      (sound.5.1 (length P) b found).1

-- a stop appends nothing
stop_appends_none : (h : Hub) (m q : Pass) (t : Told Counts) → Stops h m q (Ok t) → (counts (entries (seen q))).appended ≡ t.said.appended
stop_appends_none h m q t s =
    let before = s.passed.makes.before in
    let stop : Stamped = stop_stamped (number_of m) t.said in
    let all : entries (seen q) ≡ entries before ++ stop.entry ∷ [] = ap (λ (S : List Stamped). entries S) s.passed.makes.ends ∙ entries-more before stop in
    let long : length (entries before) ≡ t.at = length-map before (λ (s : Stamped). s.entry) ∙ sym s.passed.makes.place in
    let front : take t.at (entries (seen q)) ≡ entries before = ap (take t.at) all ∙ ap (λ (n : ℕ). take n (entries before ++ stop.entry ∷ [])) (sym long)
    ∙ take-append_seam (entries before) (stop.entry ∷ []) in
    let more : (counts (entries (seen q))).appended ≡ (counts (entries before)).appended + 0 = ap (λ H. (counts H).appended) all
    ∙ ap (λ (k : Counts). k.appended) (counts-more (entries before) stop.entry) in
    let due : t.said.appended ≡ (counts (entries before)).appended = ap (λ (k : Counts). k.appended) s.due ∙ ap (λ H. (counts H).appended) front in
    omega (arith, more, due)

lists_as : (h : Hub) (p q : Pass) (made : Option Placed) (A B C D E F : List EndedCaller) → D ≡ A → E ≡ B → F ≡ C → Went h p 3 (A ++ (B ++ C)) made q → Went h p 3 (D ++ (E ++ F)) made q
lists_as h p q made A B C D E F one two three x =
    subst (λ (k : List EndedCaller). Went h p 3 (D ++ (E ++ k)) made q) (sym three)
    (subst (λ (k : List EndedCaller). Went h p 3 (D ++ (k ++ C)) made q) (sym two)
    (subst (λ (k : List EndedCaller). Went h p 3 (k ++ (B ++ C)) made q) (sym one) x))

none_lack : (a b c : Bool) → (a || b || c) ≡ false → (a ≡ false) × (b ≡ false) × (c ≡ false)
none_lack false false false e = (refl, refl, refl)
none_lack true b c e = no_cut _ (sym e)
none_lack false true c e = no_cut _ (sym e)
none_lack false false true e = no_cut _ (sym e)

-- the three, as the pass q knows them in the end
record Three (h : Hub) (n : ℕ) (p q : Pass) (one other sends : Option Pass) (x y z : Option Work) (made : Option Placed) : Type 0 where
  pub crew : Crew
  pub first : Known h false n one (ended_in x) q (came_of x) crew.one
  pub second : Known h false n other (ended_in y) q (came_of y) crew.other
  pub third : Known h true n sends (ended_in z) q (came_of z) crew.sends
  pub ran : StormRan h p q n crew made

-- what the two took is no more than was appended
took_few : (h : Hub) (n : ℕ) (p q : Pass) (w : Crew) (made : Option Placed) → StormRan h p q n w made → (a : WorksWhole false n w.one) → (b : WorksWhole false n w.other)
    → WorksWhole true n w.sends → a.ended.number ≢ b.ended.number →
    w.one.taken + w.other.taken ≤ (counts (entries (seen q))).appended
took_few h n p q w made ran a b c apart =
    let H = entries (seen q) in
    let passed : Went h p 3 (a.ended ∷ b.ended ∷ c.ended ∷ []) made q =
    lists_as h p q made (in_list w.one.caller) (in_list w.other.caller) (in_list w.sends.caller) (a.ended ∷ []) (b.ended ∷ []) (c.ended ∷ [])
    (sym (ap in_list a.caller)) (sym (ap in_list b.caller)) (sym (ap in_list c.caller)) ran.went in
    let one : all_taken (own H a.ended.number) ≡ w.one.taken = ap all_taken (own_first h p q a.ended b.ended c.ended made passed) ∙ taken_whole n a.ended.own w.one.taken a.whole in
    let two : all_taken (own H b.ended.number) ≡ w.other.taken = ap all_taken (own_second h p q a.ended b.ended c.ended made passed) ∙ taken_whole n b.ended.own w.other.taken b.whole in
    let both = own_two H a.ended.number b.ended.number apart in
    let few = taken_few (about_of h) H passed.caller.1 in
    omega (arith, one, two, both, few)

add_within : (t a b c d : ℕ) → a ≡ within_64_bits c → b ≡ within_64_bits d → within_64_bits (a + b) ≡ within_64_bits (c + d)
add_within t a b c d first second = omega (arith, first, second)

module _ (h : Hub) (n : ℕ) (p m v : Pass) (one other sends : Option Pass) (x y z : Option Work) (split : Splits h p m one other sends) (j : StormJoins h m v x y z)
    (rx : MayRun h false n one x) (ry : MayRun h false n other y) (rz : MayRun h true n sends z) where
  three_by : (q : Pass) (made : Option Placed) → Passed h v [] made q → newest_number q ≡ newest_number v → Three h n p q one other sends x y z made
  three_by q made last loaded =
      let same : newest_number q ≡ newest_number m = loaded ∙ j.loaded in
      let kx = known_may h false n one x v q last.grows j.one (λ is. same ∙ split.no_one is) rx in
      let ky = known_may h false n other y v q last.grows j.other (λ is. same ∙ split.no_other is) ry in
      let kz = known_may h true n sends z v q last.grows j.sends (λ is. same ∙ split.no_sender is) rz in
      let took = ended_in x ++ (ended_in y ++ ended_in z) in
      let all : Went h p 3 took made q = subst (λ (l : List EndedCaller). Went h p 3 l made q) (append-nil took)
      (went_on h p m q 3 [] (took ++ []) made split.went (passed_then h m v q took [] made j.passed last)) in
      record {
        crew = record { one = kx.0; other = ky.0; sends = kz.0 };
        first = kx.1;
        second = ky.1;
        third = kz.1;
        ran = record {
          went = lists_as h p q made (ended_in x) (ended_in y) (ended_in z) (in_list kx.0.caller) (in_list ky.0.caller) (in_list kz.0.caller) kx.1.callers ky.1.callers kz.1.callers all;
          one = kx.1.part;
          other = ky.1.part;
          sends = kz.1.part;
        };
      }

  same_stop : (q : Pass) (told : Result (Told Counts) AlreadyStopped) → Stops h v q told → Passed h v [] (stop_made (number_of p) told) q
  same_stop q told s = subst (λ k. Passed h v [] (stop_made k told) q) (j.passed.number ∙ split.went.number) s.passed

  -- the two that stay have different numbers
  numbers_apart : (q : Pass) (made : Option Placed) (t : Three h n p q one other sends x y z made) (a b : EndedCaller) → t.crew.one.caller ≡ Some a → t.crew.other.caller ≡ Some b → a.number ≢ b.number
  numbers_apart q made t a b is_a is_b =
      let k = t.first.number a is_a in
      let l = t.second.number b is_b in
      let rises = split.rises k.0 l.0 k.1 l.1 in
      λ e. absurd (omega (arith, e, k.2, l.2, rises))

  some_short : (q : Pass) (told : Result (Told Counts) AlreadyStopped) (short : ℕ) → short ≡ all_short x y z → Stops h v q told → 0 < short → Storms h p q n (Err (ShortStop short))
  some_short q told short is s least =
      let t = three_by q (stop_made (number_of p) told) (same_stop q told s) s.loaded in
      record {
        workers = t.crew;
        told = told;
        ran = t.ran;
        some = least;
        count = omega (arith, is, t.first.short, t.second.short, t.third.short);
        one = t.first.shows;
        other = t.second.shows;
        sends = t.third.shows;
        stopped = stopped_now h v q told s;
      }

  none_short : (q : Pass) (told : Result (Told Counts) AlreadyStopped) → any_lacks x y z ≡ false → all_short x y z ≤ 0 → Stops h v q told → Storms h p q n (ends_as told (all_taken_of x y))
  none_short q (Ok told) fine none s =
      let t = three_by q (stop_made (number_of p) (Ok told)) (same_stop q (Ok told) s) s.loaded in
      let f = none_lack (lacks (came_of x)) (lacks (came_of y)) (lacks (came_of z)) fine in
      let wx = t.first.whole f.0 (omega (arith, none)) in
      let wy = t.second.whole f.1 (omega (arith, none)) in
      let wz = t.third.whole f.2 (omega (arith, none)) in
      let apart = numbers_apart q (stop_made (number_of p) (Ok told)) t wx.0.ended wy.0.ended wx.0.caller wy.0.caller in
      let few = took_few h n p q t.crew (stop_made (number_of p) (Ok told)) t.ran wx.0 wy.0 wz.0 apart in
      let same = stop_appends_none h v q told s in
      record {
        workers = t.crew;
        told = told;
        ran = t.ran;
        whole = record { one = wx.0; other = wy.0; sends = wz.0 };
        counts = s.due;
        taken = add_within 0 (taken_of (came_of x)) (taken_of (came_of y)) t.crew.one.taken t.crew.other.taken wx.1 wy.1;
        few = omega (arith, few, same);
      }
  none_short q (Err already) fine none s =
      let t = three_by q None s.passed s.loaded in
      let f = none_lack (lacks (came_of x)) (lacks (came_of y)) (lacks (came_of z)) fine in
      record {
        workers = t.crew;
        ran = t.ran;
        whole = record {
          one = (t.first.whole f.0 (omega (arith, none))).0;
          other = (t.second.whole f.1 (omega (arith, none))).0;
          sends = (t.third.whole f.2 (omega (arith, none))).0;
        };
        place = s.place;
      }

  answered : (q : Pass) (told : Result (Told Counts) AlreadyStopped) (short : ℕ) (k : Bool) → nat_lt 0 short ≡ k → short ≡ all_short x y z → any_lacks x y z ≡ false → Stops h v q told →
      Storms h p q n (cond k (Err (ShortStop short)) (ends_as told (all_taken_of x y)))
  answered q told short true is same fine s = some_short q told short same s (ltb-true 0 short is)
  answered q told short false is same fine s = none_short q told fine (omega (arith, ltb-false 0 short is, same)) s

  lacking : LackedMemory h p v n
  lacking =
      let t = three_by v None (passed_none h v j.passed.caller) refl in
      record { workers = t.crew; ran = t.ran }

pub storms_from : (h : Hub) (n : ℕ) (m q : Pass) (one other sends : Option Pass) (x y z : Option Work) (result : Result StormEnd LoadStop) →
    MayRun h false n one x → MayRun h false n other y → MayRun h true n sends z → StormFinishes h m q x y z result → StormsFrom h m one other sends n q result
storms_from h n m q one other sends x y z result rx ry rz f p split =
    let v = f.pass in
    elim f.ends [
      | inl lacks_some ↦ subst (λ (r : Result StormEnd LoadStop). Storms h p q n r) (sym lacks_some.2)
          (subst (λ (k : Pass). LackedMemory h p k n) (sym lacks_some.1) (lacking h n p m v one other sends x y z split f.joins rx ry rz))
      | inr fine ↦ subst (λ (r : Result StormEnd LoadStop). Storms h p q n r) (sym fine.1.2)
          (answered h n p m v one other sends x y z split f.joins rx ry rz q fine.1.0 (all_short x y z) (nat_lt 0 (all_short x y z)) refl refl fine.0 fine.1.1)
    ]
