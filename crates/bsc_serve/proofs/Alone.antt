-- Who called a hub that was served.
-- It serves clauses of functions of `laws`.
use Rattle.std.proofs.Common.{inl, inr, ⊎_elim, ◌≡◌, ◌≢◌, ◌⊎◌, ℕ, zero, suc, ◌<◌, Bool, true, false, not, cond, IsTrue, List, [], ◌∷◌, ◌++◌, map, flat_map, length, Option, Some}
use Rattle.std.proofs.Common.{None, refl, ap, sym, ◌∙◌, subst, arith, append-nil, ◌==◌, ◌||◌, take, Result, Ok, Err, append_assoc, length-append}
use Rattle.std.specs.List.{AllByRecursion}
use Rattle.std.specs.Prelude.{⊤}
use Rattle.std.proofs.lemmas.Bool.{or_cases, eqb-true, eq-eqb}
use Rattle.std.proofs.lemmas.List.{length-map, map-append, take_at}
use Rattle.std.proofs.lemmas.List.Elements.{recursion_from_All}
use mathlib.Core.Option.{some, some-injective, some-ne-none}
use lib.ListN.{get_elem?}
use Rattle.bsc_history.specs.declared.counts.Counts.{Counts}
use Rattle.bsc_history.specs.declared.entry.Entry.{Entry}
use Rattle.bsc_history.specs.declared.mark.Stamped.{Stamped}
use Rattle.bsc_history.specs.declared.told.AlreadyStopped.{AlreadyStopped}
use Rattle.bsc_history.specs.declared.told.Told.{Told}
use Rattle.bsc_history.specs.Entries.{own}
use Rattle.bsc_history.specs.Laws.{Apart}
use Rattle.bsc_history.specs.Legality.{Legal, may_call}
use Rattle.bsc_history.specs.Replies.{connect_reply, forward_reply, is_stopped, reply}
use Rattle.bsc_history.specs.declared.call.Call.{Call}
use Rattle.bsc_history.specs.declared.call.Call.TheVariants.{Connect, Forward, Leave, Stop, Count}
use Rattle.bsc_history.specs.declared.limits.About.{About}
use Rattle.bsc_history.specs.declared.looks.Look.{Look}
use Rattle.bsc_history.specs.declared.reply.Refusal.TheVariants.{Stopped as RefusedStopped}
use Rattle.bsc_history.specs.declared.reply.Reply.{Reply}
use Rattle.bsc_history.specs.declared.reply.Reply.TheVariants.{Refused, Stopped}
use Rattle.bsc_history.specs.Marks.{entries}
use Rattle.bsc_history.proofs.More.{entries-more}
use Rattle.bsc_history.proofs.Parts.{Legal-at, own-append}
use Rattle.bsc_desk.specs.Entries.{stop_entry}
use Rattle.bsc_edge.specs.declared.notice.Notice.{Notice}
use Rattle.bsc_edge.specs.declared.said.Said.{Said}
use Rattle.bsc_turn.specs.declared.pass.Pass.{Pass}
use Rattle.bsc_turn.specs.declared.view.EndedCaller.{EndedCaller}
use Rattle.bsc_turn.specs.declared.view.View.{View}
use Rattle.bsc_turn.specs.Callers.{Rises, callers_in, drawn_in, has}
use Rattle.bsc_turn.specs.Effects.{IsConsistent, ended_of}
use Rattle.bsc_turn.specs.Histories.{StartsWith, own_of}
use Rattle.bsc_turn.proofs.Uniting.{at_middle}
use Rattle.bsc_turn.specs.Passes.{drawn_list, ended_callers, loads_made, number_of, own_list, seen, view_of}
use Rattle.bsc_turn.proofs.Callers.{drew_none, has_either, has_left, has_right, own_there}
use Rattle.bsc_turn.proofs.Beginnings.{own_mine}
use Rattle.bsc_hub.specs.declared.hub.Hub.{Hub}
use Rattle.bsc_hub.specs.Calls.{stop_made, stop_stamped}
use Rattle.bsc_hub.specs.Passing.{IsCaller, Passed, Went, about_of, found_history}
use Rattle.bsc_hub.specs.Whole.{EachIsOf, IsOneOf, TookAll}
use Rattle.bsc_hub.proofs.Whole.{whole}
use Rattle.bsc_session.specs.declared.job.SessionJob.{SessionJob}
use Rattle.bsc_session.specs.declared.session_end.SessionEnd.{SessionEnd}
use Rattle.bsc_session.specs.Jobs.{Worked}
use Rattle.bsc_serve.specs.declared.end.ServeEnd.{ServeEnd}
use Rattle.bsc_serve.specs.Alone.{AllButStopAreOfJobs, EntriesAreOfJobs, HasEnded, HasEndedAtLast, IsOfJob, JobsAreApart, JobsEndAtLast, IsToldStopped, JobsHaveEnded}
use Rattle.bsc_serve.specs.Alone.{NothingBehindStop, SeenAreOfJobs, ServingIsAlone}
use Rattle.bsc_serve.specs.Events.{AllStand, AreFates, Event, OutAfter, arrived, callers_of, ended, jobs_of, links_of, numbers_of}
use Rattle.bsc_serve.specs.Fates.{caller_in, job_in, returned, spent, started}
use Rattle.bsc_serve.specs.Serving.{Cut, CutBy, Serving, cut_callers, cut_numbers}
use Rattle.bsc_serve.specs.Terms.{Terms}
use Rattle.bsc_serve.specs.Worlds.{ServedWorld}
use Rattle.bsc_serve.proofs.Arrivals.{callers-append, fates_then, numbers-append, out_then}
use Rattle.bsc_serve.proofs.Sessions.{ended_so, found_still}

-- the numbers of some callers
abbrev numbers : List EndedCaller → List ℕ
numbers l = map (λ (e : EndedCaller). e.number) l

-- the numbers of the passes of some jobs
abbrev numbers_out : {L C N : Type 0} → List (SessionJob L C N) → List ℕ
numbers_out {L} {C} {N} js = map (λ (j : SessionJob L C N). number_of j.pass) js

not_none : (n : ℕ) → has [] n ≡ true → ⊥
not_none n h = let bad : false ≡ true = h in cc

-- the first number of a list, or one behind it
has_cons : (m : ℕ) (xs : List ℕ) (n : ℕ) → has (m ∷ xs) n ≡ true → (m ≡ n) ⊎ (has xs n ≡ true)
has_cons m xs n h = ⊎_elim (λ e. inl (eqb-true m n e)) (λ e. inr e) (or_cases (m == n) (has xs n) h)

has_first : (m : ℕ) (xs : List ℕ) (n : ℕ) → m ≡ n → has (m ∷ xs) n ≡ true
has_first m xs n e = has_left (m ∷ []) xs n (ap (λ (k : ℕ). has (m ∷ []) k) (sym e) ∙ ap (λ (b : Bool). b || false) (eq-eqb m m refl))

all_append : {A : Type 0} (P : A → Type 0) (xs ys : List A) → AllByRecursion P xs → AllByRecursion P ys → AllByRecursion P (xs ++ ys)
all_append P [] ys a b = b
all_append P (x ∷ xs) ys a b = (a.0, all_append P xs ys a.1 b)

all_split : {A : Type 0} (P : A → Type 0) (before : List A) (x : A) (behind : List A) → AllByRecursion P (before ++ x ∷ behind) → P x × AllByRecursion P (before ++ behind)
all_split P [] x behind a = (a.0, a.1)
all_split P (y ∷ before) x behind a = (let k = all_split P before x behind a.1 in (k.0, (a.0, k.1)))

all_front : {A : Type 0} (P : A → Type 0) (xs ys : List A) → AllByRecursion P (xs ++ ys) → AllByRecursion P xs
all_front P [] ys a = tt
all_front P (x ∷ xs) ys a = (a.0, all_front P xs ys a.1)

all_back : {A : Type 0} (P : A → Type 0) (xs ys : List A) → AllByRecursion P (xs ++ ys) → AllByRecursion P ys
all_back P [] ys a = a
all_back P (x ∷ xs) ys a = all_back P xs ys a.1

-- who ended and made no load drew nothing
none_drawn : (l : List EndedCaller) → ((i : ℕ) (e : EndedCaller) → get_elem? l i ≡ some e → e.drawn ≡ []) → flat_map (λ (e : EndedCaller). e.drawn) l ≡ []
none_drawn [] none = refl
none_drawn (x ∷ xs) none = ap (λ (l : List ℕ). l ++ flat_map (λ (e : EndedCaller). e.drawn) xs) (none 0 x refl) ∙ none_drawn xs (λ i e got. none (suc i) e got)

load_at : (l : List EndedCaller) → AllByRecursion (λ (e : EndedCaller). e.loads ≡ 0) l → (i : ℕ) (e : EndedCaller) → get_elem? l i ≡ some e → e.loads ≡ 0
load_at [] all i e got = absurd (some-ne-none e (sym got))
load_at (x ∷ xs) all zero e got = ap (λ (y : EndedCaller). y.loads) (sym (some-injective x e got)) ∙ all.0
load_at (x ∷ xs) all (suc i) e got = load_at xs all.1 i e got

-- Caller 0, who took in the caller of each number that it drew, has all callers.
module _ (h : Hub) (q : Pass) (took : List EndedCaller) (is : IsCaller h q) (number_zero : number_of q ≡ 0) (ended_is : ended_callers q ≡ took) (all : TookAll took q) where
  abbrev v : View
  v = view_of q

  drawn_is : drawn_in v ≡ v.drawn
  drawn_is =
      ap (λ (l : List EndedCaller). v.drawn ++ flat_map (λ (e : EndedCaller). e.drawn) l) ended_is
      ∙ (ap (λ (l : List ℕ). v.drawn ++ l) (none_drawn took (λ i e got. drew_none e.drawn e.loads (load_at took all.unloaded i e got)
      (is.0.1.1.5.3 i e (subst (λ (l : List EndedCaller). get_elem? l i ≡ some e) (sym ended_is) got))))
      ∙ append-nil v.drawn)

  callers_are : callers_in v ≡ 0 ∷ numbers took
  callers_are = ap (λ (n : ℕ). n ∷ numbers v.ended) (is.0.1.1.2 ∙ number_zero) ∙ ap (λ (l : List EndedCaller). 0 ∷ numbers l) ended_is

  alone_so : EachIsOf took q
  alone_so before behind e at =
      subst (λ (l : List EndedCaller). IsOneOf (number_of q) l e.caller) ended_is
      (whole h q is (
        ap (λ (l : List ℕ). has l 0) callers_are,
        λ n there. ap (λ (l : List ℕ). has l n) callers_are ∙ has_right (0 ∷ []) (numbers took) n (all.drawn n (ap (λ (l : List ℕ). has l n) (sym drawn_is) ∙ there)),
      )
      before behind e at)

-- What is left of a job has its number, and asked for no number more than the job had.
abbrev pub WorksAlone : {L C N : Type 0} → (SessionJob L C N → SessionEnd L C N → Type 0) → Type 0
WorksAlone {L} {C} {N} works = (j : SessionJob L C N) (d : SessionEnd L C N) → works j d → ((view_of d.pass).number ≡ number_of j.pass) × (loads_made d.pass ≡ loads_made j.pass)

pub works_alone : {L C N : Type 0} (talk : L → Option (List Said)) (faults : L → ℕ) (notices : L → Option (List Notice)) (readings : C → Option (List ℕ)) (held : N → Option (List ℕ)) (unput : N → ℕ)
    → WorksAlone (Worked talk faults notices readings held unput)
works_alone talk faults notices readings held unput j d w = let goes = w.served.goes in (goes.caller.0.1.1.2 ∙ goes.number, goes.draws_none)

module _ {L C N : Type 0} (works : SessionJob L C N → SessionEnd L C N → Type 0) (begins : Option (List ℕ) → ℕ → N → Type 0) (talk : L → Option (List Said)) (alone : WorksAlone works) where
  -- where no job is out at last, whoever has a number that was drawn ended
  covered : (out : List (SessionJob L C N)) (events : List (Event L C N)) → OutAfter works out events [] → (n : ℕ)
      → (has (numbers_out out) n ≡ true) ⊎ (has (numbers_of events) n ≡ true) → has (numbers (callers_of events)) n ≡ true
  covered out [] o n h = absurd (not_none n (⊎_elim (λ a. ap (λ (l : List (SessionJob L C N)). has (numbers_out l) n) o ∙ a) (λ a. a) h))
  covered out (arrived l (started j) ∷ more) o n h =
      let both : numbers_out (out ++ j ∷ []) ≡ numbers_out out ++ number_of j.pass ∷ [] = map-append (λ (k : SessionJob L C N). number_of k.pass) out (j ∷ []) in
      covered (out ++ j ∷ []) more o n
      (⊎_elim
      (λ a. inl (ap (λ (x : List ℕ). has x n) both ∙ has_left (numbers_out out) (number_of j.pass ∷ []) n a))
      (λ a. ⊎_elim
      (λ b. inl (ap (λ (x : List ℕ). has x n) both ∙ has_right (numbers_out out) (number_of j.pass ∷ []) n b))
      (λ b. inr b)
      (has_either (number_of j.pass ∷ []) (numbers_of more) n a))
      h)
  covered out (arrived l (returned e) ∷ more) o n h =
      let whole : out ++ [] ≡ out = append-nil out in
      ⊎_elim
      (λ a. has_right (e.number ∷ []) (numbers (callers_of more)) n (covered (out ++ []) more o n (inl (ap (λ (x : List (SessionJob L C N)). has (numbers_out x) n) whole ∙ a))))
      (λ a. ⊎_elim
      (λ b. has_left (e.number ∷ []) (numbers (callers_of more)) n b)
      (λ b. has_right (e.number ∷ []) (numbers (callers_of more)) n (covered (out ++ []) more o n (inr b)))
      (has_either (e.number ∷ []) (numbers_of more) n a))
      h
  covered out (arrived l spent ∷ more) o n h =
      let whole : out ++ [] ≡ out = append-nil out in
      covered (out ++ []) more o n (⊎_elim (λ a. inl (ap (λ (x : List (SessionJob L C N)). has (numbers_out x) n) whole ∙ a)) (λ a. inr a) h)
  covered out (ended j d ∷ more) o n h =
      let before = o.0 in
      let behind = o.1 in
      let head : ℕ = (view_of d.pass).number in
      let split : numbers_out out ≡ numbers_out before ++ number_of j.pass ∷ numbers_out behind =
      ap numbers_out o.2 ∙ map-append (λ (k : SessionJob L C N). number_of k.pass) before (j ∷ behind) in
      let rest : numbers_out (before ++ behind) ≡ numbers_out before ++ numbers_out behind = map-append (λ (k : SessionJob L C N). number_of k.pass) before behind in
      let later : (has (numbers_out (before ++ behind)) n ≡ true) ⊎ (has (numbers_of more) n ≡ true) → has (numbers (callers_of (ended j d ∷ more))) n ≡ true =
      λ k. has_right (head ∷ []) (numbers (callers_of more)) n (covered (before ++ behind) more o.4 n k) in
      ⊎_elim
      (λ a. ⊎_elim
      (λ b. later (inl (ap (λ (x : List ℕ). has x n) rest ∙ has_left (numbers_out before) (numbers_out behind) n b)))
      (λ b. ⊎_elim
      (λ e. has_first head (numbers (callers_of more)) n ((alone j d o.3).0 ∙ e))
      (λ k. later (inl (ap (λ (x : List ℕ). has x n) rest ∙ has_right (numbers_out before) (numbers_out behind) n k)))
      (has_cons (number_of j.pass) (numbers_out behind) n b))
      (has_either (numbers_out before) (number_of j.pass ∷ numbers_out behind) n (ap (λ (x : List ℕ). has x n) (sym split) ∙ a)))
      (λ a. later (inr a))
      h

  abbrev Unloaded : SessionJob L C N → Type 0
  Unloaded j = loads_made j.pass ≡ 0

  -- none of those that ended asked for a number
  unloaded : (h : Hub) (terms : Terms) (p q : Pass) (out : List (SessionJob L C N)) (events : List (Event L C N)) (still : List (SessionJob L C N)) → AreFates begins talk h terms p q events
      → AllByRecursion Unloaded out → OutAfter works out events still → AllByRecursion (λ (e : EndedCaller). e.loads ≡ 0) (callers_of events)
  unloaded h terms p q out [] still f a o = tt
  unloaded h terms p q out (arrived l (started j) ∷ more) still f a o = unloaded h terms p q (out ++ j ∷ []) more still f.1 (all_append Unloaded out (j ∷ []) a (f.0.pass.new.2, tt)) o
  unloaded h terms p q out (arrived l (returned e) ∷ more) still f a o = (f.0.0.1, unloaded h terms p q (out ++ []) more still f.1 (all_append Unloaded out [] a tt) o)
  unloaded h terms p q out (arrived l spent ∷ more) still f a o = unloaded h terms p q (out ++ []) more still f.1 (all_append Unloaded out [] a tt) o
  unloaded h terms p q out (ended j d ∷ more) still f a o =
      let k = all_split Unloaded o.0 j o.1 (subst (λ (x : List (SessionJob L C N)). AllByRecursion Unloaded x) o.2 a) in
      ((alone j d o.3).1 ∙ k.0, unloaded h terms p q (o.0 ++ o.1) more still f k.1 o.4)

  cut_is : (cut : Option (Cut L)) → numbers (cut_callers cut) ≡ cut_numbers cut
  cut_is None = refl
  cut_is (Some c) = refl

  cut_unloaded : (cut : Option (Cut L)) (end : ServeEnd) → CutBy cut end → AllByRecursion (λ (e : EndedCaller). e.loads ≡ 0) (cut_callers cut)
  cut_unloaded None end by = tt
  cut_unloaded (Some c) end by = (by.1.1, tt)

  -- what took no link made no job and drew no number
  fates_none : (h : Hub) (terms : Terms) (p q : Pass) (late : List (Event L C N)) → links_of late ≡ [] → AreFates begins talk h terms p q late
  fates_none h terms p q [] none = tt
  fates_none h terms p q (arrived l f ∷ more) none = absurd (let bad : l ∷ links_of more ≡ [] = none in cc)
  fates_none h terms p q (ended j d ∷ more) none = fates_none h terms p q more none

  pub serving_is_alone : ServingIsAlone works begins talk
  serving_is_alone terms before after end first s =
      let p = before.beside.pass in
      let q = after.beside.pass in
      let front : List EndedCaller = callers_of s.events ++ cut_callers s.cut in
      let took : List EndedCaller = front ++ callers_of s.late in
      let front_names : List ℕ = numbers (callers_of s.events) ++ cut_numbers s.cut in
      let late_names : List ℕ = numbers (callers_of s.late) in
      let all_ended : ended_callers q ≡ took = s.joined.takes_in ∙ ap (λ (l : List EndedCaller). l ++ callers_of s.late) (s.went.takes_in ∙ ap (λ (l : List EndedCaller). l ++ front) first.1) in
      let drew : drawn_list q ≡ numbers_of s.events ++ cut_numbers s.cut = s.drew ∙ ap (λ (l : List ℕ). l ++ (numbers_of s.events ++ cut_numbers s.cut)) first.2 in
      let names : numbers took ≡ front_names ++ late_names =
      map-append (λ (e : EndedCaller). e.number) front (callers_of s.late)
      ∙ ap (λ (l : List ℕ). l ++ late_names) (map-append (λ (e : EndedCaller). e.number) (callers_of s.events) (cut_callers s.cut)
      ∙ ap (λ (l : List ℕ). numbers (callers_of s.events) ++ l) (cut_is s.cut)) in
      let both : callers_of (s.events ++ s.late) ≡ callers_of s.events ++ callers_of s.late = callers-append s.events s.late in
      let both_names : numbers (callers_of (s.events ++ s.late)) ≡ numbers (callers_of s.events) ++ late_names =
      ap numbers both ∙ map-append (λ (e : EndedCaller). e.number) (callers_of s.events) (callers_of s.late) in
      let out : OutAfter works [] (s.events ++ s.late) [] = out_then works [] s.still [] s.events s.late s.out s.late_out in
      let fates : AreFates begins talk before.hub terms p q (s.events ++ s.late) =
      fates_then begins talk before.hub terms p q s.events s.late s.fates (fates_none before.hub terms p q s.late s.only_ends) in
      let light : AllByRecursion (λ (e : EndedCaller). e.loads ≡ 0) (callers_of s.events ++ callers_of s.late) =
      subst (AllByRecursion (λ (e : EndedCaller). e.loads ≡ 0)) both (unloaded before.hub terms p q [] (s.events ++ s.late) [] fates tt out) in
      let all : TookAll took q = record {
        drawn = λ n is.
            ap (λ (l : List ℕ). has l n) names
            ∙ ⊎_elim
            (λ a. ⊎_elim
            (λ b. has_left front_names late_names n (has_left (numbers (callers_of s.events)) (cut_numbers s.cut) n b))
            (λ b. has_right front_names late_names n b)
            (has_either (numbers (callers_of s.events)) late_names n
            (ap (λ (l : List ℕ). has l n) (sym both_names)
            ∙ covered [] (s.events ++ s.late) out n (inr (ap (λ (l : List ℕ). has l n) (numbers-append s.events s.late) ∙ has_left (numbers_of s.events) (numbers_of s.late) n a)))))
            (λ a. has_left front_names late_names n (has_right (numbers (callers_of s.events)) (cut_numbers s.cut) n a))
            (has_either (numbers_of s.events) (cut_numbers s.cut) n (ap (λ (l : List ℕ). has l n) (sym drew) ∙ is));
        unloaded = all_append (λ (e : EndedCaller). e.loads ≡ 0) front (callers_of s.late)
            (all_append (λ (e : EndedCaller). e.loads ≡ 0) (callers_of s.events) (cut_callers s.cut)
            (all_front (λ (e : EndedCaller). e.loads ≡ 0) (callers_of s.events) (callers_of s.late) light) (cut_unloaded s.cut end s.cut_last))
            (all_back (λ (e : EndedCaller). e.loads ≡ 0) (callers_of s.events) (callers_of s.late) light);
      } in
      alone_so before.hub q took s.joined.caller (s.joined.number ∙ (s.went.number ∙ first.0)) all_ended all

-- ---- the entries before the Stop

no_more : (l : List Entry) → length l ≡ 0 → l ≡ []
no_more [] e = refl
no_more (x ∷ xs) e = absurd (omega (arith, e))

-- what a stop found is what the pass has seen since, but for the Stop and what stands behind it
found_begins : (h : Hub) (p v q : Pass) (drew : ℕ) (took : List EndedCaller) (r : Result (Told Counts) AlreadyStopped) → Went h p drew took (stop_made (number_of p) r) v
    → StartsWith (seen q) (seen v) → (rest : List Entry) × (entries (seen q) ≡ found_history (stop_made (number_of p) r) q ++ rest)
found_begins h p v q drew took (Err already) w more = ([], sym (append-nil (entries (seen q))))
found_begins h p v q drew took (Ok t) w more =
    let k = found_still h p v q drew took t w more in
    let rest : List Entry = stop_entry (number_of p) t.said ∷ k.1 in
    (rest, k.2 ∙ ap (λ (x : List Entry). x ++ rest) (sym k.3))

-- in what a stop found the own pass has no entry, if it had none before
found_none : (h : Hub) (p v q : Pass) (drew : ℕ) (took last : List EndedCaller) (r : Result (Told Counts) AlreadyStopped) → Went h p drew took (stop_made (number_of p) r) v
    → Passed h v last None q → own_list p ≡ [] → own (found_history (stop_made (number_of p) r) q) (number_of q) ≡ []
found_none h p v q drew took last (Err already) w x none = x.all_own ∙ (x.makes ∙ (w.makes ∙ none))
found_none h p v q drew took last (Ok t) w x none =
    let m = w.makes in
    let n = number_of v in
    let s : Stamped = stop_stamped (number_of p) t.said in
    let k = found_still h p v q drew took t w x.grows in
    let split : entries (seen v) ≡ entries m.before ++ s.entry ∷ [] = ap entries m.ends ∙ entries-more m.before s in
    let place : length (entries m.before) ≡ t.at = length-map m.before (λ (x : Stamped). x.entry) ∙ sym m.place in
    let found : take t.at (entries (seen v)) ≡ entries m.before = ap (λ (x : List Entry). take t.at x) split ∙ take_at (entries m.before) (s.entry ∷ []) t.at place in
    let mine : own (entries (seen v)) n ≡ own (entries m.before) n ++ s.entry ∷ [] = ap (λ (x : List Stamped). own_of x n) m.ends ∙ own_mine m.before s n (sym w.number) in
    let all : own (entries (seen v)) n ≡ s.entry ∷ [] = w.all_own ∙ (m.grew ∙ ap (λ (x : List Entry). x ++ s.entry ∷ []) none) in
    let many : length (own (entries m.before) n ++ s.entry ∷ []) ≡ 1 = ap (λ (x : List Entry). length x) (sym mine ∙ all) in
    ap (own (take t.at (entries (seen q)))) x.number
    ∙ (ap (λ (x : List Entry). own x n) (k.3 ∙ (sym k.4 ∙ found)) ∙ no_more (own (entries m.before) n) (omega (arith, length-append (own (entries m.before) n) (s.entry ∷ []), many)))

-- of a list with one element that one is the first
one_alone : (xs ys : List Entry) (e s : Entry) → xs ++ e ∷ ys ≡ s ∷ [] → e ≡ s
one_alone [] ys e s is = (let k : e ∷ ys ≡ s ∷ [] = is in cc)
one_alone (x ∷ xs) ys e s is = absurd (let k : length (x ∷ (xs ++ e ∷ ys)) ≡ 1 = ap (λ (l : List Entry). length l) is in let n = length-append xs (e ∷ ys) in omega (arith, k, n))

-- an own pass that had made no entry made the Stop and no other
stop_alone : (h : Hub) (p v q : Pass) (drew : ℕ) (took last : List EndedCaller) (r : Result (Told Counts) AlreadyStopped) → Went h p drew took (stop_made (number_of p) r) v
    → Passed h v last None q → own_list p ≡ [] → (earlier later : List Entry) (e : Entry) → entries (seen q) ≡ earlier ++ e ∷ later → e.caller ≡ number_of q → e.call ≡ Stop
stop_alone h p v q drew took last (Err already) w x none earlier later e at mine =
    absurd (own_there earlier later e (ap (λ (l : List Entry). own l e.caller) (sym at) ∙ (ap (own (entries (seen q))) mine ∙ (x.all_own ∙ (x.makes ∙ (w.makes ∙ none))))))
stop_alone h p v q drew took last (Ok t) w x none earlier later e at mine =
    let n = number_of q in
    let s : Entry = stop_entry (number_of p) t.said in
    let all : own (entries (seen q)) n ≡ s ∷ [] = x.all_own ∙ (x.makes ∙ (w.makes.grew ∙ ap (λ (l : List Entry). l ++ s ∷ []) none)) in
    let there : own (entries (seen q)) n ≡ own earlier n ++ e ∷ own later n =
    ap (λ (l : List Entry). own l n) at ∙ (own-append earlier (e ∷ later) n ∙ ap (λ (b : Bool). own earlier n ++ cond b (e ∷ own later n) (own later n)) (eq-eqb e.caller n mine)) in
    ap (λ (y : Entry). y.call) (one_alone (own earlier n) (own later n) e s (sym there ∙ all))

module _ {L C N : Type 0} (works : SessionJob L C N → SessionEnd L C N → Type 0) (begins : Option (List ℕ) → ℕ → N → Type 0) (talk : L → Option (List Said)) (alone : WorksAlone works) where
  -- a job, by its number
  job_there : (js : List (SessionJob L C N)) (n : ℕ) → has (map (λ (j : SessionJob L C N). number_of j.pass) js) n ≡ true → IsOfJob js n
  job_there [] n h = absurd (not_none n h)
  job_there (j ∷ js) n h =
      ⊎_elim
      (λ e. (0, j, refl, e))
      (λ k. let r = job_there js n k in (suc r.0, r.1, r.2, r.3))
      (has_cons (number_of j.pass) (map (λ (j : SessionJob L C N). number_of j.pass) js) n h)

  -- of the callers that were taken in, one with an entry is that of a job that was out, or taken
  of_job : (h : Hub) (terms : Terms) (p q x : Pass) (front rest : List EndedCaller) (out : List (SessionJob L C N)) (events : List (Event L C N)) (still : List (SessionJob L C N))
      → AreFates begins talk h terms p x events → OutAfter works out events still → IsConsistent (view_of q) → ended_callers q ≡ front ++ (callers_of events ++ rest)
      → (n : ℕ) → own_of (seen q) n ≢ [] → has (numbers (callers_of events)) n ≡ true → has (numbers_out (out ++ jobs_of events)) n ≡ true
  of_job h terms p q x front rest out [] still f o c same n entered i = absurd (not_none n i)
  of_job h terms p q x front rest out (arrived l (started j) ∷ more) still f o c same n entered i =
      ap (λ (js : List (SessionJob L C N)). has (numbers_out js) n) (sym (append_assoc out (j ∷ []) (jobs_of more)))
      ∙ of_job h terms p q x front rest (out ++ j ∷ []) more still f.1 o c same n entered i
  of_job h terms p q x front rest out (arrived l (returned e) ∷ more) still f o c same n entered i =
      let k = ended_so q front e (callers_of more ++ rest) c same in
      ⊎_elim
      (λ is. absurd (entered (ap (λ (m : ℕ). own_of (seen q) m) (sym is) ∙ (k.1 ∙ f.0.0.0))))
      (λ a. ap (λ (js : List (SessionJob L C N)). has (numbers_out (js ++ jobs_of more)) n) (sym (append-nil out))
      ∙ of_job h terms p q x (front ++ e ∷ []) rest (out ++ []) more still f.1 o c (same ∙ sym (append_assoc front (e ∷ []) (callers_of more ++ rest))) n entered a)
      (has_cons e.number (numbers (callers_of more)) n i)
  of_job h terms p q x front rest out (arrived l spent ∷ more) still f o c same n entered i =
      ap (λ (js : List (SessionJob L C N)). has (numbers_out (js ++ jobs_of more)) n) (sym (append-nil out))
      ∙ of_job h terms p q x front rest (out ++ []) more still f.1 o c same n entered i
  of_job h terms p q x front rest out (ended j d ∷ more) still f o c same n entered i =
      let out_is : numbers_out (out ++ jobs_of more) ≡ numbers_out o.0 ++ (number_of j.pass ∷ numbers_out (o.1 ++ jobs_of more)) =
      ap (λ (js : List (SessionJob L C N)). numbers_out (js ++ jobs_of more)) o.2
      ∙ (ap (numbers_out) (append_assoc o.0 (j ∷ o.1) (jobs_of more)) ∙ map-append (λ (y : SessionJob L C N). number_of y.pass) o.0 (j ∷ (o.1 ++ jobs_of more))) in
      ap (λ (l : List ℕ). has l n) out_is
      ∙ ⊎_elim
      (λ is. has_right (numbers_out o.0) (number_of j.pass ∷ numbers_out (o.1 ++ jobs_of more)) n
      (has_first (number_of j.pass) (numbers_out (o.1 ++ jobs_of more)) n (sym (alone j d o.3).0 ∙ is)))
      (λ a.
      let later = of_job h terms p q x (front ++ ended_of (view_of d.pass) ∷ []) rest (o.0 ++ o.1) more still f o.4 c
      (same ∙ sym (append_assoc front (ended_of (view_of d.pass) ∷ []) (callers_of more ++ rest))) n entered a in
      let both : numbers_out ((o.0 ++ o.1) ++ jobs_of more) ≡ numbers_out o.0 ++ numbers_out (o.1 ++ jobs_of more) =
      ap (numbers_out) (append_assoc o.0 o.1 (jobs_of more)) ∙ map-append (λ (y : SessionJob L C N). number_of y.pass) o.0 (o.1 ++ jobs_of more) in
      ⊎_elim
      (λ b. has_left (numbers_out o.0) (number_of j.pass ∷ numbers_out (o.1 ++ jobs_of more)) n b)
      (λ b. has_right (numbers_out o.0) (number_of j.pass ∷ numbers_out (o.1 ++ jobs_of more)) n (has_right (number_of j.pass ∷ []) (numbers_out (o.1 ++ jobs_of more)) n b))
      (has_either (numbers_out o.0) (numbers_out (o.1 ++ jobs_of more)) n (ap (λ (l : List ℕ). has l n) (sym both) ∙ later)))
      (has_cons (view_of d.pass).number (numbers (callers_of more)) n i)

  -- the caller of a job that was cut made none
  cut_none : (q : Pass) (front rest : List EndedCaller) (cut : Option (Cut L)) (end : ServeEnd) → CutBy cut end → IsConsistent (view_of q)
      → ended_callers q ≡ front ++ (cut_callers cut ++ rest) → (n : ℕ) → own_of (seen q) n ≢ [] → has (numbers (cut_callers cut)) n ≡ true → ⊥
  cut_none q front rest None end by c same n entered i = not_none n i
  cut_none q front rest (Some x) end by c same n entered i =
      let k = ended_so q front x.caller rest c same in
      ⊎_elim (λ is. entered (ap (λ (m : ℕ). own_of (seen q) m) (sym is) ∙ (k.1 ∙ by.1.0))) (λ a. not_none n a) (has_cons x.caller.number [] n i)

  -- a job that is out at last was out at first, or was taken
  out_among : (out : List (SessionJob L C N)) (events : List (Event L C N)) (still : List (SessionJob L C N)) → OutAfter works out events still → (n : ℕ)
      → has (numbers_out still) n ≡ true → has (numbers_out (out ++ jobs_of events)) n ≡ true
  out_among out [] still o n i = ap (λ (js : List (SessionJob L C N)). has (numbers_out js) n) (append-nil out ∙ sym o) ∙ i
  out_among out (arrived l f ∷ more) still o n i =
      ap (λ (js : List (SessionJob L C N)). has (numbers_out js) n) (sym (append_assoc out (job_in f) (jobs_of more))) ∙ out_among (out ++ job_in f) more still o n i
  out_among out (ended j d ∷ more) still o n i =
      let out_is : numbers_out (out ++ jobs_of more) ≡ numbers_out o.0 ++ (number_of j.pass ∷ numbers_out (o.1 ++ jobs_of more)) =
      ap (λ (js : List (SessionJob L C N)). numbers_out (js ++ jobs_of more)) o.2
      ∙ (ap (numbers_out) (append_assoc o.0 (j ∷ o.1) (jobs_of more)) ∙ map-append (λ (y : SessionJob L C N). number_of y.pass) o.0 (j ∷ (o.1 ++ jobs_of more))) in
      let both : numbers_out ((o.0 ++ o.1) ++ jobs_of more) ≡ numbers_out o.0 ++ numbers_out (o.1 ++ jobs_of more) =
      ap (numbers_out) (append_assoc o.0 o.1 (jobs_of more)) ∙ map-append (λ (y : SessionJob L C N). number_of y.pass) o.0 (o.1 ++ jobs_of more) in
      let later = out_among (o.0 ++ o.1) more still o.4 n i in
      ap (λ (l : List ℕ). has l n) out_is
      ∙ ⊎_elim
      (λ b. has_left (numbers_out o.0) (number_of j.pass ∷ numbers_out (o.1 ++ jobs_of more)) n b)
      (λ b. has_right (numbers_out o.0) (number_of j.pass ∷ numbers_out (o.1 ++ jobs_of more)) n (has_right (number_of j.pass ∷ []) (numbers_out (o.1 ++ jobs_of more)) n b))
      (has_either (numbers_out o.0) (numbers_out (o.1 ++ jobs_of more)) n (ap (λ (l : List ℕ). has l n) (sym both) ∙ later))

  jobs_none : (late : List (Event L C N)) → links_of late ≡ [] → jobs_of late ≡ []
  jobs_none [] none = refl
  jobs_none (arrived l f ∷ more) none = absurd (let bad : l ∷ links_of more ≡ [] = none in cc)
  jobs_none (ended j d ∷ more) none = jobs_none more none

  -- who ended in the pass at last: the callers of each part, between those before it and those behind
  in_events : (terms : Terms) (before after : ServedWorld L C N) (end : ServeEnd) (s : Serving works begins talk terms before after end)
      → ended_callers after.beside.pass ≡ ended_callers before.beside.pass ++ (callers_of s.events ++ (cut_callers s.cut ++ callers_of s.late))
  in_events terms before after end s =
      let p = ended_callers before.beside.pass in
      s.joined.takes_in ∙ (ap (λ (k : List EndedCaller). k ++ callers_of s.late) s.went.takes_in
      ∙ (append_assoc p (callers_of s.events ++ cut_callers s.cut) (callers_of s.late)
      ∙ ap (λ (k : List EndedCaller). p ++ k) (append_assoc (callers_of s.events) (cut_callers s.cut) (callers_of s.late))))

  in_late : (terms : Terms) (before after : ServedWorld L C N) (end : ServeEnd) (s : Serving works begins talk terms before after end)
      → ended_callers after.beside.pass ≡ ended_callers s.at_stop ++ (callers_of s.late ++ [])
  in_late terms before after end s = s.joined.takes_in ∙ ap (λ (k : List EndedCaller). ended_callers s.at_stop ++ k) (sym (append-nil (callers_of s.late)))

  pub seen_are_of_jobs : SeenAreOfJobs works begins talk
  seen_are_of_jobs terms before after end first s earlier behind e at =
      let p = before.beside.pass in
      let q = after.beside.pass in
      let n = e.caller in
      let front : List EndedCaller = callers_of s.events ++ cut_callers s.cut in
      let consistent = s.joined.caller.0.1.1.5 in
      let entered : own_of (seen q) n ≢ [] = λ bad. own_there earlier behind e (ap (λ (l : List Entry). own l n) (sym at) ∙ bad) in
      let there = in_events terms before after end s in
      ⊎_elim
      (λ own_pass. inl own_pass)
      (λ one. inr
      (⊎_elim
      (λ a. ⊎_elim
      (λ b. job_there (jobs_of s.events) n (of_job before.hub terms p q q (ended_callers p) (cut_callers s.cut ++ callers_of s.late) [] s.events s.still s.fates s.out consistent there n entered b))
      (λ b. absurd (cut_none q (ended_callers p ++ callers_of s.events) (callers_of s.late) s.cut end s.cut_last consistent
      (there ∙ sym (append_assoc (ended_callers p) (callers_of s.events) (cut_callers s.cut ++ callers_of s.late))) n entered b))
      (has_either (numbers (callers_of s.events)) (numbers (cut_callers s.cut)) n
      (ap (λ (l : List ℕ). has l n) (sym (map-append (λ (x : EndedCaller). x.number) (callers_of s.events) (cut_callers s.cut))) ∙ a)))
      (λ a.
      let out : has (numbers_out (s.still ++ jobs_of s.late)) n ≡ true =
      of_job before.hub terms p q q (ended_callers s.at_stop) [] s.still s.late [] (fates_none works begins talk alone before.hub terms p q s.late s.only_ends) s.late_out consistent
      (in_late terms before after end s) n entered a in
      let still_is : s.still ++ jobs_of s.late ≡ s.still = ap (λ (js : List (SessionJob L C N)). s.still ++ js) (jobs_none s.late s.only_ends) ∙ append-nil s.still in
      job_there (jobs_of s.events) n (out_among [] s.events s.still s.out n (ap (λ (js : List (SessionJob L C N)). has (numbers_out js) n) (sym still_is) ∙ out)))
      (has_either (numbers front) (numbers (callers_of s.late)) n
      (ap (λ (l : List ℕ). has l n) (sym (map-append (λ (x : EndedCaller). x.number) front (callers_of s.late))) ∙ one))))
      (serving_is_alone works begins talk alone terms before after end first s earlier behind e at)

  pub all_but_stop_are_of_jobs : AllButStopAreOfJobs works begins talk
  all_but_stop_are_of_jobs terms before after end first mine s earlier later e at =
      let p = before.beside.pass in
      let q = after.beside.pass in
      ⊎_elim
      (λ own_pass. inl (stop_alone before.hub p s.at_stop q _ _ _ s.stop s.went s.joined mine earlier later e at (sym own_pass)))
      (λ job. inr job)
      (seen_are_of_jobs terms before after end first s earlier later e at)

  pub entries_are_of_jobs : EntriesAreOfJobs works begins talk
  entries_are_of_jobs terms before after end first mine s earlier later e at =
      let p = before.beside.pass in
      let q = after.beside.pass in
      let k = found_begins before.hub p s.at_stop q _ _ s.stop s.went s.joined.grows in
      let there : entries (seen q) ≡ earlier ++ e ∷ (later ++ k.0) = k.1 ∙ (ap (λ (x : List Entry). x ++ k.0) at ∙ append_assoc earlier (e ∷ later) k.0) in
      ⊎_elim
      (λ own_pass. absurd (own_there earlier later e (ap (λ (l : List Entry). own l e.caller) (sym at)
      ∙ (ap (own (found_history (stop_made (number_of p) s.stop) q)) (sym own_pass) ∙ found_none before.hub p s.at_stop q _ _ _ s.stop s.went s.joined mine))))
      (λ job. job)
      (seen_are_of_jobs terms before after end first s earlier (later ++ k.0) e there)

-- ---- each job has ended

all_insert : {A : Type 0} (P : A → Type 0) (before : List A) (x : A) (behind : List A) → P x → AllByRecursion P (before ++ behind) → AllByRecursion P (before ++ x ∷ behind)
all_insert P [] x behind it a = (it, a)
all_insert P (y ∷ before) x behind it a = (a.0, all_insert P before x behind it a.1)

-- what a caller that ended had seen is a first part of what the pass has
seen_so : (q : Pass) (front : List EndedCaller) (e : EndedCaller) (rest : List EndedCaller) → IsConsistent (view_of q) → ended_callers q ≡ front ++ e ∷ rest → StartsWith (seen q) e.seen
seen_so q front e rest c same = (c.1 (length front) e (subst (λ (x : List EndedCaller). get_elem? x (length front) ≡ some e) (sym same) (at_middle front e rest))).2

module _ {L C N : Type 0} (works : SessionJob L C N → SessionEnd L C N → Type 0) (begins : Option (List ℕ) → ℕ → N → Type 0) (talk : L → Option (List Said)) (alone : WorksAlone works) where
  each_ended : (H : List Entry) (q : Pass) (front rest : List EndedCaller) (out : List (SessionJob L C N)) (events : List (Event L C N)) → OutAfter works out events [] → AllStand H events
      → IsConsistent (view_of q) → ended_callers q ≡ front ++ (callers_of events ++ rest) → AllByRecursion (HasEnded works H q) (out ++ jobs_of events)
  each_ended H q front rest out [] o stand c same = subst (λ (js : List (SessionJob L C N)). AllByRecursion (HasEnded works H q) (js ++ [])) o tt
  each_ended H q front rest out (arrived l f ∷ more) o stand c same =
      subst (AllByRecursion (HasEnded works H q)) (append_assoc out (job_in f) (jobs_of more))
      (each_ended H q (front ++ caller_in f) rest (out ++ job_in f) more o stand c
      (same ∙ ap (λ (k : List EndedCaller). front ++ k) (append_assoc (caller_in f) (callers_of more) rest) ∙ sym (append_assoc front (caller_in f) (callers_of more ++ rest))))
  each_ended H q front rest out (ended j d ∷ more) o stand c same =
      let e : EndedCaller = ended_of (view_of d.pass) in
      let later = each_ended H q (front ++ e ∷ []) rest (o.0 ++ o.1) more o.4 stand.1 c (same ∙ sym (append_assoc front (e ∷ []) (callers_of more ++ rest))) in
      let mine : HasEnded works H q j = (
        d,
        o.3,
        stand.0,
        ap (λ (n : ℕ). own_of (seen q) n) (sym (alone j d o.3).0) ∙ (ended_so q front e (callers_of more ++ rest) c same).1,
        seen_so q front e (callers_of more ++ rest) c same,
      ) in
      subst (λ (js : List (SessionJob L C N)). AllByRecursion (HasEnded works H q) (js ++ jobs_of more)) (sym o.2)
      (subst (AllByRecursion (HasEnded works H q)) (sym (append_assoc o.0 (j ∷ o.1) (jobs_of more)))
      (all_insert (HasEnded works H q) o.0 j (o.1 ++ jobs_of more) mine
      (subst (AllByRecursion (HasEnded works H q)) (append_assoc o.0 o.1 (jobs_of more)) later)))

  pub jobs_have_ended : JobsHaveEnded works begins talk
  jobs_have_ended terms before after end s none =
      each_ended (found_history (stop_made (number_of before.beside.pass) s.stop) after.beside.pass) after.beside.pass (ended_callers before.beside.pass)
      (cut_callers s.cut ++ callers_of s.late) [] s.events
      (subst (λ (l : List (SessionJob L C N)). OutAfter works [] s.events l) none s.out) s.stop_last s.joined.caller.0.1.1.5 (in_events works begins talk alone terms before after end s)

  -- also those that were still out
  each_ends : (H : List Entry) (q : Pass) (front rest : List EndedCaller) (out : List (SessionJob L C N)) (events : List (Event L C N)) (still : List (SessionJob L C N))
      → OutAfter works out events still
      → AllByRecursion (HasEndedAtLast works H q) still → (behind : List Entry) → entries (seen q) ≡ H ++ behind
      → IsConsistent (view_of q) → ended_callers q ≡ front ++ (callers_of events ++ rest) → AllByRecursion (HasEndedAtLast works H q) (out ++ jobs_of events)
  each_ends H q front rest out [] still o later behind begins c same =
      subst (λ (js : List (SessionJob L C N)). AllByRecursion (HasEndedAtLast works H q) (js ++ [])) o (all_append (HasEndedAtLast works H q) still [] later tt)
  each_ends H q front rest out (arrived l f ∷ more) still o later behind begins c same =
      subst (AllByRecursion (HasEndedAtLast works H q)) (append_assoc out (job_in f) (jobs_of more))
      (each_ends H q (front ++ caller_in f) rest (out ++ job_in f) more still o later behind begins c
      (same ∙ ap (λ (k : List EndedCaller). front ++ k) (append_assoc (caller_in f) (callers_of more) rest) ∙ sym (append_assoc front (caller_in f) (callers_of more ++ rest))))
  each_ends H q front rest out (ended j d ∷ more) still o later behind begins c same =
      let e : EndedCaller = ended_of (view_of d.pass) in
      let n = number_of j.pass in
      let others = each_ends H q (front ++ e ∷ []) rest (o.0 ++ o.1) more still o.4 later behind begins c (same ∙ sym (append_assoc front (e ∷ []) (callers_of more ++ rest))) in
      let all : own (entries (seen q)) n ≡ own_list d.pass = ap (λ (m : ℕ). own_of (seen q) m) (sym (alone j d o.3).0) ∙ (ended_so q front e (callers_of more ++ rest) c same).1 in
      let mine : HasEndedAtLast works H q j = (
        d,
        o.3,
        all,
        seen_so q front e (callers_of more ++ rest) c same,
        (own behind n, sym all ∙ (ap (λ (x : List Entry). own x n) begins ∙ own-append H behind n)),
      ) in
      subst (λ (js : List (SessionJob L C N)). AllByRecursion (HasEndedAtLast works H q) (js ++ jobs_of more)) (sym o.2)
      (subst (AllByRecursion (HasEndedAtLast works H q)) (sym (append_assoc o.0 (j ∷ o.1) (jobs_of more)))
      (all_insert (HasEndedAtLast works H q) o.0 j (o.1 ++ jobs_of more) mine
      (subst (AllByRecursion (HasEndedAtLast works H q)) (append_assoc o.0 o.1 (jobs_of more)) others)))

  pub jobs_end_at_last : JobsEndAtLast works begins talk
  jobs_end_at_last terms before after end s =
      let p = before.beside.pass in
      let q = after.beside.pass in
      let H = found_history (stop_made (number_of p) s.stop) q in
      let k = found_begins before.hub p s.at_stop q _ _ s.stop s.went s.joined.grows in
      let c = s.joined.caller.0.1.1.5 in
      let still : AllByRecursion (HasEndedAtLast works H q) s.still =
      all_front (HasEndedAtLast works H q) s.still (jobs_of s.late)
      (each_ends H q (ended_callers s.at_stop) [] s.still s.late [] s.late_out tt k.0 k.1 c (in_late works begins talk alone terms before after end s)) in
      each_ends H q (ended_callers p) (cut_callers s.cut ++ callers_of s.late) [] s.events s.still s.out still k.0 k.1 c (in_events works begins talk alone terms before after end s)

-- ---- behind the Stop

if_so : {A : Type 0} → (b : Bool) (x y : A) → b ≡ true → cond b x y ≡ x
if_so b x y is = ap (λ (c : Bool). cond c x y) is

told_by : (a : About) (H : List Entry) (caller : ℕ) (call : Call) (looks : List Look) (r : Reply) → is_stopped H ≡ true → r ≡ reply a H call looks → IsTrue (may_call a H caller call)
    → IsToldStopped call r
unfolding connect_reply forward_reply
told_by a H caller (Connect who) looks r stopped is may = is ∙ if_so (is_stopped H) (Refused RefusedStopped) _ stopped
told_by a H caller (Forward sender m) looks r stopped is may = is ∙ if_so (is_stopped H) Stopped _ stopped
told_by a H caller (Leave conn taken empties) looks r stopped is may = tt
told_by a H caller Stop looks r stopped is may = (let bad : false ≡ true = subst (λ (b : Bool). IsTrue (not b)) stopped may in cc)
told_by a H caller Count looks r stopped is may = tt

pub nothing_behind_stop : {L C N : Type 0} (works : SessionJob L C N → SessionEnd L C N → Type 0) (begins : Option (List ℕ) → ℕ → N → Type 0) (talk : L → Option (List Said))
    → NothingBehindStop works begins talk
nothing_behind_stop works begins talk terms before after end s earlier later e at stopped =
    let a : About = about_of before.hub in
    let k = Legal-at a earlier later e (subst (λ (H : List Entry). Legal a H) at s.joined.caller.1) in
    told_by a earlier e.caller e.call e.looks e.reply stopped k.replied k.called

-- ---- the numbers of jobs

-- the numbers rise, by recursion
abbrev RisesOn : List ℕ → Type 0
RisesOn [] = ⊤
RisesOn (n ∷ ns) = AllByRecursion (λ (m : ℕ). n < m) ns × RisesOn ns

rises_on : (xs : List ℕ) → Rises xs → RisesOn xs
rises_on [] r = tt
rises_on (n ∷ ns) r = (
  recursion_from_All (λ (m : ℕ). n < m) ns (λ k d within. r 0 (suc k) d (omega arith) (omega (arith, within))),
  rises_on ns (λ i j d lt within. r (suc i) (suc j) d (omega (arith, lt)) (omega (arith, within))),
)

rises_behind : (xs ys : List ℕ) → RisesOn (xs ++ ys) → RisesOn ys
rises_behind [] ys r = r
rises_behind (x ∷ xs) ys r = rises_behind xs ys r.1

module _ {L C N : Type 0} where
  above_all : (n : ℕ) (events : List (Event L C N)) (rest : List ℕ) → AllByRecursion (λ (m : ℕ). n < m) (numbers_of events ++ rest)
      → AllByRecursion (λ (j : SessionJob L C N). n ≢ number_of j.pass) (jobs_of events)
  above_all n [] rest a = tt
  above_all n (arrived l (started j) ∷ more) rest a = ((λ e. (let lt = a.0 in omega (arith, e, lt))), above_all n more rest a.1)
  above_all n (arrived l (returned e) ∷ more) rest a = above_all n more rest a.1
  above_all n (arrived l spent ∷ more) rest a = above_all n more rest a
  above_all n (ended j d ∷ more) rest a = above_all n more rest a

  apart_all : (events : List (Event L C N)) (rest : List ℕ) → RisesOn (numbers_of events ++ rest) → Apart (λ (j : SessionJob L C N). number_of j.pass) (jobs_of events)
  apart_all [] rest r = tt
  apart_all (arrived l (started j) ∷ more) rest r = (above_all (number_of j.pass) more rest r.0, apart_all more rest r.1)
  apart_all (arrived l (returned e) ∷ more) rest r = apart_all more rest r.1
  apart_all (arrived l spent ∷ more) rest r = apart_all more rest r
  apart_all (ended j d ∷ more) rest r = apart_all more rest r

  pub jobs_are_apart : (works : SessionJob L C N → SessionEnd L C N → Type 0) (begins : Option (List ℕ) → ℕ → N → Type 0) (talk : L → Option (List Said)) → JobsAreApart works begins talk
  jobs_are_apart works begins talk terms before after end s =
      apart_all s.events (cut_numbers s.cut)
      (rises_behind (drawn_list before.beside.pass) (numbers_of s.events ++ cut_numbers s.cut)
      (subst RisesOn s.drew (rises_on (drawn_list after.beside.pass) s.joined.caller.0.1.1.5.5)))
