-- A link gets its session, or doesn't.
-- It serves the clauses of `hand_over` and `start_session`.
use Rattle.std.proofs.Common.{inl, inr, ◌≡◌, ℕ, List, [], ◌∷◌, Bool, true, false, None, Ok, Err, refl, sym, ◌∙◌, subst, arith, append-nil, ap, ◌++◌}
use Rattle.std.specs.Prelude.{Result, ◌<◌, ◌≢◌, Option, Some, is_some, option_map}
use Rattle.std.specs.Arc.{arc_value}
use Rattle.bsc_outside.specs.Faults.{HasRisen}
use Rattle.bsc_history.specs.declared.mark.Stamped.{Stamped}
use Rattle.bsc_turn.specs.declared.pass.Pass.{Pass}
use Rattle.bsc_turn.specs.declared.view.EndedCaller.{EndedCaller}
use Rattle.bsc_turn.specs.Effects.{ended_of}
use Rattle.bsc_turn.specs.Histories.{StartsWith}
use Rattle.bsc_turn.specs.Passes.{drawn_list, ended_callers, newest_number, number_of, seen, view_of}
use Rattle.bsc_turn.proofs.Beginnings.{starts_self}
use Rattle.bsc_hub.specs.declared.hub.Hub.{Hub}
use Rattle.bsc_hub.specs.Passing.{Went}
use Rattle.bsc_hub.proofs.Following.{drew_no_number, went_then}
use Rattle.bsc_edge.specs.declared.begun.Begun.{Begun}
use Rattle.bsc_edge.specs.declared.fault.LinkFault.{LinkFault}
use Rattle.bsc_edge.specs.declared.fault.LinkFault.TheVariants.{Failed as FaultFailed}
use Rattle.bsc_edge.specs.declared.said.Said.{Said}
use Rattle.bsc_edge.specs.declared.unstarted.Unstarted.{Unstarted}
use Rattle.bsc_edge.specs.declared.unstarted.Unstarted.TheVariants.{Failed, NoMemory as NoRoom}
use Rattle.bsc_edge.specs.Told.{ComesBack, Grows}
use Rattle.bsc_edge.proofs.Common.{grows_none, stays_same}
use Rattle.bsc_serve.specs.Terms.{Terms}
use Rattle.bsc_session.specs.declared.job.SessionJob.{SessionJob}
use Rattle.bsc_session.specs.Jobs.{policy_of}
use Rattle.bsc_serve.specs.Events.{begun_call}
use Rattle.bsc_serve.specs.Fates.{IsJobOf, IsSplitIn, IsTurnedAway, returned, spent, started}
use Rattle.bsc_serve.specs.Inner.{Draws, Fared, Fares, HandsOver, LacksRoom, SplitsOff, TakesBack, TurnsAway, giver, limit_of}
use Rattle.bsc_serve.specs.Serving.{RoseBy}
use Rattle.bsc_serve.specs.Worlds.{Stock}

-- a job that came back is the one that was handed in
pub back_failed : {J : Type 0} → (u : Unstarted J) (job given : J) → u ≡ Failed job → ComesBack u given → job ≡ given
back_failed u job given is back = subst (λ x. ComesBack x given) is back

pub back_memory : {J : Type 0} → (u : Unstarted J) (job given : J) → u ≡ NoRoom job → ComesBack u given → job ≡ given
back_memory u job given is back = subst (λ x. ComesBack x given) is back

pub is_mapped : {A B : Type 0} → (f : A → B) (o : Option A) → is_some o ≡ is_some (option_map f o)
is_mapped f None = refl
is_mapped f (Some x) = refl

rose_one : (a b : ℕ) → HasRisen a b → RoseBy 1 a b
rose_one a b (inl x) = inl (omega (arith, x))
rose_one a b (inr x) = inr x

split_in : (h : Hub) (p m x : Pass) → SplitsOff h p m x → IsSplitIn h p m x
split_in h p m x s = record {
  caller = s.caller;
  new = (s.own, s.ended, s.fresh);
  number = s.more;
  drawn = s.newer;
  room = subst (λ n. n < limit_of h) (sym s.number) s.room;
  since = subst (λ (l : List Stamped). StartsWith l (seen p)) (sym s.same) (starts_self (seen p));
  by = subst (λ (l : List Stamped). StartsWith (seen m) l) (sym s.same) s.went.grows;
}

draws_now : (h : Hub) (p m x : Pass) → SplitsOff h p m x → Draws h p m
draws_now h p m x s = (subst (λ n. newest_number p < n) s.number s.newer, s.room)

draws_back : (h : Hub) (p m q x : Pass) → SplitsOff h p m x → newest_number q ≡ newest_number m → Draws h p q
draws_back h p m q x s e = (subst (λ n. newest_number p < n) (s.number ∙ sym e) s.newer, subst (λ n. n < limit_of h) (sym e) s.room)

back : (h : Hub) (p m q x : Pass) → SplitsOff h p m x → TakesBack h m q x → Went h p 1 (ended_of (view_of x) ∷ []) None q
back h p m q x s t =
    went_then h p m q 1 0 [] (ended_of (view_of x) ∷ []) None s.went
    (subst (λ (l : List EndedCaller). Went h m 0 (ended_of (view_of x) ∷ l) None q) s.ended t.0)

-- the number drawn is that of the pass that was split off, and of its caller; to take the pass back draws none
drew_caller : (h : Hub) (p m x : Pass) → SplitsOff h p m x → drawn_list m ≡ drawn_list p ++ (view_of x).number ∷ []
drew_caller h p m x s = s.drew ∙ ap (λ (n : ℕ). drawn_list p ++ n ∷ []) (sym s.caller.0.1.1.2)

drew_back : (h : Hub) (p m q x : Pass) → SplitsOff h p m x → TakesBack h m q x → drawn_list q ≡ drawn_list p ++ (view_of x).number ∷ []
drew_back h p m q x s t = drew_no_number h m q (ended_of (view_of x) ∷ ended_callers x) None t.0 ∙ drew_caller h p m x s

-- the number of the journal is that of the caller of the pass that was split off
calls_caller : (h : Hub) (prefix : Option (List ℕ)) (came : Bool) (p m x : Pass) (b b' : Option (List Begun)) → SplitsOff h p m x
    → Grows b b' (begun_call prefix came (number_of x) ∷ []) → Grows b b' (begun_call prefix came (view_of x).number ∷ [])
calls_caller h prefix came p m x b b' off told = subst (λ (n : ℕ). Grows b b' (begun_call prefix came n ∷ [])) (sym off.caller.0.1.1.2) told

module _ {L C N : Type 0} (talk : L → Option (List Said)) where
  -- its job couldn't be made
  pub fares_unmade : (h : Hub) (prefix : Option (List ℕ)) (l : L) (p m q x : Pass) (s : Stock L C N) (b b' : Option (List Begun)) (came : Bool) (fault : LinkFault) → SplitsOff h p m x
      → TakesBack h m q x
      → Grows b b' (begun_call prefix came (number_of x) ∷ []) → (fault ≡ FaultFailed → came ≡ false) → IsTurnedAway talk l → LacksRoom talk h prefix l (giver p s b) (giver q s b') fault
  fares_unmade h prefix l p m q x s b b' came fault off t told none turned = record {
    caller = ended_of (view_of x);
    unused = (off.own, off.fresh);
    jobs = grows_none s.jobs;
    given_back = stays_same s.given_back;
    out = refl;
    went = back h p m q x off t;
    draws = draws_back h p m q x off t.1;
    drew = drew_back h p m q x off t;
    later = omega arith;
    came = came;
    begun = calls_caller h prefix came p m x b b' off told;
    none = none;
    turned = turned;
  }

module _ {L C N : Type 0} (begins : Option (List ℕ) → ℕ → N → Type 0) where
  -- A job that was made for a link, with this pass.
  pub record IsMadeFor (h : Hub) (terms : Terms) (x : Pass) (l : L) (j : SessionJob L C N) : Type 0 where
    pub link : j.link ≡ l
    pub hub : arc_value j.hub ≡ h
    pub pass : j.pass ≡ x
    pub limits : j.limits ≡ terms.limits
    pub turns : j.turns ≡ terms.turns
    pub journal : begins terms.prefix (number_of j.pass) j.journal
    pub is_recorded : j.is_recorded ≡ is_some terms.prefix
    pub policy : policy_of j.policy ≡ terms.policy

  started_so : (h : Hub) (terms : Terms) (p m x : Pass) (l : L) (job : SessionJob L C N) → SplitsOff h p m x → IsMadeFor h terms x l job
      → IsJobOf begins h terms p m l job
  started_so h terms p m x l job s made = record {
    link = made.link;
    hub = made.hub;
    pass = subst (λ (y : Pass). IsSplitIn h p m y) (sym made.pass) (split_in h p m x s);
    limits = made.limits;
    turns = made.turns;
    journal = made.journal;
    is_recorded = made.is_recorded;
    policy = made.policy;
  }

module _ {L C N : Type 0} (begins : Option (List ℕ) → ℕ → N → Type 0) (talk : L → Option (List Said)) where
  -- there was no number for it
  pub fares_spent : (h : Hub) (terms : Terms) (p q : Pass) (l : L) (s : Stock L C N) (b : Option (List Begun)) → Went h p 1 [] None q → newest_number q ≡ limit_of h → drawn_list q ≡ drawn_list p ++ []
      → IsTurnedAway talk l → Fared begins talk h terms l (giver p s b) (giver q s b) false
  fares_spent h terms p q l s b went full drew turned = record {
    fate = spent;
    is = (full, turned);
    jobs = grows_none s.jobs;
    given_back = stays_same s.given_back;
    out = sym (append-nil s.out);
    went = went;
    draws = full;
    drew = drew;
    rose = inl (omega arith);
    begun = grows_none b;
    counts = refl;
  }

  -- a job was made and handed over
  pub fares_made : (h : Hub) (terms : Terms) (p m q x : Pass) (l : L) (job : SessionJob L C N)
      (s s' : Stock L C N) (b b' : Option (List Begun)) (r : Result Bool LinkFault) → SplitsOff h p m x → IsMadeFor begins h terms x l job
      → Grows b b' (begun_call terms.prefix true (number_of x) ∷ [])
      → r ≢ Err FaultFailed → HandsOver h m q job s s' r → TurnsAway talk job.link r → Fares begins talk h terms l (giver p s b) (giver q s' b') r
  fares_made h terms p m q x l job s s' b b' (Ok true) off made told other t away = record {
    fate = started job;
    is = subst (λ (y : Pass). IsJobOf begins h terms p y l job) (sym t.3)
        (started_so begins h terms p m x l job off made);
    jobs = t.0;
    given_back = t.4;
    out = t.1;
    went = subst (λ (y : Pass). Went h p 1 [] None y) (sym t.3) off.went;
    draws = subst (λ (y : Pass). Draws h p y) (sym t.3) (draws_now h p m x off);
    drew = ap drawn_list t.3 ∙ (off.drew ∙ ap (λ (y : Pass). drawn_list p ++ number_of y ∷ []) (sym made.pass));
    rose = inl (let k = t.2 in omega (arith, k));
    begun = subst (λ (y : Pass). Grows b b' (begun_call terms.prefix true (number_of y) ∷ [])) (sym made.pass) told;
    counts = refl;
  }
  fares_made h terms p m q x l job s s' b b' (Ok false) off made told other t away =
      let k : TakesBack h m q x = subst (λ (y : Pass). TakesBack h m q y) made.pass t.3 in
      record {
        fate = returned (ended_of (view_of x));
        is = ((off.own, off.fresh), subst (λ (y : L). IsTurnedAway talk y) made.link away);
        jobs = t.0;
        given_back = t.4;
        out = t.1 ∙ sym (append-nil s.out);
        went = back h p m q x off k;
        draws = draws_back h p m q x off k.1;
        drew = drew_back h p m q x off k;
        rose = rose_one s.unstarted s'.unstarted t.2;
        begun = calls_caller h terms.prefix true p m x b b' off told;
        counts = refl;
      }
  fares_made h terms p m q x l job s s' b b' (Err e) off made told other t away =
      let k : TakesBack h m q x = subst (λ (y : Pass). TakesBack h m q y) made.pass t.3 in
      record {
        caller = ended_of (view_of x);
        unused = (off.own, off.fresh);
        jobs = t.0;
        given_back = t.4;
        out = t.1;
        went = back h p m q x off k;
        draws = draws_back h p m q x off k.1;
        drew = drew_back h p m q x off k;
        later = t.2;
        came = true;
        begun = calls_caller h terms.prefix true p m x b b' off told;
        none = λ is. absurd (other (ap Err is));
        turned = subst (λ (y : L). IsTurnedAway talk y) made.link away;
      }
