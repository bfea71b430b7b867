-- Lists of what happened, and of what is told, with one more.
-- It serves clauses of functions of `accepting`, `laws`, `serving` and `taking_in`.
use Rattle.std.proofs.Common.{inl, inr, ◌≡◌, ℕ, ◌+◌, ◌≤◌, List, [], ◌∷◌, ◌++◌, length, Option, Some, None, Ok, Err, refl, ap, sym, ◌∙◌, subst, arith, append-nil, append_assoc}
use Rattle.std.specs.Prelude.{map, replicate, true}
use Rattle.std.proofs.lemmas.List.{map-append, replicate_more}
use Rattle.bsc_turn.specs.declared.pass.Pass.{Pass}
use Rattle.bsc_turn.specs.declared.view.EndedCaller.{EndedCaller}
use Rattle.bsc_turn.specs.Effects.{ended_of}
use Rattle.bsc_turn.specs.Histories.{StartsWith}
use Rattle.bsc_turn.specs.Passes.{newest_number, seen, view_of}
use Rattle.bsc_hub.specs.declared.hub.Hub.{Hub}
use Rattle.bsc_hub.proofs.Following.{starts_then}
use Rattle.bsc_edge.specs.declared.arrived.Arrived.{Arrived}
use Rattle.bsc_edge.specs.declared.arrived.Arrived.TheVariants.{Link, Quiet}
use Rattle.bsc_edge.specs.declared.fault.LinkFault.{LinkFault}
use Rattle.bsc_edge.specs.declared.said.Said.{Said}
use Rattle.bsc_edge.specs.Told.{Grows, Leaves, Stays, arrived_in}
use Rattle.bsc_edge.proofs.Common.{grows_then}
use Rattle.bsc_session.specs.declared.job.SessionJob.{SessionJob}
use Rattle.bsc_session.specs.declared.session_end.SessionEnd.{SessionEnd}
use Rattle.bsc_serve.specs.declared.bounds.TheConstants.{WAIT_MS}
use Rattle.bsc_serve.specs.Events.{AreFates, Event, OutAfter, arrived, begun_call, begun_of, callers_of, ended, ends_of, jobs_of, links_of, numbers_in, numbers_of, returned_of, unstarted_of}
use Rattle.bsc_serve.specs.Fates.{Fate, IsFate, IsSplitIn, caller_in, job_in, returned, spent, started, unstarted_in}
use Rattle.bsc_serve.specs.Inner.{AllEnded, limit_of}
use Rattle.bsc_serve.specs.Serving.{Loses, RoseBy}
use Rattle.bsc_serve.specs.Terms.{Terms}

few_in : {J : Type 0} → (f : Fate J) → unstarted_in f ≤ 1
few_in (started j) = omega arith
few_in (returned e) = omega arith
few_in spent = omega arith

module _ {L C N : Type 0} where
  pub links-append : (more last : List (Event L C N)) → links_of (more ++ last) ≡ links_of more ++ links_of last
  links-append [] last = refl
  links-append (arrived l f ∷ more) last = ap (λ (k : List L). l ∷ k) (links-append more last)
  links-append (ended j d ∷ more) last = links-append more last

  pub ends-append : (more last : List (Event L C N)) → ends_of (more ++ last) ≡ ends_of more ++ ends_of last
  ends-append [] last = refl
  ends-append (arrived l f ∷ more) last = ends-append more last
  ends-append (ended j d ∷ more) last = ap (λ (k : List (SessionEnd L C N)). d ∷ k) (ends-append more last)

  pub jobs-append : (more last : List (Event L C N)) → jobs_of (more ++ last) ≡ jobs_of more ++ jobs_of last
  jobs-append [] last = refl
  jobs-append (arrived l f ∷ more) last = ap (λ (k : List (SessionJob L C N)). job_in f ++ k) (jobs-append more last) ∙ sym (append_assoc (job_in f) (jobs_of more) (jobs_of last))
  jobs-append (ended j d ∷ more) last = jobs-append more last

  pub callers-append : (more last : List (Event L C N)) → callers_of (more ++ last) ≡ callers_of more ++ callers_of last
  callers-append [] last = refl
  callers-append (arrived l f ∷ more) last = ap (λ (k : List EndedCaller). caller_in f ++ k) (callers-append more last) ∙ sym (append_assoc (caller_in f) (callers_of more) (callers_of last))
  callers-append (ended j d ∷ more) last = ap (λ (k : List EndedCaller). ended_of (view_of d.pass) ∷ k) (callers-append more last)

  pub numbers-append : (more last : List (Event L C N)) → numbers_of (more ++ last) ≡ numbers_of more ++ numbers_of last
  numbers-append [] last = refl
  numbers-append (arrived l f ∷ more) last = ap (λ (k : List ℕ). numbers_in f ++ k) (numbers-append more last) ∙ sym (append_assoc (numbers_in f) (numbers_of more) (numbers_of last))
  numbers-append (ended j d ∷ more) last = numbers-append more last

  pub begun-append : (prefix : Option (List ℕ)) (more last : List (Event L C N)) → begun_of prefix (more ++ last) ≡ begun_of prefix more ++ begun_of prefix last
  begun-append prefix more last = ap (λ (k : List ℕ). map (begun_call prefix true) k) (numbers-append more last) ∙ map-append (begun_call prefix true) (numbers_of more) (numbers_of last)

  pub returned-append : (more last : List (Event L C N)) → returned_of (more ++ last) ≡ returned_of more + returned_of last
  returned-append [] last = omega arith
  returned-append (arrived l f ∷ more) last = (let k = returned-append more last in omega (arith, k))
  returned-append (ended j d ∷ more) last = returned-append more last

  pub unstarted-append : (more last : List (Event L C N)) → unstarted_of (more ++ last) ≡ unstarted_of more + unstarted_of last
  unstarted-append [] last = omega arith
  unstarted-append (arrived l f ∷ more) last = (let k = unstarted-append more last in omega (arith, k))
  unstarted-append (ended j d ∷ more) last = unstarted-append more last

  -- no more links have no job than there are
  pub few_unstarted : (more : List (Event L C N)) → unstarted_of more ≤ length (links_of more)
  few_unstarted [] = omega arith
  few_unstarted (arrived l f ∷ more) = (let k = few_unstarted more in let n = few_in f in omega (arith, k, n))
  few_unstarted (ended j d ∷ more) = few_unstarted more

  pub all_ended_then : (h : Hub) (more last : List (Event L C N)) → AllEnded h more → AllEnded h last → AllEnded h (more ++ last)
  all_ended_then h [] last a b = b
  all_ended_then h (arrived l f ∷ more) last a b = all_ended_then h more last a b
  all_ended_then h (ended j d ∷ more) last a b = (a.0, all_ended_then h more last a.1 b)

module _ {L C N : Type 0} (works : SessionJob L C N → SessionEnd L C N → Type 0) where
  pub out_then : (out mid still : List (SessionJob L C N)) (more last : List (Event L C N)) → OutAfter works out more mid → OutAfter works mid last still → OutAfter works out (more ++ last) still
  out_then out mid still [] last a b = subst (λ (o : List (SessionJob L C N)). OutAfter works o last still) a b
  out_then out mid still (arrived l f ∷ more) last a b = out_then (out ++ job_in f) mid still more last a b
  out_then out mid still (ended j d ∷ more) last a b = (a.0, a.1, a.2, a.3, out_then (a.0 ++ a.1) mid still more last a.4 b)

module _ {A : Type 0} where
  pub grows_still : (old mid new : Option (List A)) (xs : List A) → Grows old mid xs → Stays mid new → Grows old new xs
  grows_still old mid None xs a b = tt
  grows_still old None (Some n) xs a b = absurd b
  grows_still None (Some m) (Some n) xs a b = absurd a
  grows_still (Some o) (Some m) (Some n) xs a b = b ∙ a

  pub grows_no_more : (old mid new : Option (List A)) (xs : List A) → Grows old mid xs → Grows mid new [] → Grows old new xs
  grows_no_more old mid new xs a b = subst (λ (ys : List A). Grows old new ys) (append-nil xs) (grows_then old mid new xs [] a b)

  pub came_link : (mid new : Option (List A)) (u : Arrived A) (x : A) → u ≡ Link x → Grows mid new (arrived_in (Ok u)) → Grows mid new (x ∷ [])
  came_link mid new u x is grew = subst (λ w. Grows mid new (arrived_in (Ok w))) is grew

  pub loses_none : (old : Option (List A)) → Loses old old []
  loses_none None = tt
  loses_none (Some o) = refl

  -- a link that arrived
  pub loses_more : (old mid new : Option (List A)) (xs : List A) (x : A) → Loses old mid xs → Leaves mid new (Ok (Link x)) → Loses old new (xs ++ x ∷ [])
  loses_more old mid None xs x a b = tt
  loses_more old None (Some n) xs x a b = absurd b
  loses_more None (Some m) (Some n) xs x a b = absurd a
  loses_more (Some o) (Some m) (Some n) xs x a b = a ∙ ap (λ (l : List A). xs ++ l) b ∙ sym (append_assoc xs (x ∷ []) n)

  pub leaves_link : (mid new : Option (List A)) (u : Arrived A) (x : A) → u ≡ Link x → Leaves mid new (Ok u) → Leaves mid new (Ok (Link x))
  leaves_link mid new u x is lost = subst (λ w. Leaves mid new (Ok w)) is lost

  -- none arrived
  pub loses_still : (old mid new : Option (List A)) (xs : List A) → Loses old mid xs → Leaves mid new (Ok Quiet) → Loses old new xs
  loses_still old mid None xs a b = tt
  loses_still old None (Some n) xs a b = absurd b
  loses_still None (Some m) (Some n) xs a b = absurd a
  loses_still (Some o) (Some m) (Some n) xs a b = a ∙ ap (λ (l : List A). xs ++ l) (sym b)

  pub loses_failed : (old mid new : Option (List A)) (xs : List A) (f : LinkFault) → Loses old mid xs → Leaves mid new (Err f) → Loses old new xs
  loses_failed old mid None xs f a b = tt
  loses_failed old None (Some n) xs f a b = absurd b
  loses_failed None (Some m) (Some n) xs f a b = absurd a
  loses_failed (Some o) (Some m) (Some n) xs f a b = a ∙ ap (λ (l : List A). xs ++ l) (sym b)

pub rose_then : (n k a b c : ℕ) → RoseBy n a b → RoseBy k b c → RoseBy (n + k) a c
rose_then n k a b c (inl x) (inl y) = inl (omega (arith, x, y))
rose_then n k a b c (inl x) (inr y) = inr y
rose_then n k a b c (inr x) (inl y) = inr (omega (arith, x, y))
rose_then n k a b c (inr x) (inr y) = inr y

-- an acceptor that was asked once more
pub asks_once : (old mid new : Option (List ℕ)) (n : ℕ) → Grows old mid (replicate n WAIT_MS) → Grows mid new (WAIT_MS ∷ []) → Grows old new (replicate (n + 1) WAIT_MS)
asks_once old mid new n a b = subst (λ (l : List ℕ). Grows old new l) (replicate_more n WAIT_MS) (grows_then old mid new (replicate n WAIT_MS) (WAIT_MS ∷ []) a b)

pub rose_later : (n a b c : ℕ) → RoseBy n a b → b ≤ c → RoseBy n a c
rose_later n a b c (inl x) y = inl (omega (arith, x, y))
rose_later n a b c (inr x) y = inr (omega (arith, x, y))

-- what is so of numbers that were drawn stays so where a later load found what the hub may draw
abbrev pub SpentStays : Hub → Pass → Pass → Type 0
SpentStays h m q = newest_number m ≡ limit_of h → newest_number q ≡ limit_of h

split_later : (h : Hub) (p m q x : Pass) → StartsWith (seen q) (seen m) → IsSplitIn h p m x → IsSplitIn h p q x
split_later h p m q x begins is = record {
  caller = is.caller;
  new = is.new;
  number = is.number;
  drawn = is.drawn;
  room = is.room;
  since = is.since;
  by = starts_then (seen x) (seen m) (seen q) is.by begins;
}

module _ {L C N : Type 0} (begins : Option (List ℕ) → ℕ → N → Type 0) (talk : L → Option (List Said)) where
  fate_later : (h : Hub) (terms : Terms) (p m q : Pass) (l : L) (f : Fate (SessionJob L C N)) → StartsWith (seen q) (seen m) → SpentStays h m q → IsFate begins talk h terms p m l f
      → IsFate begins talk h terms p q l f
  fate_later h terms p m q l (started j) begins stays is = record {
    link = is.link;
    hub = is.hub;
    pass = split_later h p m q j.pass begins is.pass;
    limits = is.limits;
    turns = is.turns;
    journal = is.journal;
    is_recorded = is.is_recorded;
    policy = is.policy;
  }
  fate_later h terms p m q l (returned e) begins stays is = is
  fate_later h terms p m q l spent begins stays is = (stays is.0, is.1)

  -- what became of links is so by what the pass has seen later
  pub fates_later : (h : Hub) (terms : Terms) (p m q : Pass) (more : List (Event L C N)) → StartsWith (seen q) (seen m) → SpentStays h m q → AreFates begins talk h terms p m more
      → AreFates begins talk h terms p q more
  fates_later h terms p m q [] begins stays are = tt
  fates_later h terms p m q (arrived l f ∷ more) begins stays are = (fate_later h terms p m q l f begins stays are.0, fates_later h terms p m q more begins stays are.1)
  fates_later h terms p m q (ended j d ∷ more) begins stays are = fates_later h terms p m q more begins stays are

  pub fates_then : (h : Hub) (terms : Terms) (p q : Pass) (more last : List (Event L C N)) → AreFates begins talk h terms p q more → AreFates begins talk h terms p q last
      → AreFates begins talk h terms p q (more ++ last)
  fates_then h terms p q [] last a b = b
  fates_then h terms p q (arrived l f ∷ more) last a b = (a.0, fates_then h terms p q more last a.1 b)
  fates_then h terms p q (ended j d ∷ more) last a b = fates_then h terms p q more last a b
