-- A hub that was served on a port that was bound.
-- It serves clauses of functions of `command` and `serving`.
use Rattle.std.proofs.Common.{inl, inr, ◌≡◌, ℕ, Bool, false, List, [], ◌∷◌, ◌++◌, map, Option, Some, None, refl, sym, ◌∙◌, subst, arith}
use Rattle.std.specs.Prelude.{◌⊎◌, ◌≤◌, ◌≢◌, replicate}
use Rattle.bsc_history.specs.declared.entry.Entry.{Entry}
use Rattle.bsc_turn.specs.Passes.{own_list}
use Rattle.bsc_outside.specs.Faults.{HasRisen}
use Rattle.bsc_player.specs.LastLines.{RanOut}
use Rattle.bsc_edge.specs.declared.begun.Begun.{Begun as BegunCall}
use Rattle.bsc_edge.specs.declared.fault.LinkFault.{LinkFault}
use Rattle.bsc_edge.specs.declared.fault.LinkFault.TheVariants.{Failed}
use Rattle.bsc_edge.specs.Told.{Grows, Stays, ToldIs}
use Rattle.bsc_edge.proofs.Common.{grows_from}
use Rattle.bsc_serve.specs.declared.end.ServeEnd.{ServeEnd}
use Rattle.bsc_serve.specs.declared.terms.ServeTerms.{ServeTerms}
use Rattle.bsc_serve.specs.declared.session_look.SessionLook.{SessionLook}
use Rattle.bsc_serve.specs.Asking.{AskedSo, Asking, last_look, look_at}
use Rattle.bsc_serve.specs.Serving.{Loses, RoseBy, Serving}
use Rattle.bsc_serve.specs.Terms.{all_terms}
use Rattle.bsc_serve.specs.Worlds.{ServeWorld, served_world}
use Rattle.bsc_hub_command.specs.Served.{Begun, Bound, HasFailed, HubCourse, HubTelling, HubTerms, HubWorld, NotBound, SaysEnd, Titling, Unbegun, Untitled}
use Rattle.bsc_hub_command.specs.Served.{status_with, terms_by, terms_of, with_pass}
use Rattle.bsc_outside.proofs.Common.{risen_from}

tells_still : {A : Type 0} → (a b : Option A) (x : A) → ToldIs a x → Stays a b → ToldIs b x
tells_still a None x t s = tt
tells_still None (Some y) x t s = absurd s
tells_still (Some z) (Some y) x t s = s ∙ t

loses_from : {A : Type 0} → (l m n : Option (List A)) (xs : List A) → Stays l m → Loses m n xs → Loses l n xs
loses_from l m None xs s t = tt
loses_from l None (Some n) xs s t = absurd t
loses_from None (Some m) (Some n) xs s t = absurd s
loses_from (Some l) (Some m) (Some n) xs s t = sym s ∙ t

rose_from : (n a b c : ℕ) → a ≤ b → RoseBy n b c → RoseBy n a c
rose_from n a b c later (inl x) = inl (omega (arith, later, x))
rose_from n a b c later (inr x) = inr x

-- it was looked so since the acceptor was bound, and until the asker was told of the end
looks_so : (own : List Entry) (l m n : Option (List ℕ)) (a b c : Asking) (end : ServeEnd) → Stays l m → AskedSo own m n a b end → c.looks ≡ b.looks → c.asked ≡ b.asked
    → AskedSo own l n a (record c { endings = a.endings }) end
looks_so own l m n a b c end still looks told same =
    let k = looks.looked in
    let later : a.asked ≤ c.asked = (let x = k.later in omega (arith, x, same)) in
    record {
      is_asked = looks.is_asked;
      looked = record {
        asks = k.asks;
        waited = grows_from l m n _ still k.waited;
        looks = subst (λ (x : Option (List SessionLook)). Grows a.looks x (map (look_at own) (replicate k.asks false ++ last_look looks.is_asked))) (sym told) k.looks;
        rose = λ e. subst (λ (x : ℕ). HasRisen a.asked x) (sym same) (k.rose e);
        later = later;
        endings = refl;
      };
      ends = looks.ends;
    }

module _ {L C N : Type 0} (tells : HubTelling L C N) where
  pub bound_so : (asked : HubTerms) (k : HubCourse) (titled held' : Option (List ℕ)) (before after : HubWorld L C N) (links came : Option (List L))
      (waits : Option (List ℕ)) (quiets : ℕ) (told : Option (Option ℕ)) (said : ℕ) (end : ServeEnd) (terms : ServeTerms) (port : ℕ)
      → terms ≡ terms_by asked.settings asked.sessions → port ≡ asked.settings.port → ToldIs told (Some port) → Stays told after.port
      → Stays before.links links → Stays before.came came → Stays before.waits waits → before.quiets ≤ quiets
      → Serving tells.works tells.begins tells.talk (all_terms terms asked.prefix asked.policy)
      (served_world k.hub titled (record (with_pass k.first before) { links = links; came = came; waits = waits; quiets = quiets })) (served_world k.hub held' (with_pass k.last after)) end
      → SaysEnd end said before.written after.written → (mid : Asking) → AskedSo (own_list k.first) waits after.waits before.asking mid end
      → after.asking.looks ≡ mid.looks → after.asking.asked ≡ mid.asked → Grows mid.endings after.asking.endings (after.written ∷ [])
      → (s : ℕ) (are_lost : Bool) → Grows before.lost after.lost (are_lost ∷ []) → s ≡ status_with are_lost said
      → Bound tells k asked titled held' before after s
  bound_so asked k titled held' before after links came waits quiets told said end terms port same same_port bound stays left arrived asks later serving says mid looks looks_same asks_same ended s are_lost counted status =
      let first : ServeWorld L C N = record (with_pass k.first before) { links = links; came = came; waits = waits; quiets = quiets } in
      let b : Serving tells.works tells.begins tells.talk (terms_of asked) (served_world k.hub titled first) (served_world k.hub held' (with_pass k.last after)) end =
      subst (λ (t : ServeTerms). Serving tells.works tells.begins tells.talk (all_terms t asked.prefix asked.policy) (served_world k.hub titled first)
      (served_world k.hub held' (with_pass k.last after)) end) same serving in
      record {
        end = end;
        bound = tells_still told after.port (Some asked.settings.port) (subst (λ (n : ℕ). ToldIs told (Some n)) same_port bound) stays;
        serving = record {
          events = b.events;
          cut = b.cut;
          still = b.still;
          stop = b.stop;
          at_stop = b.at_stop;
          late = b.late;
          lost = b.lost;
          cut_last = b.cut_last;
          cut_so = b.cut_so;
          hub = b.hub;
          left = loses_from before.links links after.links _ left b.left;
          came = grows_from before.came came after.came _ arrived b.came;
          within = b.within;
          asks = b.asks;
          asked = grows_from before.waits waits after.waits _ asks b.asked;
          idle = b.idle;
          quiet = rose_from b.idle before.quiets quiets after.quiets later b.quiet;
          answered = b.answered;
          begun = b.begun;
          jobs = b.jobs;
          fates = b.fates;
          returned = b.returned;
          out = b.out;
          late_out = b.late_out;
          only_ends = b.only_ends;
          gathered = b.gathered;
          earlier = b.earlier;
          one_each = b.one_each;
          given_back = b.given_back;
          went = b.went;
          joined = b.joined;
          same = b.same;
          stopped = b.stopped;
          drew = b.drew;
          stop_last = b.stop_last;
          records = b.records;
          has_line = b.has_line;
          ends = b.ends;
        };
        said = said;
        says = says;
        are_lost = are_lost;
        counted = counted;
        status = status;
        looks = looks_so (own_list k.first) before.waits waits after.waits before.asking mid after.asking end asks looks looks_same asks_same;
        told = subst (λ (x : Option (List (Option (List ℕ)))). Grows x after.asking.endings (after.written ∷ [])) looks.looked.endings ended;
      }

-- what is said where the own journal failed
pub says_lost : (s : ℕ) (fault : LinkFault) (before after : Option (List ℕ)) (failed : Type 0) → (fault ≡ Failed → failed)
    → ((s ≡ 4) × (fault ≡ Failed) × (after ≡ before)) ⊎ RanOut s before after → ((s ≡ 4) × failed × (after ≡ before)) ⊎ RanOut s before after
says_lost s fault before after failed so (inl x) = inl (x.0, so x.1, x.2)
says_lost s fault before after failed so (inr x) = inr x

-- ---- why the status is 4

not_none : (a b : ℕ) → a ≡ 0 → HasRisen a b → b ≢ 0
not_none a b fresh (inl x) e = omega (arith, fresh, x, e)
not_none a b fresh (inr x) e = omega (arith, x, e)

-- a journal that had put all, and then not
pub written_so : {N : Type 0} → (unput : N → ℕ) (begun own : N) (k k' j m j' : ℕ) → unput begun ≡ 0 → j ≤ m
    → HasRisen k k' ⊎ HasRisen m j' ⊎ HasRisen (unput begun) (unput own) → HasRisen k k' ⊎ HasRisen j j' ⊎ HasFailed unput (Some own)
written_so unput begun own k k' j m j' fresh later (inl x) = inl x
written_so unput begun own k k' j m j' fresh later (inr (inl x)) = inr (inl (risen_from j m j' later x))
written_so unput begun own k k' j m j' fresh later (inr (inr x)) = inr (inr (own, refl, not_none (unput begun) (unput own) fresh x))

-- a fault of a journal in serving, or a write that failed
pub told_so : {F X Y Z : Type 0} → F ⊎ X → (X → Y ⊎ Z) → F ⊎ Y ⊎ Z
told_so (inl x) f = inl x
told_so (inr x) f = inr (f x)

risen_until : (a b c : ℕ) → b ≤ c → HasRisen a b → HasRisen a c
risen_until a b c later (inl x) = inl (omega (arith, later, x))
risen_until a b c later (inr x) = inr (omega (arith, later, x))

still_risen : {Y Z : Type 0} → (j m j' : ℕ) → m ≤ j' → Y ⊎ HasRisen j m ⊎ Z → Y ⊎ HasRisen j j' ⊎ Z
still_risen j m j' later (inl x) = inl x
still_risen j m j' later (inr (inl x)) = inr (inl (risen_until j m j' later x))
still_risen j m j' later (inr (inr x)) = inr (inr x)

pub later_so : {X Y : Type 0} → (n m k : ℕ) → n ≤ m → X ⊎ Y ⊎ HasRisen m k → X ⊎ Y ⊎ HasRisen n k
later_so n m k later (inl x) = inl x
later_so n m k later (inr (inl x)) = inr (inl x)
later_so n m k later (inr (inr x)) = inr (inr (risen_from n m k later x))

pub sooner : {X : Type 0} → (a b c : ℕ) → a ≤ b → HasRisen b c ⊎ X → HasRisen a c ⊎ X
sooner a b c later (inl x) = inl (risen_from a b c later x)
sooner a b c later (inr x) = inr x

-- lines that were lost in serving, or why the status would be 4 without them
pub lost_so : {X Y Z : Type 0} {lost : Type 0} → (j m j' : ℕ) → j ≤ m → m ≤ j' → (X → Y ⊎ HasRisen j m ⊎ Z) → (lost → HasRisen m j') → X ⊎ lost → Y ⊎ HasRisen j j' ⊎ Z
lost_so j m j' before after said count (inl x) = still_risen j m j' after (said x)
lost_so j m j' before after said count (inr x) = inr (inl (risen_from j m j' before (count x)))

-- ---- what became of a hub says nothing of the journals that couldn't be begun, and nothing of how long files were to be

module _ {L C N : Type 0} (tells : HubTelling L C N) (k : HubCourse) (asked : HubTerms) (begun own : N) (before after : HubWorld L C N) (n s : ℕ) (l : Option (List ℕ)) where
  untitled_since : Untitled tells k begun own (record before { unbegun = n; limits = l }) after s → Untitled tells k begun own before after s
  untitled_since u = record {
    part = u.part;
    untouched = record {
      links = u.untouched.links;
      came = u.untouched.came;
      waits = u.untouched.waits;
      quiets = u.untouched.quiets;
      port = u.untouched.port;
      faults = u.untouched.faults;
      jobs = u.untouched.jobs;
      given_back = u.untouched.given_back;
      out = u.untouched.out;
      unstarted = u.untouched.unstarted;
      lost = u.untouched.lost;
      asking = u.untouched.asking;
    };
    unasked = u.unasked;
    stops = u.stops;
    says = u.says;
  }

  unbound_since : NotBound k (record before { unbegun = n; limits = l }) after s → NotBound k before after s
  unbound_since b = record {
    pass = b.pass;
    links = b.links;
    came = b.came;
    waits = b.waits;
    jobs = b.jobs;
    given_back = b.given_back;
    out = b.out;
    unstarted = b.unstarted;
    begun = b.begun;
    lost = b.lost;
    asking = b.asking;
    failed = b.failed;
    says = b.says;
  }

  bound_since : (titled held' : Option (List ℕ)) → Bound tells k asked titled held' (record before { unbegun = n; limits = l }) after s
      → Bound tells k asked titled held' before after s
  bound_since titled held' b = record {
    end = b.end;
    bound = b.bound;
    serving = b.serving;
    said = b.said;
    says = b.says;
    are_lost = b.are_lost;
    counted = b.counted;
    status = b.status;
    looks = b.looks;
    told = b.told;
  }

  went_since : (titled : Option (List ℕ))
      → (NotBound k (record before { unbegun = n; limits = l }) after s × (tells.held own ≡ titled)) ⊎ Bound tells k asked titled (tells.held own) (record before { unbegun = n; limits = l }) after s
      → (NotBound k before after s × (tells.held own ≡ titled)) ⊎ Bound tells k asked titled (tells.held own) before after s
  went_since titled (inl b) = inl (unbound_since b.0, b.1)
  went_since titled (inr b) = inr (bound_since titled (tells.held own) b)

  pub titling_since : Titling tells k asked begun own (record before { unbegun = n; limits = l }) after s
      → Titling tells k asked begun own before after s
  titling_since (inl u) = inl (untitled_since u)
  titling_since (inr t) = inr (t.0, t.1, went_since t.0 t.2)

module _ {L C N : Type 0} (tells : HubTelling L C N) (k : HubCourse) (asked : HubTerms) (own : Option N) (before after : HubWorld L C N) (s : ℕ) (l : Option (List ℕ)) where
  unbegun_since : Unbegun k asked own (record before { limits = l }) after s → Unbegun k asked own before after s
  unbegun_since u = record {
    none = u.none;
    untouched = record {
      links = u.untouched.links;
      came = u.untouched.came;
      waits = u.untouched.waits;
      quiets = u.untouched.quiets;
      port = u.untouched.port;
      faults = u.untouched.faults;
      jobs = u.untouched.jobs;
      given_back = u.untouched.given_back;
      out = u.untouched.out;
      unstarted = u.untouched.unstarted;
      lost = u.untouched.lost;
      asking = u.untouched.asking;
    };
    begun = u.begun;
    stops = u.stops;
    says = u.says;
  }

  begun_since : Begun tells k asked own (record before { limits = l }) after s → Begun tells k asked own before after s
  begun_since b = record {
    begun = b.begun;
    own = b.own;
    of_pass = b.of_pass;
    fresh = b.fresh;
    keeps = b.keeps;
    calls = b.calls;
    called = b.called;
    went = titling_since tells k asked b.begun b.own (record before { begun = b.calls }) after before.unbegun s l b.went;
  }

  abbrev Went : HubWorld L C N → Type 0
  Went world = Unbegun k asked own world after s ⊎ Begun tells k asked own world after s

  went_before : Went (record before { limits = l }) → Went before
  went_before (inl u) = inl (unbegun_since u)
  went_before (inr b) = inr (begun_since b)

  -- nor is what became of a hub told by how its files were limited before
  pub went_since_limits : (begun : Option (List BegunCall)) (unbegun : ℕ) (lost : Option (List Bool)) → begun ≡ before.begun → unbegun ≡ before.unbegun → lost ≡ before.lost
      → Went (record before { begun = begun; unbegun = unbegun; lost = lost; limits = l }) → Went before
  went_since_limits begun unbegun lost calls faults same went =
      let a = subst (λ (x : Option (List BegunCall)). Went (record before { begun = x; unbegun = unbegun; lost = lost; limits = l })) calls went in
      let b = subst (λ (x : ℕ). Went (record before { unbegun = x; lost = lost; limits = l })) faults a in
      went_before (subst (λ (x : Option (List Bool)). Went (record before { lost = x; limits = l })) same b)
