-- The passes of the workers are joined, one after another.
-- It serves the clauses of `join_all` and `run_jobs`.
use Rattle.std.proofs.Common.{◌≡◌, ◌≤◌, ◌+◌, inl, inr, ℕ, Bool, true, false, cond, List, [], ◌∷◌, ◌++◌, length, map, take, None, Result, Ok, Err, refl, ap, sym, ◌∙◌, subst, arith, add-zero}
use Rattle.std.specs.List.{AllByRecursion, sum_by}
use Rattle.std.proofs.lemmas.List.{map-append}
use Rattle.std.proofs.lemmas.List.Sums.{sum_by-cons, sum_by_push}
use Rattle.bsc_history.specs.declared.entry.Entry.{Entry}
use Rattle.bsc_history.specs.declared.limits.About.{About}
use Rattle.bsc_history.specs.declared.mark.Stamped.{Stamped}
use Rattle.bsc_history.specs.Marks.{entries}
use Rattle.bsc_history.specs.Outboxes.{sent}
use Rattle.bsc_turn.specs.declared.pass.Pass.{Pass}
use Rattle.bsc_turn.specs.declared.view.EndedCaller.{EndedCaller}
use Rattle.bsc_turn.specs.Effects.{ended_of}
use Rattle.bsc_turn.specs.Histories.{StartsWith}
use Rattle.bsc_turn.specs.Passes.{ended_callers, newest_number, own_list, seen, view_of}
use Rattle.bsc_hub.specs.declared.hub.Hub.{Hub}
use Rattle.bsc_hub.specs.Passing.{IsCaller, Passed, about_of}
use Rattle.bsc_hub.proofs.Following.{passed_none, passed_then}
use Rattle.bsc_load.specs.declared.jobs.Cut.{Cut}
use Rattle.bsc_load.specs.declared.jobs.Cut.TheVariants.{NoMemory, Short}
use Rattle.bsc_load.specs.declared.jobs.Sum.{Sum}
use Rattle.bsc_load.specs.declared.jobs.Work.{Work}
use Rattle.bsc_load.specs.Frames.{npdu_octets}
use Rattle.bsc_load.specs.Inner.{AreFirst, CountsIn, HasRun, LoadJoins, LoadWorkerDid, Took, cut_short, within_32_bits, work_indices}
use Rattle.bsc_load.specs.Load.{ShowsCut, Worker, WorksPart, WorksWhole}
use Rattle.bsc_load.specs.Workers.{IsPart, ShowsShort, octets_taken, within_64_bits}
use Rattle.bsc_load.proofs.Running.{part_of_whole}
use Rattle.bsc_load.proofs.Unjoined.{first_later}
use Rattle.bsc_lemmas.proofs.Booleans.{false_true as no_cut}
use Rattle.bsc_lemmas.proofs.Lists.{all-push as all_push}
use Rattle.bsc_hub.proofs.Guarding.{longer}

-- what stays of a worker by a longer history

-- how many octets of NPDU a worker's receiver took, by the history S
abbrev took_octets : About → List Stamped → Worker → ℕ
took_octets a S w = octets_taken a (entries S) w.receiver w.taken

-- what was taken is what some frames have
took_is : (a : About) (S : List Stamped) (c taken : ℕ) (frames : List (List ℕ)) → length frames ≡ taken → AreFirst a S c frames → npdu_octets frames ≡ octets_taken a (entries S) c taken
took_is a S c taken frames many first = ap npdu_octets (first ∙ ap (λ (n : ℕ). take n (sent a (entries S) c)) many)

took_same : (a : About) (S T : List Stamped) (x : Worker) → StartsWith T S → Took a S x → took_octets a S x ≡ took_octets a T x
took_same a S T x begins took = sym (took_is a S x.receiver x.taken took.0 took.1 took.2) ∙ took_is a T x.receiver x.taken took.0 took.1 (first_later a S T x.receiver took.0 begins took.2)

took_later : (a : About) (S T : List Stamped) (x : Worker) → StartsWith T S → Took a S x → Took a T x
took_later a S T x begins took = (took.0, took.1, first_later a S T x.receiver took.0 begins took.2)

pub all_took_later : (a : About) (S T : List Stamped) (xs : List Worker) → StartsWith T S → AllByRecursion (Took a S) xs → AllByRecursion (Took a T) xs
all_took_later a S T [] begins all = tt
all_took_later a S T (x ∷ xs) begins all = (took_later a S T x begins all.0, all_took_later a S T xs begins all.1)

pub all_took_same : (a : About) (S T : List Stamped) (xs : List Worker) → StartsWith T S → AllByRecursion (Took a S) xs → sum_by (took_octets a S) xs ≡ sum_by (took_octets a T) xs
all_took_same a S T [] begins all = refl
all_took_same a S T (x ∷ xs) begins all =
    sum_by-cons (took_octets a S) x xs
    ∙ ap (λ (n : ℕ). n + sum_by (took_octets a S) xs) (took_same a S T x begins all.0)
    ∙ ap (λ (n : ℕ). took_octets a T x + n) (all_took_same a S T xs begins all.1)
    ∙ sym (sum_by-cons (took_octets a T) x xs)

shows_later : (a : About) (E : List Entry) (m n : ℕ) → m ≤ n → ShowsShort a E m → ShowsShort a E n
shows_later a E m n more so =
    elim so [
      | inl refused ↦ inl refused
      | inr worn ↦ inr (worn.0, omega (arith, more, worn.1))
    ]

pub all_cut_later : (h : Hub) (p q : Pass) (xs : List Worker) → StartsWith (seen q) (seen p) → AllByRecursion (ShowsCut h p) xs → AllByRecursion (ShowsCut h q) xs
all_cut_later h p q [] begins all = tt
all_cut_later h p q (x ∷ xs) begins all = (
  λ is. shows_later (about_of h) x.caller.own (length (entries (seen p))) (length (entries (seen q))) (longer (seen p) (seen q) begins) (all.0 is),
  all_cut_later h p q xs begins all.1,
)

-- one worker more

-- how a worker's answer says what it is
abbrev Says : About → List Stamped → Worker → Result ℕ Cut → Type 0
Says a S x (Ok octets) = WorksWhole x × (octets ≡ within_64_bits (took_octets a S x))
Says a S x (Err Short) = x.is_cut ≡ true
Says a S x (Err NoMemory) = x.is_cut ≡ false

record Known (h : Hub) (w : Work) (S : List Stamped) (x : Worker) : Type 0 where
  pub index : x.index ≡ w.index
  pub caller : x.caller ≡ ended_of (view_of w.pass)
  pub part : WorksPart x
  pub cut : x.is_cut ≡ true → ShowsShort (about_of h) x.caller.own (length (entries S))
  pub took : Took (about_of h) S x
  pub says : Says (about_of h) S x w.octets

says_later : (a : About) (S T : List Stamped) (x : Worker) (r : Result ℕ Cut) → StartsWith T S → Took a S x → Says a S x r → Says a T x r
says_later a S T x (Ok octets) begins took says = (says.0, says.1 ∙ ap within_64_bits (took_same a S T x begins took))
says_later a S T x (Err Short) begins took says = says
says_later a S T x (Err NoMemory) begins took says = says

known_later : (h : Hub) (w : Work) (S T : List Stamped) (x : Worker) → StartsWith T S → Known h w S x → Known h w T x
known_later h w S T x begins k = record {
  index = k.index;
  caller = k.caller;
  part = k.part;
  cut = λ is. shows_later (about_of h) x.caller.own (length (entries S)) (length (entries T)) (longer S T begins) (k.cut is);
  took = took_later (about_of h) S T x begins k.took;
  says = says_later (about_of h) S T x w.octets begins k.took k.says;
}

-- by its answer
abbrev KnownBy : Hub → Work → List Stamped → Worker → Result ℕ Cut → Type 0
KnownBy h w S x r = IsPart x.index x.caller.own × (x.is_cut ≡ true → ShowsShort (about_of h) x.caller.own (length (entries S))) × Took (about_of h) S x × Says (about_of h) S x r
    × (x.index ≡ w.index) × (x.caller ≡ ended_of (view_of w.pass))

known_by : (h : Hub) (w : Work) (r : Result ℕ Cut) → LoadWorkerDid h w.index (own_list w.pass) (seen w.pass) r → (x : Worker) × KnownBy h w (seen w.pass) x r
known_by h w (Ok octets) d =
    let x : Worker = record { index = w.index; caller = ended_of (view_of w.pass); is_cut = false; receiver = d.conn; taken = d.taken } in
    let part = part_of_whole w.index (own_list w.pass) d.conn d.taken d.whole in
    let cut : false ≡ true → ShowsShort (about_of h) (own_list w.pass) (length (entries (seen w.pass))) =
    λ is. no_cut (ShowsShort (about_of h) (own_list w.pass) (length (entries (seen w.pass)))) is in
    let octets_so = d.counted ∙ ap within_64_bits (took_is (about_of h) (seen w.pass) d.conn d.taken d.frames d.many d.first) in
    (x, (part, cut, (d.frames, d.many, d.first), ((refl, d.whole), octets_so), refl, refl))
known_by h w (Err Short) d =
    let x : Worker = record { index = w.index; caller = ended_of (view_of w.pass); is_cut = true; receiver = 0; taken = 0 } in
    (x, (d.0, (λ is. d.1), ([], refl, refl), refl, refl, refl))
known_by h w (Err NoMemory) d =
    let x : Worker = record { index = w.index; caller = ended_of (view_of w.pass); is_cut = false; receiver = 0; taken = 0 } in
    let cut : false ≡ true → ShowsShort (about_of h) (own_list w.pass) (length (entries (seen w.pass))) =
    λ is. no_cut (ShowsShort (about_of h) (own_list w.pass) (length (entries (seen w.pass)))) is in
    (x, (d.0, cut, ([], refl, refl), refl, refl, refl))

known : (h : Hub) (w : Work) → HasRun h w → (x : Worker) × Known h w (seen w.pass) x
known h w run =
    let k = known_by h w w.octets run.did in
    let none : k.0.caller.loads ≡ 0 = ap (λ (e : EndedCaller). e.loads) k.1.5 ∙ run.draws_none in
    (k.0, record { part = record { part = k.1.0; draws_none = none }; cut = k.1.1; took = k.1.2; says = k.1.3; index = k.1.4; caller = k.1.5 })

-- how many were cut short

cut_short_more : (xs : List Worker) (x : Worker) → cut_short (xs ++ x ∷ []) ≡ cut_short xs + cond x.is_cut 1 0
cut_short_more xs x = sum_by_push (λ (w : Worker). cond w.is_cut 1 0) xs x

short_same : (s t n : ℕ) (b : Bool) → b ≡ false → t ≡ s → s ≡ within_32_bits n → t ≡ within_32_bits (n + cond b 1 0)
short_same s t n b is same so = same ∙ so ∙ ap within_32_bits (sym (add-zero n)) ∙ ap (λ b. within_32_bits (n + cond b 1 0)) (sym is)

short_one : (s t n : ℕ) (b : Bool) → b ≡ true → t ≡ within_32_bits (s + 1) → s ≡ within_32_bits n → t ≡ within_32_bits (n + cond b 1 0)
short_one s t n b is more so =
    let k : t ≡ within_32_bits (n + 1) = omega (arith, more, so) in
    k ∙ ap (λ b. within_32_bits (n + cond b 1 0)) (sym is)

short_more : (a : About) (S : List Stamped) (x : Worker) (r : Result ℕ Cut) (s t : Sum) (n : ℕ) → Says a S x r → CountsIn s r t → s.short ≡ within_32_bits n
    → t.short ≡ within_32_bits (n + cond x.is_cut 1 0)
short_more a S x (Ok octets) s t n says counts so = short_same s.short t.short n x.is_cut says.0.0 counts.1 so
short_more a S x (Err Short) s t n says counts so = short_one s.short t.short n x.is_cut says counts.1 so
short_more a S x (Err NoMemory) s t n says counts so = short_same s.short t.short n x.is_cut says counts.1 so

-- what all took

add_within : (s t o a b : ℕ) → t ≡ within_64_bits (s + o) → s ≡ within_64_bits a → o ≡ within_64_bits b → t ≡ within_64_bits (a + b)
add_within s t o a b sum first second = omega (arith, sum, first, second)

whole_more : (a : About) (S T : List Stamped) (xs : List Worker) (x : Worker) (r : Result ℕ Cut) (s t : Sum) → StartsWith T S → AllByRecursion (Took a S) xs → Says a T x r → CountsIn s r t →
    (s.lacks_memory ≡ false → cut_short xs ≡ 0 → AllByRecursion WorksWhole xs × (s.octets ≡ within_64_bits (sum_by (took_octets a S) xs))) →
    t.lacks_memory ≡ false → cut_short (xs ++ x ∷ []) ≡ 0 → AllByRecursion WorksWhole (xs ++ x ∷ []) × (t.octets ≡ within_64_bits (sum_by (took_octets a T) (xs ++ x ∷ [])))
whole_more a S T xs x (Ok octets) s t begins took says counts whole lacks none =
    let zero : cut_short xs ≡ 0 = omega (arith, cut_short_more xs x, none) in
    let w = whole (sym counts.2 ∙ lacks) zero in (
      all_push WorksWhole xs x w.0 says.0,
      add_within s.octets t.octets octets (sum_by (took_octets a T) xs) (took_octets a T x) counts.0 (w.1 ∙ ap within_64_bits (all_took_same a S T xs begins took)) says.1
          ∙ ap within_64_bits (sym (sum_by_push (took_octets a T) xs x)),
    )
whole_more a S T xs x (Err Short) s t begins took says counts whole lacks none =
    let one : cut_short (xs ++ x ∷ []) ≡ cut_short xs + 1 = cut_short_more xs x ∙ ap (λ b. cut_short xs + cond b 1 0) says in
    absurd (omega (arith, one, none))
whole_more a S T xs x (Err NoMemory) s t begins took says counts whole lacks none = no_cut _ (sym lacks ∙ counts.2)

-- before the first
pub joins_none : (h : Hub) (p : Pass) (s : Sum) → IsCaller h p → s.octets ≡ 0 → s.short ≡ 0 → s.lacks_memory ≡ false → LoadJoins h [] p p s
joins_none h p s is octets short lacks = record {
  workers = [];
  passed = passed_none h p is;
  loaded = refl;
  same = refl;
  parts = tt;
  cut = tt;
  took = tt;
  short = short;
  whole = λ fine none. (tt, octets);
}

-- one more
pub joins_more : (h : Hub) (ws : List Work) (w : Work) (p m q : Pass) (s t : Sum) → LoadJoins h ws p m s → HasRun h w →
    Passed h m (ended_of (view_of w.pass) ∷ ended_callers w.pass) None q → StartsWith (seen q) (seen w.pass) → newest_number q ≡ newest_number m → CountsIn s w.octets t
    → LoadJoins h (ws ++ w ∷ []) p q t
joins_more h ws w p m q s t j run joined sees loaded counts =
    let one = known h w run in
    let x = one.0 in
    let k = known_later h w (seen w.pass) (seen q) x sees one.1 in
    let xs = j.workers in
    let callers = λ (l : List Worker). map (λ (v : Worker). v.caller) l in
    let took_in : callers xs ++ ended_of (view_of w.pass) ∷ ended_callers w.pass ≡ callers (xs ++ x ∷ []) =
    ap (λ (l : List EndedCaller). callers xs ++ ended_of (view_of w.pass) ∷ l) run.ended ∙ ap (λ (c : EndedCaller). callers xs ++ c ∷ []) (sym k.caller)
    ∙ sym (map-append (λ (v : Worker). v.caller) xs (x ∷ [])) in
    record {
      workers = xs ++ x ∷ [];
      passed = subst (λ (l : List EndedCaller). Passed h p l None q) took_in (passed_then h p m q (callers xs) (ended_of (view_of w.pass) ∷ ended_callers w.pass) None j.passed joined);
      loaded = loaded ∙ j.loaded;
      same =
          map-append (λ (v : Worker). v.index) xs (x ∷ [])
          ∙ ap (λ (l : List ℕ). l ++ x.index ∷ []) j.same
          ∙ ap (λ (n : ℕ). work_indices ws ++ n ∷ []) k.index
          ∙ sym (map-append (λ (v : Work). v.index) ws (w ∷ []));
      parts = all_push WorksPart xs x j.parts k.part;
      cut = all_push (ShowsCut h q) xs x (all_cut_later h m q xs joined.grows j.cut) k.cut;
      took = all_push (Took (about_of h) (seen q)) xs x (all_took_later (about_of h) (seen m) (seen q) xs joined.grows j.took) k.took;
      short = short_more (about_of h) (seen q) x w.octets s t (cut_short xs) k.says counts j.short ∙ ap within_32_bits (sym (cut_short_more xs x));
      whole = whole_more (about_of h) (seen m) (seen q) xs x w.octets s t joined.grows j.took k.says counts j.whole;
    }
