-- Each definition at a history with one entry more.
-- It serves clauses of functions of `laws`.
use Rattle.std.proofs.Common.{◌≡◌, ℕ, ◌+◌, ◌==◌, Bool, true, false, not, ◌&&◌, ◌||◌, cond, List, [], ◌∷◌, ◌++◌, fold, filter, sum_by, flat_map, Option, Some, None, is_none}
use Rattle.std.proofs.Common.{option_to_list, refl, ap, sym, ◌∙◌, append_assoc, append-nil}
use Rattle.std.specs.List.{list_any, AllByRecursion}
use Rattle.std.specs.Option.{option_or}
use Rattle.std.proofs.lemmas.List.Elements.{filter-append}
use Rattle.std.proofs.lemmas.List.Folds.{list_any-append}
use Rattle.std.proofs.lemmas.List.{map-append}
use Rattle.std.proofs.lemmas.List.Sums.{fold-append}
use Rattle.std.proofs.lemmas.Grind.{flat_map-append}
use Rattle.bsc_history.specs.declared.limits.About.{About}
use Rattle.bsc_history.specs.declared.ending.End.{End}
use Rattle.bsc_history.specs.declared.entry.Entry.{Entry}
use Rattle.bsc_history.specs.declared.looks.Look.{Look}
use Rattle.bsc_history.specs.declared.connection.Connection.{Connection}
use Rattle.bsc_history.specs.Entries.{connection_of, joins, stops, Moment, moment, moments_after, moments}
use Rattle.bsc_history.specs.Ends.{end_by, first_end, ended, leaves, joined_where, joined, live, unleft}
use Rattle.bsc_history.specs.Outboxes.{newer, looked, added, sent}
use Rattle.bsc_history.specs.declared.mark.Stamped.{Stamped}
use Rattle.bsc_history.specs.Counting.{counts, counts_of, plus, one_if, is_joined, is_replacing, is_refused, is_unicast_call, is_broadcast_call, is_forward_call, appended_in, is_closing, missed_in}
use Rattle.bsc_history.specs.Replies.{is_stopped}
use Rattle.bsc_history.specs.Marks.{entries}
use Rattle.bsc_history.specs.Legality.{Lawful, Legal}
use Rattle.bsc_history.proofs.Common.{none_both as none_or}
use Rattle.bsc_lemmas.proofs.Booleans.{or_false}
use Rattle.bsc_lemmas.proofs.Options.{or_assoc, or_none}

-- moments

moments_after-more : (G es : List Entry) (e : Entry) → moments_after G (es ++ e ∷ []) ≡ moments_after G es ++ moment (G ++ es) e ∷ []
moments_after-more G [] e = ap (λ (F : List Entry). moment F e ∷ []) (sym (append-nil G))
moments_after-more G (x ∷ es) e = ap (λ (l : List Moment). moment G x ∷ l)
    (moments_after-more (G ++ x ∷ []) es e ∙ ap (λ (F : List Entry). moments_after (G ++ x ∷ []) es ++ moment F e ∷ []) (append_assoc G (x ∷ []) es))

pub moments-more : (H : List Entry) (e : Entry) → moments (H ++ e ∷ []) ≡ moments H ++ moment H e ∷ []
moments-more H e = moments_after-more [] H e

-- outboxes

pub sent-more : (a : About) (H : List Entry) (e : Entry) (c : ℕ) → sent a (H ++ e ∷ []) c ≡ sent a H c ++ added a (moment H e) (sent a H c) c
unfolding sent
sent-more a H e c =
    let f = λ (entered : List (List ℕ)) (m : Moment). entered ++ added a m entered c in
    ap (fold f []) (moments-more H e) ∙ fold-append f [] (moments H) (moment H e ∷ [])

pub looked-more : (H : List Entry) (e : Entry) (c : ℕ) → looked (H ++ e ∷ []) c ≡ fold (newer c) (looked H c) e.looks
unfolding looked
looked-more H e c =
    let f = λ (x : Entry). x.looks in
    ap (fold (newer c) 0) (flat_map-append f H (e ∷ []) ∙ ap (λ (l : List Look). flat_map f H ++ l) (append-nil e.looks)) ∙ fold-append (newer c) 0 (flat_map f H) e.looks

-- ends

pub first_end-more : (c : ℕ) (es : List Entry) (e : Entry) → first_end c (es ++ e ∷ []) ≡ option_or (first_end c es) (end_by c e)
first_end-more c [] e = or_none (end_by c e)
first_end-more c (x ∷ es) e = ap (option_or (end_by c x)) (first_end-more c es e) ∙ or_assoc (end_by c x) (first_end c es) (end_by c e)

pub ended-more : (H : List Entry) (e : Entry) (c : ℕ) → ended (H ++ e ∷ []) c ≡ option_or (ended H c) (cond (list_any (joins c) H) (end_by c e) None)
unfolding ended
ended-more [] e c = elim (joins c e) as (λ b. cond {A = Option End} b None None ≡ None) [ true ↦ refl | false ↦ refl ]
ended-more (x ∷ H) e c = elim (joins c x) as (λ b. cond b (first_end c (H ++ e ∷ [])) (ended (H ++ e ∷ []) c)
    ≡ option_or (cond b (first_end c H) (ended H c)) (cond (b || list_any (joins c) H) (end_by c e) None)) [ true ↦ first_end-more c H e | false ↦ ended-more H e c ]

-- connections

filter_both : (p q r : Connection → Bool) → ((x : Connection) → r x ≡ (p x && q x)) → (o : Option Connection) → filter r (option_to_list o) ≡ filter q (filter p (option_to_list o))
filter_both p q r h None = refl
filter_both p q r h (Some x) = ap (λ (b : Bool). cond b (x ∷ []) []) (h x) ∙ elim (p x) as (λ b. cond (b && q x) (x ∷ []) [] ≡ filter q (cond b (x ∷ []) [])) [ true ↦ refl | false ↦ refl ]

joined_where-more : (test : ℕ → List Entry → Bool) (also : ℕ → Entry → Bool) → ((c : ℕ) (es : List Entry) (e : Entry) → test c (es ++ e ∷ []) ≡ (test c es && also c e))
    → (H : List Entry) (e : Entry) → joined_where test (H ++ e ∷ []) ≡ filter (λ x. also x.number e) (joined_where test H) ++ filter (λ x. test x.number []) (option_to_list (connection_of e))
unfolding joined_where
joined_where-more test also splits [] e = append-nil (filter (λ x. test x.number []) (option_to_list (connection_of e)))
joined_where-more test also splits (x ∷ H) e =
    let new = filter (λ (y : Connection). test y.number []) (option_to_list (connection_of e)) in
    let keep = λ (y : Connection). also y.number e in
    let here = filter (λ (y : Connection). test y.number H) (option_to_list (connection_of x)) in
    let one : filter (λ y. test y.number (H ++ e ∷ [])) (option_to_list (connection_of x)) ≡ filter keep here =
    filter_both (λ y. test y.number H) keep (λ y. test y.number (H ++ e ∷ [])) (λ y. splits y.number H e) (connection_of x) in
    ap (λ (l : List Connection). l ++ joined_where test (H ++ e ∷ [])) one
    ∙ ap (λ (l : List Connection). filter keep here ++ l) (joined_where-more test also splits H e)
    ∙ sym (append_assoc (filter keep here) (filter keep (joined_where test H)) new)
    ∙ ap (λ (l : List Connection). l ++ new) (sym (filter-append keep here (joined_where test H)))

filter_all : (o : Option Connection) → filter (λ x. true) (option_to_list o) ≡ option_to_list o
filter_all None = refl
filter_all (Some x) = refl

pub filter_true : (xs : List Connection) → filter (λ x. true) xs ≡ xs
filter_true [] = refl
filter_true (x ∷ xs) = ap (λ (l : List Connection). x ∷ l) (filter_true xs)

not_or : (a b : Bool) → not (a || b) ≡ (not a && not b)
not_or true b = refl
not_or false b = refl

pub live-more : (H : List Entry) (e : Entry) → live (H ++ e ∷ []) ≡ filter (λ x. is_none (end_by x.number e)) (live H) ++ option_to_list (connection_of e)
live-more H e =
    let splits = λ (c : ℕ) (es : List Entry) (x : Entry). ap is_none (first_end-more c es x) ∙ none_or (first_end c es) (end_by c x) in
    joined_where-more (λ c after. is_none (first_end c after)) (λ c x. is_none (end_by c x)) splits H e
    ∙ ap (λ (l : List Connection). filter (λ x. is_none (end_by x.number e)) (live H) ++ l) (filter_all (connection_of e))

pub unleft-more : (H : List Entry) (e : Entry) → unleft (H ++ e ∷ []) ≡ filter (λ x. not (leaves x.number e)) (unleft H) ++ option_to_list (connection_of e)
unleft-more H e =
    let splits = λ (c : ℕ) (es : List Entry) (x : Entry). ap not (list_any-append (leaves c) es (x ∷ []) ∙ ap (λ (b : Bool). list_any (leaves c) es || b) (or_false (leaves c x)))
    ∙ not_or (list_any (leaves c) es) (leaves c x) in
    joined_where-more (λ c after. not (list_any (leaves c) after)) (λ c x. not (leaves c x)) splits H e
    ∙ ap (λ (l : List Connection). filter (λ x. not (leaves x.number e)) (unleft H) ++ l) (filter_all (connection_of e))

pub joined-more : (H : List Entry) (e : Entry) → joined (H ++ e ∷ []) ≡ joined H ++ option_to_list (connection_of e)
joined-more H e = joined_where-more (λ c after. true) (λ c x. true) (λ c es x. refl) H e
    ∙ ap (λ (l : List Connection). l ++ filter (λ x. true) (option_to_list (connection_of e))) (filter_true (joined H)) ∙ ap (λ (l : List Connection). joined H ++ l) (filter_all (connection_of e))

-- an entry that ends nobody, and by which nobody joins

filter_every : (q : Connection → Bool) (xs : List Connection) → ((x : Connection) → q x ≡ true) → filter q xs ≡ xs
filter_every q [] h = refl
filter_every q (x ∷ xs) h = rw (h x) (ap (λ (l : List Connection). x ∷ l) (filter_every q xs h))

-- by an entry that ends nobody, and by which nobody joins, the same connections are live
pub live-same : (H : List Entry) (e : Entry) → connection_of e ≡ None → ((c : ℕ) → end_by c e ≡ None) → live (H ++ e ∷ []) ≡ live H
live-same H e none ends =
    let K = λ (x : Connection). is_none (end_by x.number e) in
    live-more H e ∙ ap (λ (o : Option Connection). filter K (live H) ++ option_to_list o) none ∙ append-nil (filter K (live H)) ∙ filter_every K (live H) (λ x. ap is_none (ends x.number))

-- by an entry by which nobody joins and nobody leaves, the same connections are unleft
pub unleft-same : (H : List Entry) (e : Entry) → connection_of e ≡ None → ((c : ℕ) → leaves c e ≡ false) → unleft (H ++ e ∷ []) ≡ unleft H
unleft-same H e none stay =
    let K = λ (x : Connection). not (leaves x.number e) in
    unleft-more H e ∙ ap (λ (o : Option Connection). filter K (unleft H) ++ option_to_list o) none ∙ append-nil (filter K (unleft H)) ∙ filter_every K (unleft H) (λ x. ap not (stay x.number))

-- an entry that doesn't end c leaves the End of c as it was
pub ended-same : (H : List Entry) (e : Entry) (c : ℕ) → end_by c e ≡ None → ended (H ++ e ∷ []) c ≡ ended H c
ended-same H e c none =
    let same : (b : Bool) → cond b (end_by c e) None ≡ None = λ b. elim b as (λ b. cond b (end_by c e) None ≡ None) [ true ↦ none | false ↦ refl ] in
    ended-more H e c ∙ ap (option_or (ended H c)) (same (list_any (joins c) H)) ∙ or_none (ended H c)

-- counts, own entries, marks

counted : {X : Type 0} (f : X → ℕ) (xs : List X) (x : X) → sum_by f (xs ++ x ∷ []) ≡ sum_by f xs + f x
counted f xs x = fold-append (λ a y. a + f y) 0 xs (x ∷ [])

pub counts-more : (H : List Entry) (e : Entry) → counts (H ++ e ∷ []) ≡ plus (counts H) (counts_of e)
unfolding counts
counts-more H e = λ i. record {
  joined = counted (λ (x : Entry). one_if (is_joined x.reply)) H e i;
  replaced = counted (λ (x : Entry). one_if (is_replacing x.reply)) H e i;
  refused = counted (λ (x : Entry). one_if (is_refused x.reply)) H e i;
  unicasts = counted (λ (x : Entry). one_if (is_unicast_call x.call)) H e i;
  broadcasts = counted (λ (x : Entry). one_if (is_broadcast_call x.call)) H e i;
  appended = counted (λ (x : Entry). appended_in x.reply) H e i;
  dropped = counted (λ (x : Entry). one_if (is_forward_call x.call && (appended_in x.reply == 0))) H e i;
  full = counted (λ (x : Entry). one_if (is_closing x.reply)) H e i;
  missed = counted (λ (x : Entry). missed_in x.reply) H e i;
}

pub is_stopped-more : (H : List Entry) (e : Entry) → is_stopped (H ++ e ∷ []) ≡ (is_stopped H || stops e)
is_stopped-more H e = list_any-append stops H (e ∷ []) ∙ ap (λ (b : Bool). is_stopped H || b) (or_false (stops e))

pub entries-more : (S : List Stamped) (s : Stamped) → entries (S ++ s ∷ []) ≡ entries S ++ s.entry ∷ []
entries-more S s = map-append (λ (x : Stamped). x.entry) S (s ∷ [])

-- What holds of no entries, and stays with each one more, holds of every list of entries.
each_from : (P : List Entry → Type 0) → ((G : List Entry) (e : Entry) → P G → P (G ++ e ∷ [])) → (G es : List Entry) → P G → P (G ++ es)
each_from P more G [] p = rw append-nil p
each_from P more G (x ∷ es) p = let all = each_from P more (G ++ x ∷ []) es (more G x p) in rw append_assoc at all

pub each_entry : (P : List Entry → Type 0) → P [] → ((G : List Entry) (e : Entry) → P G → P (G ++ e ∷ [])) → (H : List Entry) → P H
each_entry P none more H = each_from P more [] H none

-- legality

All-more : (P : Moment → Type 0) (xs : List Moment) (m : Moment) → AllByRecursion P xs → P m → AllByRecursion P (xs ++ m ∷ [])
All-more P [] m h p = (p, tt)
All-more P (x ∷ xs) m h p = (h.0, All-more P xs m h.1 p)

All-front : (P : Moment → Type 0) (xs : List Moment) (m : Moment) → AllByRecursion P (xs ++ m ∷ []) → AllByRecursion P xs × P m
All-front P [] m h = (tt, h.0)
All-front P (x ∷ xs) m h = let r = All-front P xs m h.1 in ((h.0, r.0), r.1)

pub Legal-more : (a : About) (H : List Entry) (e : Entry) → Legal a H → Lawful a (moment H e) → Legal a (H ++ e ∷ [])
Legal-more a H e legal lawful = record { lawful = rw moments-more (All-more (Lawful a) (moments H) (moment H e) legal.lawful lawful) }

pub Legal-front : (a : About) (H : List Entry) (e : Entry) → Legal a (H ++ e ∷ []) → Legal a H × Lawful a (moment H e)
Legal-front a H e legal =
    let r = All-front (Lawful a) (moments H) (moment H e) (rw moments-more at legal.lawful) in
    (record { lawful = r.0 }, r.1)

-- What holds of no entries, and stays with each lawful one, holds of every legal history.
along_from : (a : About) (P : List Entry → Type 0) → ((G : List Entry) (e : Entry) → Legal a G → P G → Lawful a (moment G e) → P (G ++ e ∷ [])) → (G es : List Entry) → Legal a G → P G
    → AllByRecursion (Lawful a) (moments_after G es) → P (G ++ es)
along_from a P more G [] legal p h = rw append-nil p
along_from a P more G (x ∷ es) legal p h =
    let now = more G x legal p h.0 in
    let all = along_from a P more (G ++ x ∷ []) es (Legal-more a G x legal h.0) now h.1 in
    rw append_assoc at all

pub along : (a : About) (P : List Entry → Type 0) → P [] → ((G : List Entry) (e : Entry) → Legal a G → P G → Lawful a (moment G e) → P (G ++ e ∷ [])) → (H : List Entry) → Legal a H → P H
along a P none more H legal = along_from a P more [] H (record { lawful = tt }) none legal.lawful
