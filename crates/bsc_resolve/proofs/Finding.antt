-- Entries by their VMACs, in a list that a call changed.
-- It serves clauses of functions of `entries`, `laws` and `resolve`.
use Rattle.std.proofs.Common.{◌≡◌, ◌<◌, ◌+◌, ℕ, zero, suc, Bool, true, false, cond, ◌||◌, List, [], ◌∷◌, ◌++◌, length, map, filter, take, drop, get_or, find, Option, Some, None}
use Rattle.std.proofs.Common.{is_some, refl, ap, sym, ◌∙◌, subst, arith}
use Rattle.std.specs.Option.{option_map}
use Rattle.std.specs.List.{list_any, list_all, position, AllByRecursion, IsDistinct}
use Rattle.std.proofs.Math.ListN.{set}
use Rattle.std.proofs.lemmas.Bool.{or_parts}
use Rattle.std.proofs.lemmas.List.Quantifiers.{position-Some}
use Rattle.std.proofs.lemmas.Map.Keys.{IsDistinct-head, IsDistinct-tail, IsDistinct-cons}
use Rattle.bsc_octets.specs.declared.vmac.Vmac.{Vmac}
use Rattle.bsc_octets.specs.Addresses.{same_vmac}
use Rattle.bsc_resolve.specs.declared.entry.Entry.{Entry}
use Rattle.bsc_resolve.specs.Resolving.{has_id}
use Rattle.bsc_resolve.specs.Kept.{is_for, entry_of, vmacs, kept_question, kept_uris, holds_something, at_first, ticked, unless_passed, awaiting_place}
use Rattle.bsc_lemmas.proofs.Options.{none_if as none_from}
use Rattle.bsc_octets.proofs.Common.{vmac_same}
use Rattle.std.proofs.lemmas.Bool.{and_parts as both_true}
use Rattle.bsc_lemmas.proofs.Lists.{position-none as none_found}

-- ---- VMACs

-- ---- places

at_place : {A : Type 0} (test : A → Bool) (f : A → A) (xs : List A) (i : ℕ) (d : A) → i < length xs → test (get_or xs i d) ≡ true → ((k : ℕ) → k < i → test (get_or xs k d) ≡ false)
    → at_first test f xs ≡ set xs i (f (get_or xs i d))
at_place test f [] i d within here before = absurd (omega arith)
at_place test f (x ∷ xs) zero d within here before = rw here refl
at_place test f (x ∷ xs) (suc i) d within here before = rw (before 0 (omega arith)) (ap (λ l. x ∷ l) (at_place test f xs i d (omega arith) here (λ k h. before (suc k) (omega arith))))

-- a write of f of the element at the place of the first that passes
pub set_first : {A : Type 0} (test : A → Bool) (f : A → A) (xs : List A) (i : ℕ) (e : A) → position test xs ≡ Some i → e ≡ get_or xs i e → set xs i (f e) ≡ at_first test f xs
set_first test f xs i e place at = let q = position-Some test xs i e place in ap (λ y. set xs i (f y)) at ∙ sym (at_place test f xs i e q.0 q.1 q.2)

find_here : {A : Type 0} (test : A → Bool) (xs : List A) (i : ℕ) (e : A) → i < length xs → test (get_or xs i e) ≡ true → ((k : ℕ) → k < i → test (get_or xs k e) ≡ false) → e ≡ get_or xs i e
    → find test xs ≡ Some e
find_here test [] i e within here before at = absurd (omega arith)
find_here test (x ∷ xs) zero e within here before at = rw here (ap Some (sym at))
find_here test (x ∷ xs) (suc i) e within here before at = rw (before 0 (omega arith)) (find_here test xs i e (omega arith) here (λ k h. before (suc k) (omega arith)) at)

-- the element at the place is the one that is found
pub find_placed : {A : Type 0} (test : A → Bool) (xs : List A) (i : ℕ) (e : A) → position test xs ≡ Some i → e ≡ get_or xs i e → find test xs ≡ Some e
find_placed test xs i e place at = let q = position-Some test xs i e place in find_here test xs i e q.0 q.1 q.2 at

-- ---- the first that passes is changed, and keeps its VMAC

abbrev pub KeepsVmac : (Entry → Entry) → Type 0
KeepsVmac f = (e : Entry) → (f e).vmac ≡ e.vmac

pub first_same : (f : Entry → Entry) (w : Vmac) (es : List Entry) → KeepsVmac f → entry_of (at_first (is_for w) f es) w ≡ option_map f (entry_of es w)
first_same f w [] keeps = refl
first_same f w (x ∷ es) keeps = by (is_for w x) refl (first_same f w es keeps)
  where
    by : (b : Bool) → is_for w x ≡ b → entry_of (at_first (is_for w) f es) w ≡ option_map f (entry_of es w)
        → find (is_for w) (cond b (f x ∷ es) (x ∷ at_first (is_for w) f es)) ≡ option_map f (cond b (Some x) (entry_of es w))
    by true s r = rw (ap (same_vmac w) (keeps x) ∙ s) refl
    by false s r = rw s r

pub first_other : (f : Entry → Entry) (v w : Vmac) (es : List Entry) → KeepsVmac f → same_vmac v w ≡ false → entry_of (at_first (is_for w) f es) v ≡ entry_of es v
first_other f v w [] keeps n = refl
first_other f v w (x ∷ es) keeps n = by (is_for w x) refl (first_other f v w es keeps n)
  where
    by : (b : Bool) → is_for w x ≡ b → entry_of (at_first (is_for w) f es) v ≡ entry_of es v → find (is_for v) (cond b (f x ∷ es) (x ∷ at_first (is_for w) f es)) ≡ find (is_for v) (x ∷ es)
    by true s r =
        let o : is_for v x ≡ false = subst (λ u. same_vmac v u ≡ false) (vmac_same w x.vmac s) n in
        let g : is_for v (f x) ≡ false = ap (same_vmac v) (keeps x) ∙ o in
        rw (o, g) refl
    by false s r = ap (λ (o : Option Entry). cond (is_for v x) (Some x) o) r

pub vmacs_first : (test : Entry → Bool) (f : Entry → Entry) (es : List Entry) → KeepsVmac f → vmacs (at_first test f es) ≡ vmacs es
vmacs_first test f [] keeps = refl
vmacs_first test f (x ∷ es) keeps = by (test x) (vmacs_first test f es keeps)
  where
    by : (b : Bool) → vmacs (at_first test f es) ≡ vmacs es → vmacs (cond b (f x ∷ es) (x ∷ at_first test f es)) ≡ vmacs (x ∷ es)
    by true r = ap (λ v. v ∷ vmacs es) (keeps x)
    by false r = ap (λ vs. x.vmac ∷ vs) r

pub full_first : (test : Entry → Bool) (f : Entry → Entry) (es : List Entry) → ((e : Entry) → holds_something (f e) ≡ true) → list_all holds_something es ≡ true
    → list_all holds_something (at_first test f es) ≡ true
full_first test f [] holds h = refl
full_first test f (x ∷ es) holds h = by (test x) (full_first test f es holds (both_true (holds_something x) (list_all holds_something es) h).1)
  where
    by : (b : Bool) → list_all holds_something (at_first test f es) ≡ true → list_all holds_something (cond b (f x ∷ es) (x ∷ at_first test f es)) ≡ true
    by true r = rw (holds x) (both_true (holds_something x) (list_all holds_something es) h).1
    by false r = rw (both_true (holds_something x) (list_all holds_something es) h).0 r

-- ---- those that hold nothing are let go

-- an entry, where it holds something
abbrev pub if_held : Option Entry → Option Entry
if_held None = None
if_held (Some e) = cond (holds_something e) (Some e) None

none_apart : (v : Vmac) (es : List Entry) → AllByRecursion (λ w. same_vmac v w ≡ false) (vmacs es) → entry_of es v ≡ None
none_apart v [] h = refl
none_apart v (x ∷ es) h = rw h.0 (none_apart v es h.1)

pub entry_filtered : (v : Vmac) (es : List Entry) → IsDistinct same_vmac (vmacs es) → entry_of (filter holds_something es) v ≡ if_held (entry_of es v)
entry_filtered v [] d = refl
entry_filtered v (x ∷ es) d = by (is_for v x) (holds_something x) refl refl (entry_filtered v es (IsDistinct-tail same_vmac x.vmac (vmacs es) d))
  where
    gone : is_for v x ≡ true → entry_of es v ≡ None
    gone s = none_apart v es (subst (λ w. AllByRecursion (λ u. same_vmac w u ≡ false) (vmacs es)) (sym (vmac_same v x.vmac s)) (IsDistinct-head same_vmac x.vmac (vmacs es) d))

    by : (b h : Bool) → is_for v x ≡ b → holds_something x ≡ h → entry_of (filter holds_something es) v ≡ if_held (entry_of es v)
        → find (is_for v) (cond h (x ∷ filter holds_something es) (filter holds_something es)) ≡ if_held (cond b (Some x) (entry_of es v))
    by true true s k r = rw (s, k) refl
    by true false s k r = rw k (r ∙ ap if_held (gone s))
    by false true s k r = rw s r
    by false false s k r = r

all_filtered : (P : Vmac → Type 0) (test : Entry → Bool) (es : List Entry) → AllByRecursion P (vmacs es) → AllByRecursion P (vmacs (filter test es))
all_filtered P test [] h = h
all_filtered P test (x ∷ es) h = by (test x) (all_filtered P test es h.1)
  where
    by : (b : Bool) → AllByRecursion P (vmacs (filter test es)) → AllByRecursion P (vmacs (cond b (x ∷ filter test es) (filter test es)))
    by true r = (h.0, r)
    by false r = r

pub apart_filtered : (test : Entry → Bool) (es : List Entry) → IsDistinct same_vmac (vmacs es) → IsDistinct same_vmac (vmacs (filter test es))
apart_filtered test [] d = d
apart_filtered test (x ∷ es) d = by (test x) (apart_filtered test es (IsDistinct-tail same_vmac x.vmac (vmacs es) d))
  where
    by : (b : Bool) → IsDistinct same_vmac (vmacs (filter test es)) → IsDistinct same_vmac (vmacs (cond b (x ∷ filter test es) (filter test es)))
    by true r = IsDistinct-cons same_vmac x.vmac (vmacs (filter test es)) (all_filtered (λ w. same_vmac x.vmac w ≡ false) test es (IsDistinct-head same_vmac x.vmac (vmacs es) d)) r
    by false r = r

pub full_filtered : (es : List Entry) → list_all holds_something (filter holds_something es) ≡ true
full_filtered [] = refl
full_filtered (x ∷ es) = by (holds_something x) refl (full_filtered es)
  where
    by : (b : Bool) → holds_something x ≡ b → list_all holds_something (filter holds_something es) ≡ true
        → list_all holds_something (cond b (x ∷ filter holds_something es) (filter holds_something es)) ≡ true
    by true h r = rw h r
    by false h r = r

pub held_question : (o : Option Entry) → kept_question (if_held o) ≡ kept_question o
held_question None = refl
held_question (Some e) = by (holds_something e) refl
  where
    by : (b : Bool) → holds_something e ≡ b → kept_question (cond b (Some e) None) ≡ e.question
    by true h = refl
    by false h = sym (none_from e.question (or_parts (is_some e.question) (is_some e.uris) h).0)

pub held_uris : (o : Option Entry) → kept_uris (if_held o) ≡ kept_uris o
held_uris None = refl
held_uris (Some e) = by (holds_something e) refl
  where
    by : (b : Bool) → holds_something e ≡ b → kept_uris (cond b (Some e) None) ≡ e.uris
    by true h = refl
    by false h = sym (none_from e.uris (or_parts (is_some e.question) (is_some e.uris) h).1)

-- ---- each is told the time

pub entry_ticked : (wait now : ℕ) (v : Vmac) (es : List Entry) → entry_of (map (ticked wait now) es) v ≡ option_map (ticked wait now) (entry_of es v)
entry_ticked wait now v [] = refl
entry_ticked wait now v (x ∷ es) = by (is_for v x) (entry_ticked wait now v es)
  where
    by : (b : Bool) → entry_of (map (ticked wait now) es) v ≡ option_map (ticked wait now) (entry_of es v)
        → cond b (Some (ticked wait now x)) (entry_of (map (ticked wait now) es) v) ≡ option_map (ticked wait now) (cond b (Some x) (entry_of es v))
    by true h = refl
    by false h = h

pub vmacs_ticked : (wait now : ℕ) (es : List Entry) → vmacs (map (ticked wait now) es) ≡ vmacs es
vmacs_ticked wait now [] = refl
vmacs_ticked wait now (x ∷ es) = ap (λ vs. x.vmac ∷ vs) (vmacs_ticked wait now es)

pub ticked_question : (wait now : ℕ) (o : Option Entry) → kept_question (option_map (ticked wait now) o) ≡ unless_passed wait now (kept_question o)
ticked_question wait now None = refl
ticked_question wait now (Some e) = refl

pub ticked_uris : (wait now : ℕ) (o : Option Entry) → kept_uris (option_map (ticked wait now) o) ≡ kept_uris o
ticked_uris wait now None = refl
ticked_uris wait now (Some e) = refl

-- the first n are told, and the others not yet
abbrev pub front_ticked : ℕ → ℕ → ℕ → List Entry → List Entry
front_ticked wait now n es = map (ticked wait now) (take n es) ++ drop n es

set_ticked : (wait now : ℕ) (es : List Entry) (n : ℕ) (e : Entry) → n < length es
    → set (front_ticked wait now n es) n (ticked wait now (get_or (front_ticked wait now n es) n e)) ≡ front_ticked wait now (suc n) es
set_ticked wait now [] n e within = absurd (omega arith)
set_ticked wait now (x ∷ es) zero e within = refl
set_ticked wait now (x ∷ es) (suc n) e within = ap (λ (l : List Entry). ticked wait now x ∷ l) (set_ticked wait now es n e (omega arith))

-- the one at the place n was told
pub tick_next : (wait now : ℕ) (old es : List Entry) (n : ℕ) (e new : Entry) → n < length old → es ≡ front_ticked wait now n old → new ≡ ticked wait now (get_or es n e)
    → set es n new ≡ front_ticked wait now (n + 1) old
tick_next wait now old es n e new within same is =
    ap (λ (x : Entry). set es n x) is
    ∙ subst (λ (l : List Entry). set l n (ticked wait now (get_or l n e)) ≡ front_ticked wait now (suc n) old) (sym same) (set_ticked wait now old n e within)
    ∙ ap (λ (k : ℕ). front_ticked wait now k old) (let q : suc n ≡ n + 1 = omega arith in q)

-- ---- which VMACs have an entry

pub is_among : (v : Vmac) (es : List Entry) → list_any (same_vmac v) (vmacs es) ≡ is_some (entry_of es v)
is_among v [] = refl
is_among v (x ∷ es) = by (is_for v x) (is_among v es)
  where
    by : (b : Bool) → list_any (same_vmac v) (vmacs es) ≡ is_some (entry_of es v) → (b || list_any (same_vmac v) (vmacs es)) ≡ is_some (cond b (Some x) (entry_of es v))
    by true h = refl
    by false h = h

-- an entry that is found holds something
pub is_held_kept : (v : Vmac) (es : List Entry) → list_all holds_something es ≡ true → is_some (entry_of es v) ≡ (is_some (kept_question (entry_of es v)) || is_some (kept_uris (entry_of es v)))
is_held_kept v [] h = refl
is_held_kept v (x ∷ es) h = by (is_for v x) (is_held_kept v es (both_true (holds_something x) (list_all holds_something es) h).1)
  where
    by : (b : Bool) → is_some (entry_of es v) ≡ (is_some (kept_question (entry_of es v)) || is_some (kept_uris (entry_of es v)))
        → is_some (cond b (Some x) (entry_of es v)) ≡ (is_some (kept_question (cond b (Some x) (entry_of es v))) || is_some (kept_uris (cond b (Some x) (entry_of es v))))
    by true r = sym (both_true (holds_something x) (list_all holds_something es) h).0
    by false r = r

pub length_vmacs : (es : List Entry) → length (vmacs es) ≡ length es
length_vmacs [] = refl
length_vmacs (x ∷ es) = ap suc (length_vmacs es)

-- ---- where a question with an ID is under way

pub awaiting_yes : (es : List Entry) (id : ℕ) (v : Vmac) (i : ℕ) (e : Entry) → Some i ≡ position (is_for v) es → e ≡ get_or es i e → has_id id e.question ≡ true → Some i ≡ awaiting_place es id v
awaiting_yes es id v i e place at h = rw (ap kept_question (find_placed (is_for v) es i e (sym place) at), h) place

pub awaiting_no : (es : List Entry) (id : ℕ) (v : Vmac) (i : ℕ) (e : Entry) → Some i ≡ position (is_for v) es → e ≡ get_or es i e → has_id id e.question ≡ false → None ≡ awaiting_place es id v
awaiting_no es id v i e place at h = rw (ap kept_question (find_placed (is_for v) es i e (sym place) at), h) refl

pub awaiting_is : (es : List Entry) (id : ℕ) (v : Vmac) (i : ℕ) → awaiting_place es id v ≡ Some i → (position (is_for v) es ≡ Some i) × (has_id id (kept_question (entry_of es v)) ≡ true)
awaiting_is es id v i = by (has_id id (kept_question (entry_of es v)))
  where
    by : (b : Bool) → cond b (position (is_for v) es) None ≡ Some i → (position (is_for v) es ≡ Some i) × (b ≡ true)
    by true h = (h, refl)
    by false h = cc

pub awaiting_none : (es : List Entry) (id : ℕ) (v : Vmac) → awaiting_place es id v ≡ None → has_id id (kept_question (entry_of es v)) ≡ false
awaiting_none es id v = by (has_id id (kept_question (entry_of es v))) refl
  where
    by : (b : Bool) → has_id id (kept_question (entry_of es v)) ≡ b → cond b (position (is_for v) es) None ≡ None → b ≡ false
    by true s h = sym s ∙ ap (λ (o : Option Entry). has_id id (kept_question o)) (none_found (is_for v) es h)
    by false s h = refl
