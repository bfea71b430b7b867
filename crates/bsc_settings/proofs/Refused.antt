-- Why a policy is refused: the first entry at fault of a list that is read value by value.
-- It serves clauses of functions of `policy_table`.
use Rattle.std.proofs.Common.{◌≡◌, ◌∙◌, ◌+◌, ◌≤◌, ◌<◌, ◌++◌, ◌&&◌, ℕ, Bool, true, false, cond, nat_le, suc, min, List, [], ◌∷◌, length, get_or, take, drop, map, position, codes}
use Rattle.std.proofs.Common.{Option, Some, None, is_some, option_and_then, Result, Ok, Err, IfErr, inl, inr, refl, sym, subst, ap, length-append, le-leb, leb-true, arith}
use Rattle.std.proofs.lemmas.Bool.{and_parts, cases_Bool}
use Rattle.std.proofs.lemmas.Bool.Decides.{nat_tests}
use Rattle.std.proofs.lemmas.Option.{none-some, same_Some as some-is}
use Rattle.std.proofs.lemmas.List.{drop_more, take_more, length-map, length-take-le, map-append, take-append-drop}
use Rattle.std.proofs.lemmas.List.Quantifiers.{position-Some}
use Rattle.toml.specs.Data.{Data, Members, as_array, get_member}
use Rattle.toml.specs.View.{items_view, view}
use Rattle.toml.specs.declared.value.Value.{Value}
use Rattle.bsc_policy.specs.declared.bounds.TheConstants.{MEMBERS, RULES}
use Rattle.bsc_policy.specs.declared.member.Member.{Member}
use Rattle.bsc_policy.specs.declared.rule.Rule.{Rule}
use Rattle.bsc_policy.specs.Writing.{is_taken_by}
use Rattle.bsc_settings.specs.declared.refusal.EntryFault.{EntryFault}
use Rattle.bsc_settings.specs.declared.refusal.EntryFault.TheVariants as wrong
use Rattle.bsc_settings.specs.declared.refusal.PolicyRefusal.{PolicyRefusal}
use Rattle.bsc_settings.specs.declared.refusal.PolicyRefusal.TheVariants as refused
use Rattle.bsc_settings.specs.declared.unread.Unread.{Unread}
use Rattle.bsc_settings.specs.declared.unread.Unread.TheVariants.{Refused, NoMemory}
use Rattle.bsc_settings.specs.Lists.{NamesEntry, Tells, after, after_all, behind}
use Rattle.bsc_settings.specs.Policies.{all_said, are_members, are_rules, member_in, members_in, passing}
use Rattle.bsc_settings.specs.Refusals.{IsFirst, IsOfKey, IsOfMembers, IsOfRules, IsWhy, first_missing, member_fault_in, member_rows, rule_fault_in, rule_rows, unruled, untaken}
use Rattle.bsc_settings.proofs.Lists.{Keeps, after_all-said, listed-view}

-- ---- what is wrong with one entry

pub member-fine : (before : List Member) (o : Option Members) (t : Members) (m : Member) → o ≡ Some t → first_missing member_rows t ≡ None → member_in t ≡ Some m
    → member_fault_in before o ≡ untaken before (Some m)
member-fine before o t m is none said = rw (is, none, said) refl

pub member-missing : (before : List Member) (o : Option Members) (t : Members) (fault : EntryFault) → o ≡ Some t → first_missing member_rows t ≡ Some fault
    → member_fault_in before o ≡ Some fault
member-missing before o t fault is some = rw (is, some) refl

pub rule-fine : (before : List Rule) (o : Option Members) (t : Members) → o ≡ Some t → first_missing rule_rows t ≡ None → rule_fault_in before o ≡ unruled before
rule-fine before o t is none = rw (is, none) refl

pub rule-missing : (before : List Rule) (o : Option Members) (t : Members) (fault : EntryFault) → o ≡ Some t → first_missing rule_rows t ≡ Some fault
    → rule_fault_in before o ≡ Some fault
rule-missing before o t fault is some = rw (is, some) refl

pub untaken-full : (before : List Member) (m : Member) (held : ℕ) → held ≡ MEMBERS → MEMBERS ≤ length before → untaken before (Some m) ≡ Some (wrong.Full held)
untaken-full before m held is many =
    let over : nat_le MEMBERS (length before) ≡ true = le-leb MEMBERS (length before) many in
    rw (over, is) refl

pub untaken-twice : (before : List Member) (m : Member) (i n : ℕ) → length before < MEMBERS → position (is_taken_by m.vmac m.device) before ≡ Some i → n ≡ min (i + 1) 4294967295
    → untaken before (Some m) ≡ Some (wrong.Twice n)
untaken-twice before m i n few at is =
    let under : nat_le MEMBERS (length before) ≡ false = grind (arith, nat_tests) in
    let inside : i < length before = (position-Some (is_taken_by m.vmac m.device) before i m at).0 in
    let one : n ≡ i + 1 = omega arith in
    rw (under, at, one) refl

pub unruled-full : (before : List Rule) (held : ℕ) → held ≡ RULES → RULES ≤ length before → unruled before ≡ Some (wrong.Full held)
unruled-full before held is many =
    let over : nat_le RULES (length before) ≡ true = le-leb RULES (length before) many in
    rw (over, is) refl

-- ---- what was taken so far is what the first values say

after_all-append : {T : Type 0} (says : Data → Option T) (test : List T → Bool) (xs : List T) (some more : List Data)
    → after_all says test xs (some ++ more) ≡ option_and_then (λ ys. after_all says test ys more) (after_all says test xs some)
after_all-append says test xs [] more = refl
after_all-append {T} says test xs (value ∷ some) more = by (after says test xs value) (λ ys. after_all-append says test ys some more)
  where
    by : (o : Option (List T))
        → ((ys : List T) → after_all says test ys (some ++ more) ≡ option_and_then (λ zs. after_all says test zs more) (after_all says test ys some))
        → option_and_then (λ ys. after_all says test ys (some ++ more)) o
        ≡ option_and_then (λ ys. after_all says test ys more) (option_and_then (λ ys. after_all says test ys some) o)
    by None next = refl
    by (Some ys) next = next ys

after-longer : {T : Type 0} (test : List T → Bool) (xs ys : List T) (o : Option T) → passing test (behind xs o) ≡ Some ys → length ys ≡ length xs + 1
after-longer test xs ys None is = absurd (none-some ys is)
after-longer test xs ys (Some x) is =
    elim (cases_Bool (test (xs ++ x ∷ []))) [
      | inl holds ↦ ap length (sym (some-is (xs ++ x ∷ []) ys (rw holds at is))) ∙ length-append xs (x ∷ [])
      | inr fails ↦ absurd (none-some ys (rw fails at is))
    ]

passed : {T : Type 0} (test : List T → Bool) (o : Option (List T)) (ys : List T) → passing test o ≡ Some ys → (o ≡ Some ys) × (test ys ≡ true)
passed test None ys is = absurd (none-some ys is)
passed test (Some xs) ys is =
    elim (cases_Bool (test xs)) [
      | inl holds ↦ (let same : Some xs ≡ Some ys = rw holds at is in (same, subst (λ l. test l ≡ true) (some-is xs ys same) holds))
      | inr fails ↦ absurd (none-some ys (rw fails at is))
    ]

-- What was taken so far is what the first i values say, one each, and the next of them is counted.
pub record ReadTo {T : Type 0} (says : Data → Option T) (test : List T → Bool) (start now : List T) (values : List Value) (i entry : ℕ) : Type 0 where
  pub said : after_all says test start (map view (take i values)) ≡ Some now
  pub long : length now ≡ i
  pub counted : entry ≡ i

pub read-start : {T : Type 0} (says : Data → Option T) (test : List T → Bool) (start : List T) (values : List Value) → start ≡ []
    → ReadTo says test start start values 0 0
read-start says test start values none = record {
  said = refl;
  long = ap length none;
  counted = refl;
}

first-more : (values : List Value) (i : ℕ) (v : Value) → i < length values → v ≡ get_or values i v → map view (take (i + 1) values) ≡ map view (take i values) ++ view v ∷ []
first-more values i v within at =
    ap (map view) (take_more values i v within ∙ ap (λ x. take i values ++ x ∷ []) (sym at)) ∙ map-append view (take i values) (v ∷ [])

pub read-more : {T : Type 0} (says : Data → Option T) (test : List T → Bool) (most : ℕ) → ((xs : List T) → test xs ≡ true → length xs ≤ most) → most < 4294967295
    → (start now new : List T) (values : List Value) (i entry next : ℕ) (v : Value)
    → i < length values → v ≡ get_or values i v → after says test now (view v) ≡ Some new → next ≡ min (entry + 1) 4294967295 → test now ≡ true
    → ReadTo says test start now values i entry → ReadTo says test start new values (i + 1) next
read-more says test most few small start now new values i entry next v within at is counts fits to = record {
  said = ap (after_all says test start) (first-more values i v within at) ∙ after_all-append says test start (map view (take i values)) (view v ∷ [])
      ∙ ap (option_and_then (λ ys. after_all says test ys (view v ∷ []))) to.said ∙ ap (option_and_then (λ ys. after_all says test ys [])) is;
  long = after-longer test now new (says (view v)) is ∙ ap (λ n. n + 1) to.long;
  counted = omega (arith, few now fits, to.long, to.counted, counts, small);
}

pub few-members : (ms : List Member) → are_members ms ≡ true → length ms ≤ MEMBERS
few-members ms held = leb-true (length ms) MEMBERS (and_parts (nat_le (length ms) MEMBERS) _ held).0

pub few-rules : (rs : List Rule) → are_rules rs ≡ true → length rs ≤ RULES
few-rules rs held = leb-true (length rs) RULES held

-- ---- the first entry at fault

first : {T : Type 0} (says : Data → Option T) (test : List T → Bool) (is_wrong : List T → Data → Option EntryFault) → Keeps test → test [] ≡ true
    → (start now : List T) (values : List Value) (i number : ℕ) (v : Value) (fault : EntryFault)
    → start ≡ [] → i < length values → v ≡ get_or values i v → number ≡ i + 1 → after_all says test start (map view (take i values)) ≡ Some now → is_wrong now (view v) ≡ Some fault
    → IsFirst says test is_wrong (map view values) number fault
first says test is_wrong keeps empty start now values i number v fault none within at counted said is =
    let both = passed test (all_said says (map view (take i values))) now
    (sym (after_all-said says test keeps empty (map view (take i values))) ∙ ap (λ xs. after_all says test xs (map view (take i values))) (sym none) ∙ said) in
    record {
      before = map view (take i values);
      value = view v;
      rest = map view (drop (i + 1) values);
      taken = now;
      whole = ap (map view) (sym (take-append-drop i values) ∙ ap (λ l. take i values ++ l) (drop_more values i v within ∙ ap (λ x. x ∷ drop (i + 1) values) (sym at)))
          ∙ map-append view (take i values) (v ∷ drop (i + 1) values);
      place = counted ∙ ap (λ n. n + 1) (sym (length-map (take i values) view ∙ length-take-le i values (omega arith)));
      said = both.0;
      fine = both.1;
      is_wrong = is;
    }

-- Where the next entry is refused, it is the first at fault.
pub first-told : {T : Type 0} (says : Data → Option T) (test : List T → Bool) (is_wrong : List T → Data → Option EntryFault) → Keeps test → test [] ≡ true
    → (most : ℕ) → ((xs : List T) → test xs ≡ true → length xs ≤ most) → most < 4294967295
    → (names : ℕ → EntryFault → PolicyRefusal) (IsOf : List Data → PolicyRefusal → Type 0)
    → ((values : List Data) (number : ℕ) (fault : EntryFault) → IsFirst says test is_wrong values number fault → IsOf values (names number fault))
    → (start now : List T) (values : List Value) (i entry next : ℕ) (v : Value) (why : Unread)
    → start ≡ [] → i < length values → v ≡ get_or values i v → next ≡ min (entry + 1) 4294967295 → test now ≡ true → ReadTo says test start now values i entry
    → Tells (NamesEntry names next (is_wrong now (view v))) why → Tells (IsOf (map view values)) why
first-told says test is_wrong keeps empty most few small names IsOf is_of start now values i entry next v NoMemory none within at counts fits to told = tt
first-told says test is_wrong keeps empty most few small names IsOf is_of start now values i entry next v (Refused refusal) none within at counts fits to (fault, is, holds) =
    let counted : next ≡ i + 1 = omega (arith, few now fits, to.long, to.counted, counts, small) in
    subst (IsOf (map view values)) (sym is) (is_of (map view values) next fault (first says test is_wrong keeps empty start now values i next v fault none within at counted to.said holds))

-- ---- the list at fault

-- Where a list isn't read, its refusal is of what stands at its key.
pub of-list : {E : Type 0} (IsOf : List Data → PolicyRefusal → Type 0) (no_list : PolicyRefusal) (values : List Value) (at : Option Data) (value : Data)
    → at ≡ Some value → as_array value ≡ Some (items_view values) → (answer : Result E Unread)
    → IfErr answer (λ why. Tells (IsOf (map view values)) why) → IfErr answer (λ why. Tells (IsOfKey IsOf no_list at) why)
of-list IsOf no_list values at value is list (Ok x) told = tt
of-list IsOf no_list values at value is list (Err NoMemory) told = tt
of-list IsOf no_list values at value is list (Err (Refused refusal)) told =
    rw (is, list) (subst (λ l. IsOf l refusal) (sym (listed-view values)) told)

pub of-no-list : (IsOf : List Data → PolicyRefusal → Type 0) (no_list : PolicyRefusal) (at : Option Data) (value : Data) → at ≡ Some value → as_array value ≡ None
    → IsOfKey IsOf no_list at no_list
of-no-list IsOf no_list at value is none = rw (is, none) refl

-- A refusal of the list of members says why, and one of the list of rules where the members are right.
pub why-members : (table : Members) (why : Unread) → Tells (IsOfKey IsOfMembers refused.MemberList (get_member (codes "member") table)) why → Tells (IsWhy table) why
why-members table NoMemory told = tt
why-members table (Refused refusal) told = inl told

pub why-rules : (table : Members) (ms : List Member) (why : Unread) → members_in table ≡ Some ms → Tells (IsOfKey IsOfRules refused.RuleList (get_member (codes "rule") table)) why
    → Tells (IsWhy table) why
why-rules table ms NoMemory said told = tt
why-rules table ms (Refused refusal) said told = inr (rw said refl, told)

-- what holds of a refusal holds of the answer that hands it on
pub told-on : {E : Type 0} (IsSo : PolicyRefusal → Type 0) (r : Result E Unread) (why answered : Unread) → r ≡ Err answered → answered ≡ why → Tells IsSo why → IfErr r (Tells IsSo)
told-on IsSo r why answered is same told = rw (is, same) told
