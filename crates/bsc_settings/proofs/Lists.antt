-- Lists of a policy that are read value by value.
-- It serves clauses of functions of `known_policy`, `listing` and `policy_table`.
use Rattle.std.proofs.Common.{◌≡◌, ◌∙◌, ◌+◌, ◌≤◌, ◌<◌, ◌++◌, ◌&&◌, ◌||◌, ℕ, Bool, true, false, not, cond, nat_le, nat_lt, suc, List, [], ◌∷◌, length, get_or, drop, map, Option}
use Rattle.std.proofs.Common.{Some, None, is_some, option_and_then, position, Result, Ok, Err, ◌≢◌, ◌↔◌, refl, sym, subst, ap, ap₂, append_assoc, append-nil, length-append, le-leb}
use Rattle.std.proofs.Common.{leb-true, lt-ltb, arith, inl, inr}
use Rattle.std.specs.List.{list_all, list_any, position_or_len}
use Rattle.std.specs.Cmp.Lexicographic.{nat_list_eq_equiv}
use Rattle.std.proofs.lemmas.Bool.{and_parts, cases_Bool, false≢true}
use Rattle.std.proofs.lemmas.Bool.Decides.{nat_tests}
use Rattle.std.proofs.lemmas.Option.{none-some}
use Rattle.std.proofs.lemmas.List.{drop_more}
use Rattle.std.proofs.lemmas.List.Folds.{list_all-map, list_any-append}
use Rattle.toml.specs.Data.{Data, as_array}
use Rattle.toml.specs.View.{items_of, items_view, view}
use Rattle.toml.specs.declared.value.Value.{Value}
use Rattle.bsc_policy.specs.declared.bounds.TheConstants.{MEMBERS, RULES}
use Rattle.bsc_policy.specs.declared.fault.PolicyFault.{PolicyFault}
use Rattle.bsc_policy.specs.declared.fault.PolicyFault.TheVariants as policy_fault
use Rattle.bsc_policy.specs.declared.member.Member.{Member}
use Rattle.bsc_policy.specs.declared.rule.Rule.{Rule}
use Rattle.bsc_policy.specs.Writing.{is_taken_by}
use Rattle.bsc_settings.specs.declared.key.KeyName.{KeyName}
use Rattle.bsc_settings.specs.declared.unread.Unread.{Unread}
use Rattle.bsc_settings.specs.declared.unread.Unread.TheVariants.{Refused, NoMemory}
use Rattle.bsc_settings.specs.Faults.{policy_fault}
use Rattle.bsc_settings.specs.Policies.{all_said, are_apart, are_members, are_rules, before_all, list_said, listed, passing}
use Rattle.bsc_settings.specs.Documents.{is_known}
use Rattle.bsc_settings.specs.Lists.{IsForKey, IsUnread, after, after_all, behind}
use Rattle.bsc_settings.specs.Table.{Row}
use Rattle.bsc_lemmas.proofs.Booleans.{not_or as not-either}
use Rattle.std.proofs.lemmas.Bool.{and_right as and-false}
use Rattle.std.proofs.lemmas.Option.{same_Some as some-is}

-- ---- what is said value by value is what all say together

-- a longer list passes the test only where its first part does
abbrev pub Keeps : {T : Type 0} → (List T → Bool) → Type 0
Keeps {T} test = (xs ys : List T) → test (xs ++ ys) ≡ true → test xs ≡ true

abbrev joined : {T : Type 0} → List T → Option (List T) → Option (List T)
joined xs None = None
joined xs (Some ys) = Some (xs ++ ys)

not-longer : (b c : Bool) → (c ≡ true → b ≡ true) → b ≡ false → c ≡ false
not-longer b false keeps fails = refl
not-longer b true keeps fails = absurd (false≢true (sym fails ∙ keeps refl))

none-longer : {T : Type 0} (test : List T → Bool) → Keeps test → (xs : List T) → test xs ≡ false → (o : Option (List T)) → passing test (joined xs o) ≡ None
none-longer test keeps xs fails None = refl
none-longer test keeps xs fails (Some ys) = rw (not-longer (test xs) (test (xs ++ ys)) (keeps xs ys) fails) refl

shift : {T : Type 0} (xs : List T) (x : T) (o : Option (List T)) → joined (xs ++ x ∷ []) o ≡ joined xs (before_all (Some x) o)
shift xs x None = refl
shift xs x (Some ys) = ap Some (append_assoc xs (x ∷ []) ys)

more : {T : Type 0} (says : Data → Option T) (test : List T → Bool) → Keeps test → (xs : List T) (values : List Data) (o : Option T)
    → ((x : T) → test (xs ++ x ∷ []) ≡ true → after_all says test (xs ++ x ∷ []) values ≡ passing test (joined (xs ++ x ∷ []) (all_said says values)))
    → option_and_then (λ ys. after_all says test ys values) (passing test (behind xs o)) ≡ passing test (joined xs (before_all o (all_said says values)))
more says test keeps xs values None next = refl
more says test keeps xs values (Some x) next =
    elim (cases_Bool (test (xs ++ x ∷ []))) [
      | inl fits ↦ rw fits (next x fits ∙ ap (passing test) (shift xs x (all_said says values)))
      | inr fails ↦ rw fails (sym (ap (passing test) (sym (shift xs x (all_said says values))) ∙ none-longer test keeps (xs ++ x ∷ []) fails (all_said says values)))
    ]

after_all-joined : {T : Type 0} (says : Data → Option T) (test : List T → Bool) → Keeps test → (xs : List T) (values : List Data) → test xs ≡ true
    → after_all says test xs values ≡ passing test (joined xs (all_said says values))
after_all-joined says test keeps xs [] fits = rw (append-nil xs, fits) refl
after_all-joined says test keeps xs (value ∷ values) fits =
    more says test keeps xs values (says value) (λ x. after_all-joined says test keeps (xs ++ x ∷ []) values)

joined-nothing : {T : Type 0} (o : Option (List T)) → joined [] o ≡ o
joined-nothing None = refl
joined-nothing (Some ys) = refl

pub after_all-said : {T : Type 0} (says : Data → Option T) (test : List T → Bool) → Keeps test → test [] ≡ true → (values : List Data)
    → after_all says test [] values ≡ passing test (all_said says values)
after_all-said says test keeps empty values =
    after_all-joined says test keeps [] values empty ∙ ap (passing test) (joined-nothing (all_said says values))

listed-of : (values : List Data) → listed (items_of values) ≡ values
listed-of [] = refl
listed-of (value ∷ values) = ap (λ (l : List Data). value ∷ l) (listed-of values)

pub listed-view : (values : List Value) → listed (items_view values) ≡ map view values
listed-view values = listed-of (map view values)

-- each value of a list has nothing unknown exactly where each of the values that it is read from has
pub known-list : (rows : List Row) (values : List Value) → list_all (λ it. is_known (λ _. rows) (Some it)) (listed (items_view values))
    ≡ list_all (λ v. is_known (λ _. rows) (Some (view v))) values
known-list rows values =
    ap (list_all (λ it. is_known (λ _. rows) (Some it))) (listed-view values)
    ∙ list_all-map (λ it. is_known (λ _. rows) (Some it)) view values

-- ---- members that are apart

apart-kept : (xs ys : List Member) → are_apart (xs ++ ys) ≡ true → are_apart xs ≡ true
apart-kept [] ys h = refl
apart-kept (x ∷ xs) ys h =
    let (here, rest) = and_parts (not (list_any (is_taken_by x.vmac x.device) (xs ++ ys))) (are_apart (xs ++ ys)) h in
    let first : not (list_any (is_taken_by x.vmac x.device) xs || list_any (is_taken_by x.vmac x.device) ys) ≡ true =
    ap not (sym (list_any-append (is_taken_by x.vmac x.device) xs ys)) ∙ here in
    rw (not-either (list_any (is_taken_by x.vmac x.device) xs) (list_any (is_taken_by x.vmac x.device) ys) first, apart-kept xs ys rest) refl

taken-symm : (m n : Member) → is_taken_by m.vmac m.device n ≡ is_taken_by n.vmac n.device m
taken-symm m n = ap₂ (λ a b. a || b) (nat_list_eq_equiv.symm n.vmac.0 m.vmac.0) (nat_list_eq_equiv.symm n.device.0 m.device.0)

turned : (a t b c : Bool) → (not (a || (t || false)) && (b && not c)) ≡ ((not a && b) && not (t || c))
turned true t b c = refl
turned false true true c = refl
turned false true false c = refl
turned false false b c = refl

apart-more : (ms : List Member) (m : Member) → are_apart (ms ++ m ∷ []) ≡ (are_apart ms && not (list_any (is_taken_by m.vmac m.device) ms))
apart-more [] m = refl
apart-more (x ∷ ms) m =
    ap₂ (λ a b. not a && b) (list_any-append (is_taken_by x.vmac x.device) ms (m ∷ [])) (apart-more ms m)
    ∙ ap (λ t. not (list_any (is_taken_by x.vmac x.device) ms || (t || false)) && (are_apart ms && not (list_any (is_taken_by m.vmac m.device) ms))) (taken-symm x m)
    ∙ turned (list_any (is_taken_by x.vmac x.device) ms) (is_taken_by m.vmac m.device x) (are_apart ms) (list_any (is_taken_by m.vmac m.device) ms)

-- ---- the tests

le-kept : (n m most : ℕ) → nat_le (n + m) most ≡ true → nat_le n most ≡ true
le-kept n m most h = grind (arith, nat_tests)

pub members-kept : Keeps are_members
members-kept xs ys h =
    let (few, apart) = and_parts (nat_le (length (xs ++ ys)) MEMBERS) (are_apart (xs ++ ys)) h in
    let short : nat_le (length xs + length ys) MEMBERS ≡ true = ap (λ n. nat_le n MEMBERS) (sym (length-append xs ys)) ∙ few in
    rw (le-kept (length xs) (length ys) MEMBERS short, apart-kept xs ys apart) refl

pub rules-kept : Keeps are_rules
rules-kept xs ys h = le-kept (length xs) (length ys) RULES (ap (λ n. nat_le n RULES) (sym (length-append xs ys)) ∙ h)

-- ---- one more is taken, or isn't

is_some-cond : (b : Bool) (n : ℕ) → is_some (cond b (Some n) None) ≡ b
is_some-cond true n = refl
is_some-cond false n = refl

shifted : (n m : ℕ) → is_some (cond (nat_lt n m) (Some n) None) ≡ is_some (cond (nat_lt (1 + n) (suc m)) (Some (1 + n)) None)
shifted n m = is_some-cond (nat_lt n m) n ∙ same n m ∙ sym (is_some-cond (nat_lt (1 + n) (suc m)) (1 + n))
  where
    same : (n m : ℕ) → nat_lt n m ≡ nat_lt (1 + n) (suc m)
    same n m = grind (arith, nat_tests)

at-once : (n : ℕ) → true ≡ is_some {T = ℕ} (cond (nat_lt 0 (suc n)) (Some 0) None)
at-once n = sym (is_some-cond (nat_lt 0 (suc n)) 0 ∙ lt-ltb 0 (suc n) (omega arith))

any-position : {T : Type 0} (p : T → Bool) (xs : List T) → list_any p xs ≡ is_some (position p xs)
any-position p [] = refl
any-position p (x ∷ xs) =
    elim (cases_Bool (p x)) [
      | inl holds ↦ rw holds (at-once (length xs))
      | inr fails ↦ rw fails (any-position p xs ∙ shifted (position_or_len p xs) (length xs))
    ]

none-taken : (p : Member → Bool) (ms : List Member) → ((i : ℕ) → position p ms ≢ Some i) → list_any p ms ≡ false
none-taken p ms none = any-position p ms ∙ there (position p ms) none
  where
    there : (o : Option ℕ) → ((i : ℕ) → o ≢ Some i) → is_some o ≡ false
    there None isnt = refl
    there (Some i) isnt = absurd (isnt i refl)

fits : (ms : List Member) (m : Member) → length ms < MEMBERS → list_any (is_taken_by m.vmac m.device) ms ≡ false → are_members ms ≡ true → are_members (ms ++ m ∷ []) ≡ true
fits ms m short none held =
    let (few, apart) = and_parts (nat_le (length ms) MEMBERS) (are_apart ms) held in
    let room : nat_le (length ms + 1) MEMBERS ≡ true = le-leb (length ms + 1) MEMBERS (omega arith) in
    rw (length-append ms (m ∷ []), room, apart-more ms m, apart, none) refl

full : (ms : List Member) (m : Member) → MEMBERS ≤ length ms → are_members (ms ++ m ∷ []) ≡ false
full ms m many =
    let over : nat_le (length ms + 1) MEMBERS ≡ false = grind (arith, nat_tests) in
    rw (length-append ms (m ∷ []), over) refl

twice : (ms : List Member) (m : Member) (i : ℕ) → position (is_taken_by m.vmac m.device) ms ≡ Some i → are_members (ms ++ m ∷ []) ≡ false
twice ms m i at =
    let any : list_any (is_taken_by m.vmac m.device) ms ≡ true = any-position (is_taken_by m.vmac m.device) ms ∙ ap is_some at in
    let apart : are_apart (ms ++ m ∷ []) ≡ false = apart-more ms m ∙ and-false (are_apart ms) (not (list_any (is_taken_by m.vmac m.device) ms)) (ap not any) in
    and-false (nat_le (length (ms ++ m ∷ [])) MEMBERS) (are_apart (ms ++ m ∷ [])) apart

passing-yes : {T : Type 0} (test : List T → Bool) (xs : List T) → test xs ≡ true → passing test (Some xs) ≡ Some xs
passing-yes test xs holds = rw holds refl

passing-no : {T : Type 0} (test : List T → Bool) (xs : List T) → test xs ≡ false → passing test (Some xs) ≡ None
passing-no test xs fails = rw fails refl

-- what a policy answers of a member
abbrev pub IsAnswered : {T : Type 0} → Result T PolicyFault → List Member → Member → Type 0
IsAnswered r ms m = ((held : ℕ) → (r ≡ Err (policy_fault.Full held)) ↔ ((held ≡ MEMBERS) × (MEMBERS ≤ length ms)))
    × ((i : ℕ) → (r ≡ Err (policy_fault.Twice i)) ↔ ((length ms < MEMBERS) × (position (is_taken_by m.vmac m.device) ms ≡ Some i)))

pub member-taken : {T : Type 0} (r : Result T PolicyFault) (x : T) (ms now : List Member) (m : Member) (said : Option Member) → r ≡ Ok x → IsAnswered r ms m
    → are_members ms ≡ true → said ≡ Some m → now ≡ ms ++ m ∷ [] → passing are_members (behind ms said) ≡ Some now
member-taken r x ms now m said ok answered held is new =
    let isnt : (f : PolicyFault) → r ≢ Err f = λ f err. ok-err x f (sym ok ∙ err) in
    let short : length ms < MEMBERS = not-full (length ms) (λ many. isnt (policy_fault.Full MEMBERS) ((answered.0 MEMBERS).1 (refl, many))) in
    let none = none-taken (is_taken_by m.vmac m.device) ms (λ i at. isnt (policy_fault.Twice i) ((answered.1 i).1 (short, at))) in
    rw (is, new) (passing-yes are_members (ms ++ m ∷ []) (fits ms m short none held))
  where
    ok-err : {T : Type 0} (x : T) (f : PolicyFault) → Ok x ≢ Err f
    ok-err x f same = cc

    not-full : (n : ℕ) → (MEMBERS ≤ n → ⊥) → n < MEMBERS
    not-full n room = elim (cases_Bool (nat_le MEMBERS n)) [
      | inl many ↦ absurd (room (leb-true MEMBERS n many))
      | inr few ↦ grind (arith, nat_tests)
    ]

pub member-full : {T : Type 0} (r : Result T PolicyFault) (ms : List Member) (m : Member) (said : Option Member) (held : ℕ) → r ≡ Err (policy_fault.Full held) → IsAnswered r ms m
    → said ≡ Some m → passing are_members (behind ms said) ≡ None
member-full r ms m said held err answered is = rw is (passing-no are_members (ms ++ m ∷ []) (full ms m ((answered.0 held).0 err).1))

pub member-twice : {T : Type 0} (r : Result T PolicyFault) (ms : List Member) (m : Member) (said : Option Member) (i : ℕ) → r ≡ Err (policy_fault.Twice i) → IsAnswered r ms m
    → said ≡ Some m → passing are_members (behind ms said) ≡ None
member-twice r ms m said i err answered is = rw is (passing-no are_members (ms ++ m ∷ []) (twice ms m i ((answered.1 i).0 err).1))

-- ---- values one after the other

-- what was taken so far, and what is left, come to what all come to
pub record TakenTo {T : Type 0} (says : Data → Option T) (test : List T → Bool) (start now : List T) (all left : List Data) : Type 0 where
  pub goes_on : after_all says test now left ≡ after_all says test start all
  pub fits : test now ≡ true

passing-fits : {T : Type 0} (test : List T → Bool) (o : Option (List T)) (new : List T) → passing test o ≡ Some new → test new ≡ true
passing-fits test None new is = absurd (none-some new is)
passing-fits test (Some xs) new is =
    elim (cases_Bool (test xs)) [
      | inl holds ↦ subst (λ l. test l ≡ true) (some-is xs new (rw holds at is)) holds
      | inr fails ↦ absurd (none-some new (rw fails at is))
    ]

next-value : {T : Type 0} (says : Data → Option T) (test : List T → Bool) (now : List T) (values : List Value) (i : ℕ) (v : Value) → i < length values → v ≡ get_or values i v
    → after_all says test now (map view (drop i values)) ≡ option_and_then (λ ys. after_all says test ys (map view (drop (i + 1) values))) (after says test now (view v))
next-value says test now values i v within at =
    ap (λ (l : List Value). after_all says test now (map view l)) (drop_more values i v within)
    ∙ ap (λ (x : Value). option_and_then (λ ys. after_all says test ys (map view (drop (i + 1) values))) (after says test now (view x))) (sym at)

pub taken-more : {T : Type 0} (says : Data → Option T) (test : List T → Bool) (start now new : List T) (values : List Value) (i : ℕ) (v : Value)
    → i < length values → v ≡ get_or values i v → after says test now (view v) ≡ Some new
    → TakenTo says test start now (map view values) (map view (drop i values)) → TakenTo says test start new (map view values) (map view (drop (i + 1) values))
taken-more says test start now new values i v within at is to = record {
  goes_on = sym (next-value says test now values i v within at ∙ ap (option_and_then (λ ys. after_all says test ys (map view (drop (i + 1) values)))) is) ∙ to.goes_on;
  fits = passing-fits test (behind now (says (view v))) new is;
}

-- ---- what a list says is what its values come to

pub read-list : {T : Type 0} (says : Data → Option T) (test : List T → Bool) → Keeps test → test [] ≡ true → (start : List T) → start ≡ [] → (values : List Value)
    (at : Option Data) (value : Data) → at ≡ Some value → as_array value ≡ Some (items_view values) → after_all says test start (map view values) ≡ list_said says test at
read-list says test keeps empty start none values at value is list =
    ap (λ xs. after_all says test xs (map view values)) none
    ∙ after_all-said says test keeps empty (map view values)
    ∙ ap (λ l. passing test (all_said says l)) (sym (listed-view values))
    ∙ sym (ap (list_said says test) is ∙ ap (λ items. passing test (option_and_then (λ it. all_said says (listed it)) items)) list)

pub no-list : {T : Type 0} (says : Data → Option T) (test : List T → Bool) (at : Option Data) (value : Data) → at ≡ Some value → as_array value ≡ None → list_said says test at ≡ None
no-list says test at value is none = ap (list_said says test) is ∙ ap (λ items. passing test (option_and_then (λ it. all_said says (listed it)) items)) none

-- ---- which key is named

pub unread-for : {T : Type 0} (why : Unread) (key : KeyName) (said : Option T) → IsForKey key why → said ≡ None → IsUnread why key said
unread-for (Refused refusal) key said is none = (is, none)
unread-for NoMemory key said is none = absurd is

rules-full : (rs : List Rule) (r : Rule) → RULES ≤ length rs → are_rules (rs ++ r ∷ []) ≡ false
rules-full rs r many =
    let over : nat_le (length rs + 1) RULES ≡ false = grind (arith, nat_tests) in
    rw (length-append rs (r ∷ []), over) refl

pub rule-full : (rs : List Rule) (r : Rule) (said : Option Rule) → RULES ≤ length rs → said ≡ Some r → passing are_rules (behind rs said) ≡ None
rule-full rs r said many is = rw is (passing-no are_rules (rs ++ r ∷ []) (rules-full rs r many))
