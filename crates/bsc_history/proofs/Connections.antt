-- What holds of the joined, of the unleft and of the live connections of every legal history.
-- It serves the clauses of `frames_enter_by_forwards`.
use Rattle.std.proofs.Common.{◌≡◌, ◌≢◌, inl, inr, ℕ, ◌+◌, ◌≤◌, ◌==◌, Bool, true, false, not, ◌&&◌, cond, List, [], ◌∷◌, ◌++◌, length, filter, Option, Some, None, is_none}
use Rattle.std.proofs.Common.{MatchOption, option_to_list, refl, ap, sym, ◌∙◌, subst, arith, length-append, is_some}
use Rattle.std.specs.List.{list_any}
use Rattle.std.specs.Option.{option_or}
use Rattle.std.proofs.lemmas.Bool.{eq-eqb, eqb-true, both_ways, cases_lt, or_left, or_right, not-false}
use Rattle.std.proofs.lemmas.List.Elements.{filter-append}
use Rattle.std.proofs.lemmas.Option.{same_Some}
use Rattle.bsc_history.specs.declared.limits.About.{About}
use Rattle.bsc_history.specs.declared.ending.End.{End}
use Rattle.bsc_history.specs.declared.entry.Entry.{Entry}
use Rattle.bsc_history.specs.declared.connection.Connection.{Connection}
use Rattle.bsc_history.specs.Entries.{connection_of, joins, moment}
use Rattle.bsc_history.specs.Ends.{end_by, end_by_reply, leaves, joined_where, joined, live, unleft, ended, numbered}
use Rattle.bsc_history.specs.Counting.{counts}
use Rattle.bsc_history.specs.Outboxes.{vmac_in, vmac_of}
use Rattle.bsc_history.specs.Legality.{Lawful, Legal}
use Rattle.bsc_history.specs.Laws.{Apart}
use Rattle.bsc_history.proofs.Lists.{In, In-append, In-option, In-filter, find_says, Apart-push, same_one, In-left, In-right}
use Rattle.bsc_history.proofs.More.{along, live-more, unleft-more, joined-more, ended-more, counts-more}
use Rattle.bsc_history.proofs.Uniqueness.{settled, comes, not_joined}
use Rattle.bsc_history.proofs.Common.{counts_one, filter_only, leave_ends, none_both, number_is}
use Rattle.std.proofs.lemmas.List.Folds.{find-append}
use Rattle.bsc_history.proofs.Parts.{numbered_joined}

-- who is among the connections that a test keeps has joined

In-only : (x : Connection) (o : Option Connection) → o ≡ Some x → In x (filter (λ y. true) (option_to_list o))
In-only x None e = cc
In-only x (Some y) e = inl (let k : y ≡ x = cc in k)

kept_joined : (test : ℕ → List Entry → Bool) (H : List Entry) (x : Connection) → In x (joined_where test H) → In x (joined H) × (list_any (joins x.number) H ≡ true)
unfolding joined_where
kept_joined test [] x h = absurd h
kept_joined test (e ∷ after) x h =
    let o = option_to_list (connection_of e) in
    elim (In-append x (filter (λ c. test c.number after) o) (joined_where test after) h) [
      | inl here ↦ (
          let same = In-option x (connection_of e) (In-filter (λ (c : Connection). test c.number after) x o here).0 in
          (In-left x (filter (λ y. true) o) (joined after) (In-only x (connection_of e) same), or_left (joins x.number e) (list_any (joins x.number) after) (number_is x (connection_of e) same)))
      | inr later ↦ (
          let r = kept_joined test after x later in
          (In-right x (filter (λ y. true) o) (joined after) r.0, or_right (joins x.number e) (list_any (joins x.number) after) r.1))
    ]

pub joined_in : (test : ℕ → List Entry → Bool) (H : List Entry) (x : Connection) → In x (joined_where test H) → In x (joined H)
joined_in test H x h = (kept_joined test H x h).0

pub unleft_joined : (H : List Entry) (x : Connection) → In x (unleft H) → In x (joined H) × (list_any (joins x.number) H ≡ true)
unleft_joined H x h = kept_joined (λ c after. not (list_any (leaves c) after)) H x h

-- connections by their numbers

-- the one of a number, where each has its own
pub numbered_so : (x : Connection) (xs : List Connection) → Apart (λ (c : Connection). c.number) xs → In x xs → numbered x.number xs ≡ Some x
numbered_so x xs apart m = by (numbered x.number xs) (find_says (λ (y : Connection). y.number == x.number) xs)
  where
    by : (o : Option Connection) → MatchOption o ((y : Connection) → In y xs → (y.number == x.number) ≡ false) (λ y. In y xs × ((y.number == x.number) ≡ true)) → o ≡ Some x
    by None says = absurd (both_ways (x.number == x.number) (says x m) (eq-eqb x.number x.number refl))
    by (Some y) says = ap Some (same_one (λ (c : Connection). c.number) y x xs apart says.0 m (eqb-true y.number x.number says.1))

-- who is found is among those that were looked through
pub found_in : (c : ℕ) (xs : List Connection) (x : Connection) → numbered c xs ≡ Some x → In x xs × (x.number ≡ c)
found_in c xs x is = by (numbered c xs) (find_says (λ (y : Connection). y.number == c) xs) is
  where
    by : (o : Option Connection) → MatchOption o ((y : Connection) → In y xs → (y.number == c) ≡ false) (λ y. In y xs × ((y.number == c) ≡ true)) → o ≡ Some x → In x xs × (x.number ≡ c)
    by None says e = cc
    by (Some y) says e = subst (λ (z : Connection). In z xs × (z.number ≡ c)) (same_Some y x e) (says.0, eqb-true y.number c says.1)

-- numbers of those who joined are apart

pub number_bound : (a : About) (H : List Entry) (x : Connection) → Legal a H → list_any (joins x.number) H ≡ true → x.number ≤ length (joined H)
number_bound a H x legal came =
    elim (cases_lt (length (joined H)) x.number) [
      | inl above ↦ absurd (both_ways (list_any (joins x.number) H) ((settled a H legal).fresh x.number above) came)
      | inr within ↦ within
    ]

module _ (a : About) (G : List Entry) (e : Entry) (legal : Legal a G) (lawful : Lawful a (moment G e)) where
  pub apart_new : (x y : Connection) → list_any (joins x.number) G ≡ true → connection_of e ≡ Some y → x.number ≢ y.number
  apart_new x y came same agree =
      let most = number_bound a G x legal came in
      let next = (comes a G e y lawful same).0 in
      let bad : ⊥ = omega arith in bad

pub joined_apart : (a : About) (H : List Entry) → Legal a H → Apart (λ (c : Connection). c.number) (joined H)
unfolding joined_where
joined_apart a H legal = along a (λ G. Apart (λ (c : Connection). c.number) (joined G)) tt (λ G e legalG p lawful.
    rw joined-more (Apart-push (λ (c : Connection). c.number) (joined G) (connection_of e) p (λ x y m same. apart_new a G e legalG lawful x y (kept_joined (λ c after. true) G x m).1 same))) H legal

-- the address with which an unleft connection joined
pub vmac_unleft : (a : About) (H : List Entry) (x : Connection) → Legal a H → In x (unleft H) → vmac_of H x.number ≡ x.who.vmac
vmac_unleft a H x legal m = ap vmac_in (numbered_so x (joined H) (joined_apart a H legal) (unleft_joined H x m).0)

-- as many joined as are counted

pub joined_counted : (a : About) (H : List Entry) → Legal a H → length (joined H) ≡ (counts H).joined
unfolding joined_where counts
joined_counted a H legal = along a (λ G. length (joined G) ≡ (counts G).joined) refl (λ G e legalG p lawful.
    ap length (joined-more G e) ∙ length-append (joined G) (option_to_list (connection_of e))
    ∙ ap (λ (n : ℕ). n + length (option_to_list (connection_of e))) p
    ∙ ap (λ (n : ℕ). (counts G).joined + n) (counts_one a G e.caller e.call e.looks e.reply lawful.replied)
    ∙ sym (ap (λ k. k.joined) (counts-more G e))) H legal

-- the live connections are the unleft ones that have no end

filters : (E K L E' : Connection → Bool) (xs : List Connection) → ((x : Connection) → In x xs → E' x ≡ (E x && K x)) → ((x : Connection) → L x ≡ false → K x ≡ false)
    → filter K (filter E xs) ≡ filter E' (filter L xs)
filters E K L E' [] each leaving = refl
filters E K L E' (x ∷ xs) each leaving =
    let rest = filters E K L E' xs (λ y m. each y (inr m)) leaving in
    let left = λ (b : Bool). filter K (cond b (x ∷ filter E xs) (filter E xs)) in
    let right = λ (b : Bool). filter E' (cond b (x ∷ filter L xs) (filter L xs)) in
    let by : (e k l : Bool) → E x ≡ e → K x ≡ k → L x ≡ l → left e ≡ right l = λ e k l. elim l as (λ l. E x ≡ e → K x ≡ k → L x ≡ l → left e ≡ right l) [
      | false ↦ λ h g f. (
          let none = leaving x f in
          elim e as (λ e. left e ≡ filter E' (filter L xs)) [ true ↦ rw none rest | false ↦ rest ])
      | true ↦ λ h g f. (
          let here : E' x ≡ (e && k) = each x (inl refl) ∙ ap (λ (b : Bool). b && K x) h ∙ ap (λ (b : Bool). e && b) g in
          elim e as (λ e. E' x ≡ (e && k) → left e ≡ right true) [
            | true ↦ elim k as (λ k. K x ≡ k → E' x ≡ k → left true ≡ right true) [ true ↦ λ p q. rw (p, q) (ap (λ (l : List Connection). x ∷ l) rest) | false ↦ λ p q. rw (p, q) rest ] g
            | false ↦ λ q. rw q rest
          ] here)
    ] in
    by (E x) (K x) (L x) refl refl refl

pub live_unended : (a : About) (H : List Entry) → Legal a H → live H ≡ filter (λ x. is_none (ended H x.number)) (unleft H)
unfolding joined_where
live_unended a H legal = along a (λ G. live G ≡ filter (λ x. is_none (ended G x.number)) (unleft G)) refl (λ G e legalG p lawful.
    let E = λ (x : Connection). is_none (ended G x.number) in
    let K = λ (x : Connection). is_none (end_by x.number e) in
    let L = λ (x : Connection). not (leaves x.number e) in
    let E' = λ (x : Connection). is_none (ended (G ++ e ∷ []) x.number) in
    let o = option_to_list (connection_of e) in
    let each : (x : Connection) → In x (unleft G) → E' x ≡ (E x && K x) = λ x m. ap is_none
    (ended-more G e x.number ∙ ap (λ (b : Bool). option_or (ended G x.number) (cond b (end_by x.number e) None)) (unleft_joined G x m).1) ∙ none_both (ended G x.number) (end_by x.number e) in
    let leaving : (x : Connection) → L x ≡ false → K x ≡ false = λ x f. leave_ends x.number e.call (end_by_reply x.number e.reply) (not-false (leaves x.number e) f) in
    let new : (x : Connection) → connection_of e ≡ Some x → E' x ≡ true = λ x same. (
    let next = (comes a G e x lawful same).0 in
    let fresh = (settled a G legalG).fresh x.number (omega arith) in
    ap is_none (ended-more G e x.number ∙ ap (λ (b : Bool). option_or (ended G x.number) (cond b (end_by x.number e) None)) fresh
    ∙ ap (λ (w : Option End). option_or w None) (not_joined G x.number fresh))) in
    live-more G e ∙ ap (λ (l : List Connection). filter K l ++ o) p
    ∙ ap (λ (l : List Connection). l ++ o) (filters E K L E' (unleft G) each leaving)
    ∙ ap (λ (l : List Connection). filter E' (filter L (unleft G)) ++ l) (sym (filter_only E' (connection_of e) new))
    ∙ sym (filter-append E' (filter L (unleft G)) o)
    ∙ ap (filter E') (sym (unleft-more G e))) H legal

-- Of a connection x that joined after G, with a number that nobody had, the address is that of who joined.
pub new_address : (G : List Entry) (e : Entry) (x : Connection) → connection_of e ≡ Some x → list_any (joins x.number) G ≡ false → vmac_of (G ++ e ∷ []) x.number ≡ x.who.vmac
new_address G e x new none =
    let c = x.number in
    let nobody : (o : Option Connection) → is_some o ≡ false → option_or o (numbered c (x ∷ [])) ≡ Some x = λ o. elim o as (λ o. is_some o ≡ false → option_or o (numbered c (x ∷ [])) ≡ Some x) [
      | None ↦ λ k. rw (eq-eqb c c refl) refl
      | Some y ↦ λ k. cc
    ] in
    ap vmac_in (
    ap (numbered c) (joined-more G e ∙ ap (λ (o : Option Connection). joined G ++ option_to_list o) new)
    ∙ find-append (λ (y : Connection). y.number == c) (joined G) (x ∷ [])
    ∙ nobody (numbered c (joined G)) (numbered_joined G c ∙ none)
    )
