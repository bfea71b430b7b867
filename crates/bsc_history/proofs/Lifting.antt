-- What a caller knows of its own connections from a first part of a history holds of the whole: no other caller can
-- make its connections leave.
-- It serves many crates above.
use Rattle.std.proofs.Common.{◌≡◌, ℕ, ◌==◌, Bool, true, false, not, ◌&&◌, cond, List, [], ◌∷◌, ◌++◌, filter, Some, option_to_list, refl, ap, sym, ◌∙◌, subst, append_assoc, append-nil}
use Rattle.std.specs.List.{list_any, AllByRecursion}
use Rattle.std.proofs.lemmas.Bool.{and_from, and_parts, both_ways, eq-eqb, eqb-true, false_from_ne_true, or_left, or_parts, or_right}
use Rattle.std.proofs.lemmas.List.Folds.{list_any-append}
use Rattle.bsc_history.specs.declared.limits.About.{About}
use Rattle.bsc_history.specs.declared.call.Call.{Call}
use Rattle.bsc_history.specs.declared.call.Call.TheVariants.{Connect, Forward, Leave, Stop, Count}
use Rattle.bsc_history.specs.declared.connection.Connection.{Connection}
use Rattle.bsc_history.specs.declared.entry.Entry.{Entry}
use Rattle.bsc_history.specs.Entries.{connection_of, joins, moment, moments_after, own}
use Rattle.bsc_history.specs.Ends.{is_leave, leaves, unleft}
use Rattle.bsc_history.specs.Legality.{Lawful, Legal, can_find, is_of, may_call}
use Rattle.bsc_history.proofs.Lists.{In, In_kept, any_In, any_gives, same_one}
use Rattle.bsc_history.proofs.More.{Legal-more, unleft-more}
use Rattle.bsc_history.proofs.Named.{unleft_joined}
use Rattle.bsc_history.proofs.Numbers.{numbers_are_new}
use Rattle.bsc_history.proofs.Parts.{All-parts, Legal-first, own-append}
use Rattle.bsc_lemmas.proofs.Lists.{same_rest}

-- a Leave is of a connection of its caller
leave_of_own : (a : About) (G : List Entry) (p : ℕ) (call : Call) → may_call a G p call ≡ true → (c : ℕ) → is_leave c call ≡ true → is_of G p c ≡ true
leave_of_own a G p (Leave conn t n) h c is = subst (λ d. is_of G p d ≡ true) (eqb-true conn c is) (and_parts (is_of G p conn) (can_find a G conn t) h).0
leave_of_own a G p (Connect who) h c is = cc
leave_of_own a G p (Forward conn m) h c is = cc
leave_of_own a G p Stop h c is = cc
leave_of_own a G p Count h c is = cc

-- where none of the caller's own entries is a leave of c, neither is the first if it is the caller's, nor any later one
stay_parts : (e : Entry) (es : List Entry) (p c : ℕ) → list_any (leaves c) (own (e ∷ es) p) ≡ false → ((e.caller == p) ≡ true → leaves c e ≡ false) × (list_any (leaves c) (own es p) ≡ false)
stay_parts e es p c h =
    let Goal = ((e.caller == p) ≡ true → leaves c e ≡ false) × (list_any (leaves c) (own es p) ≡ false) in
    let by : (b : Bool) → (e.caller == p) ≡ b → list_any (leaves c) (cond b (e ∷ own es p) (own es p)) ≡ false
    → Goal = λ b. elim b as (λ b. (e.caller == p) ≡ b → list_any (leaves c) (cond b (e ∷ own es p) (own es p)) ≡ false → Goal) [
      | true ↦ λ is k. (let r = or_parts (leaves c e) (list_any (leaves c) (own es p)) k in (λ mine. r.0, r.1))
      | false ↦ λ is k. (λ mine. absurd (both_ways (e.caller == p) is mine), k)
    ] in
    by (e.caller == p) refl h

module _ (a : About) (p c : ℕ) (t : Connection → Bool) (by_p : (x : Connection) → t x ≡ true → (x.caller ≡ p) × (x.number ≡ c)) where
  -- Of a test that only the connection c of caller p can pass: who passes and hasn't left stays so by an entry that
  -- isn't a leave of c by p.
  pub stays : (G : List Entry) (e : Entry) → Legal a G → Lawful a (moment G e) → ((e.caller == p) ≡ true → leaves c e ≡ false) → list_any t (unleft G) ≡ true → list_any t (unleft (G ++ e ∷ [])) ≡ true
  stays G e legal lawful stay h =
      let w = any_gives t (unleft G) h in
      let x = w.0 in
      let of = by_p x w.2 in
      let remains : leaves x.number e ≡ false = false_from_ne_true (leaves x.number e) (λ gone.
      let o = leave_of_own a G e.caller e.call lawful.called x.number gone in
      let v = any_gives (λ (y : Connection). (y.number == x.number) && (y.caller == e.caller)) (unleft G) o in
      let two = and_parts (v.0.number == x.number) (v.0.caller == e.caller) v.2 in
      let same : v.0 ≡ x = same_one (λ (y : Connection). y.number) v.0 x (unleft G) (numbers_are_new a G legal) v.1 w.1 (eqb-true v.0.number x.number two.0) in
      let who : e.caller ≡ p = sym (eqb-true v.0.caller e.caller two.1) ∙ ap (λ (y : Connection). y.caller) same ∙ of.0 in
      both_ways (leaves c e) (stay (eq-eqb e.caller p who)) (subst (λ k. leaves k e ≡ true) of.1 gone)) in
      let left = filter (λ (y : Connection). not (leaves y.number e)) (unleft G) in
      let kept : In x left = In_kept (λ (y : Connection). not (leaves y.number e)) x (unleft G) w.1 (ap not remains) in
      ap (list_any t) (unleft-more G e) ∙ list_any-append t left (option_to_list (connection_of e))
      ∙ or_left (list_any t left) (list_any t (option_to_list (connection_of e))) (any_In t x left kept w.2)

  along_rest : (G es : List Entry) → Legal a G → AllByRecursion (Lawful a) (moments_after G es) → list_any (leaves c) (own es p) ≡ false → list_any t (unleft G) ≡ true
      → list_any t (unleft (G ++ es)) ≡ true
  along_rest G [] legal rest stay h = rw append-nil h
  along_rest G (e ∷ es) legal rest stay h =
      let two = stay_parts e es p c stay in
      let next = stays G e legal rest.0 two.0 h in
      subst (λ F. list_any t (unleft F) ≡ true) (append_assoc G (e ∷ []) es) (along_rest (G ++ e ∷ []) es (Legal-more a G e legal rest.0) rest.1 two.1 next)

  -- Of such a test, what holds of a first part of a legal history holds of the whole, where none of the caller's own
  -- entries since is a leave of c.
  pub lifts : (F rest own_since : List Entry) → Legal a (F ++ rest) → own (F ++ rest) p ≡ own F p ++ own_since → list_any (leaves c) own_since ≡ false → list_any t (unleft F) ≡ true
      → list_any t (unleft (F ++ rest)) ≡ true
  lifts F rest own_since legal same stay h =
      let since : own rest p ≡ own_since = same_rest (own F p) (own rest p) own_since (sym (own-append F rest p) ∙ same) in
      along_rest F rest (Legal-first a F rest legal) (All-parts (Lawful a) [] F rest legal.lawful).1 (ap (list_any (leaves c)) since ∙ stay) h

-- What caller p has joined and hasn't left by F, it has by F and the rest, where none of its own entries since is a
-- leave of it.
pub own_lifts : (a : About) (p c : ℕ) (F rest own_since : List Entry) → Legal a (F ++ rest) → own (F ++ rest) p ≡ own F p ++ own_since → list_any (leaves c) own_since ≡ false
    → is_of F p c ≡ true → is_of (F ++ rest) p c ≡ true
own_lifts a p c F rest own_since legal same stay h = lifts a p c (λ x. (x.number == c) && (x.caller == p))
    (λ x k. (let two = and_parts (x.number == c) (x.caller == p) k in (eqb-true x.caller p two.1, eqb-true x.number c two.0))) F rest own_since legal same stay h

-- What a caller has joined and hasn't left has joined.
pub own_joined : (H : List Entry) (p c : ℕ) → is_of H p c ≡ true → list_any (joins c) H ≡ true
own_joined H p c h = unleft_joined (λ k after. not (list_any (leaves k) after)) (λ x. (x.number == c) && (x.caller == p)) c (λ x k. (and_parts (x.number == c) (x.caller == p) k).0) H h

-- Who joins by the newest entry is its caller's own.
pub join_owned : (G : List Entry) (e : Entry) (x : Connection) → connection_of e ≡ Some x → is_of (G ++ e ∷ []) x.caller x.number ≡ true
join_owned G e x new =
    let t = λ (y : Connection). (y.number == x.number) && (y.caller == x.caller) in
    let left = filter (λ (y : Connection). not (leaves y.number e)) (unleft G) in
    ap (list_any t) (unleft-more G e) ∙ list_any-append t left (option_to_list (connection_of e))
    ∙ or_right (list_any t left) (list_any t (option_to_list (connection_of e)))
    (ap (λ o. list_any t (option_to_list o)) new ∙ or_left (t x) false (and_from (x.number == x.number) (x.caller == x.caller) (eq-eqb x.number x.number refl) (eq-eqb x.caller x.caller refl)))
