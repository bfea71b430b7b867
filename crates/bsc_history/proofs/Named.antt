-- A reply names exactly the outboxes that its call adds to.
-- It serves clauses of functions of `laws`.
use Rattle.std.proofs.Common.{◌≡◌, inl, inr, ℕ, ◌==◌, Bool, true, false, not, ◌&&◌, ◌||◌, cond, nat_lt, IsTrue, List, [], ◌∷◌, ◌++◌, length, filter, Option, Some, None, is_some}
use Rattle.std.proofs.Common.{is_none, option_to_list, true≢false, refl, ap, sym, ◌∙◌, subst, arith}
use Rattle.std.specs.List.{list_any}
use Rattle.std.specs.Option.{option_or}
use Rattle.std.proofs.lemmas.Bool.{eqb-true, or_cases, or_left, or_right, and_parts, and_right}
use Rattle.std.proofs.lemmas.List.Folds.{find-append, list_any-append}
use Rattle.bsc_octets.specs.Addresses.{same_vmac}
use Rattle.bsc_octets.specs.Forwarding.{destination, is_broadcast, has_route}
use Rattle.bsc_history.specs.declared.limits.About.{About}
use Rattle.bsc_history.specs.declared.call.Call.{Call}
use Rattle.bsc_history.specs.declared.call.Call.TheVariants.{Connect, Forward, Leave, Stop, Count}
use Rattle.bsc_history.specs.declared.ending.End.{End}
use Rattle.bsc_history.specs.declared.entry.Entry.{Entry}
use Rattle.bsc_history.specs.declared.looks.Look.{Look}
use Rattle.bsc_history.specs.declared.reply.Reply.{Reply}
use Rattle.bsc_history.specs.declared.reply.Reply.TheVariants.{Joined, Appended, Closed, Skipped, Stopped}
use Rattle.bsc_history.specs.declared.connection.Connection.{Connection}
use Rattle.bsc_history.specs.Entries.{connection_of, made_by, is_number, joins, stops, is_stop}
use Rattle.bsc_history.specs.Ends.{end_by, end_by_call, end_by_reply, ended, joined_where, live, leaves, numbered, is_live}
use Rattle.bsc_history.specs.Holders.{holder}
use Rattle.bsc_history.specs.Outboxes.{added_by, meant, out_of, takes, is_too_long, is_found_full, sent}
use Rattle.bsc_history.specs.Replies.{reply, connect_reply, forward_reply, unicast_reply, broadcast_reply, unless_ended, is_stopped, numbers}
use Rattle.bsc_history.specs.Legality.{is_of, may_call, Legal}
use Rattle.bsc_history.specs.Laws.{is_among, names, AddsAsNamed, LiveUntilEnded}
use Rattle.bsc_history.proofs.Lists.{filter-find, none_filtered}
use Rattle.bsc_history.proofs.More.{along, live-more, ended-more, is_stopped-more}
use Rattle.bsc_history.proofs.Uniqueness.{settled, comes, not_joined}
use Rattle.bsc_lemmas.proofs.Booleans.{and_false, or_false}
use Rattle.bsc_octets.proofs.Common.{vmac_same}

-- live until ended

find_numbered : (c : ℕ) (q : ℕ → Bool) (xs : List Connection) → is_some (numbered c (filter (λ x. q x.number) xs)) ≡ (is_some (numbered c xs) && q c)
find_numbered c q [] = refl
find_numbered c q (x ∷ xs) =
    let rest = find_numbered c q xs in
    let by : (b k : Bool) → (x.number == c) ≡ b → q x.number ≡ k → is_some (numbered c (cond k (x ∷ filter (λ y. q y.number) xs) (filter (λ y. q y.number) xs)))
    ≡ (is_some (cond b (Some x) (numbered c xs)) && q c) = λ b k. elim b as (λ b. (x.number == c) ≡ b → q x.number ≡ k
    → is_some (numbered c (cond k (x ∷ filter (λ y. q y.number) xs) (filter (λ y. q y.number) xs))) ≡ (is_some (cond b (Some x) (numbered c xs)) && q c)) [
      | true ↦ λ e f. (
          let same : q c ≡ k = ap q (sym (eqb-true x.number c e)) ∙ f in
          elim k as (λ k. q c ≡ k → is_some (numbered c (cond k (x ∷ filter (λ y. q y.number) xs) (filter (λ y. q y.number) xs))) ≡ q c) [
            | true ↦ λ g. rw e (sym g)
            | false ↦ λ g. rest ∙ and_right (is_some (numbered c xs)) (q c) g ∙ sym g
          ] same)
      | false ↦ λ e f. elim k as (λ k. is_some (numbered c (cond k (x ∷ filter (λ y. q y.number) xs) (filter (λ y. q y.number) xs)))
          ≡ (is_some (numbered c xs) && q c)) [ true ↦ rw e rest | false ↦ rest ]
    ] in
    by (x.number == c) (q x.number) refl refl

pub some_or : {A : Type 0} (o p : Option A) → is_some (option_or o p) ≡ (is_some o || is_some p)
some_or None p = refl
some_or (Some x) p = refl

pub find_one : (c : ℕ) (o : Option Connection) → is_some (numbered c (option_to_list o)) ≡ is_number c o
find_one c None = refl
find_one c (Some x) = elim (x.number == c) as (λ b. is_some (cond b (Some x) None) ≡ b) [ true ↦ refl | false ↦ refl ]

is_live-more : (G : List Entry) (e : Entry) (c : ℕ) → is_live (G ++ e ∷ []) c ≡ ((is_live G c && is_none (end_by c e)) || joins c e)
is_live-more G e c =
    ap (λ (l : List Connection). is_some (numbered c l)) (live-more G e)
    ∙ ap is_some (find-append (λ (x : Connection). x.number == c) (filter (λ x. is_none (end_by x.number e)) (live G)) (option_to_list (connection_of e)))
    ∙ some_or (numbered c (filter (λ x. is_none (end_by x.number e)) (live G))) (numbered c (option_to_list (connection_of e)))
    ∙ ap (λ (b : Bool). b || is_some (numbered c (option_to_list (connection_of e)))) (find_numbered c (λ k. is_none (end_by k e)) (live G))
    ∙ ap (λ (b : Bool). (is_live G c && is_none (end_by c e)) || b) (find_one c (connection_of e))

turn : (any here : Bool) (w v : Option End) → (here ≡ true → any ≡ false) → (any ≡ false → w ≡ None)
    → (((any && is_none w) && is_none v) || here) ≡ ((any || here) && is_none (option_or w (cond any v None)))
turn true true w v once free = let bad : ⊥ = true≢false (once refl) in absurd bad
turn true false None None once free = refl
turn true false None (Some x) once free = refl
turn true false (Some y) v once free = refl
turn false true None v once free = refl
turn false true (Some y) v once free = let bad : Some y ≡ None = free refl in cc
turn false false None v once free = refl
turn false false (Some y) v once free = refl

pub live_until_ended : (a : About) (H : List Entry) → Legal a H → LiveUntilEnded H
unfolding joined_where ended
live_until_ended a H legal = along a LiveUntilEnded (λ c. refl) (λ G e legalG p lawful c.
    let s = settled a G legalG in
    let once : joins c e ≡ true → list_any (joins c) G ≡ false = λ here. (
    let on : (o : Option Connection) → connection_of e ≡ o → is_number c o ≡ true
    → list_any (joins c) G ≡ false = λ o. elim o as (λ o. connection_of e ≡ o → is_number c o ≡ true → list_any (joins c) G ≡ false) [
      | None ↦ λ f g. cc
      | Some x ↦ λ f g. (let n = (comes a G e x lawful f).0 in let k = eqb-true x.number c g in s.fresh c (omega arith))
    ] in
    on (connection_of e) refl here) in
    is_live-more G e c ∙ ap (λ (b : Bool). (b && is_none (end_by c e)) || joins c e) (p c)
    ∙ turn (list_any (joins c) G) (joins c e) (ended G c) (end_by c e) once (not_joined G c)
    ∙ sym (ap (λ (b : Bool). b && is_none (ended (G ++ e ∷ []) c)) (list_any-append (joins c) G (e ∷ []) ∙ ap (λ (b : Bool). list_any (joins c) G || b) (or_false (joins c e)))
    ∙ ap (λ (o : Option End). (list_any (joins c) G || joins c e) && is_none o) (ended-more G e c))) H legal

-- after a stop no one is live

call_joins : (caller : ℕ) (call : Call) (r : Reply) → is_stop call ≡ true → made_by caller call r ≡ None
call_joins caller Stop r h = refl
call_joins caller (Connect who) r h = cc
call_joins caller (Forward c m) r h = refl
call_joins caller (Leave c t n) r h = refl
call_joins caller Count r h = refl

stop_ends : (c : ℕ) (e : Entry) → is_stop e.call ≡ true → is_none (end_by c e) ≡ false
stop_ends c e h =
    let by : (call : Call) → is_stop call ≡ true → is_none (option_or (end_by_call c call) (end_by_reply c e.reply)) ≡ false =
    λ call. elim call as (λ call. is_stop call ≡ true → is_none (option_or (end_by_call c call) (end_by_reply c e.reply))
    ≡ false) [ Connect who ↦ λ g. cc | Forward s m ↦ λ g. cc | Leave k t n ↦ λ g. cc | Stop ↦ λ g. refl | Count ↦ λ g. cc ] in
    by e.call h

refused_when_stopped : (a : About) (H : List Entry) (caller : ℕ) (call : Call) (looks : List Look) (r : Reply) → is_stopped H ≡ true → r ≡ reply a H call looks → made_by caller call r ≡ None
unfolding connect_reply
refused_when_stopped a H caller (Connect who) looks (Joined c p) stopped h = let k = rw stopped at h in cc
refused_when_stopped a H caller call looks r stopped h = refl

pub none_live : (a : About) (H : List Entry) → Legal a H → is_stopped H ≡ true → live H ≡ []
unfolding joined_where
none_live a H legal = along a (λ G. is_stopped G ≡ true → live G ≡ []) (λ h. refl) (λ G e legalG p lawful h.
    let K = λ (x : Connection). is_none (end_by x.number e) in
    elim (or_cases (is_stopped G) (stops e) (sym (is_stopped-more G e) ∙ h)) [
      | inl was ↦ live-more G e ∙ ap (λ (l : List Connection). filter K l ++ option_to_list (connection_of e)) (p was)
          ∙ ap option_to_list (refused_when_stopped a G e.caller e.call e.looks e.reply was lawful.replied)
      | inr now ↦ live-more G e ∙ ap (λ (l : List Connection). l ++ option_to_list (connection_of e)) (none_filtered K (live G) (λ x m. stop_ends x.number e now))
          ∙ ap option_to_list (call_joins e.caller e.call e.reply now)
    ]) H legal

-- who is unleft has joined

pub unleft_joined : (test : ℕ → List Entry → Bool) (t : Connection → Bool) (c : ℕ) → ((x : Connection) → t x ≡ true → (x.number == c) ≡ true) → (H : List Entry)
    → list_any t (joined_where test H) ≡ true → list_any (joins c) H ≡ true
unfolding joined_where
unleft_joined test t c says [] h = h
unleft_joined test t c says (e ∷ after) h =
    let on : (o : Option Connection) → list_any t (filter (λ x. test x.number after) (option_to_list o)) ≡ true
    → is_number c o ≡ true = λ o. elim o as (λ o. list_any t (filter (λ x. test x.number after) (option_to_list o)) ≡ true → is_number c o ≡ true) [
      | None ↦ λ g. cc
      | Some x ↦ (let by : (b : Bool) → list_any t (cond b (x ∷ []) []) ≡ true
          → (x.number == c) ≡ true = λ b. elim b as (λ b. list_any t (cond b (x ∷ []) []) ≡ true
          → (x.number == c) ≡ true) [ true ↦ λ g. says x (sym (or_false (t x)) ∙ g) | false ↦ λ g. cc ] in by (test x.number after))
    ] in
    elim (or_cases (list_any t (filter (λ x. test x.number after) (option_to_list (connection_of e)))) (list_any t (joined_where test after))
    (sym (list_any-append t (filter (λ x. test x.number after) (option_to_list (connection_of e))) (joined_where test after)) ∙ h)) [
      | inl here ↦ or_left (joins c e) (list_any (joins c) after) (on (connection_of e) here)
      | inr later ↦ or_right (joins c e) (list_any (joins c) after) (unleft_joined test t c says after later)
    ]

-- the connections that a unicast means

pub meant-unicast : (a : About) (H : List Entry) (sender : ℕ) (m : List ℕ) → Legal a H → is_broadcast m ≡ false → meant H sender m ≡ option_to_list (holder H (destination m))
meant-unicast a H sender m legal one =
    let p = λ (x : Connection). same_vmac x.who.vmac (destination m) in
    ap (λ (b : Bool). filter (λ x. cond b (not (x.number == sender)) (p x)) (live H)) one
    ∙ filter-find (λ (x : Connection). x.who.vmac) p (live H) (settled a H legal).holders (λ x y g h. vmac_same x.who.vmac (destination m) g ∙ sym (vmac_same y.who.vmac (destination m) h))

-- names

pub and_true : (b : Bool) → (b && true) ≡ b
and_true true = refl
and_true false = refl

pub among_filter : (c : ℕ) (q t : Connection → Bool) → ((x : Connection) → ((x.number == c) && q x) ≡ t x) → (xs : List Connection) → is_among c (numbers (filter q xs)) ≡ list_any t xs
among_filter c q t same [] = refl
among_filter c q t same (x ∷ xs) =
    let rest = among_filter c q t same xs in
    let by : (b : Bool) → q x ≡ b → is_among c (numbers (cond b (x ∷ filter q xs) (filter q xs))) ≡ (((x.number == c) && b) || list_any t xs) =
    λ b. elim b as (λ b. q x ≡ b → is_among c (numbers (cond b (x ∷ filter q xs) (filter q xs))) ≡ (((x.number == c) && b) || list_any t xs)) [
      | true ↦ λ e. ap (λ (k : Bool). (x.number == c) || k) rest ∙ ap (λ (k : Bool). k || list_any t xs) (sym (and_true (x.number == c)))
      | false ↦ λ e. rest ∙ ap (λ (k : Bool). k || list_any t xs) (sym (and_false (x.number == c)))
    ] in
    by (q x) refl ∙ ap (λ (k : Bool). k || list_any t xs) (same x)

not_or : (a b : Bool) → (not a && not b) ≡ not (a || b)
not_or true b = refl
not_or false b = refl

module _ (a : About) (H : List Entry) (o : List ℕ) (looks : List Look) (c : ℕ) where
  abbrev into : Connection → Bool
  into x = not (is_too_long o x) && not (is_found_full a (sent a H x.number) looks x.number)

  same_test : (x : Connection) → ((x.number == c) && into x) ≡ takes a o (sent a H c) looks c x
  same_test x =
      let by : (b : Bool) → (x.number == c) ≡ b → (b && into x) ≡ (b && not (is_too_long o x || is_found_full a (sent a H c) looks c)) =
      λ b. elim b as (λ b. (x.number == c) ≡ b → (b && into x) ≡ (b && not (is_too_long o x || is_found_full a (sent a H c) looks c))) [
        | true ↦ λ e. ap (λ (k : ℕ). not (is_too_long o x) && not (is_found_full a (sent a H k) looks k)) (eqb-true x.number c e) ∙ not_or (is_too_long o x) (is_found_full a (sent a H c) looks c)
        | false ↦ λ e. refl
      ] in
      by (x.number == c) refl

  one_named : (m : List ℕ) (r : Option Connection) → names c (unicast_reply a H m o looks r) ≡ list_any (takes a o (sent a H c) looks c) (option_to_list r)
  one_named m None = refl
  one_named m (Some x) =
      let by : (l f : Bool) → names c (cond l (Skipped x.number) (cond f (Closed x.number) (Appended x.number))) ≡ ((x.number == c) && (not l && not f)) =
      λ l f. elim l as (λ l. names c (cond l (Skipped x.number) (cond f (Closed x.number) (Appended x.number))) ≡ ((x.number == c) && (not l && not f))) [
        | true ↦ sym (and_false (x.number == c))
        | false ↦ elim f as (λ f. names c (cond f (Closed x.number) (Appended x.number))
            ≡ ((x.number == c) && not f)) [ true ↦ sym (and_false (x.number == c)) | false ↦ sym (and_true (x.number == c)) ]
      ] in
      by (is_too_long o x) (is_found_full a (sent a H x.number) looks x.number) ∙ same_test x ∙ sym (or_false (takes a o (sent a H c) looks c x))

named_reply : (a : About) (H : List Entry) (sender : ℕ) (m : List ℕ) (looks : List Look) (c : ℕ) → Legal a H → list_any (joins sender) H ≡ true
    → names c (forward_reply a H sender m looks) ≡ (is_live H sender && list_any (takes a (out_of H sender m) (sent a H c) looks c) (meant H sender m))
unfolding forward_reply
named_reply a H sender m looks c legal came =
    let o = out_of H sender m in
    let any = list_any (takes a o (sent a H c) looks c) (meant H sender m) in
    let now = live_until_ended a H legal sender in
    let body = λ (b : Bool). cond b (broadcast_reply a H o looks (meant H sender m)) (unicast_reply a H m o looks (holder H (destination m))) in
    let sends : (b : Bool) → is_broadcast m ≡ b → names c (body b) ≡ any = λ b. elim b as (λ b. is_broadcast m ≡ b → names c (body b) ≡ any) [
      | true ↦ λ e. among_filter c (into a H o looks c) (takes a o (sent a H c) looks c) (same_test a H o looks c) (meant H sender m)
      | false ↦ λ e. one_named a H o looks c m (holder H (destination m)) ∙ ap (list_any (takes a o (sent a H c) looks c)) (sym (meant-unicast a H sender m legal e))
    ] in
    let unended : (w : Option End) → ended H sender ≡ w → names c (unless_ended w (body (is_broadcast m))) ≡ (is_live H sender && any) =
    λ w. elim w as (λ w. ended H sender ≡ w → names c (unless_ended w (body (is_broadcast m))) ≡ (is_live H sender && any)) [
      | None ↦ λ e. sends (is_broadcast m) refl ∙ sym (ap (λ (b : Bool). b && any) (now ∙ ap (λ (b : Bool). b && is_none (ended H sender)) came ∙ ap is_none e))
      | Some k ↦ λ e. sym (ap (λ (b : Bool). b && any) (now ∙ ap (λ (b : Bool). b && is_none (ended H sender)) came ∙ ap is_none e))
    ] in
    let by : (s : Bool) → is_stopped H ≡ s → names c (cond s Stopped (unless_ended (ended H sender) (body (is_broadcast m)))) ≡ (is_live H sender && any) =
    λ s. elim s as (λ s. is_stopped H ≡ s → names c (cond s Stopped (unless_ended (ended H sender) (body (is_broadcast m)))) ≡ (is_live H sender && any)) [
      | true ↦ λ e. sym (ap (λ (l : List Connection). is_some (numbered sender l) && any) (none_live a H legal e))
      | false ↦ λ e. unended (ended H sender) refl
    ] in
    by (is_stopped H) refl

pub adds_as_named : (a : About) (H : List Entry) → Legal a H → AddsAsNamed a H
unfolding added_by
adds_as_named a H legal e sender m c lawful is =
    let o = out_of H sender m in
    let may : IsTrue (may_call a H e.caller (Forward sender m)) = subst (λ call. IsTrue (may_call a H e.caller call)) is lawful.called in
    let mine = (and_parts (is_of H e.caller sender) (has_route m) (and_parts (is_of H e.caller sender && has_route m) (nat_lt (length H) a.limits.calls) may).0).0 in
    let came = unleft_joined (λ k after. not (list_any (leaves k) after)) (λ x. (x.number == sender) && (x.caller == e.caller)) sender
    (λ x h. (and_parts (x.number == sender) (x.caller == e.caller) h).0) H mine in
    let r : e.reply ≡ forward_reply a H sender m e.looks = lawful.replied ∙ ap (λ (call : Call). reply a H call e.looks) is in
    ap (λ (call : Call). added_by a H (sent a H c) c call e.looks) is
    ∙ ap (λ (b : Bool). cond b (o ∷ []) []) (sym (named_reply a H sender m e.looks c legal came) ∙ sym (ap (names c) r))
