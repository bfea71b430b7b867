-- Lemmas that crates above cite too.
-- It serves clauses of functions of `laws`.
use Rattle.bsc_history.specs.Counting.{one_if, is_joined}
use Rattle.bsc_history.specs.Ends.{leaves, ended, end_by_call, is_leave, joined, joined_where, live}
use Rattle.bsc_history.specs.Entries.{is_number, made_by, connection_of}
use Rattle.bsc_history.specs.Holders.{holder}
use Rattle.bsc_history.specs.Laws.{is_among}
use Rattle.bsc_history.specs.Legality.{looks_at}
use Rattle.bsc_history.specs.Marks.{entries}
use Rattle.bsc_history.specs.Outboxes.{is_too_long, is_found_full, sent, out_of, meant, means}
use Rattle.bsc_history.specs.Replies.{unicast_reply, is_stopped, unless_ended, forward_reply, broadcast_reply, reply, rival, numbers}
use Rattle.bsc_history.specs.declared.call.Call.{Call}
use Rattle.bsc_history.specs.declared.call.Call.TheVariants.{Leave, Forward, Connect, Count, Stop}
use Rattle.bsc_history.specs.declared.connection.Connection.{Connection}
use Rattle.bsc_history.specs.declared.ending.End.{End}
use Rattle.bsc_history.specs.declared.entry.Entry.{Entry}
use Rattle.bsc_history.specs.declared.limits.About.{About}
use Rattle.bsc_history.specs.declared.looks.Look.{Look}
use Rattle.bsc_history.specs.declared.mark.Stamped.{Stamped}
use Rattle.bsc_history.specs.declared.reply.Reply.{Reply}
use Rattle.bsc_history.specs.declared.reply.Reply.TheVariants.{Appended, Closed, Skipped, Stopped, Joined}
use Rattle.bsc_octets.specs.Addresses.{same_device}
use Rattle.bsc_octets.specs.Forwarding.{is_broadcast, destination}
use Rattle.bsc_octets.specs.declared.identity.Identity.{Identity}
use Rattle.std.proofs.Common.{◌∷◌, ◌≡◌, not, refl, false, filter, List, [], ap, ℕ, true, arith, Bool, ◌≤◌, Option, Some, ◌∙◌, cond, None, option_to_list, length, sym, ◌&&◌}
use Rattle.std.proofs.Common.{is_none, suc, ◌||◌, append_assoc, ◌++◌, take, subst, ◌==◌, inr, inl, map}
use Rattle.std.proofs.lemmas.Bool.{eq-eqb, or_right, or_left, or_cases}
use Rattle.std.specs.List.{filter as filter′, AllByRecursion, list_any}
use Rattle.std.specs.Option.{option_or, option_to_list as option_to_list′}

pub none_leave : (e : Entry) (xs : List Connection) → ((c : ℕ) → leaves c e ≡ false) → filter (λ x. not (leaves x.number e)) xs ≡ xs
none_leave e [] stays = refl
none_leave e (x ∷ xs) stays = rw (stays x.number) (ap (λ (l : List Connection). x ∷ l) (none_leave e xs stays))

pub one_at_most : (b : Bool) → one_if b ≤ 1
one_at_most true = omega arith
one_at_most false = omega arith

pub number_is : (x : Connection) (o : Option Connection) → o ≡ Some x → is_number x.number o ≡ true
number_is x o e = ap (is_number x.number) e ∙ eq-eqb x.number x.number refl

pub is_joined-unicast : (a : About) (H : List Entry) (m o : List ℕ) (looks : List Look) (r : Option Connection) → is_joined (unicast_reply a H m o looks r) ≡ false
is_joined-unicast a H m o looks None = refl
is_joined-unicast a H m o looks (Some c) =
    elim (is_too_long o c) as (λ b. is_joined (cond b (Skipped c.number) (cond (is_found_full a (sent a H c.number) looks c.number) (Closed c.number) (Appended c.number))) ≡ false) [
      | true ↦ refl
      | false ↦ elim (is_found_full a (sent a H c.number) looks c.number) as (λ b. is_joined (cond b (Closed c.number) (Appended c.number)) ≡ false) [ true ↦ refl | false ↦ refl ]
    ]

pub is_joined-forward : (a : About) (H : List Entry) (sender : ℕ) (m : List ℕ) (looks : List Look) → is_joined (forward_reply a H sender m looks) ≡ false
unfolding forward_reply
is_joined-forward a H sender m looks =
    let o = out_of H sender m in
    let body = cond (is_broadcast m) (broadcast_reply a H o looks (meant H sender m)) (unicast_reply a H m o looks (holder H (destination m))) in
    let sends : is_joined body ≡ false = elim (is_broadcast m) as (λ b. is_joined
    (cond b (broadcast_reply a H o looks (meant H sender m)) (unicast_reply a H m o looks (holder H (destination m))))
    ≡ false) [ true ↦ refl | false ↦ is_joined-unicast a H m o looks (holder H (destination m)) ] in
    let unended : is_joined (unless_ended (ended H sender) body) ≡ false = elim (ended H sender) as (λ w. is_joined (unless_ended w body) ≡ false) [ None ↦ sends | Some k ↦ refl ] in
    elim (is_stopped H) as (λ b. is_joined (cond b Stopped (unless_ended (ended H sender) body)) ≡ false) [ true ↦ refl | false ↦ unended ]

pub counts_one : (a : About) (H : List Entry) (caller : ℕ) (call : Call) (looks : List Look) (r : Reply) → r ≡ reply a H call looks
    → length (option_to_list (made_by caller call r)) ≡ one_if (is_joined r)
counts_one a H caller (Connect who) looks (Joined c p) h = refl
counts_one a H caller (Connect who) looks r h = refl
counts_one a H caller (Forward c m) looks r h = ap one_if (sym (ap is_joined h ∙ is_joined-forward a H c m looks))
counts_one a H caller (Leave c t n) looks r h = ap one_if (sym (ap is_joined h))
counts_one a H caller Stop looks r h = ap one_if (sym (ap is_joined h))
counts_one a H caller Count looks r h = ap one_if (sym (ap is_joined h))

pub none_both : (o p : Option End) → is_none (option_or o p) ≡ (is_none o && is_none p)
none_both None p = refl
none_both (Some x) p = refl

pub leave_ends : (c : ℕ) (call : Call) (o : Option End) → is_leave c call ≡ true → is_none (option_or (end_by_call c call) o) ≡ false
leave_ends c (Connect who) o h = cc
leave_ends c (Forward k m) o h = cc
leave_ends c (Leave k t n) o h = rw h refl
leave_ends c Stop o h = cc
leave_ends c Count o h = cc

pub filter_only : (q : Connection → Bool) (o : Option Connection) → ((x : Connection) → o ≡ Some x → q x ≡ true) → filter q (option_to_list o) ≡ option_to_list o
filter_only q None h = refl
filter_only q (Some x) h = rw (h x refl) refl

pub no_rival : (who : Identity) (c : Connection) → rival who (Some c) ≡ None → same_device c.who.device who.device ≡ true
no_rival who c = elim (same_device c.who.device who.device) as (λ b. cond b None (Some c.number) ≡ None → b ≡ true) [ true ↦ λ h. refl | false ↦ λ h. cc ]

pub length_entries : (S : List Stamped) → length (entries S) ≡ length S
length_entries [] = refl
length_entries (s ∷ S) = ap suc (length_entries S)

pub aimed : (s : Bool) (w : Option End) (c : ℕ) (ks : List ℕ) → is_among c (cond (s || not (is_none w)) [] ks) ≡ true → (s ≡ false) × (w ≡ None) × (is_among c ks ≡ true)
aimed true w c ks h = cc
aimed false (Some k) c ks h = cc
aimed false None c ks h = (refl, refl, h)

pub joined-append : (E F : List Entry) → joined (E ++ F) ≡ joined E ++ joined F
unfolding joined_where
joined-append [] F = refl
joined-append (e ∷ E) F =
    let here = filter′ (λ (x : Connection). true) (option_to_list′ (connection_of e)) in
    ap (λ (l : List Connection). here ++ l) (joined-append E F) ∙ sym (append_assoc here (joined E) (joined F))

pub take_all : (G es : List Entry) → take (length G) (G ++ es) ≡ G
take_all [] es = refl
take_all (x ∷ G) es = ap (λ (l : List Entry). x ∷ l) (take_all G es)

pub due_none : (b : Bool) (x : Reply) → None ≡ cond b None (Some x) → b ≡ true
due_none true x e = refl
due_none false x e = cc

pub one_made : (P : Connection → Type 0) (caller : ℕ) (who : Identity) (r : Reply) (c : ℕ) (replaced : Option ℕ) → r ≡ Joined c replaced
    → P (record { number = c; caller = caller; who = who }) → AllByRecursion P (option_to_list (made_by caller (Connect who) r))
one_made P caller who r c replaced is p = subst (λ (x : Reply). AllByRecursion P (option_to_list (made_by caller (Connect who) x))) (sym is) (p, tt)

pub end_is : (d e : End) → Some d ≡ Some e → d ≡ e
end_is d e h = cc

pub among_any : (c : ℕ) (q : Connection → Bool) (xs : List Connection) → is_among c (numbers (filter q xs)) ≡ true → list_any (λ x. x.number == c) xs ≡ true
among_any c q [] h = h
among_any c q (x ∷ xs) h = by (q x) h (among_any c q xs)
  where
    by : (b : Bool) → is_among c (numbers (cond b (x ∷ filter q xs) (filter q xs))) ≡ true → (is_among c (numbers (filter q xs)) ≡ true → list_any (λ y. y.number == c) xs ≡ true)
        → list_any (λ y. y.number == c) (x ∷ xs) ≡ true
    by true g rec = elim (or_cases (x.number == c) (is_among c (numbers (filter q xs))) g) [
      | inl here ↦ or_left (x.number == c) (list_any (λ y. y.number == c) xs) here
      | inr later ↦ or_right
          (x.number == c) (list_any (λ y. y.number == c) xs) (rec later)
    ]
    by false g rec = or_right (x.number == c) (list_any (λ y. y.number == c) xs) (rec g)

pub any_filtered : (p q : Connection → Bool) (xs : List Connection) → list_any p (filter q xs) ≡ true → list_any p xs ≡ true
any_filtered p q [] h = h
any_filtered p q (x ∷ xs) h = by (q x) h (any_filtered p q xs)
  where
    by : (b : Bool) → list_any p (cond b (x ∷ filter q xs) (filter q xs)) ≡ true → (list_any p (filter q xs) ≡ true → list_any p xs ≡ true) → list_any p (x ∷ xs) ≡ true
    by true g rec = elim (or_cases (p x) (list_any p (filter q xs)) g) [ inl here ↦ or_left (p x) (list_any p xs) here | inr later ↦ or_right (p x) (list_any p xs) (rec later) ]
    by false g rec = or_right (p x) (list_any p xs) (rec g)

pub looks_live : (H : List Entry) (call : Call) (c : ℕ) → is_among c (looks_at H call) ≡ true → list_any (λ x. x.number == c) (live H) ≡ true
looks_live H (Forward sender m) c h =
    let xs = meant H sender m in
    let q = λ (x : Connection). not (is_too_long (out_of H sender m) x) in
    let by : (b : Bool) → is_among c (cond b [] (numbers (filter q xs))) ≡ true
    → is_among c (numbers (filter q xs)) ≡ true = λ b. elim b as (λ b. is_among c (cond b [] (numbers (filter q xs))) ≡ true
    → is_among c (numbers (filter q xs)) ≡ true) [ true ↦ λ g. cc | false ↦ λ g. g ] in
    any_filtered (λ x. x.number == c) (means m sender) (live H) (among_any c q xs (by _ h))
looks_live H (Connect who) c h = cc
looks_live H (Leave conn taken empties) c h = cc
looks_live H Stop c h = cc
looks_live H Count c h = cc

pub looks_told : (f : ℕ → ℕ) (looks : List Look) → AllByRecursion (λ (l : Look). l.taken ≡ f l.conn) looks
    → looks ≡ map (λ c. let k : Look = record { conn = c; taken = f c } in k) (map (λ (l : Look). l.conn) looks)
looks_told f [] h = refl
looks_told f (l ∷ ls) h =
    ap (λ (n : ℕ). (let k : Look = record { conn = l.conn; taken = n } in k) ∷ ls) h.0
    ∙ ap (λ (r : List Look). (let k : Look = record { conn = l.conn; taken = f l.conn } in k) ∷ r) (looks_told f ls h.1)
