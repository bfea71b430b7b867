-- A state tells exactly which entries are lawful after the history that it stands for.
-- It serves clauses of functions of `breaching`, `laws` and `legality`.
use Rattle.std.proofs.Common.{◌≡◌, ◌↔◌, inl, inr, ℕ, ◌-◌, ◌==◌, Bool, true, false, not, ◌&&◌, ◌||◌, cond, nat_le, nat_lt, List, [], ◌∷◌, ◌++◌, length, map, filter, find, Option}
use Rattle.std.proofs.Common.{Some, None, is_none, unwrap_or, option_to_list, MatchOption, IsTrue, refl, ap, sym, ◌∙◌, subst}
use Rattle.std.specs.List.{list_any, list_all}
use Rattle.std.specs.Option.{option_map}
use Rattle.std.proofs.lemmas.Bool.{and_from, and_parts, both_ways, eq-eqb, eqb-true, or_left, or_right}
use Rattle.std.proofs.lemmas.List.{length-map}
use Rattle.bsc_octets.specs.declared.identity.Identity.{Identity}
use Rattle.bsc_octets.specs.Addresses.{broadcast, same_device, same_vmac, zero_vmac}
use Rattle.bsc_octets.specs.Forwarding.{destination, has_route, is_broadcast, out}
use Rattle.bsc_history.specs.declared.limits.About.{About}
use Rattle.bsc_history.specs.declared.call.Call.{Call}
use Rattle.bsc_history.specs.declared.call.Call.TheVariants.{Connect, Forward, Leave, Stop, Count}
use Rattle.bsc_history.specs.declared.connection.Connection.{Connection}
use Rattle.bsc_history.specs.declared.ending.End.{End}
use Rattle.bsc_history.specs.declared.ending.End.TheVariants.{Left}
use Rattle.bsc_history.specs.declared.entry.Entry.{Entry}
use Rattle.bsc_history.specs.declared.looks.Look.{Look}
use Rattle.bsc_history.specs.declared.reply.Reply.TheVariants.{Appended, Closed, Counted, Gone, SentAll, Skipped, Stopped}
use Rattle.bsc_history.specs.Entries.{moment}
use Rattle.bsc_history.specs.Ends.{ended, joined, live, unleft}
use Rattle.bsc_history.specs.Holders.{holder}
use Rattle.bsc_history.specs.Legality.{can_find, is_of, looks_at, may_call, Lawful, Legal}
use Rattle.bsc_history.specs.Outboxes.{finds_full, is_found_full, is_too_long, looked, meant, means, out_of, sent, vmac_in, vmac_of}
use Rattle.bsc_history.specs.Replies.{broadcast_reply, connect_reply, forward_reply, is_stopped, number_of, numbers, reply, rival, unicast_reply, unless_ended}
use Rattle.bsc_history.proofs.Lists.{Apart-filter, In, In_from_all, any_In, find_says, none_passes}
use Rattle.bsc_history.proofs.More.{Legal-front, Legal-more}
use Rattle.bsc_history.proofs.Named.{meant-unicast}
use Rattle.bsc_history.proofs.Numbers.{live_numbers}
use Rattle.bsc_legality.specs.declared.row.Row.{Row}
use Rattle.bsc_legality.specs.declared.legality.Legality.{Legality}
use Rattle.bsc_legality.specs.Deciding.{accepts, all_due, all_looked, can_all, connect_due, conns, due, fares_so, is_full_at, is_long_at, is_meant_with, is_of_in, looks_due}
use Rattle.bsc_legality.specs.Deciding.{may_call_in, one_due, one_looked, sent_due, sent_looked, size_in}
use Rattle.bsc_legality.specs.Rows.{can_find_at, connection, end_in, finds_full_at, has_number, holder_in, is_open_with, number, row_of}
use Rattle.bsc_legality.specs.Sameness.{same_numbers, same_reply}
use Rattle.bsc_legality.specs.Standing.{IsRowOf, LegalityStands}
use Rattle.bsc_legality.proofs.Fared.{filter_both, split}
use Rattle.bsc_history.proofs.Connections.{joined_counted, vmac_unleft}
use Rattle.bsc_legality.proofs.Live.{In-map, any_row, live_found, live_rows, meant_rows}
use Rattle.bsc_legality.proofs.Sameness.{numbers_same, numbers_self, reply_same, reply_self}

-- it stands for the history of the hub that it keeps
abbrev pub Stands : Legality → List Entry → Type 0
Stands l H = LegalityStands l l.about H

pub stands_own : (l : Legality) (a : About) (H : List Entry) → LegalityStands l a H → Stands l H
stands_own l a H s = subst (λ (b : About). LegalityStands l b H) (sym s.about_so) s

-- ---- rows

pub of_same : (l : Legality) (H : List Entry) (caller c : ℕ) → Stands l H → is_of_in l.rows.items caller c ≡ is_of H caller c
of_same l H caller c s =
    let p = λ (x : Connection). (x.number == c) && (x.caller == caller) in
    any_row p l.rows.items ∙ ap (list_any p) s.unleft_rows

-- the row of a connection
pub record Has (l : Legality) (H : List Entry) (c : ℕ) : Type 0 where
  pub row : Row
  pub finds : row_of l.rows.items c ≡ Some row
  pub among : In row l.rows.items
  pub number_so : row.connection.number ≡ c
  pub is : IsRowOf l.about H row

pub has : (l : Legality) (H : List Entry) (c : ℕ) → Stands l H → list_any (has_number c) l.rows.items ≡ true → Has l H c
has l H c s any =
    let rows = l.rows.items in
    let on : (o : Option Row) → row_of rows c ≡ o → MatchOption o ((x : Row) → In x rows → has_number c x ≡ false) (λ x. In x rows × (has_number c x ≡ true))
    → Has l H c = λ o. elim o as (λ o. row_of rows c ≡ o → MatchOption o ((x : Row) → In x rows → has_number c x ≡ false) (λ x. In x rows × (has_number c x ≡ true)) → Has l H c) [
      | None ↦ λ e no. absurd (both_ways (list_any (has_number c) rows) (none_passes (has_number c) rows no) any)
      | Some r ↦ λ e it. record { row = r; finds = e; among = it.0; number_so = eqb-true r.connection.number c it.1; is = In_from_all (IsRowOf l.about H) r rows s.each_row it.0 }
    ] in
    on (row_of rows c) refl (find_says (has_number c) rows)

weaker : (t u : Row → Bool) (rows : List Row) → ((r : Row) → t r ≡ true → u r ≡ true) → list_any t rows ≡ true → list_any u rows ≡ true
weaker t u [] f h = cc
weaker t u (r ∷ rows) f h =
    let by : (b : Bool) → t r ≡ b → (b || list_any t rows) ≡ true → (u r || list_any u rows) ≡ true = λ b. elim b as (λ b. t r ≡ b → (b || list_any t rows) ≡ true → (u r || list_any u rows) ≡ true) [
      | true ↦ λ e k. or_left (u r) (list_any u rows) (f r e)
      | false ↦ λ e k. or_right (u r) (list_any u rows) (weaker t u rows f k)
    ] in
    by (t r) refl h

pub has_of : (l : Legality) (H : List Entry) (caller c : ℕ) → Stands l H → is_of_in l.rows.items caller c ≡ true → Has l H c
has_of l H caller c s is = has l H c s (weaker (λ r. (r.connection.number == c) && (r.connection.caller == caller)) (has_number c) l.rows.items
    (λ r h. (and_parts (r.connection.number == c) (r.connection.caller == caller) h).0) is)

can_same : (l : Legality) (H : List Entry) (c taken : ℕ) → Has l H c → can_find_at (row_of l.rows.items c) taken ≡ can_find l.about H c taken
can_same l H c taken h =
    let r = h.row in
    ap (λ (o : Option Row). can_find_at o taken) h.finds
    ∙ ap (λ (n : ℕ). nat_le n taken && nat_le taken r.entered) (h.is.newest ∙ ap (looked H) h.number_so)
    ∙ ap (λ (n : ℕ). nat_le (looked H c) taken && nat_le taken n) (h.is.frames ∙ ap (λ (k : ℕ). length (sent l.about H k)) h.number_so)

-- whether a look at c that finds so many taken finds its outbox full
abbrev pub full_after : About → List Entry → ℕ → ℕ → Bool
full_after a H c taken = finds_full a (sent a H c) taken

full_same : (l : Legality) (H : List Entry) (c taken : ℕ) → Has l H c → finds_full_at l.about.limits.outbox (row_of l.rows.items c) taken ≡ full_after l.about H c taken
full_same l H c taken h =
    ap (λ (o : Option Row). finds_full_at l.about.limits.outbox o taken) h.finds
    ∙ ap (λ (n : ℕ). (n - taken) == l.about.limits.outbox) (h.is.frames ∙ ap (λ (k : ℕ). length (sent l.about H k)) h.number_so)

ends_same : (l : Legality) (H : List Entry) (c : ℕ) → Has l H c → end_in (row_of l.rows.items c) ≡ ended H c
ends_same l H c h = ap end_in h.finds ∙ h.is.ends ∙ ap (ended H) h.number_so

size_same : (l : Legality) (H : List Entry) (sender : ℕ) (m : List ℕ) → Stands l H → Has l H sender → size_in l.rows.items sender m ≡ length (out_of H sender m)
size_same l H sender m s h =
    let r = h.row in
    let member = subst (In (connection r)) s.unleft_rows (In-map r l.rows.items h.among) in
    ap (λ (o : Option Row). length (out m (vmac_in (option_map connection o)))) h.finds
    ∙ ap (λ v. length (out m v)) (sym (vmac_unleft l.about H (connection r) s.legal member) ∙ ap (vmac_of H) h.number_so)

-- ---- whether the caller may call

call_same : (l : Legality) (H : List Entry) (caller : ℕ) (call : Call) → Stands l H → may_call_in l caller call ≡ may_call l.about H caller call
call_same l H caller (Connect who) s = ap (λ (n : ℕ). not (same_vmac who.vmac zero_vmac) && not (same_vmac who.vmac broadcast) && nat_lt n l.about.limits.calls) s.count
call_same l H caller (Forward sender m) s =
    ap (λ (b : Bool). b && has_route m && nat_lt l.entries l.about.limits.calls) (of_same l H caller sender s)
    ∙ ap (λ (n : ℕ). is_of H caller sender && has_route m && nat_lt n l.about.limits.calls) s.count
call_same l H caller (Leave conn taken empties) s =
    let rows = l.rows.items in
    let by : (b : Bool) → is_of_in rows caller conn ≡ b → (b && can_find_at (row_of rows conn) taken) ≡ (b && can_find l.about H conn taken) =
    λ b. elim b as (λ b. is_of_in rows caller conn ≡ b → (b && can_find_at (row_of rows conn) taken) ≡ (b && can_find l.about H conn taken)) [
      | true ↦ λ e. can_same l H conn taken (has_of l H caller conn s e)
      | false ↦ λ e. refl
    ] in
    by (is_of_in rows caller conn) refl ∙ ap (λ (b : Bool). b && can_find l.about H conn taken) (of_same l H caller conn s)
call_same l H caller Stop s = ap not s.stopped_so
call_same l H caller Count s = ap (λ (n : ℕ). nat_lt n l.about.limits.calls) s.count

-- ---- connects

size : (rows : List Row) → length (map connection rows) ≡ length rows
size rows = simp length-map

connect_same : (l : Legality) (H : List Entry) (who : Identity) → Stands l H → connect_due l who ≡ connect_reply l.about H who
unfolding connect_reply
connect_same l H who s =
    let stop = s.stopped_so in
    let held = ap (rival who) (live_found l l.about H (λ (c : Connection). same_vmac c.who.vmac who.vmac) s) in
    let replaced = ap number_of (live_found l l.about H (λ (c : Connection). same_device c.who.device who.device) s) in
    let rows : length l.rows.items ≡ length (unleft H) = sym (size l.rows.items) ∙ ap length s.unleft_rows in
    let count : l.counts.joined ≡ length (joined H) = ap (λ k. k.joined) s.counted ∙ sym (joined_counted l.about H s.legal) in
    rw (stop, ← held, ← replaced, rows, count) refl

-- ---- unicasts

full_at_same : (a : About) (H : List Entry) (looks : List Look) (r : Row) → IsRowOf a H r
    → is_full_at a.limits.outbox looks r ≡ is_found_full a (sent a H r.connection.number) looks r.connection.number
full_at_same a H looks r is = ap (λ (n : ℕ). list_any (λ k. (k.conn == r.connection.number) && ((n - k.taken) == a.limits.outbox)) looks) is.frames

unicast_at : (a : About) (H : List Entry) (m o : List ℕ) (looks : List Look) (w : Option Row) → ((r : Row) → w ≡ Some r → IsRowOf a H r)
    → one_due a.limits.outbox (length o) looks w ≡ unicast_reply a H m o looks (option_map connection w)
unicast_at a H m o looks None is = refl
unicast_at a H m o looks (Some r) is =
    ap (λ (b : Bool). cond (is_too_long o (connection r)) (Skipped r.connection.number) (cond b (Closed r.connection.number) (Appended r.connection.number))) (full_at_same a H looks r (is r refl))

found_row : (l : Legality) (H : List Entry) (p : Row → Bool) (r : Row) → Stands l H → find p l.rows.items ≡ Some r → IsRowOf l.about H r
found_row l H p r s e =
    let rows = l.rows.items in
    let on : (o : Option Row) → o ≡ Some r → MatchOption o ((x : Row) → In x rows → p x ≡ false) (λ x. In x rows × (p x ≡ true))
    → IsRowOf l.about H r = λ o. elim o as (λ o. o ≡ Some r → MatchOption o ((x : Row) → In x rows → p x ≡ false) (λ x. In x rows × (p x ≡ true)) → IsRowOf l.about H r) [
      | None ↦ λ e no. cc
      | Some x ↦ λ e it. (let same : x ≡ r = cc in subst (IsRowOf l.about H) same (In_from_all (IsRowOf l.about H) x rows s.each_row it.0))
    ] in
    on (find p rows) e (find_says p rows)

unicast_same : (l : Legality) (H : List Entry) (m o : List ℕ) (looks : List Look) → Stands l H
    → one_due l.about.limits.outbox (length o) looks (holder_in l.rows.items (destination m)) ≡ unicast_reply l.about H m o looks (holder H (destination m))
unicast_same l H m o looks s =
    let p = λ (c : Connection). same_vmac c.who.vmac (destination m) in
    unicast_at l.about H m o looks (holder_in l.rows.items (destination m)) (λ r e. found_row l H (is_open_with p) r s e)
    ∙ ap (unicast_reply l.about H m o looks) (sym (live_found l l.about H p s))

one_at : (o : List ℕ) (w : Option Row) → one_looked (length o) w ≡ numbers (filter (λ c. not (is_too_long o c)) (option_to_list (option_map connection w)))
one_at o None = refl
one_at o (Some r) = elim (is_too_long o (connection r)) as (λ b. cond b [] (r.connection.number ∷ []) ≡ numbers (cond (not b) (connection r ∷ []) [])) [ true ↦ refl | false ↦ refl ]

one_looks : (l : Legality) (H : List Entry) (sender : ℕ) (m o : List ℕ) → Stands l H → is_broadcast m ≡ false
    → one_looked (length o) (holder_in l.rows.items (destination m)) ≡ numbers (filter (λ c. not (is_too_long o c)) (meant H sender m))
one_looks l H sender m o s one =
    let p = λ (c : Connection). same_vmac c.who.vmac (destination m) in
    let P = λ (c : Connection). not (is_too_long o c) in
    one_at o (holder_in l.rows.items (destination m))
    ∙ ap (λ (w : Option Connection). numbers (filter P (option_to_list w))) (sym (live_found l l.about H p s))
    ∙ ap (λ (xs : List Connection). numbers (filter P xs)) (sym (meant-unicast l.about H sender m s.legal one))

-- ---- broadcasts

-- whom a broadcast means
meant_all : (H : List Entry) (sender : ℕ) (m : List ℕ) → is_broadcast m ≡ true → meant H sender m ≡ filter (λ x. not (x.number == sender)) (live H)
meant_all H sender m all = ap (λ (b : Bool). filter (λ x. cond b (not (x.number == sender)) (same_vmac x.who.vmac (destination m))) (live H)) all

meant_same : (l : Legality) (H : List Entry) (sender : ℕ) (m : List ℕ) (P : Connection → Bool) (Q : Row → Bool) → Stands l H → is_broadcast m ≡ true → ((r : Row) → Q r ≡ P (connection r))
    → map number (filter (is_meant_with sender Q) l.rows.items) ≡ numbers (filter P (meant H sender m))
meant_same l H sender m P Q s all same =
    let M = λ (x : Connection). not (x.number == sender) in
    meant_rows M P Q l.rows.items same
    ∙ sym (ap (λ (xs : List Connection). numbers (filter P (filter M xs))) (live_rows l l.about H s))
    ∙ sym (ap (λ (xs : List Connection). numbers (filter P xs)) (meant_all H sender m all))

all_looks : (l : Legality) (H : List Entry) (sender : ℕ) (m o : List ℕ) → Stands l H → is_broadcast m ≡ true
    → all_looked sender (length o) l.rows.items ≡ numbers (filter (λ c. not (is_too_long o c)) (meant H sender m))
all_looks l H sender m o s all = meant_same l H sender m (λ c. not (is_too_long o c)) (λ r. not (is_long_at (length o) r)) s all (λ r. refl)

-- those whose outboxes the looks find full, or don't
fared_looks : (l : Legality) (H : List Entry) (f : Bool) (looks : List Look) → Stands l H → ((c : ℕ) → In c (conns looks) → list_any (has_number c) l.rows.items ≡ true)
    → filter (fares_so f l.about.limits.outbox l.rows.items) looks ≡ filter (λ k. cond f (full_after l.about H k.conn k.taken) (not (full_after l.about H k.conn k.taken))) looks
fared_looks l H f [] s named = refl
fared_looks l H f (k ∷ looks) s named =
    let G = λ (k : Look). cond f (full_after l.about H k.conn k.taken) (not (full_after l.about H k.conn k.taken)) in
    let F = filter (fares_so f l.about.limits.outbox l.rows.items) looks in
    ap (λ (b : Bool). cond (cond f b (not b)) (k ∷ F) F) (full_same l H k.conn k.taken (has l H k.conn s (named k.conn (inl refl))))
    ∙ ap (λ (ks : List Look). cond (G k) (k ∷ ks) ks) (fared_looks l H f looks s (λ c m. named c (inr m)))

any_number : (q : Row → Bool) (c : ℕ) (rows : List Row) → In c (map number (filter q rows)) → list_any (has_number c) rows ≡ true
any_number q c [] m = absurd m
any_number q c (r ∷ rows) m =
    let F = filter q rows in
    let G = λ (b : Bool). In c (map number (cond b (r ∷ F) F)) → (has_number c r || list_any (has_number c) rows) ≡ true in
    elim (q r) as G [
      | true ↦ λ m. elim m [
        | inl e ↦ or_left (has_number c r) (list_any (has_number c) rows) (eq-eqb r.connection.number c e)
        | inr k ↦ or_right (has_number c r) (list_any (has_number c) rows) (any_number q c rows k)
      ]
      | false ↦ λ m. or_right (has_number c r) (list_any (has_number c) rows) (any_number q c rows m)
    ] m

-- whether a connection of the history is found full, by some looks
abbrev full_of : About → List Entry → List Look → Connection → Bool
full_of a H looks c = is_found_full a (sent a H c.number) looks c.number

fared_same : (l : Legality) (H : List Entry) (sender : ℕ) (m o : List ℕ) (looks : List Look) (f : Bool) → Stands l H → is_broadcast m ≡ true
    → conns looks ≡ all_looked sender (length o) l.rows.items → conns (filter (fares_so f l.about.limits.outbox l.rows.items) looks)
    ≡ numbers (filter (λ c. not (is_too_long o c) && cond f (full_of l.about H looks c) (not (full_of l.about H looks c))) (meant H sender m))
fared_same l H sender m o looks f s all named =
    let P = λ (c : Connection). not (is_too_long o c) in
    let t = λ (b : Bool). cond f b (not b) in
    let xs = filter P (meant H sender m) in
    let apart = Apart-filter (λ (c : Connection). c.number) P (meant H sender m) (Apart-filter (λ (c : Connection). c.number) (means m sender) (live H) (live_numbers l.about H s.legal)) in
    ap conns (fared_looks l H f looks s (λ c n. any_number (is_meant_with sender (λ r. not (is_long_at (length o) r))) c l.rows.items (subst (In c) named n)))
    ∙ split (full_after l.about H) t looks xs apart (named ∙ all_looks l H sender m o s all)
    ∙ ap numbers (filter_both P (λ c. t (full_of l.about H looks c)) (meant H sender m))

broadcast_same : (l : Legality) (H : List Entry) (sender : ℕ) (m o : List ℕ) (looks : List Look) → Stands l H → is_broadcast m ≡ true
    → conns looks ≡ all_looked sender (length o) l.rows.items → all_due l.about.limits.outbox sender (length o) looks l.rows.items ≡ broadcast_reply l.about H o looks (meant H sender m)
broadcast_same l H sender m o looks s all named =
    let one = fared_same l H sender m o looks false s all named in
    let two = fared_same l H sender m o looks true s all named in
    let three = meant_same l H sender m (is_too_long o) (is_long_at (length o)) s all (λ r. refl) in
    λ i. SentAll (one i) (two i) (three i)

-- ---- forwards

-- what a frame is due whose sender goes on, where it looked at whom it is to look at
sends_same : (l : Legality) (H : List Entry) (sender : ℕ) (m o : List ℕ) (looks : List Look) → Stands l H → conns looks ≡ sent_looked l.rows.items sender m (length o)
    → sent_due l.about.limits.outbox l.rows.items sender m (length o) looks
    ≡ cond (is_broadcast m) (broadcast_reply l.about H o looks (meant H sender m)) (unicast_reply l.about H m o looks (holder H (destination m)))
sends_same l H sender m o looks s named =
    let rows = l.rows.items in
    let all = all_looked sender (length o) rows in
    let one = one_looked (length o) (holder_in rows (destination m)) in
    let G = λ (b : Bool). cond b (all_due l.about.limits.outbox sender (length o) looks rows) (one_due l.about.limits.outbox (length o) looks (holder_in rows (destination m)))
    ≡ cond b (broadcast_reply l.about H o looks (meant H sender m)) (unicast_reply l.about H m o looks (holder H (destination m))) in
    let by : (b : Bool) → is_broadcast m ≡ b → conns looks ≡ cond b all one → G b = λ b. elim b as (λ b. is_broadcast m ≡ b → conns looks ≡ cond b all one → G b) [
      | true ↦ λ e n. broadcast_same l H sender m o looks s e n
      | false ↦ λ e n. unicast_same l H m o looks s
    ] in
    by (is_broadcast m) refl named

forward_same : (l : Legality) (H : List Entry) (sender : ℕ) (m : List ℕ) (looks : List Look) → Stands l H → Has l H sender → conns looks ≡ looks_due l (Forward sender m)
    → due l (Forward sender m) looks ≡ forward_reply l.about H sender m looks
unfolding forward_reply
forward_same l H sender m looks s h named =
    let a = l.about in
    let rows = l.rows.items in
    let o = out_of H sender m in
    let n = size_in rows sender m in
    let long = size_same l H sender m s h in
    let body = sent_due a.limits.outbox rows sender m n looks in
    let wanted = cond (is_broadcast m) (broadcast_reply a H o looks (meant H sender m)) (unicast_reply a H m o looks (holder H (destination m))) in
    let sends : conns looks ≡ sent_looked rows sender m n → body ≡ wanted = λ k. ap (λ (i : ℕ). sent_due a.limits.outbox rows sender m i looks) long
    ∙ sends_same l H sender m o looks s (k ∙ ap (sent_looked rows sender m) long) in
    let current : (w : Option End) → conns looks ≡ cond (not (is_none w)) [] (sent_looked rows sender m n)
    → unless_ended w body ≡ unless_ended w wanted = λ w. elim w as (λ w. conns looks ≡ cond (not (is_none w)) [] (sent_looked rows sender m n)
    → unless_ended w body ≡ unless_ended w wanted) [ None ↦ λ k. sends k | Some x ↦ λ k. refl ] in
    let w = end_in (row_of rows sender) in
    let served : (b : Bool) → conns looks ≡ cond (b || not (is_none w)) [] (sent_looked rows sender m n)
    → cond b Stopped (unless_ended w body) ≡ cond b Stopped (unless_ended w wanted) =
    λ b. elim b as (λ b. conns looks ≡ cond (b || not (is_none w)) [] (sent_looked rows sender m n)
    → cond b Stopped (unless_ended w body) ≡ cond b Stopped (unless_ended w wanted)) [ true ↦ λ k. refl | false ↦ λ k. current w k ] in
    served l.stopped named
    ∙ ap (λ (b : Bool). cond b Stopped (unless_ended w wanted)) s.stopped_so
    ∙ ap (λ (v : Option End). cond (is_stopped H) Stopped (unless_ended v wanted)) (ends_same l H sender h)

-- the connection of a call has a row
abbrev pub Seated : Legality → List Entry → Call → Type 0
Seated l H (Forward sender m) = Has l H sender
Seated l H (Leave conn taken empties) = Has l H conn
Seated l H call = Unit {0}

pub seated : (l : Legality) (H : List Entry) (caller : ℕ) (call : Call) → Stands l H → may_call_in l caller call ≡ true → Seated l H call
seated l H caller (Connect who) s h = tt
seated l H caller (Forward sender m) s h =
    let one = and_parts (is_of_in l.rows.items caller sender && has_route m) (nat_lt l.entries l.about.limits.calls) h in
    has_of l H caller sender s (and_parts (is_of_in l.rows.items caller sender) (has_route m) one.0).0
seated l H caller (Leave conn taken empties) s h = has_of l H caller conn s (and_parts (is_of_in l.rows.items caller conn) (can_find_at (row_of l.rows.items conn) taken) h).0
seated l H caller Stop s h = tt
seated l H caller Count s h = tt

pub due_same : (l : Legality) (H : List Entry) (call : Call) (looks : List Look) → Stands l H → Seated l H call → conns looks ≡ looks_due l call → due l call looks ≡ reply l.about H call looks
due_same l H (Connect who) looks s h named = connect_same l H who s
due_same l H (Forward sender m) looks s h named = forward_same l H sender m looks s h named
due_same l H (Leave conn taken empties) looks s h named = ap (λ (w : Option End). Gone (unwrap_or w Left) taken) (ends_same l H conn h)
due_same l H Stop looks s h named = ap Counted s.counted
due_same l H Count looks s h named = ap Counted s.counted

sent_looks : (l : Legality) (H : List Entry) (sender : ℕ) (m o : List ℕ) → Stands l H → sent_looked l.rows.items sender m (length o) ≡ numbers (filter (λ c. not (is_too_long o c)) (meant H sender m))
sent_looks l H sender m o s =
    let wanted = numbers (filter (λ c. not (is_too_long o c)) (meant H sender m)) in
    let G = λ (b : Bool). cond b (all_looked sender (length o) l.rows.items) (one_looked (length o) (holder_in l.rows.items (destination m))) ≡ wanted in
    let by : (b : Bool) → is_broadcast m ≡ b → G b = λ b. elim b as (λ b. is_broadcast m ≡ b → G b) [ true ↦ λ e. all_looks l H sender m o s e | false ↦ λ e. one_looks l H sender m o s e ] in
    by (is_broadcast m) refl

pub looks_same : (l : Legality) (H : List Entry) (call : Call) → Stands l H → Seated l H call → looks_due l call ≡ looks_at H call
looks_same l H (Connect who) s h = refl
looks_same l H (Forward sender m) s h =
    let rows = l.rows.items in
    let unlooked = λ (b : Bool) (w : Option End) (k : List ℕ). cond (b || not (is_none w)) [] k in
    ap (λ (b : Bool). unlooked b (end_in (row_of rows sender)) (sent_looked rows sender m (size_in rows sender m))) s.stopped_so
    ∙ ap (λ (w : Option End). unlooked (is_stopped H) w (sent_looked rows sender m (size_in rows sender m))) (ends_same l H sender h)
    ∙ ap (λ (n : ℕ). unlooked (is_stopped H) (ended H sender) (sent_looked rows sender m n)) (size_same l H sender m s h)
    ∙ ap (unlooked (is_stopped H) (ended H sender)) (sent_looks l H sender m (out_of H sender m) s)
looks_same l H (Leave conn taken empties) s h = refl
looks_same l H Stop s h = refl
looks_same l H Count s h = refl

-- ---- what the looks find

one_number : (p : Row → Bool) (size c : ℕ) (rows : List Row) → In c (one_looked size (find p rows)) → list_any (has_number c) rows ≡ true
one_number p size c rows m =
    let on : (o : Option Row) → MatchOption o ((x : Row) → In x rows → p x ≡ false) (λ x. In x rows × (p x ≡ true)) → In c (one_looked size o)
    → list_any (has_number c) rows ≡ true = λ o. elim o as (λ o. MatchOption o ((x : Row) → In x rows → p x ≡ false) (λ x. In x rows × (p x ≡ true)) → In c (one_looked size o)
    → list_any (has_number c) rows ≡ true) [
      | None ↦ λ no k. absurd k
      | Some r ↦ λ it k. (
          let by : (b : Bool) → In c (cond b [] (r.connection.number ∷ [])) → list_any (has_number c) rows ≡ true =
          λ b. elim b as (λ b. In c (cond b [] (r.connection.number ∷ [])) → list_any (has_number c) rows ≡ true) [
            | true ↦ λ n. absurd n
            | false ↦ λ n. elim n [ inl e ↦ any_In (has_number c) r rows it.0 (eq-eqb r.connection.number c e) | inr z ↦ absurd z ]
          ] in
          by (is_long_at size r) k)
    ] in
    on (find p rows) (find_says p rows) m

pub due_rows : (l : Legality) (call : Call) (c : ℕ) → In c (looks_due l call) → list_any (has_number c) l.rows.items ≡ true
due_rows l (Connect who) c m = absurd m
due_rows l (Forward sender w) c m =
    let rows = l.rows.items in
    let n = size_in rows sender w in
    let all = all_looked sender n rows in
    let one = one_looked n (holder_in rows (destination w)) in
    let sends : (b : Bool) → In c (cond b all one) → list_any (has_number c) rows ≡ true = λ b. elim b as (λ b. In c (cond b all one) → list_any (has_number c) rows ≡ true) [
      | true ↦ λ m. any_number (is_meant_with sender (λ r. not (is_long_at n r))) c rows m
      | false ↦ λ m. one_number (is_open_with (λ x. same_vmac x.who.vmac (destination w))) n c rows m
    ] in
    let b = l.stopped || not (is_none (end_in (row_of rows sender))) in
    elim b as (λ b. In c (cond b [] (cond (is_broadcast w) all one)) → list_any (has_number c) rows ≡ true) [ true ↦ λ m. absurd m | false ↦ λ m. sends (is_broadcast w) m ] m
due_rows l (Leave conn taken empties) c m = absurd m
due_rows l Stop c m = absurd m
due_rows l Count c m = absurd m

found_all : (l : Legality) (H : List Entry) (looks : List Look) → Stands l H → ((c : ℕ) → In c (conns looks) → list_any (has_number c) l.rows.items ≡ true)
    → can_all l.rows.items looks ≡ list_all (λ k. can_find l.about H k.conn k.taken) looks
found_all l H [] s named = refl
found_all l H (k ∷ looks) s named =
    ap (λ (b : Bool). b && can_all l.rows.items looks) (can_same l H k.conn k.taken (has l H k.conn s (named k.conn (inl refl))))
    ∙ ap (λ (b : Bool). can_find l.about H k.conn k.taken && b) (found_all l H looks s (λ c m. named c (inr m)))

found_same : (l : Legality) (H : List Entry) (call : Call) (looks : List Look) → Stands l H → conns looks ≡ looks_due l call
    → can_all l.rows.items looks ≡ list_all (λ k. can_find l.about H k.conn k.taken) looks
found_same l H call looks s named = found_all l H looks s (λ c m. due_rows l call c (subst (In c) named m))

-- ---- the theorem

pub accepts_lawful : (l : Legality) (H : List Entry) (e : Entry) → Stands l H → accepts l e ≡ true → Lawful l.about (moment H e)
accepts_lawful l H e s h =
    let p = and_parts (may_call_in l e.caller e.call) _ h in
    let q = and_parts (same_numbers (conns e.looks) (looks_due l e.call)) _ p.1 in
    let r = and_parts (can_all l.rows.items e.looks) (same_reply e.reply (due l e.call e.looks)) q.1 in
    let sits = seated l H e.caller e.call s p.0 in
    let named = numbers_same (conns e.looks) (looks_due l e.call) q.0 in
    record {
      replied = reply_same e.reply (due l e.call e.looks) r.1 ∙ due_same l H e.call e.looks s sits named;
      named = named ∙ looks_same l H e.call s sits;
      found = sym (found_same l H e.call e.looks s named) ∙ r.0;
      called = sym (call_same l H e.caller e.call s) ∙ p.0;
    }

pub lawful_accepts : (l : Legality) (H : List Entry) (e : Entry) → Stands l H → Lawful l.about (moment H e) → accepts l e ≡ true
lawful_accepts l H e s lawful =
    let calls : may_call_in l e.caller e.call ≡ true = call_same l H e.caller e.call s ∙ lawful.called in
    let sits = seated l H e.caller e.call s calls in
    let named = lawful.named ∙ sym (looks_same l H e.call s sits) in
    let says = lawful.replied ∙ sym (due_same l H e.call e.looks s sits named) in
    let A = conns e.looks in
    let B = can_all l.rows.items e.looks in
    let C = same_reply e.reply (due l e.call e.looks) in
    and_from (may_call_in l e.caller e.call) (same_numbers A (looks_due l e.call) && (B && C)) calls
    (and_from (same_numbers A (looks_due l e.call)) (B && C) (ap (same_numbers A) (sym named) ∙ numbers_self A)
    (and_from B C (found_same l H e.call e.looks s named ∙ lawful.found)
    (ap (same_reply e.reply) (sym says) ∙ reply_self e.reply)))

-- ---- in terms of legal histories

own_decides : (l : Legality) (H : List Entry) (e : Entry) (b : Bool) → Stands l H → b ≡ accepts l e → IsTrue b ↔ Legal l.about (H ++ e ∷ [])
own_decides l H e b s is = (
  λ h. Legal-more l.about H e s.legal (accepts_lawful l H e s (sym is ∙ h)),
  λ legal. is ∙ lawful_accepts l H e s (Legal-front l.about H e legal).1,
)

pub decides : (l : Legality) (a : About) (H : List Entry) (e : Entry) (b : Bool) → LegalityStands l a H → b ≡ accepts l e → IsTrue b ↔ Legal a (H ++ e ∷ [])
decides l a H e b s is = subst (λ (x : About). IsTrue b ↔ Legal x (H ++ e ∷ [])) s.about_so (own_decides l H e b (stands_own l a H s) is)
