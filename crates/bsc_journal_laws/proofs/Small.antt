-- The entries of a legal history are small, where a hub has few rows.
-- It serves the clauses of `legal_has_lines`, `legal_is_small` and `run_audits`.
use Rattle.std.proofs.Common.{◌≡◌, ℕ, ◌+◌, ◌≤◌, Bool, true, false, not, ◌||◌, ◌&&◌, cond, nat_le, List, [], ◌∷◌, ◌++◌, filter, length, map, option_to_list, Option, Some, None}
use Rattle.std.proofs.Common.{is_none, refl, ap, sym, subst, arith, append_assoc, length-append}
use Rattle.std.specs.List.{AllByRecursion}
use Rattle.std.proofs.lemmas.Bool.{leb-false}
use Rattle.std.proofs.lemmas.List.{length-map}
use Rattle.bsc_octets.specs.declared.identity.Identity.{Identity}
use Rattle.bsc_octets.specs.Addresses.{same_vmac}
use Rattle.bsc_octets.specs.Forwarding.{destination, is_broadcast}
use Rattle.bsc_history.specs.declared.call.Call.{Call}
use Rattle.bsc_history.specs.declared.call.Call.TheVariants.{Connect, Count, Forward, Leave, Stop}
use Rattle.bsc_history.specs.declared.connection.Connection.{Connection}
use Rattle.bsc_history.specs.declared.entry.Entry.{Entry}
use Rattle.bsc_history.specs.declared.limits.About.{About}
use Rattle.bsc_history.specs.declared.looks.Look.{Look}
use Rattle.bsc_history.specs.declared.reply.Refusal.TheVariants.{Stopped as RefusedStopped, Duplicate, TableFull}
use Rattle.bsc_history.specs.declared.reply.Reply.{Reply}
use Rattle.bsc_history.specs.declared.reply.Reply.TheVariants.{Appended, Closed, Joined, Refused, Skipped, Stopped}
use Rattle.bsc_history.specs.Ends.{ended, joined, joined_where, leaves, live, unleft}
use Rattle.bsc_history.specs.Entries.{connection_of, made_by, moment}
use Rattle.bsc_history.specs.Holders.{holder, of_device}
use Rattle.bsc_history.specs.Legality.{Lawful, Legal, looks_at}
use Rattle.bsc_history.specs.Outboxes.{is_found_full, is_too_long, meant, out_of, sent}
use Rattle.bsc_history.specs.Replies.{broadcast_reply, connect_reply, forward_reply, is_stopped, number_of, numbers, refused_as_held, reply, rival, unicast_reply, unless_ended}
use Rattle.bsc_history.proofs.Connections.{live_unended}
use Rattle.bsc_history.proofs.More.{along, unleft-more}
use Rattle.bsc_history.proofs.Parts.{Legal-at, Legal-first}
use Rattle.bsc_lemmas.proofs.Lists.{filter_le}
use Rattle.bsc_journal_laws.specs.Lines.{IsSmall, frame_size, names_in}

-- ---- no more connections than rows

room_in : (s d : Bool) (r : Option ℕ) (full : Bool) (rows n : ℕ) (k : Option ℕ) (c : ℕ) (p : Option ℕ)
    → cond s (Refused RefusedStopped) (cond d (Refused (Duplicate None)) (refused_as_held r (cond full (Refused (TableFull rows)) (Joined n k)))) ≡ Joined c p → full ≡ false
room_in true d r full rows n k c p h = cc
room_in false true r full rows n k c p h = cc
room_in false false (Some x) full rows n k c p h = cc
room_in false false None true rows n k c p h = cc
room_in false false None false rows n k c p h = refl

room_joined : (a : About) (G : List Entry) (who : Identity) (c : ℕ) (p : Option ℕ) → connect_reply a G who ≡ Joined c p → nat_le a.limits.rows (length (unleft G)) ≡ false
unfolding connect_reply
room_joined a G who c p h = room_in (is_stopped G) (same_vmac who.vmac a.hub.vmac) (rival who (holder G who.vmac)) (nat_le a.limits.rows (length (unleft G))) a.limits.rows
    (1 + length (joined G)) (number_of (of_device G who.device)) c p h

room : (a : About) (G : List Entry) (caller : ℕ) (call : Call) (looks : List Look) (r : Reply) (x : Connection) → made_by caller call r ≡ Some x → r ≡ reply a G call looks
    → nat_le a.limits.rows (length (unleft G)) ≡ false
room a G caller (Connect who) looks (Joined c p) x made h = room_joined a G who c p (sym h)
room a G caller (Connect who) looks r x made h = cc
room a G caller (Forward c m) looks r x made h = cc
room a G caller (Leave c t n) looks r x made h = cc
room a G caller Stop looks r x made h = cc
room a G caller Count looks r x made h = cc

more_rows : (a : About) (G : List Entry) (e : Entry) (o : Option Connection) → connection_of e ≡ o → Lawful a (moment G e) → length (unleft G) ≤ a.limits.rows
    → length (filter (λ (x : Connection). not (leaves x.number e)) (unleft G) ++ option_to_list o) ≤ a.limits.rows
more_rows a G e None is lawful few =
    let long = length-append (filter (λ (x : Connection). not (leaves x.number e)) (unleft G)) (option_to_list None) in
    let less = filter_le (λ (x : Connection). not (leaves x.number e)) (unleft G) in
    omega (arith, long, less, few)
more_rows a G e (Some x) is lawful few =
    let long = length-append (filter (λ (y : Connection). not (leaves y.number e)) (unleft G)) (x ∷ []) in
    let less = filter_le (λ (y : Connection). not (leaves y.number e)) (unleft G) in
    let free = leb-false a.limits.rows (length (unleft G)) (room a G e.caller e.call e.looks e.reply x is lawful.replied) in
    omega (arith, long, less, free)

few_rows : (a : About) (H : List Entry) → Legal a H → length (unleft H) ≤ a.limits.rows
unfolding joined_where
few_rows a H legal = along a (λ G. length (unleft G) ≤ a.limits.rows) (omega arith) (λ G e legalG few lawful.
    subst (λ (l : List Connection). length l ≤ a.limits.rows) (sym (unleft-more G e)) (more_rows a G e (connection_of e) refl lawful few)) H legal

few_meant : (a : About) (G : List Entry) (sender : ℕ) (m : List ℕ) → Legal a G → length (meant G sender m) ≤ a.limits.rows
few_meant a G sender m legal =
    let rows = few_rows a G legal in
    let lives : length (live G) ≡ length (filter (λ (x : Connection). is_none (ended G x.number)) (unleft G)) = ap length (live_unended a G legal) in
    let fewer = filter_le (λ (x : Connection). is_none (ended G x.number)) (unleft G) in
    let least : length (meant G sender m) ≤ length (live G) = filter_le _ (live G) in
    omega (arith, rows, lives, fewer, least)

few_picked : (q : Connection → Bool) (xs : List Connection) → length (numbers (filter q xs)) ≤ length xs
few_picked q xs = (let long = length-map (filter q xs) (λ (c : Connection). c.number) in let less = filter_le q xs in omega (arith, long, less))

-- ---- looks

few_if : (b : Bool) (l : List ℕ) (n : ℕ) → length l ≤ n → length (cond b [] l) ≤ n
few_if true l n h = omega arith
few_if false l n h = h

few_looks : (a : About) (G : List Entry) (call : Call) → Legal a G → length (looks_at G call) ≤ a.limits.rows
few_looks a G (Forward sender m) legal =
    let xs = meant G sender m in
    let q = λ (c : Connection). not (is_too_long (out_of G sender m) c) in
    let few = few_meant a G sender m legal in
    let less = few_picked q xs in
    few_if (is_stopped G || not (is_none (ended G sender))) (numbers (filter q xs)) a.limits.rows (omega (arith, few, less))
few_looks a G (Connect who) legal = omega arith
few_looks a G (Leave c t n) legal = omega arith
few_looks a G Stop legal = omega arith
few_looks a G Count legal = omega arith

-- ---- the names in a reply

names_unicast : (a : About) (G : List Entry) (m o : List ℕ) (looks : List Look) (r : Option Connection) → names_in (unicast_reply a G m o looks r) ≡ 0
names_unicast a G m o looks None = refl
names_unicast a G m o looks (Some c) =
    elim (is_too_long o c) as (λ b. names_in (cond b (Skipped c.number) (cond (is_found_full a (sent a G c.number) looks c.number) (Closed c.number) (Appended c.number))) ≡ 0) [
      | true ↦ refl
      | false ↦ elim (is_found_full a (sent a G c.number) looks c.number) as (λ b. names_in (cond b (Closed c.number) (Appended c.number)) ≡ 0) [ true ↦ refl | false ↦ refl ]
    ]

names_broadcast : (a : About) (G : List Entry) (o : List ℕ) (looks : List Look) (xs : List Connection) → names_in (broadcast_reply a G o looks xs) ≤ length xs + length xs + length xs
names_broadcast a G o looks xs =
    let full = λ (c : Connection). is_found_full a (sent a G c.number) looks c.number in
    let one = few_picked (λ c. not (is_too_long o c) && not (full c)) xs in
    let two = few_picked (λ c. not (is_too_long o c) && full c) xs in
    let three = few_picked (λ c. is_too_long o c) xs in
    omega (arith, one, two, three)

names_forward : (a : About) (G : List Entry) (sender : ℕ) (m : List ℕ) (looks : List Look) → Legal a G → names_in (forward_reply a G sender m looks) ≤ a.limits.rows + a.limits.rows + a.limits.rows
unfolding forward_reply
names_forward a G sender m looks legal =
    let o = out_of G sender m in
    let n = a.limits.rows + a.limits.rows + a.limits.rows in
    let few = few_meant a G sender m legal in
    let all = names_broadcast a G o looks (meant G sender m) in
    let none = names_unicast a G m o looks (holder G (destination m)) in
    let body = cond (is_broadcast m) (broadcast_reply a G o looks (meant G sender m)) (unicast_reply a G m o looks (holder G (destination m))) in
    let sends : names_in body ≤ n = elim (is_broadcast m) as (λ b. names_in (cond b (broadcast_reply a G o looks (meant G sender m)) (unicast_reply a G m o looks (holder G (destination m))))
    ≤ n) [ true ↦ omega (arith, few, all) | false ↦ omega (arith, none) ] in
    let unended : names_in (unless_ended (ended G sender) body) ≤ n = elim (ended G sender) as (λ w. names_in (unless_ended w body) ≤ n) [ None ↦ sends | Some k ↦ omega arith ] in
    elim (is_stopped G) as (λ b. names_in (cond b Stopped (unless_ended (ended G sender) body)) ≤ n) [ true ↦ omega arith | false ↦ unended ]

connect_names : (s d : Bool) (r : Option ℕ) (full : Bool) (rows n : ℕ) (k : Option ℕ)
    → names_in (cond s (Refused RefusedStopped) (cond d (Refused (Duplicate None)) (refused_as_held r (cond full (Refused (TableFull rows)) (Joined n k))))) ≡ 0
connect_names true d r full rows n k = refl
connect_names false true r full rows n k = refl
connect_names false false (Some x) full rows n k = refl
connect_names false false None true rows n k = refl
connect_names false false None false rows n k = refl

names_connect : (a : About) (G : List Entry) (who : Identity) → names_in (connect_reply a G who) ≡ 0
unfolding connect_reply
names_connect a G who = connect_names (is_stopped G) (same_vmac who.vmac a.hub.vmac) (rival who (holder G who.vmac)) (nat_le a.limits.rows (length (unleft G))) a.limits.rows
    (1 + length (joined G)) (number_of (of_device G who.device))

pub few_names : (a : About) (G : List Entry) (call : Call) (looks : List Look) → Legal a G → names_in (reply a G call looks) ≤ a.limits.rows + a.limits.rows + a.limits.rows
few_names a G (Connect who) looks legal = (let none = names_connect a G who in omega (arith, none))
few_names a G (Forward sender m) looks legal = names_forward a G sender m looks legal
few_names a G (Leave c t n) looks legal = omega arith
few_names a G Stop looks legal = omega arith
few_names a G Count looks legal = omega arith

-- ---- all

small_entry : (a : About) (G : List Entry) (e : Entry) → Legal a G → Lawful a (moment G e) → a.limits.rows ≤ 1024 → frame_size e.call ≤ 65535 → IsSmall e
small_entry a G e legal lawful rows frame = record {
  frame = frame;
  looks = (
      let same : length (map (λ (k : Look). k.conn) e.looks) ≡ length (looks_at G e.call) = ap length lawful.named in
      let long = length-map e.looks (λ (k : Look). k.conn) in
      let few = few_looks a G e.call legal in
      omega (arith, same, long, few, rows));
  names = (
      let same : names_in e.reply ≡ names_in (reply a G e.call e.looks) = ap names_in lawful.replied in
      let few = few_names a G e.call e.looks legal in
      omega (arith, same, few, rows));
}

small_from : (a : About) (F H : List Entry) → Legal a (F ++ H) → a.limits.rows ≤ 1024 → AllByRecursion (λ (e : Entry). frame_size e.call ≤ 65535) H → AllByRecursion IsSmall H
small_from a F [] legal rows frames = tt
small_from a F (e ∷ H) legal rows frames = (
  small_entry a F e (Legal-first a F (e ∷ H) legal) (Legal-at a F H e legal) rows frames.0,
  small_from a (F ++ e ∷ []) H (subst (Legal a) (sym (append_assoc F (e ∷ []) H)) legal) rows frames.1,
)

pub legal_is_small : (a : About) (H : List Entry) → Legal a H → a.limits.rows ≤ 1024 → AllByRecursion (λ (e : Entry). frame_size e.call ≤ 65535) H → AllByRecursion IsSmall H
legal_is_small a H legal rows frames = small_from a [] H legal rows frames
