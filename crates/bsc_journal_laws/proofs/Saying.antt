-- An entry of a legal history that can be said has a line.
-- It serves the clauses of `legal_has_lines` and `run_audits`.
use Rattle.std.proofs.Common.{◌≡◌, ℕ, ◌+◌, ◌*◌, ◌≤◌, ◌^◌, Bool, true, false, not, ◌&&◌, cond, nat_le, nat_lt, List, [], ◌∷◌, ◌++◌, length, map, option_to_list, Option, Some, None}
use Rattle.std.proofs.Common.{refl, ap, sym, ◌∙◌, subst, arith, append_assoc}
use Rattle.std.specs.List.{AllByRecursion}
use Rattle.std.proofs.lemmas.Bool.{and_from, and_parts, leb-true}
use Rattle.std.proofs.lemmas.List.{length_push}
use Rattle.bsc_octets.specs.declared.identity.Identity.{Identity}
use Rattle.bsc_octets.specs.Addresses.{same_device, same_vmac}
use Rattle.bsc_octets.specs.Envelopes.{announces_dest, announces_origin}
use Rattle.bsc_octets.specs.Forwarding.{destination, flags_in, has_route, is_broadcast}
use Rattle.bsc_history.specs.declared.call.Call.{Call}
use Rattle.bsc_history.specs.declared.call.Call.TheVariants.{Connect, Count, Forward, Leave, Stop}
use Rattle.bsc_history.specs.declared.connection.Connection.{Connection}
use Rattle.bsc_history.specs.declared.entry.Entry.{Entry}
use Rattle.bsc_history.specs.declared.limits.About.{About}
use Rattle.bsc_history.specs.declared.looks.Look.{Look}
use Rattle.bsc_history.specs.declared.reply.Refusal.TheVariants.{Stopped as RefusedStopped, Duplicate, TableFull}
use Rattle.bsc_history.specs.declared.reply.Reply.TheVariants.{Appended, Closed, Joined, Refused, Skipped, Stopped}
use Rattle.bsc_history.specs.Counting.{counts}
use Rattle.bsc_history.specs.Ends.{ended, joined, live, unleft}
use Rattle.bsc_history.specs.Entries.{moment}
use Rattle.bsc_history.specs.Holders.{holder, of_device}
use Rattle.bsc_history.specs.Legality.{Lawful, Legal, can_find, is_of, looks_at, may_call}
use Rattle.bsc_history.specs.Outboxes.{is_found_full, is_too_long, meant, out_of, sent}
use Rattle.bsc_history.specs.Replies.{broadcast_reply, connect_reply, forward_reply, is_stopped, number_of, refused_as_held, reply, rival, unicast_reply, unless_ended}
use Rattle.bsc_history.proofs.Lifting.{own_joined}
use Rattle.bsc_history.proofs.Lists.{In, find_says}
use Rattle.bsc_history.proofs.Parts.{Legal-at, Legal-first}
use Rattle.bsc_session.specs.Notes.Octets.{CallHasOctets}
use Rattle.bsc_journal.specs.Journals.{HaveLines}
use Rattle.bsc_journal.specs.Saying.{FitsCall, HasLine, HasOctets, ShowsLooks, are_short, call_is_short, is_short, reply_is_short}
use Rattle.bsc_journal_laws.specs.Lines.{CanBeSaid, empties_in}
use Rattle.bsc_journal_laws.proofs.Bounds.{IsBelow, counts_few, counts_short, few_joined, found_below, found_few, looks_below, looks_short, meant_below, number_below, number_short}
use Rattle.bsc_journal_laws.proofs.Bounds.{picked_short, rival_short}
use Rattle.bsc_journal_laws.proofs.Shorts.{short_63}

-- ---- looks are shown

no_looks : (looks : List Look) → map (λ (k : Look). k.conn) looks ≡ [] → looks ≡ []
no_looks [] h = refl
no_looks (k ∷ looks) h = cc

shows : (G : List Entry) (call : Call) (looks : List Look) → map (λ (k : Look). k.conn) looks ≡ looks_at G call → ShowsLooks call looks
shows G (Forward c m) looks h = tt
shows G (Connect who) looks h = no_looks looks h
shows G (Leave c t n) looks h = no_looks looks h
shows G Stop looks h = no_looks looks h
shows G Count looks h = no_looks looks h

-- ---- the reply is read by its call

fits_one : (who : Identity) (s d : Bool) (r : Option ℕ) (full : Bool) (rows n : ℕ) (k : Option ℕ)
    → FitsCall (Connect who) (cond s (Refused RefusedStopped) (cond d (Refused (Duplicate None)) (refused_as_held r (cond full (Refused (TableFull rows)) (Joined n k)))))
fits_one who true d r full rows n k = refl
fits_one who false true r full rows n k = tt
fits_one who false false (Some x) full rows n k = tt
fits_one who false false None true rows n k = tt
fits_one who false false None false rows n k = tt

fits_connect : (a : About) (G : List Entry) (who : Identity) → FitsCall (Connect who) (connect_reply a G who)
unfolding connect_reply
fits_connect a G who = fits_one who (is_stopped G) (same_vmac who.vmac a.hub.vmac) (rival who (holder G who.vmac)) (nat_le a.limits.rows (length (unleft G))) a.limits.rows
    (1 + length (joined G)) (number_of (of_device G who.device))

fits_unicast : (call : Call) (a : About) (G : List Entry) (m o : List ℕ) (looks : List Look) (r : Option Connection) → FitsCall call (unicast_reply a G m o looks r)
fits_unicast call a G m o looks None = tt
fits_unicast call a G m o looks (Some c) =
    elim (is_too_long o c) as (λ b. FitsCall call (cond b (Skipped c.number) (cond (is_found_full a (sent a G c.number) looks c.number) (Closed c.number) (Appended c.number)))) [
      | true ↦ tt
      | false ↦ elim (is_found_full a (sent a G c.number) looks c.number) as (λ b. FitsCall call (cond b (Closed c.number) (Appended c.number))) [ true ↦ tt | false ↦ tt ]
    ]

fits_forward : (a : About) (G : List Entry) (sender : ℕ) (m : List ℕ) (looks : List Look) → FitsCall (Forward sender m) (forward_reply a G sender m looks)
unfolding forward_reply
fits_forward a G sender m looks =
    let call = Forward sender m in
    let o = out_of G sender m in
    let body = cond (is_broadcast m) (broadcast_reply a G o looks (meant G sender m)) (unicast_reply a G m o looks (holder G (destination m))) in
    let sends : FitsCall call body = elim (is_broadcast m) as (λ b. FitsCall call
    (cond b (broadcast_reply a G o looks (meant G sender m)) (unicast_reply a G m o looks (holder G (destination m))))) [
      | true ↦ tt
      | false ↦ fits_unicast call a G m o looks
          (holder G (destination m))
    ] in
    let unended : FitsCall call (unless_ended (ended G sender) body) = elim (ended G sender) as (λ w. FitsCall call (unless_ended w body)) [ None ↦ sends | Some k ↦ tt ] in
    elim (is_stopped G) as (λ b. FitsCall call (cond b Stopped (unless_ended (ended G sender) body))) [ true ↦ refl | false ↦ unended ]

fits : (a : About) (G : List Entry) (call : Call) (looks : List Look) → FitsCall call (reply a G call looks)
fits a G (Connect who) looks = fits_connect a G who
fits a G (Forward sender m) looks = fits_forward a G sender m looks
fits a G (Leave c t n) looks = tt
fits a G Stop looks = tt
fits a G Count looks = tt

-- ---- the numbers of the call are short

call_short : (a : About) (G : List Entry) (caller : ℕ) (call : Call) → Legal a G → length G ≤ 2 ^ 63 → may_call a G caller call ≡ true → is_short (empties_in call) ≡ true → call_is_short call ≡ true
call_short a G caller (Connect who) legal few may empties = refl
call_short a G caller (Forward c m) legal few may empties =
    let p = and_parts (is_of G caller c && has_route m) (nat_lt (length G) a.limits.calls) may in
    let q = and_parts (is_of G caller c) (has_route m) p.0 in
    let below = number_below a G c legal (own_joined G caller c q.0) in
    short_63 c (omega (arith, below, few))
call_short a G caller (Leave c taken n) legal few may empties =
    let p = and_parts (is_of G caller c) (can_find a G c taken) may in
    let below = number_below a G c legal (own_joined G caller c p.0) in
    let found = found_few a G c taken p.1 in
    and_from (is_short c) (are_short (taken ∷ n ∷ [])) (short_63 c (omega (arith, below, few)))
    (and_from (is_short taken) (are_short (n ∷ [])) (short_63 taken (omega (arith, found, few)))
    (and_from (is_short n) true empties refl))
call_short a G caller Stop legal few may empties = refl
call_short a G caller Count legal few may empties = refl

-- ---- the numbers of the reply are short

connect_short : (s d : Bool) (r : Option ℕ) (full : Bool) (rows n : ℕ) (k : Option ℕ) → are_short (option_to_list r) ≡ true → is_short rows ≡ true → is_short n ≡ true
    → are_short (option_to_list k) ≡ true
    → reply_is_short (cond s (Refused RefusedStopped) (cond d (Refused (Duplicate None)) (refused_as_held r (cond full (Refused (TableFull rows)) (Joined n k))))) ≡ true
connect_short true d r full rows n k hr hrows hn hk = refl
connect_short false true r full rows n k hr hrows hn hk = refl
connect_short false false (Some x) full rows n k hr hrows hn hk = hr
connect_short false false None true rows n k hr hrows hn hk = hrows
connect_short false false None false rows n k hr hrows hn hk = and_from (is_short n) (are_short (option_to_list k)) hn hk

short_connect : (a : About) (G : List Entry) (who : Identity) → Legal a G → a.limits.rows ≤ 1024 → length G ≤ 2 ^ 28 → reply_is_short (connect_reply a G who) ≡ true
unfolding connect_reply
short_connect a G who legal rows few =
    let wide : length G ≤ 2 ^ 63 = omega (arith, few) in
    let held = found_below a G (λ (c : Connection). same_vmac c.who.vmac who.vmac) legal (holder G who.vmac) (find_says (λ (c : Connection). same_vmac c.who.vmac who.vmac) (live G)) in
    let same = found_below a G (λ (c : Connection). same_device c.who.device who.device) legal (of_device G who.device)
    (find_says (λ (c : Connection). same_device c.who.device who.device) (live G)) in
    let most = few_joined a G legal in
    connect_short (is_stopped G) (same_vmac who.vmac a.hub.vmac) (rival who (holder G who.vmac)) (nat_le a.limits.rows (length (unleft G))) a.limits.rows (1 + length (joined G))
    (number_of (of_device G who.device))
    (rival_short (length G) who (holder G who.vmac) wide held)
    (short_63 a.limits.rows (omega (arith, rows)))
    (short_63 (1 + length (joined G)) (omega (arith, most, few)))
    (number_short (length G) (of_device G who.device) wide same)

short_unicast : (a : About) (G : List Entry) (m o : List ℕ) (looks : List Look) (r : Option Connection) → length G ≤ 2 ^ 63 → IsBelow (length G) r
    → reply_is_short (unicast_reply a G m o looks r) ≡ true
short_unicast a G m o looks None few below = refl
short_unicast a G m o looks (Some c) few below =
    let k : c.number ≤ length G = below in
    let short : is_short c.number ≡ true = short_63 c.number (omega (arith, few, k)) in
    elim (is_too_long o c) as (λ b. reply_is_short (cond b (Skipped c.number) (cond (is_found_full a (sent a G c.number) looks c.number) (Closed c.number) (Appended c.number))) ≡ true) [
      | true ↦ short
      | false ↦ elim (is_found_full a (sent a G c.number) looks c.number) as (λ b. reply_is_short (cond b (Closed c.number) (Appended c.number)) ≡ true) [ true ↦ short | false ↦ short ]
    ]

short_broadcast : (a : About) (G : List Entry) (o : List ℕ) (looks : List Look) (xs : List Connection) → length G ≤ 2 ^ 63 → ((x : Connection) → In x xs → x.number ≤ length G)
    → reply_is_short (broadcast_reply a G o looks xs) ≡ true
short_broadcast a G o looks xs few below =
    let full = λ (c : Connection). is_found_full a (sent a G c.number) looks c.number in
    let to = picked_short (length G) (λ c. not (is_too_long o c) && not (full c)) xs few below in
    let missed = picked_short (length G) (λ c. not (is_too_long o c) && full c) xs few below in
    let skipped = picked_short (length G) (λ c. is_too_long o c) xs few below in
    and_from _ _ to (and_from _ _ missed skipped)

short_forward : (a : About) (G : List Entry) (sender : ℕ) (m : List ℕ) (looks : List Look) → Legal a G → length G ≤ 2 ^ 63 → reply_is_short (forward_reply a G sender m looks) ≡ true
unfolding forward_reply
short_forward a G sender m looks legal few =
    let o = out_of G sender m in
    let held = found_below a G (λ (c : Connection). same_vmac c.who.vmac (destination m)) legal (holder G (destination m))
    (find_says (λ (c : Connection). same_vmac c.who.vmac (destination m)) (live G)) in
    let all = short_broadcast a G o looks (meant G sender m) few (λ x there. meant_below a G sender m x legal there) in
    let one = short_unicast a G m o looks (holder G (destination m)) few held in
    let body = cond (is_broadcast m) (broadcast_reply a G o looks (meant G sender m)) (unicast_reply a G m o looks (holder G (destination m))) in
    let sends : reply_is_short body ≡ true = elim (is_broadcast m) as (λ b. reply_is_short
    (cond b (broadcast_reply a G o looks (meant G sender m)) (unicast_reply a G m o looks (holder G (destination m)))) ≡ true) [ true ↦ all | false ↦ one ] in
    let unended : reply_is_short (unless_ended (ended G sender) body) ≡ true = elim (ended G sender) as (λ w. reply_is_short (unless_ended w body) ≡ true) [ None ↦ sends | Some k ↦ refl ] in
    elim (is_stopped G) as (λ b. reply_is_short (cond b Stopped (unless_ended (ended G sender) body)) ≡ true) [ true ↦ refl | false ↦ unended ]

short_counts : (a : About) (G : List Entry) → Legal a G → a.limits.rows ≤ 1024 → length G ≤ 2 ^ 28 → reply_is_short (reply a G Stop []) ≡ true
short_counts a G legal rows few = counts_short (3073 * length G) (counts G) (omega (arith, few)) (counts_few a G legal rows)

reply_short : (a : About) (G : List Entry) (call : Call) (looks : List Look) → Legal a G → a.limits.rows ≤ 1024 → length G ≤ 2 ^ 28 → call_is_short call ≡ true
    → reply_is_short (reply a G call looks) ≡ true
reply_short a G (Connect who) looks legal rows few short = short_connect a G who legal rows few
reply_short a G (Forward sender m) looks legal rows few short = short_forward a G sender m looks legal (omega (arith, few))
reply_short a G (Leave c taken n) looks legal rows few short =
    let p = and_parts (is_short c) (are_short (taken ∷ n ∷ [])) short in
    (and_parts (is_short taken) (are_short (n ∷ [])) p.1).0
reply_short a G Stop looks legal rows few short = short_counts a G legal rows few
reply_short a G Count looks legal rows few short = short_counts a G legal rows few

-- ---- its octets are octets

has_octets : (a : About) (G : List Entry) (caller : ℕ) (call : Call) → may_call a G caller call ≡ true → CallHasOctets call → HasOctets call
has_octets a G caller (Connect who) may o = record { long = o.1; octets = o.0; said = o.2 }
has_octets a G caller (Forward c m) may o =
    let p = and_parts (is_of G caller c && has_route m) (nat_lt (length G) a.limits.calls) may in
    let q = and_parts (is_of G caller c) (has_route m) p.0 in
    let r = and_parts (nat_le 10 (length m) && announces_dest (flags_in m)) (not (announces_origin (flags_in m))) q.1 in
    let long = leb-true 10 (length m) (and_parts (nat_le 10 (length m)) (announces_dest (flags_in m)) r.0).0 in
    (o, omega (arith, long))
has_octets a G caller (Leave c taken n) may o = tt
has_octets a G caller Stop may o = tt
has_octets a G caller Count may o = tt

-- ---- all

has_line : (a : About) (G : List Entry) (place : ℕ) (e : Entry) → Legal a G → Lawful a (moment G e) → a.limits.rows ≤ 1024 → place ≡ length G → length G ≤ 2 ^ 28 → CanBeSaid e → HasLine place e
has_line a G place e legal lawful rows at few can =
    let wide : length G ≤ 2 ^ 63 = omega (arith, few) in
    let call = call_short a G e.caller e.call legal wide lawful.called can.empties in
    record {
      place_short = short_63 place (omega (arith, at, few));
      caller_short = can.caller;
      call_short = call;
      looks_short = looks_short a G e.looks wide (subst (AllByRecursion (λ (n : ℕ). n ≤ length G)) (sym lawful.named) (looks_below a G e.call legal)) lawful.found;
      reply_short = ap reply_is_short lawful.replied ∙ reply_short a G e.call e.looks legal rows few call;
      octets = has_octets a G e.caller e.call lawful.called can.octets;
      shown = shows G e.call e.looks lawful.named;
      fits = subst (FitsCall e.call) (sym lawful.replied) (fits a G e.call e.looks);
    }

lines_from_front : (a : About) (k : ℕ) (F H : List Entry) → Legal a (F ++ H) → a.limits.rows ≤ 1024 → k ≡ length F → length F + length H ≤ 2 ^ 28 → AllByRecursion CanBeSaid H → HaveLines k H
lines_from_front a k F [] legal rows at few can = tt
lines_from_front a k F (e ∷ H) legal rows at few can =
    let push = length_push F e in (
      has_line a F k e (Legal-first a F (e ∷ H) legal) (Legal-at a F H e legal) rows at (omega (arith, few)) can.0,
      lines_from_front a (k + 1) (F ++ e ∷ []) H (subst (Legal a) (sym (append_assoc F (e ∷ []) H)) legal) rows (omega (arith, push, at)) (omega (arith, push, few)) can.1,
    )

pub legal_has_lines : (a : About) (H : List Entry) → Legal a H → a.limits.rows ≤ 1024 → length H ≤ 2 ^ 28 → AllByRecursion CanBeSaid H → HaveLines 0 H
legal_has_lines a H legal rows few can = lines_from_front a 0 [] H legal rows refl (omega (arith, few)) can
