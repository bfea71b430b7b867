-- A message is carried on.
-- It serves the clauses of `empty_each` and `forward`.
use Rattle.std.proofs.Common.{◌≡◌, ℕ, Bool, true, false, cond, List, [], ◌∷◌, ◌++◌, map, filter, slice_get, Option, Some, None, is_none, refl, ap, sym, ◌∙◌, subst}
use Rattle.std.specs.Prelude.{nat_lt, ◌&&◌, not}
use Rattle.std.specs.List.{list_all}
use Rattle.std.proofs.lemmas.Bool.{and_from, and_parts}
use Rattle.bsc_octets.specs.Forwarding.{destination, is_broadcast}
use Rattle.bsc_history.specs.declared.limits.About.{About}
use Rattle.bsc_history.specs.declared.call.Call.TheVariants.{Forward}
use Rattle.bsc_history.specs.declared.connection.Connection.{Connection}
use Rattle.bsc_history.specs.declared.ending.End.{End}
use Rattle.bsc_history.specs.declared.entry.Entry.{Entry}
use Rattle.bsc_history.specs.declared.looks.Look.{Look}
use Rattle.bsc_history.specs.declared.reply.Reply.{Reply}
use Rattle.bsc_history.specs.declared.reply.Reply.TheVariants.{Appended, Closed, Skipped, Stopped}
use Rattle.bsc_history.specs.Ends.{ended, live, unleft}
use Rattle.bsc_history.specs.Entries.{moment}
use Rattle.bsc_history.specs.Holders.{holder}
use Rattle.bsc_history.specs.Legality.{is_of}
use Rattle.bsc_history.specs.Outboxes.{added, is_found_full, is_too_long, meant, means, out_of, sent}
use Rattle.bsc_history.specs.Replies.{broadcast_reply, forward_reply, is_stopped, numbers, unicast_reply, unless_ended}
use Rattle.bsc_history.proofs.Connections.{live_unended}
use Rattle.bsc_desk.specs.declared.row.Row.{Row}
use Rattle.bsc_desk.specs.Entries.{forward_entry}
use Rattle.bsc_desk.specs.Live.{connection}
use Rattle.bsc_desk.specs.Orders.{in_order}
use Rattle.bsc_desk.specs.Rising.{rises}
use Rattle.bsc_hub_core.specs.Calls.{Forwards, looks_of}
use Rattle.bsc_hub_core.specs.Standing.{CoreStands}
use Rattle.bsc_script.specs.declared.peer.Peer.{Peer as KeptPeer}
use Rattle.bsc_script.specs.declared.script_hub.ScriptHub.{ScriptHub}
use Rattle.bsc_script.specs.Written.{says, line_text}
use Rattle.bsc_lines.specs.Replies.{forward_words}
use Rattle.bsc_script.specs.States.{State, Peer}
use Rattle.bsc_script.specs.Calls.{called, entry_in, is_worn, reply_in}
use Rattle.bsc_script.specs.Carrying.{ScriptOutcome, quietly, writes}
use Rattle.bsc_script.specs.Receiving.{forwards_if, wears}
use Rattle.bsc_script.specs.Settled.{IsSettledBut, ascends}
use Rattle.bsc_script.specs.Touching.{touched}
use Rattle.bsc_script.specs.Holding.{CarriesOut, IsIndexed, IsJoinedIf, IsPeer, KeepsAt, ScriptStands, StandsAt, kept_in}
use Rattle.bsc_script.proofs.Carried.{quiet_carried}
use Rattle.bsc_script.proofs.Changes.{indexed, settled_at}
use Rattle.bsc_script.proofs.Entered.{Changes, KeepsElse, MakesEntry, changes_by, entered, exact_entry, lawful_at, legal_at, looks_are, makes_gains, stands_more, worn_is}
use Rattle.bsc_script.proofs.Pairs.{partner_of}

-- ---- in the order of joining

tests_mapped : (n : ℕ) (r : Row) (rows : List Row) → list_all (rises r) rows ≡ list_all (nat_lt r.connection.number) (numbers (map connection rows))
tests_mapped n r [] = refl
tests_mapped n r (x ∷ rows) = ap (λ (b : Bool). nat_lt r.connection.number x.connection.number && b) (tests_mapped n r rows)

rows_ascend : (rows : List Row) → in_order rises rows ≡ ascends (numbers (map connection rows))
rows_ascend [] = refl
rows_ascend (r ∷ rows) = ap (λ (b : Bool). b && in_order rises rows) (tests_mapped 0 r rows)
    ∙ ap (λ (b : Bool). list_all (nat_lt r.connection.number) (numbers (map connection rows)) && b) (rows_ascend rows)

-- The numbers of connections that haven't left ascend.
pub unleft_ascends : (t : ScriptHub) (s : State) → ScriptStands t s → ascends (numbers (unleft s.history)) ≡ true
unleft_ascends t s w = subst (λ H. ascends (numbers (unleft H)) ≡ true) w.core.calls
    (ap (λ (l : List Connection). ascends (numbers l)) (sym w.core.desk.unleft_rows) ∙ sym (rows_ascend t.core.desk.rows.items) ∙ t.core.desk.filed.rising)

below_kept : (n : ℕ) (q : Connection → Bool) (xs : List Connection) → list_all (nat_lt n) (numbers xs) ≡ true → list_all (nat_lt n) (numbers (filter q xs)) ≡ true
below_kept n q [] h = h
below_kept n q (x ∷ xs) h =
    let two = and_parts (nat_lt n x.number) (list_all (nat_lt n) (numbers xs)) h in
    let rest = below_kept n q xs two.1 in
    elim (q x) as (λ b. list_all (nat_lt n) (numbers (cond b (x ∷ filter q xs) (filter q xs))) ≡ true) [
      | true ↦ and_from (nat_lt n x.number) (list_all (nat_lt n) (numbers (filter q xs))) two.0 rest
      | false ↦ rest
    ]

ascends_kept : (q : Connection → Bool) (xs : List Connection) → ascends (numbers xs) ≡ true → ascends (numbers (filter q xs)) ≡ true
ascends_kept q [] h = h
ascends_kept q (x ∷ xs) h =
    let two = and_parts (list_all (nat_lt x.number) (numbers xs)) (ascends (numbers xs)) h in
    let rest = ascends_kept q xs two.1 in
    elim (q x) as (λ b. ascends (numbers (cond b (x ∷ filter q xs) (filter q xs))) ≡ true) [
      | true ↦ and_from (list_all (nat_lt x.number) (numbers (filter q xs))) (ascends (numbers (filter q xs))) (below_kept x.number q xs two.0) rest
      | false ↦ rest
    ]

live_ascends : (t : ScriptHub) (s : State) → ScriptStands t s → ascends (numbers (live s.history)) ≡ true
live_ascends t s w = ap (λ (l : List Connection). ascends (numbers l)) (live_unended s.about s.history (legal_at t s w))
    ∙ ascends_kept (λ (x : Connection). is_none (ended s.history x.number)) (unleft s.history) (unleft_ascends t s w)

one_ascends : (a : About) (H : List Entry) (m o : List ℕ) (looks : List Look) (x : Option Connection) → ascends (touched (unicast_reply a H m o looks x)) ≡ true
one_ascends a H m o looks None = refl
one_ascends a H m o looks (Some c) =
    elim (is_too_long o c) as (λ b. ascends (touched (cond b (Skipped c.number) (cond (is_found_full a (sent a H c.number) looks c.number) (Closed c.number) (Appended c.number)))) ≡ true) [
      | true ↦ refl
      | false ↦ elim (is_found_full a (sent a H c.number) looks c.number) as (λ f. ascends (touched (cond f (Closed c.number) (Appended c.number))) ≡ true) [ true ↦ refl | false ↦ refl ]
    ]

-- Those that a forward touches stand in the order of joining.
forward_ascends : (a : About) (H : List Entry) (sender : ℕ) (m : List ℕ) (looks : List Look) → ascends (numbers (live H)) ≡ true → ascends (touched (forward_reply a H sender m looks)) ≡ true
unfolding forward_reply
forward_ascends a H sender m looks h =
    let o = out_of H sender m in
    let body = λ (b : Bool). cond b (broadcast_reply a H o looks (meant H sender m)) (unicast_reply a H m o looks (holder H (destination m))) in
    let sends : (b : Bool) → ascends (touched (body b)) ≡ true = λ b. elim b as (λ b. ascends (touched (body b)) ≡ true) [
      | true ↦ ascends_kept (λ c. not (is_too_long o c) && not (is_found_full a (sent a H c.number) looks c.number)) (meant H sender m) (ascends_kept (means m sender) (live H) h)
      | false ↦ one_ascends a H m o looks (holder H (destination m))
    ] in
    let unended : (w : Option End) → ascends (touched (unless_ended w (body (is_broadcast m)))) ≡ true =
    λ w. elim w as (λ w. ascends (touched (unless_ended w (body (is_broadcast m)))) ≡ true) [ None ↦ sends (is_broadcast m) | Some k ↦ refl ] in
    elim (is_stopped H) as (λ b. ascends (touched (cond b Stopped (unless_ended (ended H sender) (body (is_broadcast m))))) ≡ true) [ true ↦ refl | false ↦ unended (ended H sender) ]

-- ---- a forward

-- The peer at a place has joined, or it hasn't, as it is kept there.
joined_at : (t : ScriptHub) (at : ℕ) (s : State) (k : Peer) (p : KeptPeer) (o : Option ℕ) → StandsAt t at [] s k → KeepsAt t at (λ q. p ≡ q) → p.joined ≡ o → IsJoinedIf t.core s.history k o
joined_at t at s k p o w kept is =
    let e = partner_of (IsPeer t.core s.history) s.peers (kept_in t) at k w.stands.peers w.here in
    subst (IsJoinedIf t.core s.history k) (ap (λ (q : KeptPeer). q.joined) (sym (kept e.0 e.1)) ∙ is) e.2.joined

-- Whoever has joined may send.
pub may_send : (t : ScriptHub) (at c : ℕ) (s : State) (k : Peer) (p : KeptPeer) → StandsAt t at [] s k → KeepsAt t at (λ q. p ≡ q) → p.joined ≡ Some c
    → (H : List Entry) × CoreStands t.core H × (is_of H 0 c ≡ true)
may_send t at c s k p w kept is = (s.history, w.stands.core, (joined_at t at s k p (Some c) w kept is).1.joiner)

-- Its message is carried on.
pub forwarded : (t u : ScriptHub) (at c : ℕ) (s : State) (k : Peer) (p : KeptPeer) (m : List ℕ) (r : Reply) (cs before after name : List ℕ) → StandsAt t at [] s k
    → IsSettledBut [] s.about s.history k → KeepsAt t at (λ q. p ≡ q) → p.joined ≡ Some c → KeepsElse t u → Forwards s.history 0 c 0 m r t.core u.core → cs ≡ touched r
    → ((ks : List Peer) (j : Peer) → IsIndexed u ks → slice_get ks at ≡ Some j → name ≡ j.name) → after ≡ before ++ line_text (says name (forward_words r))
    → CarriesOut u before after cs (forwards_if s k k.conn m)
forwarded t u at c s k p m r cs before after name w own kept is rest f same named wrote =
    let h = w.stands in
    let H = s.history in
    let looks = looks_of t.core H (Forward c m) in
    let e = forward_entry 0 c m looks r in
    let made : MakesEntry t u H e = makes_gains t u H e 0 (λ b. added t.core.about (moment H e) (sent t.core.about H b) b) rest f.enters.about f.enters.stands f.gains in
    let exact : e ≡ entry_in s (Forward c m) = exact_entry t u s e h made refl (looks_are t s (Forward c m) h) in
    let changes : Changes cs s.about H e = subst (λ (l : List ℕ). Changes l s.about H e) (sym same) (changes_by s.about H e (legal_at t s h) (lawful_at t u s e h made) refl (λ b. refl)) in
    let order : ascends cs ≡ true = ap ascends same ∙ ap (λ (q : Reply). ascends (touched q)) f.replied ∙ forward_ascends t.core.about H c m looks (live_ascends t s h) in
    let own_name : name ≡ k.name = named s.peers k (indexed u (record s { history = H ++ e ∷ [] }) (stands_more t u s e h made (λ b. refl) refl)) w.here in
    let line : after ≡ before ++ line_text (says k.name (forward_words (reply_in s (Forward c m)))) =
    wrote ∙ ap (λ (n : List ℕ). before ++ line_text (says n (forward_words r))) own_name ∙ ap (λ (y : Entry). before ++ line_text (says k.name (forward_words y.reply))) exact in
    let o : ScriptOutcome = writes (says k.name (forward_words (reply_in s (Forward c m)))) (quietly (called s (Forward c m))) in
    let done : CarriesOut u before after cs o = entered t u s e (Forward c m) cs before after (says k.name (forward_words (reply_in s (Forward c m)))) h made (λ b. refl) refl exact changes
    (settled_at t at [] s k w own) order line in
    let fresh : is_worn s ≡ false = worn_is t s false h f.enters.fresh in
    subst (λ (x : Option ℕ). CarriesOut u before after cs (forwards_if s k x m)) (sym (joined_at t at s k p (Some c) w kept is).0)
    (subst (λ (b : Bool). CarriesOut u before after cs (cond b (wears s k) o)) (sym fresh) done)

-- A forward that is worn closes its sender.
pub forward_worn : (t u : ScriptHub) (at c : ℕ) (s : State) (k : Peer) (p : KeptPeer) (m before after : List ℕ) → StandsAt t at [] s k → KeepsAt t at (λ q. p ≡ q)
    → p.joined ≡ Some c → is_worn s ≡ true → CarriesOut u before after [] (wears s k) → CarriesOut u before after [] (forwards_if s k k.conn m)
forward_worn t u at c s k p m before after w kept is worn h =
    let o : ScriptOutcome = writes (says k.name (forward_words (reply_in s (Forward c m)))) (quietly (called s (Forward c m))) in
    subst (λ (x : Option ℕ). CarriesOut u before after [] (forwards_if s k x m)) (sym (joined_at t at s k p (Some c) w kept is).0)
    (subst (λ (b : Bool). CarriesOut u before after [] (cond b (wears s k) o)) (sym worn) h)

-- Nothing is carried on of a peer that hasn't joined.
pub sends_none : (t : ScriptHub) (at : ℕ) (s : State) (k : Peer) (p : KeptPeer) (m before : List ℕ) → StandsAt t at [] s k → IsSettledBut [] s.about s.history k
    → KeepsAt t at (λ q. p ≡ q) → p.joined ≡ None → CarriesOut t before before [] (forwards_if s k k.conn m)
sends_none t at s k p m before w own kept is =
    subst (λ (o : Option ℕ). CarriesOut t before before [] (forwards_if s k o m)) (sym (joined_at t at s k p None w kept is).0) (quiet_carried t before [] s w.stands (settled_at t at [] s k w own))
