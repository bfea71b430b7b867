-- A state that becomes another by a lawful entry stands for the history with that entry.
-- It serves the clauses of `entry` and `make`.
use Rattle.std.proofs.Common.{◌≡◌, ℕ, ◌+◌, ◌<◌, Bool, true, false, not, ◌||◌, cond, List, [], ◌∷◌, ◌++◌, length, map, filter, fold, Option, Some, None, option_to_list, nat_le}
use Rattle.std.proofs.Common.{refl, ap, sym, ◌∙◌, subst, arith, length-append}
use Rattle.std.specs.List.{list_any, AllByRecursion}
use Rattle.std.specs.Option.{option_or}
use Rattle.std.proofs.lemmas.List.{map-append}
use Rattle.bsc_history.specs.declared.limits.About.{About}
use Rattle.bsc_history.specs.declared.call.Call.{Call}
use Rattle.bsc_history.specs.declared.call.Call.TheVariants.{Connect, Forward, Leave, Stop, Count}
use Rattle.bsc_history.specs.declared.connection.Connection.{Connection}
use Rattle.bsc_history.specs.declared.counts.Counts.{Counts}
use Rattle.bsc_history.specs.declared.ending.End.{End}
use Rattle.bsc_history.specs.declared.entry.Entry.{Entry}
use Rattle.bsc_history.specs.declared.reply.Refusal.TheVariants.{Stopped as RefusedStopped, Duplicate, TableFull}
use Rattle.bsc_history.specs.declared.reply.Reply.{Reply}
use Rattle.bsc_history.specs.declared.reply.Reply.TheVariants.{Joined, Refused}
use Rattle.bsc_octets.specs.declared.identity.Identity.{Identity}
use Rattle.bsc_octets.specs.Addresses.{same_vmac}
use Rattle.bsc_history.specs.Holders.{holder, of_device}
use Rattle.bsc_history.specs.Counting.{counts, counts_of, one_if, plus}
use Rattle.bsc_history.specs.Entries.{connection_of, joins, made_by, moment, stops}
use Rattle.bsc_history.specs.Ends.{end_by, ended, joined, joined_where, leaves, unleft}
use Rattle.bsc_history.specs.Laws.{names}
use Rattle.bsc_history.specs.Legality.{Lawful, Legal}
use Rattle.bsc_history.specs.Outboxes.{added, added_by, looked, newer, out_of, sent}
use Rattle.bsc_history.specs.Replies.{connect_reply, is_stopped, reply, refused_as_held, rival, number_of}
use Rattle.bsc_history.proofs.Capacity.{within_capacity}
use Rattle.bsc_history.proofs.Fresh.{fresh_joins, fresh_sent}
use Rattle.bsc_history.proofs.Lists.{In, In_from_all, all_from_In}
use Rattle.bsc_history.proofs.More.{Legal-more, counts-more, ended-more, is_stopped-more, looked-more, sent-more, unleft-more}
use Rattle.bsc_history.proofs.Named.{adds_as_named}
use Rattle.bsc_history.proofs.Uniqueness.{comes, not_joined}
use Rattle.bsc_legality.specs.declared.row.Row.{Row}
use Rattle.bsc_legality.specs.declared.legality.Legality.{Legality}
use Rattle.bsc_legality.specs.Deciding.{accepts}
use Rattle.bsc_legality.specs.Following.{Becomes, new_row, row_after}
use Rattle.bsc_legality.specs.Rows.{connection}
use Rattle.bsc_legality.specs.Standing.{IsRowOf, LegalityStands}
use Rattle.bsc_legality.proofs.Decides.{accepts_lawful, stands_own}
use Rattle.bsc_history.proofs.Connections.{unleft_joined}
use Rattle.bsc_legality.proofs.Live.{In-map}
use Rattle.bsc_lemmas.proofs.Lists.{all_append}

-- a reply of a connect names nobody as appended to

held_names : (c : ℕ) (o : Option ℕ) (r : Reply) → names c r ≡ false → names c (refused_as_held o r) ≡ false
held_names c None r h = h
held_names c (Some k) r h = refl

connect_names : (a : About) (H : List Entry) (c : ℕ) (who : Identity) → names c (connect_reply a H who) ≡ false
unfolding connect_reply
connect_names a H c who =
    let joins_or = λ (b : Bool). cond b (Refused (TableFull a.limits.rows)) (Joined (1 + length (joined H)) (number_of (of_device H who.device))) in
    let last : (b : Bool) → names c (joins_or b) ≡ false = λ b. elim b as (λ b. names c (joins_or b) ≡ false) [ true ↦ refl | false ↦ refl ] in
    let held = held_names c (rival who (holder H who.vmac)) (joins_or (nat_le a.limits.rows (length (unleft H)))) (last (nat_le a.limits.rows (length (unleft H)))) in
    elim (is_stopped H) as (λ b. names c (cond b (Refused RefusedStopped) (cond (same_vmac who.vmac a.hub.vmac) (Refused (Duplicate None))
    (refused_as_held (rival who (holder H who.vmac)) (joins_or (nat_le a.limits.rows (length (unleft H))))))) ≡ false) [
      | true ↦ refl
      | false ↦ elim (same_vmac who.vmac a.hub.vmac) as (λ b. names c (cond b (Refused (Duplicate None))
          (refused_as_held (rival who (holder H who.vmac)) (joins_or (nat_le a.limits.rows (length (unleft H)))))) ≡ false) [ true ↦ refl | false ↦ held ]
    ]

-- a reply by which a connection joined names nobody as appended to
made_names : (c caller : ℕ) (call : Call) (r : Reply) (x : Connection) → made_by caller call r ≡ Some x → names c r ≡ false
made_names c caller (Connect who) (Joined k p) x h = refl
made_names c caller call r x h = cc

-- what an entry adds to an outbox is as many frames as its reply names the connection

one_long : (b : Bool) (o : List ℕ) → length (cond b (o ∷ []) []) ≡ one_if b
one_long true o = refl
one_long false o = refl

gains_as_named : (a : About) (H : List Entry) (e : Entry) (c : ℕ) → Legal a H → Lawful a (moment H e) → (call : Call) → e.call ≡ call
    → length (added a (moment H e) (sent a H c) c) ≡ one_if (names c e.reply)
unfolding added_by
gains_as_named a H e c legal lawful (Connect who) is =
    ap (λ (k : Call). length (added_by a H (sent a H c) c k e.looks)) is
    ∙ sym (ap (λ (r : Reply). one_if (names c r)) lawful.replied ∙ ap (λ (k : Call). one_if (names c (reply a H k e.looks))) is ∙ ap one_if (connect_names a H c who))
gains_as_named a H e c legal lawful (Forward sender m) is = ap length (adds_as_named a H legal e sender m c lawful is) ∙ one_long (names c e.reply) (out_of H sender m)
gains_as_named a H e c legal lawful (Leave conn taken empties) is =
    ap (λ (k : Call). length (added_by a H (sent a H c) c k e.looks)) is
    ∙ sym (ap (λ (r : Reply). one_if (names c r)) lawful.replied ∙ ap (λ (k : Call). one_if (names c (reply a H k e.looks))) is)
gains_as_named a H e c legal lawful Stop is =
    ap (λ (k : Call). length (added_by a H (sent a H c) c k e.looks)) is
    ∙ sym (ap (λ (r : Reply). one_if (names c r)) lawful.replied ∙ ap (λ (k : Call). one_if (names c (reply a H k e.looks))) is)
gains_as_named a H e c legal lawful Count is =
    ap (λ (k : Call). length (added_by a H (sent a H c) c k e.looks)) is
    ∙ sym (ap (λ (r : Reply). one_if (names c r)) lawful.replied ∙ ap (λ (k : Call). one_if (names c (reply a H k e.looks))) is)

-- rows

-- the row of a connection that joined before
row_more : (a : About) (H : List Entry) (e : Entry) (r : Row) → Legal a H → Lawful a (moment H e) → list_any (joins r.connection.number) H ≡ true → IsRowOf a H r
    → IsRowOf a (H ++ e ∷ []) (row_after e r)
row_more a H e r legal lawful came is =
    let c = r.connection.number in
    record {
      ends = ap (λ (w : Option End). option_or w (end_by c e)) is.ends ∙ sym (ended-more H e c ∙ ap (λ (b : Bool). option_or (ended H c) (cond b (end_by c e) None)) came);
      frames = ap (λ (n : ℕ). n + one_if (names c e.reply)) is.frames ∙ sym (ap length (sent-more a H e c) ∙ length-append (sent a H c) (added a (moment H e) (sent a H c) c)
          ∙ ap (λ (n : ℕ). length (sent a H c) + n) (gains_as_named a H e c legal lawful e.call refl));
      newest = ap (λ (n : ℕ). fold (newer c) n e.looks) is.newest ∙ sym (looked-more H e c);
    }

rows_more : (a : About) (H : List Entry) (e : Entry) (rows : List Row) → Legal a H → Lawful a (moment H e)
    → AllByRecursion (λ r. (list_any (joins r.connection.number) H ≡ true) × IsRowOf a H r) rows
    → AllByRecursion (IsRowOf a (H ++ e ∷ [])) (filter (λ r. not (leaves r.connection.number e)) (map (row_after e) rows))
rows_more a H e [] legal lawful all = tt
rows_more a H e (r ∷ rows) legal lawful all =
    let rest = rows_more a H e rows legal lawful all.1 in
    let F = filter (λ (r : Row). not (leaves r.connection.number e)) (map (row_after e) rows) in
    elim (not (leaves r.connection.number e)) as (λ b. AllByRecursion (IsRowOf a (H ++ e ∷ []))
    (cond b (row_after e r ∷ F) F)) [ true ↦ (row_more a H e r legal lawful all.0.0 all.0.1, rest) | false ↦ rest ]

-- the row of the connection that joins
new_so : (a : About) (H : List Entry) (e : Entry) (x : Connection) → Legal a H → Lawful a (moment H e) → connection_of e ≡ Some x → IsRowOf a (H ++ e ∷ []) (new_row x)
new_so a H e x legal lawful new =
    let c = x.number in
    let next = (comes a H e x lawful new).0 in
    let far : length (joined H) < c = omega arith in
    let fresh = fresh_joins a H c legal far in
    let quiet : length (sent a (H ++ e ∷ []) c) ≡ 0 = ap length (sent-more a H e c) ∙ length-append (sent a H c) (added a (moment H e) (sent a H c) c)
    ∙ ap (λ (n : ℕ). length (sent a H c) + n) (gains_as_named a H e c legal lawful e.call refl ∙ ap one_if (made_names c e.caller e.call e.reply x new))
    ∙ ap (λ (l : List (List ℕ)). length l + 0) (fresh_sent a H c legal far) in
    let ahead = (within_capacity a (H ++ e ∷ []) (Legal-more a H e legal lawful)).not_ahead c in
    let unlooked : looked (H ++ e ∷ []) c ≡ 0 = omega arith in
    record {
      ends = sym (ended-more H e c ∙ ap (λ (b : Bool). option_or (ended H c) (cond b (end_by c e) None)) fresh ∙ ap (λ (w : Option End). option_or w None) (not_joined H c fresh));
      frames = sym quiet;
      newest = sym unlooked;
    }

news : (a : About) (H : List Entry) (e : Entry) (o : Option Connection) → Legal a H → Lawful a (moment H e) → connection_of e ≡ o
    → AllByRecursion (IsRowOf a (H ++ e ∷ [])) (map new_row (option_to_list o))
news a H e None legal lawful is = tt
news a H e (Some x) legal lawful is = (new_so a H e x legal lawful is, tt)

-- connections

old_connections : (e : Entry) (rows : List Row) → map connection (filter (λ r. not (leaves r.connection.number e)) (map (row_after e) rows))
    ≡ filter (λ x. not (leaves x.number e)) (map connection rows)
old_connections e [] = refl
old_connections e (r ∷ rows) =
    let rest = old_connections e rows in
    let F = filter (λ (r : Row). not (leaves r.connection.number e)) (map (row_after e) rows) in
    let G = filter (λ (x : Connection). not (leaves x.number e)) (map connection rows) in
    elim (not (leaves r.connection.number e)) as (λ b. map connection (cond b (row_after e r ∷ F) F)
    ≡ cond b (r.connection ∷ G) G) [ true ↦ ap (λ (l : List Connection). r.connection ∷ l) rest | false ↦ rest ]

new_connections : (o : Option Connection) → map connection (map new_row (option_to_list o)) ≡ option_to_list o
new_connections None = refl
new_connections (Some x) = refl

-- ---- the theorem

-- the rows are of connections that joined
rows_joined : (l : Legality) (a : About) (H : List Entry) → LegalityStands l a H → AllByRecursion (λ r. (list_any (joins r.connection.number) H ≡ true) × IsRowOf a H r) l.rows.items
rows_joined l a H s = all_from_In (λ r. (list_any (joins r.connection.number) H ≡ true) × IsRowOf a H r) l.rows.items (λ r m. (
  (unleft_joined H (connection r) (subst (In (connection r)) s.unleft_rows (In-map r l.rows.items m))).1,
  In_from_all (IsRowOf a H) r l.rows.items s.each_row m,
))

pub advances : (l n : Legality) (a : About) (H : List Entry) (e : Entry) → LegalityStands l a H → Lawful a (moment H e) → Becomes e l n → LegalityStands n a (H ++ e ∷ [])
advances l n a H e s lawful by =
    let old = filter (λ (r : Row). not (leaves r.connection.number e)) (map (row_after e) l.rows.items) in
    let new = map new_row (option_to_list (connection_of e)) in
    let each = all_append (IsRowOf a (H ++ e ∷ [])) old new (rows_more a H e l.rows.items s.legal lawful (rows_joined l a H s)) (news a H e (connection_of e) s.legal lawful refl) in
    record {
      legal = Legal-more a H e s.legal lawful;
      about_so = by.about ∙ s.about_so;
      count = by.entry ∙ ap (λ (k : ℕ). k + 1) s.count ∙ sym (length-append H (e ∷ []));
      stopped_so = by.stop ∙ ap (λ (b : Bool). b || stops e) s.stopped_so ∙ sym (is_stopped-more H e);
      counted = by.count ∙ ap (λ (k : Counts). plus k (counts_of e)) s.counted ∙ sym (counts-more H e);
      unleft_rows = ap (map connection) by.rows ∙ map-append connection old new
          ∙ ap (λ (xs : List Connection). xs ++ map connection new) (old_connections e l.rows.items ∙ ap (filter (λ (x : Connection). not (leaves x.number e))) s.unleft_rows)
          ∙ ap (λ (xs : List Connection). filter (λ (x : Connection). not (leaves x.number e)) (unleft H) ++ xs) (new_connections (connection_of e)) ∙ sym (unleft-more H e);
      each_row = subst (λ (rows : List Row). AllByRecursion (IsRowOf a (H ++ e ∷ [])) rows) (sym by.rows) each;
    }

-- an entry that is accepted
pub follows : (l n : Legality) (a : About) (H : List Entry) (e : Entry) → LegalityStands l a H → accepts l e ≡ true → Becomes e l n → LegalityStands n a (H ++ e ∷ [])
follows l n a H e s agreed by = advances l n a H e s (subst (λ (b : About). Lawful b (moment H e)) s.about_so (accepts_lawful l H e (stands_own l a H s) agreed)) by

-- the state of no entries
pub stands_none : (l : Legality) (a : About) → l.about ≡ a → l.entries ≡ 0 → l.stopped ≡ false
    → l.counts ≡ record { joined = 0; replaced = 0; refused = 0; unicasts = 0; broadcasts = 0; appended = 0; dropped = 0; full = 0; missed = 0 } → l.rows.items ≡ [] → LegalityStands l a []
unfolding joined_where counts
stands_none l a about entries stop count rows = record {
  legal = record { lawful = tt };
  about_so = about;
  count = entries;
  stopped_so = stop;
  counted = count;
  unleft_rows = rw rows refl;
  each_row = rw rows tt;
}
