-- What a worker does from its receiver's connect to its receiver's leave.
-- It serves clauses of functions of `passes`, `storm`, `worker` and `workload`.
use Rattle.std.proofs.Common.{◌≡◌, ◌≤◌, ◌<◌, ◌+◌, inr, ℕ, List, [], ◌∷◌, ◌++◌, length, take, Result, Ok, Err, refl, ap, sym, ◌∙◌, arith, append-nil, length-append}
use Rattle.std.proofs.lemmas.List.{length-map, map-append}
use Rattle.std.proofs.lemmas.List.Elements.{Contains-push}
use Rattle.bsc_octets.specs.declared.identity.Identity.{Identity}
use Rattle.bsc_history.specs.declared.call.Call.{Call}
use Rattle.bsc_history.specs.declared.call.Call.TheVariants.{Connect, Leave}
use Rattle.bsc_history.specs.declared.connection.Connection.{Connection}
use Rattle.bsc_history.specs.declared.ending.End.{End}
use Rattle.bsc_history.specs.declared.entry.Entry.{Entry}
use Rattle.bsc_history.specs.declared.reply.Reply.TheVariants.{Joined as JoinedReply}
use Rattle.bsc_history.specs.declared.told.Told.{Told}
use Rattle.bsc_history.specs.Ends.{joined, joined_where}
use Rattle.bsc_history.specs.Marks.{entries}
use Rattle.bsc_history.specs.Outboxes.{sent}
use Rattle.bsc_history.specs.Replies.{numbers}
use Rattle.bsc_ring.specs.declared.ends.Outlet.{Outlet}
use Rattle.bsc_ring.specs.Ends.{FoundEnd, empties_of, given, outlet_mark}
use Rattle.bsc_turn.specs.declared.pass.Pass.{Pass}
use Rattle.bsc_turn.specs.Histories.{StartsWith}
use Rattle.bsc_turn.specs.Passes.{number_of, seen}
use Rattle.bsc_desk.specs.declared.leaving.Gone.{Gone}
use Rattle.bsc_desk.specs.Entries.{connect_stamped}
use Rattle.bsc_hub.specs.declared.hub.Hub.{Hub}
use Rattle.bsc_hub.specs.declared.joined.Joined.{Joined}
use Rattle.bsc_hub.specs.Calls.{connect_made, leave_made, leave_stamped}
use Rattle.bsc_hub.specs.Passing.{IsCaller, IsOwnAs, Passed, about_of}
use Rattle.bsc_hub.proofs.Owning.{owned_kept}
use Rattle.bsc_hub.proofs.Staying.{connect_stays, leave_stays}
use Rattle.bsc_load.specs.declared.bounds.TheConstants.{WORKERS}
use Rattle.bsc_load.specs.declared.jobs.Cut.{Cut}
use Rattle.bsc_load.specs.declared.jobs.Cut.TheVariants.{NoMemory, Short}
use Rattle.bsc_load.specs.Inner.{AfterBoth, KeepsOwn, LoadWasWorn, RanAll, ShowsBy, WorkerGoes}
use Rattle.bsc_load.specs.Peers.{receiver, sender}
use Rattle.bsc_load.specs.Workers.{calls, forwards}
use Rattle.bsc_load.proofs.Addresses.{connections_differ}
use Rattle.bsc_load.proofs.Calls.{first_forwards, length_forwards}
use Rattle.bsc_load.proofs.Emptying.{emptied_each}
use Rattle.bsc_load.proofs.Going.{goes_one, goes_then, holds_by}
use Rattle.bsc_history.proofs.Common.{joined-append}
use Rattle.bsc_hub.proofs.Guarding.{longer}

-- The entry of a connect that joined, and that of a leave.
abbrev pub join_entry : Pass → Identity → Joined → Entry
join_entry p who j = (connect_stamped (number_of p) who (outlet_mark j.outlet) (JoinedReply j.conn j.replaced)).entry

abbrev pub leave_entry : Pass → ℕ → Outlet → Told Gone → Entry
leave_entry p c o told = (leave_stamped (number_of p) c (empties_of o) told.said).entry

-- entries between a connect and a leave: the calls of all of them
pub calls_between : (E : List Entry) (e l : Entry) → calls (e ∷ E ++ l ∷ []) ≡ e.call ∷ calls E ++ l.call ∷ []
calls_between E e l = ap (λ (x : List Call). e.call ∷ x) (map-append (λ (x : Entry). x.call) E (l ∷ []))

-- and who joined
pub joined_between : (E : List Entry) (p q : Pass) (who : Identity) (j : Joined) (c : ℕ) (o : Outlet) (told : Told Gone)
    → joined (join_entry p who j ∷ E ++ leave_entry q c o told ∷ []) ≡ record { number = j.conn; caller = number_of p; who = who } ∷ joined E
unfolding joined_where
joined_between E p q who j c o told =
    let x : Connection = record { number = j.conn; caller = number_of p; who = who } in
    ap (λ (l : List Connection). x ∷ l) (joined-append E (leave_entry q c o told ∷ []) ∙ append-nil (joined E))

-- how many they are
pub length_between : (E : List Entry) (e l : Entry) → length (e ∷ E ++ l ∷ []) ≡ length E + 2
length_between E e l = (let k : length (E ++ l ∷ []) ≡ length E + 1 = length-append E (l ∷ []) in omega arith)

-- the pass went on
pub goes_between : (h : Hub) (p m n q : Pass) (E : List Entry) (who : Identity) (j : Joined) (c : ℕ) (o : Outlet) (told : Told Gone) → Passed h p [] (connect_made (number_of p) who (Ok j)) m
    → WorkerGoes h m E n → Passed h n [] (leave_made (number_of n) c (empties_of o) told) q →
    WorkerGoes h p (join_entry p who j ∷ E ++ leave_entry n c o told ∷ []) q
goes_between h p m n q E who j c o told came went left =
    goes_then h p n q (join_entry p who j ∷ E) (leave_entry n c o told ∷ []) (goes_then h p m n (join_entry p who j ∷ []) E (goes_one h p m _ came) went) (goes_one h n q _ left)

-- how many forwards were made
few_made : (i s n : ℕ) (E : List Entry) → calls E ≡ forwards i s n → length E ≡ n
few_made i s n E are = sym (length-map E (λ (e : Entry). e.call)) ∙ ap (λ (l : List Call). length l) are ∙ length_forwards i s n

-- those that were cut short show it
cut_shows : (h : Hub) (n q : Pass) (k : ℕ) (E : List Entry) (e l : Entry) (cut : Cut) → k < 1000 → length E ≡ k → length (entries (seen n)) ≤ length (entries (seen q)) → LoadWasWorn h n cut
    → ShowsBy 1002 h (seen q) (e ∷ E ++ l ∷ []) cut
cut_shows h n q k E e l NoMemory few many later worn = tt
cut_shows h n q k E e l Short few many later worn = inr (omega (arith, length_between E e l, few, many), omega (arith, later, worn))

-- what was the sender's stays its own when the receiver leaves
pub owns_between : (h : Hub) (i s : ℕ) (n q : Pass) (c : ℕ) (o : Outlet) (told : Told Gone) → i < WORKERS → IsCaller h n → IsOwnAs n s (sender i).vmac → IsOwnAs n c (receiver i).vmac
    → Passed h n [] (leave_made (number_of n) c (empties_of o) told) q → IsOwnAs q s (sender i).vmac
owns_between h i s n q c o told small is mine its left =
    owned_kept h n q [] (leave_made (number_of n) c (empties_of o) told) s (sender i).vmac is left (leave_stays (number_of n) c (empties_of o) told s (connections_differ n i s c small mine its)) mine

pub after_both : (h : Hub) (i s : ℕ) (p m n q : Pass) (j : Joined) (o : Outlet) (told : Told Gone) (result : Result ℕ Cut) →
    i < WORKERS → IsCaller h p → IsOwnAs p s (sender i).vmac →
    Passed h p [] (connect_made (number_of p) (receiver i) (Ok j)) m → IsOwnAs m j.conn (receiver i).vmac →
    RanAll h i s m n o result →
    Passed h n [] (leave_made (number_of n) j.conn (empties_of o) told) q →
    told.said.taken ≡ length (given o) → given o ≡ take told.said.taken (sent (about_of h) (entries (seen q)) j.conn) →
    ((e : End) → FoundEnd o e → told.said.ending ≡ e) →
    AfterBoth h i s p q result
after_both h i s p m n q j o told (Ok octets) small is mine came its ran left many gave ends =
    let f = ran.0 in
    let E = f.made in
    let mid : IsOwnAs m s (sender i).vmac = holds_by h p m (connect_made (number_of p) (receiver i) (Ok j)) is came (connect_stays (number_of p) (receiver i) (Ok j)) s (sender i).vmac mine in
    record {
      conn = j.conn;
      taken = told.said.taken;
      empties = empties_of o;
      frames = given o;
      made = join_entry p (receiver i) j ∷ E ++ leave_entry n j.conn o told ∷ [];
      calls = calls_between E (join_entry p (receiver i) j) (leave_entry n j.conn o told)
          ∙ ap (λ (l : List Call). Connect (receiver i) ∷ l ++ Leave j.conn told.said.taken (empties_of o) ∷ []) f.calls;
      joined = ap numbers (joined_between E p n (receiver i) j j.conn o told) ∙ ap (λ (l : List Connection). j.conn ∷ numbers l) f.quiet;
      goes = goes_between h p m n q E (receiver i) j j.conn o told came f.goes left;
      owns = owns_between h i s n q j.conn o told small f.goes.caller (f.holds s (sender i).vmac mid) (f.holds j.conn (receiver i).vmac its) left;
      many = sym many;
      first = gave ∙ ap (λ k. take k (sent (about_of h) (entries (seen q)) j.conn)) many;
      counted = ran.1;
      emptied = emptied_each (join_entry p (receiver i) j ∷ E ++ leave_entry n j.conn o told ∷ []) 1000 j.conn o told.said (leave_entry n j.conn o told) ran.2 ends
          (Contains-push (join_entry p (receiver i) j ∷ E) (leave_entry n j.conn o told)) refl refl;
    }
after_both h i s p m n q j o told (Err cut) small is mine came its ran left many gave ends =
    let f = ran.2 in
    let E = f.made in
    let mid : IsOwnAs m s (sender i).vmac = holds_by h p m (connect_made (number_of p) (receiver i) (Ok j)) is came (connect_stays (number_of p) (receiver i) (Ok j)) s (sender i).vmac mine in
    record {
      who = j.conn ∷ [];
      more = ran.0;
      taken = told.said.taken;
      empties = empties_of o;
      made = join_entry p (receiver i) j ∷ E ++ leave_entry n j.conn o told ∷ [];
      calls = calls_between E (join_entry p (receiver i) j) (leave_entry n j.conn o told)
          ∙ ap (λ (l : List Call). Connect (receiver i) ∷ l ++ Leave j.conn told.said.taken (empties_of o) ∷ []) (f.calls ∙ first_forwards i s ran.0 (omega (arith, ran.1)));
      joined = ap numbers (joined_between E p n (receiver i) j j.conn o told) ∙ ap (λ (l : List Connection). j.conn ∷ numbers l) f.quiet;
      goes = goes_between h p m n q E (receiver i) j j.conn o told came f.goes left;
      owns = owns_between h i s n q j.conn o told small f.goes.caller (f.holds s (sender i).vmac mid) (f.holds j.conn (receiver i).vmac its) left;
      shows = cut_shows h n q ran.0 E (join_entry p (receiver i) j) (leave_entry n j.conn o told) cut ran.1 (few_made i s ran.0 E f.calls) (longer (seen n) (seen q) left.grows) ran.3;
      emptied =
          let least : ran.0 ≤ 1000 = omega (arith, ran.1) in (
            least,
            emptied_each (join_entry p (receiver i) j ∷ E ++ leave_entry n j.conn o told ∷ []) ran.0 j.conn o told.said (leave_entry n j.conn o told) ran.4 ends
                (Contains-push (join_entry p (receiver i) j ∷ E) (leave_entry n j.conn o told)) refl refl,
          );
    }

-- the pass after the forwards, whatever they came to
pub forwards_went : (h : Hub) (i s : ℕ) (m n : Pass) (o : Outlet) (result : Result ℕ Cut) → RanAll h i s m n o result → IsCaller h n × StartsWith (seen n) (seen m) × KeepsOwn m n
forwards_went h i s m n o (Ok octets) ran = (ran.0.goes.caller, ran.0.goes.sees, ran.0.holds)
forwards_went h i s m n o (Err cut) ran = (ran.2.goes.caller, ran.2.goes.sees, ran.2.holds)

-- and after the receiver has left
pub both_went : (h : Hub) (i s : ℕ) (p q : Pass) (result : Result ℕ Cut) → AfterBoth h i s p q result → IsCaller h q × StartsWith (seen q) (seen p) × IsOwnAs q s (sender i).vmac
both_went h i s p q (Ok octets) b = (b.goes.caller, b.goes.sees, b.owns)
both_went h i s p q (Err cut) b = (b.goes.caller, b.goes.sees, b.owns)
