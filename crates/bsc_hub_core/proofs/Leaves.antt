-- What a leave leaves of a core, and a stop and a count.
-- It serves the clauses of `count`, `leave` and `stop`.
use Rattle.std.proofs.Common.{◌≡◌, ◌≢◌, ◌≤◌, ℕ, ◌==◌, true, false, not, List, [], ◌∷◌, ◌++◌, length, filter, Some, None, Ok, is_some, refl, ap, sym, ◌∙◌, subst, arith, append-nil}
use Rattle.std.specs.List.{list_any}
use Rattle.std.proofs.lemmas.Bool.{both_ways, eq-eqb, eqb-true, false_from_ne_true, ne_eqb}
use Rattle.bsc_history.specs.declared.call.Call.TheVariants.{Leave}
use Rattle.bsc_history.specs.declared.connection.Connection.{Connection}
use Rattle.bsc_history.specs.declared.entry.Entry.{Entry}
use Rattle.bsc_history.specs.declared.mark.Stamped.{Stamped}
use Rattle.bsc_history.specs.declared.counts.Counts.{Counts}
use Rattle.bsc_history.specs.Counting.{counts}
use Rattle.bsc_history.specs.Entries.{connection_of, moment}
use Rattle.bsc_history.specs.Ends.{leaves, unleft}
use Rattle.bsc_history.specs.Legality.{is_of}
use Rattle.bsc_history.specs.Marks.{entries}
use Rattle.bsc_history.specs.Outboxes.{added, added_by, sent}
use Rattle.bsc_history.specs.Replies.{is_stopped, reply}
use Rattle.bsc_history.proofs.Common.{any_filtered}
use Rattle.bsc_history.proofs.Lists.{In-filter, any_gives}
use Rattle.bsc_history.proofs.More.{entries-more, looked-more, unleft-more, unleft-same}
use Rattle.bsc_ring.specs.Ends.{empties_of, given, outlet_mark}
use Rattle.bsc_desk.specs.declared.desk.Desk.{Desk}
use Rattle.bsc_desk.specs.declared.leaving.Gone.{Gone}
use Rattle.bsc_desk.specs.Entries.{count_entry, gone_reply, leave_entry, plain, stop_entry}
use Rattle.bsc_desk.specs.Live.{known_in}
use Rattle.bsc_desk.specs.Rows.{IsMarkOf, IsRowBy, known_of, row_of}
use Rattle.bsc_desk.specs.Standing.{DeskStands}
use Rattle.bsc_desk.proofs.Rowed.{is_mark_of, is_row_by}
use Rattle.bsc_hub_core.specs.declared.outbox.Outbox.{Outbox}
use Rattle.bsc_hub_core.specs.declared.hub_core.HubCore.{HubCore}
use Rattle.bsc_hub_core.specs.Calls.{CountsAs, LeavesAs, Plainly, StopsAs}
use Rattle.bsc_hub_core.specs.Standing.{CoreStands, IsOutbox, IsUnleft, outbox_at}
use Rattle.bsc_hub_core.proofs.Outboxes.{outbox_more}
use Rattle.bsc_hub_core.proofs.Worn.{not_worn}

-- An outbox is kept with an entry that looks nowhere and gives nobody a frame, and by which its connection doesn't leave.
untouched : (t : HubCore) (n : Desk) (S : List Stamped) (e : Entry) (c : ℕ) (p : Outbox) → n.about ≡ t.desk.about → known_of n c ≡ known_of t.desk c → IsOutbox t.desk S c p
    → leaves c e ≡ false → e.looks ≡ [] → added t.desk.about (moment (entries S) e) (sent t.desk.about (entries S) c) c ≡ [] → IsOutbox n (S ++ plain e ∷ []) c p
untouched t n S e c p about known h stays looks adds = outbox_more t.desk n S (plain e) c p p about h (record {
  stays = stays;
  behind = subst (λ k. k ≤ length (given p.outlet)) (sym (looked-more (entries S) e c ∙ rw looks refl)) h.outlet.behind;
  known = known ∙ h.known;
  same = (refl, refl, refl, refl);
  vmac = refl;
  tags = (let none = ap length adds in omega (arith, none));
})

-- ---- leaves

-- what the desk asks
pub may_leave : (t : HubCore) (H : List Entry) (caller c : ℕ) (p : Outbox) → CoreStands t H → is_of H caller c ≡ true → outbox_at t c ≡ Some p
    → IsRowBy t.desk caller c × IsMarkOf t.desk c (outlet_mark p.outlet)
may_leave t H caller c p s own at = (
  is_row_by t.desk s.marks caller c s.desk (subst (λ F. is_of F caller c ≡ true) (sym s.calls) own),
  is_mark_of t.desk s.marks c (outlet_mark p.outlet) s.desk (s.outboxes c p at).marked,
)

-- who hasn't left after a leave hadn't before, and isn't who left
unleft_before : (H : List Entry) (caller c empties : ℕ) (gone : Gone) (b : ℕ) → IsUnleft (H ++ leave_entry caller c empties gone ∷ []) b → IsUnleft H b × (b ≢ c)
unleft_before H caller c empties gone b un =
    let e = leave_entry caller c empties gone in
    let p = λ (y : Connection). y.number == b in
    let K = λ (y : Connection). not (c == y.number) in
    let among : list_any p (filter K (unleft H)) ≡ true = sym (ap (list_any p) (unleft-more H e ∙ append-nil (filter K (unleft H)))) ∙ un in
    let r = any_gives p (filter K (unleft H)) among in
    (any_filtered p K (unleft H) among, λ same. both_ways (not (c == r.0.number)) (ap not (eq-eqb c r.0.number (sym same ∙ sym (eqb-true r.0.number b r.2)))) (In-filter K r.0 (unleft H) r.1).1)

module _ (t u : HubCore) (H : List Entry) (caller c : ℕ) (p : Outbox) (gone : Gone) (s : CoreStands t H) where
  abbrev e : Entry
  e = leave_entry caller c (empties_of p.outlet) gone

  adds : (b : ℕ) → added t.desk.about (moment (entries s.marks) e) (sent t.desk.about (entries s.marks) b) b ≡ []
  unfolding added_by
  adds b = refl

  -- The connection has left.
  pub left_as : outbox_at t c ≡ Some p → u.about ≡ t.about → u.desk.about ≡ t.desk.about → DeskStands u.desk (s.marks ++ plain e ∷ [])
      → gone_reply gone ≡ reply t.desk.about (entries s.marks) (Leave c gone.taken (empties_of p.outlet)) [] → gone.taken ≡ length (given p.outlet)
      → ((b : ℕ) → b ≢ c → row_of u.desk b ≡ row_of t.desk b)
      → outbox_at u c ≡ None → ((b : ℕ) → b ≢ c → outbox_at u b ≡ outbox_at t b) → LeavesAs H caller c gone t u
  left_as at about own stands due taken rows now others = record {
    before = p;
    was = at;
    stands = record {
      marks = s.marks ++ plain e ∷ [];
      calls = entries-more s.marks (plain e) ∙ ap (λ G. G ++ e ∷ []) s.calls;
      own = own ∙ s.own ∙ sym about;
      desk = stands;
      outboxes = λ b q is. (
          let other : b ≢ c = λ same. (let bad : None ≡ Some q = sym now ∙ ap (outbox_at u) (sym same) ∙ is in cc) in
          untouched t u.desk s.marks e b q own (ap known_in (rows b other)) (s.outboxes b q (sym (others b other) ∙ is)) (ne_eqb c b (λ same. other (sym same))) refl (adds b));
      all = λ b un. (let r = unleft_before H caller c (empties_of p.outlet) gone b un in ap is_some (others b r.1) ∙ s.all b r.0);
    };
    about = about;
    taken = taken;
    due = due ∙ ap (λ a. reply a (entries s.marks) (Leave c gone.taken (empties_of p.outlet)) []) s.own ∙ ap (λ G. reply t.about G (Leave c gone.taken (empties_of p.outlet)) []) s.calls;
    now = now;
    others = others;
  }

-- ---- stops and counts

module _ (t u : HubCore) (H : List Entry) (s : CoreStands t H) (about : u.about ≡ t.about) (own : u.desk.about ≡ t.desk.about) (known : (b : ℕ) → known_of u.desk b ≡ known_of t.desk b)
    (same : (b : ℕ) → outbox_at u b ≡ outbox_at t b) where
  plainly : (e : Entry) → DeskStands u.desk (s.marks ++ plain e ∷ []) → ((b : ℕ) → leaves b e ≡ false) → connection_of e ≡ None → e.looks ≡ []
      → ((b : ℕ) → added t.desk.about (moment (entries s.marks) e) (sent t.desk.about (entries s.marks) b) b ≡ []) → Plainly H e t u
  plainly e stands stays none looks adds = record {
    stands = record {
      marks = s.marks ++ plain e ∷ [];
      calls = entries-more s.marks (plain e) ∙ ap (λ G. G ++ e ∷ []) s.calls;
      own = own ∙ s.own ∙ sym about;
      desk = stands;
      outboxes = λ b q is. untouched t u.desk s.marks e b q own (known b) (s.outboxes b q (sym (same b) ∙ is)) (stays b) looks (adds b);
      all = λ b un. ap is_some (same b) ∙ s.all b (sym (ap (list_any (λ (y : Connection). y.number == b)) (unleft-same H e none stays)) ∙ un);
    };
    about = about;
    same = same;
  }

  pub stopped_as : (caller : ℕ) (k : Counts) → k ≡ counts (entries s.marks) → (is_stopped (entries s.marks) ≡ true → ⊥)
      → DeskStands u.desk (s.marks ++ plain (stop_entry caller k) ∷ []) → StopsAs H caller (Ok k) t u
  unfolding added_by
  stopped_as caller k due goes_on stands = (
    ap is_stopped (sym s.calls) ∙ false_from_ne_true (is_stopped (entries s.marks)) goes_on,
    due ∙ ap counts s.calls,
    plainly (stop_entry caller k) stands (λ b. refl) refl refl (λ b. refl),
  )

  pub counted_as : (caller : ℕ) (k : Counts) → k ≡ counts (entries s.marks) → (t.desk.about.limits.calls ≤ length s.marks → ⊥)
      → DeskStands u.desk (s.marks ++ plain (count_entry caller k) ∷ []) → CountsAs H caller (Ok k) t u
  unfolding added_by
  counted_as caller k due fresh stands = (not_worn t H s fresh, due ∙ ap counts s.calls, plainly (count_entry caller k) stands (λ b. refl) refl refl (λ b. refl))
