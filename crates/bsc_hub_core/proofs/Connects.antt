-- What a connect leaves of a core.
-- It serves the clauses of `connect`.
use Rattle.std.proofs.Common.{◌≡◌, ◌≢◌, ◌≤◌, ◌<◌, ◌⊎◌, inl, inr, ℕ, ◌==◌, nat_le, Bool, true, false, not, ◌||◌, cond, List, [], ◌∷◌, ◌++◌, length, filter, Option, Some, None}
use Rattle.std.proofs.Common.{is_some, refl, ap, sym, ◌∙◌, subst, arith, append-nil}
use Rattle.std.specs.List.{list_any}
use Rattle.std.proofs.lemmas.Bool.{both_ways, eqb-true, eq-eqb, false_from_ne_true, or_cases}
use Rattle.std.proofs.lemmas.List.Folds.{list_any-append}
use Rattle.bsc_octets.specs.declared.identity.Identity.{Identity}
use Rattle.bsc_history.specs.declared.limits.About.{About}
use Rattle.bsc_history.specs.declared.connection.Connection.{Connection}
use Rattle.bsc_history.specs.declared.entry.Entry.{Entry}
use Rattle.bsc_history.specs.declared.mark.Mark.{Mark}
use Rattle.bsc_history.specs.declared.mark.Stamped.{Stamped}
use Rattle.bsc_history.specs.declared.reply.Refusal.{Refusal}
use Rattle.bsc_history.specs.declared.reply.Reply.{Reply}
use Rattle.bsc_history.specs.declared.reply.Reply.TheVariants.{Joined as JoinedReply, Refused as RefusedReply}
use Rattle.bsc_history.specs.Entries.{joins, moment}
use Rattle.bsc_history.specs.Ends.{joined, leaves, unleft}
use Rattle.bsc_history.specs.Legality.{Lawful}
use Rattle.bsc_history.specs.Marks.{entries}
use Rattle.bsc_history.specs.Outboxes.{added_by, looked, sent, vmac_of}
use Rattle.bsc_history.specs.Replies.{connect_reply}
use Rattle.bsc_history.proofs.Common.{any_filtered}
use Rattle.bsc_history.proofs.Connections.{new_address}
use Rattle.bsc_history.proofs.Fresh.{fresh_joins, fresh_looked, fresh_sent}
use Rattle.bsc_history.proofs.Lists.{any_In, In-right}
use Rattle.bsc_history.proofs.More.{entries-more, looked-more, sent-more, unleft-more, unleft-same}
use Rattle.bsc_history.proofs.Uniqueness.{comes}
use Rattle.bsc_ring.specs.Ends.{IsNewOutlet, given, outlet_mark}
use Rattle.bsc_ring.proofs.Common.{nothing_found}
use Rattle.bsc_desk.specs.declared.desk.Desk.{Desk}
use Rattle.bsc_desk.specs.declared.row.Row.{Row}
use Rattle.bsc_desk.specs.Entries.{connect_due, connect_entry, connect_stamped}
use Rattle.bsc_desk.specs.Live.{connection, known_in}
use Rattle.bsc_desk.specs.Rows.{known_of}
use Rattle.bsc_desk.specs.Standing.{DeskStands}
use Rattle.bsc_desk.proofs.LiveRows.{any_row}
use Rattle.bsc_desk.proofs.Rowed.{joined_mark}
use Rattle.bsc_lemmas.proofs.Booleans.{eq_self}
use Rattle.bsc_lemmas.proofs.Lists.{none_of}
use Rattle.bsc_hub_core.specs.declared.outbox.Outbox.{Outbox}
use Rattle.bsc_hub_core.specs.declared.hub_core.HubCore.{HubCore}
use Rattle.bsc_hub_core.specs.Calls.{Enters, Joins}
use Rattle.bsc_hub_core.specs.Standing.{CoreStands, HasOutbox, IsOutbox, IsUnleft, outbox_at}
use Rattle.bsc_hub_core.proofs.Outboxes.{newest_lawful, outbox_more, unleft_joins}
use Rattle.std.proofs.lemmas.Option.{same_Some}

due_fresh : (b : Bool) (r q : Reply) → Some r ≡ cond b None (Some q) → (b ≡ false) × (q ≡ r)
due_fresh true r q e = cc
due_fresh false r q e = (refl, same_Some q r (sym e))

-- ---- a connect is quiet for all that had joined

adds_none : (a : About) (H : List Entry) (caller : ℕ) (who : Identity) (r : Reply) (c : ℕ) → added_by a H (sent a H c) c (connect_entry caller who r).call [] ≡ []
unfolding added_by
adds_none a H caller who r c = refl

quiet : (t : HubCore) (n : Desk) (S : List Stamped) (caller : ℕ) (who : Identity) (m : Mark) (r : Reply) (c : ℕ) (p : Outbox) → n.about ≡ t.desk.about
    → known_of n c ≡ known_of t.desk c → IsOutbox t.desk S c p → IsOutbox n (S ++ connect_stamped caller who m r ∷ []) c p
quiet t n S caller who m r c p about known h =
    let e = connect_entry caller who r in
    outbox_more t.desk n S (connect_stamped caller who m r) c p p about h (record {
      stays = refl;
      behind = subst (λ k. k ≤ length (given p.outlet)) (sym (looked-more (entries S) e c)) h.outlet.behind;
      known = known ∙ h.known;
      same = (refl, refl, refl, refl);
      vmac = refl;
      tags = (let none = ap length (adds_none t.desk.about (entries S) caller who r c) in omega (arith, none));
    })

module _ (t u : HubCore) (H : List Entry) (caller : ℕ) (who : Identity) (m : Mark) (s : CoreStands t H) (about : u.about ≡ t.about) (desk_about : u.desk.about ≡ t.desk.about)
    (known : (c : ℕ) → known_of u.desk c ≡ known_of t.desk c) where
  due_is : (r : Reply) → Some r ≡ connect_due t.desk.about (entries s.marks) who → (nat_le t.about.limits.calls (length H) ≡ false) × (connect_reply t.about H who ≡ r)
  due_is r due =
      let one : Some r ≡ connect_due t.about H who = due ∙ ap (λ a. connect_due a (entries s.marks) who) s.own ∙ ap (λ F. connect_due t.about F who) s.calls in
      due_fresh (nat_le t.about.limits.calls (length H)) r (connect_reply t.about H who) one

  -- Who asked was refused.
  pub refused_as : (r : Refusal) → Some (RefusedReply r) ≡ connect_due t.desk.about (entries s.marks) who
      → DeskStands u.desk (s.marks ++ connect_stamped caller who m (RefusedReply r) ∷ []) → ((b : ℕ) → outbox_at u b ≡ outbox_at t b)
      → (connect_reply t.about H who ≡ RefusedReply r) × Enters H (connect_entry caller who (RefusedReply r)) t u × ((b : ℕ) → outbox_at u b ≡ outbox_at t b)
  refused_as r due stands same =
      let e = connect_entry caller who (RefusedReply r) in
      let x = connect_stamped caller who m (RefusedReply r) in
      let d = due_is (RefusedReply r) due in (
        d.1,
        record {
          fresh = d.0;
          about = about;
          stands = record {
            marks = s.marks ++ x ∷ [];
            calls = entries-more s.marks x ∙ ap (λ F. F ++ e ∷ []) s.calls;
            own = desk_about ∙ s.own ∙ sym about;
            desk = stands;
            outboxes = λ c p at. quiet t u.desk s.marks caller who m (RefusedReply r) c p desk_about (known c) (s.outboxes c p (sym (same c) ∙ at));
            all = λ c un. ap is_some (same c) ∙ s.all c (sym (ap (list_any (λ (y : Connection). y.number == c)) (unleft-same H e refl (λ b. refl))) ∙ un);
          };
        },
        same,
      )

  module _ (c : ℕ) (replaced : Option ℕ) (stands : DeskStands u.desk (s.marks ++ connect_stamped caller who m (JoinedReply c replaced) ∷ []))
      (due : Some (JoinedReply c replaced) ≡ connect_due t.desk.about (entries s.marks) who) where
    abbrev e : Entry
    e = connect_entry caller who (JoinedReply c replaced)

    abbrev x : Stamped
    x = connect_stamped caller who m (JoinedReply c replaced)

    abbrev z : Connection
    z = record { number = c; caller = caller; who = who }

    abbrev F : List Entry
    F = entries s.marks

    lawful : Lawful t.desk.about (moment F e)
    lawful = newest_lawful t.desk u.desk s.marks x desk_about stands

    far : length (joined F) < c
    far = (let next = (comes t.desk.about F e z lawful refl).0 in omega arith)

    nobody : list_any (joins c) F ≡ false
    nobody = fresh_joins t.desk.about F c s.desk.legal far

    -- a desk knows nothing of a connection that nobody joined
    unknown : known_of t.desk c ≡ 0
    unknown =
        let p = λ (y : Connection). y.number == c in
        let any : list_any (λ (r : Row). p (connection r)) t.desk.rows.items ≡ list_any p (unleft F) = any_row p t.desk.rows.items ∙ ap (list_any p) s.desk.unleft_rows in
        ap known_in (none_of (λ (r : Row). r.connection.number == c) t.desk.rows.items
        (any ∙ false_from_ne_true (list_any p (unleft F)) (λ un. both_ways (list_any (joins c) F) nobody (unleft_joins F c un))))

    -- it had no outbox
    absent : outbox_at t c ≡ None
    absent = by (outbox_at t c) refl
      where
        by : (o : Option Outbox) → outbox_at t c ≡ o → o ≡ None
        by None at = refl
        by (Some p) at = absurd (both_ways (list_any (joins c) F) nobody (unleft_joins F c (s.outboxes c p at).unleft))

    more : entries (s.marks ++ x ∷ []) ≡ F ++ e ∷ []
    more = entries-more s.marks x

    sends : sent u.desk.about (entries (s.marks ++ x ∷ [])) c ≡ []
    unfolding added_by
    sends = ap (λ a. sent a (entries (s.marks ++ x ∷ [])) c) desk_about ∙ ap (λ G. sent t.desk.about G c) more ∙ sent-more t.desk.about F e c ∙ append-nil (sent t.desk.about F c)
        ∙ fresh_sent t.desk.about F c s.desk.legal far

    looks : looked (entries (s.marks ++ x ∷ [])) c ≡ 0
    looks = ap (λ G. looked G c) more ∙ looked-more F e c ∙ fresh_looked t.desk.about F c s.desk.legal far

    mine : IsUnleft (F ++ e ∷ []) c
    mine =
        let p = λ (y : Connection). y.number == c in
        let left = filter (λ (y : Connection). not (leaves y.number e)) (unleft F) in
        ap (list_any p) (unleft-more F e) ∙ any_In p z (left ++ z ∷ []) (In-right z left (z ∷ []) (inl refl)) (eq-eqb c c refl)

    new_outbox : (q : Outbox) → IsNewOutlet q.outlet → m ≡ outlet_mark q.outlet → q.vmac ≡ who.vmac → q.tags.items ≡ [] → IsOutbox u.desk (s.marks ++ x ∷ []) c q
    new_outbox q new mark vmac tags = record {
      unleft = ap (λ G. list_any (λ (y : Connection). y.number == c) (unleft G)) more ∙ mine;
      address = ap (λ G. vmac_of G c) more ∙ new_address F e z refl nobody ∙ sym vmac;
      marked = joined_mark u.desk s.marks caller who m c replaced stands ∙ ap Some mark;
      outlet = record {
        begins = ([], sends ∙ sym (append-nil (given q.outlet) ∙ new.0));
        behind = (let low = looks in omega arith);
        ends = λ k f. absurd (nothing_found q.outlet new k f);
      };
      known = known c ∙ unknown ∙ ap length (sym new.0);
      waits = (let none = ap length tags in let given = ap length new.0 in let entered = ap length sends in omega (arith, none, given, entered));
    }

    -- who hasn't left after the join hadn't left before, or is who joined
    unleft_before : (b : ℕ) → IsUnleft (H ++ e ∷ []) b → IsUnleft H b ⊎ (c ≡ b)
    unleft_before b un =
        let p = λ (y : Connection). y.number == b in
        let K = λ (y : Connection). not (leaves y.number e) in
        let split : (list_any p (filter K (unleft H)) || list_any p (z ∷ [])) ≡ true = sym (ap (list_any p) (unleft-more H e) ∙ list_any-append p (filter K (unleft H)) (z ∷ [])) ∙ un in
        elim (or_cases (list_any p (filter K (unleft H))) (list_any p (z ∷ [])) split) [
          | inl old ↦ inl (any_filtered p K (unleft H) old)
          | inr new ↦ elim (or_cases (c == b) false new) [ inl here ↦ inr (eqb-true c b here) | inr bad ↦ cc ]
        ]

    -- Who asked has joined.
    pub joined_as : (q : Outbox) → outbox_at u c ≡ Some q → ((b : ℕ) → b ≢ c → outbox_at u b ≡ outbox_at t b) → IsNewOutlet q.outlet → m ≡ outlet_mark q.outlet → q.vmac ≡ who.vmac
        → q.tags.items ≡ [] → (connect_reply t.about H who ≡ JoinedReply c replaced) × Joins H c e t u
    joined_as q now others new mark vmac tags = (
      (due_is (JoinedReply c replaced) due).1,
      record {
        enters = record {
          fresh = (due_is (JoinedReply c replaced) due).0;
          about = about;
          stands = record {
            marks = s.marks ++ x ∷ [];
            calls = more ∙ ap (λ G. G ++ e ∷ []) s.calls;
            own = desk_about ∙ s.own ∙ sym about;
            desk = stands;
            outboxes = λ b r at. each b r at (b == c) refl;
            all = λ b un. has b un (b == c) refl;
          };
        };
        absent = absent;
        after = q;
        now = now;
        others = others;
        taken = new.0;
        tags = tags;
        empties = new.1;
      },
    )
      where
        apart : (b : ℕ) → (b == c) ≡ false → b ≢ c
        apart b f same = both_ways (b == c) f (ap (λ n. n == c) same ∙ eq_self c)

        each : (b : ℕ) (r : Outbox) → outbox_at u b ≡ Some r → (f : Bool) → (b == c) ≡ f → IsOutbox u.desk (s.marks ++ x ∷ []) b r
        each b r at true f =
            let same = eqb-true b c f in
            let is : q ≡ r = same_Some q r (sym now ∙ ap (outbox_at u) (sym same) ∙ at) in
            subst (λ n. IsOutbox u.desk (s.marks ++ x ∷ []) n r) (sym same) (subst (IsOutbox u.desk (s.marks ++ x ∷ []) c) is (new_outbox q new mark vmac tags))
        each b r at false f = quiet t u.desk s.marks caller who m (JoinedReply c replaced) b r desk_about (known b) (s.outboxes b r (sym (others b (apart b f)) ∙ at))

        has : (b : ℕ) → IsUnleft (H ++ e ∷ []) b → (f : Bool) → (b == c) ≡ f → HasOutbox u b
        has b un true f = ap is_some (ap (outbox_at u) (eqb-true b c f) ∙ now)
        has b un false f = elim (unleft_before b un) [
          | inl old ↦ ap is_some (others b (apart b f)) ∙ s.all b old
          | inr same ↦ absurd (apart b f (sym same))
        ]
