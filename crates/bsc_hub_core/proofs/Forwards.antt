-- What a forward leaves of a core.
-- It serves the clauses of `forward`, `leave` and `meet_at`.
use Rattle.std.proofs.Common.{◌≡◌, ◌≢◌, ◌≤◌, inl, inr, ℕ, ◌+◌, ◌==◌, Bool, true, false, ◌||◌, ◌&&◌, cond, List, [], ◌∷◌, ◌++◌, length, map, Option, Some, None, is_some, refl, ap}
use Rattle.std.proofs.Common.{sym, ◌∙◌, subst, arith, length-append, append-nil, nat_le}
use Rattle.std.specs.List.{list_any, AllByRecursion}
use Rattle.std.proofs.lemmas.Bool.{and_parts, both_ways, eq-eqb, eqb-true, ne_eqb, or_cases, or_left, or_right}
use Rattle.std.proofs.lemmas.List.{length-map}
use Rattle.std.proofs.lemmas.Option.{same_Some}
use Rattle.bsc_octets.specs.declared.vmac.Vmac.{Vmac}
use Rattle.bsc_history.specs.declared.call.Call.TheVariants.{Forward}
use Rattle.bsc_history.specs.declared.connection.Connection.{Connection}
use Rattle.bsc_history.specs.declared.entry.Entry.{Entry}
use Rattle.bsc_history.specs.declared.looks.Look.{Look}
use Rattle.bsc_history.specs.declared.mark.Stamped.{Stamped}
use Rattle.bsc_history.specs.declared.reply.Reply.{Reply}
use Rattle.bsc_history.specs.Entries.{moment}
use Rattle.bsc_history.specs.Ends.{is_leave, unleft}
use Rattle.bsc_history.specs.Laws.{Apart, is_among, names}
use Rattle.bsc_history.specs.Legality.{Lawful, is_of, looks_at}
use Rattle.bsc_history.specs.Marks.{entries}
use Rattle.bsc_history.specs.Outboxes.{added, looked, out_of, sent}
use Rattle.bsc_history.specs.Replies.{forward_reply}
use Rattle.bsc_history.proofs.Common.{looks_told}
use Rattle.bsc_history.proofs.Lists.{In, In_from_all, all_from_In}
use Rattle.bsc_history.proofs.Marks.{mark_grows}
use Rattle.bsc_history.proofs.More.{entries-more, unleft-same}
use Rattle.bsc_history.proofs.Named.{adds_as_named}
use Rattle.bsc_ring.specs.Ends.{empties_of, found, given, outlet_mark}
use Rattle.bsc_desk.specs.declared.desk.Desk.{Desk}
use Rattle.bsc_desk.specs.declared.forwarding.OneReply.{OneReply}
use Rattle.bsc_desk.specs.declared.forwarding.OneReply.TheVariants.{Appended, Closed, Skipped, NoHolder, NotCurrent, Stopped}
use Rattle.bsc_desk.specs.declared.broadcasting.AllReply.{AllReply}
use Rattle.bsc_desk.specs.declared.broadcasting.AllReply.TheVariants.{Sent, NotCurrent as AllNotCurrent, Stopped as AllStopped}
use Rattle.bsc_desk.specs.Entries.{all_reply, forward_entry, one_reply, plain}
use Rattle.bsc_desk.specs.Knowing.{Learns}
use Rattle.bsc_desk.specs.Live.{known_in}
use Rattle.bsc_desk.specs.Rows.{HasRow, IsMarkOf, IsRowOf, known_of}
use Rattle.bsc_desk.specs.Standing.{DeskStands}
use Rattle.bsc_desk.proofs.Rowed.{is_row_of}
use Rattle.bsc_lemmas.proofs.Booleans.{eq_self, or_false}
use Rattle.bsc_lemmas.proofs.Options.{found_some}
use Rattle.bsc_hub_core.specs.declared.outbox.Outbox.{Outbox}
use Rattle.bsc_hub_core.specs.declared.hub_core.HubCore.{HubCore}
use Rattle.bsc_hub_core.specs.Calls.{Forwards, GainsIf, looks_of, taken_in}
use Rattle.bsc_hub_core.specs.Meeting.{HasMet, HasMetIf, MeetsWith, Midway, all_to, gains, one_to}
use Rattle.bsc_hub_core.specs.Outboxes.{tags_by}
use Rattle.bsc_hub_core.specs.Standing.{CoreStands, HasOutbox, IsOutbox, IsUnleft, outbox_at}
use Rattle.bsc_hub_core.proofs.Looking.{among_In, look_newest, looked_kept, looks_at_apart, looks_unleft, newest_kept, unlooked_added}
use Rattle.bsc_hub_core.proofs.Outboxes.{newest_lawful, outbox_desk, outbox_more, unleft_stays}
use Rattle.bsc_hub_core.proofs.TakesOne.{owns_meets}

-- who may forward: the connection has a row of its caller, with the address that it joined with
pub row_of_sender : (t : HubCore) (H : List Entry) (caller c : ℕ) (p : Outbox) → CoreStands t H → is_of H caller c ≡ true → outbox_at t c ≡ Some p → IsRowOf t.desk caller c p.vmac
row_of_sender t H caller c p s own at = is_row_of t.desk s.marks caller c p.vmac s.desk (subst (λ F. is_of F caller c ≡ true) (sym s.calls) own) (s.outboxes c p at).address

-- who has joined hasn't left
any_number : (c caller : ℕ) (xs : List Connection) → list_any (λ x. (x.number == c) && (x.caller == caller)) xs ≡ true → list_any (λ x. x.number == c) xs ≡ true
any_number c caller [] h = h
any_number c caller (x ∷ xs) h = elim (or_cases ((x.number == c) && (x.caller == caller)) (list_any (λ y. (y.number == c) && (y.caller == caller)) xs) h) [
  | inl here ↦ or_left (x.number == c) (list_any (λ y. y.number == c) xs) (and_parts (x.number == c) (x.caller == caller) here).0
  | inr later ↦ or_right (x.number == c) (list_any (λ y. y.number == c) xs) (any_number c caller xs later)
]

pub own_unleft : (H : List Entry) (caller c : ℕ) → is_of H caller c ≡ true → IsUnleft H c
own_unleft H caller c own = any_number c caller (unleft H) own

-- it has an outbox
pub has_own : (t : HubCore) (H : List Entry) (caller c : ℕ) → CoreStands t H → is_of H caller c ≡ true → HasOutbox t c
has_own t H caller c s own = s.all c (own_unleft H caller c own)

-- and may forward
pub may_forward : (t : HubCore) (H : List Entry) (caller c : ℕ) (from : Vmac) → CoreStands t H → is_of H caller c ≡ true → ((p : Outbox) → outbox_at t c ≡ Some p → from ≡ p.vmac)
    → IsRowOf t.desk caller c from
may_forward t H caller c from s own is =
    let p = found_some (outbox_at t c) (has_own t H caller c s own) in
    subst (IsRowOf t.desk caller c) (sym (is p.0 p.1)) (row_of_sender t H caller c p.0 s own p.1)

-- those whose outboxes were joined are those that the reply names
pub named_one : (r : OneReply) (b : ℕ) → is_among b (one_to r) ≡ names b (one_reply r)
named_one (Appended look) b = or_false (look.conn == b)
named_one (Closed look) b = refl
named_one (Skipped conn) b = refl
named_one NoHolder b = refl
named_one (NotCurrent ending) b = refl
named_one Stopped b = refl

pub named_all : (r : AllReply) (b : ℕ) → is_among b (all_to r) ≡ names b (all_reply r)
named_all (Sent to missed skipped looks) b = refl
named_all (AllNotCurrent ending) b = refl
named_all AllStopped b = refl

placed : (b : Bool) (o : List ℕ) (tag : ℕ) → cond b (tag ∷ []) [] ≡ map (λ x. tag) (cond b (o ∷ []) [])
placed true o tag = refl
placed false o tag = refl

module _ (t : HubCore) (H : List Entry) (s : CoreStands t H) (e : Entry) (sender : ℕ) (message : List ℕ) (call : e.call ≡ Forward sender message)
    (lawful : Lawful t.desk.about (moment (entries s.marks) e)) (to : List ℕ) (named : (b : ℕ) → is_among b to ≡ names b e.reply) (tag : ℕ) where
  abbrev F : List Entry
  F = entries s.marks

  abbrev T : List Stamped
  T = s.marks ++ plain e ∷ []

  -- what enters an outbox has the tag
  gained : (b : ℕ) → gains tag to b ≡ map (λ o. tag) (added t.desk.about (moment F e) (sent t.desk.about F b) b)
  gained b =
      let o = out_of F sender message in
      ap (λ (y : Bool). cond y (tag ∷ []) []) (named b) ∙ placed (names b e.reply) o tag ∙ ap (map (λ o. tag)) (sym (adds_as_named t.desk.about F s.desk.legal e sender message b lawful call))

  -- An outbox at which the forward didn't look is kept.
  unlooked : (n : Desk) (b : ℕ) (p : Outbox) → n.about ≡ t.desk.about → Learns t.desk e.looks n → IsOutbox t.desk s.marks b p
      → is_among b (map (λ (k : Look). k.conn) e.looks) ≡ false → HasMet n T to tag b p p
  unlooked n b p about learns h off =
      let none = unlooked_added t.desk.about F e sender message b s.desk.legal lawful call off in
      let nothing : gains tag to b ≡ [] = gained b ∙ ap (map (λ o. tag)) none in
      record {
        taken = refl;
        empties = refl;
        tags = sym (ap (λ l. tags_by p ++ l) nothing ∙ append-nil (tags_by p));
        kept = outbox_more t.desk n s.marks (plain e) b p p about h (record {
          stays = ap (is_leave b) call;
          behind = subst (λ k. k ≤ length (given p.outlet)) (sym (looked_kept F e b off)) h.outlet.behind;
          known = learns.known b ∙ newest_kept b e.looks (known_of t.desk b) off ∙ h.known;
          same = (refl, refl, refl, refl);
          vmac = refl;
          tags = (let no = ap length none in omega (arith, no));
        });
      }

  -- One whose two ends met is.
  looked_at : (d n : Desk) (b : ℕ) (p q : Outbox) → d.about ≡ t.desk.about → DeskStands d T → IsOutbox t.desk s.marks b p → MeetsWith d n b to tag p q → HasMet n T to tag b p q
  looked_at d n b p q about stands h m =
      let x = m.meets in
      let same = ap given m.outlet ∙ x.same.1 in
      record {
        taken = same;
        empties = ap empties_of m.outlet ∙ x.same.2;
        tags = m.tags;
        kept = outbox_more t.desk n s.marks (plain e) b p q (x.about ∙ about) h (record {
          stays = ap (is_leave b) call;
          behind = subst (λ G. looked G b ≤ length (given p.outlet)) (entries-more s.marks (plain e)) (subst (λ l. looked (entries T) b ≤ length l) x.same.1 (x.outlet T stands).behind);
          known = x.known ∙ ap length x.same.1;
          same = (ap outlet_mark m.outlet ∙ x.same.0, same, ap empties_of m.outlet ∙ x.same.2, ap found m.outlet ∙ x.same.3);
          vmac = m.vmac;
          tags = ap length m.tags ∙ length-append (tags_by p) (gains tag to b) ∙ ap (λ l. length (tags_by p) + length l) (gained b)
              ∙ ap (λ k. length (tags_by p) + k) (length-map (added t.desk.about (moment F e) (sent t.desk.about F b) b) (λ o. tag));
        });
      }

-- ---- between

lawful_in : (t u : HubCore) (H : List Entry) (s : CoreStands t H) (e : Entry) (tag : ℕ) (to left : List ℕ) → Midway t u H s e tag to left → Lawful t.desk.about (moment (entries s.marks) e)
lawful_in t u H s e tag to left g = newest_lawful t.desk u.desk s.marks (plain e) g.own g.desk

-- The entry was made, and no outbox at which it looked has met.
pub midway_start : (t u : HubCore) (H : List Entry) (s : CoreStands t H) (e : Entry) (sender : ℕ) (m : List ℕ) (tag : ℕ) (to : List ℕ) → e.call ≡ Forward sender m
    → u.about ≡ t.about → u.desk.about ≡ t.desk.about → DeskStands u.desk (s.marks ++ plain e ∷ []) → Learns t.desk e.looks u.desk → ((b : ℕ) → is_among b to ≡ names b e.reply)
    → ((b : ℕ) → outbox_at u b ≡ outbox_at t b)
    → Midway t u H s e tag to (map (λ k. k.conn) e.looks)
midway_start t u H s e sender m tag to call about own stands learns named same = record {
  about = about;
  own = own;
  desk = stands;
  sender = sender;
  message = m;
  call = call;
  named = named;
  apart = subst (Apart (λ (n : ℕ). n)) (sym lawful.named) (looks_at_apart t.desk.about (entries s.marks) e.call s.desk.legal);
  has = λ b among. (let un = looks_unleft t.desk.about (entries s.marks) e.call b s.desk.legal (ap (is_among b) (sym lawful.named) ∙ among) in
      found_some (outbox_at t b) (s.all b (subst (λ F. IsUnleft F b) s.calls un)));
  waits = λ b among. same b;
  met = λ b off. subst (HasMetIf u.desk (s.marks ++ plain e ∷ []) to tag b (outbox_at t b)) (sym (same b)) (one b off (outbox_at t b) refl);
}
  where
    lawful : Lawful t.desk.about (moment (entries s.marks) e)
    lawful = newest_lawful t.desk u.desk s.marks (plain e) own stands

    one : (b : ℕ) → is_among b (map (λ (k : Look). k.conn) e.looks) ≡ false → (o : Option Outbox) → outbox_at t b ≡ o → HasMetIf u.desk (s.marks ++ plain e ∷ []) to tag b o o
    one b off None at = refl
    one b off (Some p) at = (p, refl, unlooked t H s e sender m call lawful to named tag u.desk b p own learns (s.outboxes b p at) off)

module _ (t u : HubCore) (H : List Entry) (s : CoreStands t H) (e : Entry) (tag : ℕ) (to : List ℕ) (c : ℕ) (left : List ℕ) (g : Midway t u H s e tag to (c ∷ left)) where
  among_c : is_among c (c ∷ left) ≡ true
  among_c = or_left (c == c) (is_among c left) (eq-eqb c c refl)

  -- the outbox that meets next
  next : (p : Outbox) × (outbox_at u c ≡ Some p) × IsOutbox t.desk s.marks c p
  next = (let h = g.has c among_c in (h.0, g.waits c among_c ∙ h.1, s.outboxes c h.0 h.1))

  pub has_next : HasOutbox u c
  has_next = ap is_some next.1

  kept_next : (p : Outbox) → outbox_at u c ≡ Some p → IsOutbox t.desk s.marks c p
  kept_next p at = subst (IsOutbox t.desk s.marks c) (same_Some next.0 p (sym next.1 ∙ at)) next.2

  pub may_meet : (p : Outbox) → outbox_at u c ≡ Some p → HasRow u.desk c × IsMarkOf u.desk c (outlet_mark p.outlet)
  may_meet p at =
      let h = kept_next p at in
      owns_meets u.desk (s.marks ++ plain e ∷ []) c p (record {
        stands = g.desk;
        unleft = subst (λ F. IsUnleft F c) (sym (entries-more s.marks (plain e))) (unleft_stays (entries s.marks) e c (ap (is_leave c) g.call) h.unleft);
        marked = mark_grows s.marks (plain e ∷ []) c (outlet_mark p.outlet) h.marked;
      })

  -- It met.
  pub midway_next : (v : HubCore) (p q : Outbox) → outbox_at u c ≡ Some p → MeetsWith u.desk v.desk c to tag p q → v.about ≡ u.about → outbox_at v c ≡ Some q
      → ((b : ℕ) → b ≢ c → outbox_at v b ≡ outbox_at u b) → Midway t v H s e tag to left
  midway_next v p q at m about now others = record {
    about = about ∙ g.about;
    own = m.meets.about ∙ g.own;
    desk = m.meets.stands (s.marks ++ plain e ∷ []) g.desk;
    sender = g.sender;
    message = g.message;
    call = g.call;
    named = g.named;
    apart = g.apart.1;
    has = λ b among. g.has b (or_right (c == b) (is_among b left) among);
    waits = λ b among. others b (not_c b among) ∙ g.waits b (or_right (c == b) (is_among b left) among);
    met = λ b off. by b off (b == c) refl;
  }
    where
      is_c : (b : ℕ) (cs : List ℕ) → AllByRecursion (λ y. c ≢ y) cs → is_among b cs ≡ true → b ≢ c
      is_c b [] apart among = cc
      is_c b (y ∷ cs) apart among = elim (or_cases (y == b) (is_among b cs) among) [
        | inl here ↦ λ same. apart.0 (sym same ∙ sym (eqb-true y b here))
        | inr later ↦ is_c b cs apart.1 later
      ]

      not_c : (b : ℕ) → is_among b left ≡ true → b ≢ c
      not_c b among = is_c b left g.apart.0 among

      again : (b : ℕ) → b ≢ c → (o w : Option Outbox) → HasMetIf u.desk (s.marks ++ plain e ∷ []) to tag b o w → HasMetIf v.desk (s.marks ++ plain e ∷ []) to tag b o w
      again b other None w h = h
      again b other (Some r) w h = (
        h.0,
        h.1,
        record {
          taken = h.2.taken;
          empties = h.2.empties;
          tags = h.2.tags;
          kept = outbox_desk u.desk v.desk (s.marks ++ plain e ∷ []) b h.0 m.meets.about (ap known_in (m.meets.others b other)) h.2.kept;
        },
      )

      by : (b : ℕ) → is_among b left ≡ false → (f : Bool) → (b == c) ≡ f → HasMetIf v.desk (s.marks ++ plain e ∷ []) to tag b (outbox_at t b) (outbox_at v b)
      by b off true f =
          let same = eqb-true b c f in
          let was : outbox_at t c ≡ Some p = sym (g.waits c among_c) ∙ at in
          let here : HasMetIf v.desk (s.marks ++ plain e ∷ []) to tag c (Some p) (outbox_at v c) =
          (q, now, looked_at t H s e g.sender g.message g.call (lawful_in t u H s e tag to (c ∷ left) g) to g.named tag u.desk v.desk c p q g.own g.desk (kept_next p at) m) in
          subst (λ n. HasMetIf v.desk (s.marks ++ plain e ∷ []) to tag n (outbox_at t n) (outbox_at v n)) (sym same)
          (subst (λ o. HasMetIf v.desk (s.marks ++ plain e ∷ []) to tag c o (outbox_at v c)) (sym was) here)
      by b off false f =
          let other : b ≢ c = λ same. both_ways (b == c) f (ap (λ n. n == c) same ∙ eq_self c) in
          let more : is_among b (c ∷ left) ≡ false = ap (λ (y : Bool). y || is_among b left) (ne_eqb c b (λ same. other (sym same))) ∙ off in
          subst (HasMetIf v.desk (s.marks ++ plain e ∷ []) to tag b (outbox_at t b)) (sym (others b other)) (again b other (outbox_at t b) (outbox_at u b) (g.met b more))

-- ---- the whole

module _ (t u : HubCore) (H : List Entry) (s : CoreStands t H) (caller c : ℕ) (m : List ℕ) (looks : List Look) (r : Reply) (tag : ℕ) (to : List ℕ) where
  abbrev e : Entry
  e = forward_entry caller c m looks r

  -- All have met, and each look found just what was taken.
  pub forwards_as : Midway t u H s e tag to [] → nat_le t.about.limits.calls (length H) ≡ false → r ≡ forward_reply t.desk.about (entries s.marks) c m looks
      → AllByRecursion (λ k. known_of t.desk k.conn ≤ k.taken) looks → Forwards H caller c tag m r t u
  forwards_as g fresh replied at_least = record {
    replied = replied ∙ ap (λ a. forward_reply a (entries s.marks) c m looks) s.own ∙ ap (λ G. forward_reply t.about G c m looks) s.calls ∙ ap (forward_reply t.about H c m) exact;
    enters = record {
      fresh = fresh;
      about = g.about;
      stands = subst (λ (ls : List Look). CoreStands u (H ++ forward_entry caller c m ls r ∷ [])) exact (record {
        marks = s.marks ++ plain e ∷ [];
        calls = entries-more s.marks (plain e) ∙ ap (λ G. G ++ e ∷ []) s.calls;
        own = g.own ∙ s.own ∙ sym g.about;
        desk = g.desk;
        outboxes = λ b q at. kept b q (outbox_at t b) (outbox_at u b) at (g.met b refl);
        all = λ b un. has b (outbox_at t b) (outbox_at u b) (s.all b (sym (ap (list_any (λ (y : Connection). y.number == b)) (unleft-same H e refl (λ k. refl))) ∙ un)) (g.met b refl);
      });
    };
    gains = λ b. subst (λ (ls : List Look). GainsIf tag (added t.about (moment H (forward_entry caller c m ls r)) (sent t.about H b) b) (outbox_at t b) (outbox_at u b)) exact
        (gain b (outbox_at t b) (outbox_at u b) (g.met b refl));
  }
    where
      lawful : Lawful t.desk.about (moment (entries s.marks) e)
      lawful = lawful_in t u H s e tag to [] g

      kept : (b : ℕ) (q : Outbox) (o w : Option Outbox) → w ≡ Some q → HasMetIf u.desk (s.marks ++ plain e ∷ []) to tag b o w → IsOutbox u.desk (s.marks ++ plain e ∷ []) b q
      kept b q None w at h = (let bad : None ≡ Some q = sym h ∙ at in cc)
      kept b q (Some p) w at h = subst (IsOutbox u.desk (s.marks ++ plain e ∷ []) b) (same_Some h.0 q (sym h.1 ∙ at)) h.2.kept

      has : (b : ℕ) (o w : Option Outbox) → is_some o ≡ true → HasMetIf u.desk (s.marks ++ plain e ∷ []) to tag b o w → is_some w ≡ true
      has b None w bad h = cc
      has b (Some p) w some h = ap is_some h.1

      gain : (b : ℕ) (o w : Option Outbox) → HasMetIf u.desk (s.marks ++ plain e ∷ []) to tag b o w → GainsIf tag (added t.about (moment H e) (sent t.about H b) b) o w
      gain b None w h = h
      gain b (Some p) w h = (
        h.0,
        h.1,
        record {
          taken = h.2.taken;
          empties = h.2.empties;
          tags = h.2.tags ∙ ap (λ l. tags_by p ++ l) (gained t H s e c m refl lawful to g.named tag b
              ∙ ap (λ a. map (λ o. tag) (added a (moment (entries s.marks) e) (sent a (entries s.marks) b) b)) s.own
              ∙ ap (λ G. map (λ o. tag) (added t.about (moment G e) (sent t.about G b) b)) s.calls);
        },
      )

      one : (k : Look) → In k looks → k.taken ≡ taken_in (outbox_at t k.conn)
      one k mem =
          let b = k.conn in
          let un = looks_unleft t.desk.about (entries s.marks) (Forward c m) b s.desk.legal (ap (is_among b) (sym lawful.named) ∙ among_In looks k mem) in
          let p = found_some (outbox_at t b) (s.all b (subst (λ F. IsUnleft F b) s.calls un)) in
          let old = s.outboxes b p.0 p.1 in
          let met : HasMetIf u.desk (s.marks ++ plain e ∷ []) to tag b (Some p.0) (outbox_at u b) =
          subst (λ o. HasMetIf u.desk (s.marks ++ plain e ∷ []) to tag b o (outbox_at u b)) p.1 (g.met b refl) in
          let least : known_of t.desk b ≤ k.taken = In_from_all (λ (z : Look). known_of t.desk z.conn ≤ z.taken) k looks at_least mem in
          let newest : looked (entries s.marks ++ e ∷ []) b ≡ k.taken = look_newest t.desk.about (entries s.marks) e k s.desk.legal lawful mem in
          let behind : looked (entries s.marks ++ e ∷ []) b ≤ length (given met.0.outlet) =
          subst (λ G. looked G b ≤ length (given met.0.outlet)) (entries-more s.marks (plain e)) met.2.kept.outlet.behind in
          let same = ap length met.2.taken in
          let know = old.known in
          let exact : k.taken ≡ length (given p.0.outlet) = omega (arith, least, newest, behind, same, know) in
          exact ∙ ap taken_in (sym p.1)

      exact : looks ≡ looks_of t H (Forward c m)
      exact = looks_told (λ b. taken_in (outbox_at t b)) looks (all_from_In (λ (k : Look). k.taken ≡ taken_in (outbox_at t k.conn)) looks one)
          ∙ ap (map (λ b. let k : Look = record { conn = b; taken = taken_in (outbox_at t b) } in k)) (lawful.named ∙ ap (λ G. looks_at G (Forward c m)) s.calls)
