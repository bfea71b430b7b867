-- The outboxes of a core: one in place of another, another desk, an entry more.
-- It serves clauses of functions of `hub_core` and `taking`.
use Rattle.std.proofs.Common.{◌≡◌, ◌≢◌, ◌≤◌, ℕ, ◌+◌, ◌==◌, nat_lt, Bool, true, false, not, cond, List, [], ◌∷◌, ◌++◌, length, filter, Some, None, is_some, option_to_list, refl, ap}
use Rattle.std.proofs.Common.{sym, ◌∙◌, subst, arith, length-append, append_assoc}
use lib.ListN.{get_elem?}
use Rattle.std.specs.List.{list_any}
use Rattle.std.specs.Option.{option_or}
use Rattle.std.specs.Ordering.{nat_cmp, eq_by_cmp, is_eq}
use Rattle.std.specs.declared.cmp.Ordering.TheVariants.{Less, Equal, Greater}
use Rattle.std.proofs.lemmas.Bool.{both_ways, eqb-true, ne_eqb, ltb-true}
use Rattle.bsc_history.specs.declared.limits.About.{About}
use Rattle.bsc_history.specs.declared.connection.Connection.{Connection}
use Rattle.bsc_history.specs.declared.entry.Entry.{Entry}
use Rattle.bsc_history.specs.declared.mark.Stamped.{Stamped}
use Rattle.bsc_history.specs.Entries.{joins, moment}
use Rattle.bsc_history.specs.Ends.{end_by, ended, joined_where, leaves, unleft}
use Rattle.bsc_history.specs.Legality.{Lawful, Legal}
use Rattle.bsc_history.specs.Marks.{entries}
use Rattle.bsc_history.specs.Outboxes.{added, looked, sent, vmac_of}
use Rattle.bsc_history.proofs.Lists.{In, In-left, In_kept, any_In, any_gives}
use Rattle.bsc_history.proofs.Marks.{mark_grows}
use Rattle.bsc_history.proofs.More.{Legal-front, ended-more, entries-more, sent-more, unleft-more}
use Rattle.bsc_history.proofs.Named.{unleft_joined}
use Rattle.bsc_history.proofs.Parts.{vmac_stays}
use Rattle.bsc_ring.specs.declared.ends.Outlet.{Outlet}
use Rattle.bsc_ring.specs.Ends.{SameOutlet, given, outlet_mark}
use Rattle.bsc_desk.specs.declared.desk.Desk.{Desk}
use Rattle.bsc_desk.specs.Meetings.{IsOutletOf}
use Rattle.bsc_desk.specs.Rows.{known_of}
use Rattle.bsc_desk.specs.Standing.{DeskStands}
use Rattle.bsc_lemmas.proofs.Booleans.{eq_self}
use Rattle.std.proofs.lemmas.Option.{same_Some}
use Rattle.bsc_hub_core.specs.declared.outbox.Outbox.{Outbox}
use Rattle.bsc_hub_core.specs.declared.hub_core.HubCore.{HubCore}
use Rattle.bsc_hub_core.specs.Calls.{Changes}
use Rattle.bsc_hub_core.specs.Outboxes.{OwnsOutlet}
use Rattle.bsc_hub_core.specs.Standing.{CoreStands, HasOutbox, IsOutbox, IsUnleft, outbox_at}

-- ---- keys

-- the comparison that a map makes tells whether two numbers are the same
pub eq_cmp : (k q : ℕ) → eq_by_cmp nat_cmp k q ≡ (k == q)
eq_cmp k q = by (nat_lt k q) refl
  where
    by : (b : Bool) → nat_lt k q ≡ b → is_eq (cond b Less (cond (k == q) Equal Greater)) ≡ (k == q)
    by true t = sym (ne_eqb k q (λ e. let less = ltb-true k q t in omega arith))
    by false t = elim (k == q) as (λ e. is_eq (cond e Equal Greater) ≡ e) [ true ↦ refl | false ↦ refl ]

pub away : (c b : ℕ) → b ≢ c → is_eq (nat_cmp c b) ≡ false
away c b other = eq_cmp c b ∙ ne_eqb c b (λ e. other (sym e))

-- ---- history

-- the entry that a desk made is lawful, after a legal history
pub newest_lawful : (d n : Desk) (S : List Stamped) (x : Stamped) → n.about ≡ d.about → DeskStands n (S ++ x ∷ []) → Lawful d.about (moment (entries S) x.entry)
newest_lawful d n S x same s =
    (Legal-front d.about (entries S) x.entry (subst (λ a. Legal a (entries S ++ x.entry ∷ [])) same (subst (Legal n.about) (entries-more S x) s.legal))).1

-- nobody has joined before the first entry
pub nobody_unleft : (c : ℕ) → IsUnleft [] c → ⊥
unfolding joined_where
nobody_unleft c u = cc

-- who hasn't left has joined
pub unleft_joins : (H : List Entry) (c : ℕ) → IsUnleft H c → list_any (joins c) H ≡ true
unleft_joins H c u = unleft_joined (λ k after. not (list_any (leaves k) after)) (λ (x : Connection). x.number == c) c (λ x h. h) H u

-- and still hasn't, where it doesn't leave by an entry
pub unleft_stays : (H : List Entry) (e : Entry) (c : ℕ) → leaves c e ≡ false → IsUnleft H c → IsUnleft (H ++ e ∷ []) c
unleft_stays H e c stays u =
    let p = λ (x : Connection). x.number == c in
    let q = λ (x : Connection). not (leaves x.number e) in
    let r = any_gives p (unleft H) u in
    let kept : In r.0 (filter q (unleft H)) = In_kept q r.0 (unleft H) r.1 (ap (λ n. not (leaves n e)) (eqb-true r.0.number c r.2) ∙ ap not stays) in
    ap (list_any p) (unleft-more H e) ∙ any_In p r.0 (filter q (unleft H) ++ option_to_list _) (In-left r.0 (filter q (unleft H)) (option_to_list _) kept) r.2

-- ---- one outbox

-- the outlet after a meeting fits the history as before it
pub same_outlet : (d : Desk) (S : List Stamped) (c : ℕ) (o p : Outlet) → SameOutlet o p → IsOutletOf d.about (entries S) c o → IsOutletOf d.about (entries S) c p
same_outlet d S c o p same h = record {
  begins = (h.begins.0, h.begins.1 ∙ rw same.1 refl);
  behind = rw same.1 h.behind;
  ends = λ e f. h.ends e (f.0, rw same.3 at f.1);
}

-- it is kept by another desk that knows as much of it
pub outbox_desk : (d n : Desk) (S : List Stamped) (c : ℕ) (p : Outbox) → n.about ≡ d.about → known_of n c ≡ known_of d c → IsOutbox d S c p → IsOutbox n S c p
outbox_desk d n S c p about known h = record {
  unleft = h.unleft;
  address = h.address;
  marked = h.marked;
  outlet = subst (λ a. IsOutletOf a (entries S) c p.outlet) (sym about) h.outlet;
  known = known ∙ h.known;
  waits = h.waits ∙ ap (λ a. length (sent a (entries S) c)) (sym about);
}

pub owns : (d : Desk) (S : List Stamped) (c : ℕ) (p : Outbox) → DeskStands d S → IsOutbox d S c p → OwnsOutlet d S c p
owns d S c p s h = record { stands = s; unleft = h.unleft; marked = h.marked }

-- What an entry leaves of an outbox: its connection doesn't leave by it, the outlet is the same but for what it knows, the
-- desk knows how much was taken, the newest look found no more, and each frame that enters gets a tag.
pub record Stays (a : About) (H : List Entry) (e : Entry) (n : Desk) (c : ℕ) (i j : Outbox) : Type 0 where
  pub stays : leaves c e ≡ false
  pub behind : looked (H ++ e ∷ []) c ≤ length (given i.outlet)
  pub known : known_of n c ≡ length (given i.outlet)
  pub same : SameOutlet i.outlet j.outlet
  pub vmac : j.vmac ≡ i.vmac
  pub tags : length j.tags.items ≡ length i.tags.items + length (added a (moment H e) (sent a H c) c)

-- So it is kept with the entry.
pub outbox_more : (d n : Desk) (S : List Stamped) (x : Stamped) (c : ℕ) (i j : Outbox) → n.about ≡ d.about → IsOutbox d S c i → Stays d.about (entries S) x.entry n c i j → IsOutbox n (S ++ x ∷ []) c j
outbox_more d n S x c i j about p q =
    let H = entries S in
    let e = x.entry in
    let more = entries-more S x in
    let enters = added d.about (moment H e) (sent d.about H c) c in
    let sends : sent n.about (entries (S ++ x ∷ [])) c ≡ sent d.about H c ++ enters = ap (λ a. sent a (entries (S ++ x ∷ [])) c) about ∙ ap (λ F. sent d.about F c) more ∙ sent-more d.about H e c in
    let rest = p.outlet.begins.0 in
    let long : length (sent n.about (entries (S ++ x ∷ [])) c) ≡ length (sent d.about H c) + length enters = ap length sends ∙ length-append (sent d.about H c) enters in
    record {
      unleft = ap (λ F. list_any (λ (y : Connection). y.number == c) (unleft F)) more ∙ unleft_stays H e c q.stays p.unleft;
      address = ap (λ F. vmac_of F c) more ∙ vmac_stays H (e ∷ []) c (unleft_joins H c p.unleft) ∙ p.address ∙ sym q.vmac;
      marked = mark_grows S (x ∷ []) c (outlet_mark i.outlet) p.marked ∙ ap Some (sym q.same.0);
      outlet = record {
        begins = (rest ++ enters, sends ∙ ap (λ l. l ++ enters) p.outlet.begins.1 ∙ append_assoc (given i.outlet) rest enters ∙ ap (λ l. l ++ (rest ++ enters)) (sym q.same.1));
        behind = subst (λ l. looked (entries (S ++ x ∷ [])) c ≤ length l) (sym q.same.1) (subst (λ F. looked F c ≤ length (given i.outlet)) (sym more) q.behind);
        ends = λ k f. ap (λ F. ended F c) more ∙ ended-more H e c ∙ ap (λ o. option_or o (cond (list_any (joins c) H) (end_by c e) None))
            (p.outlet.ends k (f.0, ap (λ l. get_elem? l f.0) (sym q.same.3) ∙ f.1));
      };
      known = q.known ∙ ap length (sym q.same.1);
      waits = (let gained = q.tags in let was = p.waits in let kept = ap length q.same.1 in omega (arith, gained, was, kept, long));
    }

-- ---- all of them

-- One outbox is another, by a desk that knows as much of the others.
pub changed : (t u : HubCore) (H : List Entry) (c : ℕ) (p q : Outbox) (s : CoreStands t H) → outbox_at t c ≡ Some p → u.about ≡ t.about → u.desk.about ≡ t.desk.about
    → DeskStands u.desk s.marks → IsOutbox u.desk s.marks c q → ((b : ℕ) → b ≢ c → known_of u.desk b ≡ known_of t.desk b)
    → outbox_at u c ≡ Some q → ((b : ℕ) → b ≢ c → outbox_at u b ≡ outbox_at t b) → Changes H c t u p q
changed t u H c p q s was about desk_about stands new known now others = record {
  stands = record {
    marks = s.marks;
    calls = s.calls;
    own = desk_about ∙ s.own ∙ sym about;
    desk = stands;
    outboxes = λ b r at. each b r at (b == c) refl;
    all = λ b un. has b un (b == c) refl;
  };
  about = about;
  was = was;
  now = now;
  others = others;
}
  where
    apart : (b : ℕ) → (b == c) ≡ false → b ≢ c
    apart b e same = both_ways (b == c) e (ap (λ n. n == c) same ∙ eq_self c)

    one : (a b : Outbox) → Some a ≡ Some b → a ≡ b
    one a b e = same_Some a b e

    each : (b : ℕ) (r : Outbox) → outbox_at u b ≡ Some r → (e : Bool) → (b == c) ≡ e → IsOutbox u.desk s.marks b r
    each b r at true e =
        let same = eqb-true b c e in
        let is : q ≡ r = one q r (sym now ∙ ap (outbox_at u) (sym same) ∙ at) in
        subst (λ n. IsOutbox u.desk s.marks n r) (sym same) (subst (IsOutbox u.desk s.marks c) is new)
    each b r at false e = outbox_desk t.desk u.desk s.marks b r desk_about (known b (apart b e)) (s.outboxes b r (sym (others b (apart b e)) ∙ at))

    has : (b : ℕ) → IsUnleft H b → (e : Bool) → (b == c) ≡ e → HasOutbox u b
    has b un true e = ap is_some (ap (outbox_at u) (eqb-true b c e) ∙ now)
    has b un false e = ap is_some (others b (apart b e)) ∙ s.all b un
