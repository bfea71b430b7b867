-- The desk stands for a history with one entry more.
-- It serves clauses of functions of `connecting`, `desk`, `looking` and `rows`.
use Rattle.std.proofs.Common.{◌≡◌, inl, inr, ℕ, ◌+◌, Bool, true, false, not, cond, List, [], ◌∷◌, ◌++◌, length, map, filter, Option, Some, None, option_to_list, refl, ap, sym, ◌∙◌}
use Rattle.std.proofs.Common.{subst, length-append, append-nil}
use Rattle.std.specs.List.{list_any, position, AllByRecursion}
use Rattle.std.specs.Option.{option_or}
use Rattle.bsc_history.specs.declared.limits.About.{About}
use Rattle.bsc_history.specs.declared.connection.Connection.{Connection}
use Rattle.bsc_history.specs.declared.counts.Counts.{Counts}
use Rattle.bsc_history.specs.declared.ending.End.{End}
use Rattle.bsc_history.specs.declared.entry.Entry.{Entry}
use Rattle.bsc_history.specs.declared.mark.Stamped.{Stamped}
use Rattle.bsc_history.specs.Counting.{counts, counts_of, plus}
use Rattle.bsc_history.specs.Entries.{connection_of, joins, moment, stops}
use Rattle.bsc_history.specs.Ends.{end_by, ended, joined_where, leaves, unleft}
use Rattle.bsc_history.specs.Laws.{Apart}
use Rattle.bsc_history.specs.Legality.{Lawful, Legal}
use Rattle.bsc_history.specs.Marks.{entries}
use Rattle.bsc_history.specs.Outboxes.{added, sent}
use Rattle.bsc_history.proofs.Connections.{apart_new, unleft_joined}
use Rattle.bsc_history.proofs.Lists.{Apart-filter, Apart-push, In, In-filter, In_from_all, all_from_In}
use Rattle.bsc_history.proofs.Marks.{mark_grows}
use Rattle.bsc_history.proofs.More.{Legal-more, along, counts-more, ended-more, entries-more, sent-more, unleft-more}
use Rattle.bsc_ring.specs.declared.ends.Inlet.{Inlet}
use Rattle.bsc_ring.specs.Ends.{capacity_of, ending_of, inlet_mark, loads, pushed}
use Rattle.bsc_ring.specs.Lists.{Item}
use Rattle.bsc_desk.specs.declared.desk.Desk.{Desk}
use Rattle.bsc_desk.specs.declared.row.Row.{Row}
use Rattle.bsc_desk.specs.Changes.{EachBecomes}
use Rattle.bsc_desk.specs.Live.{connection, number}
use Rattle.bsc_desk.specs.Standing.{DeskStands, IsInletOf, all_found, found_at}
use Rattle.bsc_desk.specs.Tallies.{no_counts}
use Rattle.bsc_desk.proofs.Looks.{all_found-more}
use Rattle.bsc_desk.proofs.Walks.{apart_rows, each_all, each_connections}
use Rattle.bsc_history.proofs.Common.{length_entries, none_leave}
use Rattle.bsc_lemmas.proofs.Lists.{position_more}
use Rattle.bsc_lemmas.proofs.Options.{or_none}

-- inlets

-- the inlet i of c became j by the entry e: it has what e adds, a load for each look of e at c, and the End that e makes
pub record Follows (a : About) (H : List Entry) (e : Entry) (c : ℕ) (i j : Inlet) : Type 0 where
  pub mark : inlet_mark j ≡ inlet_mark i
  pub holds : capacity_of j ≡ capacity_of i
  pub items : pushed j ≡ pushed i ++ added a (moment H e) (sent a H c) c
  pub looks : loads j ≡ loads i ++ found_at c e.looks
  pub ends : ending_of j ≡ option_or (ending_of i) (end_by c e)

pub inlet_more : (a : About) (S : List Stamped) (s : Stamped) (c : ℕ) (i j : Inlet) → list_any (joins c) (entries S) ≡ true → IsInletOf a S c i → Follows a (entries S) s.entry c i j
    → IsInletOf a (S ++ s ∷ []) c j
inlet_more a S s c i j came p f =
    let H = entries S in
    let e = s.entry in
    let more = entries-more S s in
    record {
      holds = f.holds ∙ p.holds;
      marked = mark_grows S (s ∷ []) c _ p.marked ∙ ap Some (sym f.mark);
      items = f.items ∙ ap (λ (l : List Item). l ++ added a (moment H e) (sent a H c) c) p.items ∙ sym (ap (λ (G : List Entry). sent a G c) more ∙ sent-more a H e c);
      looks = f.looks ∙ ap (λ (l : List ℕ). l ++ found_at c e.looks) p.looks
          ∙ sym (ap (λ (G : List Entry). all_found G c) more ∙ all_found-more H e c);
      finished = f.ends ∙ ap (λ (w : Option End). option_or w (end_by c e)) p.finished
          ∙ sym (ap (λ (G : List Entry). ended G c) more ∙ ended-more H e c ∙ ap (λ (b : Bool). option_or (ended H c) (cond b (end_by c e) None)) came);
    }

-- an entry that passes c by
pub follows_same : (a : About) (H : List Entry) (e : Entry) (c : ℕ) (i : Inlet) → added a (moment H e) (sent a H c) c ≡ [] → found_at c e.looks ≡ [] → end_by c e ≡ None → Follows a H e c i i
follows_same a H e c i none unlooked open_end = record {
  mark = refl;
  holds = refl;
  items = sym (append-nil (pushed i)) ∙ sym (ap (λ (l : List Item). pushed i ++ l) none);
  looks = sym (append-nil (loads i)) ∙ sym (ap (λ (l : List ℕ). loads i ++ l) unlooked);
  ends = sym (ap (option_or (ending_of i)) open_end ∙ or_none (ending_of i));
}

-- what an entry makes of a row
abbrev pub RowGoes : About → List Entry → Entry → Row → Row → Type 0
RowGoes a H e r s = (s.connection ≡ r.connection) × Follows a H e r.connection.number r.inlet s.inlet

-- rows of a desk that stands for a history

pub In-map : (r : Row) (rows : List Row) → In r rows → In (connection r) (map connection rows)
In-map r [] m = absurd m
In-map r (x ∷ rows) (inl e) = inl (ap connection e)
In-map r (x ∷ rows) (inr m) = inr (In-map r rows m)

-- numbers of those who haven't left are apart
unleft_apart : (a : About) (H : List Entry) → Legal a H → Apart (λ (c : Connection). c.number) (unleft H)
unfolding joined_where
unleft_apart a H legal = along a (λ G. Apart (λ (c : Connection). c.number) (unleft G)) tt (λ G e legalG p lawful.
    let L = λ (x : Connection). not (leaves x.number e) in
    rw unleft-more (Apart-push (λ (c : Connection). c.number) (filter L (unleft G)) (connection_of e) (Apart-filter (λ (c : Connection). c.number) L (unleft G) p)
    (λ x y m same. apart_new a G e legalG lawful x y (unleft_joined G x (In-filter L x (unleft G) m).0).1 same))) H legal

pub rows_apart : (d : Desk) (S : List Stamped) → DeskStands d S → Apart number d.rows.items
rows_apart d S p = apart_rows d.rows.items (subst (Apart (λ (c : Connection). c.number)) (sym p.unleft_rows) (unleft_apart d.about (entries S) p.legal))

-- each row is of a connection that joined, and its inlet is its connection's
abbrev pub IsKept : About → List Stamped → Row → Type 0
IsKept a S r = (list_any (joins r.connection.number) (entries S) ≡ true) × IsInletOf a S r.connection.number r.inlet

pub kept : (d : Desk) (S : List Stamped) → DeskStands d S → AllByRecursion (IsKept d.about S) d.rows.items
kept d S p = all_from_In (IsKept d.about S) d.rows.items (λ r m. (
  (unleft_joined (entries S) (connection r) (subst (In (connection r)) p.unleft_rows (In-map r d.rows.items m))).1,
  In_from_all (λ (x : Row). IsInletOf d.about S x.connection.number x.inlet) r d.rows.items p.inlets m,
))

pub goes_one : (a : About) (S : List Stamped) (s : Stamped) (r t : Row) → IsKept a S r → RowGoes a (entries S) s.entry r t → IsInletOf a (S ++ s ∷ []) t.connection.number t.inlet
goes_one a S s r t k g = subst (λ n. IsInletOf a (S ++ s ∷ []) n t.inlet) (sym (ap (λ (x : Connection). x.number) g.0)) (inlet_more a S s r.connection.number r.inlet t.inlet k.0 k.1 g.1)

pub goes_all : (a : About) (S : List Stamped) (s : Stamped) (rows after : List Row) → AllByRecursion (IsKept a S) rows → EachBecomes (RowGoes a (entries S) s.entry) rows after
    → AllByRecursion (λ r. IsInletOf a (S ++ s ∷ []) r.connection.number r.inlet) after
goes_all a S s rows after all each = each_all (RowGoes a (entries S) s.entry) (IsKept a S) (λ r. IsInletOf a (S ++ s ∷ []) r.connection.number r.inlet) rows after
    (λ r t k g. goes_one a S s r t k g) all each

-- What the new desk n keeps of the old desk d beside its inlets.
pub record Keeps (d n : Desk) (e : Entry) : Type 0 where
  pub about : n.about ≡ d.about
  pub stop : n.stopped_at ≡ option_or d.stopped_at (cond (stops e) (Some d.tally.made) None)
  pub made : n.tally.made ≡ d.tally.made + 1
  pub count : n.tally.counts ≡ plus d.tally.counts (counts_of e)
  pub rows : map connection n.rows.items ≡ filter (λ x. not (leaves x.number e)) (map connection d.rows.items) ++ option_to_list (connection_of e)

pub stands_more : (d n : Desk) (S : List Stamped) (s : Stamped) → DeskStands d S → Lawful d.about (moment (entries S) s.entry) → Keeps d n s.entry
    → AllByRecursion (λ r. IsInletOf d.about (S ++ s ∷ []) r.connection.number r.inlet) n.rows.items → DeskStands n (S ++ s ∷ [])
stands_more d n S s p lawful keeps all =
    let H = entries S in
    let e = s.entry in
    let more = entries-more S s in
    let count : d.tally.made ≡ length H = p.entered ∙ sym (length_entries S) in
    record {
      legal = subst (λ b. Legal b (entries (S ++ s ∷ []))) (sym keeps.about) (subst (Legal d.about) (sym more) (Legal-more d.about H e p.legal lawful));
      stop_place = keeps.stop ∙ ap (λ (o : Option ℕ). option_or o (cond (stops e) (Some d.tally.made) None)) p.stop_place
          ∙ ap (λ (k : ℕ). option_or (position stops H) (cond (stops e) (Some k) None)) count ∙ sym (position_more stops H e) ∙ ap (position stops) (sym more);
      entered = keeps.made ∙ ap (λ k. k + 1) p.entered ∙ sym (length-append S (s ∷ []));
      counted = keeps.count ∙ ap (λ (k : Counts). plus k (counts_of e)) p.counted ∙ sym (counts-more H e) ∙ ap counts (sym more);
      unleft_rows = keeps.rows ∙ ap (λ (l : List Connection). filter (λ x. not (leaves x.number e)) l ++ option_to_list (connection_of e)) p.unleft_rows ∙ sym (unleft-more H e) ∙ ap unleft (sym more);
      inlets = subst (λ b. AllByRecursion (λ r. IsInletOf b (S ++ s ∷ []) r.connection.number r.inlet) n.rows.items) (sym keeps.about) all;
    }

-- where the entry is no Stop and no Leave, and nobody joins by it
pub record Stays (e : Entry) : Type 0 where
  pub goes_on : stops e ≡ false
  pub stays : (c : ℕ) → leaves c e ≡ false
  pub joins_none : connection_of e ≡ None

pub keeps_on : (d n : Desk) (e : Entry) → Stays e → n.about ≡ d.about → n.stopped_at ≡ d.stopped_at → n.tally.made ≡ d.tally.made + 1 → n.tally.counts ≡ plus d.tally.counts (counts_of e)
    → map connection n.rows.items ≡ map connection d.rows.items → Keeps d n e
keeps_on d n e still about stop made count rows = record {
  about = about;
  stop = stop ∙ sym (ap (λ (b : Bool). option_or d.stopped_at (cond b (Some d.tally.made) None)) still.goes_on ∙ or_none d.stopped_at);
  made = made;
  count = count;
  rows = rows ∙ sym (append-nil (map connection d.rows.items)) ∙ sym (ap (λ (l : List Connection). l ++ option_to_list (connection_of e))
      (none_leave e (map connection d.rows.items) still.stays) ∙ ap (λ (o : Option Connection). map connection d.rows.items ++ option_to_list o) still.joins_none);
}

-- Rows that go row by row, by an entry that is no Stop and no Leave and by which nobody joins.
pub stands_on : (d n : Desk) (S : List Stamped) (s : Stamped) → DeskStands d S → Lawful d.about (moment (entries S) s.entry) → Stays s.entry → n.about ≡ d.about → n.stopped_at ≡ d.stopped_at
    → n.tally.made ≡ d.tally.made + 1 → n.tally.counts ≡ plus d.tally.counts (counts_of s.entry) → EachBecomes (RowGoes d.about (entries S) s.entry) d.rows.items n.rows.items
    → DeskStands n (S ++ s ∷ [])
stands_on d n S s p lawful still about stop made count each =
    stands_more d n S s p lawful (keeps_on d n s.entry still about stop made count (each_connections (RowGoes d.about (entries S) s.entry) d.rows.items n.rows.items (λ r t g. g.0) each))
    (goes_all d.about S s d.rows.items n.rows.items (kept d S p) each)

-- where no row changes
pub record Quiet (a : About) (H : List Entry) (e : Entry) : Type 0 where
  pub ends_none : (c : ℕ) → end_by c e ≡ None
  pub looks_none : e.looks ≡ []
  pub adds_nothing : (c : ℕ) → added a (moment H e) (sent a H c) c ≡ []

quiet_each : (a : About) (H : List Entry) (e : Entry) (rows : List Row) → Quiet a H e → EachBecomes (RowGoes a H e) rows rows
quiet_each a H e [] q = tt
quiet_each a H e (r ∷ rows) q = (
  (refl, follows_same a H e r.connection.number r.inlet (q.adds_nothing r.connection.number) (rw q.looks_none refl) (q.ends_none r.connection.number)),
  quiet_each a H e rows q,
)

pub stands_same : (d n : Desk) (S : List Stamped) (s : Stamped) → DeskStands d S → Lawful d.about (moment (entries S) s.entry) → Stays s.entry → Quiet d.about (entries S) s.entry
    → n.about ≡ d.about → n.stopped_at ≡ d.stopped_at → n.tally.made ≡ d.tally.made + 1 → n.tally.counts ≡ plus d.tally.counts (counts_of s.entry) → n.rows.items ≡ d.rows.items
    → DeskStands n (S ++ s ∷ [])
stands_same d n S s p lawful still quiet about stop made count rows = stands_on d n S s p lawful still about stop made count
    (subst (EachBecomes (RowGoes d.about (entries S) s.entry) d.rows.items) (sym rows) (quiet_each d.about (entries S) s.entry d.rows.items quiet))

-- no entries
pub stands_none : (d : Desk) → d.stopped_at ≡ None → d.tally.made ≡ 0 → d.tally.counts ≡ no_counts → d.rows.items ≡ [] → DeskStands d []
unfolding joined_where counts
stands_none d stop made count rows = record {
  legal = record { lawful = tt };
  stop_place = stop;
  entered = made;
  counted = count;
  unleft_rows = rw rows refl;
  inlets = rw rows tt;
}
