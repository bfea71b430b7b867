-- What became of a frame at the rows, said row by row.
-- It serves clauses of functions of `desk` and `rows`.
use Rattle.std.proofs.Common.{◌≡◌, ℕ, ◌-◌, ◌≤◌, ◌==◌, Bool, true, false, ◌&&◌, ◌||◌, cond, List, [], ◌∷◌, ◌++◌, length, map, filter, fold, Option, None, refl, ap, sym, ◌∙◌, subst, arith, append-nil}
use Rattle.std.specs.Bool.{⊤}
use Rattle.std.specs.List.{list_any, list_all, AllByRecursion}
use Rattle.std.specs.Option.{option_or}
use Rattle.std.proofs.lemmas.Bool.{and_from, eq-eqb, le-leb, ne_eqb}
use Rattle.std.proofs.lemmas.List.Folds.{list_all-append}
use Rattle.bsc_history.specs.declared.limits.About.{About}
use Rattle.bsc_history.specs.declared.ending.End.{End}
use Rattle.bsc_history.specs.declared.entry.Entry.{Entry}
use Rattle.bsc_history.specs.declared.looks.Look.{Look}
use Rattle.bsc_history.specs.declared.mark.Stamped.{Stamped}
use Rattle.bsc_history.specs.declared.reply.Reply.{Reply}
use Rattle.bsc_history.specs.Entries.{moment}
use Rattle.bsc_history.specs.Ends.{end_by_reply}
use Rattle.bsc_history.specs.Laws.{names}
use Rattle.bsc_history.specs.Legality.{can_find}
use Rattle.bsc_history.specs.Marks.{entries}
use Rattle.bsc_history.specs.Outboxes.{added, finds_full, is_found_full, looked, newer, sent}
use Rattle.bsc_history.proofs.Uniqueness.{is_None}
use Rattle.bsc_ring.specs.Ends.{ending_of, loads, pushed}
use Rattle.bsc_ring.specs.Lists.{Item, newest}
use Rattle.bsc_desk.specs.declared.fate.Fate.{Fate}
use Rattle.bsc_desk.specs.declared.fate.Fate.TheVariants.{Unmeant, TooLong, Entered, FoundFull}
use Rattle.bsc_desk.specs.declared.row.Row.{Row}
use Rattle.bsc_desk.specs.Changes.{EachBecomes}
use Rattle.bsc_desk.specs.Entries.{forward_entry}
use Rattle.bsc_desk.specs.Fates.{AllBefall, Befalls, looks_in, looks_of}
use Rattle.bsc_desk.specs.Live.{connection, is_open, number}
use Rattle.bsc_desk.specs.Standing.{IsInletOf}
use Rattle.bsc_desk.proofs.Filing.{StaysFiled}
use Rattle.bsc_desk.proofs.Looks.{newest_look}
use Rattle.bsc_desk.proofs.Standings.{RowGoes, follows_same}
use Rattle.bsc_lemmas.proofs.Booleans.{or_false as or_last}
use Rattle.bsc_lemmas.proofs.Options.{or_none}

-- whether the frame entered, and whether it found the outbox full; and the End that it gives then
abbrev pub enters : Fate → Bool
enters (Entered k) = true
enters x = false

abbrev pub is_full : Fate → Bool
is_full (FoundFull k) = true
is_full x = false

abbrev pub ends_by : Option End → Fate → Option End
ends_by full (FoundFull k) = full
ends_by full x = None

-- what Q says of each row and its fate
abbrev pub AllFates : (Row → Fate → Type 0) → List Row → List Fate → Type 0
AllFates Q [] [] = ⊤
AllFates Q (r ∷ rows) (x ∷ fates) = Q r x × AllFates Q rows fates
AllFates Q rows fates = ⊥

-- What the reply and the looks of a forward tell of the connection c: just what became of the frame there.
pub record Told (full : Option End) (reply : Reply) (looks : List Look) (c : ℕ) (x : Fate) : Type 0 where
  pub named : names c reply ≡ enters x
  pub seen : filter (λ k. k.conn == c) looks ≡ looks_in x
  pub ended : end_by_reply c reply ≡ ends_by full x

module _ (t : Row → Bool) (full : Option End) (o : List ℕ) where
  pub fares_same : (r : Row) (x : Fate) (s : Row) → Befalls t full o r x s → s.connection ≡ r.connection
  fares_same r Unmeant s h = ap connection h.1
  fares_same r (TooLong c) s h = ap connection h.1.2
  fares_same r (Entered k) s h = h.1.0.same
  fares_same r (FoundFull k) s h = h.1.0.same

  pub fares_test : (u : Row → Bool) (r : Row) (x : Fate) (s : Row) → t r ≡ u r → Befalls t full o r x s → Befalls u full o r x s
  fares_test u r Unmeant s same h = (sym same ∙ h.0, h.1)
  fares_test u r (TooLong c) s same h = (sym same ∙ h.0, h.1)
  fares_test u r (Entered k) s same h = (sym same ∙ h.0, h.1)
  fares_test u r (FoundFull k) s same h = (sym same ∙ h.0, h.1)

  pub all_test : (u : Row → Bool) (rows : List Row) (fates : List Fate) (after : List Row) → ((r : Row) → t r ≡ u r) → AllBefall t full o rows fates after → AllBefall u full o rows fates after
  all_test u [] [] [] same h = tt
  all_test u (r ∷ rows) (x ∷ fates) (s ∷ after) same h = (fares_test u r x s (same r) h.0, all_test u rows fates after same h.1)
  all_test u rows fates after same h = absurd h

  -- a row by its fate
  pub each_fate : (R : Row → Row → Type 0) (Q : Row → Fate → Type 0) (P : Row → Type 0) (rows : List Row) (fates : List Fate) (after : List Row)
      → ((r : Row) (x : Fate) (s : Row) → P r → Q r x → Befalls t full o r x s → R r s) → AllByRecursion P rows → AllFates Q rows fates → AllBefall t full o rows fates after → EachBecomes R rows after
  each_fate R Q P [] [] [] f all say h = tt
  each_fate R Q P (r ∷ rows) (x ∷ fates) (s ∷ after) f all say h = (f r x s all.0 say.0 h.0, each_fate R Q P rows fates after f all.1 say.1 h.1)
  each_fate R Q P rows fates after f all say h = absurd h

  pub more_said : (P : Row → Type 0) (Q U : Row → Fate → Type 0) (rows : List Row) (fates : List Fate) (after : List Row)
      → ((r : Row) (x : Fate) (s : Row) → P r → Q r x → Befalls t full o r x s → U r x) → AllByRecursion P rows → AllFates Q rows fates → AllBefall t full o rows fates after → AllFates U rows fates
  more_said P Q U [] [] [] f all say h = tt
  more_said P Q U (r ∷ rows) (x ∷ fates) (s ∷ after) f all say h = (f r x s all.0 say.0 h.0, more_said P Q U rows fates after f all.1 say.1 h.1)
  more_said P Q U rows fates after f all say h = absurd h

  -- a row stays filed
  pub fares_files : ((r : Row) → t r ≡ true → is_open r ≡ true) → (r : Row) (x : Fate) (s : Row) → Befalls t full o r x s → StaysFiled r s
  fares_files opens r Unmeant s h = (ap connection h.1, λ e. ap is_open (sym h.1) ∙ e)
  fares_files opens r (TooLong c) s h = (ap connection h.1.2, λ e. opens r h.0)
  fares_files opens r (Entered k) s h = (h.1.0.same, λ e. opens r h.0)
  fares_files opens r (FoundFull k) s h = (h.1.0.same, λ e. opens r h.0)

  pub all_filed : ((r : Row) → t r ≡ true → is_open r ≡ true) → (rows : List Row) (fates : List Fate) (after : List Row) → AllBefall t full o rows fates after → EachBecomes StaysFiled rows after
  all_filed opens [] [] [] h = tt
  all_filed opens (r ∷ rows) (x ∷ fates) (s ∷ after) h = (fares_files opens r x s h.0, all_filed opens rows fates after h.1)
  all_filed opens rows fates after h = absurd h

-- looks at one connection

pub fold_seen : (c n : ℕ) (looks : List Look) → fold (newer c) n looks ≡ fold (newer c) n (filter (λ k. k.conn == c) looks)
fold_seen c n [] = refl
fold_seen c n (k ∷ ks) =
    let F = filter (λ (l : Look). l.conn == c) ks in
    let by : (b : Bool) → (k.conn == c) ≡ b → fold (newer c) (cond b k.taken n) ks ≡ fold (newer c) n (cond b (k ∷ F) F) =
    λ b. elim b as (λ b. (k.conn == c) ≡ b → fold (newer c) (cond b k.taken n) ks ≡ fold (newer c) n (cond b (k ∷ F) F)) [
      | true ↦ λ e. fold_seen c k.taken ks ∙ sym (ap (λ (b : Bool). fold (newer c) (cond b k.taken n) F) e)
      | false ↦ λ e. fold_seen c n ks
    ] in
    by (k.conn == c) refl

pub any_seen : (c : ℕ) (f : Look → Bool) (looks : List Look) → list_any (λ k. (k.conn == c) && f k) looks ≡ list_any f (filter (λ k. k.conn == c) looks)
any_seen c f [] = refl
any_seen c f (k ∷ ks) =
    let F = filter (λ (l : Look). l.conn == c) ks in
    ap (λ (b : Bool). ((k.conn == c) && f k) || b) (any_seen c f ks)
    ∙ elim (k.conn == c) as (λ b. ((b && f k) || list_any f F) ≡ list_any f (cond b (k ∷ F) F)) [ true ↦ refl | false ↦ refl ]

-- the newest look at c, by what became of the frame there
abbrev pub found_by : Fate → ℕ → ℕ
found_by (Entered k) n = k.taken
found_by (FoundFull k) n = k.taken
found_by x n = n

pub newest_seen : (t : Row → Bool) (full : Option End) (o : List ℕ) (r : Row) (x : Fate) (s : Row) (looks : List Look) (n : ℕ) → Befalls t full o r x s
    → filter (λ k. k.conn == number r) looks ≡ looks_in x → fold (newer (number r)) n looks ≡ found_by x n
newest_seen t full o r Unmeant s looks n h seen = fold_seen (number r) n looks ∙ ap (fold (newer (number r)) n) seen
newest_seen t full o r (TooLong c) s looks n h seen = fold_seen (number r) n looks ∙ ap (fold (newer (number r)) n) seen
newest_seen t full o r (Entered k) s looks n h seen = fold_seen (number r) n looks ∙ ap (fold (newer (number r)) n) seen ∙ ap (λ (b : Bool). cond b k.taken n) (eq-eqb k.conn (number r) h.1.0.conn)
newest_seen t full o r (FoundFull k) s looks n h seen = fold_seen (number r) n looks ∙ ap (fold (newer (number r)) n) seen ∙ ap (λ (b : Bool). cond b k.taken n) (eq-eqb k.conn (number r) h.1.0.conn)

-- what an entry makes of a row, by what became of its frame there

module _ (a : About) (S : List Stamped) (caller conn : ℕ) (m : List ℕ) (looks : List Look) (reply : Reply) (t : Row → Bool) (full : Option End) (o : List ℕ) where
  abbrev pub e : Entry
  e = forward_entry caller conn m looks reply

  abbrev pub Adds : ℕ → Type 0
  Adds c = added a (moment (entries S) e) (sent a (entries S) c) c ≡ cond (names c reply) (o ∷ []) []

  pub goes : ((r : Row) → t r ≡ true → is_open r ≡ true) → (r : Row) (x : Fate) (s : Row) → Adds (number r) → Told full reply looks (number r) x → Befalls t full o r x s → RowGoes a (entries S) e r s
  goes opens r Unmeant s adds told h = subst (RowGoes a (entries S) e r) (sym h.1)
      (refl, follows_same a (entries S) e (number r) r.inlet (adds ∙ ap (λ (b : Bool). cond b (o ∷ []) []) told.named) (ap (map (λ (k : Look). k.taken)) told.seen) told.ended)
  goes opens r (TooLong c) s adds told h = subst (RowGoes a (entries S) e r) (sym h.1.2)
      (refl, follows_same a (entries S) e (number r) r.inlet (adds ∙ ap (λ (b : Bool). cond b (o ∷ []) []) told.named) (ap (map (λ (k : Look). k.taken)) told.seen) told.ended)
  goes opens r (Entered k) s adds told h = (
    h.1.0.same,
    record {
      mark = h.1.0.look.mark;
      holds = h.1.0.look.holds;
      items = h.1.1.items ∙ sym (ap (λ (l : List Item). pushed r.inlet ++ l) (adds ∙ ap (λ (b : Bool). cond b (o ∷ []) []) told.named));
      looks = h.1.0.look.loaded ∙ sym (ap (λ (l : List Look). loads r.inlet ++ map (λ (k : Look). k.taken) l) told.seen);
      ends = s.tied ∙ h.1.2 ∙ sym (is_None r.ending (opens r h.0)) ∙ sym r.tied ∙ sym (ap (option_or (ending_of r.inlet)) told.ended ∙ or_none (ending_of r.inlet));
    },
  )
  goes opens r (FoundFull k) s adds told h = (
    h.1.0.same,
    record {
      mark = h.1.0.look.mark;
      holds = h.1.0.look.holds;
      items = h.1.1.items ∙ sym (append-nil (pushed r.inlet)) ∙ sym (ap (λ (l : List Item). pushed r.inlet ++ l) (adds ∙ ap (λ (b : Bool). cond b (o ∷ []) []) told.named));
      looks = h.1.0.look.loaded ∙ sym (ap (λ (l : List Look). loads r.inlet ++ map (λ (k : Look). k.taken) l) told.seen);
      ends = s.tied ∙ h.1.2 ∙ sym (ap (λ (w : Option End). option_or w (end_by_reply (number r) reply)) (r.tied ∙ is_None r.ending (opens r h.0)) ∙ told.ended);
    },
  )

-- a look finds what there is to find

look_can : (a : About) (S : List Stamped) (r : Row) (k : Look) → IsInletOf a S (number r) r.inlet → k.conn ≡ number r → newest (loads r.inlet) ≤ k.taken → k.taken ≤ length (pushed r.inlet)
    → (can_find a (entries S) k.conn k.taken && true) ≡ true
look_can a S r k p same low high =
    let q = subst (λ c. IsInletOf a S c r.inlet) (sym same) p in
    let lower : looked (entries S) k.conn ≤ k.taken = subst (λ n. n ≤ k.taken) (newest_look a S k.conn r.inlet q) low in
    let upper : k.taken ≤ length (sent a (entries S) k.conn) = subst (λ (l : List Item). k.taken ≤ length l) q.items high in
    and_from _ true (and_from _ _ (le-leb (looked (entries S) k.conn) k.taken lower) (le-leb k.taken (length (sent a (entries S) k.conn)) upper)) refl

pub can_be : (a : About) (S : List Stamped) (t : Row → Bool) (full : Option End) (o : List ℕ) (r : Row) (x : Fate) (s : Row) → IsInletOf a S (number r) r.inlet → Befalls t full o r x s
    → list_all (λ k. can_find a (entries S) k.conn k.taken) (looks_in x) ≡ true
can_be a S t full o r Unmeant s p h = refl
can_be a S t full o r (TooLong c) s p h = refl
can_be a S t full o r (Entered k) s p h = look_can a S r k p h.1.0.conn h.1.0.look.later h.1.0.look.within
can_be a S t full o r (FoundFull k) s p h = look_can a S r k p h.1.0.conn h.1.0.look.later h.1.0.look.within

pub can_all : (a : About) (S : List Stamped) (t : Row → Bool) (full : Option End) (o : List ℕ) (rows : List Row) (fates : List Fate) (after : List Row)
    → AllByRecursion (λ r. IsInletOf a S r.connection.number r.inlet) rows → AllBefall t full o rows fates after → list_all (λ k. can_find a (entries S) k.conn k.taken) (looks_of fates) ≡ true
can_all a S t full o [] [] [] all h = refl
can_all a S t full o (r ∷ rows) (x ∷ fates) (s ∷ after) all h =
    let f = λ (k : Look). can_find a (entries S) k.conn k.taken in
    list_all-append f (looks_in x) (looks_of fates) ∙ and_from (list_all f (looks_in x)) (list_all f (looks_of fates)) (can_be a S t full o r x s all.0 h.0)
    (can_all a S t full o rows fates after all.1 h.1)
can_all a S t full o rows fates after all h = absurd h

-- by its own look a row is found full exactly where the frame found it so

pub full_seen : (a : About) (S : List Stamped) (t : Row → Bool) (full : Option End) (o : List ℕ) (looks : List Look) (r : Row) (x : Fate) (s : Row) → IsInletOf a S (number r) r.inlet
    → filter (λ k. k.conn == number r) looks ≡ looks_in x → Befalls t full o r x s → is_found_full a (sent a (entries S) (number r)) looks (number r) ≡ is_full x
full_seen a S t full o looks r x s p seen h =
    let E = sent a (entries S) (number r) in
    let f = λ (k : Look). finds_full a E k.taken in
    any_seen (number r) f looks ∙ ap (list_any f) seen ∙ at x h
  where
    at : (x : Fate) → Befalls t full o r x s → list_any (λ k. finds_full a (sent a (entries S) (number r)) k.taken) (looks_in x) ≡ is_full x
    at Unmeant h = refl
    at (TooLong c) h = refl
    at (Entered k) h =
        let len = ap length p.items in
        let cap = p.holds in
        let room = h.1.1.room in
        let within = h.1.0.look.within in
        or_last _ ∙ ne_eqb (length (sent a (entries S) (number r)) - k.taken) a.limits.outbox (λ same. let bad : ⊥ = omega arith in bad)
    at (FoundFull k) h =
        let len = ap length p.items in
        let cap = p.holds in
        let was = h.1.1.full in
        let within = h.1.0.look.within in
        or_last _ ∙ eq-eqb (length (sent a (entries S) (number r)) - k.taken) a.limits.outbox (omega arith)
