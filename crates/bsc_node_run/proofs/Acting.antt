-- What one action comes to, from what its steps did.
-- It serves clauses of functions of `link_set` and `performing`.
use Rattle.std.proofs.Common.{◌≡◌, inl, inr, ℕ, ◌<◌, ◌≤◌, ◌==◌, zero, suc, Bool, true, false, ◌&&◌, if◌then◌else◌, List, [], ◌∷◌, length, Option, Some, None, Ok, Err, refl, ap}
use Rattle.std.proofs.Common.{sym, ◌∙◌, subst, arith, slice_get, slice_set}
use Rattle.std.proofs.lemmas.Bool.{eqb-true, false≢true, lt-ltb}
use Rattle.std.proofs.lemmas.Option.{slice_get-get_or, slice_get_past}
use Rattle.std.proofs.lemmas.List.{get_or-set_same, length-set}
use Rattle.bsc_connector.specs.declared.side.Side.TheVariants.{Primary, Failover}
use Rattle.bsc_direct.specs.declared.bounds.TheConstants.{SLOTS}
use Rattle.bsc_edge.specs.declared.fault.LinkFault.TheVariants.{Failed, NoMemory}
use Rattle.bsc_edge.specs.declared.said.Said.{Said}
use Rattle.bsc_edge.specs.Told.{Grows}
use Rattle.bsc_accept.specs.declared.closing.Closing.{Closing}
use Rattle.bsc_node.specs.declared.link_name.LinkName.{LinkName}
use Rattle.bsc_node.specs.declared.link_name.LinkName.TheVariants.{Hub, Direct}
use Rattle.bsc_node.specs.Links.{same_link}
use Rattle.bsc_node_run.specs.declared.news.Change.TheVariants.{Opened, DialFailed, Lost}
use Rattle.bsc_node_run.specs.Worlds.{World, Same, with_link, with_news, with_over, without_arrived, ends, forgets, link_among, link_if, is_name}
use Rattle.bsc_node_run.specs.Performing.{Dials, IsAnswered, Takes, Refuses, IsClosed, Puts, Closes, kind_of}
use Rattle.bsc_node_run.specs.Stopping.{ClosesPart, IsOut, PutsPart, RefusesPart}
use Rattle.bsc_node_run.specs.Calling.{IsPut}
use Rattle.bsc_node_run.proofs.Worlds.{same_then, on_link, on_news, on_over, link_again, link_news, ends_again, closed_so, closed_none, none_kept}
use Rattle.bsc_lemmas.proofs.Booleans.{eq_self as same_number}

-- ---- a link in a slot

other_kept : {A : Type 0} (xs : List A) (k j : ℕ) (x : A) → (k ≡ j → ⊥) → slice_get (slice_set xs k x) j ≡ slice_get xs j
other_kept [] k j x ne = refl
other_kept (y ∷ ys) zero zero x ne = absurd (ne refl)
other_kept (y ∷ ys) zero (suc j) x ne = refl
other_kept (y ∷ ys) (suc k) zero x ne = refl
other_kept (y ∷ ys) (suc k) (suc j) x ne = other_kept ys k j x (λ e. ne (ap suc e))

module _ {L : Type 0} where
  set_here : (xs : List (Option L)) (k : ℕ) (x : Option L) → k < length xs → link_if (slice_get (slice_set xs k x) k) ≡ x
  set_here xs k x h =
      ap link_if (slice_get-get_or (slice_set xs k x) k x (subst (λ n. k < n) (sym (length-set xs k x)) h))
      ∙ get_or-set_same xs k x x h

  pub slot_set : (p f : Option L) (xs : List (Option L)) (k : ℕ) (x : Option L) (b : Bool) → b ≡ true → k < length xs → (other : LinkName)
      → link_among other p f (slice_set xs k x) ≡ (if same_link (Direct k) other && b then x else link_among other p f xs)
  slot_set p f xs k x b t h (Hub Primary) = refl
  slot_set p f xs k x b t h (Hub Failover) = refl
  slot_set p f xs k x b t h (Direct j) = by (k == j) refl
    where
      by : (c : Bool) → (k == j) ≡ c → link_if (slice_get (slice_set xs k x) j) ≡ (if c && b then x else link_if (slice_get xs j))
      by true e = subst (λ n. link_if (slice_get (slice_set xs k x) n) ≡ x) (eqb-true k j e) (set_here xs k x h) ∙ ap (λ c. if c then x else link_if (slice_get xs j)) (sym t)
      by false e = ap link_if (other_kept xs k j x (λ same. false≢true (sym e ∙ ap (λ n. k == n) (sym same) ∙ same_number k)))

  pub slot_named : (name : LinkName) (k : ℕ) (p f : Option L) (xs ys : List (Option L)) (x : Option L) → name ≡ Direct k → ys ≡ slice_set xs k x → k < SLOTS → length xs ≡ SLOTS → (other : LinkName)
      → link_among other p f ys ≡ (if same_link name other && is_name name then x else link_among other p f xs)
  slot_named name k p f xs ys x n e h l other =
      ap (λ (zs : List (Option L)). link_among other p f zs) e
      ∙ slot_set p f xs k x (is_name (Direct k)) (lt-ltb k SLOTS h) (omega (arith, h, l)) other
      ∙ ap (λ m. if same_link m other && is_name m then x else link_among other p f xs) (sym n)

  -- A link in a slot was called where it stands.
  pub slot_called : (name : LinkName) (k : ℕ) (p f : Option L) (xs ys : List (Option L)) → name ≡ Direct k → ys ≡ slice_set xs k (link_if (slice_get ys k)) → k < SLOTS → length xs ≡ SLOTS
      → (other : LinkName)
      → link_among other p f ys ≡ (if same_link name other && is_name name then link_among name p f ys else link_among other p f xs)
  slot_called name k p f xs ys n e h l other =
      slot_named name k p f xs ys (link_if (slice_get ys k)) n e h l other
      ∙ ap (λ (x : Option L). if same_link name other && is_name name then x else link_among other p f xs) (sym (ap (λ m. link_among m p f ys) n))

  pub none_past : (name : LinkName) (k : ℕ) (p f : Option L) (xs : List (Option L)) → name ≡ Direct k → length xs ≡ SLOTS → SLOTS ≤ k → None ≡ link_among name p f xs
  none_past name k p f xs n l h = sym (ap (λ m. link_among m p f xs) n ∙ ap link_if (slice_get_past xs k (omega (arith, h, l))))

  -- ---- dials

  pub dials_ok : (name : LinkName) (uri : List ℕ) (w x v : World L) (l : L)
      → Grows w.dialled.calls v.dialled.calls (record { uri = uri; kind = kind_of name; came = true } ∷ []) → IsAnswered (Some l) w.dialled v.dialled
      → Same x (with_link name (Some l) (record w { dialled = v.dialled })) → Same v (with_news name Opened x) → Dials name uri w v
  dials_ok name uri w x v l g a s t = (Some l, g, a, link_news (record w { dialled = v.dialled }) x v name (Some l) Opened s t)

  pub dials_failed : (name : LinkName) (uri : List ℕ) (w v : World L)
      → Grows w.dialled.calls v.dialled.calls (record { uri = uri; kind = kind_of name; came = false } ∷ []) → IsAnswered None w.dialled v.dialled
      → Same v (with_news name DialFailed (record w { dialled = v.dialled })) → Dials name uri w v
  dials_failed name uri w v g a t = (None, g, a, t)

  -- ---- the link that arrived

  taken_none : (w x : World L) → None ≡ w.arrived → Same x (without_arrived w) → Same x w
  taken_none w x e s = record { link = s.link; arrived = s.arrived ∙ e; over = s.over; due = s.due; waiting = s.waiting; finished = s.finished; dialled = s.dialled; held = s.held }

  pub takes_none : (name : LinkName) (w x : World L) → None ≡ w.arrived → Same x (without_arrived w) → Takes name w.arrived w x
  takes_none name w x e s = subst (λ (o : Option L). Takes name o w x) e (taken_none w x e s)

  pub takes_some : (name : LinkName) (w x v : World L) (l : L) → Some l ≡ w.arrived → Same x (without_arrived w) → Same v (with_link name (Some l) x) → Takes name w.arrived w v
  takes_some name w x v l e s t = subst (λ (o : Option L). Takes name o w v) e
      (same_then v (with_link name (Some l) x) (with_link name (Some l) (without_arrived w)) t (on_link x (without_arrived w) name (Some l) s))

module _ {L : Type 0} (talk : L → Option (List Said)) where
  pub refuses_none : (c : Closing) (w x : World L) → None ≡ w.arrived → Same x (without_arrived w) → Refuses talk c w.arrived w x
  refuses_none c w x e s = subst (λ (o : Option L). Refuses talk c o w x) e (taken_none w x e s)

  pub refuses_some : (c : Closing) (w x v : World L) (l : L) → Some l ≡ w.arrived → Same x (without_arrived w)
      → (m : L) × IsClosed talk c l m × Same v (with_over m x) → Refuses talk c w.arrived w v
  refuses_some c w x v l e s k = subst (λ (o : Option L). Refuses talk c o w v) e
      (k.0, k.1, same_then v (with_over k.0 x) (with_over k.0 (without_arrived w)) k.2 (on_over x (without_arrived w) k.0 s))

  -- It was closed, and there was no memory to keep it.
  pub refuses_part : (c : Closing) (w x v : World L) (l : L) → Some l ≡ w.arrived → Same x (without_arrived w)
      → (m : L) × IsClosed talk c l m × Same v x → RefusesPart talk c w.arrived w v
  refuses_part c w x v l e s k = subst (λ (o : Option L). RefusesPart talk c o w v) e (k.0, k.1, same_then v x (without_arrived w) k.2 s)

  -- ---- puts

  pub puts_ok : (name : LinkName) (o : List ℕ) (before after : Option L) (w v : World L) → before ≡ w.link name → IsPut talk o before after (Ok tt)
      → Same v (with_link name after w) → Puts talk name o before w v
  puts_ok name o (Some k) (Some l) w v e p s = (l, inl (p, s))
  puts_ok name o (Some k) None w v e p s = absurd p
  puts_ok name o None (Some l) w v e p s = absurd p
  puts_ok name o None None w v e p s = none_kept w v name (sym e) s

  pub puts_failed : (name : LinkName) (o : List ℕ) (before after : Option L) (w x v : World L) → IsPut talk o before after (Err Failed)
      → Same x (with_link name after w) → ((l : L) → after ≡ Some l → Same v (with_news name Lost (ends name l x))) → Puts talk name o before w v
  puts_failed name o (Some k) (Some l) w x v p s lost = (
    l,
    inr (
      p,
      same_then v (with_news name Lost (ends name l x)) (with_news name Lost (ends name l w)) (lost l refl)
          (on_news (ends name l x) (ends name l w) name Lost (ends_again w x name (Some l) l s)),
    ),
  )
  puts_failed name o (Some k) None w x v p s lost = absurd p
  puts_failed name o None (Some l) w x v p s lost = absurd p
  puts_failed name o None None w x v p s lost = absurd p

  -- There was no memory for a put.
  pub puts_unmet : (name : LinkName) (o : List ℕ) (before after : Option L) (w v : World L) → IsPut talk o before after (Err NoMemory)
      → Same v (with_link name after w) → PutsPart talk name o before w v
  puts_unmet name o (Some k) (Some l) w v p s = (l, inl (p, s))
  puts_unmet name o (Some k) None w v p s = absurd p
  puts_unmet name o None (Some l) w v p s = absurd p
  puts_unmet name o None None w v p s = absurd p

  -- A put failed, and there was no memory for what follows.
  pub puts_lost : (name : LinkName) (o : List ℕ) (before after : Option L) (w x v : World L) → IsPut talk o before after (Err Failed)
      → Same x (with_link name after w) → ((l : L) → after ≡ Some l → IsOut name l x v) → PutsPart talk name o before w v
  puts_lost name o (Some k) (Some l) w x v p s lost = (l, inr (p, by (lost l refl)))
    where
      by : IsOut name l x v → IsOut name l w v
      by (inl t) = inl (same_then v (ends name l x) (ends name l w) t (ends_again w x name (Some l) l s))
      by (inr t) = inr (link_again w x v name (Some l) None s t)
  puts_lost name o (Some k) None w x v p s lost = absurd p
  puts_lost name o None (Some l) w x v p s lost = absurd p
  puts_lost name o None None w x v p s lost = absurd p

  -- ---- closes

  pub closes_none : (name : LinkName) (c : Closing) (w a v : World L) → Same a (forgets name w) → None ≡ a.link name → Same v (with_link name None a) → Closes talk name c (w.link name) w v
  closes_none name c w a v s e t = subst (λ (l : Option L). Closes talk name c l w v) (e ∙ s.link name) (closed_none w a v name (sym e) s t)

  pub closes_some : (name : LinkName) (c : Closing) (w a x v : World L) (l : L) → Same a (forgets name w) → Some l ≡ a.link name → Same x (with_link name None a)
      → (m : L) × IsClosed talk c l m × Same v (with_over m x) → Closes talk name c (w.link name) w v
  closes_some name c w a x v l s e t k = subst (λ (o : Option L). Closes talk name c o w v) (e ∙ s.link name) (k.0, k.1, closed_so w a x v name k.0 s t k.2)

  -- It was closed, and there was no memory to keep it.
  pub closes_part : (name : LinkName) (c : Closing) (w a x v : World L) (l : L) → Same a (forgets name w) → Some l ≡ a.link name → Same x (with_link name None a)
      → (m : L) × IsClosed talk c l m × Same v x → ClosesPart talk name c (w.link name) w v
  closes_part name c w a x v l s e t k =
      let out : Same x (with_link name None (forgets name w)) = same_then x (with_link name None a) (with_link name None (forgets name w)) t (on_link a (forgets name w) name None s) in
      subst (λ (o : Option L). ClosesPart talk name c o w v) (e ∙ s.link name) (k.0, k.1, same_then v x (with_link name None (forgets name w)) k.2 out)
