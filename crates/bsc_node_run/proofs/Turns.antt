-- The parts of a turn, from what its steps did.
-- It serves clauses of functions of `hearing` and `in_hand`.
use Rattle.std.proofs.Common.{◌≡◌, ◌≤◌, ◌<◌, inl, inr, ℕ, suc, ◌+◌, ◌-◌, true, false, not, ◌&&◌, List, [], ◌∷◌, length, Option, Some, None, is_some, Result, Ok, Err, get_or, take}
use Rattle.std.proofs.Common.{drop, refl, ap, sym, ◌∙◌, subst, arith}
use Rattle.std.specs.List.{list_any}
use Rattle.std.proofs.lemmas.Bool.{false≢true}
use Rattle.std.proofs.lemmas.List.{take_all}
use Rattle.std.proofs.lemmas.Option.{none-some, same_Some}
use Rattle.bsc_edge.specs.declared.fault.LinkFault.{LinkFault}
use Rattle.bsc_edge.specs.declared.fault.LinkFault.TheVariants.{Failed, NoMemory}
use Rattle.bsc_edge.specs.declared.incoming.Incoming.{Incoming}
use Rattle.bsc_edge.specs.declared.incoming.Incoming.TheVariants.{Message, Text, Quiet, Closed}
use Rattle.bsc_edge.specs.declared.said.Said.{Said}
use Rattle.bsc_node.specs.declared.link_name.LinkName.{LinkName}
use Rattle.bsc_node.specs.declared.link_name.LinkName.TheVariants.{Direct}
use Rattle.bsc_node.specs.declared.node_event.NodeEvent.{NodeEvent}
use Rattle.bsc_node.specs.declared.node_event.NodeEvent.TheVariants.{Came, CameText, Lost}
use Rattle.bsc_node.specs.declared.action.Action.{Action}
use Rattle.bsc_node_run.specs.declared.due.Due.{Due}
use Rattle.bsc_node_run.specs.declared.news.News.{News}
use Rattle.bsc_node_run.specs.Calling.{IsHeard}
use Rattle.bsc_node_run.specs.Receiving.{IsLast, Received, WasGiven, left_by, told_of}
use Rattle.bsc_node_run.specs.Stopping.{Misses}
use Rattle.bsc_node_run.specs.Turning.{Gives, GivesIn, HearsEach, HearsIf, HearsOf, IsNotDue, LinkHears, slots_from}
use Rattle.bsc_node_run.specs.Worlds.{World, Same, is_of, is_open, with_link, ends}
use Rattle.bsc_node_run.proofs.Worlds.{same}

module _ {L : Type 0} where
  -- What is due stays so.
  pub emptied : (w : World L) (due : List News) → w.due ≡ due → Same (record w { due = due }) w
  emptied w due e = record { link = λ name. refl; arrived = refl; over = refl; due = sym e; waiting = refl; finished = refl; dialled = refl; held = refl }

  -- a link that isn't there isn't open
  none_open : (name : LinkName) (w : World L) → w.link name ≡ None → is_open name w ≡ false
  none_open name w e = ap (λ (o : Option L). is_some o && not (list_any (is_of name) w.waiting)) e

-- ---- what is due

-- the first line, which isn't due
pub not_due : (passed : ℕ) (xs : List Due) (d x : Due) → d ≡ get_or xs 0 x → passed < d.at → IsNotDue passed xs
not_due passed [] d x e p = tt
not_due passed (y ∷ ys) d x e p = subst (λ (z : Due). passed < z.at) e p

-- no line
pub none_due : (passed : ℕ) (xs : List Due) → length xs < 1 → IsNotDue passed xs
none_due passed [] h = tt
none_due passed (y ∷ ys) h = absurd (omega (arith, h))

-- the first line, and those behind it
pub cut_first : (xs ys : List Due) (d x : Due) → 1 ≤ length xs → d ≡ get_or xs 0 x → take (length xs - 1) (drop 1 xs) ≡ ys → xs ≡ d ∷ ys
cut_first [] ys d x h e p = absurd (omega (arith, h))
cut_first (y ∷ zs) ys d x h e p = ap (λ (z : Due). z ∷ zs) (sym e) ∙ ap (λ (l : List Due). d ∷ l) (sym (take_all (length (y ∷ zs) - 1) zs (omega arith)) ∙ p)

-- ---- what is new

-- what is left where nothing was taken is nothing
pub none_left : (xs : List News) → xs ≡ drop 1 xs → xs ≡ []
none_left [] e = refl
none_left (y ∷ ys) e = (let k : length (y ∷ ys) ≡ length ys = ap length e in absurd (omega (arith, k)))

-- ---- what is received

module _ {L : Type 0} (talk : L → Option (List Said)) where
  pub received : (name : LinkName) (before after : Option L) (given : Result Incoming LinkFault) (e : Option NodeEvent) (w v : World L) → WasGiven given
      → IsHeard talk before after (Some given) → e ≡ told_of name given → ((l : L) → after ≡ Some l → Same v (left_by name l given w)) → Received talk name before e w v
  received name (Some k) (Some l) given e w v ok g told s = (l, given, ok, g, told, s l refl)
  received name (Some k) None given e w v ok g told s = absurd g
  received name None (Some l) given e w v ok g told s = absurd g
  received name None None given e w v ok g told s = absurd g

  -- There was no memory for what was received.
  pub missed_memory : (name : LinkName) (before after : Option L) (w v : World L) → IsHeard talk before after (Some (Err NoMemory))
      → ((l : L) → after ≡ Some l → Same v (with_link name (Some l) w)) → Misses talk name before w v
  missed_memory name (Some k) (Some l) w v g s = (l, inl (g, s l refl))
  missed_memory name (Some k) None w v g s = absurd g
  missed_memory name None (Some l) w v g s = absurd g
  missed_memory name None None w v g s = absurd g

  -- The link is over, and there was no memory to keep it.
  pub missed_last : (name : LinkName) (before after : Option L) (given : Result Incoming LinkFault) (w v : World L) → IsLast given → IsHeard talk before after (Some given)
      → Same v (with_link name None w) → Misses talk name before w v
  missed_last name (Some k) (Some l) given w v last g s = (l, inr (given, last, g, s))
  missed_last name (Some k) None given w v last g s = absurd g
  missed_last name None (Some l) given w v last g s = absurd g
  missed_last name None None given w v last g s = absurd g

  -- nothing is received where there is no link
  pub unheard : (name : LinkName) (before after : Option L) (w v : World L) → IsHeard talk before after None → Received talk name before None w v
  unheard name (Some k) (Some l) w v g = absurd g
  unheard name (Some k) None w v g = absurd g
  unheard name None after w v g = refl

module _ {N L : Type 0} (goes : N → ℕ → NodeEvent → List Action → N → Type 0) (talk : L → Option (List Said)) (now : ℕ) where
  -- ---- what is heard

  told_in : (e d : NodeEvent) (n m : N) (w x v : World L) → Some e ≡ Some d → Same x w → Gives goes talk now e n x m v → GivesIn goes talk now d n w m v
  told_in e d n m w x v is s g = (x, s, subst (λ c. Gives goes talk now c n x m v) (same_Some e d is) g)

  hears_of : (name : LinkName) (l : L) (given : Result Incoming LinkFault) (e : NodeEvent) (n m : N) (w x v : World L) → WasGiven given → Some e ≡ told_of name given
      → Same x (left_by name l given w) → Gives goes talk now e n x m v → HearsOf goes talk now name l given n w m v
  hears_of name l (Ok (Message o)) e n m w x v ok is s g = told_in e (Came name o) n m (with_link name (Some l) w) x v is s g
  hears_of name l (Ok Text) e n m w x v ok is s g = told_in e (CameText name) n m (with_link name (Some l) w) x v is s g
  hears_of name l (Ok Quiet) e n m w x v ok is s g = absurd (none-some e (sym is))
  hears_of name l (Ok Closed) e n m w x v ok is s g = told_in e (Lost name) n m (ends name l w) x v is s g
  hears_of name l (Err Failed) e n m w x v ok is s g = told_in e (Lost name) n m (ends name l w) x v is s g
  hears_of name l (Err NoMemory) e n m w x v ok is s g = absurd ok

  hears_quiet : (name : LinkName) (l : L) (given : Result Incoming LinkFault) (n : N) (w v : World L) → WasGiven given → None ≡ told_of name given
      → Same v (left_by name l given w) → HearsOf goes talk now name l given n w n v
  hears_quiet name l (Ok (Message o)) n w v ok is s = absurd (none-some (Came name o) is)
  hears_quiet name l (Ok Text) n w v ok is s = absurd (none-some (CameText name) is)
  hears_quiet name l (Ok Quiet) n w v ok is s = (refl, s)
  hears_quiet name l (Ok Closed) n w v ok is s = absurd (none-some (Lost name) is)
  hears_quiet name l (Err Failed) n w v ok is s = absurd (none-some (Lost name) is)
  hears_quiet name l (Err NoMemory) n w v ok is s = absurd ok

  hears_some_in : (name : LinkName) (e : NodeEvent) (n m : N) (w x v : World L) (o : Option L) → w.link name ≡ o → true ≡ is_open name w
      → Received talk name o (Some e) w x → Gives goes talk now e n x m v → LinkHears goes talk now name n w m v
  hears_some_in name e n m w x v None is up r g = absurd (none-some e (sym r))
  hears_some_in name e n m w x v (Some k) is up (l, given, ok, grows, told, s) g =
      subst (λ b. HearsIf goes talk now name b n w m v) up (k, l, given, is, grows, hears_of name l given e n m w x v ok told s g)

  -- Something came.
  pub hears_some : (name : LinkName) (e : NodeEvent) (n m : N) (w x v : World L) → true ≡ is_open name w
      → Received talk name (w.link name) (Some e) w x → Gives goes talk now e n x m v → LinkHears goes talk now name n w m v
  hears_some name e n m w x v up r g = hears_some_in name e n m w x v (w.link name) refl up r g

  hears_none_in : (name : LinkName) (n : N) (w v : World L) (o : Option L) → w.link name ≡ o → true ≡ is_open name w
      → Received talk name o None w v → LinkHears goes talk now name n w n v
  hears_none_in name n w v None is up r = absurd (false≢true (sym (up ∙ none_open name w is)))
  hears_none_in name n w v (Some k) is up (l, given, ok, grows, told, s) =
      subst (λ b. HearsIf goes talk now name b n w n v) up (k, l, given, is, grows, hears_quiet name l given n w v ok told s)

  -- Nothing came.
  pub hears_none : (name : LinkName) (n : N) (w v : World L) → true ≡ is_open name w → Received talk name (w.link name) None w v → LinkHears goes talk now name n w n v
  hears_none name n w v up r = hears_none_in name n w v (w.link name) refl up r

  -- It isn't open.
  pub hears_closed : (name : LinkName) (n : N) (w : World L) → false ≡ is_open name w → LinkHears goes talk now name n w n w
  hears_closed name n w shut = subst (λ b. HearsIf goes talk now name b n w n w) shut (refl, same w)

  -- one slot more, of those that are left
  pub slot_more : (left rest k : ℕ) (n p m : N) (w x v : World L) → left ≡ suc rest → LinkHears goes talk now (Direct k) n w p x
      → HearsEach goes talk now (slots_from rest (k + 1)) p x m v → HearsEach goes talk now (slots_from left k) n w m v
  slot_more left rest k n p m w x v e h r = subst (λ c. HearsEach goes talk now (slots_from c k) n w m v) (sym e) (p, x, h, r)

  -- no slot is left
  pub slots_over : (left k : ℕ) (n : N) (w : World L) → left ≡ 0 → HearsEach goes talk now (slots_from left k) n w n w
  slots_over left k n w e = subst (λ c. HearsEach goes talk now (slots_from c k) n w n w) (sym e) (refl, same w)
