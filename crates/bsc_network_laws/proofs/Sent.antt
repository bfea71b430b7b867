-- An NPDU that a node puts is that of a Send, by the laws of a node.
-- It serves clauses of functions of `laws`.
use Rattle.std.proofs.Common.{◌≡◌, ◌⊎◌, inl, inr, ℕ, Bool, true, false, cond, List, [], ◌∷◌, Some, refl, ap, sym, subst, ◌∙◌}
use Rattle.std.specs.Prelude.{IsTrue, filter}
use Rattle.bsc_octets.specs.declared.vmac.Vmac.{Vmac}
use Rattle.bsc_frame.specs.declared.body.Body.TheVariants.{Npdu}
use Rattle.bsc_node.specs.declared.link_name.LinkName.{LinkName}
use Rattle.bsc_node.specs.declared.node_event.NodeEvent.TheVariants.{Send}
use Rattle.bsc_node.specs.declared.timed_event.TimedEvent.{TimedEvent}
use Rattle.bsc_node.specs.declared.action.Action.TheVariants.{Put, Deliver}
use Rattle.bsc_node.specs.declared.delivered.Delivered.{Delivered}
use Rattle.bsc_node.specs.Conditions.{may_come}
use Rattle.bsc_node.specs.Laws.{with_event, puts_npdu, npdus_put, IsPutOnce, delivers_npdu, delivered_at, IsDeliveredOnce}
use Rattle.bsc_node.specs.Logs.{Made, Log}
use Rattle.bsc_node.specs.Node.{actions_at}
use Rattle.bsc_node.specs.Requesting.{own_message}
use Rattle.bsc_node.specs.Ways.{Way, way}
use Rattle.bsc_node.proofs.Sending.{npdus_are_put_once}
use Rattle.bsc_node.proofs.Delivering.{delivers_what_came}
use Rattle.bsc_network_laws.proofs.Acting.{Among}

-- ---- one of some, that passes a test, is one of those that pass it

pub among-filter : {A : Type 0} (test : A → Bool) (x : A) (ys : List A) → test x ≡ true → Among x ys → Among x (filter test ys)
among-filter test x [] passes h = h
among-filter test x (y ∷ ys) passes (inl same) = subst (λ b. Among x (cond b (y ∷ filter test ys) (filter test ys))) (sym (ap test (sym same) ∙ passes)) (inl same)
among-filter test x (y ∷ ys) passes (inr later) = by (test y) (among-filter test x ys passes later)
  where
    by : (b : Bool) → Among x (filter test ys) → Among x (cond b (y ∷ filter test ys) (filter test ys))
    by true g = inr g
    by false g = g

pub only : {A : Type 0} (x y : A) → Among x (y ∷ []) → x ≡ y
only x y (inl same) = same
only x y (inr none) = absurd none

-- ---- puts

-- The event is a Send, and what is put is its message, on the path that holds then.
pub record IsOfSend (a : Made) (L : Log) (e : TimedEvent) (name : LinkName) (o : List ℕ) : Type 0 where
  pub dest : Vmac
  pub npdu : List ℕ
  pub path : Way
  pub event : e.event ≡ Send dest npdu
  pub by : way dest (with_event L e) ≡ Some path
  pub name_is : name ≡ path.link
  pub octets : o ≡ own_message path (Npdu npdu) (with_event L e)

same_put : (name other : LinkName) (o p : List ℕ) → Put name o ≡ Put other p → (name ≡ other) × (o ≡ p)
same_put name other o p h = (cc, cc)

by_law : (a : Made) (L : Log) (e : TimedEvent) (name : LinkName) (o : List ℕ) → (npdus_put a L e ≡ []) ⊎ IsPutOnce a L e → Among (Put name o) (npdus_put a L e) → IsOfSend a L e name o
by_law a L e name o (inl none) among = absurd (subst (Among (Put name o)) none among)
by_law a L e name o (inr (dest, npdu, w, event, path, is)) among =
    let same = same_put name w.link o (own_message w (Npdu npdu) (with_event L e)) (only _ _ (subst (Among (Put name o)) is among)) in
    record { dest = dest; npdu = npdu; path = w; event = event; by = path; name_is = same.0; octets = same.1 }

-- An NPDU that a node puts at an event that may come is that of a Send.
pub put_is_of_send : (a : Made) (L : Log) (e : TimedEvent) (name : LinkName) (o : List ℕ) → IsTrue (may_come L e) → Among (Put name o) (actions_at a L e) → puts_npdu (Put name o) ≡ true
    → IsOfSend a L e name o
put_is_of_send a L e name o may among is = by_law a L e name o (npdus_are_put_once a L e may) (among-filter puts_npdu (Put name o) (actions_at a L e) is among)

-- ---- deliveries

delivery_by : (a : Made) (L : Log) (e : TimedEvent) (d : Delivered) → (delivered_at a L e ≡ []) ⊎ IsDeliveredOnce a L e → Among (Deliver d) (delivered_at a L e) → IsDeliveredOnce a L e
delivery_by a L e d (inl none) among = absurd (subst (Among (Deliver d)) none among)
delivery_by a L e d (inr once) among = once

-- What a node delivers at an event that may come is of the one message that came then.
pub delivery_is_of_came : (a : Made) (L : Log) (e : TimedEvent) (d : Delivered) → IsTrue (may_come L e) → Among (Deliver d) (actions_at a L e) → IsDeliveredOnce a L e
delivery_is_of_came a L e d may among = delivery_by a L e d (delivers_what_came a L e may) (among-filter delivers_npdu (Deliver d) (actions_at a L e) refl among)
