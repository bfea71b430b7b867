-- What a connect that joined gives its caller.
-- It serves the clauses of `connect`.
use Rattle.std.proofs.Common.{◌≡◌, ℕ, ◌<◌, ◌+◌, true, false, List, [], ◌∷◌, ◌++◌, length, Some, refl, ap, sym, ◌∙◌, subst, arith}
use Rattle.std.specs.Prelude.{IfOk, Result, Ok, Err}
use Rattle.std.specs.List.{list_any}
use Rattle.std.proofs.lemmas.Bool.{eq-eqb, both_ways}
use Rattle.bsc_octets.specs.declared.identity.Identity.{Identity}
use Rattle.bsc_history.specs.declared.connection.Connection.{Connection}
use Rattle.bsc_history.specs.declared.entry.Entry.{Entry}
use Rattle.bsc_history.specs.declared.mark.Stamped.{Stamped}
use Rattle.bsc_history.specs.declared.reply.Reply.TheVariants.{Joined as JoinedReply}
use Rattle.bsc_history.specs.Ends.{joined}
use Rattle.bsc_history.specs.Entries.{joins}
use Rattle.bsc_history.specs.Legality.{Legal, is_of}
use Rattle.bsc_history.specs.Marks.{entries, mark_of}
use Rattle.bsc_history.specs.Outboxes.{vmac_of}
use Rattle.bsc_history.proofs.Fresh.{fresh_joins}
use Rattle.bsc_history.proofs.Lifting.{join_owned}
use Rattle.bsc_history.proofs.Marks.{mark_new}
use Rattle.bsc_history.proofs.More.{Legal-front, entries-more}
use Rattle.bsc_history.proofs.Uniqueness.{comes}
use Rattle.bsc_ring.specs.Ends.{outlet_mark}
use Rattle.bsc_turn.specs.declared.pass.Pass.{Pass}
use Rattle.bsc_turn.specs.Passes.{number_of, seen}
use Rattle.bsc_desk.specs.Entries.{connect_stamped}
use Rattle.bsc_hub.specs.declared.hub.Hub.{Hub}
use Rattle.bsc_hub.specs.declared.joined.ConnectRefusal.{ConnectRefusal}
use Rattle.bsc_hub.specs.declared.joined.Joined.{Joined}
use Rattle.bsc_hub.specs.Calls.{connect_made}
use Rattle.bsc_hub.specs.Passing.{IsOwnAs, Passed, about_of}
use Rattle.bsc_history.proofs.Connections.{new_address}

-- The connection is its caller's own under the address that it asked for, and the history keeps the mark of its outlet.
owns_joined : (h : Hub) (p q : Pass) (who : Identity) (r : Result Joined ConnectRefusal) → Passed h p [] (connect_made (number_of p) who r) q
    → IfOk r (λ j. IsOwnAs q j.conn who.vmac × (mark_of (seen q) j.conn ≡ Some (outlet_mark j.outlet)))
owns_joined h p q who (Err refusal) passed = tt
owns_joined h p q who (Ok j) passed =
    let n = number_of p in
    let c = j.conn in
    let m = passed.makes in
    let s : Stamped = connect_stamped n who (outlet_mark j.outlet) (JoinedReply c j.replaced) in
    let G = entries m.before in
    let e = s.entry in
    let x : Connection = record { number = c; caller = n; who = who } in
    let split : entries (seen q) ≡ G ++ e ∷ [] = ap entries m.ends ∙ entries-more m.before s in
    let two = Legal-front (about_of h) G e (subst (Legal (about_of h)) split passed.caller.1) in
    let next : c ≡ 1 + length (joined G) = (comes (about_of h) G e x two.1 refl).0 in
    let none : list_any (joins c) G ≡ false = fresh_joins (about_of h) G c two.0 (omega (arith, next)) in
    let here : joins c e ≡ true = eq-eqb c c refl in (
      (
        subst (λ k. is_of (entries (seen q)) k c ≡ true) (sym passed.number) (subst (λ l. is_of l n c ≡ true) (sym split) (join_owned G e x refl)),
        ap (λ (l : List Entry). vmac_of l c) split ∙ new_address G e x refl none,
      ),
      subst (λ l. mark_of l c ≡ Some (outlet_mark j.outlet)) (sym m.ends) (mark_new m.before s c none here),
    )

pub joined_owns : (h : Hub) (p q : Pass) (who : Identity) (r : Result Joined ConnectRefusal) → Passed h p [] (connect_made (number_of p) who r) q → IfOk r (λ j. IsOwnAs q j.conn who.vmac)
joined_owns h p q who (Err refusal) passed = tt
joined_owns h p q who (Ok j) passed = (owns_joined h p q who (Ok j) passed).0

pub joined_marked : (h : Hub) (p q : Pass) (who : Identity) (r : Result Joined ConnectRefusal) → Passed h p [] (connect_made (number_of p) who r) q
    → IfOk r (λ j. mark_of (seen q) j.conn ≡ Some (outlet_mark j.outlet))
joined_marked h p q who (Err refusal) passed = tt
joined_marked h p q who (Ok j) passed = (owns_joined h p q who (Ok j) passed).1
