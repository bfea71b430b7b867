-- What the link is told follows from the entries that are made.
-- It serves clauses of most source files here.
use Rattle.std.proofs.Common.{◌≡◌, ℕ, true, List, [], ◌∷◌, ◌++◌, refl, ap, sym, ◌∙◌, append-nil, append_assoc, Option, Some, None, is_some}
use Rattle.bsc_history.specs.declared.entry.Entry.{Entry}
use Rattle.bsc_turn.specs.declared.pass.Pass.{Pass}
use Rattle.bsc_turn.specs.Passes.{own_list}
use Rattle.bsc_hub.specs.declared.hub.Hub.{Hub}
use Rattle.bsc_hub.specs.Passing.{Passed, Placed}
use Rattle.bsc_edge.specs.declared.notice.Notice.{Notice}
use Rattle.bsc_edge.specs.declared.notice.Notice.TheVariants.{Asked}
use Rattle.bsc_edge.specs.Told.{Grows}
use Rattle.bsc_edge.proofs.Common.{grows_none, grows_then}
use Rattle.bsc_session.specs.Notices.{AsksOnce, Notifies, notices_after, notices_by, notices_of}
use Rattle.bsc_session.specs.Receiving.{Hearing}
use Rattle.bsc_session.specs.Standings.{Standing, Terms}
use Rattle.bsc_session.specs.Turns.{entries_after}
use Rattle.bsc_session.proofs.HubCalls.{entry_made, goes_passed}

pub notices_append : (E F : List Entry) → notices_of (E ++ F) ≡ notices_of E ++ notices_of F
notices_append [] F = refl
notices_append (e ∷ E) F = ap (λ x. notices_by e.reply ++ x) (notices_append E F) ∙ sym (append_assoc (notices_by e.reply) (notices_of E) (notices_of F))

-- no call was made
pub notifies_nobody : (p q : Pass) (n k : Option (List Notice)) → q ≡ p → k ≡ n → Notifies p q n k
notifies_nobody p q n k same is = rw (same, is) (record { E = []; own = sym (append-nil (own_list p)); told = grows_none n })

-- a call made no entry
pub notifies_none : (h : Hub) (p q : Pass) (n k : Option (List Notice)) → Passed h p [] None q → k ≡ n → Notifies p q n k
notifies_none h p q n k went is = rw is (record { E = []; own = (goes_passed h p q None went).own; told = grows_none n })

-- a call made this entry
pub notifies_one : (h : Hub) (p q : Pass) (m : Placed) (n k l : Option (List Notice)) → Passed h p [] (Some m) q
    → Grows n k (notices_by m.stamped.entry.reply) → l ≡ k → Notifies p q n l
notifies_one h p q m n k l went told is = rw is (record {
  E = entry_made (Some m);
  own = (goes_passed h p q (Some m) went).own;
  told = rw (append-nil (notices_by m.stamped.entry.reply)) told;
})

-- a receive was made, and then no call
pub asks_nobody : (p : Pass) (n k : Option (List Notice)) → Grows n k (Asked ∷ []) → AsksOnce p p n k
asks_nobody p n k asked = record { E = []; own = sym (append-nil (own_list p)); told = asked }

-- a receive was made, and then these calls
pub asks_then : (p q : Pass) (n k l : Option (List Notice)) → Grows n k (Asked ∷ []) → Notifies p q k l → AsksOnce p q n l
asks_then p q n k l asked a = record { E = a.E; own = a.own; told = grows_then n k l (Asked ∷ []) (notices_of a.E) asked a.told }

-- a turn with a receive is told of as one
pub after_receive : (v : Terms) (s : Standing) (now : ℕ) (h : Option Hearing) → is_some h ≡ true → notices_after v s now h ≡ Asked ∷ notices_of (entries_after v s now h)
after_receive v s now None some = cc
after_receive v s now (Some h) some = refl
