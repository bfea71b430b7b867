-- Answers of calls, written out: which is due and which isn't, what entry they make, and what parts of the edge tell by them.
-- No clause needs it: worked examples.
use Rattle.std.proofs.Common.{◌≡◌, ℕ, ◌<◌, ◌≤◌, ⊎_elim, true, false, List, [], ◌∷◌, Option, Some, None, Ok, Err, refl, ap, arith, inl, lit<, lit≤}
use Rattle.bsc_history.specs.declared.limits.About.{About}
use Rattle.bsc_history.specs.declared.reply.Reply.{Reply}
use Rattle.bsc_history.specs.declared.reply.Reply.TheVariants.{Joined, Refused, SentAll, Stopped}
use Rattle.bsc_history.specs.declared.reply.Refusal.TheVariants.{Duplicate}
use Rattle.bsc_history.specs.declared.told.Worn.{Worn}
use Rattle.bsc_history.proofs.OnLiterals.{history_on_literals}
use Rattle.bsc_edge.specs.declared.fault.LinkFault.TheVariants.{Failed}
use Rattle.bsc_edge.specs.declared.incoming.Incoming.TheVariants.{Closed, Quiet}
use Rattle.bsc_edge.specs.Held.{held_in}
use Rattle.bsc_edge.specs.Told.{Comes, IsQuiet, all_told, ended_in, is_untold}
use Rattle.bsc_turn.specs.declared.pass.Pass.{Pass}
use Rattle.bsc_turn.specs.declared.spent.NumbersSpent.{NumbersSpent}
use Rattle.bsc_turn.specs.Passes.{drawn_by, number_of}
use Rattle.bsc_desk.specs.declared.broadcasting.AllRefusal.TheVariants.{NoMemory, Worn as AllWorn}
use Rattle.bsc_desk.specs.declared.broadcasting.AllReply.{AllReply}
use Rattle.bsc_desk.specs.declared.broadcasting.AllReply.TheVariants.{Sent, Stopped as AllStopped}
use Rattle.bsc_desk.specs.Bounds.{AreLimits}
use Rattle.bsc_desk.specs.Entries.{AllSaysLimit, all_looks, all_reply, connect_due}
use Rattle.bsc_hub.specs.Calls.{all_made, all_told as told_without_place, count_made}
use Rattle.bsc_hub.specs.Passing.{Placed}
use Rattle.bsc_outside.specs.Faults.{HasRisen}
use Rattle.bsc_outside.specs.Reads.{Reads}
use Rattle.bsc_node_run.specs.declared.halt.Halt.TheVariants.{AcceptFault, WriteFault}
use Rattle.bsc_node_run.specs.Halts.{RisesOnAcceptFault, RisesOnWriteFault}
use Rattle.bsc_witnesses.proofs.Pieces.{unlike, peer, the_hub, hub_of, to_all, look, ab}

-- ---- which reply is due

-- Who asks for a free address joins; who asks for A's is refused.
joins : connect_due the_hub ab (peer 0x0C 0xCC) ≡ Some (Joined 3 None)
unfolding history_on_literals
joins = refl

is_refused : connect_due the_hub ab (peer 0x0A 0xCC) ≡ Some (Refused (Duplicate (Some 1)))
unfolding history_on_literals
is_refused = refl

joins_all_the_same : connect_due the_hub ab (peer 0x0A 0xCC) ≡ Some (Joined 3 None) → ⊥
unfolding history_on_literals
joins_all_the_same h = (let bad : ◌≡◌ {A = Option Reply} (Some (Refused (Duplicate (Some 1)))) (Some (Joined 3 None)) = h in cc)

-- A hub that has answered as many calls as it may answers no connect.
abbrev of_two_calls : About
of_two_calls = record the_hub { limits = record (the_hub.limits) { calls = 2 } }

is_worn : connect_due of_two_calls ab (peer 0x0C 0xCC) ≡ None
unfolding history_on_literals
is_worn = refl

-- ---- which entry is made

abbrev sent : AllReply
sent = Sent (2 ∷ []) [] [] (look 2 0 ∷ [])

replied : all_reply sent ≡ SentAll (2 ∷ []) [] []
replied = refl

did_not_stop : all_reply sent ≡ Stopped → ⊥
did_not_stop h = (let bad : ◌≡◌ {A = Reply} (SentAll (2 ∷ []) [] []) Stopped = h in cc)

looked : all_looks sent ≡ look 2 0 ∷ []
looked = refl

looked_at_none : all_looks AllStopped ≡ look 2 0 ∷ [] → ⊥
looked_at_none h = cc

made_none : all_made 0 1 (to_all 2) (Err NoMemory) ≡ None
made_none = refl

made_one : (p : Placed) → all_made 0 1 (to_all 2) (Err NoMemory) ≡ Some p → ⊥
made_one p h = (let bad : ◌≡◌ {A = Option Placed} None (Some p) = h in cc)

told : told_without_place (Ok (record { at = 4; said = sent })) ≡ Ok sent
told = refl

told_another : told_without_place (Err NoMemory) ≡ Ok sent → ⊥
told_another h = cc

counted_none : (worn : Worn) → count_made 0 (Err worn) ≡ None
counted_none worn = refl

counted_one : (worn : Worn) (p : Placed) → count_made 0 (Err worn) ≡ Some p → ⊥
counted_one worn p h = (let bad : ◌≡◌ {A = Option Placed} None (Some p) = h in cc)

says_limit : AllSaysLimit (AllWorn (record { calls = 2 })) 2
says_limit = refl

says_another : AllSaysLimit (AllWorn (record { calls = 2 })) 3 → ⊥
says_another h = unlike 2 3 refl h

are_limits : AreLimits (the_hub.limits)
are_limits = record { some_rows = lit≤ tt; few_rows = lit≤ tt; some_room = lit≤ tt; little_room = lit≤ tt; few_calls = lit≤ tt }

-- An outbox has room for two frames at least.
are_no_limits : AreLimits ((hub_of 1).limits) → ⊥
are_no_limits x = (let bad : 2 ≤ 1 = x.some_room in omega (arith, bad))

-- ---- numbers of passes

drew : (p : Pass) → number_of p ≡ 3 → drawn_by (Ok p) ≡ 3 ∷ []
drew p three = ap (λ (n : ℕ). n ∷ []) three

drew_none : (spent : NumbersSpent) → drawn_by (Err spent) ≡ 3 ∷ [] → ⊥
drew_none spent h = cc

-- ---- what parts of the edge tell

quiet : IsQuiet (Ok Quiet)
quiet = tt

not_quiet : IsQuiet (Ok Closed) → ⊥
not_quiet h = h

failed : IsQuiet (Err Failed) → ⊥
failed h = h

untold : is_untold {A = ℕ} (Some []) ≡ true
untold = refl

is_told : is_untold {A = ℕ} (Some (7 ∷ [])) ≡ true → ⊥
is_told h = (let bad : false ≡ true = h in cc)

all_so : all_told {A = ℕ} (λ n. true) (Some (7 ∷ [])) ≡ true
all_so = refl

not_all_so : all_told {A = ℕ} (λ n. false) (Some (7 ∷ [])) ≡ true → ⊥
not_all_so h = (let bad : false ≡ true = h in cc)

has_ended : ended_in {D = ℕ} (Some 7) ≡ 7 ∷ []
has_ended = refl

has_not_ended : ended_in {D = ℕ} None ≡ 7 ∷ [] → ⊥
has_not_ended h = cc

held : held_in {K = ℕ} (λ sink. Some (sink ∷ [])) (Some 7) ≡ Some (7 ∷ [])
held = refl

holds_nothing : held_in {K = ℕ} (λ sink. Some (sink ∷ [])) None ≡ Some (7 ∷ []) → ⊥
holds_nothing h = (let bad : ◌≡◌ {A = Option (List ℕ)} None (Some (7 ∷ [])) = h in cc)

-- A job is left of which this is so, or all are still out.
comes : Comes {J = ℕ} {D = ℕ} (λ job left. left ≡ job) (7 ∷ 8 ∷ []) (8 ∷ []) (Some 7)
comes = record { job = 7; before = []; behind = 8 ∷ []; was = refl; left = refl; worked = refl }

vanishes : Comes {J = ℕ} {D = ℕ} (λ job left. left ≡ job) (7 ∷ []) [] None → ⊥
vanishes h = (let bad : ◌≡◌ {A = List ℕ} [] (7 ∷ []) = h in cc)

-- A read gave two octets of three that there was room for.
reads : Reads {E = ℕ} (Some []) (Some ((1 ∷ 2 ∷ []) ∷ [])) (Ok 2) (1 ∷ 2 ∷ 3 ∷ [])
reads = refl

reads_past_a_fault : Reads {E = ℕ} (Some []) (Some ((1 ∷ []) ∷ [])) (Err 5) (1 ∷ []) → ⊥
reads_past_a_fault h = (let bad : ◌≡◌ {A = List (List ℕ)} ((1 ∷ []) ∷ []) [] = h in cc)

-- ---- faults that end a run of a node

write_failed : RisesOnWriteFault {A = ℕ} (Err WriteFault) 0 1
write_failed = λ is. inl (lit< tt)

accept_failed : RisesOnAcceptFault {A = ℕ} (Err AcceptFault) 0 1
accept_failed = λ is. inl (lit< tt)

rests : HasRisen 1 1 → ⊥
rests h = ⊎_elim (λ (risen : 1 < 1). omega (arith, risen)) (λ (last : 18446744073709551615 ≤ 1). omega (arith, last)) h

write_failed_unseen : RisesOnWriteFault {A = ℕ} (Err WriteFault) 1 1 → ⊥
write_failed_unseen h = rests (h refl)

accept_failed_unseen : RisesOnAcceptFault {A = ℕ} (Err AcceptFault) 1 1 → ⊥
accept_failed_unseen h = rests (h refl)
