-- Questions and learnt URIs over written-out lists of calls, by computation. The wait is 10,000 ms.
-- No clause needs it: worked examples.
use Rattle.std.proofs.Common.{◌≡◌, ℕ, true, false, List, [], ◌∷◌, ◌++◌, Some, None, refl}
use Rattle.bsc_octets.specs.declared.vmac.Vmac.{Vmac}
use Rattle.bsc_resolve.specs.declared.call.ResolveCall.{ResolveCall}
use Rattle.bsc_resolve.specs.declared.call.ResolveCall.TheVariants.{Ask, Answered, Refused, Tick}
use Rattle.bsc_resolve.specs.declared.ask_refusal.AskRefusal.TheVariants.{Pending}
use Rattle.bsc_resolve.specs.Resolving.{question, learnt, is_held, held, ask_refusal, awaits}

abbrev address : ℕ → Vmac
address n = record { 0 = 2 ∷ 0 ∷ 0 ∷ 0 ∷ 0 ∷ n ∷ [] }

-- a question for A at 100, and the time a moment before its wait has passed
abbrev asked : List ResolveCall
asked = Ask 100 7 (address 10) ∷ Tick 10099 ∷ []

under_way : question 10000 asked (address 10) ≡ Some (record { id = 7; asked = 100 })
under_way = refl

no_question_for_another : question 10000 asked (address 11) ≡ None
no_question_for_another = refl

refused_again : ask_refusal 10000 asked (address 10) ≡ Some (Pending 7)
refused_again = refl

another_may_be_asked : ask_refusal 10000 asked (address 11) ≡ None
another_may_be_asked = refl

its_answer_counts : awaits 10000 asked 7 (address 10) ≡ true
its_answer_counts = refl

another_id_counts_for_nothing : awaits 10000 asked 8 (address 10) ≡ false
another_id_counts_for_nothing = refl

another_peer_counts_for_nothing : awaits 10000 asked 7 (address 11) ≡ false
another_peer_counts_for_nothing = refl

-- its wait has passed, or its NAK came: nothing of A is held
dropped : question 10000 (asked ++ Tick 10100 ∷ []) (address 10) ≡ None
dropped = refl

dropped_holds_nothing : held 10000 (asked ++ Tick 10100 ∷ []) ≡ 0
dropped_holds_nothing = refl

nak_drops : question 10000 (asked ++ Refused 7 (address 10) ∷ []) (address 10) ≡ None
nak_drops = refl

-- The wait counts from its own question: one that was asked in between goes on.
later_one_goes_on : question 10000 (Ask 0 1 (address 10) ∷ Ask 5000 2 (address 11) ∷ Tick 10000 ∷ []) (address 11) ≡ Some (record { id = 2; asked = 5000 })
later_one_goes_on = refl

-- URIs stay through a new question and its end.
abbrev answered : List ResolveCall
answered = asked ++ Answered 7 (address 10) (0x77 ∷ []) ∷ Ask 20000 9 (address 10) ∷ []

stays : learnt answered (address 10) ≡ Some (0x77 ∷ [])
stays = refl

asked_again : question 10000 answered (address 10) ≡ Some (record { id = 9; asked = 20000 })
asked_again = refl

old_answer_counts_for_nothing : awaits 10000 answered 7 (address 10) ≡ false
old_answer_counts_for_nothing = refl

stays_after_the_wait : learnt (answered ++ Tick 30000 ∷ []) (address 10) ≡ Some (0x77 ∷ [])
stays_after_the_wait = refl

-- the empty list of URIs is learnt too
replaced : learnt (answered ++ Answered 9 (address 10) [] ∷ []) (address 10) ≡ Some []
replaced = refl

-- A VMAC that was asked for twice and learnt is held once.
held_once : held 10000 answered ≡ 1
held_once = refl

held_twice : held 10000 (answered ++ Ask 20000 10 (address 11) ∷ []) ≡ 2
held_twice = refl
