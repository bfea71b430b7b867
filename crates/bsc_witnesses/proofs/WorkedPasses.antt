-- Passes of a hub before and after its calls, written out: what each call says of its pass, and what none says.
-- No clause needs it: worked examples.
use Rattle.std.proofs.Common.{◌≡◌, ℕ, true, false, List, [], ◌∷◌, ◌++◌, length, map, Some, None, Ok, Err, refl, sym, ap, subst, ◌∙◌, arith, length-append}
use Rattle.bsc_history.specs.declared.ending.End.TheVariants.{Left}
use Rattle.bsc_history.specs.declared.entry.Entry.{Entry}
use Rattle.bsc_history.specs.declared.limits.About.{About}
use Rattle.bsc_history.specs.declared.mark.Mark.{Mark}
use Rattle.bsc_history.specs.declared.mark.Stamped.{Stamped}
use Rattle.bsc_history.specs.Legality.{Legal}
use Rattle.bsc_history.specs.Marks.{mark_of}
use Rattle.bsc_history.proofs.OnLiterals.{history_on_literals}
use Rattle.bsc_history.proofs.Uniqueness.{vmac_refl}
use Rattle.bsc_octets.specs.Addresses.{same_vmac}
use Rattle.bsc_turn.specs.declared.guard.Guard.{Guard}
use Rattle.bsc_turn.specs.declared.pass.Pass.{Pass}
use Rattle.bsc_turn.specs.declared.turn.Turn.{Turn}
use Rattle.bsc_turn.specs.Passes.{history}
use Rattle.bsc_desk.specs.declared.desk.Desk.{Desk}
use Rattle.bsc_desk.specs.declared.forwarding.OneReply.TheVariants.{Appended as OneAppended}
use Rattle.bsc_desk.specs.declared.leaving.Gone.{Gone}
use Rattle.bsc_desk.specs.Entries.{plain}
use Rattle.bsc_hub.specs.declared.hub.Hub.{Hub}
use Rattle.bsc_hub.specs.Calls.{leave_made, one_made}
use Rattle.bsc_hub.specs.Committing.{HasCommitted}
use Rattle.bsc_hub.specs.Passing.{IsCaller, IsOwnAs, MadeOne, Passed, StaysBy, Went, about_of, found_history}
use Rattle.bsc_hub.specs.Whole.{IsFirst}
use Rattle.bsc_witnesses.proofs.Pieces.{unlike, address, peer_a, the_hub, to_one, look, join, ab, a_to_b, lawful, ab-legal}
use Rattle.bsc_witnesses.proofs.Passes.{view, knowing, is_pass, consistent}

-- A and B joined, and then A sends to B.
abbrev marked : List Stamped
marked = map plain ab

abbrev marked_on : List Stamped
marked_on = marked ++ plain a_to_b ∷ []

ab_on-legal : Legal the_hub (ab ++ a_to_b ∷ [])
unfolding history_on_literals
ab_on-legal = record { lawful = (lawful refl refl refl refl, (lawful refl refl refl refl, (lawful refl refl refl refl, tt))) }

-- ---- what a history keeps of marks

a_mark : Mark
a_mark = record { words = 3; slots = 64; views_name = 0; atom = 1; block = 2; offset = 3; slot_names = [] }

kept_mark : mark_of (record { entry = join peer_a 1; mark = Some a_mark } ∷ []) 1 ≡ Some a_mark
kept_mark = refl

no_mark_of_another : mark_of (record { entry = join peer_a 1; mark = Some a_mark } ∷ []) 2 ≡ Some a_mark → ⊥
no_mark_of_another h = cc

module _ (h : Hub) (is : about_of h ≡ the_hub) (p : Pass) where
  abbrev before : Pass
  before = knowing h p (view h marked ab)

  abbrev after : Pass
  after = knowing h p (view h marked_on (ab ++ a_to_b ∷ []))

  before_is_caller : IsCaller h before
  before_is_caller = (is_pass h p (view h marked ab) refl refl refl refl (consistent h marked ab refl (refl, (refl, tt))), subst (λ (a : About). Legal a ab) (sym is) ab-legal)

  after_is_caller : IsCaller h after
  after_is_caller = (
    is_pass h p (view h marked_on (ab ++ a_to_b ∷ [])) refl refl refl refl (consistent h marked_on (ab ++ a_to_b ∷ []) refl (refl, (refl, (refl, tt)))),
    subst (λ (a : About). Legal a (ab ++ a_to_b ∷ [])) (sym is) ab_on-legal,
  )

  -- The unicast is the third entry, of which its pass knows then.
  unicast_went : Went h before 0 [] (one_made 0 1 (to_one 2 0x0B) (Ok (record { at = 2; said = OneAppended (look 2 0) }))) after
  unicast_went = record {
    caller = after_is_caller;
    number = refl;
    grows = (plain a_to_b ∷ [], refl);
    all_own = refl;
    takes_in = refl;
    makes = record { before = marked; begins = ([], refl); ends = refl; place = refl; grew = refl };
    draws = refl;
    drawn = λ e. refl;
  }

  unicast_passed : Passed h before [] (one_made 0 1 (to_one 2 0x0B) (Ok (record { at = 2; said = OneAppended (look 2 0) }))) after
  unicast_passed = unicast_went

  -- A call that was worn makes none, and leaves its pass as it is.
  worn_went : Went h before 0 [] (one_made 0 1 (to_one 2 0x0B) (Err (record { calls = 2 }))) before
  worn_went = record {
    caller = before_is_caller;
    number = refl;
    grows = ([], refl);
    all_own = refl;
    takes_in = refl;
    makes = refl;
    draws = refl;
    drawn = λ e. refl;
  }

  -- An entry that isn't in what the pass has seen then wasn't made.
  not_made : Went h before 0 [] (one_made 0 1 (to_one 2 0x0B) (Ok (record { at = 2; said = OneAppended (look 2 0) }))) before → ⊥
  not_made w = (let bad : ◌≡◌ {A = ℕ} 2 3 = ap (λ (l : List Entry). length l) w.makes.grew in cc)

  -- One was made that the call doesn't tell of.
  not_told : Went h before 0 [] None after → ⊥
  not_told w = (let bad : ◌≡◌ {A = ℕ} 3 2 = ap (λ (l : List Entry). length l) w.makes in cc)

  -- It stands at another place.
  not_there : MadeOne before (record { at = 1; stamped = plain a_to_b }) after → ⊥
  not_there m =
      let all : ◌≡◌ {A = ℕ} 3 (length (m.before ++ plain a_to_b ∷ [])) = ap (λ (l : List Stamped). length l) m.ends in
      let place = m.place in
      omega (arith, all, place, length-append m.before (plain a_to_b ∷ []))

  -- What a pass has seen it has seen.
  not_forgotten : Went h after 0 [] None before → ⊥
  not_forgotten w = (let bad : ◌≡◌ {A = ℕ} 2 3 = ap (λ (l : List Entry). length l) w.makes in cc)

  -- A call that asked for a number has made one load more.
  not_drawn : Went h before 1 [] None before → ⊥
  not_drawn w = (let bad : ◌≡◌ {A = ℕ} 0 1 = w.draws in cc)

  -- ---- whose connections

  is_own : IsOwnAs before 1 (address 0x0A)
  unfolding history_on_literals
  is_own = (refl, refl)

  is_at_another_address : IsOwnAs before 1 (address 0x0B) → ⊥
  unfolding history_on_literals
  is_at_another_address own =
      (let bad : same_vmac (address 0x0A) (address 0x0B) ≡ true = vmac_refl (address 0x0A) (address 0x0B) own.1 in let worse : false ≡ true = bad in cc)

  not_joined : IsOwnAs before 3 (address 0x0C) → ⊥
  unfolding history_on_literals
  not_joined own = (let bad : false ≡ true = own.0 in cc)

  -- ---- what a call found

  found : found_history (one_made 0 1 (to_one 2 0x0B) (Ok (record { at = 2; said = OneAppended (look 2 0) }))) after ≡ ab
  found = refl

  not_found : found_history None after ≡ ab → ⊥
  not_found e = (let bad : ◌≡◌ {A = ℕ} 3 2 = ap (λ (l : List Entry). length l) e in cc)

  -- ---- first passes

  first : IsFirst (knowing h p (view h [] []))
  first = (refl, refl, refl)

  split : IsFirst (knowing h p (record (view h [] []) { number = 1 })) → ⊥
  split f = (let bad : ◌≡◌ {A = ℕ} 1 0 = f.0 in cc)

-- A forward leaves a connection, and a leave of it doesn't.
stays : StaysBy (one_made 0 1 (to_one 2 0x0B) (Ok (record { at = 2; said = OneAppended (look 2 0) }))) 1
stays = refl

abbrev gone : Gone
gone = record { ending = Left; taken = 0 }

left : StaysBy (leave_made 0 1 0 (record { at = 2; said = gone })) 1 → ⊥
left h = (let bad : true ≡ false = h in cc)

-- ---- guards

-- The first entry of all is at the place 0, and at no other.
module _ {T : Type 0} (t : Turn Desk) (d : Guard T Desk) (s : Stamped) (q : Pass) (none : history d ≡ []) where
  at_the_first : (at : ℕ) → HasCommitted t d s at q → at ≡ 0
  at_the_first at h = h.0 ∙ ap (λ (l : List Stamped). length l) none

  at_another : HasCommitted t d s 1 q → ⊥
  at_another h = unlike 1 0 refl (at_the_first 1 h)
