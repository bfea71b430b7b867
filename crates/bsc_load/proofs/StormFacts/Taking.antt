-- What a stay takes from its outlet, and what its leave then says.
-- It serves clauses of functions of `storm`.
use Rattle.std.proofs.Common.{◌≡◌, ◌<◌, ◌+◌, inl, inr, ℕ, List, [], ◌∷◌, ◌++◌, length, Some, refl, ap, sym, ◌∙◌, subst, arith, length-append}
use Rattle.std.specs.Prelude.{◌⊎◌}
use mathlib.Core.Option.{some}
use lib.ListN.{get_elem?}
use Rattle.bsc_octets.specs.declared.identity.Identity.{Identity}
use Rattle.bsc_history.specs.declared.call.Call.{Call}
use Rattle.bsc_history.specs.declared.call.Call.TheVariants.{Connect, Leave, Stop}
use Rattle.bsc_history.specs.declared.ending.End.{End}
use Rattle.bsc_history.specs.declared.entry.Entry.{Entry}
use Rattle.bsc_history.specs.declared.reply.Reply.TheVariants.{Gone as GoneReply}
use Rattle.bsc_ring.specs.declared.ends.Outlet.{Outlet}
use Rattle.bsc_ring.specs.declared.found.Found.{Found}
use Rattle.bsc_ring.specs.declared.found.Found.TheVariants.{Ending, Tail}
use Rattle.bsc_ring.specs.declared.take.Take.TheVariants.{Frame, Empty, Closed}
use Rattle.bsc_ring.specs.Ends.{FoundEnd, Took, empties_of, found, given}
use Rattle.bsc_desk.specs.declared.leaving.Gone.{Gone}
use Rattle.bsc_desk.specs.Entries.{gone_reply}
use Rattle.bsc_load.specs.Workers.{calls}
use Rattle.bsc_load.specs.declared.storm.bounds.TheConstants.{TAKES}
use Rattle.bsc_load.specs.Storm.Inner.{TookSome}
use Rattle.bsc_load.specs.Storm.Workers.{HasTaken, TakesAll}

module _ {X : Type 0} where
  pub at_end : (xs ys : List X) (x : X) → get_elem? (xs ++ x ∷ ys) (length xs) ≡ some x
  at_end [] ys x = refl
  at_end (y ∷ xs) ys x = at_end xs ys x

-- a frame more
pub took_frame : (o p : Outlet) (x : List ℕ) (k : ℕ) → Took o (Frame x) p → length (given o) ≡ k → length (given p) ≡ k + 1
took_frame o p x k took many = ap (λ (l : List (List ℕ)). length l) took.0 ∙ length-append (given o) (x ∷ []) ∙ ap (λ (n : ℕ). n + 1) many

-- the outbox was found empty, or an End was found
pub took_empty : (o p : Outlet) (k : ℕ) → Took o Empty p → length (given o) ≡ k → empties_of o ≡ 0 → k < TAKES → TookSome p
took_empty o p k took many none few =
    let same : length (given p) ≡ length (given o) = ap (λ (l : List (List ℕ)). length l) took.0.0 in
    inr (inl (omega (arith, same, many, few), omega (arith, took.2, none)))

pub took_closed : (o p : Outlet) (e : End) (k : ℕ) → Took o (Closed e) p → length (given o) ≡ k → empties_of o ≡ 0 → k < TAKES → TookSome p
took_closed o p e k took many none few =
    let same : length (given p) ≡ length (given o) = ap (λ (l : List (List ℕ)). length l) took.0.0 in
    let there = at_end (found o) (Tail (length (given o)) ∷ []) (Ending (Some e)) in
    let finds : FoundEnd p e = (length (found o), ap (λ (l : List Found). get_elem? l (length (found o))) took.0.3.0 ∙ there) in
    inr (inr (omega (arith, same, many, few), took.2 ∙ none, (e, took.1, finds)))

-- what the leave says and is told
pub has_taken : (o : Outlet) (conn : ℕ) (g : Gone) → TookSome o → g.taken ≡ length (given o) → ((e : End) → FoundEnd o e → g.ending ≡ e) → HasTaken (Leave conn g.taken (empties_of o)) (gone_reply g)
has_taken o conn g took many ends =
    elim took [
      | inl all ↦ inl (many ∙ all.0, all.1)
      | inr less ↦ elim less [
        | inl empty ↦ inr (inl (omega (arith, many, empty.0), empty.1))
        | inr met ↦ inr (inr (omega (arith, many, met.0), met.1, (met.2.0, met.2.1, ap (λ (e : End). GoneReply e g.taken) (ends met.2.0 met.2.2))))
      ]
    ]

-- a connect is no leave
takes_connect : (e : Entry) (who : Identity) → e.call ≡ Connect who → HasTaken e.call e.reply
takes_connect e who is = subst (λ (c : Call). HasTaken c e.reply) (sym is) tt

abbrev first_call : List Call → Call
first_call [] = Stop
first_call (c ∷ cs) = c

-- nor does a connect that didn't join leave
pub takes_unjoined : (E : List Entry) (who : Identity) → (calls E ≡ []) ⊎ (calls E ≡ Connect who ∷ []) → TakesAll E
takes_unjoined [] who so = tt
takes_unjoined (e ∷ []) who so = elim so [
  | inl none ↦ absurd (omega (arith, ap (λ (l : List Call). length l) none))
  | inr one ↦ (takes_connect e who (ap first_call one), tt)
]
takes_unjoined (e ∷ f ∷ E) who so = elim so [
  | inl none ↦ absurd (omega (arith, ap (λ (l : List Call). length l) none))
  | inr one ↦ absurd (omega (arith, ap (λ (l : List Call). length l) one))
]
