-- An outlet that is taken from until it is empty or closed, and what its leave then says.
-- It serves clauses of most source files here.
use Rattle.std.proofs.Common.{◌≡◌, ◌<◌, ◌+◌, inl, inr, ℕ, List, [], ◌∷◌, ◌++◌, length, Option, Some, None, refl, ap, ◌∙◌, arith}
use Rattle.std.specs.Prelude.{◌-◌, Contains, suc, zero}
use Rattle.std.proofs.lemmas.List.Elements.{Contains-append_left, Contains-append_right}
use Rattle.std.proofs.lemmas.List.Sums.{sum_by_push}
use mathlib.Core.Option.{some}
use lib.ListN.{get_elem?}
use Rattle.bsc_history.specs.declared.call.Call.TheVariants.{Leave}
use Rattle.bsc_history.specs.declared.ending.End.{End}
use Rattle.bsc_history.specs.declared.entry.Entry.{Entry}
use Rattle.bsc_history.specs.declared.reply.Reply.TheVariants.{Gone as GoneReply}
use Rattle.bsc_ring.specs.declared.ends.Outlet.{Outlet}
use Rattle.bsc_ring.specs.declared.found.Found.{Found}
use Rattle.bsc_ring.specs.declared.found.Found.TheVariants.{Ending, Tail}
use Rattle.bsc_ring.specs.declared.take.Take.TheVariants.{Frame, Empty, Closed}
use Rattle.bsc_ring.specs.Ends.{FoundEnd, IsNewOutlet, Looked, Took, empties_of, found, given}
use Rattle.bsc_desk.specs.declared.leaving.Gone.{Gone}
use Rattle.bsc_desk.specs.Entries.{gone_reply}
use Rattle.bsc_load.specs.Frames.{npdu_octets}
use Rattle.bsc_load.specs.Inner.{Emptied, EmptiedOnce, InnerEmptied, IsCounted}
use Rattle.bsc_load.specs.Workers.{EmptiedEachTime, EmptiedUpTo, within_64_bits}

-- what a list has at a place it has there when it is longer
stays_at : (xs ys : List Found) (i : ℕ) (x : Found) → get_elem? xs i ≡ some x → get_elem? (xs ++ ys) i ≡ some x
stays_at [] ys i x at = cc
stays_at (y ∷ xs) ys zero x at = at
stays_at (y ∷ xs) ys (suc i) x at = stays_at xs ys i x at

at_end : (xs ys : List Found) (x : Found) → get_elem? (xs ++ x ∷ ys) (length xs) ≡ some x
at_end [] ys x = refl
at_end (y ∷ xs) ys x = at_end xs ys x

-- an End that was found stays found, whatever a take found then
still_found : (o p : Outlet) (a : Option End) (n : ℕ) (e : End) → Looked o a n p → FoundEnd o e → FoundEnd p e
still_found o p a n e looked has =
    let more = Ending a ∷ Tail n ∷ [] in
    (has.0, ap (λ (l : List Found). get_elem? l has.0) looked.0 ∙ stays_at (found o) more has.0 (Ending (Some e)) has.1)

-- a take that gave a frame
pub emptied_still : (o p : Outlet) (x : List ℕ) (n : ℕ) → Took o (Frame x) p → Emptied n o → Emptied n p
emptied_still o p x n took so =
    elim so [
      | inl often ↦ inl (took.2 ∙ often)
      | inr less ↦ inr (omega (arith, took.2, less.0), (less.1.0, still_found o p took.3.0 took.3.1 less.1.0 took.3.3 less.1.1, less.1.2))
    ]

-- its octets of NPDU are counted
pub counted_more : (o p : Outlet) (x : List ℕ) (octets len total : ℕ) → Took o (Frame x) p → IsCounted o octets → len ≡ length x - 10 → total ≡ within_64_bits (octets + len) → IsCounted p total
counted_more o p x octets len total took so is sum =
    let more : npdu_octets (given p) ≡ npdu_octets (given o) + (length x - 10) = ap npdu_octets took.0 ∙ sum_by_push (λ (l : List ℕ). length l - 10) (given o) x in
    omega (arith, more, so, is, sum)

-- one that found the outlet empty
pub emptied_empty : (o p : Outlet) → Took o Empty p → EmptiedOnce o p
emptied_empty o p took n few so =
    elim so [
      | inl often ↦ inl (omega (arith, took.2, often, few))
      | inr less ↦ inr (omega (arith, took.2, less.0, few), (less.1.0, still_found o p None (length (given o)) less.1.0 took.0.3 less.1.1, less.1.2))
    ]

-- and one that found it closed
pub emptied_closed : (o p : Outlet) (e : End) → Took o (Closed e) p → EmptiedOnce o p
emptied_closed o p e took n few so =
    let there = at_end (found o) (Tail (length (given o)) ∷ []) (Ending (Some e)) in
    let finds : FoundEnd p e = (length (found o), ap (λ (l : List Found). get_elem? l (length (found o))) took.0.3.0 ∙ there) in
    let fewer : empties_of p < n + 1 = elim so [ inl often ↦ omega (arith, took.2, often) | inr less ↦ omega (arith, took.2, less.0) ] in
    inr (fewer, (e, finds, took.1))

-- nothing was taken from a new one
pub emptied_none : (o : Outlet) → IsNewOutlet o → Emptied 0 o
emptied_none o new = inl new.1

-- what the leave says and is told
pub emptied_each : (E : List Entry) (n conn : ℕ) (o : Outlet) (g : Gone) (left : Entry) → Emptied n o → ((e : End) → FoundEnd o e → g.ending ≡ e) → Contains E left
    → left.call ≡ Leave conn g.taken (empties_of o) → left.reply ≡ gone_reply g → EmptiedEachTime E n conn g.taken (empties_of o)
emptied_each E n conn o g left so ends within leaves told =
    elim so [
      | inl often ↦ inl often
      | inr less ↦ inr (less.0, (left, less.1.0, within, leaves, told ∙ ap (λ (e : End). GoneReply e g.taken) (ends less.1.0 less.1.1), less.1.2))
    ]

-- it is so by more entries, too
pub emptied_more : (E : List Entry) (e l : Entry) (n r taken empties : ℕ) → EmptiedEachTime E n r taken empties → EmptiedEachTime (e ∷ E ++ l ∷ []) n r taken empties
emptied_more E e l n r taken empties so =
    elim so [
      | inl often ↦ inl often
      | inr less ↦ (
          let had = less.1 in
          let within = Contains-append_right (e ∷ []) (E ++ l ∷ []) had.0 (Contains-append_left E (l ∷ []) had.0 had.2) in
          inr (less.0, (had.0, had.1, within, had.3, had.4, had.5)))
    ]

pub emptied_part : (E : List Entry) (e l : Entry) (s : ℕ) (who : List ℕ) (n taken empties : ℕ) → InnerEmptied E who n taken empties → EmptiedUpTo (e ∷ E ++ l ∷ []) (s ∷ who) n taken empties
emptied_part E e l s [] n taken empties so = tt
emptied_part E e l s (r ∷ others) n taken empties so = (so.0, emptied_more E e l n r taken empties so.1)
