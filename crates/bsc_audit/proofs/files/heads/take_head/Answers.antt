-- What comes first is of no greater place than the others.
use Rattle.std.proofs.Common.{◌≡◌, ◌≤◌, ℕ, List, [], ◌∷◌, length, refl, MatchOption, Option, Some, None, IsPermutation, arith}
use Rattle.std.specs.Prelude.{IfNone, IfSome}
use Rattle.std.specs.BinaryHeap.{IsHeap, IsUpperBound, heap_items}
use Rattle.std.specs.List.{AllByRecursion}
use Rattle.bsc_audit.specs.declared.files.head.Head.{Head}
use Rattle.bsc_audit.specs.Merging.{head_cmp}
use Rattle.bsc_audit.proofs.FileFacts.Least.{least_first}
use Rattle.bsc_audit.proofs.files.heads.take_head.Goals as goal

nothing : (l : List Head) (n : ℕ) → n ≡ length l → n ≡ 0 → l ≡ []
nothing [] n is none = refl
nothing (h ∷ l) n is none = absurd (let no : ⊥ = omega (arith, is, none) in no)

popped : (r : Option Head) (old new : List Head) (n : ℕ) → n ≡ length old → IfNone r (n ≡ 0) → IfSome r (λ h. IsPermutation old (h ∷ new)) →
    IfSome r (λ h. IsHeap head_cmp old → IsUpperBound head_cmp h new) → IsHeap head_cmp old →
    MatchOption r (old ≡ []) (λ h. IsPermutation old (h ∷ new) × AllByRecursion (λ other. h.place ≤ other.place) new)
popped None old new n is none perm below heap = nothing old n is none
popped (Some h) old new n is none perm below heap = (perm, least_first h new (below heap))

pub returns : goal.returns
returns c =
    let heap = c.args.heads.now.heap in
    popped c.pop.result (heap_items heap) (heap_items c.pop.new.self) heap.data.len heap.data.ok.0 c.pop.ensures.none c.pop.ensures.permutation c.pop.ensures.below_top c.args.heads.now.ordered
