-- What a read gave, and how reads come one after another.
-- It serves the clauses of `fill`.
use Rattle.std.proofs.Common.{◌≡◌, ℕ, ◌≤◌, ◌<◌, ◌||◌, nat_eq, List, [], ◌∷◌, ◌++◌, length, take, Option, Some, None, Ok, refl, sym, ap, ◌∙◌, append_assoc, append-nil, arith}
use Rattle.std.proofs.lemmas.List.{length-take}
use Rattle.std.proofs.lemmas.Bool.Decides.{nat_tests}
use Rattle.bsc_outside.specs.declared.stream.Failed.{Failed}
use Rattle.bsc_outside.specs.Reads.{Reads}
use Rattle.bsc_text.specs.declared.feed.Feed.{Feed}
use Rattle.bsc_text.specs.Feeding.{unread, IsUsedUp}
use Rattle.bsc_text.specs.Gave.{Gave, has_end}
use Rattle.bsc_text.proofs.Spending.{none-left}

-- a read that was answered
pub gave_one : (old new : Option (List (List ℕ))) (n : ℕ) (into : List ℕ) → Reads {E = Failed} old new (Ok n) into → Gave old new (take n into ∷ [])
gave_one old None n into h = tt
gave_one None (Some new) n into h = absurd h
gave_one (Some old) (Some new) n into h = h

-- an empty chunk is the end
empty_is_end : (n : ℕ) (chunk : List ℕ) → length chunk ≡ n → nat_eq n 0 ≡ has_end (chunk ∷ [])
empty_is_end n [] h = rw (← h) refl
empty_is_end n (c ∷ chunk) h = let some : 0 < n = omega (arith, h) in grind (arith, nat_tests)

pub none_is_end : (n : ℕ) (into : List ℕ) → n ≤ length into → nat_eq n 0 ≡ has_end (take n into ∷ [])
none_is_end n into h = empty_is_end n (take n into) (omega (arith, length-take n into, h))

-- a chunk that was read comes after what is kept
pub comes_behind : (old : Feed) (chunk : List ℕ) → IsUsedUp old → old.carry.items ++ chunk ≡ unread old ++ chunk
comes_behind old chunk h =
    let was = none-left old.at old.end old.chunk.items h.0 in
    ap (λ (x : List ℕ). x ++ chunk) (sym (append-nil old.carry.items) ∙ ap (λ (x : List ℕ). old.carry.items ++ x) (sym was))

-- no reads, and reads one after another
pub gave_nothing : (old : Option (List (List ℕ))) → Gave old old []
gave_nothing None = tt
gave_nothing (Some old) = sym (append-nil old)

pub gave_more : (old mid new : Option (List (List ℕ))) (gave more : List (List ℕ)) → Gave old mid gave → Gave mid new more → Gave old new (gave ++ more)
gave_more old mid None gave more a b = tt
gave_more old None (Some n) gave more a b = absurd b
gave_more None (Some m) (Some n) gave more a b = absurd a
gave_more (Some o) (Some m) (Some n) gave more a b = b ∙ ap (λ (l : List (List ℕ)). l ++ more) a ∙ append_assoc o gave more

pub has_end-append : (gave more : List (List ℕ)) → has_end (gave ++ more) ≡ (has_end gave || has_end more)
has_end-append [] more = refl
has_end-append ([] ∷ gave) more = refl
has_end-append ((c ∷ octets) ∷ gave) more = has_end-append gave more
