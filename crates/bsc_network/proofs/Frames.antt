-- What entered an outbox, with its places, at a history with one entry more.
-- It serves bsc_network_laws and bsc_world.
use Rattle.std.proofs.Common.{◌≡◌, ◌≤◌, ℕ, zero, suc, List, [], ◌∷◌, ◌++◌, Some, refl, ap, sym, arith, ◌∙◌, append_assoc, append-nil}
use Rattle.std.specs.Prelude.{length, map, take, slice_get}
use Rattle.std.proofs.lemmas.List.{map-append}
use Rattle.bsc_history.specs.declared.limits.About.{About}
use Rattle.bsc_history.specs.declared.entry.Entry.{Entry}
use Rattle.bsc_history.specs.Entries.{moment}
use Rattle.bsc_history.specs.Outboxes.{added, sent}
use Rattle.bsc_history.proofs.More.{sent-more}
use Rattle.bsc_network.specs.Worlds.{Posted, entries}
use Rattle.bsc_network.specs.Outboxes.{Frame, at_place, frames_by, frames_after, frames_of}
use Rattle.std.proofs.lemmas.Option.{same_Some as some_same}

after-more : (a : About) (G : List Entry) (c : ℕ) (posted : List Posted) (p : Posted) → frames_after a G c (posted ++ p ∷ []) ≡ frames_after a G c posted ++ frames_by a (G ++ entries posted) c p
after-more a G c [] p = append-nil (frames_by a G c p) ∙ ap (λ (F : List Entry). frames_by a F c p) (sym (append-nil G))
after-more a G c (q ∷ posted) p =
    ap (λ fs. frames_by a G c q ++ fs) (after-more a (G ++ q.entry ∷ []) c posted p)
    ∙ sym (append_assoc (frames_by a G c q) (frames_after a (G ++ q.entry ∷ []) c posted) (frames_by a ((G ++ q.entry ∷ []) ++ entries posted) c p))
    ∙ ap (λ (F : List Entry). (frames_by a G c q ++ frames_after a (G ++ q.entry ∷ []) c posted) ++ frames_by a F c p) (append_assoc G (q.entry ∷ []) (entries posted))

-- An entry more adds what it adds to the outbox.
pub frames-more : (a : About) (posted : List Posted) (p : Posted) (c : ℕ) → frames_of a (posted ++ p ∷ []) c ≡ frames_of a posted c ++ frames_by a (entries posted) c p
unfolding frames_of
frames-more a posted p c = after-more a [] c posted p

octets-placed : (place : ℕ) (os : List (List ℕ)) → map (λ (f : Frame). f.octets) (map (at_place place) os) ≡ os
octets-placed place [] = refl
octets-placed place (o ∷ os) = ap (λ (l : List (List ℕ)). o ∷ l) (octets-placed place os)

octets-after : (a : About) (c : ℕ) (posted : List Posted) (G : List Entry) → sent a G c ++ map (λ (f : Frame). f.octets) (frames_after a G c posted) ≡ sent a (G ++ entries posted) c
octets-after a c [] G = append-nil (sent a G c) ∙ ap (λ (F : List Entry). sent a F c) (sym (append-nil G))
octets-after a c (p ∷ posted) G =
    let octets = λ (f : Frame). f.octets in
    ap (λ (l : List (List ℕ)). sent a G c ++ l) (map-append octets (frames_by a G c p) (frames_after a (G ++ p.entry ∷ []) c posted)
    ∙ ap (λ (l : List (List ℕ)). l ++ map octets (frames_after a (G ++ p.entry ∷ []) c posted)) (octets-placed p.sent_at (added a (moment G p.entry) (sent a G c) c)))
    ∙ sym (append_assoc (sent a G c) (added a (moment G p.entry) (sent a G c) c) (map octets (frames_after a (G ++ p.entry ∷ []) c posted)))
    ∙ ap (λ (l : List (List ℕ)). l ++ map octets (frames_after a (G ++ p.entry ∷ []) c posted)) (sym (sent-more a G p.entry c))
    ∙ octets-after a c posted (G ++ p.entry ∷ [])
    ∙ ap (λ (F : List Entry). sent a F c) (append_assoc G (p.entry ∷ []) (entries posted))

-- Without their places they are what entered the outbox.
pub octets-frames : (a : About) (posted : List Posted) (c : ℕ) → map (λ (f : Frame). f.octets) (frames_of a posted c) ≡ sent a (entries posted) c
unfolding frames_of sent
octets-frames a posted c = octets-after a c posted []

-- ---- what was taken

pub take-more : {A : Type 0} (n : ℕ) (xs ys : List A) → n ≤ length xs → take n (xs ++ ys) ≡ take n xs
take-more zero xs ys h = refl
take-more (suc n) [] ys h = absurd (none n h)
  where
    none : (m : ℕ) → suc m ≤ 0 → ⊥
    none m g = omega arith
take-more (suc n) (x ∷ xs) ys h = ap (λ l. x ∷ l) (take-more n xs ys (less n (length xs) h))
  where
    less : (m k : ℕ) → suc m ≤ suc k → m ≤ k
    less m k g = omega arith

pub take-next : {A : Type 0} (n : ℕ) (xs : List A) (x : A) → slice_get xs n ≡ Some x → take (suc n) xs ≡ take n xs ++ x ∷ []
take-next n [] x h = cc
take-next zero (y ∷ xs) x h = ap (λ z. z ∷ []) (some_same y x h)
take-next (suc n) (y ∷ xs) x h = ap (λ l. y ∷ l) (take-next n xs x h)
