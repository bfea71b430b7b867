-- The tests of sameness decide it.
-- It serves clauses of functions of `breaching`, `laws` and `legality`.
use Rattle.std.proofs.Common.{◌≡◌, ℕ, ◌==◌, true, ◌&&◌, List, Option, Some, None, refl, ap, sym, ◌∙◌}
use Rattle.std.specs.Cmp.Lexicographic.{bytes_decides, same_text}
use Rattle.std.proofs.lemmas.Bool.{and_parts, eq-eqb, eqb-true}
use Rattle.bsc_history.specs.declared.counts.Counts.{Counts}
use Rattle.bsc_history.specs.declared.ending.End.{End}
use Rattle.bsc_history.specs.declared.ending.End.TheVariants.{Left, Replaced, Full, Stopped as EndStopped}
use Rattle.bsc_history.specs.declared.reply.Refusal.{Refusal}
use Rattle.bsc_history.specs.declared.reply.Refusal.TheVariants.{Stopped as RefusedStopped, Duplicate, TableFull}
use Rattle.bsc_history.specs.declared.reply.Reply.{Reply}
use Rattle.bsc_history.specs.declared.reply.Reply.TheVariants.{Joined, Refused, Appended, Closed, Skipped, NoHolder, SentAll, NotCurrent, Stopped, Gone, Counted}
use Rattle.bsc_legality.specs.Sameness.{same_counts, same_end, same_numbers, same_option, same_refusal, same_reply}
use Rattle.std.proofs.lemmas.Bool.{and_from as both}

-- what is found the same is the same

pub numbers_same : (a b : List ℕ) → same_numbers a b ≡ true → a ≡ b
numbers_same a b h = same_text a b (sym h)

option_same : (o p : Option ℕ) → same_option o p ≡ true → o ≡ p
option_same None None h = refl
option_same (Some c) (Some d) h = ap Some (eqb-true c d h)
option_same o p h = cc

end_same : (w v : End) → same_end w v ≡ true → w ≡ v
end_same Left Left h = refl
end_same Replaced Replaced h = refl
end_same Full Full h = refl
end_same EndStopped EndStopped h = refl
end_same w v h = cc

refusal_same : (r s : Refusal) → same_refusal r s ≡ true → r ≡ s
refusal_same RefusedStopped RefusedStopped h = refl
refusal_same (Duplicate o) (Duplicate p) h = ap Duplicate (option_same o p h)
refusal_same (TableFull r) (TableFull s) h = ap TableFull (eqb-true r s h)
refusal_same r s h = cc

counts_same : (k m : Counts) → same_counts k m ≡ true → k ≡ m
counts_same k m h =
    let a = and_parts (k.joined == m.joined) _ h in
    let b = and_parts (k.replaced == m.replaced) _ a.1 in
    let c = and_parts (k.refused == m.refused) _ b.1 in
    let d = and_parts (k.unicasts == m.unicasts) _ c.1 in
    let e = and_parts (k.broadcasts == m.broadcasts) _ d.1 in
    let f = and_parts (k.appended == m.appended) _ e.1 in
    let g = and_parts (k.dropped == m.dropped) _ f.1 in
    let l = and_parts (k.full == m.full) (k.missed == m.missed) g.1 in
    λ i. record {
      joined = eqb-true k.joined m.joined a.0 i;
      replaced = eqb-true k.replaced m.replaced b.0 i;
      refused = eqb-true k.refused m.refused c.0 i;
      unicasts = eqb-true k.unicasts m.unicasts d.0 i;
      broadcasts = eqb-true k.broadcasts m.broadcasts e.0 i;
      appended = eqb-true k.appended m.appended f.0 i;
      dropped = eqb-true k.dropped m.dropped g.0 i;
      full = eqb-true k.full m.full l.0 i;
      missed = eqb-true k.missed m.missed l.1 i;
    }

pub reply_same : (r s : Reply) → same_reply r s ≡ true → r ≡ s
reply_same (Joined c p) (Joined d q) h = let k = and_parts (c == d) (same_option p q) h in ap (λ n. Joined n p) (eqb-true c d k.0) ∙ ap (Joined d) (option_same p q k.1)
reply_same (Refused r) (Refused s) h = ap Refused (refusal_same r s h)
reply_same (Appended c) (Appended d) h = ap Appended (eqb-true c d h)
reply_same (Closed c) (Closed d) h = ap Closed (eqb-true c d h)
reply_same (Skipped c) (Skipped d) h = ap Skipped (eqb-true c d h)
reply_same NoHolder NoHolder h = refl
reply_same (SentAll t m s) (SentAll u n r) h =
    let k = and_parts (same_numbers t u) (same_numbers m n && same_numbers s r) h in
    let l = and_parts (same_numbers m n) (same_numbers s r) k.1 in
    ap (λ x. SentAll x m s) (numbers_same t u k.0) ∙ ap (λ x. SentAll u x s) (numbers_same m n l.0) ∙ ap (SentAll u n) (numbers_same s r l.1)
reply_same (NotCurrent w) (NotCurrent v) h = ap NotCurrent (end_same w v h)
reply_same Stopped Stopped h = refl
reply_same (Gone w n) (Gone v m) h = let k = and_parts (same_end w v) (n == m) h in ap (λ x. Gone x n) (end_same w v k.0) ∙ ap (Gone v) (eqb-true n m k.1)
reply_same (Counted k) (Counted m) h = ap Counted (counts_same k m h)
reply_same r s h = cc

-- what is the same is found the same

pub numbers_self : (a : List ℕ) → same_numbers a a ≡ true
numbers_self a = (bytes_decides a a).1 refl

option_self : (o : Option ℕ) → same_option o o ≡ true
option_self None = refl
option_self (Some c) = eq-eqb c c refl

end_self : (w : End) → same_end w w ≡ true
end_self Left = refl
end_self Replaced = refl
end_self Full = refl
end_self EndStopped = refl

refusal_self : (r : Refusal) → same_refusal r r ≡ true
refusal_self RefusedStopped = refl
refusal_self (Duplicate o) = option_self o
refusal_self (TableFull r) = eq-eqb r r refl

counts_self : (k : Counts) → same_counts k k ≡ true
counts_self k =
    both (k.joined == k.joined) _ (eq-eqb k.joined k.joined refl)
    (both (k.replaced == k.replaced) _ (eq-eqb k.replaced k.replaced refl)
    (both (k.refused == k.refused) _ (eq-eqb k.refused k.refused refl)
    (both (k.unicasts == k.unicasts) _ (eq-eqb k.unicasts k.unicasts refl)
    (both (k.broadcasts == k.broadcasts) _ (eq-eqb k.broadcasts k.broadcasts refl)
    (both (k.appended == k.appended) _ (eq-eqb k.appended k.appended refl)
    (both (k.dropped == k.dropped) _ (eq-eqb k.dropped k.dropped refl)
    (both (k.full == k.full) (k.missed == k.missed) (eq-eqb k.full k.full refl) (eq-eqb k.missed k.missed refl))))))))

pub reply_self : (r : Reply) → same_reply r r ≡ true
reply_self (Joined c p) = both (c == c) (same_option p p) (eq-eqb c c refl) (option_self p)
reply_self (Refused r) = refusal_self r
reply_self (Appended c) = eq-eqb c c refl
reply_self (Closed c) = eq-eqb c c refl
reply_self (Skipped c) = eq-eqb c c refl
reply_self NoHolder = refl
reply_self (SentAll t m s) = both (same_numbers t t) (same_numbers m m && same_numbers s s) (numbers_self t) (both (same_numbers m m) (same_numbers s s) (numbers_self m) (numbers_self s))
reply_self (NotCurrent w) = end_self w
reply_self Stopped = refl
reply_self (Gone w n) = both (same_end w w) (n == n) (end_self w) (eq-eqb n n refl)
reply_self (Counted k) = counts_self k
