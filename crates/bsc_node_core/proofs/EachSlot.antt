-- One rule for each slot, in the order of their numbers, and one for each link.
-- It serves clauses of functions of `state`.
use Rattle.std.proofs.Common.{◌≡◌, ℕ, ◌+◌, List, [], ◌∷◌, ◌++◌, map, ap, sym, ◌∙◌, subst, arith, append_assoc}
use Rattle.std.specs.List.{range_with_len}
use Rattle.std.proofs.lemmas.List.FromFn.{map-range_with_len_more}
use Rattle.std.proofs.lemmas.List.Sums.{fold-append}
use Rattle.std.proofs.lemmas.Simd.{map-map}
use Rattle.bsc_connector.specs.declared.side.Side.TheVariants.{Primary, Failover}
use Rattle.bsc_direct.specs.declared.bounds.TheConstants.{SLOTS}
use Rattle.bsc_direct.specs.Slots.{slots}
use Rattle.bsc_node.specs.declared.link_name.LinkName.{LinkName}
use Rattle.bsc_node.specs.declared.link_name.LinkName.TheVariants.{Hub, Direct}
use Rattle.bsc_node.specs.Logs.{Log, Rule, after, in_order}
use Rattle.bsc_node.specs.Links.{names}
use Rattle.bsc_node.proofs.Order.{after-brought, in_order-brought, in_order-cons}

-- The rules of the first n slots.
abbrev pub slot_rules : (ℕ → Rule) → ℕ → List Rule
slot_rules f n = map f (range_with_len 0 n)

-- One slot more.
pub slots-more : (P : Log → Type 0) (f : ℕ → Rule) (n : ℕ) (L : Log) → P (after (slot_rules f n) L ++ f n (after (slot_rules f n) L)) → P (after (slot_rules f (n + 1)) L)
slots-more P f n L h =
    subst (λ (rules : List Rule). P (after rules L)) (sym (map-range_with_len_more f 0 n n (omega arith)))
    (subst P (sym (fold-append (λ (M : Log) (rule : Rule). M ++ rule M) L (slot_rules f n) (f n ∷ []))) h)

-- All slots.
pub slots-all : (P : Log → Type 0) (f : ℕ → Rule) (L : Log) → P (after (slot_rules f SLOTS) L) → P (L ++ in_order (map f slots) L)
unfolding slots
slots-all P f L h = subst P (after-brought (slot_rules f SLOTS) L ∙ ap (λ ms. L ++ ms) (sym (in_order-brought (slot_rules f SLOTS) L))) h

-- A rule, and then the others on the log that it left.
pub one-then : (P : Log → Type 0) (L : Log) (rule : Rule) (rules : List Rule) → P ((L ++ rule L) ++ in_order rules (L ++ rule L)) → P (L ++ in_order (rule ∷ rules) L)
one-then P L rule rules h = subst P (append_assoc L (rule L) (in_order rules (L ++ rule L)) ∙ ap (λ ms. L ++ ms) (sym (in_order-cons rule rules L))) h

-- A rule for each link: the hubs', and then those of the slots.
pub names-then : (P : Log → Type 0) (f : LinkName → Rule) (L : Log)
    → P (((L ++ f (Hub Primary) L) ++ f (Hub Failover) (L ++ f (Hub Primary) L))
    ++ in_order (map (λ (k : ℕ). f (Direct k)) slots) ((L ++ f (Hub Primary) L) ++ f (Hub Failover) (L ++ f (Hub Primary) L)))
    → P (L ++ in_order (map f names) L)
names-then P f L h =
    let D : ℕ → LinkName = λ k. Direct k in
    let rest : List Rule = map f (map D slots) in
    let M = L ++ f (Hub Primary) L in
    let N = M ++ f (Hub Failover) M in
    one-then P L (f (Hub Primary)) (f (Hub Failover) ∷ rest)
    (one-then P M (f (Hub Failover)) rest (subst (λ (rules : List Rule). P (N ++ in_order rules N)) (sym (map-map f D slots)) h))

-- Some rules, and then others on the log that they left.
pub some-then : (P : Log → Type 0) (L : Log) (rules others : List Rule) → P ((L ++ in_order rules L) ++ in_order others (L ++ in_order rules L)) → P (L ++ in_order (rules ++ others) L)
some-then P L rules others h =
    let M = L ++ in_order rules L in
    let m : M ≡ after rules L = ap (λ ms. L ++ ms) (in_order-brought rules L) ∙ sym (after-brought rules L) in
    subst P
    (ap (λ ms. M ++ ms) (in_order-brought others M) ∙ sym (after-brought others M) ∙ ap (after others) m
    ∙ sym (fold-append (λ (N : Log) (rule : Rule). N ++ rule N) L rules others)
    ∙ after-brought (rules ++ others) L ∙ ap (λ ms. L ++ ms) (sym (in_order-brought (rules ++ others) L))) h
