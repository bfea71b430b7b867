-- What a node has in hand stays the same.
-- It serves clauses of functions of `in_hand` and `turning`.
use Rattle.std.proofs.Common.{◌≡◌, refl, ◌∙◌, sym, subst}
use Rattle.bsc_node_run.specs.declared.in_hand.InHand.{InHand}
use Rattle.bsc_node_run.specs.Handling.{IsSameHand}

module _ {N K W L D : Type 0} where
  pub hand_same : (a : InHand N K W L D) → IsSameHand a a
  hand_same a = (refl, refl, refl, refl, refl)

  pub hand_then : (a b c : InHand N K W L D) → IsSameHand a b → IsSameHand b c → IsSameHand a c
  hand_then a b c (n, s, k, r, d) (n', s', k', r', d') = (n' ∙ n, s' ∙ s, k' ∙ k, r' ∙ r, d' ∙ d)

-- What holds of what it had in hand holds of what is there once it is let go.
pub let_go : {A B C D E : Type 0} (P : A → B → C → D → E → Type 0) {a a' : A} {b b' : B} {c c' : C} {d d' : D} {e e' : E}
    → (a' ≡ a) × (b' ≡ b) × (c' ≡ c) × (d' ≡ d) × (e' ≡ e) → P a b c d e → P a' b' c' d' e'
let_go P {a} {a'} {b} {b'} {c} {c'} {d} {d'} {e} {e'} (p, q, r, s, t) x =
    subst (λ u. P u b' c' d' e') (sym p)
    (subst (λ u. P a u c' d' e') (sym q) (subst (λ u. P a b u d' e') (sym r) (subst (λ u. P a b c u e') (sym s) (subst (λ u. P a b c d u) (sym t) x))))
