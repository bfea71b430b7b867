-- What turns come to, one after the other: the last of them apart.
-- It serves clauses of functions of `laws`.
use Rattle.std.proofs.Common.{◌≡◌, inl, inr, List, [], ◌∷◌, ◌++◌, flat_map, Option, Some, None, refl, ap, sym, ◌∙◌, append_assoc}
use Rattle.std.proofs.lemmas.Grind.{flat_map-append}
use Rattle.bsc_session.specs.Course.{EachTurn, TurnGoesOn, and_last, shares, standing}
use Rattle.bsc_session.specs.Following.{Tied}
use Rattle.bsc_session.specs.Standings.{Standing, Terms}
use Rattle.bsc_session.specs.Turns.{IsTurn, Turn, after}
use Rattle.bsc_session.proofs.Lists.{shares-more}
use Rattle.bsc_session_laws.specs.Laws.{AreAllBut}
use Rattle.bsc_session_laws.proofs.Turning.{tied_after}

-- what each turn gives
abbrev pub Share : Type 0 → Type 0
Share A = Terms → Standing → Turn → List A

pub each_split : (P : Terms → Standing → Turn → Type 0) (v : Terms) (s : Standing) (ts : List Turn) (t : Turn) → EachTurn P v s (ts ++ t ∷ []) → EachTurn P v s ts × P v (standing v s ts) t
each_split P v s [] t h = (tt, h.0)
each_split P v s (u ∷ ts) t h = (let rest = each_split P v (after v s u) ts t h.1 in ((h.0, rest.0), rest.1))

tied_turns : (v : Terms) (s : Standing) (ts : List Turn) → Tied s → Tied (standing v s ts)
tied_turns v s [] k = k
tied_turns v s (t ∷ ts) k = tied_turns v (after v s t) ts (tied_after v s t k)

-- what is made of all shares, by parts
pub mapped_shares : {A B : Type 0} (h : A → List B) (f : Share A) (v : Terms) (s : Standing) (ts : List Turn) → flat_map h (shares f v s ts) ≡ shares (λ v s t. flat_map h (f v s t)) v s ts
mapped_shares h f v s [] = refl
mapped_shares {A} {B} h f v s (t ∷ ts) = flat_map-append h (f v s t) (shares f v (after v s t) ts) ∙ ap (λ (l : List B). flat_map h (f v s t) ++ l) (mapped_shares h f v (after v s t) ts)

module _ {A : Type 0} (f g : Share A) (v : Terms) (goes : (s : Standing) (t : Turn) → Tied s → IsTurn v s t → TurnGoesOn v s t → f v s t ≡ g v s t) where
  -- turns that go on give the same by f and by g
  same_shares : (s : Standing) (ts : List Turn) → Tied s → EachTurn IsTurn v s ts → EachTurn TurnGoesOn v s ts → shares f v s ts ≡ shares g v s ts
  same_shares s [] k is on = refl
  same_shares s (t ∷ ts) k is on =
      ap (λ (l : List A). l ++ shares f v (after v s t) ts) (goes s t k is.0 on.0)
      ∙ ap (λ (l : List A). g v s t ++ l) (same_shares (after v s t) ts (tied_after v s t k) is.1 on.1)

  -- and all turns do, but for what the last one lacks
  pub all_but : (N : Option Turn → A → Type 0) → ((s : Standing) (t : Turn) → Tied s → IsTurn v s t → AreAllBut (N (Some t)) (f v s t) (g v s t))
      → (s : Standing) (ts : List Turn) (last : Option Turn) → Tied s → EachTurn IsTurn v s (and_last ts last) → EachTurn TurnGoesOn v s ts
      → AreAllBut (N last) (shares f v s (and_last ts last)) (shares g v s (and_last ts last))
  all_but N ends s ts None k is on = inl (same_shares s ts k is on)
  all_but N ends s ts (Some t) k is on = by (ends (standing v s ts) t (tied_turns v s ts k) two.1)
    where
      two : EachTurn IsTurn v s ts × IsTurn v (standing v s ts) t
      two = each_split IsTurn v s ts t is

      front : shares f v s ts ≡ shares g v s ts
      front = same_shares s ts k two.0 on

      by : AreAllBut (N (Some t)) (f v (standing v s ts) t) (g v (standing v s ts) t) → AreAllBut (N (Some t)) (shares f v s (ts ++ t ∷ [])) (shares g v s (ts ++ t ∷ []))
      by (inl e) = inl (
          shares-more f v s ts t ∙ ap (λ (l : List A). l ++ f v (standing v s ts) t) front ∙ ap (λ (l : List A). shares g v s ts ++ l) e ∙ sym (shares-more g v s ts t)
          )
      by (inr r) = inr (
        r.0,
        r.1,
        shares-more f v s ts t ∙ ap (λ (l : List A). l ++ f v (standing v s ts) t) front ∙ ap (λ (l : List A). shares g v s ts ++ l) r.2
            ∙ sym (append_assoc (shares g v s ts) (g v (standing v s ts) t) (r.0 ∷ [])) ∙ ap (λ (l : List A). l ++ r.0 ∷ []) (sym (shares-more g v s ts t)),
      )

pub all_as : {A : Type 0} (N : A → Type 0) (all made every done : List A) → all ≡ every → made ≡ done → AreAllBut N every done → AreAllBut N all made
all_as N all made every done a m (inl e) = inl (a ∙ e ∙ sym m)
all_as {A} N all made every done a m (inr r) = inr (r.0, r.1, a ∙ r.2 ∙ ap (λ (l : List A). l ++ r.0 ∷ []) (sym m))
