-- Lemmas that crates above cite too.
-- It serves bsc_network_laws, bsc_network_script_laws and bsc_world.
use Rattle.bsc_network.specs.Changes.{by_target, unchanged, with_found}
use Rattle.bsc_network.specs.Courses.{end_time, MayAdd, MayAddAll, MayMakeAll, MayMake}
use Rattle.bsc_network.specs.HubSides.{unless_over}
use Rattle.bsc_network.specs.Settings.{Added}
use Rattle.bsc_network.specs.Worlds.{link_at, World, Link, Hub, hub_at}
use Rattle.bsc_network.specs.declared.target.Target.{Target}
use Rattle.bsc_network.specs.declared.target.Target.TheVariants.{Node as ToNode, Hub as ToHub}
use Rattle.bsc_network.specs.declared.timed_step.TimedStep.{TimedStep}
use Rattle.std.proofs.Common.{ℕ, ◌≡◌, ◌∷◌, refl, ◌++◌, [], List, Option, Some, false, None, true, sym, subst, append-nil, append_assoc}
use Rattle.std.specs.Prelude.{if◌then◌else◌}

pub same_node : (i k : ℕ) → ToNode i ≡ ToNode k → i ≡ k
same_node i k h = cc

pub not_both : (k j : ℕ) (t : Target) → t ≡ ToNode k → t ≡ ToHub j → ⊥
not_both k j t a b = cc

pub same_hub : (i j : ℕ) → ToHub i ≡ ToHub j → i ≡ j
same_hub i j h = cc

pub end_more : (before : ℕ) (steps : List TimedStep) (t : TimedStep) → end_time before (steps ++ t ∷ []) ≡ t.now
end_more before [] t = refl
end_more before (x ∷ steps) t = end_more x.now steps t

pub all_more : (before : ℕ) (steps : List TimedStep) (t : TimedStep) → MayMakeAll before steps → MayMake (end_time before steps) t → MayMakeAll before (steps ++ t ∷ [])
all_more before [] t all may = (may, tt)
all_more before (x ∷ steps) t all may = (all.0, all_more x.now steps t all.1 may)

one_more : (before added : List Added) (one : Added) → MayAddAll before added → MayAdd (before ++ added) one → MayAddAll before (added ++ one ∷ [])
one_more before [] one all may = (subst (λ xs. MayAdd xs one) (append-nil before) may, tt)
one_more before (x ∷ added) one all may = (all.0, one_more (before ++ x ∷ []) added one all.1 (subst (λ xs. MayAdd xs one) (sym (append_assoc before (x ∷ []) added)) may))

pub may_add_one : (added : List Added) (one : Added) → MayAddAll [] added → MayAdd added one → MayAddAll [] (added ++ one ∷ [])
may_add_one added one all may = one_more [] added one all may

pub unless_nothing : (l : ℕ) (w : World) → unless_over l unchanged w ≡ w
unless_nothing l w = by_link (link_at w l)
  where
    by_hub : (link : Link) (o : Option Hub) → with_found o (λ h. if link.side.is_over then unchanged else unchanged) w ≡ w
    by_hub link None = refl
    by_hub link (Some h) = elim link.side.is_over as (λ b. (if b then unchanged else unchanged) w ≡ w) [ true ↦ refl | false ↦ refl ]

    by_to : (link : Link) (to : Target) → by_target to (λ j v. with_found (hub_at v j) (λ h. if link.side.is_over then unchanged else unchanged) v) (λ n. unchanged) w ≡ w
    by_to link (ToHub j) = by_hub link (hub_at w j)
    by_to link (ToNode k) = refl

    by_link : (o : Option Link) → with_found o (λ link. by_target link.to (λ j v. with_found (hub_at v j) (λ h. if link.side.is_over then unchanged else unchanged) v) (λ n. unchanged)) w ≡ w
    by_link None = refl
    by_link (Some link) = by_to link link.to
