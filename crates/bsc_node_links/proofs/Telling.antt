-- What links that had told nothing when they came tell at last.
-- It serves clauses of functions of `laws`.
use Rattle.std.proofs.Common.{◌≡◌, ℕ, zero, suc, Bool, true, List, [], ◌∷◌, ◌++◌, Option, Some, None, refl, ap, sym, subst, ◌∙◌}
use Rattle.std.specs.Prelude.{slice_get}
use Rattle.std.specs.List.{list_all}
use Rattle.std.proofs.lemmas.Option.{same_Some}
use Rattle.bsc_edge.specs.declared.said.Said.{Said}
use Rattle.bsc_edge.specs.Told.{Grows, ToldIs, all_told as each_told}
use Rattle.bsc_node.specs.declared.link_name.LinkName.{LinkName}
use Rattle.bsc_node.specs.declared.action.Action.TheVariants.{Dial, Take}
use Rattle.bsc_node.specs.Links.{begins}
use Rattle.bsc_node.specs.Logs.{Line, did, Log}
use Rattle.bsc_lemmas.proofs.Booleans.{and_left, and_right}
use Rattle.bsc_node_links.specs.Coming.{LeftBy, arrived_by, by_lines, link_by}
use Rattle.bsc_node_links.specs.Lives.{given_over, put_over}
use Rattle.bsc_node_links.specs.Stopped.{StoppedLinksTell}
use Rattle.bsc_node_links.specs.Talks.{AreFirstOf, given_in, put_in}
use Rattle.bsc_node_links.specs.Telling.{AllFresh, AreFresh, AreUntold, CameFresh, LeavesFresh, LinksAreFresh, LinksCameFresh, LinksTell, Tells, TellsOf}
use Rattle.bsc_node_links.specs.Using.{HasUse}

-- what is told at last, where nothing was told at first
all_told : (old new : Option (List Said)) (T : List Said) (given put : List (List ℕ)) → ToldIs old [] → Grows old new T → given_in T ≡ given → AreFirstOf (put_in T) put → TellsOf new given put
all_told old None T given put fresh grows gave took = tt
all_told None (Some new) T given put fresh grows gave took = absurd grows
all_told (Some old) (Some new) T given put fresh grows gave took =
    let same : new ≡ T = grows ∙ ap (λ (l : List Said). l ++ T) fresh in (
      ap given_in same ∙ gave,
      subst (λ (l : List Said). AreFirstOf (put_in l) put) (sym same) took,
    )

module _ {L : Type 0} (talk : L → Option (List Said)) where
  fresh_left : (xs ys : List L) → AllFresh talk (xs ++ ys) → AllFresh talk xs
  fresh_left [] ys f = tt
  fresh_left (l ∷ xs) ys f = (f.0, fresh_left xs ys f.1)

  fresh_right : (xs ys : List L) → AllFresh talk (xs ++ ys) → AllFresh talk ys
  fresh_right [] ys f = f
  fresh_right (l ∷ xs) ys f = fresh_right xs ys f.1

  -- the link that came by a line by which one began
  fresh_here : (m : Line) (l : L) (name : LinkName) (xs ys : List L) → begins name m ≡ true → AllFresh talk (link_by m (Some l) ++ xs) → AllFresh talk (arrived_by m (Some l) ++ ys)
      → ToldIs (talk l) []
  fresh_here (did (Dial other uri)) l name xs ys it f g = f.0
  fresh_here (did (Take other)) l name xs ys it f g = g.0
  fresh_here m l name xs ys it f g = cc

  fresh_at : (M : Log) (links : List (Option L)) (i : ℕ) (m : Line) (l : L) (name : LinkName) → AreFresh talk M links → slice_get M i ≡ Some m → begins name m ≡ true
      → slice_get links i ≡ Some (Some l) → ToldIs (talk l) []
  fresh_at [] links i m l name f at it h = cc
  fresh_at (n ∷ M) [] i m l name f at it h = cc
  fresh_at (n ∷ M) (k ∷ links) zero m l name f at it h =
      let same : n ≡ m = same_Some n m at in
      let link : k ≡ Some l = same_Some k (Some l) h in
      fresh_here n l name (by_lines link_by M links) (by_lines arrived_by M links) (ap (begins name) same ∙ it)
      (subst (λ (o : Option L). AllFresh talk (link_by n o ++ by_lines link_by M links)) link f.0) (subst (λ (o : Option L). AllFresh talk (arrived_by n o ++ by_lines arrived_by M links)) link f.1)
  fresh_at (n ∷ M) (k ∷ links) (suc i) m l name f at it h =
      fresh_at M links i m l name (fresh_right (link_by n k) (by_lines link_by M links) f.0, fresh_right (arrived_by n k) (by_lines arrived_by M links) f.1) at it h

  use_tells : (link : Option L) (given put : List (List ℕ)) → ((l : L) → link ≡ Some l → ToldIs (talk l) []) → HasUse talk link given put → Tells talk link given put
  use_tells None given put fresh h = h
  use_tells (Some k) given put fresh (l, u) = (l, all_told (talk k) (talk l) u.T given put (fresh k refl) u.grows u.gave u.took)

  pub links_tell : LinksTell talk
  links_tell before after M u fresh x begun =
      let h = u.used x begun in
      (h.0, h.1, use_tells h.0 (given_over M x) (put_over M x) (λ l is. fresh_at M u.links x.began begun.line l x.name fresh begun.at begun.begins_it (h.1 ∙ ap Some is)) h.2)

  left_fresh : (before after : Option (List L)) (links : List L) → LeavesFresh talk before after → LeftBy before after links → AllFresh talk links
  left_fresh before after links f h =
      let told : LeftBy (Some f.old) (Some f.new) links = subst (λ (o : Option (List L)). LeftBy o (Some f.new) links) f.was (subst (λ (o : Option (List L)). LeftBy before o links) f.is h) in
      fresh_left links f.new (subst (AllFresh talk) told f.fresh)

  pub links_are_fresh : LinksAreFresh talk
  links_are_fresh before after M u dialer acceptor = (
    left_fresh before.dialled.left after.dialled.left (by_lines link_by M u.links) dialer u.dialled.left,
    left_fresh before.door.left after.door.left (by_lines arrived_by M u.links) acceptor u.arrived.left,
  )

  came_fresh : (before after : Option (List L)) (links : List L) → CameFresh talk after → Grows before after links → AllFresh talk links
  came_fresh before after links f grows = by before (subst (λ (o : Option (List L)). Grows before o links) f.is grows)
    where
      by : (old : Option (List L)) → Grows old (Some f.links) links → AllFresh talk links
      by None g = absurd g
      by (Some old) g = fresh_right old links (subst (AllFresh talk) g f.fresh)

  pub links_came_fresh : LinksCameFresh talk
  links_came_fresh before after M u dialled arrived = (
    came_fresh before.dialled.came after.dialled.came (by_lines link_by M u.links) dialled u.dialled.came,
    came_fresh before.door.came after.door.came (by_lines arrived_by M u.links) arrived u.arrived.came,
  )

  -- The same of a run that a fault stopped.
  pub stopped_links_tell : StoppedLinksTell talk
  stopped_links_tell before after M u dialled arrived x begun =
      let fresh : AreFresh talk M u.links = (
        came_fresh before.dialled.came after.dialled.came (by_lines link_by M u.links) dialled u.dialled.came,
        came_fresh before.door.came after.door.came (by_lines arrived_by M u.links) arrived u.arrived.came,
      ) in
      let h = u.used x begun in
      (h.0, h.1, use_tells h.0 (given_over M x) (put_over M x) (λ l is. fresh_at M u.links x.began begun.line l x.name fresh begun.at begun.begins_it (h.1 ∙ ap Some is)) h.2)

  each_fresh : (fresh : L → Bool) → AreUntold talk fresh → (links : List L) → list_all fresh links ≡ true → AllFresh talk links
  each_fresh fresh untold [] h = tt
  each_fresh fresh untold (l ∷ links) h = (untold l (and_left (fresh l) (list_all fresh links) h), each_fresh fresh untold links (and_right (fresh l) (list_all fresh links) h))

  -- what came, where it is told
  pub told_fresh : (fresh : L → Bool) (came : Option (List L)) → AreUntold talk fresh → each_told fresh came ≡ true → (links : List L) → came ≡ Some links → CameFresh talk came
  told_fresh fresh came untold h links is = record {
    links = links;
    is = is;
    fresh = each_fresh fresh untold links (subst (λ (o : Option (List L)). each_told fresh o ≡ true) is h);
  }
