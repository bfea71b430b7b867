-- Which links are there, once one line more stands in the log.
-- It serves bsc_node_core, bsc_node_identity and bsc_node_laws.
use Rattle.std.proofs.Common.{◌≡◌, Bool, true, false, not, ◌||◌, ◌&&◌, [], ◌∷◌, ◌++◌, refl, ap, ◌∙◌}
use Rattle.std.specs.List.{list_any}
use Rattle.bsc_connector.proofs.BackLemmas.{list_any-more}
use Rattle.bsc_accept.specs.declared.closing.Closing.{Closing}
use Rattle.bsc_node.specs.declared.link_name.LinkName.{LinkName}
use Rattle.bsc_node.specs.declared.action.Action.TheVariants.{Close}
use Rattle.bsc_node.specs.Logs.{Line, did, Log}
use Rattle.bsc_node.specs.Links.{begins, is_over_by, life, is_there}
use Rattle.bsc_node.proofs.Told.{same_link-self, life-more}
use Rattle.bsc_lemmas.proofs.Booleans.{and_false, or_false, or_true}

-- A link is there, after a line that doesn't begin it, where it began and is over neither before nor by that line.
pub there-more : (name : LinkName) (L : Log) (m : Line) → begins name m ≡ false
    → is_there name (L ++ m ∷ []) ≡ (list_any (begins name) L && not (list_any (is_over_by name) (life L name) || is_over_by name m))
there-more name L m b =
    ap (λ (p : Bool). p && not (list_any (is_over_by name) (life (L ++ m ∷ []) name)))
    (list_any-more (begins name) L m ∙ ap (λ (p : Bool). list_any (begins name) L || p) b ∙ or_false (list_any (begins name) L))
    ∙ ap (λ (xs : Log). list_any (begins name) L && not (list_any (is_over_by name) xs)) (life-more L m name b)
    ∙ ap (λ (p : Bool). list_any (begins name) L && not p) (list_any-more (is_over_by name) (life L name) m)

-- A line that neither begins nor ends a link leaves it there or not, as it was.
pub there-other : (name : LinkName) (L : Log) (m : Line) → begins name m ≡ false → is_over_by name m ≡ false → is_there name (L ++ m ∷ []) ≡ is_there name L
there-other name L m b o =
    there-more name L m b
    ∙ ap (λ (p : Bool). list_any (begins name) L && not (list_any (is_over_by name) (life L name) || p)) o
    ∙ ap (λ (p : Bool). list_any (begins name) L && not p) (or_false (list_any (is_over_by name) (life L name)))

-- A link that is over isn't there.
pub there-over : (name : LinkName) (L : Log) (m : Line) → begins name m ≡ false → is_over_by name m ≡ true → is_there name (L ++ m ∷ []) ≡ false
there-over name L m b o =
    there-more name L m b
    ∙ ap (λ (p : Bool). list_any (begins name) L && not (list_any (is_over_by name) (life L name) || p)) o
    ∙ ap (λ (p : Bool). list_any (begins name) L && not p) (or_true (list_any (is_over_by name) (life L name)))
    ∙ and_false (list_any (begins name) L)

pub closed-gone : (name : LinkName) (L : Log) (c : Closing) → is_there name (L ++ did (Close name c) ∷ []) ≡ false
closed-gone name L c = there-over name L (did (Close name c)) refl (same_link-self name)
