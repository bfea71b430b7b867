-- What a machine's newest step puts and closes is carried out, and then no link is busy any more.
-- It serves clauses of functions of `state`.
use Rattle.std.proofs.Common.{◌≡◌, ℕ, true, false, List, [], ◌∷◌, ◌++◌, None, ap, sym, ◌∙◌, subst, append_assoc}
use Rattle.std.proofs.lemmas.Bool.{false≢true}
use Rattle.std.proofs.lemmas.List.{append-nil}
use Rattle.bsc_accept.specs.declared.closing.Closing.{Closing}
use Rattle.bsc_node.specs.declared.link_name.LinkName.{LinkName}
use Rattle.bsc_node.specs.declared.action.Action.{Action}
use Rattle.bsc_node.specs.declared.action.Action.TheVariants.{Put, Close}
use Rattle.bsc_node.specs.Logs.{did, Log, Rule, does, in_order}
use Rattle.bsc_node.specs.Links.{Outcome, puts, puts_and_closes, closes, meets, is_refused, passes_up, keeps_still, is_there, was_taken}
use Rattle.bsc_node.specs.Ending.{carries_out_by, carries_out}
use Rattle.bsc_node.proofs.Calm.{is_calm}
use Rattle.bsc_node.proofs.Order.{in_order-cons, in_order-brought}
use Rattle.bsc_node_core.specs.declared.state.State.{State}
use Rattle.bsc_node_core.specs.Tables.{link_at, is_name}
use Rattle.bsc_node_core.specs.Standing.{Base, Stands}
use Rattle.bsc_node_core.specs.Telling.{busy_with, IsLeft, HasTold}
use Rattle.bsc_node_core.proofs.Settling.{settles, settles-gone}
use Rattle.bsc_node.proofs.There.{closed-gone as gone-closed}

-- ---- two rules in order

one-is : (rule : Rule) (M : Log) → in_order (rule ∷ []) M ≡ rule M
one-is rule M = in_order-cons rule [] M ∙ ap (λ ms. rule M ++ ms) (in_order-brought [] (M ++ rule M)) ∙ append-nil (rule M)

-- The log that two rules leave.
pub two-is : (L : Log) (first second : Rule) → L ++ in_order (first ∷ second ∷ []) L ≡ (L ++ first L) ++ second (L ++ first L)
two-is L first second =
    ap (λ ms. L ++ ms) (in_order-cons first (second ∷ []) L ∙ ap (λ ms. first L ++ ms) (one-is second (L ++ first L)))
    ∙ sym (append_assoc L (first L) (second (L ++ first L)))

-- The log that three rules leave.
three-is : (L : Log) (first second third : Rule)
    → L ++ in_order (first ∷ second ∷ third ∷ []) L ≡ ((L ++ first L) ++ second (L ++ first L)) ++ third ((L ++ first L) ++ second (L ++ first L))
three-is L first second third =
    ap (λ ms. L ++ ms) (in_order-cons first (second ∷ third ∷ []) L)
    ∙ sym (append_assoc L (first L) (in_order (second ∷ third ∷ []) (L ++ first L)))
    ∙ two-is (L ++ first L) second third

pub three-then : (P : Log → Type 0) (L : Log) (first second third : Rule) → P (((L ++ first L) ++ second (L ++ first L)) ++ third ((L ++ first L) ++ second (L ++ first L)))
    → P (L ++ in_order (first ∷ second ∷ third ∷ []) L)
three-then P L first second third h = subst P (sym (three-is L first second third)) h

-- Two rules and a third, or one and then two.
pub regrouped : (L : Log) (first second third : Rule) → (L ++ first L) ++ in_order (second ∷ third ∷ []) (L ++ first L) ≡ L ++ in_order (in_order (first ∷ second ∷ []) ∷ third ∷ []) L
regrouped L first second third =
    two-is (L ++ first L) second third
    ∙ ap (λ (N : Log). N ++ third N) (sym (two-is L first second))
    ∙ sym (two-is L (in_order (first ∷ second ∷ [])) third)

-- ---- a link that is closed isn't there

gone-put : (name : LinkName) (M : Log) (o : List ℕ) (closing : Closing) → is_there name (M ++ in_order (does (Put name o) ∷ does (Close name closing) ∷ []) M) ≡ false
gone-put name M o closing = ap (is_there name) (two-is M (does (Put name o)) (does (Close name closing))) ∙ gone-closed name (M ++ did (Put name o) ∷ []) closing

-- ---- a calm step

-- A step that puts or closes is carried out: no link is busy any more.
pub carried : (b : Base) (out later : List Action) (s s' : State) (M : Log) (name : LinkName) (u : Outcome) → b.busy ≡ None → is_name name ≡ true → is_calm u ≡ true → HasTold b out s M name u
    → ((base : Base) → Stands base out s M → Stands base later s' (M ++ carries_out_by name u M)) → Stands b later s' (M ++ carries_out b.made name M)
carried b out later s s' M name u none n calm told goes =
    subst (λ (x : Outcome). Stands b later s' (M ++ carries_out_by name x M)) (sym told.newest) (by u calm told.left goes)
  where
    by : (x : Outcome) → is_calm x ≡ true → IsLeft x (was_taken name M) (link_at s.links name).machine → ((base : Base) → Stands base out s M → Stands base later s' (M ++ carries_out_by name x M))
        → Stands b later s' (M ++ carries_out_by name x M)
    by (puts o) c l g = g b (settles b out s M name none l told.stands)
    by (puts_and_closes o closing) c l g =
        settles-gone b later s' (M ++ carries_out_by name (puts_and_closes o closing) M) name none n (gone-put name M o closing) (g (busy_with name b) told.stands)
    by (closes closing) c l g = settles-gone b later s' (M ++ did (Close name closing) ∷ []) name none n (gone-closed name M closing) (g (busy_with name b) told.stands)
    by (meets who) c l g = absurd (false≢true c)
    by (is_refused origin code) c l g = absurd (false≢true c)
    by (passes_up msg) c l g = absurd (false≢true c)
    by keeps_still c l g = g b (settles b out s M name none l told.stands)

-- Nothing comes about.
pub nothing-more : (b : Base) (out : List Action) (s : State) (L : Log) → Stands b out s L → Stands b out s (L ++ [])
nothing-more b out s L h = subst (λ (M : Log). Stands b out s M) (sym (append-nil L)) h
