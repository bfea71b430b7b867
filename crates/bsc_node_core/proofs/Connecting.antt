-- What a node keeps and its address resolution go on standing for its log, where a direct connection is wanted.
-- It serves clauses of functions of `failing` and `requesting`.
use Rattle.std.proofs.Common.{◌≡◌, ℕ, List, [], ◌∷◌, ◌++◌, Option, Some, None, refl, ap, sym, ◌∙◌, subst}
use Rattle.std.specs.Prelude.{filter, slice_get}
use Rattle.bsc_octets.specs.declared.vmac.Vmac.{Vmac}
use Rattle.bsc_direct.specs.declared.call.SlotCall.TheVariants.{Claim}
use Rattle.bsc_resolve.specs.declared.resolve.Resolve.{Resolve}
use Rattle.bsc_node.specs.declared.link_name.LinkName.TheVariants.{Direct}
use Rattle.bsc_node.specs.declared.note.Note.TheVariants.{NoUris, NoDirect, SlotsFull}
use Rattle.bsc_node.specs.declared.action.Action.{Action}
use Rattle.bsc_node.specs.declared.action.Action.TheVariants.{Dial, Tell}
use Rattle.bsc_node.specs.Logs.{slot, did, Log, Rule, nothing, does, tells, with_some, where_found}
use Rattle.bsc_node.specs.Ways.{is_ws_uri, words_with, established, learnt, uris_to_dial, free_slot, slots_see}
use Rattle.bsc_node.specs.Requesting.{dials_first, directs}
use Rattle.bsc_node_core.specs.declared.state.State.{State}
use Rattle.bsc_node_core.specs.Standing.{Base, Stands}
use Rattle.bsc_node_core.specs.Resolving.{asked_by, BothStand}
use Rattle.bsc_node_core.proofs.Asking.{two-in-order, both-still, both-word}
use Rattle.bsc_node_core.proofs.Answering.{both-at-rest}
use Rattle.bsc_lemmas.proofs.Options.{some_none_any as some_none}
use Rattle.std.proofs.lemmas.Option.{same_Some as some_same}

-- ---- the URIs

pub these-to-dial : (v : Vmac) (L : Log) (text : List ℕ) (n : ℕ) → learnt v L ≡ Some text → slice_get (uris_to_dial v L) n ≡ slice_get (filter is_ws_uri (words_with [] text)) n
these-to-dial v L text n h = rw h refl

no_first : (uris : List (List ℕ)) → slice_get uris 0 ≡ None → uris ≡ []
no_first [] h = refl
no_first (uri ∷ uris) h = some_none uri h

first-dialled : (v : Vmac) (k : ℕ) (uris : List (List ℕ)) (uri : List ℕ) (L : Log) → slice_get uris 0 ≡ Some uri → dials_first v k uris L ≡ dials_first v k (uri ∷ []) L
first-dialled v k [] uri L h = some_none uri (sym h)
first-dialled v k (x ∷ uris) uri L h = ap (λ u. dials_first v k (u ∷ []) L) (some_same x uri h)

-- ---- the rule, case by case

abbrev by_slot : Vmac → Rule
by_slot v = where_found free_slot (λ k L. dials_first v k (uris_to_dial v L) L) (tells SlotsFull)

abbrev by_uris : Vmac → Rule
by_uris v = where_found (learnt v) (λ text. by_slot v) (tells (NoUris v))

directs-established : (v : Vmac) (L : Log) (o : Option ℕ) → established v L ≡ o → directs v L ≡ with_some o (λ k. nothing) (by_uris v) L
directs-established v L o e = ap (λ (x : Option ℕ). with_some x (λ k. nothing) (by_uris v) L) e

directs-learnt : (v : Vmac) (L : Log) (o : Option (List ℕ)) → established v L ≡ None → learnt v L ≡ o → directs v L ≡ with_some o (λ text. by_slot v) (tells (NoUris v)) L
directs-learnt v L o e l = directs-established v L None e ∙ ap (λ (x : Option (List ℕ)). with_some x (λ text. by_slot v) (tells (NoUris v)) L) l

directs-free : (v : Vmac) (L : Log) (text : List ℕ) (o : Option ℕ) → established v L ≡ None → learnt v L ≡ Some text → free_slot L ≡ o
    → directs v L ≡ with_some o (λ k M. dials_first v k (uris_to_dial v M) M) (tells SlotsFull) L
directs-free v L text o e l f = directs-learnt v L (Some text) e l ∙ ap (λ (x : Option ℕ). with_some x (λ k M. dials_first v k (uris_to_dial v M) M) (tells SlotsFull) L) f

-- ---- both stand

-- A direct connection is established already.
pub both-there : (b : Base) (out : List Action) (s : State) (r : Resolve) (L : Log) (v : Vmac) (k : ℕ) → established v L ≡ Some k → BothStand b out s r L → BothStand b out s r (L ++ directs v L)
both-there b out s r L v k e h = both-at-rest b out s r L (directs v L) (directs-established v L (Some k) e) h

pub both-unlearnt : (b : Base) (out later : List Action) (s : State) (r : Resolve) (L : Log) (v : Vmac) → established v L ≡ None → learnt v L ≡ None → later ≡ out ++ Tell (NoUris v) ∷ []
    → BothStand b out s r L
    → BothStand b later s r (L ++ directs v L)
both-unlearnt b out later s r L v e l o h = both-word b out later s r r L (directs v L) (NoUris v) o (directs-learnt v L None e l) (λ wait calls stands. stands) h

pub both-slots_full : (b : Base) (out later : List Action) (s : State) (r : Resolve) (L : Log) (v : Vmac) (text : List ℕ) → established v L ≡ None → learnt v L ≡ Some text
    → free_slot L ≡ None → later ≡ out ++ Tell SlotsFull ∷ []
    → BothStand b out s r L → BothStand b later s r (L ++ directs v L)
both-slots_full b out later s r L v text e l f o h = both-word b out later s r r L (directs v L) SlotsFull o (directs-free v L text None e l f) (λ wait calls stands. stands) h

pub both-undialled : (b : Base) (out later : List Action) (s : State) (r : Resolve) (L : Log) (v : Vmac) (text : List ℕ) (k : ℕ) → established v L ≡ None → learnt v L ≡ Some text
    → free_slot L ≡ Some k → None ≡ slice_get (uris_to_dial v L) 0
    → later ≡ out ++ Tell (NoDirect v) ∷ [] → BothStand b out s r L → BothStand b later s r (L ++ directs v L)
both-undialled b out later s r L v text k e l f u o h =
    both-word b out later s r r L (directs v L) (NoDirect v) o
    (directs-free v L text (Some k) e l f ∙ ap (λ uris. dials_first v k uris L) (no_first (uris_to_dial v L) (sym u))) (λ wait calls stands. stands) h

-- A slot is claimed, and the first URI is dialled.
pub both-dialled : (b : Base) (out later : List Action) (s s' : State) (r : Resolve) (L : Log) (v : Vmac) (text uri : List ℕ) (k : ℕ) → established v L ≡ None → learnt v L ≡ Some text
    → free_slot L ≡ Some k
    → Some uri ≡ slice_get (uris_to_dial v L) 0 → Stands (asked_by L b) later s' ((L ++ slot (Claim k (Some v)) ∷ []) ++ did (Dial (Direct k) uri) ∷ []) → BothStand b out s r L
    → BothStand b later s' r (L ++ directs v L)
both-dialled b out later s s' r L v text uri k e l f u stands h =
    both-still b later s' r L (L ++ directs v L) h.resolution
    (subst (λ ms. Stands (asked_by L b) later s' (L ++ ms)) (sym (directs-free v L text (Some k) e l f ∙ first-dialled v k (uris_to_dial v L) uri L (sym u)))
    (two-in-order (λ M. Stands (asked_by L b) later s' M) L (slots_see (Claim k (Some v))) (does (Dial (Direct k) uri)) stands))
