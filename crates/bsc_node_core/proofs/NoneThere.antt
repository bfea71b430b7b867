-- Whether any link is there, by what is kept of the links.
-- It serves the clauses of `may_draw`, `none_there` and `tell_finished`.
use Rattle.std.proofs.Common.{◌≡◌, ℕ, zero, suc, ◌+◌, ◌<◌, Bool, true, false, not, ◌&&◌, ◌||◌, List, [], ◌∷◌, ◌++◌, map, length, Option, refl, ap, sym, ◌∙◌, arith}
use Rattle.std.specs.Prelude.{slice_get}
use Rattle.std.specs.List.{list_any, range_with_len}
use Rattle.std.proofs.lemmas.Bool.{lt-ltb}
use Rattle.bsc_connector.specs.declared.side.Side.TheVariants.{Primary, Failover}
use Rattle.bsc_direct.specs.declared.bounds.TheConstants.{SLOTS}
use Rattle.bsc_direct.specs.Slots.{slots}
use Rattle.bsc_node.specs.declared.link_name.LinkName.{LinkName}
use Rattle.bsc_node.specs.declared.link_name.LinkName.TheVariants.{Hub, Direct}
use Rattle.bsc_node.specs.declared.note.Note.TheVariants.{Finished}
use Rattle.bsc_node.specs.declared.action.Action.{Action}
use Rattle.bsc_node.specs.declared.action.Action.TheVariants.{Tell}
use Rattle.bsc_node.specs.Logs.{Log, is_finishing, tells}
use Rattle.bsc_node.specs.Links.{names, is_there, none_there}
use Rattle.bsc_node.specs.Ending.{tells_finished}
use Rattle.bsc_node_core.specs.declared.link.Link.{Link}
use Rattle.bsc_node_core.specs.declared.links.Links.{Links}
use Rattle.bsc_node_core.specs.declared.state.State.{State}
use Rattle.bsc_node_core.specs.Machines.{says_there}
use Rattle.bsc_node_core.specs.Tables.{kept_in, link_at, is_name}
use Rattle.bsc_node_core.specs.Standing.{Base, Stands}
use Rattle.bsc_node_core.proofs.Branching.{when-so, when-not}
use Rattle.bsc_node_core.proofs.Wants.{told-stands}
use Rattle.bsc_lemmas.proofs.Booleans.{and_false}

-- ---- two tests that agree on names

slots-agree : (f g : LinkName → Bool) (n a : ℕ) → ((k : ℕ) → k < a + n → f (Direct k) ≡ g (Direct k))
    → list_any f (map (λ k. Direct k) (range_with_len a n)) ≡ list_any g (map (λ k. Direct k) (range_with_len a n))
slots-agree f g zero a h = refl
slots-agree f g (suc n) a h =
    ap (λ b. b || list_any f (map (λ k. Direct k) (range_with_len (a + 1) n))) (h a (omega arith))
    ∙ ap (λ b. g (Direct a) || b) (slots-agree f g n (a + 1) (λ k w. h k (omega (arith, w))))

names-agree : (f g : LinkName → Bool) → ((name : LinkName) → is_name name ≡ true → f name ≡ g name) → list_any f names ≡ list_any g names
unfolding slots
names-agree f g h =
    let D : ℕ → LinkName = λ k. Direct k in
    let rest = list_any f (map D (range_with_len 0 SLOTS)) in
    ap (λ b. b || (f (Hub Failover) || rest)) (h (Hub Primary) refl)
    ∙ ap (λ b. g (Hub Primary) || (b || rest)) (h (Hub Failover) refl)
    ∙ ap (λ b. g (Hub Primary) || (g (Hub Failover) || b)) (slots-agree f g SLOTS 0 (λ k w. h (Direct k) (lt-ltb k SLOTS w)))

-- No link is there where none is kept that is.
pub none-there-kept : (b : Base) (out : List Action) (s : State) (L : Log) → Stands b out s L → none_there L ≡ not (list_any (λ name. says_there (link_at s.links name).machine) names)
none-there-kept b out s L h = ap not (names-agree (λ name. is_there name L) (λ name. says_there (link_at s.links name).machine) (λ name n. (h.links name n).there))

-- ---- the slots that are kept

abbrev in_there : Option Link → Bool
in_there o = says_there (kept_in o).machine

any-slot : (test : LinkName → Bool) (xs : List Link) (a : ℕ) → ((k : ℕ) → test (Direct (a + k)) ≡ in_there (slice_get xs k))
    → list_any (λ (l : Link). says_there l.machine) xs ≡ list_any test (map (λ k. Direct k) (range_with_len a (length xs)))
any-slot test [] a h = refl
any-slot test (x ∷ xs) a h =
    let here : test (Direct a) ≡ says_there x.machine = ap (λ (k : ℕ). test (Direct k)) (let q : a ≡ a + 0 = omega arith in q) ∙ h 0 in
    let rest = any-slot test xs (a + 1) (λ k. ap (λ (j : ℕ). test (Direct j)) (let q : a + 1 + k ≡ a + suc k = omega arith in q) ∙ h (suc k)) in
    ap (λ b. b || list_any (λ (l : Link). says_there l.machine) xs) (sym here)
    ∙ ap (λ b. test (Direct a) || b) rest

-- one of two, tested one after the other
pub or-so : (a b r v : Bool) → r ≡ a → r ≡ true → v ≡ r → v ≡ (a || b)
or-so a b r v q t e = e ∙ t ∙ sym (ap (λ x. x || b) (sym q ∙ t))

pub or-not : (a b r v : Bool) → r ≡ a → r ≡ false → v ≡ b → v ≡ (a || b)
or-not a b r v q t e = e ∙ sym (ap (λ x. x || b) (sym q ∙ t))

or_three : (a b c : Bool) → ((a || b) || c) ≡ (a || (b || c))
or_three true b c = refl
or_three false b c = refl

-- The three tests are that of all names.
pub any-kept-there : (ls : Links) → length ls.slots.items ≡ SLOTS
    → ((says_there ls.primary.machine || says_there ls.failover.machine) || list_any (λ (l : Link). says_there l.machine) ls.slots.items)
    ≡ list_any (λ name. says_there (link_at ls name).machine) names
unfolding slots
any-kept-there ls n =
    or_three (says_there ls.primary.machine) (says_there ls.failover.machine) (list_any (λ (l : Link). says_there l.machine) ls.slots.items)
    ∙ ap (λ b. says_there ls.primary.machine || (says_there ls.failover.machine || b))
    (any-slot (λ name. says_there (link_at ls name).machine) ls.slots.items 0 (λ k. ap (λ (j : ℕ). in_there (slice_get ls.slots.items j)) (let q : 0 + k ≡ k = omega arith in q))
    ∙ ap (λ (m : ℕ). list_any (λ name. says_there (link_at ls name).machine) (map (λ k. Direct k) (range_with_len 0 m))) n)

-- ---- the end is told

pub finished-told : (b : Base) (out later : List Action) (s : State) (L : Log) → later ≡ out ++ Tell Finished ∷ [] → s.finishing ≡ true
    → not (list_any (λ name. says_there (link_at s.links name).machine) names) ≡ true
    → Stands b out s L → Stands b later s (L ++ tells_finished L)
finished-told b out later s L t f n h =
    when-so (λ M. Stands b later s M) L (λ M. is_finishing M && none_there M) (tells Finished) (ap (λ c. c && none_there L) (h.finishing ∙ f) ∙ none-there-kept b out s L h ∙ n)
    (told-stands b out later s L _ Finished t refl h)

pub links-left : (b : Base) (out : List Action) (s : State) (L : Log) → not (list_any (λ name. says_there (link_at s.links name).machine) names) ≡ false → Stands b out s L
    → Stands b out s (L ++ tells_finished L)
links-left b out s L n h =
    when-not (λ M. Stands b out s M) L (λ M. is_finishing M && none_there M) (tells Finished) (ap (λ c. is_finishing L && c) (none-there-kept b out s L h ∙ n) ∙ and_false (is_finishing L)) h

pub goes-on : (b : Base) (out : List Action) (s : State) (L : Log) → s.finishing ≡ false → Stands b out s L → Stands b out s (L ++ tells_finished L)
goes-on b out s L f h = when-not (λ M. Stands b out s M) L (λ M. is_finishing M && none_there M) (tells Finished) (ap (λ c. c && none_there L) (h.finishing ∙ f)) h
