-- A link whose Connect-Request was refused is closed, and another VMAC is drawn, or the link is over.
-- It serves the clauses of `be_refused`, `may_draw` and `may_renew`.
use Rattle.std.proofs.Common.{◌≡◌, ℕ, Bool, true, false, not, ◌&&◌, List, [], ◌∷◌, ◌++◌, Option, None, refl, ap, sym, ◌∙◌, subst, arith}
use Rattle.std.specs.Prelude.{nat_lt, ◌==◌, min}
use Rattle.std.proofs.lemmas.Bool.{ltb-true, ltb-false, lt-ltb, le-ltb}
use Rattle.bsc_octets.specs.declared.vmac.Vmac.{Vmac}
use Rattle.bsc_accept.specs.Steps.{normal}
use Rattle.bsc_node.specs.declared.bounds.TheConstants.{RENEWALS}
use Rattle.bsc_node.specs.declared.link_name.LinkName.{LinkName}
use Rattle.bsc_node.specs.declared.note.Note.TheVariants.{Nak}
use Rattle.bsc_node.specs.declared.action.Action.{Action}
use Rattle.bsc_node.specs.declared.action.Action.TheVariants.{Close, Draw, Tell}
use Rattle.bsc_node.specs.Logs.{did, Log, Rule, does, either, if_so, is_finishing}
use Rattle.bsc_node.specs.Links.{none_there}
use Rattle.bsc_node.specs.Ending.{ends}
use Rattle.bsc_node.specs.Meeting.{is_hub, refuser, tells_refusal, may_draw, renewals, is_refused_by}
use Rattle.bsc_node_core.specs.declared.state.State.{State}
use Rattle.bsc_node_core.specs.Tables.{is_name}
use Rattle.bsc_node_core.specs.Standing.{Base, Stands}
use Rattle.bsc_node_core.specs.Telling.{busy_with}
use Rattle.bsc_node_core.proofs.Carrying.{three-then}
use Rattle.bsc_node_core.proofs.Lines.{IsQuiet, quiet-stands}
use Rattle.bsc_node_core.proofs.Settling.{settles-gone}
use Rattle.bsc_node_core.proofs.Wants.{tell-stands}
use Rattle.bsc_node.proofs.There.{closed-gone as gone-closed}

-- the log once the link was closed, and once the refusal was told too
abbrev pub with_closed : LinkName → Log → Log
with_closed name L = L ++ did (Close name normal) ∷ []

abbrev pub with_told : LinkName → Option Vmac → ℕ → Log → Log
with_told name origin code L = with_closed name L ++ tells_refusal name origin code (with_closed name L)

-- The link is closed, and the refusal is told: no link is busy any more.
pub refusal-told : (b : Base) (out closed told : List Action) (s s' : State) (L : Log) (name : LinkName) (origin from : Option Vmac) (code : ℕ) → b.busy ≡ None → is_name name ≡ true
    → ((base : Base) (M : Log) → Stands base out s M → Stands base closed s' (M ++ did (Close name normal) ∷ []))
    → ((base : Base) (os : List Action) (M : Log) → Stands base os s' M → from ≡ refuser name origin M)
    → told ≡ closed ++ Tell (Nak from 0x06 code) ∷ [] → Stands (busy_with name b) out s L → Stands b told s' (with_told name origin code L)
refusal-told b out closed told s s' L name origin from code none n closes refuses t h =
    let c : Stands b closed s' (with_closed name L) = settles-gone b closed s' (with_closed name L) name none n (gone-closed name L normal) (closes (busy_with name b) L h) in
    subst (λ os. Stands b os s' (with_told name origin code L)) (sym t)
    (subst (λ (v : Option Vmac). Stands b (closed ++ Tell (Nak from 0x06 code) ∷ []) s' (with_closed name L ++ did (Tell (Nak v 0x06 code)) ∷ [])) (refuses b closed (with_closed name L) c)
    (tell-stands b closed s' (with_closed name L) (Nak from 0x06 code) c))

-- the rest of the rule, on the log that these leave
abbrev draws-or-ends : Base → LinkName → ℕ → Bool → Rule
draws-or-ends b name code may = if_so may (does Draw) (ends b.made name)

refused-then : (b : Base) (out : List Action) (s : State) (L : Log) (name : LinkName) (origin : Option Vmac) (code : ℕ) (may : Bool) → may_draw name code (with_told name origin code L) ≡ may
    → Stands b out s (with_told name origin code L ++ draws-or-ends b name code may (with_told name origin code L)) → Stands b out s (L ++ is_refused_by b.made name origin code L)
refused-then b out s L name origin code may e h =
    three-then (λ M. Stands b out s M) L (does (Close name normal)) (tells_refusal name origin code) (either (may_draw name code) (does Draw) (ends b.made name))
    (subst (λ (c : Bool). Stands b out s (with_told name origin code L ++ draws-or-ends b name code c (with_told name origin code L))) (sym e) h)

draw-quiet : IsQuiet Draw
draw-quiet = record { begins = λ name. refl; over = λ name. refl; number = refl }

-- Another VMAC is drawn.
pub drawn-stands : (b : Base) (told later : List Action) (s : State) (L : Log) (name : LinkName) (origin : Option Vmac) (code : ℕ) → later ≡ told ++ Draw ∷ []
    → may_draw name code (with_told name origin code L) ≡ true
    → Stands b told s (with_told name origin code L) → Stands b later s (L ++ is_refused_by b.made name origin code L)
drawn-stands b told later s L name origin code o may h =
    refused-then b later s L name origin code true may
    (subst (λ os. Stands b os s (with_told name origin code L ++ did Draw ∷ [])) (sym o) (quiet-stands b told s (with_told name origin code L) Draw draw-quiet h))

-- The link is over.
pub not-drawn-stands : (b : Base) (later : List Action) (s : State) (L : Log) (name : LinkName) (origin : Option Vmac) (code : ℕ) → may_draw name code (with_told name origin code L) ≡ false
    → Stands b later s (with_told name origin code L ++ ends b.made name (with_told name origin code L)) → Stands b later s (L ++ is_refused_by b.made name origin code L)
not-drawn-stands b later s L name origin code may h = refused-then b later s L name origin code false may h

-- ---- whether another VMAC may be drawn

below-kept : (n r : ℕ) → min RENEWALS n ≡ r → nat_lt r RENEWALS ≡ nat_lt n RENEWALS
below-kept n r h = by (nat_lt n RENEWALS) refl
  where
    by : (c : Bool) → nat_lt n RENEWALS ≡ c → nat_lt r RENEWALS ≡ c
    by true e = let l = ltb-true n RENEWALS e in lt-ltb r RENEWALS (omega (arith, l, h))
    by false e = let l = ltb-false n RENEWALS e in le-ltb r RENEWALS (omega (arith, l, h))

regrouped : (v w x y z : Bool) → ((v && w) && (x && (y && z))) ≡ (v && w && x && y && z)
regrouped false w x y z = refl
regrouped true false x y z = refl
regrouped true true false y z = refl
regrouped true true true false z = refl
regrouped true true true true z = refl

-- The answer by the parts.
pub may-draw-by : (name : LinkName) (code : ℕ) (L : Log) (duplicate alone may : Bool) → duplicate ≡ (is_hub name && (code == 151)) → alone ≡ none_there L
    → may ≡ (not (is_finishing L) && nat_lt (renewals L) RENEWALS)
    → (duplicate && (alone && may)) ≡ may_draw name code L
may-draw-by name code L duplicate alone may d t m =
    ap (λ (x : Bool). x && (alone && may)) d
    ∙ ap (λ (x : Bool). (is_hub name && (code == 151)) && (x && may)) t
    ∙ ap (λ (x : Bool). (is_hub name && (code == 151)) && (none_there L && x)) m
    ∙ regrouped (is_hub name) (code == 151) (none_there L) (not (is_finishing L)) (nat_lt (renewals L) RENEWALS)

-- Whether the node may renew its VMAC.
pub may-renew-so : (b : Base) (out : List Action) (s : State) (L : Log) → s.finishing ≡ false → Stands b out s L → nat_lt s.renewals RENEWALS ≡ (not (is_finishing L) && nat_lt (renewals L) RENEWALS)
may-renew-so b out s L f h = below-kept (renewals L) s.renewals h.renewals ∙ sym (ap (λ (x : Bool). not x && nat_lt (renewals L) RENEWALS) (h.finishing ∙ f))

pub may-renew-not : (b : Base) (out : List Action) (s : State) (L : Log) → s.finishing ≡ true → Stands b out s L → false ≡ (not (is_finishing L) && nat_lt (renewals L) RENEWALS)
may-renew-not b out s L f h = sym (ap (λ (x : Bool). not x && nat_lt (renewals L) RENEWALS) (h.finishing ∙ f))
