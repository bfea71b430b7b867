-- What a node keeps and its address resolution go on standing for its log, where a question is answered.
-- It serves clauses of functions of `failing`, `receiving` and `requesting`.
use Rattle.std.proofs.Common.{◌≡◌, ℕ, Bool, true, false, ◌&&◌, List, [], ◌∷◌, ◌++◌, Option, refl, ap, sym, ◌∙◌, subst}
use Rattle.std.specs.Prelude.{◌==◌}
use Rattle.std.proofs.lemmas.List.{append-nil}
use Rattle.bsc_octets.specs.declared.vmac.Vmac.{Vmac}
use Rattle.bsc_frame.specs.declared.message.Message.{Message}
use Rattle.bsc_resolve.specs.declared.call.ResolveCall.{ResolveCall}
use Rattle.bsc_resolve.specs.declared.call.ResolveCall.TheVariants.{Answered, Refused}
use Rattle.bsc_resolve.specs.declared.resolve.Resolve.{Resolve}
use Rattle.bsc_resolve.specs.Resolving.{awaits as awaits_answer}
use Rattle.bsc_resolve.specs.Standing.{ResolveStands, AnswersAnswer, AnswersRefusal, if_it_counts}
use Rattle.bsc_node.specs.declared.link_name.LinkName.{LinkName}
use Rattle.bsc_node.specs.declared.note.Note.TheVariants.{Uris, Nak}
use Rattle.bsc_node.specs.declared.action.Action.{Action}
use Rattle.bsc_node.specs.declared.action.Action.TheVariants.{Tell}
use Rattle.bsc_node.specs.Logs.{Made, Line, resolution, did, Log, nothing, in_order, if_so, tells, with_some}
use Rattle.bsc_node.specs.Ways.{awaits, resolve_calls, resolution_sees}
use Rattle.bsc_node.specs.Receiving.{sender, learns, drops_question, takes_nak}
use Rattle.bsc_node_core.specs.declared.state.State.{State}
use Rattle.bsc_node_core.specs.Standing.{Base}
use Rattle.bsc_node_core.specs.Resolving.{BothStand}
use Rattle.bsc_node_core.proofs.Asking.{two-in-order, both-told, both-word}

-- no line more
pub both-at-rest : (b : Base) (out : List Action) (s : State) (r : Resolve) (L : Log) (lines : List Line) → lines ≡ [] → BothStand b out s r L → BothStand b out s r (L ++ lines)
both-at-rest b out s r L lines e h = subst (λ ms. BothStand b out s r (L ++ ms)) (sym e) (subst (λ M. BothStand b out s r M) (sym (append-nil L)) h)

-- ---- URIs are learnt

learns-by : (a : Made) (msg : Message) (id : ℕ) (uris : List ℕ) (from : Vmac) (L : Log) (c : Bool) → msg.id ≡ id → c ≡ awaits a id from L
    → learns a msg uris from L ≡ if_so c (in_order (resolution_sees (Answered id from uris) ∷ tells (Uris from uris) ∷ [])) nothing L
learns-by a msg id uris from L c i e =
    ap (λ n. if_so (awaits a n from L) (in_order (resolution_sees (Answered n from uris) ∷ tells (Uris from uris) ∷ [])) nothing L) i
    ∙ ap (λ (x : Bool). if_so x (in_order (resolution_sees (Answered id from uris) ∷ tells (Uris from uris) ∷ [])) nothing L) (sym e)

same-resolve : (r : Resolve) (wait : ℕ) (calls : List ResolveCall) (call : ResolveCall) (c d : Bool) → c ≡ d → ResolveStands r wait (if_it_counts c calls call)
    → ResolveStands r wait (if_it_counts d calls call)
same-resolve r wait calls call c d e h = subst (λ (x : Bool). ResolveStands r wait (if_it_counts x calls call)) e h

-- whether the question is under way, by what is kept
abbrev pub Awaits : Resolve → ℕ → Vmac → Bool → Type 0
Awaits r id from c = (wait : ℕ) (calls : List ResolveCall) → ResolveStands r wait calls → c ≡ awaits_answer wait calls id from

-- The answer counts.
pub both-learnt : (b : Base) (out later : List Action) (s : State) (r r' : Resolve) (L : Log) (msg : Message) (id : ℕ) (uris copied : List ℕ) (from : Vmac) (c : Bool) → msg.id ≡ id
    → copied ≡ uris → later ≡ out ++ Tell (Uris from copied) ∷ []
    → AnswersAnswer r r' id from uris c → Awaits r id from true → BothStand b out s r L → BothStand b later s r' (L ++ learns b.made msg uris from L)
both-learnt b out later s r r' L msg id uris copied from c i same le answers asked h =
    let a = answers b.made.limits.times.connect_wait (resolve_calls L) h.resolution in
    let counts : c ≡ true = a.0 ∙ sym (asked b.made.limits.times.connect_wait (resolve_calls L) h.resolution) in
    let call : ResolveCall = Answered id from uris in
    let M : Log = L ++ resolution call ∷ [] in
    let both : BothStand b out s r' M = both-told b out s r r' L call (same-resolve r' b.made.limits.times.connect_wait (resolve_calls L) call c true counts a.1) h in
    subst (λ ms. BothStand b later s r' (L ++ ms)) (sym (learns-by b.made msg id uris from L true i (sym counts ∙ a.0)))
    (two-in-order (BothStand b later s r') L (resolution_sees call) (tells (Uris from uris))
    (both-word b out later s r' r' M (did (Tell (Uris from uris)) ∷ []) (Uris from uris) (le ∙ ap (λ x. out ++ Tell (Uris from x) ∷ []) same) refl (λ wait calls stands. stands) both))

-- The answer doesn't count.
pub both-not-learnt : (b : Base) (out : List Action) (s : State) (r : Resolve) (L : Log) (msg : Message) (id : ℕ) (uris : List ℕ) (from : Vmac) → msg.id ≡ id
    → Awaits r id from false → BothStand b out s r L → BothStand b out s r (L ++ learns b.made msg uris from L)
both-not-learnt b out s r L msg id uris from i asked h =
    both-at-rest b out s r L (learns b.made msg uris from L) (learns-by b.made msg id uris from L false i (asked b.made.limits.times.connect_wait (resolve_calls L) h.resolution)) h

-- ---- a question is dropped

dropped-by : (b : Base) (out : List Action) (s : State) (r r' : Resolve) (L : Log) (id : ℕ) (v : Vmac) (c : Bool)
    → ResolveStands r' b.made.limits.times.connect_wait (if_it_counts c (resolve_calls L) (Refused id v))
    → BothStand b out s r L → BothStand b out s r' (L ++ if_so c (resolution_sees (Refused id v)) nothing L)
dropped-by b out s r r' L id v true g h = both-told b out s r r' L (Refused id v) g h
dropped-by b out s r r' L id v false g h = both-at-rest b out s r' L [] refl (record { state = h.state; resolution = g })

drops-by : (a : Made) (function id : ℕ) (v : Vmac) (L : Log) (f c : Bool) → (function == 0x02) ≡ f → c ≡ awaits a id v L
    → drops_question a function id v L ≡ if_so (f && c) (resolution_sees (Refused id v)) nothing L
drops-by a function id v L f c e i =
    ap (λ (x : Bool). if_so (x && awaits a id v L) (resolution_sees (Refused id v)) nothing L) e
    ∙ ap (λ (x : Bool). if_so (f && x) (resolution_sees (Refused id v)) nothing L) (sym i)

-- A NAK of Address-Resolution.
pub both-dropped : (b : Base) (out : List Action) (s : State) (r r' : Resolve) (L : Log) (function id : ℕ) (v : Vmac) (c : Bool) → function ≡ 0x02 → AnswersRefusal r r' id v c → BothStand b out s r L
    → BothStand b out s r' (L ++ drops_question b.made function id v L)
both-dropped b out s r r' L function id v c f answers h =
    let a = answers b.made.limits.times.connect_wait (resolve_calls L) h.resolution in
    subst (λ ms. BothStand b out s r' (L ++ ms)) (sym (drops-by b.made function id v L true c (ap (λ (x : ℕ). x == 0x02) f) a.0)) (dropped-by b out s r r' L id v c a.1 h)

-- It is told, and then the question is dropped.
pub both-refused-by : (b : Base) (out later : List Action) (s : State) (r r' : Resolve) (L : Log) (name : LinkName) (msg : Message) (from : Option Vmac) (id function code : ℕ) → msg.id ≡ id
    → sender name msg L ≡ from
    → later ≡ out ++ Tell (Nak from function code) ∷ []
    → ((b : Base) (out : List Action) (s : State) (M : Log) → BothStand b out s r M → BothStand b out s r' (M ++ with_some from (drops_question b.made function id) nothing M))
    → BothStand b out s r L → BothStand b later s r' (L ++ takes_nak b.made name msg function code L)
both-refused-by b out later s r r' L name msg from id function code i f le drops h =
    let told : BothStand b later s r (L ++ did (Tell (Nak from function code)) ∷ []) =
    both-word b out later s r r L (did (Tell (Nak from function code)) ∷ []) (Nak from function code) le refl (λ wait calls stands. stands) h in
    subst (λ (x : Option Vmac). BothStand b later s r' (L ++ in_order (tells (Nak x function code) ∷ with_some x (drops_question b.made function msg.id) nothing ∷ []) L)) (sym f)
    (subst (λ n. BothStand b later s r' (L ++ in_order (tells (Nak from function code) ∷ with_some from (drops_question b.made function n) nothing ∷ []) L)) (sym i)
    (two-in-order (BothStand b later s r') L (tells (Nak from function code)) (with_some from (drops_question b.made function id) nothing)
    (drops b later s (L ++ did (Tell (Nak from function code)) ∷ []) told)))
