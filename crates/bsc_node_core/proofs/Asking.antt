-- What a node keeps and its address resolution go on standing for its log, where URIs are asked for.
-- It serves clauses of most source files here.
use Rattle.std.proofs.Common.{◌≡◌, ℕ, ◌+◌, Bool, false, cond, List, [], ◌∷◌, ◌++◌, length, take, Option, Some, None, refl, ap, sym, ◌∙◌, subst, arith, length-append, append_assoc}
use Rattle.std.specs.Prelude.{◌-◌, ◌%◌, min}
use Rattle.std.proofs.Math.Seq.{take-append_seam}
use Rattle.bsc_octets.specs.declared.vmac.Vmac.{Vmac}
use Rattle.bsc_octets.specs.Forwarding.{function_in}
use Rattle.bsc_octets.specs.Functions.{is_response}
use Rattle.bsc_frame.specs.declared.body.Body.TheVariants.{AddressResolution}
use Rattle.bsc_connector.specs.Standing.{ConnectorStands}
use Rattle.bsc_direct.specs.Standing.{DirectStands}
use Rattle.bsc_resolve.specs.declared.call.ResolveCall.{ResolveCall}
use Rattle.bsc_resolve.specs.declared.call.ResolveCall.TheVariants.{Ask}
use Rattle.bsc_resolve.specs.declared.ask_refusal.AskRefusal.{AskRefusal}
use Rattle.bsc_resolve.specs.declared.ask_refusal.AskRefusal.TheVariants.{Full, Pending}
use Rattle.bsc_resolve.specs.declared.resolve.Resolve.{Resolve}
use Rattle.bsc_resolve.specs.Standing.{ResolveStands, IsAsked, IsAskRefused, IsUnchanged}
use Rattle.bsc_node.specs.declared.bounds.TheConstants.{RENEWALS}
use Rattle.bsc_node.specs.Messages.{message_octets}
use Rattle.bsc_node.specs.declared.note.Note.{Note}
use Rattle.bsc_node.specs.declared.note.Note.TheVariants.{NoPath, AsksFull, AskPending}
use Rattle.bsc_node.specs.declared.action.Action.{Action}
use Rattle.bsc_node.specs.declared.action.Action.TheVariants.{Put, Tell}
use Rattle.bsc_node.specs.Logs.{Made, Line, resolution, did, Log, Rule, now, next_id, in_order}
use Rattle.bsc_node.specs.Hubs.{waits}
use Rattle.bsc_node.specs.Ways.{Way, way, ask_refusal, resolve_call_of, resolve_calls, resolution_sees}
use Rattle.bsc_node.specs.Requesting.{puts_own, asks_unless, resolves}
use Rattle.bsc_node.proofs.Order.{in_order-cons, in_order-brought}
use Rattle.std.proofs.lemmas.List.{append-nil}
use Rattle.bsc_node_core.specs.declared.state.State.{State}
use Rattle.bsc_node_core.specs.Tables.{link_at}
use Rattle.bsc_node_core.specs.Standing.{Base, HaveCome, Stands}
use Rattle.bsc_node_core.specs.Resolving.{asked_by, BothStand}
use Rattle.bsc_node_core.proofs.More.{now-kept, own-kept, next-kept, finishing-kept, renewals-kept, refusing-kept, dropped-kept, tries-kept, filter-one_more}
use Rattle.bsc_node_core.proofs.Lines.{link-kept, came-other, put-stands}
use Rattle.bsc_node_core.proofs.Wants.{told-stands}
use Rattle.bsc_node.proofs.Common.{hub_events-kept, slot_calls-kept}

-- ---- rules in order

-- Two rules, the second on the log that the first left.
pub two-in-order : (P : Log → Type 0) (L : Log) (first second : Rule) → P ((L ++ first L) ++ second (L ++ first L)) → P (L ++ in_order (first ∷ second ∷ []) L)
two-in-order P L first second h =
    subst P (append_assoc L (first L) (in_order (second ∷ []) (L ++ first L)) ∙ ap (λ ms. L ++ ms) (sym (in_order-cons first (second ∷ []) L)))
    (subst (λ ms. P ((L ++ first L) ++ ms)) (sym (one-in-order second (L ++ first L))) h)
  where
    one-in-order : (rule : Rule) (M : Log) → in_order (rule ∷ []) M ≡ rule M
    one-in-order rule M = in_order-cons rule [] M ∙ ap (λ ms. rule M ++ ms) (in_order-brought [] (M ++ rule M)) ∙ append-nil (rule M)

-- ---- both

-- Where nothing happened to address resolution, both stand once the state does.
pub both-still : (b : Base) (out : List Action) (s : State) (r : Resolve) (L M : Log) → ResolveStands r b.made.limits.times.connect_wait (resolve_calls L) → Stands (asked_by L b) out s M
    → BothStand b out s r M
both-still b out s r L M g h = record {
  state = subst (λ (calls : List ResolveCall). Stands (record b { asked = calls }) out s M) (sym h.asked) h;
  resolution = subst (λ (calls : List ResolveCall). ResolveStands r b.made.limits.times.connect_wait calls) (sym h.asked) g;
}

same-came : (b : Base) (calls others : List ResolveCall) (out : List Action) (L : Log) → HaveCome (record b { asked = calls }) out L → HaveCome (record b { asked = others }) out L
same-came b calls others out L h = record { lines = h.lines; log = h.log; actions = h.actions }

-- Something happens to address resolution.
pub both-told : (b : Base) (out : List Action) (s : State) (r r' : Resolve) (L : Log) (call : ResolveCall) → ResolveStands r' b.made.limits.times.connect_wait (resolve_calls L ++ call ∷ [])
    → BothStand b out s r L → BothStand b out s r' (L ++ resolution call ∷ [])
both-told b out s r r' L call stands both =
    let h = both.state in
    let m = resolution call in record {
      state = record {
        now = now-kept L m refl ∙ h.now;
        own = own-kept b.made L m refl ∙ h.own;
        next = next-kept L m refl ∙ h.next;
        finishing = finishing-kept L m refl ∙ h.finishing;
        renewals = ap (λ k. min RENEWALS k) (renewals-kept L m refl refl) ∙ h.renewals;
        newest_hub = refusing-kept L m refl ∙ h.newest_hub;
        dropped = dropped-kept L m refl refl ∙ h.dropped;
        connector = subst (λ E. ConnectorStands s.connector (waits b.made) E) (sym (hub_events-kept L m refl)) h.connector;
        direct = subst (λ E. DirectStands s.direct E) (sym (slot_calls-kept L m refl)) h.direct;
        asked = refl;
        links = λ name n. link-kept b.made b.busy L m name (link_at s.links name) refl refl refl refl (h.links name n);
        tries = λ k w. ap (λ c. min c 18446744073709551615) (tries-kept k L m refl refl) ∙ h.tries k w;
        spare = h.spare;
        actions = came-other (asked_by (L ++ m ∷ []) b) out L m refl (same-came b (resolve_calls L) (resolve_calls (L ++ m ∷ [])) out L h.actions);
      };
      resolution = subst (λ (calls : List ResolveCall). ResolveStands r' b.made.limits.times.connect_wait calls) (sym (filter-one_more resolve_call_of L m call refl)) stands;
    }

-- The user is told something, and nothing happens to address resolution.
pub both-word : (b : Base) (out later : List Action) (s : State) (r r' : Resolve) (L : Log) (lines : List Line) (note : Note) → later ≡ out ++ Tell note ∷ [] → lines ≡ did (Tell note) ∷ []
    → IsUnchanged r r'
    → BothStand b out s r L → BothStand b later s r' (L ++ lines)
both-word b out later s r r' L lines note o l u h =
    both-still b later s r' L (L ++ lines) (u b.made.limits.times.connect_wait (resolve_calls L) h.resolution) (told-stands (asked_by L b) out later s L lines note o l h.state)

-- ---- asking

pub resolves-nowhere : (a : Made) (v : Vmac) (L : Log) → way v L ≡ None → resolves a v L ≡ did (Tell (NoPath v)) ∷ []
resolves-nowhere a v L h = rw h refl

resolves-by : (a : Made) (v : Vmac) (L : Log) (w : Way) (refusal : Option AskRefusal) → way v L ≡ Some w → ask_refusal a v L ≡ refusal → resolves a v L ≡ asks_unless w v refusal L
resolves-by a v L w refusal h e = rw (h, e) refl

-- A question is no response.
question-numbered : (n : ℕ) (dest : Option Vmac) → is_response (function_in (message_octets n dest AddressResolution)) ≡ false
question-numbered n dest = refl

-- A question is put.
pub both-asked : (b : Base) (out later : List Action) (s : State) (r r' : Resolve) (L : Log) (w : Way) (v : Vmac) (o : List ℕ) (t : ℕ) → b.now ≡ t → way v L ≡ Some w
    → o ≡ message_octets s.next w.dest AddressResolution
    → later ≡ out ++ Put w.link o ∷ [] → IsAsked r r' t s.next v → BothStand b out s r L → BothStand b later (record s { next = (s.next + 1) % 65536 }) r' (L ++ resolves b.made v L)
both-asked b out later s r r' L w v o t n p oe le asked h =
    let a = asked b.made.limits.times.connect_wait (resolve_calls L) h.resolution in
    let after : State = record s { next = (s.next + 1) % 65536 } in
    let same : message_octets (next_id L) w.dest AddressResolution ≡ o = ap (λ k. message_octets k w.dest AddressResolution) h.state.next ∙ sym oe in
    let call : ResolveCall = Ask (now L) (next_id L) v in
    let is : Ask t s.next v ≡ call = ap (λ k. Ask k s.next v) (sym n ∙ sym h.state.now) ∙ ap (λ k. Ask (now L) k v) (sym h.state.next) in
    let lines : List Line = did (Put w.link o) ∷ [] in
    let quiet : is_response (function_in o) ≡ false = ap (λ (x : List ℕ). is_response (function_in x)) oe ∙ question-numbered s.next w.dest in
    let put : Stands (asked_by L b) later after (L ++ lines) =
    subst (λ os. Stands (asked_by L b) os after (L ++ lines)) (sym le)
    (subst (λ (c : Bool). Stands (asked_by L b) (out ++ Put w.link o ∷ []) (record s { next = cond c s.next ((s.next + 1) % 65536) }) (L ++ lines)) quiet
    (put-stands (asked_by L b) out s L w.link o h.state)) in
    let both : BothStand b later after r (L ++ lines) = both-still b later after r L (L ++ lines) h.resolution put in
    let known : ResolveStands r' b.made.limits.times.connect_wait (resolve_calls (L ++ lines) ++ call ∷ []) =
    subst (λ (calls : List ResolveCall). ResolveStands r' b.made.limits.times.connect_wait (calls ++ call ∷ [])) (sym put.asked)
    (subst (λ (c : ResolveCall). ResolveStands r' b.made.limits.times.connect_wait (resolve_calls L ++ c ∷ [])) is a.1) in
    let end : BothStand b later after r' ((L ++ lines) ++ resolution call ∷ []) = both-told b later after r r' (L ++ lines) call known both in
    subst (λ ms. BothStand b later after r' (L ++ ms)) (sym (resolves-by b.made v L w None p a.0))
    (two-in-order (BothStand b later after r') L (puts_own w AddressResolution) (resolution_sees call)
    (subst (λ os. BothStand b later after r' ((L ++ did (Put w.link os) ∷ []) ++ resolution call ∷ [])) (sym same) end))

-- the list before its newest element
pub before-newest : (xs ys : List Action) (x : Action) → ys ≡ xs ++ x ∷ [] → take (length ys - 1) ys ≡ xs
before-newest xs ys x e =
    let n : length ys - 1 ≡ length xs = ap (λ zs. length zs - 1) e ∙ (let a = length-append xs (x ∷ []) in omega (arith, a)) in
    ap (λ k. take k ys) n ∙ ap (take (length xs)) e ∙ take-append_seam xs (x ∷ [])

-- A question is refused, and why is told in place of putting it.
both-refused : (b : Base) (out put back later : List Action) (s : State) (r r' : Resolve) (L : Log) (v : Vmac) (newest : Action) (note : Note) → put ≡ out ++ newest ∷ []
    → back ≡ take (length put - 1) put → later ≡ back ++ Tell note ∷ []
    → resolves b.made v L ≡ did (Tell note) ∷ [] → IsUnchanged r r' → BothStand b out s r L → BothStand b later s r' (L ++ resolves b.made v L)
both-refused b out put back later s r r' L v newest note pe be le lines u h =
    both-word b out later s r r' L (resolves b.made v L) note (le ∙ ap (λ os. os ++ Tell note ∷ []) (be ∙ before-newest out put newest pe)) lines u h

pub both-full : (b : Base) (out put back later : List Action) (s : State) (r r' : Resolve) (L : Log) (w : Way) (v : Vmac) (newest : Action) (held : ℕ) → put ≡ out ++ newest ∷ []
    → back ≡ take (length put - 1) put → later ≡ back ++ Tell AsksFull ∷ []
    → way v L ≡ Some w → IsAskRefused r v (Full held) → IsUnchanged r r' → BothStand b out s r L → BothStand b later s r' (L ++ resolves b.made v L)
both-full b out put back later s r r' L w v newest held pe be le p refused u h =
    both-refused b out put back later s r r' L v newest AsksFull pe be le
    (resolves-by b.made v L w (Some (Full held)) p (refused b.made.limits.times.connect_wait (resolve_calls L) h.resolution)) u h

pub both-pending : (b : Base) (out put back later : List Action) (s : State) (r r' : Resolve) (L : Log) (w : Way) (v : Vmac) (newest : Action) (id : ℕ) → put ≡ out ++ newest ∷ []
    → back ≡ take (length put - 1) put → later ≡ back ++ Tell (AskPending v) ∷ []
    → way v L ≡ Some w → IsAskRefused r v (Pending id) → IsUnchanged r r' → BothStand b out s r L → BothStand b later s r' (L ++ resolves b.made v L)
both-pending b out put back later s r r' L w v newest id pe be le p refused u h =
    both-refused b out put back later s r r' L v newest (AskPending v) pe be le
    (resolves-by b.made v L w (Some (Pending id)) p (refused b.made.limits.times.connect_wait (resolve_calls L) h.resolution)) u h
