-- What a node keeps and its address resolution go on standing for its log, where a message comes for the node.
-- It serves clauses of functions of `receiving` and `state`.
use Rattle.std.proofs.Common.{◌≡◌, ◌⊎◌, inl, inr, ℕ, Bool, List, [], ◌∷◌, ◌++◌, Option, Some, refl, ap, sym, ◌∙◌, subst}
use Rattle.std.specs.Option.{option_or, option_map}
use Rattle.std.proofs.lemmas.List.{append-nil}
use Rattle.bsc_octets.specs.declared.vmac.Vmac.{Vmac}
use Rattle.bsc_octets.specs.declared.octets.Octets.{Octets}
use Rattle.bsc_octets.specs.declared.identity.Identity.{Identity}
use Rattle.bsc_options.specs.declared.options.Options.{Options}
use Rattle.bsc_frame.specs.declared.message.Message.{Message}
use Rattle.bsc_frame.specs.declared.answer.Answer.{Answer}
use Rattle.bsc_frame.specs.declared.body.Body.{Body}
use Rattle.bsc_frame.specs.declared.body.Body.TheVariants.{ConnectRequest, ConnectAccept, DisconnectRequest, DisconnectAck, HeartbeatRequest, HeartbeatAck, Proprietary}
use Rattle.bsc_resolve.specs.declared.resolve.Resolve.{Resolve}
use Rattle.bsc_node.specs.declared.link_name.LinkName.{LinkName}
use Rattle.bsc_node.specs.declared.link_name.LinkName.TheVariants.{Direct}
use Rattle.bsc_node.specs.declared.node_limits.NodeLimits.{NodeLimits}
use Rattle.bsc_node.specs.declared.delivered.Delivered.{Delivered}
use Rattle.bsc_node.specs.declared.action.Action.{Action}
use Rattle.bsc_node.specs.declared.action.Action.TheVariants.{Deliver}
use Rattle.bsc_node.specs.Logs.{Made, Line, did, Log, Rule, nothing, with_some}
use Rattle.bsc_node.specs.Links.{peer}
use Rattle.bsc_node.specs.Receiving.{sender, of_sender, delivers, is_for_all, answers_by, answers_question, takes_answer, takes_body, takes_up}
use Rattle.bsc_node_core.specs.declared.state.State.{State}
use Rattle.bsc_node_core.specs.Standing.{Base, Stands}
use Rattle.bsc_node_core.specs.Resolving.{asked_by, BothStand}
use Rattle.bsc_node_core.proofs.Lines.{IsQuiet, quiet-stands}
use Rattle.bsc_node_core.proofs.Asking.{both-still}

-- ---- who sent it

abbrev vmac_of : Option Identity → Option Vmac
vmac_of known = option_map (λ (who : Identity). who.vmac) known

pub direct-sender : (name : LinkName) (k : ℕ) (msg : Message) (origin : Option Vmac) (known : Option Identity) (L : Log) → name ≡ Direct k → msg.origin ≡ origin → peer L name ≡ known
    → sender name msg L ≡ option_or origin (vmac_of known)
direct-sender name k msg origin known L n o p =
    ap (λ x. sender x msg L) n
    ∙ ap (λ (x : Option Vmac). option_or x (vmac_of (peer L (Direct k)))) o
    ∙ ap (λ (x : LinkName). option_or origin (vmac_of (peer L x))) (sym n)
    ∙ ap (λ (x : Option Identity). option_or origin (vmac_of x)) p

-- a rule of who sent it, where that is known
pub of_known : (name : LinkName) (msg : Message) (rule : Vmac → Rule) (L : Log) (from : Option Vmac) → sender name msg L ≡ from → of_sender name msg rule L ≡ with_some from rule nothing L
of_known name msg rule L from f = ap (λ (x : Option Vmac). with_some x rule nothing L) f

-- The rule was kept for who sent it.
pub both-known : (b : Base) (out : List Action) (s : State) (r : Resolve) (L : Log) (name : LinkName) (msg : Message) (rule : Vmac → Rule) (from : Option Vmac) (v : Vmac)
    → sender name msg L ≡ from → from ≡ Some v
    → BothStand b out s r (L ++ rule v L) → BothStand b out s r (L ++ of_sender name msg rule L)
both-known b out s r L name msg rule from v f some h = subst (λ ms. BothStand b out s r (L ++ ms)) (sym (of_known name msg rule L (Some v) (f ∙ some))) h

-- ---- an NPDU is delivered

deliver-quiet : (d : Delivered) → IsQuiet (Deliver d)
deliver-quiet d = record { begins = λ name. refl; over = λ name. refl; number = refl }

pub delivered-lines : (name : LinkName) (msg : Message) (npdu : List ℕ) (L : Log) (from : Option Vmac) (v : Vmac) (broadcast : Bool) (options : Options) → sender name msg L ≡ from
    → from ≡ Some v → is_for_all msg ≡ broadcast
    → msg.data_options ≡ options → of_sender name msg (delivers msg npdu) L ≡ did (Deliver (record { from = v; broadcast = broadcast; data_options = options; npdu = npdu })) ∷ []
delivered-lines name msg npdu L from v broadcast options f some all o =
    of_known name msg (delivers msg npdu) L (Some v) (f ∙ some)
    ∙ ap (λ (x : Bool). did (Deliver (record { from = v; broadcast = x; data_options = msg.data_options; npdu = npdu })) ∷ []) all
    ∙ ap (λ (x : Options). did (Deliver (record { from = v; broadcast = broadcast; data_options = x; npdu = npdu })) ∷ []) o

pub delivered-stands : (b : Base) (out later : List Action) (s : State) (L : Log) (lines : List Line) (d : Delivered) → later ≡ out ++ Deliver d ∷ [] → lines ≡ did (Deliver d) ∷ []
    → Stands b out s L → Stands b later s (L ++ lines)
delivered-stands b out later s L lines d o l h =
    subst (λ os. Stands b os s (L ++ lines)) (sym o) (subst (λ ms. Stands b (out ++ Deliver d ∷ []) s (L ++ ms)) (sym l) (quiet-stands b out s L (Deliver d) (deliver-quiet d) h))

-- ---- an answer

pub both-answered : (b : Base) (out : List Action) (s : State) (r : Resolve) (L : Log) (name : LinkName) (msg : Message) (answer given : Answer) → answer ≡ given
    → BothStand b out s r (L ++ takes_answer b.made name msg given L)
    → BothStand b out s r (L ++ takes_answer b.made name msg answer L)
both-answered b out s r L name msg answer given e h = subst (λ (x : Answer). BothStand b out s r (L ++ takes_answer b.made name msg x L)) (sym e) h

-- ---- the rule of a kind of message

pub taken-up : (a : Made) (name : LinkName) (msg : Message) (body : Body) (L : Log) → msg.body ≡ body → takes_up a name msg L ≡ takes_body a name msg body L
taken-up a name msg body L e = ap (λ (x : Body). takes_body a name msg x L) e

-- A question is answered by the URIs of the settings.
pub question-stands : (b : Base) (out : List Action) (s : State) (L : Log) (name : LinkName) (msg : Message) (limits : NodeLimits) → b.made.limits ≡ limits
    → Stands b out s (L ++ answers_by name msg limits.uris L)
    → Stands b out s (L ++ answers_question b.made name msg L)
question-stands b out s L name msg limits l h = subst (λ (x : NodeLimits). Stands b out s (L ++ answers_by name msg x.uris L)) (sym l) h

-- Where the rule of the message's kind was kept, both stand.
pub both-taken-up : (b : Base) (out : List Action) (s : State) (r : Resolve) (L : Log) (name : LinkName) (msg : Message) (body : Body) → msg.body ≡ body
    → BothStand b out s r (L ++ takes_body b.made name msg body L)
    → BothStand b out s r (L ++ takes_up b.made name msg L)
both-taken-up b out s r L name msg body e h = subst (λ ms. BothStand b out s r (L ++ ms)) (sym (taken-up b.made name msg body L e)) h

-- The same for a rule by which nothing happens to address resolution.
pub state-taken-up : (b : Base) (out later : List Action) (s s' : State) (r : Resolve) (L : Log) (name : LinkName) (msg : Message) (body : Body) → msg.body ≡ body → BothStand b out s r L
    → Stands (asked_by L b) later s' (L ++ takes_body b.made name msg body L) → BothStand b later s' r (L ++ takes_up b.made name msg L)
state-taken-up b out later s s' r L name msg body e h st =
    both-taken-up b later s' r L name msg body e (both-still b later s' r L (L ++ takes_body b.made name msg body L) h.resolution st)

-- Whether it is a message of which nothing follows.
abbrev pub IsOther : Body → Type 0
IsOther body =
    ((x : Identity) × (body ≡ ConnectRequest x)) ⊎ (((x : Identity) × (body ≡ ConnectAccept x))
    ⊎ ((body ≡ DisconnectRequest) ⊎ ((body ≡ DisconnectAck) ⊎ ((body ≡ HeartbeatRequest) ⊎ ((body ≡ HeartbeatAck)
    ⊎ ((vendor : ℕ) × (function : ℕ) × (content : Octets) × (body ≡ Proprietary vendor function content)))))))

nothing-of : (a : Made) (name : LinkName) (msg : Message) (body : Body) (L : Log) → IsOther body → takes_body a name msg body L ≡ []
nothing-of a name msg body L (inl h) = ap (λ (x : Body). takes_body a name msg x L) h.1
nothing-of a name msg body L (inr (inl h)) = ap (λ (x : Body). takes_body a name msg x L) h.1
nothing-of a name msg body L (inr (inr (inl h))) = ap (λ (x : Body). takes_body a name msg x L) h
nothing-of a name msg body L (inr (inr (inr (inl h)))) = ap (λ (x : Body). takes_body a name msg x L) h
nothing-of a name msg body L (inr (inr (inr (inr (inl h))))) = ap (λ (x : Body). takes_body a name msg x L) h
nothing-of a name msg body L (inr (inr (inr (inr (inr (inl h)))))) = ap (λ (x : Body). takes_body a name msg x L) h
nothing-of a name msg body L (inr (inr (inr (inr (inr (inr h)))))) = ap (λ (x : Body). takes_body a name msg x L) h.3

pub other-taken-up : (b : Base) (out : List Action) (s : State) (r : Resolve) (L : Log) (name : LinkName) (msg : Message) → IsOther msg.body → BothStand b out s r L
    → BothStand b out s r (L ++ takes_up b.made name msg L)
other-taken-up b out s r L name msg other h =
    subst (λ ms. BothStand b out s r (L ++ ms)) (sym (nothing-of b.made name msg msg.body L other)) (subst (λ M. BothStand b out s r M) (sym (append-nil L)) h)
