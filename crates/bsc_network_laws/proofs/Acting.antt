-- What holds of each action of a node holds of all actions of an event.
-- It serves clauses of functions of `laws`.
use Rattle.std.proofs.Common.{◌≡◌, ◌⊎◌, inl, inr, ℕ, List, [], ◌∷◌, ◌++◌, Option, Some, None, refl}
use Rattle.std.specs.Prelude.{filter_map, map}
use Rattle.bsc_node.specs.declared.delivered.Delivered.{Delivered}
use Rattle.bsc_node.specs.declared.link_name.LinkName.{LinkName}
use Rattle.bsc_node.specs.declared.timed_event.TimedEvent.{TimedEvent}
use Rattle.bsc_node.specs.declared.action.Action.{Action}
use Rattle.bsc_node.specs.declared.action.Action.TheVariants.{Dial, Take, Refuse, Put, Close, Deliver, Tell, Draw}
use Rattle.bsc_node.specs.Logs.{action_of}
use Rattle.bsc_network.specs.declared.target.Target.{Target}
use Rattle.bsc_network.specs.declared.arrival.Arrival.{Arrival}
use Rattle.bsc_network.specs.declared.parcel.Content.TheVariants.{Message, Closed}
use Rattle.bsc_network.specs.Worlds.{World, Node}
use Rattle.bsc_network.specs.Changes.{Change, in_order, with_node, with_found}
use Rattle.bsc_network.specs.NodeSides.{puts_by}
use Rattle.bsc_network.specs.Dialling.{leads_to, dials, fails, dials_to}
use Rattle.bsc_network.specs.NodeEvents.{takes_as, refuses, delivers, carries_out, brings_about, hears}

-- one of these
abbrev pub Among : {A : Type 0} → A → List A → Type 0
Among x [] = ⊥
Among x (y ∷ ys) = (x ≡ y) ⊎ Among x ys

-- the log of a node goes on by an event
abbrev pub goes_on_in : ℕ → TimedEvent → Change
goes_on_in k e = with_node k (λ m. record m { log = m.log ++ brings_about m.made e m.log })

-- What holds of each action of node k of which this is known, at an event that came so.
pub record EachAct (k : ℕ) (by : Option Arrival) (Known : Action → Type 0) (R : World → World → Type 0) : Type 0 where
  pub puts : (w : World) (name : LinkName) (o : List ℕ) → Known (Put name o) → R w (puts_by k name (Message o) w)
  pub closes : (w : World) (name : LinkName) → R w (puts_by k name Closed w)
  pub takes : (w : World) (name : LinkName) (a : Arrival) → by ≡ Some a → Known (Take name) → R w (takes_as k name a w)
  pub dials_as : (w : World) (name : LinkName) (uri : List ℕ) (t : Target) → Known (Dial name uri) → leads_to w uri ≡ Some t → R w (dials k name t w)
  pub fails_as : (w : World) (name : LinkName) → R w (fails name w)
  pub refuses_it : (w : World) (a : Arrival) → by ≡ Some a → R w (refuses a w)
  pub delivers_one : (w : World) (d : Delivered) (a : Arrival) → by ≡ Some a → Known (Deliver d) → R w (delivers k d a w)

-- What holds where nothing changes, of one change after another, and of each action.
pub record LetsActs (k : ℕ) (by : Option Arrival) (Known : Action → Type 0) (R : World → World → Type 0) : Type 0 where
  pub none : (w : World) → R w w
  pub then : (u v w : World) → R u v → R v w → R u w
  pub each : EachAct k by Known R

dials_by : (k : ℕ) (by : Option Arrival) (Known : Action → Type 0) (R : World → World → Type 0) → LetsActs k by Known R → (name : LinkName) (uri : List ℕ) (t : Option Target) (w : World)
    → Known (Dial name uri) → leads_to w uri ≡ t → R w (dials_to k name t w)
dials_by k by Known R M name uri (Some t) w known is = M.each.dials_as w name uri t known is
dials_by k by Known R M name uri None w known is = M.each.fails_as w name

if_some : (k : ℕ) (by : Option Arrival) (Known : Action → Type 0) (R : World → World → Type 0) → LetsActs k by Known R → (o : Option Arrival) (change : Arrival → Change) (w : World)
    → ((a : Arrival) → o ≡ Some a → R w (change a w)) → R w (with_found o change w)
if_some k by Known R M None change w f = M.none w
if_some k by Known R M (Some a) change w f = f a refl

pub acts_one : (k : ℕ) (by : Option Arrival) (Known : Action → Type 0) (R : World → World → Type 0) → LetsActs k by Known R → (w : World) (action : Action) → Known action
    → R w (carries_out k by action w)
acts_one k by Known R M w (Dial name uri) known = dials_by k by Known R M name uri (leads_to w uri) w known refl
acts_one k by Known R M w (Take name) known = if_some k by Known R M by (takes_as k name) w (λ a is. M.each.takes w name a is known)
acts_one k by Known R M w (Refuse closing) known = if_some k by Known R M by refuses w (λ a is. M.each.refuses_it w a is)
acts_one k by Known R M w (Put name octets) known = M.each.puts w name octets known
acts_one k by Known R M w (Close name closing) known = M.each.closes w name
acts_one k by Known R M w (Deliver delivered) known = if_some k by Known R M by (delivers k delivered) w (λ a is. M.each.delivers_one w delivered a is known)
acts_one k by Known R M w (Tell note) known = M.none w
acts_one k by Known R M w Draw known = M.none w

pub acts_each : (k : ℕ) (by : Option Arrival) (Known : Action → Type 0) (R : World → World → Type 0) → LetsActs k by Known R → (actions : List Action) (w : World)
    → ((action : Action) → Among action actions → Known action)
    → R w (in_order (map (carries_out k by) actions) w)
acts_each k by Known R M [] w known = M.none w
acts_each k by Known R M (action ∷ actions) w known =
    M.then w (carries_out k by action w) (in_order (map (carries_out k by) actions) (carries_out k by action w))
    (acts_one k by Known R M w action (known action (inl refl))) (acts_each k by Known R M actions (carries_out k by action w) (λ x among. known x (inr among)))

-- An event that comes to a node: its log goes on, and then the actions.
pub lets-hears : (k : ℕ) (by : Option Arrival) (Known : Action → Type 0) (R : World → World → Type 0) → LetsActs k by Known R → (e : TimedEvent) (n : Node) (w : World)
    → R w (goes_on_in k e w) → ((action : Action) → Among action (filter_map action_of (brings_about n.made e n.log)) → Known action) → R w (hears k by e n w)
lets-hears k by Known R M e n w goes known =
    M.then w (goes_on_in k e w) (hears k by e n w) goes (acts_each k by Known R M (filter_map action_of (brings_about n.made e n.log)) (goes_on_in k e w) known)
