-- Nothing that a node does makes more news due in the same turn.
-- It serves the clauses of `give_news`.
use Rattle.std.proofs.Common.{◌≡◌, ◌≤◌, ◌+◌, inl, inr, ℕ, Bool, true, false, not, List, [], ◌∷◌, length, Option, Some, None, ap, arith}
use Rattle.bsc_edge.specs.declared.said.Said.{Said}
use Rattle.bsc_accept.specs.declared.closing.Closing.{Closing}
use Rattle.bsc_node.specs.declared.link_name.LinkName.{LinkName}
use Rattle.bsc_node.specs.declared.node_event.NodeEvent.{NodeEvent}
use Rattle.bsc_node.specs.declared.action.Action.{Action}
use Rattle.bsc_node.specs.declared.action.Action.TheVariants.{Dial, Take, Refuse, Put, Close, Deliver, Tell, Draw}
use Rattle.bsc_node_run.specs.declared.news.News.{News}
use Rattle.bsc_node_run.specs.Worlds.{World, is_of, without}
use Rattle.bsc_node_run.specs.Performing.{Dials, Takes, Refuses, Puts, Closes, Does, Carries}
use Rattle.bsc_node_run.specs.Turning.{GivesWord, Gives, draws}
use Rattle.bsc_lemmas.proofs.Lists.{filter_le}

as_many : (xs ys : List News) → xs ≡ ys → length xs ≤ length ys
as_many xs ys e = (let k = ap length e in omega (arith, k))

at_most : (name : LinkName) (xs ys : List News) → xs ≡ without name ys → length xs ≤ length ys
at_most name xs ys e = (let k = ap length e in let f = filter_le (λ n. not (is_of name n)) ys in omega (arith, k, f))

-- the oldest news leaves
pub one_more : (xs ys : List News) (n : News) → xs ≡ n ∷ ys → length xs ≡ length ys + 1
one_more xs ys n e = (let k = ap length e in omega (arith, k))

module _ {L : Type 0} where
  dials_fewer : (name : LinkName) (uri : List ℕ) (w v : World L) → Dials name uri w v → length v.due ≤ length w.due
  dials_fewer name uri w v (None, g, came, s) = as_many v.due w.due s.due
  dials_fewer name uri w v (Some l, g, came, s) = as_many v.due w.due s.due

  takes_fewer : (name : LinkName) (o : Option L) (w v : World L) → Takes name o w v → length v.due ≤ length w.due
  takes_fewer name None w v s = as_many v.due w.due s.due
  takes_fewer name (Some l) w v s = as_many v.due w.due s.due

module _ {L : Type 0} (talk : L → Option (List Said)) where
  refuses_fewer : (c : Closing) (o : Option L) (w v : World L) → Refuses talk c o w v → length v.due ≤ length w.due
  refuses_fewer c None w v s = as_many v.due w.due s.due
  refuses_fewer c (Some l) w v (m, k, s) = as_many v.due w.due s.due

  puts_fewer : (name : LinkName) (b : List ℕ) (o : Option L) (w v : World L) → Puts talk name b o w v → length v.due ≤ length w.due
  puts_fewer name b None w v s = as_many v.due w.due s.due
  puts_fewer name b (Some l) w v (m, inl p) = as_many v.due w.due p.1.due
  puts_fewer name b (Some l) w v (m, inr p) = as_many v.due w.due p.1.due

  closes_fewer : (name : LinkName) (c : Closing) (o : Option L) (w v : World L) → Closes talk name c o w v → length v.due ≤ length w.due
  closes_fewer name c None w v s = at_most name v.due w.due s.due
  closes_fewer name c (Some l) w v (m, k, s) = at_most name v.due w.due s.due

  does_fewer : (a : Action) (w v : World L) → Does talk a w v → length v.due ≤ length w.due
  does_fewer (Dial name uri) w v d = dials_fewer name uri w v d
  does_fewer (Take name) w v d = takes_fewer name w.arrived w v d
  does_fewer (Refuse c) w v d = refuses_fewer c w.arrived w v d
  does_fewer (Put name o) w v d = puts_fewer name o (w.link name) w v d
  does_fewer (Close name c) w v d = closes_fewer name c (w.link name) w v d
  does_fewer (Deliver d) w v (g, s) = as_many v.due w.due s.due
  does_fewer (Tell note) w v (g, s) = as_many v.due w.due s.due
  does_fewer Draw w v s = as_many v.due w.due s.due

  pub carries_fewer : (xs : List Action) (w v : World L) → Carries talk xs w v → length v.due ≤ length w.due
  carries_fewer [] w v s = as_many v.due w.due s.due
  carries_fewer (a ∷ xs) w v (m, d, k) = (let x = does_fewer a w m d in let y = carries_fewer xs m v k in omega (arith, x, y))

module _ {N L : Type 0} (goes : N → ℕ → NodeEvent → List Action → N → Type 0) (talk : L → Option (List Said)) (now : ℕ) where
  answers_fewer : (b : Bool) (n m : N) (w v : World L) → GivesWord goes talk now b n w m v → length v.due ≤ length w.due
  answers_fewer false n m w v (e, s) = as_many v.due w.due s.due
  answers_fewer true n m w v (word, actions, b, g, k) = carries_fewer talk actions w v k

  pub gives_fewer : (e : NodeEvent) (n m : N) (w v : World L) → Gives goes talk now e n w m v → length v.due ≤ length w.due
  gives_fewer e n m w v (actions, p, x, g, k, a) = (let i = carries_fewer talk actions w x k in let j = answers_fewer (draws actions) p m x v a in omega (arith, i, j))
