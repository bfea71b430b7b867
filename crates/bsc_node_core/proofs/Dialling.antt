-- The failover is dialled, and the link of a dropped one closed first.
-- It serves the clauses of `close_there` and `dial_failover`.
use Rattle.std.proofs.Common.{◌≡◌, ℕ, Bool, true, false, List, [], ◌∷◌, ◌++◌, ap, sym, subst}
use Rattle.std.proofs.lemmas.List.{append-nil}
use Rattle.bsc_accept.specs.Steps.{normal}
use Rattle.bsc_connector.specs.declared.side.Side.TheVariants.{Failover}
use Rattle.bsc_node.specs.declared.link_name.LinkName.{LinkName}
use Rattle.bsc_node.specs.declared.link_name.LinkName.TheVariants.{Hub}
use Rattle.bsc_node.specs.declared.action.Action.{Action}
use Rattle.bsc_node.specs.declared.action.Action.TheVariants.{Dial, Close}
use Rattle.bsc_node.specs.Logs.{Log, Rule, did, does, in_order, when, nothing, if_so}
use Rattle.bsc_node.specs.Links.{is_there}
use Rattle.bsc_node_core.specs.declared.state.State.{State}
use Rattle.bsc_node_core.specs.Standing.{Base, Stands}
use Rattle.bsc_node_core.proofs.Together.{first-then, none-left}

-- A link that is there is closed.
abbrev pub closes_there : LinkName → Rule
closes_there name = when (is_there name) (does (Close name normal))

pub closed-there : (name : LinkName) (L : Log) → is_there name L ≡ true → closes_there name L ≡ did (Close name normal) ∷ []
closed-there name L h = ap (λ (b : Bool). if_so b (does (Close name normal)) nothing L) h

pub not-there : (b : Base) (out : List Action) (s : State) (name : LinkName) (L : Log) → is_there name L ≡ false → Stands b out s L → Stands b out s (L ++ closes_there name L)
not-there b out s name L h st =
    subst (λ ms. Stands b out s (L ++ ms)) (sym (ap (λ (c : Bool). if_so c (does (Close name normal)) nothing L) h)) (subst (λ M. Stands b out s M) (sym (append-nil L)) st)

pub failover-dialled : (b : Base) (out : List Action) (s : State) (L : Log) (uri given : List ℕ) → uri ≡ given
    → Stands b out s ((L ++ closes_there (Hub Failover) L) ++ did (Dial (Hub Failover) uri) ∷ [])
    → Stands b out s (L ++ in_order (closes_there (Hub Failover) ∷ does (Dial (Hub Failover) given) ∷ []) L)
failover-dialled b out s L uri given u h =
    first-then b out s L (closes_there (Hub Failover)) (does (Dial (Hub Failover) given) ∷ [])
    (first-then b out s (L ++ closes_there (Hub Failover) L) (does (Dial (Hub Failover) given)) []
    (none-left b out s ((L ++ closes_there (Hub Failover) L) ++ did (Dial (Hub Failover) given) ∷ [])
    (subst (λ (x : List ℕ). Stands b out s ((L ++ closes_there (Hub Failover) L) ++ did (Dial (Hub Failover) x) ∷ [])) u h)))
