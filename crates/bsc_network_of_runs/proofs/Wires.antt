-- Wires whose ends tell what they gave and took are the links of a network.
-- It serves the clauses of `wires_are_links`.
use Rattle.std.proofs.Common.{ℕ, List, ◌++◌, Option, Some, None, ap, sym, ◌∙◌, append_assoc}
use Rattle.bsc_node_links.specs.Talks.{AreFirstOf, put_in}
use Rattle.bsc_network_of_runs.specs.Networks.{Carries, HasTraffic, LinkEnd, Traffic}
use Rattle.bsc_network_of_runs.specs.Wires.{IsCarried, WiresAreLinks}

first_then : (os ps qs : List (List ℕ)) → AreFirstOf os ps → AreFirstOf ps qs → AreFirstOf os qs
first_then os ps qs (more, is) (later, are) = (more ++ later, are ∙ ap (λ (l : List (List ℕ)). l ++ later) is ∙ append_assoc os more later)

pub wires_are_links : WiresAreLinks
wires_are_links N other told tell wires = record {
  fit = wires.fit;
  both = wires.both;
  carry = λ x t h. by x t h (other x) (wires.carry x t h);
}
  where
    by : (x : LinkEnd) (t : Traffic) → HasTraffic N x t → (o : Option LinkEnd) → IsCarried N told o x → Carries N o t
    by x t h None c = sym (tell.gave x t h) ∙ c
    by x t h (Some y) (u, at, (more, is)) =
        let first : AreFirstOf t.given (put_in (told y)) = (more, is ∙ ap (λ (l : List (List ℕ)). l ++ more) (tell.gave x t h)) in
        (u, at, first_then t.given (put_in (told y)) u.put first (tell.took y u at))
