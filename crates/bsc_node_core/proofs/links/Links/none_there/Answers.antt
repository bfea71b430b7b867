use Rattle.std.proofs.Common.{◌≡◌, not, ◌||◌, ap, ◌∙◌, arith}
use Rattle.std.specs.List.{list_any}
use Rattle.bsc_node_core.specs.declared.link.Link.{Link}
use Rattle.bsc_node_core.specs.Machines.{says_there}
use Rattle.bsc_node_core.proofs.NoneThere.{any-kept-there, or-so, or-not}
use Rattle.bsc_node_core.proofs.links.Links.none_there.Goals.{then-is_there, else-is_there, then-is_there-2, else-is_there-2}
use Rattle.bsc_node_core.proofs.links.Links.none_there.Goals as goal

pub returns : goal.returns
returns c =
    let p = says_there c.args.self.now.primary.machine in
    let f = says_there c.args.self.now.failover.machine in
    let some = list_any (λ (l : Link). says_there l.machine) c.args.self.now.slots.items in
    let hubs : c.if-is_there.value ≡ (p || f) = elim c.if-is_there.branch [
      | then-is_there w ↦ or-so p f c.is_there.result c.if-is_there.value c.is_there.ensures w.if-is_there.true w.value-is
      | else-is_there w ↦ or-not p f c.is_there.result c.if-is_there.value c.is_there.ensures w.if-is_there.false (w.value-is ∙ w.is_there-else-is_there.ensures)
    ] in
    let all : c.if-is_there-2.result ≡ ((p || f) || some) = elim c.if-is_there-2.branch [
      | then-is_there-2 w ↦ or-so (p || f) some c.if-is_there.value c.if-is_there-2.result hubs w.if-is_there-2.true w.result-is
      | else-is_there-2 w ↦ or-not (p || f) some c.if-is_there.value c.if-is_there-2.result hubs w.if-is_there-2.false
          (w.result-is ∙ w.any_there.ensures ∙ ap (list_any (λ (l : Link). says_there l.machine)) w.as_slice.ensures.value)
    ] in
    ap not (all ∙ any-kept-there c.args.self.now (omega (arith, c.args.self.now.slots.ok.0, c.args.self.now.all)))
