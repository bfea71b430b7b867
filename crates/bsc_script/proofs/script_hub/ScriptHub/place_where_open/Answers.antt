-- The place of a name is that of its peer, and there is none where it isn't open.
use Rattle.std.proofs.Common.{◌≡◌, Some, None, position, refl, sym, ap, ◌∙◌, subst}
use Rattle.bsc_script.specs.States.{is_named, peer_of}
use Rattle.bsc_script.proofs.Changes.{indexed}
use Rattle.bsc_script.proofs.Pairs.{position-gives}
use Rattle.bsc_script.proofs.script_hub.ScriptHub.place_where_open.Goals as goal
use Rattle.bsc_lemmas.proofs.Lists.{position-none}

pub returns-in-Some-clause-found : goal.returns-in-Some-clause-found
returns-in-Some-clause-found c = λ s h. (
    let place : position (is_named c.args.name.now) s.peers ≡ Some c.in-Some.at = ap (λ n. position (is_named n) s.peers) (sym c.as_slice.ensures)
    ∙ sym (c.in-Some.ensures.place s.peers (indexed c.args.self.now s h)) in
    let r = position-gives (is_named c.args.name.now) s.peers c.in-Some.at place in
    (r.0, r.1, r.3))

pub returns-in-None-clause-none : goal.returns-in-None-clause-none
returns-in-None-clause-none c = λ s h. (
  refl,
  position-none (is_named c.args.name.now) s.peers
      (ap (λ n. position (is_named n) s.peers) (sym c.as_slice.ensures) ∙ sym (c.in-None.ensures.place s.peers (indexed c.args.self.now s h))),
)
