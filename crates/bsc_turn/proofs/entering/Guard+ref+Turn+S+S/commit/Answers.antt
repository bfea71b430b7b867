use Rattle.std.proofs.Common.{rules, ◌≡◌}
use Rattle.bsc_turn.specs.declared.phase.SeatPhase.TheVariants.{Outside}
use Rattle.bsc_turn.specs.Effects.{in_phase}
use Rattle.bsc_turn.specs.Passes.{first_state}
use Rattle.bsc_turn.proofs.Passing.{sound_outside}
use Rattle.bsc_turn.proofs.entering.Guard+ref+Turn+S+S.commit.Goals as goal

pub returns-clause-pass : goal.returns-clause-pass
returns-clause-pass g c =
    let v = c.make_entry-place.new.seat.me.0 in
    let e : c.put_in.new.seat.me.0 ≡ in_phase Outside v = search rules in (
      search rules,
      sound_outside c.args.pass.now.number (g.S.Stands.about (first_state c.args.self.turn.now)) c.args.self.turn.now.callers c.into_badge.result.views v c.put_in.new.seat.me.0
          (search rules) e (search rules) (search rules) (search rules) (search rules) c.make_entry-place.ensures.consistent,
    )
