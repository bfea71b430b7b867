use Rattle.std.proofs.Common.{List, [], ◌∷◌, None, arith, refl, subst}
use Rattle.bsc_turn.specs.declared.view.EndedCaller.{EndedCaller}
use Rattle.bsc_turn.specs.Effects.{ended_of}
use Rattle.bsc_turn.specs.Passes.{view_of}
use Rattle.bsc_hub.specs.Passing.{Passed}
use Rattle.bsc_edge.proofs.Common.{grows_none, stays_same}
use Rattle.bsc_session.specs.Jobs.{Worked}
use Rattle.bsc_serve.specs.Worlds.{Stock}
use Rattle.bsc_serve.proofs.Sessions.{goes_none, goes_one, goes_then, our_end, ours_ended, ours_left, takes_none, takes_one, takes_then}
use Rattle.bsc_serve.proofs.taking_in.take_ended.Goals as goal

pub take_in-requires-clause-other : goal.take_in-requires-clause-other
take_in-requires-clause-other g c =
    let P = g.P.Spawner in
    let W = Worked g.L.Link.talk g.L.Link.faults g.L.Link.notices g.C.Clock.readings g.N.Sink.held g.N.Sink.faults in
    let B = g.J.Journals.begins in
    let T = g.L.Link.talk in
    let left = c.in-Some-next_end.left in
    let e = c.in-Some-next_end.ensures.out in
    let ours = ours_ended W B T c.args.hub.now (P.out c.loop.spawner) (P.out c.next_end.new.spawner) left e c.loop.invariant.2 in
    (our_end g.L.Link.talk g.L.Link.faults g.L.Link.notices g.C.Clock.readings g.N.Sink.held g.N.Sink.faults c.args.hub.now e.job left ours e.worked).0.0

pub loop-preserved : goal.loop-preserved
loop-preserved g c =
    let P = g.P.Spawner in
    let W = Worked g.L.Link.talk g.L.Link.faults g.L.Link.notices g.C.Clock.readings g.N.Sink.held g.N.Sink.faults in
    let B = g.J.Journals.begins in
    let T = g.L.Link.talk in
    let h = c.args.hub.now in
    let p = c.loop.pass in
    let q = c.take_in.new.pass in
    let first : Stock g.row.L.Denot g.row.C.Denot g.row.N.Denot = record {
      jobs = P.jobs c.args.spawner.now;
      given_back = P.ends c.args.spawner.now;
      out = P.out c.args.spawner.now;
      unstarted = P.faults c.args.spawner.now;
    } in
    let before : Stock g.row.L.Denot g.row.C.Denot g.row.N.Denot = record {
      jobs = P.jobs c.loop.spawner;
      given_back = P.ends c.loop.spawner;
      out = P.out c.loop.spawner;
      unstarted = P.faults c.loop.spawner;
    } in
    let after : Stock g.row.L.Denot g.row.C.Denot g.row.N.Denot = record {
      jobs = P.jobs c.next_end.new.spawner;
      given_back = P.ends c.next_end.new.spawner;
      out = P.out c.next_end.new.spawner;
      unstarted = P.faults c.next_end.new.spawner;
    } in
    let left = c.in-Some-next_end.left in
    let k = c.in-Some-next_end.ensures in
    let e = k.out in
    let ours = ours_ended W B T h before.out after.out left e c.loop.invariant.2 in
    let end = our_end g.L.Link.talk g.L.Link.faults g.L.Link.notices g.C.Clock.readings g.N.Sink.held g.N.Sink.faults h e.job left ours e.worked in
    let took : Passed h p (ended_of (view_of left.pass) ∷ []) None q =
    subst (λ (xs : List EndedCaller). Passed h p (ended_of (view_of left.pass) ∷ xs) None q) end.1 c.take_in.ensures.pass in (
      (λ can. k.again (c.loop.invariant.0 can)),
      took.caller,
      ours_left W B T h before.out after.out left e c.loop.invariant.2,
      goes_then W B T h c.args.pass.now p q first before after c.loop.invariant.3
          (goes_one W B T h p q before after left e end.0 took c.take_in.ensures.loaded k.jobs k.ends k.later),
      takes_then W h c.args.pass.now p q first before after c.loop.invariant.4
          (takes_one W h p q before after left e end.0 took c.take_in.ensures.loaded k.jobs k.ends k.later),
      (tt, tt),
    )

pub returns-in-None-next_end-clause-goes_on : goal.returns-in-None-next_end-clause-goes_on
returns-in-None-next_end-clause-goes_on g c =
    let P = g.P.Spawner in
    let W = Worked g.L.Link.talk g.L.Link.faults g.L.Link.notices g.C.Clock.readings g.N.Sink.held g.N.Sink.faults in
    let B = g.J.Journals.begins in
    let T = g.L.Link.talk in
    let h = c.args.hub.now in
    let p = c.loop.pass in
    let first : Stock g.row.L.Denot g.row.C.Denot g.row.N.Denot = record {
      jobs = P.jobs c.args.spawner.now;
      given_back = P.ends c.args.spawner.now;
      out = P.out c.args.spawner.now;
      unstarted = P.faults c.args.spawner.now;
    } in
    let before : Stock g.row.L.Denot g.row.C.Denot g.row.N.Denot = record {
      jobs = P.jobs c.loop.spawner;
      given_back = P.ends c.loop.spawner;
      out = P.out c.loop.spawner;
      unstarted = P.faults c.loop.spawner;
    } in
    let after : Stock g.row.L.Denot g.row.C.Denot g.row.N.Denot = record {
      jobs = P.jobs c.next_end.new.spawner;
      given_back = P.ends c.next_end.new.spawner;
      out = P.out c.next_end.new.spawner;
      unstarted = P.faults c.next_end.new.spawner;
    } in
    let k = c.in-None-next_end.ensures in
    goes_then W B T h c.args.pass.now p p first before after c.loop.invariant.3 (goes_none W B T h p before after k.out k.jobs k.ends k.later)

pub returns-in-None-next_end-clause-takes_in : goal.returns-in-None-next_end-clause-takes_in
returns-in-None-next_end-clause-takes_in g c =
    let P = g.P.Spawner in
    let W = Worked g.L.Link.talk g.L.Link.faults g.L.Link.notices g.C.Clock.readings g.N.Sink.held g.N.Sink.faults in
    let h = c.args.hub.now in
    let p = c.loop.pass in
    let first : Stock g.row.L.Denot g.row.C.Denot g.row.N.Denot = record {
      jobs = P.jobs c.args.spawner.now;
      given_back = P.ends c.args.spawner.now;
      out = P.out c.args.spawner.now;
      unstarted = P.faults c.args.spawner.now;
    } in
    let before : Stock g.row.L.Denot g.row.C.Denot g.row.N.Denot = record {
      jobs = P.jobs c.loop.spawner;
      given_back = P.ends c.loop.spawner;
      out = P.out c.loop.spawner;
      unstarted = P.faults c.loop.spawner;
    } in
    let after : Stock g.row.L.Denot g.row.C.Denot g.row.N.Denot = record {
      jobs = P.jobs c.next_end.new.spawner;
      given_back = P.ends c.next_end.new.spawner;
      out = P.out c.next_end.new.spawner;
      unstarted = P.faults c.next_end.new.spawner;
    } in
    let k = c.in-None-next_end.ensures in
    takes_then W h c.args.pass.now p p first before after c.loop.invariant.4 (takes_none W h p before after c.loop.invariant.1 k.out k.jobs k.ends k.later)

pub loop-init : goal.loop-init
loop-init g c =
    let P = g.P.Spawner in
    let W = Worked g.L.Link.talk g.L.Link.faults g.L.Link.notices g.C.Clock.readings g.N.Sink.held g.N.Sink.faults in
    let first : Stock g.row.L.Denot g.row.C.Denot g.row.N.Denot = record {
      jobs = P.jobs c.args.spawner.now;
      given_back = P.ends c.args.spawner.now;
      out = P.out c.args.spawner.now;
      unstarted = P.faults c.args.spawner.now;
    } in (
      (λ can. can),
      c.requires.pass,
      c.requires.ours,
      (λ terms first beside tally t. t),
      takes_none W c.args.hub.now c.args.pass.now first first c.requires.pass refl (stays_same first.jobs) (grows_none first.given_back) (omega arith),
      (tt, tt),
    )
