use Rattle.std.proofs.Common.{List, ℕ, Option, subst}
use Rattle.std.specs.Prelude.{option_map}
use Rattle.bsc_session.specs.Jobs.{Worked, policy_of}
use Rattle.bsc_serve.specs.Asking.{asking_by}
use Rattle.bsc_hub_command.specs.Served.{HubRuns, HubTerms, HubWorld, telling}
use Rattle.bsc_hub_command.proofs.Binding.{sooner}
use Rattle.bsc_hub_command.proofs.command.run_hub.Goals as goal

pub returns-in-Ok-clause-runs : goal.returns-in-Ok-clause-runs
returns-in-Ok-clause-runs g c hub is =
    let A = g.A.Acceptor in
    let P = g.P.Spawner in
    let J = g.J.Journals in
    let N = g.N.Sink in
    let Q = g.Q.StopAsker in
    let W = Worked g.L.Link.talk g.L.Link.faults g.L.Link.notices g.C.Clock.readings N.held N.faults in
    let policy = policy_of c.in-Ok.settings.policy in
    let asked : HubTerms = record { settings = c.in-Ok.settings.hub; policy = policy; sessions = c.args.words.sessions; prefix = option_map (λ p. p.now) c.args.words.journal; limit = c.args.words.limit } in
    let before : Option (List ℕ) → HubWorld g.row.L.Denot g.row.C.Denot g.row.N.Denot =
    λ (t : Option (List ℕ)). record {
      links = A.left c.args.parts.now.acceptor;
      came = A.came c.args.parts.now.acceptor;
      waits = A.waits c.args.parts.now.acceptor;
      quiets = A.quiets c.args.parts.now.acceptor;
      port = A.bound c.args.parts.now.acceptor;
      faults = A.faults c.args.parts.now.acceptor;
      jobs = P.jobs c.args.parts.now.spawner;
      given_back = P.ends c.args.parts.now.spawner;
      out = P.out c.args.parts.now.spawner;
      unstarted = P.faults c.args.parts.now.spawner;
      begun = J.calls c.args.parts.now.journals;
      unbegun = J.faults c.args.parts.now.journals;
      lost = J.lost c.args.parts.now.journals;
      limits = J.limits c.args.parts.now.journals;
      written = t;
      asking = asking_by Q.looks Q.asked Q.endings c.args.asker.now;
    } in
    let after : HubWorld g.row.L.Denot g.row.C.Denot g.row.N.Denot = record {
      links = A.left c.serve.new.parts.acceptor;
      came = A.came c.serve.new.parts.acceptor;
      waits = A.waits c.serve.new.parts.acceptor;
      quiets = A.quiets c.serve.new.parts.acceptor;
      port = A.bound c.serve.new.parts.acceptor;
      faults = A.faults c.serve.new.parts.acceptor;
      jobs = P.jobs c.serve.new.parts.spawner;
      given_back = P.ends c.serve.new.parts.spawner;
      out = P.out c.serve.new.parts.spawner;
      unstarted = P.faults c.serve.new.parts.spawner;
      begun = J.calls c.serve.new.parts.journals;
      unbegun = J.faults c.serve.new.parts.journals;
      lost = J.lost c.serve.new.parts.journals;
      limits = J.limits c.serve.new.parts.journals;
      written = g.K.Sink.held c.serve.new.sink;
      asking = asking_by Q.looks Q.asked Q.endings c.serve.new.asker;
    } in (
      c.in-Ok.settings.hub,
      policy,
      c.in-Ok.ensures.settled.0,
      subst (λ (t : Option (List ℕ)). HubRuns (telling W J.begins g.L.Link.talk N.held N.faults) asked c.serve.new.place (before t) after c.serve.result)
          c.in-Ok.ensures.settled.1 (c.serve.ensures.runs hub is),
    )

pub returns-in-Ok-clause-write : goal.returns-in-Ok-clause-write
returns-in-Ok-clause-write g c e = sooner _ _ _ c.load.ensures.writes_later (c.serve.ensures.write e)
