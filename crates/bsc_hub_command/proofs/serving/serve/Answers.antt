use Rattle.std.proofs.Common.{ℕ, List, Option, refl, subst, sym}
use Rattle.std.specs.Arc.{arc_value}
use Rattle.bsc_session.specs.Jobs.{Worked}
use Rattle.bsc_serve.specs.Asking.{asking_by}
use Rattle.bsc_hub_command.specs.Served.{HubCourse, HubTerms, HubWorld, LimitedTo, telling, terms_in}
use Rattle.bsc_hub_command.proofs.Binding.{went_since_limits}
use Rattle.bsc_hub_command.proofs.serving.serve.Goals as goal

pub returns-clause-runs : goal.returns-clause-runs
returns-clause-runs g c hub is =
    let A = g.A.Acceptor in
    let P = g.P.Spawner in
    let J = g.J.Journals in
    let N = g.N.Sink in
    let Q = g.Q.StopAsker in
    let W = Worked g.L.Link.talk g.L.Link.faults g.L.Link.notices g.C.Clock.readings N.held N.faults in
    let asked : HubTerms = terms_in c.args.asked in
    let before : HubWorld g.row.L.Denot g.row.C.Denot g.row.N.Denot = record {
      links = A.left c.args.parts.now.acceptor;
      came = A.came c.args.parts.now.acceptor;
      waits = A.waits c.args.parts.now.acceptor;
      quiets = A.quiets c.args.parts.now.acceptor;
      port = A.bound c.args.parts.now.acceptor;
      faults = A.faults c.args.parts.now.acceptor;
      jobs = P.jobs c.args.parts.now.spawner;
      given_back = P.ends c.args.parts.now.spawner;
      out = P.out c.args.parts.now.spawner;
      unstarted = P.faults c.args.parts.now.spawner;
      begun = J.calls c.args.parts.now.journals;
      unbegun = J.faults c.args.parts.now.journals;
      lost = J.lost c.args.parts.now.journals;
      limits = J.limits c.args.parts.now.journals;
      written = g.K.Sink.held c.args.sink.now;
      asking = asking_by Q.looks Q.asked Q.endings c.args.asker.now;
    } in
    let n = c.serve_begun-status.new in
    let after : HubWorld g.row.L.Denot g.row.C.Denot g.row.N.Denot = record {
      links = A.left n.parts.acceptor;
      came = A.came n.parts.acceptor;
      waits = A.waits n.parts.acceptor;
      quiets = A.quiets n.parts.acceptor;
      port = A.bound n.parts.acceptor;
      faults = A.faults n.parts.acceptor;
      jobs = P.jobs n.parts.spawner;
      given_back = P.ends n.parts.spawner;
      out = P.out n.parts.spawner;
      unstarted = P.faults n.parts.spawner;
      begun = J.calls n.parts.journals;
      unbegun = J.faults n.parts.journals;
      lost = J.lost n.parts.journals;
      limits = J.limits n.parts.journals;
      written = g.K.Sink.held n.sink;
      asking = asking_by Q.looks Q.asked Q.endings n.asker;
    } in
    let k : HubCourse = record { hub = arc_value c.in-Ok.hub; first = c.in-Ok.pass; last = n.pass } in
    let limited = c.limit_files.new.journals in
    let e = c.limit_files.ensures in
    record {
      hub = c.in-Ok.hub;
      first = c.in-Ok.pass;
      last = n.pass;
      made = refl;
      keeps = refl;
      caller = c.in-Ok.ensures.pass;
      new = c.in-Ok.ensures.new;
      about = c.in-Ok.ensures.about;
      said = c.in-Ok.ensures.said;
      identity = c.in-Ok.ensures.identity;
      limited = subst (λ (x : Option (List ℕ)). LimitedTo c.args.asked.limit (J.limits c.args.parts.now.journals) x) (sym c.serve_begun-status.ensures.unlimited) e.limited;
      went = went_since_limits (telling W J.begins g.L.Link.talk N.held N.faults) k asked n.own before after c.serve_begun-status.result (J.limits limited)
          (J.calls limited) (J.faults limited) (J.lost limited) e.begun e.same e.unlost c.serve_begun-status.ensures.went;
    }
