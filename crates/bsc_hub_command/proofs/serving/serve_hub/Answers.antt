use Rattle.std.proofs.Common.{Bool, List, [], ◌∷◌, Option, rules, inl, inr, refl, subst, sym}
use Rattle.std.specs.Arc.{arc_value}
use Rattle.bsc_session.specs.Jobs.{Worked}
use Rattle.bsc_serve.specs.Asking.{asking_by}
use Rattle.bsc_edge.specs.declared.begun.Begun.{Begun}
use Rattle.bsc_edge.specs.Told.{Grows}
use Rattle.bsc_hub_command.specs.Served.{Bound, HubCourse, HubTelling, HubTerms, HubWorld, telling, terms_in}
use Rattle.bsc_hub_command.proofs.Binding.{bound_so, lost_so, told_so}
use Rattle.bsc_hub_command.proofs.serving.serve_hub.Goals as goal

pub returns-in-Err-clause-went : goal.returns-in-Err-clause-went
returns-in-Err-clause-went g c =
    inl (
      record {
        pass = refl;
        links = c.bind.ensures.left;
        came = c.bind.ensures.came;
        waits = c.bind.ensures.waits;
        jobs = refl;
        given_back = refl;
        out = refl;
        unstarted = refl;
        begun = refl;
        lost = refl;
        asking = refl;
        failed = c.bind.ensures.failed (search rules);
        says = c.end_with.ensures.ends;
      },
      refl,
    )

pub returns-in-Ok-clause-went : goal.returns-in-Ok-clause-went
returns-in-Ok-clause-went g c =
    let A = g.A.Acceptor in
    let P = g.P.Spawner in
    let J = g.J.Journals in
    let N = g.N.Sink in
    let Q = g.Q.StopAsker in
    let W = Worked g.L.Link.talk g.L.Link.faults g.L.Link.notices g.C.Clock.readings N.held N.faults in
    let asked : HubTerms = terms_in c.args.asked in
    let before : HubWorld g.row.L.Denot g.row.C.Denot g.row.N.Denot = record {
      links = A.left c.args.parts.now.acceptor;
      came = A.came c.args.parts.now.acceptor;
      waits = A.waits c.args.parts.now.acceptor;
      quiets = A.quiets c.args.parts.now.acceptor;
      port = A.bound c.args.parts.now.acceptor;
      faults = A.faults c.args.parts.now.acceptor;
      jobs = P.jobs c.args.parts.now.spawner;
      given_back = P.ends c.args.parts.now.spawner;
      out = P.out c.args.parts.now.spawner;
      unstarted = P.faults c.args.parts.now.spawner;
      begun = J.calls c.args.parts.now.journals;
      unbegun = J.faults c.args.parts.now.journals;
      lost = J.lost c.args.parts.now.journals;
      limits = J.limits c.args.parts.now.journals;
      written = g.K.Sink.held c.args.sink.now;
      asking = asking_by Q.looks Q.asked Q.endings c.args.asker.now;
    } in
    let after : HubWorld g.row.L.Denot g.row.C.Denot g.row.N.Denot = record {
      links = A.left c.serve_on-end.new.parts.acceptor;
      came = A.came c.serve_on-end.new.parts.acceptor;
      waits = A.waits c.serve_on-end.new.parts.acceptor;
      quiets = A.quiets c.serve_on-end.new.parts.acceptor;
      port = A.bound c.serve_on-end.new.parts.acceptor;
      faults = A.faults c.serve_on-end.new.parts.acceptor;
      jobs = P.jobs c.serve_on-end.new.parts.spawner;
      given_back = P.ends c.serve_on-end.new.parts.spawner;
      out = P.out c.serve_on-end.new.parts.spawner;
      unstarted = P.faults c.serve_on-end.new.parts.spawner;
      begun = J.calls c.serve_on-end.new.parts.journals;
      unbegun = J.faults c.count_lost-are_lost.new.self;
      lost = J.lost c.count_lost-are_lost.new.self;
      limits = J.limits c.count_lost-are_lost.new.self;
      written = g.K.Sink.held c.tell_end-said.new.sink;
      asking = asking_by Q.looks Q.asked Q.endings c.end.new.self;
    } in
    let tells : HubTelling g.row.L.Denot g.row.C.Denot g.row.N.Denot = telling W J.begins g.L.Link.talk N.held N.faults in
    let k : HubCourse = record { hub = arc_value c.args.made.hub.now; first = c.args.pass.now; last = c.serve_on-end.new.pass } in
    let count = c.count_lost-are_lost in
    inr (subst (λ (x : Option (List Begun)). Bound tells k asked (N.held c.args.own.now) (N.held c.serve_on-end.new.own) before (record after { begun = x }) c.status_with.result)
    (sym count.ensures.begun)
    (bound_so tells asked k
    (N.held c.args.own.now) (N.held c.serve_on-end.new.own) before after
    (A.left c.bind.new.self) (A.came c.bind.new.self) (A.waits c.bind.new.self) (A.quiets c.bind.new.self)
    (A.bound c.bind.new.self) c.tell_end-said.result c.serve_on-end.result c.terms_by-terms.result c.port.result
    c.terms_by-terms.ensures c.port.ensures.port c.in-Ok.ensures.bound c.serve_on-end.ensures.bound c.bind.ensures.left c.bind.ensures.came c.bind.ensures.waits c.bind.ensures.quiets
    c.serve_on-end.ensures.serving c.tell_end-said.ensures.says (asking_by Q.looks Q.asked Q.endings c.serve_on-end.new.asker) c.serve_on-end.ensures.asked
    c.end.ensures.looks c.end.ensures.same c.end.ensures.told c.status_with.result count.result
    (subst (λ (x : Option (List Bool)). Grows x (J.lost count.new.self) (count.result ∷ [])) c.serve_on-end.ensures.unlost count.ensures.told) c.status_with.ensures.status))

pub returns-in-Ok-clause-write : goal.returns-in-Ok-clause-write
returns-in-Ok-clause-write g c e =
    let J = g.J.Journals in
    let count = c.count_lost-are_lost in
    lost_so _ _ _ c.serve_on-end.ensures.journals_later count.ensures.later
    (λ x. told_so (c.tell_end-said.ensures.failed x) (λ y. c.serve_on-end.ensures.unrecorded y)) count.ensures.failed (c.status_with.ensures.lost e)
