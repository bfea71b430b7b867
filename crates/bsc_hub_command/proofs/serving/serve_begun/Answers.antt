use Rattle.std.proofs.Common.{Bool, Err, List, Option, true, false, [], ◌∷◌, ap, inl, inr, refl, subst, ℕ, ◌∙◌}
use Rattle.std.specs.Arc.{arc_value}
use Rattle.bsc_edge.specs.Told.{Grows}
use Rattle.bsc_session.specs.Jobs.{Worked}
use Rattle.bsc_serve.specs.Asking.{asking_by}
use Rattle.bsc_serve.specs.Events.{begun_call}
use Rattle.bsc_hub_command.specs.Served.{HubCourse, HubTelling, HubTerms, HubWorld, Titling, telling, terms_in}
use Rattle.bsc_hub_command.proofs.Binding.{says_lost, titling_since, written_so}
use Rattle.bsc_hub_command.proofs.serving.serve_begun.Goals as goal

pub returns-in-Ok-clause-went : goal.returns-in-Ok-clause-went
returns-in-Ok-clause-went g c =
    let A = g.A.Acceptor in
    let P = g.P.Spawner in
    let J = g.J.Journals in
    let N = g.N.Sink in
    let Q = g.Q.StopAsker in
    let W = Worked g.L.Link.talk g.L.Link.faults g.L.Link.notices g.C.Clock.readings N.held N.faults in
    let asked : HubTerms = terms_in c.args.asked in
    let before : HubWorld g.row.L.Denot g.row.C.Denot g.row.N.Denot = record {
      links = A.left c.args.parts.now.acceptor;
      came = A.came c.args.parts.now.acceptor;
      waits = A.waits c.args.parts.now.acceptor;
      quiets = A.quiets c.args.parts.now.acceptor;
      port = A.bound c.args.parts.now.acceptor;
      faults = A.faults c.args.parts.now.acceptor;
      jobs = P.jobs c.args.parts.now.spawner;
      given_back = P.ends c.args.parts.now.spawner;
      out = P.out c.args.parts.now.spawner;
      unstarted = P.faults c.args.parts.now.spawner;
      begun = J.calls c.args.parts.now.journals;
      unbegun = J.faults c.args.parts.now.journals;
      lost = J.lost c.args.parts.now.journals;
      limits = J.limits c.args.parts.now.journals;
      written = g.K.Sink.held c.args.sink.now;
      asking = asking_by Q.looks Q.asked Q.endings c.args.asker.now;
    } in
    let n = c.serve_titled-status.new in
    let after : HubWorld g.row.L.Denot g.row.C.Denot g.row.N.Denot = record {
      links = A.left n.parts.acceptor;
      came = A.came n.parts.acceptor;
      waits = A.waits n.parts.acceptor;
      quiets = A.quiets n.parts.acceptor;
      port = A.bound n.parts.acceptor;
      faults = A.faults n.parts.acceptor;
      jobs = P.jobs n.parts.spawner;
      given_back = P.ends n.parts.spawner;
      out = P.out n.parts.spawner;
      unstarted = P.faults n.parts.spawner;
      begun = J.calls n.parts.journals;
      unbegun = J.faults n.parts.journals;
      lost = J.lost n.parts.journals;
      limits = J.limits n.parts.journals;
      written = g.K.Sink.held n.sink;
      asking = asking_by Q.looks Q.asked Q.endings n.asker;
    } in
    let tells : HubTelling g.row.L.Denot g.row.C.Denot g.row.N.Denot = telling W J.begins g.L.Link.talk N.held N.faults in
    let k : HubCourse = record { hub = arc_value c.args.made.hub.now; first = c.args.pass.now; last = n.pass } in
    inr (record {
      begun = c.in-Ok.begun;
      own = c.serve_titled-status.new.own;
      of_pass = subst (λ (n : ℕ). J.begins asked.prefix n c.in-Ok.begun) c.number.ensures c.in-Ok.ensures.begun;
      fresh = c.in-Ok.ensures.fresh;
      keeps = refl;
      calls = J.calls c.begin.new.self;
      called = subst (λ (n : ℕ). Grows before.begun (J.calls c.begin.new.self) (begun_call asked.prefix true n ∷ [])) c.number.ensures c.in-Ok.ensures.told;
      went = subst (λ (x : Option (List Bool)). Titling tells k asked c.in-Ok.begun n.own (record before { begun = J.calls c.begin.new.self; lost = x }) after c.serve_titled-status.result)
          c.in-Ok.ensures.unlost
          (titling_since tells k asked c.in-Ok.begun n.own (record before { begun = J.calls c.begin.new.self; lost = J.lost c.begin.new.self }) after
          (J.faults c.begin.new.self) c.serve_titled-status.result (J.limits c.begin.new.self) c.serve_titled-status.ensures.went);
    })

pub returns-in-Err-clause-went : goal.returns-in-Err-clause-went
returns-in-Err-clause-went g c =
    let J = g.J.Journals in
    let asked : HubTerms = terms_in c.args.asked in
    inl (record {
      none = c.requires.own;
      begun = subst (λ (n : ℕ). Grows (J.calls c.args.parts.now.journals) (J.calls c.begin.new.self) (begun_call asked.prefix false n ∷ [])) c.number.ensures c.in-Err.ensures.told;
      untouched = record { links = refl; came = refl; waits = refl; quiets = refl; port = refl; faults = refl; jobs = refl; given_back = refl; out = refl; unstarted = refl; lost = c.begin.ensures.unlost; asking = refl };
      stops = c.stop_alone.ensures;
      says = says_lost c.tell_lost.result c.in-Err.fault _ _ _ (λ e. c.begin.ensures.failed (c.in-Err.is ∙ ap Err e)) c.tell_lost.ensures.says;
    })

pub returns-in-Ok-clause-write : goal.returns-in-Ok-clause-write
returns-in-Ok-clause-write g c e =
    written_so g.N.Sink.faults c.in-Ok.begun c.serve_titled-status.new.own _ _ _ _ _ c.in-Ok.ensures.fresh c.begin.ensures.later
    (c.serve_titled-status.ensures.write e)

pub returns-in-Err-clause-write : goal.returns-in-Err-clause-write
returns-in-Err-clause-write g c e = inr (inl (c.begin.ensures.failed (c.in-Err.is ∙ ap Err (c.tell_lost.ensures.failed e))))
