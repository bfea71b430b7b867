use Rattle.std.proofs.Common.{List, ℕ, [], ◌∷◌, Option, inl, inr, refl, subst}
use Rattle.bsc_edge.specs.Asked.{GaveFile}
use Rattle.bsc_edge.proofs.Reading.{gave_before, gave_behind, reads_both, reads_one}
use Rattle.bsc_node_run.specs.Drawing.{Draws}
use Rattle.bsc_node_run.specs.Worlds.{admitting, dialling}
use Rattle.bsc_node_command.specs.Comes.{CommandWorld, NodeWorld, RunsScript}
use Rattle.bsc_node_command.proofs.Ended.{files_finished}
use Rattle.bsc_node_command.proofs.Later.{not_refused, script_from, script_of_more, settled_more}
use Rattle.bsc_node_command.proofs.command.run_node_files.Goals as goal

pub returns-in-Ok-clause-runs : goal.returns-in-Ok-clause-runs
returns-in-Ok-clause-runs g c =
    let talk = g.L.Link.talk in
    let drawn = Draws g.W.Words.gives g.W.Words.faults in
    let F = g.F.Files in
    let A = g.A.Acceptor in
    let D = g.D.Dialer in
    let C = g.C.Clock in
    let V = g.V.Waiter in
    let K = g.K.Sink in
    let path = c.args.words.script.now in
    let v = c.in-Ok.settings in
    let old = c.args in
    let mid = c.load_settings.new in
    let s = c.run_script.result in
    let first : Option (List ℕ) → NodeWorld g.row.L.Denot g.row.W.Denot = λ (t : Option (List ℕ)). record {
      dialled = dialling D.calls D.left D.came D.faults old.parts.now.dialer;
      door = admitting A.left A.came A.waits old.acceptor.now;
      port = A.bound old.acceptor.now;
      faults = A.faults old.acceptor.now;
      readings = C.readings old.clock.now;
      waited = V.waits old.parts.now.waiter;
      random = old.parts.now.random;
      written = t;
    } in
    let before : Option (List ℕ) → CommandWorld g.row.L.Denot g.row.W.Denot = λ (t : Option (List ℕ)). record { unread = F.faults mid.files; beside = first t } in
    let after : CommandWorld g.row.L.Denot g.row.W.Denot = record {
      unread = F.faults c.run_script.new.files;
      beside = record {
        dialled = dialling D.calls D.left D.came D.faults c.run_script.new.parts.dialer;
        door = admitting A.left A.came A.waits c.run_script.new.acceptor;
        port = A.bound c.run_script.new.acceptor;
        faults = A.faults c.run_script.new.acceptor;
        readings = C.readings c.run_script.new.clock;
        waited = V.waits c.run_script.new.parts.waiter;
        random = c.run_script.new.parts.random;
        written = K.held c.run_script.new.sink;
      };
    } in
    let new = c.run_script.new.files in
    let settings = c.args.words.path.now in
    let ran = subst (λ (t : Option (List ℕ)). RunsScript talk drawn v (GaveFile F.holds F.loads mid.files new path) (before t) after s)
    c.in-Ok.ensures.settled.1 c.run_script.ensures.runs in
    let held = script_of_more talk drawn v (GaveFile F.holds F.loads mid.files new path) (GaveFile F.holds F.loads old.files.now new path) (before (K.held old.sink.now)) after s
    (λ o gave. gave_behind F.holds F.loads old.files.now mid.files new path settings o c.load_settings.ensures.once c.load_settings.ensures.stays gave) ran in
    inr (
      v,
      settled_more v (GaveFile F.holds F.loads old.files.now mid.files settings) (GaveFile F.holds F.loads old.files.now new settings)
          (λ o gave. gave_before F.holds F.loads old.files.now mid.files new settings path o gave c.run_script.ensures.once) c.in-Ok.ensures.settled.0,
      script_from talk drawn v (GaveFile F.holds F.loads old.files.now new path) (F.faults old.files.now) (F.faults mid.files) (first (K.held old.sink.now)) after s
          c.load_settings.ensures.reads_later held,
    )

pub returns-in-Err-clause-runs : goal.returns-in-Err-clause-runs
returns-in-Err-clause-runs g c = inl (refl, c.in-Err.ensures.unsettled)

pub returns-in-Ok-clause-finished : goal.returns-in-Ok-clause-finished
returns-in-Ok-clause-finished g c =
    let F = g.F.Files in
    let A = g.A.Acceptor in
    let D = g.D.Dialer in
    let C = g.C.Clock in
    let V = g.V.Waiter in
    let K = g.K.Sink in
    let before : CommandWorld g.row.L.Denot g.row.W.Denot = record {
      unread = F.faults c.args.files.now;
      beside = record {
        dialled = dialling D.calls D.left D.came D.faults c.args.parts.now.dialer;
        door = admitting A.left A.came A.waits c.args.acceptor.now;
        port = A.bound c.args.acceptor.now;
        faults = A.faults c.args.acceptor.now;
        readings = C.readings c.args.clock.now;
        waited = V.waits c.args.parts.now.waiter;
        random = c.args.parts.now.random;
        written = K.held c.args.sink.now;
      };
    } in
    let after : CommandWorld g.row.L.Denot g.row.W.Denot = record {
      unread = F.faults c.run_script.new.files;
      beside = record {
        dialled = dialling D.calls D.left D.came D.faults c.run_script.new.parts.dialer;
        door = admitting A.left A.came A.waits c.run_script.new.acceptor;
        port = A.bound c.run_script.new.acceptor;
        faults = A.faults c.run_script.new.acceptor;
        readings = C.readings c.run_script.new.clock;
        waited = V.waits c.run_script.new.parts.waiter;
        random = c.run_script.new.parts.random;
        written = K.held c.run_script.new.sink;
      };
    } in
    files_finished g.L.Link.talk (Draws g.W.Words.gives g.W.Words.faults) (GaveFile F.holds F.loads c.args.files.now c.run_script.new.files c.args.words.path.now)
    (GaveFile F.holds F.loads c.args.files.now c.run_script.new.files c.args.words.script.now) before after
    c.run_script.result (returns-in-Ok-clause-runs g c)

-- ---- which files were read

pub returns-in-Ok-clause-loaded : goal.returns-in-Ok-clause-loaded
returns-in-Ok-clause-loaded g c =
    let loads = g.F.Files.loads in
    reads_both (loads c.args.files.now) (loads c.load_settings.new.files)
    (loads c.run_script.new.files) c.args.words.path.now c.args.words.script.now c.load_settings.ensures.once c.run_script.ensures.once

pub returns-in-Err-clause-loaded : goal.returns-in-Err-clause-loaded
returns-in-Err-clause-loaded g c =
    let loads = g.F.Files.loads in
    reads_one (loads c.args.files.now) (loads c.load_settings.new.files) c.args.words.path.now (c.args.words.script.now ∷ []) c.load_settings.ensures.once

pub returns-in-Ok-clause-refused : goal.returns-in-Ok-clause-refused
returns-in-Ok-clause-refused g c is = absurd (not_refused c.run_script.result c.run_script.ensures.statuses is)
