use Rattle.std.proofs.Common.{◌≡◌, ℕ, List, [], ◌∷◌, Some, Err, Ok, Option, inl, inr, ap, map, option_map, refl, subst, sym, ◌∙◌, arith}
use Rattle.std.specs.Prelude.{⊤, string_bytes}
use Rattle.clap.specs.Words.{Text}
use Rattle.bsc_edge.specs.Asked.{GaveFile, ReadsFirstOf}
use Rattle.bsc_edge.proofs.Reading.{reads_none, reads_one}
use Rattle.bsc_script.specs.Scripts.{replay_of}
use Rattle.bsc_replay.specs.Checks.{check_of}
use Rattle.bsc_network_script.specs.Scripts.{simulate_of}
use Rattle.bsc_policy.specs.declared.policy.Policy.{Policy}
use Rattle.bsc_settings.specs.declared.hub.HubSettings.{HubSettings}
use Rattle.bsc_session.specs.Jobs.{Worked}
use Rattle.bsc_serve.specs.Asking.{asking_by}
use Rattle.bsc_hub_command.specs.Served.{HubRuns, HubWorld, telling}
use Rattle.bsc_hub_command.specs.Settled.{IsSettled, Unsettled}
use Rattle.bsc_hub_command.specs.Tested.{TestsHub}
use Rattle.bsc_node_run.specs.declared.due.Due.{Due}
use Rattle.bsc_node_run.specs.Drawing.{Draws}
use Rattle.bsc_node_run.specs.Scripts.{script_of, wish_of}
use Rattle.bsc_node_run.specs.Worlds.{admitting, dialling}
use Rattle.bsc_node_laws.specs.Courses.{FinishCame}
use Rattle.bsc_node_command.specs.Comes.{CommandWorld, RunsFiles}
use Rattle.bsc_node_command.specs.Lives.{LiveWorld, RunsLive}
use Rattle.bsc_node_command.specs.Tested.{TestWorld, TestsNode}
use Rattle.bsc_cli.specs.declared.fault.WordsFault.TheVariants.{Refused}
use Rattle.bsc_cli.specs.Read.{asked_in}
use Rattle.bsc_cli.specs.Words.{AskedOf, JournalsOf, audit, check, hub, limit_in, live_node, load, node, prefix_in, replay, said_journals, seen, simulate, test_hub, test_node}
use Rattle.bsc_cli.proofs.Commands.{workers_fit}
use Rattle.bsc_commands.proofs.Reading.{is_asked, is_read, ran_out, unaudited, unaudited_of_reads, unread, unread_of_reads}
use Rattle.bsc_commands.proofs.Sending.{reads_write_what_was_sent, writes_what_was_sent}
use Rattle.bsc_commands.proofs.running.run.Goals as goal

-- What holds of the words of a hub or of a node holds of words that ask for the same.
abbrev OfHub : (Text → Option ℕ → Option JournalsOf → Option Text → Type 0) → AskedOf → Type 0
OfHub P (hub path sessions journal stop_file) = P path sessions journal stop_file
OfHub P asked = ⊤

of_hub : (P : Text → Option ℕ → Option JournalsOf → Option Text → Type 0) (a p : Text) (b n : Option ℕ) (i j : Option JournalsOf) (k l : Option Text) → hub a b i k ≡ hub p n j l → P a b i k → P p n j l
of_hub P a p b n i j k l same h = subst (OfHub P) same h

abbrev OfNode : (Text → Text → Type 0) → AskedOf → Type 0
OfNode P (node path script) = P path script
OfNode P asked = ⊤

of_node : (P : Text → Text → Type 0) (a p b q : Text) → node a b ≡ node p q → P a b → P p q
of_node P a p b q same h = subst (OfNode P) same h

-- of a node that is asked by lines
abbrev OfLiveNode : (Text → Type 0) → AskedOf → Type 0
OfLiveNode P (live_node path) = P path
OfLiveNode P asked = ⊤

of_live_node : (P : Text → Type 0) (a p : Text) → live_node a ≡ live_node p → P a → P p
of_live_node P a p same h = subst (OfLiveNode P) same h

-- and of the words that try settings
abbrev OfTestHub : (Text → Type 0) → AskedOf → Type 0
OfTestHub P (test_hub path) = P path
OfTestHub P asked = ⊤

of_test_hub : (P : Text → Type 0) (a p : Text) → test_hub a ≡ test_hub p → P a → P p
of_test_hub P a p same h = subst (OfTestHub P) same h

abbrev OfTestNode : (Text → Text → Type 0) → AskedOf → Type 0
OfTestNode P (test_node path script) = P path script
OfTestNode P asked = ⊤

of_test_node : (P : Text → Text → Type 0) (a p b q : Text) → test_node a b ≡ test_node p q → P a b → P p q
of_test_node P a p b q same h = subst (OfTestNode P) same h

-- ---- what the words ask for was read

pub run_load-requires-clause-workers : goal.run_load-requires-clause-workers
run_load-requires-clause-workers g c κs within =
    let read = c.args.read.now in
    workers_fit (map string_bytes read.words.now) (seen c.in-Ok.asked) c.in-Load.workers (is_read (asked_in read) read.asked c.in-Ok.asked c.in-Ok.is read.ok) (ap seen c.in-Load.is)

pub returns-in-Hub-clause-hub : goal.returns-in-Hub-clause-hub
returns-in-Hub-clause-hub g c path sessions journal stop_file made named kept =
    let read = c.args.read.now in
    let same = is_asked (asked_in read) read.asked c.in-Ok.asked (hub path sessions journal stop_file) c.in-Ok.is read.ok named in
    let A = g.A.Acceptor in
    let P = g.P.Spawner in
    let Q = g.Q.StopAsker in
    let before : HubWorld g.row.L.Denot g.row.C.Denot g.row.N.Denot = record {
      links = A.left c.args.outside.now.parts.acceptor;
      came = A.came c.args.outside.now.parts.acceptor;
      waits = A.waits c.args.outside.now.parts.acceptor;
      quiets = A.quiets c.args.outside.now.parts.acceptor;
      port = A.bound c.args.outside.now.parts.acceptor;
      faults = A.faults c.args.outside.now.parts.acceptor;
      jobs = P.jobs c.args.outside.now.parts.spawner;
      given_back = P.ends c.args.outside.now.parts.spawner;
      out = P.out c.args.outside.now.parts.spawner;
      unstarted = P.faults c.args.outside.now.parts.spawner;
      begun = g.J.Journals.calls c.args.outside.now.parts.journals;
      unbegun = g.J.Journals.faults c.args.outside.now.parts.journals;
      lost = g.J.Journals.lost c.args.outside.now.parts.journals;
      limits = g.J.Journals.limits c.args.outside.now.parts.journals;
      written = g.K.Sink.held c.args.outside.now.sink;
      asking = asking_by Q.looks Q.asked Q.endings c.args.asker.now;
    } in
    let after : HubWorld g.row.L.Denot g.row.C.Denot g.row.N.Denot = record {
      links = A.left c.run_hub.new.parts.acceptor;
      came = A.came c.run_hub.new.parts.acceptor;
      waits = A.waits c.run_hub.new.parts.acceptor;
      quiets = A.quiets c.run_hub.new.parts.acceptor;
      port = A.bound c.run_hub.new.parts.acceptor;
      faults = A.faults c.run_hub.new.parts.acceptor;
      jobs = P.jobs c.run_hub.new.parts.spawner;
      given_back = P.ends c.run_hub.new.parts.spawner;
      out = P.out c.run_hub.new.parts.spawner;
      unstarted = P.faults c.run_hub.new.parts.spawner;
      begun = g.J.Journals.calls c.run_hub.new.parts.journals;
      unbegun = g.J.Journals.faults c.run_hub.new.parts.journals;
      lost = g.J.Journals.lost c.run_hub.new.parts.journals;
      limits = g.J.Journals.limits c.run_hub.new.parts.journals;
      written = g.K.Sink.held c.run_hub.new.sink;
      asking = asking_by Q.looks Q.asked Q.endings c.run_hub.new.asker;
    } in
    let Runs : Option Text → Option ℕ → Type 0 =
    λ (x : Option Text) (l : Option ℕ). (v : HubSettings) × (policy : Option Policy)
    × IsSettled (GaveFile g.F.Files.holds g.F.Files.loads c.args.outside.now.files c.run_hub.new.files c.in-Hub.path.now) v policy
    × HubRuns (telling (Worked g.L.Link.talk g.L.Link.faults g.L.Link.notices g.C.Clock.readings g.N.Sink.held g.N.Sink.faults) g.J.Journals.begins g.L.Link.talk g.N.Sink.held g.N.Sink.faults)
    (record { settings = v; policy = policy; sessions = c.in-Hub.sessions; prefix = x; limit = l }) c.run_hub.new.place before after c.run_hub.result in
    of_hub (λ (p : Text) (n : Option ℕ) (j : Option JournalsOf) (f : Option Text). (v : HubSettings) × (policy : Option Policy)
    × IsSettled (GaveFile g.F.Files.holds g.F.Files.loads c.args.outside.now.files c.run_hub.new.files p) v policy
    × HubRuns (telling (Worked g.L.Link.talk g.L.Link.faults g.L.Link.notices g.C.Clock.readings g.N.Sink.held g.N.Sink.faults) g.J.Journals.begins g.L.Link.talk g.N.Sink.held g.N.Sink.faults)
    (record { settings = v; policy = policy; sessions = n; prefix = prefix_in j; limit = limit_in j }) c.run_hub.new.place before after c.run_hub.result)
    c.in-Hub.path.now path c.in-Hub.sessions sessions (option_map said_journals c.in-Hub.journal) journal (option_map (λ q. q.now) c.in-Hub.stop_file) stop_file
    (sym (ap seen c.in-Hub.is) ∙ same)
    (subst (λ (l : Option ℕ). Runs (prefix_in (option_map said_journals c.in-Hub.journal)) l) c.limit_in.ensures
    (subst (λ (x : Option Text). Runs x c.limit_in.result) c.prefix_in.ensures (c.run_hub.ensures.runs made kept)))

pub returns-in-Hub-clause-no_hub : goal.returns-in-Hub-clause-no_hub
returns-in-Hub-clause-no_hub g c path sessions journal stop_file named none =
    let read = c.args.read.now in
    let same = is_asked (asked_in read) read.asked c.in-Ok.asked (hub path sessions journal stop_file) c.in-Ok.is read.ok named in
    let F = g.F.Files in
    let K = g.K.Sink in
    of_hub (λ (p : Text) (n : Option ℕ) (j : Option JournalsOf) (f : Option Text). Unsettled (GaveFile F.holds F.loads c.args.outside.now.files c.run_hub.new.files p) (F.faults c.args.outside.now.files)
    (F.faults c.run_hub.new.files)
    c.run_hub.result (K.held c.args.outside.now.sink) (K.held c.run_hub.new.sink))
    c.in-Hub.path.now path c.in-Hub.sessions sessions (option_map said_journals c.in-Hub.journal) journal (option_map (λ q. q.now) c.in-Hub.stop_file) stop_file
    (sym (ap seen c.in-Hub.is) ∙ same) (c.run_hub.ensures.unmade none)

pub returns-in-Node-clause-node : goal.returns-in-Node-clause-node
returns-in-Node-clause-node g c path script named =
    let read = c.args.read.now in
    let same = is_asked (asked_in read) read.asked c.in-Ok.asked (node path script) c.in-Ok.is read.ok named in
    let A = g.A.Acceptor in
    let D = g.D.Dialer in
    let C = g.C.Clock in
    let V = g.V.Waiter in
    let F = g.F.Files in
    let before : CommandWorld g.row.L.Denot g.row.W.Denot = record {
      unread = F.faults c.args.outside.now.files;
      beside = record {
        dialled = dialling D.calls D.left D.came D.faults c.args.outside.now.node.dialer;
        door = admitting A.left A.came A.waits c.args.outside.now.parts.acceptor;
        port = A.bound c.args.outside.now.parts.acceptor;
        faults = A.faults c.args.outside.now.parts.acceptor;
        readings = C.readings c.args.outside.now.parts.clock;
        waited = V.waits c.args.outside.now.node.waiter;
        random = c.args.outside.now.node.random;
        written = g.K.Sink.held c.args.outside.now.sink;
      };
    } in
    let after : CommandWorld g.row.L.Denot g.row.W.Denot = record {
      unread = F.faults c.run_node_files.new.files;
      beside = record {
        dialled = dialling D.calls D.left D.came D.faults c.run_node_files.new.parts.dialer;
        door = admitting A.left A.came A.waits c.run_node_files.new.acceptor;
        port = A.bound c.run_node_files.new.acceptor;
        faults = A.faults c.run_node_files.new.acceptor;
        readings = C.readings c.run_node_files.new.clock;
        waited = V.waits c.run_node_files.new.parts.waiter;
        random = c.run_node_files.new.parts.random;
        written = g.K.Sink.held c.run_node_files.new.sink;
      };
    } in
    of_node (λ (p q : Text). RunsFiles g.L.Link.talk (Draws g.W.Words.gives g.W.Words.faults)
    (record {
      settings = GaveFile F.holds F.loads c.args.outside.now.files c.run_node_files.new.files p;
      script = GaveFile F.holds F.loads c.args.outside.now.files c.run_node_files.new.files q;
    }) before after c.run_node_files.result)
    c.in-Node.path.now path c.in-Node.script.now script (sym (ap seen c.in-Node.is) ∙ same) c.run_node_files.ensures.runs

pub returns-in-Node-clause-finished : goal.returns-in-Node-clause-finished
returns-in-Node-clause-finished g c path script named =
    let read = c.args.read.now in
    let same = is_asked (asked_in read) read.asked c.in-Ok.asked (node path script) c.in-Ok.is read.ok named in
    let C = g.C.Clock in
    of_node (λ (p q : Text). c.run_node_files.result ≡ 0 → (o : List ℕ) × GaveFile g.F.Files.holds g.F.Files.loads c.args.outside.now.files c.run_node_files.new.files q o
    × (lines : List Due) × (script_of o ≡ Ok (map wish_of lines)) × FinishCame lines (C.readings c.args.outside.now.parts.clock) (C.readings c.run_node_files.new.clock))
    c.in-Node.path.now path c.in-Node.script.now script (sym (ap seen c.in-Node.is) ∙ same) c.run_node_files.ensures.finished

-- ---- lines as they come

pub returns-in-LiveNode-clause-live_node : goal.returns-in-LiveNode-clause-live_node
returns-in-LiveNode-clause-live_node g c path named =
    let read = c.args.read.now in
    let same = is_asked (asked_in read) read.asked c.in-Ok.asked (live_node path) c.in-Ok.is read.ok named in
    let A = g.A.Acceptor in
    let D = g.D.Dialer in
    let C = g.C.Clock in
    let V = g.V.Waiter in
    let F = g.F.Files in
    let I = g.I.LineInbox in
    let T = g.T.Refusals in
    let before : LiveWorld g.row.L.Denot g.row.W.Denot = record {
      node = record {
        dialled = dialling D.calls D.left D.came D.faults c.args.outside.now.node.dialer;
        door = admitting A.left A.came A.waits c.args.outside.now.parts.acceptor;
        port = A.bound c.args.outside.now.parts.acceptor;
        faults = A.faults c.args.outside.now.parts.acceptor;
        readings = C.readings c.args.outside.now.parts.clock;
        waited = V.waits c.args.outside.now.node.waiter;
        random = c.args.outside.now.node.random;
        written = g.K.Sink.held c.args.outside.now.sink;
      };
      lines = record {
        taken = I.taken c.args.lines.now.lines.inbox;
        answers = c.args.lines.now.answers.items;
        refused = T.told c.args.lines.now.lines.reading.teller;
        failed = g.I.LiveInput.failed c.args.lines.now.lines.inbox;
      };
    } in
    let after : LiveWorld g.row.L.Denot g.row.W.Denot = record {
      node = record {
        dialled = dialling D.calls D.left D.came D.faults c.run_live_file.new.parts.dialer;
        door = admitting A.left A.came A.waits c.run_live_file.new.acceptor;
        port = A.bound c.run_live_file.new.acceptor;
        faults = A.faults c.run_live_file.new.acceptor;
        readings = C.readings c.run_live_file.new.clock;
        waited = V.waits c.run_live_file.new.parts.waiter;
        random = c.run_live_file.new.parts.random;
        written = g.K.Sink.held c.run_live_file.new.sink;
      };
      lines = record {
        taken = I.taken c.run_live_file.new.lines.lines.inbox;
        answers = c.run_live_file.new.lines.answers.items;
        refused = T.told c.run_live_file.new.lines.lines.reading.teller;
        failed = g.I.LiveInput.failed c.run_live_file.new.lines.lines.inbox;
      };
    } in
    of_live_node (λ (p : Text). RunsLive g.L.Link.talk (Draws g.W.Words.gives g.W.Words.faults)
    (GaveFile F.holds F.loads c.args.outside.now.files c.run_live_file.new.files p)
    (F.faults c.args.outside.now.files) (F.faults c.run_live_file.new.files) before after c.run_live_file.result)
    c.in-LiveNode.path.now path (sym (ap seen c.in-LiveNode.is) ∙ same) c.run_live_file.ensures.runs

pub returns-in-LiveNode-clause-live_finished : goal.returns-in-LiveNode-clause-live_finished
returns-in-LiveNode-clause-live_finished g c path named is = c.run_live_file.ensures.finished is

pub returns-in-LiveNode-clause-live_read : goal.returns-in-LiveNode-clause-live_read
returns-in-LiveNode-clause-live_read g c path named =
    let read = c.args.read.now in
    let same = is_asked (asked_in read) read.asked c.in-Ok.asked (live_node path) c.in-Ok.is read.ok named in
    let loads = g.F.Files.loads in
    of_live_node (λ (p : Text). ReadsFirstOf (loads c.args.outside.now.files) (loads c.run_live_file.new.files) (p ∷ []))
    c.in-LiveNode.path.now path (sym (ap seen c.in-LiveNode.is) ∙ same)
    (reads_one (loads c.args.outside.now.files) (loads c.run_live_file.new.files) c.in-LiveNode.path.now [] c.run_live_file.ensures.loaded)

-- ---- which files were read

pub returns-in-Hub-clause-hub_read : goal.returns-in-Hub-clause-hub_read
returns-in-Hub-clause-hub_read g c path sessions journal stop_file named =
    let read = c.args.read.now in
    let same = is_asked (asked_in read) read.asked c.in-Ok.asked (hub path sessions journal stop_file) c.in-Ok.is read.ok named in
    let loads = g.F.Files.loads in
    of_hub (λ (p : Text) (n : Option ℕ) (j : Option JournalsOf) (f : Option Text). ReadsFirstOf (loads c.args.outside.now.files) (loads c.run_hub.new.files) (p ∷ []))
    c.in-Hub.path.now path c.in-Hub.sessions sessions (option_map said_journals c.in-Hub.journal) journal (option_map (λ q. q.now) c.in-Hub.stop_file) stop_file (sym (ap seen c.in-Hub.is) ∙ same)
    (reads_one (loads c.args.outside.now.files) (loads c.run_hub.new.files) c.in-Hub.path.now [] c.run_hub.ensures.once)

pub returns-in-Node-clause-node_read : goal.returns-in-Node-clause-node_read
returns-in-Node-clause-node_read g c path script named =
    let read = c.args.read.now in
    let same = is_asked (asked_in read) read.asked c.in-Ok.asked (node path script) c.in-Ok.is read.ok named in
    let loads = g.F.Files.loads in
    of_node (λ (p q : Text). ReadsFirstOf (loads c.args.outside.now.files) (loads c.run_node_files.new.files) (p ∷ q ∷ []))
    c.in-Node.path.now path c.in-Node.script.now script (sym (ap seen c.in-Node.is) ∙ same) c.run_node_files.ensures.loaded

-- ---- settings that are tried

pub returns-in-TestHub-clause-hub_tested : goal.returns-in-TestHub-clause-hub_tested
returns-in-TestHub-clause-hub_tested g c path named =
    let read = c.args.read.now in
    let same = is_asked (asked_in read) read.asked c.in-Ok.asked (test_hub path) c.in-Ok.is read.ok named in
    let F = g.F.Files in
    let K = g.K.Sink in
    of_test_hub (λ (p : Text). TestsHub (GaveFile F.holds F.loads c.args.outside.now.files c.test_hub.new.files p) (F.faults c.args.outside.now.files) (F.faults c.test_hub.new.files)
    c.test_hub.result (K.held c.args.outside.now.sink) (K.held c.test_hub.new.sink))
    c.in-TestHub.path.now path (sym (ap seen c.in-TestHub.is) ∙ same) c.test_hub.ensures.tested

pub returns-in-TestHub-clause-hub_test_read : goal.returns-in-TestHub-clause-hub_test_read
returns-in-TestHub-clause-hub_test_read g c path named =
    let read = c.args.read.now in
    let same = is_asked (asked_in read) read.asked c.in-Ok.asked (test_hub path) c.in-Ok.is read.ok named in
    let loads = g.F.Files.loads in
    of_test_hub (λ (p : Text). ReadsFirstOf (loads c.args.outside.now.files) (loads c.test_hub.new.files) (p ∷ []))
    c.in-TestHub.path.now path (sym (ap seen c.in-TestHub.is) ∙ same)
    (reads_one (loads c.args.outside.now.files) (loads c.test_hub.new.files) c.in-TestHub.path.now [] c.test_hub.ensures.once)

pub returns-in-TestNode-clause-node_tested : goal.returns-in-TestNode-clause-node_tested
returns-in-TestNode-clause-node_tested g c path script named =
    let read = c.args.read.now in
    let same = is_asked (asked_in read) read.asked c.in-Ok.asked (test_node path script) c.in-Ok.is read.ok named in
    let F = g.F.Files in
    let K = g.K.Sink in
    let before : TestWorld = record { unread = F.faults c.args.outside.now.files; written = K.held c.args.outside.now.sink } in
    let after : TestWorld = record { unread = F.faults c.test_node.new.files; written = K.held c.test_node.new.sink } in
    of_test_node (λ (p q : Text). TestsNode (record {
      settings = GaveFile F.holds F.loads c.args.outside.now.files c.test_node.new.files p;
      script = GaveFile F.holds F.loads c.args.outside.now.files c.test_node.new.files q;
    }) before after c.test_node.result)
    c.in-TestNode.path.now path c.in-TestNode.script.now script (sym (ap seen c.in-TestNode.is) ∙ same) c.test_node.ensures.tested

pub returns-in-TestNode-clause-node_test_read : goal.returns-in-TestNode-clause-node_test_read
returns-in-TestNode-clause-node_test_read g c path script named =
    let read = c.args.read.now in
    let same = is_asked (asked_in read) read.asked c.in-Ok.asked (test_node path script) c.in-Ok.is read.ok named in
    let loads = g.F.Files.loads in
    of_test_node (λ (p q : Text). ReadsFirstOf (loads c.args.outside.now.files) (loads c.test_node.new.files) (p ∷ q ∷ []))
    c.in-TestNode.path.now path c.in-TestNode.script.now script (sym (ap seen c.in-TestNode.is) ∙ same) c.test_node.ensures.loaded

-- ---- what was sent in a network

pub returns-in-Simulate-clause-delivered : goal.returns-in-Simulate-clause-delivered
returns-in-Simulate-clause-delivered g c o t named left held =
    let play = c.play-in-Simulate in
    writes_what_was_sent play.result o t (g.S.Source.left play.new.source) (g.K.Sink.held play.new.sink)
    (g.S.Source.faults c.args.outside.now.source) (g.S.Source.faults play.new.source) (play.ensures.played o t left held)

pub returns-in-Simulate-clause-delivered_reads : goal.returns-in-Simulate-clause-delivered_reads
returns-in-Simulate-clause-delivered_reads g c t named held =
    let play = c.play-in-Simulate in
    reads_write_what_was_sent play.result t (g.S.Source.reads c.args.outside.now.source) (g.S.Source.reads play.new.source) (g.K.Sink.held play.new.sink)
    (g.S.Source.faults c.args.outside.now.source) (g.S.Source.faults play.new.source) (play.ensures.took t held)

-- ---- what they ask for wasn't read

pub returns-in-Err-clause-replayed : goal.returns-in-Err-clause-replayed
returns-in-Err-clause-replayed g c named o t left held =
    let none = λ (e : c.in-Err.fault ≡ Refused). c.args.read.now.refused (c.in-Err.is ∙ ap Err e) in
    let out = ran_out c.in-Err.fault (asked_in c.args.read.now) replay c.end_unasked.result
    (g.K.Sink.held c.args.outside.now.sink) (g.K.Sink.held c.end_unasked.new.sink) none c.end_unasked.ensures.ran_out named in
    unread replay_of c.end_unasked.result o t (g.S.Source.left c.args.outside.now.source) (g.K.Sink.held c.args.outside.now.sink) (g.K.Sink.held c.end_unasked.new.sink)
    (g.S.Source.faults c.args.outside.now.source) (g.S.Source.faults c.args.outside.now.source) left held out

pub returns-in-Err-clause-simulated : goal.returns-in-Err-clause-simulated
returns-in-Err-clause-simulated g c named o t left held =
    let none = λ (e : c.in-Err.fault ≡ Refused). c.args.read.now.refused (c.in-Err.is ∙ ap Err e) in
    let out = ran_out c.in-Err.fault (asked_in c.args.read.now) simulate c.end_unasked.result
    (g.K.Sink.held c.args.outside.now.sink) (g.K.Sink.held c.end_unasked.new.sink) none c.end_unasked.ensures.ran_out named in
    unread simulate_of c.end_unasked.result o t (g.S.Source.left c.args.outside.now.source) (g.K.Sink.held c.args.outside.now.sink) (g.K.Sink.held c.end_unasked.new.sink)
    (g.S.Source.faults c.args.outside.now.source) (g.S.Source.faults c.args.outside.now.source) left held out

pub returns-in-Err-clause-delivered : goal.returns-in-Err-clause-delivered
returns-in-Err-clause-delivered g c o t named left held =
    let none = λ (e : c.in-Err.fault ≡ Refused). c.args.read.now.refused (c.in-Err.is ∙ ap Err e) in
    let out = ran_out c.in-Err.fault (asked_in c.args.read.now) simulate c.end_unasked.result
    (g.K.Sink.held c.args.outside.now.sink) (g.K.Sink.held c.end_unasked.new.sink) none c.end_unasked.ensures.ran_out named in
    writes_what_was_sent c.end_unasked.result o t (g.S.Source.left c.args.outside.now.source) (g.K.Sink.held c.end_unasked.new.sink)
    (g.S.Source.faults c.args.outside.now.source) (g.S.Source.faults c.args.outside.now.source)
    (unread simulate_of c.end_unasked.result o t (g.S.Source.left c.args.outside.now.source) (g.K.Sink.held c.args.outside.now.sink) (g.K.Sink.held c.end_unasked.new.sink)
    (g.S.Source.faults c.args.outside.now.source) (g.S.Source.faults c.args.outside.now.source) left held out)

pub returns-in-Err-clause-checked : goal.returns-in-Err-clause-checked
returns-in-Err-clause-checked g c named o t left held =
    let none = λ (e : c.in-Err.fault ≡ Refused). c.args.read.now.refused (c.in-Err.is ∙ ap Err e) in
    let out = ran_out c.in-Err.fault (asked_in c.args.read.now) check c.end_unasked.result
    (g.K.Sink.held c.args.outside.now.sink) (g.K.Sink.held c.end_unasked.new.sink) none c.end_unasked.ensures.ran_out named in
    unread check_of c.end_unasked.result o t (g.S.Source.left c.args.outside.now.source) (g.K.Sink.held c.args.outside.now.sink) (g.K.Sink.held c.end_unasked.new.sink)
    (g.S.Source.faults c.args.outside.now.source) (g.S.Source.faults c.args.outside.now.source) left held out

pub returns-in-Err-clause-audited : goal.returns-in-Err-clause-audited
returns-in-Err-clause-audited g c o named left =
    let none = λ (e : c.in-Err.fault ≡ Refused). c.args.read.now.refused (c.in-Err.is ∙ ap Err e) in
    unaudited c.end_unasked.result o (g.S.Source.left c.args.outside.now.source) (g.K.Sink.held c.args.outside.now.sink) (g.K.Sink.held c.end_unasked.new.sink)
    (ran_out c.in-Err.fault (asked_in c.args.read.now) audit c.end_unasked.result
    (g.K.Sink.held c.args.outside.now.sink) (g.K.Sink.held c.end_unasked.new.sink) none c.end_unasked.ensures.ran_out named)

pub returns-in-Err-clause-finished : goal.returns-in-Err-clause-finished
returns-in-Err-clause-finished g c path script named is =
    let none = λ (e : c.in-Err.fault ≡ Refused). c.args.read.now.refused (c.in-Err.is ∙ ap Err e) in
    let out = ran_out c.in-Err.fault (asked_in c.args.read.now) (node path script) c.end_unasked.result
    (g.K.Sink.held c.args.outside.now.sink) (g.K.Sink.held c.end_unasked.new.sink) none c.end_unasked.ensures.ran_out named in
    absurd (omega (arith, out.0, is))

pub returns-in-Err-clause-replayed_reads : goal.returns-in-Err-clause-replayed_reads
returns-in-Err-clause-replayed_reads g c named t held =
    let none = λ (e : c.in-Err.fault ≡ Refused). c.args.read.now.refused (c.in-Err.is ∙ ap Err e) in
    let out = ran_out c.in-Err.fault (asked_in c.args.read.now) replay c.end_unasked.result
    (g.K.Sink.held c.args.outside.now.sink) (g.K.Sink.held c.end_unasked.new.sink) none c.end_unasked.ensures.ran_out named in
    unread_of_reads replay_of c.end_unasked.result t (g.S.Source.reads c.args.outside.now.source) (g.K.Sink.held c.args.outside.now.sink) (g.K.Sink.held c.end_unasked.new.sink)
    (g.S.Source.faults c.args.outside.now.source) (g.S.Source.faults c.args.outside.now.source) held out

pub returns-in-Err-clause-simulated_reads : goal.returns-in-Err-clause-simulated_reads
returns-in-Err-clause-simulated_reads g c named t held =
    let none = λ (e : c.in-Err.fault ≡ Refused). c.args.read.now.refused (c.in-Err.is ∙ ap Err e) in
    let out = ran_out c.in-Err.fault (asked_in c.args.read.now) simulate c.end_unasked.result
    (g.K.Sink.held c.args.outside.now.sink) (g.K.Sink.held c.end_unasked.new.sink) none c.end_unasked.ensures.ran_out named in
    unread_of_reads simulate_of c.end_unasked.result t (g.S.Source.reads c.args.outside.now.source) (g.K.Sink.held c.args.outside.now.sink) (g.K.Sink.held c.end_unasked.new.sink)
    (g.S.Source.faults c.args.outside.now.source) (g.S.Source.faults c.args.outside.now.source) held out

pub returns-in-Err-clause-checked_reads : goal.returns-in-Err-clause-checked_reads
returns-in-Err-clause-checked_reads g c named t held =
    let none = λ (e : c.in-Err.fault ≡ Refused). c.args.read.now.refused (c.in-Err.is ∙ ap Err e) in
    let out = ran_out c.in-Err.fault (asked_in c.args.read.now) check c.end_unasked.result
    (g.K.Sink.held c.args.outside.now.sink) (g.K.Sink.held c.end_unasked.new.sink) none c.end_unasked.ensures.ran_out named in
    unread_of_reads check_of c.end_unasked.result t (g.S.Source.reads c.args.outside.now.source) (g.K.Sink.held c.args.outside.now.sink) (g.K.Sink.held c.end_unasked.new.sink)
    (g.S.Source.faults c.args.outside.now.source) (g.S.Source.faults c.args.outside.now.source) held out

pub returns-in-Err-clause-delivered_reads : goal.returns-in-Err-clause-delivered_reads
returns-in-Err-clause-delivered_reads g c t named held =
    let none = λ (e : c.in-Err.fault ≡ Refused). c.args.read.now.refused (c.in-Err.is ∙ ap Err e) in
    let out = ran_out c.in-Err.fault (asked_in c.args.read.now) simulate c.end_unasked.result
    (g.K.Sink.held c.args.outside.now.sink) (g.K.Sink.held c.end_unasked.new.sink) none c.end_unasked.ensures.ran_out named in
    reads_write_what_was_sent c.end_unasked.result t (g.S.Source.reads c.args.outside.now.source) (g.S.Source.reads c.args.outside.now.source) (g.K.Sink.held c.end_unasked.new.sink)
    (g.S.Source.faults c.args.outside.now.source) (g.S.Source.faults c.args.outside.now.source)
    (unread_of_reads simulate_of c.end_unasked.result t (g.S.Source.reads c.args.outside.now.source) (g.K.Sink.held c.args.outside.now.sink) (g.K.Sink.held c.end_unasked.new.sink)
    (g.S.Source.faults c.args.outside.now.source) (g.S.Source.faults c.args.outside.now.source) held out)

pub returns-in-Err-clause-audited_reads : goal.returns-in-Err-clause-audited_reads
returns-in-Err-clause-audited_reads g c named =
    let none = λ (e : c.in-Err.fault ≡ Refused). c.args.read.now.refused (c.in-Err.is ∙ ap Err e) in
    unaudited_of_reads c.end_unasked.result (g.S.Source.reads c.args.outside.now.source) (g.K.Sink.held c.args.outside.now.sink) (g.K.Sink.held c.end_unasked.new.sink)
    (ran_out c.in-Err.fault (asked_in c.args.read.now) audit c.end_unasked.result
    (g.K.Sink.held c.args.outside.now.sink) (g.K.Sink.held c.end_unasked.new.sink) none c.end_unasked.ensures.ran_out named)

pub returns-in-Err-clause-live_node : goal.returns-in-Err-clause-live_node
returns-in-Err-clause-live_node g c path named =
    let none = λ (e : c.in-Err.fault ≡ Refused). c.args.read.now.refused (c.in-Err.is ∙ ap Err e) in
    inl (
      refl,
      refl,
      inl (inr (ran_out c.in-Err.fault (asked_in c.args.read.now) (live_node path) c.end_unasked.result
          (g.K.Sink.held c.args.outside.now.sink) (g.K.Sink.held c.end_unasked.new.sink) none c.end_unasked.ensures.ran_out named)),
    )

pub returns-in-Err-clause-live_finished : goal.returns-in-Err-clause-live_finished
returns-in-Err-clause-live_finished g c path named is =
    let none = λ (e : c.in-Err.fault ≡ Refused). c.args.read.now.refused (c.in-Err.is ∙ ap Err e) in
    let out = ran_out c.in-Err.fault (asked_in c.args.read.now) (live_node path) c.end_unasked.result
    (g.K.Sink.held c.args.outside.now.sink) (g.K.Sink.held c.end_unasked.new.sink) none c.end_unasked.ensures.ran_out named in
    absurd (omega (arith, out.0, is))

pub returns-in-Err-clause-live_read : goal.returns-in-Err-clause-live_read
returns-in-Err-clause-live_read g c path named = reads_none (g.F.Files.loads c.args.outside.now.files) (path ∷ [])

pub returns-in-Err-clause-hub_read : goal.returns-in-Err-clause-hub_read
returns-in-Err-clause-hub_read g c path sessions journal stop_file named = reads_none (g.F.Files.loads c.args.outside.now.files) (path ∷ [])

pub returns-in-Err-clause-node_read : goal.returns-in-Err-clause-node_read
returns-in-Err-clause-node_read g c path script named = reads_none (g.F.Files.loads c.args.outside.now.files) (path ∷ script ∷ [])

pub returns-in-Err-clause-hub_tested : goal.returns-in-Err-clause-hub_tested
returns-in-Err-clause-hub_tested g c path named =
    let none = λ (e : c.in-Err.fault ≡ Refused). c.args.read.now.refused (c.in-Err.is ∙ ap Err e) in
    inl (inr (inr (ran_out c.in-Err.fault (asked_in c.args.read.now) (test_hub path) c.end_unasked.result
    (g.K.Sink.held c.args.outside.now.sink) (g.K.Sink.held c.end_unasked.new.sink) none c.end_unasked.ensures.ran_out named)))

pub returns-in-Err-clause-node_tested : goal.returns-in-Err-clause-node_tested
returns-in-Err-clause-node_tested g c path script named =
    let none = λ (e : c.in-Err.fault ≡ Refused). c.args.read.now.refused (c.in-Err.is ∙ ap Err e) in
    inl (inl (inr (ran_out c.in-Err.fault (asked_in c.args.read.now) (test_node path script) c.end_unasked.result
    (g.K.Sink.held c.args.outside.now.sink) (g.K.Sink.held c.end_unasked.new.sink) none c.end_unasked.ensures.ran_out named)))

pub returns-in-Err-clause-hub_test_read : goal.returns-in-Err-clause-hub_test_read
returns-in-Err-clause-hub_test_read g c path named = reads_none (g.F.Files.loads c.args.outside.now.files) (path ∷ [])

pub returns-in-Err-clause-node_test_read : goal.returns-in-Err-clause-node_test_read
returns-in-Err-clause-node_test_read g c path script named = reads_none (g.F.Files.loads c.args.outside.now.files) (path ∷ script ∷ [])

pub returns-in-Err-clause-no_hub : goal.returns-in-Err-clause-no_hub
returns-in-Err-clause-no_hub g c path sessions journal stop_file named empty =
    let none = λ (e : c.in-Err.fault ≡ Refused). c.args.read.now.refused (c.in-Err.is ∙ ap Err e) in
    inr (inr (ran_out c.in-Err.fault (asked_in c.args.read.now) (hub path sessions journal stop_file) c.end_unasked.result
    (g.K.Sink.held c.args.outside.now.sink) (g.K.Sink.held c.end_unasked.new.sink) none c.end_unasked.ensures.ran_out named))

pub returns-in-Err-clause-node : goal.returns-in-Err-clause-node
returns-in-Err-clause-node g c path script named =
    let none = λ (e : c.in-Err.fault ≡ Refused). c.args.read.now.refused (c.in-Err.is ∙ ap Err e) in
    inl (
      refl,
      inl (inr (ran_out c.in-Err.fault (asked_in c.args.read.now) (node path script) c.end_unasked.result
          (g.K.Sink.held c.args.outside.now.sink) (g.K.Sink.held c.end_unasked.new.sink) none c.end_unasked.ensures.ran_out named)),
    )

pub returns-in-Err-clause-no_load : goal.returns-in-Err-clause-no_load
returns-in-Err-clause-no_load g c n named empty =
    let none = λ (e : c.in-Err.fault ≡ Refused). c.args.read.now.refused (c.in-Err.is ∙ ap Err e) in
    ran_out c.in-Err.fault (asked_in c.args.read.now) (load n) c.end_unasked.result
    (g.K.Sink.held c.args.outside.now.sink) (g.K.Sink.held c.end_unasked.new.sink) none c.end_unasked.ensures.ran_out named
