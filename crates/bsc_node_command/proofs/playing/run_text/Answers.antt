use Rattle.std.proofs.Common.{List, map, Ok, inl, inr, refl, sym, ap, ◌∙◌, rules}
use Rattle.bsc_edge.proofs.Common.{stays_same}
use Rattle.bsc_node_run.specs.declared.due.Due.{Due}
use Rattle.bsc_node_run.specs.Scripts.{wish_of}
use Rattle.bsc_node_command.proofs.playing.run_text.Goals as goal

pub returns-in-Ok-clause-comes : goal.returns-in-Ok-clause-comes
returns-in-Ok-clause-comes g c = c.run_lines.ensures.comes c.args.script.now (c.in-Ok.ensures.read ∙ ap (λ (x : List Due). Ok (map wish_of x)) (sym c.as_slice.ensures))

pub returns-in-Err-BadLine-clause-comes : goal.returns-in-Err-BadLine-clause-comes
returns-in-Err-BadLine-clause-comes g c =
    inl (
      record {
        dialled = refl;
        door = (
          stays_same (g.A.Acceptor.left c.args.acceptor.now),
          stays_same (g.A.Acceptor.came c.args.acceptor.now),
          stays_same (g.A.Acceptor.waits c.args.acceptor.now),
        );
        readings = refl;
        waited = refl;
        random = refl;
      },
      inl (c.in-Err-BadLine.line, c.read_script.ensures.refused c.in-Err-BadLine.line (search rules), stays_same (g.A.Acceptor.bound c.args.acceptor.now), c.end_play.ensures.ends),
    )

pub returns-in-Err-NoMemory-clause-comes : goal.returns-in-Err-NoMemory-clause-comes
returns-in-Err-NoMemory-clause-comes g c =
    inl (
      record {
        dialled = refl;
        door = (
          stays_same (g.A.Acceptor.left c.args.acceptor.now),
          stays_same (g.A.Acceptor.came c.args.acceptor.now),
          stays_same (g.A.Acceptor.waits c.args.acceptor.now),
        );
        readings = refl;
        waited = refl;
        random = refl;
      },
      inr (inr (inl (stays_same (g.A.Acceptor.bound c.args.acceptor.now)), (c.out_of_memory.ensures.status, c.out_of_memory.ensures.tried))),
    )
