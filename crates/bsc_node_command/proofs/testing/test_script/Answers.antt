use Rattle.std.proofs.Common.{List, ℕ, Option, inl, inr, subst, sym}
use Rattle.bsc_edge.specs.Asked.{GaveFile}
use Rattle.bsc_node_command.specs.Tested.{TestsText}
use Rattle.bsc_node_command.proofs.testing.test_script.Goals as goal

pub returns-in-Ok-clause-tested : goal.returns-in-Ok-clause-tested
returns-in-Ok-clause-tested g c =
    let F = g.F.Files in
    let K = g.K.Sink in
    let held = subst (λ (o : List ℕ). GaveFile F.holds F.loads c.args.files.now c.load.new.files c.args.path.now o) (sym c.as_slice.ensures) c.in-Ok.ensures.given.0 in
    inr (
      c.as_slice.result.now,
      held,
      subst (λ (t : Option (List ℕ)). TestsText c.args.here.settings.now c.as_slice.result.now (record { unread = F.faults c.args.files.now; written = t })
          (record { unread = F.faults c.load.new.files; written = K.held c.test_text.new.sink }) c.test_text.result)
          c.in-Ok.ensures.given.1 (c.test_text.ensures.tested (F.faults c.args.files.now) (F.faults c.load.new.files)),
    )

pub returns-in-Err-clause-tested : goal.returns-in-Err-clause-tested
returns-in-Err-clause-tested g c = inl c.in-Err.ensures.unread
