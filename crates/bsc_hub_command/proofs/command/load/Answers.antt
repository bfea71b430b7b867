use Rattle.std.proofs.Common.{List, ℕ, subst, sym}
use Rattle.bsc_edge.specs.Asked.{GaveFile}
use Rattle.bsc_hub_command.proofs.Loading.{settled_from, unsettled_from}
use Rattle.bsc_hub_command.proofs.command.load.Goals as goal

pub returns-in-Ok-clause-settled : goal.returns-in-Ok-clause-settled
returns-in-Ok-clause-settled g c =
    let F = g.F.Files in
    let K = g.K.Sink in
    let Gave : List ℕ → Type 0 = GaveFile F.holds F.loads c.args.files.now c.load_text.new.files c.args.path.now in
    let held = subst (λ (o : List ℕ). Gave o) (sym c.as_slice.ensures) c.in-Ok.ensures.gave.0 in
    settled_from c.settle.result Gave c.as_slice.result.now (K.held c.args.sink.now) (K.held c.load_text.new.sink) (K.held c.settle.new.sink) held
    c.in-Ok.ensures.gave.1 c.settle.ensures.settled

pub returns-in-Ok-clause-unsettled : goal.returns-in-Ok-clause-unsettled
returns-in-Ok-clause-unsettled g c =
    let F = g.F.Files in
    let K = g.K.Sink in
    let Gave : List ℕ → Type 0 = GaveFile F.holds F.loads c.args.files.now c.load_text.new.files c.args.path.now in
    let held = subst (λ (o : List ℕ). Gave o) (sym c.as_slice.ensures) c.in-Ok.ensures.gave.0 in
    unsettled_from c.settle.result Gave c.as_slice.result.now (F.faults c.args.files.now) (F.faults c.load_text.new.files)
    (K.held c.args.sink.now) (K.held c.load_text.new.sink) (K.held c.settle.new.sink) held
    c.in-Ok.ensures.gave.1 (c.settle.ensures.unsettled (F.faults c.args.files.now) (F.faults c.load_text.new.files))
