use Rattle.std.proofs.Common.{List, ℕ, Option, inl, subst, sym}
use Rattle.bsc_edge.specs.Asked.{GaveFile}
use Rattle.bsc_hub_command.specs.Tested.{TestsHub}
use Rattle.bsc_hub_command.proofs.Loading.{tested_in}
use Rattle.bsc_hub_command.proofs.testing.test_hub.Goals as goal

pub returns-in-Ok-clause-tested : goal.returns-in-Ok-clause-tested
returns-in-Ok-clause-tested g c =
    let F = g.F.Files in
    let K = g.K.Sink in
    let Gave : List ℕ → Type 0 = GaveFile F.holds F.loads c.args.files.now c.load_text.new.files c.args.path.now in
    let held = subst (λ (o : List ℕ). Gave o) (sym c.as_slice.ensures) c.in-Ok.ensures.gave.0 in
    let f = F.faults c.args.files.now in
    let f' = F.faults c.load_text.new.files in
    let after = K.held c.test_text.new.sink in
    subst (λ (t : Option (List ℕ)). TestsHub Gave f f' c.test_text.result t after) c.in-Ok.ensures.gave.1
    (tested_in Gave c.as_slice.result.now f f' c.test_text.result (K.held c.load_text.new.sink) after held (c.test_text.ensures.tested f f'))

pub returns-in-Err-clause-tested : goal.returns-in-Err-clause-tested
returns-in-Err-clause-tested g c = inl c.in-Err.ensures.unread
