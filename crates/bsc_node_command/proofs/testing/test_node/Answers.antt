use Rattle.std.proofs.Common.{List, ℕ, [], ◌∷◌, Option, inl, inr, subst}
use Rattle.bsc_edge.specs.Asked.{GaveFile}
use Rattle.bsc_edge.proofs.Reading.{gave_before, gave_behind, reads_both, reads_one}
use Rattle.bsc_node_command.specs.Tested.{TestWorld, TestsScript}
use Rattle.bsc_node_command.proofs.Later.{settled_more, tests_from, tests_more}
use Rattle.bsc_node_command.proofs.testing.test_node.Goals as goal

pub returns-in-Ok-clause-tested : goal.returns-in-Ok-clause-tested
returns-in-Ok-clause-tested g c =
    let F = g.F.Files in
    let K = g.K.Sink in
    let path = c.args.words.script.now in
    let settings = c.args.words.path.now in
    let v = c.in-Ok.settings in
    let old = c.args.files.now in
    let mid = c.load_settings.new.files in
    let new = c.test_script.new.files in
    let s = c.test_script.result in
    let before : Option (List ℕ) → TestWorld = λ (t : Option (List ℕ)). record { unread = F.faults mid; written = t } in
    let after : TestWorld = record { unread = F.faults new; written = K.held c.test_script.new.sink } in
    let tried = subst (λ (t : Option (List ℕ)). TestsScript v (GaveFile F.holds F.loads mid new path) (before t) after s)
    c.in-Ok.ensures.settled.1 c.test_script.ensures.tested in
    let held = tests_more v (GaveFile F.holds F.loads mid new path) (GaveFile F.holds F.loads old new path) (before (K.held c.args.sink.now)) after s
    (λ o gave. gave_behind F.holds F.loads old mid new path settings o c.load_settings.ensures.once c.load_settings.ensures.stays gave) tried in
    inr (
      v,
      settled_more v (GaveFile F.holds F.loads old mid settings) (GaveFile F.holds F.loads old new settings)
          (λ o gave. gave_before F.holds F.loads old mid new settings path o gave c.test_script.ensures.once) c.in-Ok.ensures.settled.0,
      tests_from v (GaveFile F.holds F.loads old new path) (F.faults old) (before (K.held c.args.sink.now)) after s c.load_settings.ensures.reads_later held,
    )

pub returns-in-Err-clause-tested : goal.returns-in-Err-clause-tested
returns-in-Err-clause-tested g c = inl c.in-Err.ensures.unsettled

-- ---- which files were read

pub returns-in-Ok-clause-loaded : goal.returns-in-Ok-clause-loaded
returns-in-Ok-clause-loaded g c =
    let loads = g.F.Files.loads in
    reads_both (loads c.args.files.now) (loads c.load_settings.new.files)
    (loads c.test_script.new.files) c.args.words.path.now c.args.words.script.now c.load_settings.ensures.once c.test_script.ensures.once

pub returns-in-Err-clause-loaded : goal.returns-in-Err-clause-loaded
returns-in-Err-clause-loaded g c =
    let loads = g.F.Files.loads in
    reads_one (loads c.args.files.now) (loads c.load_settings.new.files) c.args.words.path.now (c.args.words.script.now ∷ []) c.load_settings.ensures.once
