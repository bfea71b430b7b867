use Rattle.std.proofs.Common.{◌≡◌, inl, ◌∙◌}
use Rattle.bsc_player.specs.LastLines.{script_line}
use Rattle.bsc_player.proofs.last_lines.refuse_line.Goals as goal

pub returns-in-Ok-clause-ends : goal.returns-in-Ok-clause-ends
returns-in-Ok-clause-ends g c =
    let line : c.as_bytes.result.now ≡ script_line c.args.line = c.as_bytes.ensures.value ∙ c.in-Ok.ensures in
    inl (rw line at c.end_with.ensures.ends)
