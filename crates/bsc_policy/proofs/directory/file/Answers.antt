use Rattle.std.proofs.Common.{sym, ◌∙◌}
use Rattle.bsc_policy.proofs.Filed.{filed_kept, filed_now}
use Rattle.bsc_policy.proofs.directory.file.Goals as goal

pub returns-then-contains_key : goal.returns-then-contains_key
returns-then-contains_key c = filed_kept c.args.filed.now c.args.v c.args.classes (sym c.contains_key.ensures ∙ c.if-contains_key.true)

pub returns : goal.returns
returns c = filed_now c.args.filed.now c.insert.new.self c.args.v c.args.classes (sym c.contains_key.ensures ∙ c.if-contains_key.false) (λ v. c.in_ok-insert.ensures.updates.0 (record { 0 = v.0 }))
