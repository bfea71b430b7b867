use Rattle.std.proofs.Common.{◌≤◌, ◌∙◌, ap, length, List, ℕ, arith}
use Rattle.bsc_policy.specs.Tables.{classes_of}
use Rattle.bsc_policy.proofs.Filed.{filed_all, filed_more}
use Rattle.bsc_policy.proofs.directory.Directory.make.Goals as goal

pub loop-member-preserved : goal.loop-member-preserved
loop-member-preserved c =
    let are = c.classes-classes.ensures ∙ ap (λ (g : List ℕ). classes_of c.args.names.now g) c.as_slice.ensures in
    filed_more c.args.members.now c.loop-member.member-index c.member-item.result c.args.names.now c.loop-member.filed c.file.new.filed c.classes-classes.result c.loop-member-test.true
    c.member-item.is
    are c.in_ok-file.ensures c.loop-member.invariant

pub returns : goal.returns
returns c =
    let past = c.loop-member-test.false in
    let all : length c.args.members.now ≤ c.loop-member.member-index = omega arith in
    filed_all c.args.members.now c.loop-member.member-index c.args.names.now c.loop-member.filed all c.loop-member.invariant
