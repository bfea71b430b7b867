use Rattle.std.proofs.Common.{◌≡◌, true}
use Rattle.bsc_log.specs.Courses.{may_join}
use Rattle.bsc_log.proofs.Naks.{told_where_found}
use Rattle.bsc_log.proofs.link_log.nak_at.Goals as goal

pub returns-then-may_join : goal.returns-then-may_join
returns-then-may_join c =
    let joins : may_join c.args.course.now.stage ≡ true = cc (c.may_join.ensures, c.if-may_join.true) in
    told_where_found c.args.course.now.stage c.args.m.now c.nak_in.result joins c.nak_in.ensures.found c.nak_in.ensures.none
