use Rattle.std.proofs.Common.{Ok, Err, Some, refl, rules}
use Rattle.bsc_edge.specs.declared.fault.LinkFault.TheVariants.{Failed, NoMemory}
use Rattle.bsc_node_run.specs.Worlds.{dialling, with_link, world_of}
use Rattle.bsc_node_run.proofs.Worlds.{same, same_then}
use Rattle.bsc_node_run.proofs.Acting.{dials_ok, dials_failed}
use Rattle.bsc_node_run.proofs.performing.dial.Goals as goal
use Rattle.std.proofs.lemmas.Result.{on_err_weaker as on_err, on_ok_weaker as on_ok}

pub returns-in-Ok-clause-dials : goal.returns-in-Ok-clause-dials
returns-in-Ok-clause-dials g c =
    let D = g.D.Dialer in
    let before = dialling D.calls D.left D.came D.faults c.args.dialer.now in
    let after = dialling D.calls D.left D.came D.faults c.dial.new.self in
    on_ok c.note.result
    (λ k h. dials_ok c.args.name c.args.uri.now (world_of c.args.set.now before h) (world_of c.replace.new.self after h) (world_of c.note.new.self after h) c.in-Ok.link
    (rw c.kind_of.ensures at c.in-Ok.ensures.told) (c.in-Ok.ensures.left, c.in-Ok.ensures.came, c.dial.ensures.later) (c.replace.ensures.new after h) (k after h))
    c.note.ensures.news

pub returns-in-Err-Failed-clause-dials : goal.returns-in-Err-Failed-clause-dials
returns-in-Err-Failed-clause-dials g c =
    let D = g.D.Dialer in
    let before = dialling D.calls D.left D.came D.faults c.args.dialer.now in
    let after = dialling D.calls D.left D.came D.faults c.dial.new.self in
    on_ok c.note-in-Err-Failed.result
    (λ k h. dials_failed c.args.name c.args.uri.now (world_of c.args.set.now before h) (world_of c.note-in-Err-Failed.new.self after h)
    (rw c.kind_of.ensures at c.in-Err-Failed.ensures.told) (rw c.in-Err-Failed.field-0-is at c.in-Err-Failed.ensures.left, c.in-Err-Failed.ensures.came, c.dial.ensures.failed (search rules))
    (k after h))
    c.note-in-Err-Failed.ensures.news

pub returns-in-Ok-clause-part : goal.returns-in-Ok-clause-part
returns-in-Ok-clause-part g c =
    let D = g.D.Dialer in
    let after = dialling D.calls D.left D.came D.faults c.dial.new.self in
    on_err c.note.result
    (λ k h. (
      Ok c.in-Ok.link,
      rw c.kind_of.ensures at c.in-Ok.ensures.told,
      c.in-Ok.ensures.left,
      c.in-Ok.ensures.came,
      refl,
      same_then (world_of c.note.new.self after h) (world_of c.replace.new.self after h) (with_link c.args.name (Some c.in-Ok.link) (world_of c.args.set.now after h)) (k after h)
          (c.replace.ensures.new after h),
    ))
    c.note.ensures.missed

pub returns-in-Err-Failed-clause-part : goal.returns-in-Err-Failed-clause-part
returns-in-Err-Failed-clause-part g c =
    let D = g.D.Dialer in
    let after = dialling D.calls D.left D.came D.faults c.dial.new.self in
    on_err c.note-in-Err-Failed.result
    (λ k h. (Err Failed, rw c.kind_of.ensures at c.in-Err-Failed.ensures.told, rw c.in-Err-Failed.field-0-is at c.in-Err-Failed.ensures.left, c.in-Err-Failed.ensures.came, refl, k after h))
    c.note-in-Err-Failed.ensures.missed

pub returns-in-Err-NoMemory-clause-part : goal.returns-in-Err-NoMemory-clause-part
returns-in-Err-NoMemory-clause-part g c h =
    let D = g.D.Dialer in
    let after = dialling D.calls D.left D.came D.faults c.dial.new.self in (
      Err NoMemory,
      rw c.kind_of.ensures at c.in-Err-NoMemory.ensures.told,
      rw c.in-Err-NoMemory.field-0-is at c.in-Err-NoMemory.ensures.left,
      c.in-Err-NoMemory.ensures.came,
      refl,
      same (world_of c.args.set.now after h),
    )
