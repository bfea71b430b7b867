use Rattle.std.proofs.Common.{Err, ap, inl, inr, refl, subst, sym, ◌∙◌}
use Rattle.std.specs.Io.KnownBytes.{Appends}
use Rattle.bsc_history.specs.declared.limits.About.{About}
use Rattle.bsc_outside.specs.Faults.{PutsPrefix}
use Rattle.bsc_hub_command.specs.HubLines.{hub_line}
use Rattle.bsc_hub_command.proofs.Binding.{later_so, says_lost}
use Rattle.bsc_hub_command.proofs.serving.serve_titled.Goals as goal

pub returns-in-Ok-clause-went : goal.returns-in-Ok-clause-went
returns-in-Ok-clause-went g c =
    let held = g.N.Sink.held in
    inr (
      held c.put_title.new.own,
      subst (λ (a : About). Appends (held c.args.own.now) (held c.put_title.new.own) (hub_line a)) (c.about_by.ensures ∙ sym c.requires.about) c.in-Ok.ensures.put,
      c.serve_hub.ensures.went,
    )

pub returns-in-Err-clause-went : goal.returns-in-Err-clause-went
returns-in-Err-clause-went g c =
    let held = g.N.Sink.held in
    inl (record {
      part = subst (λ (a : About). PutsPrefix (held c.args.own.now) (held c.put_title.new.own) (hub_line a)) (c.about_by.ensures ∙ sym c.requires.about) c.in-Err.ensures.part;
      untouched = record { links = refl; came = refl; waits = refl; quiets = refl; port = refl; faults = refl; jobs = refl; given_back = refl; out = refl; unstarted = refl; lost = refl; asking = refl };
      unasked = refl;
      stops = c.stop_alone.ensures;
      says = says_lost c.tell_lost.result c.in-Err.fault _ _ _ (λ e. c.put_title.ensures.failed (c.in-Err.is ∙ ap Err e)) c.tell_lost.ensures.says;
    })

pub returns-in-Ok-clause-write : goal.returns-in-Ok-clause-write
returns-in-Ok-clause-write g c e = later_so _ _ _ c.put_title.ensures.later (c.serve_hub.ensures.write e)

pub returns-in-Err-clause-write : goal.returns-in-Err-clause-write
returns-in-Err-clause-write g c e = inr (inr (c.put_title.ensures.failed (c.in-Err.is ∙ ap Err (c.tell_lost.ensures.failed e))))
