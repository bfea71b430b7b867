use Rattle.std.proofs.Common.{subst, sym, ap, ◌∙◌}
use Rattle.bsc_turn.specs.declared.pass.Pass.{Pass}
use Rattle.bsc_hub.specs.Passing.{IsCaller}
use Rattle.bsc_session.specs.declared.job.SessionJob.{SessionJob}
use Rattle.bsc_serve.specs.Fates.{IsTurnedAway}
use Rattle.bsc_serve.proofs.Giving.{back_failed, back_memory}
use Rattle.bsc_serve.proofs.starting.hand_over.Goals as goal

pub take_back-requires-clause-other : goal.take_back-requires-clause-other
take_back-requires-clause-other g c =
    let e = back_failed c.in-Err-Failed.field-0 c.in-Err-Failed.job c.args.job c.in-Err-Failed.field-0-is c.in-Err-Failed.ensures.back in
    subst (λ (x : Pass). IsCaller c.args.hub.now x) (sym (c.into_parts-parts.ensures.pass ∙ ap (λ (j : SessionJob g.row.L.Denot g.row.C.Denot g.row.N.Denot). j.pass) e)) c.requires.other

pub take_back-requires-in-Err-NoMemory-clause-other :
    goal.take_back-requires-in-Err-NoMemory-clause-other
take_back-requires-in-Err-NoMemory-clause-other g c =
    let e = back_memory c.in-Err-NoMemory.field-0 c.in-Err-NoMemory.job c.args.job c.in-Err-NoMemory.field-0-is c.in-Err-NoMemory.ensures.back in
    subst (λ (x : Pass). IsCaller c.args.hub.now x) (sym (c.into_parts-parts-in-Err-NoMemory.ensures.pass
    ∙ ap (λ (j : SessionJob g.row.L.Denot g.row.C.Denot g.row.N.Denot). j.pass) e)) c.requires.other

pub returns-in-Err-Failed-clause-turned : goal.returns-in-Err-Failed-clause-turned
returns-in-Err-Failed-clause-turned g c =
    let e = back_failed c.in-Err-Failed.field-0 c.in-Err-Failed.job c.args.job c.in-Err-Failed.field-0-is c.in-Err-Failed.ensures.back in
    subst (λ (x : g.row.L.Denot). IsTurnedAway g.L.Link.talk x) (c.into_parts-parts.ensures.link
    ∙ ap (λ (j : SessionJob g.row.L.Denot g.row.C.Denot g.row.N.Denot). j.link) e) c.take_back.ensures.turned

pub returns-in-Err-NoMemory-clause-turned : goal.returns-in-Err-NoMemory-clause-turned
returns-in-Err-NoMemory-clause-turned g c =
    let e = back_memory c.in-Err-NoMemory.field-0 c.in-Err-NoMemory.job c.args.job c.in-Err-NoMemory.field-0-is c.in-Err-NoMemory.ensures.back in
    subst (λ (x : g.row.L.Denot). IsTurnedAway g.L.Link.talk x) (c.into_parts-parts-in-Err-NoMemory.ensures.link
    ∙ ap (λ (j : SessionJob g.row.L.Denot g.row.C.Denot g.row.N.Denot). j.link) e) c.take_back-in-Err-NoMemory.ensures.turned
