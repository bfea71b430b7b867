-- What the audit answered, and what was written of it.
use Rattle.std.proofs.Common.{ℕ, List, Some}
use Rattle.std.specs.Prelude.{IfSome}
use Rattle.bsc_audit.specs.declared.audit_end.AuditEnd.{AuditEnd}
use Rattle.bsc_audit.specs.Explaining.{Explains}
use Rattle.bsc_audit_command.specs.Lines.{SaysAudit}
use Rattle.bsc_audit.specs.Verdicts.{Answers}
use Rattle.bsc_audit.proofs.Explained.{if_some}
use Rattle.bsc_audit.proofs.Told.{of_reads_so}
use Rattle.bsc_audit_command.specs.Audits.{RunsAudit}
use Rattle.bsc_audit_command.proofs.command.run_audit.Goals as goal

pub returns-clause-runs : goal.returns-clause-runs
returns-clause-runs g c = λ o e. record {
  end = c.audit_explained-end.result.end;
  answers = c.audit_explained-end.ensures.tells o e;
  legal = λ n audited. c.audit_explained-end.ensures.legal o n e audited;
  says = c.tell.ensures.says;
}

pub returns-clause-took : goal.returns-clause-took
returns-clause-took g c =
    of_reads_so (g.S.Source.reads c.args.source.now) (g.S.Source.reads c.audit_explained-end.new.source)
    (λ (o rest : List ℕ). Answers c.audit_explained-end.result.end o (Some rest))
    (λ (o rest : List ℕ). RunsAudit o (Some rest) c.tell.result (g.K.Sink.held c.args.sink.now) (g.K.Sink.held c.tell.new.sink)) c.audit_explained-end.ensures.took
    (λ o rest a. record {
      end = c.audit_explained-end.result.end;
      answers = a.tells;
      legal = a.legal;
      says = c.tell.ensures.says;
    })

pub returns-clause-told : goal.returns-clause-told
returns-clause-told g c =
    let v = c.audit_explained-end.result in
    of_reads_so (g.S.Source.reads c.args.source.now) (g.S.Source.reads c.audit_explained-end.new.source)
    (λ (o rest : List ℕ). IfSome v.why (λ why. Explains o v.end why))
    (λ (o rest : List ℕ). IfSome v.why (λ text. (end : AuditEnd) × SaysAudit end c.tell.result (g.K.Sink.held c.args.sink.now) (g.K.Sink.held c.tell.new.sink)
    × Explains o end text)) c.audit_explained-end.ensures.explains
    (λ o rest so. if_some (λ (why : List ℕ). Explains o v.end why) (λ (text : List ℕ). (end : AuditEnd)
    × SaysAudit end c.tell.result (g.K.Sink.held c.args.sink.now) (g.K.Sink.held c.tell.new.sink) × Explains o end text) v.why
    (λ why explains. (v.end, c.tell.ensures.says, explains)) so)
