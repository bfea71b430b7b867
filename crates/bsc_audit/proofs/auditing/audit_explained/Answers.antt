-- What was taken in is judged; what stopped says so of what was read.
use Rattle.std.proofs.Common.{◌≡◌, ℕ, List, [], ◌++◌, Some, ap, append-nil, refl, subst, sym, ◌∙◌}
use Rattle.std.specs.Prelude.{⊤, IfSome}
use Rattle.bsc_audit.specs.Explaining.{Explains}
use Rattle.bsc_audit.specs.declared.audit_end.AuditEnd.{AuditEnd}
use Rattle.bsc_audit.specs.Judging.{IsOfWhole}
use Rattle.bsc_audit.specs.Verdicts.{Answers, AnswersOf}
use Rattle.bsc_audit.proofs.Believed.{believed}
use Rattle.bsc_audit.proofs.Stopping.{answers_whole}
use Rattle.bsc_audit.proofs.Told.{of_reads_so}
use Rattle.bsc_audit.proofs.auditing.audit_explained.Goals as goal

pub returns-in-Ok-clause-tells : goal.returns-in-Ok-clause-tells
returns-in-Ok-clause-tells g c = λ o e.
    answers_whole c.judge.result.end (g.S.Source.left c.args.source.now) (g.S.Source.left c.take_in.new.source) o c.in-Ok.journals.octets.items
    c.judge.ensures.comes c.judge.ensures.whole c.in-Ok.ensures.read.0 c.in-Ok.ensures.read.1 e

pub returns-in-Ok-clause-legal : goal.returns-in-Ok-clause-legal
returns-in-Ok-clause-legal g c = λ o n e audited.
    believed c.judge.result.end o n (g.S.Source.left c.take_in.new.source)
    (answers_whole c.judge.result.end (g.S.Source.left c.args.source.now) (g.S.Source.left c.take_in.new.source) o c.in-Ok.journals.octets.items
    c.judge.ensures.comes c.judge.ensures.whole c.in-Ok.ensures.read.0 c.in-Ok.ensures.read.1 e)
    audited

answers : (r : AuditEnd) (o rest : List ℕ) → AnswersOf r o (Some rest) → Answers r o (Some rest)
answers r o rest tells = record { tells = tells; legal = λ n audited. believed r o n (Some rest) tells audited }

pub returns-in-Ok-clause-took : goal.returns-in-Ok-clause-took
returns-in-Ok-clause-took g c =
    let read = c.in-Ok.journals.octets.items in
    let r = c.judge.result.end in
    of_reads_so (g.S.Source.reads c.args.source.now) (g.S.Source.reads c.take_in.new.source)
    (λ (o rest : List ℕ). ((o ≡ read) × (rest ≡ [])) × ⊤) (λ (o rest : List ℕ). Answers r o (Some rest)) c.in-Ok.ensures.took
    (λ o rest t.
    let whole : o ≡ read ++ rest = t.0.0 ∙ sym (append-nil read) ∙ ap (λ (x : List ℕ). read ++ x) (sym t.0.1) in
    answers r o rest (answers_whole r (Some o) (Some rest) o read c.judge.ensures.comes c.judge.ensures.whole whole t.0.1 refl))

pub returns-in-Err-clause-took : goal.returns-in-Err-clause-took
returns-in-Err-clause-took g c =
    of_reads_so (g.S.Source.reads c.args.source.now) (g.S.Source.reads c.take_in.new.source)
    (λ (o rest : List ℕ). ⊤ × AnswersOf c.in-Err.end o (Some rest)) (λ (o rest : List ℕ). Answers c.in-Err.end o (Some rest)) c.in-Err.ensures.took (λ o rest t. answers c.in-Err.end o rest t.1)

pub returns-in-Ok-clause-fault : goal.returns-in-Ok-clause-fault
returns-in-Ok-clause-fault g c = λ e. absurd (subst (λ (r : AuditEnd). IsOfWhole r) e c.judge.ensures.whole)

pub returns-in-Err-clause-legal : goal.returns-in-Err-clause-legal
returns-in-Err-clause-legal g c = λ o n e audited. believed c.in-Err.end o n (g.S.Source.left c.take_in.new.source) (c.in-Err.ensures.stopped o e) audited

pub returns-in-Ok-clause-explains : goal.returns-in-Ok-clause-explains
returns-in-Ok-clause-explains g c =
    let read = c.in-Ok.journals.octets.items in
    let r = c.judge.result in
    of_reads_so (g.S.Source.reads c.args.source.now) (g.S.Source.reads c.take_in.new.source)
    (λ (o rest : List ℕ). ((o ≡ read) × (rest ≡ [])) × ⊤) (λ (o rest : List ℕ). IfSome r.why (λ why. Explains o r.end why)) c.in-Ok.ensures.took
    (λ o rest t. subst (λ (x : List ℕ). IfSome r.why (λ why. Explains x r.end why)) (sym t.0.0) c.judge.ensures.explains)

pub returns-in-Err-clause-explains : goal.returns-in-Err-clause-explains
returns-in-Err-clause-explains g c =
    of_reads_so (g.S.Source.reads c.args.source.now) (g.S.Source.reads c.take_in.new.source)
    (λ (o rest : List ℕ). ⊤ × AnswersOf c.in-Err.end o (Some rest)) (λ (o rest : List ℕ). ⊤) c.in-Err.ensures.took (λ o rest t. tt)
