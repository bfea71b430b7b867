-- What is read is heard; reading stops at a bad line or goes on to the end.
use Rattle.std.proofs.Common.{◌≡◌, ◌≤◌, ◌<◌, ◌+◌, ◌-◌, ℕ, Bool, true, false, List, [], ◌++◌, length, drop, Some, Ok, Err, IfOk, IfErr, refl, ap, sym, ◌∙◌, subst, arith, append-nil, length-append}
use Rattle.std.specs.Prelude.{⊤}
use Rattle.std.specs.Io.KnownBytes.{Consumes, IsAtEnd}
use Rattle.bsc_text.specs.Lines.{has_no_lf}
use Rattle.bsc_text.proofs.Taking.{gave_nothing}
use Rattle.bsc_journal.specs.declared.bounds.TheConstants.{MOST_IN_ALL}
use Rattle.bsc_audit.specs.declared.audit_end.AuditEnd.{AuditEnd}
use Rattle.bsc_audit.specs.declared.audit_end.AuditEnd.TheVariants.{ReadFault}
use Rattle.bsc_audit.specs.Hearing.{HasHeard, HasHeardAll}
use Rattle.bsc_audit.specs.Taking.{ReadsOnce, StopsAtEnd, StopsWithin}
use Rattle.bsc_audit.specs.Verdicts.{AnswersOf}
use Rattle.bsc_audit.proofs.SoFar.{heard_more}
use Rattle.bsc_audit.proofs.Stopping.{consumes_both, consumes_none, if_err, if_ok, says_nothing, stops_at_end, stops_within}
use Rattle.bsc_audit.proofs.Told.{HasRead, of_reads, of_reads_so, read_all, read_nothing, read_on, stops_here, stops_last, stops_reading}
use Rattle.bsc_audit.proofs.taking.take_in.Goals as goal
use Rattle.bsc_outside.proofs.Common.{risen_from as risen_since}

pub reading-init : goal.reading-init
reading-init g c = record {
  heard = subst (λ (x : List ℕ). HasHeard x c.nothing_heard-heard.result) (sym c.new-octets.ensures.items) c.nothing_heard-heard.ensures;
  read = subst (λ (x : List ℕ). Consumes (g.S.Source.left c.args.source.now) (g.S.Source.left c.args.source.now) x) (sym c.new-octets.ensures.items)
      (consumes_none (g.S.Source.left c.args.source.now));
  later = omega arith;
  room = omega (arith, c.in-Ok.ensures.len, c.in-Ok.chunk.ok.0);
  told = subst (λ (x : List ℕ). HasRead (g.S.Source.reads c.args.source.now) (g.S.Source.reads c.args.source.now) x false) (sym c.new-octets.ensures.items)
      (read_nothing (g.S.Source.reads c.args.source.now));
}

pub returns-in-Err-clause-stopped : goal.returns-in-Err-clause-stopped
returns-in-Err-clause-stopped g c = λ o e.
    let stops = subst (λ (x : List ℕ). StopsWithin x c.in-Err.end) c.as_slice.ensures.value c.in-Err.ensures.stopped in
    stops_within c.in-Err.end (g.S.Source.left c.args.source.now) (g.S.Source.left c.reading.source) o c.reading.octets.items stops c.reading.invariant.read e

pub returns-in-Err-read_more-clause-stopped : goal.returns-in-Err-read_more-clause-stopped
returns-in-Err-read_more-clause-stopped g c = λ o e. says_nothing c.in-Err-read_more.end o (g.S.Source.left c.read_more.new.source) c.in-Err-read_more.ensures.stopped

pub returns-in-Err-read_more-clause-fault : goal.returns-in-Err-read_more-clause-fault
returns-in-Err-read_more-clause-fault g c = λ e.
    let is : c.in-Err-read_more.end ≡ ReadFault = cc in
    risen_since (g.S.Source.faults c.args.source.now) (g.S.Source.faults c.reading.source) (g.S.Source.faults c.read_more.new.source) c.reading.invariant.later
    (c.in-Err-read_more.ensures.fault (ap (λ (x : AuditEnd). Err x) is))

pub finish-requires-clause-heard : goal.finish-requires-clause-heard
finish-requires-clause-heard g c =
    let end = c.in-Ok-read_more.ensures.end (ap (λ (b : Bool). Ok b) c.if-not-more.true) in
    subst (λ (x : List ℕ). HasHeard x c.go_on.new.heard) (c.as_slice.ensures.value ∙ sym end.0) c.in_default-go_on.ensures.heard

pub finish-requires-clause-rest : goal.finish-requires-clause-rest
finish-requires-clause-rest g c =
    let end = c.in-Ok-read_more.ensures.end (ap (λ (b : Bool). Ok b) c.if-not-more.true) in
    subst (λ (x : List ℕ). has_no_lf (drop c.go_on.new.heard.at x) ≡ true) (c.as_slice.ensures.value ∙ sym end.0) c.in_default-go_on.ensures.rest

pub returns-then-not-more-clause-heard : goal.returns-then-not-more-clause-heard
returns-then-not-more-clause-heard g c =
    if_ok c.finish.result (λ t. (t.octets.items ≡ c.read_more.new.octets.items) × HasHeardAll c.read_more.new.octets.items t.heard) (λ t. HasHeardAll t.octets.items t.heard)
    c.finish.ensures.taken (λ t h. subst (λ (x : List ℕ). HasHeardAll x t.heard) (sym h.0) h.1)

pub returns-then-not-more-clause-read : goal.returns-then-not-more-clause-read
returns-then-not-more-clause-read g c =
    let end = c.in-Ok-read_more.ensures.end (ap (λ (b : Bool). Ok b) c.if-not-more.true) in
    let old = c.reading.octets.items in
    let new = c.read_more.new.octets.items in
    let read : Consumes (g.S.Source.left c.args.source.now) (g.S.Source.left c.read_more.new.source) old =
    subst (λ (x : List ℕ). Consumes (g.S.Source.left c.args.source.now) (g.S.Source.left c.read_more.new.source) x) (append-nil old)
    (consumes_both (g.S.Source.left c.args.source.now) (g.S.Source.left c.reading.source) (g.S.Source.left c.read_more.new.source) old [] c.reading.invariant.read end.1) in
    if_ok c.finish.result (λ t. (t.octets.items ≡ new) × HasHeardAll new t.heard)
    (λ t. Consumes (g.S.Source.left c.args.source.now) (g.S.Source.left c.read_more.new.source) t.octets.items × IsAtEnd (g.S.Source.left c.read_more.new.source))
    c.finish.ensures.taken (λ t h. (subst (λ (x : List ℕ). Consumes (g.S.Source.left c.args.source.now) (g.S.Source.left c.read_more.new.source) x) (sym (h.0 ∙ end.0)) read, end.2))

pub returns-then-not-more-clause-stopped : goal.returns-then-not-more-clause-stopped
returns-then-not-more-clause-stopped g c =
    let end = c.in-Ok-read_more.ensures.end (ap (λ (b : Bool). Ok b) c.if-not-more.true) in
    let old = c.reading.octets.items in
    let new = c.read_more.new.octets.items in
    let read : Consumes (g.S.Source.left c.args.source.now) (g.S.Source.left c.read_more.new.source) old =
    subst (λ (x : List ℕ). Consumes (g.S.Source.left c.args.source.now) (g.S.Source.left c.read_more.new.source) x) (append-nil old)
    (consumes_both (g.S.Source.left c.args.source.now) (g.S.Source.left c.reading.source) (g.S.Source.left c.read_more.new.source) old [] c.reading.invariant.read end.1) in
    if_err c.finish.result (StopsAtEnd new) (λ r. (o : List ℕ) → g.S.Source.left c.args.source.now ≡ Some o → AnswersOf r o (g.S.Source.left c.read_more.new.source))
    c.finish.ensures.stopped (λ r h o e. stops_at_end r (g.S.Source.left c.args.source.now) (g.S.Source.left c.read_more.new.source) o new h
    (subst (λ (x : List ℕ). Consumes (g.S.Source.left c.args.source.now) (g.S.Source.left c.read_more.new.source) x) (sym end.0) read) end.2 e)

pub returns-in_default-clause-took : goal.returns-in_default-clause-took
returns-in_default-clause-took g c = ([], gave_nothing (g.S.Source.reads c.args.source.now), λ rest may. (tt, tt))

pub returns-in-Err-clause-took : goal.returns-in-Err-clause-took
returns-in-Err-clause-took g c =
    let stops = subst (λ (x : List ℕ). StopsWithin x c.in-Err.end) c.as_slice.ensures.value c.in-Err.ensures.stopped in
    of_reads (g.S.Source.reads c.args.source.now) (g.S.Source.reads c.reading.source) c.reading.octets.items false
    (λ (o rest : List ℕ). ⊤ × AnswersOf c.in-Err.end o (Some rest)) c.reading.invariant.told
    (λ rest none. (tt, stops_here c.in-Err.end c.reading.octets.items rest stops))

pub returns-in-Err-read_more-clause-took : goal.returns-in-Err-read_more-clause-took
returns-in-Err-read_more-clause-took g c =
    of_reads_so (g.S.Source.reads c.args.source.now) (g.S.Source.reads c.read_more.new.source)
    (λ (o rest : List ℕ). AnswersOf c.in-Err-read_more.end o (Some rest)) (λ (o rest : List ℕ). ⊤ × AnswersOf c.in-Err-read_more.end o (Some rest))
    (stops_reading c.in-Err-read_more.end (g.S.Source.reads c.args.source.now) (g.S.Source.reads c.reading.source) (g.S.Source.reads c.read_more.new.source)
    c.reading.octets.items c.reading.octets.items c.read_more.new.octets.items c.reading.invariant.told c.in-Err-read_more.ensures.once)
    (λ o rest answers. (tt, answers))

pub returns-then-not-more-clause-took : goal.returns-then-not-more-clause-took
returns-then-not-more-clause-took g c =
    let old = c.reading.octets.items in
    let new = c.read_more.new.octets.items in
    let once = subst (λ (b : Bool). ReadsOnce (g.S.Source.reads c.reading.source) (g.S.Source.reads c.read_more.new.source) (Ok b) old new) c.if-not-more.true c.in-Ok-read_more.ensures.once in
    of_reads (g.S.Source.reads c.args.source.now) (g.S.Source.reads c.read_more.new.source) old true
    (λ (o rest : List ℕ). IfOk c.finish.result (λ t. (o ≡ t.octets.items) × (rest ≡ [])) × IfErr c.finish.result (λ e. AnswersOf e o (Some rest)))
    (read_all (g.S.Source.reads c.args.source.now) (g.S.Source.reads c.reading.source) (g.S.Source.reads c.read_more.new.source) old c.reading.invariant.told once.1)
    (λ rest may.
    let none = may refl in (
      if_ok c.finish.result (λ t. (t.octets.items ≡ new) × HasHeardAll new t.heard) (λ t. (old ++ rest ≡ t.octets.items) × (rest ≡ []))
          c.finish.ensures.taken (λ t h. (ap (λ (x : List ℕ). old ++ x) none ∙ append-nil old ∙ sym once.0 ∙ sym h.0, none)),
      if_err c.finish.result (StopsAtEnd new) (λ r. AnswersOf r (old ++ rest) (Some rest))
          c.finish.ensures.stopped (λ r h. stops_last r old rest (subst (λ (x : List ℕ). StopsAtEnd x r) once.0 h) none),
    ))

pub reading-smaller : goal.reading-smaller
reading-smaller g c =
    let more = c.in-Ok-read_more.ensures.more (ap (λ (b : Bool). Ok b) c.if-not-more.false) in
    let grown = ap length more.grown in
    let sum = length-append c.reading.octets.items more.chunk in
    let some = more.some in
    let fits : length c.reading.octets.items ≤ MOST_IN_ALL = subst (λ (x : List ℕ). length x ≤ MOST_IN_ALL) c.as_slice.ensures.value c.in_default-go_on.ensures.fits in
    let less : (MOST_IN_ALL + 1) - length c.read_more.new.octets.items < (MOST_IN_ALL + 1) - length c.reading.octets.items = omega (arith, grown, sum, some, fits) in
    less

pub reading-preserved : goal.reading-preserved
reading-preserved g c =
    let more = c.in-Ok-read_more.ensures.more (ap (λ (b : Bool). Ok b) c.if-not-more.false) in
    let old = c.reading.octets.items in
    let once = subst (λ (b : Bool). ReadsOnce (g.S.Source.reads c.reading.source) (g.S.Source.reads c.read_more.new.source)
    (Ok b) old c.read_more.new.octets.items) c.if-not-more.false c.in-Ok-read_more.ensures.once in
    let heard = subst (λ (x : List ℕ). HasHeard x c.go_on.new.heard) c.as_slice.ensures.value c.in_default-go_on.ensures.heard in
    record {
      heard = subst (λ (x : List ℕ). HasHeard x c.go_on.new.heard) (sym more.grown) (heard_more old more.chunk c.go_on.new.heard heard);
      read = subst (λ (x : List ℕ). Consumes (g.S.Source.left c.args.source.now) (g.S.Source.left c.read_more.new.source) x) (sym more.grown)
          (consumes_both (g.S.Source.left c.args.source.now) (g.S.Source.left c.reading.source) (g.S.Source.left c.read_more.new.source) old more.chunk c.reading.invariant.read more.read);
      later = (let before = c.reading.invariant.later in let now = c.read_more.ensures.later in omega (arith, before, now));
      room = c.read_more.ensures.room;
      told = subst (λ (x : List ℕ). HasRead (g.S.Source.reads c.args.source.now) (g.S.Source.reads c.read_more.new.source) x false) (sym once.2)
          (read_on (g.S.Source.reads c.args.source.now) (g.S.Source.reads c.reading.source) (g.S.Source.reads c.read_more.new.source) old once.0 c.reading.invariant.told once.1 once.3);
    }
