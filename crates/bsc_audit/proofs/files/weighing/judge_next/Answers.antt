-- One more entry is legal behind those before it.
use Rattle.std.proofs.Common.{◌≡◌, ℕ, Bool, false, Option, None, Some, refl, sym, ◌∙◌, subst, true≢false}
use Rattle.std.specs.Prelude.{is_some}
use Rattle.bsc_audit.specs.Merging.{IsJudged}
use Rattle.bsc_audit.proofs.files.weighing.judge_next.Goals as goal

none_of : (o : Option ℕ) (b : Bool) → b ≡ is_some o → b ≡ false → o ≡ None
none_of None b is not = refl
none_of (Some p) b is not = absurd (true≢false (sym is ∙ not))

pub returns-then-entry-clause-judged : goal.returns-then-entry-clause-judged
returns-then-entry-clause-judged c = λ about H whole judged at.
    let none : c.args.illegal ≡ None = none_of c.args.illegal c.is_some-2.result c.is_some-2.ensures c.if-is_some-2.false in
    c.entry.ensures.stands about H (subst (λ (o : Option ℕ). IsJudged about H c.args.legality.now o) none judged) c.if-entry.true
