use Rattle.std.proofs.lemmas.Result.{err_from_is_err_and}
use Rattle.toml.specs.View.{table_view}
use Rattle.bsc_settings.specs.Refusals.{IsWhy}
use Rattle.bsc_settings.proofs.Refused.{told-on, why-members, why-rules}
use Rattle.bsc_settings.proofs.policy_table.read_policy.Goals as goal

pub returns-in_err-read_members-clause-why : goal.returns-in_err-read_members-clause-why
returns-in_err-read_members-clause-why c =
    let e = err_from_is_err_and c.from_residual.result c.from_residual.ensures.1 in
    let why = c.in_err-read_members.field-0.0 in
    told-on (IsWhy (table_view c.args.table.now)) c.from_residual.result why e.0 e.1 e.2
    (why-members (table_view c.args.table.now) why c.in_err-read_members.ensures.why)

pub returns-in_err-read_rules-clause-why : goal.returns-in_err-read_rules-clause-why
returns-in_err-read_rules-clause-why c =
    let e = err_from_is_err_and c.from_residual-in_err-read_rules.result c.from_residual-in_err-read_rules.ensures.1 in
    let why = c.in_err-read_rules.field-0.0 in
    told-on (IsWhy (table_view c.args.table.now)) c.from_residual-in_err-read_rules.result why e.0 e.1 e.2
    (why-rules (table_view c.args.table.now) c.read_members.new.policy.members.items why c.in_ok-read_members.ensures.taken c.in_err-read_rules.ensures.why)
