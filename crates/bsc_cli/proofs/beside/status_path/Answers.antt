use Rattle.std.proofs.Common.{Err, ap, map}
use Rattle.std.specs.Prelude.{option_map, string_bytes}
use Rattle.clap.specs.Words.{app_of, found_of, rows_of}
use Rattle.bsc_cli.specs.declared.asked.Way.TheVariants as way
use Rattle.bsc_cli.proofs.Commands.{simple}
use Rattle.bsc_cli.proofs.Statuses.{status_found, status_none}
use Rattle.bsc_cli.proofs.beside.status_path.Goals as goal

pub parse-requires : goal.parse-requires
parse-requires c = simple (app_of c.in_ok-arguments.field-0) way.Hub c.in_ok-arguments.ensures

pub returns-in-Ok : goal.returns-in-Ok
returns-in-Ok c =
    status_found (app_of c.in_ok-arguments.field-0) (map string_bytes c.args.words.now) (rows_of (found_of c.in-Ok.matches)) (option_map (λ s. s.now) c.value_at.result)
    c.in_ok-arguments.ensures c.in-Ok.ensures.fine c.in-Ok.ensures.found c.value_at.ensures

pub returns-in-Err-Refused : goal.returns-in-Err-Refused
returns-in-Err-Refused c =
    status_none (app_of c.in_ok-arguments.field-0) (map string_bytes c.args.words.now) c.in_ok-arguments.ensures (c.in-Err-Refused.ensures.refused (ap Err c.in-Err-Refused.field-0-is))
