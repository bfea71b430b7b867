use Rattle.std.proofs.Common.{◌∙◌, codes, rules, map, None, Some}
use Rattle.std.specs.Prelude.{string_bytes}
use Rattle.clap.specs.Words.{app_of, found_of, rows_of}
use Rattle.clap.proofs.WalkLemmas.{list_any-map}
use Rattle.bsc_text.specs.Lines.{same_octets}
use Rattle.bsc_cli.specs.Words.{seen}
use Rattle.bsc_cli.proofs.Commands.{simple}
use Rattle.bsc_cli.proofs.Found.{faulty_asked, found_asked}
use Rattle.bsc_cli.proofs.reading.read_as.Goals as goal

pub returns-in_err-matches-clause-refused : goal.returns-in_err-matches-clause-refused
returns-in_err-matches-clause-refused c e =
    faulty_asked (app_of c.in_ok-arguments.field-0) c.args.way (map string_bytes c.args.words.now) c.in_ok-arguments.ensures (c.in_err-matches.ensures.refused (search (rules, e)))

pub returns-in-Some-clause-ok : goal.returns-in-Some-clause-ok
returns-in-Some-clause-ok c =
    found_asked (app_of c.in_ok-arguments.field-0) c.args.way (map string_bytes c.args.words.now) (rows_of (found_of c.in_ok-matches.matches)) c.has_end.result (Some (seen c.in-Some.asked))
    c.in_ok-arguments.ensures c.in_ok-matches.ensures.fine c.in_ok-matches.ensures.found (c.has_end.ensures ∙ list_any-map (λ w. same_octets w (codes "--")) string_bytes c.args.words.now)
    c.in-Some.ensures

pub returns-clause-refused : goal.returns-clause-refused
returns-clause-refused c e =
    found_asked (app_of c.in_ok-arguments.field-0) c.args.way (map string_bytes c.args.words.now) (rows_of (found_of c.in_ok-matches.matches)) c.has_end.result None
    c.in_ok-arguments.ensures c.in_ok-matches.ensures.fine c.in_ok-matches.ensures.found (c.has_end.ensures ∙ list_any-map (λ w. same_octets w (codes "--")) string_bytes c.args.words.now)
    c.in-None.ensures

pub parse-requires : goal.parse-requires
parse-requires c = simple (app_of c.in_ok-arguments.field-0) c.args.way c.in_ok-arguments.ensures
