use Rattle.std.proofs.Common.{◌∙◌}
use Rattle.std.proofs.lemmas.List.{take_rest}
use Rattle.bsc_options.specs.Spelling.{data_octets}
use Rattle.bsc_checks.proofs.Behind.{behind, long_enough}
use Rattle.bsc_checks.proofs.understood.behind_data.Goals as goal

pub returns-then-rest-length-clause-next : goal.returns-then-rest-length-clause-next
returns-then-rest-length-clause-next c =
    λ item follows next fits mark is. absurd (long_enough c.args.rest.now next (data_octets item.content) c.data_length-length.result is
    (c.data_length-length.ensures item follows next fits mark is) c.if-rest-length.true)

pub returns-clause-next : goal.returns-clause-next
returns-clause-next c =
    λ item follows next fits mark is. take_rest c.args.rest.now c.data_length-length.result
    ∙ behind c.args.rest.now next (data_octets item.content) c.data_length-length.result is (c.data_length-length.ensures item follows next fits mark is)
