use Rattle.std.proofs.Common.{◌∙◌, sym, refl}
use Rattle.toml.specs.View.{table_view}
use Rattle.bsc_settings.proofs.Texts.{value_at-device, value_at-no_device}
use Rattle.bsc_settings.proofs.values.read_uuid.Goals as goal

pub returns-in-Some-read_device-clause-ok : goal.returns-in-Some-read_device-clause-ok
returns-in-Some-read_device-clause-ok c =
    let read = sym c.in-Some-read_device.is ∙ c.read_device.ensures in
    value_at-device c.args.row.key c.args.row.word.now (table_view c.args.table.now) c.in-Some.text.now c.in-Some-read_device.device
    (rw c.in-Some.is at c.text_at.ensures) (rw c.as_bytes.ensures.value at read)

pub returns-in-None-clause-err : goal.returns-in-None-clause-err
returns-in-None-clause-err c =
    let read = sym c.in-None.is ∙ c.read_device.ensures in (
      refl,
      value_at-no_device c.args.row.key c.args.row.word.now (table_view c.args.table.now) c.in-Some.text.now
          (rw c.in-Some.is at c.text_at.ensures) (rw c.as_bytes.ensures.value at read),
    )
