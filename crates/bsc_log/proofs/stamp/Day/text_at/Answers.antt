use Rattle.std.proofs.Common.{◌≡◌, ◌≤◌, ◌/◌, ◌%◌, ◌++◌, ℕ, List, Option, Some, pos, ap, ◌∙◌, arith}
use Rattle.std.specs.Duration.{as_nanos}
use Rattle.jiff_core.specs.declared.civil.datetime.DateTime.{DateTime}
use Rattle.jiff_core.specs.Time.{time_seconds}
use Rattle.jiff_core.specs.Timestamp.{IsTimestampNanos}
use Rattle.jiff_core.specs.DateTime.{civil_nanos}
use Rattle.jiff_core.proofs.SignedLemmas.{signed_arith}
use Rattle.jiff_fmt.specs.Text.{date_text, time_text}
use Rattle.bsc_log.proofs.Stamps.{day_and_time, stamped}
use Rattle.bsc_log.proofs.stamp.Day.text_at.Goals as goal

pub returns : goal.returns
returns c =
    let day = c.args.self.now in
    let time = c.from_second-time.result in
    let at : DateTime = record { date = day.date; time = time } in
    let nanos : ℕ = as_nanos c.args.since in
    let second : time_seconds time ≡ nanos / 1_000_000_000 % 86_400 = omega (arith, c.from_second-time.ensures.seconds, c.as_secs.ensures) in
    let civil : IsTimestampNanos (pos nanos) → civil_nanos at ≡ pos nanos = λ has.
    let within : day.number ≤ 2_932_896 = omega (arith, signed_arith, c.requires, has.1) in
    day_and_time nanos at (day.reads within ∙ ap pos c.requires) second (c.from_second-time.ensures.subsec ∙ c.subsec_nanos.ensures)
    in
    let places : c.precision.result.precision ≡ Some 3 = ap (λ o. o.2) c.precision.ensures in
    let before = c.new-stamp.result.bytes in
    let dated = c.push_str-2.new.self.bytes in
    let date = c.push_str.ensures.bytes ∙ ap (λ (l : List ℕ). before ++ l) (c.as_str.ensures.value ∙ day.shows) in
    let timed = c.push_str-3.ensures.bytes ∙ ap (λ (l : List ℕ). dated ++ l)
    (c.as_str-2.ensures.value ∙ c.time_text-time.ensures ∙ ap (λ (p : Option ℕ). time_text p time) places) in (
      at,
      civil,
      stamped (date_text day.date)
          (time_text (Some 3) time) before c.push_str.new.self.bytes dated c.push_str-3.new.self.bytes c.push_str-4.new.self.bytes c.new-stamp.ensures date c.push_str-2.ensures.bytes timed
          c.push_str-4.ensures.bytes,
    )
