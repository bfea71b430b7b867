-- Each line does what it says.
use Rattle.std.proofs.Common.{◌≡◌, [], Ok, Err, refl, sym, ap, ◌∙◌, subst}
use Rattle.std.proofs.Common.{option_map}
use Rattle.bsc_script.specs.States.{peer_of}
use Rattle.bsc_script.specs.Receiving.{receives}
use Rattle.bsc_script.specs.Holding.{ActsTo}
use Rattle.bsc_script.proofs.Acted.{by_line}
use Rattle.bsc_script.proofs.script_hub.ScriptHub.act_on.Goals as goal

pub returns-in-In : goal.returns-in-In
returns-in-In c = λ s h. by_line c.hear.result c.hear.new.self c.args.text.now.items c.hear.new.text.items s c.args.line _ c.in-In.is
    (subst (λ m. ActsTo c.hear.result c.hear.new.self c.args.text.now.items c.hear.new.text.items (option_map (λ k. receives s k m) (peer_of s c.in-In.name))) c.as_slice.ensures (c.hear.ensures s h))

pub returns-in-Text : goal.returns-in-Text
returns-in-Text c = λ s h. by_line c.hear_text.result c.hear_text.new.self c.args.text.now.items c.hear_text.new.text.items s c.args.line _ c.in-Text.is (c.hear_text.ensures s h)

pub returns-in-Drop : goal.returns-in-Drop
returns-in-Drop c = λ s h. by_line c.drop_name.result c.drop_name.new.self c.args.text.now.items c.drop_name.new.text.items s c.args.line _ c.in-Drop.is (c.drop_name.ensures s h)

pub returns-in-Hold : goal.returns-in-Hold
returns-in-Hold c = λ s h. by_line c.hold_name.result c.hold_name.new.self c.args.text.now.items c.args.text.now.items s c.args.line _ c.in-Hold.is (c.hold_name.ensures s c.args.text.now.items h)

pub returns-in-Free : goal.returns-in-Free
returns-in-Free c = λ s h. by_line c.hold_name-in-Free.result c.hold_name-in-Free.new.self c.args.text.now.items c.args.text.now.items s c.args.line _ c.in-Free.is
    (c.hold_name-in-Free.ensures s c.args.text.now.items h)
