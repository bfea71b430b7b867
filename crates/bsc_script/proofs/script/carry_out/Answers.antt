-- A line is carried out, over a hub or before one.
use Rattle.std.proofs.Common.{refl, sym, ap, subst}
use Rattle.bsc_script.proofs.Spoken.{begun_does, some_made, made_does}
use Rattle.bsc_script.proofs.script.carry_out.Goals as goal

pub returns-in_ok-hub-in-None : goal.returns-in_ok-hub-in-None
returns-in_ok-hub-in-None c = λ s h. begun_does c.args.hub.now c.in_ok-hub-in-None.field-0 s c.args.line c.args.text.now.items c.in-None.is h (c.in_ok-hub-in-None.ensures.begun c.args.text.now.items)

pub run_line-requires : goal.run_line-requires
run_line-requires c = record { some = some_made c.args.hub.now c.in-Some.made c.in-Some.is c.requires.some }

pub returns-in-Some : goal.returns-in-Some
returns-in-Some c = λ s h. made_does c.run_line.result c.args.hub.now c.in-Some.made c.run_line.new.self s c.args.line c.args.text.now.items c.run_line.new.text.items c.in-Some.is h
    (λ u g. c.run_line.ensures u g)
