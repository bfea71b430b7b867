-- A step at a message is carried out.
use Rattle.std.proofs.Common.{◌≡◌, [], sym, ap, ◌∙◌, refl, subst, IfOk}
use Rattle.bsc_script.specs.Receiving.{acts}
use Rattle.bsc_script.specs.Touching.{dues}
use Rattle.bsc_script.specs.Holding.{CarriesOut, AsksOf}
use Rattle.bsc_script.proofs.Received.{acts_other, own_other}
use Rattle.bsc_script.proofs.script_hub.ScriptHub.act.Goals as goal

pub connect-requires-clause-not_zero : goal.connect-requires-clause-not_zero
connect-requires-clause-not_zero c = (subst (λ st. AsksOf c.args.self.now c.args.at c.args.message.now c.requires.some.0 c.requires.some.1 st) c.in-Ask.is c.requires.some.2.1).0

pub connect-requires-clause-not_broadcast : goal.connect-requires-clause-not_broadcast
connect-requires-clause-not_broadcast c = (subst (λ st. AsksOf c.args.self.now c.args.at c.args.message.now c.requires.some.0 c.requires.some.1 st) c.in-Ask.is c.requires.some.2.1).1

pub connect-requires-clause-asked : goal.connect-requires-clause-asked
connect-requires-clause-asked c = (subst (λ st. AsksOf c.args.self.now c.args.at c.args.message.now c.requires.some.0 c.requires.some.1 st) c.in-Ask.is c.requires.some.2.1).2

pub connect-requires-clause-some : goal.connect-requires-clause-some
connect-requires-clause-some c = (
  c.requires.some.0,
  c.requires.some.1,
  c.requires.some.2.0,
  (subst (λ st. AsksOf c.args.self.now c.args.at c.args.message.now c.requires.some.0 c.requires.some.1 st) c.in-Ask.is c.requires.some.2.1).3,
)

pub returns-in-Ask : goal.returns-in-Ask
returns-in-Ask c = λ s k w. subst (λ st. IfOk c.connect.result (λ due. CarriesOut c.connect.new.self c.args.text.now.items c.connect.new.text.items (dues due)
    (acts s k c.args.message.now st))) (sym c.in-Ask.is)
    (c.connect.ensures s k w.0 (subst (λ st. AsksOf c.args.self.now c.args.at c.args.message.now s k st) c.in-Ask.is w.1).3)

pub forward-requires-clause-route : goal.forward-requires-clause-route
forward-requires-clause-route c = (subst (λ st. AsksOf c.args.self.now c.args.at c.args.message.now c.requires.some.0 c.requires.some.1 st) c.in-Up.is c.requires.some.2.1).0

pub forward-requires-clause-some : goal.forward-requires-clause-some
forward-requires-clause-some c = (
  c.requires.some.0,
  c.requires.some.1,
  c.requires.some.2.0,
  (subst (λ st. AsksOf c.args.self.now c.args.at c.args.message.now c.requires.some.0 c.requires.some.1 st) c.in-Up.is c.requires.some.2.1).1,
)

pub returns-in-Up : goal.returns-in-Up
returns-in-Up c = λ s k w. subst (λ st. IfOk c.forward.result (λ due. CarriesOut c.forward.new.self c.args.text.now.items c.forward.new.text.items (dues due)
    (acts s k c.args.message.now st))) (sym c.in-Up.is)
    (c.forward.ensures s k w.0 (subst (λ st. AsksOf c.args.self.now c.args.at c.args.message.now s k st) c.in-Up.is w.1).1)

pub carry_out-requires-clause-some : goal.carry_out-requires-clause-some
carry_out-requires-clause-some c = (c.requires.some.0, c.requires.some.2.0.stands)

pub returns-in_ok-carry_out-in_default : goal.returns-in_ok-carry_out-in_default
returns-in_ok-carry_out-in_default c = λ s k w.
    subst (CarriesOut c.carry_out.new.self c.args.text.now.items c.carry_out.new.text.items []) (sym (acts_other s k c.args.message.now c.args.step c.in_default.not-Ask c.in_default.not-Up))
    (c.in_ok-carry_out-in_default.ensures s k [] w.0 (own_other c.args.self.now c.args.at c.args.message.now s k c.args.step c.in_default.not-Ask c.in_default.not-Up w.1))
