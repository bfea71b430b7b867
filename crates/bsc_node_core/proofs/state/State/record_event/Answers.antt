use Rattle.bsc_node_core.proofs.Coming.{failed-came, lost-came, hub-came, slot-came, finish-came, word-came, other-came}
use Rattle.std.proofs.Common.{ap, arith, ◌∙◌}
use Rattle.bsc_node.specs.declared.link_name.LinkName.{LinkName}
use Rattle.bsc_node.specs.declared.node_event.NodeEvent.TheVariants.{Came}
use Rattle.bsc_node_core.proofs.state.State.record_event.Goals as goal

pub returns-in-DialFailed : goal.returns-in-DialFailed
returns-in-DialFailed c = λ b out L t h. failed-came b out c.args.self.now L t c.args.event.now c.in-DialFailed.name _ c.in-DialFailed.is c.end.ensures.sets c.end.ensures.touches h

pub returns-in-Lost : goal.returns-in-Lost
returns-in-Lost c = λ b out L t h. lost-came b out c.args.self.now L t c.args.event.now c.in-Lost.name _ c.in-Lost.is c.end-in-Lost.ensures.sets c.end-in-Lost.ensures.touches h

pub returns-in-Hub : goal.returns-in-Hub
returns-in-Hub c = λ b out L t h. hub-came b out c.args.self.now L t c.args.event.now c.in-Hub.side c.in-Came.field-1
    (c.in-Came.is ∙ ap (λ (name : LinkName). Came name c.in-Came.field-1) c.in-Hub.is) h

pub returns-in-Direct : goal.returns-in-Direct
returns-in-Direct c = λ b out L t h. slot-came b out c.args.self.now L t c.args.event.now c.in-Direct.field-0 c.in-Came.field-1
    (c.in-Came.is ∙ ap (λ (name : LinkName). Came name c.in-Came.field-1) c.in-Direct.is) h

pub returns-in-Finish : goal.returns-in-Finish
returns-in-Finish c = λ b out L t h. finish-came b out c.args.self.now L t c.args.event.now c.in-Finish.is h

pub returns-then-self-lt-RENEWALS : goal.returns-then-self-lt-RENEWALS
returns-then-self-lt-RENEWALS c = λ b out L t h.
    word-came b out c.args.self.now L t c.args.event.now c.in-Random.w _ _ c.in-Random.is c.random48-self.ensures (omega (arith, c.if-self-lt-RENEWALS.true)) h

pub returns-else-self-lt-RENEWALS : goal.returns-else-self-lt-RENEWALS
returns-else-self-lt-RENEWALS c = λ b out L t h.
    word-came b out c.args.self.now L t c.args.event.now c.in-Random.w _ _ c.in-Random.is c.random48-self.ensures (let k = h.renewals in omega (arith, k, c.if-self-lt-RENEWALS.false)) h

pub returns-in_default : goal.returns-in_default
returns-in_default c = λ b out L t h.
    other-came b out c.args.self.now L t c.args.event.now c.in_default.not-DialFailed c.in_default.not-Came c.in_default.not-Lost c.in_default.not-Finish c.in_default.not-Random h
