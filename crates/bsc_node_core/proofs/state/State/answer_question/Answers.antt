use Rattle.std.proofs.Common.{sym, subst, Option, List, ℕ, ◌≡◌}
use Rattle.std.specs.Prelude.{OnOk}
use Rattle.std.proofs.lemmas.Result.{on_ok_weaker}
use Rattle.bsc_frame.specs.declared.message.Message.{Message}
use Rattle.bsc_node.specs.Receiving.{answer_dest, answers_by, is_for_all}
use Rattle.bsc_node_core.specs.Standing.{FollowsAlways}
use Rattle.bsc_node_core.proofs.state.State.answer_question.Goals as goal

pub returns-in-Some : goal.returns-in-Some
returns-in-Some c =
    subst (λ (u : Option (List ℕ)). OnOk c.answer_uris.result ((msg : Message) → msg.id ≡ c.args.id → answer_dest c.args.name msg ≡ c.args.dest → is_for_all msg ≡ c.args.for_all
    → FollowsAlways (λ a. answers_by c.args.name msg u) c.args.out.now c.args.self.now c.answer_uris.new.out c.answer_uris.new.self)) (sym c.in-Some.is)
    (on_ok_weaker c.answer_uris.result (λ g msg i d f. g msg i d) c.answer_uris.ensures)

pub returns-in-None : goal.returns-in-None
returns-in-None c =
    subst (λ (u : Option (List ℕ)). OnOk c.answer_nak.result ((msg : Message) → msg.id ≡ c.args.id → answer_dest c.args.name msg ≡ c.args.dest → is_for_all msg ≡ c.args.for_all
    → FollowsAlways (λ a. answers_by c.args.name msg u) c.args.out.now c.args.self.now c.answer_nak.new.out c.answer_nak.new.self)) (sym c.in-None.is)
    c.answer_nak.ensures
