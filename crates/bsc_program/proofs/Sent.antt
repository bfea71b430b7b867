-- What is left of a session may go to another thread, whatever its link, its clock and its journal were: of these it has nothing.
-- It serves the clauses of `begin`.
use denote.RattleType.{RattleType}
use denote.Param.Send.{IsSend, sendable}
use Rattle.atomic_table.proofs.badge.Badge.TheSendSync as badge
use Rattle.bsc_turn.specs.contracts.pass.Pass as Pass
use Rattle.bsc_session.specs.contracts.ended.Ended as Ended
use Rattle.bsc_session.specs.contracts.last.Last as Last
use Rattle.bsc_session.specs.contracts.session_end.SessionEnd as SessionEnd

pass_send : IsSend Pass.the_field.row
pass_send = search (sendable, badge.the_send) depth 40

ended_send : IsSend Ended.the_field.row
ended_send = search sendable depth 40

last_send : (L C N : RattleType) → IsSend (Last.the_field L C N).row
last_send L C N = search sendable depth 20

pub end_send : (L C N : RattleType) → IsSend (SessionEnd.the_row L C N)
end_send L C N = search (sendable, last_send, pass_send, ended_send) depth 40
