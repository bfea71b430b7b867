use denote.Param.Send.{sendable}
use Rattle.test_sessions.proofs.Sent.{end_send}
use Rattle.test_sessions.proofs.serve.fn.a_message_is_carried_at_once.begin.Goals as goal

pub launch-requires-send-J-Done : goal.launch-requires-send-J-Done
launch-requires-send-J-Done g c κs = search (sendable, end_send) depth 20
