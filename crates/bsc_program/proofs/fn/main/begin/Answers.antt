use denote.Param.Send.{sendable}
use Rattle.bsc_program.proofs.Sent.{end_send}
use Rattle.bsc_program.proofs.fn.main.begin.Goals as goal

pub launch-requires-send-J-Done : goal.launch-requires-send-J-Done
launch-requires-send-J-Done g c κs = search (sendable, end_send) depth 20
