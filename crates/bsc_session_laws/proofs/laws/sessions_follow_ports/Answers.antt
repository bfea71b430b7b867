use Rattle.bsc_session_laws.proofs.Ports.{follows, follows_event}
use Rattle.bsc_session_laws.proofs.laws.sessions_follow_ports.Goals as goal

pub returns-clause-messages : goal.returns-clause-messages
returns-clause-messages c = λ v s now m. follows v s now m

pub returns-clause-events : goal.returns-clause-events
returns-clause-events c = λ v s e. follows_event v s e
