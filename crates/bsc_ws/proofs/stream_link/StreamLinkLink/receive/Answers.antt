use Rattle.std.proofs.Common.{inl, sym, subst}
use Rattle.bsc_ws.specs.Receiving.{HasReplied}
use Rattle.bsc_ws.proofs.stream_link.StreamLinkLink.receive.Goals as goal

pub returns-clause-read : goal.returns-clause-read
returns-clause-read g c = inl (
  c.read.result,
  c.read.new.self,
  c.read.ensures,
  c.answer-answer.ensures,
  subst (λ s. HasReplied g.T.Write.contents c.read.new.self s c.answer-answer.result) (sym c.count.ensures.socket) c.reply.ensures.replied,
)
