use Rattle.bsc_theorems.proofs.laws.operations_are_the_model.Goals as goal

pub returns : goal.returns
returns c = record {
  octets = c.one_spelling.ensures.octets;
  message = c.one_spelling.ensures.message;
  options_end = c.one_spelling-2.ensures;
  reads_back = c.reads_back.ensures;
  verdict = c.one_outcome.ensures.has;
  one_verdict = c.one_verdict.ensures;
  accepting_ticks = λ s E now. (c.ticks_close.ensures.connect_wait s E now, c.ticks_close.ensures.idle s E now, λ f. c.ticks_close.ensures.disconnect_wait s E f now);
  heard = c.messages_are_heard.ensures;
  answered = λ s E now v. (c.messages_are_heard-2.ensures.last s E now v, c.messages_are_heard-2.ensures.heartbeat s E now v);
  learnt = c.what_is_learnt_stays.ensures;
  slots = c.established_slots_are_apart.ensures;
  npdus = c.npdus_are_put_once.ensures;
  delivers = c.delivers_what_came.ensures;
  broadcasts = c.broadcasts_keep_off_slots.ensures;
  scripts = c.a_script_is_of_one_hub.ensures;
}
