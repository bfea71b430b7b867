use Rattle.bsc_theorems.proofs.laws.networks_deliver_what_was_sent.Goals as goal

pub returns : goal.returns
returns c = record {
  delivers = c.networks_deliver_what_was_sent.ensures;
  all = c.deliveries_are_all.ensures;
  histories = c.histories_are_legal.ensures;
  puts = c.puts_what_was_sent.ensures;
  outboxes = c.outboxes_have_what_was_sent.ensures;
  taken = c.taken_comes_down.ensures;
  diallers = c.connections_are_of_diallers.ensures;
  peers = c.peers_are_there.ensures;
  slots = c.slots_have_who_named_itself.ensures;
}
