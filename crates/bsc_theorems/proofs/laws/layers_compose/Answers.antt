use Rattle.bsc_theorems.proofs.laws.layers_compose.Goals as goal

pub returns : goal.returns
returns g c = record {
  laws = λ v T R E frames ended x. record {
    messages = c.messages_are_given.ensures v T R E frames ended x;
    forwards = c.forwards_are_carried.ensures v T R E frames ended x;
    connects = c.connects_are_asked.ensures v T R E frames ended x;
    accepts_first = c.frames_follow_accept.ensures v T R E frames ended x;
    policy = c.policy_is_followed.ensures v T R E frames ended x;
  };
  session_port = λ v s. (c.sessions_follow_ports.ensures.messages v s, c.sessions_follow_ports.ensures.events v s);
  simulated_port = λ h link. (c.hub_sides_follow_ports.ensures.messages h link, c.hub_sides_follow_ports.ensures.events h link);
  ends_at_fault = c.sessions_end_at_fault.ensures;
  wakes = c.wakes_whom_it_concerns.ensures;
  alone = c.serving_is_alone.ensures;
  of_jobs = c.seen_are_of_jobs.ensures;
  jobs_end = c.jobs_end_at_last.ensures;
  behind_stop = c.nothing_behind_stop.ensures;
  begins_anew = c.links_begin_anew.ensures;
  links_used = c.runs_use_links.ensures;
  ran = c.ran_nodes_tell.ensures;
  stopped = c.stopped_nodes_tell.ensures;
  one_history = c.one_history.ensures;
}
