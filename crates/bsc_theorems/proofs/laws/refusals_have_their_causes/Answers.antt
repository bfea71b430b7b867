use Rattle.bsc_theorems.proofs.laws.refusals_have_their_causes.Goals as goal

pub returns : goal.returns
returns c = record {
  spelled = c.one_check.ensures.spelled;
  first = c.one_check.ensures.first;
  ends = c.causes_are_exact.ensures;
  full = c.a_node_holds_256_vmacs.ensures.refused;
  verdict = c.one_verdict.ensures;
}
