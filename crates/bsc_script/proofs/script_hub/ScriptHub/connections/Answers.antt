use Rattle.std.proofs.Common.{◌≡◌, true, rules, sym, ◌∙◌, subst, List, ℕ}
use Rattle.std.specs.Ordering.{nat_cmp}
use Rattle.std.specs.List.Sorted.{IsStrictlySortedBy}
use Rattle.bsc_script.specs.Settled.{ascends}
use Rattle.bsc_history.specs.Laws.{is_among}
use Rattle.bsc_script.proofs.Stopped.{member_among, sorted_ascends}
use Rattle.bsc_script.proofs.script_hub.ScriptHub.connections.Goals as goal

pub returns : goal.returns
returns c =
    let same : c.in_ok-collect.field-0.items ≡ c.keys.result = search rules in
    record {
      all = λ q some. subst (λ (l : List ℕ). is_among q l ≡ true) (sym same) (member_among q c.keys.result (sym (c.keys.ensures.has q) ∙ some));
      order = subst (λ (l : List ℕ). ascends l ≡ true) (sym same) (sorted_ascends c.keys.result (subst (IsStrictlySortedBy nat_cmp) (sym c.keys.ensures.rest) c.keys.ensures.ordered));
    }
