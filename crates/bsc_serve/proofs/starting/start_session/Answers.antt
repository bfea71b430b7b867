use Rattle.std.proofs.Common.{◌≡◌, ℕ, [], ◌∷◌, true, false, refl, subst, sym, ap, ◌∙◌}
use Rattle.std.specs.Prelude.{option_map}
use Rattle.std.specs.Arc.{arc_value}
use Rattle.bsc_turn.specs.Passes.{number_of}
use Rattle.bsc_hub.specs.declared.hub.Hub.{Hub}
use Rattle.bsc_edge.specs.declared.fault.LinkFault.TheVariants.{Failed, NoMemory}
use Rattle.bsc_edge.specs.Told.{Grows}
use Rattle.bsc_session.specs.Jobs.{policy_of}
use Rattle.bsc_serve.specs.Events.{begun_call}
use Rattle.bsc_serve.specs.Inner.{Fared, Fares, LacksRoom, SplitsOff, giver}
use Rattle.bsc_serve.specs.Terms.{all_terms}
use Rattle.bsc_serve.specs.Worlds.{Stock}
use Rattle.bsc_serve.proofs.Giving.{IsMadeFor, fares_made, fares_spent, fares_unmade, is_mapped}
use Rattle.bsc_serve.proofs.starting.start_session.Goals as goal

pub returns-in-Err-clause-fares : goal.returns-in-Err-clause-fares
returns-in-Err-clause-fares g c =
    let P = g.P.Spawner in
    let stock : Stock g.row.L.Denot g.row.C.Denot g.row.N.Denot = record {
      jobs = P.jobs c.args.parts.now.spawner;
      given_back = P.ends c.args.parts.now.spawner;
      out = P.out c.args.parts.now.spawner;
      unstarted = P.faults c.args.parts.now.spawner;
    } in
    let k = c.in-Ok.ensures in
    let s : SplitsOff c.deref-here.result.now c.args.pass.now c.split.new.pass c.in-Ok.other =
    record {
      went = k.pass;
      caller = k.new;
      same = k.seen.0;
      own = k.seen.1;
      ended = k.seen.2;
      fresh = k.fresh;
      number = k.number.0;
      more = k.number.1;
      newer = k.newer;
      room = k.room;
      drew = k.drew;
    } in
    let T = g.L.Link.talk in
    let calls = g.J.Journals.calls in
    let prefix = option_map (λ p. p.now) c.args.served.prefix in
    let old = calls c.args.parts.now.journals in
    let new = calls c.begin.new.self in
    let told = subst (λ (i : ℕ). Grows old new (begun_call prefix false i ∷ [])) c.number.ensures c.in-Err.ensures.told in
    subst (λ (y : Hub). LacksRoom T y prefix c.args.link (giver c.args.pass.now stock old) (giver c.take_back.new.pass stock new) c.in-Err.fault) c.deref-here.ensures
    (fares_unmade T c.deref-here.result.now prefix c.args.link c.args.pass.now c.split.new.pass c.take_back.new.pass c.in-Ok.other stock old new false c.in-Err.fault s
    (c.take_back.ensures.pass, c.take_back.ensures.loaded) told (λ e. refl) c.take_back.ensures.turned)

pub returns-in_default-2-clause-fares : goal.returns-in_default-2-clause-fares
returns-in_default-2-clause-fares g c =
    let P = g.P.Spawner in
    let stock : Stock g.row.L.Denot g.row.C.Denot g.row.N.Denot = record {
      jobs = P.jobs c.args.parts.now.spawner;
      given_back = P.ends c.args.parts.now.spawner;
      out = P.out c.args.parts.now.spawner;
      unstarted = P.faults c.args.parts.now.spawner;
    } in
    let k = c.in-Ok.ensures in
    let s : SplitsOff c.deref-here.result.now c.args.pass.now c.split.new.pass c.in-Ok.other =
    record {
      went = k.pass;
      caller = k.new;
      same = k.seen.0;
      own = k.seen.1;
      ended = k.seen.2;
      fresh = k.fresh;
      number = k.number.0;
      more = k.number.1;
      newer = k.newer;
      room = k.room;
      drew = k.drew;
    } in
    let b = c.take_back-in_default-2 in
    let T = g.L.Link.talk in
    let calls = g.J.Journals.calls in
    let prefix = option_map (λ p. p.now) c.args.served.prefix in
    let old = calls c.args.parts.now.journals in
    let new = calls c.begin.new.self in
    let told = subst (λ (i : ℕ). Grows old new (begun_call prefix true i ∷ [])) c.number.ensures c.in-Ok-begin.ensures.told in
    subst (λ (y : Hub). LacksRoom T y prefix c.args.link (giver c.args.pass.now stock old) (giver b.new.pass stock new) NoMemory) c.deref-here.ensures
    (fares_unmade T c.deref-here.result.now prefix c.args.link c.args.pass.now c.split.new.pass b.new.pass c.in-Ok.other stock old new true NoMemory s
    (b.ensures.pass, b.ensures.loaded) told (λ e. absurd (let k : NoMemory ≡ Failed = e in cc)) b.ensures.turned)

pub returns-clause-fares : goal.returns-clause-fares
returns-clause-fares g c =
    let P = g.P.Spawner in
    let B = g.J.Journals.begins in
    let prefix = option_map (λ p. p.now) c.args.served.prefix in
    let terms = all_terms c.args.served.terms prefix (policy_of c.args.served.policy.now) in
    let before : Stock g.row.L.Denot g.row.C.Denot g.row.N.Denot = record {
      jobs = P.jobs c.args.parts.now.spawner;
      given_back = P.ends c.args.parts.now.spawner;
      out = P.out c.args.parts.now.spawner;
      unstarted = P.faults c.args.parts.now.spawner;
    } in
    let after : Stock g.row.L.Denot g.row.C.Denot g.row.N.Denot = record {
      jobs = P.jobs c.hand_over.new.spawner;
      given_back = P.ends c.hand_over.new.spawner;
      out = P.out c.hand_over.new.spawner;
      unstarted = P.faults c.hand_over.new.spawner;
    } in
    let k = c.in-Ok.ensures in
    let s : SplitsOff c.deref-here.result.now c.args.pass.now c.split.new.pass c.in-Ok.other =
    record {
      went = k.pass;
      caller = k.new;
      same = k.seen.0;
      own = k.seen.1;
      ended = k.seen.2;
      fresh = k.fresh;
      number = k.number.0;
      more = k.number.1;
      newer = k.newer;
      room = k.room;
      drew = k.drew;
    } in
    let n = c.new-job.ensures in
    let job = c.new-job.result in
    let begun = subst (λ i. B prefix i c.in-Ok-begin.journal) (c.number.ensures ∙ ap number_of (sym n.pass)) c.in-Ok-begin.ensures.begun in
    let made : IsMadeFor B c.deref-here.result.now terms c.in-Ok.other c.args.link job = record {
      link = n.link;
      hub = ap arc_value n.hub ∙ c.in-Ok-Ok-Ok.ensures' ∙ sym c.deref-here.ensures;
      pass = n.pass;
      limits = n.limits;
      turns = n.turns;
      journal = subst (λ (x : g.row.N.Denot). B prefix (number_of job.pass) x) (sym n.journal) begun;
      is_recorded = n.is_recorded ∙ c.is_some.ensures ∙ is_mapped (λ p. p.now) c.args.served.prefix;
      policy = ap policy_of n.policy ∙ c.in-Ok-Ok-Ok.ensures'';
    } in
    let T = g.L.Link.talk in
    let calls = g.J.Journals.calls in
    let old = calls c.args.parts.now.journals in
    let new = calls c.begin.new.self in
    let told = subst (λ (i : ℕ). Grows old new (begun_call prefix true i ∷ [])) c.number.ensures c.in-Ok-begin.ensures.told in
    subst (λ (y : Hub). Fares B T y terms c.args.link (giver c.args.pass.now before old) (giver c.hand_over.new.pass after new) c.hand_over.result) c.deref-here.ensures
    (fares_made B T c.deref-here.result.now terms c.args.pass.now c.split.new.pass c.hand_over.new.pass c.in-Ok.other c.args.link job before after old new c.hand_over.result s made told
    c.hand_over.ensures.memory c.hand_over.ensures.hands c.hand_over.ensures.turned)

pub returns-in_default-clause-fares : goal.returns-in_default-clause-fares
returns-in_default-clause-fares g c =
    let P = g.P.Spawner in
    let B = g.J.Journals.begins in
    let T = g.L.Link.talk in
    let terms = all_terms c.args.served.terms (option_map (λ p. p.now) c.args.served.prefix) (policy_of c.args.served.policy.now) in
    let stock : Stock g.row.L.Denot g.row.C.Denot g.row.N.Denot = record {
      jobs = P.jobs c.args.parts.now.spawner;
      given_back = P.ends c.args.parts.now.spawner;
      out = P.out c.args.parts.now.spawner;
      unstarted = P.faults c.args.parts.now.spawner;
    } in
    let begun = g.J.Journals.calls c.args.parts.now.journals in
    let k = c.in_default.ensures in
    subst (λ (y : Hub). Fared B T y terms c.args.link (giver c.args.pass.now stock begun) (giver c.split.new.pass stock begun) false) c.deref-here.ensures
    (fares_spent B T c.deref-here.result.now terms c.args.pass.now c.split.new.pass c.args.link stock begun k.pass k.spent.0 k.drew c.drop_link.ensures)
