-- What stands once a hub or a node was added, and once a step was made.
-- It serves the clauses of `add_hub`, `add_node` and `make_step`.
use Rattle.std.proofs.Common.{◌≡◌, ℕ, ◌+◌, Bool, true, not, ◌&&◌, nat_eq, nat_lt, nat_le, List, [], ◌∷◌, ◌++◌, length, Option, None, Result, Ok, refl, ap, sym, ◌∙◌, subst, arith, append-nil}
use Rattle.std.specs.Prelude.{is_some}
use Rattle.std.proofs.lemmas.Bool.{and_parts, eqb-true}
use Rattle.std.proofs.lemmas.List.{length-append}
use Rattle.bsc_octets.specs.declared.identity.Identity.{Identity}
use Rattle.bsc_history.specs.declared.limits.About.{About}
use Rattle.bsc_player.specs.Playing.{LineOutcome}
use Rattle.bsc_player.specs.Languages.{LineStandsAs}
use Rattle.bsc_network.specs.declared.world_step.WorldStep.{WorldStep}
use Rattle.bsc_network.specs.declared.timed_step.TimedStep.{TimedStep}
use Rattle.bsc_world.specs.declared.step_done.StepDone.{StepDone}
use Rattle.bsc_network.specs.declared.step_refusal.StepRefusal.{StepRefusal}
use Rattle.bsc_world.specs.declared.world.World.{World as KeptWorld}
use Rattle.bsc_network.specs.Settings.{Added, hub, node, and_hub, and_node, hubs, nodes, nodes_after}
use Rattle.bsc_network.specs.Worlds.{World}
use Rattle.bsc_network.specs.Refusals.{refusal}
use Rattle.bsc_network.specs.Networks.{dialled_at, delivered_at, world}
use Rattle.bsc_world.specs.Standing.{WorldStands, WorldAnswers, Leaves, Steps, clock_of, steps_made, is_spent}
use Rattle.bsc_simulate.specs.declared.simulation.Simulation.{Simulation}
use Rattle.bsc_network_script.specs.Written.{step_text}
use Rattle.bsc_network_script.specs.Scripts.{State, quietly, where_may, names_one, may_be_hub, hub_limits, may_add_hub, may_add_node, adds_hub, adds_node, may_try, at_clock, makes}
use Rattle.bsc_network_script_laws.proofs.First.{no_elements, hub_first, node_first}
use Rattle.bsc_simulate.specs.Holding.{Holds}

-- ---- words

-- a line that may stand here, and for which nothing is written
stands_quietly : (stands : State → Type 0) (b : List ℕ) (may : Bool) (s : State) → may ≡ true → stands s → LineStandsAs stands b b (where_may may (quietly s))
stands_quietly stands b may s e h = subst (λ m. LineStandsAs stands b b (where_may m (quietly s))) (sym e) (h, sym (append-nil b))

-- ---- before the first step

none_made : (it : Simulation) (s : State) → Holds it s → it.steps ≡ 0 → s.steps ≡ []
none_made it s h e = no_elements s.steps (sym h.steps ∙ e)

before_steps : (it : Simulation) (s : State) → Holds it s → it.steps ≡ 0 → WorldStands it.world s.added []
before_steps it s h e = subst (λ xs. WorldStands it.world s.added xs) (none_made it s h e) h.stands

-- ---- one more

hubs-hub : (added : List Added) (a : About) → length (hubs (added ++ hub a ∷ [])) ≡ length (hubs added) + 1
hubs-hub [] a = refl
hubs-hub (hub b ∷ added) a = (let e = hubs-hub added a in omega (arith, e))
hubs-hub (node o d ∷ added) a = hubs-hub added a

hubs-node : (added : List Added) (own : Identity) (direct : Bool) → length (hubs (added ++ node own direct ∷ [])) ≡ length (hubs added)
hubs-node [] own direct = refl
hubs-node (hub b ∷ added) own direct = (let e = hubs-node added own direct in omega (arith, e))
hubs-node (node o d ∷ added) own direct = hubs-node added own direct

nodes-hub : (h n : ℕ) (added : List Added) (a : About) → length (nodes_after h n (added ++ hub a ∷ [])) ≡ length (nodes_after h n added)
nodes-hub h n [] a = refl
nodes-hub h n (hub b ∷ added) a = nodes-hub (h + 1) n added a
nodes-hub h n (node o d ∷ added) a = (let e = nodes-hub h (n + 1) added a in omega (arith, e))

nodes-node : (h n : ℕ) (added : List Added) (own : Identity) (direct : Bool) → length (nodes_after h n (added ++ node own direct ∷ [])) ≡ length (nodes_after h n added) + 1
nodes-node h n [] own direct = refl
nodes-node h n (hub b ∷ added) own direct = nodes-node (h + 1) n added own direct
nodes-node h n (node o d ∷ added) own direct = (let e = nodes-node h (n + 1) added own direct in omega (arith, e))

-- ---- a hub

hub_as : (it : Simulation) (s : State) (who : Identity) → Holds it s → may_add_hub it.steps it.hubs who ≡ may_add_hub (length s.steps) (length (hubs s.added)) who
hub_as it s who h = ap (λ n. may_add_hub n it.hubs who) h.steps ∙ ap (λ n. may_add_hub (length s.steps) n who) h.hubs

pub hub_added : (old new : Simulation) (s : State) (who : Identity) → Holds old s → may_add_hub old.steps old.hubs who ≡ true
    → ((added : List Added) → WorldStands old.world added [] → WorldStands new.world (and_hub added who hub_limits) [])
    → clock_of new.world ≡ clock_of old.world → is_spent new.world ≡ is_spent old.world
    → new.clock ≡ old.clock → new.steps ≡ old.steps → new.hubs ≡ old.hubs + 1 → new.nodes ≡ old.nodes
    → (b : List ℕ) → LineStandsAs (Holds new) b b (adds_hub s who)
hub_added old new s who h may stands time spent clock steps more same b =
    let none : old.steps ≡ 0 = hub_first old.steps old.hubs who may in
    let after : WorldStands new.world (and_hub s.added who hub_limits) [] = stands s.added (before_steps old s h none) in
    let empty : s.steps ≡ [] = none_made old s h none in
    let one_hub = hubs-hub s.added (record { hub = who; limits = hub_limits }) in
    let no_node = nodes-hub 0 0 s.added (record { hub = who; limits = hub_limits }) in
    let hubs_were = h.hubs in
    stands_quietly (Holds new) b (may_add_hub (length s.steps) (length (hubs s.added)) who) (record s { added = and_hub s.added who hub_limits }) (sym (hub_as old s who h) ∙ may)
    (record {
      stands = subst (λ xs. WorldStands new.world (and_hub s.added who hub_limits) xs) (sym empty) after;
      time = time ∙ h.time;
      clock = clock ∙ h.clock;
      soon = h.soon;
      unspent = spent ∙ h.unspent;
      made = after.kept.steps ∙ sym (ap length empty);
      steps = steps ∙ h.steps;
      hubs = omega (arith, one_hub, hubs_were, more);
      nodes = same ∙ h.nodes ∙ sym no_node;
    })

-- ---- a node

node_as : (it : Simulation) (s : State) (own : Identity) → Holds it s
    → may_add_node it.steps it.hubs it.nodes own ≡ may_add_node (length s.steps) (length (hubs s.added)) (length (nodes s.added)) own
node_as it s own h =
    ap (λ n. may_add_node n it.hubs it.nodes own) h.steps ∙ ap (λ n. may_add_node (length s.steps) n it.nodes own) h.hubs
    ∙ ap (λ n. may_add_node (length s.steps) (length (hubs s.added)) n own) h.nodes

pub node_added : (old new : Simulation) (s : State) (own : Identity) (direct : Bool) → Holds old s → may_add_node old.steps old.hubs old.nodes own ≡ true
    → ((added : List Added) → WorldStands old.world added [] → WorldStands new.world (and_node added own direct) [])
    → clock_of new.world ≡ clock_of old.world → is_spent new.world ≡ is_spent old.world
    → new.clock ≡ old.clock → new.steps ≡ old.steps → new.hubs ≡ old.hubs → new.nodes ≡ old.nodes + 1
    → (b : List ℕ) → LineStandsAs (Holds new) b b (adds_node s own direct)
node_added old new s own direct h may stands time spent clock steps same more b =
    let none : old.steps ≡ 0 = node_first old.steps old.hubs old.nodes own may in
    let after : WorldStands new.world (and_node s.added own direct) [] = stands s.added (before_steps old s h none) in
    let empty : s.steps ≡ [] = none_made old s h none in
    let no_hub = hubs-node s.added own direct in
    let one_more = nodes-node 0 0 s.added own direct in
    let nodes_were = h.nodes in
    stands_quietly (Holds new) b (may_add_node (length s.steps) (length (hubs s.added)) (length (nodes s.added)) own) (record s { added = and_node s.added own direct })
    (sym (node_as old s own h) ∙ may)
    (record {
      stands = subst (λ xs. WorldStands new.world (and_node s.added own direct) xs) (sym empty) after;
      time = time ∙ h.time;
      clock = clock ∙ h.clock;
      soon = h.soon;
      unspent = spent ∙ h.unspent;
      made = after.kept.steps ∙ sym (ap length empty);
      steps = steps ∙ h.steps;
      hubs = same ∙ h.hubs ∙ sym no_hub;
      nodes = omega (arith, one_more, nodes_were, more);
    })

-- ---- a step

-- what is answered to a step speaks of the step at the clock
answered : (it : Simulation) (new : KeptWorld) (s : State) (step : WorldStep) (answer : Result StepDone StepRefusal) → Holds it s → Steps it.world new step answer
    → WorldAnswers (world s.added s.steps) (at_clock s step) answer × Leaves new s.added (s.steps ++ at_clock s step ∷ []) answer
answered it new s step answer h e =
    subst
    (λ (n : ℕ). WorldAnswers (world s.added s.steps) (record { now = n; step = step }) answer × Leaves new s.added (s.steps ++ record { now = n; step = step } ∷ []) answer)
    h.time (e s.added s.steps h.stands)

pub step_made : (old new : Simulation) (s : State) (step : WorldStep) (done : StepDone) (before after : List ℕ) → Holds old s → may_try old.steps step ≡ true
    → Steps old.world new.world step (Ok done) → clock_of new.world ≡ clock_of old.world → steps_made new.world ≡ steps_made old.world + 1
    → new.clock ≡ old.clock → new.steps ≡ old.steps + 1 → new.hubs ≡ old.hubs → new.nodes ≡ old.nodes
    → after ≡ before ++ step_text done.dialled done.deliveries → LineStandsAs (Holds new) before after (makes s step)
step_made old new s step done before after h may e time made clock steps same_hubs same_nodes written =
    let w : World = world s.added s.steps in
    let t : TimedStep = at_clock s step in
    let a = answered old new.world s step (Ok done) h e in
    let unrefused : refusal w step ≡ None = a.0.0 in
    let tried : may_try (length s.steps) step ≡ true = sym (ap (λ n. may_try n step) h.steps) ∙ may in
    let may_be : (may_try (length s.steps) step && not (is_some (refusal w step))) ≡ true =
    ap (λ b. b && not (is_some (refusal w step))) tried ∙ ap (λ (o : Option StepRefusal). not (is_some o)) unrefused in
    let one_more = length-append s.steps (t ∷ []) in
    let steps_were = h.steps in
    let made_were = h.made in
    let text : step_text done.dialled done.deliveries ≡ step_text (dialled_at w t) (delivered_at w t) =
    ap (λ d. step_text d done.deliveries) a.0.1 ∙ ap (λ d. step_text (dialled_at w t) d) a.0.2 in
    let out : LineOutcome State = record { state = record s { steps = s.steps ++ t ∷ [] }; text = step_text (dialled_at w t) (delivered_at w t) } in
    subst (λ b. LineStandsAs (Holds new) before after (where_may b out)) (sym may_be) (
      record {
        stands = a.1.1;
        time = time ∙ h.time;
        clock = clock ∙ h.clock;
        soon = h.soon;
        unspent = a.1.0;
        made = omega (arith, made, one_more, made_were);
        steps = omega (arith, steps, one_more, steps_were);
        hubs = same_hubs ∙ h.hubs;
        nodes = same_nodes ∙ h.nodes;
      },
      written ∙ ap (λ x. before ++ x) text,
    )
