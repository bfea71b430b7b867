-- The hubs, nodes and steps of a script are a course, and deliver what was sent.
-- It serves the clauses of `a_script_delivers_what_was_sent`.
use Rattle.std.proofs.Common.{◌≡◌, ◌≤◌, ℕ, ◌+◌, Bool, true, false, not, ◌&&◌, nat_eq, nat_lt, nat_le, List, [], ◌∷◌, ◌++◌, length, Option, Some, None, IfSome, refl, sym, subst, arith}
use Rattle.std.specs.Prelude.{is_some}
use Rattle.std.proofs.lemmas.Bool.{and_parts, leb-true, ltb-true}
use Rattle.bsc_octets.specs.declared.bounds.TheConstants.{LEAST_BVLC}
use Rattle.bsc_octets.specs.declared.identity.Identity.{Identity}
use Rattle.bsc_octets.specs.Addresses.{same_vmac, zero_vmac, broadcast}
use Rattle.bsc_text.specs.Lines.{pieces_of, line_in}
use Rattle.bsc_frame.specs.Payloads.{IsNode}
use Rattle.bsc_history.proofs.Uniqueness.{vmac_refl}
use Rattle.bsc_node.specs.declared.node_event.NodeEvent.TheVariants.{Send}
use Rattle.bsc_player.specs.Playing.{LineOutcome, piece_after}
use Rattle.bsc_script.specs.Hubs.{IsHub}
use Rattle.bsc_script.specs.Running.{latest}
use Rattle.bsc_network.specs.declared.limits.TheConstants.{NODES}
use Rattle.bsc_network.specs.declared.world_step.WorldStep.{WorldStep}
use Rattle.bsc_network.specs.declared.world_step.WorldStep.TheVariants.{Node as OfNode}
use Rattle.bsc_network.specs.declared.timed_step.TimedStep.{TimedStep}
use Rattle.bsc_network.specs.Settings.{Added, hub, node, and_hub, and_node, hubs, nodes}
use Rattle.bsc_network.specs.Worlds.{World}
use Rattle.bsc_network.specs.Refusals.{refusal}
use Rattle.bsc_network.specs.Networks.{dialled_at, delivered_at, world}
use Rattle.bsc_network.specs.Courses.{HasContent, IsCourse, IsWhole, MayAdd, end_time}
use Rattle.bsc_network_laws.proofs.Delivered.{networks_deliver_what_was_sent}
use Rattle.bsc_network_script.specs.declared.line.Line.{Line}
use Rattle.bsc_network_script.specs.declared.line.Line.TheVariants.{Nothing, Hub, Node, At, Step}
use Rattle.bsc_network_script.specs.Lines.{line_of}
use Rattle.bsc_network_script.specs.Written.{step_text}
use Rattle.bsc_network_script.specs.Scripts.{State, at_clock, has_content, hub_limits, line_after, may_add_hub, may_add_node, may_be_hub, may_set, may_try, most_steps, names_one}
use Rattle.bsc_network_script.specs.Scripts.{nothing_yet, quietly, said_after, simulation}
use Rattle.bsc_network_script_laws.specs.Laws.{DeliversItsSends, state_after, state_of}
use Rattle.bsc_network_script_laws.proofs.Measured.{IsMeasured, IsSaid, line_said}
use Rattle.bsc_network_script_laws.proofs.Stepping.{piece_said, state_after-more, state_after-none, where_some}
use Rattle.bsc_lemmas.proofs.Booleans.{not_true as not_so}
use Rattle.bsc_network.proofs.Common.{all_more, end_more, may_add_one}

-- The hubs, nodes and steps are a course, and the clock isn't behind the steps.
pub record IsLawful (s : State) : Type 0 where
  pub course : IsCourse s.added s.steps
  pub clock : end_time 0 s.steps ≤ s.clock
  pub soon : s.clock ≤ latest

-- ---- hubs and nodes

apart : (b : Bool) → b ≡ true → not b ≡ true → ⊥
apart true e n = cc
apart false e n = cc

is_node : (who : Identity) → IsMeasured who → names_one who.vmac ≡ true → IsNode who
is_node who m e =
    let p = and_parts (not (same_vmac who.vmac zero_vmac)) (not (same_vmac who.vmac broadcast)) e in
    record {
      address = m.address;
      device = m.device;
      reserved = λ same. apart (same_vmac who.vmac zero_vmac) (vmac_refl who.vmac zero_vmac same) p.0;
      broadcast = λ same. apart (same_vmac who.vmac broadcast) (vmac_refl who.vmac broadcast same) p.1;
      bvlc = m.bvlc;
      npdu = m.npdu;
    }

is_hub : (who : Identity) → IsHub (record { hub = who; limits = hub_limits })
is_hub who = record {
  some_rows = omega arith;
  few_rows = omega arith;
  some_room = omega arith;
  little_room = omega arith;
  some_calls = omega arith;
  few_calls = omega arith;
  some_callers = omega arith;
  few_callers = omega arith;
}

hub_may : (s : State) (who : Identity) → IsMeasured who → may_add_hub (length s.steps) (length (hubs s.added)) who ≡ true → MayAdd s.added (hub (record { hub = who; limits = hub_limits }))
hub_may s who m e =
    let p = and_parts (nat_eq (length s.steps) 0 && nat_lt (length (hubs s.added)) 2) (may_be_hub who) e in
    let q = and_parts (nat_eq (length s.steps) 0) (nat_lt (length (hubs s.added)) 2) p.0 in
    let r = and_parts (names_one who.vmac && nat_le LEAST_BVLC who.max_bvlc) (nat_le 1 who.max_npdu) p.1 in
    let n = and_parts (names_one who.vmac) (nat_le LEAST_BVLC who.max_bvlc) r.0 in
    record { few = ltb-true (length (hubs s.added)) 2 q.1; who = is_node who m n.0; fit = is_hub who }

node_may : (s : State) (own : Identity) (direct : Bool) → IsMeasured own → may_add_node (length s.steps) (length (hubs s.added)) (length (nodes s.added)) own ≡ true → MayAdd s.added (node own direct)
node_may s own direct m e =
    let p = and_parts (nat_eq (length s.steps) 0 && nat_le 1 (length (hubs s.added)) && nat_lt (length (nodes s.added)) NODES) (names_one own.vmac) e in
    let q = and_parts (nat_eq (length s.steps) 0 && nat_le 1 (length (hubs s.added))) (nat_lt (length (nodes s.added)) NODES) p.0 in
    let r = and_parts (nat_eq (length s.steps) 0) (nat_le 1 (length (hubs s.added))) q.0 in
    record { some_hub = leb-true 1 (length (hubs s.added)) r.1; few = ltb-true (length (nodes s.added)) NODES q.1; who = is_node own m p.1 }

lawful_added : (s : State) (one : Added) → IsLawful s → MayAdd s.added one → IsLawful (record s { added = s.added ++ one ∷ [] })
lawful_added s one h may = record {
  course = record { added_all = may_add_one s.added one h.course.added_all may; made_all = h.course.made_all };
  clock = h.clock;
  soon = h.soon;
}

-- ---- the clock

lawful_set : (s : State) (ms : ℕ) → IsLawful s → may_set (length (hubs s.added)) s.clock ms ≡ true → IsLawful (record s { clock = ms })
lawful_set s ms h e =
    let p = and_parts (nat_le 1 (length (hubs s.added)) && nat_le s.clock ms) (nat_le ms latest) e in
    let q = and_parts (nat_le 1 (length (hubs s.added))) (nat_le s.clock ms) p.0 in
    let later = leb-true s.clock ms q.1 in
    let before = h.clock in
    record { course = h.course; clock = omega (arith, later, before); soon = leb-true ms latest p.1 }

-- ---- steps

content : (step : WorldStep) → has_content step ≡ true → HasContent step
content (OfNode k (Send dest npdu)) e =
    let p = and_parts (nat_le 1 (length npdu)) (not (same_vmac dest zero_vmac)) e in
    let some = leb-true 1 (length npdu) p.0 in
    (omega (arith, some), not_so (same_vmac dest zero_vmac) p.1)
content step e = tt

lawful_step : (s : State) (step : WorldStep) → IsLawful s → IsWhole step → has_content step ≡ true → IsLawful (record s { steps = s.steps ++ at_clock s step ∷ [] })
lawful_step s step h whole e =
    let soon = h.soon in
    let end = end_more 0 s.steps (at_clock s step) in
    record {
      course = record {
        added_all = h.course.added_all;
        made_all = all_more 0 s.steps (at_clock s step) h.course.made_all (record { later = h.clock; in_range = omega (arith, soon); content = content step e; whole = whole });
      };
      clock = omega (arith, end);
      soon = h.soon;
    }

-- ---- lines

lawful_line : (s : State) (line : Line) (out : LineOutcome State) → IsLawful s → IsSaid line → line_after s line ≡ Some out → IsLawful out.state
lawful_line s Nothing out h said e = (let is : quietly s ≡ out = cc in subst (λ (x : LineOutcome State). IsLawful x.state) is h)
lawful_line s (Hub who) out h said e =
    let w = where_some (may_add_hub (length s.steps) (length (hubs s.added)) who) (quietly (record s { added = and_hub s.added who hub_limits })) out e in
    subst (λ (x : LineOutcome State). IsLawful x.state) w.1 (lawful_added s (hub (record { hub = who; limits = hub_limits })) h (hub_may s who said w.0))
lawful_line s (Node own direct) out h said e =
    let w = where_some (may_add_node (length s.steps) (length (hubs s.added)) (length (nodes s.added)) own) (quietly (record s { added = and_node s.added own direct })) out e in
    subst (λ (x : LineOutcome State). IsLawful x.state) w.1 (lawful_added s (node own direct) h (node_may s own direct said w.0))
lawful_line s (At ms) out h said e =
    let w = where_some (may_set (length (hubs s.added)) s.clock ms) (quietly (record s { clock = ms })) out e in
    subst (λ (x : LineOutcome State). IsLawful x.state) w.1 (lawful_set s ms h w.0)
lawful_line s (Step step) out h said e =
    let w : World = world s.added s.steps in
    let t : TimedStep = at_clock s step in
    let made : LineOutcome State = record { state = record s { steps = s.steps ++ t ∷ [] }; text = step_text (dialled_at w t) (delivered_at w t) } in
    let is = where_some (may_try (length s.steps) step && not (is_some (refusal w step))) made out e in
    let p = and_parts (may_try (length s.steps) step) (not (is_some (refusal w step))) is.0 in
    let q = and_parts (nat_lt (length s.steps) most_steps) (has_content step) p.0 in
    subst (λ (x : LineOutcome State). IsLawful x.state) is.1 (lawful_step s step h said q.1)

lawful_said : (s : State) (said : Option Line) (out : LineOutcome State) → IsLawful s → IfSome said IsSaid → said_after s said ≡ Some out → IsLawful out.state
lawful_said s None out h said e = cc
lawful_said s (Some line) out h said e = lawful_line s line out h said e

lawful_after : (pieces : List (List ℕ)) (s : State) (before : ℕ) → IsLawful s → IsLawful (state_after s before pieces)
lawful_after [] s before h = h
lawful_after (piece ∷ pieces) s before h = by (λ u b. lawful_after pieces u b) (piece_after simulation s before piece) refl
  where
    by : ((u : State) (b : ℕ) → IsLawful u → IsLawful (state_after u b pieces)) → (a : Option (LineOutcome State)) → piece_after simulation s before piece ≡ a
        → IsLawful (state_after s before (piece ∷ pieces))
    by next None is = subst IsLawful (sym (state_after-none s before piece pieces is)) h
    by next (Some out) is =
        subst IsLawful (sym (state_after-more s before piece pieces out is))
        (next out.state (before + length piece) (lawful_said s (line_of (line_in piece)) out h (line_said (line_in piece)) (piece_said s before piece out is)))

lawful_first : IsLawful nothing_yet
lawful_first = record { course = record { added_all = tt; made_all = tt }; clock = omega arith; soon = omega arith }

pub delivers_its_sends : (o : List ℕ) → DeliversItsSends o
delivers_its_sends o =
    let h = lawful_after (pieces_of o) nothing_yet 0 lawful_first in
    record { course = h.course; sent = networks_deliver_what_was_sent (state_of o).added (state_of o).steps h.course }
