-- A line that sends is no step of a link, nor is one that isn't read.
-- It serves the clauses of `why_network_place`.
use Rattle.std.proofs.Common.{◌≡◌, ◌∷◌, ℕ, List, [], codes, Option, Some, None, option_map, Result, Ok, Err, refl, ap, sym, subst, ◌∙◌}
use Rattle.std.proofs.lemmas.Option.{none-some, same_Some as some-is}
use Rattle.bsc_text.specs.Words.{words_of}
use Rattle.bsc_player.specs.declared.language.LineFault.{LineFault}
use Rattle.bsc_player.specs.declared.language.LineFault.TheVariants.{Refused, NoMemory}
use Rattle.bsc_node.specs.declared.node_event.NodeEvent.{NodeEvent}
use Rattle.bsc_network.specs.declared.world_step.WorldStep.TheVariants.{Node as OfNode}
use Rattle.bsc_network_script.specs.declared.line.Line.{Line}
use Rattle.bsc_network_script.specs.declared.line.Line.TheVariants.{Step}
use Rattle.bsc_network_script.specs.Lines.{comes_to, index_of, line_of, line_of_words, send_event}
use Rattle.bsc_network_diagnostics.specs.Places.{link_rule}

of_a_node : (said : Line) (rule : List ℕ) (k : Option ℕ) (event : Option NodeEvent) → option_map Step (comes_to k event) ≡ Some said → link_rule said ≡ Some rule → ⊥
of_a_node said rule None event is link = none-some said is
of_a_node said rule (Some k) None is link = none-some said is
of_a_node said rule (Some k) (Some event) is link =
    none-some rule (subst (λ (l : Line). link_rule l ≡ Some rule) (sym (some-is (Step (OfNode k event)) said is)) link)

by_words : (words : List (List ℕ)) (said : Line) (rule : List ℕ) → line_of_words (codes "send" ∷ words) ≡ Some said → link_rule said ≡ Some rule → ⊥
by_words [] said rule is link = none-some said is
by_words (k ∷ words) said rule is link = of_a_node said rule (index_of k) (send_event words) is link

pub send_is_no_link : (line : List ℕ) (words : List (List ℕ)) (said : Line) (rule : List ℕ) → words_of line ≡ codes "send" ∷ words → line_of line ≡ Some said → link_rule said ≡ Some rule → ⊥
unfolding line_of
send_is_no_link line words said rule sends is link = by_words words said rule (sym (ap line_of_words sends) ∙ is) link

-- A line that isn't read is no step of a link: only one that sends takes memory.
pub unread : (line : List ℕ) (r : Result Line LineFault) → ((l : Line) → r ≡ Ok l → ⊥) → (r ≡ Err Refused → line_of line ≡ None)
    → (r ≡ Err NoMemory → (words : List (List ℕ)) × (words_of line ≡ codes "send" ∷ words)) → (said : Line) (rule : List ℕ) → line_of line ≡ Some said → link_rule said ≡ Some rule → ⊥
unread line (Ok l) read refused memory said rule is link = read l refl
unread line (Err Refused) read refused memory said rule is link = none-some said (sym (refused refl) ∙ is)
unread line (Err NoMemory) read refused memory said rule is link = let m = memory refl in send_is_no_link line m.0 said rule m.1 is link
