-- Which rule a refused line breaks, written out.
-- No clause needs it: worked examples.
use Rattle.std.proofs.Common.{◌≡◌, ℕ, List, [], ◌∷◌, codes, Option, Some, None, Ok, Err, refl, true, false}
use Rattle.bsc_diagnostics.specs.declared.diagnostic.Diagnostic.{Diagnostic}
use Rattle.bsc_diagnostics.specs.Broken.{IsMissing, IsMore, IsOfWord, Tells, time_rule, within_rule}
use Rattle.bsc_diagnostics.specs.Forms.{Broken, Says, TellsFirst, any, by_form, first, line, missing, more, octets_broken, or_no_line, word}
use Rattle.bsc_line_diagnostics.specs.Journals.{journal_broken}
use Rattle.bsc_line_diagnostics.specs.NodeScripts.{TellsBroken, node_script_broken}
use Rattle.bsc_line_diagnostics.specs.Scripts.{script_broken}
use Rattle.bsc_network_diagnostics.specs.Lines.{network_broken}

-- ---- the first that is broken

first_is_told : first (Some (missing (codes "at MS"))) (Some (missing (codes "stop"))) ≡ Some (missing (codes "at MS"))
first_is_told = refl

none_is_told : or_no_line (codes "it is no line") None ≡ line (codes "it is no line")
none_is_told = refl

-- A check that finds nothing broken tells nothing.
nothing_broken : TellsFirst {T = ℕ} (Ok 0) None
nothing_broken = tt

broken_is_told : TellsFirst {T = ℕ} (Ok 0) (Some (missing [])) → ⊥
broken_is_told h = h

node_breaks_nothing : TellsBroken None None
node_breaks_nothing = tt

node_is_told : TellsBroken None (Some (missing [])) → ⊥
node_is_told h = h

word_is_right : Tells {T = ℕ} (Ok 0) (codes "7") (within_rule 1 9 (codes "is no number from 1 to 9") (Some 7))
word_is_right = refl

-- ---- lines of a script

no_such_line : script_broken (codes "x" ∷ [])
    ≡ Some (word (codes "x") (codes "begins no line: hub, open, in, text, drop, hold, free, at, stop and counts do"))
no_such_line = refl

nothing_behind_stop : script_broken (codes "stop" ∷ codes "now" ∷ []) ≡ Some (more (codes "now") (codes "stop"))
nothing_behind_stop = refl

no_name : script_broken (codes "open" ∷ []) ≡ Some (missing (codes "open NAME"))
no_name = refl

name_of_the_hub : script_broken (codes "open" ∷ codes "hub" ∷ [])
    ≡ Some (word (codes "hub") (codes "is no name of 1 to 16 letters, digits or `_`, or is `hub`"))
name_of_the_hub = refl

-- Of a word too many and a wrong name the word too many is told.
too_many_first : script_broken (codes "open" ∷ codes "hub" ∷ codes "b" ∷ []) ≡ Some (more (codes "b") (codes "open NAME"))
too_many_first = refl

odd_digits : script_broken (codes "in" ∷ codes "a" ∷ codes "01" ∷ codes "2" ∷ []) ≡ Some (line (codes "its hexadecimal digits are an odd number"))
odd_digits = refl

no_digit : octets_broken (codes "0g" ∷ codes "1" ∷ []) ≡ Some (word (codes "0g") (codes "has octets that are no hexadecimal digits"))
no_digit = refl

short_hub_line : script_broken (codes "hub" ∷ codes "02" ∷ []) ≡ Some (missing (codes "hub VMAC UUID MAXB MAXN ROWS OUTBOX [CALLS]"))
short_hub_line = refl

any_word : by_form (codes "text NAME") (any ∷ []) (codes "b" ∷ []) ≡ None
any_word = refl

late_time : time_rule (Some 1000000000000001) ≡ codes "is above 10^15 milliseconds"
late_time = refl

-- ---- lines of a node's script, of a journal and of a network

nothing_sent : node_script_broken (codes "send" ∷ []) ≡ Some (missing (codes "send VMAC OCTETS"))
nothing_sent = refl

comments_break_nothing : node_script_broken (codes "# x" ∷ []) ≡ None
comments_break_nothing = refl

no_comment_in_a_journal : journal_broken (codes "#" ∷ []) ≡ Some (line (codes "a journal has no comments"))
no_comment_in_a_journal = refl

place_before_call : journal_broken (codes "a" ∷ codes "b" ∷ codes "c" ∷ [])
    ≡ Some (word (codes "a") (codes "is no number of 1 to 19 digits without a sign or a leading zero"))
place_before_call = refl

no_number_of_a_link : network_broken (codes "up" ∷ codes "x" ∷ []) ≡ Some (word (codes "x") (codes "is no number from 0 to 4294967295"))
no_number_of_a_link = refl

behind_the_device : network_broken (codes "node" ∷ codes "02" ∷ []) ≡ Some (missing (codes "node VMAC UUID [direct]"))
behind_the_device = refl
