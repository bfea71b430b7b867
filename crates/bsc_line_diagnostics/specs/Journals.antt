-- What a line of a journal breaks, by its words.
use Rattle.std.specs.Prelude.{◌≡◌, ℕ, ◌==◌, ◌||◌, Bool, if◌then◌else◌, List, [], ◌∷◌, codes, drop, length, Option, Some, None, Result, Ok, Err}
use Rattle.bsc_text.specs.Lines.{same_octets}
use Rattle.bsc_text.specs.Words.{begins_comment, words_of}
use Rattle.bsc_diagnostics.specs.Broken.{number_rule, unless}
use Rattle.bsc_diagnostics.specs.declared.diagnostic.Diagnostic.{Diagnostic}
use Rattle.bsc_diagnostics.specs.Forms.{Broken, Says, digits_rule, first, line, missing, octets_broken, of_word, wrong}
use Rattle.bsc_line_diagnostics.specs.Scripts.{hub_broken}

abbrev pub entry_form : List ℕ
entry_form = codes "PLACE CALLER CALL REPLY"

-- whether a reply may begin with a word: that of a connect or of a hub that is stopped, that of a forward, or another
abbrev pub is_answer : List ℕ → Bool
is_answer it = same_octets it (codes "joined") || same_octets it (codes "duplicate") || same_octets it (codes "tablefull") || same_octets it (codes "stopped")

abbrev pub is_sending : List ℕ → Bool
is_sending it =
    same_octets it (codes "sent") || same_octets it (codes "full") || same_octets it (codes "long") || same_octets it (codes "noholder")
    || same_octets it (codes "sentall") || same_octets it (codes "notcurrent")

abbrev pub is_reply : List ℕ → Bool
is_reply it = is_answer it || is_sending it || same_octets it (codes "gone") || same_octets it (codes "counts")

-- the reply, by its first word
abbrev pub begins_reply : List ℕ → Option (List ℕ)
begins_reply it =
    unless (is_reply it)
    (codes "begins no reply: joined, duplicate, tablefull, stopped, sent, full, long, noholder, sentall, notcurrent, gone and counts do")

abbrev pub reply_broken : List (List ℕ) → Option Broken
reply_broken [] = Some (missing entry_form)
reply_broken (it ∷ words) = of_word it (begins_reply it)

-- a connect, behind its name: the digits of an identity
abbrev pub connect_own : List (List ℕ) → Option Broken
connect_own [] = Some (missing (codes "PLACE CALLER connect DIGITS REPLY"))
connect_own (it ∷ words) =
    first (of_word it (digits_rule it)) (of_word it (unless (length it == 52) (codes "isn't 52 hexadecimal digits")))

-- a forward: a connection, octets, `looks` and a word of them
abbrev pub forward_own : List (List ℕ) → Option Broken
forward_own (conn ∷ frame ∷ looks ∷ it ∷ words) =
    first (of_word conn (number_rule conn))
    (first (octets_broken (words_of frame)) (of_word looks (unless (same_octets looks (codes "looks")) (codes "isn't `looks`"))))
forward_own words = Some (missing (codes "PLACE CALLER forward C OCTETS looks L REPLY"))

-- a leave: three numbers
abbrev pub leave_own : List (List ℕ) → Option Broken
leave_own (conn ∷ taken ∷ empties ∷ words) = wrong (number_rule ∷ number_rule ∷ number_rule ∷ []) (conn ∷ taken ∷ empties ∷ [])
leave_own words = Some (missing (codes "PLACE CALLER leave C TAKEN EMPTIES REPLY"))

-- a call, by its name and the words behind it, as far as these are its own; and where its reply begins
abbrev pub call_own : List ℕ → List (List ℕ) → Option Broken
call_own call words =
    if same_octets call (codes "connect") then connect_own words
    else if same_octets call (codes "forward") then forward_own words
    else if same_octets call (codes "leave") then leave_own words
    else of_word call (unless (same_octets call (codes "stop") || same_octets call (codes "count"))
    (codes "is no call: connect, forward, leave, stop and count are"))

abbrev pub behind_call : List ℕ → List (List ℕ) → List (List ℕ)
behind_call call words =
    if same_octets call (codes "connect") then drop 1 words
    else if same_octets call (codes "forward") then drop 4 words
    else if same_octets call (codes "leave") then drop 3 words
    else words

-- What is broken is told; else these words are left.
abbrev pub TellsOrLeaves : {S : Type 0} → (S → List (List ℕ)) → Result S Diagnostic → Option Broken → List (List ℕ) → Type 0
TellsOrLeaves words (Ok rest) None left = words rest ≡ left
TellsOrLeaves words (Err told) (Some broken) left = Says told broken
TellsOrLeaves words answer broken left = ⊥

-- an entry: its place, its caller, and its call
abbrev pub entry_broken : List (List ℕ) → Option Broken
entry_broken (place ∷ caller ∷ call ∷ words) =
    first (wrong (number_rule ∷ number_rule ∷ []) (place ∷ caller ∷ []))
    (first (call_own call words) (reply_broken (behind_call call words)))
entry_broken words = Some (missing entry_form)

-- a hub line, which has to say its calls
abbrev pub hub_line_broken : List (List ℕ) → Option Broken
hub_line_broken words = first (hub_broken words) (Some (line (codes "the hub line of a journal says CALLS too")))

-- a line, by its words
abbrev pub journal_broken : List (List ℕ) → Option Broken
journal_broken [] = Some (line (codes "a journal has no empty lines"))
journal_broken (it ∷ words) =
    if begins_comment it then Some (line (codes "a journal has no comments"))
    else if same_octets it (codes "hub") then hub_line_broken words
    else entry_broken (it ∷ words)
