-- Lines that are put one behind the other.
-- It serves the clauses of `put_told`.
use Rattle.std.proofs.Common.{◌≡◌, ℕ, ◌+◌, ◌<◌, ◌≤◌, suc, List, [], ◌∷◌, ◌++◌, length, take, get_or, flat_map, ap, sym, subst, ◌∙◌, arith, take-suc, take_all, append_assoc, append-nil}
use Rattle.std.proofs.lemmas.Grind.{flat_map-append}
use Rattle.bsc_log.specs.declared.line.Line.{Line}
use Rattle.bsc_log.specs.declared.log_record.LogRecord.{LogRecord}
use Rattle.bsc_log.specs.Batches.{AllSay, Says, ended_text}

all_say-more : (told : List LogRecord) (lines : List Line) (one : LogRecord) (line : Line) → AllSay told lines → Says one line → AllSay (told ++ one ∷ []) (lines ++ line ∷ [])
all_say-more [] [] one line all says = (says, tt)
all_say-more [] (l ∷ lines) one line all says = absurd all
all_say-more (t ∷ told) [] one line all says = absurd all
all_say-more (t ∷ told) (l ∷ lines) one line all says = (all.0, all_say-more told lines one line all.1 says)

-- behind the lines for what stands before a place stands one for what stands there
pub said_more : (told : List LogRecord) (i : ℕ) (one : LogRecord) (lines : List Line) (line : Line) → i < length told → one ≡ get_or told i one → AllSay (take i told) lines → Says one line
    → AllSay (take (i + 1) told) (lines ++ line ∷ [])
said_more told i one lines line within at all says =
    let next : i + 1 ≡ suc i = omega arith in
    let more : take (i + 1) told ≡ take i told ++ one ∷ [] =
    ap (λ (k : ℕ). take k told) next
    ∙ take-suc told i one within
    ∙ ap (λ (t : LogRecord). take i told ++ t ∷ []) (sym at) in
    subst (λ (l : List LogRecord). AllSay l (lines ++ line ∷ [])) (sym more) (all_say-more (take i told) lines one line all says)

-- and its text behind theirs
pub text_more : (text before after : List ℕ) (lines : List Line) (line : Line) → before ≡ text ++ flat_map ended_text lines → after ≡ before ++ ended_text line
    → after ≡ text ++ flat_map ended_text (lines ++ line ∷ [])
text_more text before after lines line at put =
    let more : flat_map ended_text (lines ++ line ∷ []) ≡ flat_map ended_text lines ++ ended_text line =
    flat_map-append ended_text lines (line ∷ [])
    ∙ ap (λ (l : List ℕ). flat_map ended_text lines ++ l) (append-nil (ended_text line)) in
    put ∙ ap (λ (l : List ℕ). l ++ ended_text line) at
    ∙ append_assoc text (flat_map ended_text lines) (ended_text line)
    ∙ ap (λ (l : List ℕ). text ++ l) (sym more)

-- what was told up to its end is all
pub said_all : (told : List LogRecord) (i : ℕ) (lines : List Line) → length told ≤ i → AllSay (take i told) lines → AllSay told lines
said_all told i lines end all = subst (λ (l : List LogRecord). AllSay l lines) (take_all i told end) all
