-- What the lines say that a replay writes.
use Rattle.std.specs.Prelude.{ℕ, List, [], ◌∷◌, ◌++◌, codes, decimal}
use Rattle.hex.specs.Hex.{encode_upper}
use Rattle.bsc_frame.specs.declared.check.Check.{Check}
use Rattle.bsc_accept.specs.declared.closing.Closing.{Closing}
use Rattle.bsc_accept.specs.Reasons.{reason_text}
use Rattle.bsc_frame.specs.CheckNames.{check_name}

-- ---- messages, silence and closings

-- a message is put
abbrev pub out_words : List ℕ → List ℕ
out_words m = codes "out " ++ encode_upper m

-- a message was met with silence, at this check
abbrev pub silent_words : Check → List ℕ
silent_words check = codes "silent " ++ check_name check

-- a word behind a space, where there is one
abbrev pub behind_space : List ℕ → List ℕ
behind_space [] = []
behind_space (c ∷ w) = codes " " ++ (c ∷ w)

-- A WebSocket is closed: the code, and the text of the reason where it has one.
abbrev pub close_words : Closing → List ℕ
close_words c = codes "close " ++ decimal c.code ++ behind_space (reason_text c.reason)
