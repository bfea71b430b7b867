-- Scripts of a node that are written out, and what they mean.
-- No clause needs it: worked examples.
use Rattle.std.specs.Prelude.{◌≡◌, [], ◌∷◌, codes, Ok, Err, refl}
use Rattle.hex.specs.Hex.{decode_pairs}
use Rattle.bsc_node.specs.declared.node_event.NodeEvent.TheVariants.{Send, Resolve, Finish}
use Rattle.bsc_node_run.specs.Saying.{line_of}
use Rattle.bsc_node_run.specs.Scripts.{script_of}

-- What is asked before the first `at` is asked at once; the last line may do without its LF.
at_once : script_of (codes "finish") ≡ Ok (record { at = 0; event = Finish } ∷ [])
unfolding script_of line_of
at_once = refl

-- A comment and an empty line ask nothing; what is asked behind an `at` is asked at its time.
in_order : script_of (codes "# three\nresolve 02000000000B\n\nat 20\nsend 02000000000b 0 1 20\r\nat 20\nfinish\n")
    ≡ Ok (record { at = 0; event = Resolve (record { 0 = 2 ∷ 0 ∷ 0 ∷ 0 ∷ 0 ∷ 11 ∷ [] }) }
    ∷ record { at = 20; event = Send (record { 0 = 2 ∷ 0 ∷ 0 ∷ 0 ∷ 0 ∷ 11 ∷ [] }) (1 ∷ 32 ∷ []) }
    ∷ record { at = 20; event = Finish } ∷ [])
unfolding script_of line_of decode_pairs
in_order = refl

-- A time may not be less than the one before.
back_in_time : script_of (codes "at 20\nat 19\nfinish\n") ≡ Err 2
unfolding script_of line_of
back_in_time = refl

-- Behind `finish` a comment may stand, and nothing else.
behind_finish : script_of (codes "finish\n# the end\nat 5\n") ≡ Err 3
unfolding script_of line_of
behind_finish = refl

-- A script without `finish` is bad at the number after its last line, whether or not that has its LF.
without_finish : script_of (codes "at 5\n\n") ≡ Err 3
unfolding script_of line_of
without_finish = refl

no_octets : script_of [] ≡ Err 1
unfolding script_of line_of
no_octets = refl

-- The broadcast is one whom an NPDU is sent to, and no one who is asked; an NPDU has an octet.
to_all : script_of (codes "send FFFFFFFFFFFF 01\nfinish") ≡ Ok (record { at = 0; event = Send (record { 0 = 255 ∷ 255 ∷ 255 ∷ 255 ∷ 255 ∷ 255 ∷ [] }) (1 ∷ []) }
    ∷ record { at = 0; event = Finish } ∷ [])
unfolding script_of line_of decode_pairs
to_all = refl

asks_all : script_of (codes "resolve FFFFFFFFFFFF\nfinish") ≡ Err 1
unfolding script_of line_of decode_pairs
asks_all = refl

sends_nothing : script_of (codes "send 02000000000B\nfinish") ≡ Err 1
unfolding script_of line_of decode_pairs
sends_nothing = refl
