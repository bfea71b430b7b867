-- Inputs of the small language, and what they come to, worked by hand.
-- No clause needs it: worked examples.
use Rattle.std.proofs.Common.{◌≡◌, [], false, codes, refl, Some, None}
use Rattle.bsc_player.specs.Playing.{play, played_of}
use Rattle.bsc_player.specs.Echo.{echo}

-- an input of no lines may not end here: it is refused at its first line
nothing : played_of echo false [] ≡ record { text = []; refused = Some 1 }
unfolding play
nothing = refl

-- lines are repeated; the last one may have no LF, and a CR before an LF is no part of a line
repeated : played_of echo false (codes "begin\na\r\n\nb") ≡ record { text = codes "a\n\nb\n"; refused = None }
unfolding play
repeated = refl

-- the text of the lines before a refused one stands
stopped : played_of echo false (codes "begin\na\nstop\nb\n") ≡ record { text = codes "a\n"; refused = Some 3 }
unfolding play
stopped = refl
