use Rattle.std.proofs.Common.{◌≡◌, ◌≤◌, ◌+◌, List, length, drop}
use Rattle.bsc_octets.specs.Forwarding.{out}
use Rattle.bsc_desk.specs.declared.fate.Fate.{Fate}
use Rattle.bsc_desk.specs.Copying.{AreCopies, count_of}
use Rattle.bsc_desk.specs.Fates.{HasRoom, Tell, count_offered}
use Rattle.bsc_desk.proofs.Casts.{Reach}
use Rattle.bsc_desk.proofs.offering.offer_each.Given as goal

-- the rows before the place were gone through, with the fates that the lists tell, and there are copies and room for the rest
abbrev pub invariant-loop-row : goal.invariant-loop-row
invariant-loop-row l =
    ((fates : List Fate) × Reach l.conn (out l.frame.message l.frame.sender) l.row-index l.initial.rows fates l.rows × Tell l.told fates)
    × AreCopies (out l.frame.message l.frame.sender) l.left
    × (count_of l.left ≡ count_offered l.conn (out l.frame.message l.frame.sender) (drop l.row-index l.initial.rows))
    × HasRoom l.told (length (drop l.row-index l.initial.rows))
