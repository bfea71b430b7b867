-- Lines of every kind of entry, read back.
-- No clause needs it: worked examples.
use Rattle.std.proofs.Common.{◌≡◌, ℕ, [], ◌∷◌, codes, Option, Some, None, refl}
use Rattle.hex.specs.Hex.{decode_pairs}
use Rattle.bsc_history.specs.declared.call.Call.TheVariants.{Connect, Forward, Leave, Stop, Count}
use Rattle.bsc_history.specs.declared.ending.End.TheVariants.{Left, Replaced, Full, Stopped as EndStopped}
use Rattle.bsc_history.specs.declared.entry.Entry.{Entry}
use Rattle.bsc_history.specs.declared.reply.Refusal.TheVariants.{Stopped as RefusedStopped, Duplicate, TableFull}
use Rattle.bsc_history.specs.declared.reply.Reply.TheVariants.{Joined, Refused, Closed, Skipped, NoHolder, SentAll, NotCurrent, Stopped, Gone, Counted}
use Rattle.bsc_journal.specs.Reading.{read_of}
use Rattle.bsc_journal.proofs.WorkedPieces.{peer_a, one_to_nine, entry, look, to_b, a_joins, b_joins, a_sends, a_line, b_line, sent_line, early_line}

-- an entry that was read at its place
abbrev at : ℕ → Entry → Option (ℕ × Entry)
at place e = Some (place, e)

connects :
    (read_of a_line ≡ at 0 a_joins)
    × (read_of b_line ≡ at 1 b_joins)
    × (read_of (codes "7 1 connect 02000000000AAAAAAAAAAAAAAAAAAAAAAAAAAAAAAAAA064005D9 joined 4 replacing 1")
    ≡ at 7 (entry (Connect peer_a) [] (Joined 4 (Some 1))))
    × (read_of (codes "3 1 connect 02000000000AAAAAAAAAAAAAAAAAAAAAAAAAAAAAAAAA064005D9 duplicate hub")
    ≡ at 3 (entry (Connect peer_a) [] (Refused (Duplicate None))))
    × (read_of (codes "3 1 connect 02000000000AAAAAAAAAAAAAAAAAAAAAAAAAAAAAAAAA064005D9 duplicate 2")
    ≡ at 3 (entry (Connect peer_a) [] (Refused (Duplicate (Some 2)))))
    × (read_of (codes "3 1 connect 02000000000AAAAAAAAAAAAAAAAAAAAAAAAAAAAAAAAA064005D9 tablefull 256")
    ≡ at 3 (entry (Connect peer_a) [] (Refused (TableFull 256))))
    × (read_of (codes "3 1 connect 02000000000AAAAAAAAAAAAAAAAAAAAAAAAAAAAAAAAA064005D9 stopped")
    ≡ at 3 (entry (Connect peer_a) [] (Refused RefusedStopped)))
unfolding read_of decode_pairs
connects = (refl, refl, refl, refl, refl, refl, refl)

forwards :
    (read_of sent_line ≡ at 2 (a_sends 0))
    × (read_of early_line ≡ at 2 (a_sends 1))
    × (read_of (codes "2 1 forward 1 0104000202000000000B0100 looks 2:0 full 2") ≡ at 2 (entry (Forward 1 to_b) (look 2 0 ∷ []) (Closed 2)))
    × (read_of (codes "2 1 forward 1 0104000202000000000B0100 looks - long 2") ≡ at 2 (entry (Forward 1 to_b) [] (Skipped 2)))
    × (read_of (codes "2 1 forward 1 0104000202000000000B0100 looks - noholder") ≡ at 2 (entry (Forward 1 to_b) [] NoHolder))
    × (read_of (codes "2 1 forward 1 0104000202000000000B0100 looks - notcurrent replaced") ≡ at 2 (entry (Forward 1 to_b) [] (NotCurrent Replaced)))
    × (read_of (codes "2 1 forward 1 0104000202000000000B0100 looks - stopped") ≡ at 2 (entry (Forward 1 to_b) [] Stopped))
    × (read_of (codes "20 1 forward 1 01AB looks 2:0,3:17,5:4 sentall to=2,5 missed=3 skipped=4")
    ≡ at 20 (entry (Forward 1 (1 ∷ 0xAB ∷ [])) (look 2 0 ∷ look 3 17 ∷ look 5 4 ∷ []) (SentAll (2 ∷ 5 ∷ []) (3 ∷ []) (4 ∷ []))))
    × (read_of (codes "20 1 forward 1 01AB looks - sentall to=- missed=- skipped=-")
    ≡ at 20 (entry (Forward 1 (1 ∷ 0xAB ∷ [])) [] (SentAll [] [] [])))
unfolding read_of decode_pairs
forwards = (refl, refl, refl, refl, refl, refl, refl, refl, refl)

others :
    (read_of (codes "9 1 leave 1 12 40 gone left 12") ≡ at 9 (entry (Leave 1 12 40) [] (Gone Left 12)))
    × (read_of (codes "9 1 leave 1 0 0 gone full 0") ≡ at 9 (entry (Leave 1 0 0) [] (Gone Full 0)))
    × (read_of (codes "9 1 leave 1 0 0 gone stopped 0") ≡ at 9 (entry (Leave 1 0 0) [] (Gone EndStopped 0)))
    × (read_of (codes "5 1 stop counts joined=1 replaced=2 refused=3 unicasts=4 broadcasts=5 appended=6 dropped=7 full=8 missed=9")
    ≡ at 5 (entry Stop [] (Counted one_to_nine)))
    × (read_of (codes "6 1 count counts joined=1 replaced=2 refused=3 unicasts=4 broadcasts=5 appended=6 dropped=7 full=8 missed=9")
    ≡ at 6 (entry Count [] (Counted one_to_nine)))
unfolding read_of decode_pairs
others = (refl, refl, refl, refl, refl)

nothing :
    (read_of (codes "# a comment") ≡ None)
    × (read_of [] ≡ None)
    × (read_of (codes "10000000000000000000 1 stop stopped") ≡ None)
unfolding read_of decode_pairs
nothing = (refl, refl, refl)
