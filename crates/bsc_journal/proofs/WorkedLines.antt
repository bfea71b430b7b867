-- Lines of every kind of entry, worked by hand, and what has no line.
-- No clause needs it: worked examples.
use Rattle.std.proofs.Common.{◌≡◌, ◌<◌, [], ◌∷◌, codes, Some, None, true, false, refl, arith}
use Rattle.uuid.proofs.OnLiterals.{uuid_on_literals}
use Rattle.bsc_script.proofs.OnLiterals.{script_on_literals}
use Rattle.bsc_script.specs.declared.line.Line.TheVariants.{Hub}
use Rattle.bsc_script.specs.Lines.{line_of}
use Rattle.bsc_history.specs.declared.call.Call.TheVariants.{Connect, Forward, Leave, Stop, Count}
use Rattle.bsc_history.specs.declared.ending.End.TheVariants.{Left, Replaced, Full, Stopped as EndStopped}
use Rattle.bsc_history.specs.declared.reply.Refusal.TheVariants.{Stopped as RefusedStopped, Duplicate, TableFull}
use Rattle.bsc_history.specs.declared.reply.Reply.TheVariants.{Joined, Refused, Closed, Skipped, NoHolder, SentAll, NotCurrent, Stopped, Gone, Counted}
use Rattle.bsc_lines.specs.Lines.{entry_line}
use Rattle.bsc_journal.specs.Saying.{FitsCall, HasOctets, ShowsLooks, call_is_short, is_denial, is_short, reply_is_short}
use Rattle.bsc_journal.proofs.OnLiterals.{journals_on_literals}
use Rattle.bsc_journal.proofs.WorkedPieces.{peer, peer_a, one_to_nine, the_hub, entry, look, to_b, a_joins, b_joins, a_sends, hub_line, a_line, b_line, sent_line, early_line}

-- ---- connects

joins : (entry_line 0 a_joins ≡ a_line) × (entry_line 1 b_joins ≡ b_line)
unfolding journals_on_literals script_on_literals
joins = (refl, refl)

takes_over : entry_line 7 (entry (Connect peer_a) [] (Joined 4 (Some 1)))
    ≡ codes "7 1 connect 02000000000AAAAAAAAAAAAAAAAAAAAAAAAAAAAAAAAA064005D9 joined 4 replacing 1"
unfolding journals_on_literals script_on_literals
takes_over = refl

are_refused :
    (entry_line 3 (entry (Connect peer_a) [] (Refused (Duplicate None)))
    ≡ codes "3 1 connect 02000000000AAAAAAAAAAAAAAAAAAAAAAAAAAAAAAAAA064005D9 duplicate hub")
    × (entry_line 3 (entry (Connect peer_a) [] (Refused (Duplicate (Some 2))))
    ≡ codes "3 1 connect 02000000000AAAAAAAAAAAAAAAAAAAAAAAAAAAAAAAAA064005D9 duplicate 2")
    × (entry_line 3 (entry (Connect peer_a) [] (Refused (TableFull 256)))
    ≡ codes "3 1 connect 02000000000AAAAAAAAAAAAAAAAAAAAAAAAAAAAAAAAA064005D9 tablefull 256")
    × (entry_line 3 (entry (Connect peer_a) [] (Refused RefusedStopped))
    ≡ codes "3 1 connect 02000000000AAAAAAAAAAAAAAAAAAAAAAAAAAAAAAAAA064005D9 stopped")
unfolding journals_on_literals script_on_literals
are_refused = (refl, refl, refl, refl)

-- ---- forwards

unicasts :
    (entry_line 2 (a_sends 0) ≡ sent_line)
    × (entry_line 2 (a_sends 1) ≡ early_line)
    × (entry_line 2 (entry (Forward 1 to_b) (look 2 0 ∷ []) (Closed 2))
    ≡ codes "2 1 forward 1 0104000202000000000B0100 looks 2:0 full 2")
    × (entry_line 2 (entry (Forward 1 to_b) [] (Skipped 2))
    ≡ codes "2 1 forward 1 0104000202000000000B0100 looks - long 2")
    × (entry_line 2 (entry (Forward 1 to_b) [] NoHolder)
    ≡ codes "2 1 forward 1 0104000202000000000B0100 looks - noholder")
    × (entry_line 2 (entry (Forward 1 to_b) [] (NotCurrent Replaced))
    ≡ codes "2 1 forward 1 0104000202000000000B0100 looks - notcurrent replaced")
    × (entry_line 2 (entry (Forward 1 to_b) [] Stopped)
    ≡ codes "2 1 forward 1 0104000202000000000B0100 looks - stopped")
unfolding journals_on_literals script_on_literals
unicasts = (refl, refl, refl, refl, refl, refl, refl)

broadcasts :
    (entry_line 20 (entry (Forward 1 (1 ∷ 0xAB ∷ [])) (look 2 0 ∷ look 3 17 ∷ look 5 4 ∷ []) (SentAll (2 ∷ 5 ∷ []) (3 ∷ []) (4 ∷ [])))
    ≡ codes "20 1 forward 1 01AB looks 2:0,3:17,5:4 sentall to=2,5 missed=3 skipped=4")
    × (entry_line 20 (entry (Forward 1 (1 ∷ 0xAB ∷ [])) [] (SentAll [] [] []))
    ≡ codes "20 1 forward 1 01AB looks - sentall to=- missed=- skipped=-")
unfolding journals_on_literals script_on_literals
broadcasts = (refl, refl)

-- ---- leaves, a stop, counts

leaves :
    (entry_line 9 (entry (Leave 1 12 40) [] (Gone Left 12)) ≡ codes "9 1 leave 1 12 40 gone left 12")
    × (entry_line 9 (entry (Leave 1 0 0) [] (Gone Full 0)) ≡ codes "9 1 leave 1 0 0 gone full 0")
    × (entry_line 9 (entry (Leave 1 0 0) [] (Gone EndStopped 0)) ≡ codes "9 1 leave 1 0 0 gone stopped 0")
unfolding journals_on_literals script_on_literals
leaves = (refl, refl, refl)

stops_and_counts :
    (entry_line 5 (entry Stop [] (Counted one_to_nine))
    ≡ codes "5 1 stop counts joined=1 replaced=2 refused=3 unicasts=4 broadcasts=5 appended=6 dropped=7 full=8 missed=9")
    × (entry_line 5 (entry Count [] (Counted (record one_to_nine { missed = 10 })))
    ≡ codes "5 1 count counts joined=1 replaced=2 refused=3 unicasts=4 broadcasts=5 appended=6 dropped=7 full=8 missed=10")
unfolding journals_on_literals script_on_literals
stops_and_counts = (refl, refl)

-- ---- what has a line, and what hasn't

-- nineteen digits are a number, and twenty are none
numbers :
    (is_short 9999999999999999999 ≡ true)
    × (is_short 10000000000000000000 ≡ false)
    × (reply_is_short (SentAll (2 ∷ []) (10000000000000000000 ∷ []) []) ≡ false)
    × (call_is_short (Leave 1 2 10000000000000000000) ≡ false)
numbers = (refl, refl, refl, refl)

-- an empty frame has no line, nor has what isn't an octet, nor a device of one octet
empty_frame : HasOctets (Forward 1 []) → ⊥
empty_frame h = let some : 0 < 0 = h.1 in omega (arith, some)

no_octet : HasOctets (Forward 1 (1 ∷ 256 ∷ [])) → ⊥
no_octet h = let octets = h.0 in cc

short_device : HasOctets (Connect (peer 1 (0 ∷ []))) → ⊥
short_device h = let long : 11 ≡ 26 = h.long in omega (arith, long)

-- a leave with looks has no line
leave_looks : ShowsLooks (Leave 1 0 0) (look 2 0 ∷ []) → ⊥
leave_looks h = cc

-- `stopped` is read by its call
connect_stopped : FitsCall (Connect peer_a) Stopped → ⊥
connect_stopped h = cc

forward_refused : FitsCall (Forward 1 to_b) (Refused RefusedStopped) → ⊥
forward_refused h = cc

-- ---- the other lines

hubs :
    (line_of hub_line ≡ Some (Hub the_hub))
    × (line_of (codes " hub 0200000000ff 00112233-4455-6677-8899-aabbccddeeff 0640 05d9  256 64 4503599627370496") ≡ Some (Hub the_hub))
unfolding script_on_literals uuid_on_literals
hubs = (refl, refl)

denials :
    (is_denial (codes "deny 1 from 02000000000A to 02000000000C") ≡ true)
    × (is_denial (codes "deny") ≡ true)
    × (is_denial (codes "den") ≡ false)
    × (is_denial (codes " deny 0") ≡ false)
    × (is_denial sent_line ≡ false)
denials = (refl, refl, refl, refl, refl)
