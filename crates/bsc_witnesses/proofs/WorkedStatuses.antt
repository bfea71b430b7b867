-- Runs of a small language, by the end and by the status of each: what they read, and what they wrote. And a line of `check`, with its answer.
-- No clause needs it: worked examples.
use Rattle.std.proofs.Common.{◌≡◌, ℕ, inl, inr, List, [], ◌∷◌, ◌++◌, Option, Some, None, false, refl, sym, ap, subst, true, lit≤}
use Rattle.std.specs.Prelude.{codes}
use Rattle.std.specs.List.{concat}
use Rattle.std.proofs.lemmas.Option.{same_Some}
use Rattle.hex.specs.Hex.{decode_pairs}
use Rattle.bsc_checks.proofs.OnLiterals.{verdict_on_literals}
use Rattle.bsc_text.specs.Gave.{MayFollow}
use Rattle.bsc_player.specs.declared.play_end.PlayEnd.TheVariants.{Done, BadLine, ReadFault, WriteFault, NoMemory}
use Rattle.bsc_player.specs.Echo.{echo}
use Rattle.bsc_player.specs.Ends.{PlaysOut, Taken, WritesAll, WritesSome}
use Rattle.bsc_player.specs.LastLines.{RanOut, memory_line, read_line, script_line}
use Rattle.bsc_player.specs.Playing.{Played, play, played_of}
use Rattle.bsc_player.specs.Statuses.{PlayWorld, ReadWorld, StatusSays, StatusSaysOfReads, StatusTells, play_world, read_world}
use Rattle.bsc_replay.specs.Asking.{line_of}
use Rattle.bsc_replay.specs.Checks.{check_of}
use Rattle.bsc_witnesses.proofs.Pieces.{unlike}

abbrev echoes : List ℕ → Played
echoes = played_of echo false

-- an input of which each line is accepted, and one whose third is refused
abbrev good : List ℕ
good = codes "begin\na\n"

abbrev bad : List ℕ
bad = codes "begin\na\nstop\n"

-- all of an input was read, or nothing
abbrev all_taken : (o : List ℕ) → o ≡ o ++ [] → Taken o (Some [])
all_taken o whole = record { read = o; rest = []; parts = whole; remains = refl }

abbrev none_taken : (o : List ℕ) → Taken o (Some o)
none_taken o = record { read = []; rest = o; parts = refl; remains = refl }

is_none : (n : ℕ) → ◌≡◌ {A = Option ℕ} None (Some n) → ⊥
is_none n h = cc

is_third : ◌≡◌ {A = Option ℕ} (Some 3) None → ⊥
is_third h = cc

-- ---- ends

all_written : WritesAll echoes good [] (Some []) (Some (codes "a\n"))
unfolding play
all_written = record { accepted = refl; written = refl; read = refl }

done : PlaysOut echoes Done good [] (Some []) (Some (codes "a\n"))
done = all_written

bad_line : PlaysOut echoes (BadLine 3) bad [] (Some []) (Some (codes "a\n"))
unfolding play
bad_line = record { refused = refl; written = refl; taken = all_taken bad refl; decided = inl refl; in_time = refl }

-- A read fails before the first line is whole.
read_fault : PlaysOut echoes ReadFault good [] (Some good) (Some [])
unfolding play
read_fault = record { taken = none_taken good; accepted = λ n refused. sym (same_Some 1 n refused); written = refl }

-- A write fails after its first octet.
part_written : WritesSome echoes good [] (Some []) (Some (97 ∷ []))
unfolding play
part_written = record { taken = all_taken good refl; written = (1, lit≤ tt, refl) }

write_fault : PlaysOut echoes WriteFault good [] (Some []) (Some (97 ∷ []))
write_fault = part_written

no_memory : PlaysOut echoes NoMemory good [] (Some []) (Some (97 ∷ []))
no_memory = part_written

not_done : PlaysOut echoes Done bad [] (Some []) (Some (codes "a\n")) → ⊥
unfolding play
not_done x = is_third x.accepted

not_written : PlaysOut echoes Done good [] (Some []) (Some []) → ⊥
unfolding play
not_written x = (let bad : ◌≡◌ {A = Option (List ℕ)} (Some []) (Some (codes "a\n")) = x.written in cc)

-- ---- statuses

status_0 : StatusTells echoes 0 good [] (Some []) (Some (codes "a\n")) 0 0
unfolding play
status_0 = record {
  done = λ is. all_written;
  refused = λ is. absurd (unlike 0 2 refl is);
  stopped = λ is. absurd (unlike 0 3 refl is);
  broken = λ is. absurd (unlike 0 4 refl is);
  ran_out = λ is. absurd (unlike 0 7 refl is);
  refuses = λ n refused. absurd (is_none n refused);
  accepts = λ accepted. inl refl;
}

status_2 : StatusTells echoes 2 bad [] (Some []) (Some (codes "a\n" ++ script_line 3)) 0 0
unfolding play
status_2 = record {
  done = λ is. absurd (unlike 2 0 refl is);
  refused = λ is. (3, record { refused = refl; written = refl; taken = all_taken bad refl; decided = inl refl });
  stopped = λ is. absurd (unlike 2 3 refl is);
  broken = λ is. absurd (unlike 2 4 refl is);
  ran_out = λ is. absurd (unlike 2 7 refl is);
  refuses = λ n refused. inl refl;
  accepts = λ accepted. absurd (is_third accepted);
}

status_3 : StatusTells echoes 3 good [] (Some good) (Some read_line) 0 1
unfolding play
status_3 = record {
  done = λ is. absurd (unlike 3 0 refl is);
  refused = λ is. absurd (unlike 3 2 refl is);
  stopped = λ is. record { taken = none_taken good; accepted = λ n refused. sym (same_Some 1 n refused); written = refl };
  broken = λ is. absurd (unlike 3 4 refl is);
  ran_out = λ is. absurd (unlike 3 7 refl is);
  refuses = λ n refused. absurd (is_none n refused);
  accepts = λ accepted. inr (inl refl);
}

status_4 : StatusTells echoes 4 good [] (Some []) (Some (97 ∷ [])) 0 0
unfolding play
status_4 = record {
  done = λ is. absurd (unlike 4 0 refl is);
  refused = λ is. absurd (unlike 4 2 refl is);
  stopped = λ is. absurd (unlike 4 3 refl is);
  broken = λ is. inl part_written;
  ran_out = λ is. absurd (unlike 4 7 refl is);
  refuses = λ n refused. absurd (is_none n refused);
  accepts = λ accepted. inr (inr (inl refl));
}

-- Memory runs out before anything is read, and its last line is written.
status_7 : StatusTells echoes 7 good [] (Some good) (Some memory_line) 0 0
unfolding play
status_7 = record {
  done = λ is. absurd (unlike 7 0 refl is);
  refused = λ is. absurd (unlike 7 2 refl is);
  stopped = λ is. absurd (unlike 7 3 refl is);
  broken = λ is. absurd (unlike 7 4 refl is);
  ran_out = λ is. record { taken = none_taken good; text = []; more = []; first = refl; written = (13, lit≤ tt, refl) };
  refuses = λ n refused. absurd (is_none n refused);
  accepts = λ accepted. inr (inr (inr refl));
}

-- What a source has left and a sink holds before and after such a run.
abbrev has : List ℕ → List ℕ → ℕ → PlayWorld
has left written faults = record { left = Some left; written = Some written; faults = faults }

says : (status : ℕ) (o left written : List ℕ) (faults : ℕ) → StatusTells echoes status o [] (Some left) (Some written) 0 faults
    → StatusSays echoes (has o [] 0) (has left written faults) status
says status o left written faults told =
    λ p t is held.
    subst (λ (q : List ℕ). StatusTells echoes status q t (Some left) (Some written) 0 faults) (same_Some o p is)
    (subst (λ (u : List ℕ). StatusTells echoes status o u (Some left) (Some written) 0 faults) (same_Some [] t held) told)

says_0 : StatusSays echoes (has good [] 0) (has [] (codes "a\n") 0) 0
says_0 = says 0 good [] (codes "a\n") 0 status_0

says_2 : StatusSays echoes (has bad [] 0) (has [] (codes "a\n" ++ script_line 3) 0) 2
says_2 = says 2 bad [] (codes "a\n" ++ script_line 3) 0 status_2

says_3 : StatusSays echoes (has good [] 0) (has good read_line 1) 3
says_3 = says 3 good good read_line 1 status_3

says_4 : StatusSays echoes (has good [] 0) (has [] (97 ∷ []) 0) 4
says_4 = says 4 good [] (97 ∷ []) 0 status_4

says_7 : StatusSays echoes (has good [] 0) (has good memory_line 0) 7
says_7 = says 7 good good memory_line 0 status_7

-- No run of an input with a refused line has the status 0, and none of another has the status 2.
not_0 : StatusSays echoes (has bad [] 0) (has [] (codes "a\n") 0) 0 → ⊥
unfolding play
not_0 s = is_third ((s bad [] refl refl).done refl).accepted

not_2 : StatusSays echoes (has good [] 0) (has [] (codes "a\n") 0) 2 → ⊥
unfolding play
not_2 s = (let x = (s good [] refl refl).refused refl in is_none x.0 x.1.refused)

-- ---- by what was read

abbrev read_to_the_end : List (List ℕ)
read_to_the_end = good ∷ [] ∷ []

abbrev gave : List (List ℕ) → List ℕ → ReadWorld
gave reads written = record { reads = Some reads; written = Some written; faults = 0 }

says_of_reads : StatusSaysOfReads echoes (gave [] []) (gave read_to_the_end (codes "a\n")) 0
unfolding play
says_of_reads = λ t held. (
  read_to_the_end,
  refl,
  λ rest follows.
      subst (λ (r : List ℕ). StatusTells echoes 0 (concat read_to_the_end ++ r) t (Some r) (Some (codes "a\n")) 0 0) (sym (follows refl))
      (subst (λ (u : List ℕ). StatusTells echoes 0 good u (Some []) (Some (codes "a\n")) 0 0) (same_Some [] t held) status_0),
)

-- Behind what was read more may stand. So the status 0 says that the end was read.
not_of_reads : StatusSaysOfReads echoes (gave [] []) (gave (good ∷ []) (codes "a\n")) 0 → ⊥
not_of_reads s =
    let x = s [] refl in
    let begins : good ∷ [] ≡ x.0 = x.1 in
    let told = subst (λ (g : List (List ℕ)). StatusTells echoes 0 (concat g ++ 97 ∷ []) [] (Some (97 ∷ [])) (Some (codes "a\n")) 0 0) (sym begins)
    (x.2 (97 ∷ []) (subst (λ (g : List (List ℕ)). MayFollow g (97 ∷ [])) begins (λ ended. absurd (let bad : false ≡ true = ended in cc)))) in
    some_left (told.done refl).read
  where
    some_left : ◌≡◌ {A = Option (List ℕ)} (Some (97 ∷ [])) (Some []) → ⊥
    some_left h = cc

-- ---- what there is outside, as objects tell it

world : play_world {S = List ℕ} {K = List ℕ} (λ source. Some source) (λ source. 0) (λ sink. Some sink) (7 ∷ []) [] ≡ has (7 ∷ []) [] 0
world = refl

other_world : play_world {S = List ℕ} {K = List ℕ} (λ source. Some source) (λ source. 0) (λ sink. None) (7 ∷ []) [] ≡ has (7 ∷ []) [] 0 → ⊥
other_world h = (let bad : ◌≡◌ {A = Option (List ℕ)} None (Some []) = ap (λ (w : PlayWorld). w.written) h in cc)

read : read_world {S = List (List ℕ)} {K = List ℕ} (λ source. Some source) (λ source. 0) (λ sink. Some sink) [] [] ≡ gave [] []
read = refl

other_read : read_world {S = List (List ℕ)} {K = List ℕ} (λ source. None) (λ source. 0) (λ sink. Some sink) [] [] ≡ gave [] [] → ⊥
other_read h = (let bad : ◌≡◌ {A = Option (List (List ℕ))} None (Some []) = ap (λ (w : ReadWorld). w.reads) h in cc)

-- ---- want of memory

ran_out : RanOut 7 (Some []) (Some memory_line)
ran_out = (refl, (13, lit≤ tt, refl))

did_not_run_out : RanOut 3 (Some []) (Some memory_line) → ⊥
did_not_run_out h = unlike 3 7 refl h.0

-- ---- the answers of `check`

checks : check_of (codes "# a head that is cut\nhub connected 1600 0104\n") ≡ record { text = codes "silent C1\n"; refused = None }
unfolding play line_of verdict_on_literals decode_pairs
checks = refl

checks_nothing : check_of (codes "hub connected\n") ≡ record { text = []; refused = None } → ⊥
unfolding play line_of verdict_on_literals decode_pairs
checks_nothing h = (let bad : ◌≡◌ {A = Option ℕ} (Some 1) None = ap (λ (p : Played). p.refused) h in cc)
