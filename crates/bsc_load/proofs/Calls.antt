-- Lists of calls and of entries.
-- It serves clauses of functions of `passes`, `storm`, `worker` and `workload`.
use Rattle.std.proofs.Common.{◌≡◌, ℕ, ◌≤◌, List, length, take, None, ap, sym}
use Rattle.std.proofs.lemmas.List.FromFn.{length-map-range_with_len, take-map-range_with_len}
use Rattle.bsc_history.specs.declared.call.Call.{Call}
use Rattle.bsc_history.specs.declared.call.Call.TheVariants.{Forward}
use Rattle.bsc_history.specs.declared.entry.Entry.{Entry}
use Rattle.bsc_history.specs.Entries.{connection_of, made_by}
use Rattle.bsc_load.specs.Frames.{frame}
use Rattle.bsc_load.specs.Workers.{forwards}

-- a forward joins nobody
pub forward_joins_none : (e : Entry) (s : ℕ) (m : List ℕ) → e.call ≡ Forward s m → connection_of e ≡ None
forward_joins_none e s m is = ap (λ (c : Call). made_by e.caller c e.reply) is

-- the first forwards are the first of a thousand
pub first_forwards : (i s n : ℕ) → n ≤ 1000 → forwards i s n ≡ take n (forwards i s 1000)
first_forwards i s n few = sym (take-map-range_with_len (λ k. Forward s (frame i k)) 0 1000 n few)

-- how many there are
pub length_forwards : (i s n : ℕ) → length (forwards i s n) ≡ n
length_forwards i s n = length-map-range_with_len (λ k. Forward s (frame i k)) 0 n
