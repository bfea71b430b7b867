-- What a run that a fault stopped has written: a first part of what the node of its log told and delivered.
-- It serves the clauses of `stopped_runs_have_logs` and `stopped_scripts_have_logs`.
use Rattle.std.proofs.Common.{◌≡◌, ◌≤◌, ℕ, zero, suc, ◌+◌, inl, inr, List, [], ◌∷◌, ◌++◌, length, length-append, take, Option, Some, None, refl, ap, sym, subst, ◌∙◌, arith, append-nil, append_assoc}
use Rattle.std.specs.Prelude.{filter_map, map}
use Rattle.std.specs.Io.KnownBytes.{Appends}
use Rattle.std.specs.List.{concat}
use Rattle.std.proofs.KnownBytes.{Appends-trans}
use Rattle.std.proofs.lemmas.List.{map-append}
use Rattle.std.proofs.lemmas.List.Elements.{filter_map-append}
use Rattle.std.proofs.lemmas.List.Folds.{concat-append}
use Rattle.bsc_outside.specs.Faults.{PutsPrefix}
use Rattle.bsc_accept.specs.declared.closing.Closing.{Closing}
use Rattle.bsc_edge.specs.declared.said.Said.{Said}
use Rattle.bsc_node.specs.declared.link_name.LinkName.{LinkName}
use Rattle.bsc_node.specs.declared.action.Action.{Action}
use Rattle.bsc_node.specs.declared.action.Action.TheVariants.{Dial, Take, Refuse, Put, Close, Deliver, Tell, Draw}
use Rattle.bsc_node.specs.Logs.{Line, Log, action_of}
use Rattle.bsc_node_laws.specs.Said.{line_by, text_of}
use Rattle.bsc_node_laws.proofs.Saying.{SaysBetween, carries-says, none_written}
use Rattle.bsc_node_run.specs.Stopping.{Breaks, ClosesPart, DoesPart, PutsPart, RefusesPart}
use Rattle.bsc_node_run.specs.Worlds.{World}
use Rattle.bsc_node_links.proofs.Using.{same_self}

-- ---- first parts

take-past : (xs ys : List ℕ) (m n : ℕ) → m ≡ length xs + n → take m (xs ++ ys) ≡ xs ++ take n ys
take-past [] ys m n is = (let same : m ≡ n = omega arith in ap (λ (i : ℕ). take i ys) same)
take-past (x ∷ xs) ys zero n is = absurd (omega arith)
take-past (x ∷ xs) ys (suc m) n is = ap (λ (l : List ℕ). x ∷ l) (take-past xs ys m n (omega arith))

take-first : (xs ys : List ℕ) (n : ℕ) → n ≤ length xs → take n (xs ++ ys) ≡ take n xs
take-first xs ys zero h = refl
take-first [] ys (suc n) h = absurd (omega arith)
take-first (x ∷ xs) ys (suc n) h = ap (λ (l : List ℕ). x ∷ l) (take-first xs ys n (omega arith))

-- nothing was written
pub prefix_none : (h k : Option (List ℕ)) (text : List ℕ) → k ≡ h → PutsPrefix h k text
prefix_none h k text e = (0, omega arith, none_written h k e)

-- more might have been
prefix_more : (h k : Option (List ℕ)) (xs ys : List ℕ) → PutsPrefix h k xs → PutsPrefix h k (xs ++ ys)
prefix_more h k xs ys (n, within, a) =
    let long : length (xs ++ ys) ≡ length xs + length ys = length-append xs ys in
    (n, omega (arith, within, long), subst (Appends h k) (sym (take-first xs ys n within)) a)

-- one text was written, and a first part of the next
prefix_then : (h k l : Option (List ℕ)) (xs ys : List ℕ) → Appends h k xs → PutsPrefix k l ys → PutsPrefix h l (xs ++ ys)
prefix_then h k l xs ys a (n, within, b) =
    let long : length (xs ++ ys) ≡ length xs + length ys = length-append xs ys in
    (length xs + n, omega (arith, within, long), subst (Appends h l) (sym (take-past xs ys (length xs + n) n refl)) (Appends-trans h k l xs (take n ys) a b))

-- ---- actions

module _ {L : Type 0} (talk : L → Option (List Said)) where
  put_writes : (name : LinkName) (o : List ℕ) (k : Option L) (w v : World L) → PutsPart talk name o k w v → v.held ≡ w.held
  put_writes name o None w v h = absurd h
  put_writes name o (Some l) w v (m, inl (g, s)) = s.held
  put_writes name o (Some l) w v (m, inr (g, inl s)) = s.held
  put_writes name o (Some l) w v (m, inr (g, inr s)) = s.held

  close_writes : (name : LinkName) (c : Closing) (k : Option L) (w v : World L) → ClosesPart talk name c k w v → v.held ≡ w.held
  close_writes name c None w v h = absurd h
  close_writes name c (Some l) w v (m, g, s) = s.held

  refuse_writes : (c : Closing) (k : Option L) (w v : World L) → RefusesPart talk c k w v → v.held ≡ w.held
  refuse_writes c None w v h = absurd h
  refuse_writes c (Some l) w v (m, g, s) = s.held

  part_writes : (action : Action) (w v : World L) → DoesPart talk action w v → PutsPrefix w.held v.held (line_by action)
  part_writes (Dial name uri) w v (given, grew, behind, came_so, held, s) = prefix_none w.held v.held [] held
  part_writes (Take name) w v h = absurd h
  part_writes (Refuse c) w v h = prefix_none w.held v.held [] (refuse_writes c w.arrived w v h)
  part_writes (Put name o) w v h = prefix_none w.held v.held [] (put_writes name o (w.link name) w v h)
  part_writes (Close name c) w v h = prefix_none w.held v.held [] (close_writes name c (w.link name) w v h)
  part_writes (Deliver d) w v (dials, held, s) = held
  part_writes (Tell note) w v (dials, held, s) = held
  part_writes Draw w v h = absurd h

  pub breaks_write : (actions : List Action) (w v : World L) → Breaks talk actions w v → PutsPrefix w.held v.held (concat (map line_by actions))
  breaks_write [] w v b = absurd b
  breaks_write (x ∷ xs) w v (inl part) = prefix_more w.held v.held (line_by x) (concat (map line_by xs)) (part_writes x w v part)
  breaks_write (x ∷ xs) w v (inr (m, d, b)) =
      prefix_then w.held m.held v.held (line_by x) (concat (map line_by xs))
      (subst (Appends w.held m.held) (append-nil (line_by x)) (carries-says talk (x ∷ []) w m (m, d, same_self m)).0) (breaks_write xs m v b)

-- ---- logs

-- The second log is the first and some lines more, and a first part of what these say was written.
abbrev pub Wrote : Option (List ℕ) → Option (List ℕ) → Log → Log → Type 0
Wrote h k M N = (lines : List Line) × (N ≡ M ++ lines) × PutsPrefix h k (text_of lines)

pub wrote_none : (h k : Option (List ℕ)) (M : Log) → k ≡ h → Wrote h k M M
wrote_none h k M e = ([], sym (append-nil M), prefix_none h k [] e)

pub wrote_then : {L : Type 0} (w x : World L) (k : Option (List ℕ)) (M P N : Log) → SaysBetween M w P x → Wrote x.held k P N → Wrote w.held k M N
wrote_then w x k M P N (ls, is, says) (ks, on, more) = (
  ls ++ ks,
  on ∙ ap (λ (l : Log). l ++ ks) is ∙ append_assoc M ls ks,
  subst (PutsPrefix w.held k)
      (sym (ap (λ (xs : List Action). concat (map line_by xs)) (filter_map-append action_of ls ks) ∙ ap concat (map-append line_by (filter_map action_of ls) (filter_map action_of ks))
      ∙ concat-append (map line_by (filter_map action_of ls)) (map line_by (filter_map action_of ks))))
      (prefix_then w.held x.held k (text_of ls) (text_of ks) says.0 more),
)
