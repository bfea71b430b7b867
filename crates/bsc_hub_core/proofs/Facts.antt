-- What callers use of a core that stands for a history.
-- It serves bsc_script and bsc_world.
use Rattle.std.proofs.Common.{◌≡◌, ◌≤◌, ◌<◌, ◌==◌, ◌^◌, ◌++◌, ◌∷◌, [], inl, inr, ℕ, List, length, map, Some, refl, ap, sym, ◌∙◌, subst, arith, length-append}
use Rattle.std.proofs.lemmas.Bool.{eq-eqb}
use Rattle.bsc_history.specs.declared.call.Call.{Call}
use Rattle.bsc_history.specs.declared.looks.Look.{Look}
use Rattle.bsc_history.specs.declared.limits.About.{About}
use Rattle.bsc_history.specs.declared.entry.Entry.{Entry}
use Rattle.bsc_history.specs.Entries.{moment}
use Rattle.bsc_history.specs.Legality.{Lawful, Legal, looks_at}
use Rattle.bsc_history.specs.Marks.{entries}
use Rattle.bsc_history.specs.Outboxes.{sent}
use Rattle.bsc_history.proofs.Common.{length_entries}
use Rattle.bsc_history.proofs.Gains.{sent_short}
use Rattle.bsc_history.proofs.Lists.{In, any_In}
use Rattle.bsc_history.proofs.More.{Legal-front}
use Rattle.bsc_ring.specs.Ends.{given}
use Rattle.bsc_desk.proofs.Rowed.{few_entries}
use Rattle.bsc_hub_core.specs.declared.outbox.Outbox.{Outbox}
use Rattle.bsc_hub_core.specs.declared.hub_core.HubCore.{HubCore}
use Rattle.bsc_hub_core.specs.Calls.{looks_of, taken_in}
use Rattle.bsc_hub_core.specs.Outboxes.{taken_by}
use Rattle.bsc_hub_core.specs.Standing.{CoreStands, IsUnleft, outbox_at}
use Rattle.bsc_hub_core.proofs.Looking.{looks_unleft}

-- the history is legal
pub core_legal : (t : HubCore) (H : List Entry) → CoreStands t H → Legal t.about H
core_legal t H s = subst (λ a. Legal a H) s.own (subst (Legal t.desk.about) s.calls s.desk.legal)

-- the newest entry is lawful
pub core_lawful : (t u : HubCore) (H : List Entry) (e : Entry) → u.about ≡ t.about → CoreStands u (H ++ e ∷ []) → Lawful t.about (moment H e)
core_lawful t u H e same s = (Legal-front t.about H e (subst (λ a. Legal a (H ++ e ∷ [])) same (core_legal u (H ++ e ∷ []) s))).1

-- no more was taken than entered
pub core_few : (t : HubCore) (H : List Entry) (c : ℕ) (p : Outbox) → CoreStands t H → outbox_at t c ≡ Some p → length (taken_by p) ≤ length (sent t.about H c)
core_few t H c p s at =
    let h = s.outboxes c p at in
    let long = ap length h.outlet.begins.1 ∙ length-append (given p.outlet) h.outlet.begins.0 in
    let same : length (sent t.desk.about (entries s.marks) c) ≡ length (sent t.about H c) = ap (λ a. length (sent a (entries s.marks) c)) s.own ∙ ap (λ F. length (sent t.about F c)) s.calls in
    omega (arith, long, same)

-- fewer than 2^53 frames were taken
pub core_short : (t : HubCore) (H : List Entry) (c : ℕ) (p : Outbox) → CoreStands t H → outbox_at t c ≡ Some p → length (taken_by p) < 2 ^ 53
core_short t H c p s at =
    let h = s.outboxes c p at in
    let front = ap length h.outlet.begins.1 ∙ length-append (given p.outlet) h.outlet.begins.0 in
    let sends = sent_short t.desk.about (entries s.marks) c in
    let limit = few_entries t.desk s.marks s.desk in
    let range = t.desk.in_range in
    let calls = range.few_calls in
    let rows = range.few_rows in
    let long = length_entries s.marks in
    omega arith

map_In : {A B : Type 0} (f g : A → B) (xs : List A) → ((x : A) → In x xs → f x ≡ g x) → map f xs ≡ map g xs
map_In f g [] same = refl
map_In f g (x ∷ xs) same = ap (λ y. y ∷ map f xs) (same x (inl refl)) ∙ ap (λ ys. g x ∷ ys) (map_In f g xs (λ y m. same y (inr m)))

-- Each look of a call finds what f says of its connection, where f says what was taken of each that hasn't left.
pub looks_by : (t : HubCore) (H : List Entry) (call : Call) (f : ℕ → ℕ) → CoreStands t H → ((b : ℕ) → IsUnleft H b → taken_in (outbox_at t b) ≡ f b)
    → looks_of t H call ≡ map (λ b. let k : Look = record { conn = b; taken = f b } in k) (looks_at H call)
looks_by t H call f s taken = map_In (λ b. let k : Look = record { conn = b; taken = taken_in (outbox_at t b) } in k) (λ b. let k : Look = record { conn = b; taken = f b } in k) (looks_at H call)
    (λ b m. ap (λ (n : ℕ). let k : Look = record { conn = b; taken = n } in k)
    (taken b (looks_unleft t.about H call b (core_legal t H s) (any_In (λ (c : ℕ). c == b) b (looks_at H call) m (eq-eqb b b refl)))))
