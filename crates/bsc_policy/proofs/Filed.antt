-- Classes that are filed under addresses, member by member.
-- It serves the clauses of `file` and `make`.
use Rattle.std.proofs.Common.{◌≡◌, ◌≤◌, ◌<◌, ◌+◌, ℕ, suc, Bool, true, false, cond, if◌then◌else◌, nat_eq, List, [], ◌∷◌, ◌++◌, length, take, get_or, find, option_map, Option, Some}
use Rattle.std.proofs.Common.{None, is_some, HashMap, refl, ap, ap₂, sym, ◌∙◌, arith, take-suc, take_all}
use Rattle.std.specs.Cmp.Lexicographic.{pointwise, bytes_decides}
use Rattle.std.specs.HashMap.{get_by}
use Rattle.std.specs.Option.{option_or}
use Rattle.std.proofs.lemmas.List.Folds.{find-append}
use Rattle.bsc_octets.specs.declared.vmac.Vmac.{Vmac}
use Rattle.bsc_octets.specs.Addresses.{same_vmac}
use Rattle.bsc_policy.specs.declared.classes.Classes.{Classes}
use Rattle.bsc_policy.specs.declared.key.Key.{Key}
use Rattle.bsc_policy.specs.declared.member.Member.{Member}
use Rattle.bsc_policy.specs.declared.names.Names.{Names}
use Rattle.bsc_policy.specs.Decisions.{group_in, group_of}
use Rattle.bsc_policy.specs.Filing.{Files, filed_at}
use Rattle.bsc_policy.specs.Tables.{classes_of}

-- ---- classes more

same_filed : {S : Type 0} (filed : HashMap Key Classes S) (w v : Vmac) → same_vmac w v ≡ true → filed_at filed v ≡ filed_at filed w
same_filed filed w v same = ap (λ (l : List ℕ). get_by (λ k. pointwise nat_eq l k.0) filed) (sym ((bytes_decides w.0 v.0).0 same))

none_from : (o : Option Classes) → is_some o ≡ false → o ≡ None
none_from None h = refl
none_from (Some x) h = cc

kept : (old : Option Classes) (b : Bool) (classes : Classes) → (b ≡ true → is_some old ≡ true) → old ≡ option_or old (if b then Some classes else None)
kept (Some q) b classes has = refl
kept None false classes has = refl
kept None true classes has = let no = has refl in cc

fresh : (now old : Option Classes) (b : Bool) (classes : Classes) → now ≡ cond b (Some classes) old → (b ≡ true → old ≡ None) → now ≡ option_or old (if b then Some classes else None)
fresh now old true classes is none = is ∙ ap (λ (o : Option Classes). option_or o (Some classes)) (sym (none refl))
fresh now None false classes is none = is
fresh now (Some q) false classes is none = is

-- some are filed under the address already
pub filed_kept : {S : Type 0} (filed : HashMap Key Classes S) (w : Vmac) (classes : Classes) → is_some (filed_at filed w) ≡ true → Files filed filed w classes
filed_kept filed w classes is = λ v. kept (filed_at filed v) (same_vmac w v) classes (λ same. ap is_some (same_filed filed w v same) ∙ is)

-- none are, and then these
pub filed_now : {S : Type 0} (old new : HashMap Key Classes S) (w : Vmac) (classes : Classes) → is_some (filed_at old w) ≡ false
    → ((v : Vmac) → filed_at new v ≡ cond (same_vmac w v) (Some classes) (filed_at old v)) → Files old new w classes
filed_now old new w classes none updates = λ v. fresh (filed_at new v) (filed_at old v) (same_vmac w v) classes (updates v) (λ same. same_filed old w v same ∙ none_from (filed_at old w) none)

-- ---- a member more

-- the classes of a member's group
abbrev of_member : Names → Member → Classes
of_member names m = classes_of names m.group

-- the first members have their classes under their addresses
abbrev pub FiledTo : {S : Type 0} → ℕ → List Member → Names → HashMap Key Classes S → Type 0
FiledTo i members names filed = (v : Vmac) → filed_at filed v ≡ option_map (of_member names) (find (λ m. same_vmac m.vmac v) (take i members))

next : (names : Names) (o : Option Member) (m : Member) (b : Bool) → option_or (option_map (of_member names) o) (cond b (Some (of_member names m)) None)
    ≡ option_map (of_member names) (option_or o (cond b (Some m) None))
next names (Some x) m b = refl
next names None m true = refl
next names None m false = refl

found_more : (v : Vmac) (members : List Member) (i : ℕ) (m : Member) → i < length members → m ≡ get_or members i m
    → find (λ x. same_vmac x.vmac v) (take (i + 1) members) ≡ option_or (find (λ x. same_vmac x.vmac v) (take i members)) (cond (same_vmac m.vmac v) (Some m) None)
found_more v members i m within at =
    let e : i + 1 ≡ suc i = omega arith in
    ap (λ (k : ℕ). find (λ x. same_vmac x.vmac v) (take k members)) e
    ∙ ap (λ (l : List Member). find (λ x. same_vmac x.vmac v) l) (take-suc members i m within)
    ∙ ap (λ (x : Member). find (λ y. same_vmac y.vmac v) (take i members ++ x ∷ [])) (sym at)
    ∙ find-append (λ x. same_vmac x.vmac v) (take i members) (m ∷ [])

pub filed_more : {S : Type 0} (members : List Member) (i : ℕ) (m : Member) (names : Names) (filed after : HashMap Key Classes S) (classes : Classes) → i < length members → m ≡ get_or members i m
    → classes ≡ classes_of names m.group → Files filed after m.vmac classes → FiledTo i members names filed → FiledTo (i + 1) members names after
filed_more members i m names filed after classes within at are files before = λ v.
    files v
    ∙ ap₂ (λ (o : Option Classes) (c : Classes). option_or o (cond (same_vmac m.vmac v) (Some c) None)) (before v) are
    ∙ next names (find (λ x. same_vmac x.vmac v) (take i members)) m (same_vmac m.vmac v)
    ∙ ap (option_map (of_member names)) (sym (found_more v members i m within at))

-- ---- all of them

of_group : (names : Names) (o : Option Member) → option_map (of_member names) o ≡ option_map (λ g. classes_of names g) (group_in o)
of_group names None = refl
of_group names (Some m) = refl

pub filed_all : {S : Type 0} (members : List Member) (i : ℕ) (names : Names) (filed : HashMap Key Classes S) → length members ≤ i → FiledTo i members names filed
    → (v : Vmac) → filed_at filed v ≡ option_map (λ g. classes_of names g) (group_of members v)
filed_all members i names filed past are = λ v.
    are v
    ∙ ap (λ (l : List Member). option_map (of_member names) (find (λ m. same_vmac m.vmac v) l)) (take_all i members past)
    ∙ of_group names (find (λ m. same_vmac m.vmac v) members)
