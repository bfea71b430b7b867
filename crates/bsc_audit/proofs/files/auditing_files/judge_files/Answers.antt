-- What was summed up is one hub and few entries, which are merged.
use Rattle.std.proofs.Common.{◌≡◌, ◌≤◌, ⊎_elim, Option, None, Some, refl, arith}
use Rattle.std.specs.BinaryHeap.{heap_items}
use Rattle.bsc_history.specs.declared.limits.About.{About}
use Rattle.bsc_audit.specs.declared.files.bounds.TheConstants.{MOST_ENTRIES}
use Rattle.bsc_audit.specs.Merging.{AreHeads, MergesTo}
use Rattle.bsc_audit.proofs.FileFacts.FilesCome.{count_entries, files_come, no_about, nothing_told, one_about, says_few, says_hubs}
use Rattle.bsc_audit.proofs.files.auditing_files.judge_files.Goals as goal

none_of : (o : Option About) → ((a : About) → o ≡ Some a → ⊥) → o ≡ None
none_of None other = refl
none_of (Some a) other = absurd (other a refl)

pub returns-in_default-clause-comes : goal.returns-in_default-clause-comes
returns-in_default-clause-comes g c = λ fs holds long so.
    says_hubs fs c.args.sums.now so (no_about fs c.args.sums.now so (none_of c.args.sums.now.about c.in_default.not-Some))

pub returns-clause-comes : goal.returns-clause-comes
returns-clause-comes g c = λ fs holds long so.
    let sums = c.args.sums.now in
    let about = c.in-Some.about in
    let r = c.merge.result in
    let one : sums.hubs ≡ 1 = (let e = c.if-sums-ne1.false in omega (arith, e)) in
    let most : sums.entries ≤ MOST_ENTRIES = (let e = c.if-sums-gt-MOST_ENTRIES.false in omega (arith, e)) in
    let few = says_few fs sums so one most in
    let hub = one_about fs sums so about one c.in-Some.is in
    let heads : AreHeads fs c.args.count (heap_items c.in-Ok.heads.heap) = c.in-Ok.ensures.heads fs so.said (c.merge.ensures.stays fs holds) long so.says in
    let merges : MergesTo fs about r = c.merge.ensures.comes fs holds heads long (count_entries fs sums so most) in
    ⊎_elim (λ none. nothing_told fs r none) (λ come. files_come fs so.said about r few hub come) merges
