use Rattle.std.proofs.Common.{ℕ, List, ◌++◌, codes, decimal}
use Rattle.bsc_lines.proofs.Chains.{behind}
use Rattle.bsc_lines.proofs.replies.put_counts.Goals as goal

pub returns : goal.returns
returns c =
    let o = c.put_pair-9.result in
    let z = c.put_pair-9.new.text.items in
    let r9 : List ℕ = codes " missed=" ++ decimal c.args.counts.now.missed in
    let w8 : List ℕ = codes " full=" ++ decimal c.args.counts.now.full in
    let r8 : List ℕ = w8 ++ r9 in
    let w7 : List ℕ = codes " dropped=" ++ decimal c.args.counts.now.dropped in
    let r7 : List ℕ = w7 ++ r8 in
    let w6 : List ℕ = codes " appended=" ++ decimal c.args.counts.now.appended in
    let r6 : List ℕ = w6 ++ r7 in
    let w5 : List ℕ = codes " broadcasts=" ++ decimal c.args.counts.now.broadcasts in
    let r5 : List ℕ = w5 ++ r6 in
    let w4 : List ℕ = codes " unicasts=" ++ decimal c.args.counts.now.unicasts in
    let r4 : List ℕ = w4 ++ r5 in
    let w3 : List ℕ = codes " refused=" ++ decimal c.args.counts.now.refused in
    let r3 : List ℕ = w3 ++ r4 in
    let w2 : List ℕ = codes " replaced=" ++ decimal c.args.counts.now.replaced in
    let r2 : List ℕ = w2 ++ r3 in
    let w1 : List ℕ = codes " joined=" ++ decimal c.args.counts.now.joined in
    let r1 : List ℕ = w1 ++ r2 in
    behind o c.args.text.now.items c.put_words.new.text.items (codes "counts") r1 z c.in_ok-put_words.ensures
    (behind o c.put_words.new.text.items c.put_pair.new.text.items w1 r2 z c.in_ok-put_pair.ensures
    (behind o c.put_pair.new.text.items c.put_pair-2.new.text.items w2 r3 z c.in_ok-put_pair-2.ensures
    (behind o c.put_pair-2.new.text.items c.put_pair-3.new.text.items w3 r4 z c.in_ok-put_pair-3.ensures
    (behind o c.put_pair-3.new.text.items c.put_pair-4.new.text.items w4 r5 z c.in_ok-put_pair-4.ensures
    (behind o c.put_pair-4.new.text.items c.put_pair-5.new.text.items w5 r6 z c.in_ok-put_pair-5.ensures
    (behind o c.put_pair-5.new.text.items c.put_pair-6.new.text.items w6 r7 z c.in_ok-put_pair-6.ensures
    (behind o c.put_pair-6.new.text.items c.put_pair-7.new.text.items w7 r8 z c.in_ok-put_pair-7.ensures
    (behind o c.put_pair-7.new.text.items c.put_pair-8.new.text.items w8 r9 z c.in_ok-put_pair-8.ensures c.put_pair-9.ensures))))))))
