use Rattle.std.proofs.Common.{ℕ, List, ◌++◌, codes}
use Rattle.bsc_lines.specs.Replies.{list_words}
use Rattle.bsc_lines.proofs.Chains.{onto, behind}
use Rattle.bsc_lines.proofs.replies.put_lists.Goals as goal

pub returns : goal.returns
returns c =
    let a = c.args.text.now.items in
    let w1 : List ℕ = codes "sentall to=" in
    let w2 : List ℕ = w1 ++ list_words c.args.to.now in
    let w3 : List ℕ = w2 ++ codes " missed=" in
    let w4 : List ℕ = w3 ++ list_words c.args.missed.now in
    let w5 : List ℕ = w4 ++ codes " skipped=" in
    let t2 = onto a c.put_words.new.text.items w1 (list_words c.args.to.now) c.put_list.new.text.items c.in_ok-put_words.ensures c.in_ok-put_list.ensures in
    let t3 = onto a c.put_list.new.text.items w2 (codes " missed=") c.put_words-2.new.text.items t2 c.in_ok-put_words-2.ensures in
    let t4 = onto a c.put_words-2.new.text.items w3 (list_words c.args.missed.now) c.put_list-2.new.text.items t3 c.in_ok-put_list-2.ensures in
    let t5 = onto a c.put_list-2.new.text.items w4 (codes " skipped=") c.put_words-3.new.text.items t4 c.in_ok-put_words-3.ensures in
    behind c.put_list-3.result a c.put_words-3.new.text.items w5 (list_words c.args.skipped.now) c.put_list-3.new.text.items t5 c.put_list-3.ensures
