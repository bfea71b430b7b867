use Rattle.std.proofs.Common.{inl, inr}
use Rattle.bsc_options.specs.Reading.{IsCut}
use Rattle.bsc_frame.specs.Checks.{HasItemAtFault}
use Rattle.bsc_frame.proofs.Heads.{head_facts}
use Rattle.bsc_frame.proofs.OptionLists.{of_first, of_second, are_lists, first_lacks, first_bad, first_misplaced, misplaced}
use Rattle.bsc_frame.proofs.lists.read_ends.Goals as goal

pub returns-in_default : goal.returns-in_default
returns-in_default c =
    let m = c.args.m.now in
    let e = c.args.head.now in
    let facts = head_facts m e c.requires.spells c.requires.whole in
    let cut = c.in_default.ensures.none in
    first_lacks m (inl (of_first (IsCut m) m e facts c.announces_dest_options-dest_announced.result c.announces_dest_options-dest_announced.ensures cut.0 cut.1))

pub returns-in_default-end_of : goal.returns-in_default-end_of
returns-in_default-end_of c =
    let m = c.args.m.now in
    let e = c.args.head.now in
    let facts = head_facts m e c.requires.spells c.requires.whole in
    let dest = c.announces_dest_options-dest_announced in
    let more = c.announces_data_options-data_announced in
    let list = c.in-Some.ensures.found in
    let cut = c.in_default-end_of.ensures.none in
    first_lacks m (inr (of_second (IsCut m) m e facts dest.result more.result dest.ensures more.ensures cut.0 list.0 c.in-Some.dest list.1 cut.1))

pub returns-then-has_fault : goal.returns-then-has_fault
returns-then-has_fault c =
    let m = c.args.m.now in
    let e = c.args.head.now in
    let facts = head_facts m e c.requires.spells c.requires.whole in
    let dest = c.announces_dest_options-dest_announced in
    let more = c.announces_data_options-data_announced in
    let list = c.in-Some.ensures.found in
    let other = c.in-Some-end_of.ensures.found in
    let fault = c.if-has_fault.ensures in
    let lists = are_lists m e facts dest.result more.result dest.ensures more.ensures list.0 other.0 c.in-Some.dest c.in-Some-end_of.data list.1 other.1 in
    first_bad m c.in-Some.dest c.in-Some-end_of.data list.0 other.0 lists (inl (of_first (HasItemAtFault m) m e facts dest.result dest.ensures fault.0 fault.1))

pub returns-then-has_fault-2 : goal.returns-then-has_fault-2
returns-then-has_fault-2 c =
    let m = c.args.m.now in
    let e = c.args.head.now in
    let facts = head_facts m e c.requires.spells c.requires.whole in
    let dest = c.announces_dest_options-dest_announced in
    let more = c.announces_data_options-data_announced in
    let list = c.in-Some.ensures.found in
    let other = c.in-Some-end_of.ensures.found in
    let fault = c.if-has_fault-2.ensures in
    let lists = are_lists m e facts dest.result more.result dest.ensures more.ensures list.0 other.0 c.in-Some.dest c.in-Some-end_of.data list.1 other.1 in
    first_bad m c.in-Some.dest c.in-Some-end_of.data list.0 other.0 lists (inr
    (of_second (HasItemAtFault m) m e facts dest.result more.result dest.ensures more.ensures fault.0 list.0 c.in-Some.dest list.1 fault.1))

pub returns-then-head-ne-PROPRIETARY_MESSAGE : goal.returns-then-head-ne-PROPRIETARY_MESSAGE
returns-then-head-ne-PROPRIETARY_MESSAGE c =
    let m = c.args.m.now in
    let e = c.args.head.now in
    let facts = head_facts m e c.requires.spells c.requires.whole in
    let dest = c.announces_dest_options-dest_announced in
    let more = c.announces_data_options-data_announced in
    let list = c.in-Some.ensures.found in
    let other = c.in-Some-end_of.ensures.found in
    let lists = are_lists m e facts dest.result more.result dest.ensures more.ensures list.0 other.0 c.in-Some.dest c.in-Some-end_of.data list.1 other.1 in
    first_misplaced m c.in-Some.dest c.in-Some-end_of.data list.0 other.0 lists (c.if-has_fault.ensures list.0 c.in-Some.dest list.1) (c.if-has_fault-2.ensures other.0 c.in-Some-end_of.data other.1)
    (misplaced m e facts more.result more.ensures c.if-data_announced.true c.requires.function c.if-head-ne-ENCAPSULATED_NPDU.true c.if-head-ne-PROPRIETARY_MESSAGE.true)
