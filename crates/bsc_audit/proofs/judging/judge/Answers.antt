-- The hub lines, then the places, then the entries in order.
use Rattle.std.proofs.Common.{◌≡◌, ◌<◌, ℕ, List, length, map, None, sym, subst, rules}
use Rattle.std.specs.List.{range_with_len}
use Rattle.bsc_audit.specs.declared.places.spot.Spot.{Spot}
use Rattle.bsc_audit.specs.Places.Places.{IsLeastMissing, IsLeastTwice}
use Rattle.std.specs.Prelude.{IfSome}
use Rattle.bsc_audit.specs.Explaining.{TellsOfEntry}
use Rattle.bsc_audit.specs.Hearing.{AreInOrder}
use Rattle.bsc_audit.proofs.Explained.{explained}
use Rattle.bsc_audit.proofs.SoFar.{place_of}
use Rattle.bsc_audit.proofs.ComesTo.{comes_to, few_spots, judged_whole, no_about, says_hubs, says_missing, says_twice, some_history, tells}
use Rattle.bsc_audit.proofs.judging.judge.Goals as goal

pub returns-in_default-clause-comes : goal.returns-in_default-clause-comes
returns-in_default-clause-comes c =
    let none : c.args.journals.heard.about ≡ None = first_of (search rules, cc) in
    says_hubs c.args.journals.octets.items c.args.journals.heard c.requires (no_about c.args.journals.octets.items c.args.journals.heard c.requires none)

pub returns-then-hubs-ne1-clause-comes : goal.returns-then-hubs-ne1-clause-comes
returns-then-hubs-ne1-clause-comes c = says_hubs c.args.journals.octets.items c.args.journals.heard c.requires c.if-hubs-ne1.true

pub returns-in-Some-least_twice-clause-comes : goal.returns-in-Some-least_twice-clause-comes
returns-in-Some-least_twice-clause-comes c =
    says_twice c.args.journals.octets.items c.args.journals.heard c.requires c.sort_by_place.new.spots.items c.in-Some-least_twice.place c.if-hubs-ne1.false
    c.sort_by_place.ensures.permutation
    (subst (λ (l : List Spot). IsLeastTwice c.in-Some-least_twice.place (map place_of l)) c.as_slice.ensures.value c.in-Some-least_twice.ensures)

pub returns-in-Some-least_missing-clause-comes : goal.returns-in-Some-least_missing-clause-comes
returns-in-Some-least_missing-clause-comes c =
    says_missing c.args.journals.octets.items c.args.journals.heard c.requires c.sort_by_place.new.spots.items c.in-Some-least_missing.place c.if-hubs-ne1.false
    c.sort_by_place.ensures.permutation
    (subst (λ (l : List Spot). IsLeastMissing c.in-Some-least_missing.place (map place_of l)) c.as_slice-2.ensures.value c.in-Some-least_missing.ensures)

pub judge_entries-requires-clause-few : goal.judge_entries-requires-clause-few
judge_entries-requires-clause-few c =
    subst (λ (l : List Spot). length l < 2147483648) (sym c.as_slice-4.ensures.value)
    (few_spots c.args.journals.octets.items c.args.journals.heard c.requires c.sort_by_place.new.spots.items c.sort_by_place.ensures.permutation)

pub judge_entries-requires-clause-some : goal.judge_entries-requires-clause-some
judge_entries-requires-clause-some c =
    let o = c.args.journals.octets.items in
    let sorted = c.sort_by_place.new.spots.items in
    let places = subst (λ (l : List Spot). map place_of l ≡ range_with_len 0 (length l)) c.as_slice-2.ensures.value c.in_default-least_missing.ensures in
    let h = some_history o c.args.journals.heard c.requires sorted c.sort_by_place.ensures.permutation places in (
      h.0,
      subst (λ (x : List ℕ). AreInOrder x c.as_slice-4.result.now h.0) (sym c.as_slice-3.ensures.value)
          (subst (λ (l : List Spot). AreInOrder o l h.0) (sym c.as_slice-4.ensures.value) h.1),
    )

pub returns-clause-comes : goal.returns-clause-comes
returns-clause-comes c =
    let o = c.args.journals.octets.items in
    let sorted = c.sort_by_place.new.spots.items in
    let places = subst (λ (l : List Spot). map place_of l ≡ range_with_len 0 (length l)) c.as_slice-2.ensures.value c.in_default-least_missing.ensures in
    let h = some_history o c.args.journals.heard c.requires sorted c.sort_by_place.ensures.permutation places in
    let judged = c.judge_entries.ensures.judges h.0 (subst (λ (x : List ℕ). AreInOrder x c.as_slice-4.result.now h.0) (sym c.as_slice-3.ensures.value)
    (subst (λ (l : List Spot). AreInOrder o l h.0) (sym c.as_slice-4.ensures.value) h.1)) in
    comes_to o c.args.journals.heard c.requires c.in-Some.about sorted h.0 c.judge_entries.result.end c.if-hubs-ne1.false c.in-Some.is c.sort_by_place.ensures.permutation h.1 judged

pub returns-clause-whole : goal.returns-clause-whole
returns-clause-whole c =
    let o = c.args.journals.octets.items in
    let sorted = c.sort_by_place.new.spots.items in
    let places = subst (λ (l : List Spot). map place_of l ≡ range_with_len 0 (length l)) c.as_slice-2.ensures.value c.in_default-least_missing.ensures in
    let h = some_history o c.args.journals.heard c.requires sorted c.sort_by_place.ensures.permutation places in
    let judged = c.judge_entries.ensures.judges h.0 (subst (λ (x : List ℕ). AreInOrder x c.as_slice-4.result.now h.0) (sym c.as_slice-3.ensures.value)
    (subst (λ (l : List Spot). AreInOrder o l h.0) (sym c.as_slice-4.ensures.value) h.1)) in
    judged_whole c.in-Some.about h.0 c.judge_entries.result.end judged

pub returns-clause-explains : goal.returns-clause-explains
returns-clause-explains c =
    let o = c.args.journals.octets.items in
    let sorted = c.sort_by_place.new.spots.items in
    let about = c.in-Some.about in
    let r = c.judge_entries.result in
    let places = subst (λ (l : List Spot). map place_of l ≡ range_with_len 0 (length l)) c.as_slice-2.ensures.value c.in_default-least_missing.ensures in
    let h = some_history o c.args.journals.heard c.requires sorted c.sort_by_place.ensures.permutation places in
    let told = c.judge_entries.ensures.tells h.0 (subst (λ (x : List ℕ). AreInOrder x c.as_slice-4.result.now h.0) (sym c.as_slice-3.ensures.value)
    (subst (λ (l : List Spot). AreInOrder o l h.0) (sym c.as_slice-4.ensures.value) h.1)) in
    explained o about h.0 r.end r.why (tells o c.args.journals.heard c.requires about sorted h.0 c.if-hubs-ne1.false c.in-Some.is c.sort_by_place.ensures.permutation h.1)
    (subst (λ (x : List ℕ). IfSome r.why (λ why. TellsOfEntry about h.0 x r.end why)) c.as_slice-3.ensures.value told)
