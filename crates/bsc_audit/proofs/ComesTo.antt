-- What journals come to whose lines are all good.
-- It serves the clauses of `judge`.
use Rattle.std.proofs.Common.{◌≡◌, ◌≢◌, ℕ, ◌+◌, ◌<◌, ◌≤◌, List, [], ◌∷◌, ◌++◌, length, filter, map, Some, None, ap, sym, ◌∙◌, subst, arith}
use Rattle.std.specs.List.{range_with_len}
use Rattle.std.specs.List.Sorted.{IsPermutation}
use Rattle.std.proofs.lemmas.List.Elements.{All-from_recursion, recursion_from_All}
use Rattle.std.proofs.lemmas.List.Sorted.{All-permutation, IsPermutation-cons, IsPermutation-map, IsPermutation-sym, IsPermutation-trans, length_permutation}
use Rattle.std.proofs.lemmas.List.{append-nil, length-map}
use Rattle.bsc_history.specs.declared.entry.Entry.{Entry}
use Rattle.bsc_history.specs.declared.limits.About.{About}
use Rattle.bsc_text.specs.Lines.{pieces_of}
use Rattle.bsc_audit.specs.declared.places.spot.Spot.{Spot}
use Rattle.bsc_audit.specs.Places.Places.{IsLeastMissing, IsLeastTwice}
use Rattle.bsc_audit.proofs.PlaceFacts.Reordering.{missing_reordered, twice_reordered}
use Rattle.bsc_journal.specs.declared.journal_record.JournalRecord.{JournalRecord}
use Rattle.bsc_journal.specs.declared.journal_record.JournalRecord.TheVariants.{Hub, Entry as AnEntry, Denial}
use Rattle.bsc_journal.specs.Journals.{Tells, lines_of}
use Rattle.bsc_journal.specs.Good.{SayAll}
use Rattle.bsc_audit.specs.declared.audit_end.AuditEnd.{AuditEnd}
use Rattle.bsc_audit.specs.declared.audit_end.AuditEnd.TheVariants.{Legal as IsLegal, BadLine, Hubs, Twice, Missing, Illegal, ReadFault, NoMemory}
use Rattle.bsc_audit.specs.declared.heard.Heard.{Heard}
use Rattle.bsc_audit.specs.Verdicts.{AuditsTo, HasHubs, SayOneHub, places_of}
use Rattle.bsc_audit.specs.Hearing.{AreInOrder, HasHeardAll, entry_lines, hubs_of, line_at}
use Rattle.bsc_audit.specs.Judging.{IsOfWhole, Judges}
use Rattle.bsc_audit.proofs.InOrder.{history_of}
use Rattle.bsc_audit.proofs.SoFar.{place_of}
use Rattle.bsc_audit.proofs.SortedOut.{IsSpotOfOne, count_hubs, is_kept, no_hub, one_hub, one_hub_line, sorted_out, spots_of_entries}
use Rattle.bsc_audit.proofs.Within.{say_within}

-- ---- hub lines

pub says_hubs : (o : List ℕ) (h : Heard) → HasHeardAll o h → h.hubs ≢ 1 → HasHubs h.hubs o
says_hubs o h so other = record {
  said = so.said;
  all = so.heeds.all;
  count = so.heeds.hubs ∙ sym (count_hubs so.said);
  other = other;
}

pub no_about : (o : List ℕ) (h : Heard) → HasHeardAll o h → h.about ≡ None → h.hubs ≢ 1
no_about o h so none =
    let zero = no_hub (hubs_of so.said) (sym so.heeds.about ∙ none) in
    let hubs = so.heeds.hubs in
    λ one. (let no : ⊥ = omega (arith, zero, hubs, one) in no)

pub says_one_hub : (o : List ℕ) (h : Heard) (so : HasHeardAll o h) → h.hubs ≡ 1 → SayOneHub o so.said
says_one_hub o h so one = record { all = so.heeds.all; one = count_hubs so.said ∙ sym so.heeds.hubs ∙ one }

-- ---- places

places_sorted : (o : List ℕ) (h : Heard) (so : HasHeardAll o h) (sorted : List Spot) → IsPermutation h.spots.items sorted → IsPermutation (places_of so.said) (map place_of sorted)
places_sorted o h so sorted perm = subst (λ (l : List ℕ). IsPermutation l (map place_of sorted)) so.heeds.places (IsPermutation-map place_of h.spots.items sorted perm)

pub says_twice : (o : List ℕ) (h : Heard) (so : HasHeardAll o h) (sorted : List Spot) (p : ℕ) → h.hubs ≡ 1 → IsPermutation h.spots.items sorted → IsLeastTwice p (map place_of sorted)
    → AuditsTo o (Twice p)
says_twice o h so sorted p one perm twice = (so.said, says_one_hub o h so one, twice_reordered (places_of so.said) (map place_of sorted) (places_sorted o h so sorted perm) p twice)

pub says_missing : (o : List ℕ) (h : Heard) (so : HasHeardAll o h) (sorted : List Spot) (p : ℕ) → h.hubs ≡ 1 → IsPermutation h.spots.items sorted → IsLeastMissing p (map place_of sorted)
    → AuditsTo o (Missing p)
says_missing o h so sorted p one perm missing =
    let perms = places_sorted o h so sorted perm in
    (so.said, says_one_hub o h so one, missing_reordered (places_of so.said) (map place_of sorted) perms (IsPermutation-sym (places_of so.said) (map place_of sorted) perms) p missing)

-- ---- how many entries there are

few_places : (before : ℕ) (pieces : List (List ℕ)) (said : List JournalRecord) → SayAll before pieces said → length (places_of said) ≤ length pieces
few_places before [] [] all = omega arith
few_places before [] (s ∷ said) all = absurd all
few_places before (p ∷ pieces) [] all = absurd all
few_places before (p ∷ pieces) (Hub about ∷ said) all = let more = few_places (before + length p) pieces said all.1 in omega (arith, more)
few_places before (p ∷ pieces) (AnEntry place e ∷ said) all = let more = few_places (before + length p) pieces said all.1 in omega (arith, more)
few_places before (p ∷ pieces) (Denial ∷ said) all = let more = few_places (before + length p) pieces said all.1 in omega (arith, more)

pub few_spots : (o : List ℕ) (h : Heard) → HasHeardAll o h → (sorted : List Spot) → IsPermutation h.spots.items sorted → length sorted < 2147483648
few_spots o h so sorted perm =
    let same = length_permutation h.spots.items sorted perm in
    let here = length-map h.spots.items place_of in
    let places = ap length so.heeds.places in
    let few = few_places 0 (pieces_of o) so.said so.heeds.all in
    let lines = so.heeds.lines in
    let within = h.few_lines in
    let short = h.in_journal in
    omega (arith, same, here, places, few, lines, within, short)

-- ---- entries in order

told_here : (o : List ℕ) (h : Heard) (so : HasHeardAll o h) → map (line_at o) h.spots.items ≡ entry_lines (pieces_of o) so.said
told_here o h so = ap (λ (x : List ℕ). map (line_at x) h.spots.items) (sym (append-nil o)) ∙ so.heeds.told []

pub some_history : (o : List ℕ) (h : Heard) (so : HasHeardAll o h) (sorted : List Spot) → IsPermutation h.spots.items sorted → map place_of sorted ≡ range_with_len 0 (length sorted)
    → (H : List Entry) × AreInOrder o sorted H
some_history o h so sorted perm places =
    let all = spots_of_entries o 0 (pieces_of o) so.said h.spots.items so.heeds.all so.heeds.places (told_here o h so) in
    history_of o sorted (recursion_from_All (IsSpotOfOne o) sorted (All-permutation (IsSpotOfOne o) h.spots.items sorted perm (All-from_recursion (IsSpotOfOne o) h.spots.items all))) places

pub tells : (o : List ℕ) (h : Heard) (so : HasHeardAll o h) (about : About) (sorted : List Spot) (H : List Entry) → h.hubs ≡ 1 → h.about ≡ Some about → IsPermutation h.spots.items sorted
    → AreInOrder o sorted H → Tells o about H
tells o h so about sorted H one is perm order =
    let pieces = pieces_of o in
    let hubs : hubs_of so.said ≡ about ∷ [] = one_hub (hubs_of so.said) about (sym so.heeds.hubs ∙ one) (sym so.heeds.about ∙ is) in
    let hub = one_hub_line 0 pieces so.said about so.heeds.all hubs in
    let kept = filter is_kept (lines_of o) in
    let parted = sorted_out 0 pieces so.said so.heeds.all in
    let here = map (line_at o) h.spots.items in
    let alone : IsPermutation kept (hub.line ∷ here) =
    subst (λ (l : List (List ℕ)). IsPermutation kept (hub.line ∷ l)) (sym (told_here o h so))
    (subst (λ (l : List (List ℕ)). IsPermutation kept (l ++ entry_lines pieces so.said)) hub.alone parted) in
    let moved : IsPermutation here (map (line_at o) sorted) = IsPermutation-map (line_at o) h.spots.items sorted perm in
    let all = IsPermutation-trans kept (hub.line ∷ here) (hub.line ∷ map (line_at o) sorted) alone (IsPermutation-cons hub.line here (map (line_at o) sorted) moved) in
    record {
      hub_line = hub.line;
      hub = hub.says;
      entries = order.have;
      lines = subst (λ (l : List (List ℕ)). IsPermutation kept (hub.line ∷ l)) order.lines all;
    }

pub comes_to : (o : List ℕ) (h : Heard) (so : HasHeardAll o h) (about : About) (sorted : List Spot) (H : List Entry) (r : AuditEnd) → h.hubs ≡ 1 → h.about ≡ Some about
    → IsPermutation h.spots.items sorted → AreInOrder o sorted H → Judges about H r → AuditsTo o r
comes_to o h so about sorted H (IsLegal entries) one is perm order judged = record {
  within = say_within o so.said so.heeds.all (so.heeds.long ∙ so.whole);
  about = about;
  history = H;
  tells = tells o h so about sorted H one is perm order;
  count = judged.count;
  legal = judged.legal;
}
comes_to o h so about sorted H (Illegal place) one is perm order judged = (
  say_within o so.said so.heeds.all (so.heeds.long ∙ so.whole),
  record {
    about = about;
    history = H;
    tells = tells o h so about sorted H one is perm order;
    place = judged.place;
    before = judged.before;
    illegal = judged.illegal;
  },
)
comes_to o h so about sorted H NoMemory one is perm order judged = tt
comes_to o h so about sorted H (BadLine line) one is perm order judged = absurd judged
comes_to o h so about sorted H (Hubs lines) one is perm order judged = absurd judged
comes_to o h so about sorted H (Twice place) one is perm order judged = absurd judged
comes_to o h so about sorted H (Missing place) one is perm order judged = absurd judged
comes_to o h so about sorted H ReadFault one is perm order judged = absurd judged

pub judged_whole : (about : About) (H : List Entry) (r : AuditEnd) → Judges about H r → IsOfWhole r
judged_whole about H (IsLegal entries) judged = tt
judged_whole about H (Illegal place) judged = tt
judged_whole about H NoMemory judged = tt
judged_whole about H (BadLine line) judged = absurd judged
judged_whole about H (Hubs lines) judged = absurd judged
judged_whole about H (Twice place) judged = absurd judged
judged_whole about H (Missing place) judged = absurd judged
judged_whole about H ReadFault judged = absurd judged
